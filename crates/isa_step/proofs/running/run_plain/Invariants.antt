use Rattle.std.specs.List.{All}
use Rattle.guest_pages.specs.Apart.{IsApart, KeepsCode}
use Rattle.isa_step.specs.Known.{IsKnown}
use Rattle.isa_step.specs.Running.{PlainRun}
use Rattle.isa_step.proofs.running.run_plain.Given as goal

abbrev pub invariant-loop-made : goal.invariant-loop-made
invariant-loop-made l = record {
  ran : PlainRun l.made l.thread l.initial.regs l.initial.memory l.initial.held l.regs l.memory l.held;
  code : KeepsCode l.initial.memory l.memory;
  apart : IsApart l.memory;
  known : All (IsKnown l.memory) l.decoder;
}
