use Rattle.std.proofs.Common.{sym, ◌∙◌, arith}
use Rattle.elf_file.specs.Fields.{e_phnum}
use Rattle.elf_file.specs.Headers.{runs_entry}
use Rattle.elf_file.proofs.BelowFacts.{any_below_found}
use Rattle.elf_file.proofs.entry_check.any_runs_entry.Goals as goal

pub returns-then-runs_entry-clause-runs : goal.returns-then-runs_entry-clause-runs
returns-then-runs_entry-clause-runs c =
    sym (any_below_found (runs_entry c.args.bytes.now) (e_phnum c.args.bytes.now) c.loop-index.index (omega arith) (sym c.runs_entry.ensures.runs ∙ c.if-runs_entry.true))
