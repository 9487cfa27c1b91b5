-- What the code's host stands for. Marks on signals are the emulator's alone, and no part of it.
use Rattle.std.specs.Prelude.{ℤ}
use Rattle.host_calls.specs.declared.host.Host.{Host}
use Rattle.host_calls.specs.Answers.{Answered}
use Rattle.host_calls.specs.Shared.{Shared}

abbrev pub shared_of : Host → Shared
shared_of host = record {
  memory = host.pages;
  held = host.held;
  files = host.files;
  futexes = host.futexes;
  queue = host.pending.queue;
  program_break = host.program_break;
  drawn = host.drawn;
  clock = host.clock;
}

-- the answer, and what the system has afterwards
abbrev pub gives : ℤ → Host → Answered
gives answer host = record { shared = shared_of host; answer = answer }
