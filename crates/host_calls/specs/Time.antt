-- Time.
-- Source: clock_gettime(2); that both clocks are the same and begin at 0 is the project's own.
use Rattle.std.specs.Prelude.{ℕ, ◌/◌, ◌%◌, ◌==◌, not, ◌||◌, ◌++◌, pos, List, [], ◌∷◌}
use Rattle.byteorder.specs.Endian.{little_bytes}
use Rattle.file_tree.specs.declared.errno.Errno.TheVariants.{EINVAL}
use Rattle.host_calls.specs.Answers.{Answered, Refusal, refusal, stored, unless}
use Rattle.host_calls.specs.Shared.{Shared}

-- seconds and nanoseconds
abbrev pub time_bytes : ℕ → List ℕ
time_bytes time = little_bytes 8 (time / 1000000000) ++ little_bytes 8 (time % 1000000000)

-- clock_gettime(2): of the clocks 0 and 1
abbrev pub clock_refusals : ℕ → List Refusal
clock_refusals clock = refusal (not (clock == 0 || clock == 1)) EINVAL ∷ []

unfoldable pub clock_gettime : ℕ → ℕ → ℕ → Shared → Answered
clock_gettime thread clock at shared =
    unless (clock_refusals clock) shared (stored thread at (time_bytes shared.clock) (pos 0) shared)
