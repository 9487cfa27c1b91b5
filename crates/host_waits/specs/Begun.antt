-- What comes of a call at once: its answer, or a wait.
-- Source: intro(2): a refusal is the negated number of its error.
use Rattle.std.specs.Prelude.{ℕ, if◌then◌else◌, Bool, List, [], ◌∷◌}
use Rattle.std.specs.List.{list_any}
use Rattle.host_calls.specs.Answers.{Answered, Refusal, refuses, unreserved}
use Rattle.host_calls.specs.declared.host.Host.{Host}
use Rattle.host_calls.specs.Host.{shared_of}
use Rattle.host_calls.specs.Shared.{Shared}
use Rattle.host_waits.specs.declared.beginning.Begun.{Begun}
use Rattle.host_waits.specs.declared.beginning.Begun.TheVariants.{Answer, Waits}
use Rattle.host_waits.specs.Waits.{Wait}

pub record Entered : Type 0 where
  pub shared : Shared
  pub begun : Begun

abbrev pub answering : Answered → Entered
answering answered = record { shared = answered.shared; begun = Answer answered.answer }

abbrev pub waiting : Wait → Shared → Entered
waiting wait shared = record { shared = shared; begun = Waits wait }

-- what came of a call, and what the system has afterwards
abbrev pub came : Begun → Host → Entered
came begun host = record { shared = shared_of host; begun = begun }

-- the first of some refusals whose test holds, else what comes of the call
abbrev pub entered_unless : List Refusal → Shared → Entered → Entered
entered_unless [] shared entered = entered
entered_unless (first ∷ refusals) shared entered =
    if first.holds then answering (refuses first.errno shared) else entered_unless refusals shared entered

-- some refusal's test holds
abbrev pub any_holds : List Refusal → Bool
any_holds refusals = list_any (λ refusal. refusal.holds) refusals

-- a call ends its thread's reservation
abbrev pub let_go : ℕ → Entered → Entered
let_go thread entered = record entered { shared = unreserved thread entered.shared }
