-- The deadlines that stand, in the order of their times, and what is done with them.
-- Source: clock_nanosleep(2), `TIMER_ABSTIME`; setitimer(2): a new time takes the place of the old one. The order of equal
-- deadlines is the project's own.
use Rattle.std.specs.Prelude.{ℕ, ◌==◌, nat_lt, Bool, true, false, not, if◌then◌else◌, List, [], ◌∷◌, filter, Option, Some, None}
use Rattle.time_line.specs.declared.timer.Deadline.{Deadline}
use Rattle.time_line.specs.declared.timer.Timer.{Timer}
use Rattle.time_line.specs.declared.timer.Timer.TheVariants.{Thread, Alarm}

abbrev pub same : Timer → Timer → Bool
same (Thread one) (Thread other) = one == other
same (Thread one) Alarm = false
same Alarm (Thread other) = false
same Alarm Alarm = true

-- the deadline is the timer's
abbrev pub is_of : Timer → Deadline → Bool
is_of who it = same it.who who

-- when the timer's deadline is, if it has one
abbrev pub deadline : Timer → List Deadline → Option ℕ
deadline who [] = None
deadline who (it ∷ line) = if is_of who it then Some it.at else deadline who line

-- the timer has none
abbrev pub cleared : Timer → List Deadline → List Deadline
cleared who line = filter (λ it. not (is_of who it)) line

-- one more stands before the first that is later
abbrev pub placed : Deadline → List Deadline → List Deadline
placed one [] = one ∷ []
placed one (it ∷ line) = if nat_lt one.at it.at then one ∷ it ∷ line else it ∷ placed one line

-- the timer has this one, and no other
abbrev pub set_to : Timer → ℕ → List Deadline → List Deadline
set_to who at line = placed (record { who = who; at = at }) (cleared who line)

-- the first of all
abbrev pub least : List Deadline → Option ℕ
least [] = None
least (it ∷ line) = Some it.at
