-- What is known where an event happened: a row of a thread that lives was done and put back, and what isn't due any more was
-- dropped.
use Rattle.std.proofs.Common.{◌≡◌, ℕ, Bool, true, false, cond, is_none, Option, Some, None, refl, sym}
use Rattle.std.specs.Option.{option_map}
use Rattle.guest_core.specs.declared.events.Event.TheVariants.{Step}
use Rattle.guest_core.specs.Event.{acted, event_after, row_done, settled, stepped, ticked}
use Rattle.guest_core.specs.Machine.{Machine, Thread}
use Rattle.guest_core.specs.Rows.{Row, done, row_of}
use Rattle.guest_core.specs.System.{context_of, found, put}

pub record Happened (id : ℕ) (machine next : Machine) : Type 0 where
  pub lives : machine.end ≡ None
  pub thread : Thread
  pub here : found id (ticked machine).members ≡ Some thread
  pub row : Row
  pub fits : row_of (context_of id thread (ticked machine)) ≡ Some row
  pub next_is : next ≡ settled (put id (done row (context_of id thread (ticked machine))) (ticked machine))

row_by : (row : Option Row) (thread : Thread) (id : ℕ) (machine next : Machine) → machine.end ≡ None → found id (ticked machine).members ≡ Some thread → row_of (context_of id thread (ticked machine)) ≡ row → option_map settled (row_done id thread (ticked machine) row) ≡ Some next → Happened id machine next
row_by None thread id machine next lives here fits is = cc
row_by (Some row) thread id machine next lives here fits is = record {
  lives = lives;
  thread = thread;
  here = here;
  row = row;
  fits = fits;
  next_is = (let same : settled (put id (done row (context_of id thread (ticked machine))) (ticked machine)) ≡ next = cc in sym same);
}

thread_by : (thread : Option Thread) (id : ℕ) (machine next : Machine) → machine.end ≡ None → found id (ticked machine).members ≡ thread → option_map settled (stepped id (ticked machine) thread) ≡ Some next → Happened id machine next
thread_by None id machine next lives here is = cc
thread_by (Some thread) id machine next lives here is =
    row_by (row_of (context_of id thread (ticked machine))) thread id machine next lives here refl is

none_of : {X : Type 0} (option : Option X) → is_none option ≡ true → option ≡ None
none_of None is = refl
none_of (Some x) is = cc

lives_by : (lives : Bool) (id : ℕ) (machine next : Machine) → is_none machine.end ≡ lives → cond lives (option_map settled (acted (Step id) machine)) None ≡ Some next → Happened id machine next
unfolding acted
lives_by false id machine next alive is = cc
lives_by true id machine next alive is =
    thread_by (found id (ticked machine).members) id machine next (none_of machine.end alive) refl is

pub happened : (id : ℕ) (machine next : Machine) → event_after machine (Step id) ≡ Some next → Happened id machine next
unfolding event_after
happened id machine next is = lives_by (is_none machine.end) id machine next refl is
