-- A timer has one deadline at most, the deadlines rise, and the first is the least.
use Rattle.std.proofs.Common.{◌≡◌, ℕ, ◌≤◌, nat_lt, Bool, true, false, not, if◌then◌else◌, List, [], ◌∷◌, Option, Some, None, refl, sym, ap, ◌∙◌, arith}
use Rattle.std.proofs.lemmas.Bool.{ltb-true, ltb-false}
use Rattle.time_line.specs.declared.timer.Deadline.{Deadline}
use Rattle.time_line.specs.declared.timer.Timer.{Timer}
use Rattle.time_line.specs.Line.{same, is_of, deadline, cleared, placed, least, set_to}
use Rattle.time_line.specs.Sound.{AreFrom, IsSound, IsLeast}
use Rattle.time_line.proofs.LineFacts.{same_true, same_self, deadline_cleared, deadline_placed, none_of, none_kept, cleared_none}

-- ---- none before a time

from_later : (low high : ℕ) (line : List Deadline) → low ≤ high → AreFrom high line → AreFrom low line
from_later low high [] h from = tt
from_later low high (it ∷ line) h from = ((let first = from.0 in omega arith), from_later low high line h from.1)

from_kept : (b : Bool) (at : ℕ) (it : Deadline) (line : List Deadline) → at ≤ it.at → AreFrom at line → AreFrom at (if b then it ∷ line else line)
from_kept true at it line h from = (h, from)
from_kept false at it line h from = from

from_cleared : (at : ℕ) (who : Timer) (line : List Deadline) → AreFrom at line → AreFrom at (cleared who line)
from_cleared at who [] from = tt
from_cleared at who (it ∷ line) from = from_kept (not (is_of who it)) at it (cleared who line) from.0 (from_cleared at who line from.1)

from_put : (b : Bool) (at : ℕ) (one it : Deadline) (p line : List Deadline) → at ≤ one.at → at ≤ it.at → AreFrom at line → AreFrom at p → AreFrom at (if b then one ∷ it ∷ line else it ∷ p)
from_put true at one it p line h k from more = (h, (k, from))
from_put false at one it p line h k from more = (k, more)

from_placed : (at : ℕ) (one : Deadline) (line : List Deadline) → at ≤ one.at → AreFrom at line → AreFrom at (placed one line)
from_placed at one [] h from = (h, tt)
from_placed at one (it ∷ line) h from = from_put (nat_lt one.at it.at) at one it (placed one line) line h from.0 from.1 (from_placed at one line h from.1)

-- ---- what the calls keep

sound_kept : (b : Bool) (it : Deadline) (line : List Deadline) → deadline it.who line ≡ None → AreFrom it.at line → IsSound line → IsSound (if b then it ∷ line else line)
sound_kept true it line none from sound = (none, from, sound)
sound_kept false it line none from sound = sound

pub sound_cleared : (who : Timer) (line : List Deadline) → IsSound line → IsSound (cleared who line)
sound_cleared who [] sound = tt
sound_cleared who (it ∷ line) sound =
    sound_kept (not (is_of who it)) it (cleared who line)
    (deadline_cleared who it.who line ∙ none_kept (same who it.who) (deadline it.who line) sound.0) (from_cleared it.at who line sound.1) (sound_cleared who line sound.2)

sound_put : (b : Bool) (one it : Deadline) (p line : List Deadline) → nat_lt one.at it.at ≡ b → deadline one.who (it ∷ line) ≡ None → deadline it.who p ≡ None → AreFrom it.at line → (it.at ≤ one.at → AreFrom it.at p) → IsSound (it ∷ line) → IsSound p → IsSound (if b then one ∷ it ∷ line else it ∷ p)
sound_put true one it p line is none other from more sound placed =
    let low = ltb-true one.at it.at is in
    (none, ((omega arith), from_later one.at it.at line (omega arith) from), sound)
sound_put false one it p line is none other from more sound placed = (other, more (ltb-false one.at it.at is), placed)

other_kept : (b : Bool) (at : ℕ) (o : Option ℕ) → b ≡ false → o ≡ None → (if b then Some at else o) ≡ None
other_kept true at o is h = absurd (let f : ⊥ = cc in f)
other_kept false at o is h = h

turned : (b n : Bool) → b ≡ false → (n ≡ true → b ≡ true) → n ≡ false
turned b true is both = absurd (let f : ⊥ = (let one = both refl in cc) in f)
turned b false is both = refl

pub sound_placed : (one : Deadline) (line : List Deadline) → deadline one.who line ≡ None → IsSound line → IsSound (placed one line)
sound_placed one [] none sound = (refl, tt, tt)
sound_placed one (it ∷ line) none sound =
    let both = none_of one.who it line none in
    let apart : same one.who it.who ≡ false = turned (is_of one.who it) (same one.who it.who) both.0 (λ is. ap (λ (t : Timer). same t one.who) (sym (same_true one.who it.who is)) ∙ same_self one.who) in
    sound_put (nat_lt one.at it.at) one it (placed one line) line refl none
    (deadline_placed one it.who line both.1 ∙ other_kept (same one.who it.who) one.at (deadline it.who line) apart sound.0)
    sound.1 (λ h. from_placed it.at one line h sound.1) sound (sound_placed one line both.1 sound.2)

pub sound_set : (who : Timer) (at : ℕ) (line : List Deadline) → IsSound line → IsSound (set_to who at line)
sound_set who at line sound = sound_placed (record { who = who; at = at }) (cleared who line) (cleared_none who line) (sound_cleared who line sound)

-- ---- the least

low_by : (b : Bool) (at first other : ℕ) (o : Option ℕ) → at ≤ first → (o ≡ Some other → at ≤ other) → (if b then Some first else o) ≡ Some other → at ≤ other
low_by true at first other o h more is = (let e : first ≡ other = cc in omega arith)
low_by false at first other o h more is = more is

low_of : (at : ℕ) (line : List Deadline) → AreFrom at line → (who : Timer) (other : ℕ) → deadline who line ≡ Some other → at ≤ other
low_of at [] from who other is = absurd (let f : ⊥ = cc in f)
low_of at (it ∷ line) from who other is = low_by (is_of who it) at it.at other (deadline who line) from.0 (low_of at line from.1 who other) is

pub least_of : (line : List Deadline) → IsSound line → IsLeast (least line) line
least_of [] sound = λ who. refl
least_of (it ∷ line) sound = record {
  stands = (it.who, ap (λ (b : Bool). if b then Some it.at else deadline it.who line) (same_self it.who));
  lowest = λ who other is. low_by (is_of who it) it.at it.at other (deadline who line) (omega arith) (low_of it.at line sound.1 who other) is;
}
