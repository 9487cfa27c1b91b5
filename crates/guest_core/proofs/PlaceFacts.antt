-- Ids that rise: where one stands.
use Rattle.std.proofs.Common.{◌≡◌, ◌≢◌, ℕ, zero, suc, ◌+◌, ◌<◌, ◌≤◌, ◌==◌, false, inl, inr, sym, subst, List, [], ◌∷◌, map, length, get_or, None, refl, arith}
use Rattle.std.proofs.lemmas.Bool.{cases_lt}
use Rattle.std.proofs.lemmas.Bool.Decides.{nat_tests}
use Rattle.guest_core.specs.declared.thread.Thread as code
use Rattle.guest_core.specs.Kept.{IdsRise}
use Rattle.guest_core.specs.State.{member_of}
use Rattle.guest_core.specs.System.{found}
use Rattle.host_calls.specs.Marks.{Marked}

from_low : (threads : List code.Thread) (pending : Marked) (low i : ℕ) (d : code.Thread) → IdsRise low (map (member_of pending) threads) → i < length threads → low ≤ (get_or threads i d).id
from_low [] pending low i d rise within = absurd (omega (arith, within))
from_low (thread ∷ threads) pending low zero d rise within = rise.0
from_low (thread ∷ threads) pending low (suc i) d rise within =
    let later = from_low threads pending (thread.id + 1) i d rise.1 (omega (arith, within)) in
    omega (arith, rise.0, later)

pub rising : (threads : List code.Thread) (pending : Marked) (low i j : ℕ) (d : code.Thread) → IdsRise low (map (member_of pending) threads) → i < j → j < length threads → (get_or threads i d).id < (get_or threads j d).id
rising [] pending low i j d rise less within = absurd (omega (arith, within))
rising (thread ∷ threads) pending low i zero d rise less within = absurd (omega (arith, less))
rising (thread ∷ threads) pending low zero (suc j) d rise less within =
    let later = from_low threads pending (thread.id + 1) j d rise.1 (omega (arith, within)) in
    omega (arith, later)
rising (thread ∷ threads) pending low (suc i) (suc j) d rise less within =
    rising threads pending (thread.id + 1) i j d rise.1 (omega (arith, less)) (omega (arith, within))

pub rise_any : (threads : List code.Thread) (pending other : Marked) (low : ℕ) → IdsRise low (map (member_of pending) threads) → IdsRise low (map (member_of other) threads)
rise_any [] pending other low rise = tt
rise_any (thread ∷ threads) pending other low rise = (rise.0, rise_any threads pending other (thread.id + 1) rise.1)

other : (a b : ℕ) → a ≢ b → (a == b) ≡ false
other a b apart = grind (arith, nat_tests, apart)

-- where no index has the id, no thread has
pub none_has : (threads : List code.Thread) (pending : Marked) (id : ℕ) → ((k : ℕ) (d : code.Thread) → k < length threads → (get_or threads k d).id ≢ id) → found id (map (member_of pending) threads) ≡ None
none_has [] pending id none = refl
none_has (thread ∷ threads) pending id none =
    rw (other thread.id id (none 0 thread (omega arith))) (none_has threads pending id (λ k d within. none (suc k) d (omega (arith, within))))

-- ---- a search between two bounds

pub any_default : (threads : List code.Thread) (i : ℕ) (d e : code.Thread) → i < length threads → get_or threads i d ≡ get_or threads i e
any_default [] i d e within = absurd (omega (arith, within))
any_default (thread ∷ threads) zero d e within = refl
any_default (thread ∷ threads) (suc i) d e within = any_default threads i d e (omega (arith, within))

pub below_more : (threads : List code.Thread) (pending : Marked) (k middle id : ℕ) (d e : code.Thread) → IdsRise 0 (map (member_of pending) threads) → k < middle + 1 → middle < length threads → (get_or threads middle e).id < id → (get_or threads k d).id < id
below_more threads pending k middle id d e rise less within at =
    let here : (get_or threads middle d).id < id = subst (λ (t : code.Thread). t.id < id) (any_default threads middle e d within) at in
    elim (cases_lt k middle) [
      | inl under ↦ let lower = rising threads pending 0 k middle d rise under within in omega (arith, lower, here)
      | inr past ↦ let same : k ≡ middle = omega (arith, less, past) in subst (λ (n : ℕ). (get_or threads n d).id < id) (sym same) here
    ]

pub above_more : (threads : List code.Thread) (pending : Marked) (k middle id : ℕ) (d e : code.Thread) → IdsRise 0 (map (member_of pending) threads) → middle ≤ k → k < length threads → id < (get_or threads middle e).id → id < (get_or threads k d).id
above_more threads pending k middle id d e rise more within at =
    let here : id < (get_or threads middle d).id = subst (λ (t : code.Thread). id < t.id) (any_default threads middle e d (omega (arith, more, within))) at in
    elim (cases_lt middle k) [
      | inl over ↦ let higher = rising threads pending 0 middle k d rise over within in omega (arith, higher, here)
      | inr past ↦ let same : middle ≡ k = omega (arith, more, past) in subst (λ (n : ℕ). id < (get_or threads n d).id) same here
    ]

pub none_between : (threads : List code.Thread) (pending : Marked) (low high id : ℕ) → high ≤ low → ((k : ℕ) (d : code.Thread) → k < low → (get_or threads k d).id < id) → ((k : ℕ) (d : code.Thread) → high ≤ k → k < length threads → id < (get_or threads k d).id) → found id (map (member_of pending) threads) ≡ None
none_between threads pending low high id met below above =
    none_has threads pending id (λ k d within same. elim (cases_lt k low) [
      | inl under ↦ let less = below k d under in omega (arith, less, same)
      | inr past ↦ let more = above k d (omega (arith, met, past)) within in omega (arith, more, same)
    ])
