-- A list that is gone through in place, and one that grows at its end.
use Rattle.std.proofs.Common.{◌≡◌, ℕ, ◌+◌, ◌-◌, ◌≤◌, ◌<◌, nat_lt, ◌&&◌, Bool, true, false, List, [], ◌∷◌, ◌++◌, length, get_or, set, take, drop, map, refl, sym, ap, ◌∙◌, arith, length-append, append_assoc, append-nil}
use Rattle.std.proofs.lemmas.List.{drop_more, drop_all, take_more_set, drop-set-lt, length-set, get_or_append_left}
use Rattle.std.proofs.lemmas.Grind.{drop_more_same}
use Rattle.futex_table.specs.declared.waiter.Waiter.{Waiter}
use Rattle.futex_table.specs.Waiters.{first, others, moved_to}
use Rattle.futex_table.proofs.ListFacts.{first_next, first_past, others_next, others_past, some_left}

-- the first places of a list were gone through: those that are kept stand at its front
pub record Keeps (test : Waiter → Bool) (count : ℕ) (before after : List Waiter) (left kept place : ℕ) : Type 0 where
  pub front : take kept after ++ others test left (drop place before) ≡ others test count before
  pub rest : drop place after ≡ drop place before
  pub number : count + length (first test left (drop place before)) ≡ left + length (first test count before)
  pub behind : kept + count ≡ place + left
  pub low : left ≤ count
  pub long : length after ≡ length before

-- what is left of the list begins with the one at this place
begins : (before after : List Waiter) (place : ℕ) (x : Waiter) → drop place after ≡ drop place before → place < length after → x ≡ get_or after place x → drop place before ≡ x ∷ drop (place + 1) before
begins before after place x rest within read =
    sym rest ∙ drop_more after place x within ∙ ap (λ (y : Waiter). y ∷ drop (place + 1) after) (sym read) ∙ ap (λ (l : List Waiter). x ∷ l) (drop_more_same after before place rest)

pub keeps_start : (test : Waiter → Bool) (count : ℕ) (ws : List Waiter) → Keeps test count ws ws count 0 0
keeps_start test count ws = record { front = refl; rest = refl; number = refl; behind = omega arith; low = omega arith; long = refl }

pub keeps_next : (test : Waiter → Bool) (count : ℕ) (before after : List Waiter) (left kept place : ℕ) (x : Waiter) → Keeps test count before after left kept place → place < length after → x ≡ get_or after place x → (nat_lt 0 left && test x) ≡ true → Keeps test count before after (left - 1) kept (place + 1)
keeps_next test count before after left kept place x k within read is =
    let s = begins before after place x k.rest within read in
    let some = some_left left (test x) is in
    let o : others test left (drop place before) ≡ others test (left - 1) (drop (place + 1) before) = ap (others test left) s ∙ others_next test left x (drop (place + 1) before) is in
    let f : first test left (drop place before) ≡ x ∷ first test (left - 1) (drop (place + 1) before) = ap (first test left) s ∙ first_next test left x (drop (place + 1) before) is in
    let n : length (first test left (drop place before)) ≡ length (first test (left - 1) (drop (place + 1) before)) + 1 = ap length f ∙ omega arith in
    let number = k.number in
    let behind = k.behind in
    let low = k.low in
    record {
      front = ap (λ (l : List Waiter). take kept after ++ l) (sym o) ∙ k.front;
      rest = drop_more_same after before place k.rest;
      number = omega arith;
      behind = omega arith;
      low = omega arith;
      long = k.long;
    }

pub keeps_past : (test : Waiter → Bool) (count : ℕ) (before after : List Waiter) (left kept place : ℕ) (x : Waiter) → Keeps test count before after left kept place → place < length after → x ≡ get_or after place x → (nat_lt 0 left && test x) ≡ false → Keeps test count before (set after kept x) left (kept + 1) (place + 1)
keeps_past test count before after left kept place x k within read is =
    let s = begins before after place x k.rest within read in
    let o : others test left (drop place before) ≡ x ∷ others test left (drop (place + 1) before) = ap (others test left) s ∙ others_past test left x (drop (place + 1) before) is in
    let f : first test left (drop place before) ≡ first test left (drop (place + 1) before) = ap (first test left) s ∙ first_past test left x (drop (place + 1) before) is in
    let n : length (first test left (drop place before)) ≡ length (first test left (drop (place + 1) before)) = ap length f in
    let number = k.number in
    let behind = k.behind in
    let low = k.low in
    let inside : kept < length after = omega arith in
    let earlier : kept < place + 1 = omega arith in
    record {
      front = ap (λ (l : List Waiter). l ++ others test left (drop (place + 1) before)) (take_more_set after kept x inside) ∙ append_assoc (take kept after) (x ∷ []) (others test left (drop (place + 1) before)) ∙ ap (λ (l : List Waiter). take kept after ++ l) (sym o) ∙ k.front;
      rest = drop-set-lt (place + 1) after kept x earlier ∙ drop_more_same after before place k.rest;
      number = omega arith;
      behind = omega arith;
      low = omega arith;
      long = length-set after kept x ∙ k.long;
    }

pub keeps_end : (test : Waiter → Bool) (count : ℕ) (before after : List Waiter) (left kept place : ℕ) → Keeps test count before after left kept place → length before ≤ place → place ≤ length before → (take (length before - (count - left)) after ≡ others test count before) × (count - left ≡ length (first test count before))
keeps_end test count before after left kept place k past within =
    let none = drop_all place before past in
    let n : length (first test left (drop place before)) ≡ 0 = ap (λ (l : List Waiter). length (first test left l)) none in
    let number = k.number in
    let behind = k.behind in
    let low = k.low in
    let size : length before - (count - left) ≡ kept = omega arith in
    (ap (λ (m : ℕ). take m after) size ∙ sym (append-nil (take kept after)) ∙ ap (λ (l : List Waiter). take kept after ++ others test left l) (sym none) ∙ k.front, omega arith)

-- the first places of a list were gone through: those that pass were copied behind its end
pub record Copies (test : Waiter → Bool) (to count : ℕ) (before after : List Waiter) (left place : ℕ) : Type 0 where
  pub more : List Waiter
  pub after_is : after ≡ before ++ more
  pub copied : more ++ map (moved_to to) (first test left (drop place before)) ≡ map (moved_to to) (first test count before)
  pub number : count + length (first test left (drop place before)) ≡ left + length (first test count before)
  pub few : length more + left ≡ count
  pub low : length more ≤ place

pub copies_start : (test : Waiter → Bool) (to count : ℕ) (ws : List Waiter) → Copies test to count ws ws count 0
copies_start test to count ws = record { more = []; after_is = sym (append-nil ws); copied = refl; number = refl; few = omega arith; low = omega arith }

read_before : (before after more : List Waiter) (place : ℕ) (x : Waiter) → after ≡ before ++ more → place < length before → x ≡ get_or after place x → x ≡ get_or before place x
read_before before after more place x is within read = read ∙ ap (λ (l : List Waiter). get_or l place x) is ∙ get_or_append_left before more x place within

pub copies_next : (test : Waiter → Bool) (to count : ℕ) (before after : List Waiter) (left place : ℕ) (x : Waiter) → Copies test to count before after left place → place < length before → x ≡ get_or after place x → (nat_lt 0 left && test x) ≡ true → Copies test to count before (after ++ moved_to to x ∷ []) (left - 1) (place + 1)
copies_next test to count before after left place x k within read is =
    let s = begins before before place x refl within (read_before before after k.more place x k.after_is within read) in
    let some = some_left left (test x) is in
    let f : first test left (drop place before) ≡ x ∷ first test (left - 1) (drop (place + 1) before) = ap (first test left) s ∙ first_next test left x (drop (place + 1) before) is in
    let n : length (first test left (drop place before)) ≡ length (first test (left - 1) (drop (place + 1) before)) + 1 = ap length f ∙ omega arith in
    let long = length-append k.more (moved_to to x ∷ []) in
    let one : length (k.more ++ moved_to to x ∷ []) ≡ length k.more + 1 = omega arith in
    let number = k.number in
    let few = k.few in
    let low = k.low in
    record {
      more = k.more ++ moved_to to x ∷ [];
      after_is = ap (λ (l : List Waiter). l ++ moved_to to x ∷ []) k.after_is ∙ append_assoc before k.more (moved_to to x ∷ []);
      copied = append_assoc k.more (moved_to to x ∷ []) (map (moved_to to) (first test (left - 1) (drop (place + 1) before))) ∙ ap (λ (l : List Waiter). k.more ++ map (moved_to to) l) (sym f) ∙ k.copied;
      number = omega arith;
      few = omega arith;
      low = omega arith;
    }

pub copies_past : (test : Waiter → Bool) (to count : ℕ) (before after : List Waiter) (left place : ℕ) (x : Waiter) → Copies test to count before after left place → place < length before → x ≡ get_or after place x → (nat_lt 0 left && test x) ≡ false → Copies test to count before after left (place + 1)
copies_past test to count before after left place x k within read is =
    let s = begins before before place x refl within (read_before before after k.more place x k.after_is within read) in
    let f : first test left (drop place before) ≡ first test left (drop (place + 1) before) = ap (first test left) s ∙ first_past test left x (drop (place + 1) before) is in
    let n : length (first test left (drop place before)) ≡ length (first test left (drop (place + 1) before)) = ap length f in
    let number = k.number in
    let low = k.low in
    record {
      more = k.more;
      after_is = k.after_is;
      copied = ap (λ (l : List Waiter). k.more ++ map (moved_to to) l) (sym f) ∙ k.copied;
      number = omega arith;
      few = k.few;
      low = omega arith;
    }

pub copies_end : (test : Waiter → Bool) (to count : ℕ) (before after : List Waiter) (left place : ℕ) → Copies test to count before after left place → length before ≤ place → (after ≡ before ++ map (moved_to to) (first test count before)) × (count - left ≡ length (first test count before))
copies_end test to count before after left place k past =
    let none = drop_all place before past in
    let n : length (first test left (drop place before)) ≡ 0 = ap (λ (l : List Waiter). length (first test left l)) none in
    let number = k.number in
    let few = k.few in
    (k.after_is ∙ ap (λ (l : List Waiter). before ++ l) (sym (append-nil k.more) ∙ ap (λ (l : List Waiter). k.more ++ map (moved_to to) (first test left l)) (sym none) ∙ k.copied), omega arith)
