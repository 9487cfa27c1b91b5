-- Memory that is made from cells: what stands at an address of it.
use Rattle.std.proofs.Common.{◌≡◌, ℕ, zero, suc, ◌+◌, ◌-◌, ◌^◌, ◌<◌, ◌≤◌, Bool, true, false, if◌then◌else◌, nat_lt, List, [], ◌∷◌, get_or, Option, Some, None, refl, sym, ap, ◌∙◌, arith}
use Rattle.std.proofs.lemmas.Bool.Decides.{nat_tests}
use Rattle.guest_pages.specs.Cells.{Cell, cell}
use Rattle.guest_pages.specs.Operations.{with_byte}
use Rattle.guest_pages.specs.Ranges.{Range, within, cell_at, with_cell, ranges_from, ranges_of}
use Rattle.guest_pages.proofs.Reading.{IsKept, reads_back}
use Rattle.guest_pages.proofs.TableFacts.{cell_kept}

-- cells that are equal in a range make equal ranges of it
ranges_alike : (f g : ℕ → Option Cell) (a n : ℕ) → ((k : ℕ) → a ≤ k → k < a + n → f k ≡ g k) → ranges_from f a n ≡ ranges_from g a n
unfolding ranges_from
ranges_alike f g a zero same = refl
ranges_alike f g a (suc n) same =
    ap (λ (o : Option Cell). with_cell a o (ranges_from f (a + 1) n)) (same a (omega arith) (omega arith))
    ∙ ap (with_cell a (g a)) (ranges_alike f g (a + 1) n (λ k low high. same k (omega arith) (omega arith)))

-- the cells of user memory alone
user : (ℕ → Option Cell) → ℕ → Option Cell
user f k = if nat_lt k (2 ^ 38) then f k else None

user_below : (f : ℕ → Option Cell) (k : ℕ) → k < 2 ^ 38 → user f k ≡ f k
unfolding user
user_below f k below =
    let e : nat_lt k (2 ^ 38) ≡ true = grind (arith, nat_tests) in
    rw e refl

user_past : (f : ℕ → Option Cell) (k : ℕ) → 2 ^ 38 ≤ k → user f k ≡ None
unfolding user
user_past f k past =
    let e : nat_lt k (2 ^ 38) ≡ false = grind (arith, nat_tests) in
    rw e refl

kept_if : (b : Bool) (o : Option Cell) → IsKept o → IsKept (if b then o else None)
kept_if true o kept = kept
kept_if false o kept = tt

user_kept : (f : ℕ → Option Cell) (k : ℕ) → IsKept (f k) → IsKept (user f k)
unfolding user
user_kept f k kept = kept_if (nat_lt k (2 ^ 38)) (f k) kept

-- what stands at an address of user memory is the cell
pub reads_below : (f : ℕ → Option Cell) (b : ℕ) → ((k : ℕ) → IsKept (f k)) → b < 2 ^ 38 → cell_at (ranges_of f) b ≡ f b
unfolding ranges_of
reads_below f b kept below =
    ap (λ (m : List Range). cell_at m b) (ranges_alike f (user f) 0 (2 ^ 38) (λ k low high. sym (user_below f k (omega arith))))
    ∙ (reads_back (user f) b (λ k. user_kept f k (kept k)) (λ k past. user_past f k past)
    ∙ user_below f b below)

-- nothing stands past user memory
pub reads_past : (f : ℕ → Option Cell) (b : ℕ) → ((k : ℕ) → IsKept (f k)) → 2 ^ 38 ≤ b → cell_at (ranges_of f) b ≡ None
unfolding ranges_of
reads_past f b kept past =
    ap (λ (m : List Range). cell_at m b) (ranges_alike f (user f) 0 (2 ^ 38) (λ k low high. sym (user_below f k (omega arith))))
    ∙ (reads_back (user f) b (λ k. user_kept f k (kept k)) (λ k high. user_past f k high)
    ∙ user_past f b past)

pub choice_kept : (b : Bool) (x y : Option Cell) → IsKept x → IsKept y → IsKept (if b then x else y)
choice_kept true x y kept-x kept-y = kept-x
choice_kept false x y kept-x kept-y = kept-y

-- each cell of ranges without rights holds 0
pub ranges_kept : (memory : List Range) (a : ℕ) → IsKept (cell_at memory a)
unfolding cell_at
ranges_kept [] a = tt
ranges_kept (range ∷ ranges) a =
    choice_kept (within range.start range.length a) (Some (cell range.rights (get_or range.bytes (a - range.start) 0))) (cell_at ranges a)
    (cell_kept range.rights (get_or range.bytes (a - range.start) 0)) (ranges_kept ranges a)

pub byte_kept : (byte : ℕ) (o : Option Cell) → IsKept (with_byte byte o)
byte_kept byte None = tt
byte_kept byte (Some c) = cell_kept c.rights byte
