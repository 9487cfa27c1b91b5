-- The least address that is not mapped.
use Rattle.std.proofs.Common.{◌≡◌, ℕ, zero, suc, ◌+◌, ◌-◌, ◌*◌, ◌/◌, ◌%◌, ◌<◌, ◌≤◌, Bool, true, false, if◌then◌else◌, List, length, Option, Some, None, inl, inr, refl, sym, ap, ◌∙◌, arith}
use Rattle.std.proofs.lemmas.Bool.{cases_eq}
use Rattle.guest_pages.specs.declared.page.Table.{Table}
use Rattle.guest_pages.specs.Cells.{Cell}
use Rattle.guest_pages.specs.Faults.{first_unmapped, unmapped_or}
use Rattle.guest_pages.specs.Finding.{is_mapped}
use Rattle.guest_pages.specs.Ranges.{Range, cell_at}
use Rattle.guest_pages.specs.Tables.{cells, held, is_present, page_at}
use Rattle.guest_pages.proofs.FindingFacts.{mapped_here}
use Rattle.guest_pages.proofs.TableFacts.{cell_at_held}

-- ---- from the end of a range down

-- an address that is mapped is passed
or_rest : (address : ℕ) (o : Option Cell) (rest : Option ℕ) → is_mapped o ≡ true → unmapped_or address o rest ≡ rest
or_rest address None rest mapped = cc
or_rest address (Some c) rest mapped = refl

or_here : (address : ℕ) (o : Option Cell) (rest : Option ℕ) → is_mapped o ≡ false → unmapped_or address o rest ≡ Some address
or_here address None rest free = refl
or_here address (Some c) rest free = cc

unmapped_behind : (memory : List Range) (at m n : ℕ) → ((a : ℕ) → at ≤ a → a < at + m → is_mapped (cell_at memory a) ≡ true) → first_unmapped memory at (m + n) ≡ first_unmapped memory (at + m) n
unfolding first_unmapped
unmapped_behind memory at zero n mapped =
    let e : at ≡ at + 0 = omega arith in
    let k : 0 + n ≡ n = omega arith in
    ap (first_unmapped memory at) k ∙ ap (λ (q : ℕ). first_unmapped memory q n) e
unmapped_behind memory at (suc m) n mapped =
    let e : at + 1 + m ≡ at + suc m = omega arith in
    let k : suc m + n ≡ suc (m + n) = omega arith in
    ap (first_unmapped memory at) k
    ∙ or_rest at (cell_at memory at) (first_unmapped memory (at + 1) (m + n)) (mapped at (omega arith) (omega arith))
    ∙ unmapped_behind memory (at + 1) m n (λ a low high. mapped a (omega arith) (omega arith))
    ∙ ap (λ (q : ℕ). first_unmapped memory q n) e

unmapped_here : (memory : List Range) (at n : ℕ) → 0 < n → is_mapped (cell_at memory at) ≡ false → first_unmapped memory at n ≡ Some at
unfolding first_unmapped
unmapped_here memory at zero some free = absurd (omega arith)
unmapped_here memory at (suc n) some free = or_here at (cell_at memory at) (first_unmapped memory (at + 1) n) free

-- what is found among the pages from one on, by what is found behind some that are alike
pub unmapped_more : (tables : List Table) (page low high : ℕ) (mapped : Bool) (found : Option ℕ) → length tables ≤ 8192 → low < page → page ≤ high → ((n : ℕ) → low ≤ n → n < page → is_present (page_at tables n) ≡ mapped) → found ≡ first_unmapped (held tables) (4096 * page) (4096 * (high - page)) → (if mapped then found else Some (4096 * low)) ≡ first_unmapped (held tables) (4096 * low) (4096 * (high - low))
unmapped_more tables page low high true found small some order alike is =
    let at : 4096 * low + 4096 * (page - low) ≡ 4096 * page = omega arith in
    let size : 4096 * (high - low) ≡ 4096 * (page - low) + 4096 * (high - page) = omega arith in
    is
    ∙ ap (λ (q : ℕ). first_unmapped (held tables) q (4096 * (high - page))) (sym at)
    ∙ sym (unmapped_behind (held tables) (4096 * low) (4096 * (page - low)) (4096 * (high - page)) (λ a from to. mapped_here tables a small ∙ alike (a / 4096) (omega arith) (omega arith)))
    ∙ ap (first_unmapped (held tables) (4096 * low)) (sym size)
unmapped_more tables page low high false found small some order alike is =
    let here : 4096 * low / 4096 ≡ low = omega arith in
    sym (unmapped_here (held tables) (4096 * low) (4096 * (high - low)) (omega arith)
    (mapped_here tables (4096 * low) small ∙ ap (λ (n : ℕ). is_present (page_at tables n)) here ∙ alike low (omega arith) some))

-- none is found where there are no pages
pub unmapped_nowhere : (memory : List Range) (at n : ℕ) → n ≡ 0 → None ≡ first_unmapped memory at n
unfolding first_unmapped
unmapped_nowhere memory at n none = rw none refl

pub unmapped_all : (memory : List Range) (found : Option ℕ) (first page at count size : ℕ) → found ≡ first_unmapped memory (4096 * page) (4096 * size) → 4096 * page ≡ at → size ≡ count → found ≡ first_unmapped memory at (4096 * count)
unmapped_all memory found first page at count size is at_is size_is =
    is ∙ ap (λ (q : ℕ). first_unmapped memory q (4096 * size)) at_is ∙ ap (λ (n : ℕ). first_unmapped memory at (4096 * n)) size_is

-- ---- where none is found

rest_of : (address : ℕ) (o : Option Cell) (rest : Option ℕ) → unmapped_or address o rest ≡ None → (o ≡ None → ⊥) × (rest ≡ None)
rest_of address None rest h = absurd (some_none address h)
  where
    some_none : (a : ℕ) → Some a ≡ None → ⊥
    some_none a e = cc
rest_of address (Some c) rest h = (some_none c, h)
  where
    some_none : (d : Cell) → Some d ≡ None → ⊥
    some_none d e = cc

-- where none is not mapped, each is mapped
pub mapped_at : (memory : List Range) (at n i : ℕ) → first_unmapped memory at n ≡ None → at ≤ i → i < at + n → cell_at memory i ≡ None → ⊥
unfolding first_unmapped
mapped_at memory at zero i none low high = absurd (omega arith)
mapped_at memory at (suc n) i none low high =
    let both = rest_of at (cell_at memory at) (first_unmapped memory (at + 1) n) none in
    elim (cases_eq i at) [
      | inl same ↦ λ absent. both.0 (ap (cell_at memory) (sym same) ∙ absent)
      | inr other ↦ mapped_at memory (at + 1) n i both.1 (omega arith) (omega arith)
    ]

pub mapped_cells : (tables : List Table) (at count : ℕ) → length tables ≤ 8192 → at % 4096 ≡ 0 → first_unmapped (held tables) at (4096 * count) ≡ None → (q : ℕ) → at / 4096 ≤ q → q < at / 4096 + count → cells tables (4096 * q) ≡ None → ⊥
mapped_cells tables at count small aligned none q low high absent =
    mapped_at (held tables) at (4096 * count) (4096 * q) none (omega arith) (omega arith) (cell_at_held tables (4096 * q) small ∙ absent)
