-- The cells after the pages of a range are changed one by one.
use Rattle.std.proofs.Common.{◌≡◌, ◌≢◌, ◌⊎◌, ℕ, zero, suc, ◌+◌, ◌-◌, ◌*◌, ◌/◌, ◌%◌, ◌^◌, ◌<◌, ◌≤◌, Bool, true, false, not, ◌||◌, if◌then◌else◌, List, [], length, Option, Some, None, slice_get, inl, inr, refl, sym, ap, ◌∙◌, arith}
use Rattle.std.proofs.lemmas.Bool.{cases_lt, cases_eq}
use Rattle.guest_pages.specs.declared.rights.Rights.{Rights}
use Rattle.guest_pages.specs.declared.page.Page.{Page}
use Rattle.guest_pages.specs.declared.page.Table.{Table}
use Rattle.guest_pages.specs.declared.page.Page.TheVariants.{Absent, Bare, Held}
use Rattle.guest_pages.specs.Cells.{Cell, cell, has_none}
use Rattle.guest_pages.specs.Counting.{rights_of, some_right, one_if, count_pages}
use Rattle.guest_pages.specs.Mapping.{HasMark, room_of, with_nothing, with_zeros, with_new_rights}
use Rattle.guest_pages.specs.Operations.{placed, protected, unmapped, with_rights, stored_pages}
use Rattle.guest_pages.specs.Ranges.{Range, within, ranges_of}
use Rattle.guest_pages.specs.Tables.{bare_if, cell_in, mark_at, nothing, page_at, cells, held, right_in, AreMarked, IsSound}
use Rattle.guest_pages.specs.Finding.{is_mapped}
use Rattle.guest_pages.proofs.BitFacts.{bits_nowhere, chosen_in, chosen_out}
use Rattle.guest_pages.proofs.PageFacts.{page_without_room}
use Rattle.guest_pages.proofs.WriteFacts.{either_mapped, marked_by, marked_is, marked_same}
use Rattle.guest_pages.proofs.Counting.{IsPaged, stored_changed, count_alike, count_same, count_at_most, count_split, stored_is, tables_paged}
use Rattle.guest_pages.proofs.TableFacts.{same_ranges, cell_at_held}
use Rattle.guest_pages.proofs.RightsFacts.{rights_by_fields, within_inside, within_outside}

-- cells of one kind in a range, of another outside
unfoldable pub ranged : ℕ → ℕ → (ℕ → Option Cell) → (ℕ → Option Cell) → ℕ → Option Cell
ranged start count g f address = if within start count address then g address else f address

pub ranged_in : (start count : ℕ) (g f : ℕ → Option Cell) (a : ℕ) → start ≤ a → a < start + count → ranged start count g f a ≡ g a
unfolding ranged
ranged_in start count g f a low high = rw (within_inside start count a low high) refl

pub ranged_out : (start count : ℕ) (g f : ℕ → Option Cell) (a : ℕ) → (a < start) ⊎ (start + count ≤ a) → ranged start count g f a ≡ f a
unfolding ranged
ranged_out start count g f a out = rw (within_outside start count a out) refl

pub ranged_none : (start : ℕ) (g f : ℕ → Option Cell) (a : ℕ) → ranged start 0 g f a ≡ f a
ranged_none start g f a =
    ranged_out start 0 g f a (elim (cases_lt a start) [ inl below ↦ inl below | inr from ↦ inr (omega arith) ])

-- one more page is changed
pub ranged_more : (f g : ℕ → Option Cell) (tables tables-2 : List Table) (first i : ℕ) (page : Page) → ((a : ℕ) → cells tables a ≡ ranged (4096 * first) (4096 * i) g f a) → page_at tables-2 (first + i) ≡ page → ((n : ℕ) → n ≢ first + i → page_at tables-2 n ≡ page_at tables n) → ((a : ℕ) → a / 4096 ≡ first + i → cell_in page (a % 4096) ≡ g a) → (a : ℕ) → cells tables-2 a ≡ ranged (4096 * first) (4096 * (i + 1)) g f a
unfolding cells
ranged_more f g tables tables-2 first i page before new others kind a =
    elim (cases_eq (a / 4096) (first + i)) [
      | inl here ↦
          ap (λ (n : ℕ). cell_in (page_at tables-2 n) (a % 4096)) here
          ∙ (ap (λ (p : Page). cell_in p (a % 4096)) new
          ∙ (kind a here
          ∙ sym (ranged_in (4096 * first) (4096 * (i + 1)) g f a (omega arith) (omega arith))))
      | inr apart ↦
          ap (λ (p : Page). cell_in p (a % 4096)) (others (a / 4096) apart)
          ∙ (before a
          ∙ elim (cases_lt a (4096 * first)) [
            | inl below ↦
                ranged_out (4096 * first) (4096 * i) g f a (inl below)
                ∙ sym (ranged_out (4096 * first) (4096 * (i + 1)) g f a (inl below))
            | inr from ↦ elim (cases_lt a (4096 * first + 4096 * i)) [
              | inl inside ↦
                  ranged_in (4096 * first) (4096 * i) g f a from inside
                  ∙ sym (ranged_in (4096 * first) (4096 * (i + 1)) g f a from (omega arith))
              | inr past ↦
                  ranged_out (4096 * first) (4096 * i) g f a (inr past)
                  ∙ sym (ranged_out (4096 * first) (4096 * (i + 1)) g f a (inr (omega arith)))
            ]
          ])
    ]

pub zeros_more : (f : ℕ → Option Cell) (rights : Rights) (tables tables-2 : List Table) (first i : ℕ) (page : Page) → ((a : ℕ) → cells tables a ≡ with_zeros (4096 * first) (4096 * i) rights f a) → page_at tables-2 (first + i) ≡ page → ((n : ℕ) → n ≢ first + i → page_at tables-2 n ≡ page_at tables n) → ((k : ℕ) → cell_in page k ≡ Some (cell rights 0)) → (a : ℕ) → cells tables-2 a ≡ with_zeros (4096 * first) (4096 * (i + 1)) rights f a
unfolding with_zeros ranged
zeros_more f rights tables tables-2 first i page before new others kind a =
    ranged_more f (λ (b : ℕ). Some (cell rights 0)) tables tables-2 first i page before new others (λ b here. kind (b % 4096)) a

-- pages of one kind in a range
pub ranged_by_page : (tables tables-2 : List Table) (first count : ℕ) (page : Page) (g : ℕ → Option Cell) → ((n : ℕ) → first ≤ n → n < first + count → page_at tables-2 n ≡ page) → ((n : ℕ) → (n < first) ⊎ (first + count ≤ n) → page_at tables-2 n ≡ page_at tables n) → ((a : ℕ) → cell_in page (a % 4096) ≡ g a) → (a : ℕ) → cells tables-2 a ≡ ranged (4096 * first) (4096 * count) g (cells tables) a
unfolding cells
ranged_by_page tables tables-2 first count page g inside others kind a =
    elim (cases_lt (a / 4096) first) [
      | inl below ↦
          ap (λ (p : Page). cell_in p (a % 4096)) (others (a / 4096) (inl below))
          ∙ sym (ranged_out (4096 * first) (4096 * count) g (cells tables) a (inl (omega arith)))
      | inr from ↦ elim (cases_lt (a / 4096) (first + count)) [
        | inl low ↦
            ap (λ (p : Page). cell_in p (a % 4096)) (inside (a / 4096) from low)
            ∙ (kind a ∙ sym (ranged_in (4096 * first) (4096 * count) g (cells tables) a (omega arith) (omega arith)))
        | inr past ↦
            ap (λ (p : Page). cell_in p (a % 4096)) (others (a / 4096) (inr past))
            ∙ sym (ranged_out (4096 * first) (4096 * count) g (cells tables) a (inr (omega arith)))
      ]
    ]

pub nothing_by_page : (tables tables-2 : List Table) (first count : ℕ) → ((n : ℕ) → first ≤ n → n < first + count → page_at tables-2 n ≡ Absent) → ((n : ℕ) → (n < first) ⊎ (first + count ≤ n) → page_at tables-2 n ≡ page_at tables n) → (a : ℕ) → cells tables-2 a ≡ with_nothing (4096 * first) (4096 * count) (cells tables) a
unfolding with_nothing ranged
nothing_by_page tables tables-2 first count inside others a =
    ranged_by_page tables tables-2 first count Absent (λ (b : ℕ). None) inside others (λ b. refl) a

none_of : (a b c : Bool) → not (a || (b || c)) ≡ true → (a ≡ false) × (b ≡ false) × (c ≡ false)
none_of false false false h = (refl, refl, refl)
none_of false false true h = cc
none_of false true c h = cc
none_of true b c h = cc

-- rights of which there is none
pub is_nothing : (rights : Rights) → has_none rights ≡ true → nothing ≡ rights
is_nothing rights none =
    let fields = none_of rights.read rights.write rights.execute none in
    rights_by_fields nothing rights (sym fields.0) (sym fields.1) (sym fields.2)

pub bare_cell : (rights : Rights) → has_none rights ≡ true → Some (cell nothing 0) ≡ Some (cell rights 0)
bare_cell rights none = ap (λ (r : Rights). Some (cell r 0)) (is_nothing rights none)

pub zeros_by_page : (rights : Rights) (tables tables-2 : List Table) (first count : ℕ) → has_none rights ≡ true → ((n : ℕ) → first ≤ n → n < first + count → page_at tables-2 n ≡ Bare) → ((n : ℕ) → (n < first) ⊎ (first + count ≤ n) → page_at tables-2 n ≡ page_at tables n) → (a : ℕ) → cells tables-2 a ≡ with_zeros (4096 * first) (4096 * count) rights (cells tables) a
unfolding with_zeros ranged
zeros_by_page rights tables tables-2 first count none inside others a =
    ranged_by_page tables tables-2 first count Bare (λ (b : ℕ). Some (cell rights 0)) inside others (λ b. bare_cell rights none) a

-- a page without rights stays what it is
pub bare_still : (rights : Rights) (page : Page) (mapped : Bool) (k : ℕ) → has_none rights ≡ true → page ≡ bare_if mapped → cell_in page k ≡ with_rights rights (cell_in page k)
bare_still rights page true k none is = rw is (bare_cell rights none)
bare_still rights page false k none is = rw is refl

-- the marks after a range of one kind
pub marks_ranged : (tables tables-2 : List Table) (first count : ℕ) (on : Bool) (g : ℕ → Option Cell) → AreMarked tables → ((n : ℕ) → mark_at tables-2 n ≡ (if within first count n then on else mark_at tables n)) → ((a : ℕ) → cells tables-2 a ≡ ranged (4096 * first) (4096 * count) g (cells tables) a) → ((a : ℕ) → is_mapped (g a) ≡ on) → AreMarked tables-2
marks_ranged tables tables-2 first count on g marked marks same kind =
    marked_by tables-2
    (λ n. elim (cases_lt n first) [
      | inl below ↦
          marks n ∙ (chosen_out first count n on (mark_at tables n) (inl below)
          ∙ (marked_is tables marked n
          ∙ sym (ap is_mapped (same (4096 * n) ∙ ranged_out (4096 * first) (4096 * count) g (cells tables) (4096 * n) (inl (omega arith))))))
      | inr from ↦ elim (cases_lt n (first + count)) [
        | inl low ↦
            marks n ∙ (chosen_in first count n on (mark_at tables n) from low
            ∙ sym (ap is_mapped (same (4096 * n) ∙ ranged_in (4096 * first) (4096 * count) g (cells tables) (4096 * n) (omega arith) (omega arith)) ∙ kind (4096 * n)))
        | inr past ↦
            marks n ∙ (chosen_out first count n on (mark_at tables n) (inr past)
            ∙ (marked_is tables marked n
            ∙ sym (ap is_mapped (same (4096 * n) ∙ ranged_out (4096 * first) (4096 * count) g (cells tables) (4096 * n) (inr (omega arith))))))
      ]
    ])

pub zeros_marked : (tables tables-2 : List Table) (first count : ℕ) (rights : Rights) → AreMarked tables → ((n : ℕ) → mark_at tables-2 n ≡ (if within first count n then true else mark_at tables n)) → ((a : ℕ) → cells tables-2 a ≡ with_zeros (4096 * first) (4096 * count) rights (cells tables) a) → AreMarked tables-2
unfolding with_zeros ranged
zeros_marked tables tables-2 first count rights marked marks same =
    marks_ranged tables tables-2 first count true (λ (b : ℕ). Some (cell rights 0)) marked marks same (λ a. refl)

pub nothing_marked : (tables tables-2 : List Table) (first count : ℕ) → AreMarked tables → ((n : ℕ) → mark_at tables-2 n ≡ (if within first count n then false else mark_at tables n)) → ((a : ℕ) → cells tables-2 a ≡ with_nothing (4096 * first) (4096 * count) (cells tables) a) → AreMarked tables-2
unfolding with_nothing ranged
nothing_marked tables tables-2 first count marked marks same =
    marks_ranged tables tables-2 first count false (λ (b : ℕ). None) marked marks same (λ a. refl)

rights_mapped : (rights : Rights) (o : Option Cell) → is_mapped (with_rights rights o) ≡ is_mapped o
rights_mapped rights None = refl
rights_mapped rights (Some c) = refl

pub new_rights_marked : (tables tables-2 : List Table) (start count : ℕ) (rights : Rights) → AreMarked tables → ((n : ℕ) → mark_at tables-2 n ≡ mark_at tables n) → ((a : ℕ) → cells tables-2 a ≡ with_new_rights start count rights (cells tables) a) → AreMarked tables-2
unfolding with_new_rights
new_rights_marked tables tables-2 start count rights marked marks same =
    marked_same tables tables-2 marked marks
    (λ a. ap is_mapped (same a) ∙ either_mapped (within start count a) _ (cells tables a) (rights_mapped rights (cells tables a)))

pub zeros_none : (start : ℕ) (rights : Rights) (f : ℕ → Option Cell) (a : ℕ) → with_zeros start 0 rights f a ≡ f a
unfolding with_zeros ranged
zeros_none start rights f a = ranged_none start (λ (b : ℕ). Some (cell rights 0)) f a

pub rights_none : (start : ℕ) (rights : Rights) (f : ℕ → Option Cell) (a : ℕ) → with_new_rights start 0 rights f a ≡ f a
unfolding with_new_rights ranged
rights_none start rights f a = ranged_none start (λ (b : ℕ). with_rights rights (f b)) f a

either_way : (b : Bool) (o : Option Cell) → o ≡ (if b then o else o)
either_way true o = refl
either_way false o = refl

-- where nothing stands nothing is changed
pub rights_empty : (start count : ℕ) (rights : Rights) (a : ℕ) → cells [] a ≡ with_new_rights start count rights (cells []) a
unfolding with_new_rights cells page_at
rights_empty start count rights a = either_way (within start count a) None

-- where nothing stands nothing goes
pub nothing_empty : (start count a : ℕ) → cells [] a ≡ with_nothing start count (cells []) a
unfolding with_nothing cells page_at
nothing_empty start count a = either_way (within start count a) None

-- the page that is changed next is as it was
pub rights_still : (f : ℕ → Option Cell) (rights : Rights) (tables : List Table) (first i a : ℕ) → ((a : ℕ) → cells tables a ≡ with_new_rights (4096 * first) (4096 * i) rights f a) → a / 4096 ≡ first + i → cell_in (page_at tables (first + i)) (a % 4096) ≡ f a
unfolding cells with_new_rights ranged
rights_still f rights tables first i a before here =
    ap (λ (n : ℕ). cell_in (page_at tables n) (a % 4096)) (sym here)
    ∙ (before a ∙ ranged_out (4096 * first) (4096 * i) (λ (b : ℕ). with_rights rights (f b)) f a (inr (omega arith)))

pub rights_more : (f : ℕ → Option Cell) (rights : Rights) (tables tables-2 : List Table) (first i : ℕ) (page : Page) → ((a : ℕ) → cells tables a ≡ with_new_rights (4096 * first) (4096 * i) rights f a) → page_at tables-2 (first + i) ≡ page → ((n : ℕ) → n ≢ first + i → page_at tables-2 n ≡ page_at tables n) → ((k : ℕ) → cell_in page k ≡ with_rights rights (cell_in (page_at tables (first + i)) k)) → (a : ℕ) → cells tables-2 a ≡ with_new_rights (4096 * first) (4096 * (i + 1)) rights f a
unfolding with_new_rights ranged
rights_more f rights tables tables-2 first i page before new others kind a =
    ranged_more f (λ (b : ℕ). with_rights rights (f b)) tables tables-2 first i page before new others
    (λ b here. kind (b % 4096) ∙ ap (with_rights rights) (rights_still f rights tables first i b before here)) a

-- pages in tables without pages have no right, and get none
pub rights_passed : (f : ℕ → Option Cell) (rights : Rights) (tables : List Table) (first i passed : ℕ) → has_none rights ≡ true → ((a : ℕ) → cells tables a ≡ with_new_rights (4096 * first) (4096 * i) rights f a) → ((n : ℕ) → first + i ≤ n → n < first + i + passed → room_of (slice_get tables (n / 8192)) ≡ 0) → (a : ℕ) → cells tables a ≡ with_new_rights (4096 * first) (4096 * (i + passed)) rights f a
rights_passed f rights tables first i zero none before rooms a =
    let e : i ≡ i + 0 = omega arith in
    before a ∙ ap (λ (n : ℕ). with_new_rights (4096 * first) (4096 * n) rights f a) e
rights_passed f rights tables first i (suc passed) none before rooms a =
    let e : i + 1 + passed ≡ i + suc passed = omega arith in
    let room : room_of (slice_get tables ((first + i) / 8192)) ≡ 0 = rooms (first + i) (omega arith) (omega arith) in
    let bare = page_without_room tables (first + i) (omega (arith, room)) in
    rights_passed f rights tables first (i + 1) passed none
    (rights_more f rights tables tables first i (page_at tables (first + i)) before refl (λ n other. refl) (λ k. bare_still rights (page_at tables (first + i)) (mark_at tables (first + i)) k none bare))
    (λ n low high. rooms n (omega arith) (omega arith)) a
    ∙ ap (λ (n : ℕ). with_new_rights (4096 * first) (4096 * n) rights f a) e

-- the memory that is mapped, by its cells
pub placed_held : (tables tables-2 : List Table) (start count : ℕ) (rights : Rights) → length tables ≤ 8192 → ((a : ℕ) → cells tables-2 a ≡ with_zeros start count rights (cells tables) a) → held tables-2 ≡ placed start count rights (held tables)
unfolding held placed with_zeros
placed_held tables tables-2 start count rights small same =
    same_ranges (cells tables-2) _ (λ a. same a ∙ ap (λ (o : Option Cell). if within start count a then Some (cell rights 0) else o) (sym (cell_at_held tables a small)))

pub protected_held : (tables tables-2 : List Table) (start count : ℕ) (rights : Rights) → length tables ≤ 8192 → ((a : ℕ) → cells tables-2 a ≡ with_new_rights start count rights (cells tables) a) → held tables-2 ≡ protected start count rights (held tables)
unfolding held protected with_new_rights
protected_held tables tables-2 start count rights small same =
    same_ranges (cells tables-2) _ (λ a. same a ∙ ap (λ (o : Option Cell). if within start count a then with_rights rights o else o) (sym (cell_at_held tables a small)))

pub unmapped_held : (tables tables-2 : List Table) (start count : ℕ) → length tables ≤ 8192 → ((a : ℕ) → cells tables-2 a ≡ with_nothing start count (cells tables) a) → held tables-2 ≡ unmapped start count (held tables)
unfolding held unmapped with_nothing
unmapped_held tables tables-2 start count small same =
    same_ranges (cells tables-2) _ (λ a. same a ∙ ap (λ (o : Option Cell). if within start count a then None else o) (sym (cell_at_held tables a small)))

pub placed_is : (tables : List Table) (start count : ℕ) (rights : Rights) → length tables ≤ 8192 → placed start count rights (held tables) ≡ ranges_of (with_zeros start count rights (cells tables))
unfolding placed with_zeros
placed_is tables start count rights small =
    same_ranges _ _ (λ a. ap (λ (o : Option Cell). if within start count a then Some (cell rights 0) else o) (cell_at_held tables a small))

pub protected_is : (tables : List Table) (start count : ℕ) (rights : Rights) → length tables ≤ 8192 → protected start count rights (held tables) ≡ ranges_of (with_new_rights start count rights (cells tables))
unfolding protected with_new_rights
protected_is tables start count rights small =
    same_ranges _ _ (λ a. ap (λ (o : Option Cell). if within start count a then with_rights rights o else o) (cell_at_held tables a small))

-- a range of whole pages leaves the cells of one page alike
ranged_paged : (first count : ℕ) (g f : ℕ → Option Cell) → IsPaged g → IsPaged f → IsPaged (ranged (4096 * first) (4096 * count) g f)
ranged_paged first count g f paged-g paged-f a b same =
    elim (cases_lt a (4096 * first)) [
      | inl below ↦
          ap rights_of (ranged_out (4096 * first) (4096 * count) g f a (inl below))
          ∙ (paged-f a b same ∙ sym (ap rights_of (ranged_out (4096 * first) (4096 * count) g f b (inl (omega arith)))))
      | inr from ↦ elim (cases_lt a (4096 * first + 4096 * count)) [
        | inl inside ↦
            ap rights_of (ranged_in (4096 * first) (4096 * count) g f a from inside)
            ∙ (paged-g a b same ∙ sym (ap rights_of (ranged_in (4096 * first) (4096 * count) g f b (omega arith) (omega arith))))
        | inr past ↦
            ap rights_of (ranged_out (4096 * first) (4096 * count) g f a (inr past))
            ∙ (paged-f a b same ∙ sym (ap rights_of (ranged_out (4096 * first) (4096 * count) g f b (inr (omega arith)))))
      ]
    ]

-- how many pages are stored after a range is changed
ranged_stored : (first count : ℕ) (g f : ℕ → Option Cell) → IsPaged g → IsPaged f → first + count ≤ 2 ^ 26 → stored_pages (ranges_of (ranged (4096 * first) (4096 * count) g f)) + count_pages f first count ≡ stored_pages (ranges_of f) + count_pages g first count
ranged_stored first count g f paged-g paged-f room =
    let changed = stored_changed f (ranged (4096 * first) (4096 * count) g f) first count paged-f (ranged_paged first count g f paged-g paged-f) room
    (λ q out. sym (ap rights_of (ranged_out (4096 * first) (4096 * count) g f (4096 * q) (elim out [ inl below ↦ inl (omega arith) | inr past ↦ inr (omega arith) ])))) in
    let inner = count_same (ranged (4096 * first) (4096 * count) g f) g first count
    (λ q low high. ap rights_of (ranged_in (4096 * first) (4096 * count) g f (4096 * q) (omega arith) (omega arith))) in
    omega arith

pub zeros_stored : (tables : List Table) (first count : ℕ) (rights : Rights) → length tables ≤ 8192 → first + count ≤ 2 ^ 26 → stored_pages (placed (4096 * first) (4096 * count) rights (held tables)) + count_pages (cells tables) first count ≡ stored_pages (held tables) + (if not (has_none rights) then count else 0)
unfolding with_zeros ranged held
zeros_stored tables first count rights small room =
    let all = count_alike (λ (b : ℕ). Some (cell rights 0)) (not (has_none rights)) first count (λ q low high. refl) in
    let is = ap stored_pages (placed_is tables (4096 * first) (4096 * count) rights small) in
    let sum = ranged_stored first count (λ (b : ℕ). Some (cell rights 0)) (cells tables) (λ a b same. refl) (tables_paged tables) room in
    omega arith

-- nothing is stored of what is not mapped
pub nothing_stored : (tables tables-2 : List Table) (first count : ℕ) → first + count ≤ 2 ^ 26 → ((a : ℕ) → cells tables-2 a ≡ with_nothing (4096 * first) (4096 * count) (cells tables) a) → stored_pages (held tables-2) + count_pages (cells tables) first count ≡ stored_pages (held tables)
unfolding with_nothing ranged held
nothing_stored tables tables-2 first count room same =
    let none = count_alike (λ (b : ℕ). None) false first count (λ q low high. refl) in
    let is = ap stored_pages (same_ranges (cells tables-2) (ranged (4096 * first) (4096 * count) (λ (b : ℕ). None) (cells tables)) same) in
    let sum = ranged_stored first count (λ (b : ℕ). None) (cells tables) (λ a b here. refl) (tables_paged tables) room in
    omega arith

paged_rights : (rights : Rights) (f : ℕ → Option Cell) → IsPaged f → IsPaged (λ (b : ℕ). with_rights rights (f b))
paged_rights rights f paged a b same = moved (f a) (f b) (paged a b same)
  where
    moved : (x y : Option Cell) → rights_of x ≡ rights_of y → rights_of (with_rights rights x) ≡ rights_of (with_rights rights y)
    moved None None h = refl
    moved None (Some d) h = cc
    moved (Some c) None h = cc
    moved (Some c) (Some d) h = refl

mapped_right : (rights : Rights) (o : Option Cell) → (o ≡ None → ⊥) → some_right (rights_of (with_rights rights o)) ≡ not (has_none rights)
mapped_right rights None mapped = absurd (mapped refl)
mapped_right rights (Some c) mapped = refl

pub rights_stored : (tables : List Table) (first count : ℕ) (rights : Rights) → length tables ≤ 8192 → first + count ≤ 2 ^ 26 → ((q : ℕ) → first ≤ q → q < first + count → cells tables (4096 * q) ≡ None → ⊥) → stored_pages (protected (4096 * first) (4096 * count) rights (held tables)) + count_pages (cells tables) first count ≡ stored_pages (held tables) + (if not (has_none rights) then count else 0)
unfolding with_new_rights ranged held
rights_stored tables first count rights small room mapped =
    let all = count_alike (λ (b : ℕ). with_rights rights (cells tables b)) (not (has_none rights)) first count (λ q low high. mapped_right rights (cells tables (4096 * q)) (mapped q low high)) in
    let is = ap stored_pages (protected_is tables (4096 * first) (4096 * count) rights small) in
    let sum = ranged_stored first count (λ (b : ℕ). with_rights rights (cells tables b)) (cells tables) (paged_rights rights (cells tables) (tables_paged tables)) (tables_paged tables) room in
    omega arith

-- the pages of a range are among those that are stored, which are among all
pub count_part : (tables : List Table) (first count : ℕ) → first + count ≤ 2 ^ 26 → (count_pages (cells tables) first count ≤ stored_pages (held tables)) × (stored_pages (held tables) ≤ 2 ^ 26)
unfolding held
count_part tables first count room =
    let f : ℕ → Option Cell = cells tables in
    let rest : ℕ = 2 ^ 26 - (first + count) in
    let whole : 2 ^ 26 ≡ first + (count + (2 ^ 26 - (first + count))) = omega arith in
    let split = ap (count_pages (cells tables) 0) whole ∙ (count_split (cells tables) 0 first (count + (2 ^ 26 - (first + count))) ∙ ap (λ (x : ℕ). count_pages (cells tables) 0 first + x) (count_split (cells tables) (0 + first) count (2 ^ 26 - (first + count)))) in
    let none : 0 + first ≡ first = omega arith in
    let mid = ap (λ (p : ℕ). count_pages (cells tables) p count) none in
    let is = stored_is (cells tables) (tables_paged tables) in
    let most = count_at_most (cells tables) 0 (2 ^ 26) in
    (omega arith, omega arith)

-- how many pages a mapping would store
pub map_wanted : (tables : List Table) (stored at count : ℕ) (rights : Rights) (wanted : ℕ) (memory : List Range) → IsSound tables stored → held tables ≡ memory → at % 4096 ≡ 0 → at + 4096 * count ≤ 2 ^ 38 → wanted + count_pages (cells tables) (at / 4096) count ≡ stored + (if not (has_none rights) then count else 0) → wanted ≡ stored_pages (placed at (4096 * count) rights memory)
map_wanted tables stored at count rights wanted memory sound view aligned inside sum =
    let room : at / 4096 + count ≤ 2 ^ 26 = omega arith in
    let start : 4096 * (at / 4096) ≡ at = omega arith in
    let is = zeros_stored tables (at / 4096) count rights sound.small room in
    let moved = ap (λ (s : ℕ). stored_pages (placed s (4096 * count) rights (held tables))) start ∙ ap (λ (m : List Range). stored_pages (placed at (4096 * count) rights m)) view in
    let counted = sound.counted in
    omega arith

pub map_ok : (tables tables-2 : List Table) (stored at count : ℕ) (rights : Rights) (memory : List Range) → IsSound tables stored → held tables ≡ memory → at % 4096 ≡ 0 → ((a : ℕ) → cells tables-2 a ≡ with_zeros (4096 * (at / 4096)) (4096 * count) rights (cells tables) a) → held tables-2 ≡ placed at (4096 * count) rights memory
map_ok tables tables-2 stored at count rights memory sound view aligned same =
    let start : 4096 * (at / 4096) ≡ at = omega arith in
    placed_held tables tables-2 (4096 * (at / 4096)) (4096 * count) rights sound.small same
    ∙ (ap (λ (s : ℕ). placed s (4096 * count) rights (held tables)) start ∙ ap (placed at (4096 * count) rights) view)

-- and a protection
pub protect_wanted : (tables : List Table) (stored at count : ℕ) (rights : Rights) (wanted : ℕ) (memory : List Range) → IsSound tables stored → held tables ≡ memory → at % 4096 ≡ 0 → at + 4096 * count ≤ 2 ^ 38 → ((q : ℕ) → at / 4096 ≤ q → q < at / 4096 + count → cells tables (4096 * q) ≡ None → ⊥) → wanted + count_pages (cells tables) (at / 4096) count ≡ stored + (if not (has_none rights) then count else 0) → wanted ≡ stored_pages (protected at (4096 * count) rights memory)
protect_wanted tables stored at count rights wanted memory sound view aligned inside mapped sum =
    let room : at / 4096 + count ≤ 2 ^ 26 = omega arith in
    let start : 4096 * (at / 4096) ≡ at = omega arith in
    let is = rights_stored tables (at / 4096) count rights sound.small room mapped in
    let moved = ap (λ (s : ℕ). stored_pages (protected s (4096 * count) rights (held tables))) start ∙ ap (λ (m : List Range). stored_pages (protected at (4096 * count) rights m)) view in
    let counted = sound.counted in
    omega arith

pub protect_ok : (tables tables-2 : List Table) (stored at count : ℕ) (rights : Rights) (memory : List Range) → IsSound tables stored → held tables ≡ memory → at % 4096 ≡ 0 → ((a : ℕ) → cells tables-2 a ≡ with_new_rights (4096 * (at / 4096)) (4096 * count) rights (cells tables) a) → held tables-2 ≡ protected at (4096 * count) rights memory
protect_ok tables tables-2 stored at count rights memory sound view aligned same =
    let start : 4096 * (at / 4096) ≡ at = omega arith in
    protected_held tables tables-2 (4096 * (at / 4096)) (4096 * count) rights sound.small same
    ∙ (ap (λ (s : ℕ). protected s (4096 * count) rights (held tables)) start ∙ ap (protected at (4096 * count) rights) view)

pub part_at_most : (b : Bool) (n : ℕ) → (if b then n else 0) ≤ n
part_at_most true n = omega arith
part_at_most false n = omega arith

page_right : (page : Page) (place : ℕ) → some_right (rights_of (cell_in page place)) ≡ right_in page
page_right Absent place = refl
page_right Bare place = refl
page_right (Held rights bytes) place = refl

-- whether the page that is changed next had a right at first
pub right_still : (f : ℕ → Option Cell) (rights : Rights) (tables : List Table) (first i : ℕ) → ((a : ℕ) → cells tables a ≡ with_new_rights (4096 * first) (4096 * i) rights f a) → some_right (rights_of (f (4096 * (first + i)))) ≡ right_in (page_at tables (first + i))
right_still f rights tables first i before =
    let e : 4096 * (first + i) / 4096 ≡ first + i = omega arith in
    sym (ap (λ (o : Option Cell). some_right (rights_of o)) (rights_still f rights tables first i (4096 * (first + i)) before e))
    ∙ page_right (page_at tables (first + i)) (4096 * (first + i) % 4096)

pub count_first : (f : ℕ → Option Cell) (p n : ℕ) → 0 < n → count_pages f p n ≡ one_if (some_right (rights_of (f (4096 * p)))) + count_pages f (p + 1) (n - 1)
unfolding count_pages
count_first f p zero some = absurd (omega arith)
count_first f p (suc n) some =
    let e : n ≡ suc n - 1 = omega arith in
    ap (λ (m : ℕ). one_if (some_right (rights_of (f (4096 * p)))) + count_pages f (p + 1) m) e

-- and an end of a mapping
pub unmap_ok : (tables tables-2 : List Table) (stored at count : ℕ) (memory : List Range) → IsSound tables stored → held tables ≡ memory → at % 4096 ≡ 0 → ((a : ℕ) → cells tables-2 a ≡ with_nothing (4096 * (at / 4096)) (4096 * count) (cells tables) a) → held tables-2 ≡ unmapped at (4096 * count) memory
unmap_ok tables tables-2 stored at count memory sound view aligned same =
    let start : 4096 * (at / 4096) ≡ at = omega arith in
    unmapped_held tables tables-2 (4096 * (at / 4096)) (4096 * count) sound.small same
    ∙ (ap (λ (s : ℕ). unmapped s (4096 * count) (held tables)) start ∙ ap (unmapped at (4096 * count)) view)

pub unmap_sound : (tables tables-2 : List Table) (stored kept first count : ℕ) → IsSound tables stored → length tables-2 ≡ length tables → first + count ≤ 2 ^ 26 → kept ≡ stored - count_pages (cells tables) first count → ((n : ℕ) → mark_at tables-2 n ≡ (if within first count n then false else mark_at tables n)) → ((a : ℕ) → cells tables-2 a ≡ with_nothing (4096 * first) (4096 * count) (cells tables) a) → IsSound tables-2 kept
unmap_sound tables tables-2 stored kept first count sound size room less marks same =
    let small = sound.small in
    let counted = sound.counted in
    let sum = nothing_stored tables tables-2 first count room same in
    record { small = omega arith; marked = nothing_marked tables tables-2 first count sound.marked marks same; counted = omega arith }

-- the same range of the same cells
pub zeros_over : (start count : ℕ) (rights : Rights) (f g : ℕ → Option Cell) → ((a : ℕ) → f a ≡ g a) → (a : ℕ) → with_zeros start count rights f a ≡ with_zeros start count rights g a
unfolding with_zeros
zeros_over start count rights f g same a = ap (λ (o : Option Cell). if within start count a then Some (cell rights 0) else o) (same a)

pub rights_over : (start count : ℕ) (rights : Rights) (f g : ℕ → Option Cell) → ((a : ℕ) → f a ≡ g a) → (a : ℕ) → with_new_rights start count rights f a ≡ with_new_rights start count rights g a
unfolding with_new_rights
rights_over start count rights f g same a = ap (λ (o : Option Cell). if within start count a then with_rights rights o else o) (same a)

-- ---- where there are no tables

either_mark : (b : Bool) → false ≡ (if b then false else false)
either_mark true = refl
either_mark false = refl

pub unmarked_empty : (first count n : ℕ) → mark_at [] n ≡ (if within first count n then false else mark_at [] n)
unfolding mark_at
unmarked_empty first count n = either_mark (within first count n)

none_marked : (first count : ℕ) → ((n : ℕ) → first ≤ n → n < first + count → HasMark [] n) → count ≡ 0
unfolding HasMark
none_marked first count words =
    elim (cases_eq count 0) [
      | inl none ↦ none
      | inr some ↦ let word = words first (omega arith) (omega arith) in absurd (omega arith)
    ]

pub zeros_empty : (first count : ℕ) (rights : Rights) (a : ℕ) → ((n : ℕ) → first ≤ n → n < first + count → HasMark [] n) → cells [] a ≡ with_zeros (4096 * first) (4096 * count) rights (cells []) a
zeros_empty first count rights a words =
    let none = none_marked first count words in
    sym (ap (λ (n : ℕ). with_zeros (4096 * first) (4096 * n) rights (cells []) a) none ∙ zeros_none (4096 * first) rights (cells []) a)

pub marked_empty : (first count n : ℕ) → ((m : ℕ) → first ≤ m → m < first + count → HasMark [] m) → mark_at [] n ≡ (if within first count n then true else mark_at [] n)
marked_empty first count n words =
    let none = none_marked first count words in
    bits_nowhere (mark_at []) first true n ∙ ap (λ (m : ℕ). if within first m n then true else mark_at [] n) (sym none)

-- equal cells, as many pages with a right
pub count_over : (f g : ℕ → Option Cell) (p n : ℕ) → ((a : ℕ) → f a ≡ g a) → count_pages f p n ≡ count_pages g p n
count_over f g p n same = count_same f g p n (λ q low high. ap rights_of (same (4096 * q)))
