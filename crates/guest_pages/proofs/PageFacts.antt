-- What stands at each address after one page of the tables has changed.
use Rattle.std.proofs.Common.{◌≡◌, ◌≢◌, ◌⊎◌, ℕ, zero, suc, ◌+◌, ◌-◌, ◌/◌, ◌%◌, ◌<◌, ◌≤◌, Bool, true, false, if◌then◌else◌, List, [], ◌∷◌, ◌++◌, length, get_or, set, Option, Some, None, slice_get, is_some, inl, inr, refl, sym, ap, ◌∙◌, arith}
use Rattle.std.proofs.lemmas.Bool.{cases_lt, cases_eq}
use Rattle.std.proofs.lemmas.List.{get_or-set_same, get_or-set_other, get_or_default}
use Rattle.std.proofs.lemmas.Option.{slice_get_read}
use Rattle.guest_pages.specs.declared.rights.Rights.{Rights}
use Rattle.guest_pages.specs.declared.page.Page.{Page}
use Rattle.guest_pages.specs.declared.page.Table.{Table}
use Rattle.guest_pages.specs.declared.page.Page.TheVariants.{Absent}
use Rattle.guest_pages.specs.Cells.{Cell, cell}
use Rattle.guest_pages.specs.Operations.{with_byte}
use Rattle.guest_pages.specs.Ranges.{within}
use Rattle.guest_pages.specs.Tables.{bare_if, cell_in, held_in, mark_in, mark_at, page_found, page_in, page_at, cells, right_in, runs_in}
use Rattle.std.specs.Borrow.{Bor}
use Rattle.std.specs.Option.{MatchOption}
use Rattle.guest_pages.specs.Bits.{bit_of}
use Rattle.guest_pages.specs.Mapping.{room_of, words_of}
use Rattle.guest_pages.specs.Writes.{with_bytes}
use Rattle.guest_pages.proofs.RightsFacts.{within_inside, within_outside}

pub get_set_same : {X : Type 0} (xs : List X) (i : ℕ) (y : X) → i < length xs → slice_get (set xs i y) i ≡ Some y
get_set_same [] i y within = absurd (omega arith)
get_set_same (x ∷ xs) zero y within = refl
get_set_same (x ∷ xs) (suc i) y within = get_set_same xs i y (omega arith)

pub get_set_other : {X : Type 0} (xs : List X) (i j : ℕ) (y : X) → j ≢ i → slice_get (set xs i y) j ≡ slice_get xs j
get_set_other [] i j y other = refl
get_set_other (x ∷ xs) zero zero y other = absurd (other refl)
get_set_other (x ∷ xs) zero (suc j) y other = refl
get_set_other (x ∷ xs) (suc i) zero y other = refl
get_set_other (x ∷ xs) (suc i) (suc j) y other = get_set_other xs i j y (λ e. other (ap suc e))

-- ---- what is said of a table by its place, where one of them is changed or added

pub through : {X : Type 0} (F : Option Table → X) (tables : List Table) (k j : ℕ) (table table-2 : Table) → k < length tables → table ≡ get_or tables k table → F (Some table-2) ≡ F (Some table) → F (slice_get (set tables k table-2) j) ≡ F (slice_get tables j)
through F tables k j table table-2 low read same =
    elim (cases_eq j k) [
      | inl equal ↦
          ap (λ (i : ℕ). F (slice_get (set tables k table-2) i)) equal
          ∙ (ap F (get_set_same tables k table-2 low)
          ∙ (same
          ∙ (sym (ap F (slice_get_read tables (length tables) k table refl low read))
          ∙ sym (ap (λ (i : ℕ). F (slice_get tables i)) equal))))
      | inr apart ↦ ap F (get_set_other tables k j table-2 apart)
    ]

pub through_push : {X : Type 0} (F : Option Table → X) (tables : List Table) (table : Table) (k : ℕ) → F (Some table) ≡ F None → F (slice_get (tables ++ table ∷ []) k) ≡ F (slice_get tables k)
through_push F [] table zero same = same
through_push F [] table (suc k) same = refl
through_push F (x ∷ xs) table zero same = refl
through_push F (x ∷ xs) table (suc k) same = through_push F xs table k same

pub page_through : (tables : List Table) (k n : ℕ) (table table-2 : Table) → k < length tables → table ≡ get_or tables k table → page_in (Some table-2) (n % 8192) ≡ page_in (Some table) (n % 8192) → page_at (set tables k table-2) n ≡ page_at tables n
unfolding page_at
page_through tables k n table table-2 low read same = through (λ (o : Option Table). page_in o (n % 8192)) tables k (n / 8192) table table-2 low read same

pub mark_through : (tables : List Table) (k n : ℕ) (table table-2 : Table) → k < length tables → table ≡ get_or tables k table → bit_of table-2.mapped.items (n % 8192) ≡ bit_of table.mapped.items (n % 8192) → mark_at (set tables k table-2) n ≡ mark_at tables n
unfolding mark_at
mark_through tables k n table table-2 low read same = through (λ (o : Option Table). mark_in o (n % 8192)) tables k (n / 8192) table table-2 low read same

pub room_through : (tables : List Table) (k j : ℕ) (table table-2 : Table) → k < length tables → table ≡ get_or tables k table → length table-2.pages.items ≡ length table.pages.items → room_of (slice_get (set tables k table-2) j) ≡ room_of (slice_get tables j)
room_through tables k j table table-2 low read same = through room_of tables k j table table-2 low read same

pub words_through : (tables : List Table) (k j : ℕ) (table table-2 : Table) → k < length tables → table ≡ get_or tables k table → length table-2.mapped.items ≡ length table.mapped.items → words_of (slice_get (set tables k table-2) j) ≡ words_of (slice_get tables j)
words_through tables k j table table-2 low read same = through words_of tables k j table table-2 low read same

-- ---- the page that is read by two indices

pub page_here : (tables : List Table) (number : ℕ) (table : Table) (page : Page) → number / 8192 < length tables → table ≡ get_or tables (number / 8192) table → number % 8192 < length table.pages.items → page ≡ get_or table.pages.items (number % 8192) page → page_at tables number ≡ page
unfolding page_at
page_here tables number table page low read low-2 read-2 =
    ap (λ (o : Option Table). page_in o (number % 8192)) (slice_get_read tables (length tables) (number / 8192) table refl low read)
    ∙ (get_or_default table.pages.items (number % 8192) (bare_if (bit_of table.mapped.items (number % 8192))) page low-2 ∙ sym read-2)

past_end : (xs : List Page) (i : ℕ) (d : Page) → length xs ≤ i → get_or xs i d ≡ d
past_end [] i d past = refl
past_end (x ∷ xs) zero d past = absurd (omega arith)
past_end (x ∷ xs) (suc i) d past = past_end xs i d (omega arith)

no_room_in : (o : Option Table) (place : ℕ) → room_of o ≤ place → page_in o place ≡ bare_if (mark_in o place)
no_room_in None place past = refl
no_room_in (Some table) place past = past_end table.pages.items place (bare_if (bit_of table.mapped.items place)) past

-- a page without room stores nothing
pub page_without_room : (tables : List Table) (number : ℕ) → room_of (slice_get tables (number / 8192)) ≤ number % 8192 → page_at tables number ≡ bare_if (mark_at tables number)
unfolding page_at mark_at
page_without_room tables number past = no_room_in (slice_get tables (number / 8192)) (number % 8192) past

pub room_here : (tables : List Table) (k : ℕ) (table : Table) → k < length tables → table ≡ get_or tables k table → room_of (slice_get tables k) ≡ length table.pages.items
room_here tables k table low read = ap room_of (slice_get_read tables (length tables) k table refl low read)

-- no page stands past the end of its table
pub page_past_inner : (tables : List Table) (number : ℕ) (table : Table) → number / 8192 < length tables → table ≡ get_or tables (number / 8192) table → length table.pages.items ≤ number % 8192 → page_at tables number ≡ bare_if (mark_at tables number)
page_past_inner tables number table low read past =
    page_without_room tables number (let e = room_here tables (number / 8192) table low read in omega arith)

-- the page itself
pub changed_same : (tables : List Table) (number : ℕ) (table table-2 : Table) (page : Page) → number / 8192 < length tables → number % 8192 < length table.pages.items → table-2.pages.items ≡ set table.pages.items (number % 8192) page → page_at (set tables (number / 8192) table-2) number ≡ page
unfolding page_at
changed_same tables number table table-2 page low low-2 put =
    ap (λ (o : Option Table). page_in o (number % 8192)) (get_set_same tables (number / 8192) table-2 low)
    ∙ (ap (λ (l : List Page). get_or l (number % 8192) (bare_if (bit_of table-2.mapped.items (number % 8192)))) put
    ∙ get_or-set_same table.pages.items (number % 8192) page (bare_if (bit_of table-2.mapped.items (number % 8192))) low-2)

-- every other
pub changed_other : (tables : List Table) (number n : ℕ) (table table-2 : Table) (page : Page) → number / 8192 < length tables → table ≡ get_or tables (number / 8192) table → table-2.pages.items ≡ set table.pages.items (number % 8192) page → table-2.mapped.items ≡ table.mapped.items → n ≢ number → page_at (set tables (number / 8192) table-2) n ≡ page_at tables n
unfolding page_at
changed_other tables number n table table-2 page low read put marks other =
    elim (cases_eq (n / 8192) (number / 8192)) [
      | inr apart ↦ ap (λ (o : Option Table). page_in o (n % 8192)) (get_set_other tables (number / 8192) (n / 8192) table-2 apart)
      | inl same ↦
          let apart : n % 8192 ≢ number % 8192 = omega arith in
          ap (λ (k : ℕ). page_in (slice_get (set tables (number / 8192) table-2) k) (n % 8192)) same
          ∙ (ap (λ (o : Option Table). page_in o (n % 8192)) (get_set_same tables (number / 8192) table-2 low)
          ∙ (ap (λ (l : List Page). get_or l (n % 8192) (bare_if (bit_of table-2.mapped.items (n % 8192)))) put
          ∙ (get_or-set_other table.pages.items (number % 8192) (n % 8192) page (bare_if (bit_of table-2.mapped.items (n % 8192))) apart
          ∙ (ap (λ (l : List ℕ). get_or table.pages.items (n % 8192) (bare_if (bit_of l (n % 8192)))) marks
          ∙ (sym (ap (λ (o : Option Table). page_in o (n % 8192)) (slice_get_read tables (length tables) (number / 8192) table refl low read))
          ∙ sym (ap (λ (k : ℕ). page_in (slice_get tables k) (n % 8192)) same))))))
    ]

pub with_bytes_in : (start : ℕ) (bytes : List ℕ) (f : ℕ → Option Cell) (a : ℕ) → start ≤ a → a < start + length bytes → with_bytes start bytes f a ≡ with_byte (get_or bytes (a - start) 0) (f a)
unfolding with_bytes
with_bytes_in start bytes f a low high = rw (within_inside start (length bytes) a low high) refl

pub with_bytes_out : (start : ℕ) (bytes : List ℕ) (f : ℕ → Option Cell) (a : ℕ) → (a < start) ⊎ (start + length bytes ≤ a) → with_bytes start bytes f a ≡ f a
unfolding with_bytes
with_bytes_out start bytes f a out = rw (within_outside start (length bytes) a out) refl

-- what stands at each address, by the pages
pub cells_by_page : (tables tables-2 : List Table) (a : ℕ) → page_at tables (a / 4096) ≡ page_at tables-2 (a / 4096) → cells tables a ≡ cells tables-2 a
unfolding cells
cells_by_page tables tables-2 a same = ap (λ (p : Page). cell_in p (a % 4096)) same

-- bytes were written into one page
pub cells_written : (tables tables-2 : List Table) (at : ℕ) (bytes : List ℕ) (page : Page) → page_at tables-2 (at / 4096) ≡ page → ((n : ℕ) → n ≢ at / 4096 → page_at tables-2 n ≡ page_at tables n) → ((k : ℕ) → cell_in page k ≡ with_bytes (at % 4096) bytes (cell_in (page_at tables (at / 4096))) k) → at % 4096 + length bytes ≤ 4096 → (a : ℕ) → cells tables-2 a ≡ with_bytes at bytes (cells tables) a
unfolding cells
cells_written tables tables-2 at bytes page new others written room a =
    elim (cases_eq (a / 4096) (at / 4096)) [
      | inr apart ↦
          let out : (a < at) ⊎ (at + length bytes ≤ a) = elim (cases_lt a at) [ inl below ↦ inl below | inr from ↦ inr (omega arith) ] in
          ap (λ (p : Page). cell_in p (a % 4096)) (others (a / 4096) apart)
          ∙ sym (with_bytes_out at bytes (cells tables) a out)
      | inl same ↦
          let here = ap (λ (k : ℕ). cell_in (page_at tables-2 k) (a % 4096)) same ∙ (ap (λ (p : Page). cell_in p (a % 4096)) new ∙ written (a % 4096)) in
          let old : cell_in (page_at tables (at / 4096)) (a % 4096) ≡ cells tables a = ap (λ (k : ℕ). cell_in (page_at tables k) (a % 4096)) (sym same) in
          elim (cases_lt a at) [
            | inl below ↦
                here ∙ (with_bytes_out (at % 4096) bytes (cell_in (page_at tables (at / 4096))) (a % 4096) (inl (omega arith))
                ∙ (old ∙ sym (with_bytes_out at bytes (cells tables) a (inl below))))
            | inr from ↦ elim (cases_lt a (at + length bytes)) [
              | inr past ↦
                  here ∙ (with_bytes_out (at % 4096) bytes (cell_in (page_at tables (at / 4096))) (a % 4096) (inr (omega arith))
                  ∙ (old ∙ sym (with_bytes_out at bytes (cells tables) a (inr past))))
              | inl inside ↦
                  let e : a % 4096 - at % 4096 ≡ a - at = omega arith in
                  here ∙ (with_bytes_in (at % 4096) bytes (cell_in (page_at tables (at / 4096))) (a % 4096) (omega arith) (omega arith)
                  ∙ (ap (λ (k : ℕ). with_byte (get_or bytes k 0) (cell_in (page_at tables (at / 4096)) (a % 4096))) e
                  ∙ (ap (with_byte (get_or bytes (a - at) 0)) old
                  ∙ sym (with_bytes_in at bytes (cells tables) a from inside))))
            ]
          ]
    ]

chosen : (b : Bool) (rights : Rights) (x y n : ℕ) → n ≡ (if b then x else y) → Some (cell rights n) ≡ (if b then Some (cell rights x) else Some (cell rights y))
chosen true rights x y n e = ap (λ (m : ℕ). Some (cell rights m)) e
chosen false rights x y n e = ap (λ (m : ℕ). Some (cell rights m)) e

-- bytes were put into the bytes of a page
pub put_cell : (rights : Rights) (old new : List ℕ) (place : ℕ) (bytes : List ℕ) (k : ℕ) → get_or new k 0 ≡ (if within place (length bytes) k then get_or bytes (k - place) 0 else get_or old k 0) → Some (cell rights (get_or new k 0)) ≡ with_bytes place bytes (λ (i : ℕ). Some (cell rights (get_or old i 0))) k
unfolding with_bytes
put_cell rights old new place bytes k put = chosen (within place (length bytes) k) rights (get_or bytes (k - place) 0) (get_or old k 0) (get_or new k 0) put

pub none_held : (needed : Rights) (page : Page) → page ≡ Absent → false ≡ is_some (held_in needed page)
none_held needed page absent = rw absent refl

pub bare_held : (needed : Rights) (mapped : Bool) (page : Page) → page ≡ bare_if mapped → false ≡ is_some (held_in needed page)
bare_held needed true page bare = rw bare refl
bare_held needed false page bare = rw bare refl

-- the page is what it was
pub unchanged : (tables : List Table) (number n : ℕ) (table table-2 : Table) (page : Page) → number / 8192 < length tables → table ≡ get_or tables (number / 8192) table → number % 8192 < length table.pages.items → table-2.pages.items ≡ set table.pages.items (number % 8192) page → table-2.mapped.items ≡ table.mapped.items → page_at tables number ≡ page → page_at (set tables (number / 8192) table-2) n ≡ page_at tables n
unchanged tables number n table table-2 page low read low-2 put marks same =
    elim (cases_eq n number) [
      | inl equal ↦
          ap (page_at (set tables (number / 8192) table-2)) equal
          ∙ (changed_same tables number table table-2 page low low-2 put ∙ (sym same ∙ sym (ap (page_at tables) equal)))
      | inr other ↦ changed_other tables number n table table-2 page low read put marks other
    ]

-- a page that was looked up, and what its table says where none was
pub right_found : (found : Option (Bor Page)) (page : Page) (mapped : Bool) → MatchOption found (page ≡ bare_if mapped) (λ (p : Bor Page). page ≡ p.now) → right_in (page_found found) ≡ right_in page
right_found None page true is = rw is refl
right_found None page false is = rw is refl
right_found (Some p) page mapped is = ap right_in (sym is)

pub runs_found : (found : Option (Bor Page)) (page : Page) (mapped : Bool) → MatchOption found (page ≡ bare_if mapped) (λ (p : Bor Page). page ≡ p.now) → runs_in (page_found found) ≡ runs_in page
runs_found None page true is = rw is refl
runs_found None page false is = rw is refl
runs_found (Some p) page mapped is = ap runs_in (sym is)

pub right_without_room : (tables : List Table) (number : ℕ) → room_of (slice_get tables (number / 8192)) ≡ 0 → right_in (page_at tables number) ≡ false
right_without_room tables number none = bare_right (mark_at tables number) (page_at tables number) (page_without_room tables number (omega arith))
  where
    bare_right : (mapped : Bool) (page : Page) → page ≡ bare_if mapped → right_in page ≡ false
    bare_right true page is = rw is refl
    bare_right false page is = rw is refl

pub runs_without_room : (tables : List Table) (number : ℕ) → room_of (slice_get tables (number / 8192)) ≡ 0 → runs_in (page_at tables number) ≡ false
runs_without_room tables number none = bare_runs (mark_at tables number) (page_at tables number) (page_without_room tables number (omega arith))
  where
    bare_runs : (mapped : Bool) (page : Page) → page ≡ bare_if mapped → runs_in page ≡ false
    bare_runs true page is = rw is refl
    bare_runs false page is = rw is refl
