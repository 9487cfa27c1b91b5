-- Room in the tables, and fresh pages.
use Rattle.std.proofs.Common.{◌≡◌, ◌≢◌, ℕ, zero, suc, ◌+◌, ◌*◌, ◌/◌, ◌%◌, ◌<◌, ◌≤◌, Bool, true, false, if◌then◌else◌, ◌-◌, List, [], ◌∷◌, ◌++◌, length, get_or, set, replicate, Option, None, slice_get, inl, inr, refl, sym, ap, ◌∙◌, arith}
use Rattle.std.proofs.lemmas.Bool.{cases_eq, cases_lt}
use Rattle.std.proofs.lemmas.Option.{slice_get_read}
use Rattle.guest_pages.specs.declared.page.Page.{Page}
use Rattle.guest_pages.specs.declared.page.Table.{Table}
use Rattle.guest_pages.specs.declared.page.Page.TheVariants.{Absent, Bare, Held}
use Rattle.guest_pages.specs.Cells.{Cell}
use Rattle.guest_pages.specs.Counting.{rights_of, some_right, one_if, count_pages}
use Rattle.guest_pages.specs.Mapping.{IsZero, room_of, words_of, HasRoom, HasMark}
use Rattle.guest_pages.specs.Tables.{bare_if, cell_in, mark_in, mark_at, page_in, page_at, cells, right_in}
use Rattle.guest_pages.specs.Bits.{bit_of}
use Rattle.guest_pages.proofs.BitFacts.{bits_by_place, bits_past, chosen_in, chosen_out, unless_true}
use Rattle.guest_pages.proofs.Counting.{count_split, count_alike}
use Rattle.guest_pages.proofs.PageFacts.{get_set_same, get_set_other, page_without_room, right_without_room, through_push}
use Rattle.guest_pages.specs.Ranges.{within}
use Rattle.std.proofs.lemmas.List.{get_or_default}

zero_at : (n place : ℕ) → get_or (replicate {A = ℕ} n 0) place 0 ≡ 0
zero_at zero place = refl
zero_at (suc n) zero = refl
zero_at (suc n) (suc place) = zero_at n place

pub zeros : (n : ℕ) → IsZero (replicate {A = ℕ} n 0)
zeros n = record { zero = λ place. zero_at n place }

page_right : (page : Page) (place : ℕ) → some_right (rights_of (cell_in page place)) ≡ right_in page
page_right Absent place = refl
page_right Bare place = refl
page_right (Held rights bytes) place = refl

-- a page has a right where its first cell has one
pub right_first : (tables : List Table) (number : ℕ) → some_right (rights_of (cells tables (4096 * number))) ≡ right_in (page_at tables number)
unfolding cells
right_first tables number =
    let e : 4096 * number / 4096 ≡ number = omega arith in
    page_right (page_at tables (4096 * number / 4096)) (4096 * number % 4096) ∙ ap (λ (n : ℕ). right_in (page_at tables n)) e

pub count_next : (f : ℕ → Option Cell) (p n : ℕ) → count_pages f p (n + 1) ≡ count_pages f p n + one_if (some_right (rights_of (f (4096 * (p + n)))))
unfolding count_pages
count_next f p n =
    count_split f p n 1 ∙ omega arith

pub count_none : (f : ℕ → Option Cell) (p : ℕ) → count_pages f p 0 ≡ 0
unfolding count_pages
count_none f p = refl

pub one_if_true : (b : Bool) → b ≡ true → one_if b ≡ 1
one_if_true b h = rw h refl

pub one_if_false : (b : Bool) → b ≡ false → one_if b ≡ 0
one_if_false b h = rw h refl

-- a table with no room, and no marks, changes no page
pub page_push : (tables : List Table) (t : Table) (n : ℕ) → t.pages.items ≡ [] → t.mapped.items ≡ [] → page_at (tables ++ t ∷ []) n ≡ page_at tables n
unfolding page_at
page_push tables t n empty unmarked =
    through_push (λ (o : Option Table). page_in o (n % 8192)) tables t (n / 8192)
    (ap (λ (l : List Page). get_or l (n % 8192) (bare_if (bit_of t.mapped.items (n % 8192)))) empty
    ∙ (ap (λ (l : List ℕ). bare_if (bit_of l (n % 8192))) unmarked ∙ ap bare_if (bits_past [] (n % 8192) (omega arith))))

pub mark_push : (tables : List Table) (t : Table) (n : ℕ) → t.mapped.items ≡ [] → mark_at (tables ++ t ∷ []) n ≡ mark_at tables n
unfolding mark_at
mark_push tables t n unmarked =
    through_push (λ (o : Option Table). mark_in o (n % 8192)) tables t (n / 8192)
    (ap (λ (l : List ℕ). bit_of l (n % 8192)) unmarked ∙ bits_past [] (n % 8192) (omega arith))

-- nor does room for a page that stores nothing
pub push_own : (f : ℕ → Page) (pages : List Page) (n : ℕ) → get_or (pages ++ f (length pages) ∷ []) n (f n) ≡ get_or pages n (f n)
push_own f [] zero = refl
push_own f [] (suc n) = refl
push_own f (x ∷ xs) zero = refl
push_own f (x ∷ xs) (suc n) = push_own (λ (k : ℕ). f (suc k)) xs n

pub room_filled : (tables : List Table) (i k : ℕ) (t-2 : Table) → i < length tables → 8192 ≤ length t-2.pages.items → (k ≢ i → 8192 ≤ room_of (slice_get tables k)) → 8192 ≤ room_of (slice_get (set tables i t-2) k)
room_filled tables i k t-2 low full before =
    elim (cases_eq k i) [
      | inl equal ↦
          let e = ap (λ (j : ℕ). room_of (slice_get (set tables i t-2) j)) equal ∙ ap room_of (get_set_same tables i t-2 low) in
          omega arith
      | inr apart ↦
          let e = ap room_of (get_set_other tables i k t-2 apart) in
          let b = before apart in
          omega arith
    ]

pub words_filled : (tables : List Table) (i k : ℕ) (t-2 : Table) → i < length tables → 128 ≤ length t-2.mapped.items → (k ≢ i → 128 ≤ words_of (slice_get tables k)) → 128 ≤ words_of (slice_get (set tables i t-2) k)
words_filled tables i k t-2 low full before =
    elim (cases_eq k i) [
      | inl equal ↦
          let e = ap (λ (j : ℕ). words_of (slice_get (set tables i t-2) j)) equal ∙ ap words_of (get_set_same tables i t-2 low) in
          omega arith
      | inr apart ↦
          let e = ap words_of (get_set_other tables i k t-2 apart) in
          let b = before apart in
          omega arith
    ]

pub has_mark : (tables : List Table) (n : ℕ) → 128 ≤ words_of (slice_get tables (n / 8192)) → HasMark tables n
unfolding HasMark
has_mark tables n full = full

pub has_room : (tables : List Table) (n : ℕ) → 8192 ≤ room_of (slice_get tables (n / 8192)) → HasRoom tables n
unfolding HasRoom
has_room tables n full = omega arith

get_length : (tables : List Table) (k place : ℕ) → place < room_of (slice_get tables k) → k < length tables
get_length [] k place room = absurd (omega arith)
get_length (x ∷ xs) zero place room = omega arith
get_length (x ∷ xs) (suc k) place room = let r = get_length xs k place room in omega arith

pub room_outer : (tables : List Table) (n : ℕ) → HasRoom tables n → n / 8192 < length tables
unfolding HasRoom
room_outer tables n room = get_length tables (n / 8192) (n % 8192) room

pub room_inner : (tables : List Table) (n : ℕ) (t : Table) → HasRoom tables n → t ≡ get_or tables (n / 8192) t → n % 8192 < length t.pages.items
unfolding HasRoom
room_inner tables n t room read =
    let low = get_length tables (n / 8192) (n % 8192) room in
    let e = ap room_of (slice_get_read tables (length tables) (n / 8192) t refl low read) in
    omega arith

-- where all tables keep their room
pub room_same : (tables tables-2 : List Table) (n : ℕ) → ((k : ℕ) → room_of (slice_get tables-2 k) ≡ room_of (slice_get tables k)) → HasRoom tables n → HasRoom tables-2 n
unfolding HasRoom
room_same tables tables-2 n same room = let e = same (n / 8192) in omega arith

pub no_room_same : (tables : List Table) (n : ℕ) → room_of (slice_get tables (n / 8192)) ≤ n % 8192 → HasRoom tables n → ⊥
unfolding HasRoom
no_room_same tables n none room = absurd (omega arith)

-- pages in tables without pages have no right
pub count_passed : (tables : List Table) (first done passed : ℕ) → ((n : ℕ) → first + done ≤ n → n < first + done + passed → room_of (slice_get tables (n / 8192)) ≡ 0) → count_pages (cells tables) first (done + passed) ≡ count_pages (cells tables) first done
count_passed tables first done passed none =
    let split = count_split (cells tables) first done passed in
    let rest = count_alike (cells tables) false (first + done) passed (λ q low high. right_first tables q ∙ right_without_room tables q (none q low high)) in
    omega arith

-- ---- marks

mark_read : (tables : List Table) (n k : ℕ) (table : Table) → k < length tables → table ≡ get_or tables k table → n / 8192 ≡ k → mark_at tables n ≡ bit_of table.mapped.items (n % 8192)
unfolding mark_at
mark_read tables n k table low read here =
    ap (λ (i : ℕ). mark_in (slice_get tables i) (n % 8192)) here
    ∙ ap (λ (o : Option Table). mark_in o (n % 8192)) (slice_get_read tables (length tables) k table refl low read)

mark_set : (tables : List Table) (n k : ℕ) (table : Table) → k < length tables → n / 8192 ≡ k → mark_at (set tables k table) n ≡ bit_of table.mapped.items (n % 8192)
unfolding mark_at
mark_set tables n k table low here =
    ap (λ (i : ℕ). mark_in (slice_get (set tables k table) i) (n % 8192)) here
    ∙ ap (λ (o : Option Table). mark_in o (n % 8192)) (get_set_same tables k table low)

mark_apart : (tables : List Table) (n k : ℕ) (table : Table) → n / 8192 ≢ k → mark_at (set tables k table) n ≡ mark_at tables n
unfolding mark_at
mark_apart tables n k table apart = ap (λ (o : Option Table). mark_in o (n % 8192)) (get_set_other tables k (n / 8192) table apart)

pub marks_put : (tables : List Table) (number size : ℕ) (on : Bool) (table table-2 : Table) → number / 8192 < length tables → table ≡ get_or tables (number / 8192) table → size ≤ 8192 - number % 8192 → ((k : ℕ) → bit_of table-2.mapped.items k ≡ (if within (number % 8192) size k then on else bit_of table.mapped.items k)) → (n : ℕ) → mark_at (set tables (number / 8192) table-2) n ≡ (if within number size n then on else mark_at tables n)
marks_put tables number size on table table-2 low read few put =
    bits_by_place (mark_at tables) (mark_at (set tables (number / 8192) table-2)) number size on
    (λ n from inside.
    mark_set tables n (number / 8192) table-2 low (omega arith)
    ∙ (put (n % 8192) ∙ chosen_in (number % 8192) size (n % 8192) on (bit_of table.mapped.items (n % 8192)) (omega arith) (omega arith)))
    (λ n out. elim (cases_eq (n / 8192) (number / 8192)) [
      | inr apart ↦ mark_apart tables n (number / 8192) table-2 apart
      | inl same ↦
          mark_set tables n (number / 8192) table-2 low same
          ∙ (put (n % 8192)
          ∙ (chosen_out (number % 8192) size (n % 8192) on (bit_of table.mapped.items (n % 8192)) (elim out [ inl below ↦ inl (omega arith) | inr past ↦ inr (omega arith) ])
          ∙ sym (mark_read tables n (number / 8192) table low read same)))
    ])

get_past : (xs : List Table) (i : ℕ) → length xs ≤ i → slice_get xs i ≡ None
get_past [] i past = refl
get_past (x ∷ xs) zero past = absurd (omega arith)
get_past (x ∷ xs) (suc i) past = get_past xs i (omega arith)

none_marked : (tables : List Table) (n : ℕ) → length tables ≤ n / 8192 → mark_at tables n ≡ false
unfolding mark_at
none_marked tables n past = ap (λ (o : Option Table). mark_in o (n % 8192)) (get_past tables (n / 8192) past)

no_mark : (tables : List Table) (n : ℕ) → length tables ≤ n / 8192 → HasMark tables n → ⊥
unfolding HasMark
no_mark tables n past has = let e = ap words_of (get_past tables (n / 8192) past) in absurd (omega arith)

pub marks_unset : (tables : List Table) (number size : ℕ) (on : Bool) → length tables ≤ number / 8192 → (on ≡ true → HasMark tables number) → (n : ℕ) → mark_at tables n ≡ (if within number size n then on else mark_at tables n)
marks_unset tables number size on past has =
    bits_by_place (mark_at tables) (mark_at tables) number size on
    (λ n from inside. none_marked tables n (omega arith) ∙ sym (unless_true on (λ set. no_mark tables number past (has set))))
    (λ n out. refl)

pub mark_words : (tables : List Table) (number : ℕ) (table : Table) → number / 8192 < length tables → table ≡ get_or tables (number / 8192) table → HasMark tables number → 128 ≤ length table.mapped.items
unfolding HasMark
mark_words tables number table low read has =
    let e = ap words_of (slice_get_read tables (length tables) (number / 8192) table refl low read) in omega arith

pub mark_same : (tables tables-2 : List Table) (n : ℕ) → ((k : ℕ) → words_of (slice_get tables-2 k) ≡ words_of (slice_get tables k)) → HasMark tables n → HasMark tables-2 n
unfolding HasMark
mark_same tables tables-2 n same has = let e = same (n / 8192) in omega arith

-- marks change no page for which there is room
pub page_with_room : (tables : List Table) (k n : ℕ) (table table-2 : Table) → k < length tables → table ≡ get_or tables k table → table-2.pages.items ≡ table.pages.items → HasRoom tables n → page_at (set tables k table-2) n ≡ page_at tables n
unfolding page_at
page_with_room tables k n table table-2 low read pages room =
    elim (cases_eq (n / 8192) k) [
      | inr apart ↦ ap (λ (o : Option Table). page_in o (n % 8192)) (get_set_other tables k (n / 8192) table-2 apart)
      | inl same ↦
          let here : table ≡ get_or tables (n / 8192) table = read ∙ sym (ap (λ (i : ℕ). get_or tables i table) same) in
          let inner = room_inner tables n table room here in
          ap (λ (i : ℕ). page_in (slice_get (set tables k table-2) i) (n % 8192)) same
          ∙ (ap (λ (o : Option Table). page_in o (n % 8192)) (get_set_same tables k table-2 low)
          ∙ (ap (λ (l : List Page). get_or l (n % 8192) (bare_if (bit_of table-2.mapped.items (n % 8192)))) pages
          ∙ (get_or_default table.pages.items (n % 8192) (bare_if (bit_of table-2.mapped.items (n % 8192))) (bare_if (bit_of table.mapped.items (n % 8192))) inner
          ∙ (sym (ap (λ (o : Option Table). page_in o (n % 8192)) (slice_get_read tables (length tables) k table refl low read))
          ∙ sym (ap (λ (i : ℕ). page_in (slice_get tables i) (n % 8192)) same)))))
    ]

-- ---- pages that store nothing

bare_same : (tables tables-2 : List Table) (n : ℕ) → ((k : ℕ) → room_of (slice_get tables-2 k) ≡ room_of (slice_get tables k)) → room_of (slice_get tables (n / 8192)) ≤ n % 8192 → page_at tables-2 n ≡ bare_if (mark_at tables-2 n)
bare_same tables tables-2 n rooms none = page_without_room tables-2 n (let e = rooms (n / 8192) in omega arith)

-- a change of marks outside a page leaves it
pub page_unmarked : (tables tables-2 : List Table) (n : ℕ) → ((k : ℕ) → room_of (slice_get tables-2 k) ≡ room_of (slice_get tables k)) → (HasRoom tables n → page_at tables-2 n ≡ page_at tables n) → mark_at tables-2 n ≡ mark_at tables n → page_at tables-2 n ≡ page_at tables n
unfolding HasRoom
page_unmarked tables tables-2 n rooms held mark =
    elim (cases_lt (n % 8192) (room_of (slice_get tables (n / 8192)))) [
      | inl room ↦ held room
      | inr none ↦ bare_same tables tables-2 n rooms none ∙ (ap bare_if mark ∙ sym (page_without_room tables n none))
    ]

-- a page of which the mark is known
pub page_marked : (tables tables-2 : List Table) (n : ℕ) (on : Bool) → ((k : ℕ) → room_of (slice_get tables-2 k) ≡ room_of (slice_get tables k)) → (HasRoom tables n → page_at tables-2 n ≡ bare_if on) → mark_at tables-2 n ≡ on → page_at tables-2 n ≡ bare_if on
unfolding HasRoom
page_marked tables tables-2 n on rooms held mark =
    elim (cases_lt (n % 8192) (room_of (slice_get tables (n / 8192)))) [
      | inl room ↦ held room
      | inr none ↦ bare_same tables tables-2 n rooms none ∙ ap bare_if mark
    ]
