-- Writes that follow one another, and what a write leaves.
use Rattle.std.proofs.Common.{◌≡◌, ℕ, ◌+◌, ◌-◌, ◌*◌, ◌/◌, ◌%◌, ◌<◌, ◌≤◌, Bool, true, false, if◌then◌else◌, List, length, get_or, take, drop, Option, Some, None, is_some, inl, inr, refl, sym, ap, ◌∙◌, arith, length-take, length-drop, w64}
use Rattle.std.proofs.lemmas.Bool.{cases_lt}
use Rattle.std.proofs.lemmas.List.{get_or-take, get_or-drop}
use Rattle.guest_pages.specs.declared.page.Page.{Page}
use Rattle.guest_pages.specs.declared.page.Page.TheVariants.{Absent, Bare, Held}
use Rattle.guest_pages.specs.declared.page.Table.{Table}
use Rattle.guest_pages.specs.declared.rights.Rights.{Rights}
use Rattle.guest_pages.specs.Cells.{Cell, has_none}
use Rattle.guest_pages.specs.Counting.{rights_of}
use Rattle.guest_pages.specs.Faults.{fault_of, first_fault, KeepsRights}
use Rattle.guest_pages.specs.Operations.{with_byte, written, stored_pages}
use Rattle.guest_pages.specs.Ranges.{within}
use Rattle.guest_pages.specs.Tables.{cell_in, held_in, is_present, mark_at, page_at, cells, held, AreMarked, IsSound}
use Rattle.guest_pages.specs.Finding.{is_mapped}
use Rattle.guest_pages.specs.Writes.{with_bytes}
use Rattle.std.specs.Int.{to_le_bytes}
use Rattle.byteorder.specs.Endian.{little_bytes}
use Rattle.guest_pages.specs.declared.width.Width.{Width}
use Rattle.guest_pages.specs.declared.width.Width.TheVariants.{One, Two, Four, Eight}
use Rattle.guest_pages.specs.Sizes.{size_of}
use Rattle.guest_pages.proofs.TableFacts.{same_ranges, cell_at_held, fault_is}
use Rattle.guest_pages.proofs.FaultFacts.{fault_none, good_at, page_good}
use Rattle.guest_pages.proofs.ByteFacts.{good_held, held_good}
use Rattle.guest_pages.proofs.Counting.{stored_same, tables_paged}
use Rattle.guest_pages.proofs.PageFacts.{with_bytes_in, with_bytes_out}

-- one more piece is written
pub with_bytes_more : (f g : ℕ → Option Cell) (at done count : ℕ) (bytes : List ℕ) (a : ℕ) → done + count ≤ length bytes → ((k : ℕ) → g k ≡ with_bytes at (take done bytes) f k) → with_bytes (at + done) (take count (drop done bytes)) g a ≡ with_bytes at (take (done + count) bytes) f a
with_bytes_more f g at done count bytes a room before =
    let first : length (take done bytes) ≡ done = simp length-take (omega arith) in
    let piece : length (take count (drop done bytes)) ≡ count = simp (length-take, length-drop) (omega arith) in
    let both : length (take (done + count) bytes) ≡ done + count = simp length-take (omega arith) in
    elim (cases_lt a at) [
      | inl below ↦
          with_bytes_out (at + done) (take count (drop done bytes)) g a (inl (omega arith))
          ∙ (before a
          ∙ (with_bytes_out at (take done bytes) f a (inl below)
          ∙ sym (with_bytes_out at (take (done + count) bytes) f a (inl below))))
      | inr from ↦ elim (cases_lt a (at + done)) [
        | inl old ↦
            let k : a - at < done = omega arith in
            let k-2 : a - at < done + count = omega arith in
            with_bytes_out (at + done) (take count (drop done bytes)) g a (inl old)
            ∙ (before a
            ∙ (with_bytes_in at (take done bytes) f a from (omega arith)
            ∙ (ap (λ (x : ℕ). with_byte x (f a)) (get_or-take done bytes (a - at) 0 k ∙ sym (get_or-take (done + count) bytes (a - at) 0 k-2))
            ∙ sym (with_bytes_in at (take (done + count) bytes) f a from (omega arith)))))
        | inr later ↦ elim (cases_lt a (at + done + count)) [
          | inl here ↦
              let k : a - (at + done) < count = omega arith in
              let k-2 : a - at < done + count = omega arith in
              let e : done + (a - (at + done)) ≡ a - at = omega arith in
              with_bytes_in (at + done) (take count (drop done bytes)) g a later (omega arith)
              ∙ (ap (λ (x : ℕ). with_byte x (g a)) (get_or-take count (drop done bytes) (a - (at + done)) 0 k ∙ (get_or-drop done bytes (a - (at + done)) 0 ∙ (ap (λ (i : ℕ). get_or bytes i 0) e ∙ sym (get_or-take (done + count) bytes (a - at) 0 k-2))))
              ∙ (ap (with_byte (get_or (take (done + count) bytes) (a - at) 0)) (before a ∙ with_bytes_out at (take done bytes) f a (inr (omega arith)))
              ∙ sym (with_bytes_in at (take (done + count) bytes) f a from (omega arith))))
          | inr past ↦
              with_bytes_out (at + done) (take count (drop done bytes)) g a (inr (omega arith))
              ∙ (before a
              ∙ (with_bytes_out at (take done bytes) f a (inr (omega arith))
              ∙ sym (with_bytes_out at (take (done + count) bytes) f a (inr (omega arith)))))
        ]
      ]
    ]

-- nothing is written
pub with_bytes_none : (at : ℕ) (f : ℕ → Option Cell) (bytes : List ℕ) (a : ℕ) → length bytes ≡ 0 → with_bytes at bytes f a ≡ f a
with_bytes_none at f bytes a none =
    with_bytes_out at bytes f a (elim (cases_lt a at) [ inl below ↦ inl below | inr from ↦ inr (omega arith) ])

some_or : {X : Type 0} (o : Option X) → (o ≡ None → ⊥) → is_some o ≡ true
some_or None never = absurd (never refl)
some_or (Some x) never = refl

-- an address past the bytes that were written, in a range that could be written, can be written
pub still_good : (needed : Rights) (tables tables-2 : List Table) (at done size : ℕ) (bytes : List ℕ) → has_none needed ≡ false → length tables ≤ 8192 → first_fault needed (held tables) at size ≡ None → done < size → length bytes ≡ done → ((a : ℕ) → cells tables-2 a ≡ with_bytes at bytes (cells tables) a) → is_some (held_in needed (page_at tables-2 ((at + done) / 4096))) ≡ true
unfolding cells
still_good needed tables tables-2 at done size bytes some small good below full now =
    let place : ℕ = at + done in
    let before = sym (ap (fault_of needed (at + done)) (cell_at_held tables (at + done) small)) ∙ good_at needed (held tables) at size (at + done) good (omega arith) (omega arith) in
    let same = now (at + done) ∙ with_bytes_out at bytes (cells tables) (at + done) (inr (omega arith)) in
    let after = sym (fault_is needed (page_at tables-2 ((at + done) / 4096)) (at + done)) ∙ (ap (fault_of needed (at + done)) same ∙ before) in
    some_or _ (good_held needed (page_at tables-2 ((at + done) / 4096)) (at + done) some after)

-- the memory that is written, by its cells
pub written_held : (tables tables-2 : List Table) (at : ℕ) (bytes : List ℕ) → length tables ≤ 8192 → ((a : ℕ) → cells tables-2 a ≡ with_bytes at bytes (cells tables) a) → held tables-2 ≡ written at bytes (held tables)
unfolding held written with_bytes
written_held tables tables-2 at bytes small same =
    same_ranges (cells tables-2) _ (λ a. same a ∙ ap (λ (o : Option Cell). if within at (length bytes) a then with_byte (get_or bytes (a - at) 0) o else o) (sym (cell_at_held tables a small)))

pub same_held : (tables tables-2 : List Table) → ((a : ℕ) → cells tables-2 a ≡ cells tables a) → held tables-2 ≡ held tables
unfolding held
same_held tables tables-2 same = same_ranges (cells tables-2) (cells tables) same

byte_rights : (byte : ℕ) (o : Option Cell) → rights_of (with_byte byte o) ≡ rights_of o
byte_rights byte None = refl
byte_rights byte (Some c) = refl

choice_rights : (b : Bool) (byte : ℕ) (o : Option Cell) → rights_of (if b then with_byte byte o else o) ≡ rights_of o
choice_rights true byte o = byte_rights byte o
choice_rights false byte o = refl

bytes_rights : (at : ℕ) (bytes : List ℕ) (f : ℕ → Option Cell) (a : ℕ) → rights_of (with_bytes at bytes f a) ≡ rights_of (f a)
unfolding with_bytes
bytes_rights at bytes f a = choice_rights (within at (length bytes) a) (get_or bytes (a - at) 0) (f a)

-- a write stores as many pages
pub written_stored : (tables tables-2 : List Table) (at : ℕ) (bytes : List ℕ) → ((a : ℕ) → cells tables-2 a ≡ with_bytes at bytes (cells tables) a) → stored_pages (held tables-2) ≡ stored_pages (held tables)
unfolding held
written_stored tables tables-2 at bytes same =
    stored_same (cells tables-2) (cells tables) (tables_paged tables-2) (tables_paged tables) (λ a. ap rights_of (same a) ∙ bytes_rights at bytes (cells tables) a)

-- what a write leaves is sound
mapped_page : (page : Page) (place : ℕ) → is_mapped (cell_in page place) ≡ is_present page
mapped_page Absent place = refl
mapped_page Bare place = refl
mapped_page (Held rights bytes) place = refl

present_is : (tables : List Table) (n : ℕ) → is_present (page_at tables n) ≡ is_mapped (cells tables (4096 * n))
unfolding cells
present_is tables n =
    let e : n ≡ 4096 * n / 4096 = omega arith in
    ap (λ (k : ℕ). is_present (page_at tables k)) e ∙ sym (mapped_page (page_at tables (4096 * n / 4096)) (4096 * n % 4096))

-- the marks are right, where they are those of the cells
pub marked_by : (tables : List Table) → ((n : ℕ) → mark_at tables n ≡ is_mapped (cells tables (4096 * n))) → AreMarked tables
marked_by tables same = λ n. same n ∙ sym (present_is tables n)

pub marked_is : (tables : List Table) → AreMarked tables → (n : ℕ) → mark_at tables n ≡ is_mapped (cells tables (4096 * n))
marked_is tables marked = λ n. marked n ∙ present_is tables n

-- where no address is mapped or is not any more
pub marked_same : (tables tables-2 : List Table) → AreMarked tables → ((n : ℕ) → mark_at tables-2 n ≡ mark_at tables n) → ((a : ℕ) → is_mapped (cells tables-2 a) ≡ is_mapped (cells tables a)) → AreMarked tables-2
marked_same tables tables-2 marked marks same =
    marked_by tables-2 (λ n. marks n ∙ (marked_is tables marked n ∙ sym (same (4096 * n))))

byte_mapped : (byte : ℕ) (o : Option Cell) → is_mapped (with_byte byte o) ≡ is_mapped o
byte_mapped byte None = refl
byte_mapped byte (Some c) = refl

pub either_mapped : (b : Bool) (x y : Option Cell) → is_mapped x ≡ is_mapped y → is_mapped (if b then x else y) ≡ is_mapped y
either_mapped true x y same = same
either_mapped false x y same = refl

bytes_mapped : (at : ℕ) (bytes : List ℕ) (f : ℕ → Option Cell) (a : ℕ) → is_mapped (with_bytes at bytes f a) ≡ is_mapped (f a)
unfolding with_bytes
bytes_mapped at bytes f a = either_mapped (within at (length bytes) a) _ (f a) (byte_mapped (get_or bytes (a - at) 0) (f a))

pub sound_written : (tables tables-2 : List Table) (stored at : ℕ) (bytes : List ℕ) → IsSound tables stored → length tables-2 ≡ length tables → ((n : ℕ) → mark_at tables-2 n ≡ mark_at tables n) → ((a : ℕ) → cells tables-2 a ≡ with_bytes at bytes (cells tables) a) → IsSound tables-2 stored
sound_written tables tables-2 stored at bytes sound size marks same =
    let small = sound.small in
    record {
      small = omega arith;
      marked = marked_same tables tables-2 sound.marked marks (λ a. ap is_mapped (same a) ∙ bytes_mapped at bytes (cells tables) a);
      counted = sound.counted ∙ sym (written_stored tables tables-2 at bytes same);
    }

pub sound_same : (tables tables-2 : List Table) (stored : ℕ) → IsSound tables stored → (length tables ≤ 8192 → length tables-2 ≤ 8192) → ((n : ℕ) → mark_at tables-2 n ≡ mark_at tables n) → ((a : ℕ) → cells tables-2 a ≡ cells tables a) → IsSound tables-2 stored
sound_same tables tables-2 stored sound size marks same =
    record {
      small = size sound.small;
      marked = marked_same tables tables-2 sound.marked marks (λ a. ap is_mapped (same a));
      counted = sound.counted ∙ sym (ap stored_pages (same_held tables tables-2 same));
    }

-- the first bytes of a number are its lowest
pub low_bytes_of : (width : Width) (value : ℕ) → take (size_of width) (to_le_bytes w64 value) ≡ little_bytes (size_of width) value
low_bytes_of One value = refl
low_bytes_of Two value = refl
low_bytes_of Four value = refl
low_bytes_of Eight value = refl

pub is_some_value : {X : Type 0} (o : Option X) → is_some o ≡ true → (x : X) × (o ≡ Some x)
is_some_value None h = absurd (false_true h)
  where
    false_true : false ≡ true → ⊥
    false_true e = cc
is_some_value (Some x) h = (x, refl)

-- a page that was written was good
pub near_good : (needed : Rights) (tables : List Table) (at n : ℕ) → length tables ≤ 8192 → at % 4096 + n ≤ 4096 → is_some (held_in needed (page_at tables (at / 4096))) ≡ true → first_fault needed (held tables) at n ≡ None
near_good needed tables at n small room done =
    let found = is_some_value (held_in needed (page_at tables (at / 4096))) done in
    page_good needed tables at n small (held_good needed (page_at tables (at / 4096)) found.0 at found.1) room

pub low_length : (width : Width) (value : ℕ) → length (little_bytes (size_of width) value) ≡ size_of width
low_length One value = refl
low_length Two value = refl
low_length Four value = refl
low_length Eight value = refl

fault_byte : (needed : Rights) (a byte : ℕ) (o : Option Cell) → fault_of needed a o ≡ None → fault_of needed a (with_byte byte o) ≡ None
fault_byte needed a byte None good = good
fault_byte needed a byte (Some c) good = good

fault_choice : (needed : Rights) (b : Bool) (a byte : ℕ) (o : Option Cell) → fault_of needed a o ≡ None → fault_of needed a (if b then with_byte byte o else o) ≡ None
fault_choice needed true a byte o good = fault_byte needed a byte o good
fault_choice needed false a byte o good = good

-- a write leaves what can be used
pub rights_stay : (tables tables-2 : List Table) (at : ℕ) (bytes : List ℕ) → length tables ≤ 8192 → length tables-2 ≤ 8192 → ((a : ℕ) → cells tables-2 a ≡ with_bytes at bytes (cells tables) a) → KeepsRights (held tables) (held tables-2)
unfolding with_bytes
rights_stay tables tables-2 at bytes small small-2 same needed from n good =
    fault_none needed (held tables-2) from n (λ i low high.
    ap (fault_of needed i) (cell_at_held tables-2 i small-2 ∙ same i)
    ∙ fault_choice needed (within at (length bytes) i) i (get_or bytes (i - at) 0) (cells tables i)
    (sym (ap (fault_of needed i) (cell_at_held tables i small)) ∙ good_at needed (held tables) from n i good low high))
