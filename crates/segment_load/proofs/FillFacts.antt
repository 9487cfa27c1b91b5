-- Pages get the bytes of segments.
use Rattle.std.proofs.Common.{◌≡◌, ℕ, ◌+◌, ◌-◌, ◌*◌, ◌/◌, ◌%◌, ◌^◌, ◌≤◌, ◌<◌, ◌⊎◌, inl, inr, Bool, true, false, if◌then◌else◌, List, [], ◌∷◌, length, get_or, take, drop, Some, None, refl, ap, sym, subst, ◌∙◌, arith, length-take, length-drop}
use Rattle.std.proofs.lemmas.Grind.{common_steps}
use mathlib.Core.Path.{fun_ext}
use Rattle.std.proofs.lemmas.List.{get_or-take, get_or-drop}
use Rattle.guest_pages.specs.declared.rights.Rights.{Rights}
use Rattle.guest_pages.specs.Cells.{cell, has_none}
use Rattle.guest_pages.specs.Faults.{changeable, fault_of, first_fault, writable}
use Rattle.guest_pages.specs.Operations.{protected, written}
use Rattle.guest_pages.specs.Ranges.{Range, within, cell_at, ranges_of}
use Rattle.guest_pages.proofs.FaultFacts.{fault_none}
use Rattle.guest_pages.proofs.RightsFacts.{within_high, within_inside, within_low, within_outside}
use Rattle.elf_file.specs.Segments.{SegmentImage}
use Rattle.segment_load.specs.Loading.{byte_at, cell_of, is_touched, loaded, page_rights}
use Rattle.segment_load.specs.Steps.{HasPages, over, paged, rights_in, zeros}
use Rattle.segment_load.proofs.CellFacts.{lt_or, one_within}
use Rattle.segment_load.proofs.PagedFacts.{back, has_alike, has_protected, has_same_bytes, has_written, rights_there, there, with_own}

-- ---- a page without rights keeps no byte

none_same : (rights : Rights) (news had : ℕ) → has_none rights ≡ true → cell rights had ≡ cell rights news
none_same rights news had none = rw none refl

skip_by : (w : Bool) (rights : Rights) (news had : ℕ) → (w ≡ true → has_none rights ≡ true) → cell rights had ≡ cell rights (if w then news else had)
skip_by true rights news had none = none_same rights news had (none refl)
skip_by false rights news had none = refl

-- bytes of one page
in_page : (at page a : ℕ) (bytes : List ℕ) → page ≡ at / 4096 → at % 4096 + length bytes ≤ 4096 → within at (length bytes) a ≡ true → a / 4096 ≡ page
in_page at page a bytes is near here =
    let low = within_low at (length bytes) a here in
    let high = within_high at (length bytes) a here in
    omega (arith, low, high, near, is)

pub has_passed : (at page : ℕ) (bytes : List ℕ) (rights : Rights) (m : ℕ → Bool) (r : ℕ → Rights) (b : ℕ → ℕ) (memory : List Range) → page ≡ at / 4096 → at % 4096 + length bytes ≤ 4096 → rights ≡ rights_in (cell_at memory (4096 * page)) → has_none rights ≡ true → HasPages m r b memory → HasPages m r (over at bytes b) memory
has_passed at page bytes rights m r b memory is near rights_is none has =
    has_alike m r r b (over at bytes b) memory has
    (λ a mapped. skip_by (within at (length bytes) a) (r (a / 4096)) (get_or bytes (a - at) 0) (b a)
    (λ here.
    let same : a / 4096 ≡ page = in_page at page a bytes is near here in
    let found = rights_is ∙ rights_there m r b memory page has (subst (λ (q : ℕ). m q ≡ true) same mapped) in
    ap (λ (p : ℕ). has_none (r p)) same ∙ ap has_none (sym found) ∙ none))

-- ---- a page with rights

there_by : (t : Bool) (rights had : Rights) (byte : ℕ) → rights ≡ rights_in (if t then Some (cell had byte) else None) → has_none rights ≡ false → t ≡ true
there_by true rights had byte is some = refl
there_by false rights had byte is some = sym some ∙ ap has_none is

pub is_there : (page : ℕ) (rights : Rights) (m : ℕ → Bool) (r : ℕ → Rights) (b : ℕ → ℕ) (memory : List Range) → rights ≡ rights_in (cell_at memory (4096 * page)) → has_none rights ≡ false → HasPages m r b memory → m page ≡ true
is_there page rights m r b memory is some has =
    there_by (m page) rights (r page) (b (4096 * page)) (is ∙ ap rights_in (there m r b memory page has)) some

keeps_by : (none : Bool) (byte : ℕ) → none ≡ false → (if none then 0 else byte) ≡ byte
keeps_by true byte some = cc
keeps_by false byte some = refl

pub own_in : (page p : ℕ) (own : Rights) (r : ℕ → Rights) → within page 1 p ≡ true → with_own page 1 own r p ≡ own
own_in page p own r here = ap (λ (w : Bool). if w then own else r p) here

-- it can be written
pub can_write : (at page : ℕ) (bytes : List ℕ) (m : ℕ → Bool) (r : ℕ → Rights) (b : ℕ → ℕ) (memory : List Range) → page ≡ at / 4096 → at % 4096 + length bytes ≤ 4096 → m page ≡ true → HasPages m (with_own page 1 changeable r) b memory → first_fault writable memory at (length bytes) ≡ None
unfolding paged
can_write at page bytes m r b memory is near mapped has =
    fault_none writable memory at (length bytes)
    (λ i low high.
    let same : i / 4096 ≡ page = in_page at page i bytes is near (within_inside at (length bytes) i low high) in
    let here : within page 1 (i / 4096) ≡ true = within_inside page 1 (i / 4096) (omega arith) (omega arith) in
    ap (fault_of writable i)
    (back m (with_own page 1 changeable r) b memory i has
    ∙ ap (λ (p : ℕ). if m p then Some (cell (with_own page 1 changeable r (i / 4096)) (b i)) else None) same
    ∙ ap (λ (t : Bool). if t then Some (cell (with_own page 1 changeable r (i / 4096)) (b i)) else None) mapped
    ∙ ap (λ (own : Rights). Some (cell own (b i))) (own_in page (i / 4096) changeable r here)))

back_by : (w : Bool) (rights had : Rights) (byte : ℕ) → (w ≡ true → rights ≡ had) → cell (if w then rights else (if w then changeable else had)) byte ≡ cell had byte
back_by true rights had byte same = ap (λ (r : Rights). cell r byte) (same refl)
back_by false rights had byte same = refl

-- the page can be written for a while
pub has_opened : (page : ℕ) (rights : Rights) (m : ℕ → Bool) (r : ℕ → Rights) (b : ℕ → ℕ) (memory opened : List Range) → rights ≡ rights_in (cell_at memory (4096 * page)) → has_none rights ≡ false → opened ≡ protected (4096 * page) (4096 * 1) changeable memory → HasPages m r b memory → HasPages m (with_own page 1 changeable r) b opened
has_opened page rights m r b memory opened rights_is some opened_is has =
    let mapped : m page ≡ true = is_there page rights m r b memory rights_is some has in
    let found : rights ≡ r page = rights_is ∙ rights_there m r b memory page has mapped in
    subst (λ (l : List Range). HasPages m (with_own page 1 changeable r) b l) (sym opened_is)
    (has_protected page 1 changeable m r b memory has
    (λ a here. keeps_by (has_none (r (a / 4096))) (b a) (ap (λ (p : ℕ). has_none (r p)) (one_within page (a / 4096) here) ∙ ap has_none (sym found) ∙ some)))

-- and gets its bytes
pub has_wrote : (at page : ℕ) (bytes : List ℕ) (rights : Rights) (m : ℕ → Bool) (r : ℕ → Rights) (b : ℕ → ℕ) (memory opened filled : List Range) → page ≡ at / 4096 → at % 4096 + length bytes ≤ 4096 → rights ≡ rights_in (cell_at memory (4096 * page)) → has_none rights ≡ false → opened ≡ protected (4096 * page) (4096 * 1) changeable memory → (first_fault writable opened at (length bytes) ≡ None → filled ≡ written at bytes opened) → HasPages m r b memory → HasPages m (with_own page 1 changeable r) (over at bytes b) filled
has_wrote at page bytes rights m r b memory opened filled is near rights_is some opened_is filled_is has =
    let mapped : m page ≡ true = is_there page rights m r b memory rights_is some has in
    let ready = has_opened page rights m r b memory opened rights_is some opened_is has in
    subst (λ (l : List Range). HasPages m (with_own page 1 changeable r) (over at bytes b) l) (sym (filled_is (can_write at page bytes m r b opened is near mapped ready)))
    (has_written at bytes m (with_own page 1 changeable r) b opened ready)

pub has_filled : (at page : ℕ) (bytes : List ℕ) (rights : Rights) (m : ℕ → Bool) (r : ℕ → Rights) (b : ℕ → ℕ) (memory opened filled closed : List Range) → page ≡ at / 4096 → at % 4096 + length bytes ≤ 4096 → rights ≡ rights_in (cell_at memory (4096 * page)) → has_none rights ≡ false → opened ≡ protected (4096 * page) (4096 * 1) changeable memory → (first_fault writable opened at (length bytes) ≡ None → filled ≡ written at bytes opened) → closed ≡ protected (4096 * page) (4096 * 1) rights filled → HasPages m r b memory → HasPages m r (over at bytes b) closed
has_filled at page bytes rights m r b memory opened filled closed is near rights_is some opened_is filled_is closed_is has =
    let mapped : m page ≡ true = is_there page rights m r b memory rights_is some has in
    let found : rights ≡ r page = rights_is ∙ rights_there m r b memory page has mapped in
    let wrote = has_wrote at page bytes rights m r b memory opened filled is near rights_is some opened_is filled_is has in
    let done : HasPages m (with_own page 1 rights (with_own page 1 changeable r)) (over at bytes b) closed =
    subst (λ (l : List Range). HasPages m (with_own page 1 rights (with_own page 1 changeable r)) (over at bytes b) l) (sym closed_is)
    (has_protected page 1 rights m (with_own page 1 changeable r) (over at bytes b) filled wrote
    (λ a here. keeps_by (has_none (with_own page 1 changeable r (a / 4096))) (over at bytes b a) (ap has_none (own_in page (a / 4096) changeable r here)))) in
    has_alike m (with_own page 1 rights (with_own page 1 changeable r)) r (over at bytes b) (over at bytes b) closed done
    (λ a maps. back_by (within page 1 (a / 4096)) rights (r (a / 4096)) (over at bytes b a)
    (λ here. found ∙ ap r (sym (one_within page (a / 4096) here))))

-- ---- one piece after the other

over_in : (at : ℕ) (bytes : List ℕ) (b : ℕ → ℕ) (a : ℕ) → at ≤ a → a < at + length bytes → over at bytes b a ≡ get_or bytes (a - at) 0
over_in at bytes b a low high = ap (λ (w : Bool). if w then get_or bytes (a - at) 0 else b a) (within_inside at (length bytes) a low high)

over_out : (at : ℕ) (bytes : List ℕ) (b : ℕ → ℕ) (a : ℕ) → (a < at) ⊎ (at + length bytes ≤ a) → over at bytes b a ≡ b a
over_out at bytes b a outside = ap (λ (w : Bool). if w then get_or bytes (a - at) 0 else b a) (within_outside at (length bytes) a outside)

over_by : (at done count : ℕ) (bytes : List ℕ) (b : ℕ → ℕ) (a : ℕ) → done + count ≤ length bytes → (a < at) ⊎ (at ≤ a) → (a < at + done) ⊎ (at + done ≤ a) → (a < at + done + count) ⊎ (at + done + count ≤ a) → over (at + done) (take count (drop done bytes)) (over at (take done bytes) b) a ≡ over at (take (done + count) bytes) b a
over_by at done count bytes b a room x y z =
    let first : length (take done bytes) ≡ done = simp length-take (omega arith) in
    let piece : length (take count (drop done bytes)) ≡ count = simp (length-take, length-drop) (omega arith) in
    let both : length (take (done + count) bytes) ≡ done + count = simp length-take (omega arith) in
    elim x [
      | inl below ↦
          over_out (at + done) (take count (drop done bytes)) (over at (take done bytes) b) a (inl (omega arith))
          ∙ over_out at (take done bytes) b a (inl below)
          ∙ sym (over_out at (take (done + count) bytes) b a (inl below))
      | inr from ↦ elim y [
        | inl old ↦
            over_out (at + done) (take count (drop done bytes)) (over at (take done bytes) b) a (inl old)
            ∙ over_in at (take done bytes) b a from (omega arith)
            ∙ get_or-take done bytes (a - at) 0 (omega arith)
            ∙ sym (get_or-take (done + count) bytes (a - at) 0 (omega arith))
            ∙ sym (over_in at (take (done + count) bytes) b a from (omega arith))
        | inr later ↦ elim z [
          | inl here ↦
              let e : done + (a - (at + done)) ≡ a - at = omega arith in
              over_in (at + done) (take count (drop done bytes)) (over at (take done bytes) b) a later (omega arith)
              ∙ get_or-take count (drop done bytes) (a - (at + done)) 0 (omega arith)
              ∙ get_or-drop done bytes (a - (at + done)) 0
              ∙ ap (λ (i : ℕ). get_or bytes i 0) e
              ∙ sym (get_or-take (done + count) bytes (a - at) 0 (omega arith))
              ∙ sym (over_in at (take (done + count) bytes) b a from (omega arith))
          | inr past ↦
              over_out (at + done) (take count (drop done bytes)) (over at (take done bytes) b) a (inr (omega arith))
              ∙ over_out at (take done bytes) b a (inr (omega arith))
              ∙ sym (over_out at (take (done + count) bytes) b a (inr (omega arith)))
        ]
      ]
    ]

pub has_piece : (at done count : ℕ) (bytes : List ℕ) (m : ℕ → Bool) (r : ℕ → Rights) (b : ℕ → ℕ) (memory : List Range) → done + count ≤ length bytes → HasPages m r (over (at + done) (take count (drop done bytes)) (over at (take done bytes) b)) memory → HasPages m r (over at (take (done + count) bytes) b) memory
has_piece at done count bytes m r b memory room has =
    has_same_bytes m r (over (at + done) (take count (drop done bytes)) (over at (take done bytes) b)) (over at (take (done + count) bytes) b) memory has
    (λ a. over_by at done count bytes b a room (lt_or a at) (lt_or a (at + done)) (lt_or a (at + done + count)))

no_byte : (at a n : ℕ) → n ≡ 0 → (a < at) ⊎ (at ≤ a) → (a < at) ⊎ (at + n ≤ a)
no_byte at a n none (inl below) = inl below
no_byte at a n none (inr from) = inr (omega arith)

pub has_no_piece : (at : ℕ) (bytes : List ℕ) (m : ℕ → Bool) (r : ℕ → Rights) (b : ℕ → ℕ) (memory : List Range) → HasPages m r b memory → HasPages m r (over at (take 0 bytes) b) memory
has_no_piece at bytes m r b memory has =
    has_same_bytes m r b (over at (take 0 bytes) b) memory has (λ a. sym (over_out at (take 0 bytes) b a (no_byte at a (length (take 0 bytes)) refl (lt_or a at))))

pub has_all : (at done : ℕ) (bytes : List ℕ) (m : ℕ → Bool) (r : ℕ → Rights) (b : ℕ → ℕ) (memory : List Range) → length bytes ≤ done → HasPages m r (over at (take done bytes) b) memory → HasPages m r (over at bytes b) memory
has_all at done bytes m r b memory past has =
    let all : take done bytes ≡ bytes = grind (arith, common_steps) in
    subst (λ (some : List ℕ). HasPages m r (over at some b) memory) all has

-- ---- the bytes of segments

nothing_filled : (a : ℕ) → zeros a ≡ byte_at [] a
unfolding byte_at
nothing_filled a = refl

pub has_no_bytes : (m : ℕ → Bool) (r : ℕ → Rights) (memory : List Range) → HasPages m r zeros memory → HasPages m r (byte_at []) memory
has_no_bytes m r memory has = has_same_bytes m r zeros (byte_at []) memory has nothing_filled

next_filled : (s : SegmentImage) (others : List SegmentImage) (a : ℕ) → over s.at s.file_bytes (byte_at others) a ≡ byte_at (s ∷ others) a
unfolding byte_at
next_filled s others a = refl

pub has_segment_bytes : (s : SegmentImage) (others : List SegmentImage) (m : ℕ → Bool) (r : ℕ → Rights) (memory : List Range) → HasPages m r (over s.at s.file_bytes (byte_at others)) memory → HasPages m r (byte_at (s ∷ others)) memory
has_segment_bytes s others m r memory has =
    has_same_bytes m r (over s.at s.file_bytes (byte_at others)) (byte_at (s ∷ others)) memory has (next_filled s others)

loaded_by : (segments : List SegmentImage) (a : ℕ) → paged (is_touched segments) (page_rights segments) (byte_at segments) a ≡ cell_of segments a
unfolding paged cell_of
loaded_by segments a = refl

pub is_loaded : (segments : List SegmentImage) (memory : List Range) → HasPages (is_touched segments) (page_rights segments) (byte_at segments) memory → memory ≡ loaded segments
unfolding loaded
is_loaded segments memory has = has.is ∙ ap ranges_of (fun_ext (loaded_by segments))

-- and the other way round
pub loaded_is : (segments : List SegmentImage) → ((page : ℕ) → 2 ^ 26 ≤ page → is_touched segments page ≡ false) → HasPages (is_touched segments) (page_rights segments) (byte_at segments) (loaded segments)
unfolding loaded
loaded_is segments low = record { low = low; is = sym (ap ranges_of (fun_ext (loaded_by segments))) }
