-- More pages beside those of segments.
use Rattle.std.proofs.Common.{◌≡◌, ℕ, ◌+◌, ◌*◌, ◌/◌, ◌^◌, ◌<◌, ◌≤◌, ◌⊎◌, inr, Bool, true, false, ◌||◌, if◌then◌else◌, List, [], ◌∷◌, Option, Some, None, refl, ap, sym, ◌∙◌, arith}
use Rattle.elf_file.specs.Segments.{SegmentImage, first_page, has_byte}
use Rattle.guest_pages.specs.declared.rights.Rights.{Rights}
use Rattle.guest_pages.specs.Cells.{Cell, cell}
use Rattle.guest_pages.specs.Counting.{count_pages, rights_of}
use Rattle.guest_pages.specs.Operations.{placed}
use Rattle.guest_pages.specs.Ranges.{Range, cell_at, within}
use Rattle.guest_pages.proofs.Counting.{count_at_most, stored_changed, stored_is}
use Rattle.guest_pages.proofs.RightsFacts.{within_outside}
use Rattle.segment_load.specs.Loading.{byte_at, is_touched, loaded, page_rights, touches}
use Rattle.segment_load.specs.Steps.{HasPages, paged, right_pages, zeros}
use Rattle.segment_load.specs.Wanted.{page_count}
use Rattle.segment_load.proofs.CellFacts.{touches_within, within_pages}
use Rattle.segment_load.proofs.FillFacts.{loaded_is}
use Rattle.segment_load.proofs.FullFacts.{pages}
use Rattle.segment_load.proofs.PagedFacts.{back, has_made, with_own}
use Rattle.segment_load.proofs.StoredFacts.{AreWithin, inside_by}

-- ---- the memory of segments

or_none : (a b : Bool) → a ≡ false → b ≡ false → (a || b) ≡ false
or_none true b none rest = none
or_none false b none rest = rest

touched_low : (segments : List SegmentImage) (page : ℕ) → AreWithin segments → 2 ^ 26 ≤ page → is_touched segments page ≡ false
touched_low [] page inside high = refl
touched_low (s ∷ segments) page inside high =
    let room : first_page s + page_count s ≤ 2 ^ 26 = inside_by (has_byte s) s refl inside.0.high in
    or_none (touches s page) (is_touched segments page)
    (touches_within s page ∙ within_outside (first_page s) (page_count s) page (inr (omega (arith, room, high))))
    (touched_low segments page inside.1 high)

pub has_loaded : (segments : List SegmentImage) → AreWithin segments → HasPages (is_touched segments) (page_rights segments) (byte_at segments) (loaded segments)
has_loaded segments inside = loaded_is segments (λ page high. touched_low segments page inside high)

-- ---- pages are placed beside them

-- the pages from one on are mapped, too
abbrev pub beside : ℕ → ℕ → (ℕ → Bool) → ℕ → Bool
beside first count m page = within first count page || m page

-- and hold zeros
abbrev pub cleared : ℕ → ℕ → (ℕ → ℕ) → ℕ → ℕ
cleared first count b address = if within first count (address / 4096) then 0 else b address

placed_by : (w t : Bool) (own had : Rights) (byte : ℕ) → (if w then Some (cell own 0) else (if t then Some (cell had byte) else None)) ≡ (if w || t then Some (cell (if w then own else had) (if w then 0 else byte)) else None)
placed_by true t own had byte = refl
placed_by false t own had byte = refl

pub has_placed : (first count : ℕ) (own : Rights) (m : ℕ → Bool) (r : ℕ → Rights) (b : ℕ → ℕ) (memory : List Range) → first + count ≤ 2 ^ 26 → HasPages m r b memory → HasPages (beside first count m) (with_own first count own r) (cleared first count b) (placed (4096 * first) (4096 * count) own memory)
unfolding placed paged
has_placed first count own m r b memory inside has =
    has_made (beside first count m) (with_own first count own r) (cleared first count b)
    (λ a. if within (4096 * first) (4096 * count) a then Some (cell own 0) else cell_at memory a) (placed (4096 * first) (4096 * count) own memory)
    (λ page high. or_none (within first count page) (m page) (within_outside first count page (inr (omega arith))) (has.low page high))
    refl
    (λ a.
    ap (λ (o : Option Cell). if within (4096 * first) (4096 * count) a then Some (cell own 0) else o) (back m r b memory a has)
    ∙ ap (λ (w : Bool). if w then Some (cell own 0) else (if m (a / 4096) then Some (cell (r (a / 4096)) (b a)) else None)) (within_pages first count a)
    ∙ placed_by (within first count (a / 4096)) (m (a / 4096)) own (r (a / 4096)) (b a))

same_outside : (first count : ℕ) (own : Rights) (m : ℕ → Bool) (r : ℕ → Rights) (q : ℕ) → (q < first) ⊎ (first + count ≤ q) → rights_of (paged m r zeros (4096 * q)) ≡ rights_of (paged (beside first count m) (with_own first count own r) zeros (4096 * q))
unfolding paged
same_outside first count own m r q outside =
    let is : 4096 * q / 4096 ≡ q = omega arith in
    let out : within first count (4096 * q / 4096) ≡ false = ap (within first count) is ∙ within_outside first count q outside in
    sym (ap (λ (w : Bool). rights_of (if w || m (4096 * q / 4096) then Some (cell (if w then own else r (4096 * q / 4096)) 0) else None)) out)

-- they are at most so many more
pub right_placed : (first count : ℕ) (own : Rights) (m : ℕ → Bool) (r : ℕ → Rights) → first + count ≤ 2 ^ 26 → right_pages (beside first count m) (with_own first count own r) ≤ right_pages m r + count
unfolding right_pages
right_placed first count own m r inside =
    let changed = stored_changed (paged m r zeros) (paged (beside first count m) (with_own first count own r) zeros) first count (pages m r zeros) (pages (beside first count m) (with_own first count own r) zeros) inside (same_outside first count own m r) in
    let of_f = stored_is (paged m r zeros) (pages m r zeros) in
    let of_g = stored_is (paged (beside first count m) (with_own first count own r) zeros) (pages (beside first count m) (with_own first count own r) zeros) in
    let few = count_at_most (paged (beside first count m) (with_own first count own r) zeros) first count in
    omega (arith, changed, of_f, of_g, few)
