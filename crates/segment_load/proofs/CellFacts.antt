-- The addresses of pages, and the pages of a segment.
use Rattle.std.proofs.Common.{◌≡◌, ℕ, ◌+◌, ◌-◌, ◌*◌, ◌/◌, ◌≤◌, ◌<◌, ◌⊎◌, inl, inr, Bool, true, false, refl, sym, ◌∙◌, arith}
use Rattle.std.proofs.lemmas.Grind.{common_steps}
use Rattle.elf_file.specs.Segments.{SegmentImage, first_page, has_byte, last_page}
use Rattle.guest_pages.specs.Ranges.{within}
use Rattle.guest_pages.proofs.RightsFacts.{within_inside, within_outside}
use Rattle.segment_load.specs.Loading.{touches}
use Rattle.segment_load.specs.Wanted.{page_count}

pub lt_or : (m n : ℕ) → (m < n) ⊎ (n ≤ m)
lt_or m n = grind (arith, common_steps)

within_by : (first count page a : ℕ) → page ≡ a / 4096 → (page < first) ⊎ (first ≤ page) → (page < first + count) ⊎ (first + count ≤ page) → within (4096 * first) (4096 * count) a ≡ within first count page
within_by first count page a is (inl below) above = within_outside (4096 * first) (4096 * count) a (inl (omega arith)) ∙ sym (within_outside first count page (inl below))
within_by first count page a is (inr from) (inl to) = within_inside (4096 * first) (4096 * count) a (omega arith) (omega arith) ∙ sym (within_inside first count page from to)
within_by first count page a is (inr from) (inr past) = within_outside (4096 * first) (4096 * count) a (inr (omega arith)) ∙ sym (within_outside first count page (inr past))

-- the addresses of pages
pub within_pages : (first count a : ℕ) → within (4096 * first) (4096 * count) a ≡ within first count (a / 4096)
within_pages first count a = within_by first count (a / 4096) a refl (lt_or (a / 4096) first) (lt_or (a / 4096) (first + count))

touches_by : (s : SegmentImage) (page : ℕ) (some : Bool) → has_byte s ≡ some → touches s page ≡ within (first_page s) (page_count s) page
unfolding touches page_count
touches_by s page true is = grind (arith, common_steps)
touches_by s page false is = grind (arith, common_steps)

pub touches_within : (s : SegmentImage) (page : ℕ) → touches s page ≡ within (first_page s) (page_count s) page
touches_within s page = touches_by s page (has_byte s) refl

pub one_within : (page p : ℕ) → within page 1 p ≡ true → p ≡ page
one_within page p here = grind (arith, common_steps)

pub page_count_is : (s : SegmentImage) → (s.size ≡ 0 → ⊥) → page_count s ≡ last_page s - first_page s + 1
unfolding page_count
page_count_is s some =
    let byte : has_byte s ≡ true = grind (arith, common_steps) in
    rw byte refl

pub untouched_empty : (s : SegmentImage) (page : ℕ) → s.size ≡ 0 → touches s page ≡ false
unfolding touches
untouched_empty s page empty = rw empty refl
