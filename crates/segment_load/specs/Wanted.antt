-- How many pages the segments of a file store: each page of a segment that has a right, once.
-- Source: the project's own.
use Rattle.std.specs.Prelude.{ℕ, zero, suc, ◌+◌, ◌-◌, ◌==◌, Bool, not, ◌&&◌, if◌then◌else◌, List, [], ◌∷◌}
use Rattle.std.specs.List.{list_any}
use Rattle.elf_file.specs.Segments.{SegmentImage, has_byte, first_page, last_page}
use Rattle.segment_load.specs.Loading.{touches}

abbrev pub has_right : SegmentImage → Bool
has_right s = not (s.rights == 0)

-- how many pages have a byte of the segment
unfoldable pub page_count : SegmentImage → ℕ
page_count s = if has_byte s then last_page s - first_page s + 1 else 0

-- a segment with a right has a byte in the page
abbrev pub is_stored_by : List SegmentImage → ℕ → Bool
is_stored_by segments page = list_any (λ s. has_right s && touches s page) segments

-- how many of the numbers from one on have no such segment
unfoldable pub count_others : List SegmentImage → ℕ → ℕ → ℕ
count_others segments page zero = 0
count_others segments page (suc count) = (if is_stored_by segments page then 0 else 1) + count_others segments (page + 1) count

-- the pages of the segment that no later one stores
unfoldable pub own_pages : SegmentImage → List SegmentImage → ℕ
own_pages s later = if has_right s then count_others later (first_page s) (page_count s) else 0

unfoldable pub pages_of : List SegmentImage → ℕ
pages_of [] = 0
pages_of (s ∷ segments) = own_pages s segments + pages_of segments
