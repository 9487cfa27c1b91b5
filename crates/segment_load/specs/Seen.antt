-- Memory that only says which pages the segments behind one in a list store.
-- Source: the project's own.
use Rattle.std.specs.Prelude.{◌≡◌, ℕ, List, ◌∷◌}
use Rattle.elf_file.specs.Segments.{SegmentImage}
use Rattle.guest_pages.specs.Ranges.{Range}
use Rattle.segment_load.specs.Steps.{HasPages, no_rights, zeros}
use Rattle.segment_load.specs.Wanted.{is_stored_by, own_pages}

-- the pages that segments store are mapped, without rights
abbrev pub HasSeen : List SegmentImage → List Range → Type 0
HasSeen segments memory = HasPages (is_stored_by segments) no_rights zeros memory

-- so many pages are the segment's own, and its pages are among those seen
pub record Counts (s : SegmentImage) (later : List SegmentImage) (pages : ℕ) (memory : List Range) : Type 0 where
  pub own : pages ≡ own_pages s later
  pub seen : HasSeen (s ∷ later) memory
