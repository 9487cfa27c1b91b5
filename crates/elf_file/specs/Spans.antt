-- The range of a segment in bytes or in pages, and which two are apart.
-- Source: the project's own.
use Rattle.std.specs.Prelude.{◌≡◌, ◌⊎◌, ℕ, ◌+◌, ◌<◌, Bool, true, false, ◌&&◌, ◌||◌, nat_lt, if◌then◌else◌, List, slice_index_or, length}
use Rattle.elf_file.specs.declared.spans.Sharing.{Sharing}
use Rattle.elf_file.specs.declared.spans.Sharing.TheVariants.{Byte, Page}
use Rattle.elf_file.specs.declared.spans.Span.{Span}
use Rattle.elf_file.specs.Segments.{SegmentImage, is_executable, is_writable, end_of, first_page, last_page, has_byte}
use Rattle.elf_file.specs.Headers.{is_loaded, segment, overlap_at, clash_at}

-- two segments share a byte, or a page of both would be writable and executable
abbrev pub meets : Sharing → List ℕ → ℕ → ℕ → Bool
meets Byte file i j = overlap_at file i j
meets Page file i j = clash_at file i j

abbrev pub page_end : SegmentImage → ℕ
page_end s = if has_byte s then last_page s + 1 else first_page s

-- the bytes of a segment, each of which is shared with any other; or its pages, with its rights
abbrev pub span_if : Bool → Sharing → ℕ → SegmentImage → Span
span_if false sharing i s = record { index = i; start = 0; end = 0; one = false; other = false }
span_if true Byte i s = record { index = i; start = s.at; end = end_of s; one = true; other = true }
span_if true Page i s =
    record { index = i; start = first_page s; end = page_end s; one = is_writable s.rights; other = is_executable s.rights }

unfoldable pub span_of : Sharing → List ℕ → ℕ → Span
span_of sharing file i = span_if (is_loaded file i) sharing i (segment file i)

-- two spans have a place in common, at which one is of the one kind and the other of the other
pub record DoMeet (s t : Span) : Type 0 where
  pub first : s.start < s.end
  pub second : t.start < t.end
  pub reaches : s.start < t.end
  pub reached : t.start < s.end
  pub kinds : ((s.one ≡ true) × (t.other ≡ true)) ⊎ ((s.other ≡ true) × (t.one ≡ true))

-- no two spans of headers below n meet
abbrev pub AreApart : List Span → ℕ → Type 0
AreApart spans n =
    (p q : ℕ) (d : Span) → p < q → q < length spans
    → (slice_index_or spans p d).index < n → (slice_index_or spans q d).index < n
    → DoMeet (slice_index_or spans p d) (slice_index_or spans q d) → ⊥

-- a span of a header below n is met by one that starts no later, where those of the two kinds reach so far
abbrev pub is_met : Span → ℕ → ℕ → ℕ → Bool
is_met s n one other =
    (nat_lt s.index n && nat_lt s.start s.end) && ((s.other && nat_lt s.start one) || (s.one && nat_lt s.start other))
