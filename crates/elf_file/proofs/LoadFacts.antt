-- The list of the segments and its top, one segment further.
use Rattle.std.proofs.Common.{◌≡◌, ◌<◌, ◌+◌, ◌++◌, ℕ, zero, suc, List, [], ◌∷◌, refl, ap, ◌∙◌, add-one, max, map, length, take, get_or, arith}
use Rattle.elf_file.specs.declared.loaded.Segment.{Segment}
use Rattle.elf_file.specs.Below.{below}
use Rattle.elf_file.specs.Segments.{top_of, byte_end}
use Rattle.elf_file.specs.Headers.{is_loaded, segment, segment_if, segments_below}
use Rattle.elf_file.specs.Views.{segment_image}

pub none_below : (file : List ℕ) → segments_below file 0 ≡ []
unfolding below
none_below file = refl

pub one_more_below : (file : List ℕ) (n : ℕ) → segments_below file (n + 1) ≡ segments_below file n ++ segment_if (is_loaded file n) (segment file n)
unfolding below
one_more_below file n = rw add-one refl

pub top_of_none : top_of [] ≡ 0
unfolding top_of
top_of_none = refl

max_moves : (a b c : ℕ) → max a (max b c) ≡ max (max a b) c
max_moves a b c = omega arith

max_zero : (a : ℕ) → max a 0 ≡ max 0 a
max_zero a = omega arith

pub top_of_more : (xs : List Segment) (i : ℕ) (d : Segment) → i < length xs → top_of (map segment_image (take (i + 1) xs)) ≡ max (top_of (map segment_image (take i xs))) (byte_end (segment_image (get_or xs i d)))
unfolding top_of
top_of_more [] i d inside = absurd (omega arith)
top_of_more (x ∷ xs) zero d inside = max_zero (byte_end (segment_image x))
top_of_more (x ∷ xs) (suc i) d inside =
    rw add-one (ap (λ (top : ℕ). max (byte_end (segment_image x)) top) (rw add-one at (top_of_more xs i d (omega arith)))
    ∙ max_moves (byte_end (segment_image x)) (top_of (map segment_image (take i xs))) (byte_end (segment_image (get_or xs i d))))
