-- Where a file's segments end.
use Rattle.std.proofs.Common.{◌≤◌, ◌+◌, ℕ, Bool, true, false, cond, List, [], ◌∷◌, map, max, subst, sym, arith}
use Rattle.elf_file.specs.declared.image.Elf.{Elf}
use Rattle.elf_file.specs.declared.loaded.Segment.{Segment}
use Rattle.elf_file.specs.Segments.{byte_end, has_byte, top_of}
use Rattle.elf_file.specs.Views.{segment_image}
use Rattle.guest_pages.specs.Limits.{maps_end}

end_by : (has : Bool) (at size : ℕ) → at + size ≤ maps_end → cond has (at + size) 0 ≤ maps_end
end_by true at size high = high
end_by false at size high = omega arith

greater : (one other bound : ℕ) → one ≤ bound → other ≤ bound → max one other ≤ bound
greater one other bound this that = omega (arith, this, that)

top_within : (segments : List Segment) → top_of (map segment_image segments) ≤ maps_end
unfolding top_of
top_within [] = omega arith
top_within (s ∷ segments) =
    greater (byte_end (segment_image s)) (top_of (map segment_image segments)) maps_end (end_by (has_byte (segment_image s)) s.at s.size s.high) (top_within segments)

pub elf_ends : (elf : Elf) → elf.top ≤ maps_end
elf_ends elf = subst (λ (n : ℕ). n ≤ maps_end) (sym elf.ends) (top_within elf.segments.items)
