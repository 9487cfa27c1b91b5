-- Memory and its maps. A private map of a file has a copy of its bytes.
-- Source: brk(2), mmap(2), munmap(2), mprotect(2). That code can't be unmapped, changed or mapped over, that no page gets the
-- right to execute, where a map without a place goes, and the bounds are the project's own. A length is rounded up to
-- whole pages, and flags without a name are passed over.
use Rattle.std.specs.Prelude.{ℕ, ◌+◌, ◌-◌, ◌*◌, ◌/◌, ◌%◌, ◌==◌, nat_lt, min, Bool, false, not, ◌&&◌, ◌||◌, if◌then◌else◌, ℤ, pos, neg_ℤ, List, [], ◌∷◌, length, take, is_some, Option, Some, None, Result, Ok, Err}
use Rattle.file_tree.specs.declared.errno.Errno.TheVariants.{EACCES, EBADF, EEXIST, EINVAL, ENODEV, ENOMEM}
use Rattle.file_tree.specs.declared.errno.Errno.{Errno}
use Rattle.file_tree.specs.Errors.{number}
use Rattle.file_table.specs.Descriptors.{what}
use Rattle.file_table.specs.Moving.{read_at}
use Rattle.file_table.specs.State.{Files}
use Rattle.guest_pages.specs.declared.rights.Rights.{Rights}
use Rattle.guest_pages.specs.Cells.{has_none}
use Rattle.guest_pages.specs.Faults.{changeable, first_unmapped}
use Rattle.guest_pages.specs.Finding.{any_mapped, free_place, touches_code}
use Rattle.guest_pages.specs.Limits.{most_pages, page_size, user_end}
use Rattle.guest_pages.specs.Operations.{placed, protected, stored_pages, unmapped, written}
use Rattle.guest_pages.specs.Ranges.{Range}
use Rattle.host_calls.specs.Answers.{Answered, Refusal, answers, refusal, refuses, unless}
use Rattle.host_calls.specs.Breaks.{most_break, pages_of, rounded_up}
use Rattle.host_calls.specs.Shared.{Shared}

abbrev pub with_memory : List Range → Shared → Shared
with_memory memory shared = record shared { memory = memory }

abbrev pub is_misaligned : ℕ → Bool
is_misaligned at = not (at % page_size == 0)

abbrev pub is_outside : ℕ → ℕ → Bool
is_outside at size = nat_lt user_end (at + size)

-- what of a range lies within user addresses
abbrev pub part_inside : ℕ → ℕ → ℕ
part_inside at size = min size (user_end - at)

abbrev pub too_many : List Range → Bool
too_many memory = nat_lt most_pages (stored_pages memory)

-- a number has the bit of a power of two
abbrev pub has_bit : ℕ → ℕ → Bool
has_bit number power = not (number / power % 2 == 0)

-- PROT_READ 1, PROT_WRITE 2
abbrev pub rights_of : ℕ → Rights
rights_of protection = record { read = has_bit protection 1; write = has_bit protection 2; execute = false }

-- PROT_EXEC
abbrev pub asks_to_execute : ℕ → Bool
asks_to_execute protection = has_bit protection 4

-- ---- munmap(2)

abbrev pub munmap_refusals : ℕ → ℕ → Shared → List Refusal
munmap_refusals at length shared =
    refusal (is_misaligned at || (length == 0 || is_outside at (rounded_up length))) EINVAL
    ∷ refusal (touches_code shared.memory at (rounded_up length)) EACCES
    ∷ []

unfoldable pub munmap : ℕ → ℕ → Shared → Answered
munmap at length shared =
    unless (munmap_refusals at length shared) shared (answers (pos 0) (with_memory (unmapped at (rounded_up length) shared.memory) shared))

-- ---- mprotect(2)

abbrev pub mprotect_refusals : ℕ → ℕ → ℕ → Shared → List Refusal
mprotect_refusals at size protection shared =
    refusal (is_misaligned at) EINVAL
    ∷ refusal (asks_to_execute protection) EACCES
    ∷ refusal (touches_code shared.memory at (part_inside at size)) EACCES
    ∷ refusal (is_outside at size) ENOMEM
    ∷ refusal (is_some (first_unmapped shared.memory at size)) ENOMEM
    ∷ refusal (too_many (protected at size (rights_of protection) shared.memory)) ENOMEM
    ∷ []

unfoldable pub mprotect : ℕ → ℕ → ℕ → Shared → Answered
mprotect at length protection shared = unless (mprotect_refusals at (rounded_up length) protection shared) shared
    (answers (pos 0) (with_memory (protected at (rounded_up length) (rights_of protection) shared.memory) shared))

-- ---- mmap(2)

-- MAP_SHARED or MAP_PRIVATE alone; neither MAP_GROWSDOWN nor MAP_HUGETLB
abbrev pub are_wrong : ℕ → Bool
are_wrong flags = not (flags % 16 == 1 || flags % 16 == 2) || (has_bit flags 0x100 || has_bit flags 0x40000)

-- MAP_FIXED_NOREPLACE, MAP_FIXED or it, MAP_ANONYMOUS
abbrev pub keeps_maps : ℕ → Bool
keeps_maps flags = has_bit flags 0x100000

abbrev pub is_fixed : ℕ → Bool
is_fixed flags = has_bit flags 0x10 || keeps_maps flags

abbrev pub is_anonymous : ℕ → Bool
is_anonymous flags = has_bit flags 0x20

-- MAP_SHARED
abbrev pub is_shared : ℕ → Bool
is_shared flags = flags % 16 == 1

-- the bytes of a file are mapped where it can be read; what is no file, and what is to be shared, isn't
abbrev pub mapped_file : Result (List ℕ) Errno → Result (List ℕ) Errno
mapped_file (Ok bytes) = Ok bytes
mapped_file (Err EBADF) = Err EACCES
mapped_file (Err errno) = Err ENODEV

-- the most bytes of a file
abbrev pub most_file : ℕ
most_file = 16777216

-- what the first bytes of a map are: none of an anonymous one, which has zeros, else those of the file from the offset on
abbrev pub contents : ℕ → ℕ → ℕ → ℕ → Files → Result (List ℕ) Errno
contents flags descriptor offset size files =
    if is_anonymous flags then Ok []
    else if is_shared flags then Err ENODEV
    else mapped_file (read_at descriptor offset (min size most_file) files)

-- what a map leaves, and its answer
pub record Placed : Type 0 where
  pub memory : List Range
  pub answer : ℤ

abbrev pub unplaced : Errno → List Range → Placed
unplaced errno memory = record { memory = memory; answer = neg_ℤ (pos (number errno)) }

-- bytes come into pages that were placed, as far as there is room. Pages without rights store none
abbrev pub filled : ℕ → ℕ → List ℕ → Rights → List Range → List Range
filled at size bytes rights memory = if has_none rights then memory else written at (take size bytes) memory

-- pages at a place, zeros behind the bytes
unfoldable pub placed_at : ℕ → ℕ → Rights → List ℕ → List Range → Placed
placed_at at size rights bytes memory =
    if too_many (placed at size rights memory) then unplaced ENOMEM memory
    else record { memory = filled at size bytes rights (placed at size rights memory); answer = pos at }

unfoldable pub placed_fixed : ℕ → ℕ → Rights → List ℕ → List Range → Placed
placed_fixed at size rights bytes memory =
    if touches_code memory at (part_inside at size) then unplaced EACCES memory
    else if is_outside at size then unplaced ENOMEM memory
    else placed_at at size rights bytes memory

-- at the highest free range
abbrev pub placed_free : Option ℕ → ℕ → Rights → List ℕ → List Range → Placed
placed_free None size rights bytes memory = unplaced ENOMEM memory
placed_free (Some at) size rights bytes memory = placed_at at size rights bytes memory

unfoldable pub placed_anywhere : ℕ → Rights → List ℕ → List Range → Placed
placed_anywhere count rights bytes memory = placed_free (free_place memory count) (page_size * count) rights bytes memory

-- at its place, or anywhere
abbrev pub placed_so : ℕ → ℕ → Rights → ℕ → List ℕ → List Range → Placed
placed_so at count rights flags bytes memory =
    if is_fixed flags
    then placed_fixed at (page_size * count) rights bytes memory
    else placed_anywhere count rights bytes memory

abbrev pub with_placed : Placed → Shared → Answered
with_placed placed shared = answers placed.answer (with_memory placed.memory shared)

abbrev pub mapped_with : ℕ → ℕ → Rights → ℕ → Result (List ℕ) Errno → Shared → Answered
mapped_with at count rights flags (Err errno) shared = refuses errno shared
mapped_with at count rights flags (Ok bytes) shared = with_placed (placed_so at count rights flags bytes shared.memory) shared

-- of a descriptor that isn't open EBADF
abbrev pub mmap_refusals : ℕ → ℕ → ℕ → ℕ → ℕ → ℕ → Shared → List Refusal
mmap_refusals at size protection flags descriptor offset shared =
    refusal (are_wrong flags || (size == 0 || (is_misaligned offset || (is_fixed flags && is_misaligned at)))) EINVAL
    ∷ refusal (not (is_anonymous flags) && not (is_some (what descriptor shared.files))) EBADF
    ∷ refusal (asks_to_execute protection) EACCES
    ∷ refusal (keeps_maps flags && any_mapped shared.memory at (part_inside at (rounded_up size))) EEXIST
    ∷ []

unfoldable pub mmap : ℕ → ℕ → ℕ → ℕ → ℕ → ℕ → Shared → Answered
mmap at size protection flags descriptor offset shared =
    unless (mmap_refusals at size protection flags descriptor offset shared) shared
    (mapped_with at (pages_of size) (rights_of protection) flags (contents flags descriptor offset (rounded_up size) shared.files) shared)

-- ---- brk(2)

abbrev pub with_break : ℕ → List Range → Shared → Shared
with_break address memory shared = record shared {
  memory = memory;
  program_break = record shared.program_break { present = address };
}

-- the break stays, and is answered
abbrev pub same_break : Shared → Answered
same_break shared = answers (pos shared.program_break.present) shared

-- it goes up where the pages between are free, and there may be as many
unfoldable pub raised : ℕ → ℕ → ℕ → Shared → Answered
raised address from size shared =
    if any_mapped shared.memory from size || too_many (placed from size changeable shared.memory)
    then same_break shared
    else answers (pos address) (with_break address (placed from size changeable shared.memory) shared)

-- it goes down, and the pages behind it are free; where one could be executed it stays
unfoldable pub lowered : ℕ → ℕ → ℕ → Shared → Answered
lowered address from size shared =
    if touches_code shared.memory from size
    then same_break shared
    else answers (pos address) (with_break address (unmapped from size shared.memory) shared)

unfoldable pub brk : ℕ → Shared → Answered
brk wish shared =
    let first = shared.program_break.first in
    let old = rounded_up shared.program_break.present in
    let new = rounded_up wish in
    if nat_lt wish first || nat_lt (first + most_break) wish
    then same_break shared
    else (if nat_lt old new then raised wish old (new - old) shared else lowered wish new (old - new) shared)
