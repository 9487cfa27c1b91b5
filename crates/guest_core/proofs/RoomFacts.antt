-- At the start there is room for the trampoline and the stack.
use Rattle.std.proofs.Common.{◌≡◌, ℕ, ◌+◌, ◌*◌, ◌/◌, ◌%◌, ◌^◌, ◌<◌, ◌≤◌, Bool, true, false, ◌||◌, if◌then◌else◌, List, length, map, Option, Some, None, Result, Ok, Err, refl, ap, sym, subst, ◌∙◌, arith}
use Rattle.elf_file.specs.declared.image.Elf.{Elf}
use Rattle.elf_file.specs.Reading.{image}
use Rattle.elf_file.specs.Views.{segment_image}
use Rattle.guest_pages.specs.declared.fault.MapFault.{MapFault}
use Rattle.guest_pages.specs.declared.fault.MapFault.TheVariants as faults
use Rattle.guest_pages.specs.declared.rights.Rights.{Rights}
use Rattle.guest_pages.specs.Cells.{has_none}
use Rattle.guest_pages.specs.Faults.{changeable, first_fault, first_unmapped, runnable, writable}
use Rattle.guest_pages.specs.Limits.{most_pages, page_size, stack_end, stack_length, trampoline}
use Rattle.guest_pages.specs.Operations.{placed, protected, stored_pages, written}
use Rattle.guest_pages.specs.Ranges.{Range, within}
use Rattle.guest_pages.proofs.RightsFacts.{within_inside}
use Rattle.segment_load.specs.Loading.{byte_at, is_touched, loaded, page_rights}
use Rattle.segment_load.specs.Steps.{HasPages, over, right_pages}
use Rattle.segment_load.specs.Wanted.{pages_of}
use Rattle.segment_load.proofs.CellFacts.{one_within}
use Rattle.segment_load.proofs.FillFacts.{can_write, own_in}
use Rattle.segment_load.proofs.FullFacts.{all_mapped, right_few, right_own, stored_right}
use Rattle.segment_load.proofs.PagedFacts.{has_protected, has_written, with_own}
use Rattle.segment_load.proofs.RoomFacts.{beside, cleared, has_loaded, has_placed, right_placed}
use Rattle.segment_load.proofs.StoredFacts.{are_within}
use Rattle.start_stack.specs.Placing.{IsRefused, with_pages}
use Rattle.start_stack.specs.declared.fault.StackFault.{StackFault}
use Rattle.start_stack.specs.declared.fault.StackFault.TheVariants as stacks
use Rattle.guest_core.specs.Start.{FitsIn, HasRoom, Program, program_of, trampoline_bytes, wanted_pages, with_trampoline}

-- the number of the trampoline's page
abbrev page : ℕ
page = 0x3FFFFFF

-- ---- the trampoline

-- its page is mapped
pub room_map : (old : List Range) (room : HasRoom old 1) → HasPages (beside page 1 room.mapped) (with_own page 1 changeable room.rights) (cleared page 1 room.bytes) (placed trampoline 4096 changeable old)
room_map old room = has_placed page 1 changeable room.mapped room.rights room.bytes old (omega arith) room.has

map_few : (old : List Range) → HasRoom old 1 → stored_pages (placed trampoline 4096 changeable old) ≤ most_pages
map_few old room =
    let is = stored_right (beside page 1 room.mapped) (with_own page 1 changeable room.rights) (cleared page 1 room.bytes) (placed trampoline 4096 changeable old) (room_map old room) in
    let more = right_placed page 1 changeable room.mapped room.rights (omega arith) in
    let few = room.few in
    omega (arith, is, more, few)

pub map_want : (result : Result Unit MapFault) (fault : MapFault) (old : List Range) → result ≡ Err fault → ((n : ℕ) → result ≡ Err (faults.PagesFull n) → (n ≡ stored_pages (placed trampoline 4096 changeable old)) × (65536 < n)) → ((a : ℕ) → result ≡ Err (faults.NotMapped a) → ⊥) → HasRoom old 1 → fault ≡ faults.Memory
map_want result (faults.PagesFull n) old is full absent room =
    let told = full n is in
    let few = map_few old room in
    absurd (omega (arith, told.0, told.1, few))
map_want result (faults.NotMapped a) old is full absent room = absurd (absent a is)
map_want result faults.Memory old is full absent room = refl

here_true : (m : ℕ → Bool) (p : ℕ) → within page 1 p ≡ true → beside page 1 m p ≡ true
here_true m p here = ap (λ (w : Bool). w || m p) here

page_itself : within page 1 page ≡ true
page_itself = within_inside page 1 page (omega arith) (omega arith)

-- it can be written
pub can_fill : (old opened : List Range) (bytes : List ℕ) → opened ≡ placed trampoline 4096 changeable old → length bytes ≤ 4096 → HasRoom old 1 → first_fault writable opened trampoline (length bytes) ≡ None
can_fill old opened bytes is short room =
    subst (λ (memory : List Range). first_fault writable memory trampoline (length bytes) ≡ None) (sym is)
    (can_write trampoline page bytes (beside page 1 room.mapped) room.rights (cleared page 1 room.bytes) (placed trampoline 4096 changeable old) refl (omega arith) (here_true room.mapped page page_itself) (room_map old room))

-- and gets its bytes
room_fill : (old : List Range) (bytes : List ℕ) (room : HasRoom old 1) → HasPages (beside page 1 room.mapped) (with_own page 1 changeable room.rights) (over trampoline bytes (cleared page 1 room.bytes)) (written trampoline bytes (placed trampoline 4096 changeable old))
room_fill old bytes room = has_written trampoline bytes (beside page 1 room.mapped) (with_own page 1 changeable room.rights) (cleared page 1 room.bytes) (placed trampoline 4096 changeable old) (room_map old room)

keeps_by : (none : Bool) (byte : ℕ) → none ≡ false → (if none then 0 else byte) ≡ byte
keeps_by true byte some = cc
keeps_by false byte some = refl

room_close : (old : List Range) (bytes : List ℕ) (room : HasRoom old 1) → HasPages (beside page 1 room.mapped) (with_own page 1 runnable (with_own page 1 changeable room.rights)) (over trampoline bytes (cleared page 1 room.bytes)) (protected trampoline 4096 runnable (written trampoline bytes (placed trampoline 4096 changeable old)))
room_close old bytes room =
    has_protected page 1 runnable (beside page 1 room.mapped) (with_own page 1 changeable room.rights) (over trampoline bytes (cleared page 1 room.bytes)) (written trampoline bytes (placed trampoline 4096 changeable old)) (room_fill old bytes room)
    (λ a here. keeps_by (has_none (with_own page 1 changeable room.rights (a / 4096))) (over trampoline bytes (cleared page 1 room.bytes) a) (ap has_none (own_in page (a / 4096) changeable room.rights here)))

close_few : (old : List Range) (more : ℕ) (room : HasRoom old 1) → right_pages room.mapped room.rights + 1 + more ≤ most_pages → right_pages (beside page 1 room.mapped) (with_own page 1 runnable (with_own page 1 changeable room.rights)) + more ≤ most_pages
close_few old more room few =
    let placing = right_placed page 1 changeable room.mapped room.rights (omega arith) in
    let closing = right_own page runnable (beside page 1 room.mapped) (with_own page 1 changeable room.rights) (ap has_none (own_in page page changeable room.rights page_itself)) in
    omega (arith, placing, closing, few)

pub close_want : (result : Result Unit MapFault) (fault : MapFault) (old filled : List Range) (bytes : List ℕ) → result ≡ Err fault → filled ≡ written trampoline bytes (placed trampoline 4096 changeable old) → ((n : ℕ) → result ≡ Err (faults.PagesFull n) → (n ≡ stored_pages (protected trampoline 4096 runnable filled)) × (65536 < n)) → ((a : ℕ) → result ≡ Err (faults.NotMapped a) → first_unmapped filled trampoline 4096 ≡ Some a) → HasRoom old 1 → fault ≡ faults.Memory
close_want result (faults.PagesFull n) old filled bytes is filled_is full absent room =
    let told = full n is in
    let counted : stored_pages (protected trampoline 4096 runnable filled) ≡ right_pages (beside page 1 room.mapped) (with_own page 1 runnable (with_own page 1 changeable room.rights)) =
    ap (λ (memory : List Range). stored_pages (protected trampoline 4096 runnable memory)) filled_is
    ∙ stored_right (beside page 1 room.mapped) (with_own page 1 runnable (with_own page 1 changeable room.rights)) (over trampoline bytes (cleared page 1 room.bytes)) _ (room_close old bytes room) in
    let few = close_few old 0 room (omega (arith, room.few)) in
    absurd (omega (arith, told.0, told.1, counted, few))
close_want result (faults.NotMapped a) old filled bytes is filled_is full absent room =
    let at : first_unmapped filled trampoline 4096 ≡ Some a = absent a is in
    let none : first_unmapped filled trampoline 4096 ≡ None =
    ap (λ (memory : List Range). first_unmapped memory trampoline 4096) filled_is
    ∙ all_mapped (beside page 1 room.mapped) (with_own page 1 changeable room.rights) (over trampoline bytes (cleared page 1 room.bytes)) (written trampoline bytes (placed trampoline 4096 changeable old)) page 1 (room_fill old bytes room) (here_true room.mapped) in
    cc
close_want result faults.Memory old filled bytes is filled_is full absent room = refl

-- ---- the segments before it, and the stack behind it

pub load_few : (elf : Elf) (args env : List (List ℕ)) → FitsIn (program_of (image elf) args env) → pages_of (image elf).segments ≤ most_pages
unfolding wanted_pages
load_few elf args env fits = omega (arith, fits.pages)

pub loaded_few : (elf : Elf) (args env : List (List ℕ)) → FitsIn (program_of (image elf) args env) → HasRoom (loaded (image elf).segments) 2049
unfolding wanted_pages
loaded_few elf args env fits =
    let segments = map segment_image elf.segments.items in
    let counted = right_few (is_touched (map segment_image elf.segments.items)) (map segment_image elf.segments.items) (are_within elf.segments.items) in
    record {
      mapped = is_touched segments;
      rights = page_rights segments;
      bytes = byte_at segments;
      has = has_loaded segments (are_within elf.segments.items);
      few = omega (arith, counted, fits.pages);
    }

abbrev pub fewer : (memory : List Range) → HasRoom memory 2049 → HasRoom memory 1
fewer memory room = record { mapped = room.mapped; rights = room.rights; bytes = room.bytes; has = room.has; few = omega (arith, room.few) }

stack_few : (old : List Range) → HasRoom old 2049 → stored_pages (with_pages (with_trampoline old)) ≤ most_pages
unfolding with_trampoline
stack_few old room =
    let less = fewer old room in
    let enough : right_pages room.mapped room.rights + 1 + 2048 ≤ most_pages = omega (arith, room.few) in
    let few : right_pages (beside page 1 room.mapped) (with_own page 1 runnable (with_own page 1 changeable room.rights)) + 2048 ≤ most_pages = close_few old 2048 less enough in
    let more = right_placed 0x3FFF7FE 2048 changeable (beside page 1 room.mapped) (with_own page 1 runnable (with_own page 1 changeable room.rights)) (omega arith) in
    let is = stored_right (beside 0x3FFF7FE 2048 (beside page 1 room.mapped)) (with_own 0x3FFF7FE 2048 changeable (with_own page 1 runnable (with_own page 1 changeable room.rights))) (cleared 0x3FFF7FE 2048 (over trampoline trampoline_bytes (cleared page 1 room.bytes))) (with_pages (with_trampoline old))
    (has_placed 0x3FFF7FE 2048 changeable (beside page 1 room.mapped) (with_own page 1 runnable (with_own page 1 changeable room.rights)) (over trampoline trampoline_bytes (cleared page 1 room.bytes)) (with_trampoline old) (omega arith) (room_close old trampoline_bytes less)) in
    omega (arith, few, more, is)

-- so the stack is refused for want of memory alone
pub stack_want : (elf : Elf) (args env : List (List ℕ)) (memory before : List Range) (fault : StackFault) → FitsIn (program_of (image elf) args env) → before ≡ loaded (image elf).segments → memory ≡ with_trampoline before → IsRefused args env memory fault → fault ≡ stacks.Memory
stack_want elf args env memory before (stacks.TooLong size) fits before_is is refused =
    let few = fits.stack in
    absurd (omega (arith, few, refused.1))
stack_want elf args env memory before (stacks.PagesFull wanted) fits before_is is refused =
    let few = stack_few (loaded (image elf).segments) (loaded_few elf args env fits) in
    let same : stored_pages (with_pages memory) ≡ stored_pages (with_pages (with_trampoline (loaded (image elf).segments))) =
    ap (λ (m : List Range). stored_pages (with_pages m)) (is ∙ ap with_trampoline before_is) in
    absurd (omega (arith, few, same, refused.0, refused.1))
stack_want elf args env memory before stacks.Memory fits before_is is refused = refl
