-- The state in which a program starts.
-- Source: System V ABI, "Program Loading" and "Process Initialization"; RISC-V ELF psABI. That the other registers start as 0,
-- the trampoline, through which handlers will return, and the bound of pages are the project's own.
use Rattle.std.specs.Prelude.{◌≡◌, ◌<◌, ◌≤◌, ℕ, ◌+◌, ◌-◌, ◌^◌, ◌++◌, min, Bool, false, List, [], Result, Ok, Err}
use Rattle.byteorder.specs.Endian.{little_bytes}
use Rattle.elf_file.specs.Reading.{Image}
use Rattle.guest_pages.specs.declared.rights.Rights.{Rights}
use Rattle.segment_load.specs.Loading.{loaded}
use Rattle.segment_load.specs.Steps.{HasPages, right_pages}
use Rattle.segment_load.specs.Wanted.{pages_of}
use Rattle.start_stack.specs.Placing.{with_stack, stack_pointer, stack_size, told_size}
use Rattle.guest_pages.specs.Limits.{most_pages, most_stack_bytes, page_size, trampoline}
use Rattle.guest_pages.specs.Faults.{changeable, runnable}
use Rattle.file_table.specs.State.{Files}
use Rattle.host_calls.specs.Breaks.{break_behind}
use Rattle.host_calls.specs.Queue.{empty_queue}
use Rattle.guest_core.specs.declared.places.Place.TheVariants.{Loop}
use Rattle.isa_exec.specs.Registers.{Registers, starting_at, with_register}
use Rattle.guest_core.specs.declared.starting.StartFault.{StartFault}
use Rattle.guest_core.specs.declared.starting.StartFault.TheVariants.{StackTooLong, PagesFull, Memory}
use Rattle.guest_pages.specs.Operations.{placed, protected, written}
use Rattle.guest_pages.specs.Ranges.{Range}
use Rattle.word_memory.specs.Reservations.{joined}
use Rattle.guest_core.specs.Machine.{Machine, first_thread}
use Rattle.guest_core.specs.System.{alone}
use Rattle.host_calls.specs.Shared.{Shared}

-- a program: its file, its arguments, the first of which is its name, and its environment
pub record Program : Type 0 where
  pub image : Image
  pub args : List (List ℕ)
  pub env : List (List ℕ)

-- ---- memory

-- the two instructions of the trampoline: `addi a7, x0, 139` and `ecall`
abbrev pub trampoline_bytes : List ℕ
trampoline_bytes = little_bytes 4 0x08B00893 ++ little_bytes 4 0x00000073

-- its page can be read and executed, and holds zeros behind them
unfoldable pub with_trampoline : List Range → List Range
with_trampoline memory =
    protected trampoline page_size runnable (written trampoline trampoline_bytes (placed trampoline page_size changeable memory))

-- the segments, the trampoline and the first stack
unfoldable pub first_memory : Program → List Range
first_memory program =
    with_stack program.image program.args program.env (with_trampoline (loaded program.image.segments))

-- ---- the state

-- what the system has at first, with these files
abbrev pub first_shared : Program → Files → Shared
first_shared program files = record {
  memory = first_memory program;
  held = joined first_thread [];
  files = files;
  futexes = [];
  queue = empty_queue;
  program_break = break_behind program.image.top;
  drawn = 16;
  clock = 0;
}

-- pc stands at the entry, and sp (x2) at the number of arguments
abbrev pub first_regs : Program → Registers
first_regs program = with_register 2 (stack_pointer program.args program.env) (starting_at program.image.entry)

unfoldable pub started : Program → Files → Machine
started program files = alone (first_shared program files) first_thread (record {
  regs = first_regs program;
  place = Loop;
  flag = false;
  noted = [];
})

-- ---- refusals

-- the pages that a program wants: those of its segments, 2,048 of the first stack, and the trampoline's
unfoldable pub wanted_pages : Image → ℕ
wanted_pages image = pages_of image.segments + 2049

-- their number as it is told
abbrev pub told_pages : Image → ℕ
told_pages image = min (wanted_pages image) (2 ^ 64 - 1)

-- the stack and the pages suffice
pub record FitsIn (program : Program) : Type 0 where
  pub stack : stack_size program.args program.env ≤ most_stack_bytes
  pub pages : wanted_pages program.image ≤ most_pages

-- memory of whole pages, in which there is room for so many more
pub record HasRoom (memory : List Range) (more : ℕ) : Type 0 where
  pub mapped : ℕ → Bool
  pub rights : ℕ → Rights
  pub bytes : ℕ → ℕ
  pub has : HasPages mapped rights bytes memory
  pub few : right_pages mapped rights + more ≤ most_pages

-- why a start is refused: with the size of the stack, or else with the number of the pages. Want of memory is free
abbrev pub Refuses : Program → StartFault → Type 0
Refuses program (StackTooLong size) =
    (size ≡ told_size program.args program.env) × (most_stack_bytes < stack_size program.args program.env)
Refuses program (PagesFull wanted) =
    (wanted ≡ told_pages program.image) × (most_pages < wanted_pages program.image) × (stack_size program.args program.env ≤ most_stack_bytes)
Refuses program Memory = Unit {0}

-- a start is made where the stack and the pages suffice, and refused where they don't
abbrev pub Starts : Program → Files → Result Machine StartFault → Type 0
Starts program files (Ok machine) = (machine ≡ started program files) × FitsIn program
Starts program files (Err fault) = Refuses program fault

-- a program of a file that was read, with its arguments and environment
abbrev pub program_of : Image → List (List ℕ) → List (List ℕ) → Program
program_of image args env = record { image = image; args = args; env = env }
