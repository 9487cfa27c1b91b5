-- What one instruction does, as a function of the registers, the memory and the reservations. A fault changes nothing.
-- Source: the RISC-V unprivileged manual, "RV64I", "M", "A", "C" and "Zifencei". The signals of faults: sigaction(2).
use Rattle.std.specs.Prelude.{ℕ, ◌+◌, ◌*◌, ◌%◌, ◌^◌, ◌==◌, Bool, not, if◌then◌else◌, List, Option, Some, None, Result, Ok, Err}
use Rattle.std.specs.Int.{w8, w16, w32, cast_signed}
use Rattle.byteorder.specs.Endian.{little_number, little_bytes}
use Rattle.isa_decode.specs.declared.instruction.Instr.{Instr}
use Rattle.isa_decode.specs.declared.instruction.Instr.TheVariants as instr
use Rattle.isa_decode.specs.declared.instruction.LoadKind.{LoadKind}
use Rattle.isa_decode.specs.declared.instruction.LoadKind.TheVariants.{Lb, Lh, Lw, Ld, Lbu, Lhu, Lwu}
use Rattle.isa_decode.specs.declared.instruction.Width.{Width}
use Rattle.isa_decode.specs.declared.instruction.Width.TheVariants.{One, Two, Four, Eight}
use Rattle.isa_decode.specs.declared.instruction.AmoOp.{AmoOp}
use Rattle.isa_decode.specs.Listing.{decoding}
use Rattle.isa_compressed.specs.Expansion.{expansion}
use Rattle.isa_exec.specs.Arithmetic.{number, bit}
use Rattle.isa_exec.specs.Execution.{address, put, regs_after}
use Rattle.isa_exec.specs.Registers.{behind, going_on_at, register, Registers}
use Rattle.guest_pages.specs.declared.fault.PageFault.{PageFault}
use Rattle.guest_pages.specs.declared.fault.PageFault.TheVariants.{NotMapped, NoAccess}
use Rattle.guest_pages.specs.Faults.{answer_or, executable, first_fault, readable, writable, changeable}
use Rattle.guest_pages.specs.Operations.{bytes_at, written}
use Rattle.guest_pages.specs.Ranges.{Range}
use Rattle.word_memory.specs.declared.fault.WordFault.{WordFault}
use Rattle.word_memory.specs.declared.fault.WordFault.TheVariants.{Misaligned, Page}
use Rattle.word_memory.specs.declared.reservations.Held.{Held}
use Rattle.word_memory.specs.Accesses.{after_conditional, combined_at, conditional_at, word_at, word_fault}
use Rattle.word_memory.specs.Atomics.{filled, size_of}
use Rattle.word_memory.specs.Reservations.{doubleword, reserving, stands, stored_to}
use Rattle.isa_step.specs.declared.fault.Fault.{Fault}

-- the registers, the memory and the reservations afterwards; a call of the system; or a fault
pub data InstructionOutcome : Type 0 where
  Runs : Registers → List Range → List Held → InstructionOutcome
  Calls : InstructionOutcome
  Faults : Fault → InstructionOutcome

-- ---- the signals of faults

-- no instruction: SIGILL, ILL_ILLOPC, at pc
abbrev pub illegal : ℕ → Fault
illegal pc = record { signal = 4; code = 1; address = pc }

-- a stop for a debugger: SIGTRAP, TRAP_BRKPT, at pc
abbrev pub breakpoint : ℕ → Fault
breakpoint pc = record { signal = 5; code = 1; address = pc }

-- a misaligned atomic access: SIGBUS, BUS_ADRALN
abbrev pub misaligned : ℕ → Fault
misaligned address = record { signal = 7; code = 1; address = address }

-- SIGSEGV: SEGV_MAPERR where an address isn't mapped, SEGV_ACCERR where it lacks a right; the least bad address
abbrev pub fault_of_page : PageFault → Fault
fault_of_page (NotMapped address) = record { signal = 11; code = 1; address = address }
fault_of_page (NoAccess address) = record { signal = 11; code = 2; address = address }

abbrev pub fault_of_word : WordFault → Fault
fault_of_word (Misaligned address) = misaligned address
fault_of_word (Page fault) = fault_of_page fault

-- ---- the code at pc

-- the instruction at pc with its number of bytes, or a fault
pub data Found : Type 0 where
  Is : Instr → ℕ → Found
  IsNot : Fault → Found

abbrev pub half_at : List Range → ℕ → Result ℕ PageFault
half_at memory at = answer_or (first_fault executable memory at 2) (little_number 2 (bytes_at memory at 2))

abbrev pub is_or_illegal : ℕ → ℕ → Option Instr → Found
is_or_illegal pc size (Some i) = Is i size
is_or_illegal pc size None = IsNot (illegal pc)

abbrev pub of_high : ℕ → ℕ → Result ℕ PageFault → Found
of_high pc low (Ok high) = is_or_illegal pc 4 (decoding (low + 2 ^ 16 * high))
of_high pc low (Err fault) = IsNot (fault_of_page fault)

-- a half word with both low bits set is the low half of a word
abbrev pub of_low : Registers → List Range → Result ℕ PageFault → Found
of_low regs memory (Ok low) =
    if low % 4 == 3 then of_high regs.pc low (half_at memory (behind 2 regs)) else is_or_illegal regs.pc 2 (expansion low)
of_low regs memory (Err fault) = IsNot (fault_of_page fault)

unfoldable pub found : Registers → List Range → Found
found regs memory = of_low regs memory (half_at memory regs.pc)

-- ---- loads and stores

abbrev pub load_size : LoadKind → ℕ
load_size Lb = 1
load_size Lh = 2
load_size Lw = 4
load_size Ld = 8
load_size Lbu = 1
load_size Lhu = 2
load_size Lwu = 4

-- the register of a number that was loaded
abbrev pub loaded : LoadKind → ℕ → ℕ
loaded Lb n = number (cast_signed w8 (n % 2 ^ 8))
loaded Lh n = number (cast_signed w16 (n % 2 ^ 16))
loaded Lw n = number (cast_signed w32 (n % 2 ^ 32))
loaded Ld n = n
loaded Lbu n = n
loaded Lhu n = n
loaded Lwu n = n

abbrev pub store_size : Width → ℕ
store_size One = 1
store_size Two = 2
store_size Four = 4
store_size Eight = 8

-- the outcome unless there is a fault
abbrev pub runs_unless : Option PageFault → InstructionOutcome → InstructionOutcome
runs_unless None outcome = outcome
runs_unless (Some fault) outcome = Faults (fault_of_page fault)

abbrev pub runs_unless_word : Option WordFault → InstructionOutcome → InstructionOutcome
runs_unless_word None outcome = outcome
runs_unless_word (Some fault) outcome = Faults (fault_of_word fault)

unfoldable pub loads : LoadKind → ℕ → ℕ → ℕ → Registers → List Range → List Held → InstructionOutcome
loads kind rd at size regs memory held = runs_unless
    (first_fault readable memory at (load_size kind))
    (Runs (put rd (loaded kind (little_number (load_size kind) (bytes_at memory at (load_size kind)))) size regs) memory held)

unfoldable pub stores : ℕ → Width → ℕ → ℕ → ℕ → Registers → List Range → List Held → InstructionOutcome
stores thread width at value size regs memory held = runs_unless
    (first_fault writable memory at (store_size width))
    (Runs (going_on_at (behind size regs) regs)
    (written at (little_bytes (store_size width) value) memory)
    (stored_to thread at (store_size width) held))

unfoldable pub reserves : ℕ → Bool → ℕ → ℕ → ℕ → Registers → List Range → List Held → InstructionOutcome
reserves thread wide rd at size regs memory held = runs_unless_word
    (word_fault readable memory wide at)
    (Runs (put rd (filled wide (word_at memory wide at)) size regs) memory (reserving thread (Some (doubleword at)) held))

-- rd is 0 where the value was stored, else 1
unfoldable pub stores_conditionally : ℕ → Bool → ℕ → ℕ → ℕ → ℕ → Registers → List Range → List Held → InstructionOutcome
stores_conditionally thread wide rd at value size regs memory held =
    let holds = stands thread (doubleword at) held in
    runs_unless_word
    (word_fault writable memory wide at)
    (Runs (put rd (bit (not holds)) size regs)
    (conditional_at holds wide at value memory)
    (after_conditional holds thread wide at held))

unfoldable pub combines : ℕ → AmoOp → Bool → ℕ → ℕ → ℕ → ℕ → Registers → List Range → List Held → InstructionOutcome
combines thread op wide rd at value size regs memory held = runs_unless_word
    (word_fault changeable memory wide at)
    (Runs (put rd (filled wide (word_at memory wide at)) size regs)
    (combined_at op wide at value memory)
    (stored_to thread at (size_of wide) held))

-- ---- the rows

unfoldable pub executed : ℕ → Instr → ℕ → Registers → List Range → List Held → InstructionOutcome
executed thread (instr.Load kind rd rs1 imm) size regs memory held =
    loads kind rd (address regs rs1 imm) size regs memory held
executed thread (instr.Store width rs1 rs2 imm) size regs memory held =
    stores thread width (address regs rs1 imm) (register regs rs2) size regs memory held
executed thread (instr.LoadReserved wide order rd rs1) size regs memory held =
    reserves thread wide rd (register regs rs1) size regs memory held
executed thread (instr.StoreConditional wide order rd rs1 rs2) size regs memory held =
    stores_conditionally thread wide rd (register regs rs1) (register regs rs2) size regs memory held
executed thread (instr.Amo op wide order rd rs1 rs2) size regs memory held =
    combines thread op wide rd (register regs rs1) (register regs rs2) size regs memory held
executed thread instr.Ecall size regs memory held = Calls
executed thread instr.Ebreak size regs memory held = Faults (breakpoint regs.pc)
executed thread (instr.Lui rd imm) size regs memory held = Runs (regs_after (instr.Lui rd imm) size regs) memory held
executed thread (instr.Auipc rd imm) size regs memory held = Runs (regs_after (instr.Auipc rd imm) size regs) memory held
executed thread (instr.Jal rd imm) size regs memory held = Runs (regs_after (instr.Jal rd imm) size regs) memory held
executed thread (instr.Jalr rd rs1 imm) size regs memory held =
    Runs (regs_after (instr.Jalr rd rs1 imm) size regs) memory held
executed thread (instr.Branch cmp rs1 rs2 imm) size regs memory held =
    Runs (regs_after (instr.Branch cmp rs1 rs2 imm) size regs) memory held
executed thread (instr.OpImm op rd rs1 imm) size regs memory held =
    Runs (regs_after (instr.OpImm op rd rs1 imm) size regs) memory held
executed thread (instr.Op op rd rs1 rs2) size regs memory held =
    Runs (regs_after (instr.Op op rd rs1 rs2) size regs) memory held
executed thread (instr.Fence code rd rs1 imm) size regs memory held =
    Runs (regs_after (instr.Fence code rd rs1 imm) size regs) memory held

abbrev pub of_found : ℕ → Found → Registers → List Range → List Held → InstructionOutcome
of_found thread (Is i size) regs memory held = executed thread i size regs memory held
of_found thread (IsNot fault) regs memory held = Faults fault

-- what the thread's instruction does
unfoldable pub instruction : ℕ → Registers → List Range → List Held → InstructionOutcome
instruction thread regs memory held = of_found thread (found regs memory) regs memory held

-- the instruction does not fault
abbrev pub IsFaultless : InstructionOutcome → Type 0
IsFaultless (Runs regs memory held) = Unit {0}
IsFaultless Calls = Unit {0}
IsFaultless (Faults fault) = ⊥

-- it neither asks for a call nor faults
abbrev pub IsPlain : InstructionOutcome → Type 0
IsPlain (Runs regs memory held) = Unit {0}
IsPlain Calls = ⊥
IsPlain (Faults fault) = ⊥
