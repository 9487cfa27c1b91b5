-- An instruction leaves memory in which nothing can be both written and executed, and the code in it.
use Rattle.std.proofs.Common.{◌≡◌, ℕ, Bool, true, false, cond, List, length, Option, Some, None, refl}
use Rattle.byteorder.specs.Endian.{little_bytes}
use Rattle.isa_decode.specs.declared.instruction.Instr.{Instr}
use Rattle.isa_decode.specs.declared.instruction.Instr.TheVariants.{Lui, Auipc, Jal, Jalr, Branch, Load, Store, OpImm, Op, LoadReserved, StoreConditional, Amo, Fence, Ecall, Ebreak}
use Rattle.isa_decode.specs.declared.instruction.Width.{Width}
use Rattle.isa_decode.specs.declared.instruction.Width.TheVariants.{One, Two, Four, Eight}
use Rattle.isa_exec.specs.Registers.{Registers, register}
use Rattle.guest_pages.specs.Apart.{IsApart, Stays}
use Rattle.guest_pages.specs.declared.rights.Rights.{Rights}
use Rattle.guest_pages.specs.declared.fault.PageFault.{PageFault}
use Rattle.guest_pages.specs.Faults.{changeable, first_fault, writable}
use Rattle.guest_pages.specs.Ranges.{Range}
use Rattle.guest_pages.proofs.ApartFacts.{same_stays, written_stays}
use Rattle.word_memory.specs.declared.fault.WordFault.{WordFault}
use Rattle.word_memory.specs.declared.fault.WordFault.TheVariants.{Misaligned}
use Rattle.word_memory.specs.declared.reservations.Held.{Held}
use Rattle.word_memory.specs.Accesses.{conditional_at, page_fault, with_word, word_fault}
use Rattle.word_memory.specs.Atomics.{size_of}
use Rattle.word_memory.proofs.FaultFacts.{writable_too}
use Rattle.isa_step.specs.Instruction.{Found, Is, IsNot, Runs, combines, executed, found, instruction, loads, of_found, reserves, runs_unless, runs_unless_word, store_size, stores, stores_conditionally}

pure_stays : (regs after : Registers) (memory left : List Range) (held other : List Held) → IsApart memory → Runs regs memory held ≡ Runs after left other → Stays memory left
pure_stays regs after memory left held other is same = same_stays memory left is (cc)

unless_stays : (fault : Option PageFault) (regs after : Registers) (memory next left : List Range) (held other : List Held) → (fault ≡ None → Stays memory next) → runs_unless fault (Runs regs next held) ≡ Runs after left other → Stays memory left
unless_stays None regs after memory next left held other stays same = let equal : left ≡ next = cc in rw equal (stays refl)
unless_stays (Some fault) regs after memory next left held other stays same = cc

unless_word_stays : (fault : Option WordFault) (regs after : Registers) (memory next left : List Range) (held other : List Held) → (fault ≡ None → Stays memory next) → runs_unless_word fault (Runs regs next held) ≡ Runs after left other → Stays memory left
unless_word_stays None regs after memory next left held other stays same = let equal : left ≡ next = cc in rw equal (stays refl)
unless_word_stays (Some fault) regs after memory next left held other stays same = cc

store_length : (width : Width) (value : ℕ) → length (little_bytes (store_size width) value) ≡ store_size width
store_length One value = refl
store_length Two value = refl
store_length Four value = refl
store_length Eight value = refl

word_length : (wide : Bool) (value : ℕ) → length (little_bytes (size_of wide) value) ≡ size_of wide
word_length true value = refl
word_length false value = refl

no_page_fault : (fault : Option PageFault) → page_fault fault ≡ None → fault ≡ None
no_page_fault None none = refl
no_page_fault (Some fault) none = cc

no_fault_by : (aligned : Bool) (fault : Option PageFault) (at : ℕ) → cond aligned (page_fault fault) (Some (Misaligned at)) ≡ None → fault ≡ None
no_fault_by true fault at none = no_page_fault fault none
no_fault_by false fault at none = cc

no_word_fault : (needed : Rights) (memory : List Range) (wide : Bool) (at : ℕ) → word_fault needed memory wide at ≡ None → first_fault needed memory at (size_of wide) ≡ None
unfolding word_fault
no_word_fault needed memory wide at none = no_fault_by _ (first_fault needed memory at (size_of wide)) at none

word_stays : (at : ℕ) (wide : Bool) (value : ℕ) (memory : List Range) → IsApart memory → first_fault writable memory at (size_of wide) ≡ None → Stays memory (with_word at wide value memory)
unfolding with_word
word_stays at wide value memory is good = written_stays at (little_bytes (size_of wide) value) memory is (rw (word_length wide value) good)

conditional_stays : (holds wide : Bool) (at value : ℕ) (memory : List Range) → IsApart memory → first_fault writable memory at (size_of wide) ≡ None → Stays memory (conditional_at holds wide at value memory)
conditional_stays true wide at value memory is good = word_stays at wide value memory is good
conditional_stays false wide at value memory is good = same_stays memory memory is refl

runs_stays : (thread : ℕ) (instr : Instr) (size : ℕ) (regs after : Registers) (memory left : List Range) (held other : List Held) → IsApart memory → executed thread instr size regs memory held ≡ Runs after left other → Stays memory left
unfolding executed loads stores reserves stores_conditionally combines
runs_stays thread (Lui rd imm) size regs after memory left held other is same = pure_stays _ after memory left held other is same
runs_stays thread (Auipc rd imm) size regs after memory left held other is same = pure_stays _ after memory left held other is same
runs_stays thread (Jal rd imm) size regs after memory left held other is same = pure_stays _ after memory left held other is same
runs_stays thread (Jalr rd rs1 imm) size regs after memory left held other is same = pure_stays _ after memory left held other is same
runs_stays thread (Branch cmp rs1 rs2 imm) size regs after memory left held other is same = pure_stays _ after memory left held other is same
runs_stays thread (Load kind rd rs1 imm) size regs after memory left held other is same = unless_stays _ _ after memory memory left held other (λ none. same_stays memory memory is refl) same
runs_stays thread (Store width rs1 rs2 imm) size regs after memory left held other is same =
    unless_stays _ _ after memory _ left _ other (λ none. written_stays _ _ memory is (rw (store_length width (register regs rs2)) none)) same
runs_stays thread (OpImm op rd rs1 imm) size regs after memory left held other is same = pure_stays _ after memory left held other is same
runs_stays thread (Op op rd rs1 rs2) size regs after memory left held other is same = pure_stays _ after memory left held other is same
runs_stays thread (LoadReserved wide order rd rs1) size regs after memory left held other is same = unless_word_stays _ _ after memory memory left _ other (λ none. same_stays memory memory is refl) same
runs_stays thread (StoreConditional wide order rd rs1 rs2) size regs after memory left held other is same =
    unless_word_stays _ _ after memory _ left _ other (λ none. conditional_stays _ wide _ _ memory is (no_word_fault writable memory wide _ none)) same
runs_stays thread (Amo op wide order rd rs1 rs2) size regs after memory left held other is same =
    unless_word_stays _ _ after memory _ left _ other (λ none. word_stays _ wide _ memory is (writable_too memory _ _ (no_word_fault changeable memory wide _ none))) same
runs_stays thread (Fence code rd rs1 imm) size regs after memory left held other is same = pure_stays _ after memory left held other is same
runs_stays thread Ecall size regs after memory left held other is same = cc
runs_stays thread Ebreak size regs after memory left held other is same = cc

found_stays : (thread : ℕ) (code : Found) (regs after : Registers) (memory left : List Range) (held other : List Held) → IsApart memory → of_found thread code regs memory held ≡ Runs after left other → Stays memory left
found_stays thread (Is instr size) regs after memory left held other is same = runs_stays thread instr size regs after memory left held other is same
found_stays thread (IsNot fault) regs after memory left held other is same = cc

pub instruction_stays : (thread : ℕ) (regs after : Registers) (memory left : List Range) (held other : List Held) → IsApart memory → instruction thread regs memory held ≡ Runs after left other → Stays memory left
unfolding instruction
instruction_stays thread regs after memory left held other is same = found_stays thread (found regs memory) regs after memory left held other is same
