-- A fault is told as the cause in whose row its step stands.
use Rattle.std.proofs.Common.{◌≡◌, Some, refl, inl}
use Rattle.elf_file.specs.declared.fault.ElfFault.{ElfFault}
use Rattle.elf_file.specs.declared.fault.ElfFault.TheVariants as files
use Rattle.isa_asm.specs.declared.cause.AsmFault.{AsmFault}
use Rattle.isa_asm.specs.declared.cause.AsmCause.{AsmCause}
use Rattle.isa_asm.specs.declared.cause.AsmCause.TheVariants as asm
use Rattle.emu_top.specs.declared.cause.Cause.TheVariants as causes
use Rattle.emu_top.specs.Causes.{AtFile, AtSource, IsTold, file_step, source_step_by}

-- a fault of the file but want of memory
file_row : (fault : ElfFault) → (fault ≡ files.Memory → ⊥) → file_step fault ≡ Some (AtFile fault)
file_row files.Short apart = refl
file_row files.NotElf apart = refl
file_row files.NotRiscv apart = refl
file_row files.Kind apart = refl
file_row files.FloatAbi apart = refl
file_row files.Embedded apart = refl
file_row (files.HeaderSize size) apart = refl
file_row files.Interpreter apart = refl
file_row (files.BadSegment index) apart = refl
file_row (files.WritableCode index) apart = refl
file_row (files.Overlap first second) apart = refl
file_row files.Entry apart = refl
file_row files.Memory apart = absurd (apart refl)

pub file_told : (fault : ElfFault) → (fault ≡ files.Memory → ⊥) → IsTold (AtFile fault) (causes.Elf fault)
file_told fault apart = inl (file_row fault apart)

-- a fault of the source but want of memory
source_row : (fault : AsmFault) (cause : AsmCause) → (cause ≡ asm.Memory → ⊥) → source_step_by fault cause ≡ Some (AtSource fault)
source_row fault asm.Word apart = refl
source_row fault asm.Operand apart = refl
source_row fault asm.Range apart = refl
source_row fault asm.Label apart = refl
source_row fault asm.Twice apart = refl
source_row fault asm.TooBig apart = refl
source_row fault asm.NoText apart = refl
source_row fault asm.Memory apart = absurd (apart refl)

pub source_told : (fault : AsmFault) → (fault.cause ≡ asm.Memory → ⊥) → IsTold (AtSource fault) (causes.Asm fault)
source_told fault apart = inl (source_row fault fault.cause apart)
