-- The lines that the program writes on its notes. Each begins with its name and ends with a newline.
-- The project's own.
use Rattle.std.specs.Prelude.{◌≡◌, ◌⊎◌, ℕ, List, [], ◌∷◌, ◌++◌, Option, Some, None, codes, decimal}
use Rattle.elf_file.specs.declared.fault.ElfFault.{ElfFault}
use Rattle.elf_file.specs.declared.fault.ElfFault.TheVariants as elf
use Rattle.isa_asm.specs.declared.cause.AsmCause.{AsmCause}
use Rattle.isa_asm.specs.declared.cause.AsmCause.TheVariants as asm
use Rattle.emu_top.specs.declared.cause.Cause.{Cause}
use Rattle.emu_top.specs.declared.cause.Cause.TheVariants as causes
use Rattle.emu_top.specs.declared.cause.Part.{Part}
use Rattle.emu_top.specs.declared.cause.Part.TheVariants as parts
use Rattle.emu_top.specs.declared.ends.End.{End}
use Rattle.emu_top.specs.declared.ends.End.TheVariants.{Exit, Killed, Budget, Done}
use Rattle.emu_top.specs.Outside.{NotesSeen}
use Rattle.told.specs.Told.{more, Rose, HoldsBeginning}

abbrev pub newline : List ℕ
newline = 10 ∷ []

-- the line of an end under a budget, none where the process ended by itself, or there was none
abbrev pub end_line : ℕ → End → Option (List ℕ)
end_line budget (Exit code) = None
end_line budget (Killed signal) = Some (codes "rvuser: killed by signal " ++ (decimal signal ++ newline))
end_line budget Budget = Some (codes "rvuser: budget of " ++ (decimal budget ++ codes " events spent\n"))
end_line budget Done = None

abbrev pub part_text : Part → List ℕ
part_text parts.Folder = codes "folder"
part_text (parts.Device device) = codes "device " ++ decimal device
part_text parts.Notes = codes "notes"

-- the variant's name, and its numbers behind a blank
abbrev pub fault_text : ElfFault → List ℕ
fault_text elf.Short = codes "Short"
fault_text elf.NotElf = codes "NotElf"
fault_text elf.NotRiscv = codes "NotRiscv"
fault_text elf.Kind = codes "Kind"
fault_text elf.FloatAbi = codes "FloatAbi"
fault_text elf.Embedded = codes "Embedded"
fault_text (elf.HeaderSize size) = codes "HeaderSize " ++ decimal size
fault_text elf.Interpreter = codes "Interpreter"
fault_text (elf.BadSegment index) = codes "BadSegment " ++ decimal index
fault_text (elf.WritableCode index) = codes "WritableCode " ++ decimal index
fault_text (elf.Overlap first second) = codes "Overlap " ++ (decimal first ++ (codes " " ++ decimal second))
fault_text elf.Entry = codes "Entry"
fault_text elf.Memory = codes "Memory"

-- the variant's name
abbrev pub asm_text : AsmCause → List ℕ
asm_text asm.Word = codes "Word"
asm_text asm.Operand = codes "Operand"
asm_text asm.Range = codes "Range"
asm_text asm.Label = codes "Label"
asm_text asm.Twice = codes "Twice"
asm_text asm.TooBig = codes "TooBig"
asm_text asm.NoText = codes "NoText"
asm_text asm.Memory = codes "Memory"

-- the line was told
pub record IsPut (line : List ℕ) (before after : NotesSeen) : Type 0 where
  pub held : after.held ≡ more before.held line
  pub still : after.failed_writes ≡ before.failed_writes

-- the sink failed at the line, and holds a beginning of it
pub record FailsToTell (line : List ℕ) (before after : NotesSeen) : Type 0 where
  pub beginning : HoldsBeginning before.held line after.held
  pub rose : Rose before.failed_writes after.failed_writes

-- the end's line was told, where it has one
abbrev pub TellsEnd : Option (List ℕ) → NotesSeen → NotesSeen → Type 0
TellsEnd None before after = after ≡ before
TellsEnd (Some line) before after = IsPut line before after

-- a line was tried, where there is one: it was told, or the sink failed at it
abbrev pub TriesLine : Option (List ℕ) → NotesSeen → NotesSeen → Type 0
TriesLine None before after = after ≡ before
TriesLine (Some line) before after = IsPut line before after ⊎ FailsToTell line before after

-- Why an end wasn't told: the sink failed at its line, or there was no memory for it.
abbrev pub EndsUntold : ℕ → End → NotesSeen → NotesSeen → Cause → Type 0
EndsUntold budget end before after cause =
    ((cause ≡ causes.WriteFault parts.Notes) × ((line : List ℕ) × (end_line budget end ≡ Some line) × FailsToTell line before after))
    ⊎ ((cause ≡ causes.Memory) × (after ≡ before))
