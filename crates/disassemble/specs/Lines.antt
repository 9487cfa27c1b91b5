-- The lines of the words that bytes hold.
-- Source: the RISC-V unprivileged manual, "Base Instruction-Length Encoding" for the two lowest bits, and "Expanded
-- Instruction-Length Encoding" for the order of the bytes. That a word without an instruction is written `none` is the
-- project's own.
use Rattle.std.specs.Prelude.{ℕ, zero, suc, ◌+◌, ◌*◌, ◌/◌, ◌^◌, if◌then◌else◌, ◌==◌, List, [], ◌++◌, Option, Some, None, codes, length, slice_index}
use Rattle.isa_decode.specs.declared.instruction.Instr.{Instr}
use Rattle.isa_decode.specs.Fields.{bits}
use Rattle.isa_decode.specs.Listing.{decoding}
use Rattle.isa_compressed.specs.Expansion.{expansion}
use Rattle.isa_print.specs.Texts.{instruction_text}

-- what the word stands for where its two lowest bits are set, else what its lower half expands to
abbrev pub instruction_of : ℕ → Option Instr
instruction_of word = if bits word 1 0 == 3 then decoding word else expansion (bits word 15 0)

abbrev pub text_or_none : Option Instr → List ℕ
text_or_none (Some instr) = instruction_text instr
text_or_none None = codes "none"

-- the line of the word, without its end
abbrev pub line_text : ℕ → List ℕ
line_text word = text_or_none (instruction_of word)

-- the word at index i: 4 bytes, the lowest first
abbrev pub word_at : List ℕ → ℕ → ℕ
word_at bytes i =
    slice_index bytes (4 * i) + slice_index bytes (4 * i + 1) * 2 ^ 8 + slice_index bytes (4 * i + 2) * 2 ^ 16
    + slice_index bytes (4 * i + 3) * 2 ^ 24

-- the lines of the first words, each with its end
unfoldable pub first_lines : List ℕ → ℕ → List ℕ
first_lines bytes zero = []
first_lines bytes (suc n) = first_lines bytes n ++ (line_text (word_at bytes n) ++ codes "\n")

-- the lines of all the words
abbrev pub lines_text : List ℕ → List ℕ
lines_text bytes = first_lines bytes (length bytes / 4)
