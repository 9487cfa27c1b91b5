-- Programs of one segment.
-- Source: the project's own choice, of the files of the System V ABI.
use Rattle.std.specs.Prelude.{ℕ, ◌+◌, List, [], ◌∷◌, ◌++◌, length, replicate}
use Rattle.std.specs.Int.{w32, to_le_bytes}
use Rattle.std.specs.List.{flat_map}
use Rattle.elf_build.specs.File.{file, loaded}

abbrev pub word_bytes : ℕ → List ℕ
word_bytes word = to_le_bytes w32 word

-- words, and bytes behind them
unfoldable pub content : List ℕ → List ℕ → List ℕ
content words data_bytes = flat_map word_bytes words ++ data_bytes

unfoldable pub behind_zeros : ℕ → List ℕ → List ℕ
behind_zeros zeros bytes = replicate zeros 0 ++ bytes

-- type EXEC, with compressed instructions; the segment stands at 0x10000, and can be read and executed
unfoldable pub one_segment : ℕ → ℕ → ℕ → List ℕ → List ℕ
one_segment entry offset size rest =
    file (record { kind = 2; entry = entry; table = 64; flags = 1; count = 1 }) (loaded 5 0x10000 size offset size ∷ []) rest

-- the words at 0x10000, from 4096 on in the file, whose headers end at 120
unfoldable pub program : List ℕ → List ℕ → List ℕ
program words data_bytes =
    one_segment 0x10000 4096 (length (content words data_bytes)) (behind_zeros 3976 (content words data_bytes))

-- all of the file at 0x10000, and so the words at 0x10078
unfoldable pub whole_program : List ℕ → List ℕ → List ℕ
whole_program words data_bytes =
    one_segment 0x10078 0 (120 + length (content words data_bytes)) (content words data_bytes)
