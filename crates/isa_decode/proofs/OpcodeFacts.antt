-- A word can only have a row of its opcode.
use Rattle.std.proofs.Common.{◌≡◌, ℕ, ◌==◌, Bool, true, false, ◌&&◌, cond, List, [], ◌∷◌, Option, Some, None, refl, ap, ◌∙◌, arith}
use Rattle.std.proofs.lemmas.Bool.Decides.{nat_tests}
use Rattle.std.specs.List.{list_all, list_any}
use Rattle.isa_decode.specs.declared.instruction.Instr.{Instr}
use Rattle.isa_decode.specs.Fields.{bits}
use Rattle.isa_decode.specs.Listing.{has_row, row_of, first, mnemonics, mnemonic}
use Rattle.isa_decode.specs.Groups.{of_opcode, in_group}

by_opcode : (same : Bool) (w : ℕ) (instr : Instr) (rest : Option Instr) (kept : List Instr) → (bits w 6 0 == (row_of instr).opcode) ≡ same → rest ≡ first w kept → cond (has_row w (row_of instr)) (Some instr) rest ≡ first w (cond same (instr ∷ kept) kept)
by_opcode true w instr rest kept e is = rw is refl
by_opcode false w instr rest kept e is = rw e is

first_of_opcode : (w : ℕ) (instrs : List Instr) → first w instrs ≡ first w (of_opcode (bits w 6 0) instrs)
first_of_opcode w [] = refl
first_of_opcode w (instr ∷ instrs) = by_opcode (bits w 6 0 == (row_of instr).opcode) w instr (first w instrs) (of_opcode (bits w 6 0) instrs) refl (first_of_opcode w instrs)

pub mnemonic_in_group : (w opcode : ℕ) → bits w 6 0 ≡ opcode → mnemonic w ≡ in_group opcode w
unfolding mnemonic in_group
mnemonic_in_group w opcode is = first_of_opcode w mnemonics ∙ ap (λ (o : ℕ). first w (of_opcode o mnemonics)) is

pub none_of_group : (w opcode : ℕ) → bits w 6 0 ≡ opcode → in_group opcode w ≡ None → mnemonic w ≡ None
none_of_group w opcode is none = mnemonic_in_group w opcode is ∙ none

-- ---- the opcodes

abbrev pub opcodes : List ℕ
opcodes = 0x37 ∷ 0x17 ∷ 0x6F ∷ 0x67 ∷ 0x63 ∷ 0x03 ∷ 0x23 ∷ 0x13 ∷ 0x1B ∷ 0x33 ∷ 0x3B ∷ 0x2F ∷ 0x0F ∷ 0x73 ∷ []

-- a number that is none of the list's is not one that is in it
apart : (same : Bool) (n m : ℕ) (ms : List ℕ) → (n == m) ≡ same → list_any (λ o. m == o) ms ≡ true → list_any (λ o. n == o) ms ≡ false → same ≡ false
apart true n m ms e listed none =
    let is : n ≡ m = grind (arith, nat_tests) in
    let there : list_any (λ (o : ℕ). n == o) ms ≡ true = rw is listed in
    cc
apart false n m ms e listed none = refl

both : (a b : Bool) → (a && b) ≡ true → (a ≡ true) × (b ≡ true)
both true b e = (refl, e)
both false b e = cc

abbrev pub are_listed : List Instr → Bool
are_listed instrs = list_all (λ instr. list_any (λ o. (row_of instr).opcode == o) opcodes) instrs

none_by : (w : ℕ) (instrs : List Instr) → are_listed instrs ≡ true → list_any (λ o. bits w 6 0 == o) opcodes ≡ false → first w instrs ≡ None
none_by w [] listed none = refl
none_by w (instr ∷ instrs) listed none =
    let parts = both (list_any (λ (o : ℕ). (row_of instr).opcode == o) opcodes) (are_listed instrs) listed in
    let other : (bits w 6 0 == (row_of instr).opcode) ≡ false = apart (bits w 6 0 == (row_of instr).opcode) (bits w 6 0) (row_of instr).opcode opcodes refl parts.0 none in
    rw other (none_by w instrs parts.1 none)

pub none_of_opcode : (w : ℕ) → list_any (λ opcode. bits w 6 0 == opcode) opcodes ≡ false → mnemonic w ≡ None
unfolding mnemonic
none_of_opcode w none = none_by w mnemonics refl none
