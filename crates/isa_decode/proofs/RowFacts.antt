-- No word has two rows, and a word stands for what its row makes.
use Rattle.std.proofs.Common.{◌≡◌, ℕ, zero, suc, ◌==◌, Bool, true, false, not, ◌&&◌, ◌||◌, pos, List, [], ◌∷◌, Option, Some, None, IfSome, IfNone, refl, sym, ap, arith}
use Rattle.std.proofs.lemmas.Bool.Decides.{nat_tests}
use Rattle.std.specs.List.{list_all, list_any}
use Rattle.isa_decode.specs.declared.instruction.Instr.{Instr}
use Rattle.isa_decode.specs.declared.instruction.Instr.TheVariants.{Lui, Auipc, Jal, Jalr, Branch, Load, Store, OpImm, Op, LoadReserved, StoreConditional, Amo, Fence, Ecall, Ebreak}
use Rattle.isa_decode.specs.declared.instruction.Cmp.{Cmp}
use Rattle.isa_decode.specs.declared.instruction.Cmp.TheVariants.{Beq, Bne, Blt, Bge, Bltu, Bgeu}
use Rattle.isa_decode.specs.declared.instruction.LoadKind.{LoadKind}
use Rattle.isa_decode.specs.declared.instruction.LoadKind.TheVariants.{Lb, Lh, Lw, Ld, Lbu, Lhu, Lwu}
use Rattle.isa_decode.specs.declared.instruction.Width.{Width}
use Rattle.isa_decode.specs.declared.instruction.Width.TheVariants.{One, Two, Four, Eight}
use Rattle.isa_decode.specs.declared.instruction.ImmOp.{ImmOp}
use Rattle.isa_decode.specs.declared.instruction.ImmOp.TheVariants.{Addi, Slti, Sltiu, Xori, Ori, Andi, Slli, Srli, Srai, Addiw, Slliw, Srliw, Sraiw}
use Rattle.isa_decode.specs.declared.instruction.AluOp.{AluOp}
use Rattle.isa_decode.specs.declared.instruction.AluOp.TheVariants.{Add, Sub, Sll, Slt, Sltu, Xor, Srl, Sra, Or, And, Mul, Mulh, Mulhsu, Mulhu, Div, Divu, Rem, Remu, Addw, Subw, Sllw, Srlw, Sraw, Mulw, Divw, Divuw, Remw, Remuw}
use Rattle.isa_decode.specs.declared.instruction.AmoOp.{AmoOp}
use Rattle.isa_decode.specs.declared.instruction.AmoOp.TheVariants.{Amoswap, Amoadd, Amoxor, Amoand, Amoor, Amomin, Amomax, Amominu, Amomaxu}
use Rattle.isa_decode.specs.Fields.{bits}
use Rattle.isa_decode.specs.Listing.{Fixed, Row, has_fixed, has_row, row_of, with_operands, first, mnemonics, mnemonic, decoding, IsWord}

-- ---- rows that no word has both of

-- the two ask for different values of one field
abbrev clash : Fixed → Fixed → Bool
clash f g = (f.high == g.high) && ((f.low == g.low) && not (f.value == g.value))

abbrev disjoint : Row → Row → Bool
disjoint a b = not (a.opcode == b.opcode) || list_any (λ f. list_any (λ g. clash f g) b.fixed) a.fixed

abbrev all_disjoint : List Instr → Bool
all_disjoint [] = true
all_disjoint (instr ∷ instrs) = list_all (λ other. disjoint (row_of instr) (row_of other)) instrs && all_disjoint instrs

both : (a b : Bool) → (a && b) ≡ true → (a ≡ true) × (b ≡ true)
both true b e = (refl, e)
both false b e = cc

no_clash : (w : ℕ) (f g : Fixed) → (bits w f.high f.low == f.value) ≡ true → (bits w g.high g.low == g.value) ≡ true → clash f g ≡ false
no_clash w f g one other = grind (arith, nat_tests)

no_clash_with : (w : ℕ) (f : Fixed) (gs : List Fixed) → (bits w f.high f.low == f.value) ≡ true → has_fixed w gs ≡ true → list_any (λ g. clash f g) gs ≡ false
no_clash_with w f [] one others = refl
no_clash_with w f (g ∷ gs) one others =
    let parts = both (bits w g.high g.low == g.value) (has_fixed w gs) others in
    rw (no_clash w f g one parts.0) (no_clash_with w f gs one parts.1)

no_clash_among : (w : ℕ) (fs gs : List Fixed) → has_fixed w fs ≡ true → has_fixed w gs ≡ true → list_any (λ f. list_any (λ g. clash f g) gs) fs ≡ false
no_clash_among w [] gs ones others = refl
no_clash_among w (f ∷ fs) gs ones others =
    let parts = both (bits w f.high f.low == f.value) (has_fixed w fs) ones in
    rw (no_clash_with w f gs parts.0 others) (no_clash_among w fs gs parts.1 others)

not_disjoint : (w : ℕ) (a b : Row) → has_row w a ≡ true → has_row w b ≡ true → disjoint a b ≡ false
not_disjoint w a b one other =
    let ones = both (bits w 6 0 == a.opcode) (has_fixed w a.fixed) one in
    let others = both (bits w 6 0 == b.opcode) (has_fixed w b.fixed) other in
    let same : not (a.opcode == b.opcode) ≡ false = grind (arith, nat_tests) in
    rw same (no_clash_among w a.fixed b.fixed ones.1 others.1)

-- ---- the row that is found

abbrev nth : List Instr → ℕ → Option Instr
nth [] k = None
nth (instr ∷ instrs) zero = Some instr
nth (instr ∷ instrs) (suc k) = nth instrs k

excluded : (has : Bool) (w : ℕ) (a b : Row) → has_row w a ≡ has → disjoint a b ≡ true → has_row w b ≡ true → has ≡ false
excluded true w a b e apart other =
    let not : disjoint a b ≡ false = not_disjoint w a b e other in
    cc
excluded false w a b e apart other = refl

-- of disjoint rows the word has none before the one that it has
past : (w : ℕ) (instr sought : Instr) (instrs : List Instr) (k : ℕ) → list_all (λ other. disjoint (row_of instr) (row_of other)) instrs ≡ true → nth instrs k ≡ Some sought → has_row w (row_of sought) ≡ true → has_row w (row_of instr) ≡ false
past w instr sought [] k all is has = cc
past w instr sought (x ∷ instrs) zero all is has =
    let parts = both (disjoint (row_of instr) (row_of x)) (list_all (λ (other : Instr). disjoint (row_of instr) (row_of other)) instrs) all in
    let same : x ≡ sought = cc in
    excluded (has_row w (row_of instr)) w (row_of instr) (row_of x) refl parts.0 (rw same has)
past w instr sought (x ∷ instrs) (suc k) all is has =
    let parts = both (disjoint (row_of instr) (row_of x)) (list_all (λ (other : Instr). disjoint (row_of instr) (row_of other)) instrs) all in
    past w instr sought instrs k parts.1 is has

found : (w : ℕ) (sought : Instr) (instrs : List Instr) (k : ℕ) → all_disjoint instrs ≡ true → nth instrs k ≡ Some sought → has_row w (row_of sought) ≡ true → first w instrs ≡ Some sought
found w sought [] k all is has = cc
found w sought (x ∷ instrs) zero all is has =
    let same : x ≡ sought = cc in
    let here : has_row w (row_of x) ≡ true = rw same has in
    rw here is
found w sought (x ∷ instrs) (suc k) all is has =
    let parts = both (list_all (λ (other : Instr). disjoint (row_of x) (row_of other)) instrs) (all_disjoint instrs) all in
    rw (past w x sought instrs k parts.0 is has) (found w sought instrs k parts.1 is has)

mnemonics_disjoint : all_disjoint mnemonics ≡ true
mnemonics_disjoint = refl

-- ---- every mnemonic is listed

record IsListed (instr : Instr) : Type 0 where
  place : ℕ
  is : nth mnemonics place ≡ Some instr

branch_listed : (x : Cmp) → IsListed (Branch x 0 0 (pos 0))
branch_listed Beq = record { place = 12; is = refl }
branch_listed Bne = record { place = 13; is = refl }
branch_listed Blt = record { place = 14; is = refl }
branch_listed Bge = record { place = 15; is = refl }
branch_listed Bltu = record { place = 16; is = refl }
branch_listed Bgeu = record { place = 17; is = refl }

load_listed : (x : LoadKind) → IsListed (Load x 0 0 (pos 0))
load_listed Lb = record { place = 18; is = refl }
load_listed Lh = record { place = 19; is = refl }
load_listed Lw = record { place = 20; is = refl }
load_listed Ld = record { place = 21; is = refl }
load_listed Lbu = record { place = 22; is = refl }
load_listed Lhu = record { place = 23; is = refl }
load_listed Lwu = record { place = 24; is = refl }

store_listed : (x : Width) → IsListed (Store x 0 0 (pos 0))
store_listed One = record { place = 25; is = refl }
store_listed Two = record { place = 26; is = refl }
store_listed Four = record { place = 27; is = refl }
store_listed Eight = record { place = 28; is = refl }

imm_listed : (x : ImmOp) → IsListed (OpImm x 0 0 (pos 0))
imm_listed Addi = record { place = 29; is = refl }
imm_listed Slti = record { place = 30; is = refl }
imm_listed Sltiu = record { place = 31; is = refl }
imm_listed Xori = record { place = 32; is = refl }
imm_listed Ori = record { place = 33; is = refl }
imm_listed Andi = record { place = 34; is = refl }
imm_listed Slli = record { place = 35; is = refl }
imm_listed Srli = record { place = 36; is = refl }
imm_listed Srai = record { place = 37; is = refl }
imm_listed Addiw = record { place = 38; is = refl }
imm_listed Slliw = record { place = 39; is = refl }
imm_listed Srliw = record { place = 40; is = refl }
imm_listed Sraiw = record { place = 41; is = refl }

alu_listed : (x : AluOp) → IsListed (Op x 0 0 0)
alu_listed Add = record { place = 42; is = refl }
alu_listed Sub = record { place = 43; is = refl }
alu_listed Sll = record { place = 44; is = refl }
alu_listed Slt = record { place = 45; is = refl }
alu_listed Sltu = record { place = 46; is = refl }
alu_listed Xor = record { place = 47; is = refl }
alu_listed Srl = record { place = 48; is = refl }
alu_listed Sra = record { place = 49; is = refl }
alu_listed Or = record { place = 50; is = refl }
alu_listed And = record { place = 51; is = refl }
alu_listed Mul = record { place = 52; is = refl }
alu_listed Mulh = record { place = 53; is = refl }
alu_listed Mulhsu = record { place = 54; is = refl }
alu_listed Mulhu = record { place = 55; is = refl }
alu_listed Div = record { place = 56; is = refl }
alu_listed Divu = record { place = 57; is = refl }
alu_listed Rem = record { place = 58; is = refl }
alu_listed Remu = record { place = 59; is = refl }
alu_listed Addw = record { place = 60; is = refl }
alu_listed Subw = record { place = 61; is = refl }
alu_listed Sllw = record { place = 62; is = refl }
alu_listed Srlw = record { place = 63; is = refl }
alu_listed Sraw = record { place = 64; is = refl }
alu_listed Mulw = record { place = 65; is = refl }
alu_listed Divw = record { place = 66; is = refl }
alu_listed Divuw = record { place = 67; is = refl }
alu_listed Remw = record { place = 68; is = refl }
alu_listed Remuw = record { place = 69; is = refl }

amo_word_listed : (x : AmoOp) → IsListed (Amo x false 0 0 0 0)
amo_word_listed Amoswap = record { place = 70; is = refl }
amo_word_listed Amoadd = record { place = 71; is = refl }
amo_word_listed Amoxor = record { place = 72; is = refl }
amo_word_listed Amoand = record { place = 73; is = refl }
amo_word_listed Amoor = record { place = 74; is = refl }
amo_word_listed Amomin = record { place = 75; is = refl }
amo_word_listed Amomax = record { place = 76; is = refl }
amo_word_listed Amominu = record { place = 77; is = refl }
amo_word_listed Amomaxu = record { place = 78; is = refl }

amo_doubleword_listed : (x : AmoOp) → IsListed (Amo x true 0 0 0 0)
amo_doubleword_listed Amoswap = record { place = 79; is = refl }
amo_doubleword_listed Amoadd = record { place = 80; is = refl }
amo_doubleword_listed Amoxor = record { place = 81; is = refl }
amo_doubleword_listed Amoand = record { place = 82; is = refl }
amo_doubleword_listed Amoor = record { place = 83; is = refl }
amo_doubleword_listed Amomin = record { place = 84; is = refl }
amo_doubleword_listed Amomax = record { place = 85; is = refl }
amo_doubleword_listed Amominu = record { place = 86; is = refl }
amo_doubleword_listed Amomaxu = record { place = 87; is = refl }

-- ---- what a word stands for

of_mnemonic : (w : ℕ) (instr plain : Instr) → IsListed plain → has_row w (row_of plain) ≡ true → with_operands plain w ≡ instr → decoding w ≡ Some instr
unfolding mnemonic decoding
of_mnemonic w instr plain listed has is =
    rw (found w plain mnemonics listed.place mnemonics_disjoint listed.is has) (ap Some is)

pub word_decodes : (w : ℕ) (instr : Instr) → IsWord w instr → decoding w ≡ Some instr
word_decodes w (Lui rd imm) is = of_mnemonic w _ (Lui 0 (pos 0)) (record { place = 0; is = refl }) is.mnemonic is.operands
word_decodes w (Auipc rd imm) is = of_mnemonic w _ (Auipc 0 (pos 0)) (record { place = 1; is = refl }) is.mnemonic is.operands
word_decodes w (Jal rd imm) is = of_mnemonic w _ (Jal 0 (pos 0)) (record { place = 2; is = refl }) is.mnemonic is.operands
word_decodes w (Jalr rd rs1 imm) is = of_mnemonic w _ (Jalr 0 0 (pos 0)) (record { place = 3; is = refl }) is.mnemonic is.operands
word_decodes w (Branch cmp rs1 rs2 imm) is = of_mnemonic w _ (Branch cmp 0 0 (pos 0)) (branch_listed cmp) is.mnemonic is.operands
word_decodes w (Load kind rd rs1 imm) is = of_mnemonic w _ (Load kind 0 0 (pos 0)) (load_listed kind) is.mnemonic is.operands
word_decodes w (Store width rs1 rs2 imm) is = of_mnemonic w _ (Store width 0 0 (pos 0)) (store_listed width) is.mnemonic is.operands
word_decodes w (OpImm op rd rs1 imm) is = of_mnemonic w _ (OpImm op 0 0 (pos 0)) (imm_listed op) is.mnemonic is.operands
word_decodes w (Op op rd rs1 rs2) is = of_mnemonic w _ (Op op 0 0 0) (alu_listed op) is.mnemonic is.operands
word_decodes w (LoadReserved false order rd rs1) is = of_mnemonic w _ (LoadReserved false 0 0 0) (record { place = 8; is = refl }) is.mnemonic is.operands
word_decodes w (LoadReserved true order rd rs1) is = of_mnemonic w _ (LoadReserved true 0 0 0) (record { place = 9; is = refl }) is.mnemonic is.operands
word_decodes w (StoreConditional false order rd rs1 rs2) is = of_mnemonic w _ (StoreConditional false 0 0 0 0) (record { place = 10; is = refl }) is.mnemonic is.operands
word_decodes w (StoreConditional true order rd rs1 rs2) is = of_mnemonic w _ (StoreConditional true 0 0 0 0) (record { place = 11; is = refl }) is.mnemonic is.operands
word_decodes w (Amo op false order rd rs1 rs2) is = of_mnemonic w _ (Amo op false 0 0 0 0) (amo_word_listed op) is.mnemonic is.operands
word_decodes w (Amo op true order rd rs1 rs2) is = of_mnemonic w _ (Amo op true 0 0 0 0) (amo_doubleword_listed op) is.mnemonic is.operands
word_decodes w (Fence false rd rs1 imm) is = of_mnemonic w _ (Fence false 0 0 (pos 0)) (record { place = 6; is = refl }) is.mnemonic is.operands
word_decodes w (Fence true rd rs1 imm) is = of_mnemonic w _ (Fence true 0 0 (pos 0)) (record { place = 7; is = refl }) is.mnemonic is.operands
word_decodes w Ecall is = of_mnemonic w _ Ecall (record { place = 4; is = refl }) is.mnemonic is.operands
word_decodes w Ebreak is = of_mnemonic w _ Ebreak (record { place = 5; is = refl }) is.mnemonic is.operands

-- what is found and stands, or is not there, is what the listing gives
pub found_decodes : (w : ℕ) (result : Option Instr) → IfSome result (IsWord w) → IfNone result (mnemonic w ≡ None) → result ≡ decoding w
unfolding decoding
found_decodes w (Some instr) stands none = sym (word_decodes w instr stands)
found_decodes w None stands none = rw none refl
