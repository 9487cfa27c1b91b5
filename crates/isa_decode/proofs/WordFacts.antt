-- One instruction has one word.
use Rattle.std.proofs.Common.{◌≡◌, ℕ, ◌<◌, ◌+◌, ◌*◌, ◌^◌, ◌==◌, Bool, true, false, ◌&&◌, cond, if◌then◌else◌, pos, List, [], ◌∷◌, Option, Some, None, refl, arith}
use Rattle.isa_decode.specs.Fields.{bits, reading, immediate_i, immediate_s, immediate_b, immediate_u, immediate_j}
use Rattle.isa_decode.specs.Listing.{Fixed, Row, row, funct3, funct7, no_rs2, no_operands, funct12, amo_code, operand_of, branch_row, load_row, store_row, imm_row, alu_row, atomic_row, has_fixed, has_row, row_of, with_operands, first, mnemonics, mnemonic, decoding, IsWord}
use Rattle.std.proofs.lemmas.Bool.Decides.{nat_tests}
use Rattle.std.proofs.lemmas.Int.{ints}
use Rattle.std.specs.Option.{option_map}
use Rattle.isa_decode.specs.declared.instruction.Instr.{Instr}
use Rattle.isa_decode.specs.declared.instruction.Instr.TheVariants.{Lui, Auipc, Jal, Jalr, Branch, Load, Store, OpImm, Op, LoadReserved, StoreConditional, Amo, Fence, Ecall, Ebreak}
use Rattle.isa_decode.specs.declared.instruction.Cmp.{Cmp}
use Rattle.isa_decode.specs.declared.instruction.Cmp.TheVariants.{Beq, Bne, Blt, Bge, Bltu, Bgeu}
use Rattle.isa_decode.specs.declared.instruction.LoadKind.{LoadKind}
use Rattle.isa_decode.specs.declared.instruction.LoadKind.TheVariants.{Lb, Lh, Lw, Ld, Lbu, Lhu, Lwu}
use Rattle.isa_decode.specs.declared.instruction.Width.{Width}
use Rattle.isa_decode.specs.declared.instruction.Width.TheVariants.{One, Two, Four, Eight}
use Rattle.isa_decode.specs.declared.instruction.ImmOp.{ImmOp}
use Rattle.isa_decode.specs.declared.instruction.ImmOp.TheVariants.{Addi, Slti, Sltiu, Xori, Ori, Andi, Slli, Srli, Srai, Addiw, Slliw, Srliw, Sraiw}
use Rattle.isa_decode.specs.declared.instruction.AluOp.{AluOp}
use Rattle.isa_decode.specs.declared.instruction.AluOp.TheVariants.{Add, Sub, Sll, Slt, Sltu, Xor, Srl, Sra, Or, And, Mul, Mulh, Mulhsu, Mulhu, Div, Divu, Rem, Remu, Addw, Subw, Sllw, Srlw, Sraw, Mulw, Divw, Divuw, Remw, Remuw}

-- ---- what is decoded stands

has_by : (has : Bool) (w : ℕ) (x instr : Instr) (instrs : List Instr) → has_row w (row_of x) ≡ has → (first w instrs ≡ Some instr → has_row w (row_of instr) ≡ true) → cond has (Some x) (first w instrs) ≡ Some instr → has_row w (row_of instr) ≡ true
has_by true w x instr instrs e rest is =
    let same : x ≡ instr = cc in
    rw (← same) e
has_by false w x instr instrs e rest is = rest is

first_has : (w : ℕ) (instrs : List Instr) (instr : Instr) → first w instrs ≡ Some instr → has_row w (row_of instr) ≡ true
first_has w [] instr is = cc
first_has w (x ∷ instrs) instr is = has_by (has_row w (row_of x)) w x instr instrs refl (first_has w instrs instr) is

row_kept : (instr : Instr) (w : ℕ) → row_of (with_operands instr w) ≡ row_of instr
row_kept (Lui rd imm) w = refl
row_kept (Auipc rd imm) w = refl
row_kept (Jal rd imm) w = refl
row_kept (Jalr rd rs1 imm) w = refl
row_kept (Branch cmp rs1 rs2 imm) w = refl
row_kept (Load kind rd rs1 imm) w = refl
row_kept (Store width rs1 rs2 imm) w = refl
row_kept (OpImm op rd rs1 imm) w = refl
row_kept (Op op rd rs1 rs2) w = refl
row_kept (LoadReserved wide order rd rs1) w = refl
row_kept (StoreConditional wide order rd rs1 rs2) w = refl
row_kept (Amo op wide order rd rs1 rs2) w = refl
row_kept (Fence code rd rs1 imm) w = refl
row_kept Ecall w = refl
row_kept Ebreak w = refl

operands_kept : (instr : Instr) (w : ℕ) → with_operands (with_operands instr w) w ≡ with_operands instr w
operands_kept (Lui rd imm) w = refl
operands_kept (Auipc rd imm) w = refl
operands_kept (Jal rd imm) w = refl
operands_kept (Jalr rd rs1 imm) w = refl
operands_kept (Branch cmp rs1 rs2 imm) w = refl
operands_kept (Load kind rd rs1 imm) w = refl
operands_kept (Store width rs1 rs2 imm) w = refl
operands_kept (OpImm op rd rs1 imm) w = refl
operands_kept (Op op rd rs1 rs2) w = refl
operands_kept (LoadReserved wide order rd rs1) w = refl
operands_kept (StoreConditional wide order rd rs1 rs2) w = refl
operands_kept (Amo op wide order rd rs1 rs2) w = refl
operands_kept (Fence code rd rs1 imm) w = refl
operands_kept Ecall w = refl
operands_kept Ebreak w = refl

stands_by : (w : ℕ) (plain : Option Instr) (instr : Instr) → mnemonic w ≡ plain → option_map (λ i. with_operands i w) plain ≡ Some instr → IsWord w instr
unfolding mnemonic
stands_by w None instr found is = cc
stands_by w (Some plain) instr found is =
    let made : with_operands plain w ≡ instr = cc in
    let has : has_row w (row_of plain) ≡ true = first_has w mnemonics plain found in
    rw (← made) (record { mnemonic = rw (row_kept plain w) has; operands = operands_kept plain w })

pub decoded_stands : (w : ℕ) (instr : Instr) → decoding w ≡ Some instr → IsWord w instr
unfolding decoding
decoded_stands w instr is = stands_by w (mnemonic w) instr refl is

-- ---- immediates

reading_same : (half m n : ℕ) → m < 2 * half → n < 2 * half → reading half m ≡ reading half n → m ≡ n
reading_same half m n small other is = grind (arith, nat_tests, ints)

pub immediate_i_same : (w v : ℕ) → immediate_i w ≡ immediate_i v → bits w 31 20 ≡ bits v 31 20
unfolding immediate_i
immediate_i_same w v is = reading_same (2 ^ 11) (bits w 31 20) (bits v 31 20) (omega arith) (omega arith) is

pub immediate_s_same : (w v : ℕ) → immediate_s w ≡ immediate_s v → (bits w 31 25 ≡ bits v 31 25) × (bits w 11 7 ≡ bits v 11 7)
unfolding immediate_s
immediate_s_same w v is =
    let number : bits w 31 25 * 2 ^ 5 + bits w 11 7 ≡ bits v 31 25 * 2 ^ 5 + bits v 11 7 = reading_same (2 ^ 11) (bits w 31 25 * 2 ^ 5 + bits w 11 7) (bits v 31 25 * 2 ^ 5 + bits v 11 7) (omega arith) (omega arith) is in
    (omega arith, omega arith)

pub immediate_b_same : (w v : ℕ) → immediate_b w ≡ immediate_b v → (bits w 31 25 ≡ bits v 31 25) × (bits w 11 7 ≡ bits v 11 7)
unfolding immediate_b
immediate_b_same w v is =
    let number : bits w 31 31 * 2 ^ 12 + bits w 7 7 * 2 ^ 11 + bits w 30 25 * 2 ^ 5 + bits w 11 8 * 2 ≡ bits v 31 31 * 2 ^ 12 + bits v 7 7 * 2 ^ 11 + bits v 30 25 * 2 ^ 5 + bits v 11 8 * 2 = reading_same (2 ^ 12) (bits w 31 31 * 2 ^ 12 + bits w 7 7 * 2 ^ 11 + bits w 30 25 * 2 ^ 5 + bits w 11 8 * 2) (bits v 31 31 * 2 ^ 12 + bits v 7 7 * 2 ^ 11 + bits v 30 25 * 2 ^ 5 + bits v 11 8 * 2) (omega arith) (omega arith) is in
    (omega arith, omega arith)

pub immediate_u_same : (w v : ℕ) → immediate_u w ≡ immediate_u v → bits w 31 12 ≡ bits v 31 12
unfolding immediate_u
immediate_u_same w v is =
    let number : bits w 31 12 * 2 ^ 12 ≡ bits v 31 12 * 2 ^ 12 = reading_same (2 ^ 31) (bits w 31 12 * 2 ^ 12) (bits v 31 12 * 2 ^ 12) (omega arith) (omega arith) is in
    omega arith

pub immediate_j_same : (w v : ℕ) → immediate_j w ≡ immediate_j v → bits w 31 12 ≡ bits v 31 12
unfolding immediate_j
immediate_j_same w v is =
    let number : bits w 31 31 * 2 ^ 20 + bits w 19 12 * 2 ^ 12 + bits w 20 20 * 2 ^ 11 + bits w 30 21 * 2 ≡ bits v 31 31 * 2 ^ 20 + bits v 19 12 * 2 ^ 12 + bits v 20 20 * 2 ^ 11 + bits v 30 21 * 2 = reading_same (2 ^ 20) (bits w 31 31 * 2 ^ 20 + bits w 19 12 * 2 ^ 12 + bits w 20 20 * 2 ^ 11 + bits w 30 21 * 2) (bits v 31 31 * 2 ^ 20 + bits v 19 12 * 2 ^ 12 + bits v 20 20 * 2 ^ 11 + bits v 30 21 * 2) (omega arith) (omega arith) is in
    omega arith

-- ---- words of a format

same_r : (w v : ℕ) → w < 2 ^ 32 → v < 2 ^ 32 → bits w 6 0 ≡ bits v 6 0 → bits w 11 7 ≡ bits v 11 7 → bits w 14 12 ≡ bits v 14 12 → bits w 19 15 ≡ bits v 19 15 → bits w 24 20 ≡ bits v 24 20 → bits w 31 25 ≡ bits v 31 25 → w ≡ v
same_r w v small other opcode rd funct3 rs1 rs2 funct7 = omega arith

same_i : (w v : ℕ) → w < 2 ^ 32 → v < 2 ^ 32 → bits w 6 0 ≡ bits v 6 0 → bits w 11 7 ≡ bits v 11 7 → bits w 14 12 ≡ bits v 14 12 → bits w 19 15 ≡ bits v 19 15 → bits w 31 20 ≡ bits v 31 20 → w ≡ v
same_i w v small other opcode rd funct3 rs1 imm = omega arith

same_u : (w v : ℕ) → w < 2 ^ 32 → v < 2 ^ 32 → bits w 6 0 ≡ bits v 6 0 → bits w 11 7 ≡ bits v 11 7 → bits w 31 12 ≡ bits v 31 12 → w ≡ v
same_u w v small other opcode rd imm = omega arith

same_whole : (w v : ℕ) → w < 2 ^ 32 → v < 2 ^ 32 → bits w 6 0 ≡ bits v 6 0 → bits w 19 7 ≡ bits v 19 7 → bits w 31 20 ≡ bits v 31 20 → w ≡ v
same_whole w v small other opcode operands upper = omega arith

same_upper_7 : (w v : ℕ) → bits w 31 27 ≡ bits v 31 27 → bits w 26 25 ≡ bits v 26 25 → bits w 31 25 ≡ bits v 31 25
same_upper_7 w v upper order = omega arith

-- ---- the fixed fields

both : (a b : Bool) → (a && b) ≡ true → (a ≡ true) × (b ≡ true)
both true b e = (refl, e)
both false b e = cc

same_field : (w v high low n : ℕ) → (bits w high low == n) ≡ true → (bits v high low == n) ≡ true → bits w high low ≡ bits v high low
same_field w v high low n one other = grind (arith, nat_tests)

-- what the words have the same of a row's fixed fields
abbrev Same : ℕ → ℕ → List Fixed → Type 0
Same w v [] = Unit {0}
Same w v (f ∷ fs) = (bits w f.high f.low ≡ bits v f.high f.low) × Same w v fs

same_fixed : (w v : ℕ) (fs : List Fixed) → has_fixed w fs ≡ true → has_fixed v fs ≡ true → Same w v fs
same_fixed w v [] one other = tt
same_fixed w v (f ∷ fs) one other =
    let ones = both (bits w f.high f.low == f.value) (has_fixed w fs) one in
    let others = both (bits v f.high f.low == f.value) (has_fixed v fs) other in
    (same_field w v f.high f.low f.value ones.0 others.0, same_fixed w v fs ones.1 others.1)

abbrev SameRow : ℕ → ℕ → Row → Type 0
SameRow w v row = (bits w 6 0 ≡ bits v 6 0) × Same w v row.fixed

same_row : (w v : ℕ) (row : Row) → has_row w row ≡ true → has_row v row ≡ true → SameRow w v row
same_row w v row one other =
    let ones = both (bits w 6 0 == row.opcode) (has_fixed w row.fixed) one in
    let others = both (bits v 6 0 == row.opcode) (has_fixed v row.fixed) other in
    (same_field w v 6 0 row.opcode ones.0 others.0, same_fixed w v row.fixed ones.1 others.1)

-- the opcode and funct3, and what is beside it
record SameFunct3 (w v : ℕ) : Type 0 where
  opcode : bits w 6 0 ≡ bits v 6 0
  funct3 : bits w 14 12 ≡ bits v 14 12

branch_same : (cmp : Cmp) (w v : ℕ) → SameRow w v (branch_row cmp) → SameFunct3 w v
branch_same Beq w v same = record { opcode = same.0; funct3 = same.1.0 }
branch_same Bne w v same = record { opcode = same.0; funct3 = same.1.0 }
branch_same Blt w v same = record { opcode = same.0; funct3 = same.1.0 }
branch_same Bge w v same = record { opcode = same.0; funct3 = same.1.0 }
branch_same Bltu w v same = record { opcode = same.0; funct3 = same.1.0 }
branch_same Bgeu w v same = record { opcode = same.0; funct3 = same.1.0 }

load_same : (kind : LoadKind) (w v : ℕ) → SameRow w v (load_row kind) → SameFunct3 w v
load_same Lb w v same = record { opcode = same.0; funct3 = same.1.0 }
load_same Lh w v same = record { opcode = same.0; funct3 = same.1.0 }
load_same Lw w v same = record { opcode = same.0; funct3 = same.1.0 }
load_same Ld w v same = record { opcode = same.0; funct3 = same.1.0 }
load_same Lbu w v same = record { opcode = same.0; funct3 = same.1.0 }
load_same Lhu w v same = record { opcode = same.0; funct3 = same.1.0 }
load_same Lwu w v same = record { opcode = same.0; funct3 = same.1.0 }

store_same : (width : Width) (w v : ℕ) → SameRow w v (store_row width) → SameFunct3 w v
store_same One w v same = record { opcode = same.0; funct3 = same.1.0 }
store_same Two w v same = record { opcode = same.0; funct3 = same.1.0 }
store_same Four w v same = record { opcode = same.0; funct3 = same.1.0 }
store_same Eight w v same = record { opcode = same.0; funct3 = same.1.0 }

alu_same : (op : AluOp) (w v : ℕ) → SameRow w v (alu_row op) → SameFunct3 w v × (bits w 31 25 ≡ bits v 31 25)
alu_same Add w v same = (record { opcode = same.0; funct3 = same.1.0 }, same.1.1.0)
alu_same Sub w v same = (record { opcode = same.0; funct3 = same.1.0 }, same.1.1.0)
alu_same Sll w v same = (record { opcode = same.0; funct3 = same.1.0 }, same.1.1.0)
alu_same Slt w v same = (record { opcode = same.0; funct3 = same.1.0 }, same.1.1.0)
alu_same Sltu w v same = (record { opcode = same.0; funct3 = same.1.0 }, same.1.1.0)
alu_same Xor w v same = (record { opcode = same.0; funct3 = same.1.0 }, same.1.1.0)
alu_same Srl w v same = (record { opcode = same.0; funct3 = same.1.0 }, same.1.1.0)
alu_same Sra w v same = (record { opcode = same.0; funct3 = same.1.0 }, same.1.1.0)
alu_same Or w v same = (record { opcode = same.0; funct3 = same.1.0 }, same.1.1.0)
alu_same And w v same = (record { opcode = same.0; funct3 = same.1.0 }, same.1.1.0)
alu_same Mul w v same = (record { opcode = same.0; funct3 = same.1.0 }, same.1.1.0)
alu_same Mulh w v same = (record { opcode = same.0; funct3 = same.1.0 }, same.1.1.0)
alu_same Mulhsu w v same = (record { opcode = same.0; funct3 = same.1.0 }, same.1.1.0)
alu_same Mulhu w v same = (record { opcode = same.0; funct3 = same.1.0 }, same.1.1.0)
alu_same Div w v same = (record { opcode = same.0; funct3 = same.1.0 }, same.1.1.0)
alu_same Divu w v same = (record { opcode = same.0; funct3 = same.1.0 }, same.1.1.0)
alu_same Rem w v same = (record { opcode = same.0; funct3 = same.1.0 }, same.1.1.0)
alu_same Remu w v same = (record { opcode = same.0; funct3 = same.1.0 }, same.1.1.0)
alu_same Addw w v same = (record { opcode = same.0; funct3 = same.1.0 }, same.1.1.0)
alu_same Subw w v same = (record { opcode = same.0; funct3 = same.1.0 }, same.1.1.0)
alu_same Sllw w v same = (record { opcode = same.0; funct3 = same.1.0 }, same.1.1.0)
alu_same Srlw w v same = (record { opcode = same.0; funct3 = same.1.0 }, same.1.1.0)
alu_same Sraw w v same = (record { opcode = same.0; funct3 = same.1.0 }, same.1.1.0)
alu_same Mulw w v same = (record { opcode = same.0; funct3 = same.1.0 }, same.1.1.0)
alu_same Divw w v same = (record { opcode = same.0; funct3 = same.1.0 }, same.1.1.0)
alu_same Divuw w v same = (record { opcode = same.0; funct3 = same.1.0 }, same.1.1.0)
alu_same Remw w v same = (record { opcode = same.0; funct3 = same.1.0 }, same.1.1.0)
alu_same Remuw w v same = (record { opcode = same.0; funct3 = same.1.0 }, same.1.1.0)

amount_same : (m n : ℕ) → pos m ≡ pos n → m ≡ n
amount_same m n is = cc

same_upper_6 : (w v : ℕ) → bits w 31 26 ≡ bits v 31 26 → bits w 25 20 ≡ bits v 25 20 → bits w 31 20 ≡ bits v 31 20
same_upper_6 w v upper amount = omega arith

same_upper_5 : (w v : ℕ) → bits w 31 25 ≡ bits v 31 25 → bits w 24 20 ≡ bits v 24 20 → bits w 31 20 ≡ bits v 31 20
same_upper_5 w v upper amount = omega arith

-- the upper 12 bits of an operation with an immediate
imm_same : (op : ImmOp) (w v : ℕ) → SameRow w v (imm_row op) → operand_of op w ≡ operand_of op v → SameFunct3 w v × (bits w 31 20 ≡ bits v 31 20)
imm_same Addi w v same imm = (record { opcode = same.0; funct3 = same.1.0 }, immediate_i_same w v imm)
imm_same Slti w v same imm = (record { opcode = same.0; funct3 = same.1.0 }, immediate_i_same w v imm)
imm_same Sltiu w v same imm = (record { opcode = same.0; funct3 = same.1.0 }, immediate_i_same w v imm)
imm_same Xori w v same imm = (record { opcode = same.0; funct3 = same.1.0 }, immediate_i_same w v imm)
imm_same Ori w v same imm = (record { opcode = same.0; funct3 = same.1.0 }, immediate_i_same w v imm)
imm_same Andi w v same imm = (record { opcode = same.0; funct3 = same.1.0 }, immediate_i_same w v imm)
imm_same Addiw w v same imm = (record { opcode = same.0; funct3 = same.1.0 }, immediate_i_same w v imm)
imm_same Slli w v same imm = (record { opcode = same.0; funct3 = same.1.0 }, same_upper_6 w v same.1.1.0 (amount_same _ _ imm))
imm_same Srli w v same imm = (record { opcode = same.0; funct3 = same.1.0 }, same_upper_6 w v same.1.1.0 (amount_same _ _ imm))
imm_same Srai w v same imm = (record { opcode = same.0; funct3 = same.1.0 }, same_upper_6 w v same.1.1.0 (amount_same _ _ imm))
imm_same Slliw w v same imm = (record { opcode = same.0; funct3 = same.1.0 }, same_upper_5 w v same.1.1.0 (amount_same _ _ imm))
imm_same Srliw w v same imm = (record { opcode = same.0; funct3 = same.1.0 }, same_upper_5 w v same.1.1.0 (amount_same _ _ imm))
imm_same Sraiw w v same imm = (record { opcode = same.0; funct3 = same.1.0 }, same_upper_5 w v same.1.1.0 (amount_same _ _ imm))

-- ---- one word for each instruction

same_word : (w v : ℕ) → w < 2 ^ 32 → v < 2 ^ 32 → (instr : Instr) → IsWord w instr → IsWord v instr → w ≡ v
same_word w v small other (Lui rd imm) one its =
    let same = same_row w v (row 0x37 []) one.mnemonic its.mnemonic in
    same_u w v small other same.0 (cc) (immediate_u_same w v (cc))
same_word w v small other (Auipc rd imm) one its =
    let same = same_row w v (row 0x17 []) one.mnemonic its.mnemonic in
    same_u w v small other same.0 (cc) (immediate_u_same w v (cc))
same_word w v small other (Jal rd imm) one its =
    let same = same_row w v (row 0x6F []) one.mnemonic its.mnemonic in
    same_u w v small other same.0 (cc) (immediate_j_same w v (cc))
same_word w v small other (Jalr rd rs1 imm) one its =
    let same = same_row w v (row 0x67 (funct3 0 ∷ [])) one.mnemonic its.mnemonic in
    same_i w v small other same.0 (cc) same.1.0 (cc) (immediate_i_same w v (cc))
same_word w v small other (Branch cmp rs1 rs2 imm) one its =
    let same = same_row w v (branch_row cmp) one.mnemonic its.mnemonic in
    let fixed = branch_same cmp w v same in
    let imm = immediate_b_same w v (cc) in
    same_r w v small other fixed.opcode imm.1 fixed.funct3 (cc) (cc) imm.0
same_word w v small other (Load kind rd rs1 imm) one its =
    let same = same_row w v (load_row kind) one.mnemonic its.mnemonic in
    let fixed = load_same kind w v same in
    same_i w v small other fixed.opcode (cc) fixed.funct3 (cc) (immediate_i_same w v (cc))
same_word w v small other (Store width rs1 rs2 imm) one its =
    let same = same_row w v (store_row width) one.mnemonic its.mnemonic in
    let fixed = store_same width w v same in
    let imm = immediate_s_same w v (cc) in
    same_r w v small other fixed.opcode imm.1 fixed.funct3 (cc) (cc) imm.0
same_word w v small other (OpImm op rd rs1 imm) one its =
    let same = same_row w v (imm_row op) one.mnemonic its.mnemonic in
    let fixed = imm_same op w v same (cc) in
    same_i w v small other fixed.0.opcode (cc) fixed.0.funct3 (cc) fixed.1
same_word w v small other (Op op rd rs1 rs2) one its =
    let same = same_row w v (alu_row op) one.mnemonic its.mnemonic in
    let fixed = alu_same op w v same in
    same_r w v small other fixed.0.opcode (cc) fixed.0.funct3 (cc) (cc) fixed.1
same_word w v small other (LoadReserved wide order rd rs1) one its =
    let same = same_row w v (atomic_row 0x02 wide (no_rs2 ∷ [])) one.mnemonic its.mnemonic in
    same_r w v small other same.0 (cc) same.1.0 (cc) same.1.1.1.0 (same_upper_7 w v same.1.1.0 (cc))
same_word w v small other (StoreConditional wide order rd rs1 rs2) one its =
    let same = same_row w v (atomic_row 0x03 wide []) one.mnemonic its.mnemonic in
    same_r w v small other same.0 (cc) same.1.0 (cc) (cc) (same_upper_7 w v same.1.1.0 (cc))
same_word w v small other (Amo op wide order rd rs1 rs2) one its =
    let same = same_row w v (atomic_row (amo_code op) wide []) one.mnemonic its.mnemonic in
    same_r w v small other same.0 (cc) same.1.0 (cc) (cc) (same_upper_7 w v same.1.1.0 (cc))
same_word w v small other (Fence code rd rs1 imm) one its =
    let same = same_row w v (row 0x0F (funct3 (if code then 1 else 0) ∷ [])) one.mnemonic its.mnemonic in
    same_i w v small other same.0 (cc) same.1.0 (cc) (immediate_i_same w v (cc))
same_word w v small other Ecall one its =
    let same = same_row w v (row 0x73 (no_operands ∷ funct12 0 ∷ [])) one.mnemonic its.mnemonic in
    same_whole w v small other same.0 same.1.0 same.1.1.0
same_word w v small other Ebreak one its =
    let same = same_row w v (row 0x73 (no_operands ∷ funct12 1 ∷ [])) one.mnemonic its.mnemonic in
    same_whole w v small other same.0 same.1.0 same.1.1.0

pub decoded_word : (v : ℕ) → v < 2 ^ 32 → (instr : Instr) → IsWord v instr → (w : ℕ) → w < 2 ^ 32 → decoding w ≡ Some instr → w ≡ v
decoded_word v small instr stands w other is = same_word w v other small instr (decoded_stands w instr is) stands
