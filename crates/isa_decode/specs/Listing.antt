-- The listing of instructions: the fields that are fixed in a mnemonic's words, and what the others make.
-- Source: the RISC-V unprivileged manual, "RV32/64G Instruction Set Listings".
use Rattle.std.specs.Prelude.{◌≡◌, ℕ, Bool, true, false, if◌then◌else◌, ◌&&◌, ◌==◌, ℤ, pos, List, [], ◌∷◌, ◌++◌, map, Option}
use Rattle.std.specs.List.{list_all, find}
use Rattle.std.specs.Option.{option_map}
use Rattle.isa_decode.specs.declared.instruction.Instr.{Instr}
use Rattle.isa_decode.specs.declared.instruction.Instr.TheVariants.{Lui, Auipc, Jal, Jalr, Branch, Load, Store, OpImm, Op, LoadReserved, StoreConditional, Amo, Fence, Ecall, Ebreak}
use Rattle.isa_decode.specs.declared.instruction.Cmp.{Cmp}
use Rattle.isa_decode.specs.declared.instruction.Cmp.TheVariants.{Beq, Bne, Blt, Bge, Bltu, Bgeu}
use Rattle.isa_decode.specs.declared.instruction.LoadKind.{LoadKind}
use Rattle.isa_decode.specs.declared.instruction.LoadKind.TheVariants.{Lb, Lh, Lw, Ld, Lbu, Lhu, Lwu}
use Rattle.isa_decode.specs.declared.instruction.Width.{Width}
use Rattle.isa_decode.specs.declared.instruction.Width.TheVariants.{One, Two, Four, Eight}
use Rattle.isa_decode.specs.declared.instruction.ImmOp.{ImmOp}
use Rattle.isa_decode.specs.declared.instruction.ImmOp.TheVariants.{Addi, Slti, Sltiu, Xori, Ori, Andi, Slli, Srli, Srai, Addiw, Slliw, Srliw, Sraiw}
use Rattle.isa_decode.specs.declared.instruction.AluOp.{AluOp}
use Rattle.isa_decode.specs.declared.instruction.AluOp.TheVariants.{Add, Sub, Sll, Slt, Sltu, Xor, Srl, Sra, Or, And, Mul, Mulh, Mulhsu, Mulhu, Div, Divu, Rem, Remu, Addw, Subw, Sllw, Srlw, Sraw, Mulw, Divw, Divuw, Remw, Remuw}
use Rattle.isa_decode.specs.declared.instruction.AmoOp.{AmoOp}
use Rattle.isa_decode.specs.declared.instruction.AmoOp.TheVariants.{Amoswap, Amoadd, Amoxor, Amoand, Amoor, Amomin, Amomax, Amominu, Amomaxu}
use Rattle.isa_decode.specs.Fields.{bits, rd_of, rs1_of, rs2_of, order_of, amount_5, amount_6, immediate_i, immediate_s, immediate_b, immediate_u, immediate_j}

-- a field of a word, from its high bit to its low bit, with the value that it must have
pub record Fixed : Type 0 where
  pub high : ℕ
  pub low : ℕ
  pub value : ℕ

-- a mnemonic's row: its opcode (bits 6 to 0), and the other fields that are fixed
pub record Row : Type 0 where
  pub opcode : ℕ
  pub fixed : List Fixed

abbrev pub funct3 : ℕ → Fixed
funct3 n = record { high = 14; low = 12; value = n }

abbrev pub funct7 : ℕ → Fixed
funct7 n = record { high = 31; low = 25; value = n }

-- of a shift of 64 bits, whose amount has 6 bits
abbrev pub funct6 : ℕ → Fixed
funct6 n = record { high = 31; low = 26; value = n }

-- of an atomic, which has aq and rl in the two bits below
abbrev pub funct5 : ℕ → Fixed
funct5 n = record { high = 31; low = 27; value = n }

abbrev pub no_rs2 : Fixed
no_rs2 = record { high = 24; low = 20; value = 0 }

abbrev pub funct12 : ℕ → Fixed
funct12 n = record { high = 31; low = 20; value = n }

-- rs1, funct3 and rd
abbrev pub no_operands : Fixed
no_operands = record { high = 19; low = 7; value = 0 }

abbrev pub row : ℕ → List Fixed → Row
row opcode fixed = record { opcode = opcode; fixed = fixed }

abbrev pub branch_row : Cmp → Row
branch_row Beq = row 0x63 (funct3 0 ∷ [])
branch_row Bne = row 0x63 (funct3 1 ∷ [])
branch_row Blt = row 0x63 (funct3 4 ∷ [])
branch_row Bge = row 0x63 (funct3 5 ∷ [])
branch_row Bltu = row 0x63 (funct3 6 ∷ [])
branch_row Bgeu = row 0x63 (funct3 7 ∷ [])

abbrev pub load_row : LoadKind → Row
load_row Lb = row 0x03 (funct3 0 ∷ [])
load_row Lh = row 0x03 (funct3 1 ∷ [])
load_row Lw = row 0x03 (funct3 2 ∷ [])
load_row Ld = row 0x03 (funct3 3 ∷ [])
load_row Lbu = row 0x03 (funct3 4 ∷ [])
load_row Lhu = row 0x03 (funct3 5 ∷ [])
load_row Lwu = row 0x03 (funct3 6 ∷ [])

abbrev pub store_row : Width → Row
store_row One = row 0x23 (funct3 0 ∷ [])
store_row Two = row 0x23 (funct3 1 ∷ [])
store_row Four = row 0x23 (funct3 2 ∷ [])
store_row Eight = row 0x23 (funct3 3 ∷ [])

abbrev pub imm_row : ImmOp → Row
imm_row Addi = row 0x13 (funct3 0 ∷ [])
imm_row Slti = row 0x13 (funct3 2 ∷ [])
imm_row Sltiu = row 0x13 (funct3 3 ∷ [])
imm_row Xori = row 0x13 (funct3 4 ∷ [])
imm_row Ori = row 0x13 (funct3 6 ∷ [])
imm_row Andi = row 0x13 (funct3 7 ∷ [])
imm_row Slli = row 0x13 (funct3 1 ∷ funct6 0x00 ∷ [])
imm_row Srli = row 0x13 (funct3 5 ∷ funct6 0x00 ∷ [])
imm_row Srai = row 0x13 (funct3 5 ∷ funct6 0x10 ∷ [])
imm_row Addiw = row 0x1B (funct3 0 ∷ [])
imm_row Slliw = row 0x1B (funct3 1 ∷ funct7 0x00 ∷ [])
imm_row Srliw = row 0x1B (funct3 5 ∷ funct7 0x00 ∷ [])
imm_row Sraiw = row 0x1B (funct3 5 ∷ funct7 0x20 ∷ [])

abbrev pub alu_row : AluOp → Row
alu_row Add = row 0x33 (funct3 0 ∷ funct7 0x00 ∷ [])
alu_row Sub = row 0x33 (funct3 0 ∷ funct7 0x20 ∷ [])
alu_row Sll = row 0x33 (funct3 1 ∷ funct7 0x00 ∷ [])
alu_row Slt = row 0x33 (funct3 2 ∷ funct7 0x00 ∷ [])
alu_row Sltu = row 0x33 (funct3 3 ∷ funct7 0x00 ∷ [])
alu_row Xor = row 0x33 (funct3 4 ∷ funct7 0x00 ∷ [])
alu_row Srl = row 0x33 (funct3 5 ∷ funct7 0x00 ∷ [])
alu_row Sra = row 0x33 (funct3 5 ∷ funct7 0x20 ∷ [])
alu_row Or = row 0x33 (funct3 6 ∷ funct7 0x00 ∷ [])
alu_row And = row 0x33 (funct3 7 ∷ funct7 0x00 ∷ [])
alu_row Mul = row 0x33 (funct3 0 ∷ funct7 0x01 ∷ [])
alu_row Mulh = row 0x33 (funct3 1 ∷ funct7 0x01 ∷ [])
alu_row Mulhsu = row 0x33 (funct3 2 ∷ funct7 0x01 ∷ [])
alu_row Mulhu = row 0x33 (funct3 3 ∷ funct7 0x01 ∷ [])
alu_row Div = row 0x33 (funct3 4 ∷ funct7 0x01 ∷ [])
alu_row Divu = row 0x33 (funct3 5 ∷ funct7 0x01 ∷ [])
alu_row Rem = row 0x33 (funct3 6 ∷ funct7 0x01 ∷ [])
alu_row Remu = row 0x33 (funct3 7 ∷ funct7 0x01 ∷ [])
alu_row Addw = row 0x3B (funct3 0 ∷ funct7 0x00 ∷ [])
alu_row Subw = row 0x3B (funct3 0 ∷ funct7 0x20 ∷ [])
alu_row Sllw = row 0x3B (funct3 1 ∷ funct7 0x00 ∷ [])
alu_row Srlw = row 0x3B (funct3 5 ∷ funct7 0x00 ∷ [])
alu_row Sraw = row 0x3B (funct3 5 ∷ funct7 0x20 ∷ [])
alu_row Mulw = row 0x3B (funct3 0 ∷ funct7 0x01 ∷ [])
alu_row Divw = row 0x3B (funct3 4 ∷ funct7 0x01 ∷ [])
alu_row Divuw = row 0x3B (funct3 5 ∷ funct7 0x01 ∷ [])
alu_row Remw = row 0x3B (funct3 6 ∷ funct7 0x01 ∷ [])
alu_row Remuw = row 0x3B (funct3 7 ∷ funct7 0x01 ∷ [])

-- of an atomic: funct3 is 3 for a doubleword, and 2 for a word
abbrev pub atomic_row : ℕ → Bool → List Fixed → Row
atomic_row code wide fixed = row 0x2F (funct3 (if wide then 3 else 2) ∷ funct5 code ∷ fixed)

abbrev pub amo_code : AmoOp → ℕ
amo_code Amoswap = 0x01
amo_code Amoadd = 0x00
amo_code Amoxor = 0x04
amo_code Amoand = 0x0C
amo_code Amoor = 0x08
amo_code Amomin = 0x10
amo_code Amomax = 0x14
amo_code Amominu = 0x18
amo_code Amomaxu = 0x1C

-- the row of an instruction's mnemonic
abbrev pub row_of : Instr → Row
row_of (Lui rd imm) = row 0x37 []
row_of (Auipc rd imm) = row 0x17 []
row_of (Jal rd imm) = row 0x6F []
row_of (Jalr rd rs1 imm) = row 0x67 (funct3 0 ∷ [])
row_of (Branch cmp rs1 rs2 imm) = branch_row cmp
row_of (Load kind rd rs1 imm) = load_row kind
row_of (Store width rs1 rs2 imm) = store_row width
row_of (OpImm op rd rs1 imm) = imm_row op
row_of (Op op rd rs1 rs2) = alu_row op
row_of (LoadReserved wide order rd rs1) = atomic_row 0x02 wide (no_rs2 ∷ [])
row_of (StoreConditional wide order rd rs1 rs2) = atomic_row 0x03 wide []
row_of (Amo op wide order rd rs1 rs2) = atomic_row (amo_code op) wide []
row_of (Fence code rd rs1 imm) = row 0x0F (funct3 (if code then 1 else 0) ∷ [])
row_of Ecall = row 0x73 (no_operands ∷ funct12 0 ∷ [])
row_of Ebreak = row 0x73 (no_operands ∷ funct12 1 ∷ [])

-- the immediate of an operation's format
abbrev pub operand_of : ImmOp → ℕ → ℤ
operand_of Addi w = immediate_i w
operand_of Slti w = immediate_i w
operand_of Sltiu w = immediate_i w
operand_of Xori w = immediate_i w
operand_of Ori w = immediate_i w
operand_of Andi w = immediate_i w
operand_of Slli w = amount_6 w
operand_of Srli w = amount_6 w
operand_of Srai w = amount_6 w
operand_of Addiw w = immediate_i w
operand_of Slliw w = amount_5 w
operand_of Srliw w = amount_5 w
operand_of Sraiw w = amount_5 w

-- the instruction of the same mnemonic with the operands of the word
abbrev pub with_operands : Instr → ℕ → Instr
with_operands (Lui rd imm) w = Lui (rd_of w) (immediate_u w)
with_operands (Auipc rd imm) w = Auipc (rd_of w) (immediate_u w)
with_operands (Jal rd imm) w = Jal (rd_of w) (immediate_j w)
with_operands (Jalr rd rs1 imm) w = Jalr (rd_of w) (rs1_of w) (immediate_i w)
with_operands (Branch cmp rs1 rs2 imm) w = Branch cmp (rs1_of w) (rs2_of w) (immediate_b w)
with_operands (Load kind rd rs1 imm) w = Load kind (rd_of w) (rs1_of w) (immediate_i w)
with_operands (Store width rs1 rs2 imm) w = Store width (rs1_of w) (rs2_of w) (immediate_s w)
with_operands (OpImm op rd rs1 imm) w = OpImm op (rd_of w) (rs1_of w) (operand_of op w)
with_operands (Op op rd rs1 rs2) w = Op op (rd_of w) (rs1_of w) (rs2_of w)
with_operands (LoadReserved wide order rd rs1) w = LoadReserved wide (order_of w) (rd_of w) (rs1_of w)
with_operands (StoreConditional wide order rd rs1 rs2) w =
    StoreConditional wide (order_of w) (rd_of w) (rs1_of w) (rs2_of w)
with_operands (Amo op wide order rd rs1 rs2) w = Amo op wide (order_of w) (rd_of w) (rs1_of w) (rs2_of w)
with_operands (Fence code rd rs1 imm) w = Fence code (rd_of w) (rs1_of w) (immediate_i w)
with_operands Ecall w = Ecall
with_operands Ebreak w = Ebreak

abbrev pub has_fixed : ℕ → List Fixed → Bool
has_fixed w fixed = list_all (λ field. bits w field.high field.low == field.value) fixed

-- the word has the row's fixed fields
abbrev pub has_row : ℕ → Row → Bool
has_row w row = (bits w 6 0 == row.opcode) && has_fixed w row.fixed

-- the word stands for the instruction: it has the fixed fields of the mnemonic, and its other fields are the operands
pub record IsWord (w : ℕ) (instr : Instr) : Type 0 where
  pub mnemonic : has_row w (row_of instr) ≡ true
  pub operands : with_operands instr w ≡ instr

-- an instruction of each mnemonic
abbrev pub mnemonics : List Instr
mnemonics =
    Lui 0 (pos 0) ∷ Auipc 0 (pos 0) ∷ Jal 0 (pos 0) ∷ Jalr 0 0 (pos 0)
    ∷ Ecall ∷ Ebreak ∷ Fence false 0 0 (pos 0) ∷ Fence true 0 0 (pos 0)
    ∷ LoadReserved false 0 0 0 ∷ LoadReserved true 0 0 0
    ∷ StoreConditional false 0 0 0 0 ∷ StoreConditional true 0 0 0 0
    ∷ map (λ cmp. Branch cmp 0 0 (pos 0)) (Beq ∷ Bne ∷ Blt ∷ Bge ∷ Bltu ∷ Bgeu ∷ [])
    ++ map (λ kind. Load kind 0 0 (pos 0)) (Lb ∷ Lh ∷ Lw ∷ Ld ∷ Lbu ∷ Lhu ∷ Lwu ∷ [])
    ++ map (λ width. Store width 0 0 (pos 0)) (One ∷ Two ∷ Four ∷ Eight ∷ [])
    ++ map (λ op. OpImm op 0 0 (pos 0)) (Addi ∷ Slti ∷ Sltiu ∷ Xori ∷ Ori ∷ Andi ∷ Slli ∷ Srli ∷ Srai ∷ Addiw ∷ Slliw ∷ Srliw ∷ Sraiw ∷ [])
    ++ map (λ op. Op op 0 0 0) (Add ∷ Sub ∷ Sll ∷ Slt ∷ Sltu ∷ Xor ∷ Srl ∷ Sra ∷ Or ∷ And ∷ Mul ∷ Mulh ∷ Mulhsu ∷ Mulhu ∷ Div ∷ Divu ∷ Rem ∷ Remu ∷ Addw ∷ Subw ∷ Sllw ∷ Srlw ∷ Sraw ∷ Mulw ∷ Divw ∷ Divuw ∷ Remw ∷ Remuw ∷ [])
    ++ map (λ op. Amo op false 0 0 0 0) (Amoswap ∷ Amoadd ∷ Amoxor ∷ Amoand ∷ Amoor ∷ Amomin ∷ Amomax ∷ Amominu ∷ Amomaxu ∷ [])
    ++ map (λ op. Amo op true 0 0 0 0) (Amoswap ∷ Amoadd ∷ Amoxor ∷ Amoand ∷ Amoor ∷ Amomin ∷ Amomax ∷ Amominu ∷ Amomaxu ∷ [])

-- the first of the mnemonics whose row the word has
abbrev pub first : ℕ → List Instr → Option Instr
first w instrs = find (λ instr. has_row w (row_of instr)) instrs

-- the mnemonic of the word
unfoldable pub mnemonic : ℕ → Option Instr
mnemonic w = first w mnemonics

-- what the word stands for
unfoldable pub decoding : ℕ → Option Instr
decoding w = option_map (λ instr. with_operands instr w) (mnemonic w)
