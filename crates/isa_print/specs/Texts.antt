-- The text of an instruction.
-- Source: the names and the order of operands are those of the RISC-V unprivileged manual's listings and of the RISC-V
-- assembly programmer's manual. That registers go by number and numbers are decimal is the project's own.
use Rattle.std.specs.Prelude.{ℕ, Bool, true, false, if◌then◌else◌, ◌==◌, ℤ, List, [], ◌∷◌, ◌++◌, codes, decimal}
use Rattle.std.specs.Fmt.{signed_decimal}
use Rattle.std.specs.Int.{w64, cast_unsigned}
use Rattle.isa_decode.specs.declared.instruction.Instr.{Instr}
use Rattle.isa_decode.specs.declared.instruction.Instr.TheVariants.{Lui, Auipc, Jal, Jalr, Branch, Load, Store, OpImm, Op, LoadReserved, StoreConditional, Amo, Fence, Ecall, Ebreak}
use Rattle.isa_decode.specs.declared.instruction.Cmp.{Cmp}
use Rattle.isa_decode.specs.declared.instruction.Cmp.TheVariants.{Beq, Bne, Blt, Bge, Bltu, Bgeu}
use Rattle.isa_decode.specs.declared.instruction.LoadKind.{LoadKind}
use Rattle.isa_decode.specs.declared.instruction.LoadKind.TheVariants.{Lb, Lh, Lw, Ld, Lbu, Lhu, Lwu}
use Rattle.isa_decode.specs.declared.instruction.Width.{Width}
use Rattle.isa_decode.specs.declared.instruction.Width.TheVariants.{One, Two, Four, Eight}
use Rattle.isa_decode.specs.declared.instruction.ImmOp.{ImmOp}
use Rattle.isa_decode.specs.declared.instruction.ImmOp.TheVariants.{Addi, Slti, Sltiu, Xori, Ori, Andi, Slli, Srli, Srai, Addiw, Slliw, Srliw, Sraiw}
use Rattle.isa_decode.specs.declared.instruction.AluOp.{AluOp}
use Rattle.isa_decode.specs.declared.instruction.AluOp.TheVariants.{Add, Sub, Sll, Slt, Sltu, Xor, Srl, Sra, Or, And, Mul, Mulh, Mulhsu, Mulhu, Div, Divu, Rem, Remu, Addw, Subw, Sllw, Srlw, Sraw, Mulw, Divw, Divuw, Remw, Remuw}
use Rattle.isa_decode.specs.declared.instruction.AmoOp.{AmoOp}
use Rattle.isa_decode.specs.declared.instruction.AmoOp.TheVariants.{Amoswap, Amoadd, Amoxor, Amoand, Amoor, Amomin, Amomax, Amominu, Amomaxu}
use Rattle.isa_decode.specs.Fields.{bits}

abbrev pub branch_name : Cmp → List ℕ
branch_name Beq = codes "beq"
branch_name Bne = codes "bne"
branch_name Blt = codes "blt"
branch_name Bge = codes "bge"
branch_name Bltu = codes "bltu"
branch_name Bgeu = codes "bgeu"

abbrev pub load_name : LoadKind → List ℕ
load_name Lb = codes "lb"
load_name Lh = codes "lh"
load_name Lw = codes "lw"
load_name Ld = codes "ld"
load_name Lbu = codes "lbu"
load_name Lhu = codes "lhu"
load_name Lwu = codes "lwu"

abbrev pub store_name : Width → List ℕ
store_name One = codes "sb"
store_name Two = codes "sh"
store_name Four = codes "sw"
store_name Eight = codes "sd"

abbrev pub imm_name : ImmOp → List ℕ
imm_name Addi = codes "addi"
imm_name Slti = codes "slti"
imm_name Sltiu = codes "sltiu"
imm_name Xori = codes "xori"
imm_name Ori = codes "ori"
imm_name Andi = codes "andi"
imm_name Slli = codes "slli"
imm_name Srli = codes "srli"
imm_name Srai = codes "srai"
imm_name Addiw = codes "addiw"
imm_name Slliw = codes "slliw"
imm_name Srliw = codes "srliw"
imm_name Sraiw = codes "sraiw"

abbrev pub alu_name : AluOp → List ℕ
alu_name Add = codes "add"
alu_name Sub = codes "sub"
alu_name Sll = codes "sll"
alu_name Slt = codes "slt"
alu_name Sltu = codes "sltu"
alu_name Xor = codes "xor"
alu_name Srl = codes "srl"
alu_name Sra = codes "sra"
alu_name Or = codes "or"
alu_name And = codes "and"
alu_name Mul = codes "mul"
alu_name Mulh = codes "mulh"
alu_name Mulhsu = codes "mulhsu"
alu_name Mulhu = codes "mulhu"
alu_name Div = codes "div"
alu_name Divu = codes "divu"
alu_name Rem = codes "rem"
alu_name Remu = codes "remu"
alu_name Addw = codes "addw"
alu_name Subw = codes "subw"
alu_name Sllw = codes "sllw"
alu_name Srlw = codes "srlw"
alu_name Sraw = codes "sraw"
alu_name Mulw = codes "mulw"
alu_name Divw = codes "divw"
alu_name Divuw = codes "divuw"
alu_name Remw = codes "remw"
alu_name Remuw = codes "remuw"

abbrev pub amo_name : AmoOp → List ℕ
amo_name Amoswap = codes "amoswap"
amo_name Amoadd = codes "amoadd"
amo_name Amoxor = codes "amoxor"
amo_name Amoand = codes "amoand"
amo_name Amoor = codes "amoor"
amo_name Amomin = codes "amomin"
amo_name Amomax = codes "amomax"
amo_name Amominu = codes "amominu"
amo_name Amomaxu = codes "amomaxu"

abbrev pub register : ℕ → List ℕ
register n = codes "x" ++ decimal n

-- the register as an address
abbrev pub address : ℕ → List ℕ
address n = codes "(" ++ (register n ++ codes ")")

abbrev pub address_with_offset : ℤ → ℕ → List ℕ
address_with_offset imm n = signed_decimal imm ++ address n

-- the 20 bits of an upper immediate, unsigned
abbrev pub upper : ℤ → List ℕ
upper imm = decimal (bits (cast_unsigned w64 imm) 31 12)

abbrev pub joined : List (List ℕ) → List ℕ
joined [] = []
joined (operand ∷ []) = operand
joined (operand ∷ operands) = operand ++ (codes ", " ++ joined operands)

-- the name, a blank, and the operands
abbrev pub statement : List ℕ → List (List ℕ) → List ℕ
statement name operands = name ++ (codes " " ++ joined operands)

-- aq counts 2, rl counts 1
abbrev pub order_suffix : ℕ → List ℕ
order_suffix order =
    if order == 0 then [] else (if order == 1 then codes ".rl" else (if order == 2 then codes ".aq" else codes ".aqrl"))

abbrev pub width_suffix : Bool → List ℕ
width_suffix true = codes ".d"
width_suffix false = codes ".w"

-- the name, its width and its order, a blank, and the operands
abbrev pub atomic : List ℕ → Bool → ℕ → List (List ℕ) → List ℕ
atomic name wide order operands = name ++ (width_suffix wide ++ statement (order_suffix order) operands)

abbrev pub instruction_text : Instr → List ℕ
instruction_text (Lui rd imm) = statement (codes "lui") (register rd ∷ upper imm ∷ [])
instruction_text (Auipc rd imm) = statement (codes "auipc") (register rd ∷ upper imm ∷ [])
instruction_text (Jal rd imm) = statement (codes "jal") (register rd ∷ signed_decimal imm ∷ [])
instruction_text (Jalr rd rs1 imm) = statement (codes "jalr") (register rd ∷ address_with_offset imm rs1 ∷ [])
instruction_text (Branch cmp rs1 rs2 imm) =
    statement (branch_name cmp) (register rs1 ∷ register rs2 ∷ signed_decimal imm ∷ [])
instruction_text (Load kind rd rs1 imm) = statement (load_name kind) (register rd ∷ address_with_offset imm rs1 ∷ [])
instruction_text (Store width rs1 rs2 imm) =
    statement (store_name width) (register rs2 ∷ address_with_offset imm rs1 ∷ [])
instruction_text (OpImm op rd rs1 imm) =
    statement (imm_name op) (register rd ∷ register rs1 ∷ signed_decimal imm ∷ [])
instruction_text (Op op rd rs1 rs2) = statement (alu_name op) (register rd ∷ register rs1 ∷ register rs2 ∷ [])
instruction_text (LoadReserved wide order rd rs1) = atomic (codes "lr") wide order (register rd ∷ address rs1 ∷ [])
instruction_text (StoreConditional wide order rd rs1 rs2) =
    atomic (codes "sc") wide order (register rd ∷ register rs2 ∷ address rs1 ∷ [])
instruction_text (Amo op wide order rd rs1 rs2) =
    atomic (amo_name op) wide order (register rd ∷ register rs2 ∷ address rs1 ∷ [])
instruction_text (Fence code rd rs1 imm) =
    statement (if code then codes "fence.i" else codes "fence") (register rd ∷ register rs1 ∷ signed_decimal imm ∷ [])
instruction_text Ecall = codes "ecall"
instruction_text Ebreak = codes "ebreak"
