-- What a statement's first word names.
-- Source: the names of instructions are those of their printed text. Pseudo-instructions are a choice of those of the RISC-V
-- assembly programmer's manual, and directives of those of the GNU assembler.
use Rattle.std.specs.Prelude.{ℕ, Bool, true, false, List, [], ◌∷◌, codes, Option, option_and_then}
use Rattle.std.specs.Option.{option_map, option_or}
use Rattle.isa_decode.specs.declared.instruction.Cmp.TheVariants.{Beq, Bne, Blt, Bge, Bltu, Bgeu}
use Rattle.isa_decode.specs.declared.instruction.LoadKind.TheVariants.{Lb, Lh, Lw, Ld, Lbu, Lhu, Lwu}
use Rattle.isa_decode.specs.declared.instruction.Width.TheVariants.{One, Two, Four, Eight}
use Rattle.isa_decode.specs.declared.instruction.ImmOp.TheVariants.{Addi, Slti, Sltiu, Xori, Ori, Andi, Slli, Srli, Srai, Addiw, Slliw, Srliw, Sraiw}
use Rattle.isa_decode.specs.declared.instruction.AluOp.TheVariants.{Add, Sub, Sll, Slt, Sltu, Xor, Srl, Sra, Or, And, Mul, Mulh, Mulhsu, Mulhu, Div, Divu, Rem, Remu, Addw, Subw, Sllw, Srlw, Sraw, Mulw, Divw, Divuw, Remw, Remuw}
use Rattle.isa_decode.specs.declared.instruction.AmoOp.TheVariants.{Amoswap, Amoadd, Amoxor, Amoand, Amoor, Amomin, Amomax, Amominu, Amomaxu}
use Rattle.isa_print.specs.Texts.{branch_name, load_name, store_name, imm_name, alu_name, amo_name}
use Rattle.isa_asm.specs.declared.kind.Kind.{Kind}
use Rattle.isa_asm.specs.declared.kind.Kind.TheVariants as kind
use Rattle.isa_asm.specs.declared.kind.Atomic.{Atomic}
use Rattle.isa_asm.specs.declared.kind.Atomic.TheVariants as atomic
use Rattle.isa_asm.specs.Lexing.{halves}
use Rattle.isa_asm.specs.Tables.{named}

-- the names of all kinds but the atomic operations
abbrev pub kinds : List (List ℕ × Kind)
kinds =
    (codes "lui", kind.Lui)
    ∷ (codes "auipc", kind.Auipc)
    ∷ (codes "jal", kind.Jal)
    ∷ (codes "jalr", kind.Jalr)
    ∷ (branch_name Beq, kind.Branch Beq)
    ∷ (branch_name Bne, kind.Branch Bne)
    ∷ (branch_name Blt, kind.Branch Blt)
    ∷ (branch_name Bge, kind.Branch Bge)
    ∷ (branch_name Bltu, kind.Branch Bltu)
    ∷ (branch_name Bgeu, kind.Branch Bgeu)
    ∷ (load_name Lb, kind.Load Lb)
    ∷ (load_name Lh, kind.Load Lh)
    ∷ (load_name Lw, kind.Load Lw)
    ∷ (load_name Ld, kind.Load Ld)
    ∷ (load_name Lbu, kind.Load Lbu)
    ∷ (load_name Lhu, kind.Load Lhu)
    ∷ (load_name Lwu, kind.Load Lwu)
    ∷ (store_name One, kind.Store One)
    ∷ (store_name Two, kind.Store Two)
    ∷ (store_name Four, kind.Store Four)
    ∷ (store_name Eight, kind.Store Eight)
    ∷ (imm_name Addi, kind.Immediate Addi)
    ∷ (imm_name Slti, kind.Immediate Slti)
    ∷ (imm_name Sltiu, kind.Immediate Sltiu)
    ∷ (imm_name Xori, kind.Immediate Xori)
    ∷ (imm_name Ori, kind.Immediate Ori)
    ∷ (imm_name Andi, kind.Immediate Andi)
    ∷ (imm_name Slli, kind.Immediate Slli)
    ∷ (imm_name Srli, kind.Immediate Srli)
    ∷ (imm_name Srai, kind.Immediate Srai)
    ∷ (imm_name Addiw, kind.Immediate Addiw)
    ∷ (imm_name Slliw, kind.Immediate Slliw)
    ∷ (imm_name Srliw, kind.Immediate Srliw)
    ∷ (imm_name Sraiw, kind.Immediate Sraiw)
    ∷ (alu_name Add, kind.Operation Add)
    ∷ (alu_name Sub, kind.Operation Sub)
    ∷ (alu_name Sll, kind.Operation Sll)
    ∷ (alu_name Slt, kind.Operation Slt)
    ∷ (alu_name Sltu, kind.Operation Sltu)
    ∷ (alu_name Xor, kind.Operation Xor)
    ∷ (alu_name Srl, kind.Operation Srl)
    ∷ (alu_name Sra, kind.Operation Sra)
    ∷ (alu_name Or, kind.Operation Or)
    ∷ (alu_name And, kind.Operation And)
    ∷ (alu_name Mul, kind.Operation Mul)
    ∷ (alu_name Mulh, kind.Operation Mulh)
    ∷ (alu_name Mulhsu, kind.Operation Mulhsu)
    ∷ (alu_name Mulhu, kind.Operation Mulhu)
    ∷ (alu_name Div, kind.Operation Div)
    ∷ (alu_name Divu, kind.Operation Divu)
    ∷ (alu_name Rem, kind.Operation Rem)
    ∷ (alu_name Remu, kind.Operation Remu)
    ∷ (alu_name Addw, kind.Operation Addw)
    ∷ (alu_name Subw, kind.Operation Subw)
    ∷ (alu_name Sllw, kind.Operation Sllw)
    ∷ (alu_name Srlw, kind.Operation Srlw)
    ∷ (alu_name Sraw, kind.Operation Sraw)
    ∷ (alu_name Mulw, kind.Operation Mulw)
    ∷ (alu_name Divw, kind.Operation Divw)
    ∷ (alu_name Divuw, kind.Operation Divuw)
    ∷ (alu_name Remw, kind.Operation Remw)
    ∷ (alu_name Remuw, kind.Operation Remuw)
    ∷ (codes "fence", kind.Fence false)
    ∷ (codes "fence.i", kind.Fence true)
    ∷ (codes "ecall", kind.Ecall)
    ∷ (codes "ebreak", kind.Ebreak)
    ∷ (codes "li", kind.LoadImmediate)
    ∷ (codes "la", kind.LoadAddress)
    ∷ (codes "mv", kind.Move)
    ∷ (codes "nop", kind.Nop)
    ∷ (codes "ret", kind.Return)
    ∷ (codes "j", kind.Jump)
    ∷ (codes "call", kind.Call)
    ∷ (codes "beqz", kind.BranchZero Beq)
    ∷ (codes "bnez", kind.BranchZero Bne)
    ∷ (codes ".text", kind.Text)
    ∷ (codes ".data", kind.Data)
    ∷ (codes ".byte", kind.Number One)
    ∷ (codes ".half", kind.Number Two)
    ∷ (codes ".word", kind.Number Four)
    ∷ (codes ".dword", kind.Doubleword)
    ∷ (codes ".space", kind.Space)
    ∷ (codes ".ascii", kind.Ascii)
    ∷ []

-- what stands before the width of an atomic operation
abbrev pub atomics : List (List ℕ × Atomic)
atomics =
    (codes "lr", atomic.LoadReserved)
    ∷ (codes "sc", atomic.StoreConditional)
    ∷ (amo_name Amoswap, atomic.Amo Amoswap)
    ∷ (amo_name Amoadd, atomic.Amo Amoadd)
    ∷ (amo_name Amoxor, atomic.Amo Amoxor)
    ∷ (amo_name Amoand, atomic.Amo Amoand)
    ∷ (amo_name Amoor, atomic.Amo Amoor)
    ∷ (amo_name Amomin, atomic.Amo Amomin)
    ∷ (amo_name Amomax, atomic.Amo Amomax)
    ∷ (amo_name Amominu, atomic.Amo Amominu)
    ∷ (amo_name Amomaxu, atomic.Amo Amomaxu)
    ∷ []

-- the width and the order of an atomic operation: whether it is of 8 bytes, and 2 for aq plus 1 for rl
abbrev pub suffixes : List (List ℕ × (Bool × ℕ))
suffixes =
    (codes "w", (false, 0))
    ∷ (codes "w.rl", (false, 1))
    ∷ (codes "w.aq", (false, 2))
    ∷ (codes "w.aqrl", (false, 3))
    ∷ (codes "d", (true, 0))
    ∷ (codes "d.rl", (true, 1))
    ∷ (codes "d.aq", (true, 2))
    ∷ (codes "d.aqrl", (true, 3))
    ∷ []

-- an atomic operation, whose name has a dot before its width
unfoldable pub atomic_named : List ℕ → Option Kind
atomic_named name =
    option_and_then (λ parts. option_and_then (λ atomic. option_map (λ suffix. kind.Atomic atomic suffix.0 suffix.1) (named parts.behind suffixes)) (named parts.before atomics)) (halves 46 name)

unfoldable pub kind_named : List ℕ → Option Kind
kind_named name = option_or (named name kinds) (atomic_named name)
