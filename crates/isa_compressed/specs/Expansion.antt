-- The listing of instructions of 2 bytes for RV64: the fields that are fixed, what else must hold, and the instruction
-- of 4 bytes that does the same. A hint expands as it is written.
-- Source: the RISC-V unprivileged manual, "C" Standard Extension for Compressed Instructions, "RVC Instruction Set
-- Listings".
use Rattle.std.specs.Prelude.{ℕ, Bool, true, not, ◌&&◌, ◌==◌, ℤ, pos, List, [], ◌∷◌, Option}
use Rattle.std.specs.List.{find, filter}
use Rattle.std.specs.Option.{option_map}
use Rattle.std.specs.Ordering.{int_eq}
use Rattle.isa_decode.specs.declared.instruction.Instr.{Instr}
use Rattle.isa_decode.specs.declared.instruction.Instr.TheVariants.{Lui, Jal, Jalr, Branch, Load, Store, OpImm, Op, Ebreak}
use Rattle.isa_decode.specs.declared.instruction.Cmp.TheVariants.{Beq, Bne}
use Rattle.isa_decode.specs.declared.instruction.LoadKind.TheVariants.{Lw, Ld}
use Rattle.isa_decode.specs.declared.instruction.Width.TheVariants.{Four, Eight}
use Rattle.isa_decode.specs.declared.instruction.ImmOp.TheVariants.{Addi, Andi, Slli, Srli, Srai, Addiw}
use Rattle.isa_decode.specs.declared.instruction.AluOp.TheVariants.{Add, Sub, Xor, Or, And, Addw, Subw}
use Rattle.isa_decode.specs.Fields.{bits}
use Rattle.isa_decode.specs.Listing.{Fixed, has_fixed}
use Rattle.isa_compressed.specs.Immediates.{rd_of, rs2_of, high_register, low_register, stack_address, word_offset, doubleword_offset, word_load_offset, doubleword_load_offset, word_store_offset, doubleword_store_offset, amount, small_immediate, stack_step, upper_immediate, jump_offset, branch_offset}

-- a form: its quadrant (bits 1 to 0) and row (bits 15 to 13), its other fixed fields, what else must hold, and what the
-- half word expands to
pub record Form : Type 0 where
  pub quadrant : ℕ
  pub row : ℕ
  pub fixed : List Fixed
  pub allowed : ℕ → Bool
  pub makes : ℕ → Instr

abbrev pub form : ℕ → ℕ → List Fixed → (ℕ → Bool) → (ℕ → Instr) → Form
form quadrant row fixed allowed makes =
    record { quadrant = quadrant; row = row; fixed = fixed; allowed = allowed; makes = makes }

abbrev pub always : ℕ → Bool
always h = true

abbrev pub has_rd : ℕ → Bool
has_rd h = not (rd_of h == 0)

abbrev pub has_rs2 : ℕ → Bool
has_rs2 h = not (rs2_of h == 0)

abbrev pub is_nonzero : ℤ → Bool
is_nonzero z = not (int_eq z (pos 0))

-- bits 11 to 7, and 6 to 2
abbrev pub rd_is : ℕ → Fixed
rd_is n = record { high = 11; low = 7; value = n }

abbrev pub rs2_is : ℕ → Fixed
rs2_is n = record { high = 6; low = 2; value = n }

-- bit 12, bits 11 to 10, and bits 6 to 5
abbrev pub bit_12 : ℕ → Fixed
bit_12 n = record { high = 12; low = 12; value = n }

abbrev pub kind : ℕ → Fixed
kind n = record { high = 11; low = 10; value = n }

abbrev pub operation : ℕ → Fixed
operation n = record { high = 6; low = 5; value = n }

abbrev pub forms : List Form
forms =
    -- c.addi4spn, c.lw, c.ld, c.sw, c.sd
    form 0 0 [] (λ h. not (stack_address h == 0)) (λ h. OpImm Addi (low_register h) 2 (pos (stack_address h)))
    ∷ form 0 2 [] always (λ h. Load Lw (low_register h) (high_register h) (pos (word_offset h)))
    ∷ form 0 3 [] always (λ h. Load Ld (low_register h) (high_register h) (pos (doubleword_offset h)))
    ∷ form 0 6 [] always (λ h. Store Four (high_register h) (low_register h) (pos (word_offset h)))
    ∷ form 0 7 [] always (λ h. Store Eight (high_register h) (low_register h) (pos (doubleword_offset h)))
    -- c.addi, c.addiw, c.li
    ∷ form 1 0 [] always (λ h. OpImm Addi (rd_of h) (rd_of h) (small_immediate h))
    ∷ form 1 1 [] has_rd (λ h. OpImm Addiw (rd_of h) (rd_of h) (small_immediate h))
    ∷ form 1 2 [] always (λ h. OpImm Addi (rd_of h) 0 (small_immediate h))
    -- c.addi16sp, c.lui
    ∷ form 1 3 (rd_is 2 ∷ []) (λ h. is_nonzero (stack_step h)) (λ h. OpImm Addi 2 2 (stack_step h))
    ∷ form 1 3 [] (λ h. not (rd_of h == 2) && is_nonzero (upper_immediate h)) (λ h. Lui (rd_of h) (upper_immediate h))
    -- c.srli, c.srai, c.andi
    ∷ form 1 4 (kind 0 ∷ []) always (λ h. OpImm Srli (high_register h) (high_register h) (pos (amount h)))
    ∷ form 1 4 (kind 1 ∷ []) always (λ h. OpImm Srai (high_register h) (high_register h) (pos (amount h)))
    ∷ form 1 4 (kind 2 ∷ []) always (λ h. OpImm Andi (high_register h) (high_register h) (small_immediate h))
    -- c.sub, c.xor, c.or, c.and, c.subw, c.addw
    ∷ form 1 4 (kind 3 ∷ bit_12 0 ∷ operation 0 ∷ []) always (λ h. Op Sub (high_register h) (high_register h) (low_register h))
    ∷ form 1 4 (kind 3 ∷ bit_12 0 ∷ operation 1 ∷ []) always (λ h. Op Xor (high_register h) (high_register h) (low_register h))
    ∷ form 1 4 (kind 3 ∷ bit_12 0 ∷ operation 2 ∷ []) always (λ h. Op Or (high_register h) (high_register h) (low_register h))
    ∷ form 1 4 (kind 3 ∷ bit_12 0 ∷ operation 3 ∷ []) always (λ h. Op And (high_register h) (high_register h) (low_register h))
    ∷ form 1 4 (kind 3 ∷ bit_12 1 ∷ operation 0 ∷ []) always (λ h. Op Subw (high_register h) (high_register h) (low_register h))
    ∷ form 1 4 (kind 3 ∷ bit_12 1 ∷ operation 1 ∷ []) always (λ h. Op Addw (high_register h) (high_register h) (low_register h))
    -- c.j, c.beqz, c.bnez
    ∷ form 1 5 [] always (λ h. Jal 0 (jump_offset h))
    ∷ form 1 6 [] always (λ h. Branch Beq (high_register h) 0 (branch_offset h))
    ∷ form 1 7 [] always (λ h. Branch Bne (high_register h) 0 (branch_offset h))
    -- c.slli, c.lwsp, c.ldsp
    ∷ form 2 0 [] always (λ h. OpImm Slli (rd_of h) (rd_of h) (pos (amount h)))
    ∷ form 2 2 [] has_rd (λ h. Load Lw (rd_of h) 2 (pos (word_load_offset h)))
    ∷ form 2 3 [] has_rd (λ h. Load Ld (rd_of h) 2 (pos (doubleword_load_offset h)))
    -- c.jr, c.mv, c.ebreak, c.jalr, c.add
    ∷ form 2 4 (bit_12 0 ∷ rs2_is 0 ∷ []) has_rd (λ h. Jalr 0 (rd_of h) (pos 0))
    ∷ form 2 4 (bit_12 0 ∷ []) has_rs2 (λ h. Op Add (rd_of h) 0 (rs2_of h))
    ∷ form 2 4 (bit_12 1 ∷ rs2_is 0 ∷ rd_is 0 ∷ []) always (λ h. Ebreak)
    ∷ form 2 4 (bit_12 1 ∷ rs2_is 0 ∷ []) has_rd (λ h. Jalr 1 (rd_of h) (pos 0))
    ∷ form 2 4 (bit_12 1 ∷ []) has_rs2 (λ h. Op Add (rd_of h) (rd_of h) (rs2_of h))
    -- c.swsp, c.sdsp
    ∷ form 2 6 [] always (λ h. Store Four 2 (rs2_of h) (pos (word_store_offset h)))
    ∷ form 2 7 [] always (λ h. Store Eight 2 (rs2_of h) (pos (doubleword_store_offset h)))
    ∷ []

-- the half word is of the form
abbrev pub has_form : ℕ → Form → Bool
has_form h form =
    (bits h 1 0 == form.quadrant) && ((bits h 15 13 == form.row) && (has_fixed h form.fixed && form.allowed h))

abbrev pub first : ℕ → List Form → Option Instr
first h forms = option_map (λ form. form.makes h) (find (λ form. has_form h form) forms)

-- what the half word expands to
unfoldable pub expansion : ℕ → Option Instr
expansion h = first h forms

-- what it expands to among the forms of the quadrant
unfoldable pub in_quadrant : ℕ → ℕ → Option Instr
in_quadrant quadrant h = first h (filter (λ form. quadrant == form.quadrant) forms)
