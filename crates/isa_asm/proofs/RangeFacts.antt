-- The test of an instruction's fields tells whether they are in range.
use Rattle.std.proofs.Common.{◌≡◌, ℕ, ◌<◌, ◌%◌, ◌^◌, ◌==◌, Bool, true, false, ◌&&◌, ℤ, pos, neg_ℤ, ◌≤ℤ◌, ◌<ℤ◌, nat_lt, refl, arith}
use Rattle.std.specs.Prelude.{int_le, int_lt, unsigned_abs}
use Rattle.std.proofs.lemmas.Bool.Decides.{nat_tests}
use Rattle.std.proofs.lemmas.Int.{ints}
use Rattle.isa_decode.specs.declared.instruction.Instr.{Instr}
use Rattle.isa_decode.specs.declared.instruction.Instr.TheVariants.{Lui, Auipc, Jal, Jalr, Branch, Load, Store, OpImm, Op, LoadReserved, StoreConditional, Amo, Fence, Ecall, Ebreak}
use Rattle.isa_decode.specs.declared.instruction.ImmOp.{ImmOp}
use Rattle.isa_decode.specs.declared.instruction.ImmOp.TheVariants.{Addi, Slti, Sltiu, Xori, Ori, Andi, Slli, Srli, Srai, Addiw, Slliw, Srliw, Sraiw}
use Rattle.isa_decode.specs.Ranges.{InRange, IsAmount, IsImmediate, IsOperand}
use Rattle.isa_asm.specs.Ranges.{in_range, is_amount, is_immediate, is_operand}

pub both : (a b : Bool) → (a && b) ≡ true → (a ≡ true) × (b ≡ true)
both true b h = (refl, h)
both false b h = cc

pub joined : (a b : Bool) → a ≡ true → b ≡ true → (a && b) ≡ true
joined true b h k = k
joined false b h k = cc

below_yes : (n limit : ℕ) → nat_lt n limit ≡ true → n < limit
below_yes n limit h = grind (arith, nat_tests)

below_no : (n limit : ℕ) → n < limit → nat_lt n limit ≡ true
below_no n limit h = grind (arith, nat_tests)

le_yes : (a b : ℤ) → int_le a b ≡ true → a ≤ℤ b
le_yes a b h = grind (arith, ints)

le_no : (a b : ℤ) → a ≤ℤ b → int_le a b ≡ true
le_no a b h = grind (arith, ints)

lt_yes : (a b : ℤ) → int_lt a b ≡ true → a <ℤ b
lt_yes a b h = grind (arith, ints)

lt_no : (a b : ℤ) → a <ℤ b → int_lt a b ≡ true
lt_no a b h = grind (arith, ints)

same_yes : (a b : ℕ) → (a == b) ≡ true → a ≡ b
same_yes a b h = grind (arith, nat_tests)

same_no : (a b : ℕ) → a ≡ b → (a == b) ≡ true
same_no a b h = grind (arith, nat_tests)

immediate_yes : (half step : ℕ) (z : ℤ) → is_immediate half step z ≡ true → IsImmediate half step z
immediate_yes half step z h =
    let outer = both (int_le (neg_ℤ (pos half)) z) (int_lt z (pos half) && (unsigned_abs z % step == 0)) h in
    let inner = both (int_lt z (pos half)) (unsigned_abs z % step == 0) outer.1 in
    record { least = le_yes _ _ outer.0; most = lt_yes _ _ inner.0; multiple = same_yes _ _ inner.1 }

immediate_no : (half step : ℕ) (z : ℤ) → IsImmediate half step z → is_immediate half step z ≡ true
immediate_no half step z h = joined _ _ (le_no _ _ h.least) (joined _ _ (lt_no _ _ h.most) (same_no _ _ h.multiple))

amount_yes : (limit : ℕ) (z : ℤ) → is_amount limit z ≡ true → IsAmount limit z
amount_yes limit z h =
    let parts = both (int_le (pos 0) z) (int_lt z (pos limit)) h in
    record { least = le_yes _ _ parts.0; most = lt_yes _ _ parts.1 }

amount_no : (limit : ℕ) (z : ℤ) → IsAmount limit z → is_amount limit z ≡ true
amount_no limit z h = joined _ _ (le_no _ _ h.least) (lt_no _ _ h.most)

operand_yes : (op : ImmOp) (z : ℤ) → is_operand op z ≡ true → IsOperand op z
operand_yes Addi z h = immediate_yes (2 ^ 11) 1 z h
operand_yes Slti z h = immediate_yes (2 ^ 11) 1 z h
operand_yes Sltiu z h = immediate_yes (2 ^ 11) 1 z h
operand_yes Xori z h = immediate_yes (2 ^ 11) 1 z h
operand_yes Ori z h = immediate_yes (2 ^ 11) 1 z h
operand_yes Andi z h = immediate_yes (2 ^ 11) 1 z h
operand_yes Slli z h = amount_yes 64 z h
operand_yes Srli z h = amount_yes 64 z h
operand_yes Srai z h = amount_yes 64 z h
operand_yes Addiw z h = immediate_yes (2 ^ 11) 1 z h
operand_yes Slliw z h = amount_yes 32 z h
operand_yes Srliw z h = amount_yes 32 z h
operand_yes Sraiw z h = amount_yes 32 z h

operand_no : (op : ImmOp) (z : ℤ) → IsOperand op z → is_operand op z ≡ true
operand_no Addi z h = immediate_no (2 ^ 11) 1 z h
operand_no Slti z h = immediate_no (2 ^ 11) 1 z h
operand_no Sltiu z h = immediate_no (2 ^ 11) 1 z h
operand_no Xori z h = immediate_no (2 ^ 11) 1 z h
operand_no Ori z h = immediate_no (2 ^ 11) 1 z h
operand_no Andi z h = immediate_no (2 ^ 11) 1 z h
operand_no Slli z h = amount_no 64 z h
operand_no Srli z h = amount_no 64 z h
operand_no Srai z h = amount_no 64 z h
operand_no Addiw z h = immediate_no (2 ^ 11) 1 z h
operand_no Slliw z h = amount_no 32 z h
operand_no Srliw z h = amount_no 32 z h
operand_no Sraiw z h = amount_no 32 z h

pub range_yes : (instr : Instr) → in_range instr ≡ true → InRange instr
unfolding in_range
range_yes (Lui rd imm) h =
    let p0 = both _ _ h in
    (below_yes rd 32 p0.0, immediate_yes (2 ^ 31) (2 ^ 12) imm p0.1)
range_yes (Auipc rd imm) h =
    let p0 = both _ _ h in
    (below_yes rd 32 p0.0, immediate_yes (2 ^ 31) (2 ^ 12) imm p0.1)
range_yes (Jal rd imm) h =
    let p0 = both _ _ h in
    (below_yes rd 32 p0.0, immediate_yes (2 ^ 20) 2 imm p0.1)
range_yes (Jalr rd rs1 imm) h =
    let p0 = both _ _ h in
    let p1 = both _ _ p0.1 in
    (below_yes rd 32 p0.0, below_yes rs1 32 p1.0, immediate_yes (2 ^ 11) 1 imm p1.1)
range_yes (Branch cmp rs1 rs2 imm) h =
    let p0 = both _ _ h in
    let p1 = both _ _ p0.1 in
    (below_yes rs1 32 p0.0, below_yes rs2 32 p1.0, immediate_yes (2 ^ 12) 2 imm p1.1)
range_yes (Load loads rd rs1 imm) h =
    let p0 = both _ _ h in
    let p1 = both _ _ p0.1 in
    (below_yes rd 32 p0.0, below_yes rs1 32 p1.0, immediate_yes (2 ^ 11) 1 imm p1.1)
range_yes (Store width rs1 rs2 imm) h =
    let p0 = both _ _ h in
    let p1 = both _ _ p0.1 in
    (below_yes rs1 32 p0.0, below_yes rs2 32 p1.0, immediate_yes (2 ^ 11) 1 imm p1.1)
range_yes (OpImm op rd rs1 imm) h =
    let p0 = both _ _ h in
    let p1 = both _ _ p0.1 in
    (below_yes rd 32 p0.0, below_yes rs1 32 p1.0, operand_yes op imm p1.1)
range_yes (Op op rd rs1 rs2) h =
    let p0 = both _ _ h in
    let p1 = both _ _ p0.1 in
    (below_yes rd 32 p0.0, below_yes rs1 32 p1.0, below_yes rs2 32 p1.1)
range_yes (LoadReserved wide order rd rs1) h =
    let p0 = both _ _ h in
    let p1 = both _ _ p0.1 in
    (below_yes order 4 p0.0, below_yes rd 32 p1.0, below_yes rs1 32 p1.1)
range_yes (StoreConditional wide order rd rs1 rs2) h =
    let p0 = both _ _ h in
    let p1 = both _ _ p0.1 in
    let p2 = both _ _ p1.1 in
    (below_yes order 4 p0.0, below_yes rd 32 p1.0, below_yes rs1 32 p2.0, below_yes rs2 32 p2.1)
range_yes (Amo op wide order rd rs1 rs2) h =
    let p0 = both _ _ h in
    let p1 = both _ _ p0.1 in
    let p2 = both _ _ p1.1 in
    (below_yes order 4 p0.0, below_yes rd 32 p1.0, below_yes rs1 32 p2.0, below_yes rs2 32 p2.1)
range_yes (Fence code rd rs1 imm) h =
    let p0 = both _ _ h in
    let p1 = both _ _ p0.1 in
    (below_yes rd 32 p0.0, below_yes rs1 32 p1.0, immediate_yes (2 ^ 11) 1 imm p1.1)
range_yes Ecall h = tt
range_yes Ebreak h = tt

pub range_no : (instr : Instr) → InRange instr → in_range instr ≡ true
unfolding in_range
range_no (Lui rd imm) h = joined _ _ (below_no rd 32 h.0) (immediate_no (2 ^ 31) (2 ^ 12) imm h.1)
range_no (Auipc rd imm) h = joined _ _ (below_no rd 32 h.0) (immediate_no (2 ^ 31) (2 ^ 12) imm h.1)
range_no (Jal rd imm) h = joined _ _ (below_no rd 32 h.0) (immediate_no (2 ^ 20) 2 imm h.1)
range_no (Jalr rd rs1 imm) h = joined _ _ (below_no rd 32 h.0) (joined _ _ (below_no rs1 32 h.1) (immediate_no (2 ^ 11) 1 imm h.2))
range_no (Branch cmp rs1 rs2 imm) h = joined _ _ (below_no rs1 32 h.0) (joined _ _ (below_no rs2 32 h.1) (immediate_no (2 ^ 12) 2 imm h.2))
range_no (Load loads rd rs1 imm) h = joined _ _ (below_no rd 32 h.0) (joined _ _ (below_no rs1 32 h.1) (immediate_no (2 ^ 11) 1 imm h.2))
range_no (Store width rs1 rs2 imm) h = joined _ _ (below_no rs1 32 h.0) (joined _ _ (below_no rs2 32 h.1) (immediate_no (2 ^ 11) 1 imm h.2))
range_no (OpImm op rd rs1 imm) h = joined _ _ (below_no rd 32 h.0) (joined _ _ (below_no rs1 32 h.1) (operand_no op imm h.2))
range_no (Op op rd rs1 rs2) h = joined _ _ (below_no rd 32 h.0) (joined _ _ (below_no rs1 32 h.1) (below_no rs2 32 h.2))
range_no (LoadReserved wide order rd rs1) h = joined _ _ (below_no order 4 h.0) (joined _ _ (below_no rd 32 h.1) (below_no rs1 32 h.2))
range_no (StoreConditional wide order rd rs1 rs2) h = joined _ _ (below_no order 4 h.0) (joined _ _ (below_no rd 32 h.1) (joined _ _ (below_no rs1 32 h.2) (below_no rs2 32 h.3)))
range_no (Amo op wide order rd rs1 rs2) h = joined _ _ (below_no order 4 h.0) (joined _ _ (below_no rd 32 h.1) (joined _ _ (below_no rs1 32 h.2) (below_no rs2 32 h.3)))
range_no (Fence code rd rs1 imm) h = joined _ _ (below_no rd 32 h.0) (joined _ _ (below_no rs1 32 h.1) (immediate_no (2 ^ 11) 1 imm h.2))
range_no Ecall h = refl
range_no Ebreak h = refl
