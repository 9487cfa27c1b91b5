-- A printed instruction means itself.
use Rattle.std.proofs.Common.{◌≡◌, ℕ, zero, suc, ◌+◌, ◌-◌, ◌*◌, ◌/◌, ◌%◌, ◌^◌, ◌<◌, ◌≤◌, ◌==◌, Bool, true, false, cond, ◌&&◌, List, [], ◌∷◌, ◌++◌, length, get_or, Option, Some, None, Ok, ℤ, pos, negsuc, ◌-ℤ◌, nat_lt, refl, sym, ap, ◌∙◌, append_assoc, arith}
use Rattle.std.specs.Prelude.{not, ◌||◌, codes, nat_le}
use Rattle.std.specs.Fmt.{decimal, digits, signed_decimal}
use Rattle.std.specs.Int.{w64, cast_unsigned}
use Rattle.std.specs.List.{list_all}
use Rattle.std.proofs.lemmas.Bool.Decides.{nat_tests}
use Rattle.std.proofs.lemmas.Fmt.{decimal_by_steps, decimal_digit, decimal_nonempty, first_decimal}
use Rattle.std.proofs.lemmas.Int.{ints}
use Rattle.std.proofs.lemmas.List.Folds.{list_all-append}
use Rattle.std.proofs.lemmas.List.Sums.{fold_push}
use Rattle.isa_decode.specs.Fields.{bits, reading}
use Rattle.isa_decode.specs.Ranges.{InRange, IsAmount, IsImmediate, IsOperand}
use Rattle.isa_decode.specs.declared.instruction.Instr.{Instr}
use Rattle.isa_decode.specs.declared.instruction.Instr.TheVariants.{Lui, Auipc, Jal, Jalr, Branch, Load, Store, OpImm, Op, LoadReserved, StoreConditional, Amo, Fence, Ecall, Ebreak}
use Rattle.isa_decode.specs.declared.instruction.Cmp.{Cmp}
use Rattle.isa_decode.specs.declared.instruction.Cmp.TheVariants.{Beq, Bne, Blt, Bge, Bltu, Bgeu}
use Rattle.isa_decode.specs.declared.instruction.LoadKind.{LoadKind}
use Rattle.isa_decode.specs.declared.instruction.LoadKind.TheVariants.{Lb, Lh, Lw, Ld, Lbu, Lhu, Lwu}
use Rattle.isa_decode.specs.declared.instruction.Width.{Width}
use Rattle.isa_decode.specs.declared.instruction.Width.TheVariants as width
use Rattle.isa_decode.specs.declared.instruction.ImmOp.{ImmOp}
use Rattle.isa_decode.specs.declared.instruction.ImmOp.TheVariants.{Addi, Slti, Sltiu, Xori, Ori, Andi, Slli, Srli, Srai, Addiw, Slliw, Srliw, Sraiw}
use Rattle.isa_decode.specs.declared.instruction.AluOp.{AluOp}
use Rattle.isa_decode.specs.declared.instruction.AluOp.TheVariants.{Add, Sub, Sll, Slt, Sltu, Xor, Srl, Sra, Or, And, Mul, Mulh, Mulhsu, Mulhu, Div, Divu, Rem, Remu, Addw, Subw, Sllw, Srlw, Sraw, Mulw, Divw, Divuw, Remw, Remuw}
use Rattle.isa_decode.specs.declared.instruction.AmoOp.TheVariants.{Amoswap, Amoadd, Amoxor, Amoand, Amoor, Amomin, Amomax, Amominu, Amomaxu}
use Rattle.isa_print.specs.Texts.{address as address_text, address_with_offset, alu_name, amo_name, branch_name, imm_name, instruction_text, joined, load_name, order_suffix, register as register_text, statement, store_name, upper as upper_text, width_suffix}
use Rattle.isa_asm.specs.declared.kind.Kind.{Kind}
use Rattle.isa_asm.specs.declared.kind.Kind.TheVariants as kind
use Rattle.isa_asm.specs.declared.kind.Atomic.{Atomic}
use Rattle.isa_asm.specs.declared.kind.Atomic.TheVariants as atomic
use Rattle.isa_asm.specs.declared.literal.Literal.{Literal}
use Rattle.isa_asm.specs.Kinds.{atomic_named, kind_named}
use Rattle.isa_asm.specs.Lexing.{before_blank, begins_name, behind_word, first_word, from_blank, halves, is_blank, is_digit, is_name, only_word, without_front}
use Rattle.isa_asm.specs.Literals.{behind_zero, digit_value, digits_of, digits_value, is_digit_of, literal, magnitude, signed_literal}
use Rattle.isa_asm.specs.Numbers.{natural, signed_64, upper}
use Rattle.isa_asm.specs.Operands.{Offset, address, enclosed, memory, number, register, register_and_address, register_and_memory, register_and_number, register_and_target, register_first, target, three_registers, two_and_address, two_and_number, two_and_target, two_registers}
use Rattle.isa_asm.specs.Registers.{register_named}
use Rattle.isa_asm.specs.Statement.{One, alone, atomic_of, atomic_storing, auipc, body_meaning, branch, branch_to, fence, immediate, jal, jalr, jump_to, kind_meaning, load, load_reserved, lui, operation, store, storing}
use Rattle.isa_asm.proofs.RangeFacts.{both, joined as both_hold}

-- what holds of each number below a bound, by trying them
unfoldable pub all_below : ℕ → (ℕ → Bool) → Bool
all_below zero test = true
all_below (suc k) test = test k && all_below k test

below_by : (same : Bool) (k n : ℕ) (test : ℕ → Bool) → (n == k) ≡ same → test k ≡ true → (n < k → test n ≡ true) → n < suc k → test n ≡ true
below_by true k n test is here rest small = let equal : n ≡ k = grind (arith, nat_tests) in ap test equal ∙ here
below_by false k n test is here rest small = rest (grind (arith, nat_tests))

pub from_below : (k : ℕ) (test : ℕ → Bool) → all_below k test ≡ true → (n : ℕ) → n < k → test n ≡ true
unfolding all_below
from_below zero test h n small = absurd (omega arith)
from_below (suc k) test h n small =
    let parts = both (test k) (all_below k test) h in
    below_by (n == k) k n test refl parts.0 (λ less. from_below k test parts.1 n less) small

abbrev is_some_of : ℕ → Option ℕ → Bool
is_some_of n None = false
is_some_of n (Some m) = m == n

some_of : (n : ℕ) (found : Option ℕ) → is_some_of n found ≡ true → found ≡ Some n
some_of n None h = cc
some_of n (Some m) h = let equal : m ≡ n = grind (arith, nat_tests) in ap Some equal

no_dash : (byte : ℕ) → is_digit byte ≡ true → (byte == 45) ≡ false
no_dash byte digit = grind (arith, nat_tests)

pub not_true : (b : Bool) → not b ≡ true → b ≡ false
not_true true h = cc
not_true false h = refl

pub solid_byte : (byte : ℕ) → not (is_blank byte) ≡ true → is_blank byte ≡ false
solid_byte byte h = not_true (is_blank byte) h

other_byte : (at byte : ℕ) → not (byte == at) ≡ true → (byte == at) ≡ false
other_byte at byte h = not_true (byte == at) h

same_test : (n : ℕ) → (n == n) ≡ true
same_test n = grind (arith, nat_tests)

-- the bytes of numbers
unfoldable pub is_number_byte : ℕ → Bool
is_number_byte byte = is_digit byte || (byte == 45)

-- digits of a number, the highest first
pub record IsDigits (n : ℕ) (ds : List ℕ) : Type 0 where
  pub digits : list_all is_digit ds ≡ true
  pub value : digits_value 10 ds ≡ n

one_digit : (n : ℕ) → n < 10 → IsDigits n ((48 + n) ∷ [])
unfolding digits_value digit_value
one_digit n small = record { digits = grind (arith, nat_tests); value = grind (arith, nat_tests) }

more_value : (n value : ℕ) → 10 ≤ n → value ≡ n / 10 → value * 10 + digit_value (48 + n % 10) ≡ n
unfolding digit_value
more_value n value great is = grind (arith, nat_tests)

digit_is : (n : ℕ) → n < 10 → is_digit (48 + n) ≡ true
digit_is n small = grind (arith, nat_tests)

more_digits : (n : ℕ) (ds : List ℕ) → 10 ≤ n → IsDigits (n / 10) ds → IsDigits n (ds ++ ((48 + n % 10) ∷ []))
unfolding digits_value
more_digits n ds great front = record {
  digits = list_all-append is_digit ds ((48 + n % 10) ∷ []) ∙ both_hold _ _ front.digits (both_hold _ _ (digit_is (n % 10) (omega arith)) refl);
  value = fold_push (λ (value digit : ℕ). value * 10 + digit_value digit) 0 ds (48 + n % 10) ∙ more_value n (digits_value 10 ds) great front.value;
}

pub decimal_digits : (n : ℕ) → n < 2 ^ 64 → IsDigits n (decimal n)
decimal_digits n small = decimal_by_steps (λ n ds. IsDigits n ds) one_digit more_digits n small

-- what holds of all
pub weaker : (p q : ℕ → Bool) → ((n : ℕ) → p n ≡ true → q n ≡ true) → (ds : List ℕ) → list_all p ds ≡ true → list_all q ds ≡ true
weaker p q h [] all = refl
weaker p q h (d ∷ ds) all = let parts = both (p d) (list_all p ds) all in both_hold (q d) (list_all q ds) (h d parts.0) (weaker p q h ds parts.1)

digit_of_ten : (byte : ℕ) → is_digit byte ≡ true → is_digit_of 10 byte ≡ true
digit_of_ten byte h = rw h

pub digit_is_number : (byte : ℕ) → is_digit byte ≡ true → is_number_byte byte ≡ true
unfolding is_number_byte
digit_is_number byte h = rw h

-- digits with no zero in front
digits_magnitude : (n : ℕ) (ds : List ℕ) → IsDigits n ds → 0 < length ds → 48 < get_or ds 0 0 → n < 2 ^ 64 → magnitude ds ≡ Some (Some n)
unfolding magnitude digits_of
digits_magnitude n [] spelled some great small = absurd (omega arith)
digits_magnitude n (d ∷ ds) spelled some great small =
    let plain : (d == 48) ≡ false = grind (arith, nat_tests) in
    let all : list_all (is_digit_of 10) (d ∷ ds) ≡ true = weaker is_digit (is_digit_of 10) digit_of_ten (d ∷ ds) spelled.digits in
    let fits : nat_lt n (2 ^ 128) ≡ true = grind (arith, nat_tests) in
    rw (plain, all, spelled.value, fits)

decimal_magnitude : (n : ℕ) → n < 2 ^ 64 → magnitude (decimal n) ≡ Some (Some n)
unfolding magnitude behind_zero
decimal_magnitude zero small = ap magnitude (decimal_digit 0 (omega arith))
decimal_magnitude (suc n) small = digits_magnitude (suc n) (decimal (suc n)) (decimal_digits (suc n) small) (decimal_nonempty (suc n) small) (first_decimal (suc n) (omega arith) small) small

-- the first byte is no `-`
unsigned_literal : (n : ℕ) (ds : List ℕ) → IsDigits n ds → 0 < length ds → magnitude ds ≡ Some (Some n) → literal ds ≡ Some (record { negative = false; magnitude = Some n })
unfolding literal signed_literal
unsigned_literal n [] spelled some is = absurd (omega arith)
unsigned_literal n (d ∷ ds) spelled some is =
    let parts = both (is_digit d) (list_all is_digit ds) spelled.digits in
    let digit : is_digit d ≡ true = parts.0 in
    let plain : (d == 45) ≡ false = no_dash d digit in
    rw (plain, is)

abbrev literal_of : ℤ → Literal
literal_of (pos n) = record { negative = false; magnitude = Some n }
literal_of (negsuc n) = record { negative = true; magnitude = Some (suc n) }

abbrev pub size_below : ℕ → ℤ → Type 0
size_below limit (pos n) = n < limit
size_below limit (negsuc n) = suc n < limit

signed_literal_of : (z : ℤ) → size_below (2 ^ 63) z → literal (signed_decimal z) ≡ Some (literal_of z)
unfolding literal signed_literal
signed_literal_of (pos n) small =
    let fits : n < 2 ^ 64 = omega arith in
    unsigned_literal n (decimal n) (decimal_digits n fits) (decimal_nonempty n fits) (decimal_magnitude n fits)
signed_literal_of (negsuc n) small =
    let fits : suc n < 2 ^ 64 = omega arith in
    rw (decimal_magnitude (suc n) fits)

signed_is : (z : ℤ) → size_below (2 ^ 63) z → signed_64 (literal_of z) ≡ Some z
unfolding signed_64
signed_is (pos n) small = let fits : nat_lt n (2 ^ 63) ≡ true = grind (arith, nat_tests) in rw fits
signed_is (negsuc n) small = let fits : nat_le (suc n) (2 ^ 63) ≡ true = grind (arith, nat_tests) in rw fits

pub signed_bytes : (z : ℤ) → size_below (2 ^ 63) z → list_all is_number_byte (signed_decimal z) ≡ true
unfolding is_number_byte
signed_bytes (pos n) small = weaker is_digit is_number_byte digit_is_number (decimal n) (decimal_digits n (omega arith)).digits
signed_bytes (negsuc n) small = weaker is_digit is_number_byte digit_is_number (decimal (suc n)) (decimal_digits (suc n) (omega arith)).digits

signed_length : (z : ℤ) → size_below (2 ^ 63) z → 0 < length (signed_decimal z)
signed_length (pos n) small = decimal_nonempty n (omega arith)
signed_length (negsuc n) small = omega arith

-- no newline, `;`, `:`, `"` or `#`, and no byte above 127
abbrev pub is_calm : ℕ → Bool
is_calm byte = not (byte == 10) && (not (byte == 59) && (not (byte == 58) && (not (byte == 34) && (not (byte == 35) && not (nat_lt 127 byte)))))

-- words without blanks
abbrev pub is_solid : ℕ → Bool
is_solid byte = not (is_blank byte)

before_solid : (text rest : List ℕ) → list_all is_solid text ≡ true → before_blank (text ++ 32 ∷ rest) ≡ text
unfolding before_blank
before_solid [] rest all = refl
before_solid (byte ∷ text) rest all =
    let parts = both (is_solid byte) (list_all is_solid text) all in
    rw (solid_byte byte parts.0) (ap (λ (front : List ℕ). byte ∷ front) (before_solid text rest parts.1))

from_solid : (text rest : List ℕ) → list_all is_solid text ≡ true → from_blank (text ++ 32 ∷ rest) ≡ 32 ∷ rest
unfolding from_blank
from_solid [] rest all = refl
from_solid (byte ∷ text) rest all =
    let parts = both (is_solid byte) (list_all is_solid text) all in
    rw (solid_byte byte parts.0) (from_solid text rest parts.1)

before_end : (text : List ℕ) → list_all is_solid text ≡ true → before_blank text ≡ text
unfolding before_blank
before_end [] all = refl
before_end (byte ∷ text) all =
    let parts = both (is_solid byte) (list_all is_solid text) all in
    rw (solid_byte byte parts.0) (ap (λ (front : List ℕ). byte ∷ front) (before_end text parts.1))

from_end : (text : List ℕ) → list_all is_solid text ≡ true → from_blank text ≡ []
unfolding from_blank
from_end [] all = refl
from_end (byte ∷ text) all =
    let parts = both (is_solid byte) (list_all is_solid text) all in
    rw (solid_byte byte parts.0) (from_end text parts.1)

front_solid : (text : List ℕ) → list_all is_solid text ≡ true → without_front (32 ∷ text) ≡ text
unfolding without_front
front_solid [] all = refl
front_solid (byte ∷ text) all = rw (solid_byte byte (both (is_solid byte) (list_all is_solid text) all).0)

only_solid : (text : List ℕ) → list_all is_solid text ≡ true → only_word (32 ∷ text) ≡ Some text
unfolding only_word first_word behind_word
only_solid text all = rw (front_solid text all, from_end text all, before_end text all)

-- what stands before the first byte of a kind
abbrev is_other : ℕ → ℕ → Bool
is_other at byte = not (byte == at)

cut_behind : (at : ℕ) (front rest : List ℕ) → list_all (is_other at) front ≡ true → halves at (front ++ at ∷ rest) ≡ Some (record { before = front; behind = rest })
unfolding halves
cut_behind at [] rest all = rw (same_test at)
cut_behind at (byte ∷ front) rest all =
    let parts = both (is_other at byte) (list_all (is_other at) front) all in
    rw (other_byte at byte parts.0, cut_behind at front rest parts.1)

-- registers by their numbers, each tried
abbrev register_test : ℕ → Bool
register_test n = is_some_of n (register (32 ∷ register_text n)) && (list_all (is_other 44) (32 ∷ register_text n) && (is_some_of n (address (32 ∷ address_text n)) && is_some_of n (enclosed (register_text n ++ codes ")"))))

register_tests : all_below 32 register_test ≡ true
unfolding all_below register only_word first_word behind_word without_front before_blank from_blank register_named address enclosed halves digits
register_tests = refl

record IsRegister (n : ℕ) : Type 0 where
  read : register (32 ∷ register_text n) ≡ Some n
  apart : list_all (is_other 44) (32 ∷ register_text n) ≡ true
  addressed : address (32 ∷ address_text n) ≡ Some n
  closed : enclosed (register_text n ++ codes ")") ≡ Some n

is_register : (n : ℕ) → n < 32 → IsRegister n
is_register n small =
    let h : register_test n ≡ true = from_below 32 register_test register_tests n small in
    let a = both (is_some_of n (register (32 ∷ register_text n))) (list_all (is_other 44) (32 ∷ register_text n) && (is_some_of n (address (32 ∷ address_text n)) && is_some_of n (enclosed (register_text n ++ codes ")")))) h in
    let b = both (list_all (is_other 44) (32 ∷ register_text n)) (is_some_of n (address (32 ∷ address_text n)) && is_some_of n (enclosed (register_text n ++ codes ")"))) a.1 in
    let d = both (is_some_of n (address (32 ∷ address_text n))) (is_some_of n (enclosed (register_text n ++ codes ")"))) b.1 in
    record {
      read = some_of n (register (32 ∷ register_text n)) a.0;
      apart = b.0;
      addressed = some_of n (address (32 ∷ address_text n)) d.0;
      closed = some_of n (enclosed (register_text n ++ codes ")")) d.1;
    }

first : (n : ℕ) (rest : List ℕ) → n < 32 → register_first (32 ∷ (register_text n ++ 44 ∷ rest)) ≡ Some (n, rest)
unfolding register_first
first n rest small =
    let facts = is_register n small in
    rw (cut_behind 44 (32 ∷ register_text n) rest facts.apart, facts.read)

number_byte_solid : (byte : ℕ) → is_number_byte byte ≡ true → is_solid byte ≡ true
unfolding is_number_byte
number_byte_solid byte h = grind (arith, nat_tests)

number_byte_open : (byte : ℕ) → is_number_byte byte ≡ true → is_other 40 byte ≡ true
unfolding is_number_byte
number_byte_open byte h = grind (arith, nat_tests)

number_is : (z : ℤ) → size_below (2 ^ 63) z → number (32 ∷ signed_decimal z) ≡ Some (literal_of z)
unfolding number
number_is z small =
    rw (only_solid (signed_decimal z) (weaker is_number_byte is_solid number_byte_solid (signed_decimal z) (signed_bytes z small))) (signed_literal_of z small)

memory_is : (z : ℤ) (n : ℕ) → size_below (2 ^ 63) z → n < 32 → memory (32 ∷ (signed_decimal z ++ 40 ∷ (register_text n ++ codes ")"))) ≡ Some (literal_of z, n)
unfolding memory
memory_is z n small fits =
    let apart : list_all (is_other 40) (32 ∷ signed_decimal z) ≡ true = weaker is_number_byte (is_other 40) number_byte_open (signed_decimal z) (signed_bytes z small) in
    rw (cut_behind 40 (32 ∷ signed_decimal z) (register_text n ++ codes ")") apart, number_is z small, (is_register n fits).closed)

-- a number is no name
number_no_name : (byte : ℕ) (bytes : List ℕ) → is_number_byte byte ≡ true → is_name (byte ∷ bytes) ≡ false
unfolding is_number_byte
number_no_name byte bytes h = let no : begins_name byte ≡ false = grind (arith, nat_tests) in rw no

no_name : (text : List ℕ) → list_all is_number_byte text ≡ true → is_name text ≡ false
no_name [] all = refl
no_name (byte ∷ bytes) all = number_no_name byte bytes (both (is_number_byte byte) (list_all is_number_byte bytes) all).0

target_is : (z : ℤ) → size_below (2 ^ 63) z → target (32 ∷ signed_decimal z) ≡ Some (Offset (literal_of z))
unfolding target
target_is z small =
    let bytes = signed_bytes z small in
    rw (only_solid (signed_decimal z) (weaker is_number_byte is_solid number_byte_solid (signed_decimal z) bytes), no_name (signed_decimal z) bytes, signed_literal_of z small)

-- a name, a blank and more
named_text : (name rest : List ℕ) (named : Kind) → list_all is_solid name ≡ true → 0 < length name → kind_named name ≡ Some named → body_meaning (name ++ 32 ∷ rest) ≡ kind_meaning named (32 ∷ rest)
unfolding body_meaning first_word behind_word without_front
named_text [] rest named solid some is = absurd (omega arith)
named_text (byte ∷ name) rest named solid some is =
    let plain : is_blank byte ≡ false = solid_byte byte (both (is_solid byte) (list_all is_solid name) solid).0 in
    rw (plain, before_solid (byte ∷ name) rest solid, from_solid (byte ∷ name) rest solid, is)

-- a name that is known, without blanks
pub record IsKnown (name : List ℕ) (named : Kind) : Type 0 where
  pub solid : list_all is_solid name ≡ true
  pub calm : list_all is_calm name ≡ true
  pub some : nat_lt 0 (length name) ≡ true
  pub known : kind_named name ≡ Some named

known_text : (name rest : List ℕ) (named : Kind) → IsKnown name named → body_meaning (name ++ 32 ∷ rest) ≡ kind_meaning named (32 ∷ rest)
known_text name rest named is = named_text name rest named is.solid (grind (arith, nat_tests, is.some)) is.known

pub branch_known : (op : Cmp) → IsKnown (branch_name op) (kind.Branch op)
unfolding kind_named atomic_named halves
branch_known Beq = record { solid = refl; calm = refl; some = refl; known = refl }
branch_known Bne = record { solid = refl; calm = refl; some = refl; known = refl }
branch_known Blt = record { solid = refl; calm = refl; some = refl; known = refl }
branch_known Bge = record { solid = refl; calm = refl; some = refl; known = refl }
branch_known Bltu = record { solid = refl; calm = refl; some = refl; known = refl }
branch_known Bgeu = record { solid = refl; calm = refl; some = refl; known = refl }

pub load_known : (op : LoadKind) → IsKnown (load_name op) (kind.Load op)
unfolding kind_named atomic_named halves
load_known Lb = record { solid = refl; calm = refl; some = refl; known = refl }
load_known Lh = record { solid = refl; calm = refl; some = refl; known = refl }
load_known Lw = record { solid = refl; calm = refl; some = refl; known = refl }
load_known Ld = record { solid = refl; calm = refl; some = refl; known = refl }
load_known Lbu = record { solid = refl; calm = refl; some = refl; known = refl }
load_known Lhu = record { solid = refl; calm = refl; some = refl; known = refl }
load_known Lwu = record { solid = refl; calm = refl; some = refl; known = refl }

pub store_known : (op : Width) → IsKnown (store_name op) (kind.Store op)
unfolding kind_named atomic_named halves
store_known width.One = record { solid = refl; calm = refl; some = refl; known = refl }
store_known width.Two = record { solid = refl; calm = refl; some = refl; known = refl }
store_known width.Four = record { solid = refl; calm = refl; some = refl; known = refl }
store_known width.Eight = record { solid = refl; calm = refl; some = refl; known = refl }

pub immediate_known : (op : ImmOp) → IsKnown (imm_name op) (kind.Immediate op)
unfolding kind_named atomic_named halves
immediate_known Addi = record { solid = refl; calm = refl; some = refl; known = refl }
immediate_known Slti = record { solid = refl; calm = refl; some = refl; known = refl }
immediate_known Sltiu = record { solid = refl; calm = refl; some = refl; known = refl }
immediate_known Xori = record { solid = refl; calm = refl; some = refl; known = refl }
immediate_known Ori = record { solid = refl; calm = refl; some = refl; known = refl }
immediate_known Andi = record { solid = refl; calm = refl; some = refl; known = refl }
immediate_known Slli = record { solid = refl; calm = refl; some = refl; known = refl }
immediate_known Srli = record { solid = refl; calm = refl; some = refl; known = refl }
immediate_known Srai = record { solid = refl; calm = refl; some = refl; known = refl }
immediate_known Addiw = record { solid = refl; calm = refl; some = refl; known = refl }
immediate_known Slliw = record { solid = refl; calm = refl; some = refl; known = refl }
immediate_known Srliw = record { solid = refl; calm = refl; some = refl; known = refl }
immediate_known Sraiw = record { solid = refl; calm = refl; some = refl; known = refl }

pub operation_known : (op : AluOp) → IsKnown (alu_name op) (kind.Operation op)
unfolding kind_named atomic_named halves
operation_known Add = record { solid = refl; calm = refl; some = refl; known = refl }
operation_known Sub = record { solid = refl; calm = refl; some = refl; known = refl }
operation_known Sll = record { solid = refl; calm = refl; some = refl; known = refl }
operation_known Slt = record { solid = refl; calm = refl; some = refl; known = refl }
operation_known Sltu = record { solid = refl; calm = refl; some = refl; known = refl }
operation_known Xor = record { solid = refl; calm = refl; some = refl; known = refl }
operation_known Srl = record { solid = refl; calm = refl; some = refl; known = refl }
operation_known Sra = record { solid = refl; calm = refl; some = refl; known = refl }
operation_known Or = record { solid = refl; calm = refl; some = refl; known = refl }
operation_known And = record { solid = refl; calm = refl; some = refl; known = refl }
operation_known Mul = record { solid = refl; calm = refl; some = refl; known = refl }
operation_known Mulh = record { solid = refl; calm = refl; some = refl; known = refl }
operation_known Mulhsu = record { solid = refl; calm = refl; some = refl; known = refl }
operation_known Mulhu = record { solid = refl; calm = refl; some = refl; known = refl }
operation_known Div = record { solid = refl; calm = refl; some = refl; known = refl }
operation_known Divu = record { solid = refl; calm = refl; some = refl; known = refl }
operation_known Rem = record { solid = refl; calm = refl; some = refl; known = refl }
operation_known Remu = record { solid = refl; calm = refl; some = refl; known = refl }
operation_known Addw = record { solid = refl; calm = refl; some = refl; known = refl }
operation_known Subw = record { solid = refl; calm = refl; some = refl; known = refl }
operation_known Sllw = record { solid = refl; calm = refl; some = refl; known = refl }
operation_known Srlw = record { solid = refl; calm = refl; some = refl; known = refl }
operation_known Sraw = record { solid = refl; calm = refl; some = refl; known = refl }
operation_known Mulw = record { solid = refl; calm = refl; some = refl; known = refl }
operation_known Divw = record { solid = refl; calm = refl; some = refl; known = refl }
operation_known Divuw = record { solid = refl; calm = refl; some = refl; known = refl }
operation_known Remw = record { solid = refl; calm = refl; some = refl; known = refl }
operation_known Remuw = record { solid = refl; calm = refl; some = refl; known = refl }

-- the names of atomic operations
abbrev pub atomic_text : Atomic → List ℕ
atomic_text atomic.LoadReserved = codes "lr"
atomic_text atomic.StoreConditional = codes "sc"
atomic_text (atomic.Amo op) = amo_name op

abbrev pub atomic_word : Atomic → Bool → ℕ → List ℕ
atomic_word op wide order = (atomic_text op ++ width_suffix wide) ++ order_suffix order

pub atomic_known : (op : Atomic) (wide : Bool) (order : ℕ) → order < 4 → IsKnown (atomic_word op wide order) (kind.Atomic op wide order)
unfolding kind_named atomic_named halves
atomic_known atomic.LoadReserved true zero small = record { solid = refl; calm = refl; some = refl; known = refl }
atomic_known atomic.LoadReserved true (suc zero) small = record { solid = refl; calm = refl; some = refl; known = refl }
atomic_known atomic.LoadReserved true (suc (suc zero)) small = record { solid = refl; calm = refl; some = refl; known = refl }
atomic_known atomic.LoadReserved true (suc (suc (suc zero))) small = record { solid = refl; calm = refl; some = refl; known = refl }
atomic_known atomic.LoadReserved true (suc (suc (suc (suc order)))) small = absurd (omega arith)
atomic_known atomic.LoadReserved false zero small = record { solid = refl; calm = refl; some = refl; known = refl }
atomic_known atomic.LoadReserved false (suc zero) small = record { solid = refl; calm = refl; some = refl; known = refl }
atomic_known atomic.LoadReserved false (suc (suc zero)) small = record { solid = refl; calm = refl; some = refl; known = refl }
atomic_known atomic.LoadReserved false (suc (suc (suc zero))) small = record { solid = refl; calm = refl; some = refl; known = refl }
atomic_known atomic.LoadReserved false (suc (suc (suc (suc order)))) small = absurd (omega arith)
atomic_known atomic.StoreConditional true zero small = record { solid = refl; calm = refl; some = refl; known = refl }
atomic_known atomic.StoreConditional true (suc zero) small = record { solid = refl; calm = refl; some = refl; known = refl }
atomic_known atomic.StoreConditional true (suc (suc zero)) small = record { solid = refl; calm = refl; some = refl; known = refl }
atomic_known atomic.StoreConditional true (suc (suc (suc zero))) small = record { solid = refl; calm = refl; some = refl; known = refl }
atomic_known atomic.StoreConditional true (suc (suc (suc (suc order)))) small = absurd (omega arith)
atomic_known atomic.StoreConditional false zero small = record { solid = refl; calm = refl; some = refl; known = refl }
atomic_known atomic.StoreConditional false (suc zero) small = record { solid = refl; calm = refl; some = refl; known = refl }
atomic_known atomic.StoreConditional false (suc (suc zero)) small = record { solid = refl; calm = refl; some = refl; known = refl }
atomic_known atomic.StoreConditional false (suc (suc (suc zero))) small = record { solid = refl; calm = refl; some = refl; known = refl }
atomic_known atomic.StoreConditional false (suc (suc (suc (suc order)))) small = absurd (omega arith)
atomic_known (atomic.Amo Amoswap) true zero small = record { solid = refl; calm = refl; some = refl; known = refl }
atomic_known (atomic.Amo Amoswap) true (suc zero) small = record { solid = refl; calm = refl; some = refl; known = refl }
atomic_known (atomic.Amo Amoswap) true (suc (suc zero)) small = record { solid = refl; calm = refl; some = refl; known = refl }
atomic_known (atomic.Amo Amoswap) true (suc (suc (suc zero))) small = record { solid = refl; calm = refl; some = refl; known = refl }
atomic_known (atomic.Amo Amoswap) true (suc (suc (suc (suc order)))) small = absurd (omega arith)
atomic_known (atomic.Amo Amoswap) false zero small = record { solid = refl; calm = refl; some = refl; known = refl }
atomic_known (atomic.Amo Amoswap) false (suc zero) small = record { solid = refl; calm = refl; some = refl; known = refl }
atomic_known (atomic.Amo Amoswap) false (suc (suc zero)) small = record { solid = refl; calm = refl; some = refl; known = refl }
atomic_known (atomic.Amo Amoswap) false (suc (suc (suc zero))) small = record { solid = refl; calm = refl; some = refl; known = refl }
atomic_known (atomic.Amo Amoswap) false (suc (suc (suc (suc order)))) small = absurd (omega arith)
atomic_known (atomic.Amo Amoadd) true zero small = record { solid = refl; calm = refl; some = refl; known = refl }
atomic_known (atomic.Amo Amoadd) true (suc zero) small = record { solid = refl; calm = refl; some = refl; known = refl }
atomic_known (atomic.Amo Amoadd) true (suc (suc zero)) small = record { solid = refl; calm = refl; some = refl; known = refl }
atomic_known (atomic.Amo Amoadd) true (suc (suc (suc zero))) small = record { solid = refl; calm = refl; some = refl; known = refl }
atomic_known (atomic.Amo Amoadd) true (suc (suc (suc (suc order)))) small = absurd (omega arith)
atomic_known (atomic.Amo Amoadd) false zero small = record { solid = refl; calm = refl; some = refl; known = refl }
atomic_known (atomic.Amo Amoadd) false (suc zero) small = record { solid = refl; calm = refl; some = refl; known = refl }
atomic_known (atomic.Amo Amoadd) false (suc (suc zero)) small = record { solid = refl; calm = refl; some = refl; known = refl }
atomic_known (atomic.Amo Amoadd) false (suc (suc (suc zero))) small = record { solid = refl; calm = refl; some = refl; known = refl }
atomic_known (atomic.Amo Amoadd) false (suc (suc (suc (suc order)))) small = absurd (omega arith)
atomic_known (atomic.Amo Amoxor) true zero small = record { solid = refl; calm = refl; some = refl; known = refl }
atomic_known (atomic.Amo Amoxor) true (suc zero) small = record { solid = refl; calm = refl; some = refl; known = refl }
atomic_known (atomic.Amo Amoxor) true (suc (suc zero)) small = record { solid = refl; calm = refl; some = refl; known = refl }
atomic_known (atomic.Amo Amoxor) true (suc (suc (suc zero))) small = record { solid = refl; calm = refl; some = refl; known = refl }
atomic_known (atomic.Amo Amoxor) true (suc (suc (suc (suc order)))) small = absurd (omega arith)
atomic_known (atomic.Amo Amoxor) false zero small = record { solid = refl; calm = refl; some = refl; known = refl }
atomic_known (atomic.Amo Amoxor) false (suc zero) small = record { solid = refl; calm = refl; some = refl; known = refl }
atomic_known (atomic.Amo Amoxor) false (suc (suc zero)) small = record { solid = refl; calm = refl; some = refl; known = refl }
atomic_known (atomic.Amo Amoxor) false (suc (suc (suc zero))) small = record { solid = refl; calm = refl; some = refl; known = refl }
atomic_known (atomic.Amo Amoxor) false (suc (suc (suc (suc order)))) small = absurd (omega arith)
atomic_known (atomic.Amo Amoand) true zero small = record { solid = refl; calm = refl; some = refl; known = refl }
atomic_known (atomic.Amo Amoand) true (suc zero) small = record { solid = refl; calm = refl; some = refl; known = refl }
atomic_known (atomic.Amo Amoand) true (suc (suc zero)) small = record { solid = refl; calm = refl; some = refl; known = refl }
atomic_known (atomic.Amo Amoand) true (suc (suc (suc zero))) small = record { solid = refl; calm = refl; some = refl; known = refl }
atomic_known (atomic.Amo Amoand) true (suc (suc (suc (suc order)))) small = absurd (omega arith)
atomic_known (atomic.Amo Amoand) false zero small = record { solid = refl; calm = refl; some = refl; known = refl }
atomic_known (atomic.Amo Amoand) false (suc zero) small = record { solid = refl; calm = refl; some = refl; known = refl }
atomic_known (atomic.Amo Amoand) false (suc (suc zero)) small = record { solid = refl; calm = refl; some = refl; known = refl }
atomic_known (atomic.Amo Amoand) false (suc (suc (suc zero))) small = record { solid = refl; calm = refl; some = refl; known = refl }
atomic_known (atomic.Amo Amoand) false (suc (suc (suc (suc order)))) small = absurd (omega arith)
atomic_known (atomic.Amo Amoor) true zero small = record { solid = refl; calm = refl; some = refl; known = refl }
atomic_known (atomic.Amo Amoor) true (suc zero) small = record { solid = refl; calm = refl; some = refl; known = refl }
atomic_known (atomic.Amo Amoor) true (suc (suc zero)) small = record { solid = refl; calm = refl; some = refl; known = refl }
atomic_known (atomic.Amo Amoor) true (suc (suc (suc zero))) small = record { solid = refl; calm = refl; some = refl; known = refl }
atomic_known (atomic.Amo Amoor) true (suc (suc (suc (suc order)))) small = absurd (omega arith)
atomic_known (atomic.Amo Amoor) false zero small = record { solid = refl; calm = refl; some = refl; known = refl }
atomic_known (atomic.Amo Amoor) false (suc zero) small = record { solid = refl; calm = refl; some = refl; known = refl }
atomic_known (atomic.Amo Amoor) false (suc (suc zero)) small = record { solid = refl; calm = refl; some = refl; known = refl }
atomic_known (atomic.Amo Amoor) false (suc (suc (suc zero))) small = record { solid = refl; calm = refl; some = refl; known = refl }
atomic_known (atomic.Amo Amoor) false (suc (suc (suc (suc order)))) small = absurd (omega arith)
atomic_known (atomic.Amo Amomin) true zero small = record { solid = refl; calm = refl; some = refl; known = refl }
atomic_known (atomic.Amo Amomin) true (suc zero) small = record { solid = refl; calm = refl; some = refl; known = refl }
atomic_known (atomic.Amo Amomin) true (suc (suc zero)) small = record { solid = refl; calm = refl; some = refl; known = refl }
atomic_known (atomic.Amo Amomin) true (suc (suc (suc zero))) small = record { solid = refl; calm = refl; some = refl; known = refl }
atomic_known (atomic.Amo Amomin) true (suc (suc (suc (suc order)))) small = absurd (omega arith)
atomic_known (atomic.Amo Amomin) false zero small = record { solid = refl; calm = refl; some = refl; known = refl }
atomic_known (atomic.Amo Amomin) false (suc zero) small = record { solid = refl; calm = refl; some = refl; known = refl }
atomic_known (atomic.Amo Amomin) false (suc (suc zero)) small = record { solid = refl; calm = refl; some = refl; known = refl }
atomic_known (atomic.Amo Amomin) false (suc (suc (suc zero))) small = record { solid = refl; calm = refl; some = refl; known = refl }
atomic_known (atomic.Amo Amomin) false (suc (suc (suc (suc order)))) small = absurd (omega arith)
atomic_known (atomic.Amo Amomax) true zero small = record { solid = refl; calm = refl; some = refl; known = refl }
atomic_known (atomic.Amo Amomax) true (suc zero) small = record { solid = refl; calm = refl; some = refl; known = refl }
atomic_known (atomic.Amo Amomax) true (suc (suc zero)) small = record { solid = refl; calm = refl; some = refl; known = refl }
atomic_known (atomic.Amo Amomax) true (suc (suc (suc zero))) small = record { solid = refl; calm = refl; some = refl; known = refl }
atomic_known (atomic.Amo Amomax) true (suc (suc (suc (suc order)))) small = absurd (omega arith)
atomic_known (atomic.Amo Amomax) false zero small = record { solid = refl; calm = refl; some = refl; known = refl }
atomic_known (atomic.Amo Amomax) false (suc zero) small = record { solid = refl; calm = refl; some = refl; known = refl }
atomic_known (atomic.Amo Amomax) false (suc (suc zero)) small = record { solid = refl; calm = refl; some = refl; known = refl }
atomic_known (atomic.Amo Amomax) false (suc (suc (suc zero))) small = record { solid = refl; calm = refl; some = refl; known = refl }
atomic_known (atomic.Amo Amomax) false (suc (suc (suc (suc order)))) small = absurd (omega arith)
atomic_known (atomic.Amo Amominu) true zero small = record { solid = refl; calm = refl; some = refl; known = refl }
atomic_known (atomic.Amo Amominu) true (suc zero) small = record { solid = refl; calm = refl; some = refl; known = refl }
atomic_known (atomic.Amo Amominu) true (suc (suc zero)) small = record { solid = refl; calm = refl; some = refl; known = refl }
atomic_known (atomic.Amo Amominu) true (suc (suc (suc zero))) small = record { solid = refl; calm = refl; some = refl; known = refl }
atomic_known (atomic.Amo Amominu) true (suc (suc (suc (suc order)))) small = absurd (omega arith)
atomic_known (atomic.Amo Amominu) false zero small = record { solid = refl; calm = refl; some = refl; known = refl }
atomic_known (atomic.Amo Amominu) false (suc zero) small = record { solid = refl; calm = refl; some = refl; known = refl }
atomic_known (atomic.Amo Amominu) false (suc (suc zero)) small = record { solid = refl; calm = refl; some = refl; known = refl }
atomic_known (atomic.Amo Amominu) false (suc (suc (suc zero))) small = record { solid = refl; calm = refl; some = refl; known = refl }
atomic_known (atomic.Amo Amominu) false (suc (suc (suc (suc order)))) small = absurd (omega arith)
atomic_known (atomic.Amo Amomaxu) true zero small = record { solid = refl; calm = refl; some = refl; known = refl }
atomic_known (atomic.Amo Amomaxu) true (suc zero) small = record { solid = refl; calm = refl; some = refl; known = refl }
atomic_known (atomic.Amo Amomaxu) true (suc (suc zero)) small = record { solid = refl; calm = refl; some = refl; known = refl }
atomic_known (atomic.Amo Amomaxu) true (suc (suc (suc zero))) small = record { solid = refl; calm = refl; some = refl; known = refl }
atomic_known (atomic.Amo Amomaxu) true (suc (suc (suc (suc order)))) small = absurd (omega arith)
atomic_known (atomic.Amo Amomaxu) false zero small = record { solid = refl; calm = refl; some = refl; known = refl }
atomic_known (atomic.Amo Amomaxu) false (suc zero) small = record { solid = refl; calm = refl; some = refl; known = refl }
atomic_known (atomic.Amo Amomaxu) false (suc (suc zero)) small = record { solid = refl; calm = refl; some = refl; known = refl }
atomic_known (atomic.Amo Amomaxu) false (suc (suc (suc zero))) small = record { solid = refl; calm = refl; some = refl; known = refl }
atomic_known (atomic.Amo Amomaxu) false (suc (suc (suc (suc order)))) small = absurd (omega arith)

-- the text of an atomic operation is its name, a blank and more
pub atomic_spelled : (op : Atomic) (wide : Bool) (order : ℕ) (rest : List ℕ) → atomic_text op ++ (width_suffix wide ++ (order_suffix order ++ rest)) ≡ atomic_word op wide order ++ rest
atomic_spelled op wide order rest =
    sym (append_assoc (atomic_text op ++ width_suffix wide) (order_suffix order) rest ∙ append_assoc (atomic_text op) (width_suffix wide) (order_suffix order ++ rest))

atomic_statement : (op : Atomic) (wide : Bool) (order : ℕ) (operands : List (List ℕ)) → order < 4
    → body_meaning (atomic_text op ++ (width_suffix wide ++ statement (order_suffix order) operands)) ≡ kind_meaning (kind.Atomic op wide order) (32 ∷ joined operands)
atomic_statement op wide order operands small =
    ap body_meaning (atomic_spelled op wide order (32 ∷ joined operands))
    ∙ known_text (atomic_word op wide order) (joined operands) (kind.Atomic op wide order) (atomic_known op wide order small)

pub short_size : (z : ℤ) (half step : ℕ) → half < 2 ^ 62 → IsImmediate half step z → size_below (2 ^ 63) z
short_size (pos n) half step small h = omega (arith, ints, h.most)
short_size (negsuc n) half step small h = omega (arith, ints, h.least)

amount_size : (z : ℤ) (limit : ℕ) → limit < 2 ^ 62 → IsAmount limit z → size_below (2 ^ 63) z
amount_size (pos n) limit small h = omega (arith, ints, h.most)
amount_size (negsuc n) limit small h = absurd (omega (arith, ints, h.least))

pub operand_size : (op : ImmOp) (z : ℤ) → IsOperand op z → size_below (2 ^ 63) z
operand_size Addi z h = short_size z (2 ^ 11) 1 (omega arith) h
operand_size Slti z h = short_size z (2 ^ 11) 1 (omega arith) h
operand_size Sltiu z h = short_size z (2 ^ 11) 1 (omega arith) h
operand_size Xori z h = short_size z (2 ^ 11) 1 (omega arith) h
operand_size Ori z h = short_size z (2 ^ 11) 1 (omega arith) h
operand_size Andi z h = short_size z (2 ^ 11) 1 (omega arith) h
operand_size Slli z h = amount_size z 64 (omega arith) h
operand_size Srli z h = amount_size z 64 (omega arith) h
operand_size Srai z h = amount_size z 64 (omega arith) h
operand_size Addiw z h = short_size z (2 ^ 11) 1 (omega arith) h
operand_size Slliw z h = amount_size z 32 (omega arith) h
operand_size Srliw z h = amount_size z 32 (omega arith) h
operand_size Sraiw z h = amount_size z 32 (omega arith) h

immediate_text : (op : ImmOp) (rd rs1 : ℕ) (imm : ℤ) → rd < 32 → rs1 < 32 → size_below (2 ^ 63) imm
    → immediate op (32 ∷ (register_text rd ++ 44 ∷ (32 ∷ (register_text rs1 ++ 44 ∷ (32 ∷ signed_decimal imm))))) ≡ Ok (One (OpImm op rd rs1 imm))
unfolding immediate two_and_number register_and_number
immediate_text op rd rs1 imm a b c =
    rw (first rd (32 ∷ (register_text rs1 ++ 44 ∷ (32 ∷ signed_decimal imm))) a, first rs1 (32 ∷ signed_decimal imm) b, number_is imm c, signed_is imm c)

operation_text : (op : AluOp) (rd rs1 rs2 : ℕ) → rd < 32 → rs1 < 32 → rs2 < 32
    → operation op (32 ∷ (register_text rd ++ 44 ∷ (32 ∷ (register_text rs1 ++ 44 ∷ (32 ∷ register_text rs2))))) ≡ Ok (One (Op op rd rs1 rs2))
unfolding operation three_registers two_registers
operation_text op rd rs1 rs2 a b c =
    rw (first rd (32 ∷ (register_text rs1 ++ 44 ∷ (32 ∷ register_text rs2))) a, first rs1 (32 ∷ register_text rs2) b, (is_register rs2 c).read)

branch_text : (cmp : Cmp) (rs1 rs2 : ℕ) (imm : ℤ) → rs1 < 32 → rs2 < 32 → size_below (2 ^ 63) imm
    → branch cmp (32 ∷ (register_text rs1 ++ 44 ∷ (32 ∷ (register_text rs2 ++ 44 ∷ (32 ∷ signed_decimal imm))))) ≡ Ok (One (Branch cmp rs1 rs2 imm))
unfolding branch branch_to two_and_target register_and_target
branch_text cmp rs1 rs2 imm a b c =
    rw (first rs1 (32 ∷ (register_text rs2 ++ 44 ∷ (32 ∷ signed_decimal imm))) a, first rs2 (32 ∷ signed_decimal imm) b, target_is imm c, signed_is imm c)

load_text : (loads : LoadKind) (rd rs1 : ℕ) (imm : ℤ) → rd < 32 → rs1 < 32 → size_below (2 ^ 63) imm
    → load loads (32 ∷ (register_text rd ++ 44 ∷ (32 ∷ (signed_decimal imm ++ 40 ∷ (register_text rs1 ++ codes ")"))))) ≡ Ok (One (Load loads rd rs1 imm))
unfolding load register_and_memory
load_text loads rd rs1 imm a b c =
    rw (first rd (32 ∷ (signed_decimal imm ++ 40 ∷ (register_text rs1 ++ codes ")"))) a, memory_is imm rs1 c b, signed_is imm c)

store_text : (width : Width) (rs1 rs2 : ℕ) (imm : ℤ) → rs1 < 32 → rs2 < 32 → size_below (2 ^ 63) imm
    → store width (32 ∷ (register_text rs2 ++ 44 ∷ (32 ∷ (signed_decimal imm ++ 40 ∷ (register_text rs1 ++ codes ")"))))) ≡ Ok (One (Store width rs1 rs2 imm))
unfolding store register_and_memory
store_text width rs1 rs2 imm a b c =
    rw (first rs2 (32 ∷ (signed_decimal imm ++ 40 ∷ (register_text rs1 ++ codes ")"))) b, memory_is imm rs1 c a, signed_is imm c)

jalr_text : (rd rs1 : ℕ) (imm : ℤ) → rd < 32 → rs1 < 32 → size_below (2 ^ 63) imm
    → jalr (32 ∷ (register_text rd ++ 44 ∷ (32 ∷ (signed_decimal imm ++ 40 ∷ (register_text rs1 ++ codes ")"))))) ≡ Ok (One (Jalr rd rs1 imm))
unfolding jalr register_and_memory
jalr_text rd rs1 imm a b c =
    rw (first rd (32 ∷ (signed_decimal imm ++ 40 ∷ (register_text rs1 ++ codes ")"))) a, memory_is imm rs1 c b, signed_is imm c)

jal_text : (rd : ℕ) (imm : ℤ) → rd < 32 → size_below (2 ^ 63) imm → jal (32 ∷ (register_text rd ++ 44 ∷ (32 ∷ signed_decimal imm))) ≡ Ok (One (Jal rd imm))
unfolding jal jump_to register_and_target
jal_text rd imm a c = rw (first rd (32 ∷ signed_decimal imm) a, target_is imm c, signed_is imm c)

fence_text : (code : Bool) (rd rs1 : ℕ) (imm : ℤ) → rd < 32 → rs1 < 32 → size_below (2 ^ 63) imm
    → fence code (32 ∷ (register_text rd ++ 44 ∷ (32 ∷ (register_text rs1 ++ 44 ∷ (32 ∷ signed_decimal imm))))) ≡ Ok (One (Fence code rd rs1 imm))
unfolding fence two_and_number register_and_number
fence_text code rd rs1 imm a b c =
    rw (first rd (32 ∷ (register_text rs1 ++ 44 ∷ (32 ∷ signed_decimal imm))) a, first rs1 (32 ∷ signed_decimal imm) b, number_is imm c, signed_is imm c)

reserved_text : (wide : Bool) (order rd rs1 : ℕ) → rd < 32 → rs1 < 32
    → load_reserved wide order (32 ∷ (register_text rd ++ 44 ∷ (32 ∷ address_text rs1))) ≡ Ok (One (LoadReserved wide order rd rs1))
unfolding load_reserved register_and_address
reserved_text wide order rd rs1 a b = rw (first rd (32 ∷ address_text rs1) a, (is_register rs1 b).addressed)

storing_text : (op : Atomic) (wide : Bool) (order rd rs1 rs2 : ℕ) → rd < 32 → rs1 < 32 → rs2 < 32
    → atomic_storing op wide order (32 ∷ (register_text rd ++ 44 ∷ (32 ∷ (register_text rs2 ++ 44 ∷ (32 ∷ address_text rs1))))) ≡ Ok (One (storing op wide order rd rs2 rs1))
unfolding atomic_storing two_and_address register_and_address
storing_text op wide order rd rs1 rs2 a b c =
    rw (first rd (32 ∷ (register_text rs2 ++ 44 ∷ (32 ∷ address_text rs1))) a, first rs2 (32 ∷ address_text rs1) c, (is_register rs1 b).addressed)

record IsUpper (z : ℤ) (size : ℕ) : Type 0 where
  small : size < 2 ^ 20
  value : reading (2 ^ 31) (size * 4096) ≡ z

upper_pos : (n size : ℕ) → n < 2 ^ 31 → n % 4096 ≡ 0 → size ≡ n / 2 ^ 12 % 2 ^ 20 → IsUpper (pos n) size
upper_pos n size small multiple is =
    let times : size * 4096 ≡ n = omega arith in
    let low : nat_lt n (2 ^ 31) ≡ true = grind (arith, nat_tests) in
    record { small = omega arith; value = rw (times, low) }

reading_high : (n half : ℕ) (z : ℤ) → nat_lt n half ≡ false → pos n -ℤ pos (2 * half) ≡ z → reading half n ≡ z
reading_high n half z high is = rw high is

upper_neg : (n size : ℕ) → suc n ≤ 2 ^ 31 → suc n % 4096 ≡ 0 → size ≡ (2 ^ 64 - suc n) / 2 ^ 12 % 2 ^ 20 → IsUpper (negsuc n) size
upper_neg n size small multiple is =
    let back : pos (2 ^ 32 - suc n) -ℤ pos (2 ^ 32) ≡ negsuc n = omega (arith, ints) in
    let times : size * 4096 ≡ 2 ^ 32 - suc n = omega arith in
    let high : nat_lt (2 ^ 32 - suc n) (2 ^ 31) ≡ false = grind (arith, nat_tests) in
    record { small = omega arith; value = ap (reading (2 ^ 31)) times ∙ reading_high (2 ^ 32 - suc n) (2 ^ 31) (negsuc n) high back }

upper_of : (z : ℤ) → IsImmediate (2 ^ 31) (2 ^ 12) z → IsUpper z (bits (cast_unsigned w64 z) 31 12)
upper_of (pos n) h = upper_pos n (bits (cast_unsigned w64 (pos n)) 31 12) (omega (arith, ints, h.most)) h.multiple (omega (arith, ints, h.most))
upper_of (negsuc n) h = upper_neg n (bits (cast_unsigned w64 (negsuc n)) 31 12) (omega (arith, ints, h.least)) h.multiple (omega (arith, ints, h.least))

upper_is : (z : ℤ) (size : ℕ) → IsUpper z size → upper (record { negative = false; magnitude = Some size }) ≡ Some z
unfolding upper natural
upper_is z size h = let fits : nat_lt size (2 ^ 20) ≡ true = grind (arith, nat_tests, h.small) in rw (fits, h.value)

lui_text : (rd : ℕ) (imm : ℤ) → rd < 32 → IsImmediate (2 ^ 31) (2 ^ 12) imm → lui (32 ∷ (register_text rd ++ 44 ∷ (32 ∷ upper_text imm))) ≡ Ok (One (Lui rd imm))
unfolding lui register_and_number
lui_text rd imm a c =
    let is = upper_of imm c in
    let size : ℕ = bits (cast_unsigned w64 imm) 31 12 in
    let fits : size_below (2 ^ 63) (pos size) = omega (arith, is.small) in
    rw (first rd (32 ∷ decimal size) a, number_is (pos size) fits, upper_is imm size is)

auipc_text : (rd : ℕ) (imm : ℤ) → rd < 32 → IsImmediate (2 ^ 31) (2 ^ 12) imm → auipc (32 ∷ (register_text rd ++ 44 ∷ (32 ∷ upper_text imm))) ≡ Ok (One (Auipc rd imm))
unfolding auipc register_and_number
auipc_text rd imm a c =
    let is = upper_of imm c in
    let size : ℕ = bits (cast_unsigned w64 imm) 31 12 in
    let fits : size_below (2 ^ 63) (pos size) = omega (arith, is.small) in
    rw (first rd (32 ∷ decimal size) a, number_is (pos size) fits, upper_is imm size is)

pub lui_known : IsKnown (codes "lui") kind.Lui
unfolding kind_named
lui_known = record { solid = refl; calm = refl; some = refl; known = refl }

pub auipc_known : IsKnown (codes "auipc") kind.Auipc
unfolding kind_named
auipc_known = record { solid = refl; calm = refl; some = refl; known = refl }

pub jal_known : IsKnown (codes "jal") kind.Jal
unfolding kind_named
jal_known = record { solid = refl; calm = refl; some = refl; known = refl }

pub jalr_known : IsKnown (codes "jalr") kind.Jalr
unfolding kind_named
jalr_known = record { solid = refl; calm = refl; some = refl; known = refl }

pub fence_known : IsKnown (codes "fence") (kind.Fence false)
unfolding kind_named
fence_known = record { solid = refl; calm = refl; some = refl; known = refl }

pub code_fence_known : IsKnown (codes "fence.i") (kind.Fence true)
unfolding kind_named
code_fence_known = record { solid = refl; calm = refl; some = refl; known = refl }

closed_ecall : body_meaning (codes "ecall") ≡ Ok (One Ecall)
unfolding body_meaning kind_meaning kind_named alone first_word behind_word without_front before_blank from_blank
closed_ecall = refl

closed_ebreak : body_meaning (codes "ebreak") ≡ Ok (One Ebreak)
unfolding body_meaning kind_meaning kind_named alone first_word behind_word without_front before_blank from_blank
closed_ebreak = refl

-- the text of an instruction means it
pub printed_meaning : (instr : Instr) → InRange instr → body_meaning (instruction_text instr) ≡ Ok (One instr)
unfolding kind_meaning atomic_of
printed_meaning (Lui rd imm) h = known_text (codes "lui") (joined (register_text rd ∷ upper_text imm ∷ [])) kind.Lui lui_known ∙ lui_text rd imm h.0 h.1
printed_meaning (Auipc rd imm) h = known_text (codes "auipc") (joined (register_text rd ∷ upper_text imm ∷ [])) kind.Auipc auipc_known ∙ auipc_text rd imm h.0 h.1
printed_meaning (Jal rd imm) h = known_text (codes "jal") (joined (register_text rd ∷ signed_decimal imm ∷ [])) kind.Jal jal_known ∙ jal_text rd imm h.0 (short_size imm (2 ^ 20) 2 (omega arith) h.1)
printed_meaning (Jalr rd rs1 imm) h = known_text (codes "jalr") (joined (register_text rd ∷ address_with_offset imm rs1 ∷ [])) kind.Jalr jalr_known ∙ jalr_text rd rs1 imm h.0 h.1 (short_size imm (2 ^ 11) 1 (omega arith) h.2)
printed_meaning (Branch cmp rs1 rs2 imm) h =
    known_text (branch_name cmp) (joined (register_text rs1 ∷ register_text rs2 ∷ signed_decimal imm ∷ [])) (kind.Branch cmp) (branch_known cmp) ∙ branch_text cmp rs1 rs2 imm h.0 h.1 (short_size imm (2 ^ 12) 2 (omega arith) h.2)
printed_meaning (Load loads rd rs1 imm) h =
    known_text (load_name loads) (joined (register_text rd ∷ address_with_offset imm rs1 ∷ [])) (kind.Load loads) (load_known loads) ∙ load_text loads rd rs1 imm h.0 h.1 (short_size imm (2 ^ 11) 1 (omega arith) h.2)
printed_meaning (Store width rs1 rs2 imm) h =
    known_text (store_name width) (joined (register_text rs2 ∷ address_with_offset imm rs1 ∷ [])) (kind.Store width) (store_known width) ∙ store_text width rs1 rs2 imm h.0 h.1 (short_size imm (2 ^ 11) 1 (omega arith) h.2)
printed_meaning (OpImm op rd rs1 imm) h =
    known_text (imm_name op) (joined (register_text rd ∷ register_text rs1 ∷ signed_decimal imm ∷ [])) (kind.Immediate op) (immediate_known op) ∙ immediate_text op rd rs1 imm h.0 h.1 (operand_size op imm h.2)
printed_meaning (Op op rd rs1 rs2) h =
    known_text (alu_name op) (joined (register_text rd ∷ register_text rs1 ∷ register_text rs2 ∷ [])) (kind.Operation op) (operation_known op) ∙ operation_text op rd rs1 rs2 h.0 h.1 h.2
printed_meaning (LoadReserved wide order rd rs1) h =
    atomic_statement atomic.LoadReserved wide order (register_text rd ∷ address_text rs1 ∷ []) h.0 ∙ reserved_text wide order rd rs1 h.1 h.2
printed_meaning (StoreConditional wide order rd rs1 rs2) h =
    atomic_statement atomic.StoreConditional wide order (register_text rd ∷ register_text rs2 ∷ address_text rs1 ∷ []) h.0 ∙ storing_text atomic.StoreConditional wide order rd rs1 rs2 h.1 h.2 h.3
printed_meaning (Amo op wide order rd rs1 rs2) h =
    atomic_statement (atomic.Amo op) wide order (register_text rd ∷ register_text rs2 ∷ address_text rs1 ∷ []) h.0 ∙ storing_text (atomic.Amo op) wide order rd rs1 rs2 h.1 h.2 h.3
printed_meaning (Fence true rd rs1 imm) h =
    known_text (codes "fence.i") (joined (register_text rd ∷ register_text rs1 ∷ signed_decimal imm ∷ [])) (kind.Fence true) code_fence_known ∙ fence_text true rd rs1 imm h.0 h.1 (short_size imm (2 ^ 11) 1 (omega arith) h.2)
printed_meaning (Fence false rd rs1 imm) h =
    known_text (codes "fence") (joined (register_text rd ∷ register_text rs1 ∷ signed_decimal imm ∷ [])) (kind.Fence false) fence_known ∙ fence_text false rd rs1 imm h.0 h.1 (short_size imm (2 ^ 11) 1 (omega arith) h.2)
printed_meaning Ecall h = closed_ecall
printed_meaning Ebreak h = closed_ebreak
