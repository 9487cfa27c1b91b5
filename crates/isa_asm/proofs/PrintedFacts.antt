-- The text of an instruction is a source of one statement.
use Rattle.std.proofs.Common.{◌≡◌, ℕ, ◌+◌, ◌/◌, ◌%◌, ◌^◌, ◌<◌, ◌==◌, ◌&&◌, Bool, true, false, cond, List, [], ◌∷◌, ◌++◌, nat_lt, ℤ, pos, None, Some, Ok, refl, sym, ap, ◌∙◌, append_assoc, arith}
use Rattle.std.specs.Prelude.{codes, not}
use Rattle.std.specs.Fmt.{digits, signed_decimal}
use Rattle.std.specs.Int.{w32, w64, cast_unsigned, to_le_bytes}
use Rattle.std.specs.List.{list_all}
use Rattle.std.proofs.lemmas.Bool.Decides.{nat_tests}
use Rattle.std.proofs.lemmas.List.{append-nil}
use Rattle.std.proofs.lemmas.List.Folds.{list_all-append}
use Rattle.isa_decode.specs.Fields.{bits}
use Rattle.isa_decode.specs.Listing.{IsWord, decoding}
use Rattle.isa_decode.specs.Ranges.{InRange}
use Rattle.isa_decode.specs.declared.instruction.Instr.{Instr}
use Rattle.isa_decode.specs.declared.instruction.Instr.TheVariants.{Lui, Auipc, Jal, Jalr, Branch, Load, Store, OpImm, Op, LoadReserved, StoreConditional, Amo, Fence, Ecall, Ebreak}
use Rattle.isa_decode.proofs.WordFacts.{decoded_stands, decoded_word}
use Rattle.isa_decode.proofs.RowFacts.{word_decodes}
use Rattle.isa_print.specs.Texts.{address as address_text, address_with_offset, alu_name, branch_name, imm_name, instruction_text, joined, load_name, order_suffix, register as register_text, statement, store_name, upper as upper_text, width_suffix}
use Rattle.isa_asm.specs.declared.kind.Atomic.{Atomic}
use Rattle.isa_asm.specs.declared.kind.Atomic.TheVariants as atomic
use Rattle.isa_asm.specs.declared.kind.Kind.{Kind}
use Rattle.isa_asm.specs.declared.kind.Kind.TheVariants as kind
use Rattle.isa_asm.specs.declared.source.Mode.{Mode}
use Rattle.isa_asm.specs.declared.source.Mode.TheVariants.{Front, Name, Behind, Plain, Quoted, Escaped, Comment}
use Rattle.isa_asm.specs.declared.source.Cut.TheVariants.{Go}
use Rattle.isa_asm.specs.File.{IsAssembled, IsFile, Spells, entry_of, fault_of, file}
use Rattle.isa_asm.specs.Lexing.{begins_name, is_blank, is_of_name}
use Rattle.isa_asm.specs.Places.{Item, Instruction, Byte, checked, end_from, fault_from, items_from, items_of, places_of, spot_from, start, text_base}
use Rattle.isa_asm.specs.Ranges.{in_range}
use Rattle.isa_asm.specs.Source.{Piece, after, after_other, cut_of, is_comment, is_foreign, is_front, part, piece_meaning, pieces, pieces_from}
use Rattle.isa_asm.specs.Statement.{One}
use Rattle.isa_asm.proofs.LawFacts.{IsKnown, all_below, atomic_known, atomic_spelled, atomic_text, atomic_word, auipc_known, branch_known, code_fence_known, fence_known, from_below, immediate_known, is_calm, is_number_byte, is_solid, jal_known, jalr_known, load_known, lui_known, not_true, operand_size, operation_known, printed_meaning, short_size, signed_bytes, size_below, solid_byte, store_known, weaker}
use Rattle.isa_asm.proofs.RangeFacts.{both, joined as both_hold, range_no}

-- a byte that cuts nothing and begins neither a quoted text nor a comment
record IsCalm (byte : ℕ) : Type 0 where
  newline : (byte == 10) ≡ false
  semicolon : (byte == 59) ≡ false
  colon : (byte == 58) ≡ false
  mark : (byte == 34) ≡ false
  hash : (byte == 35) ≡ false
  low : nat_lt 127 byte ≡ false

calm_byte : (byte : ℕ) → is_calm byte ≡ true → IsCalm byte
calm_byte byte h =
    let a = both (not (byte == 10)) (not (byte == 59) && (not (byte == 58) && (not (byte == 34) && (not (byte == 35) && not (nat_lt 127 byte))))) h in
    let b = both (not (byte == 59)) (not (byte == 58) && (not (byte == 34) && (not (byte == 35) && not (nat_lt 127 byte)))) a.1 in
    let c = both (not (byte == 58)) (not (byte == 34) && (not (byte == 35) && not (nat_lt 127 byte))) b.1 in
    let d = both (not (byte == 34)) (not (byte == 35) && not (nat_lt 127 byte)) c.1 in
    let e = both (not (byte == 35)) (not (nat_lt 127 byte)) d.1 in
    record {
      newline = not_true (byte == 10) a.0;
      semicolon = not_true (byte == 59) b.0;
      colon = not_true (byte == 58) c.0;
      mark = not_true (byte == 34) d.0;
      hash = not_true (byte == 35) e.0;
      low = not_true (nat_lt 127 byte) e.1;
    }

-- behind the first byte of a statement, outside quoted texts and comments
abbrev goes_on : Mode → Bool
goes_on Front = false
goes_on Name = true
goes_on Behind = true
goes_on Plain = true
goes_on Quoted = false
goes_on Escaped = false
goes_on Comment = false

record IsStep (mode : Mode) (byte : ℕ) : Type 0 where
  cut : cut_of mode byte ≡ Go
  foreign : is_foreign mode byte ≡ false
  comment : is_comment (after mode byte) ≡ false
  next : goes_on (after mode byte) ≡ true

no_comment : (mode : Mode) → goes_on mode ≡ true → is_comment mode ≡ false
no_comment Front h = refl
no_comment Name h = refl
no_comment Behind h = refl
no_comment Plain h = refl
no_comment Quoted h = refl
no_comment Escaped h = refl
no_comment Comment h = cc

no_front : (mode : Mode) → goes_on mode ≡ true → is_front mode ≡ false
no_front Front h = cc
no_front Name h = refl
no_front Behind h = refl
no_front Plain h = refl
no_front Quoted h = refl
no_front Escaped h = refl
no_front Comment h = refl

other_is_plain : (byte : ℕ) → IsCalm byte → after_other byte ≡ Plain
other_is_plain byte calm = rw (calm.mark, calm.hash) refl

either_goes : (a : Bool) (one other : Mode) → goes_on one ≡ true → goes_on other ≡ true → goes_on (cond a one other) ≡ true
either_goes true one other h k = h
either_goes false one other h k = k

other_goes : (byte : ℕ) → IsCalm byte → goes_on (after_other byte) ≡ true
other_goes byte calm = ap goes_on (other_is_plain byte calm)

step_by : (mode : Mode) (byte : ℕ) → cut_of mode byte ≡ Go → is_foreign mode byte ≡ false → goes_on (after mode byte) ≡ true → IsStep mode byte
step_by mode byte cut foreign next = record { cut = cut; foreign = foreign; comment = no_comment (after mode byte) next; next = next }

no_step : (mode : Mode) (byte : ℕ) → false ≡ true → IsStep mode byte
no_step mode byte h = absurd (cc)

step : (mode : Mode) (byte : ℕ) → goes_on mode ≡ true → IsCalm byte → IsStep mode byte
step Front byte h calm = no_step Front byte h
step Name byte h calm =
    step_by Name byte (rw (calm.newline, calm.semicolon, calm.colon) refl) (rw calm.low refl)
    (either_goes (is_of_name byte) Name (cond (is_blank byte) Behind (after_other byte)) refl (either_goes (is_blank byte) Behind (after_other byte) refl (other_goes byte calm)))
step Behind byte h calm =
    step_by Behind byte (rw (calm.newline, calm.semicolon, calm.colon) refl) (rw calm.low refl) (either_goes (is_blank byte) Behind (after_other byte) refl (other_goes byte calm))
step Plain byte h calm = step_by Plain byte (rw (calm.newline, calm.semicolon) refl) (rw calm.low refl) (other_goes byte calm)
step Quoted byte h calm = no_step Quoted byte h
step Escaped byte h calm = no_step Escaped byte h
step Comment byte h calm = no_step Comment byte h

-- a first byte that is no blank
first_step : (byte : ℕ) → is_blank byte ≡ false → IsCalm byte → IsStep Front byte
first_step byte solid calm =
    step_by Front byte (rw (calm.newline, calm.semicolon) refl) (rw calm.low refl) (rw solid (either_goes (begins_name byte) Name (after_other byte) refl (other_goes byte calm)))

-- a statement in the first line
abbrev lone : List ℕ → Piece
lone text = record { line = 1; is_label = false; foreign = false; text = text }

last_part : (mode : Mode) (text : List ℕ) → goes_on mode ≡ true → part 1 mode false text ≡ lone text ∷ []
last_part mode text h = rw (no_front mode h) refl

rest_is_lone : (mode : Mode) (front text : List ℕ) → goes_on mode ≡ true → list_all is_calm text ≡ true → pieces_from 1 mode false front text ≡ lone (front ++ text) ∷ []
unfolding pieces_from
rest_is_lone mode front [] h all = last_part mode front h ∙ ap (λ (text : List ℕ). lone text ∷ []) (sym (append-nil front))
rest_is_lone mode front (byte ∷ text) h all =
    let parts = both (is_calm byte) (list_all is_calm text) all in
    let here = step mode byte h (calm_byte byte parts.0) in
    rw (here.cut, here.foreign, here.comment)
    (rest_is_lone (after mode byte) (front ++ byte ∷ []) text here.next parts.1 ∙ ap (λ (text : List ℕ). lone text ∷ []) (append_assoc front (byte ∷ []) text))

source_is_lone : (byte : ℕ) (text : List ℕ) → is_blank byte ≡ false → list_all is_calm (byte ∷ text) ≡ true → pieces (byte ∷ text) ≡ lone (byte ∷ text) ∷ []
unfolding pieces pieces_from
source_is_lone byte text solid all =
    let parts = both (is_calm byte) (list_all is_calm text) all in
    let here = first_step byte solid (calm_byte byte parts.0) in
    rw (here.cut, here.foreign, here.comment) (rest_is_lone (after Front byte) (byte ∷ []) text here.next parts.1)

named_is_lone : (name rest : List ℕ) (named : Kind) → IsKnown name named → list_all is_calm rest ≡ true → pieces (name ++ rest) ≡ lone (name ++ rest) ∷ []
named_is_lone [] rest named is calm = let no : false ≡ true = is.some in absurd (cc)
named_is_lone (byte ∷ name) rest named is calm =
    source_is_lone byte (name ++ rest) (solid_byte byte (both (is_solid byte) (list_all is_solid name) is.solid).0)
    (list_all-append is_calm (byte ∷ name) rest ∙ both_hold _ _ is.calm calm)

-- operands
number_byte_calm : (byte : ℕ) → is_number_byte byte ≡ true → is_calm byte ≡ true
unfolding is_number_byte
number_byte_calm byte h =
    let newline : not (byte == 10) ≡ true = grind (arith, nat_tests) in
    let semicolon : not (byte == 59) ≡ true = grind (arith, nat_tests) in
    let colon : not (byte == 58) ≡ true = grind (arith, nat_tests) in
    let mark : not (byte == 34) ≡ true = grind (arith, nat_tests) in
    let hash : not (byte == 35) ≡ true = grind (arith, nat_tests) in
    let low : not (nat_lt 127 byte) ≡ true = grind (arith, nat_tests) in
    both_hold (not (byte == 10)) (not (byte == 59) && (not (byte == 58) && (not (byte == 34) && (not (byte == 35) && not (nat_lt 127 byte))))) newline
    (both_hold (not (byte == 59)) (not (byte == 58) && (not (byte == 34) && (not (byte == 35) && not (nat_lt 127 byte)))) semicolon
    (both_hold (not (byte == 58)) (not (byte == 34) && (not (byte == 35) && not (nat_lt 127 byte))) colon
    (both_hold (not (byte == 34)) (not (byte == 35) && not (nat_lt 127 byte)) mark (both_hold (not (byte == 35)) (not (nat_lt 127 byte)) hash low))))

calm_registers : all_below 32 (λ n. list_all is_calm (register_text n)) ≡ true
unfolding all_below digits
calm_registers = refl

calm_register : (n : ℕ) → n < 32 → list_all is_calm (register_text n) ≡ true
calm_register n small = from_below 32 (λ n. list_all is_calm (register_text n)) calm_registers n small

calm_number : (z : ℤ) → size_below (2 ^ 63) z → list_all is_calm (signed_decimal z) ≡ true
calm_number z small = weaker is_number_byte is_calm number_byte_calm (signed_decimal z) (signed_bytes z small)

calm_append : (one other : List ℕ) → list_all is_calm one ≡ true → list_all is_calm other ≡ true → list_all is_calm (one ++ other) ≡ true
calm_append one other h k = list_all-append is_calm one other ∙ both_hold _ _ h k

calm_address : (n : ℕ) → n < 32 → list_all is_calm (address_text n) ≡ true
calm_address n small = calm_append (register_text n) (codes ")") (calm_register n small) refl

calm_memory : (z : ℤ) (n : ℕ) → size_below (2 ^ 63) z → n < 32 → list_all is_calm (address_with_offset z n) ≡ true
calm_memory z n small fits = calm_append (signed_decimal z) (address_text n) (calm_number z small) (calm_address n fits)

upper_below : (n : ℕ) → n / 2 ^ 12 % 2 ^ 20 < 2 ^ 63
upper_below n = omega arith

calm_upper : (z : ℤ) → list_all is_calm (upper_text z) ≡ true
calm_upper z = calm_number (pos (bits (cast_unsigned w64 z) 31 12)) (upper_below (cast_unsigned w64 z))

calm_joined : (operands : List (List ℕ)) → list_all (list_all is_calm) operands ≡ true → list_all is_calm (joined operands) ≡ true
calm_joined [] all = refl
calm_joined (operand ∷ []) all = (both (list_all is_calm operand) true all).0
calm_joined (operand ∷ next ∷ more) all =
    let parts = both (list_all is_calm operand) (list_all (list_all is_calm) (next ∷ more)) all in
    calm_append operand (44 ∷ 32 ∷ joined (next ∷ more)) parts.0 (calm_joined (next ∷ more) parts.1)

calm_two : (a b : List ℕ) → list_all is_calm a ≡ true → list_all is_calm b ≡ true → list_all (list_all is_calm) (a ∷ b ∷ []) ≡ true
calm_two a b h k = both_hold (list_all is_calm a) (list_all (list_all is_calm) (b ∷ [])) h (both_hold (list_all is_calm b) true k refl)

calm_three : (a b c : List ℕ) → list_all is_calm a ≡ true → list_all is_calm b ≡ true → list_all is_calm c ≡ true → list_all (list_all is_calm) (a ∷ b ∷ c ∷ []) ≡ true
calm_three a b c h k l = both_hold (list_all is_calm a) (list_all (list_all is_calm) (b ∷ c ∷ [])) h (calm_two b c k l)

known_is_lone : (name : List ℕ) (operands : List (List ℕ)) (named : Kind) → IsKnown name named → list_all (list_all is_calm) operands ≡ true → pieces (statement name operands) ≡ lone (statement name operands) ∷ []
known_is_lone name operands named is calm = named_is_lone name (32 ∷ joined operands) named is (calm_joined operands calm)

atomic_is_lone : (op : Atomic) (wide : Bool) (order : ℕ) (operands : List (List ℕ)) → order < 4 → list_all (list_all is_calm) operands ≡ true
    → pieces (atomic_text op ++ (width_suffix wide ++ statement (order_suffix order) operands)) ≡ lone (atomic_text op ++ (width_suffix wide ++ statement (order_suffix order) operands)) ∷ []
atomic_is_lone op wide order operands small calm =
    rw (atomic_spelled op wide order (32 ∷ joined operands)) (known_is_lone (atomic_word op wide order) operands (kind.Atomic op wide order) (atomic_known op wide order small) calm)

ecall_is_lone : pieces (codes "ecall") ≡ lone (codes "ecall") ∷ []
unfolding pieces pieces_from
ecall_is_lone = refl

ebreak_is_lone : pieces (codes "ebreak") ≡ lone (codes "ebreak") ∷ []
unfolding pieces pieces_from
ebreak_is_lone = refl

printed_is_lone : (instr : Instr) → InRange instr → pieces (instruction_text instr) ≡ lone (instruction_text instr) ∷ []
printed_is_lone (Lui rd imm) h = known_is_lone (codes "lui") (register_text rd ∷ upper_text imm ∷ []) kind.Lui lui_known (calm_two (register_text rd) (upper_text imm) (calm_register rd h.0) (calm_upper imm))
printed_is_lone (Auipc rd imm) h = known_is_lone (codes "auipc") (register_text rd ∷ upper_text imm ∷ []) kind.Auipc auipc_known (calm_two (register_text rd) (upper_text imm) (calm_register rd h.0) (calm_upper imm))
printed_is_lone (Jal rd imm) h = known_is_lone (codes "jal") (register_text rd ∷ signed_decimal imm ∷ []) kind.Jal jal_known (calm_two (register_text rd) (signed_decimal imm) (calm_register rd h.0) (calm_number imm (short_size imm (2 ^ 20) 2 (omega arith) h.1)))
printed_is_lone (Jalr rd rs1 imm) h = known_is_lone (codes "jalr") (register_text rd ∷ address_with_offset imm rs1 ∷ []) kind.Jalr jalr_known (calm_two (register_text rd) (address_with_offset imm rs1) (calm_register rd h.0) (calm_memory imm rs1 (short_size imm (2 ^ 11) 1 (omega arith) h.2) h.1))
printed_is_lone (Branch cmp rs1 rs2 imm) h =
    known_is_lone (branch_name cmp) (register_text rs1 ∷ register_text rs2 ∷ signed_decimal imm ∷ []) (kind.Branch cmp) (branch_known cmp)
    (calm_three (register_text rs1) (register_text rs2) (signed_decimal imm) (calm_register rs1 h.0) (calm_register rs2 h.1) (calm_number imm (short_size imm (2 ^ 12) 2 (omega arith) h.2)))
printed_is_lone (Load loads rd rs1 imm) h = known_is_lone (load_name loads) (register_text rd ∷ address_with_offset imm rs1 ∷ []) (kind.Load loads) (load_known loads) (calm_two (register_text rd) (address_with_offset imm rs1) (calm_register rd h.0) (calm_memory imm rs1 (short_size imm (2 ^ 11) 1 (omega arith) h.2) h.1))
printed_is_lone (Store width rs1 rs2 imm) h = known_is_lone (store_name width) (register_text rs2 ∷ address_with_offset imm rs1 ∷ []) (kind.Store width) (store_known width) (calm_two (register_text rs2) (address_with_offset imm rs1) (calm_register rs2 h.1) (calm_memory imm rs1 (short_size imm (2 ^ 11) 1 (omega arith) h.2) h.0))
printed_is_lone (OpImm op rd rs1 imm) h =
    known_is_lone (imm_name op) (register_text rd ∷ register_text rs1 ∷ signed_decimal imm ∷ []) (kind.Immediate op) (immediate_known op)
    (calm_three (register_text rd) (register_text rs1) (signed_decimal imm) (calm_register rd h.0) (calm_register rs1 h.1) (calm_number imm (operand_size op imm h.2)))
printed_is_lone (Op op rd rs1 rs2) h =
    known_is_lone (alu_name op) (register_text rd ∷ register_text rs1 ∷ register_text rs2 ∷ []) (kind.Operation op) (operation_known op)
    (calm_three (register_text rd) (register_text rs1) (register_text rs2) (calm_register rd h.0) (calm_register rs1 h.1) (calm_register rs2 h.2))
printed_is_lone (LoadReserved wide order rd rs1) h = atomic_is_lone atomic.LoadReserved wide order (register_text rd ∷ address_text rs1 ∷ []) h.0 (calm_two (register_text rd) (address_text rs1) (calm_register rd h.1) (calm_address rs1 h.2))
printed_is_lone (StoreConditional wide order rd rs1 rs2) h =
    atomic_is_lone atomic.StoreConditional wide order (register_text rd ∷ register_text rs2 ∷ address_text rs1 ∷ []) h.0
    (calm_three (register_text rd) (register_text rs2) (address_text rs1) (calm_register rd h.1) (calm_register rs2 h.3) (calm_address rs1 h.2))
printed_is_lone (Amo op wide order rd rs1 rs2) h =
    atomic_is_lone (atomic.Amo op) wide order (register_text rd ∷ register_text rs2 ∷ address_text rs1 ∷ []) h.0
    (calm_three (register_text rd) (register_text rs2) (address_text rs1) (calm_register rd h.1) (calm_register rs2 h.3) (calm_address rs1 h.2))
printed_is_lone (Fence true rd rs1 imm) h =
    known_is_lone (codes "fence.i") (register_text rd ∷ register_text rs1 ∷ signed_decimal imm ∷ []) (kind.Fence true) code_fence_known
    (calm_three (register_text rd) (register_text rs1) (signed_decimal imm) (calm_register rd h.0) (calm_register rs1 h.1) (calm_number imm (short_size imm (2 ^ 11) 1 (omega arith) h.2)))
printed_is_lone (Fence false rd rs1 imm) h =
    known_is_lone (codes "fence") (register_text rd ∷ register_text rs1 ∷ signed_decimal imm ∷ []) (kind.Fence false) fence_known
    (calm_three (register_text rd) (register_text rs1) (signed_decimal imm) (calm_register rd h.0) (calm_register rs1 h.1) (calm_number imm (short_size imm (2 ^ 11) 1 (omega arith) h.2)))
printed_is_lone Ecall h = ecall_is_lone
printed_is_lone Ebreak h = ebreak_is_lone

-- a source of one instruction
alone_faultless : (piece : Piece) (instr : Instr) → piece_meaning piece ≡ Ok (One instr) → in_range instr ≡ true → fault_of (piece ∷ []) ≡ None
unfolding fault_of fault_from places_of spot_from end_from items_of checked
alone_faultless piece instr is held = rw (is, held) refl

alone_written : (piece : Piece) (instr : Instr) (word : ℕ) → piece_meaning piece ≡ Ok (One instr) → in_range instr ≡ true → word < 2 ^ 32 → IsWord word instr
    → IsFile (piece ∷ []) (file text_base (to_le_bytes w32 word) [])
unfolding places_of spot_from end_from items_from items_of checked
alone_written piece instr word is held small stands = record {
  text = to_le_bytes w32 word;
  data_bytes = [];
  text_spells = rw (is, held) (word, [], small, stands, sym (append-nil (to_le_bytes w32 word)), refl);
  data_spells = rw (is, held) refl;
  whole = rw is refl;
}

-- the text of a decoded instruction is a source of the file of its word
pub printed_assembled : (instr : Instr) (word : ℕ) → InRange instr → word < 2 ^ 32 → decoding word ≡ Some instr → IsAssembled (instruction_text instr) (file text_base (to_le_bytes w32 word) [])
unfolding piece_meaning
printed_assembled instr word h small decoded =
    let one = printed_is_lone instr h in
    let meaning = printed_meaning instr h in
    let held = range_no instr h in
    record {
      faultless = rw one (alone_faultless (lone (instruction_text instr)) instr meaning held);
      written = rw one (alone_written (lone (instruction_text instr)) instr word meaning held small (decoded_stands word instr decoded));
    }

-- a source has one file
spelled_once : (items : List Item) (one other : List ℕ) → Spells items one → Spells items other → one ≡ other
spelled_once [] one other h k = h ∙ sym k
spelled_once (Instruction instr ∷ items) one other (word, rest, small, stands, is, spells) (its_word, its_rest, its_small, its_stands, its_is, its_spells) =
    let same : word ≡ its_word = decoded_word its_word its_small instr its_stands word small (word_decodes word instr stands) in
    is ∙ ap (λ (n : ℕ). to_le_bytes w32 n ++ rest) same ∙ ap (λ (bytes : List ℕ). to_le_bytes w32 its_word ++ bytes) (spelled_once items rest its_rest spells its_spells) ∙ sym its_is
spelled_once (Byte byte ∷ items) one other (rest, is, spells) (its_rest, its_is, its_spells) =
    is ∙ ap (λ (bytes : List ℕ). byte ∷ bytes) (spelled_once items rest its_rest spells its_spells) ∙ sym its_is

pub assembled_once : (source one other : List ℕ) → IsAssembled source one → IsAssembled source other → one ≡ other
assembled_once source one other h k =
    let all : List Piece = pieces source in
    let entry : ℕ = entry_of (places_of all) in
    let text = spelled_once (items_from false (places_of all) 0 start all) h.written.text k.written.text h.written.text_spells k.written.text_spells in
    let data_bytes = spelled_once (items_from true (places_of all) 0 start all) h.written.data_bytes k.written.data_bytes h.written.data_spells k.written.data_spells in
    h.written.whole
    ∙ ap (λ (bytes : List ℕ). file entry bytes h.written.data_bytes) text
    ∙ ap (λ (bytes : List ℕ). file entry k.written.text bytes) data_bytes
    ∙ sym k.written.whole
