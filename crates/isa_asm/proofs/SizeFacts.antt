-- What is written has as many bytes as its statements.
use Rattle.std.proofs.Common.{◌≡◌, ℕ, ◌+◌, ◌^◌, ◌≤◌, ◌&&◌, pos, ◌-ℤ◌, Bool, true, false, cond, List, [], ◌∷◌, ◌++◌, length, replicate, Option, Some, None, Result, Ok, Err, refl, sym, ap, ◌∙◌, arith}
use Rattle.std.specs.Prelude.{not, nat_le}
use Rattle.std.specs.Int.{w32, w64, to_le_bytes}
use Rattle.std.proofs.lemmas.Bool.Decides.{nat_tests}
use Rattle.std.proofs.lemmas.List.{length-replicate}
use Rattle.isa_decode.specs.declared.instruction.Instr.{Instr}
use Rattle.isa_decode.specs.declared.instruction.Instr.TheVariants.{Jal, Branch}
use Rattle.isa_decode.specs.declared.instruction.Cmp.{Cmp}
use Rattle.isa_decode.specs.declared.instruction.Width.{Width}
use Rattle.isa_decode.specs.declared.instruction.Width.TheVariants as width
use Rattle.isa_asm.specs.declared.cause.AsmCause.{AsmCause}
use Rattle.isa_asm.specs.declared.cause.AsmCause.TheVariants as cause
use Rattle.isa_asm.specs.declared.cause.AsmFault.{AsmFault}
use Rattle.isa_asm.specs.declared.layout.Layout.{Layout}
use Rattle.isa_asm.specs.File.{IsAssembled, Spells, fault_of, fault_or_empty}
use Rattle.isa_asm.specs.Places.{Item, Instruction, Byte, Places, address_at, address_items, address_of, after_meaning, after_statement, at_label, byte_items, checked, checked_two, end_from, fault_from, fault_or, here, is_first_at, items_from, items_of, kept, limited, moved, number_bytes, outcome, places_of, size_of, start, width_size}
use Rattle.isa_asm.specs.Ranges.{in_range}
use Rattle.isa_asm.specs.Sizes.{IsSized, section_behind, sizes_from, statement_size}
use Rattle.isa_asm.specs.Source.{Piece, piece_meaning, pieces}
use Rattle.isa_asm.specs.Statement.{Meaning, Nothing, Named, Section, One, Two, Jump, Conditional, Address, Number, Pointer, Zeros, Quoted}

abbrev item_size : Item → ℕ
item_size (Instruction instr) = 4
item_size (Byte byte) = 1

abbrev items_size : List Item → ℕ
items_size [] = 0
items_size (item ∷ items) = item_size item + items_size items

word_length : (word : ℕ) (rest : List ℕ) → length (to_le_bytes w32 word ++ rest) ≡ 4 + length rest
word_length word rest = omega arith

spelled_length : (items : List Item) (bytes : List ℕ) → Spells items bytes → length bytes ≡ items_size items
spelled_length [] bytes is = ap length is
spelled_length (Instruction instr ∷ items) bytes (word, rest, small, stands, is, spells) =
    ap length is ∙ word_length word rest ∙ ap (λ (n : ℕ). 4 + n) (spelled_length items rest spells)
spelled_length (Byte byte ∷ items) bytes (rest, is, spells) =
    let all : length bytes ≡ length (byte ∷ rest) = ap length is in
    let more : length rest ≡ items_size items = spelled_length items rest spells in
    omega (arith, all, more)

bytes_size : (bytes : List ℕ) → items_size (byte_items bytes) ≡ length bytes
bytes_size [] = refl
bytes_size (byte ∷ bytes) = let more : items_size (byte_items bytes) ≡ length bytes = bytes_size bytes in omega (arith, more)

size_append : (one other : List Item) → items_size (one ++ other) ≡ items_size one + items_size other
size_append [] other = omega arith
size_append (item ∷ one) other = let more : items_size (one ++ other) ≡ items_size one + items_size other = size_append one other in omega (arith, more)

-- what a statement becomes has its size
same_items : (result : Result (List Item) AsmCause) (found items : List Item) (size : ℕ) → result ≡ Ok found → result ≡ Ok items → items_size found ≡ size → items_size items ≡ size
same_items result found items size is other sized = let same : found ≡ items = cc in ap items_size (sym same) ∙ sized

chosen_size : (b : Bool) (result : Result (List Item) AsmCause) (found items : List Item) (because : AsmCause) (size : ℕ) → result ≡ cond b (Ok found) (Err because) → result ≡ Ok items → items_size found ≡ size → items_size items ≡ size
chosen_size true result found items because size is other sized = same_items result found items size is other sized
chosen_size false result found items because size is other sized = let no : Ok items ≡ Err because = sym other ∙ is in cc

checked_size : (instr : Instr) (items : List Item) → checked instr ≡ Ok items → items_size items ≡ 4
unfolding checked
checked_size instr items is = chosen_size (in_range instr) (checked instr) (Instruction instr ∷ []) items cause.Range 4 refl is refl

two_size : (first second : Instr) (items : List Item) → checked_two first second ≡ Ok items → items_size items ≡ 8
unfolding checked_two
two_size first second items is = chosen_size (in_range first && in_range second) (checked_two first second) (Instruction first ∷ Instruction second ∷ []) items cause.Range 8 refl is refl

jump_size : (found : Option ℕ) (place rd : ℕ) (items : List Item) → at_label found (λ target. checked (Jal rd (pos target -ℤ pos place))) ≡ Ok items → items_size items ≡ 4
jump_size None place rd items is = cc
jump_size (Some target) place rd items is = checked_size (Jal rd (pos target -ℤ pos place)) items is

conditional_size : (found : Option ℕ) (place : ℕ) (cmp : Cmp) (rs1 rs2 : ℕ) (items : List Item) → at_label found (λ target. checked (Branch cmp rs1 rs2 (pos target -ℤ pos place))) ≡ Ok items → items_size items ≡ 4
conditional_size None place cmp rs1 rs2 items is = cc
conditional_size (Some target) place cmp rs1 rs2 items is = checked_size (Branch cmp rs1 rs2 (pos target -ℤ pos place)) items is

address_size : (found : Option ℕ) (place rd : ℕ) (items : List Item) → at_label found (λ target. address_items rd (pos target -ℤ pos place)) ≡ Ok items → items_size items ≡ 8
address_size None place rd items is = cc
address_size (Some target) place rd items is = two_size _ _ items is

pointer_size : (found : Option ℕ) (items : List Item) → at_label found (λ target. Ok (byte_items (to_le_bytes w64 target))) ≡ Ok items → items_size items ≡ 8
pointer_size None items is = cc
pointer_size (Some target) items is = same_items (Ok (byte_items (to_le_bytes w64 target))) (byte_items (to_le_bytes w64 target)) items 8 refl is refl

number_size : (width : Width) (value : ℕ) → items_size (byte_items (number_bytes width value)) ≡ width_size width
number_size width.One value = refl
number_size width.Two value = refl
number_size width.Four value = refl
number_size width.Eight value = refl

size_is : (places : Places) (index : ℕ) (layout : Layout) (meaning : Meaning) (items : List Item) → items_of places index layout meaning ≡ Ok items → items_size items ≡ size_of meaning
unfolding items_of
size_is places index layout Nothing items is = same_items (Ok []) [] items 0 refl is refl
size_is places index layout (Named name) items is =
    chosen_size (is_first_at index (places.spot name)) (items_of places index layout (Named name)) [] items cause.Twice 0 refl is refl
size_is places index layout (Section in_data) items is = same_items (Ok []) [] items 0 refl is refl
size_is places index layout (One instr) items is = checked_size instr items is
size_is places index layout (Two first second) items is = two_size first second items is
size_is places index layout (Jump rd name) items is = jump_size (address_of places name) (address_at places.text (here index layout)) rd items is
size_is places index layout (Conditional cmp rs1 rs2 name) items is =
    conditional_size (address_of places name) (address_at places.text (here index layout)) cmp rs1 rs2 items is
size_is places index layout (Address rd name) items is = address_size (address_of places name) (address_at places.text (here index layout)) rd items is
size_is places index layout (Number width value) items is =
    same_items (Ok (byte_items (number_bytes width value))) (byte_items (number_bytes width value)) items (width_size width) refl is (number_size width value)
size_is places index layout (Pointer name) items is = pointer_size (address_of places name) items is
size_is places index layout (Zeros size) items is =
    same_items (Ok (byte_items (replicate size 0))) (byte_items (replicate size 0)) items size refl is (bytes_size (replicate size 0) ∙ length-replicate size 0)
size_is places index layout (Quoted bytes) items is = same_items (Ok (byte_items bytes)) (byte_items bytes) items (length bytes) refl is (bytes_size bytes)

-- sums that don't stand still
abbrev IsSmall : Layout → Type 0
IsSmall layout = layout.text_size + layout.data_size ≤ 2 ^ 20

record Moves (layout next : Layout) (size : ℕ) : Type 0 where
  text : next.text_size ≡ layout.text_size + cond layout.in_data 0 size
  data_bytes : next.data_size ≡ layout.data_size + cond layout.in_data size 0

moves_by : (in_data : Bool) (text data_bytes size : ℕ) → IsSmall (moved (record { text_size = text; data_size = data_bytes; in_data = in_data }) size)
    → Moves (record { text_size = text; data_size = data_bytes; in_data = in_data }) (moved (record { text_size = text; data_size = data_bytes; in_data = in_data }) size) size
moves_by true text data_bytes size small = record { text = omega arith; data_bytes = omega arith }
moves_by false text data_bytes size small = record { text = omega arith; data_bytes = omega arith }

moves : (layout : Layout) (size : ℕ) → IsSmall (moved layout size) → Moves layout (moved layout size) size
moves layout size small = moves_by layout.in_data layout.text_size layout.data_size size small

stays_by : (in_data other : Bool) (text data_bytes : ℕ) → Moves (record { text_size = text; data_size = data_bytes; in_data = in_data }) (record { text_size = text; data_size = data_bytes; in_data = other }) 0
stays_by true other text data_bytes = record { text = omega arith; data_bytes = omega arith }
stays_by false other text data_bytes = record { text = omega arith; data_bytes = omega arith }

meaning_moves : (layout : Layout) (meaning : Meaning) → IsSmall (after_meaning layout meaning) → Moves layout (after_meaning layout meaning) (size_of meaning)
meaning_moves layout Nothing small = stays_by layout.in_data layout.in_data layout.text_size layout.data_size
meaning_moves layout (Named name) small = stays_by layout.in_data layout.in_data layout.text_size layout.data_size
meaning_moves layout (Section in_data) small = stays_by layout.in_data in_data layout.text_size layout.data_size
meaning_moves layout (One instr) small = moves layout 4 small
meaning_moves layout (Two first second) small = moves layout 8 small
meaning_moves layout (Jump rd name) small = moves layout 4 small
meaning_moves layout (Conditional cmp rs1 rs2 name) small = moves layout 4 small
meaning_moves layout (Address rd name) small = moves layout 8 small
meaning_moves layout (Number width value) small = moves layout (width_size width) small
meaning_moves layout (Pointer name) small = moves layout 8 small
meaning_moves layout (Zeros size) small = moves layout size small
meaning_moves layout (Quoted bytes) small = moves layout (length bytes) small

section_by : (in_data : Bool) (text data_bytes size : ℕ) → in_data ≡ (moved (record { text_size = text; data_size = data_bytes; in_data = in_data }) size).in_data
section_by true text data_bytes size = refl
section_by false text data_bytes size = refl

section_stays : (layout : Layout) (size : ℕ) → layout.in_data ≡ (moved layout size).in_data
section_stays layout size = section_by layout.in_data layout.text_size layout.data_size size

section_is : (layout : Layout) (meaning : Meaning) → section_behind layout.in_data (Ok meaning) ≡ (after_meaning layout meaning).in_data
section_is layout Nothing = refl
section_is layout (Named name) = refl
section_is layout (Section in_data) = refl
section_is layout (One instr) = section_stays layout 4
section_is layout (Two first second) = section_stays layout 8
section_is layout (Jump rd name) = section_stays layout 4
section_is layout (Conditional cmp rs1 rs2 name) = section_stays layout 4
section_is layout (Address rd name) = section_stays layout 8
section_is layout (Number width value) = section_stays layout (width_size width)
section_is layout (Pointer name) = section_stays layout 8
section_is layout (Zeros size) = section_stays layout size
section_is layout (Quoted bytes) = section_stays layout (length bytes)

-- one statement that has no fault
record IsStep (layout next : Layout) (result : Result (List Item) AsmCause) (size : ℕ) (later : Option AsmFault) : Type 0 where
  small : IsSmall next
  text : layout.text_size + items_size (kept (not layout.in_data) result) ≡ next.text_size
  data_bytes : layout.data_size + items_size (kept layout.in_data result) ≡ next.data_size
  text_sum : layout.text_size + cond (not layout.in_data) size 0 ≡ next.text_size
  data_sum : layout.data_size + cond layout.in_data size 0 ≡ next.data_size
  goes_on : later ≡ None

impossible : {P : Type 0} (fault : AsmFault) → Some fault ≡ None → P
impossible fault none = absurd (cc)

fits : (n most : ℕ) → nat_le n most ≡ true → n ≤ most
fits n most h = grind (arith, nat_tests)

kept_by : (in_data : Bool) (text data_bytes size : ℕ) (next : Layout) (items : List Item) (later : Option AsmFault) → IsSmall next → items_size items ≡ size
    → Moves (record { text_size = text; data_size = data_bytes; in_data = in_data }) next size → later ≡ None → IsStep (record { text_size = text; data_size = data_bytes; in_data = in_data }) next (Ok items) size later
kept_by true text data_bytes size next items later small sized m none = record {
  small = small;
  text = omega (arith, m.text);
  data_bytes = omega (arith, m.data_bytes, sized);
  text_sum = omega (arith, m.text);
  data_sum = omega (arith, m.data_bytes);
  goes_on = none;
}
kept_by false text data_bytes size next items later small sized m none = record {
  small = small;
  text = omega (arith, m.text, sized);
  data_bytes = omega (arith, m.data_bytes);
  text_sum = omega (arith, m.text);
  data_sum = omega (arith, m.data_bytes);
  goes_on = none;
}

step_by : (enough : Bool) (layout next : Layout) (line size : ℕ) (items : List Item) (later : Option AsmFault) → nat_le (next.text_size + next.data_size) (2 ^ 20) ≡ enough → items_size items ≡ size
    → (IsSmall next → Moves layout next size) → fault_or line (cond enough (Ok items) (Err cause.TooBig)) later ≡ None → IsStep layout next (cond enough (Ok items) (Err cause.TooBig)) size later
step_by true layout next line size items later small sized m none =
    let within : IsSmall next = fits (next.text_size + next.data_size) (2 ^ 20) small in
    kept_by layout.in_data layout.text_size layout.data_size size next items later within sized (m within) none
step_by false layout next line size items later small sized m none = impossible (record { line = line; cause = cause.TooBig }) none

step_of : (layout next : Layout) (line size : ℕ) (result : Result (List Item) AsmCause) (later : Option AsmFault) → ((items : List Item) → result ≡ Ok items → items_size items ≡ size)
    → (IsSmall next → Moves layout next size) → fault_or line (limited next result) later ≡ None → IsStep layout next (limited next result) size later
step_of layout next line size (Err because) later sized m none = impossible (record { line = line; cause = because }) none
step_of layout next line size (Ok items) later sized m none = step_by (nat_le (next.text_size + next.data_size) (2 ^ 20)) layout next line size items later refl (sized items refl) m none

step : (places : Places) (index : ℕ) (layout : Layout) (line : ℕ) (meaning : Result Meaning AsmCause) (later : Option AsmFault) → fault_or line (outcome places index layout meaning) later ≡ None
    → IsStep layout (after_statement layout meaning) (outcome places index layout meaning) (statement_size meaning) later × (section_behind layout.in_data meaning ≡ (after_statement layout meaning).in_data)
step places index layout line (Err because) later none = impossible (record { line = line; cause = because }) none
step places index layout line (Ok meaning) later none =
    (step_of layout (after_meaning layout meaning) line (size_of meaning) (items_of places index layout meaning) later (size_is places index layout meaning) (meaning_moves layout meaning) none, section_is layout meaning)

-- from a statement on
record Sums (places : Places) (index : ℕ) (layout : Layout) (statements : List Piece) : Type 0 where
  text : layout.text_size + items_size (items_from false places index layout statements) ≡ (end_from layout statements).text_size
  data_bytes : layout.data_size + items_size (items_from true places index layout statements) ≡ (end_from layout statements).data_size
  text_sum : layout.text_size + sizes_from false layout.in_data statements ≡ (end_from layout statements).text_size
  data_sum : layout.data_size + sizes_from true layout.in_data statements ≡ (end_from layout statements).data_size

sums : (places : Places) (index : ℕ) (layout : Layout) (statements : List Piece) → fault_from places index layout statements ≡ None → Sums places index layout statements
unfolding fault_from items_from end_from sizes_from
sums places index layout [] none = record { text = omega arith; data_bytes = omega arith; text_sum = omega arith; data_sum = omega arith }
sums places index layout (piece ∷ rest) none =
    let meaning : Result Meaning AsmCause = piece_meaning piece in
    let next : Layout = after_statement layout meaning in
    let one = step places index layout piece.line meaning (fault_from places (index + 1) next rest) none in
    let more = sums places (index + 1) next rest one.0.goes_on in
    let kept_text = size_append (kept (not layout.in_data) (outcome places index layout meaning)) (items_from false places (index + 1) next rest) in
    let kept_data = size_append (kept layout.in_data (outcome places index layout meaning)) (items_from true places (index + 1) next rest) in
    record {
      text = omega (arith, kept_text, one.0.text, more.text);
      data_bytes = omega (arith, kept_data, one.0.data_bytes, more.data_bytes);
      text_sum = omega (arith, one.0.text_sum, more.text_sum, ap (λ (in_data : Bool). sizes_from false in_data rest) one.1);
      data_sum = omega (arith, one.0.data_sum, more.data_sum, ap (λ (in_data : Bool). sizes_from true in_data rest) one.1);
    }

clear : (found : Option AsmFault) (text : ℕ) → fault_or_empty found text ≡ None → found ≡ None
clear (Some fault) text none = none
clear None text none = refl

pub sized : (source bytes : List ℕ) (made : IsAssembled source bytes) → IsSized (pieces source) made.written.text made.written.data_bytes
unfolding fault_of places_of
sized source bytes made =
    let all : List Piece = pieces source in
    let none : fault_from (places_of all) 0 start all ≡ None = clear (fault_from (places_of all) 0 start all) (places_of all).text made.faultless in
    let ends = sums (places_of all) 0 start all none in
    let text : length made.written.text ≡ items_size (items_from false (places_of all) 0 start all) = spelled_length _ made.written.text made.written.text_spells in
    let data_bytes : length made.written.data_bytes ≡ items_size (items_from true (places_of all) 0 start all) = spelled_length _ made.written.data_bytes made.written.data_spells in
    record {
      text_sum = omega (arith, text, ends.text, ends.text_sum);
      data_sum = omega (arith, data_bytes, ends.data_bytes, ends.data_sum);
      placed = omega (arith, text, ends.text);
    }
