-- What is added spells what statements become.
use Rattle.std.proofs.Common.{◌≡◌, ℕ, ◌+◌, ◌^◌, ◌<◌, ◌≤◌, Bool, true, false, cond, Option, Some, None, length, drop, get_or, arith, List, [], ◌∷◌, ◌++◌, refl, subst, sym, ap, ◌∙◌, append_assoc}
use Rattle.std.specs.Int.{w32, to_le_bytes}
use Rattle.std.proofs.lemmas.List.{append-nil}
use Rattle.isa_decode.specs.declared.instruction.Instr.{Instr}
use Rattle.isa_decode.specs.Listing.{IsWord}
use Rattle.isa_asm.specs.File.{Spells}
use Rattle.isa_asm.specs.Places.{Item, Instruction, Byte, byte_items}
use Rattle.isa_asm.specs.Seen.{Emits}
use Rattle.isa_asm.specs.Lexing.{is_all_blank}
use Rattle.isa_asm.specs.Statement.{quoted_bytes}
use Rattle.std.specs.Option.{IsSome, option_map, unwrap_or}
use Rattle.std.proofs.lemmas.Grind.{common_steps}

pub spells_append : (one other : List Item) (front behind : List ℕ) → Spells one front → Spells other behind → Spells (one ++ other) (front ++ behind)
spells_append [] other front behind h k = let P : List ℕ → Type 0 = λ bytes. Spells other bytes in subst P (ap (λ (bytes : List ℕ). bytes ++ behind) (sym h)) k
spells_append (Instruction instr ∷ one) other front behind (word, rest, small, stands, is, spells) k =
    (word, rest ++ behind, small, stands, ap (λ (bytes : List ℕ). bytes ++ behind) is ∙ append_assoc (to_le_bytes w32 word) rest behind, spells_append one other rest behind spells k)
spells_append (Byte byte ∷ one) other front behind (rest, is, spells) k =
    (rest ++ behind, ap (λ (bytes : List ℕ). bytes ++ behind) is, spells_append one other rest behind spells k)

pub spells_bytes : (bytes : List ℕ) → Spells (byte_items bytes) bytes
spells_bytes [] = refl
spells_bytes (byte ∷ bytes) = (bytes, refl, spells_bytes bytes)

pub emits_nothing : (out : List ℕ) → Emits [] out out
emits_nothing out = ([], refl, sym (append-nil out))

pub emits_bytes : (bytes before after : List ℕ) → after ≡ before ++ bytes → Emits (byte_items bytes) before after
emits_bytes bytes before after is = (bytes, spells_bytes bytes, is)

pub emits_word : (word : ℕ) (instr : Instr) (before after : List ℕ) → word < 2 ^ 32 → IsWord word instr → after ≡ before ++ to_le_bytes w32 word → Emits (Instruction instr ∷ []) before after
emits_word word instr before after small stands is = (to_le_bytes w32 word, (word, [], small, stands, sym (append-nil (to_le_bytes w32 word)), refl), is)

emits_append : (one other : List Item) (before between after : List ℕ) → Emits one before between → Emits other between after → Emits (one ++ other) before after
emits_append one other before between after (front, spells, is) (behind, spells_behind, is_behind) =
    (front ++ behind, spells_append one other front behind spells spells_behind, is_behind ∙ ap (λ (bytes : List ℕ). bytes ++ behind) is ∙ append_assoc before front behind)

pub emits_two : (first second : Instr) (before between after : List ℕ) → Emits (Instruction first ∷ []) before between → Emits (Instruction second ∷ []) between after → Emits (Instruction first ∷ Instruction second ∷ []) before after
emits_two first second before between after one other = emits_append (Instruction first ∷ []) (Instruction second ∷ []) before between after one other

at_place : (bytes : List ℕ) (place : ℕ) → place < length bytes → drop place bytes ≡ get_or bytes place 0 ∷ drop (place + 1) bytes
at_place bytes place within = grind (arith, common_steps)

past_end : (bytes : List ℕ) (place : ℕ) → length bytes ≤ place → drop place bytes ≡ []
past_end bytes place past = grind (arith, common_steps)

-- at the second quotation mark
pub at_mark : (escaped : Bool) (quoted : List ℕ) (place : ℕ) → escaped ≡ false → place < length quoted → get_or quoted place 0 ≡ 34
    → quoted_bytes escaped (drop place quoted) ≡ cond (is_all_blank (drop (place + 1) quoted)) (Some []) None
unfolding quoted_bytes
at_mark escaped quoted place plain inside mark = rw (at_place quoted place inside, plain, mark)

pub at_end : (escaped : Bool) (quoted : List ℕ) (place : ℕ) → length quoted ≤ place → quoted_bytes escaped (drop place quoted) ≡ None
unfolding quoted_bytes
at_end true quoted place past = rw (past_end quoted place past)
at_end false quoted place past = rw (past_end quoted place past)

pub text_ends : (out before : List ℕ) (whole rest : Option (List ℕ)) (blank : Bool) → IsSome whole → rest ≡ cond blank (Some []) None
    → option_map (λ bytes. out ++ bytes) rest ≡ option_map (λ bytes. before ++ bytes) whole → Some out ≡ option_map (λ bytes. before ++ bytes) whole
text_ends out before None rest blank some is same = cc
text_ends out before (Some bytes) rest true some is same = ap Some (sym (append-nil out)) ∙ ap (option_map (λ bytes. out ++ bytes)) (sym is) ∙ same
text_ends out before (Some bytes) rest false some is same =
    let no : None ≡ Some (before ++ bytes) = ap (option_map (λ bytes. out ++ bytes)) (sym is) ∙ same in cc

pub text_goes_on : (out before : List ℕ) (whole rest : Option (List ℕ)) → IsSome whole → rest ≡ None
    → option_map (λ bytes. out ++ bytes) rest ≡ option_map (λ bytes. before ++ bytes) whole → Some out ≡ option_map (λ bytes. before ++ bytes) whole
text_goes_on out before whole rest some is same = text_ends out before whole rest false some is same

pub emits_text : (before after : List ℕ) (whole : Option (List ℕ)) → IsSome whole → Some after ≡ option_map (λ bytes. before ++ bytes) whole → Emits (byte_items (unwrap_or whole [])) before after
emits_text before after None some is = let no : false ≡ true = some in absurd (cc)
emits_text before after (Some bytes) some is = let same : after ≡ before ++ bytes = cc in emits_bytes bytes before after same
