-- The operands of statements.
-- Source: the order of operands is that of the instructions' printed text; the rest is the project's own.
use Rattle.std.specs.Prelude.{ℕ, if◌then◌else◌, List, Option, Some, None, option_and_then}
use Rattle.std.specs.Option.{option_map}
use Rattle.isa_asm.specs.declared.literal.Literal.{Literal}
use Rattle.isa_asm.specs.Lexing.{halves, is_all_blank, is_name, only_word}
use Rattle.isa_asm.specs.Literals.{literal}
use Rattle.isa_asm.specs.Registers.{register_named}

infixl 10 ◌>>=◌
abbrev pub ◌>>=◌ : {A B : Type 0} → Option A → (A → Option B) → Option B
o >>= f = option_and_then f o

-- where a branch or a jump goes: an offset, or a label
pub data Target : Type 0 where
  Offset : Literal → Target
  Label : List ℕ → Target

unfoldable pub register : List ℕ → Option ℕ
register text = do
  word ← only_word text
  register_named word

unfoldable pub number : List ℕ → Option Literal
number text = do
  word ← only_word text
  literal word

abbrev pub when_name : List ℕ → Option (List ℕ)
when_name word = if is_name word then Some word else None

unfoldable pub label : List ℕ → Option (List ℕ)
label text = do
  word ← only_word text
  when_name word

abbrev pub target_word : List ℕ → Option Target
target_word word = if is_name word then Some (Label word) else option_map Offset (literal word)

unfoldable pub target : List ℕ → Option Target
target text = do
  word ← only_word text
  target_word word

-- behind `(`: a register and `)`
unfoldable pub enclosed : List ℕ → Option ℕ
enclosed text = do
  parts ← halves 41 text
  if is_all_blank parts.behind then register parts.before else None

-- `(xN)`
unfoldable pub address : List ℕ → Option ℕ
address text = do
  parts ← halves 40 text
  if is_all_blank parts.before then enclosed parts.behind else None

-- `imm(xN)`
unfoldable pub memory : List ℕ → Option (Literal × ℕ)
memory text = do
  parts ← halves 40 text
  offset ← number parts.before
  base ← enclosed parts.behind
  Some (offset, base)

-- a register, a comma, and what stands behind it
unfoldable pub register_first : List ℕ → Option (ℕ × List ℕ)
register_first text = do
  parts ← halves 44 text
  first ← register parts.before
  Some (first, parts.behind)

unfoldable pub register_and_number : List ℕ → Option (ℕ × Literal)
register_and_number text = do
  first ← register_first text
  last ← number first.1
  Some (first.0, last)

unfoldable pub register_and_label : List ℕ → Option (ℕ × List ℕ)
register_and_label text = do
  first ← register_first text
  last ← label first.1
  Some (first.0, last)

unfoldable pub register_and_target : List ℕ → Option (ℕ × Target)
register_and_target text = do
  first ← register_first text
  last ← target first.1
  Some (first.0, last)

unfoldable pub register_and_memory : List ℕ → Option (ℕ × (Literal × ℕ))
register_and_memory text = do
  first ← register_first text
  last ← memory first.1
  Some (first.0, last)

unfoldable pub register_and_address : List ℕ → Option (ℕ × ℕ)
register_and_address text = do
  first ← register_first text
  last ← address first.1
  Some (first.0, last)

unfoldable pub two_registers : List ℕ → Option (ℕ × ℕ)
two_registers text = do
  first ← register_first text
  last ← register first.1
  Some (first.0, last)

unfoldable pub two_and_number : List ℕ → Option (ℕ × (ℕ × Literal))
two_and_number text = do
  first ← register_first text
  last ← register_and_number first.1
  Some (first.0, last)

unfoldable pub two_and_target : List ℕ → Option (ℕ × (ℕ × Target))
two_and_target text = do
  first ← register_first text
  last ← register_and_target first.1
  Some (first.0, last)

unfoldable pub two_and_address : List ℕ → Option (ℕ × (ℕ × ℕ))
two_and_address text = do
  first ← register_first text
  last ← register_and_address first.1
  Some (first.0, last)

unfoldable pub three_registers : List ℕ → Option (ℕ × (ℕ × ℕ))
three_registers text = do
  first ← register_first text
  last ← two_registers first.1
  Some (first.0, last)
