-- What a program reads is what was written: the block and the words don't meet, and each text stands at its address.
use Rattle.std.proofs.Common.{◌≡◌, ◌⊎◌, ℕ, zero, suc, ◌+◌, ◌-◌, ◌*◌, ◌^◌, ◌<◌, ◌≤◌, Bool, if◌then◌else◌, List, [], ◌∷◌, ◌++◌, length, get_or, Option, Some, None, Result, Ok, Err, IfOk, OnOk, subst, inr, refl, sym, ap, ◌∙◌, arith, length-append}
use Rattle.std.proofs.lemmas.List.{get_or_append_left, get_or-append-add, take_all}
use Rattle.byteorder.specs.Endian.{little_bytes, little_number}
use Rattle.byteorder.specs.Numbers.{little_number-reads_back}
use Rattle.elf_file.specs.Reading.{Image}
use Rattle.guest_pages.specs.Cells.{Cell}
use Rattle.guest_pages.specs.Counting.{rights_of}
use Rattle.guest_pages.specs.Operations.{byte_of, bytes_at, with_byte, written}
use Rattle.guest_pages.specs.Ranges.{Range, within, cell_at}
use Rattle.guest_pages.proofs.ByteFacts.{bytes_split, length_bytes_at, bytes_run}
use Rattle.guest_pages.proofs.RightsFacts.{within_inside, within_outside}
use Rattle.start_stack.specs.declared.fault.StackFault.{StackFault}
use Rattle.start_stack.specs.Texts.{joined, with_zero, addresses_from}
use Rattle.start_stack.specs.Block.{block, block_at, env_at, name_of, name_at, random_at, random_bytes}
use Rattle.start_stack.specs.Contents.{IsInside}
use Rattle.start_stack.specs.Found.{Finds, Holds, word_at}
use Rattle.start_stack.specs.Placing.{stack_pointer, stack_size, with_pages, with_stack}
use Rattle.guest_pages.specs.Faults.{changeable}
use Rattle.guest_pages.specs.Limits.{most_stack_bytes}
use Rattle.start_stack.specs.Words.{auxiliary, words, word_count, bytes_of}
use Rattle.start_stack.proofs.ContentFacts.{block_inside, pointer_place, words_inside}
use Rattle.start_stack.proofs.PlacedFacts.{stack_rights_at, written_rights}
use Rattle.guest_pages.proofs.CellFacts.{choice_kept, byte_kept, ranges_kept, reads_below}
use Rattle.start_stack.proofs.TextFacts.{length_addresses}
use Rattle.start_stack.proofs.WordFacts.{length_word_bytes, length_words}

-- ---- what stands after a write

put_byte : (byte : ℕ) (o : Option Cell) → rights_of o ≡ Some changeable → byte_of (with_byte byte o) ≡ byte
put_byte byte None same = cc
put_byte byte (Some c) same =
    let e : c.rights ≡ changeable = cc in
    rw e refl

written_cell : (start : ℕ) (bytes : List ℕ) (memory : List Range) (a : ℕ) → a < 2 ^ 38 → cell_at (written start bytes memory) a ≡ (if within start (length bytes) a then with_byte (get_or bytes (a - start) 0) (cell_at memory a) else cell_at memory a)
unfolding written
written_cell start bytes memory a below =
    reads_below _ a (λ k. choice_kept (within start (length bytes) k) (with_byte (get_or bytes (k - start) 0) (cell_at memory k)) (cell_at memory k) (byte_kept (get_or bytes (k - start) 0) (cell_at memory k)) (ranges_kept memory k)) below

-- a byte that was written
written_in : (start : ℕ) (bytes : List ℕ) (memory : List Range) (a : ℕ) → a < 2 ^ 38 → start ≤ a → a < start + length bytes → rights_of (cell_at memory a) ≡ Some changeable → byte_of (cell_at (written start bytes memory) a) ≡ get_or bytes (a - start) 0
written_in start bytes memory a below low high same =
    ap byte_of (written_cell start bytes memory a below
    ∙ ap (λ (b : Bool). if b then with_byte (get_or bytes (a - start) 0) (cell_at memory a) else cell_at memory a) (within_inside start (length bytes) a low high))
    ∙ put_byte (get_or bytes (a - start) 0) (cell_at memory a) same

-- a byte outside
written_out : (start : ℕ) (bytes : List ℕ) (memory : List Range) (a : ℕ) → a < 2 ^ 38 → (a < start) ⊎ (start + length bytes ≤ a) → cell_at (written start bytes memory) a ≡ cell_at memory a
written_out start bytes memory a below out =
    written_cell start bytes memory a below
    ∙ ap (λ (b : Bool). if b then with_byte (get_or bytes (a - start) 0) (cell_at memory a) else cell_at memory a) (within_outside start (length bytes) a out)

-- bytes stand where each is read
holds_by : (memory : List Range) (at : ℕ) (bytes : List ℕ) → ((i : ℕ) → i < length bytes → byte_of (cell_at memory (at + i)) ≡ get_or bytes i 0) → Holds memory at bytes
holds_by memory at bytes same =
    bytes_run memory at (length bytes) bytes 0
    (λ i below. let e : i ≡ 0 + i = omega arith in same i below ∙ ap (λ (k : ℕ). get_or bytes k 0) e) (omega arith)
    ∙ take_all (length bytes) bytes (omega arith)

words_hold : (memory : List Range) (sp at : ℕ) (bytes others : List ℕ) → IsInside sp bytes → Holds (written sp bytes (written at others (with_pages memory))) sp bytes
words_hold memory sp at bytes others inside =
    let low = inside.low in
    let high = inside.high in
    holds_by (written sp bytes (written at others (with_pages memory))) sp bytes (λ i below.
    let e : sp + i - sp ≡ i = omega arith in
    written_in sp bytes (written at others (with_pages memory)) (sp + i) (omega arith) (omega arith) (omega arith)
    (written_rights at others (with_pages memory) (sp + i) (omega arith) ∙ stack_rights_at memory (sp + i) (omega arith) (omega arith))
    ∙ ap (λ (k : ℕ). get_or bytes k 0) e)

block_holds : (memory : List Range) (sp at : ℕ) (bytes others : List ℕ) → IsInside at others → sp + length bytes ≤ at → Holds (written sp bytes (written at others (with_pages memory))) at others
block_holds memory sp at bytes others inside apart =
    let low = inside.low in
    let high = inside.high in
    holds_by (written sp bytes (written at others (with_pages memory))) at others (λ i below.
    let e : at + i - at ≡ i = omega arith in
    ap byte_of (written_out sp bytes (written at others (with_pages memory)) (at + i) (omega arith) (inr (omega arith)))
    ∙ (written_in at others (with_pages memory) (at + i) (omega arith) (omega arith) (omega arith)
    (stack_rights_at memory (at + i) (omega arith) (omega arith))
    ∙ ap (λ (k : ℕ). get_or others k 0) e))

-- ---- parts of what stands

same_parts : (a b xs ys : List ℕ) → length a ≡ length xs → a ++ b ≡ xs ++ ys → (a ≡ xs) × (b ≡ ys)
same_parts [] b [] ys size same = (refl, same)
same_parts [] b (x ∷ xs) ys size same = absurd (omega arith)
same_parts (y ∷ a) b [] ys size same = absurd (omega arith)
same_parts (y ∷ a) b (x ∷ xs) ys size same =
    let first : y ≡ x = cc in
    let rest : a ++ b ≡ xs ++ ys = cc in
    let parts = same_parts a b xs ys (omega arith) rest in
    (cc, parts.1)

pub holds_split : (memory : List Range) (at : ℕ) (xs ys : List ℕ) → Holds memory at (xs ++ ys) → Holds memory at xs × Holds memory (at + length xs) ys
holds_split memory at xs ys holds =
    let size : length xs + length ys ≡ length (xs ++ ys) = sym (length-append xs ys) in
    let whole : bytes_at memory at (length xs) ++ bytes_at memory (at + length xs) (length ys) ≡ xs ++ ys =
    sym (bytes_split memory at (length xs) (length ys)) ∙ (ap (bytes_at memory at) size ∙ holds) in
    same_parts (bytes_at memory at (length xs)) (bytes_at memory (at + length xs) (length ys)) xs ys (length_bytes_at memory at (length xs)) whole

-- each text stands at its address
texts_stand : (memory : List Range) (at : ℕ) (texts : List (List ℕ)) (k : ℕ) → Holds memory at (joined texts) → k < length texts → Holds memory (get_or (addresses_from at texts) k 0) (with_zero (get_or texts k []))
unfolding addresses_from
texts_stand memory at [] k holds low = absurd (omega arith)
texts_stand memory at (text ∷ texts) zero holds low = (holds_split memory at (with_zero text) (joined texts) holds).0
texts_stand memory at (text ∷ texts) (suc k) holds low =
    texts_stand memory (at + length (with_zero text)) texts k (holds_split memory at (with_zero text) (joined texts) holds).1 (omega arith)

-- each word is read
words_read : (memory : List Range) (at : ℕ) (list : List ℕ) (k : ℕ) → Holds memory at (bytes_of list) → k < length list → get_or list k 0 < 2 ^ 64 → word_at memory at k ≡ get_or list k 0
unfolding bytes_of
words_read memory at [] k holds low fits = absurd (omega arith)
words_read memory at (word ∷ list) zero holds low fits =
    let here : at + 8 * 0 ≡ at = omega arith in
    let first : bytes_at memory at 8 ≡ little_bytes 8 word = (holds_split memory at (little_bytes 8 word) (bytes_of list) holds).0 in
    ap (λ (a : ℕ). little_number 8 (bytes_at memory a 8)) here
    ∙ (ap (little_number 8) first ∙ little_number-reads_back 8 word [] fits)
words_read memory at (word ∷ list) (suc k) holds low fits =
    let there : at + 8 * suc k ≡ at + 8 + 8 * k = omega arith in
    ap (λ (a : ℕ). little_number 8 (bytes_at memory a 8)) there
    ∙ words_read memory (at + 8) list k (holds_split memory at (little_bytes 8 word) (bytes_of list) holds).1 (omega arith) fits

-- ---- the places of the words

part_first : (n : ℕ) (a b c : List ℕ) (k : ℕ) → k < length a → get_or (((n ∷ a) ++ 0 ∷ b) ++ 0 ∷ c) (1 + k) 0 ≡ get_or a k 0
part_first n a b c k low =
    let e : 1 + k ≡ suc k = omega arith in
    ap (λ (i : ℕ). get_or (((n ∷ a) ++ 0 ∷ b) ++ 0 ∷ c) i 0) e
    ∙ (get_or_append_left (a ++ 0 ∷ b) (0 ∷ c) 0 k (simp length-append (omega arith))
    ∙ get_or_append_left a (0 ∷ b) 0 k low)

part_zero : (n : ℕ) (a b c : List ℕ) → get_or (((n ∷ a) ++ 0 ∷ b) ++ 0 ∷ c) (1 + length a) 0 ≡ 0
part_zero n a b c =
    let e : 1 + length a ≡ suc (length a + 0) = omega arith in
    ap (λ (i : ℕ). get_or (((n ∷ a) ++ 0 ∷ b) ++ 0 ∷ c) i 0) e
    ∙ (get_or_append_left (a ++ 0 ∷ b) (0 ∷ c) 0 (length a + 0) (simp length-append (omega arith))
    ∙ get_or-append-add a (0 ∷ b) 0 0)

part_second : (n : ℕ) (a b c : List ℕ) (k : ℕ) → k < length b → get_or (((n ∷ a) ++ 0 ∷ b) ++ 0 ∷ c) (2 + length a + k) 0 ≡ get_or b k 0
part_second n a b c k low =
    let e : 2 + length a + k ≡ suc (length a + suc k) = omega arith in
    ap (λ (i : ℕ). get_or (((n ∷ a) ++ 0 ∷ b) ++ 0 ∷ c) i 0) e
    ∙ (get_or_append_left (a ++ 0 ∷ b) (0 ∷ c) 0 (length a + suc k) (simp length-append (omega arith))
    ∙ get_or-append-add a (0 ∷ b) (suc k) 0)

part_rest : (n : ℕ) (a b c : List ℕ) (k : ℕ) → get_or (((n ∷ a) ++ 0 ∷ b) ++ 0 ∷ c) (2 + length a + length b + k) 0 ≡ get_or (0 ∷ c) k 0
part_rest n a b c k =
    let size : length (a ++ 0 ∷ b) ≡ length a + 1 + length b = simp length-append (omega arith) in
    let e : 2 + length a + length b + k ≡ suc (length (a ++ 0 ∷ b) + k) = omega arith in
    ap (λ (i : ℕ). get_or (((n ∷ a) ++ 0 ∷ b) ++ 0 ∷ c) i 0) e
    ∙ get_or-append-add (a ++ 0 ∷ b) (0 ∷ c) k 0

-- ---- the stack in memory

stack_words : (image : Image) (args env : List (List ℕ)) (memory : List Range) → stack_size args env ≤ most_stack_bytes → Holds (with_stack image args env memory) (stack_pointer args env) (bytes_of (words image args env))
unfolding with_stack
stack_words image args env memory few =
    words_hold memory (stack_pointer args env) (block_at args env) (bytes_of (words image args env)) (block args env)
    (words_inside image args env (stack_pointer args env) (bytes_of (words image args env)) few refl refl)

stack_block : (image : Image) (args env : List (List ℕ)) (memory : List Range) → stack_size args env ≤ most_stack_bytes → Holds (with_stack image args env memory) (block_at args env) (block args env)
unfolding with_stack
stack_block image args env memory few =
    let before = (pointer_place args env few).1 in
    let size = length_word_bytes image args env in
    block_holds memory (stack_pointer args env) (block_at args env) (bytes_of (words image args env)) (block args env)
    (block_inside args env (block_at args env) (block args env) few refl refl) (omega arith)

-- the parts of the block stand where they begin
record Parts (args env : List (List ℕ)) (memory : List Range) : Type 0 where
  arguments : Holds memory (block_at args env) (joined args)
  environment : Holds memory (env_at args env) (joined env)
  name : Holds memory (name_at args env) (with_zero (name_of args))
  random : Holds memory (random_at args env) (random_bytes 16)

block_parts : (args env : List (List ℕ)) (memory : List Range) → Holds memory (block_at args env) (block args env) → Parts args env memory
unfolding block
block_parts args env memory holds =
    let at : ℕ = block_at args env in
    let texts : List ℕ = joined args ++ joined env in
    let named : List ℕ = (joined args ++ joined env) ++ with_zero (name_of args) in
    let first = holds_split memory (block_at args env) ((joined args ++ joined env) ++ with_zero (name_of args)) (random_bytes 16) holds in
    let second = holds_split memory (block_at args env) (joined args ++ joined env) (with_zero (name_of args)) first.0 in
    let third = holds_split memory (block_at args env) (joined args) (joined env) second.0 in
    let both = length-append (joined args) (joined env) in
    let all = length-append (joined args ++ joined env) (with_zero (name_of args)) in
    let name-is : block_at args env + length (joined args ++ joined env) ≡ name_at args env = omega arith in
    let random-is : block_at args env + length ((joined args ++ joined env) ++ with_zero (name_of args)) ≡ random_at args env = omega arith in
    record {
      arguments = third.0;
      environment = third.1;
      name = ap (λ (a : ℕ). bytes_at memory a (length (with_zero (name_of args)))) (sym name-is) ∙ second.1;
      random = ap (λ (a : ℕ). bytes_at memory a (length (random_bytes 16))) (sym random-is) ∙ first.1;
    }

-- the places of the parts among the words
word_first : (image : Image) (args env : List (List ℕ)) (k : ℕ) → k < length args → get_or (words image args env) (1 + k) 0 ≡ get_or (addresses_from (block_at args env) args) k 0
unfolding words
word_first image args env k low =
    let size = length_addresses (block_at args env) args in
    part_first (length args) (addresses_from (block_at args env) args) (addresses_from (env_at args env) env) (auxiliary image (random_at args env) (name_at args env)) k (omega arith)

word_zero : (image : Image) (args env : List (List ℕ)) → get_or (words image args env) (1 + length args) 0 ≡ 0
unfolding words
word_zero image args env =
    ap (λ (n : ℕ). get_or (words image args env) (1 + n) 0) (sym (length_addresses (block_at args env) args))
    ∙ part_zero (length args) (addresses_from (block_at args env) args) (addresses_from (env_at args env) env) (auxiliary image (random_at args env) (name_at args env))

word_second : (image : Image) (args env : List (List ℕ)) (k : ℕ) → k < length env → get_or (words image args env) (2 + length args + k) 0 ≡ get_or (addresses_from (env_at args env) env) k 0
unfolding words
word_second image args env k low =
    let size = length_addresses (env_at args env) env in
    ap (λ (n : ℕ). get_or (words image args env) (2 + n + k) 0) (sym (length_addresses (block_at args env) args))
    ∙ part_second (length args) (addresses_from (block_at args env) args) (addresses_from (env_at args env) env) (auxiliary image (random_at args env) (name_at args env)) k (omega arith)

word_rest : (image : Image) (args env : List (List ℕ)) (k : ℕ) → get_or (words image args env) (2 + length args + length env + k) 0 ≡ get_or (0 ∷ auxiliary image (random_at args env) (name_at args env)) k 0
unfolding words
word_rest image args env k =
    ap (λ (n : ℕ). get_or (words image args env) (2 + n + length env + k) 0) (sym (length_addresses (block_at args env) args))
    ∙ (ap (λ (n : ℕ). get_or (words image args env) (2 + length (addresses_from (block_at args env) args) + n + k) 0) (sym (length_addresses (env_at args env) env))
    ∙ part_rest (length args) (addresses_from (block_at args env) args) (addresses_from (env_at args env) env) (auxiliary image (random_at args env) (name_at args env)) k)

word_count_first : (image : Image) (args env : List (List ℕ)) → get_or (words image args env) 0 0 ≡ length args
unfolding words
word_count_first image args env = refl

-- what a program finds in the stack
pub found : (image : Image) (args env : List (List ℕ)) (memory : List Range) → stack_size args env ≤ most_stack_bytes → ((k : ℕ) → get_or (words image args env) k 0 < 2 ^ 64) → Finds image args env (with_stack image args env memory) (stack_pointer args env)
found image args env memory few fits =
    let whole : List Range = with_stack image args env memory in
    let sp : ℕ = stack_pointer args env in
    let size = length_words image args env in
    let parts = block_parts args env (with_stack image args env memory) (stack_block image args env memory few) in
    let read : (k : ℕ) → k < word_count args env → word_at (with_stack image args env memory) (stack_pointer args env) k ≡ get_or (words image args env) k 0 =
    λ k low. words_read (with_stack image args env memory) (stack_pointer args env) (words image args env) k (stack_words image args env memory few) (omega arith) (fits k) in
    record {
      count = read 0 (omega arith) ∙ word_count_first image args env;
      arguments = λ k low.
          let e = read (1 + k) (omega arith) ∙ word_first image args env k low in
          ap (λ (a : ℕ). bytes_at (with_stack image args env memory) a (length (with_zero (get_or args k [])))) e
          ∙ texts_stand (with_stack image args env memory) (block_at args env) args k parts.arguments low;
      arguments_end = read (1 + length args) (omega arith) ∙ word_zero image args env;
      environment = λ k low.
          let e = read (2 + length args + k) (omega arith) ∙ word_second image args env k low in
          ap (λ (a : ℕ). bytes_at (with_stack image args env memory) a (length (with_zero (get_or env k [])))) e
          ∙ texts_stand (with_stack image args env memory) (env_at args env) env k parts.environment low;
      environment_end =
          let e : 2 + length args + length env ≡ 2 + length args + length env + 0 = omega arith in
          read (2 + length args + length env) (omega arith)
          ∙ (ap (λ (n : ℕ). get_or (words image args env) n 0) e ∙ word_rest image args env 0);
      pairs = λ k low.
          let e : 3 + length args + length env + k ≡ 2 + length args + length env + suc k = omega arith in
          read (3 + length args + length env + k) (omega arith)
          ∙ (ap (λ (n : ℕ). get_or (words image args env) n 0) e ∙ word_rest image args env (suc k));
      name = parts.name;
      random = parts.random;
    }

-- the same where the answer is that the stack was placed
pub finds : (image : Image) (args env : List (List ℕ)) (memory : List Range) (result : Result ℕ StackFault) (new : List Range) → stack_size args env ≤ most_stack_bytes → ((k : ℕ) → get_or (words image args env) k 0 < 2 ^ 64) → IfOk result (λ sp. sp ≡ stack_pointer args env) → OnOk result (new ≡ with_stack image args env memory) → IfOk result (Finds image args env new)
finds image args env memory (Ok sp) new few fits pointer is =
    subst (Finds image args env new) (sym pointer)
    (subst (λ (m : List Range). Finds image args env m (stack_pointer args env)) (sym is) (found image args env memory few fits))
finds image args env memory (Err fault) new few fits pointer is = tt
