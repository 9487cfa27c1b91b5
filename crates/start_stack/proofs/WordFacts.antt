-- The words as they are made, one part after the other, and how many they are.
use Rattle.std.proofs.Common.{◌≡◌, ℕ, ◌+◌, ◌*◌, List, [], ◌∷◌, ◌++◌, length, refl, ap, ◌∙◌, arith, length-append, append_assoc}
use Rattle.elf_file.specs.Reading.{Image}
use Rattle.start_stack.specs.Texts.{joined, addresses_from}
use Rattle.start_stack.specs.Block.{name_of, block_at, env_at, name_at, random_at}
use Rattle.start_stack.specs.Words.{auxiliary, words, word_count, bytes_of}
use Rattle.start_stack.proofs.TextFacts.{length_addresses, length_bytes}

parts : (n : ℕ) (a b c : List ℕ) → ((((([] ++ n ∷ []) ++ a) ++ 0 ∷ []) ++ b) ++ 0 ∷ []) ++ c ≡ ((n ∷ a) ++ 0 ∷ b) ++ 0 ∷ c
parts n a b c = simp append_assoc

-- each list is the one before it and a part
pub chained : (n : ℕ) (a b c w0 w1 w2 w3 w4 w5 w6 : List ℕ) → w0 ≡ [] → w1 ≡ w0 ++ n ∷ [] → w2 ≡ w1 ++ a → w3 ≡ w2 ++ 0 ∷ [] → w4 ≡ w3 ++ b → w5 ≡ w4 ++ 0 ∷ [] → w6 ≡ w5 ++ c → w6 ≡ ((((([] ++ n ∷ []) ++ a) ++ 0 ∷ []) ++ b) ++ 0 ∷ []) ++ c
chained n a b c w0 w1 w2 w3 w4 w5 w6 e0 e1 e2 e3 e4 e5 e6 =
    rw (e6, e5, e4, e3, e2, e1, e0) refl

-- the parts, one after the other
pub words_made : (image : Image) (args env : List (List ℕ)) (at behind name random : ℕ) → at ≡ block_at args env → behind ≡ at + length (joined args) → name ≡ behind + length (joined env) → random ≡ name + length (name_of args) + 1 → ((((([] ++ length args ∷ []) ++ addresses_from at args) ++ 0 ∷ []) ++ addresses_from behind env) ++ 0 ∷ []) ++ auxiliary image random name ≡ words image args env
unfolding words
words_made image args env at behind name random is-at is-behind is-name is-random =
    let behind-is : behind ≡ env_at args env = is-behind ∙ ap (λ (a : ℕ). a + length (joined args)) is-at in
    let name-is : name ≡ name_at args env = is-name ∙ ap (λ (a : ℕ). a + length (joined env)) behind-is in
    let zero-is = length-append (name_of args) (0 ∷ []) in
    let random-is : random ≡ random_at args env = omega arith in
    parts (length args) (addresses_from at args) (addresses_from behind env) (auxiliary image random name)
    ∙ (ap (λ (a : ℕ). ((length args ∷ addresses_from a args) ++ 0 ∷ addresses_from behind env) ++ 0 ∷ auxiliary image random name) is-at
    ∙ (ap (λ (a : ℕ). ((length args ∷ addresses_from (block_at args env) args) ++ 0 ∷ addresses_from a env) ++ 0 ∷ auxiliary image random name) behind-is
    ∙ (ap (λ (a : ℕ). ((length args ∷ addresses_from (block_at args env) args) ++ 0 ∷ addresses_from (env_at args env) env) ++ 0 ∷ auxiliary image a name) random-is
    ∙ ap (λ (a : ℕ). ((length args ∷ addresses_from (block_at args env) args) ++ 0 ∷ addresses_from (env_at args env) env) ++ 0 ∷ auxiliary image (random_at args env) a) name-is)))

length_parts : (n : ℕ) (a b c : List ℕ) → length (((n ∷ a) ++ 0 ∷ b) ++ 0 ∷ c) ≡ length a + length b + length c + 3
length_parts n a b c = simp length-append (omega arith)

pub length_words : (image : Image) (args env : List (List ℕ)) → length (words image args env) ≡ word_count args env
unfolding words
length_words image args env =
    let first = length_addresses (block_at args env) args in
    let second = length_addresses (env_at args env) env in
    let sum = length_parts (length args) (addresses_from (block_at args env) args) (addresses_from (env_at args env) env) (auxiliary image (random_at args env) (name_at args env)) in
    let pairs : length (auxiliary image (random_at args env) (name_at args env)) ≡ 28 = refl in
    omega arith

-- how many bytes the words have
pub length_word_bytes : (image : Image) (args env : List (List ℕ)) → length (bytes_of (words image args env)) ≡ 8 * word_count args env
length_word_bytes image args env =
    let e = length_bytes (words image args env) in
    let h = length_words image args env in
    omega arith
