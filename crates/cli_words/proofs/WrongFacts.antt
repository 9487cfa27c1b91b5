-- The first wrong word of a list of words follows from that of the words behind its front.
use Rattle.std.proofs.Common.{◌≡◌, ◌↔◌, ℕ, ◌+◌, ◌<◌, ◌≤◌, Bool, true, false, List, [], ◌∷◌, ◌++◌, length, take, drop, refl, sym, ap, ◌∙◌, subst, append_assoc, add-one, arith}
use Rattle.std.proofs.lemmas.Grind.{common_steps}
use Rattle.std.proofs.lemmas.List.{take-append-drop, take-take}
use Rattle.cli_words.specs.FirstWrong.{IsFirstWrongOf}

take_more : (word : List ℕ) (words : List (List ℕ)) (index : ℕ) → take (index + 1) (word ∷ words) ≡ word ∷ take index words
take_more word words index = rw add-one refl

-- behind one word
pub behind : (Accepted Later : List (List ℕ) → Type 0) (word : List ℕ) (words : List (List ℕ)) (index : ℕ) → ((rest : List (List ℕ)) → Accepted (word ∷ rest) ↔ Later rest) → IsFirstWrongOf Later words index → IsFirstWrongOf Accepted (word ∷ words) (index + 1)
behind Accepted Later word words index same first = record {
  within = let few = first.within in let size : length (word ∷ words) ≡ length words + 1 = omega arith in omega arith;
  before = (first.before.0, rw (take_more word words index) ((same (take index words ++ first.before.0)).1 first.before.1));
  wrong = λ inside rest accepted.
      let size : length (word ∷ words) ≡ length words + 1 = omega arith in
      first.wrong (omega arith) rest ((same (take (index + 1) words ++ rest)).0 (rw (take_more word words (index + 1)) at accepted));
  missing = λ all accepted.
      let size : length (word ∷ words) ≡ length words + 1 = omega arith in
      first.missing (omega arith) ((same words).0 accepted);
}

-- at another spelling of the index, and of the words
pub at_index : (Accepted : List (List ℕ) → Type 0) (words : List (List ℕ)) (one other : ℕ) → one ≡ other → IsFirstWrongOf Accepted words one → IsFirstWrongOf Accepted words other
at_index Accepted words one other same first = let family : ℕ → Type 0 = λ n. IsFirstWrongOf Accepted words n in subst family same first

pub of_words : (Accepted : List (List ℕ) → Type 0) (one other : List (List ℕ)) (index : ℕ) → one ≡ other → IsFirstWrongOf Accepted one index → IsFirstWrongOf Accepted other index
of_words Accepted one other index same first = let family : List (List ℕ) → Type 0 = λ words. IsFirstWrongOf Accepted words index in subst family same first

-- behind more of them
pub behind_front : (Accepted : List (List ℕ) → Type 0) (front words : List (List ℕ)) (index : ℕ) → IsFirstWrongOf (λ (rest : List (List ℕ)). Accepted (front ++ rest)) words index → IsFirstWrongOf Accepted (front ++ words) (length front + index)
behind_front Accepted [] words index first = at_index Accepted words index (0 + index) (omega arith) first
behind_front Accepted (word ∷ front) words index first =
    let inner = behind_front (λ (rest : List (List ℕ)). Accepted (word ∷ rest)) front words index first in
    let outer = behind Accepted (λ (rest : List (List ℕ)). Accepted (word ∷ rest)) word (front ++ words) (length front + index) (λ rest. ((λ h. h), λ h. h)) inner in
    let size : length (word ∷ front) ≡ length front + 1 = omega arith in
    at_index Accepted (word ∷ (front ++ words)) (length front + index + 1) (length (word ∷ front) + index) (omega arith) outer

-- where the same lists are accepted
pub of_same : (Accepted Later : List (List ℕ) → Type 0) (words : List (List ℕ)) (index : ℕ) → ((rest : List (List ℕ)) → Accepted rest ↔ Later rest) → IsFirstWrongOf Later words index → IsFirstWrongOf Accepted words index
of_same Accepted Later words index same first = record {
  within = first.within;
  before = (first.before.0, (same (take index words ++ first.before.0)).1 first.before.1);
  wrong = λ inside rest accepted. first.wrong inside rest ((same (take (index + 1) words ++ rest)).0 accepted);
  missing = λ all accepted. first.missing all ((same words).0 accepted);
}

-- ---- in front

-- no word stands in front, or none that may
abbrev pub IsNone : (List ℕ → Type 0) → List (List ℕ) → Type 0
IsNone Good words = (word : List ℕ) (rest : List (List ℕ)) → words ≡ word ∷ rest → Good word → ⊥

-- then it is the first wrong one, or it is missing
pub here_wrong : (Accepted : List (List ℕ) → Type 0) (Good : List ℕ → Type 0) (words rest : List (List ℕ)) → Accepted rest → (Accepted [] → ⊥) → ((word : List ℕ) (more : List (List ℕ)) → Accepted (word ∷ more) → Good word) → IsNone Good words → IsFirstWrongOf Accepted words 0
here_wrong Accepted Good [] rest good none begins bad = record {
  within = omega arith;
  before = (rest, good);
  wrong = λ few more accepted. absurd (omega arith);
  missing = λ all accepted. none accepted;
}
here_wrong Accepted Good (word ∷ words) rest good none begins bad = record {
  within = omega arith;
  before = (rest, good);
  wrong = λ few more accepted. bad word words refl (begins word more accepted);
  missing = λ all accepted. absurd (omega arith);
}

pub none_there : (Good : List ℕ → Type 0) (words : List (List ℕ)) → words ≡ [] → IsNone Good words
none_there Good words none word rest form good = cc

pub bad_there : (test : List ℕ → Bool) (words : List (List ℕ)) (word : List ℕ) (rest : List (List ℕ)) → words ≡ word ∷ rest → test word ≡ false → IsNone (λ (w : List ℕ). test w ≡ true) words
bad_there test words word rest is bad other more form good =
    let same : other ≡ word = cc in
    let holds : test word ≡ true = rw same at good in
    cc

-- ---- there is one

-- what stands up to a place, in two parts
parts_of : (words : List (List ℕ)) (one other : ℕ) → one ≤ other → take other words ≡ take one words ++ drop one (take other words)
parts_of words one other order =
    let whole = take-append-drop one (take other words) in
    let shorter : take one (take other words) ≡ take one words = grind (arith, take-take, common_steps) in
    sym whole ∙ ap (λ (front : List (List ℕ)). front ++ drop one (take other words)) shorter

none_earlier : (Accepted : List (List ℕ) → Type 0) (words : List (List ℕ)) (one other : ℕ) → IsFirstWrongOf Accepted words one → IsFirstWrongOf Accepted words other → one < other → ⊥
none_earlier Accepted words one other first second order =
    let within = second.within in
    let rest = second.before.0 in
    let front = take (one + 1) words in
    let middle = drop (one + 1) (take other words) in
    let split : take other words ++ rest ≡ front ++ (middle ++ rest) = ap (λ (ws : List (List ℕ)). ws ++ rest) (parts_of words (one + 1) other (omega arith)) ∙ append_assoc front middle rest in
    first.wrong (omega arith) (middle ++ rest) (subst Accepted split second.before.1)

pub one_first_wrong : (Accepted : List (List ℕ) → Type 0) (words : List (List ℕ)) (one other : ℕ) → IsFirstWrongOf Accepted words one → IsFirstWrongOf Accepted words other → one ≡ other
one_first_wrong Accepted words one other first second =
    let not_before : one < other → ⊥ = none_earlier Accepted words one other first second in
    let not_after : other < one → ⊥ = none_earlier Accepted words other one second first in
    omega arith

-- accepted words have none
pub not_accepted : (Accepted : List (List ℕ) → Type 0) (words : List (List ℕ)) (index : ℕ) → IsFirstWrongOf Accepted words index → Accepted words → ⊥
not_accepted Accepted words index first accepted =
    let within = first.within in
    let whole = take-append-drop (index + 1) words in
    let outside : index < length words → ⊥ = λ inside. first.wrong inside (drop (index + 1) words) (subst Accepted (sym whole) accepted) in
    first.missing (omega arith) accepted
