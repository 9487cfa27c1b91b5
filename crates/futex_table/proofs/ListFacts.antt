-- The first so many that pass a test, and all others.
use Rattle.std.proofs.Common.{◌≡◌, ℕ, suc, ◌+◌, ◌-◌, ◌≤◌, ◌<◌, nat_lt, ◌&&◌, Bool, true, false, if◌then◌else◌, List, [], ◌∷◌, ◌++◌, length, map, refl, sym, ap, ◌∙◌, arith, length-append, ⊎_elim}
use Rattle.std.proofs.lemmas.List.{length-map}
use Rattle.std.proofs.lemmas.Bool.{and_parts, and_from, and_cases, and_left, and_right, ltb-true, ltb-false, lt-ltb, le-ltb}
use Rattle.futex_table.specs.declared.waiter.Waiter.{Waiter}
use Rattle.futex_table.specs.Waiters.{first, others, is_at, moved_to, moved}

-- ---- one waiter

pub first_next : (test : Waiter → Bool) (count : ℕ) (w : Waiter) (ws : List Waiter) → (nat_lt 0 count && test w) ≡ true → first test count (w ∷ ws) ≡ w ∷ first test (count - 1) ws
first_next test count w ws h = ap (λ (b : Bool). if b then w ∷ first test (count - 1) ws else first test count ws) h

pub first_past : (test : Waiter → Bool) (count : ℕ) (w : Waiter) (ws : List Waiter) → (nat_lt 0 count && test w) ≡ false → first test count (w ∷ ws) ≡ first test count ws
first_past test count w ws h = ap (λ (b : Bool). if b then w ∷ first test (count - 1) ws else first test count ws) h

pub others_next : (test : Waiter → Bool) (count : ℕ) (w : Waiter) (ws : List Waiter) → (nat_lt 0 count && test w) ≡ true → others test count (w ∷ ws) ≡ others test (count - 1) ws
others_next test count w ws h = ap (λ (b : Bool). if b then others test (count - 1) ws else w ∷ others test count ws) h

pub others_past : (test : Waiter → Bool) (count : ℕ) (w : Waiter) (ws : List Waiter) → (nat_lt 0 count && test w) ≡ false → others test count (w ∷ ws) ≡ w ∷ others test count ws
others_past test count w ws h = ap (λ (b : Bool). if b then others test (count - 1) ws else w ∷ others test count ws) h

pub some_left : (count : ℕ) (b : Bool) → (nat_lt 0 count && b) ≡ true → 0 < count
some_left count b h = ltb-true 0 count (and_parts (nat_lt 0 count) b h).0

-- ---- how many

counted_by : (b : Bool) (w : Waiter) (o f p g ws : List Waiter) → length o + length f ≡ length ws → length p + length g ≡ length ws → length (if b then o else w ∷ p) + length (if b then w ∷ f else g) ≡ length (w ∷ ws)
counted_by true w o f p g ws one two = omega arith
counted_by false w o f p g ws one two = omega arith

pub counted : (test : Waiter → Bool) (count : ℕ) (ws : List Waiter) → length (others test count ws) + length (first test count ws) ≡ length ws
counted test count [] = refl
counted test count (w ∷ ws) = counted_by (nat_lt 0 count && test w) w _ _ _ _ ws (counted test (count - 1) ws) (counted test count ws)

most_by : (b : Bool) (count : ℕ) (w : Waiter) (f g : List Waiter) → (b ≡ true → 0 < count) → length f ≤ count - 1 → length g ≤ count → length (if b then w ∷ f else g) ≤ count
most_by true count w f g some one two = let low = some refl in omega arith
most_by false count w f g some one two = two

pub at_most : (test : Waiter → Bool) (count : ℕ) (ws : List Waiter) → length (first test count ws) ≤ count
at_most test count [] = omega arith
at_most test count (w ∷ ws) = most_by (nat_lt 0 count && test w) count w _ _ (some_left count (test w)) (at_most test (count - 1) ws) (at_most test count ws)

pub moved_many : (from to limit : ℕ) (ws : List Waiter) → length (moved from to limit ws) ≡ length ws
moved_many from to limit ws =
    let one = length-append (others (is_at from) limit ws) (map (moved_to to) (first (is_at from) limit ws)) in
    let two = length-map (first (is_at from) limit ws) (moved_to to) in
    let all = counted (is_at from) limit ws in
    omega arith

-- ---- what stands behind them all

pub others_none : (test : Waiter → Bool) (ws : List Waiter) → others test 0 ws ≡ ws
others_none test [] = refl
others_none test (w ∷ ws) = ap (λ (l : List Waiter). w ∷ l) (others_none test ws)

next_behind : (n : ℕ) (b : Bool) → b ≡ true → (nat_lt 0 (suc n) && b) ≡ true
next_behind n b passes = and_from (nat_lt 0 (suc n)) b (lt-ltb 0 (suc n) (omega arith)) passes

past_behind : (n limit : ℕ) (b : Bool) → n ≤ limit → (nat_lt 0 limit && b) ≡ false → (nat_lt 0 n && b) ≡ false
past_behind n limit b few is =
    ⊎_elim (λ none. and_left (nat_lt 0 n) b (le-ltb 0 n (let low = ltb-false 0 limit none in omega arith))) (λ past. and_right (nat_lt 0 n) b past) (and_cases (nat_lt 0 limit) b is)

behind_by : (b : Bool) (test : Waiter → Bool) (limit : ℕ) (w : Waiter) (ws xs : List Waiter) → (nat_lt 0 limit && test w) ≡ b
    → others test (length (first test (limit - 1) ws)) (ws ++ xs) ≡ others test (limit - 1) ws ++ xs
    → others test (length (first test limit ws)) (ws ++ xs) ≡ others test limit ws ++ xs
    → others test (length (first test limit (w ∷ ws))) ((w ∷ ws) ++ xs) ≡ others test limit (w ∷ ws) ++ xs
behind_by true test limit w ws xs is one two =
    ap (λ (l : List Waiter). others test (length l) (w ∷ (ws ++ xs))) (first_next test limit w ws is)
    ∙ others_next test (suc (length (first test (limit - 1) ws))) w (ws ++ xs) (next_behind (length (first test (limit - 1) ws)) (test w) (and_parts (nat_lt 0 limit) (test w) is).1)
    ∙ ap (λ (n : ℕ). others test n (ws ++ xs)) (let e : suc (length (first test (limit - 1) ws)) - 1 ≡ length (first test (limit - 1) ws) = omega arith in e)
    ∙ one ∙ ap (λ (l : List Waiter). l ++ xs) (sym (others_next test limit w ws is))
behind_by false test limit w ws xs is one two =
    ap (λ (l : List Waiter). others test (length l) (w ∷ (ws ++ xs))) (first_past test limit w ws is)
    ∙ others_past test (length (first test limit ws)) w (ws ++ xs) (past_behind (length (first test limit ws)) limit (test w) (at_most test limit ws) is)
    ∙ ap (λ (l : List Waiter). w ∷ l) two ∙ ap (λ (l : List Waiter). l ++ xs) (sym (others_past test limit w ws is))

pub others_behind : (test : Waiter → Bool) (limit : ℕ) (ws xs : List Waiter) → others test (length (first test limit ws)) (ws ++ xs) ≡ others test limit ws ++ xs
others_behind test limit [] xs = others_none test xs
others_behind test limit (w ∷ ws) xs = behind_by (nat_lt 0 limit && test w) test limit w ws xs refl (others_behind test (limit - 1) ws xs) (others_behind test limit ws xs)
