-- Who waits after a call, and that each thread waits once.
use Rattle.std.proofs.Common.{◌≡◌, ◌≢◌, ℕ, ◌-◌, nat_lt, ◌==◌, ◌&&◌, ◌||◌, not, Bool, true, false, if◌then◌else◌, List, [], ◌∷◌, ◌++◌, map, refl, sym, ap, subst, ◌∙◌}
use Rattle.std.proofs.lemmas.Bool.{eqb-true, eqb-false, ne_eqb, eq-eqb}
use Rattle.std.proofs.lemmas.List.Folds.{list_any-append}
use Rattle.futex_table.specs.declared.waiter.Waiter.{Waiter}
use Rattle.futex_table.specs.Sound.{IsSound}
use Rattle.futex_table.specs.Waiters.{first, others, holds, is_of, is_at, moved_to, moved, left, joined}

-- ---- who waits

or_right_of : (s a b : Bool) → (a ≡ true → b ≡ true) → (s || a) ≡ true → (s || b) ≡ true
or_right_of true a b so h = refl
or_right_of false a b so h = so h

or_either : (s b : Bool) → b ≡ true → (s || b) ≡ true
or_either true b h = refl
or_either false b h = h

among_by : (b : Bool) (thread : ℕ) (w : Waiter) (f g ws : List Waiter) → (holds thread f ≡ true → holds thread ws ≡ true) → (holds thread g ≡ true → holds thread ws ≡ true) → holds thread (if b then w ∷ f else g) ≡ true → holds thread (w ∷ ws) ≡ true
among_by true thread w f g ws one two h = or_right_of (is_of thread w) (holds thread f) (holds thread ws) one h
among_by false thread w f g ws one two h = or_either (is_of thread w) (holds thread ws) (two h)

-- the first so many are among all
pub first_among : (test : Waiter → Bool) (count thread : ℕ) (ws : List Waiter) → holds thread (first test count ws) ≡ true → holds thread ws ≡ true
first_among test count thread [] h = h
first_among test count thread (w ∷ ws) h = among_by (nat_lt 0 count && test w) thread w _ _ ws (first_among test (count - 1) thread ws) (first_among test count thread ws) h

taken_bit : (s all f o : Bool) → o ≡ (all && not f) → (s ≡ true → all ≡ false) → o ≡ ((s || all) && not (s || f))
taken_bit true all f o is alone = is ∙ ap (λ (b : Bool). b && not f) (alone refl)
taken_bit false all f o is alone = is

kept_bit : (s all f o : Bool) → o ≡ (all && not f) → (s ≡ true → all ≡ false) → (f ≡ true → all ≡ true) → (s || o) ≡ ((s || all) && not f)
kept_bit true all true o is alone among = absurd (let f : ⊥ = (let one = alone refl in let two = among refl in cc) in f)
kept_bit true all false o is alone among = refl
kept_bit false all f o is alone among = is

held_by : (b : Bool) (thread : ℕ) (w : Waiter) (o f p g ws : List Waiter)
    → holds thread o ≡ (holds thread ws && not (holds thread f)) → holds thread p ≡ (holds thread ws && not (holds thread g))
    → (is_of thread w ≡ true → holds thread ws ≡ false) → (holds thread g ≡ true → holds thread ws ≡ true)
    → holds thread (if b then o else w ∷ p) ≡ (holds thread (w ∷ ws) && not (holds thread (if b then w ∷ f else g)))
held_by true thread w o f p g ws one two alone among = taken_bit (is_of thread w) (holds thread ws) (holds thread f) (holds thread o) one alone
held_by false thread w o f p g ws one two alone among = kept_bit (is_of thread w) (holds thread ws) (holds thread g) (holds thread p) two alone among

alone_in : (thread : ℕ) (w : Waiter) (ws : List Waiter) → holds w.thread ws ≡ false → is_of thread w ≡ true → holds thread ws ≡ false
alone_in thread w ws none same = subst (λ (t : ℕ). holds t ws ≡ false) (eqb-true w.thread thread same) none

-- those that were not among the first so many still wait
pub held_others : (test : Waiter → Bool) (count thread : ℕ) (ws : List Waiter) → IsSound ws → holds thread (others test count ws) ≡ (holds thread ws && not (holds thread (first test count ws)))
held_others test count thread [] sound = refl
held_others test count thread (w ∷ ws) sound =
    held_by (nat_lt 0 count && test w) thread w _ _ _ _ ws (held_others test (count - 1) thread ws sound.2) (held_others test count thread ws sound.2) (alone_in thread w ws sound.0) (first_among test count thread ws)

pub held_moved : (to thread : ℕ) (ws : List Waiter) → holds thread (map (moved_to to) ws) ≡ holds thread ws
held_moved to thread [] = refl
held_moved to thread (w ∷ ws) = ap (λ (b : Bool). is_of thread w || b) (held_moved to thread ws)

back_bit : (all f : Bool) → (f ≡ true → all ≡ true) → ((all && not f) || f) ≡ all
back_bit true true among = refl
back_bit true false among = refl
back_bit false true among = absurd (let f : ⊥ = (let one = among refl in cc) in f)
back_bit false false among = refl

-- who is moved still waits
pub held_moved_on : (from to limit thread : ℕ) (ws : List Waiter) → IsSound ws → holds thread (moved from to limit ws) ≡ holds thread ws
held_moved_on from to limit thread ws sound =
    list_any-append (is_of thread) (others (is_at from) limit ws) (map (moved_to to) (first (is_at from) limit ws))
    ∙ ap (λ (b : Bool). holds thread (others (is_at from) limit ws) || b) (held_moved to thread (first (is_at from) limit ws))
    ∙ ap (λ (b : Bool). b || holds thread (first (is_at from) limit ws)) (held_others (is_at from) limit thread ws sound)
    ∙ back_bit (holds thread ws) (holds thread (first (is_at from) limit ws)) (first_among (is_at from) limit thread ws)

-- ---- each thread waits once

none_left : (all f o : Bool) → o ≡ (all && not f) → all ≡ false → o ≡ false
none_left all f o is none = is ∙ ap (λ (b : Bool). b && not f) none

sound_others_by : (b : Bool) (w : Waiter) (o p : List Waiter) → IsSound o → holds w.thread p ≡ false → w.bits ≢ 0 → IsSound p → IsSound (if b then o else w ∷ p)
sound_others_by true w o p one none bits two = one
sound_others_by false w o p one none bits two = (none, bits, two)

pub sound_others : (test : Waiter → Bool) (count : ℕ) (ws : List Waiter) → IsSound ws → IsSound (others test count ws)
sound_others test count [] sound = tt
sound_others test count (w ∷ ws) sound =
    sound_others_by (nat_lt 0 count && test w) w _ _ (sound_others test (count - 1) ws sound.2)
    (none_left (holds w.thread ws) (holds w.thread (first test count ws)) _ (held_others test count w.thread ws sound.2) sound.0) sound.1 (sound_others test count ws sound.2)

none_among : (all f : Bool) → (f ≡ true → all ≡ true) → all ≡ false → f ≡ false
none_among all true among none = absurd (let f : ⊥ = (let one = among refl in cc) in f)
none_among all false among none = refl

sound_first_by : (b : Bool) (w : Waiter) (f g : List Waiter) → holds w.thread f ≡ false → w.bits ≢ 0 → IsSound f → IsSound g → IsSound (if b then w ∷ f else g)
sound_first_by true w f g none bits one two = (none, bits, one)
sound_first_by false w f g none bits one two = two

pub sound_first : (test : Waiter → Bool) (count : ℕ) (ws : List Waiter) → IsSound ws → IsSound (first test count ws)
sound_first test count [] sound = tt
sound_first test count (w ∷ ws) sound =
    sound_first_by (nat_lt 0 count && test w) w _ _
    (none_among (holds w.thread ws) (holds w.thread (first test (count - 1) ws)) (first_among test (count - 1) w.thread ws) sound.0) sound.1 (sound_first test (count - 1) ws sound.2) (sound_first test count ws sound.2)

sound_moved : (to : ℕ) (ws : List Waiter) → IsSound ws → IsSound (map (moved_to to) ws)
sound_moved to [] sound = tt
sound_moved to (w ∷ ws) sound = (held_moved to w.thread ws ∙ sound.0, sound.1, sound_moved to ws sound.2)

-- no thread of one list waits in the other
AreApart : List Waiter → List Waiter → Type 0
AreApart ws xs = (thread : ℕ) → holds thread ws ≡ true → holds thread xs ≡ false

neither : (a b : Bool) → a ≡ false → b ≡ false → (a || b) ≡ false
neither a b one two = rw (one, two) refl

self_held : (w : Waiter) (ws : List Waiter) → holds w.thread (w ∷ ws) ≡ true
self_held w ws = ap (λ (b : Bool). b || holds w.thread ws) (eq-eqb w.thread w.thread refl)

sound_append : (ws xs : List Waiter) → IsSound ws → IsSound xs → AreApart ws xs → IsSound (ws ++ xs)
unfolding AreApart
sound_append [] xs one two apart = two
sound_append (w ∷ ws) xs one two apart = (
  list_any-append (is_of w.thread) ws xs ∙ neither (holds w.thread ws) (holds w.thread xs) one.0 (apart w.thread (self_held w ws)),
  one.1,
  sound_append ws xs one.2 two (λ thread h. apart thread (or_either (is_of thread w) (holds thread ws) h)),
)

none_kept : (all o : Bool) → o ≡ (all && false) → o ≡ true → ⊥
none_kept true o is h = cc
none_kept false o is h = cc

only_kept : (all f o : Bool) → o ≡ (all && not f) → o ≡ true → f ≡ false
only_kept all true o is h = absurd (none_kept all o is h)
only_kept all false o is h = refl

pub sound_moved_on : (from to limit : ℕ) (ws : List Waiter) → IsSound ws → IsSound (moved from to limit ws)
unfolding AreApart
sound_moved_on from to limit ws sound =
    sound_append (others (is_at from) limit ws) (map (moved_to to) (first (is_at from) limit ws)) (sound_others (is_at from) limit ws sound) (sound_moved to _ (sound_first (is_at from) limit ws sound))
    (λ thread h. held_moved to thread (first (is_at from) limit ws) ∙ only_kept (holds thread ws) (holds thread (first (is_at from) limit ws)) (holds thread (others (is_at from) limit ws)) (held_others (is_at from) limit thread ws sound) h)

other_thread : (thread : ℕ) (w : Waiter) (ws : List Waiter) → holds w.thread ws ≡ false → holds thread ws ≡ true → is_of thread w ≡ false
other_thread thread w ws none h = ne_eqb w.thread thread (λ same. let e : holds w.thread ws ≡ holds thread ws = ap (λ (t : ℕ). holds t ws) same in let f : ⊥ = cc in f)

pub sound_joined : (w : Waiter) (ws : List Waiter) → IsSound ws → holds w.thread ws ≡ false → w.bits ≢ 0 → IsSound (joined w ws)
unfolding AreApart
sound_joined w ws sound none bits = sound_append ws (w ∷ []) sound (refl, bits, tt) (λ thread h. neither (is_of thread w) false (other_thread thread w ws none h) refl)

-- ---- a thread that leaves

zero_right : (all o : Bool) → o ≡ (all && false) → o ≡ false
zero_right true o is = is
zero_right false o is = is

gone_bit : (s n all o : Bool) → o ≡ (all && not n) → s ≡ n → o ≡ ((s || all) && not n)
gone_bit true true all o is same = zero_right all o is
gone_bit true false all o is same = absurd (let f : ⊥ = cc in f)
gone_bit false n all o is same = is

leaving_bit : (b s n all o : Bool) → o ≡ (all && not n) → (b ≡ true → s ≡ n) → (b ≡ false → s ≡ true → n ≡ false) → (if not b then (s || o) else o) ≡ ((s || all) && not n)
leaving_bit true s n all o is same apart = gone_bit s n all o is (same refl)
leaving_bit false true n all o is same apart = ap not (sym (apart refl refl))
leaving_bit false false n all o is same apart = is

held_if : (b : Bool) (thread : ℕ) (w : Waiter) (o : List Waiter) → holds thread (if b then w ∷ o else o) ≡ (if b then (is_of thread w || holds thread o) else holds thread o)
held_if true thread w o = refl
held_if false thread w o = refl

pub held_left : (tid thread : ℕ) (ws : List Waiter) → holds thread (left tid ws) ≡ (holds thread ws && not (tid == thread))
held_left tid thread [] = refl
held_left tid thread (w ∷ ws) =
    held_if (not (is_of tid w)) thread w (left tid ws)
    ∙ leaving_bit (is_of tid w) (is_of thread w) (tid == thread) (holds thread ws) (holds thread (left tid ws)) (held_left tid thread ws)
    (λ same. ap (λ (t : ℕ). t == thread) (eqb-true w.thread tid same))
    (λ apart same. ne_eqb tid thread (λ e. eqb-false w.thread tid apart (eqb-true w.thread thread same ∙ sym e)))

sound_left_by : (b : Bool) (w : Waiter) (o : List Waiter) → holds w.thread o ≡ false → w.bits ≢ 0 → IsSound o → IsSound (if b then w ∷ o else o)
sound_left_by true w o none bits sound = (none, bits, sound)
sound_left_by false w o none bits sound = sound

pub sound_left : (tid : ℕ) (ws : List Waiter) → IsSound ws → IsSound (left tid ws)
sound_left tid [] sound = tt
sound_left tid (w ∷ ws) sound =
    sound_left_by (not (is_of tid w)) w (left tid ws) (none_left (holds w.thread ws) (tid == w.thread) _ (held_left tid w.thread ws) sound.0) sound.1 (sound_left tid ws sound.2)
