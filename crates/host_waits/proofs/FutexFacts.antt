-- Who still waits at a word was waiting before.
use Rattle.std.proofs.Common.{◌≡◌, ℕ, ◌-◌, nat_lt, ◌==◌, ◌&&◌, ◌||◌, not, Bool, true, false, if◌then◌else◌, List, [], ◌∷◌, map, refl, sym, ◌∙◌}
use Rattle.std.proofs.lemmas.Bool.{eqb-false, ne_eqb}
use Rattle.std.proofs.lemmas.List.Folds.{list_any-append}
use Rattle.futex_table.specs.declared.waiter.Waiter.{Waiter}
use Rattle.futex_table.specs.Waiters.{first, holds, is_at, is_of, joined, left, meets, moved, moved_to, others, requeued, unwoken}
use Rattle.futex_table.proofs.HeldFacts.{first_among, held_left, held_moved}
use Rattle.host_calls.specs.Owes.{NoneJoins}

or_right_of : (s a b : Bool) → (a ≡ true → b ≡ true) → (s || a) ≡ true → (s || b) ≡ true
or_right_of true a b so held = refl
or_right_of false a b so held = so held

or_either : (s b : Bool) → b ≡ true → (s || b) ≡ true
or_either true b held = refl
or_either false b held = held

kept_among : (taken : Bool) (thread : ℕ) (w : Waiter) (f g ws : List Waiter) → (holds thread f ≡ true → holds thread ws ≡ true) → (holds thread g ≡ true → holds thread ws ≡ true) → holds thread (if taken then f else w ∷ g) ≡ true → holds thread (w ∷ ws) ≡ true
kept_among true thread w f g ws one two held = or_either (is_of thread w) (holds thread ws) (one held)
kept_among false thread w f g ws one two held = or_right_of (is_of thread w) (holds thread g) (holds thread ws) two held

others_among : (test : Waiter → Bool) (count thread : ℕ) (ws : List Waiter) → holds thread (others test count ws) ≡ true → holds thread ws ≡ true
others_among test count thread [] held = held
others_among test count thread (w ∷ ws) held =
    kept_among (nat_lt 0 count && test w) thread w _ _ ws (others_among test (count - 1) thread ws) (others_among test count thread ws) held

either_held : (a b : Bool) (all : Bool) → (a ≡ true → all ≡ true) → (b ≡ true → all ≡ true) → (a || b) ≡ true → all ≡ true
either_held true b all one two held = one refl
either_held false b all one two held = two held

moved_among : (from to limit thread : ℕ) (ws : List Waiter) → holds thread (moved from to limit ws) ≡ true → holds thread ws ≡ true
moved_among from to limit thread ws held =
    either_held (holds thread (others (is_at from) limit ws)) (holds thread (map (moved_to to) (first (is_at from) limit ws))) (holds thread ws)
    (others_among (is_at from) limit thread ws)
    (λ among. first_among (is_at from) limit thread ws (sym (held_moved to thread (first (is_at from) limit ws)) ∙ among))
    (sym (list_any-append (is_of thread) (others (is_at from) limit ws) (map (moved_to to) (first (is_at from) limit ws))) ∙ held)

pub wake_joins : (thread at count bits : ℕ) (ws : List Waiter) → NoneJoins thread ws (unwoken at count bits ws)
wake_joins thread at count bits ws other apart held = others_among (meets at bits) count other ws held

pub requeue_joins : (thread from to wake limit : ℕ) (ws : List Waiter) → NoneJoins thread ws (requeued from to wake limit ws)
requeue_joins thread from to wake limit ws other apart held =
    others_among (is_at from) wake other ws (moved_among from to limit other (others (is_at from) wake ws) held)

left_by : (all mine now : Bool) → now ≡ (all && not mine) → now ≡ true → all ≡ true
left_by true mine now is held = refl
left_by false mine now is held = sym is ∙ held

pub leave_joins : (thread : ℕ) (ws : List Waiter) → NoneJoins thread ws (left thread ws)
leave_joins thread ws other apart held = left_by (holds other ws) (thread == other) (holds other (left thread ws)) (held_left thread other ws) held

other_held : (s mine : Bool) (all : Bool) → mine ≡ false → (all || (mine || false)) ≡ true → all ≡ true
other_held s true all apart held = cc
other_held s false true apart held = refl
other_held s false false apart held = held

pub own_joins : (thread at bits : ℕ) (ws : List Waiter) → NoneJoins thread ws (joined (record { thread = thread; at = at; bits = bits }) ws)
own_joins thread at bits ws other apart held =
    let w : Waiter = record { thread = thread; at = at; bits = bits } in
    other_held false (is_of other w) (holds other ws) (ne_eqb thread other (λ same. eqb-false other thread apart (sym same))) (sym (list_any-append (is_of other) ws (w ∷ [])) ∙ held)
