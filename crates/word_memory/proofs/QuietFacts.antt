-- Where no thread has a reservation, a store ends none.
use Rattle.std.proofs.Common.{◌≡◌, ℕ, Bool, true, false, ◌||◌, ◌==◌, if◌then◌else◌, List, [], ◌∷◌, is_some, Option, Some, None, refl, ap}
use Rattle.word_memory.specs.declared.reservations.Held.{Held}
use Rattle.word_memory.specs.Reservations.{any_reserved, joined, stored_to, unless_touched}

pub joined_any : (thread : ℕ) (held : List Held) → any_reserved (joined thread held) ≡ any_reserved held
unfolding joined
joined_any thread [] = refl
joined_any thread (h ∷ held) = ap (λ (b : Bool). is_some h.reserved || b) (joined_any thread held)

neither : (x y : Bool) → (x || y) ≡ false → (x ≡ false) × (y ≡ false)
neither true y none = cc
neither false y none = (refl, none)

after_by : (same : Bool) (reserved : Option ℕ) (start length : ℕ) (h : Held) → h.reserved ≡ reserved → is_some reserved ≡ false → (if same then h else record { thread = h.thread; reserved = unless_touched start length h.reserved }) ≡ h
after_by true reserved start length h is none = refl
after_by false None start length h is none = rw is (ap (λ (r : Option ℕ). let made : Held = record { thread = h.thread; reserved = r } in made) refl)
after_by false (Some at) start length h is none = cc

pub stored_quiet : (thread start length : ℕ) (held : List Held) → any_reserved held ≡ false → stored_to thread start length held ≡ held
unfolding stored_to
stored_quiet thread start length [] none = refl
stored_quiet thread start length (h ∷ held) none =
    let both = neither (is_some h.reserved) (any_reserved held) none in
    rw (after_by (h.thread == thread) h.reserved start length h refl both.0) (ap (λ (rest : List Held). h ∷ rest) (stored_quiet thread start length held both.1))
