-- What is shown of a system, and putting a member back.
use Rattle.std.proofs.Common.{◌≡◌, ℕ, ◌==◌, Bool, true, false, cond, List, [], ◌∷◌, ◌++◌, map, Option, Some, None, refl, ap, sym, ◌∙◌, append-nil, arith}
use Rattle.std.specs.Option.{option_map}
use Rattle.std.proofs.lemmas.List.{map-append}
use Rattle.std.proofs.lemmas.Bool.Decides.{nat_tests}
use Rattle.guest_core.specs.declared.ends.End.{End}
use Rattle.guest_core.specs.System.{Member, System, After, found, in_place, placed, put, stays, member_shown, system_shown, after_shown}

pub same_id : (n : ℕ) → (n == n) ≡ true
same_id n = grind (arith, nat_tests)

pub number : (a b : ℕ) → (a == b) ≡ true → a ≡ b
number a b same = grind (arith, nat_tests)

module _ {X Y : Type 0} (f : X → Y) (id : ℕ) where
  found_by : (this : Bool) (member : Member X) (rest : List (Member X)) → found id (map (member_shown f) rest) ≡ option_map f (found id rest) → cond this (Some (f member.self)) (found id (map (member_shown f) rest)) ≡ option_map f (cond this (Some member.self) (found id rest))
  found_by true member rest on = refl
  found_by false member rest on = on

  -- the member of an id, shown
  pub found_shown : (members : List (Member X)) → found id (map (member_shown f) members) ≡ option_map f (found id members)
  found_shown [] = refl
  found_shown (member ∷ members) = found_by (member.id == id) member members (found_shown members)

  in_place_shown : (new : Option X) (at : ℕ) (rest : List (Member X)) → map (member_shown f) (in_place at new rest) ≡ in_place at (option_map f new) (map (member_shown f) rest)
  in_place_shown None at rest = refl
  in_place_shown (Some x) at rest = refl

  placed_by : (this : Bool) (new : Option X) (member : Member X) (rest : List (Member X)) → map (member_shown f) (placed id new rest) ≡ placed id (option_map f new) (map (member_shown f) rest) → map (member_shown f) (cond this (in_place member.id new rest) (member ∷ placed id new rest)) ≡ cond this (in_place member.id (option_map f new) (map (member_shown f) rest)) (member_shown f member ∷ placed id (option_map f new) (map (member_shown f) rest))
  placed_by true new member rest on = in_place_shown new member.id rest
  placed_by false new member rest on = ap (λ (ms : List (Member Y)). member_shown f member ∷ ms) on

  placed_shown : (new : Option X) (members : List (Member X)) → map (member_shown f) (placed id new members) ≡ placed id (option_map f new) (map (member_shown f) members)
  placed_shown new [] = refl
  placed_shown new (member ∷ members) = placed_by (member.id == id) new member members (placed_shown new members)

  -- what is shown after a member was put back is what was shown before, with the member put back
  pub put_shown : (after : After X) (system : System X) → system_shown f (put id after system) ≡ put id (after_shown f after) (system_shown f system)
  put_shown after system =
      ap (λ (ms : List (Member Y)). record { shared = after.shared; members = ms; end = after.end })
      (map-append (member_shown f) (placed id after.self system.members) after.added
      ∙ ap (λ (ms : List (Member Y)). ms ++ map (member_shown f) after.added) (placed_shown after.self system.members))

module _ {X : Type 0} (id : ℕ) where
  same_by : (this : Bool) (x : X) (member : Member X) (rest : List (Member X)) → (found id rest ≡ Some x → placed id (Some x) rest ≡ rest) → cond this (Some member.self) (found id rest) ≡ Some x → cond this (in_place member.id (Some x) rest) (member ∷ placed id (Some x) rest) ≡ member ∷ rest
  same_by true x member rest on is =
      let same : x ≡ member.self = cc in
      ap (λ (y : X). record { id = member.id; self = y } ∷ rest) same
  same_by false x member rest on is = ap (λ (ms : List (Member X)). member ∷ ms) (on is)

  placed_same : (x : X) (members : List (Member X)) → found id members ≡ Some x → placed id (Some x) members ≡ members
  placed_same x [] is = cc
  placed_same x (member ∷ members) is = same_by (member.id == id) x member members (λ on. placed_same x members on) is

  -- a member that stays as it was
  pub put_stays : (x : X) (system : System X) → system.end ≡ None → found id system.members ≡ Some x → put id (stays system.shared x) system ≡ system
  put_stays x system lives is =
      ap (λ (ms : List (Member X)). record { shared = system.shared; members = ms; end = None }) (append-nil (placed id (Some x) system.members) ∙ placed_same x system.members is)
      ∙ ap (λ (e : Option End). record { shared = system.shared; members = system.members; end = e }) (sym lives)
