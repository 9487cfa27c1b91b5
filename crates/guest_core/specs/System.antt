-- A system: what all of it has, and members, each of which has an id. Both machines are systems: of threads, and of tasks.
-- The form is the project's own.
use Rattle.std.specs.Prelude.{ℕ, ◌==◌, if◌then◌else◌, List, [], ◌∷◌, ◌++◌, map, Option, Some, None}
use Rattle.std.specs.Option.{option_map}
use Rattle.guest_core.specs.declared.ends.End.{End}
use Rattle.host_calls.specs.Shared.{Shared}

pub record Member (X : Type 0) : Type 0 where
  pub id : ℕ
  pub self : X

-- each of the members lives; none does anything after the end
pub record System (X : Type 0) : Type 0 where
  pub shared : Shared
  pub members : List (Member X)
  pub end : Option End

-- what a member's step sees
pub record Context (X : Type 0) : Type 0 where
  pub shared : Shared
  pub id : ℕ
  pub self : X

-- what it gives: the member as it is then, none where it left, those that were added, and the end
pub record After (X : Type 0) : Type 0 where
  pub shared : Shared
  pub self : Option X
  pub added : List (Member X)
  pub end : Option End

-- ---- a member among the others

-- the one of that id
abbrev pub found : {X : Type 0} → ℕ → List (Member X) → Option X
found id [] = None
found id (member ∷ members) = if member.id == id then Some member.self else found id members

abbrev pub live_ids : {X : Type 0} → System X → List ℕ
live_ids system = map (λ member. member.id) system.members

abbrev pub in_place : {X : Type 0} → ℕ → Option X → List (Member X) → List (Member X)
in_place id None members = members
in_place id (Some x) members = record { id = id; self = x } ∷ members

-- the member of that id goes on so, or leaves
abbrev pub placed : {X : Type 0} → ℕ → Option X → List (Member X) → List (Member X)
placed id new [] = []
placed id new (member ∷ members) =
    if member.id == id then in_place member.id new members else member ∷ placed id new members

abbrev pub context_of : {X : Type 0} → ℕ → X → System X → Context X
context_of id x system = record { shared = system.shared; id = id; self = x }

-- what a step gives is put back
abbrev pub put : {X : Type 0} → ℕ → After X → System X → System X
put id after system = record {
  shared = after.shared;
  members = placed id after.self system.members ++ after.added;
  end = after.end;
}

abbrev pub with_shared : {X : Type 0} → Shared → System X → System X
with_shared shared system = record system { shared = shared }

-- a system of one member
abbrev pub alone : {X : Type 0} → Shared → ℕ → X → System X
alone shared id x = record { shared = shared; members = record { id = id; self = x } ∷ []; end = None }

-- ---- what a step gives

-- the member goes on so, and nothing else happens to the members
abbrev pub stays : {X : Type 0} → Shared → X → After X
stays shared x = record { shared = shared; self = Some x; added = []; end = None }

abbrev pub ends : {X : Type 0} → Shared → X → End → After X
ends shared x end = record { shared = shared; self = Some x; added = []; end = Some end }

abbrev pub leaves : {X : Type 0} → Shared → After X
leaves shared = record { shared = shared; self = None; added = []; end = None }

abbrev pub adds : {X : Type 0} → Shared → X → Member X → After X
adds shared x member = record { shared = shared; self = Some x; added = member ∷ []; end = None }

-- ---- what is shown of a system

abbrev pub member_shown : {X Y : Type 0} → (X → Y) → Member X → Member Y
member_shown f member = record { id = member.id; self = f member.self }

abbrev pub system_shown : {X Y : Type 0} → (X → Y) → System X → System Y
system_shown f system = record { shared = system.shared; members = map (member_shown f) system.members; end = system.end }

abbrev pub context_shown : {X Y : Type 0} → (X → Y) → Context X → Context Y
context_shown f context = record { shared = context.shared; id = context.id; self = f context.self }

abbrev pub after_shown : {X Y : Type 0} → (X → Y) → After X → After Y
after_shown f after = record {
  shared = after.shared;
  self = option_map f after.self;
  added = map (member_shown f) after.added;
  end = after.end;
}
