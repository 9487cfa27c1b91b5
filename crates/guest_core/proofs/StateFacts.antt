-- What the code's list of threads stands for: a thread's step is an event of the machine.
use Rattle.std.proofs.Common.{◌≡◌, ◌≢◌, ℕ, zero, suc, ◌+◌, ◌<◌, ◌≤◌, ◌==◌, true, false, cond, is_some, List, [], ◌∷◌, ◌++◌, map, length, get_or, set, Option, Some, None, Result, Ok, Err, OnOk, IfSome, refl, ap, sym, ◌∙◌, subst, append-nil, arith}
use Rattle.std.specs.Option.{option_map}
use Rattle.std.proofs.lemmas.Bool.Decides.{nat_tests}
use Rattle.guest_core.specs.declared.ends.End.{End}
use Rattle.guest_core.specs.declared.events.Event.TheVariants.{Step}
use Rattle.guest_core.specs.declared.thread.Thread as code
use Rattle.guest_core.specs.Event.{acted, event_after, row_done, settled, thread_settled, ticked}
use Rattle.guest_core.specs.Kept.{EachKeeps, IdsRise, KeepsThread}
use Rattle.guest_core.specs.Machine.{Machine, Thread}
use Rattle.guest_core.specs.Rows.{Row, Note, Take, ClearFlag, Execute, Check, Enter, Return, IsSteady, RowIsSteady, StepIsSteady, check_row, clear_row, done, enter_row, execute_row, note_row, return_row, row_of, take_at, take_row}
use Rattle.guest_core.specs.Runs.{EventIsSteady, IsSteadyAs}
use Rattle.guest_core.specs.declared.places.Place.{Place}
use Rattle.guest_core.specs.declared.places.Place.TheVariants.{Loop, Start, Window, Done}
use Rattle.guest_core.specs.State.{context, goes_on, member_of, row_after, self_of, settled_after}
use Rattle.guest_core.specs.System.{After, Member, found, placed, put}
use Rattle.host_calls.specs.declared.host.Host.{Host}
use Rattle.host_calls.specs.Host.{shared_of}
use Rattle.host_calls.specs.Marks.{Marked, OthersSettled, noted_of, still_noted}
use Rattle.host_calls.specs.Queue.{due}
use Rattle.host_calls.specs.Shared.{Shared, later_clock}
use Rattle.isa_exec.specs.Registers.{Registers}
use Rattle.guest_core.proofs.SystemFacts.{same_id}

abbrev pub members_of : Marked → List code.Thread → List (Member Thread)
members_of pending threads = map (member_of pending) threads

abbrev pub machine_of : Host → List code.Thread → Option End → Machine
machine_of host threads end = record { shared = shared_of host; members = members_of host.pending threads; end = end }

-- ---- a thread at an index

abbrev pub StandsAt : ℕ → code.Thread → List code.Thread → Type 0
StandsAt i was [] = ⊥
StandsAt zero was (thread ∷ threads) = thread ≡ was
StandsAt (suc i) was (thread ∷ threads) = StandsAt i was threads

pub stands_at : (threads : List code.Thread) (i : ℕ) (d was : code.Thread) → i < length threads → get_or threads i d ≡ was → StandsAt i was threads
stands_at [] i d was within is = absurd (omega (arith, within))
stands_at (thread ∷ threads) zero d was within is = is
stands_at (thread ∷ threads) (suc i) d was within is = stands_at threads i d was (omega (arith, within)) is

pub at_stands : (threads : List code.Thread) (i : ℕ) (was d : code.Thread) → StandsAt i was threads → get_or threads i d ≡ was
at_stands [] i was d stands = absurd stands
at_stands (thread ∷ threads) zero was d stands = stands
at_stands (thread ∷ threads) (suc i) was d stands = at_stands threads i was d stands

pub ids_of : (threads : List code.Thread) (pending : Marked) → map (λ thread. thread.id) threads ≡ map (λ member. member.id) (members_of pending threads)
ids_of [] pending = refl
ids_of (thread ∷ threads) pending = ap (λ (ids : List ℕ). thread.id ∷ ids) (ids_of threads pending)

pub regs_of : (threads : List code.Thread) (pending : Marked) → map (λ thread. thread.regs) threads ≡ map (λ member. member.self.regs) (members_of pending threads)
regs_of [] pending = refl
regs_of (thread ∷ threads) pending = ap (λ (more : List Registers). thread.regs ∷ more) (regs_of threads pending)

high_at : (threads : List code.Thread) (i low : ℕ) (was : code.Thread) (pending : Marked) → IdsRise low (members_of pending threads) → StandsAt i was threads → low ≤ was.id
high_at [] i low was pending rise stands = absurd stands
high_at (thread ∷ threads) zero low was pending rise stands = subst (λ (t : code.Thread). low ≤ t.id) stands rise.0
high_at (thread ∷ threads) (suc i) low was pending rise stands =
    let later = high_at threads i (thread.id + 1) was pending rise.1 stands in
    omega (arith, rise.0, later)

below : (a b : ℕ) → a < b → (a == b) ≡ false
below a b less = grind (arith, nat_tests, less)

below_apart : (a b : ℕ) → a < b → a ≢ b
below_apart a b less same = omega (arith, less, same)

above_apart : (a b : ℕ) → b < a → a ≢ b
above_apart a b more same = omega (arith, more, same)

pub found_at : (threads : List code.Thread) (i low : ℕ) (was : code.Thread) (pending : Marked) → IdsRise low (members_of pending threads) → StandsAt i was threads → found was.id (members_of pending threads) ≡ Some (self_of pending was)
found_at [] i low was pending rise stands = absurd stands
found_at (thread ∷ threads) zero low was pending rise stands =
    subst (λ (t : code.Thread). cond (thread.id == t.id) (Some (self_of pending thread)) (found t.id (members_of pending threads)) ≡ Some (self_of pending t)) stands (rw (same_id thread.id) refl)
found_at (thread ∷ threads) (suc i) low was pending rise stands =
    let later = high_at threads i (thread.id + 1) was pending rise.1 stands in
    rw (below thread.id was.id (omega (arith, later))) (found_at threads i (thread.id + 1) was pending rise.1 stands)

pub keeps_at : (threads : List code.Thread) (i : ℕ) (was : code.Thread) (pending : Marked) (shared : Shared) → EachKeeps shared (members_of pending threads) → StandsAt i was threads → KeepsThread shared (self_of pending was)
keeps_at [] i was pending shared each stands = absurd stands
keeps_at (thread ∷ threads) zero was pending shared each stands = subst (λ (t : code.Thread). KeepsThread shared (self_of pending t)) stands each.0
keeps_at (thread ∷ threads) (suc i) was pending shared each stands = keeps_at threads i was pending shared each.1 stands

pub any_of : (threads : List code.Thread) (i : ℕ) → i < length threads → code.Thread
any_of [] i within = absurd (omega (arith, within))
any_of (thread ∷ threads) i within = thread

pub there_at : (threads : List code.Thread) (pending : Marked) (i id : ℕ) → IdsRise 0 (members_of pending threads) → i < length threads → ((d : code.Thread) → (get_or threads i d).id ≡ id) → is_some (found id (members_of pending threads)) ≡ true
there_at threads pending i id rise within is =
    let d = any_of threads i within in
    let was = get_or threads i d in
    ap (λ (n : ℕ). is_some (found n (members_of pending threads))) (sym (is d))
    ∙ ap (λ (thread : Option Thread). is_some thread) (found_at threads i 0 was pending rise (stands_at threads i d was within refl))

pub some_there : (place : Option ℕ) (threads : List code.Thread) (pending : Marked) (id : ℕ) → IdsRise 0 (members_of pending threads) → is_some place ≡ true → IfSome place (λ i. i < length threads) → IfSome place (λ i. (d : code.Thread) → (get_or threads i d).id ≡ id) → is_some (found id (members_of pending threads)) ≡ true
some_there None threads pending id rise there within is = cc
some_there (Some i) threads pending id rise there within is = there_at threads pending i id rise within is

pub step_of : {E : Type 0} (result : Result (Unit {0}) E) (threads : List code.Thread) (i id : ℕ) (old new : Machine) → i < length threads → ((d : code.Thread) → (get_or threads i d).id ≡ id) → OnOk result ((d : code.Thread) → event_after old (Step (get_or threads i d).id) ≡ Some new) → OnOk result (event_after old (Step id) ≡ Some new)
step_of (Ok done) threads i id old new within is happens =
    let d = any_of threads i within in
    ap (λ (n : ℕ). event_after old (Step n)) (sym (is d)) ∙ happens d
step_of (Err error) threads i id old new within is happens = happens

pub stands_set : (threads : List code.Thread) (i : ℕ) (was new : code.Thread) → StandsAt i was threads → StandsAt i new (set threads i new)
stands_set [] i was new stands = absurd stands
stands_set (thread ∷ threads) zero was new stands = refl
stands_set (thread ∷ threads) (suc i) was new stands = stands_set threads i was new stands

rise_on : (threads : List code.Thread) (old pending : Marked) (low : ℕ) → IdsRise low (members_of old threads) → IdsRise low (members_of pending threads)
rise_on [] old pending low rise = tt
rise_on (thread ∷ threads) old pending low rise = (rise.0, rise_on threads old pending (thread.id + 1) rise.1)

pub rise_set : (threads : List code.Thread) (i low : ℕ) (was new : code.Thread) (old pending : Marked) → IdsRise low (members_of old threads) → StandsAt i was threads → new.id ≡ was.id → IdsRise low (members_of pending (set threads i new))
rise_set [] i low was new old pending rise stands this = absurd stands
rise_set (thread ∷ threads) zero low was new old pending rise stands this =
    let same : thread.id ≡ new.id = ap (λ (t : code.Thread). t.id) stands ∙ sym this in
    (subst (λ (n : ℕ). low ≤ n) same rise.0, subst (λ (n : ℕ). IdsRise (n + 1) (members_of pending threads)) same (rise_on threads old pending (thread.id + 1) rise.1))
rise_set (thread ∷ threads) (suc i) low was new old pending rise stands this = (rise.0, rise_set threads i (thread.id + 1) was new old pending rise.1 stands this)

-- ---- putting it back

other_settled : (old new : Marked) (shared : Shared) (id : ℕ) (thread : code.Thread) → new.queue ≡ shared.queue → OthersSettled id old new → thread.id ≢ id → thread_settled shared (member_of old thread) ≡ member_of new thread
other_settled old new shared id thread same others apart =
    let noted : still_noted (noted_of thread.id old) (due thread.id shared.queue) ≡ noted_of thread.id new = rw (← same) (sym (others thread.id apart)) in
    ap (λ (ids : List ℕ). let self : Thread = record { regs = thread.regs; place = thread.place; flag = thread.flag; noted = ids } in let member : Member Thread = record { id = thread.id; self = self } in member) noted

others_settled : (threads : List code.Thread) (low id : ℕ) (old new : Marked) (shared : Shared) → id < low → IdsRise low (members_of old threads) → new.queue ≡ shared.queue → OthersSettled id old new → map (thread_settled shared) (members_of old threads) ≡ members_of new threads
others_settled [] low id old new shared less rise same others = refl
others_settled (thread ∷ threads) low id old new shared less rise same others =
    ap (λ (member : Member Thread). member ∷ map (thread_settled shared) (members_of old threads)) (other_settled old new shared id thread same others (above_apart thread.id id (omega (arith, less, rise.0))))
    ∙ ap (λ (members : List (Member Thread)). member_of new thread ∷ members) (others_settled threads (thread.id + 1) id old new shared (omega (arith, less, rise.0)) rise.1 same others)

abbrev settled_self : ℕ → Shared → Thread → Thread
settled_self id shared thread = record thread { noted = still_noted thread.noted (due id shared.queue) }

own_settled : (id : ℕ) (x : Thread) (new : code.Thread) (pending : Marked) (shared : Shared) → new.id ≡ id → settled_self id shared x ≡ self_of pending new → thread_settled shared (record { id = id; self = x }) ≡ member_of pending new
own_settled id x new pending shared this is =
    ap (λ (self : Thread). let member : Member Thread = record { id = id; self = self } in member) is
    ∙ ap (λ (n : ℕ). let member : Member Thread = record { id = n; self = self_of pending new } in member) (sym this)

placed_settled : (threads : List code.Thread) (i low : ℕ) (was new : code.Thread) (x : Thread) (old pending : Marked) (shared : Shared) → IdsRise low (members_of old threads) → StandsAt i was threads → new.id ≡ was.id → pending.queue ≡ shared.queue → OthersSettled was.id old pending → settled_self was.id shared x ≡ self_of pending new → map (thread_settled shared) (placed was.id (Some x) (members_of old threads)) ≡ members_of pending (set threads i new)
placed_settled [] i low was new x old pending shared rise stands this same others is = absurd stands
placed_settled (thread ∷ threads) zero low was new x old pending shared rise stands this same others is =
    let here : thread.id ≡ was.id = ap (λ (t : code.Thread). t.id) stands in
    rw (here, same_id was.id)
    (ap (λ (member : Member Thread). member ∷ map (thread_settled shared) (members_of old threads)) (own_settled was.id x new pending shared this is)
    ∙ ap (λ (members : List (Member Thread)). member_of pending new ∷ members) (others_settled threads (thread.id + 1) was.id old pending shared (omega (arith, here)) rise.1 same others))
placed_settled (thread ∷ threads) (suc i) low was new x old pending shared rise stands this same others is =
    let later = high_at threads i (thread.id + 1) was old rise.1 stands in
    rw (below thread.id was.id (omega (arith, later)))
    (ap (λ (member : Member Thread). member ∷ map (thread_settled shared) (placed was.id (Some x) (members_of old threads))) (other_settled old pending shared was.id thread same others (below_apart thread.id was.id (omega (arith, later))))
    ∙ ap (λ (members : List (Member Thread)). member_of pending thread ∷ members) (placed_settled threads i (thread.id + 1) was new x old pending shared rise.1 stands this same others is))

some_is : (one other : Thread) → Some one ≡ Some other → one ≡ other
some_is one other same = cc

module _ (threads : List code.Thread) (i : ℕ) (was new : code.Thread) (old : Marked) (host : Host) (end : Option End) (rise : IdsRise 0 (members_of old threads)) (stands : StandsAt i was threads) (this : new.id ≡ was.id) (others : OthersSettled was.id old host.pending) where
  put_by : (self : Option Thread) (shared before : Shared) (added : List (Member Thread)) (told before_end : Option End) → settled_after was.id (record { shared = shared; self = self; added = added; end = told }) ≡ goes_on host new end → settled (put was.id (record { shared = shared; self = self; added = added; end = told }) (record { shared = before; members = members_of old threads; end = before_end })) ≡ machine_of host (set threads i new) end
  unfolding settled
  put_by None shared before added told before_end is = let none = ap (λ (a : After Thread). a.self) is in cc
  put_by (Some x) shared before added told before_end is =
      let shared_is : shared ≡ shared_of host = ap (λ (a : After Thread). a.shared) is in
      let none : added ≡ [] = ap (λ (a : After Thread). a.added) is in
      let end_is : told ≡ end = ap (λ (a : After Thread). a.end) is in
      let self_is : settled_self was.id shared x ≡ self_of host.pending new = some_is (settled_self was.id shared x) (self_of host.pending new) (ap (λ (a : After Thread). a.self) is) in
      let same : host.pending.queue ≡ shared.queue = ap (λ (s : Shared). s.queue) (sym shared_is) in
      let placed_is : map (thread_settled shared) (placed was.id (Some x) (members_of old threads) ++ added) ≡ members_of host.pending (set threads i new) =
      ap (λ (more : List (Member Thread)). map (thread_settled shared) (placed was.id (Some x) (members_of old threads) ++ more)) none
      ∙ ap (map (thread_settled shared)) (append-nil (placed was.id (Some x) (members_of old threads)))
      ∙ placed_settled threads i 0 was new x old host.pending shared rise stands this same others self_is in
      ap (λ (members : List (Member Thread)). let m : Machine = record { shared = shared; members = members; end = told } in m) placed_is
      ∙ ap (λ (s : Shared). let m : Machine = record { shared = s; members = members_of host.pending (set threads i new); end = told } in m) shared_is
      ∙ ap (λ (e : Option End). let m : Machine = record { shared = shared_of host; members = members_of host.pending (set threads i new); end = e } in m) end_is

  row_by : (row : Option Row) (before : Host) → row_of (context before was) ≡ row → option_map (λ one. settled_after was.id (done one (context before was))) row ≡ Some (goes_on host new end) → option_map settled (row_done was.id (self_of before.pending was) (record { shared = shared_of before; members = members_of old threads; end = None }) row) ≡ Some (machine_of host (set threads i new) end)
  row_by None before fits is = cc
  row_by (Some row) before fits is =
      let after = done row (context before was) in
      let gives : settled_after was.id after ≡ goes_on host new end = cc in
      ap (λ (m : Machine). Some m) (put_by after.self after.shared (shared_of before) after.added after.end None gives)

-- ---- time changes no row

abbrev pub now_of : Host → Host
now_of host = record host { clock = later_clock host.clock }

take_later : (place : Place) (host : Host) (was : code.Thread) → take_at place (context (now_of host) was) ≡ take_at place (context host was)
take_later Loop host was = refl
take_later Start host was = refl
take_later Window host was = refl
take_later (Done answer) host was = refl

row_later : (host : Host) (was : code.Thread) → row_of (context (now_of host) was) ≡ row_of (context host was)
unfolding row_of note_row take_row clear_row execute_row check_row enter_row return_row
row_later host was = rw (take_later was.place host was) refl

steady_by : (row : Row) (host : Host) (was : code.Thread) → RowIsSteady row (context host was) → RowIsSteady row (context (now_of host) was)
steady_by (Note instance) host was steady = steady
steady_by (Take instance) host was steady = steady
steady_by ClearFlag host was steady = steady
steady_by Execute host was steady = steady
steady_by Check host was steady = steady
steady_by Enter host was steady = steady
steady_by (Return answer) host was steady = steady

some_steady : (row : Option Row) (host : Host) (was : code.Thread) → StepIsSteady row (context host was) → StepIsSteady row (context (now_of host) was)
some_steady None host was steady = steady
some_steady (Some row) host was steady = steady_by row host was steady

pub steady_later : (host now : Host) (was : code.Thread) → now ≡ now_of host → IsSteady (context host was) → IsSteady (context now was)
steady_later host now was is steady =
    subst (λ (h : Host). IsSteady (context h was)) (sym is)
    (subst (λ (row : Option Row). StepIsSteady row (context (now_of host) was)) (sym (row_later host was)) (some_steady (row_of (context host was)) host was steady))

pub steady_at : (host : Host) (threads : List code.Thread) (i : ℕ) (was : code.Thread) (end : Option End) → IdsRise 0 (members_of host.pending threads) → StandsAt i was threads → EventIsSteady (machine_of host threads end) (Step was.id) → IsSteady (context host was)
steady_at host threads i was end rise stands steady =
    subst (λ (thread : Option Thread). IsSteadyAs was.id thread (machine_of host threads end)) (found_at threads i 0 was host.pending rise stands) steady

-- a thread's step is an event of the machine
acted_is : (host : Host) (threads : List code.Thread) (i : ℕ) (was : code.Thread) → IdsRise 0 (members_of host.pending threads) → StandsAt i was threads → let now : Host = record host { clock = later_clock host.clock } in acted (Step was.id) (machine_of host threads None) ≡ row_done was.id (self_of host.pending was) (machine_of now threads None) (row_of (context now was))
unfolding acted ticked
acted_is host threads i was rise stands = rw (found_at threads i 0 was host.pending rise stands) refl

event_is : (host next : Host) (threads : List code.Thread) (i : ℕ) (was new : code.Thread) (end : Option End) → IdsRise 0 (members_of host.pending threads) → StandsAt i was threads → new.id ≡ was.id → let now : Host = record host { clock = later_clock host.clock } in row_after (context now was) ≡ Some (goes_on next new end) → OthersSettled was.id host.pending next.pending → event_after (machine_of host threads None) (Step was.id) ≡ Some (machine_of next (set threads i new) end)
unfolding event_after
event_is host next threads i was new end rise stands this is others =
    let now : Host = record host { clock = later_clock host.clock } in
    ap (option_map settled) (acted_is host threads i was rise stands)
    ∙ row_by threads i was new host.pending next end rise stands this others (row_of (context now was)) now refl is

pub step_is : (host now next : Host) (threads : List code.Thread) (i : ℕ) (was new : code.Thread) (end : Option End) → now ≡ record host { clock = later_clock host.clock } → IdsRise 0 (members_of host.pending threads) → StandsAt i was threads → new.id ≡ was.id → row_after (context now was) ≡ Some (goes_on next new end) → OthersSettled was.id now.pending next.pending → event_after (machine_of host threads None) (Step was.id) ≡ Some (machine_of next (set threads i new) end)
step_is host now next threads i was new end ticked_is rise stands this is others =
    event_is host next threads i was new end rise stands this (subst (λ (h : Host). row_after (context h was) ≡ Some (goes_on next new end)) ticked_is is) (subst (λ (h : Host). OthersSettled was.id h.pending next.pending) ticked_is others)
