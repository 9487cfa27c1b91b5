-- Marks on pending instances: what notes, takes and sends do to what each thread has noted.
use Rattle.std.proofs.Common.{◌≡◌, ◌≢◌, ℕ, zero, suc, ◌+◌, ◌<◌, ◌≤◌, ◌==◌, ◌&&◌, ◌||◌, Bool, true, false, not, cond, List, [], ◌∷◌, ◌++◌, map, filter, get_or, set, Option, Some, None, refl, ap, sym, ◌∙◌, subst, arith}
use Rattle.std.specs.Prelude.{position}
use Rattle.std.specs.List.{find, position_from, remove}
use Rattle.std.proofs.lemmas.Bool.Decides.{nat_tests}
use Rattle.std.proofs.lemmas.Grind.{common_steps}
use Rattle.std.proofs.lemmas.Iterator.Adapters.{position_from-zero}
use Rattle.std.proofs.lemmas.List.Folds.{list_any-append}
use Rattle.host_calls.specs.declared.queue.Instance.{Instance}
use Rattle.host_calls.specs.declared.queue.Sent.{Sent}
use Rattle.host_calls.specs.Marks.{Marked, IsSettled, NotesFirst, TakesFirst, first_new, is_noted, noted_among, still_noted}
use Rattle.host_calls.specs.Queue.{AreRising, Queue, first_of, is_empty}

abbrev pub instances_of : List Sent → List Instance
instances_of sent = map (λ one. one.instance) sent

abbrev pub marks_of : List Sent → List Bool
marks_of sent = map (λ one. one.noted) sent

abbrev pub marked : List Sent → ℕ → Marked
marked sent next = record { queue = record { pending = instances_of sent; next_id = next }; marks = marks_of sent }

abbrev its : ℕ → List Sent → List ℕ
its thread sent = noted_among thread (instances_of sent) (marks_of sent)

abbrev dues : ℕ → List Sent → List Instance
dues thread sent = filter (λ instance. instance.thread == thread) (instances_of sent)

-- ---- numbers

same_number : (n : ℕ) → (n == n) ≡ true
same_number n = grind (arith, nat_tests)

apart_number : (a b : ℕ) → a < b → (a == b) ≡ false
apart_number a b less = grind (arith, nat_tests, less)

apart_above : (a b : ℕ) → b < a → (a == b) ≡ false
apart_above a b more = grind (arith, nat_tests, more)

other_number : (a b : ℕ) → a ≢ b → (a == b) ≡ false
other_number a b apart = grind (arith, nat_tests, apart)

is_number : (a b : ℕ) → (a == b) ≡ true → a ≡ b
is_number a b same = grind (arith, nat_tests)

-- ---- the first of a list that passes a test

abbrev FirstOf : (Sent → Bool) → ℕ → Sent → List Sent → Type 0
FirstOf p n e [] = ⊥
FirstOf p zero e (x ∷ xs) = (p x ≡ true) × (x ≡ e)
FirstOf p (suc n) e (x ∷ xs) = (p x ≡ false) × FirstOf p n e xs

record Found (p : Sent → Bool) (from k : ℕ) (sent : List Sent) : Type 0 where
  n : ℕ
  at : k ≡ n + from
  one : Sent
  first : FirstOf p n one sent

found_by : (test : Bool) (p : Sent → Bool) (x : Sent) (sent : List Sent) (from k : ℕ) → p x ≡ test → (position_from p (from + 1) sent ≡ Some k → Found p (from + 1) k sent) → cond test (Some from) (position_from p (from + 1) sent) ≡ Some k → Found p from k (x ∷ sent)
found_by true p x sent from k is later same = record { n = 0; at = (let equal : from ≡ k = cc in omega (arith, equal)); one = x; first = (is, refl) }
found_by false p x sent from k is later same =
    let rest = later same in
    record { n = suc rest.n; at = omega (arith, rest.at); one = rest.one; first = (is, rest.first) }

found : (p : Sent → Bool) (sent : List Sent) (from k : ℕ) → position_from p from sent ≡ Some k → Found p from k sent
found p [] from k is = cc
found p (x ∷ sent) from k is = found_by (p x) p x sent from k refl (found p sent (from + 1) k) is

-- what a search answers, of the list that it was handed
pub placed : (p : Sent → Bool) (list items : List Sent) (result place : Option ℕ) → result ≡ position p list → list ≡ items → result ≡ place → position p items ≡ place
placed p list items result place is same at = ap (position p) (sym same) ∙ sym is ∙ at

from_start : (p : Sent → Bool) (sent : List Sent) (place : Option ℕ) → position p sent ≡ place → position_from p 0 sent ≡ place
from_start p sent place is = sym (position_from-zero p sent) ∙ is

first_is : (p : Sent → Bool) (n : ℕ) (e : Sent) (sent : List Sent) (d : Sent) → FirstOf p n e sent → get_or sent n d ≡ e
first_is p n e [] d first = absurd first
first_is p zero e (x ∷ sent) d first = first.1
first_is p (suc n) e (x ∷ sent) d first = first_is p n e sent d first.1

first_passes : (p : Sent → Bool) (n : ℕ) (e : Sent) (sent : List Sent) → FirstOf p n e sent → p e ≡ true
first_passes p n e [] first = absurd first
first_passes p zero e (x ∷ sent) first = subst (λ (s : Sent). p s ≡ true) first.1 first.0
first_passes p (suc n) e (x ∷ sent) first = first_passes p n e sent first.1

-- the ids of those further behind are greater
first_high : (p : Sent → Bool) (n : ℕ) (e : Sent) (sent : List Sent) (low next : ℕ) → AreRising low (instances_of sent) next → FirstOf p n e sent → low ≤ e.instance.id
first_high p n e [] low next rising first = absurd first
first_high p zero e (x ∷ sent) low next rising first = subst (λ (s : Sent). low ≤ s.instance.id) first.1 rising.0
first_high p (suc n) e (x ∷ sent) low next rising first =
    let later = first_high p n e sent (x.instance.id + 1) next rising.1 first.1 in
    omega (arith, rising.0, later)

-- ---- noted ids are those of instances

none_by : (mark : Bool) (x : Instance) (id : ℕ) (ids : List ℕ) → x.id < id → is_noted ids x ≡ false → is_noted (cond mark (id ∷ ids) ids) x ≡ false
none_by true x id ids low none = rw (apart_number x.id id low) none
none_by false x id ids low none = none

none_below : (thread : ℕ) (sent : List Sent) (low next : ℕ) (x : Instance) → AreRising low (instances_of sent) next → x.id < low → is_noted (its thread sent) x ≡ false
none_below thread [] low next x rising below = refl
none_below thread (one ∷ sent) low next x rising below =
    none_by (one.noted && (one.instance.thread == thread)) x one.instance.id (its thread sent) (omega (arith, rising.0, below))
    (none_below thread sent (one.instance.id + 1) next x rising.1 (omega (arith, rising.0, below)))

-- ---- what is due and passes a test that tells what is noted

abbrev Tells : ℕ → List Sent → ℕ → (Instance → Bool) → Type 0
Tells thread sent low p = (x : Instance) → low ≤ x.id → p x ≡ is_noted (its thread sent) x

tells_by : (mark : Bool) (p : Instance → Bool) (x : Instance) (id : ℕ) (ids : List ℕ) → id + 1 ≤ x.id → p x ≡ is_noted (cond mark (id ∷ ids) ids) x → p x ≡ is_noted ids x
tells_by true p x id ids above is = is ∙ (rw (apart_above x.id id (omega (arith, above))) refl)
tells_by false p x id ids above is = is

tells_on : (thread : ℕ) (one : Sent) (sent : List Sent) (low : ℕ) (p : Instance → Bool) → low ≤ one.instance.id → Tells thread (one ∷ sent) low p → Tells thread sent (one.instance.id + 1) p
tells_on thread one sent low p high tells x above =
    tells_by (one.noted && (one.instance.thread == thread)) p x one.instance.id (its thread sent) above (tells x (omega (arith, high, above)))

ids_by : (own mark passes : Bool) (p : Instance → Bool) (one : Instance) (dues : List Instance) (ids : List ℕ) → p one ≡ passes → (own ≡ true → passes ≡ mark) → map (λ instance. instance.id) (filter p dues) ≡ ids → map (λ instance. instance.id) (filter p (cond own (one ∷ dues) dues)) ≡ cond (mark && own) (one.id ∷ ids) ids
ids_by true true true p one dues ids is same rest = rw is (ap (λ (more : List ℕ). one.id ∷ more) rest)
ids_by true false false p one dues ids is same rest = rw is rest
ids_by true true false p one dues ids is same rest = let wrong = same refl in cc
ids_by true false true p one dues ids is same rest = let wrong = same refl in cc
ids_by false true passes p one dues ids is same rest = rest
ids_by false false passes p one dues ids is same rest = rest

head_told : (mark own : Bool) (thread : ℕ) (one : Instance) (sent : List Sent) (next : ℕ) → AreRising (one.id + 1) (instances_of sent) next → own ≡ true → is_noted (cond (mark && own) (one.id ∷ its thread sent) (its thread sent)) one ≡ mark
head_told true true thread one sent next rising this = rw (same_number one.id) refl
head_told false true thread one sent next rising this = none_below thread sent (one.id + 1) next one rising (omega arith)
head_told mark false thread one sent next rising this = cc

passing : (thread : ℕ) (sent : List Sent) (low next : ℕ) (p : Instance → Bool) → AreRising low (instances_of sent) next → Tells thread sent low p → map (λ instance. instance.id) (filter p (dues thread sent)) ≡ its thread sent
passing thread [] low next p rising tells = refl
passing thread (one ∷ sent) low next p rising tells =
    ids_by (one.instance.thread == thread) one.noted (p one.instance) p one.instance (dues thread sent) (its thread sent) refl
    (λ own. tells one.instance rising.0 ∙ head_told one.noted (one.instance.thread == thread) thread one.instance sent next rising.1 own)
    (passing thread sent (one.instance.id + 1) next p rising.1 (tells_on thread one sent low p rising.0 tells))

-- what is noted is due, and in the order of ids
pub own_settled : (thread : ℕ) (sent : List Sent) (next : ℕ) → AreRising 0 (instances_of sent) next → still_noted (its thread sent) (dues thread sent) ≡ its thread sent
own_settled thread sent next rising = passing thread sent 0 next (is_noted (its thread sent)) rising (λ x high. refl)

pub all_settled : (sent : List Sent) (next : ℕ) → AreRising 0 (instances_of sent) next → (of : ℕ) → IsSettled of (marked sent next) (marked sent next)
all_settled sent next rising of = sym (own_settled of sent next rising)

-- ---- the first due instance that isn't noted

abbrev pub fresh : ℕ → Sent → Bool
fresh thread one = (one.instance.thread == thread) && not one.noted

find_by : (own mark passes : Bool) (p : Instance → Bool) (one : Instance) (dues : List Instance) (found : Option Instance) → p one ≡ passes → (own ≡ true → passes ≡ mark) → find (λ x. not (p x)) dues ≡ found → find (λ x. not (p x)) (cond own (one ∷ dues) dues) ≡ cond (own && not mark) (Some one) found
find_by true true true p one dues found is same rest = rw is rest
find_by true false false p one dues found is same rest = rw is refl
find_by true true false p one dues found is same rest = let wrong = same refl in cc
find_by true false true p one dues found is same rest = let wrong = same refl in cc
find_by false mark passes p one dues found is same rest = rest

abbrev first_fresh : ℕ → List Sent → Option Instance
first_fresh thread [] = None
first_fresh thread (one ∷ sent) = cond (fresh thread one) (Some one.instance) (first_fresh thread sent)

finding : (thread : ℕ) (sent : List Sent) (low next : ℕ) (p : Instance → Bool) → AreRising low (instances_of sent) next → Tells thread sent low p → find (λ x. not (p x)) (dues thread sent) ≡ first_fresh thread sent
finding thread [] low next p rising tells = refl
finding thread (one ∷ sent) low next p rising tells =
    find_by (one.instance.thread == thread) one.noted (p one.instance) p one.instance (dues thread sent) (first_fresh thread sent) refl
    (λ own. tells one.instance rising.0 ∙ head_told one.noted (one.instance.thread == thread) thread one.instance sent next rising.1 own)
    (finding thread sent (one.instance.id + 1) next p rising.1 (tells_on thread one sent low p rising.0 tells))

new_is : (thread : ℕ) (sent : List Sent) (next : ℕ) → AreRising 0 (instances_of sent) next → first_new (dues thread sent) (its thread sent) ≡ first_fresh thread sent
new_is thread sent next rising = finding thread sent 0 next (is_noted (its thread sent)) rising (λ x high. refl)

fresh_at : (thread n : ℕ) (e : Sent) (sent : List Sent) → FirstOf (fresh thread) n e sent → first_fresh thread sent ≡ Some e.instance
fresh_at thread n e [] first = absurd first
fresh_at thread zero e (x ∷ sent) first = rw first.0 (ap (λ (s : Sent). Some s.instance) first.1)
fresh_at thread (suc n) e (x ∷ sent) first = rw first.0 (fresh_at thread n e sent first.1)

fresh_none_by : (test : Bool) (thread : ℕ) (x : Sent) (sent : List Sent) (from : ℕ) → (position_from (fresh thread) (from + 1) sent ≡ None → first_fresh thread sent ≡ None) → cond test (Some from) (position_from (fresh thread) (from + 1) sent) ≡ None → cond test (Some x.instance) (first_fresh thread sent) ≡ None
fresh_none_by true thread x sent from rest is = cc
fresh_none_by false thread x sent from rest is = rest is

fresh_none : (thread : ℕ) (sent : List Sent) (from : ℕ) → position_from (fresh thread) from sent ≡ None → first_fresh thread sent ≡ None
fresh_none thread [] from is = refl
fresh_none thread (x ∷ sent) from is = fresh_none_by (fresh thread x) thread x sent from (fresh_none thread sent (from + 1)) is

place_is : (n k : ℕ) → k ≡ n + 0 → n ≡ k
place_is n k at = omega (arith, at)

pub new_there : (thread : ℕ) (sent : List Sent) (next k : ℕ) (d : Sent) → AreRising 0 (instances_of sent) next → position (fresh thread) sent ≡ Some k → first_new (dues thread sent) (its thread sent) ≡ Some (get_or sent k d).instance
new_there thread sent next k d rising is =
    let there = found (fresh thread) sent 0 k (from_start (fresh thread) sent (Some k) is) in
    new_is thread sent next rising
    ∙ fresh_at thread there.n there.one sent there.first
    ∙ ap (λ (s : Sent). Some s.instance) (sym (first_is (fresh thread) there.n there.one sent d there.first))
    ∙ ap (λ (n : ℕ). Some (get_or sent n d).instance) (place_is there.n k there.at)

pub new_none : (thread : ℕ) (sent : List Sent) (next : ℕ) → AreRising 0 (instances_of sent) next → position (fresh thread) sent ≡ None → first_new (dues thread sent) (its thread sent) ≡ None
new_none thread sent next rising is = new_is thread sent next rising ∙ fresh_none thread sent 0 (from_start (fresh thread) sent None is)

-- ---- a note

abbrev noted_one : Sent → Sent
noted_one one = record { instance = one.instance; noted = true }

same_instances : (p : Sent → Bool) (n : ℕ) (e : Sent) (sent : List Sent) → FirstOf p n e sent → instances_of (set sent n (noted_one e)) ≡ instances_of sent
same_instances p n e [] first = absurd first
same_instances p zero e (x ∷ sent) first = ap (λ (s : Sent). s.instance ∷ instances_of sent) (sym first.1)
same_instances p (suc n) e (x ∷ sent) first = ap (λ (rest : List Instance). x.instance ∷ rest) (same_instances p n e sent first.1)

either_one : (mark : Bool) (x : Instance) (id : ℕ) (before after : List ℕ) (this : Bool) → is_noted after x ≡ (is_noted before x || this) → is_noted (cond mark (id ∷ after) after) x ≡ (is_noted (cond mark (id ∷ before) before) x || this)
either_one true x id before after this is = grind (arith, common_steps, is)
either_one false x id before after this is = is

fresh_parts : (own mark : Bool) → (own && not mark) ≡ true → (own ≡ true) × (mark ≡ false)
fresh_parts true false is = (refl, refl)
fresh_parts true true is = cc
fresh_parts false mark is = cc

swap_or : (this before : Bool) → (this || before) ≡ (before || this)
swap_or true true = refl
swap_or true false = refl
swap_or false true = refl
swap_or false false = refl

noted_more : (thread n : ℕ) (e : Sent) (sent : List Sent) (x : Instance) → FirstOf (fresh thread) n e sent → is_noted (its thread (set sent n (noted_one e))) x ≡ (is_noted (its thread sent) x || (x.id == e.instance.id))
noted_more thread n e [] x first = absurd first
noted_more thread zero e (one ∷ sent) x first =
    let parts = fresh_parts (one.instance.thread == thread) one.noted first.0 in
    let own : (e.instance.thread == thread) ≡ true = subst (λ (s : Sent). (s.instance.thread == thread) ≡ true) first.1 parts.0 in
    rw (parts.1, own) (swap_or (x.id == e.instance.id) (is_noted (its thread sent) x))
noted_more thread (suc n) e (one ∷ sent) x first =
    either_one (one.noted && (one.instance.thread == thread)) x one.instance.id (its thread sent) (its thread (set sent n (noted_one e))) (x.id == e.instance.id) (noted_more thread n e sent x first.1)

not_own : (thread other of : ℕ) → (of == thread) ≡ true → other ≢ thread → (of == other) ≡ false
not_own thread other of own apart = other_number of other (λ same. apart (sym same ∙ is_number of thread own))

false_and : (mark : Bool) → (mark && false) ≡ false
false_and true = refl
false_and false = refl

noted_others : (thread other n : ℕ) (e : Sent) (sent : List Sent) → other ≢ thread → FirstOf (fresh thread) n e sent → its other (set sent n (noted_one e)) ≡ its other sent
noted_others thread other n e [] apart first = absurd first
noted_others thread other zero e (one ∷ sent) apart first =
    let parts = fresh_parts (one.instance.thread == thread) one.noted first.0 in
    let own : (e.instance.thread == thread) ≡ true = subst (λ (s : Sent). (s.instance.thread == thread) ≡ true) first.1 parts.0 in
    rw (parts.1, not_own thread other e.instance.thread own apart) refl
noted_others thread other (suc n) e (one ∷ sent) apart first =
    ap (λ (ids : List ℕ). cond (one.noted && (one.instance.thread == other)) (one.instance.id ∷ ids) ids) (noted_others thread other n e sent apart first.1)

one_more : (ids : List ℕ) (id : ℕ) (x : Instance) → is_noted (ids ++ id ∷ []) x ≡ (is_noted ids x || (x.id == id))
one_more ids id x = list_any-append (λ (n : ℕ). x.id == n) ids (id ∷ []) ∙ ap (λ (b : Bool). is_noted ids x || b) (last_false (x.id == id))
  where
    last_false : (b : Bool) → (b || false) ≡ b
    last_false true = refl
    last_false false = refl

pub noted_rising : (sent : List Sent) (thread k next : ℕ) (d : Sent) → AreRising 0 (instances_of sent) next → position (fresh thread) sent ≡ Some k → AreRising 0 (instances_of (set sent k (record { instance = (get_or sent k d).instance; noted = true }))) next
noted_rising sent thread k next d rising is =
    let there = found (fresh thread) sent 0 k (from_start (fresh thread) sent (Some k) is) in
    let this : get_or sent there.n d ≡ there.one = first_is (fresh thread) there.n there.one sent d there.first in
    subst (λ (n : ℕ). AreRising 0 (instances_of (set sent n (record { instance = (get_or sent n d).instance; noted = true }))) next) (place_is there.n k there.at)
    (rw (this, same_instances (fresh thread) there.n there.one sent there.first) rising)

note_at : (thread n : ℕ) (e : Sent) (sent : List Sent) (next : ℕ) → AreRising 0 (instances_of sent) next → FirstOf (fresh thread) n e sent → NotesFirst thread (marked sent next) (marked (set sent n (noted_one e)) next)
note_at thread n e sent next rising first =
    let after = set sent n (noted_one e) in
    let same : instances_of after ≡ instances_of sent = same_instances (fresh thread) n e sent first in
    let still : AreRising 0 (instances_of after) next = rw same rising in
    record {
      instance = e.instance;
      is_first = new_is thread sent next rising ∙ fresh_at thread n e sent first;
      queue = ap (λ (pending : List Instance). let queue : Queue = record { pending = pending; next_id = next } in queue) same;
      own = sym (passing thread after 0 next (is_noted (its thread sent ++ e.instance.id ∷ [])) still (λ x high. one_more (its thread sent) e.instance.id x ∙ sym (noted_more thread n e sent x first)));
      others = λ other apart. sym (passing other after 0 next (is_noted (its other sent)) still (λ x high. ap (λ (ids : List ℕ). is_noted ids x) (sym (noted_others thread other n e sent apart first))));
    }

pub notes_first : (sent : List Sent) (thread k next : ℕ) (d : Sent) → AreRising 0 (instances_of sent) next → position (fresh thread) sent ≡ Some k → NotesFirst thread (marked sent next) (marked (set sent k (record { instance = (get_or sent k d).instance; noted = true })) next)
notes_first sent thread k next d rising is =
    let there = found (fresh thread) sent 0 k (from_start (fresh thread) sent (Some k) is) in
    let this : get_or sent there.n d ≡ there.one = first_is (fresh thread) there.n there.one sent d there.first in
    subst (λ (n : ℕ). NotesFirst thread (marked sent next) (marked (set sent n (record { instance = (get_or sent n d).instance; noted = true })) next)) (place_is there.n k there.at)
    (rw this (note_at thread there.n there.one sent next rising there.first))

-- ---- whether anything is noted

abbrev pub mine : ℕ → Sent → Bool
mine thread one = one.noted && (one.instance.thread == thread)

some_by : (test : Bool) (thread : ℕ) (x : Sent) (sent : List Sent) (from k : ℕ) → (position_from (mine thread) (from + 1) sent ≡ Some k → is_empty (its thread sent) ≡ false) → cond test (Some from) (position_from (mine thread) (from + 1) sent) ≡ Some k → is_empty (cond test (x.instance.id ∷ its thread sent) (its thread sent)) ≡ false
some_by true thread x sent from k rest is = refl
some_by false thread x sent from k rest is = rest is

some_from : (thread : ℕ) (sent : List Sent) (from k : ℕ) → position_from (mine thread) from sent ≡ Some k → is_empty (its thread sent) ≡ false
some_from thread [] from k is = cc
some_from thread (x ∷ sent) from k is = some_by (mine thread x) thread x sent from k (some_from thread sent (from + 1) k) is

none_by_place : (test : Bool) (thread : ℕ) (x : Sent) (sent : List Sent) (from : ℕ) → (position_from (mine thread) (from + 1) sent ≡ None → is_empty (its thread sent) ≡ true) → cond test (Some from) (position_from (mine thread) (from + 1) sent) ≡ None → is_empty (cond test (x.instance.id ∷ its thread sent) (its thread sent)) ≡ true
none_by_place true thread x sent from rest is = cc
none_by_place false thread x sent from rest is = rest is

none_from : (thread : ℕ) (sent : List Sent) (from : ℕ) → position_from (mine thread) from sent ≡ None → is_empty (its thread sent) ≡ true
none_from thread [] from is = refl
none_from thread (x ∷ sent) from is = none_by_place (mine thread x) thread x sent from (none_from thread sent (from + 1)) is

pub some_noted : (thread : ℕ) (sent : List Sent) (k : ℕ) → position (mine thread) sent ≡ Some k → is_empty (its thread sent) ≡ false
some_noted thread sent k is = some_from thread sent 0 k (from_start (mine thread) sent (Some k) is)

pub none_noted : (thread : ℕ) (sent : List Sent) → position (mine thread) sent ≡ None → is_empty (its thread sent) ≡ true
none_noted thread sent is = none_from thread sent 0 (from_start (mine thread) sent None is)

-- ---- the first due instance

abbrev pub own : ℕ → Sent → Bool
own thread one = one.instance.thread == thread

due_at : (thread n : ℕ) (e : Sent) (sent : List Sent) → FirstOf (own thread) n e sent → first_of (dues thread sent) ≡ Some e.instance
due_at thread n e [] first = absurd first
due_at thread zero e (x ∷ sent) first = rw first.0 (ap (λ (s : Sent). Some s.instance) first.1)
due_at thread (suc n) e (x ∷ sent) first = rw first.0 (due_at thread n e sent first.1)

due_none_by : (test : Bool) (thread : ℕ) (x : Sent) (sent : List Sent) (from : ℕ) → (position_from (own thread) (from + 1) sent ≡ None → first_of (dues thread sent) ≡ None) → cond test (Some from) (position_from (own thread) (from + 1) sent) ≡ None → first_of (cond test (x.instance ∷ dues thread sent) (dues thread sent)) ≡ None
due_none_by true thread x sent from rest is = cc
due_none_by false thread x sent from rest is = rest is

due_none_from : (thread : ℕ) (sent : List Sent) (from : ℕ) → position_from (own thread) from sent ≡ None → first_of (dues thread sent) ≡ None
due_none_from thread [] from is = refl
due_none_from thread (x ∷ sent) from is = due_none_by (own thread x) thread x sent from (due_none_from thread sent (from + 1)) is

pub due_none : (thread : ℕ) (sent : List Sent) → position (own thread) sent ≡ None → first_of (dues thread sent) ≡ None
due_none thread sent is = due_none_from thread sent 0 (from_start (own thread) sent None is)

pub due_there : (thread : ℕ) (sent : List Sent) (k : ℕ) (d : Sent) → position (own thread) sent ≡ Some k → first_of (dues thread sent) ≡ Some (get_or sent k d).instance
due_there thread sent k d is =
    let there = found (own thread) sent 0 k (from_start (own thread) sent (Some k) is) in
    due_at thread there.n there.one sent there.first
    ∙ ap (λ (s : Sent). Some s.instance) (sym (first_is (own thread) there.n there.one sent d there.first))
    ∙ ap (λ (n : ℕ). Some (get_or sent n d).instance) (place_is there.n k there.at)

-- ---- one is taken out

abbrev other_than : ℕ → Instance → Bool
other_than id other = not (other.id == id)

above_stay : (sent : List Instance) (low next id : ℕ) → AreRising low sent next → id < low → filter (other_than id) sent ≡ sent
above_stay [] low next id rising below = refl
above_stay (x ∷ sent) low next id rising below =
    rw (apart_above x.id id (omega (arith, rising.0, below))) (ap (λ (rest : List Instance). x ∷ rest) (above_stay sent (x.id + 1) next id rising.1 (omega (arith, rising.0, below))))

without_one : (p : Sent → Bool) (n : ℕ) (e : Sent) (sent : List Sent) (low next : ℕ) → AreRising low (instances_of sent) next → FirstOf p n e sent → instances_of (remove sent n) ≡ filter (other_than e.instance.id) (instances_of sent)
without_one p n e [] low next rising first = absurd first
without_one p zero e (x ∷ sent) low next rising first =
    let this : x.instance.id ≡ e.instance.id = ap (λ (s : Sent). s.instance.id) first.1 in
    rw (this, same_number e.instance.id) (sym (above_stay (instances_of sent) (x.instance.id + 1) next e.instance.id rising.1 (omega (arith, this))))
without_one p (suc n) e (x ∷ sent) low next rising first =
    let later = first_high p n e sent (x.instance.id + 1) next rising.1 first.1 in
    rw (apart_number x.instance.id e.instance.id (omega (arith, later))) (ap (λ (rest : List Instance). x.instance ∷ rest) (without_one p n e sent (x.instance.id + 1) next rising.1 first.1))

lower : (sent : List Instance) (low lowest next : ℕ) → AreRising low sent next → lowest ≤ low → AreRising lowest sent next
lower [] low lowest next rising less = omega (arith, rising, less)
lower (x ∷ sent) low lowest next rising less = (omega (arith, rising.0, less), rising.1)

left_rising : (p : Sent → Bool) (n : ℕ) (e : Sent) (sent : List Sent) (low next : ℕ) → AreRising low (instances_of sent) next → FirstOf p n e sent → AreRising low (instances_of (remove sent n)) next
left_rising p n e [] low next rising first = absurd first
left_rising p zero e (x ∷ sent) low next rising first = lower (instances_of sent) (x.instance.id + 1) low next rising.1 (omega (arith, rising.0))
left_rising p (suc n) e (x ∷ sent) low next rising first = (rising.0, left_rising p n e sent (x.instance.id + 1) next rising.1 first.1)

same_by : (mark : Bool) (x : Instance) (id : ℕ) (before after : List ℕ) → is_noted before x ≡ is_noted after x → is_noted (cond mark (id ∷ before) before) x ≡ is_noted (cond mark (id ∷ after) after) x
same_by true x id before after is = ap (λ (b : Bool). (x.id == id) || b) is
same_by false x id before after is = is

gone_by : (mark : Bool) (x : Instance) (id : ℕ) (ids : List ℕ) → (x.id == id) ≡ false → is_noted (cond mark (id ∷ ids) ids) x ≡ is_noted ids x
gone_by true x id ids apart = rw apart refl
gone_by false x id ids apart = refl

others_stay : (thread : ℕ) (p : Sent → Bool) (n : ℕ) (e : Sent) (sent : List Sent) (x : Instance) → (x.id == e.instance.id) ≡ false → FirstOf p n e sent → is_noted (its thread sent) x ≡ is_noted (its thread (remove sent n)) x
others_stay thread p n e [] x apart first = absurd first
others_stay thread p zero e (one ∷ sent) x apart first =
    gone_by (one.noted && (one.instance.thread == thread)) x one.instance.id (its thread sent) (ap (λ (s : Sent). x.id == s.instance.id) first.1 ∙ apart)
others_stay thread p (suc n) e (one ∷ sent) x apart first =
    same_by (one.noted && (one.instance.thread == thread)) x one.instance.id (its thread sent) (its thread (remove sent n)) (others_stay thread p n e sent x apart first.1)

kept_by : (is : Bool) (p q : Instance → Bool) (gone : ℕ) (x : Instance) (list : List Instance) → (x.id == gone) ≡ is → ((y : Instance) → (y.id == gone) ≡ false → p y ≡ q y) → filter p (filter (other_than gone) list) ≡ filter q (filter (other_than gone) list) → filter p (cond (not is) (x ∷ filter (other_than gone) list) (filter (other_than gone) list)) ≡ filter q (cond (not is) (x ∷ filter (other_than gone) list) (filter (other_than gone) list))
kept_by true p q gone x list is same rest = rest
kept_by false p q gone x list is same rest =
    ap (λ (b : Bool). cond b (x ∷ filter p (filter (other_than gone) list)) (filter p (filter (other_than gone) list))) (same x is)
    ∙ ap (λ (more : List Instance). cond (q x) (x ∷ more) more) rest

-- a test that only the one that is gone passes otherwise keeps the same of the others
kept_same : (p q : Instance → Bool) (gone : ℕ) (list : List Instance) → ((x : Instance) → (x.id == gone) ≡ false → p x ≡ q x) → filter p (filter (other_than gone) list) ≡ filter q (filter (other_than gone) list)
kept_same p q gone [] same = refl
kept_same p q gone (x ∷ list) same = kept_by (x.id == gone) p q gone x list refl same (kept_same p q gone list same)

swap_by : (one other : Bool) (p q : Instance → Bool) (x : Instance) (list : List Instance) → p x ≡ one → q x ≡ other → filter p (filter q list) ≡ filter q (filter p list) → filter p (cond other (x ∷ filter q list) (filter q list)) ≡ filter q (cond one (x ∷ filter p list) (filter p list))
swap_by true true p q x list is also rest = rw (is, also) (ap (λ (more : List Instance). x ∷ more) rest)
swap_by true false p q x list is also rest = rw also rest
swap_by false true p q x list is also rest = rw is rest
swap_by false false p q x list is also rest = rest

swap_filters : (p q : Instance → Bool) (list : List Instance) → filter p (filter q list) ≡ filter q (filter p list)
swap_filters p q [] = refl
swap_filters p q (x ∷ list) = swap_by (p x) (q x) p q x list refl refl (swap_filters p q list)

take_at : (thread n : ℕ) (e : Sent) (sent : List Sent) (next : ℕ) → AreRising 0 (instances_of sent) next → FirstOf (own thread) n e sent → TakesFirst thread e.instance (marked sent next) (marked (remove sent n) next)
take_at thread n e sent next rising first =
    let after = remove sent n in
    let left : instances_of after ≡ filter (other_than e.instance.id) (instances_of sent) = without_one (own thread) n e sent 0 next rising first in
    let still : AreRising 0 (instances_of after) next = left_rising (own thread) n e sent 0 next rising first in
    record {
      is_first = due_at thread n e sent first;
      queue = ap (λ (pending : List Instance). let queue : Queue = record { pending = pending; next_id = next } in queue) left;
      settled = λ of.
          let mine = λ (instance : Instance). instance.thread == of in
          let dues_are : filter mine (instances_of after) ≡ filter (other_than e.instance.id) (filter mine (instances_of sent)) = ap (filter mine) left ∙ swap_filters mine (other_than e.instance.id) (instances_of sent) in
          sym (own_settled of after next still)
          ∙ ap (λ (list : List Instance). map (λ instance. instance.id) (filter (is_noted (its of after)) list)) dues_are
          ∙ ap (map (λ instance. instance.id)) (kept_same (is_noted (its of after)) (is_noted (its of sent)) e.instance.id (filter mine (instances_of sent)) (λ x apart. sym (others_stay of (own thread) n e sent x apart first)))
          ∙ ap (λ (list : List Instance). map (λ instance. instance.id) (filter (is_noted (its of sent)) list)) (sym dues_are);
    }

pub takes_first : (sent : List Sent) (thread k next : ℕ) (d : Sent) → AreRising 0 (instances_of sent) next → position (own thread) sent ≡ Some k → TakesFirst thread (get_or sent k d).instance (marked sent next) (marked (remove sent k) next)
takes_first sent thread k next d rising is =
    let there = found (own thread) sent 0 k (from_start (own thread) sent (Some k) is) in
    let this : get_or sent there.n d ≡ there.one = first_is (own thread) there.n there.one sent d there.first in
    subst (λ (n : ℕ). TakesFirst thread (get_or sent n d).instance (marked sent next) (marked (remove sent n) next)) (place_is there.n k there.at)
    (rw this (take_at thread there.n there.one sent next rising there.first))

pub taken_rising : (sent : List Sent) (thread k next : ℕ) → AreRising 0 (instances_of sent) next → position (own thread) sent ≡ Some k → AreRising 0 (instances_of (remove sent k)) next
taken_rising sent thread k next rising is =
    let there = found (own thread) sent 0 k (from_start (own thread) sent (Some k) is) in
    subst (λ (n : ℕ). AreRising 0 (instances_of (remove sent n)) next) (place_is there.n k there.at) (left_rising (own thread) there.n there.one sent 0 next rising there.first)

-- ---- one more is sent

pub more_rising : (sent : List Sent) (low next : ℕ) (instance : Instance) → instance.id ≡ next → AreRising low (instances_of sent) next → AreRising low (instances_of (sent ++ record { instance = instance; noted = false } ∷ [])) (next + 1)
more_rising [] low next instance is rising = (omega (arith, is, rising), omega (arith, is))
more_rising (x ∷ sent) low next instance is rising = (rising.0, more_rising sent (x.instance.id + 1) next instance is rising.1)

noted_same : (thread : ℕ) (sent : List Sent) (instance : Instance) → its thread (sent ++ record { instance = instance; noted = false } ∷ []) ≡ its thread sent
noted_same thread [] instance = refl
noted_same thread (one ∷ sent) instance =
    ap (λ (ids : List ℕ). cond (one.noted && (one.instance.thread == thread)) (one.instance.id ∷ ids) ids) (noted_same thread sent instance)

pub more_noted : (sent : List Sent) (next : ℕ) (instance : Instance) (of : ℕ) → instance.id ≡ next → AreRising 0 (instances_of sent) next → IsSettled of (marked sent next) (marked (sent ++ record { instance = instance; noted = false } ∷ []) (next + 1))
more_noted sent next instance of is rising =
    let after = sent ++ record { instance = instance; noted = false } ∷ [] in
    sym (own_settled of after (next + 1) (more_rising sent 0 next instance is rising))
    ∙ ap (λ (ids : List ℕ). still_noted ids (dues of after)) (noted_same of sent instance)
