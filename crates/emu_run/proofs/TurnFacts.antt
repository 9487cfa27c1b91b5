-- What letting devices go and handing on the new bytes of an output does to what was sent.
use Rattle.std.proofs.Common.{◌≡◌, ℕ, zero, suc, ◌+◌, ◌<◌, ◌≤◌, List, [], ◌∷◌, ◌++◌, Bool, false, if◌then◌else◌, Option, Some, None, ◌-◌, length, map, take, drop, get_or, set, slice_get, refl, ap, sym, ◌∙◌, append_assoc, length-append, zero-add, subst, arith, ◌==◌, ◌≢◌, true, append-nil, inl, inr, get_or-set_other}
use Rattle.std.specs.Option.{option_map}
use Rattle.std.proofs.lemmas.Bool.{cases_lt}
use Rattle.std.proofs.lemmas.Bool.Decides.{nat_tests}
use Rattle.std.proofs.lemmas.Grind.{common_steps}
use Rattle.std.proofs.lemmas.List.{length-map, length-set, set-get_or, set_past, take_rest}
use Rattle.dev_board.specs.Seen.{DeviceSeen}
use Rattle.file_table.specs.declared.state.Device.{Device}
use Rattle.file_table.specs.State.{OnlyDie, output_of}
use Rattle.host_calls.specs.Shared.{with_output}
use Rattle.host_calls.specs.Owes.{Grows}
use Rattle.told.specs.Told.{more, Rose}
use Rattle.emu_run.specs.Sending.{IsSentUpTo, after_output, sent, with_more}
use Rattle.emu_run.specs.Turning.{KeepsSent, KeepsSentUpTo, TookPart, handed, without_dead}

-- ---- outputs

-- the output of a device goes on
abbrev pub GoesOn : ℕ → List (List ℕ) → List (List ℕ) → Type 0
GoesOn device old new = (bytes : List ℕ) × (new ≡ with_output device bytes old)

output_at : (outputs : List (List ℕ)) (device : ℕ) (bytes : List ℕ) → device < length outputs → get_or (with_output device bytes outputs) device [] ≡ get_or outputs device [] ++ bytes
output_at [] device bytes within = absurd (omega arith)
output_at (output ∷ outputs) zero bytes within = refl
output_at (output ∷ outputs) (suc device) bytes within = output_at outputs device bytes (omega arith)

drop_front : (front back : List ℕ) → drop (length front) (front ++ back) ≡ back
drop_front [] back = refl
drop_front (x ∷ front) back = drop_front front back

take_front : (front back : List ℕ) (count : ℕ) → take (length front + count) (front ++ back) ≡ front ++ take count back
take_front [] back count = ap (λ (n : ℕ). take n back) (zero-add count)
take_front (x ∷ front) back count =
    let one : length (x ∷ front) + count ≡ suc (length front + count) = omega arith in
    ap (λ (n : ℕ). take n ((x ∷ front) ++ back)) one ∙ ap (λ rest. x ∷ rest) (take_front front back count)

-- what is new of an output
fresh_is : (old : List (List ℕ)) (device before : ℕ) (bytes : List ℕ) → device < length old → before ≡ length (get_or old device []) → drop before (get_or (with_output device bytes old) device []) ≡ bytes
fresh_is old device before bytes within at =
    ap (λ (n : ℕ). drop n (get_or (with_output device bytes old) device [])) at
    ∙ ap (drop (length (get_or old device []))) (output_at old device bytes within)
    ∙ drop_front (get_or old device []) bytes

pub grows_length : {old new : List (List ℕ)} → Grows old new → length new ≡ length old
grows_length {old} {new} grows = rw grows.grown (length-set old grows.device _)

nothing_longer : (old : List ℕ) (bytes : List ℕ) → length (old ++ bytes) ≤ length old → bytes ≡ []
nothing_longer old [] short = refl
nothing_longer old (x ∷ bytes) short = absurd (omega (arith, length-append old (x ∷ bytes), short))

-- where no output is longer, all are as they were
pub none_longer : (old new : List (List ℕ)) → Grows old new → ((device : ℕ) → device < length old → length (get_or new device []) ≤ length (get_or old device [])) → new ≡ old
none_longer old new grows short = elim (cases_lt grows.device (length old)) [
  | inl within ↦
      let now : get_or new grows.device [] ≡ get_or old grows.device [] ++ grows.more = ap (λ outputs. get_or outputs grows.device []) grows.grown ∙ output_at old grows.device grows.more within in
      let none : grows.more ≡ [] = nothing_longer (get_or old grows.device []) grows.more (rw now at (short grows.device within)) in
      grows.grown ∙ ap (λ bytes. with_output grows.device bytes old) none ∙ ap (λ bytes. set old grows.device bytes) (append-nil (get_or old grows.device [])) ∙ set-get_or old grows.device []
  | inr past ↦ grows.grown ∙ set_past old grows.device _ past
]

longer_by : (this : Bool) (old new : List (List ℕ)) (device : ℕ) (grows : Grows old new) → (grows.device == device) ≡ this → length (get_or old device []) < length (get_or new device []) → GoesOn device old new
longer_by true old new device grows is longer =
    let same : grows.device ≡ device = grind (arith, nat_tests) in
    (grows.more, grows.grown ∙ ap (λ (n : ℕ). with_output n grows.more old) same)
longer_by false old new device grows is longer =
    let apart : device ≢ grows.device = grind (arith, nat_tests) in
    let still : get_or new device [] ≡ get_or old device [] = ap (λ outputs. get_or outputs device []) grows.grown ∙ get_or-set_other old grows.device device (get_or old grows.device [] ++ grows.more) [] apart in
    absurd (let none : length (get_or old device []) < length (get_or old device []) = rw still at longer in omega (arith, none))

-- an output that is longer is the one that went on
pub longer_goes_on : (old new : List (List ℕ)) (device : ℕ) → Grows old new → length (get_or old device []) < length (get_or new device []) → GoesOn device old new
longer_goes_on old new device grows longer = longer_by (grows.device == device) old new device grows refl longer

-- a device whose output went on, its length before and what it is now
pub record Sending (old new : List (List ℕ)) (device before : ℕ) (output_now : List ℕ) : Type 0 where
  pub within : device < length old
  pub before_is : before ≡ length (get_or old device [])
  pub now : output_now ≡ get_or new device []
  pub grown : GoesOn device old new

fresh_of : (before : ℕ) (output_now now : List ℕ) → output_now ≡ now → take (length output_now - before) (drop before output_now) ≡ drop before now
fresh_of before output_now now is = take_rest output_now before ∙ ap (drop before) is

-- what was written to each
abbrev pub outputs : List Device → List (List ℕ)
outputs devices = map (λ device. device.output) devices

output_is : (devices : List Device) (device : ℕ) → output_of (slice_get devices device) ≡ get_or (outputs devices) device []
output_is [] device = refl
output_is (first ∷ devices) zero = refl
output_is (first ∷ devices) (suc device) = output_is devices device

as_many : (olds news : List Device) → length (outputs news) ≡ length (outputs olds) → length news ≡ length olds
as_many olds news same = sym (length-map news (λ device. device.output)) ∙ same ∙ length-map olds (λ device. device.output)

-- a step changes no number of devices
pub grows_count : (olds news : List Device) → Grows (outputs olds) (outputs news) → length news ≡ length olds
grows_count olds news grows = as_many olds news (grows_length grows)

-- ---- one device

more_more : (held : Option (List ℕ)) (first second : List ℕ) → more (more held first) second ≡ more held (first ++ second)
more_more None first second = refl
more_more (Some held) first second = ap Some (append_assoc held first second)

with_more_more : (seen : DeviceSeen) (first second : List ℕ) → with_more (with_more seen first) second ≡ with_more seen (first ++ second)
with_more_more seen first second = rw (more_more seen.held first second) refl

abbrev gone : Option DeviceSeen
gone = None

none_either : (b : Bool) → (if b then gone else gone) ≡ gone
none_either true = refl
none_either false = refl

kept_by : (live was : Bool) (seen : DeviceSeen) (old new : List ℕ) → (live ≡ true → was ≡ true) → new ≡ old → (if live then (if was then Some (with_more seen old) else None) else None) ≡ (if live then Some (with_more seen new) else None)
kept_by false was seen old new die same = refl
kept_by true true seen old new die same = ap (λ output. Some (with_more seen output)) (sym same)
kept_by true false seen old new die same = absurd (let lives : false ≡ true = die refl in cc)

kept_one : (seen : Option DeviceSeen) (old new : Device) → (new.live ≡ true → old.live ≡ true) → new.output ≡ old.output → (if new.live then after_output seen old else None) ≡ after_output seen new
kept_one None old new die same = none_either new.live
kept_one (Some seen) old new die same = kept_by new.live old.live seen old.output new.output die same

handed_by : (live was : Bool) (seen : DeviceSeen) (old new bytes : List ℕ) → (live ≡ true → was ≡ true) → new ≡ old ++ bytes → option_map (λ it. with_more it bytes) (if live then (if was then Some (with_more seen old) else None) else None) ≡ (if live then Some (with_more seen new) else None)
handed_by false was seen old new bytes die more = refl
handed_by true true seen old new bytes die more = ap Some (with_more_more seen old bytes ∙ ap (with_more seen) (sym more))
handed_by true false seen old new bytes die more = absurd (let lives : false ≡ true = die refl in cc)

handed_one : (seen : Option DeviceSeen) (old new : Device) (bytes : List ℕ) → (new.live ≡ true → old.live ≡ true) → new.output ≡ old.output ++ bytes → option_map (λ it. with_more it bytes) (if new.live then after_output seen old else None) ≡ after_output seen new
handed_one None old new bytes die more = ap (option_map (λ it. with_more it bytes)) (none_either new.live)
handed_one (Some seen) old new bytes die more = handed_by new.live old.live seen old.output new.output bytes die more

was_by : (live was : Bool) (seen is : DeviceSeen) (old : List ℕ) → (if live then (if was then Some (with_more seen old) else None) else None) ≡ Some is → is ≡ with_more seen old
was_by true true seen is old there = cc
was_by true false seen is old there = cc
was_by false was seen is old there = cc

was_one : (seen : Option DeviceSeen) (is : DeviceSeen) (old new : Device) → (if new.live then after_output seen old else None) ≡ Some is → (was : DeviceSeen) × (seen ≡ Some was) × (is ≡ with_more was old.output)
was_one None is old new there = let none = none_either new.live in absurd (let f : gone ≡ Some is = sym none ∙ there in cc)
was_one (Some seen) is old new there = (seen, refl, was_by new.live old.live seen is old.output there)

-- ---- all devices

head_is : {X : Type 0} (x y : X) (xs ys : List X) → x ∷ xs ≡ y ∷ ys → x ≡ y
head_is x y xs ys same = cc

tail_is : {X : Type 0} (x y : X) (xs ys : List X) → x ∷ xs ≡ y ∷ ys → xs ≡ ys
tail_is x y xs ys same = cc

some_is : {X : Type 0} (x y : X) → Some x ≡ Some y → x ≡ y
some_is x y same = cc

pair : {X : Type 0} {x y : X} {xs ys : List X} → x ≡ y → xs ≡ ys → x ∷ xs ≡ y ∷ ys
pair {x = x} {y = y} {xs = xs} {ys = ys} first rest = ap (λ it. it ∷ xs) first ∙ ap (λ them. y ∷ them) rest

-- where nothing was written
all_kept : (seen : List (Option DeviceSeen)) (olds news : List Device) → length seen ≡ length olds → length news ≡ length olds → OnlyDie olds news → outputs news ≡ outputs olds → without_dead (sent seen olds) news ≡ sent seen news
all_kept [] olds news size count die same = refl
all_kept (first ∷ seen) [] news size count die same = absurd (omega arith)
all_kept (first ∷ seen) (old ∷ olds) [] size count die same = absurd (omega arith)
all_kept (first ∷ seen) (old ∷ olds) (new ∷ news) size count die same =
    pair
    (kept_one first old new (die zero) (head_is new.output old.output (outputs news) (outputs olds) same))
    (all_kept seen olds news (omega arith) (omega arith) (λ device. die (suc device)) (tail_is new.output old.output (outputs news) (outputs olds) same))

-- where bytes were written to one
all_handed : (seen : List (Option DeviceSeen)) (olds news : List Device) (device : ℕ) (bytes : List ℕ) → length seen ≡ length olds → length news ≡ length olds → OnlyDie olds news → outputs news ≡ with_output device bytes (outputs olds) → handed device bytes (without_dead (sent seen olds) news) ≡ sent seen news
all_handed [] olds news device bytes size count die more = refl
all_handed (first ∷ seen) [] news device bytes size count die more = absurd (omega arith)
all_handed (first ∷ seen) (old ∷ olds) [] device bytes size count die more = absurd (omega arith)
all_handed (first ∷ seen) (old ∷ olds) (new ∷ news) zero bytes size count die more =
    pair
    (handed_one first old new bytes (die zero) (head_is new.output (old.output ++ bytes) (outputs news) (outputs olds) more))
    (all_kept seen olds news (omega arith) (omega arith) (λ device. die (suc device)) (tail_is new.output (old.output ++ bytes) (outputs news) (outputs olds) more))
all_handed (first ∷ seen) (old ∷ olds) (new ∷ news) (suc device) bytes size count die more =
    pair
    (kept_one first old new (die zero) (head_is new.output old.output (outputs news) (with_output device bytes (outputs olds)) more))
    (all_handed seen olds news device bytes (omega arith) (omega arith) (λ device. die (suc device)) (tail_is new.output old.output (outputs news) (with_output device bytes (outputs olds)) more))

set_handed : (seen : List (Option DeviceSeen)) (device : ℕ) (bytes : List ℕ) (is : Option DeviceSeen) → set (handed device bytes seen) device is ≡ set seen device is
set_handed [] device bytes is = refl
set_handed (first ∷ seen) zero bytes is = refl
set_handed (first ∷ seen) (suc device) bytes is = ap (λ rest. first ∷ rest) (set_handed seen device bytes is)

-- one that is there was there at first
was_there : (seen : List (Option DeviceSeen)) (olds news : List Device) (device : ℕ) (is : DeviceSeen) → length seen ≡ length olds → length news ≡ length olds → slice_get (without_dead (sent seen olds) news) device ≡ Some (Some is) → (was : DeviceSeen) × (slice_get seen device ≡ Some (Some was)) × (is ≡ with_more was (output_of (slice_get olds device)))
was_there [] olds news device is size count there = absurd (let f : None ≡ Some (Some is) = there in cc)
was_there (first ∷ seen) [] news device is size count there = absurd (omega arith)
was_there (first ∷ seen) (old ∷ olds) [] device is size count there = absurd (omega arith)
was_there (first ∷ seen) (old ∷ olds) (new ∷ news) zero is size count there =
    let one = was_one first is old new (some_is (if new.live then after_output first old else None) (Some is) there) in
    (one.0, ap Some one.1, one.2)
was_there (first ∷ seen) (old ∷ olds) (new ∷ news) (suc device) is size count there =
    was_there seen olds news device is (omega arith) (omega arith) there

-- ---- a turn

-- that wrote nothing
pub turn_still : (olds news : List Device) (seen after : List (Option DeviceSeen)) → Grows (outputs olds) (outputs news) → OnlyDie olds news → ((device : ℕ) → device < length (outputs olds) → length (get_or (outputs news) device []) ≤ length (get_or (outputs olds) device [])) → after ≡ without_dead seen news → KeepsSent olds news seen after
turn_still olds news seen after grows die short let_go = λ first size all.
    let_go
    ∙ ap (λ them. without_dead them news) all
    ∙ all_kept first olds news size (grows_count olds news grows) die (none_longer (outputs olds) (outputs news) grows short)

-- The new bytes of an output were handed on.
pub turn_all : (olds news : List Device) (seen left after : List (Option DeviceSeen)) (device before : ℕ) (output_now : List ℕ) → Sending (outputs olds) (outputs news) device before output_now → OnlyDie olds news → left ≡ without_dead seen news → after ≡ handed device (take (length output_now - before) (drop before output_now)) left → KeepsSent olds news seen after
turn_all olds news seen left after device before output_now s die let_go handing = λ first size all.
    let bytes = s.grown.0 in
    let fresh : take (length output_now - before) (drop before output_now) ≡ bytes =
    fresh_of before output_now (get_or (outputs news) device []) s.now
    ∙ ap (λ list. drop before (get_or list device [])) s.grown.1
    ∙ fresh_is (outputs olds) device before bytes s.within s.before_is in
    let count : length news ≡ length olds = as_many olds news (ap length s.grown.1 ∙ length-set (outputs olds) device _) in
    handing
    ∙ ap (λ (list : List ℕ). handed device list left) fresh
    ∙ ap (handed device bytes) (let_go ∙ ap (λ them. without_dead them news) all)
    ∙ all_handed first olds news device bytes size count die s.grown.1

-- A beginning of them was.
pub turn_part : (olds news : List Device) (seen left after : List (Option DeviceSeen)) (device before : ℕ) (output_now : List ℕ) → Sending (outputs olds) (outputs news) device before output_now → OnlyDie olds news → left ≡ without_dead seen news → TookPart device (take (length output_now - before) (drop before output_now)) left after → KeepsSentUpTo device olds news seen after
turn_part olds news seen left after device before output_now s die let_go part = λ first size all.
    let bytes = s.grown.0 in
    let fresh : take (length output_now - before) (drop before output_now) ≡ bytes =
    fresh_of before output_now (get_or (outputs news) device []) s.now
    ∙ ap (λ list. drop before (get_or list device [])) s.grown.1
    ∙ fresh_is (outputs olds) device before bytes s.within s.before_is in
    let count : length news ≡ length olds = as_many olds news (ap length s.grown.1 ∙ length-set (outputs olds) device _) in
    let left_is : left ≡ without_dead (sent first olds) news = let_go ∙ ap (λ them. without_dead them news) all in
    let all_now : handed device bytes left ≡ sent first news = ap (handed device bytes) left_is ∙ all_handed first olds news device bytes size count die s.grown.1 in
    let old_is : output_of (slice_get olds device) ≡ get_or (outputs olds) device [] = output_is olds device in
    let whole : output_of (slice_get news device) ≡ output_of (slice_get olds device) ++ bytes =
    output_is news device
    ∙ ap (λ list. get_or list device []) s.grown.1
    ∙ output_at (outputs olds) device bytes s.within
    ∙ ap (λ output. output ++ bytes) (sym old_is) in
    let found = was_there first olds news device part.was size count (ap (λ list. slice_get list device) (sym left_is) ∙ part.there) in
    let was = found.0 in
    let output = output_of (slice_get olds device) in
    let taken = part.beginning.0 in
    let few : taken ≤ length bytes = subst (λ (list : List ℕ). taken ≤ length list) fresh part.beginning.1 in
    record {
      was = was;
      is = part.is;
      there = found.1;
      all = part.changed ∙ sym (set_handed left device bytes (Some part.is)) ∙ ap (λ list. set list device (Some part.is)) all_now;
      count = length output + taken;
      all_earlier = omega arith;
      within = rw (whole, length-append output bytes) (omega (arith, few));
      held =
          part.beginning.2
          ∙ ap (λ (list : List ℕ). more part.was.held (take taken list)) fresh
          ∙ ap (λ (it : DeviceSeen). more it.held (take taken bytes)) found.2
          ∙ more_more was.held output (take taken bytes)
          ∙ ap (more was.held) (sym (ap (take (length output + taken)) whole ∙ take_front output bytes taken));
      left = part.left ∙ ap (λ (it : DeviceSeen). it.left) found.2;
      same_reads = part.same_reads ∙ ap (λ (it : DeviceSeen). it.failed_reads) found.2;
      rose = subst (λ (writes : ℕ). Rose writes part.is.failed_writes) (ap (λ (it : DeviceSeen). it.failed_writes) found.2) part.rose;
    }
