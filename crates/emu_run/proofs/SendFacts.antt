-- What letting devices go, and handing bytes to one, does to what is seen of them.
use Rattle.std.proofs.Common.{◌≡◌, ℕ, zero, suc, ◌+◌, ◌<◌, ◌≤◌, Bool, true, false, if◌then◌else◌, List, [], ◌∷◌, Option, Some, None, Result, Ok, Err, OnOk, OnErr, is_some, map, length, take, set, slice_get, refl, ap, sym, ◌∙◌, arith}
use Rattle.std.specs.Option.{option_map}
use Rattle.std.proofs.lemmas.List.{length-map, map-set}
use Rattle.dev_board.specs.Board.{IsChanged, Took, at}
use Rattle.dev_board.specs.Seen.{DeviceSeen, device_seen, devices_seen}
use Rattle.file_table.specs.declared.state.Device.{Device}
use Rattle.file_table.specs.State.{lives_by}
use Rattle.emu_run.specs.Sending.{with_more}
use Rattle.emu_run.specs.Turning.{TookPart, handed, without_dead}

-- ---- letting go

pub none_dead : {X : Type 0} (places : List (Option X)) → places ≡ without_dead places []
none_dead [] = refl
none_dead (place ∷ places) = refl

-- one that lives stays
one_lives_on : {X : Type 0} (places : List (Option X)) (devices : List Device) (device : ℕ) → device < length devices → lives_by (slice_get devices device) ≡ true → without_dead places (take (suc device) devices) ≡ without_dead places (take device devices)
one_lives_on [] devices device within lives = refl
one_lives_on (place ∷ places) [] device within lives = absurd (omega arith)
one_lives_on (place ∷ places) (first ∷ devices) zero within lives =
    ap (λ (b : Bool). (if b then place else None) ∷ without_dead places []) lives ∙ ap (λ rest. place ∷ rest) (sym (none_dead places))
one_lives_on (place ∷ places) (first ∷ devices) (suc device) within lives =
    ap (λ rest. (if first.live then place else None) ∷ rest) (one_lives_on places devices device (omega arith) lives)

-- one that doesn't goes
one_goes : {X : Type 0} (places : List (Option X)) (devices : List Device) (device : ℕ) → device < length devices → lives_by (slice_get devices device) ≡ false → without_dead places (take (suc device) devices) ≡ set (without_dead places (take device devices)) device None
one_goes [] devices device within dead = refl
one_goes (place ∷ places) [] device within dead = absurd (omega arith)
one_goes (place ∷ places) (first ∷ devices) zero within dead =
    ap (λ (b : Bool). (if b then place else None) ∷ without_dead places []) dead ∙ ap (λ rest. None ∷ rest) (sym (none_dead places))
one_goes (place ∷ places) (first ∷ devices) (suc device) within dead =
    ap (λ rest. (if first.live then place else None) ∷ rest) (one_goes places devices device (omega arith) dead)

-- after one more was looked at
pub next_lives : {X : Type 0} (places board : List (Option X)) (devices : List Device) (device end : ℕ) → device < end → end ≡ length (map (λ of. of.output) devices) → lives_by (slice_get devices device) ≡ true → board ≡ without_dead places (take device devices) → board ≡ without_dead places (take (device + 1) devices)
next_lives places board devices device end within all lives so_far =
    let one : device + 1 ≡ suc device = omega arith in
    so_far
    ∙ sym (one_lives_on places devices device (omega (arith, within, all, length-map devices (λ of. of.output))) lives)
    ∙ ap (λ (n : ℕ). without_dead places (take n devices)) (sym one)

pub next_goes : {X : Type 0} (places board : List (Option X)) (devices : List Device) (device end : ℕ) → device < end → end ≡ length (map (λ of. of.output) devices) → lives_by (slice_get devices device) ≡ false → board ≡ without_dead places (take device devices) → set board device None ≡ without_dead places (take (device + 1) devices)
next_goes places board devices device end within all dead so_far =
    let one : device + 1 ≡ suc device = omega arith in
    ap (λ them. set them device None) so_far
    ∙ sym (one_goes places devices device (omega (arith, within, all, length-map devices (λ of. of.output))) dead)
    ∙ ap (λ (n : ℕ). without_dead places (take n devices)) (sym one)

kept_or_none : {X Y : Type 0} (f : X → Y) (b : Bool) (place : Option X) → option_map f (if b then place else None) ≡ (if b then option_map f place else None)
kept_or_none f true place = refl
kept_or_none f false place = refl

pub without_dead_seen : {X Y : Type 0} (f : X → Y) (places : List (Option X)) (devices : List Device) → map (option_map f) (without_dead places devices) ≡ without_dead (map (option_map f) places) devices
without_dead_seen f [] devices = refl
without_dead_seen f (place ∷ places) [] = refl
without_dead_seen f (place ∷ places) (device ∷ devices) =
    ap (λ first. first ∷ map (option_map f) (without_dead places devices)) (kept_or_none f device.live place)
    ∙ ap (λ rest. (if device.live then option_map f place else None) ∷ rest) (without_dead_seen f places devices)

-- ---- handing

none_of : {X : Type 0} (option : Option X) → is_some option ≡ false → option ≡ None
none_of None none = refl
none_of (Some x) none = cc

module _ {D : Type 0} (left held : D → Option (List ℕ)) (reads writes : D → ℕ) where
  handed_at : (board : List (Option D)) (device : ℕ) (was is : D) (bytes : List ℕ) → at board device ≡ Some was → device_seen left held reads writes is ≡ with_more (device_seen left held reads writes was) bytes → devices_seen left held reads writes (set board device (Some is)) ≡ handed device bytes (devices_seen left held reads writes board)
  handed_at [] device was is bytes there more = refl
  handed_at (place ∷ board) zero was is bytes there more =
      ap (λ first. first ∷ devices_seen left held reads writes board)
      (ap Some more ∙ ap (λ of. option_map (λ it. with_more it bytes) (option_map (device_seen left held reads writes) of)) (sym there))
  handed_at (place ∷ board) (suc device) was is bytes there more =
      ap (λ rest. option_map (device_seen left held reads writes) place ∷ rest) (handed_at board device was is bytes there more)

  none_at : (board : List (Option D)) (device : ℕ) (bytes : List ℕ) → at board device ≡ None → devices_seen left held reads writes board ≡ handed device bytes (devices_seen left held reads writes board)
  none_at [] device bytes none = refl
  none_at (place ∷ board) zero bytes none =
      ap (λ first. first ∷ devices_seen left held reads writes board)
      (ap (option_map (device_seen left held reads writes)) none ∙ ap (λ of. option_map (λ it. with_more it bytes) (option_map (device_seen left held reads writes) of)) (sym none))
  none_at (place ∷ board) (suc device) bytes none =
      ap (λ rest. option_map (device_seen left held reads writes) place ∷ rest) (none_at board device bytes none)

  seen_at : (board : List (Option D)) (device : ℕ) (was : D) → at board device ≡ Some was → slice_get (devices_seen left held reads writes board) device ≡ Some (Some (device_seen left held reads writes was))
  seen_at [] device was there = cc
  seen_at (place ∷ board) zero was there = ap (λ of. Some (option_map (device_seen left held reads writes) of)) there
  seen_at (place ∷ board) (suc device) was there = seen_at board device was there

  -- nothing is handed to a device that isn't there
  pub hand_none : (board : List (Option D)) (device : ℕ) (bytes : List ℕ) → is_some (at board device) ≡ false → devices_seen left held reads writes board ≡ handed device bytes (devices_seen left held reads writes board)
  hand_none board device bytes none = none_at board device bytes (none_of (at board device) none)

  pub hand_all : {E : Type 0} (result : Result (Unit {0}) E) (old new : List (Option D)) (device : ℕ) (was is : D) (bytes : List ℕ) → IsChanged device was is old new → Took left held reads writes bytes result was is → OnOk result (devices_seen left held reads writes new ≡ handed device bytes (devices_seen left held reads writes old))
  hand_all (Err error) old new device was is bytes changed took = tt
  hand_all (Ok done) old new device was is bytes changed took =
      let more : device_seen left held reads writes is ≡ with_more (device_seen left held reads writes was) bytes = rw (took.same_left, took.all, took.same_reads, took.failed.still) refl in
      ap (devices_seen left held reads writes) changed.changed ∙ handed_at old device was is bytes changed.there more

  pub hand_part : {E : Type 0} (result : Result (Unit {0}) E) (old new : List (Option D)) (device : ℕ) (was is : D) (bytes : List ℕ) → IsChanged device was is old new → Took left held reads writes bytes result was is → OnErr result (TookPart device bytes (devices_seen left held reads writes old) (devices_seen left held reads writes new))
  hand_part (Ok done) old new device was is bytes changed took = tt
  hand_part (Err error) old new device was is bytes changed took = record {
    was = device_seen left held reads writes was;
    is = device_seen left held reads writes is;
    there = seen_at old device was changed.there;
    changed = ap (devices_seen left held reads writes) changed.changed ∙ map-set (option_map (device_seen left held reads writes)) old device (Some is);
    beginning = took.beginning;
    left = took.same_left;
    same_reads = took.same_reads;
    rose = took.failed.failed;
  }
