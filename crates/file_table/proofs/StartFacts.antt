-- The start.
use Rattle.std.proofs.Common.{◌≡◌, ℕ, zero, suc, ◌+◌, ◌-◌, ◌<◌, ◌≤◌, nat_lt, Bool, true, false, cond, if◌then◌else◌, List, [], ◌∷◌, ◌++◌, length, set, replicate, Option, Some, None, inl, inr, refl, sym, ap, ◌∙◌, arith}
use Rattle.std.specs.Prelude.{slice_get}
use Rattle.std.proofs.lemmas.Bool.{cases_eq, ltb-true, ltb-false}
use Rattle.std.proofs.lemmas.List.{length-replicate, length-set, length_push}
use Rattle.std.specs.Ordering.{nat_cmp, is_eq}
use Rattle.file_tree.specs.Nodes.{Tree, holds_in, holds_by, new_tree, new_directory}
use Rattle.file_tree.specs.Holds.{held}
use Rattle.file_tree.specs.Whole.{IsSound as IsSoundTree}
use Rattle.file_table.specs.declared.state.Descriptor.{Descriptor}
use Rattle.file_table.specs.declared.state.Target.TheVariants as targets
use Rattle.file_table.specs.Descriptors.{lone_of}
use Rattle.file_table.specs.Flags.{closes_on_exec}
use Rattle.file_table.specs.Opening.{bare, device_description, input_description, new_device, target_description, standing, started, vacant, vacant_from, with_devices, with_opened}
use Rattle.file_table.specs.Sound.{AreReady, IsSound, holders, one_in}
use Rattle.file_table.specs.State.{Files, at, put, lives_by}
use Rattle.file_table.proofs.PlaceFacts.{at_other, put_other, put_same}
use Rattle.file_table.proofs.SoundFacts.{description_added}

none_at : {A : Type 0} → (n k : ℕ) → at {A = A} (replicate n None) k ≡ None
none_at zero k = refl
none_at (suc n) zero = refl
none_at (suc n) (suc k) = none_at n k

none_somewhere : {A : Type 0} → (k : ℕ) → at {A = A} [] k ≡ None
none_somewhere k = refl

lives_at : (n k : ℕ) → k < n → lives_by (slice_get (replicate n new_device) k) ≡ true
lives_at zero k low = absurd (omega arith)
lives_at (suc n) zero low = refl
lives_at (suc n) (suc k) low = lives_at n k (omega arith)

-- nothing is open
pub bare_sound : (tree : Tree) (places devices : ℕ) → places ≡ 256 → IsSoundTree tree → ((inode : ℕ) → holds_in tree inode ≡ 0) → IsSound (record { tree = tree; descriptors = replicate places None; descriptions = []; devices = replicate devices new_device; pipes = [] })
unfolding holders
bare_sound tree places devices many sound free = record {
  tree = sound;
  many = length-replicate places None ∙ many;
  named = λ fd d same. absurd (let none = none_at {A = Descriptor} places fd in let f : ⊥ = cc in f);
  used = λ number some. absurd (let f : ⊥ = cc in f);
  there = λ number it same. absurd (let f : ⊥ = cc in f);
  holds = λ inode. free inode;
  once = λ device number other first second. absurd (let f : ⊥ = cc in f);
}

pub bare_free : (tree : Tree) (devices : ℕ) → at (bare tree devices).descriptors 0 ≡ None
unfolding bare
bare_free tree devices = refl

pub bare_ready : (tree : Tree) (devices : ℕ) → AreReady 0 devices (bare tree devices)
unfolding bare
bare_ready tree devices = record {
  behind = omega arith;
  free = λ number low. none_at {A = Descriptor} 256 number;
  unused = λ number low. refl;
  lives = λ device low. lives_at devices device low;
  fresh = λ device number low same. absurd (let f : ⊥ = cc in f);
}

length_put : {A : Type 0} → (places : List (Option A)) (k : ℕ) (x : A) → k ≤ length places → k + 1 ≤ length (put k x places)
length_put places k x low = by_test (nat_lt k (length places)) refl
  where
    by_test : (b : Bool) → nat_lt k (length places) ≡ b → k + 1 ≤ length (if b then set places k (Some x) else places ++ Some x ∷ [])
    by_test true same = let h = ltb-true k (length places) same in let e = length-set places k (Some x) in omega arith
    by_test false same = let h = ltb-false k (length places) same in let e = length_push places (Some x) in omega arith

-- a device stands
pub stand_sound : (files : Files) (device : ℕ) → IsSound files → device < 256 → AreReady device (device + 1) files → IsSound (standing device (device_description device) files)
stand_sound files device is low ready =
    description_added files files.tree device device (device_description device) false is is.tree low (ready.free device (omega arith)) (ready.unused device (omega arith)) ready.behind is.there (ready.lives device (omega arith))
    (λ inode. let h = is.holds inode in let z : one_in inode (targets.Device device) ≡ 0 = refl in omega arith)
    (λ target k first second. ready.fresh device k (omega arith) (second ∙ sym first))

pub ready_more : (files : Files) (device count : ℕ) → AreReady device count files → AreReady (device + 1) count (standing device (device_description device) files)
ready_more files device count ready = record {
  behind = length_put files.descriptions device (device_description device) ready.behind;
  free = λ number low. at_other files.descriptors device number (Some (record { description = device; close_on_exec = false })) (λ same. absurd (omega arith)) ∙ ready.free number (omega arith);
  unused = λ number low. put_other files.descriptions device number (device_description device) ready.behind (λ same. absurd (omega arith)) ∙ ready.unused number (omega arith);
  lives = ready.lives;
  fresh = λ other k low same. elim (cases_eq k device) [
    | inl e ↦
        let p : Some (targets.Device device) ≡ Some (targets.Device other) = sym (ap lone_of (put_same files.descriptions device (device_description device) ready.behind)) ∙ (ap (λ (n : ℕ). lone_of (at (put device (device_description device) files.descriptions) n)) (sym e) ∙ same) in
        let q : device ≡ other = cc in
        absurd (omega arith)
    | inr apart ↦ ready.fresh other k (omega arith) (ap lone_of (sym (put_other files.descriptions device k (device_description device) ready.behind apart)) ∙ same)
  ];
}

pub devices_more : (device count : ℕ) (files : Files) → device < count → with_devices device (count - device) files ≡ with_devices (device + 1) (count - (device + 1)) (standing device (device_description device) files)
unfolding with_devices
devices_more device count files low =
    let e : count - device ≡ suc (count - (device + 1)) = omega arith in
    ap (λ (n : ℕ). with_devices device n files) e

pub devices_end : (device count : ℕ) (files : Files) → count ≤ device → with_devices device (count - device) files ≡ files
unfolding with_devices
devices_end device count files high =
    let e : count - device ≡ zero = omega arith in
    ap (λ (n : ℕ). with_devices device n files) e

-- a file stands as descriptor 0
input_by : (files : Files) (inode devices v : ℕ) → AreReady 0 devices files → v ≡ 0 → AreReady 1 devices (record {
  tree = held inode files.tree;
  descriptors = set files.descriptors 0 (Some (record { description = v; close_on_exec = closes_on_exec 0 }));
  descriptions = put v (target_description (targets.Node inode) 0) files.descriptions;
  devices = files.devices;
  pipes = files.pipes;
})
input_by files inode devices v ready first =
    let behind : v ≤ length files.descriptions = omega arith in
    let long : v + 1 ≤ length (put v (target_description (targets.Node inode) 0) files.descriptions) = length_put files.descriptions v (target_description (targets.Node inode) 0) behind in
    record {
      behind = omega arith;
      free = λ number low. at_other files.descriptors 0 number (Some (record { description = v; close_on_exec = closes_on_exec 0 })) (λ same. absurd (omega arith)) ∙ ready.free number (omega arith);
      unused = λ number low. put_other files.descriptions v number (target_description (targets.Node inode) 0) behind (λ same. absurd (omega arith)) ∙ ready.unused number (omega arith);
      lives = ready.lives;
      fresh = λ other k low same. elim (cases_eq k v) [
        | inl e ↦
            let p : None ≡ Some (targets.Device other) = sym (ap lone_of (put_same files.descriptions v (target_description (targets.Node inode) 0) behind)) ∙ (ap (λ (n : ℕ). lone_of (at (put v (target_description (targets.Node inode) 0) files.descriptions) n)) (sym e) ∙ same) in
            absurd (let f : ⊥ = cc in f)
        | inr apart ↦ ready.fresh other k (omega arith) (ap lone_of (sym (put_other files.descriptions v k (target_description (targets.Node inode) 0) behind apart)) ∙ same)
      ];
    }

bare_vacant : (tree : Tree) (devices : ℕ) → vacant (bare tree devices).descriptions ≡ 0
unfolding bare vacant_from
bare_vacant tree devices = refl

pub input_ready : (tree : Tree) (inode devices : ℕ) → AreReady 1 devices (with_opened 0 inode 0 (bare tree devices))
input_ready tree inode devices = input_by (bare tree devices) inode devices (vacant (bare tree devices).descriptions) (bare_ready tree devices) (bare_vacant tree devices)

input_stands : (tree : Tree) (inode devices : ℕ) → with_opened 0 inode 0 (bare tree devices) ≡ standing 0 (input_description inode) (bare (held inode tree) devices)
unfolding bare vacant_from
input_stands tree inode devices = refl

pub started_file : (tree : Tree) (inode devices : ℕ) → with_devices 1 (devices - 1) (with_opened 0 inode 0 (bare tree devices)) ≡ started tree devices (Some inode)
unfolding started
started_file tree inode devices = ap (with_devices 1 (devices - 1)) (input_stands tree inode devices)

pub started_bare : (tree : Tree) (devices : ℕ) → with_devices 0 (devices - 0) (bare tree devices) ≡ started tree devices None
unfolding started
started_bare tree devices = let e : devices - 0 ≡ devices = omega arith in ap (λ (n : ℕ). with_devices 0 n (bare tree devices)) e

pub bare_tree : (tree : Tree) (devices : ℕ) → (bare tree devices).tree ≡ tree
unfolding bare
bare_tree tree devices = refl

-- in a tree that has the root alone nothing is held
pub new_holds : (inode : ℕ) → holds_in new_tree inode ≡ 0
unfolding holds_in
new_holds inode = by_test (is_eq (nat_cmp inode 1))
  where
    by_test : (b : Bool) → holds_by (cond b (Some (new_directory 1 0)) None) ≡ 0
    by_test true = refl
    by_test false = refl
