-- What keeps a table of files sound: each kind of change.
use Rattle.std.proofs.Common.{◌≡◌, ◌≢◌, ℕ, zero, suc, ◌+◌, ◌<◌, ◌≤◌, ◌==◌, Bool, true, false, if◌then◌else◌, List, [], ◌∷◌, length, get_or, set, Option, Some, None, IsSome, inl, inr, refl, sym, ap, subst, ◌∙◌, arith}
use Rattle.std.specs.Prelude.{sum_by, IfSome, slice_get}
use Rattle.std.proofs.lemmas.Bool.{cases_eq, eq-eqb, ne_eqb}
use Rattle.std.proofs.lemmas.List.{length-set}
use Rattle.std.proofs.lemmas.List.Sums.{sum_by-set}
use Rattle.file_tree.specs.Nodes.{Tree, Has, kind_in, kind_by, holds_in, holds_by}
use Rattle.file_tree.specs.declared.kind.Kind.{Kind}
use Rattle.file_tree.specs.Answers.{KindsStay, HoldsStay, HeldStay, OthersStay, IsHeld, IsReleased}
use Rattle.file_tree.specs.Whole.{IsSound as IsSoundTree}
use Rattle.file_tree.proofs.CallerFacts.{has_stays, held_has_stays}
use Rattle.file_table.specs.declared.state.Descriptor.{Descriptor}
use Rattle.file_table.specs.declared.state.Description.{Description}
use Rattle.file_table.specs.declared.state.Device.{Device}
use Rattle.file_table.specs.declared.state.Target.{Target}
use Rattle.file_table.specs.declared.state.Target.TheVariants as targets
use Rattle.file_table.specs.Descriptors.{names, is_named, with_descriptor, with_description, lone_of, no_device, without_end, without_end_by}
use Rattle.file_table.specs.Paths.{with_tree}
use Rattle.file_table.specs.Pipes.{new_pipe, with_new_pipe}
use Rattle.file_table.specs.Sound.{IsSound, IsThere, one_for, one_in, holders}
use Rattle.file_table.specs.State.{Files, Pipe, at, end_of_pipe, is_open_by, put, lives_by}
use Rattle.file_table.proofs.PlaceFacts.{at_same, at_other, at_within, some_from, some_is, put_same, put_other, put_sum, names_one, names_self, named_at, named_set}
use Rattle.file_table.specs.Opening.{vacant, target_description}
use Rattle.file_table.proofs.CountFacts.{few_descriptions, few_holders, vacant_free, vacant_behind, vacant_few}

-- ---- a descriptor at a free place, or at one that names the same description

still_named : (d : Descriptor) (number : ℕ) (o : Option Descriptor) → IfSome o (λ old. old.description ≡ d.description) → names number o ≡ true → names number (Some d) ≡ true
still_named d number None same named = absurd (let f : ⊥ = cc in f)
still_named d number (Some old) same named = sym (ap (λ (n : ℕ). n == number) same) ∙ named

pub descriptor_put : (files : Files) (fd : ℕ) (d : Descriptor) → IsSound files → fd < 256 → IsSome (at files.descriptions d.description) → IfSome (at files.descriptors fd) (λ old. old.description ≡ d.description) → IsSound (with_descriptor fd (Some d) files)
descriptor_put files fd d is low some fits =
    let many = is.many in
    let within : fd < length files.descriptors = omega arith in
    record {
      tree = is.tree;
      many = length-set files.descriptors fd (Some d) ∙ is.many;
      named = λ k other same. elim (cases_eq k fd) [
        | inl e ↦
            let p : Some d ≡ Some other = sym (at_same files.descriptors fd (Some d) within) ∙ (ap (at (set files.descriptors fd (Some d))) (sym e) ∙ same) in
            let q : d ≡ other = cc in
            subst (λ (x : Descriptor). IsSome (at files.descriptions x.description)) q some
        | inr apart ↦ is.named k other (sym (at_other files.descriptors fd k (Some d) apart) ∙ same)
      ];
      used = λ number there. named_set number fd (Some d) files.descriptors within (still_named d number (at files.descriptors fd) fits) (is.used number there);
      there = is.there;
      holds = is.holds;
      once = is.once;
    }

-- ---- a descriptor is cleared

cleared_at : (ds : List (Option Descriptor)) (fd k : ℕ) (other : Descriptor) → fd < length ds → at (set ds fd None) k ≡ Some other → (k ≢ fd) × (at ds k ≡ Some other)
cleared_at ds fd k other low same = elim (cases_eq k fd) [
  | inl e ↦ absurd (let p : None ≡ Some other = sym (at_same ds fd None low) ∙ (ap (at (set ds fd None)) (sym e) ∙ same) in let f : ⊥ = cc in f)
  | inr apart ↦ (apart, sym (at_other ds fd k None apart) ∙ same)
]

-- what another number names stays named
still_used : (ds : List (Option Descriptor)) (fd number other : ℕ) → fd < length ds → names number (at ds fd) ≡ true → other ≢ number → is_named other ds ≡ true → is_named other (set ds fd None) ≡ true
still_used ds fd number other low here apart named = named_set other fd None ds low (λ also. absurd (apart (names_one (at ds fd) other number also here))) named

names_within : (ds : List (Option Descriptor)) (fd number : ℕ) → names number (at ds fd) ≡ true → fd < length ds
names_within ds fd number here = by_place (at ds fd) refl here
  where
    by_place : (o : Option Descriptor) → at ds fd ≡ o → names number o ≡ true → fd < length ds
    by_place None same named = absurd (let f : ⊥ = cc in f)
    by_place (Some d) same named = at_within ds fd d same

pub descriptor_cleared : (files : Files) (fd number : ℕ) → IsSound files → names number (at files.descriptors fd) ≡ true → is_named number (set files.descriptors fd None) ≡ true → IsSound (with_descriptor fd None files)
descriptor_cleared files fd number is here still =
    let low = names_within files.descriptors fd number here in
    record {
      tree = is.tree;
      many = length-set files.descriptors fd None ∙ is.many;
      named = λ k other same. is.named k other (cleared_at files.descriptors fd k other low same).1;
      used = λ other there. elim (cases_eq other number) [
        | inl e ↦ subst (λ (n : ℕ). is_named n (set files.descriptors fd None) ≡ true) (sym e) still
        | inr apart ↦ still_used files.descriptors fd number other low here apart (is.used other there)
      ];
      there = is.there;
      holds = is.holds;
      once = is.once;
    }

-- ---- and its description with it

gone_at : (places : List (Option Description)) (number k : ℕ) (it : Description) → number < length places → at (set places number None) k ≡ Some it → (k ≢ number) × (at places k ≡ Some it)
gone_at places number k it low same = elim (cases_eq k number) [
  | inl e ↦ absurd (let p : None ≡ Some it = sym (at_same places number None low) ∙ (ap (at (set places number None)) (sym e) ∙ same) in let f : ⊥ = cc in f)
  | inr apart ↦ (apart, sym (at_other places number k None apart) ∙ same)
]

gone_lone : (places : List (Option Description)) (number k : ℕ) (target : Target) → number < length places → lone_of (at (set places number None) k) ≡ Some target → (k ≢ number) × (lone_of (at places k) ≡ Some target)
gone_lone places number k target low same = elim (cases_eq k number) [
  | inl e ↦ absurd (let p : None ≡ Some target = ap lone_of (sym (at_same places number None low)) ∙ (ap (λ (n : ℕ). lone_of (at (set places number None) n)) (sym e) ∙ same) in let f : ⊥ = cc in f)
  | inr apart ↦ (apart, ap lone_of (sym (at_other places number k None apart)) ∙ same)
]

pub description_gone : (files : Files) (fd number : ℕ) (it : Description) (tree : Tree) (devices : List Device) (pipes : List (Option Pipe)) → IsSound files → names number (at files.descriptors fd) ≡ true → is_named number (set files.descriptors fd None) ≡ false → at files.descriptions number ≡ Some it → IsSoundTree tree
    → ((k : ℕ) (other : Description) → k ≢ number → at files.descriptions k ≡ Some other → IsThere tree devices pipes other.target)
    → ((inode : ℕ) → holds_in tree inode + one_in inode it.target ≡ holders inode files.descriptions)
    → IsSound (record { tree = tree; descriptors = set files.descriptors fd None; descriptions = set files.descriptions number None; devices = devices; pipes = pipes })
unfolding holders
description_gone files fd number it tree devices pipes is here gone there sound stays holds =
    let low = names_within files.descriptors fd number here in
    let within = at_within files.descriptions number it there in
    record {
      tree = sound;
      many = length-set files.descriptors fd None ∙ is.many;
      named = λ k other same.
          let c = cleared_at files.descriptors fd k other low same in
          let apart : other.description ≢ number = λ e.
          let n : is_named number (set files.descriptors fd None) ≡ true = named_at number k (set files.descriptors fd None) (subst (λ (m : ℕ). names m (at (set files.descriptors fd None) k) ≡ true) e (names_self (at (set files.descriptors fd None) k) other same)) in
          let f : ⊥ = cc in f in
          subst IsSome (sym (at_other files.descriptions number other.description None apart)) (is.named k other c.1);
      used = λ other some.
          let s : (x : Description) × (at (set files.descriptions number None) other ≡ Some x) = some_is (at (set files.descriptions number None) other) some in
          let g = gone_at files.descriptions number other s.0 within s.1 in
          still_used files.descriptors fd number other low here g.0 (is.used other (some_from (at files.descriptions other) s.0 g.1));
      there = λ k other same. let g = gone_at files.descriptions number k other within same in stays k other g.0 g.1;
      holds = λ inode.
          let s = sum_by-set (one_for inode) files.descriptions number None None within in
          let o : one_for inode (at files.descriptions number) ≡ one_in inode it.target = ap (one_for inode) there in
          let h = holds inode in
          omega arith;
      once = λ target k other first second.
          is.once target k other (gone_lone files.descriptions number k target within first).1 (gone_lone files.descriptions number other target within second).1;
    }

-- ---- entries that are held

one_self : (inode : ℕ) → one_in inode (targets.Node inode) ≡ 1
one_self inode = ap (λ (b : Bool). if b then 1 else 0) (eq-eqb inode inode refl)

one_other : (inode other : ℕ) → other ≢ inode → one_in other (targets.Node inode) ≡ 0
one_other inode other apart = ap (λ (b : Bool). if b then 1 else 0) (ne_eqb inode other (λ e. apart (sym e)))

pub held_once : (inode number : ℕ) (places : List (Option Description)) (it : Description) → at places number ≡ Some it → it.target ≡ targets.Node inode → 0 < holders inode places
unfolding holders
held_once inode number places it there target =
    let s = sum_by-set (one_for inode) places number None None (at_within places number it there) in
    let o : one_for inode (at places number) ≡ 1 = ap (one_for inode) there ∙ (ap (one_in inode) target ∙ one_self inode) in
    omega arith

held_twice : (inode number other : ℕ) (places : List (Option Description)) (it also : Description) → at places number ≡ Some it → it.target ≡ targets.Node inode → other ≢ number → at places other ≡ Some also → also.target ≡ targets.Node inode → 1 < holders inode places
unfolding holders
held_twice inode number other places it also there target apart second same =
    let s = sum_by-set (one_for inode) places number None None (at_within places number it there) in
    let o : one_for inode (at places number) ≡ 1 = ap (one_for inode) there ∙ (ap (one_in inode) target ∙ one_self inode) in
    let h : 0 < sum_by (one_for inode) (set places number None) = held_once inode other (set places number None) also (at_other places number other None apart ∙ second) same in
    omega arith

others_kind : (inode other : ℕ) (old new : Tree) → OthersStay inode old new → other ≢ inode → kind_in new other ≡ kind_in old other
unfolding kind_in
others_kind inode other old new stay apart = ap kind_by (stay other apart)

others_holds : (inode other : ℕ) (old new : Tree) → OthersStay inode old new → other ≢ inode → holds_in new other ≡ holds_in old other
unfolding holds_in
others_holds inode other old new stay apart = ap holds_by (stay other apart)

has_by : (old new : Option Kind) → IsSome old → ((kind : Kind) → old ≡ Some kind → new ≡ Some kind) → IsSome new
has_by None new some stay = absurd (let f : ⊥ = cc in f)
has_by (Some kind) new some stay = some_from new kind (stay kind refl)

-- the entry of a description that goes is released
module _ (files : Files) (number inode : ℕ) (it : Description) (tree : Tree) (is : IsSound files) (there : at files.descriptions number ≡ Some it) (target : it.target ≡ targets.Node inode) (freed : IsReleased inode files.tree tree) where
  node_there : (k other : ℕ) (also : Description) → k ≢ number → at files.descriptions k ≡ Some also → also.target ≡ targets.Node other → Has files.tree other → Has tree other
  node_there k other also apart second same has = elim (cases_eq other inode) [
    | inl e ↦
        let twice : 1 < holds_in files.tree inode = subst (λ (n : ℕ). 1 < n) (sym (is.holds inode)) (held_twice inode number k files.descriptions it also there target apart second (same ∙ ap targets.Node e)) in
        subst (Has tree) (sym e) (has_by (kind_in files.tree inode) (kind_in tree inode) (subst (Has files.tree) e has) (λ kind was. freed.kinds kind twice was))
    | inr far ↦ subst IsSome (sym (others_kind inode other files.tree tree freed.others far)) has
  ]

  release_there : (k : ℕ) (also : Description) → k ≢ number → at files.descriptions k ≡ Some also → IsThere tree files.devices files.pipes also.target
  release_there k also apart second = by_target also.target refl (is.there k also second)
    where
      by_target : (t : Target) → also.target ≡ t → IsThere files.tree files.devices files.pipes t → IsThere tree files.devices files.pipes t
      by_target (targets.Node other) same has = node_there k other also apart second same has
      by_target (targets.Device device) same lives = lives
      by_target (targets.Pipe pipe writes) same stands = stands

  release_holds : (other : ℕ) → holds_in tree other + one_in other it.target ≡ holders other files.descriptions
  release_holds other = elim (cases_eq other inode) [
    | inl e ↦
        let o : one_in inode it.target ≡ 1 = ap (one_in inode) target ∙ one_self inode in
        let h = is.holds inode in
        let r = freed.holds in
        let done : holds_in tree inode + one_in inode it.target ≡ holders inode files.descriptions = omega arith in
        subst (λ (n : ℕ). holds_in tree n + one_in n it.target ≡ holders n files.descriptions) (sym e) done
    | inr far ↦
        let o : one_in other it.target ≡ 0 = ap (one_in other) target ∙ one_other inode other far in
        let h = is.holds other in
        let r = others_holds inode other files.tree tree freed.others far in
        omega arith
  ]

pub node_gone : (files : Files) (fd number inode : ℕ) (it : Description) (tree : Tree) → IsSound files → names number (at files.descriptors fd) ≡ true → is_named number (set files.descriptors fd None) ≡ false → at files.descriptions number ≡ Some it → it.target ≡ targets.Node inode → IsReleased inode files.tree tree
    → IsSound (record { tree = tree; descriptors = set files.descriptors fd None; descriptions = set files.descriptions number None; devices = files.devices; pipes = files.pipes })
node_gone files fd number inode it tree is here gone there target freed =
    description_gone files fd number it tree files.devices files.pipes is here gone there freed.sound (release_there files number inode it tree is there target freed) (release_holds files number inode it tree is there target freed)

-- a device whose description goes is dead
device_at : (it : Description) (device : ℕ) → it.target ≡ targets.Device device → lone_of (Some it) ≡ Some (targets.Device device)
device_at it device target = by_target it.target target
  where
    by_target : (t : Target) → t ≡ targets.Device device → lone_of (Some (record { target = t; flags = it.flags; offset = it.offset })) ≡ Some (targets.Device device)
    by_target (targets.Node inode) same = absurd (let f : ⊥ = cc in f)
    by_target (targets.Device other) same = let e : other ≡ device = cc in ap (λ (n : ℕ). Some (targets.Device n)) e
    by_target (targets.Pipe pipe writes) same = absurd (let f : ⊥ = cc in f)

get_within : (devices : List Device) (k : ℕ) → lives_by (slice_get devices k) ≡ true → k < length devices
get_within [] k lives = absurd (let f : ⊥ = cc in f)
get_within (d ∷ ds) zero lives = omega arith
get_within (d ∷ ds) (suc k) lives = let h : k < length ds = get_within ds k lives in omega arith

-- a device that a description names is there
pub device_within : (files : Files) (number device : ℕ) (it : Description) → IsSound files → at files.descriptions number ≡ Some it → it.target ≡ targets.Device device → device < length files.devices
device_within files number device it is there target = get_within files.devices device (subst (IsThere files.tree files.devices files.pipes) target (is.there number it there))

get_other : (devices : List Device) (k n : ℕ) (device : Device) → n ≢ k → slice_get (set devices k device) n ≡ slice_get devices n
get_other [] k n device apart = refl
get_other (d ∷ ds) zero zero device apart = absurd (apart refl)
get_other (d ∷ ds) zero (suc n) device apart = refl
get_other (d ∷ ds) (suc k) zero device apart = refl
get_other (d ∷ ds) (suc k) (suc n) device apart = get_other ds k n device (λ e. apart (ap suc e))

pub device_gone : (files : Files) (fd number device : ℕ) (it : Description) (left : Device) → IsSound files → names number (at files.descriptors fd) ≡ true → is_named number (set files.descriptors fd None) ≡ false → at files.descriptions number ≡ Some it → it.target ≡ targets.Device device
    → IsSound (record { tree = files.tree; descriptors = set files.descriptors fd None; descriptions = set files.descriptions number None; devices = set files.devices device left; pipes = files.pipes })
device_gone files fd number device it left is here gone there target =
    description_gone files fd number it files.tree (set files.devices device left) files.pipes is here gone there is.tree stays holds
  where
    stays : (k : ℕ) (other : Description) → k ≢ number → at files.descriptions k ≡ Some other → IsThere files.tree (set files.devices device left) files.pipes other.target
    stays k other apart second = by_target other.target refl (is.there k other second)
      where
        by_target : (t : Target) → other.target ≡ t → IsThere files.tree files.devices files.pipes t → IsThere files.tree (set files.devices device left) files.pipes t
        by_target (targets.Node inode) same has = has
        by_target (targets.Device d) same lives =
            let far : d ≢ device = λ e. apart (is.once (targets.Device device) k number (ap lone_of second ∙ device_at other device (same ∙ ap targets.Device e)) (ap lone_of there ∙ device_at it device target)) in
            ap lives_by (get_other files.devices device d left far) ∙ lives
        by_target (targets.Pipe pipe writes) same stands = stands

    holds : (inode : ℕ) → holds_in files.tree inode + one_in inode it.target ≡ holders inode files.descriptions
    holds inode = let o : one_in inode it.target ≡ 0 = ap (one_in inode) target in let h = is.holds inode in omega arith

-- an end of a pipe whose description goes is closed
pipe_at : (it : Description) (pipe : ℕ) (writes : Bool) → it.target ≡ targets.Pipe pipe writes → lone_of (Some it) ≡ Some (targets.Pipe pipe writes)
pipe_at it pipe writes target = ap (λ (t : Target). lone_of (Some (record { target = t; flags = it.flags; offset = it.offset }))) target

other_end : (writes also : Bool) (pipe : Pipe) → (also ≡ writes → ⊥) → end_of_pipe also pipe ≡ true → is_open_by also (without_end writes pipe) ≡ true
other_end true true pipe apart stands = absurd (apart refl)
other_end true false pipe apart stands = by_reader pipe.reader stands
  where
    by_reader : (b : Bool) → b ≡ true → is_open_by false (if b then Some (record { bytes = pipe.bytes; reader = true; writer = false }) else None) ≡ true
    by_reader true stands = refl
    by_reader false stands = absurd (let f : ⊥ = cc in f)
other_end false false pipe apart stands = absurd (apart refl)
other_end false true pipe apart stands = by_writer pipe.writer stands
  where
    by_writer : (b : Bool) → b ≡ true → is_open_by true (if b then Some (record { bytes = pipe.bytes; reader = false; writer = true }) else None) ≡ true
    by_writer true stands = refl
    by_writer false stands = absurd (let f : ⊥ = cc in f)

other_end_by : (writes also : Bool) (place : Option Pipe) → (also ≡ writes → ⊥) → is_open_by also place ≡ true → is_open_by also (without_end_by writes place) ≡ true
other_end_by writes also None apart stands = stands
other_end_by writes also (Some pipe) apart stands = other_end writes also pipe apart stands

-- an end that is open is of a pipe that is there
pipe_there : (writes : Bool) (place : Option Pipe) → is_open_by writes place ≡ true → (pipe : Pipe) × (place ≡ Some pipe)
pipe_there writes None stands = absurd (let f : ⊥ = cc in f)
pipe_there writes (Some pipe) stands = (pipe, refl)

pub pipe_within : (pipes : List (Option Pipe)) (pipe : ℕ) (writes : Bool) → is_open_by writes (at pipes pipe) ≡ true → pipe < length pipes
pipe_within pipes pipe writes stands = let there = pipe_there writes (at pipes pipe) stands in at_within pipes pipe there.0 there.1

pub end_there : (files : Files) (number pipe : ℕ) (writes : Bool) (it : Description) → IsSound files → at files.descriptions number ≡ Some it → it.target ≡ targets.Pipe pipe writes → is_open_by writes (at files.pipes pipe) ≡ true
end_there files number pipe writes it is there target = subst (IsThere files.tree files.devices files.pipes) target (is.there number it there)

pub pipe_gone : (files : Files) (fd number pipe : ℕ) (writes : Bool) (it : Description) → IsSound files → names number (at files.descriptors fd) ≡ true → is_named number (set files.descriptors fd None) ≡ false → at files.descriptions number ≡ Some it → it.target ≡ targets.Pipe pipe writes
    → IsSound (record { tree = files.tree; descriptors = set files.descriptors fd None; descriptions = set files.descriptions number None; devices = files.devices; pipes = set files.pipes pipe (without_end_by writes (at files.pipes pipe)) })
pipe_gone files fd number pipe writes it is here gone there target =
    description_gone files fd number it files.tree files.devices (set files.pipes pipe (without_end_by writes (at files.pipes pipe))) is here gone there is.tree stays holds
  where
    within : pipe < length files.pipes
    within = pipe_within files.pipes pipe writes (end_there files number pipe writes it is there target)

    stays : (k : ℕ) (other : Description) → k ≢ number → at files.descriptions k ≡ Some other → IsThere files.tree files.devices (set files.pipes pipe (without_end_by writes (at files.pipes pipe))) other.target
    stays k other apart second = by_target other.target refl (is.there k other second)
      where
        by_target : (t : Target) → other.target ≡ t → IsThere files.tree files.devices files.pipes t → IsThere files.tree files.devices (set files.pipes pipe (without_end_by writes (at files.pipes pipe))) t
        by_target (targets.Node inode) same has = has
        by_target (targets.Device d) same lives = lives
        by_target (targets.Pipe p also) same stands = elim (cases_eq p pipe) [
          | inl e ↦
              let far : also ≡ writes → ⊥ = λ f. apart (is.once (targets.Pipe pipe writes) k number (ap lone_of second ∙ pipe_at other pipe writes (same ∙ (ap (λ (n : ℕ). targets.Pipe n also) e ∙ ap (targets.Pipe pipe) f))) (ap lone_of there ∙ pipe_at it pipe writes target)) in
              subst (λ (n : ℕ). is_open_by also (at (set files.pipes pipe (without_end_by writes (at files.pipes pipe))) n) ≡ true) (sym e)
              (ap (is_open_by also) (at_same files.pipes pipe (without_end_by writes (at files.pipes pipe)) within) ∙ other_end_by writes also (at files.pipes pipe) far (subst (λ (n : ℕ). is_open_by also (at files.pipes n) ≡ true) e stands))
          | inr off ↦ ap (is_open_by also) (at_other files.pipes pipe p (without_end_by writes (at files.pipes pipe)) off) ∙ stands
        ]

    holds : (inode : ℕ) → holds_in files.tree inode + one_in inode it.target ≡ holders inode files.descriptions
    holds inode = let o : one_in inode it.target ≡ 0 = ap (one_in inode) target in let h = is.holds inode in omega arith

-- ---- a description with other flags or another offset

lone_same : (first second : Description) → first.target ≡ second.target → lone_of (Some first) ≡ lone_of (Some second)
lone_same first second same = ap (λ (t : Target). lone_of (Some (record { target = t; flags = 0; offset = 0 }))) same

pub description_changed : (files : Files) (number : ℕ) (old new : Description) → IsSound files → at files.descriptions number ≡ Some old → new.target ≡ old.target → IsSound (with_description number new files)
unfolding holders
description_changed files number old new is there same = record {
  tree = is.tree;
  many = is.many;
  named = λ fd d same. some_then d.description (is.named fd d same);
  used = λ k some. is.used k (some_back k some);
  there = λ k it is_it. elim (cases_eq k number) [
    | inl e ↦
        let p : Some new ≡ Some it = sym here ∙ (ap (at (set files.descriptions number (Some new))) (sym e) ∙ is_it) in
        let q : new ≡ it = cc in
        subst (IsThere files.tree files.devices files.pipes) (sym same ∙ ap (λ (d : Description). d.target) q) (is.there number old there)
    | inr apart ↦ is.there k it (sym (at_other files.descriptions number k (Some new) apart) ∙ is_it)
  ];
  holds = λ inode.
      let s = sum_by-set (one_for inode) files.descriptions number (Some new) None within in
      let o : one_for inode (at files.descriptions number) ≡ one_for inode (Some new) = ap (one_for inode) there ∙ ap (one_in inode) (sym same) in
      let h : holds_in files.tree inode ≡ sum_by (one_for inode) files.descriptions = is.holds inode in
      omega arith;
  once = λ target k other first second. is.once target k other (sym (lone_k k) ∙ first) (sym (lone_k other) ∙ second);
}
  where
    within : number < length files.descriptions
    within = at_within files.descriptions number old there

    here : at (set files.descriptions number (Some new)) number ≡ Some new
    here = at_same files.descriptions number (Some new) within

    some_then : (k : ℕ) → IsSome (at files.descriptions k) → IsSome (at (set files.descriptions number (Some new)) k)
    some_then k some = elim (cases_eq k number) [
      | inl e ↦ subst (λ (n : ℕ). IsSome (at (set files.descriptions number (Some new)) n)) (sym e) (some_from (at (set files.descriptions number (Some new)) number) new here)
      | inr apart ↦ subst IsSome (sym (at_other files.descriptions number k (Some new) apart)) some
    ]

    some_back : (k : ℕ) → IsSome (at (set files.descriptions number (Some new)) k) → IsSome (at files.descriptions k)
    some_back k some = elim (cases_eq k number) [
      | inl e ↦ subst (λ (n : ℕ). IsSome (at files.descriptions n)) (sym e) (some_from (at files.descriptions number) old there)
      | inr apart ↦ subst IsSome (at_other files.descriptions number k (Some new) apart) some
    ]

    lone_k : (k : ℕ) → lone_of (at (set files.descriptions number (Some new)) k) ≡ lone_of (at files.descriptions k)
    lone_k k = elim (cases_eq k number) [
      | inl e ↦ subst (λ (n : ℕ). lone_of (at (set files.descriptions number (Some new)) n) ≡ lone_of (at files.descriptions n)) (sym e) (ap lone_of here ∙ (lone_same new old same ∙ ap lone_of (sym there)))
      | inr apart ↦ ap lone_of (at_other files.descriptions number k (Some new) apart)
    ]

-- ---- a description that is new, with its descriptor

pub description_added : (files : Files) (tree : Tree) (fd v : ℕ) (it : Description) (closes : Bool) → IsSound files → IsSoundTree tree → fd < 256 → at files.descriptors fd ≡ None → at files.descriptions v ≡ None → v ≤ length files.descriptions
    → ((k : ℕ) (other : Description) → at files.descriptions k ≡ Some other → IsThere tree files.devices files.pipes other.target)
    → IsThere tree files.devices files.pipes it.target
    → ((inode : ℕ) → holds_in tree inode ≡ holders inode files.descriptions + one_in inode it.target)
    → ((target : Target) (k : ℕ) → lone_of (Some it) ≡ Some target → lone_of (at files.descriptions k) ≡ Some target → ⊥)
    → IsSound (record { tree = tree; descriptors = set files.descriptors fd (Some (record { description = v; close_on_exec = closes })); descriptions = put v it files.descriptions; devices = files.devices; pipes = files.pipes })
unfolding holders
description_added files tree fd v it closes is sound low free unused behind stays there holds fresh = record {
  tree = sound;
  many = length-set files.descriptors fd (Some d) ∙ is.many;
  named = λ k other same. elim (cases_eq k fd) [
    | inl e ↦
        let p : Some d ≡ Some other = sym (at_same files.descriptors fd (Some d) within) ∙ (ap (at (set files.descriptors fd (Some d))) (sym e) ∙ same) in
        let q : d ≡ other = cc in
        subst (λ (x : Descriptor). IsSome (at (put v it files.descriptions) x.description)) q (some_from (at (put v it files.descriptions) v) it here)
    | inr apart ↦ some_then other.description (is.named k other (sym (at_other files.descriptors fd k (Some d) apart) ∙ same))
  ];
  used = λ k some. elim (cases_eq k v) [
    | inl e ↦ subst (λ (n : ℕ). is_named n (set files.descriptors fd (Some d)) ≡ true) (sym e) (named_at v fd (set files.descriptors fd (Some d)) (names_self (at (set files.descriptors fd (Some d)) fd) d (at_same files.descriptors fd (Some d) within)))
    | inr apart ↦
        named_set k fd (Some d) files.descriptors within (λ also. absurd (let n : names k (at files.descriptors fd) ≡ false = ap (names k) free in let f : ⊥ = cc in f))
        (is.used k (subst IsSome (put_other files.descriptions v k it behind apart) some))
  ];
  there = λ k other same. elim (cases_eq k v) [
    | inl e ↦
        let p : Some it ≡ Some other = sym here ∙ (ap (at (put v it files.descriptions)) (sym e) ∙ same) in
        let q : it ≡ other = cc in
        subst (λ (x : Description). IsThere tree files.devices files.pipes x.target) q there
    | inr apart ↦ stays k other (sym (put_other files.descriptions v k it behind apart) ∙ same)
  ];
  holds = λ inode. holds inode ∙ sym (put_sum (one_for inode) files.descriptions v it refl unused);
  once = λ device k other first second. elim (cases_eq k v) [
    | inl e ↦ elim (cases_eq other v) [
      | inl f ↦ e ∙ sym f
      | inr far ↦ absurd (fresh device other (here_lone device k e first) (else_lone device other far second))
    ]
    | inr apart ↦ elim (cases_eq other v) [
      | inl f ↦ absurd (fresh device k (here_lone device other f second) (else_lone device k apart first))
      | inr far ↦ is.once device k other (else_lone device k apart first) (else_lone device other far second)
    ]
  ];
}
  where
    d : Descriptor
    d = record { description = v; close_on_exec = closes }

    within : fd < length files.descriptors
    within = let many = is.many in omega arith

    here : at (put v it files.descriptions) v ≡ Some it
    here = put_same files.descriptions v it behind

    some_then : (k : ℕ) → IsSome (at files.descriptions k) → IsSome (at (put v it files.descriptions) k)
    some_then k some = elim (cases_eq k v) [
      | inl e ↦ subst (λ (n : ℕ). IsSome (at (put v it files.descriptions) n)) (sym e) (some_from (at (put v it files.descriptions) v) it here)
      | inr apart ↦ subst IsSome (sym (put_other files.descriptions v k it behind apart)) some
    ]

    here_lone : (device : Target) (k : ℕ) → k ≡ v → lone_of (at (put v it files.descriptions) k) ≡ Some device → lone_of (Some it) ≡ Some device
    here_lone device k e same = sym (ap lone_of here) ∙ (ap (λ (n : ℕ). lone_of (at (put v it files.descriptions) n)) (sym e) ∙ same)

    else_lone : (device : Target) (k : ℕ) → k ≢ v → lone_of (at (put v it files.descriptions) k) ≡ Some device → lone_of (at files.descriptions k) ≡ Some device
    else_lone device k apart same = ap lone_of (sym (put_other files.descriptions v k it behind apart)) ∙ same

-- ---- another tree

pub tree_changed : (files : Files) (tree : Tree) → IsSound files → IsSoundTree tree → HoldsStay files.tree tree → HeldStay files.tree tree → IsSound (with_tree tree files)
tree_changed files tree is sound holds kinds = record {
  tree = sound;
  many = is.many;
  named = is.named;
  used = is.used;
  there = λ k it same. by_target k it it.target refl same (is.there k it same);
  holds = λ inode. holds inode ∙ is.holds inode;
  once = is.once;
}
  where
    by_target : (k : ℕ) (it : Description) (t : Target) → it.target ≡ t → at files.descriptions k ≡ Some it → IsThere files.tree files.devices files.pipes t → IsThere tree files.devices files.pipes t
    by_target k it (targets.Node inode) target same has =
        held_has_stays files.tree tree inode kinds (subst (λ (n : ℕ). 0 < n) (sym (is.holds inode)) (held_once inode k files.descriptions it same target)) has
    by_target k it (targets.Device device) target same lives = lives
    by_target k it (targets.Pipe pipe writes) target same stands = stands

-- where each entry keeps its kind, so do those that are held
pub all_held : (old new : Tree) → KindsStay old new → HeldStay old new
all_held old new stay = λ inode kind held same. stay inode kind same

-- ---- another output of a device

lives_other : (devices : List Device) (device k : ℕ) (new : Device) → new.live ≡ (get_or devices device no_device).live → lives_by (slice_get devices k) ≡ true → lives_by (slice_get (set devices device new) k) ≡ true
lives_other [] device k new same lives = lives
lives_other (d ∷ ds) zero zero new same lives = same ∙ lives
lives_other (d ∷ ds) zero (suc k) new same lives = lives
lives_other (d ∷ ds) (suc device) zero new same lives = lives
lives_other (d ∷ ds) (suc device) (suc k) new same lives = lives_other ds device k new same lives

pub device_changed : (files : Files) (device : ℕ) (new : Device) → IsSound files → new.live ≡ (get_or files.devices device no_device).live → IsSound (record { tree = files.tree; descriptors = files.descriptors; descriptions = files.descriptions; devices = set files.devices device new; pipes = files.pipes })
device_changed files device new is same = record {
  tree = is.tree;
  many = is.many;
  named = is.named;
  used = is.used;
  there = λ k it here. by_target it.target (is.there k it here);
  holds = is.holds;
  once = is.once;
}
  where
    by_target : (t : Target) → IsThere files.tree files.devices files.pipes t → IsThere files.tree (set files.devices device new) files.pipes t
    by_target (targets.Node inode) has = has
    by_target (targets.Device other) lives = lives_other files.devices device other new same lives
    by_target (targets.Pipe pipe writes) stands = stands

-- ---- an entry that is opened

-- its number is below the number of descriptors
pub vacant_low : (files : Files) (fd : ℕ) → IsSound files → fd < 256 → at files.descriptors fd ≡ None → vacant files.descriptions < 256
vacant_low files fd is low free =
    let many = is.many in
    let v = vacant_few files.descriptions files.descriptors fd is.used (omega arith) free in
    omega arith

pub node_opened : (files : Files) (tree : Tree) (fd inode flags : ℕ) (closes : Bool) → IsSound files → fd < 256 → at files.descriptors fd ≡ None → Has files.tree inode → IsHeld inode files.tree tree
    → IsSound (record { tree = tree; descriptors = set files.descriptors fd (Some (record { description = vacant files.descriptions; close_on_exec = closes })); descriptions = put (vacant files.descriptions) (target_description (targets.Node inode) flags) files.descriptions; devices = files.devices; pipes = files.pipes })
node_opened files tree fd inode flags closes is low free has held =
    description_added files tree fd (vacant files.descriptions) (target_description (targets.Node inode) flags) closes is held.sound low free (vacant_free files.descriptions) (vacant_behind files.descriptions)
    (λ k other same. by_target other.target (is.there k other same))
    (has_stays files.tree tree inode held.kinds has)
    holds
    (λ device k first second. absurd (let f : ⊥ = cc in f))
  where
    by_target : (t : Target) → IsThere files.tree files.devices files.pipes t → IsThere tree files.devices files.pipes t
    by_target (targets.Node other) has = has_stays files.tree tree other held.kinds has
    by_target (targets.Device device) lives = lives
    by_target (targets.Pipe pipe writes) stands = stands

    few : holders inode files.descriptions ≤ 256
    few =
        let many = is.many in
        let h = few_holders inode files.descriptions in
        let d = few_descriptions files.descriptions files.descriptors is.used in
        omega arith

    holds : (other : ℕ) → holds_in tree other ≡ holders other files.descriptions + one_in other (targets.Node inode)
    holds other = elim (cases_eq other inode) [
      | inl e ↦
          let h = is.holds inode in
          let n = held.holds in
          let f = few in
          let o = one_self inode in
          let done : holds_in tree inode ≡ holders inode files.descriptions + one_in inode (targets.Node inode) = omega arith in
          subst (λ (n : ℕ). holds_in tree n ≡ holders n files.descriptions + one_in n (targets.Node inode)) (sym e) done
      | inr far ↦
          let h = is.holds other in
          let n = others_holds inode other files.tree tree held.others far in
          let o = one_other inode other far in
          omega arith
    ]

-- ---- an end of a pipe that is opened

pub end_opened : (files : Files) (fd pipe flags : ℕ) (writes closes : Bool) → IsSound files → fd < 256 → at files.descriptors fd ≡ None → is_open_by writes (at files.pipes pipe) ≡ true → ((number : ℕ) → lone_of (at files.descriptions number) ≡ Some (targets.Pipe pipe writes) → ⊥)
    → IsSound (record { tree = files.tree; descriptors = set files.descriptors fd (Some (record { description = vacant files.descriptions; close_on_exec = closes })); descriptions = put (vacant files.descriptions) (target_description (targets.Pipe pipe writes) flags) files.descriptions; devices = files.devices; pipes = files.pipes })
end_opened files fd pipe flags writes closes is low free stands fresh =
    description_added files files.tree fd (vacant files.descriptions) (target_description (targets.Pipe pipe writes) flags) closes is is.tree low free (vacant_free files.descriptions) (vacant_behind files.descriptions)
    is.there
    stands
    (λ inode. let h = is.holds inode in let z : one_in inode (targets.Pipe pipe writes) ≡ 0 = refl in omega arith)
    (λ target k first second. fresh k (second ∙ sym first))

-- ---- pipes

-- where what stands open stays open
pub pipes_changed : (files : Files) (pipes : List (Option Pipe)) → IsSound files → ((pipe : ℕ) (writes : Bool) → is_open_by writes (at files.pipes pipe) ≡ true → is_open_by writes (at pipes pipe) ≡ true) → IsSound (record { tree = files.tree; descriptors = files.descriptors; descriptions = files.descriptions; devices = files.devices; pipes = pipes })
pipes_changed files pipes is stay = record {
  tree = is.tree;
  many = is.many;
  named = is.named;
  used = is.used;
  there = λ k it here. by_target it.target (is.there k it here);
  holds = is.holds;
  once = is.once;
}
  where
    by_target : (t : Target) → IsThere files.tree files.devices files.pipes t → IsThere files.tree files.devices pipes t
    by_target (targets.Node inode) has = has
    by_target (targets.Device device) lives = lives
    by_target (targets.Pipe pipe writes) stands = stay pipe writes stands

pub pipe_changed : (files : Files) (number : ℕ) (place : Option Pipe) → IsSound files → number < length files.pipes → ((writes : Bool) → is_open_by writes place ≡ is_open_by writes (at files.pipes number)) → IsSound (record { tree = files.tree; descriptors = files.descriptors; descriptions = files.descriptions; devices = files.devices; pipes = set files.pipes number place })
pipe_changed files number place is within ends =
    pipes_changed files (set files.pipes number place) is (λ pipe writes stands. elim (cases_eq pipe number) [
      | inl e ↦
          subst (λ (n : ℕ). is_open_by writes (at (set files.pipes number place) n) ≡ true) (sym e)
          (ap (is_open_by writes) (at_same files.pipes number place within) ∙ (ends writes ∙ subst (λ (n : ℕ). is_open_by writes (at files.pipes n) ≡ true) e stands))
      | inr apart ↦ ap (is_open_by writes) (at_other files.pipes number pipe place apart) ∙ stands
    ])

new_stands : (writes : Bool) → end_of_pipe writes new_pipe ≡ true
new_stands true = refl
new_stands false = refl

pub pipe_added : (files : Files) → IsSound files → IsSound (with_new_pipe files)
pipe_added files is =
    pipes_changed files (put (vacant files.pipes) new_pipe files.pipes) is (λ pipe writes stands. elim (cases_eq pipe (vacant files.pipes)) [
      | inl e ↦
          subst (λ (n : ℕ). is_open_by writes (at (put (vacant files.pipes) new_pipe files.pipes) n) ≡ true) (sym e)
          (ap (is_open_by writes) (put_same files.pipes (vacant files.pipes) new_pipe (vacant_behind files.pipes)) ∙ new_stands writes)
      | inr apart ↦ ap (is_open_by writes) (put_other files.pipes (vacant files.pipes) pipe new_pipe (vacant_behind files.pipes) apart) ∙ stands
    ])

-- nothing is open for an end of a pipe that isn't there
pub none_fresh : (files : Files) (pipe : ℕ) (writes : Bool) → IsSound files → at files.pipes pipe ≡ None → (number : ℕ) → lone_of (at files.descriptions number) ≡ Some (targets.Pipe pipe writes) → ⊥
none_fresh files pipe writes is none number same = by_place (at files.descriptions number) refl same
  where
    by_target : (it : Description) (t : Target) → it.target ≡ t → at files.descriptions number ≡ Some it → lone_of (Some (record { target = t; flags = it.flags; offset = it.offset })) ≡ Some (targets.Pipe pipe writes) → ⊥
    by_target it (targets.Node inode) target there same = let f : ⊥ = cc in f
    by_target it (targets.Device device) target there same = let f : ⊥ = cc in f
    by_target it (targets.Pipe p also) target there same =
        let e : targets.Pipe p also ≡ targets.Pipe pipe writes = cc in
        let stands : is_open_by writes (at files.pipes pipe) ≡ true = end_there files number pipe writes it is there (target ∙ e) in
        let shut : is_open_by writes (at files.pipes pipe) ≡ false = ap (is_open_by writes) none in
        let f : ⊥ = cc in f

    by_place : (o : Option Description) → at files.descriptions number ≡ o → lone_of o ≡ Some (targets.Pipe pipe writes) → ⊥
    by_place None there same = let f : ⊥ = cc in f
    by_place (Some it) there same = by_target it it.target refl there same
