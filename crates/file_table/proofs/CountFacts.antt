-- There are at most as many descriptions as descriptors that are open, so that a free number is low.
use Rattle.std.proofs.Common.{◌≡◌, ℕ, zero, suc, ◌+◌, ◌-◌, ◌<◌, ◌≤◌, ◌==◌, nat_le, ◌||◌, ◌&&◌, Bool, true, false, if◌then◌else◌, List, [], ◌∷◌, length, Option, Some, None, IsSome, refl, sym, ap, subst, ◌∙◌, arith}
use Rattle.std.specs.Prelude.{sum_by}
use Rattle.std.proofs.lemmas.Bool.{le-leb, leb-true, leb-false, eqb-true, eqb-false}
use Rattle.std.proofs.lemmas.List.Sums.{sum_by-cons}
use Rattle.file_table.specs.declared.state.Descriptor.{Descriptor}
use Rattle.file_table.specs.declared.state.Description.{Description}
use Rattle.std.specs.Prelude.{MatchOption}
use Rattle.file_table.specs.Descriptors.{names, is_named, free_from, free_place}
use Rattle.file_table.specs.Opening.{vacant_from, vacant}
use Rattle.file_table.specs.declared.state.Target.{Target}
use Rattle.file_table.specs.declared.state.Target.TheVariants as targets
use Rattle.file_table.specs.Sound.{one_for, one_in, holders}
use Rattle.file_table.specs.State.{at}

abbrev one_if : Bool → ℕ
one_if b = if b then 1 else 0

abbrev pub one_some : {A : Type 0} → Option A → ℕ
one_some None = 0
one_some (Some x) = 1

-- a descriptor of a description from a number on, and of just this number
abbrev from : ℕ → Option Descriptor → ℕ
from base None = 0
from base (Some d) = one_if (nat_le base d.description)

abbrev just : ℕ → Option Descriptor → ℕ
just base None = 0
just base (Some d) = one_if (d.description == base)

split_by : (base n : ℕ) (low high same : Bool) → nat_le base n ≡ low → nat_le (base + 1) n ≡ high → (n == base) ≡ same → one_if low ≡ one_if same + one_if high
split_by base n true true true low high same = let a = leb-true (base + 1) n high in let b = eqb-true n base same in absurd (omega arith)
split_by base n true true false low high same = refl
split_by base n true false true low high same = refl
split_by base n true false false low high same = let a = leb-true base n low in let b = leb-false (base + 1) n high in absurd (eqb-false n base same (omega arith))
split_by base n false true same low high is = let a = leb-false base n low in let b = leb-true (base + 1) n high in absurd (omega arith)
split_by base n false false true low high same = let a = leb-false base n low in let b = eqb-true n base same in absurd (omega arith)
split_by base n false false false low high same = refl

split_one : (base : ℕ) (o : Option Descriptor) → from base o ≡ just base o + from (base + 1) o
split_one base None = refl
split_one base (Some d) = split_by base d.description (nat_le base d.description) (nat_le (base + 1) d.description) (d.description == base) refl refl refl

split : (base : ℕ) (ds : List (Option Descriptor)) → sum_by (from base) ds ≡ sum_by (just base) ds + sum_by (from (base + 1)) ds
split base [] = refl
split base (d ∷ ds) =
    let h = split base ds in
    let one = split_one base d in
    omega (arith, sum_by-cons (from base) d ds, sum_by-cons (just base) d ds, sum_by-cons (from (base + 1)) d ds)

just_names : (base : ℕ) (o : Option Descriptor) → just base o ≡ one_if (names base o)
just_names base None = refl
just_names base (Some d) = refl

counted_first : (b : Bool) (rest named : Bool) (n sum : ℕ) → n ≡ one_if b → (named ≡ true → 1 ≤ sum) → named ≡ rest → (b || rest) ≡ true → 1 ≤ n + sum
counted_first true rest named n sum one more is any = omega arith
counted_first false rest named n sum one more is any = let h = more (is ∙ any) in omega arith

named_counts : (base : ℕ) (ds : List (Option Descriptor)) → is_named base ds ≡ true → 1 ≤ sum_by (just base) ds
named_counts base [] named = absurd (let f : ⊥ = cc in f)
named_counts base (d ∷ ds) named = subst (λ (n : ℕ). 1 ≤ n) (sym (sum_by-cons (just base) d ds)) (counted_first (names base d) (is_named base ds) (is_named base ds) (just base d) (sum_by (just base) ds) (just_names base d) (named_counts base ds) refl named)

one_less : {A : Type 0} → (o : Option A) (base sum : ℕ) (ds : List (Option Descriptor)) → sum ≤ sum_by (from (base + 1)) ds → (IsSome o → is_named base ds ≡ true) → one_some o + sum ≤ sum_by (from base) ds
one_less None base sum ds rest named = let s = split base ds in omega arith
one_less (Some x) base sum ds rest named = let s = split base ds in let n = named_counts base ds (named refl) in omega arith

counted : {A : Type 0} → (base : ℕ) (places : List (Option A)) (ds : List (Option Descriptor)) → ((number : ℕ) → IsSome (at places number) → is_named (base + number) ds ≡ true) → sum_by one_some places ≤ sum_by (from base) ds
counted base [] ds named = omega arith
counted base (p ∷ ps) ds named =
    subst (λ (n : ℕ). n ≤ sum_by (from base) ds) (sym (sum_by-cons one_some p ps)) (one_less p base (sum_by one_some ps) ds
    (counted (base + 1) ps ds (λ number some. let e : (base + 1) + number ≡ base + suc number = omega arith in subst (λ (n : ℕ). is_named n ds ≡ true) (sym e) (named (suc number) some)))
    (λ some. let e : base + zero ≡ base = omega arith in subst (λ (n : ℕ). is_named n ds ≡ true) e (named zero some)))

from_low : (base : ℕ) (o : Option Descriptor) → from base o ≤ 1
from_low base None = omega arith
from_low base (Some d) = by_test (nat_le base d.description)
  where
    by_test : (b : Bool) → one_if b ≤ 1
    by_test true = omega arith
    by_test false = omega arith

from_few : (base : ℕ) (ds : List (Option Descriptor)) → sum_by (from base) ds ≤ length ds
from_few base [] = omega arith
from_few base (d ∷ ds) = let h = from_few base ds in let one = from_low base d in omega (arith, sum_by-cons (from base) d ds)

from_free : (base fd : ℕ) (ds : List (Option Descriptor)) → fd < length ds → at ds fd ≡ None → sum_by (from base) ds + 1 ≤ length ds
from_free base fd [] low free = absurd (omega arith)
from_free base zero (d ∷ ds) low free = let h = from_few base ds in let z : from base d ≡ 0 = ap (from base) free in omega (arith, sum_by-cons (from base) d ds)
from_free base (suc fd) (d ∷ ds) low free = let h = from_free base fd ds (omega arith) free in let one = from_low base d in omega (arith, sum_by-cons (from base) d ds)

-- there are no more descriptions than descriptors
pub few_descriptions : {A : Type 0} → (places : List (Option A)) (ds : List (Option Descriptor)) → ((number : ℕ) → IsSome (at places number) → is_named number ds ≡ true) → sum_by one_some places ≤ length ds
few_descriptions places ds named =
    let c = counted 0 places ds (λ number some. let e : zero + number ≡ number = omega arith in subst (λ (n : ℕ). is_named n ds ≡ true) (sym e) (named number some)) in
    let f = from_few 0 ds in
    omega arith

-- and fewer where one is free
pub fewer_descriptions : {A : Type 0} → (places : List (Option A)) (ds : List (Option Descriptor)) (fd : ℕ) → ((number : ℕ) → IsSome (at places number) → is_named number ds ≡ true) → fd < length ds → at ds fd ≡ None → sum_by one_some places + 1 ≤ length ds
fewer_descriptions places ds fd named low free =
    let c = counted 0 places ds (λ number some. let e : zero + number ≡ number = omega arith in subst (λ (n : ℕ). is_named n ds ≡ true) (sym e) (named number some)) in
    let f = from_free 0 fd ds low free in
    omega arith

-- ---- the least number that nothing has

vacant_low : {A : Type 0} → (n : ℕ) (places : List (Option A)) → n ≤ vacant_from n places
unfolding vacant_from
vacant_low n [] = omega arith
vacant_low n (None ∷ ps) = omega arith
vacant_low n (Some p ∷ ps) = let h = vacant_low (n + 1) ps in omega arith

vacant_within : {A : Type 0} → (n : ℕ) (places : List (Option A)) → vacant_from n places ≤ n + length places
unfolding vacant_from
vacant_within n [] = omega arith
vacant_within n (None ∷ ps) = omega arith
vacant_within n (Some p ∷ ps) = let h = vacant_within (n + 1) ps in omega arith

vacant_count : {A : Type 0} → (n : ℕ) (places : List (Option A)) → vacant_from n places ≤ n + sum_by one_some places
unfolding vacant_from
vacant_count n [] = omega arith
vacant_count n (None ∷ ps) = omega arith
vacant_count n (Some p ∷ ps) = let h = vacant_count (n + 1) ps in omega (arith, sum_by-cons one_some (Some p) ps)

vacant_none : {A : Type 0} → (n : ℕ) (places : List (Option A)) → at places (vacant_from n places - n) ≡ None
unfolding vacant_from
vacant_none n [] = refl
vacant_none n (None ∷ ps) = let e : n - n ≡ zero = omega arith in ap (λ (k : ℕ). at (None ∷ ps) k) e
vacant_none n (Some p ∷ ps) =
    let low = vacant_low (n + 1) ps in
    let e : vacant_from (n + 1) ps - n ≡ suc (vacant_from (n + 1) ps - (n + 1)) = omega arith in
    ap (λ (k : ℕ). at (Some p ∷ ps) k) e ∙ vacant_none (n + 1) ps

pub vacant_free : {A : Type 0} → (places : List (Option A)) → at places (vacant places) ≡ None
vacant_free places = let e : vacant places - 0 ≡ vacant places = omega arith in sym (ap (at places) e) ∙ vacant_none 0 places

pub vacant_behind : {A : Type 0} → (places : List (Option A)) → vacant places ≤ length places
vacant_behind places = let h = vacant_within 0 places in omega arith

-- where a descriptor is free, a number below 255 or 255 itself is
pub vacant_few : {A : Type 0} → (places : List (Option A)) (ds : List (Option Descriptor)) (fd : ℕ) → ((number : ℕ) → IsSome (at places number) → is_named number ds ≡ true) → fd < length ds → at ds fd ≡ None → vacant places + 1 ≤ length ds
vacant_few places ds fd named low free =
    let c = fewer_descriptions places ds fd named low free in
    let v = vacant_count 0 places in
    omega arith

-- it is the first free place, or the one behind the last
vacant_by : {A : Type 0} → (n : ℕ) (places : List (Option A)) → MatchOption (free_from 0 n places) (vacant_from n places ≡ n + length places) (λ k. vacant_from n places ≡ k)
unfolding vacant_from free_from
vacant_by n [] = omega arith
vacant_by n (None ∷ ps) = by_low (nat_le 0 n) (le-leb 0 n (omega arith))
  where
    by_low : (b : Bool) → b ≡ true → MatchOption (if b && true then Some n else free_from 0 (n + 1) ps) (n ≡ n + suc (length ps)) (λ k. n ≡ k)
    by_low true low = refl
    by_low false low = absurd (let f : ⊥ = cc in f)
vacant_by n (Some p ∷ ps) = by_low (nat_le 0 n) (by_rest (free_from 0 (n + 1) ps) (vacant_by (n + 1) ps))
  where
    by_low : (b : Bool) → MatchOption (free_from 0 (n + 1) ps) (vacant_from (n + 1) ps ≡ n + suc (length ps)) (λ k. vacant_from (n + 1) ps ≡ k) → MatchOption (if b && false then Some n else free_from 0 (n + 1) ps) (vacant_from (n + 1) ps ≡ n + suc (length ps)) (λ k. vacant_from (n + 1) ps ≡ k)
    by_low true h = h
    by_low false h = h

    by_rest : (o : Option ℕ) → MatchOption o (vacant_from (n + 1) ps ≡ (n + 1) + length ps) (λ k. vacant_from (n + 1) ps ≡ k) → MatchOption o (vacant_from (n + 1) ps ≡ n + suc (length ps)) (λ k. vacant_from (n + 1) ps ≡ k)
    by_rest None h = omega arith
    by_rest (Some k) h = h

pub vacant_found : {A : Type 0} → (places : List (Option A)) (k : ℕ) → free_place 0 places ≡ Some k → vacant places ≡ k
vacant_found places k same = subst (λ (o : Option ℕ). MatchOption o (vacant places ≡ 0 + length places) (λ k. vacant places ≡ k)) same (vacant_by 0 places)

pub vacant_end : {A : Type 0} → (places : List (Option A)) → free_place 0 places ≡ None → vacant places ≡ length places
vacant_end places same = let h : vacant places ≡ 0 + length places = subst (λ (o : Option ℕ). MatchOption o (vacant places ≡ 0 + length places) (λ k. vacant places ≡ k)) same (vacant_by 0 places) in omega arith

-- an entry is held by no more than there are descriptions
one_low : (inode : ℕ) (o : Option Description) → one_for inode o ≤ one_some o
one_low inode None = omega arith
one_low inode (Some it) = by_target it.target
  where
    by_test : (b : Bool) → (if b then 1 else 0) ≤ 1
    by_test true = omega arith
    by_test false = omega arith

    by_target : (t : Target) → one_in inode t ≤ 1
    by_target (targets.Node other) = by_test (other == inode)
    by_target (targets.Device device) = omega arith
    by_target (targets.Pipe pipe writes) = omega arith

pub few_holders : (inode : ℕ) (places : List (Option Description)) → holders inode places ≤ sum_by one_some places
unfolding holders
few_holders inode [] = omega arith
few_holders inode (p ∷ ps) = let h : sum_by (one_for inode) ps ≤ sum_by one_some ps = few_holders inode ps in let one = one_low inode p in omega (arith, sum_by-cons (one_for inode) p ps, sum_by-cons one_some p ps)
