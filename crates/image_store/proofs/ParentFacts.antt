-- The directories that a path leads through, by its last slash.
use Rattle.std.proofs.Common.{◌≡◌, ℕ, zero, suc, ◌+◌, ◌-◌, ◌<◌, ◌==◌, ◌||◌, Bool, true, false, List, [], ◌∷◌, ◌++◌, length, get_or, take, drop, Ok, refl, sym, ap, ◌∙◌, subst, inl, inr, arith, length-append}
use Rattle.std.specs.List.{list_any, All}
use Rattle.std.proofs.lemmas.Bool.{cases_order}
use Rattle.std.proofs.lemmas.List.{append_assoc, get_or_at, get_or-append_right, take_at, drop_more, get_or-drop, get_or_default, length-drop, take-append-drop}
use Rattle.std.proofs.lemmas.List.Folds.{list_any_none, list_any_at}
use Rattle.image_store.specs.declared.folder.Listed.{Listed}
use Rattle.image_store.specs.declared.folder.Kind.TheVariants.{Dir}
use Rattle.image_store.specs.Listing.{HasDir, IsHoused, IsHousedAt, paths_of}
use Rattle.image_store.proofs.OrderFacts.{once, found_at}
use Rattle.std.specs.List.Sorted.{IsStrictlySortedBy, IsBinarySearchResult}
use Rattle.std.specs.Ordering.{nat_cmp}
use Rattle.std.specs.Cmp.Lexicographic.{slice_cmp}

abbrev slashed : List ℕ → Bool
slashed path = list_any (λ byte. byte == 47) path

-- what stands before the last slash, and behind it
pub record IsCut (path : List ℕ) : Type 0 where
  pub front : List ℕ
  pub name : List ℕ
  pub is : path ≡ front ++ 47 ∷ name
  pub plain : slashed name ≡ false

onto : (byte : ℕ) (path : List ℕ) → IsCut path → IsCut (byte ∷ path)
onto byte path cut = record { front = byte ∷ cut.front; name = cut.name; is = ap (λ (p : List ℕ). byte ∷ p) cut.is; plain = cut.plain }

is_slash : (byte : ℕ) → (byte == 47) ≡ true → byte ≡ 47
is_slash byte is = grind arith

cut_by : (more : Bool) (byte : ℕ) (path : List ℕ) → slashed path ≡ more → (slashed path ≡ true → IsCut path) → slashed (byte ∷ path) ≡ true → IsCut (byte ∷ path)
cut_by true byte path more rest some = onto byte path (rest more)
cut_by false byte path more rest some =
    let here : (byte == 47) ≡ true = or_here (byte == 47) (slashed path) more some in
    record { front = []; name = path; is = ap (λ (b : ℕ). b ∷ path) (is_slash byte here); plain = more }
  where
    or_here : (one other : Bool) → other ≡ false → (one || other) ≡ true → one ≡ true
    or_here true other none some = refl
    or_here false other none some = let f : ⊥ = cc in absurd f

pub last_cut : (path : List ℕ) → slashed path ≡ true → IsCut path
last_cut [] some = absurd (let f : ⊥ = cc in f)
last_cut (byte ∷ path) some = cut_by (slashed path) byte path refl (last_cut path) some

shorter : (path parent front name : List ℕ) (n : ℕ) → path ≡ (parent ++ 47 ∷ front) ++ 47 ∷ name → length path < suc n → length (parent ++ 47 ∷ front) < n
shorter path parent front name n same short =
    let long : length path ≡ length (parent ++ 47 ∷ front) + suc (length name) = ap length same ∙ length-append (parent ++ 47 ∷ front) (47 ∷ name) in
    omega arith

-- where the directory before each path's last slash is listed, so are all before it
housed_step : (n : ℕ) (listing : List Listed) → ((path : List ℕ) → length path < n → IsHousedAt listing path → IsHoused listing path)
    → All (λ entry. IsHousedAt listing entry.path) listing
    → (path : List ℕ) → length path < suc n → IsHousedAt listing path
    → (parent rest : List ℕ) → path ≡ parent ++ 47 ∷ rest → (more : Bool) → slashed rest ≡ more → HasDir listing parent
housed_step n listing next all path short at parent rest same false none = at parent rest same none
housed_step n listing next all path short at parent rest same true some =
    let cut = last_cut rest some in
    let front = parent ++ 47 ∷ cut.front in
    let whole : path ≡ front ++ 47 ∷ cut.name = same ∙ (ap (λ (r : List ℕ). parent ++ 47 ∷ r) cut.is ∙ sym (append_assoc parent (47 ∷ cut.front) (47 ∷ cut.name))) in
    let dir = at front cut.name whole cut.plain in
    let entry_is : IsHousedAt listing dir.1.path = subst (λ (e : Listed). IsHousedAt listing e.path) dir.3 (all dir.0 dir.1 dir.2) in
    let its : IsHousedAt listing front = subst (IsHousedAt listing) dir.4.0 entry_is in
    next front (shorter path parent cut.front cut.name n whole short) its parent cut.front refl

housed_within : (n : ℕ) (listing : List Listed) → All (λ entry. IsHousedAt listing entry.path) listing
    → (path : List ℕ) → length path < n → IsHousedAt listing path → IsHoused listing path
housed_within zero listing all path short at parent rest same = absurd (omega arith)
housed_within (suc n) listing all path short at parent rest same =
    housed_step n listing (housed_within n listing all) all path short at parent rest same (slashed rest) refl

pub all_housed : (listing : List Listed) → All (λ entry. IsHousedAt listing entry.path) listing → All (λ entry. IsHoused listing entry.path) listing
all_housed listing all k d within = housed_within (length (get_or listing k d).path + 1) listing all (get_or listing k d).path (omega arith) (all k d within)

pub all_housed_at : (listing : List Listed) → All (λ entry. IsHoused listing entry.path) listing → All (λ entry. IsHousedAt listing entry.path) listing
all_housed_at listing all k d within parent name same plain = all k d within parent name same

-- no slash stands where none is at any place
plain_from : (name : List ℕ) → ((place : ℕ) → place < length name → get_or name place 0 ≡ 47 → ⊥) → slashed name ≡ false
plain_from name none = list_any_none (λ byte. byte == 47) name (λ k d within. unequal (get_or name k d) (λ same. none k within (rw (get_or_default name k 0 d within) same)))
  where
    unequal_by : (test : Bool) (byte : ℕ) → (byte == 47) ≡ test → (byte ≡ 47 → ⊥) → test ≡ false
    unequal_by true byte is never = absurd (never (is_slash byte is))
    unequal_by false byte is never = refl

    unequal : (byte : ℕ) → (byte ≡ 47 → ⊥) → (byte == 47) ≡ false
    unequal byte never = unequal_by (byte == 47) byte refl never

-- the last slash is where the path is cut
at_slash : (path parent name : List ℕ) (slash : ℕ) → slash < length path → get_or path slash 0 ≡ 47
    → ((place : ℕ) → slash < place → place < length path → get_or path place 0 ≡ 47 → ⊥)
    → path ≡ parent ++ 47 ∷ name → slashed name ≡ false → length parent ≡ slash
at_slash path parent name slash within is last same plain =
    let long : length path ≡ length parent + suc (length name) = ap length same ∙ length-append parent (47 ∷ name) in
    let here : get_or path (length parent) 0 ≡ 47 = ap (λ (p : List ℕ). get_or p (length parent) 0) same ∙ get_or_at parent 47 name 0 (length parent) refl in
    elim (cases_order (length parent) slash) [
      | inl equal ↦ equal
      | inr rest ↦ elim rest [
        | inl low ↦ absurd (behind (slash - (length parent + 1)) (omega arith)
            (let shift : slash - length parent ≡ suc (slash - (length parent + 1)) = omega arith in
            let there : get_or (parent ++ 47 ∷ name) slash 0 ≡ get_or (47 ∷ name) (slash - length parent) 0 = get_or-append_right parent (47 ∷ name) (length parent) slash 0 refl (omega arith) in
            let step : get_or (47 ∷ name) (slash - length parent) 0 ≡ get_or name (slash - (length parent + 1)) 0 = ap (λ (n : ℕ). get_or (47 ∷ name) n 0) shift in
            sym step ∙ (sym there ∙ (ap (λ (p : List ℕ). get_or p slash 0) (sym same) ∙ is))))
        | inr high ↦ absurd (last (length parent) high (omega arith) here)
      ]
    ]
  where
    behind : (k : ℕ) → k < length name → get_or name k 0 ≡ 47 → ⊥
    behind k low there =
        let some : slashed name ≡ true = list_any_at (λ byte. byte == 47) name k 0 low (rw there refl) in
        let f : ⊥ = cc in f

pub housed_some : (listing : List Listed) (path before : List ℕ) (slash : ℕ) → slash < length path → get_or path slash 0 ≡ 47
    → ((place : ℕ) → slash < place → place < length path → get_or path place 0 ≡ 47 → ⊥)
    → before ≡ take slash path → HasDir listing before → IsHousedAt listing path
housed_some listing path before slash within is last cut dir parent name same plain =
    let n : length parent ≡ slash = at_slash path parent name slash within is last same plain in
    let front : take slash path ≡ parent = ap (take slash) same ∙ take_at parent (47 ∷ name) slash n in
    subst (HasDir listing) (cut ∙ front) dir

pub housed_here : (listing : List Listed) (path before : List ℕ) (slash : ℕ) → slash < length path → get_or path slash 0 ≡ 47
    → ((place : ℕ) → slash < place → place < length path → get_or path place 0 ≡ 47 → ⊥)
    → before ≡ take slash path → IsHousedAt listing path → HasDir listing before
housed_here listing path before slash within is last cut at =
    at before (drop (slash + 1) path)
    (sym (take-append-drop slash path) ∙ (ap (λ (r : List ℕ). take slash path ++ r) (drop_more path slash 0 within ∙ ap (λ (b : ℕ). b ∷ drop (slash + 1) path) is) ∙ ap (λ (f : List ℕ). f ++ 47 ∷ drop (slash + 1) path) (sym cut)))
    (plain_from (drop (slash + 1) path) (λ place low there. last (slash + 1 + place) (omega arith) (omega (arith, length-drop (slash + 1) path)) (sym (get_or-drop (slash + 1) path place 0) ∙ there)))

pub housed_none : (listing : List Listed) (path : List ℕ) → ((place : ℕ) → place < length path → get_or path place 0 ≡ 47 → ⊥) → IsHousedAt listing path
housed_none listing path none parent name same plain =
    let long : length path ≡ length parent + suc (length name) = ap length same ∙ length-append parent (47 ∷ name) in
    absurd (none (length parent) (omega arith) (ap (λ (p : List ℕ). get_or p (length parent) 0) same ∙ get_or_at parent 47 name 0 (length parent) refl))

-- what stands there is a directory, where the paths rise
pub dir_is : (listing : List Listed) (path : List ℕ) (place : ℕ) (d : Listed) → IsStrictlySortedBy (slice_cmp nat_cmp) (paths_of listing) → place < length listing
    → (get_or listing place d).path ≡ path → HasDir listing path → (get_or listing place d).kind ≡ Dir
dir_is listing path place d rises within same dir =
    let at : get_or listing dir.0 d ≡ dir.1 = get_or_default listing dir.0 d dir.1 dir.2 ∙ dir.3 in
    let its : (get_or listing dir.0 d).path ≡ path = ap (λ (e : Listed). e.path) at ∙ dir.4.0 in
    let here : dir.0 ≡ place = once (λ (e : Listed). e.path) listing dir.0 place d rises dir.2 within (its ∙ sym same) in
    ap (λ (n : ℕ). (get_or listing n d).kind) (sym here) ∙ (ap (λ (e : Listed). e.kind) at ∙ dir.4.1)

pub no_dir : (listing : List Listed) (path : List ℕ) → ((k : ℕ) (d : Listed) → k < length listing → (get_or listing k d).path ≡ path → ⊥) → HasDir listing path → ⊥
no_dir listing path never dir = never dir.0 dir.1 dir.2 (ap (λ (e : Listed). e.path) dir.3 ∙ dir.4.0)

-- the directory at the place that is found
pub found_dir : (listing : List Listed) (path : List ℕ) (place : ℕ) (entry : Listed) → place < length listing
    → IsBinarySearchResult (λ e. slice_cmp nat_cmp e.path path) listing (Ok place) → entry ≡ get_or listing place entry → entry.kind ≡ Dir → HasDir listing path
found_dir listing path place entry within found is dir =
    (place, entry, within, sym is, (ap (λ (e : Listed). e.path) is ∙ found_at (λ (e : Listed). e.path) listing path place entry found, dir))

pub dir_here : (listing : List Listed) (path : List ℕ) (place : ℕ) (entry : Listed) → IsStrictlySortedBy (slice_cmp nat_cmp) (paths_of listing) → place < length listing
    → IsBinarySearchResult (λ e. slice_cmp nat_cmp e.path path) listing (Ok place) → entry ≡ get_or listing place entry → HasDir listing path → entry.kind ≡ Dir
dir_here listing path place entry rises within found is dir =
    ap (λ (e : Listed). e.kind) is ∙ dir_is listing path place entry rises within (found_at (λ (e : Listed). e.path) listing path place entry found) dir
