-- A file at a place of a folder's entries.
use Rattle.std.proofs.Common.{◌≡◌, ℕ, zero, suc, ◌<◌, List, [], ◌∷◌, map, length, get_or, Ok, Err, inl, inr, refl, sym, ap, ◌∙◌, subst, arith}
use Rattle.std.specs.List.Sorted.{IsStrictlySortedBy, IsBinarySearchResult}
use Rattle.std.specs.Ordering.{nat_cmp}
use Rattle.std.specs.Cmp.Lexicographic.{slice_cmp}
use Rattle.image_store.specs.declared.folder.Entry.{Entry}
use Rattle.image_store.specs.declared.folder.Kind.TheVariants.{File}
use Rattle.image_store.specs.Files.{listed, NamesFile, IsFileOf, StandsAt}
use Rattle.image_store.specs.Listing.{IsListing, paths_of}
use Rattle.image_store.proofs.OrderFacts.{once, found_at, found_nowhere}

pub stands_at : (entries : List Entry) (path : List ℕ) (place : ℕ) (d : Entry) → place < length entries → (get_or entries place d).path ≡ path → (get_or entries place d).kind ≡ File → StandsAt entries path place
stands_at [] path place d within same file = absurd (omega arith)
stands_at (entry ∷ entries) path zero d within same file = (same, file)
stands_at (entry ∷ entries) path (suc place) d within same file = stands_at entries path place d (omega arith) same file

-- the bytes there are those of a file
pub file_at : (entries : List Entry) (path : List ℕ) (place : ℕ) (d : Entry) → StandsAt entries path place → IsFileOf entries path (get_or entries place d).bytes
file_at [] path place d stands = stands
file_at (entry ∷ entries) path zero d stands = inl (stands.0, stands.1, refl)
file_at (entry ∷ entries) path (suc place) d stands = inr (file_at entries path place d stands)

-- where a file is listed
pub record IsAt (entries : List Entry) (path : List ℕ) : Type 0 where
  pub place : ℕ
  pub within : place < length entries
  pub stands : StandsAt entries path place

pub listed_at : (entries : List Entry) (path : List ℕ) → NamesFile (map listed entries) path → IsAt entries path
listed_at [] path named = absurd named
listed_at (entry ∷ entries) path (inl here) = record { place = 0; within = omega arith; stands = here }
listed_at (entry ∷ entries) path (inr there) =
    let at = listed_at entries path there in
    record { place = suc at.place; within = omega (arith, at.within); stands = at.stands }

pub stands_path : (entries : List Entry) (path : List ℕ) (place : ℕ) (d : Entry) → StandsAt entries path place → (get_or entries place d).path ≡ path
stands_path [] path place d stands = absurd stands
stands_path (entry ∷ entries) path zero d stands = stands.0
stands_path (entry ∷ entries) path (suc place) d stands = stands_path entries path place d stands

pub stands_file : (entries : List Entry) (path : List ℕ) (place : ℕ) (d : Entry) → StandsAt entries path place → (get_or entries place d).kind ≡ File
stands_file [] path place d stands = absurd stands
stands_file (entry ∷ entries) path zero d stands = stands.1
stands_file (entry ∷ entries) path (suc place) d stands = stands_file entries path place d stands

pub same_paths : (entries : List Entry) → paths_of (map listed entries) ≡ map (λ entry. entry.path) entries
same_paths [] = refl
same_paths (entry ∷ entries) = ap (λ (paths : List (List ℕ)). entry.path ∷ paths) (same_paths entries)

rises : (entries : List Entry) → IsListing (map listed entries) → IsStrictlySortedBy (slice_cmp nat_cmp) (map (λ entry. entry.path) entries)
rises entries sound = subst (IsStrictlySortedBy (slice_cmp nat_cmp)) (same_paths entries) sound.rising

-- the file at the place that is found
pub found_file : (entries : List Entry) (path : List ℕ) (place : ℕ) (entry : Entry) → place < length entries
    → IsBinarySearchResult (λ e. slice_cmp nat_cmp e.path path) entries (Ok place) → entry ≡ get_or entries place entry → entry.kind ≡ File → IsFileOf entries path entry.bytes
found_file entries path place entry within found is file =
    let stands = stands_at entries path place entry within (found_at (λ (e : Entry). e.path) entries path place entry found) (ap (λ (e : Entry). e.kind) (sym is) ∙ file) in
    subst (λ (e : Entry). IsFileOf entries path e.bytes) (sym is) (file_at entries path place entry stands)

-- no file stands at the path where something else does
pub no_file_here : (entries : List Entry) (path : List ℕ) (place : ℕ) (entry : Entry) → IsListing (map listed entries) → place < length entries
    → IsBinarySearchResult (λ e. slice_cmp nat_cmp e.path path) entries (Ok place) → entry ≡ get_or entries place entry → (entry.kind ≡ File → ⊥)
    → NamesFile (map listed entries) path → ⊥
no_file_here entries path place entry sound within found is never named =
    let at = listed_at entries path named in
    let same : at.place ≡ place = once (λ (e : Entry). e.path) entries at.place place entry (rises entries sound) at.within within
    (stands_path entries path at.place entry at.stands ∙ sym (found_at (λ (e : Entry). e.path) entries path place entry found)) in
    never (ap (λ (e : Entry). e.kind) (is ∙ ap (λ (n : ℕ). get_or entries n entry) (sym same)) ∙ stands_file entries path at.place entry at.stands)

-- no file stands at the path where nothing does
pub no_file_there : (entries : List Entry) (path : List ℕ) (place : ℕ) → IsListing (map listed entries)
    → IsBinarySearchResult (λ e. slice_cmp nat_cmp e.path path) entries (Err place) → NamesFile (map listed entries) path → ⊥
no_file_there entries path place sound found named = there entries path place sound found (listed_at entries path named)
  where
    there : (entries : List Entry) (path : List ℕ) (place : ℕ) → IsListing (map listed entries)
        → IsBinarySearchResult (λ e. slice_cmp nat_cmp e.path path) entries (Err place) → IsAt entries path → ⊥
    there [] path place sound found at = absurd (let w : at.place < 0 = at.within in omega arith)
    there (entry ∷ entries) path place sound found at =
        found_nowhere (λ (e : Entry). e.path) (entry ∷ entries) path place at.place entry (rises (entry ∷ entries) sound) found at.within
        (stands_path (entry ∷ entries) path at.place entry at.stands)
