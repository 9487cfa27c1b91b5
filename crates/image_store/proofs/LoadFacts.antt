-- Filling a tree from a listing, entry by entry.
use Rattle.std.proofs.Common.{◌≡◌, ℕ, zero, suc, ◌+◌, ◌<◌, ◌≤◌, ◌⊎◌, Bool, true, false, not, if◌then◌else◌, List, [], ◌∷◌, ◌++◌, length, take, drop, get_or, Option, Some, None, refl, sym, ap, ◌∙◌, subst, inl, inr, arith, length-append}
use Rattle.std.proofs.lemmas.Bool.{cases_order}
use Rattle.std.proofs.lemmas.List.{append-nil, get_or_append_left, get_or_at, take_at, take-append-drop, take_all, drop_more}
use Rattle.std.proofs.lemmas.List.Elements.{filter_more, filter-append}
use Rattle.file_tree.specs.Making.{is_own}
use Rattle.std.specs.Ordering.{nat_cmp, is_eq}
use Rattle.file_tree.specs.declared.node.Node.{Node}
use Rattle.file_tree.specs.Nodes.{Tree, Has, kind_in, holds_in, holds_by, new_tree, new_directory}
use Rattle.file_tree.specs.declared.kind.Kind.{Kind as NodeKind}
use Rattle.file_tree.proofs.CallerFacts.{has_stays}
use Rattle.file_tree.proofs.TreeFacts.{is_some_from}
use Rattle.image_store.specs.declared.folder.Entry.{Entry}
use Rattle.image_store.specs.declared.folder.Kind.{Kind}
use Rattle.image_store.specs.declared.folder.Kind.TheVariants as kinds
use Rattle.image_store.specs.declared.folder.Listed.{Listed}
use Rattle.image_store.specs.declared.loading.LoadFault.{LoadFault}
use Rattle.image_store.specs.declared.loading.LoadFault.TheVariants as faults
use Rattle.image_store.specs.Files.{Lists}
use Rattle.image_store.specs.Listing.{IsListing}
use Rattle.told.specs.Told.{Rose}
use Rattle.image_store.specs.Loading.{AreGiven, GaveTooMuch, GivenBy, IsAdded, IsFilledWith, IsLoaded, IsMadeOf, IsNodeKind, IsPut, IsPutFrom, IsStopped, IsTakenBy, NotFilled, NotLoaded, NotPut, Refuses, counted, first_refused, loaded_of, or_else, refused, refused_by, total, with_loaded}

or_none : (first : Option LoadFault) → or_else first None ≡ first
or_none None = refl
or_none (Some fault) = refl

or_assoc : (one two three : Option LoadFault) → or_else one (or_else two three) ≡ or_else (or_else one two) three
or_assoc None two three = refl
or_assoc (Some fault) two three = refl

-- one entry more is refused by what those before it count
pub first_append : (before : ℕ) (entries : List Listed) (given : List (List ℕ)) (entry : Listed) (bytes : List ℕ) → length given ≡ length entries
    → first_refused before (entries ++ entry ∷ []) (given ++ bytes ∷ []) ≡ or_else (first_refused before entries given) (refused (before + total entries given) entry (length bytes))
first_append before [] [] entry bytes same =
    or_none (refused before entry (length bytes)) ∙ ap (λ (n : ℕ). refused n entry (length bytes)) (let e : before ≡ before + 0 = omega arith in e)
first_append before [] (more ∷ given) entry bytes same = absurd (omega arith)
first_append before (first ∷ entries) [] entry bytes same = absurd (omega arith)
first_append before (first ∷ entries) (more ∷ given) entry bytes same =
    let n : ℕ = counted first (length more) in
    let rest = first_append (before + n) entries given entry bytes (omega arith) in
    let sum : (before + n) + total entries given ≡ before + (n + total entries given) = omega arith in
    ap (or_else (refused before first (length more))) rest
    ∙ (or_assoc (refused before first (length more)) (first_refused (before + n) entries given) (refused ((before + n) + total entries given) entry (length bytes))
    ∙ ap (λ (m : ℕ). or_else (or_else (refused before first (length more)) (first_refused (before + n) entries given)) (refused m entry (length bytes))) sum)

total_append : (entries : List Listed) (given : List (List ℕ)) (entry : Listed) (bytes : List ℕ) → length given ≡ length entries
    → total (entries ++ entry ∷ []) (given ++ bytes ∷ []) ≡ total entries given + counted entry (length bytes)
total_append [] [] entry bytes same = omega arith
total_append [] (more ∷ given) entry bytes same = absurd (omega arith)
total_append (first ∷ entries) [] entry bytes same = absurd (omega arith)
total_append (first ∷ entries) (more ∷ given) entry bytes same =
    let rest = total_append entries given entry bytes (omega arith) in
    omega arith

given_append : (folder : Option (List Entry)) (entries : List Listed) (given : List (List ℕ)) (entry : Listed) (bytes : List ℕ) → length given ≡ length entries
    → AreGiven folder entries given → GivenBy folder entry.path entry.kind bytes → AreGiven folder (entries ++ entry ∷ []) (given ++ bytes ∷ [])
given_append folder [] [] entry bytes same all one = (one, tt)
given_append folder [] (more ∷ given) entry bytes same all one = absurd (omega arith)
given_append folder (first ∷ entries) [] entry bytes same all one = absurd (omega arith)
given_append folder (first ∷ entries) (more ∷ given) entry bytes same all one = (all.0, given_append folder entries given entry bytes (omega arith) all.1 one)

given_more : (folder : Option (List Entry)) (entries rest : List Listed) (given : List (List ℕ)) → AreGiven folder entries given → AreGiven folder (entries ++ rest) given
given_more folder entries rest [] all = tt
given_more folder [] rest (bytes ∷ given) all = absurd all
given_more folder (entry ∷ entries) rest (bytes ∷ given) all = (all.0, given_more folder entries rest given all.1)

has_from : (tree : Tree) (inode : ℕ) (kind : NodeKind) → kind_in tree inode ≡ Some kind → Has tree inode
has_from tree inode kind same = is_some_from (kind_in tree inode) kind same

-- what was put stays where an entry is added
put_stays : (entry : Listed) (given : List ℕ) (inode : ℕ) (kind : NodeKind) (path bytes : List ℕ) (old new : Tree) → IsAdded kind path bytes old new → IsPut entry given inode old → IsPut entry given inode new
put_stays entry given inode kind path bytes old new added put = record {
  kind = put.kind;
  found = added.paths entry.path inode put.found;
  there = added.kinds inode put.kind put.there;
  same = put.same;
  bytes = added.others inode (has_from old inode put.kind put.there) ∙ put.bytes;
}

new_put : (entry : Listed) (kind : NodeKind) (bytes : List ℕ) (old new : Tree) → IsNodeKind entry.kind kind → IsAdded kind entry.path bytes old new → IsPut entry bytes old.next new
new_put entry kind bytes old new same added = record { kind = kind; found = added.found; there = added.there; same = same; bytes = added.has }

made_more : (entries : List Listed) (given : List (List ℕ)) (entry : Listed) (kind : NodeKind) (bytes : List ℕ) (old new : Tree) → length given ≡ length entries
    → IsNodeKind entry.kind kind → IsAdded kind entry.path bytes old new → IsMadeOf entries given old → IsMadeOf (entries ++ entry ∷ []) (given ++ bytes ∷ []) new
made_more entries given entry kind bytes old new same node added made = record {
  placed = λ k d within. placed_at k d within (cases_order k (length entries));
  next = added.next ∙ (ap (λ (n : ℕ). n + 1) made.next ∙ (let e : length entries + 2 + 1 ≡ length (entries ++ entry ∷ []) + 2 = simp length-append (omega arith) in e));
  free = λ inode. added.holds inode ∙ made.free inode;
}
  where
    placed_at : (k : ℕ) (d : Listed) → k < length (entries ++ entry ∷ []) → (k ≡ length entries) ⊎ ((k < length entries) ⊎ (length entries < k))
        → IsPut (get_or (entries ++ entry ∷ []) k d) (get_or (given ++ bytes ∷ []) k []) (k + 2) new
    placed_at k d within (inl last) =
        let front : get_or (entries ++ entry ∷ []) k d ≡ entry = get_or_at entries entry [] d k (sym last) in
        let behind : get_or (given ++ bytes ∷ []) k [] ≡ bytes = get_or_at given bytes [] [] k (same ∙ sym last) in
        let inode : old.next ≡ k + 2 = made.next ∙ ap (λ (n : ℕ). n + 2) (sym last) in
        subst (λ (e : Listed). IsPut e (get_or (given ++ bytes ∷ []) k []) (k + 2) new) (sym front)
        (subst (λ (b : List ℕ). IsPut entry b (k + 2) new) (sym behind) (subst (λ (n : ℕ). IsPut entry bytes n new) inode (new_put entry kind bytes old new node added)))
    placed_at k d within (inr (inl low)) =
        let front : get_or (entries ++ entry ∷ []) k d ≡ get_or entries k d = get_or_append_left entries (entry ∷ []) d k low in
        let short : k < length given = omega arith in
        let behind : get_or (given ++ bytes ∷ []) k [] ≡ get_or given k [] = get_or_append_left given (bytes ∷ []) [] k short in
        subst (λ (e : Listed). IsPut e (get_or (given ++ bytes ∷ []) k []) (k + 2) new) (sym front)
        (subst (λ (b : List ℕ). IsPut (get_or entries k d) b (k + 2) new) (sym behind)
        (put_stays (get_or entries k d) (get_or given k []) (k + 2) kind entry.path bytes old new added (made.placed k d low)))
    placed_at k d within (inr (inr high)) = absurd (let long : length (entries ++ entry ∷ []) ≡ length entries + 1 = length-append entries (entry ∷ []) in omega arith)

or_both : (first second : Option LoadFault) → first ≡ None → second ≡ None → or_else first second ≡ None
or_both first second none other = rw none other

put_more : (folder : Option (List Entry)) (entries : List Listed) (entry : Listed) (before count : ℕ) (old new : Tree)
    → IsPutFrom folder entry before count old new → IsFilledWith folder entries before old → IsFilledWith folder (entries ++ entry ∷ []) (before + count) new
put_more folder entries entry before count old new put filled =
    let here = filled.sum in
    let sum : 0 + total entries filled.given ≡ before = omega arith in
    record {
      given = filled.given ++ put.given ∷ [];
      count = length-append filled.given (put.given ∷ []) ∙ (ap (λ (n : ℕ). n + 1) filled.count ∙ sym (length-append entries (entry ∷ [])));
      are_given = given_append folder entries filled.given entry put.given filled.count filled.are_given put.is_given;
      fits = first_append 0 entries filled.given entry put.given filled.count
          ∙ or_both (first_refused 0 entries filled.given) (refused (0 + total entries filled.given) entry (length put.given)) filled.fits (ap (λ (n : ℕ). refused n entry (length put.given)) sum ∙ put.fits);
      sum = sym (total_append entries filled.given entry put.given filled.count ∙ (ap (λ (n : ℕ). n + counted entry (length put.given)) (sym filled.sum) ∙ ap (λ (n : ℕ). before + n) (sym put.counts)));
      made = made_more entries filled.given entry put.kind put.given old new filled.count put.same put.added filled.made;
      root = has_stays old new 1 put.added.kinds filled.root;
    }

next_by : (own : Bool) (folder : Option (List Entry)) (entries : List Listed) (entry : Listed) (before count : ℕ) (old new : Tree)
    → IsTakenBy own folder entry before count old new → IsFilledWith folder entries before old → IsFilledWith folder (entries ++ (if not own then entry ∷ [] else [])) (before + count) new
next_by true folder entries entry before count old new taken filled =
    let same : before ≡ before + count = rw taken.0 (let e : before ≡ before + 0 = omega arith in e) in
    subst (λ (es : List Listed). IsFilledWith folder es (before + count) new) (sym (append-nil entries))
    (subst (λ (n : ℕ). IsFilledWith folder entries n new) same (subst (λ (t : Tree). IsFilledWith folder entries before t) (sym taken.1) filled))
next_by false folder entries entry before count old new taken filled = put_more folder entries entry before count old new taken filled

-- the loaded ones among the first entries of a listing
loaded_next : (listed : List Listed) (i : ℕ) (entry : Listed) → i < length listed → entry ≡ get_or listed i entry
    → loaded_of (take (i + 1) listed) ≡ loaded_of (take i listed) ++ (if not (is_own entry.path) then entry ∷ [] else [])
loaded_next listed i entry within is =
    filter_more (λ (e : Listed). not (is_own e.path)) listed i entry within
    ∙ ap (λ (e : Listed). loaded_of (take i listed) ++ (if not (is_own e.path) then e ∷ [] else [])) (sym is)

pub filled_next : (folder : Option (List Entry)) (listed : List Listed) (i : ℕ) (entry : Listed) (before count : ℕ) (old new : Tree) → i < length listed → entry ≡ get_or listed i entry
    → IsTakenBy (is_own entry.path) folder entry before count old new → IsFilledWith folder (loaded_of (take i listed)) before old
    → IsFilledWith folder (loaded_of (take (i + 1) listed)) (before + count) new
filled_next folder listed i entry before count old new within is taken filled =
    subst (λ (es : List Listed). IsFilledWith folder es (before + count) new) (sym (loaded_next listed i entry within is))
    (next_by (is_own entry.path) folder (loaded_of (take i listed)) entry before count old new taken filled)

or_second : (first second : Option LoadFault) (fault : LoadFault) → first ≡ None → second ≡ Some fault → or_else first second ≡ Some fault
or_second first second fault none some = rw none some

-- where a file gave too much, the filling stops at it
pub stopped : (folder : Option (List Entry)) (listed : List Listed) (i : ℕ) (entry : Listed) (before : ℕ) (fault : LoadFault) (tree : Tree) → i < length listed → entry ≡ get_or listed i entry
    → is_own entry.path ≡ false → GaveTooMuch folder entry before fault → IsFilledWith folder (loaded_of (take i listed)) before tree → IsStopped folder (loaded_of listed) fault
stopped folder listed i entry before fault tree within is loaded gave filled =
    let front = loaded_of (take i listed) in
    let given = filled.given ++ gave.given ∷ [] in
    let next : loaded_of (take (i + 1) listed) ≡ front ++ entry ∷ [] = loaded_next listed i entry within is ∙ ap (λ (own : Bool). front ++ (if not own then entry ∷ [] else [])) loaded in
    let parts : loaded_of listed ≡ (front ++ entry ∷ []) ++ loaded_of (drop (i + 1) listed) =
    ap loaded_of (sym (take-append-drop (i + 1) listed))
    ∙ (filter-append (λ (e : Listed). not (is_own e.path)) (take (i + 1) listed) (drop (i + 1) listed) ∙ ap (λ (es : List Listed). es ++ loaded_of (drop (i + 1) listed)) next) in
    let long : length (front ++ entry ∷ []) ≡ length given =
    length-append front (entry ∷ []) ∙ (ap (λ (n : ℕ). n + 1) (sym filled.count) ∙ sym (length-append filled.given (gave.given ∷ []))) in
    let cut : take (length given) (loaded_of listed) ≡ front ++ entry ∷ [] = ap (take (length given)) parts ∙ take_at (front ++ entry ∷ []) (loaded_of (drop (i + 1) listed)) (length given) long in
    record {
      given = given;
      are_given = subst (λ (es : List Listed). AreGiven folder es given) (sym parts)
          (given_more folder (front ++ entry ∷ []) (loaded_of (drop (i + 1) listed)) given (given_append folder front filled.given entry gave.given filled.count filled.are_given gave.is_given));
      first = ap (λ (es : List Listed). first_refused 0 es given) cut
          ∙ (first_append 0 front filled.given entry gave.given filled.count
          ∙ or_second (first_refused 0 front filled.given) (refused (0 + total front filled.given) entry (length gave.given)) fault filled.fits
          (ap (λ (n : ℕ). refused n entry (length gave.given)) (let here = filled.sum in let sum : 0 + total front filled.given ≡ before = omega arith in sum) ∙ gave.first));
    }

-- no entry that is loaded is a link where none is refused
no_link_by : (kind : Kind) (before : ℕ) (path : List ℕ) (count : ℕ) (rest : Option LoadFault) → kind ≡ kinds.Other → or_else (refused_by before path kind count) rest ≡ None → ⊥
no_link_by kinds.File before path count rest other none = let f : ⊥ = cc in f
no_link_by kinds.Dir before path count rest other none = let f : ⊥ = cc in f
no_link_by kinds.Other before path count rest other none = let f : ⊥ = cc in f

or_rest : (first rest : Option LoadFault) → or_else first rest ≡ None → rest ≡ None
or_rest None rest none = none
or_rest (Some fault) rest none = absurd (let f : ⊥ = cc in f)

no_link_in : (own : Bool) (before : ℕ) (entry : Listed) (entries : List Listed) → first_refused before (if not own then entry ∷ entries else entries) [] ≡ None → own ≡ false → entry.kind ≡ kinds.Other → ⊥
no_link_in true before entry entries none loaded other = let f : ⊥ = cc in f
no_link_in false before entry entries none loaded other = no_link_by entry.kind before entry.path (counted entry 0) (first_refused (before + counted entry 0) entries []) other none

rest_fits : (own : Bool) (before : ℕ) (entry : Listed) (entries : List Listed) → first_refused before (if not own then entry ∷ entries else entries) [] ≡ None
    → (after : ℕ) × (first_refused after entries [] ≡ None)
rest_fits true before entry entries none = (before, none)
rest_fits false before entry entries none = (before + counted entry 0, or_rest (refused before entry 0) (first_refused (before + counted entry 0) entries []) none)

pub no_link : (before : ℕ) (listed : List Listed) (i : ℕ) (d : Listed) → first_refused before (loaded_of listed) [] ≡ None → i < length listed
    → is_own (get_or listed i d).path ≡ false → (get_or listed i d).kind ≡ kinds.Other → ⊥
no_link before [] i d none within loaded other = omega arith
no_link before (entry ∷ listed) zero d none within loaded other = no_link_in (is_own entry.path) before entry (loaded_of listed) none loaded other
no_link before (entry ∷ listed) (suc i) d none within loaded other =
    let rest = rest_fits (is_own entry.path) before entry (loaded_of listed) none in
    no_link rest.0 listed i d rest.1 (omega arith) loaded other

-- the loaded ones from a place on
pub loaded_here : (listed : List Listed) (i : ℕ) (entry : Listed) → i < length listed → entry ≡ get_or listed i entry
    → loaded_of (drop i listed) ≡ with_loaded entry (loaded_of (drop (i + 1) listed))
loaded_here listed i entry within is =
    ap loaded_of (drop_more listed i entry within) ∙ ap (λ (e : Listed). with_loaded e (loaded_of (drop (i + 1) listed))) (sym is)

-- ---- looking over a listing

drop_past : (i : ℕ) (listed : List Listed) → length listed ≤ i → drop i listed ≡ []
drop_past zero [] all = refl
drop_past (suc i) [] all = refl
drop_past zero (entry ∷ listed) all = absurd (omega arith)
drop_past (suc i) (entry ∷ listed) all = drop_past i listed (omega arith)

pub rest_own : (before : ℕ) (entry : Listed) (entries : List Listed) → is_own entry.path ≡ true → first_refused before (with_loaded entry entries) [] ≡ first_refused (before + 0) entries []
rest_own before entry entries own =
    ap (λ (o : Bool). first_refused before (if not o then entry ∷ entries else entries) []) own
    ∙ ap (λ (n : ℕ). first_refused n entries []) (let e : before ≡ before + 0 = omega arith in e)

pub rest_loaded : (before : ℕ) (entry : Listed) (entries : List Listed) (count : ℕ) → is_own entry.path ≡ false → refused before entry 0 ≡ None → count ≡ counted entry 0
    → first_refused before (with_loaded entry entries) [] ≡ first_refused (before + count) entries []
rest_loaded before entry entries count loaded none counts =
    ap (λ (o : Bool). first_refused before (if not o then entry ∷ entries else entries) []) loaded
    ∙ (ap (λ (o : Option LoadFault). or_else o (first_refused (before + counted entry 0) entries [])) none
    ∙ ap (λ (n : ℕ). first_refused (before + n) entries []) (sym counts))

refuses_first : (fault : LoadFault) (first rest : Option LoadFault) → Refuses first fault → Refuses (or_else first rest) fault
refuses_first (faults.TooMany count) first rest is = absurd is
refuses_first (faults.Link path) first rest is = ap (λ (o : Option LoadFault). or_else o rest) is
refuses_first (faults.TooBig path count) first rest is = ap (λ (o : Option LoadFault). or_else o rest) is
refuses_first faults.ReadFault first rest is = absurd is
refuses_first faults.Memory first rest is = tt

pub fault_loaded : (before : ℕ) (entry : Listed) (entries : List Listed) (fault : LoadFault) → is_own entry.path ≡ false → Refuses (refused before entry 0) fault
    → Refuses (first_refused before (with_loaded entry entries) []) fault
fault_loaded before entry entries fault loaded is =
    let same : first_refused before (with_loaded entry entries) [] ≡ or_else (refused before entry 0) (first_refused (before + counted entry 0) entries []) =
    ap (λ (o : Bool). first_refused before (if not o then entry ∷ entries else entries) []) loaded in
    subst (λ (due : Option LoadFault). Refuses due fault) (sym same) (refuses_first fault (refused before entry 0) (first_refused (before + counted entry 0) entries []) is)

pub looked_on : (listed : List Listed) (i : ℕ) (entry : Listed) (before count : ℕ) → i < length listed → entry ≡ get_or listed i entry
    → first_refused 0 (loaded_of listed) [] ≡ first_refused before (loaded_of (drop i listed)) []
    → ((entries : List Listed) → first_refused before (with_loaded entry entries) [] ≡ first_refused (before + count) entries [])
    → first_refused 0 (loaded_of listed) [] ≡ first_refused (before + count) (loaded_of (drop (i + 1) listed)) []
looked_on listed i entry before count within is so rest =
    so ∙ (ap (λ (es : List Listed). first_refused before es []) (loaded_here listed i entry within is) ∙ rest (loaded_of (drop (i + 1) listed)))

pub looked_out : (listed : List Listed) (i : ℕ) (entry : Listed) (before : ℕ) (fault : LoadFault) → i < length listed → entry ≡ get_or listed i entry
    → first_refused 0 (loaded_of listed) [] ≡ first_refused before (loaded_of (drop i listed)) []
    → ((entries : List Listed) → Refuses (first_refused before (with_loaded entry entries) []) fault) → Refuses (first_refused 0 (loaded_of listed) []) fault
looked_out listed i entry before fault within is so stops =
    subst (λ (due : Option LoadFault). Refuses due fault) (sym (so ∙ ap (λ (es : List Listed). first_refused before es []) (loaded_here listed i entry within is)))
    (stops (loaded_of (drop (i + 1) listed)))

pub looked_all : (listed : List Listed) (i before : ℕ) → length listed ≤ i → first_refused 0 (loaded_of listed) [] ≡ first_refused before (loaded_of (drop i listed)) []
    → first_refused 0 (loaded_of listed) [] ≡ None
looked_all listed i before all so = so ∙ ap (λ (es : List Listed). first_refused before (loaded_of es) []) (drop_past i listed all)

-- ---- filling

free_by : (here : Bool) (node : Node) → node.holds ≡ 0 → holds_by (if here then Some node else None) ≡ 0
free_by true node none = none
free_by false node none = refl

new_free : (inode : ℕ) → holds_in new_tree inode ≡ 0
unfolding holds_in
new_free inode = free_by (is_eq (nat_cmp inode 1)) (new_directory 1 0) refl

new_root : Has new_tree 1
unfolding kind_in
new_root = refl

pub start_filled : (folder : Option (List Entry)) (listed : List Listed) → IsFilledWith folder (loaded_of (take 0 listed)) 0 new_tree
start_filled folder listed = record {
  given = [];
  count = refl;
  are_given = tt;
  fits = refl;
  sum = refl;
  made = record { placed = λ k d within. absurd (omega arith); next = refl; free = new_free };
  root = new_root;
}

pub all_filled : (folder : Option (List Entry)) (listed : List Listed) (i before : ℕ) (tree : Tree) → length listed ≤ i → IsFilledWith folder (loaded_of (take i listed)) before tree
    → IsFilledWith folder (loaded_of listed) before tree
all_filled folder listed i before tree all filled = subst (λ (es : List Listed). IsFilledWith folder (loaded_of es) before tree) (take_all i listed all) filled

pub not_filled : (fault : LoadFault) (folder : Option (List Entry)) (start reads after : ℕ) (listed : List Listed) (i : ℕ) (entry : Listed) (before : ℕ) (tree : Tree)
    → i < length listed → entry ≡ get_or listed i entry → is_own entry.path ≡ false → reads ≡ start → NotPut folder reads after entry before fault
    → IsFilledWith folder (loaded_of (take i listed)) before tree → NotFilled folder start after (loaded_of listed) fault
not_filled (faults.TooMany count) folder start reads after listed i entry before tree within is loaded still put filled = put
not_filled (faults.Link path) folder start reads after listed i entry before tree within is loaded still put filled = put
not_filled (faults.TooBig path count) folder start reads after listed i entry before tree within is loaded still put filled =
    stopped folder listed i entry before (faults.TooBig path count) tree within is loaded put filled
not_filled faults.ReadFault folder start reads after listed i entry before tree within is loaded still put filled = subst (λ (n : ℕ). Rose n after) still put
not_filled faults.Memory folder start reads after listed i entry before tree within is loaded still put filled = tt

-- ---- the whole

pub not_looked : (fault : LoadFault) (folder : Option (List Entry)) (start after : ℕ) (listing : List Listed) → Lists folder listing → IsListing listing → length listing ≤ 4096
    → Refuses (first_refused 0 (loaded_of listing) []) fault → NotLoaded folder start after fault
not_looked (faults.TooMany count) folder start after listing lists sound few is = absurd is
not_looked (faults.Link path) folder start after listing lists sound few is = record { listing = listing; is = record { lists = lists; sound = sound }; few = few; first = is }
not_looked (faults.TooBig path count) folder start after listing lists sound few is = inl (record { listing = listing; is = record { lists = lists; sound = sound }; few = few; first = is })
not_looked faults.ReadFault folder start after listing lists sound few is = absurd is
not_looked faults.Memory folder start after listing lists sound few is = tt

pub not_loaded : (fault : LoadFault) (folder : Option (List Entry)) (start after : ℕ) (listing : List Listed) → Lists folder listing → IsListing listing → length listing ≤ 4096
    → first_refused 0 (loaded_of listing) [] ≡ None → NotFilled folder start after (loaded_of listing) fault → NotLoaded folder start after fault
not_loaded (faults.TooMany count) folder start after listing lists sound few none is = absurd is
not_loaded (faults.Link path) folder start after listing lists sound few none is = absurd is
not_loaded (faults.TooBig path count) folder start after listing lists sound few none is =
    inr (record { listing = listing; is = record { lists = lists; sound = sound }; few = few; none = none; given = is.given; are_given = is.are_given; first = is.first })
not_loaded faults.ReadFault folder start after listing lists sound few none is = is
not_loaded faults.Memory folder start after listing lists sound few none is = tt

pub loaded_so : (folder : Option (List Entry)) (listing : List Listed) (before : ℕ) (tree : Tree) → Lists folder listing → IsListing listing → length listing ≤ 4096
    → first_refused 0 (loaded_of listing) [] ≡ None → IsFilledWith folder (loaded_of listing) before tree → IsLoaded folder listing tree
loaded_so folder listing before tree lists sound few none filled = record {
  lists = lists;
  sound = sound;
  few = few;
  given = filled.given;
  count = filled.count;
  are_given = filled.are_given;
  fits = none;
  fits_given = filled.fits;
  made = filled.made;
}
