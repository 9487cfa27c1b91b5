-- While memory is made, no more pages are stored than in the end.
use Rattle.std.proofs.Common.{◌≡◌, ℕ, zero, suc, ◌+◌, ◌-◌, ◌*◌, ◌/◌, ◌%◌, ◌^◌, ◌<◌, ◌≤◌, Bool, true, false, not, ◌&&◌, ◌||◌, if◌then◌else◌, List, [], ◌∷◌, drop, length, Option, Some, None, Result, Ok, Err, IfErr, refl, ap, sym, subst, ◌∙◌, arith}
use Rattle.elf_file.specs.Segments.{SegmentImage, first_page, last_page}
use Rattle.guest_pages.specs.declared.fault.MapFault.{MapFault}
use Rattle.guest_pages.specs.declared.fault.MapFault.TheVariants as faults
use Rattle.guest_pages.specs.declared.rights.Rights.{Rights}
use Rattle.guest_pages.specs.Cells.{Cell, cell, has_none}
use Rattle.guest_pages.specs.Counting.{count_pages, one_if, rights_of, some_right}
use Rattle.guest_pages.specs.Faults.{changeable, first_fault, first_unmapped, unmapped_or, writable}
use Rattle.guest_pages.specs.Finding.{is_mapped}
use Rattle.guest_pages.specs.Limits.{most_pages}
use Rattle.guest_pages.specs.Operations.{placed, protected, stored_pages, written}
use Rattle.guest_pages.specs.Ranges.{Range, cell_at, within}
use Rattle.guest_pages.proofs.Counting.{IsPaged, count_alike, count_same, stored_is}
use Rattle.guest_pages.proofs.RightsFacts.{within_high, within_inside, within_low}
use Rattle.segment_load.specs.Loading.{rights_by as segment_rights}
use Rattle.segment_load.specs.Loading.{either, is_touched, no_right, page_rights, touches}
use Rattle.segment_load.specs.Steps.{HasPages, IsFull, no_rights, over, paged, right_pages, rights_in, with_more, zeros}
use Rattle.segment_load.specs.Wanted.{is_stored_by, page_count, pages_of}
use Rattle.segment_load.proofs.CellFacts.{lt_or, one_within, page_count_is, touches_within}
use Rattle.segment_load.proofs.GrantFacts.{more_is, whole_by}
use Rattle.segment_load.proofs.CountFacts.{and_left, and_right, not_true}
use Rattle.segment_load.proofs.FillFacts.{has_opened, has_wrote, is_there, own_in}
use Rattle.segment_load.proofs.PagedFacts.{back, has_bare, has_protected, rights_there, with_own}
use Rattle.segment_load.proofs.StoredFacts.{AreWithin, all_counted, count_stored, either_none, right_is}

-- ---- how many pages are stored

rights_by : (t : Bool) (rights : Rights) (x y : ℕ) → rights_of (if t then Some (cell rights x) else None) ≡ rights_of (if t then Some (cell rights y) else None)
rights_by true rights x y = refl
rights_by false rights x y = refl

pub pages : (m : ℕ → Bool) (r : ℕ → Rights) (b : ℕ → ℕ) → IsPaged (paged m r b)
unfolding paged
pages m r b x y same =
    rights_by (m (x / 4096)) (r (x / 4096)) (b x) (b y)
    ∙ ap (λ (p : ℕ). rights_of (if m p then Some (cell (r p) (b y)) else None)) same

any_bytes : (m : ℕ → Bool) (r : ℕ → Rights) (b : ℕ → ℕ) (a : ℕ) → rights_of (paged m r b a) ≡ rights_of (paged m r zeros a)
unfolding paged
any_bytes m r b a = rights_by (m (a / 4096)) (r (a / 4096)) (b a) 0

pub stored_right : (m : ℕ → Bool) (r : ℕ → Rights) (b : ℕ → ℕ) (memory : List Range) → HasPages m r b memory → stored_pages memory ≡ right_pages m r
unfolding right_pages
stored_right m r b memory has =
    ap stored_pages has.is ∙ stored_is (paged m r b) (pages m r b)
    ∙ count_same (paged m r b) (paged m r zeros) 0 (2 ^ 26) (λ q low high. any_bytes m r b (4096 * q))

-- ---- which they are

right_by : (t : Bool) (rights : Rights) → some_right (rights_of (if t then Some (cell rights 0) else None)) ≡ (t && not (has_none rights))
right_by true rights = refl
right_by false rights = refl

page_right : (m : ℕ → Bool) (r : ℕ → Rights) (page : ℕ) → some_right (rights_of (paged m r zeros (4096 * page))) ≡ (m page && not (has_none (r page)))
unfolding paged
page_right m r page =
    let is : 4096 * page / 4096 ≡ page = omega arith in
    ap (λ (p : ℕ). some_right (rights_of (if m p then Some (cell (r p) 0) else None))) is ∙ right_by (m page) (r page)

one_within_by : (a b : Bool) → (a ≡ true → b ≡ true) → one_if a ≤ one_if b
one_within_by true b leads = rw (leads refl) (omega arith)
one_within_by false b leads = omega arith

count_within : (f g : ℕ → Option Cell) (page n : ℕ) → ((q : ℕ) → some_right (rights_of (f (4096 * q))) ≡ true → some_right (rights_of (g (4096 * q))) ≡ true) → count_pages f page n ≤ count_pages g page n
unfolding count_pages
count_within f g page zero leads = omega arith
count_within f g page (suc n) leads =
    let here = one_within_by (some_right (rights_of (f (4096 * page)))) (some_right (rights_of (g (4096 * page)))) (leads page) in
    let rest = count_within f g (page + 1) n leads in
    omega (arith, here, rest)

both : (t none : Bool) → t ≡ true → none ≡ false → (t && not none) ≡ true
both true none there some = ap not some
both false none there some = there

-- other rights, which each page with a right has some of, too
pub right_within : (m : ℕ → Bool) (r other : ℕ → Rights) → ((page : ℕ) → m page ≡ true → has_none (r page) ≡ false → has_none (other page) ≡ false) → right_pages m r ≤ right_pages m other
unfolding right_pages
right_within m r other leads =
    count_within (paged m r zeros) (paged m other zeros) 0 (2 ^ 26)
    (λ q some.
    let is : (m q && not (has_none (r q))) ≡ true = sym (page_right m r q) ∙ some in
    let there = and_left (m q) (not (has_none (r q))) is in
    let here = not_true (has_none (r q)) (and_right (m q) (not (has_none (r q))) is) in
    page_right m other q ∙ both (m q) (has_none (other q)) there (leads q there here))

-- no rights, no pages
pub right_nowhere : (m : ℕ → Bool) → right_pages m no_rights ≡ 0
unfolding right_pages
right_nowhere m =
    count_alike (paged m no_rights zeros) false 0 (2 ^ 26) (λ q low high. page_right m no_rights q ∙ none_by (m q))
  where
    none_by : (t : Bool) → (t && not (has_none no_right)) ≡ false
    none_by true = refl
    none_by false = refl

-- ---- the rights of segments

some_within : (m : ℕ → Bool) (segments : List SegmentImage) (page n : ℕ) → AreWithin segments → count_pages (paged m (page_rights segments) zeros) page n ≤ count_stored segments page n
unfolding count_pages count_stored
some_within m segments page zero inside = omega arith
some_within m segments page (suc n) inside =
    let here = one_within_by (some_right (rights_of (paged m (page_rights segments) zeros (4096 * page)))) (is_stored_by segments page)
    (λ some. sym (right_is segments page inside) ∙ and_right (m page) (not (has_none (page_rights segments page))) (sym (page_right m (page_rights segments) page) ∙ some)) in
    let rest = some_within m segments (page + 1) n inside in
    omega (arith, here, rest)

pub right_few : (m : ℕ → Bool) (segments : List SegmentImage) → AreWithin segments → right_pages m (page_rights segments) ≤ pages_of segments
unfolding right_pages
right_few m segments inside =
    let counted = all_counted segments inside in
    let few = some_within m segments 0 (2 ^ 26) inside in
    subst (λ (n : ℕ). count_pages (paged m (page_rights segments) zeros) 0 (2 ^ 26) ≤ n) counted few

-- of the last segments alone
pub last_few : (segments : List SegmentImage) (k : ℕ) → pages_of (drop k segments) ≤ pages_of segments
unfolding pages_of
last_few [] zero = omega arith
last_few [] (suc k) = omega arith
last_few (s ∷ segments) zero = omega arith
last_few (s ∷ segments) (suc k) =
    let rest = last_few segments k in
    omega (arith, rest)

pub last_within : (segments : List SegmentImage) (k : ℕ) → AreWithin segments → AreWithin (drop k segments)
last_within [] zero inside = tt
last_within [] (suc k) inside = tt
last_within (s ∷ segments) zero inside = inside
last_within (s ∷ segments) (suc k) inside = last_within segments k inside.1

-- the pages of a segment of the list are touched
or_first : (a b : Bool) → a ≡ true → (a || b) ≡ true
or_first true b is = refl
or_first false b is = cc

or_second : (a b : Bool) → b ≡ true → (a || b) ≡ true
or_second true b is = refl
or_second false b is = is

pub touched_in : (segments : List SegmentImage) (k : ℕ) (s : SegmentImage) (rest : List SegmentImage) (page : ℕ) → drop k segments ≡ s ∷ rest → touches s page ≡ true → is_touched segments page ≡ true
touched_in [] zero s rest page same there = cc
touched_in [] (suc k) s rest page same there = cc
touched_in (t ∷ segments) zero s rest page same there =
    let is : t ≡ s = cc in
    or_first (touches t page) (is_touched segments page) (ap (λ (x : SegmentImage). touches x page) is ∙ there)
touched_in (t ∷ segments) (suc k) s rest page same there =
    or_second (touches t page) (is_touched segments page) (touched_in segments k s rest page same there)

-- ---- more rights

more_some : (w : Bool) (rights had : Rights) → has_none had ≡ false → has_none (if w then either rights had else had) ≡ false
more_some true rights had some = either_none rights had ∙ and_false (has_none rights) (has_none had) some
  where
    and_false : (a b : Bool) → b ≡ false → (a && b) ≡ false
    and_false true b none = none
    and_false false b none = refl
more_some false rights had some = some

pub right_more : (first count : ℕ) (rights : Rights) (m : ℕ → Bool) (had : ℕ → Rights) → right_pages m had ≤ right_pages m (with_more first count rights had)
right_more first count rights m had =
    right_within m had (with_more first count rights had) (λ page there some. more_some (within first count page) rights (had page) some)

own_some : (w : Bool) (own had : Rights) → (w ≡ true → has_none had ≡ false) → has_none (if w then own else had) ≡ false → has_none had ≡ false
own_some true own had some here = some refl
own_some false own had some here = here

-- a page with a right gets others
pub right_own : (page : ℕ) (own : Rights) (m : ℕ → Bool) (r : ℕ → Rights) → has_none (r page) ≡ false → right_pages m (with_own page 1 own r) ≤ right_pages m r
right_own page own m r some =
    right_within m (with_own page 1 own r) r
    (λ p there here. own_some (within page 1 p) own (r p) (λ at_page. ap (λ (q : ℕ). has_none (r q)) (one_within page p at_page) ∙ some) here)

-- ---- refusals

or_rest : (address : ℕ) (o : Option Cell) (rest : Option ℕ) → is_mapped o ≡ true → unmapped_or address o rest ≡ rest
or_rest address None rest mapped = cc
or_rest address (Some c) rest mapped = refl

none_unmapped : (memory : List Range) (at n : ℕ) → ((a : ℕ) → at ≤ a → a < at + n → is_mapped (cell_at memory a) ≡ true) → first_unmapped memory at n ≡ None
unfolding first_unmapped
none_unmapped memory at zero mapped = refl
none_unmapped memory at (suc n) mapped =
    or_rest at (cell_at memory at) (first_unmapped memory (at + 1) n) (mapped at (omega arith) (omega arith))
    ∙ none_unmapped memory (at + 1) n (λ a low high. mapped a (omega arith) (omega arith))

mapped_by : (t : Bool) (c : Cell) → is_mapped (if t then Some c else None) ≡ t
mapped_by true c = refl
mapped_by false c = refl

pub all_mapped : (m : ℕ → Bool) (r : ℕ → Rights) (b : ℕ → ℕ) (memory : List Range) (first count : ℕ) → HasPages m r b memory → ((page : ℕ) → within first count page ≡ true → m page ≡ true) → first_unmapped memory (4096 * first) (4096 * count) ≡ None
unfolding paged
all_mapped m r b memory first count has there =
    none_unmapped memory (4096 * first) (4096 * count)
    (λ a low high.
    ap is_mapped (back m r b memory a has)
    ∙ mapped_by (m (a / 4096)) (cell (r (a / 4096)) (b a))
    ∙ there (a / 4096) (within_inside first count (a / 4096) (omega arith) (omega arith)))

-- why pages aren't protected
pub protect_refused : (result : Result Unit MapFault) (first count : ℕ) (rights : Rights) (old : List Range) → ((n : ℕ) → result ≡ Err (faults.PagesFull n) → (n ≡ stored_pages (protected (4096 * first) (4096 * count) rights old)) × (65536 < n)) → ((a : ℕ) → result ≡ Err (faults.NotMapped a) → first_unmapped old (4096 * first) (4096 * count) ≡ Some a) → IfErr result (λ fault. (m : ℕ → Bool) (had after : ℕ → Rights) (b : ℕ → ℕ) → HasPages m had b old → ((page : ℕ) → within first count page ≡ true → m page ≡ true) → HasPages m after b (protected (4096 * first) (4096 * count) rights old) → IsFull m after fault)
protect_refused (Ok done) first count rights old full absent = tt
protect_refused (Err (faults.PagesFull n)) first count rights old full absent = λ m had after b has there made.
    let told = full n refl in
    let is : n ≡ right_pages m after = told.0 ∙ stored_right m after b (protected (4096 * first) (4096 * count) rights old) made in
    subst (λ (k : ℕ). 65536 < k) is told.1
protect_refused (Err (faults.NotMapped a)) first count rights old full absent = λ m had after b has there made.
    let at : first_unmapped old (4096 * first) (4096 * count) ≡ Some a = absent a refl in
    let none : first_unmapped old (4096 * first) (4096 * count) ≡ None = all_mapped m had b old first count has there in
    cc
protect_refused (Err faults.Memory) first count rights old full absent = λ m had after b has there made. tt

-- more rights are too many, too
pub full_more : (fault : MapFault) (m : ℕ → Bool) (r other : ℕ → Rights) → right_pages m r ≤ right_pages m other → IsFull m r fault → IsFull m other fault
full_more (faults.PagesFull n) m r other more full = omega (arith, more, full)
full_more (faults.NotMapped a) m r other more full = full
full_more faults.Memory m r other more full = tt

-- where there is room, want of memory alone is left
pub only_memory : (fault : MapFault) (m : ℕ → Bool) (r : ℕ → Rights) → IsFull m r fault → right_pages m r ≤ most_pages → fault ≡ faults.Memory
only_memory (faults.PagesFull n) m r full few = absurd (omega (arith, full, few))
only_memory (faults.NotMapped a) m r full few = absurd full
only_memory faults.Memory m r full few = refl

pub on_err : {T E : Type 0} (result : Result T E) (P Q : E → Type 0) → ((error : E) → P error → Q error) → IfErr result P → IfErr result Q
on_err (Ok value) P Q gives done = tt
on_err (Err error) P Q gives done = gives error done

-- pages that are mapped without rights store nothing, so that want of memory alone keeps them from it
pub bare_refused : (result : Result Unit MapFault) (first count : ℕ) (old : List Range) → first + count ≤ 2 ^ 26 → ((n : ℕ) → result ≡ Err (faults.PagesFull n) → (n ≡ stored_pages (placed (4096 * first) (4096 * count) no_right old)) × (65536 < n)) → ((a : ℕ) → result ≡ Err (faults.NotMapped a) → ⊥) → IfErr result (λ fault. (m : ℕ → Bool) → HasPages m no_rights zeros old → fault ≡ faults.Memory)
bare_refused (Ok done) first count old inside full absent = tt
bare_refused (Err (faults.PagesFull n)) first count old inside full absent = λ m has.
    let told = full n refl in
    let none : stored_pages (placed (4096 * first) (4096 * count) no_right old) ≡ 0 =
    stored_right (λ page. within first count page || m page) no_rights zeros (placed (4096 * first) (4096 * count) no_right old) (has_bare first count m old inside has)
    ∙ right_nowhere (λ page. within first count page || m page) in
    absurd (omega (arith, told.0, told.1, none))
bare_refused (Err (faults.NotMapped a)) first count old inside full absent = λ m has. absurd (absent a refl)
bare_refused (Err faults.Memory) first count old inside full absent = λ m has. refl

-- ---- the first page, those behind it, and the last

wide_some : (w whole : Bool) (rights had : Rights) → (w ≡ true → whole ≡ true) → has_none (if w then either rights had else had) ≡ false → has_none (if whole then either rights had else had) ≡ false
wide_some true whole rights had leads some = rw (leads refl) some
wide_some false whole rights had leads some = more_some whole rights had some

right_wide : (first count more : ℕ) (rights : Rights) (m : ℕ → Bool) (had : ℕ → Rights) → count ≤ more → right_pages m (with_more first count rights had) ≤ right_pages m (with_more first more rights had)
right_wide first count more rights m had few =
    right_within m (with_more first count rights had) (with_more first more rights had)
    (λ page there some. wide_some (within first count page) (within first more page) rights (had page)
    (λ here.
    let low = within_low first count page here in
    let high = within_high first count page here in
    within_inside first more page low (omega (arith, high, few)))
    some)

pub full_first : (fault : MapFault) (first last : ℕ) (rights : Rights) (m : ℕ → Bool) (had : ℕ → Rights) → first ≤ last → IsFull m (with_more first 1 rights had) fault → IsFull m (with_more first (last - first + 1) rights had) fault
full_first fault first last rights m had order =
    full_more fault m (with_more first 1 rights had) (with_more first (last - first + 1) rights had) (right_wide first 1 (last - first + 1) rights m had (omega arith))

right_whole : (first last : ℕ) (rights : Rights) (m : ℕ → Bool) (had : ℕ → Rights) → first < last → right_pages m (with_more last 1 rights (with_more (first + 1) (last - first - 1) rights (with_more first 1 rights had))) ≤ right_pages m (with_more first (last - first + 1) rights had)
right_whole first last rights m had order =
    right_within m (with_more last 1 rights (with_more (first + 1) (last - first - 1) rights (with_more first 1 rights had))) (with_more first (last - first + 1) rights had)
    (λ page there some. ap has_none (sym (whole_by first last rights had page order (lt_or page first) (lt_or page (first + 1)) (lt_or page last) (lt_or page (last + 1)))) ∙ some)

pub full_last : (fault : MapFault) (first last : ℕ) (rights : Rights) (m : ℕ → Bool) (had : ℕ → Rights) → first < last → IsFull m (with_more last 1 rights (with_more (first + 1) (last - first - 1) rights (with_more first 1 rights had))) fault → IsFull m (with_more first (last - first + 1) rights had) fault
full_last fault first last rights m had order =
    full_more fault m (with_more last 1 rights (with_more (first + 1) (last - first - 1) rights (with_more first 1 rights had))) (with_more first (last - first + 1) rights had) (right_whole first last rights m had order)

pub full_middle : (fault : MapFault) (first last : ℕ) (rights : Rights) (m : ℕ → Bool) (had : ℕ → Rights) → first < last → IsFull m (with_more (first + 1) (last - first - 1) rights (with_more first 1 rights had)) fault → IsFull m (with_more first (last - first + 1) rights had) fault
full_middle fault first last rights m had order full =
    full_last fault first last rights m had order
    (full_more fault m (with_more (first + 1) (last - first - 1) rights (with_more first 1 rights had)) (with_more last 1 rights (with_more (first + 1) (last - first - 1) rights (with_more first 1 rights had)))
    (right_more last 1 rights m (with_more (first + 1) (last - first - 1) rights (with_more first 1 rights had))) full)

-- a segment's pages
pub full_segment : (fault : MapFault) (s : SegmentImage) (others : List SegmentImage) (m : ℕ → Bool) (first last : ℕ) (rights : Rights) → (s.size ≡ 0 → ⊥) → first ≡ first_page s → last ≡ last_page s → rights ≡ segment_rights s.rights → IsFull m (with_more first (last - first + 1) rights (page_rights others)) fault → IsFull m (page_rights (s ∷ others)) fault
full_segment fault s others m first last rights some first_is last_is rights_is =
    full_more fault m (with_more first (last - first + 1) rights (page_rights others)) (page_rights (s ∷ others))
    (right_within m (with_more first (last - first + 1) rights (page_rights others)) (page_rights (s ∷ others))
    (λ page there here. ap has_none (sym (same page)) ∙ here))
  where
    same : (page : ℕ) → with_more first (last - first + 1) rights (page_rights others) page ≡ page_rights (s ∷ others) page
    same page = rw (first_is, last_is, rights_is) (ap (λ (n : ℕ). with_more (first_page s) n (segment_rights s.rights) (page_rights others) page) (sym (page_count_is s some)) ∙ more_is s others page)

pub pages_touched : (s : SegmentImage) (page first last : ℕ) → (s.size ≡ 0 → ⊥) → first ≡ first_page s → last ≡ last_page s → first ≤ page → page ≤ last → touches s page ≡ true
pages_touched s page first last some first_is last_is low high =
    touches_within s page
    ∙ within_inside (first_page s) (page_count s) page (omega (arith, low, first_is)) (omega (arith, high, last_is, low, first_is, page_count_is s some))

-- ---- a page that is filled

open_full : (fault : MapFault) (page : ℕ) (own : Rights) (m : ℕ → Bool) (r : ℕ → Rights) → has_none (r page) ≡ false → IsFull m (with_own page 1 own r) fault → IsFull m r fault
open_full fault page own m r some = full_more fault m (with_own page 1 own r) r (right_own page own m r some)

-- why pages aren't protected, whatever they hold
abbrev pub Tells : ℕ → Rights → List Range → MapFault → Type 0
Tells page rights memory fault =
    (m : ℕ → Bool) (had after : ℕ → Rights) (b : ℕ → ℕ) → HasPages m had b memory → ((p : ℕ) → within page 1 p ≡ true → m p ≡ true) → HasPages m after b (protected (4096 * page) (4096 * 1) rights memory) → IsFull m after fault

at_page : (page : ℕ) (m : ℕ → Bool) → m page ≡ true → (p : ℕ) → within page 1 p ≡ true → m p ≡ true
at_page page m mapped p here = subst (λ (q : ℕ). m q ≡ true) (sym (one_within page p here)) mapped

pub opened_full : (fault : MapFault) (page : ℕ) (rights : Rights) (memory : List Range) (m : ℕ → Bool) (r : ℕ → Rights) (b : ℕ → ℕ) → rights ≡ rights_in (cell_at memory (4096 * page)) → has_none rights ≡ false → Tells page changeable memory fault → HasPages m r b memory → IsFull m r fault
opened_full fault page rights memory m r b rights_is some tells has =
    let mapped : m page ≡ true = is_there page rights m r b memory rights_is some has in
    let found : rights ≡ r page = rights_is ∙ rights_there m r b memory page has mapped in
    open_full fault page changeable m r (ap has_none (sym found) ∙ some)
    (tells m r (with_own page 1 changeable r) b has (at_page page m mapped) (has_opened page rights m r b memory _ rights_is some refl has))

here_itself : (page : ℕ) → within page 1 page ≡ true
here_itself page = within_inside page 1 page (omega arith) (omega arith)

pub closed_full : (fault : MapFault) (at page : ℕ) (bytes : List ℕ) (rights : Rights) (memory opened filled : List Range) (m : ℕ → Bool) (r : ℕ → Rights) (b : ℕ → ℕ) → page ≡ at / 4096 → at % 4096 + length bytes ≤ 4096 → rights ≡ rights_in (cell_at memory (4096 * page)) → has_none rights ≡ false → opened ≡ protected (4096 * page) (4096 * 1) changeable memory → (first_fault writable opened at (length bytes) ≡ None → filled ≡ written at bytes opened) → Tells page rights filled fault → HasPages m r b memory → IsFull m r fault
closed_full fault at page bytes rights memory opened filled m r b is near rights_is some opened_is filled_is tells has =
    let mapped : m page ≡ true = is_there page rights m r b memory rights_is some has in
    let found : rights ≡ r page = rights_is ∙ rights_there m r b memory page has mapped in
    let wrote = has_wrote at page bytes rights m r b memory opened filled is near rights_is some opened_is filled_is has in
    open_full fault page changeable m r (ap has_none (sym found) ∙ some)
    (open_full fault page rights m (with_own page 1 changeable r) (ap has_none (own_in page page changeable r (here_itself page)))
    (tells m (with_own page 1 changeable r) (with_own page 1 rights (with_own page 1 changeable r)) (over at bytes b) wrote (at_page page m mapped)
    (has_protected page 1 rights m (with_own page 1 changeable r) (over at bytes b) filled wrote
    (λ a here. keeps_by (has_none (with_own page 1 changeable r (a / 4096))) (over at bytes b a) (ap has_none (own_in page (a / 4096) changeable r here))))))
  where
    keeps_by : (none : Bool) (byte : ℕ) → none ≡ false → (if none then 0 else byte) ≡ byte
    keeps_by true byte some = cc
    keeps_by false byte some = refl

-- ---- where there is room

pub filled_few : (fault : MapFault) (m : ℕ → Bool) (segments : List SegmentImage) → AreWithin segments → pages_of segments ≤ most_pages → IsFull m (page_rights segments) fault → fault ≡ faults.Memory
filled_few fault m segments inside few full =
    let counted = right_few m segments inside in
    only_memory fault m (page_rights segments) full (omega (arith, counted, few))

pub granted_few : (fault : MapFault) (m : ℕ → Bool) (segments : List SegmentImage) (k : ℕ) (s : SegmentImage) (rest : List SegmentImage) → AreWithin segments → drop k segments ≡ s ∷ rest → pages_of segments ≤ most_pages → IsFull m (page_rights (s ∷ rest)) fault → fault ≡ faults.Memory
granted_few fault m segments k s rest inside is few full =
    let fewer = last_few segments k in
    filled_few fault m (s ∷ rest) (subst AreWithin is (last_within segments k inside))
    (subst (λ (some : List SegmentImage). pages_of some ≤ most_pages) is (omega (arith, fewer, few))) full
