-- Pages get the rights of their segments.
use Rattle.std.proofs.Common.{◌≡◌, ℕ, ◌+◌, ◌-◌, ◌*◌, ◌/◌, ◌≤◌, ◌<◌, ◌⊎◌, inl, inr, Bool, true, false, not, ◌||◌, if◌then◌else◌, List, [], ◌∷◌, refl, ap, sym, subst, ◌∙◌, arith}
use Rattle.std.specs.List.{list_all}
use Rattle.elf_file.specs.Segments.{SegmentImage, first_page, last_page, shares_byte}
use Rattle.guest_pages.specs.declared.rights.Rights.{Rights}
use Rattle.guest_pages.specs.Cells.{cell, has_none}
use Rattle.guest_pages.specs.Operations.{protected}
use Rattle.guest_pages.specs.Ranges.{Range, within, cell_at}
use Rattle.guest_pages.proofs.RightsFacts.{rights_by_fields, within_high, within_inside, within_low, within_outside}
use Rattle.segment_load.specs.Loading.{either, no_right, page_rights, rights_by, touches}
use Rattle.segment_load.specs.Steps.{HasPages, no_rights, rights_in, with_more, zeros}
use Rattle.segment_load.specs.Wanted.{page_count}
use Rattle.segment_load.proofs.CellFacts.{lt_or, one_within, page_count_is, touches_within, untouched_empty}
use Rattle.segment_load.proofs.CountFacts.{and_left, and_right, apart_by, not_true}
use Rattle.segment_load.proofs.PagedFacts.{has_alike, has_protected, has_same_rights, rights_there, with_own}

zero_byte : (none : Bool) → ◌≡◌ {A = ℕ} (if none then 0 else 0) 0
zero_byte true = refl
zero_byte false = refl

or_false : (b : Bool) → (b || false) ≡ b
or_false true = refl
or_false false = refl

either_nothing : (rights : Rights) → rights ≡ either rights no_right
unfolding either
either_nothing rights = rights_by_fields rights (either rights no_right) (sym (or_false rights.read)) (sym (or_false rights.write)) (sym (or_false rights.execute))

-- ---- one page, and pages without rights

more_by : (w : Bool) (all rights had : Rights) → (w ≡ true → all ≡ either rights had) → (if w then all else had) ≡ (if w then either rights had else had)
more_by true all rights had is = is refl
more_by false all rights had is = refl

-- what all pages of a range then have is right where they are mapped
has_more : (first count : ℕ) (all rights : Rights) (m : ℕ → Bool) (had : ℕ → Rights) (old new : List Range) → new ≡ protected (4096 * first) (4096 * count) all old → HasPages m had zeros old → ((page : ℕ) → m page ≡ true → within first count page ≡ true → all ≡ either rights (had page)) → HasPages m (with_more first count rights had) zeros new
has_more first count all rights m had old new is has right =
    subst (λ (memory : List Range). HasPages m (with_more first count rights had) zeros memory) (sym is)
    (has_alike m (with_own first count all had) (with_more first count rights had) zeros zeros (protected (4096 * first) (4096 * count) all old)
    (has_protected first count all m had zeros old has (λ a here. zero_byte (has_none (had (a / 4096)))))
    (λ a mapped. ap (λ (r : Rights). cell r 0) (more_by (within first count (a / 4096)) all rights (had (a / 4096)) (right (a / 4096) mapped))))

pub has_shared : (page : ℕ) (all rights : Rights) (m : ℕ → Bool) (had : ℕ → Rights) (old new : List Range) → all ≡ either rights (rights_in (cell_at old (4096 * page))) → new ≡ protected (4096 * page) (4096 * 1) all old → HasPages m had zeros old → HasPages m (with_more page 1 rights had) zeros new
has_shared page all rights m had old new all_is is has =
    has_more page 1 all rights m had old new is has
    (λ p mapped here.
    let at_page : p ≡ page = one_within page p here in
    all_is ∙ ap (either rights) (rights_there m had zeros old page has (subst (λ (q : ℕ). m q ≡ true) at_page mapped) ∙ ap had (sym at_page)))

pub has_alone : (first count : ℕ) (rights : Rights) (m : ℕ → Bool) (had : ℕ → Rights) (old new : List Range) → new ≡ protected (4096 * first) (4096 * count) rights old → ((page : ℕ) → within first count page ≡ true → had page ≡ no_right) → HasPages m had zeros old → HasPages m (with_more first count rights had) zeros new
has_alone first count rights m had old new is none has =
    has_more first count rights rights m had old new is has
    (λ page mapped here. either_nothing rights ∙ ap (either rights) (sym (none page here)))

-- ---- the first page, those behind it, and the last

out : (first count : ℕ) (rights : Rights) (had : ℕ → Rights) (page : ℕ) → (page < first) ⊎ (first + count ≤ page) → with_more first count rights had page ≡ had page
out first count rights had page outside = ap (λ (w : Bool). if w then either rights (had page) else had page) (within_outside first count page outside)

into : (first count : ℕ) (rights : Rights) (had : ℕ → Rights) (page : ℕ) → first ≤ page → page < first + count → with_more first count rights had page ≡ either rights (had page)
into first count rights had page low high = ap (λ (w : Bool). if w then either rights (had page) else had page) (within_inside first count page low high)

pub whole_by : (first last : ℕ) (rights : Rights) (had : ℕ → Rights) (page : ℕ) → first < last → (page < first) ⊎ (first ≤ page) → (page < first + 1) ⊎ (first + 1 ≤ page) → (page < last) ⊎ (last ≤ page) → (page < last + 1) ⊎ (last + 1 ≤ page) → with_more last 1 rights (with_more (first + 1) (last - first - 1) rights (with_more first 1 rights had)) page ≡ with_more first (last - first + 1) rights had page
whole_by first last rights had page order (inl below) b c d =
    out last 1 rights (with_more (first + 1) (last - first - 1) rights (with_more first 1 rights had)) page (inl (omega arith))
    ∙ out (first + 1) (last - first - 1) rights (with_more first 1 rights had) page (inl (omega arith))
    ∙ out first 1 rights had page (inl below)
    ∙ sym (out first (last - first + 1) rights had page (inl below))
whole_by first last rights had page order (inr from) (inl to) c d =
    out last 1 rights (with_more (first + 1) (last - first - 1) rights (with_more first 1 rights had)) page (inl (omega arith))
    ∙ out (first + 1) (last - first - 1) rights (with_more first 1 rights had) page (inl (omega arith))
    ∙ into first 1 rights had page from to
    ∙ sym (into first (last - first + 1) rights had page from (omega arith))
whole_by first last rights had page order (inr from) (inr behind) (inl before) d =
    out last 1 rights (with_more (first + 1) (last - first - 1) rights (with_more first 1 rights had)) page (inl before)
    ∙ into (first + 1) (last - first - 1) rights (with_more first 1 rights had) page behind (omega arith)
    ∙ ap (either rights) (out first 1 rights had page (inr behind))
    ∙ sym (into first (last - first + 1) rights had page from (omega arith))
whole_by first last rights had page order (inr from) (inr behind) (inr at_last) (inl here) =
    into last 1 rights (with_more (first + 1) (last - first - 1) rights (with_more first 1 rights had)) page at_last here
    ∙ ap (either rights) (out (first + 1) (last - first - 1) rights (with_more first 1 rights had) page (inr (omega arith)) ∙ out first 1 rights had page (inr behind))
    ∙ sym (into first (last - first + 1) rights had page from (omega arith))
whole_by first last rights had page order (inr from) (inr behind) (inr at_last) (inr past) =
    out last 1 rights (with_more (first + 1) (last - first - 1) rights (with_more first 1 rights had)) page (inr past)
    ∙ out (first + 1) (last - first - 1) rights (with_more first 1 rights had) page (inr (omega arith))
    ∙ out first 1 rights had page (inr behind)
    ∙ sym (out first (last - first + 1) rights had page (inr (omega arith)))

pub has_whole : (first last : ℕ) (rights : Rights) (m : ℕ → Bool) (had : ℕ → Rights) (memory : List Range) → first < last → HasPages m (with_more last 1 rights (with_more (first + 1) (last - first - 1) rights (with_more first 1 rights had))) zeros memory → HasPages m (with_more first (last - first + 1) rights had) zeros memory
has_whole first last rights m had memory order has =
    has_same_rights m (with_more last 1 rights (with_more (first + 1) (last - first - 1) rights (with_more first 1 rights had))) (with_more first (last - first + 1) rights had) zeros memory has
    (λ page. whole_by first last rights had page order (lt_or page first) (lt_or page (first + 1)) (lt_or page last) (lt_or page (last + 1)))

-- those between the two have none still
pub none_still : (first last : ℕ) (rights : Rights) (had : ℕ → Rights) (page : ℕ) → ((page : ℕ) → first < page → page < last → had page ≡ no_right) → within (first + 1) (last - first - 1) page ≡ true → with_more first 1 rights had page ≡ no_right
none_still first last rights had page none here =
    let low = within_low (first + 1) (last - first - 1) page here in
    let high = within_high (first + 1) (last - first - 1) page here in
    out first 1 rights had page (inr low) ∙ none page (omega (arith, low)) (omega (arith, low, high))

-- ---- a segment

pub none_between : (s : SegmentImage) (others : List SegmentImage) (page : ℕ) → list_all (λ t. not (shares_byte s t)) others ≡ true → first_page s < page → page < last_page s → page_rights others page ≡ no_right
unfolding page_rights
none_between s [] page apart after before = refl
none_between s (t ∷ others) page apart after before =
    let here = apart_by s t page (touches t page) (not_true (shares_byte s t) (and_left (not (shares_byte s t)) (list_all (λ t. not (shares_byte s t)) others) apart)) after before refl in
    let rest = none_between s others page (and_right (not (shares_byte s t)) (list_all (λ t. not (shares_byte s t)) others) apart) after before in
    rw here rest

pub more_is : (s : SegmentImage) (others : List SegmentImage) (page : ℕ) → with_more (first_page s) (page_count s) (rights_by s.rights) (page_rights others) page ≡ page_rights (s ∷ others) page
unfolding page_rights
more_is s others page = ap (λ (w : Bool). if w then either (rights_by s.rights) (page_rights others page) else page_rights others page) (sym (touches_within s page))

pub has_segment : (s : SegmentImage) (others : List SegmentImage) (m : ℕ → Bool) (memory : List Range) (first last : ℕ) (rights : Rights) → (s.size ≡ 0 → ⊥) → first ≡ first_page s → last ≡ last_page s → rights ≡ rights_by s.rights → HasPages m (with_more first (last - first + 1) rights (page_rights others)) zeros memory → HasPages m (page_rights (s ∷ others)) zeros memory
has_segment s others m memory first last rights some first_is last_is rights_is has =
    has_same_rights m (with_more first (last - first + 1) rights (page_rights others)) (page_rights (s ∷ others)) zeros memory has
    (λ page.
    rw (first_is, last_is, rights_is) (ap (λ (n : ℕ). with_more (first_page s) n (rights_by s.rights) (page_rights others) page) (sym (page_count_is s some)) ∙ more_is s others page))

no_flags : (flags : ℕ) (rights : Rights) → flags ≡ 0 → rights ≡ either (rights_by flags) rights
unfolding either rights_by
no_flags flags rights none = rw none (rights_by_fields rights (either (rights_by 0) rights) refl refl refl)

none_by : (t : Bool) (flags : ℕ) (rights : Rights) → (t ≡ false) ⊎ (flags ≡ 0) → rights ≡ (if t then either (rights_by flags) rights else rights)
none_by true flags rights (inl out) = cc
none_by true flags rights (inr none) = no_flags flags rights none
none_by false flags rights without = refl

-- one without a byte or a right
pub has_skipped : (s : SegmentImage) (others : List SegmentImage) (m : ℕ → Bool) (memory : List Range) → (s.rights ≡ 0) ⊎ (s.size ≡ 0) → HasPages m (page_rights others) zeros memory → HasPages m (page_rights (s ∷ others)) zeros memory
unfolding page_rights
has_skipped s others m memory without has =
    has_same_rights m (page_rights others) (page_rights (s ∷ others)) zeros memory has
    (λ page. none_by (touches s page) s.rights (page_rights others page) (elim without [ inl none ↦ inr none | inr empty ↦ inl (untouched_empty s page empty) ]))

-- no segment gives a right
nothing_granted : (page : ℕ) → no_rights page ≡ page_rights [] page
unfolding page_rights
nothing_granted page = refl

pub has_no_segment : (m : ℕ → Bool) (memory : List Range) → HasPages m no_rights zeros memory → HasPages m (page_rights []) zeros memory
has_no_segment m memory has = has_same_rights m no_rights (page_rights []) zeros memory has nothing_granted
