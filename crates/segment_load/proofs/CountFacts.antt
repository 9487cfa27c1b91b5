-- How many pages segments store.
use Rattle.std.proofs.Common.{◌≡◌, ℕ, zero, suc, ◌+◌, ◌-◌, ◌≤◌, ◌<◌, ◌⊎◌, inl, inr, Bool, true, false, not, ◌&&◌, ◌||◌, if◌then◌else◌, List, [], ◌∷◌, length, get_or, take, drop, map, refl, ap, sym, subst, ◌∙◌, arith}
use Rattle.std.proofs.lemmas.Grind.{common_steps}
use Rattle.std.proofs.Math.Numerals.{suc-eq-add-one}
use Rattle.std.proofs.Math.Seq.{drop-cons}
use Rattle.std.proofs.lemmas.List.{drop-map, get_or-map, length-map, take_rest}
use Rattle.elf_file.specs.declared.loaded.Segment.{Segment}
use Rattle.elf_file.specs.Views.{segment_image}
use Rattle.std.specs.List.{list_all}
use Rattle.elf_file.specs.Segments.{SegmentImage, all_pairs, first_page, has_byte, last_page, shares_byte}
use Rattle.segment_load.specs.Loading.{touches}
use Rattle.segment_load.specs.Wanted.{count_others, has_right, is_stored_by, own_pages, page_count, pages_of}

-- ---- counting

others_all : (later : List SegmentImage) (page n : ℕ) → ((q : ℕ) → page ≤ q → q < page + n → is_stored_by later q ≡ false) → count_others later page n ≡ n
unfolding count_others
others_all later page zero free = refl
others_all later page (suc n) free =
    let here = free page (omega arith) (omega arith) in
    let rest = others_all later (page + 1) n (λ q low high. free q (omega arith) (omega arith)) in
    rw here (omega (arith, rest))

others_last : (later : List SegmentImage) (page n : ℕ) → count_others later page (suc n) ≡ count_others later page n + (if is_stored_by later (page + n) then 0 else 1)
unfolding count_others
others_last later page zero =
    let same : page + 0 ≡ page = omega arith in
    rw same (omega arith)
others_last later page (suc n) =
    let rest = others_last later (page + 1) n in
    let same : page + 1 + n ≡ page + suc n = omega arith in
    let at_end : count_others later (page + 1) (suc n) ≡ count_others later (page + 1) n + (if is_stored_by later (page + suc n) then 0 else 1) = rest ∙ ap (λ (q : ℕ). count_others later (page + 1) n + (if is_stored_by later q then 0 else 1)) same in
    omega (arith, at_end)

-- ---- pages between the first and the last are of one segment alone

pub apart_by : (s t : SegmentImage) (page : ℕ) (touched : Bool) → shares_byte s t ≡ false → first_page s < page → page < last_page s → touches t page ≡ touched → touched ≡ false
unfolding touches shares_byte
apart_by s t page true none after before is = absurd (grind (arith, common_steps))
apart_by s t page false none after before is = refl

and_false : (a b : Bool) → b ≡ false → (a && b) ≡ false
and_false true b is = is
and_false false b is = refl

pub not_true : (b : Bool) → not b ≡ true → b ≡ false
not_true true is = cc
not_true false is = refl

pub and_left : (a b : Bool) → (a && b) ≡ true → a ≡ true
and_left true b is = refl
and_left false b is = cc

pub and_right : (a b : Bool) → (a && b) ≡ true → b ≡ true
and_right true b is = is
and_right false b is = cc

pub alone : (s : SegmentImage) (later : List SegmentImage) (page : ℕ) → list_all (λ t. not (shares_byte s t)) later ≡ true → first_page s < page → page < last_page s → is_stored_by later page ≡ false
alone s [] page apart after before = refl
alone s (t ∷ later) page apart after before =
    let here = and_false (has_right t) (touches t page) (apart_by s t page (touches t page) (not_true (shares_byte s t) (and_left (not (shares_byte s t)) (list_all (λ t. not (shares_byte s t)) later) apart)) after before refl) in
    let rest = alone s later page (and_right (not (shares_byte s t)) (list_all (λ t. not (shares_byte s t)) later) apart) after before in
    rw (here, rest) refl

-- ---- a segment's own pages

own_by : (right : Bool) (s : SegmentImage) (later : List SegmentImage) → s.size ≡ 0 → 0 ≡ (if right then count_others later (first_page s) (page_count s) else 0)
unfolding page_count count_others
own_by true s later empty = rw empty refl
own_by false s later empty = refl

pub no_own : (s : SegmentImage) (later : List SegmentImage) → (s.rights ≡ 0) ⊎ (s.size ≡ 0) → 0 ≡ own_pages s later
unfolding own_pages page_count count_others
no_own s later (inl none) = rw none refl
no_own s later (inr empty) = own_by (has_right s) s later empty

count_one : (later : List SegmentImage) (page : ℕ) → count_others later page 1 ≡ (if is_stored_by later page then 0 else 1)
unfolding count_others
count_one later page = omega arith

pub one_page : (s : SegmentImage) (later : List SegmentImage) → (s.rights ≡ 0 → ⊥) → (s.size ≡ 0 → ⊥) → first_page s ≡ last_page s → (if is_stored_by later (first_page s) then 0 else 1) ≡ own_pages s later
unfolding own_pages page_count
one_page s later some bytes same =
    let right : has_right s ≡ true = grind (arith, common_steps) in
    let byte : has_byte s ≡ true = grind (arith, common_steps) in
    let count : last_page s - first_page s + 1 ≡ 1 = omega arith in
    rw (right, byte, count) (sym (count_one later (first_page s)))

split : (later : List SegmentImage) (first n : ℕ) → ((q : ℕ) → first < q → q < first + n + 1 → is_stored_by later q ≡ false) → count_others later first (suc (suc n)) ≡ (if is_stored_by later first then 0 else 1) + n + (if is_stored_by later (first + n + 1) then 0 else 1)
unfolding count_others
split later first n free =
    let rest = others_all later (first + 1) n (λ q low high. free q (omega arith) (omega arith)) in
    let last = others_last later (first + 1) n in
    let same : first + 1 + n ≡ first + n + 1 = omega arith in
    let at_end : count_others later (first + 1) (suc n) ≡ count_others later (first + 1) n + (if is_stored_by later (first + n + 1) then 0 else 1) = last ∙ ap (λ (q : ℕ). count_others later (first + 1) n + (if is_stored_by later q then 0 else 1)) same in
    omega (arith, at_end, rest)

pub more_pages : (s : SegmentImage) (later : List SegmentImage) → list_all (λ t. not (shares_byte s t)) later ≡ true → (s.rights ≡ 0 → ⊥) → (s.size ≡ 0 → ⊥) → (first_page s ≡ last_page s → ⊥) → (if is_stored_by later (first_page s) then 0 else 1) + (last_page s - first_page s - 1) + (if is_stored_by later (last_page s) then 0 else 1) ≡ own_pages s later
unfolding own_pages page_count
more_pages s later apart some bytes other =
    let right : has_right s ≡ true = grind (arith, common_steps) in
    let byte : has_byte s ≡ true = grind (arith, common_steps) in
    let order : first_page s < last_page s = omega arith in
    let between = last_page s - first_page s - 1 in
    let count : last_page s - first_page s + 1 ≡ suc (suc between) = omega arith in
    let end : first_page s + between + 1 ≡ last_page s = omega arith in
    let parts = split later (first_page s) between (λ q after before. alone s later q apart after (omega arith)) in
    let told : count_others later (first_page s) (suc (suc between)) ≡ (if is_stored_by later (first_page s) then 0 else 1) + between + (if is_stored_by later (last_page s) then 0 else 1) = parts ∙ ap (λ (q : ℕ). (if is_stored_by later (first_page s) then 0 else 1) + between + (if is_stored_by later q then 0 else 1)) end in
    rw (right, byte, count) (sym told)

-- ---- the rest of a list

pub pairs_rest : (related : SegmentImage → SegmentImage → Bool) (segments : List SegmentImage) (k : ℕ) → all_pairs related segments ≡ true → all_pairs related (drop k segments) ≡ true
unfolding all_pairs
pairs_rest related segments zero pairs = pairs
pairs_rest related [] (suc k) pairs = refl
pairs_rest related (s ∷ segments) (suc k) pairs = pairs_rest related segments k (and_right (list_all (related s) segments) (all_pairs related segments) pairs)

pub pairs_first : (related : SegmentImage → SegmentImage → Bool) (all some : List SegmentImage) (s : SegmentImage) → all ≡ s ∷ some → all_pairs related all ≡ true → list_all (related s) some ≡ true
unfolding all_pairs
pairs_first related all some s is pairs =
    let here : all_pairs related (s ∷ some) ≡ true = subst (λ (list : List SegmentImage). all_pairs related list ≡ true) is pairs in
    and_left (list_all (related s) some) (all_pairs related some) here

pub pages_next : (all some : List SegmentImage) (s : SegmentImage) → all ≡ s ∷ some → pages_of all ≡ own_pages s some + pages_of some
unfolding pages_of
pages_next all some s is = rw is refl

pub pages_none : (all : List SegmentImage) → all ≡ [] → pages_of all ≡ 0
unfolding pages_of
pages_none all none = rw none refl

-- ---- the rest of a list of segments

pub image_next : (segments : List Segment) (k : ℕ) (d : Segment) → k < length segments → drop k (map segment_image segments) ≡ segment_image (get_or segments k d) ∷ drop (k + 1) (map segment_image segments)
image_next segments k d within =
    let all = map segment_image segments in
    let cons : drop k all ≡ get_or all k (segment_image d) ∷ drop (suc k) all = drop-cons all k (segment_image d) (simp length-map within) in
    cons ∙ ap (λ (s : SegmentImage). s ∷ drop (suc k) all) (get_or-map segment_image segments k d (segment_image d) within)
    ∙ ap (λ (n : ℕ). segment_image (get_or segments k d) ∷ drop n all) (suc-eq-add-one k)

pub image_before : (segments : List Segment) (left : ℕ) (s : Segment) → 0 < left → left ≤ length segments → s ≡ get_or segments (left - 1) s → drop (left - 1) (map segment_image segments) ≡ segment_image s ∷ drop left (map segment_image segments)
image_before segments left s some few is =
    let next : left - 1 + 1 ≡ left = omega arith in
    image_next segments (left - 1) s (omega arith)
    ∙ ap (λ (t : Segment). segment_image t ∷ drop (left - 1 + 1) (map segment_image segments)) (sym is)
    ∙ ap (λ (n : ℕ). segment_image s ∷ drop n (map segment_image segments)) next

pub nothing_left : (segments : List SegmentImage) (k : ℕ) → length segments ≤ k → drop k segments ≡ []
nothing_left segments k past = grind (arith, common_steps)

-- a segment shares no byte with those behind it
pub apart_next : (segments : List SegmentImage) (k : ℕ) (s : SegmentImage) (some : List SegmentImage) → drop k segments ≡ s ∷ some → all_pairs (λ s t. not (shares_byte s t)) segments ≡ true → list_all (λ t. not (shares_byte s t)) some ≡ true
apart_next segments k s some is apart =
    pairs_first (λ s t. not (shares_byte s t)) (drop k segments) some s is (pairs_rest (λ s t. not (shares_byte s t)) segments k apart)

-- ---- whether one of them stores a page

pub stored_yes : (all some : List SegmentImage) (s : SegmentImage) (page : ℕ) → all ≡ s ∷ some → (s.rights ≡ 0 → ⊥) → touches s page ≡ true → true ≡ is_stored_by all page
stored_yes all some s page is right touched =
    let has : has_right s ≡ true = grind (arith, common_steps) in
    rw (is, has, touched) refl

pub stored_rest : (all some : List SegmentImage) (s : SegmentImage) (page : ℕ) → all ≡ s ∷ some → (s.rights ≡ 0) ⊎ (touches s page ≡ false) → is_stored_by some page ≡ is_stored_by all page
stored_rest all some s page is (inl none) = rw (is, none) refl
stored_rest all some s page is (inr untouched) = rw is (ap (λ (b : Bool). b || is_stored_by some page) (sym (and_false (has_right s) (touches s page) untouched)))

-- ---- the segments behind a place

images_behind : (segments : List Segment) (place : ℕ) → map segment_image (take (length segments - place) (drop place segments)) ≡ drop place (map segment_image segments)
images_behind segments place =
    ap (map segment_image) (take_rest segments place) ∙ sym (drop-map segment_image place segments)

pub apart_behind : (segments : List Segment) (place : ℕ) (s : Segment) → place < length segments → s ≡ get_or segments place s → all_pairs (λ s t. not (shares_byte s t)) (map segment_image segments) ≡ true → list_all (λ t. not (shares_byte (segment_image s) t)) (map segment_image (take (length segments - (place + 1)) (drop (place + 1) segments))) ≡ true
apart_behind segments place s within is apart =
    let all = map segment_image segments in
    let next : drop place all ≡ segment_image s ∷ drop (place + 1) all = image_next segments place s within ∙ ap (λ (t : Segment). segment_image t ∷ drop (place + 1) all) (sym is) in
    let rest = pairs_rest (λ s t. not (shares_byte s t)) all place apart in
    rw (images_behind segments (place + 1)) (pairs_first (λ s t. not (shares_byte s t)) (drop place all) (drop (place + 1) all) (segment_image s) next rest)

pub pages_behind : (segments : List Segment) (place own : ℕ) (s : Segment) → place < length segments → s ≡ get_or segments place s → own ≡ own_pages (segment_image s) (map segment_image (take (length segments - (place + 1)) (drop (place + 1) segments))) → pages_of (drop place (map segment_image segments)) ≡ own + pages_of (drop (place + 1) (map segment_image segments))
pages_behind segments place own s within is own_is =
    let all = map segment_image segments in
    let next : drop place all ≡ segment_image s ∷ drop (place + 1) all = image_next segments place s within ∙ ap (λ (t : Segment). segment_image t ∷ drop (place + 1) all) (sym is) in
    let told : own ≡ own_pages (segment_image s) (drop (place + 1) all) = own_is ∙ ap (own_pages (segment_image s)) (images_behind segments (place + 1)) in
    pages_next (drop place all) (drop (place + 1) all) (segment_image s) next ∙ ap (λ (n : ℕ). n + pages_of (drop (place + 1) all)) (sym told)
