-- The pages that are counted are those that the memory stores.
use Rattle.std.proofs.Common.{◌≡◌, ℕ, zero, suc, ◌+◌, ◌-◌, ◌*◌, ◌/◌, ◌^◌, ◌<◌, ◌≤◌, Bool, true, false, not, ◌&&◌, ◌||◌, ◌==◌, if◌then◌else◌, List, [], ◌∷◌, map, Some, None, inl, inr, refl, ap, sym, ◌∙◌, arith}
use Rattle.elf_file.specs.declared.loaded.Segment.{Segment}
use Rattle.elf_file.specs.Views.{segment_image}
use Rattle.elf_file.specs.Segments.{SegmentImage, end_of, first_page, has_byte}
use Rattle.guest_pages.specs.declared.rights.Rights.{Rights}
use Rattle.guest_pages.specs.Cells.{cell, has_none}
use Rattle.guest_pages.specs.Counting.{count_pages, one_if, rights_of, some_right}
use Rattle.guest_pages.specs.Operations.{stored_pages}
use Rattle.guest_pages.specs.Ranges.{within}
use Rattle.guest_pages.proofs.Counting.{IsPaged, stored_is}
use Rattle.guest_pages.proofs.RightsFacts.{within_inside, within_outside}
use Rattle.segment_load.specs.Loading.{byte_at, cell_of, either, is_touched, loaded, page_rights, rights_by, touches}
use Rattle.segment_load.specs.Wanted.{count_others, has_right, is_stored_by, own_pages, page_count, pages_of}
use Rattle.segment_load.proofs.CellFacts.{touches_within}

-- what the reader of files keeps of a segment
pub record IsWithin (s : SegmentImage) : Type 0 where
  pub few : s.rights < 8
  pub high : end_of s ≤ 0x3F00000000

abbrev pub AreWithin : List SegmentImage → Type 0
AreWithin [] = Unit {0}
AreWithin (s ∷ segments) = IsWithin s × AreWithin segments

pub are_within : (segments : List Segment) → AreWithin (map segment_image segments)
are_within [] = tt
are_within (s ∷ segments) = (record { few = s.few_rights; high = s.high }, are_within segments)

-- ---- a page has a right where a segment that has one has a byte in it

no_flag : (flags : ℕ) → flags < 8 → has_none (rights_by flags) ≡ (flags == 0)
unfolding rights_by
no_flag zero small = refl
no_flag (suc zero) small = refl
no_flag (suc (suc zero)) small = refl
no_flag (suc (suc (suc zero))) small = refl
no_flag (suc (suc (suc (suc zero)))) small = refl
no_flag (suc (suc (suc (suc (suc zero))))) small = refl
no_flag (suc (suc (suc (suc (suc (suc zero)))))) small = refl
no_flag (suc (suc (suc (suc (suc (suc (suc zero))))))) small = refl
no_flag (suc (suc (suc (suc (suc (suc (suc (suc n)))))))) small = absurd (omega arith)

none_by : (r w x r-2 w-2 x-2 : Bool) → not ((r || r-2) || ((w || w-2) || (x || x-2))) ≡ (not (r || (w || x)) && not (r-2 || (w-2 || x-2)))
none_by true w x r-2 w-2 x-2 = refl
none_by false true x true w-2 x-2 = refl
none_by false true x false w-2 x-2 = refl
none_by false false true true w-2 x-2 = refl
none_by false false true false true x-2 = refl
none_by false false true false false x-2 = refl
none_by false false false r-2 w-2 x-2 = refl

pub either_none : (a b : Rights) → has_none (either a b) ≡ (has_none a && has_none b)
unfolding either
either_none a b = none_by a.read a.write a.execute b.read b.write b.execute

right_bools : (zero none stored : Bool) → not none ≡ stored → not (zero && none) ≡ ((not zero && true) || stored)
right_bools true none stored is = is
right_bools false none stored is = refl

right_none : (zero stored : Bool) → stored ≡ ((not zero && false) || stored)
right_none true stored = refl
right_none false stored = refl

right_by : (t : Bool) (flags : ℕ) (rest : Rights) (stored : Bool) → flags < 8 → not (has_none rest) ≡ stored → not (has_none (if t then either (rights_by flags) rest else rest)) ≡ ((not (flags == 0) && t) || stored)
right_by true flags rest stored small is =
    ap not (either_none (rights_by flags) rest ∙ ap (λ (b : Bool). b && has_none rest) (no_flag flags small))
    ∙ right_bools (flags == 0) (has_none rest) stored is
right_by false flags rest stored small is = is ∙ right_none (flags == 0) stored

pub right_is : (segments : List SegmentImage) (page : ℕ) → AreWithin segments → not (has_none (page_rights segments page)) ≡ is_stored_by segments page
unfolding page_rights
right_is [] page within = refl
right_is (s ∷ segments) page within =
    right_by (touches s page) s.rights (page_rights segments page) (is_stored_by segments page) within.0.few (right_is segments page within.1)

or_left : (a b : Bool) → (a || b) ≡ false → a ≡ false
or_left true b is = is
or_left false b is = refl

or_right : (a b : Bool) → (a || b) ≡ false → b ≡ false
or_right true b is = cc
or_right false b is = is

untouched : (segments : List SegmentImage) (page : ℕ) → is_touched segments page ≡ false → has_none (page_rights segments page) ≡ true
unfolding page_rights
untouched [] page out = refl
untouched (s ∷ segments) page out =
    rw (or_left (touches s page) (is_touched segments page) out) (untouched segments page (or_right (touches s page) (is_touched segments page) out))

touched_by : (t : Bool) (rights : Rights) (byte : ℕ) → (t ≡ false → has_none rights ≡ true) → some_right (rights_of (if t then Some (cell rights byte) else None)) ≡ not (has_none rights)
touched_by true rights byte none = refl
touched_by false rights byte none = sym (ap not (none refl))

cell_right : (segments : List SegmentImage) (page : ℕ) → AreWithin segments → some_right (rights_of (cell_of segments (4096 * page))) ≡ is_stored_by segments page
unfolding cell_of
cell_right segments page within =
    let is : 4096 * page / 4096 ≡ page = omega arith in
    ap (λ (p : ℕ). some_right (rights_of (if is_touched segments p then Some (cell (page_rights segments p) (byte_at segments (4096 * page))) else None))) is
    ∙ touched_by (is_touched segments page) (page_rights segments page) (byte_at segments (4096 * page)) (untouched segments page)
    ∙ right_is segments page within

-- ---- the pages one by one

-- how many of the numbers from one on have a segment with a right
unfoldable pub count_stored : List SegmentImage → ℕ → ℕ → ℕ
count_stored segments page zero = 0
count_stored segments page (suc n) = one_if (is_stored_by segments page) + count_stored segments (page + 1) n

counted : (segments : List SegmentImage) (page n : ℕ) → AreWithin segments → count_pages (cell_of segments) page n ≡ count_stored segments page n
unfolding count_pages count_stored
counted segments page zero within = refl
counted segments page (suc n) within =
    ap (λ (b : Bool). one_if b + count_pages (cell_of segments) (page + 1) n) (cell_right segments page within)
    ∙ ap (λ (x : ℕ). one_if (is_stored_by segments page) + x) (counted segments (page + 1) n within)

-- how many of them a segment stores and no later one does
own_from : SegmentImage → List SegmentImage → ℕ → ℕ → ℕ
own_from s later page zero = 0
own_from s later page (suc n) = one_if ((has_right s && touches s page) && not (is_stored_by later page)) + own_from s later (page + 1) n

one_more : (a b : Bool) → one_if (a || b) ≡ one_if (a && not b) + one_if b
one_more true true = refl
one_more true false = refl
one_more false true = refl
one_more false false = refl

count_more : (s : SegmentImage) (later : List SegmentImage) (page n : ℕ) → count_stored (s ∷ later) page n ≡ own_from s later page n + count_stored later page n
unfolding count_stored own_from
count_more s later page zero = refl
count_more s later page (suc n) =
    let here = one_more (has_right s && touches s page) (is_stored_by later page) in
    let rest = count_more s later (page + 1) n in
    omega (arith, here, rest)

own_split : (s : SegmentImage) (later : List SegmentImage) (page m n : ℕ) → own_from s later page (m + n) ≡ own_from s later page m + own_from s later (page + m) n
unfolding own_from
own_split s later page zero n =
    let e : page ≡ page + 0 = omega arith in
    let k : 0 + n ≡ n = omega arith in
    ap (own_from s later page) k ∙ (ap (λ (q : ℕ). own_from s later q n) e ∙ omega arith)
own_split s later page (suc m) n =
    let e : page + 1 + m ≡ page + suc m = omega arith in
    let k : suc m + n ≡ suc (m + n) = omega arith in
    let rest = own_split s later (page + 1) m n ∙ ap (λ (q : ℕ). own_from s later (page + 1) m + own_from s later q n) e in
    ap (own_from s later page) k ∙ (ap (λ (x : ℕ). one_if ((has_right s && touches s page) && not (is_stored_by later page)) + x) rest ∙ omega arith)

none_here : (right stored : Bool) → one_if ((right && false) && not stored) ≡ 0
none_here true stored = refl
none_here false stored = refl

own_none : (s : SegmentImage) (later : List SegmentImage) (page n : ℕ) → ((q : ℕ) → page ≤ q → q < page + n → touches s q ≡ false) → own_from s later page n ≡ 0
unfolding own_from
own_none s later page zero out = refl
own_none s later page (suc n) out =
    let here : one_if ((has_right s && touches s page) && not (is_stored_by later page)) ≡ 0 = ap (λ (t : Bool). one_if ((has_right s && t) && not (is_stored_by later page))) (out page (omega arith) (omega arith)) ∙ none_here (has_right s) (is_stored_by later page) in
    let rest = own_none s later (page + 1) n (λ q low high. out q (omega arith) (omega arith)) in
    omega (arith, here, rest)

one_here : (stored : Bool) → one_if ((true && true) && not stored) ≡ (if stored then 0 else 1)
one_here true = refl
one_here false = refl

own_all : (right : Bool) (s : SegmentImage) (later : List SegmentImage) (page n : ℕ) → has_right s ≡ right → ((q : ℕ) → page ≤ q → q < page + n → touches s q ≡ true) → own_from s later page n ≡ (if right then count_others later page n else 0)
unfolding own_from count_others
own_all true s later page zero is all = refl
own_all false s later page zero is all = refl
own_all true s later page (suc n) is all =
    let here : one_if ((has_right s && touches s page) && not (is_stored_by later page)) ≡ (if is_stored_by later page then 0 else 1) = ap (λ (r : Bool). one_if ((r && touches s page) && not (is_stored_by later page))) is ∙ ap (λ (t : Bool). one_if ((true && t) && not (is_stored_by later page))) (all page (omega arith) (omega arith)) ∙ one_here (is_stored_by later page) in
    let rest = own_all true s later (page + 1) n is (λ q low high. all q (omega arith) (omega arith)) in
    omega (arith, here, rest)
own_all false s later page (suc n) is all =
    let here : one_if ((has_right s && touches s page) && not (is_stored_by later page)) ≡ 0 = ap (λ (r : Bool). one_if ((r && touches s page) && not (is_stored_by later page))) is in
    let rest = own_all false s later (page + 1) n is (λ q low high. all q (omega arith) (omega arith)) in
    omega (arith, here, rest)

pub inside_by : (byte : Bool) (s : SegmentImage) → has_byte s ≡ byte → end_of s ≤ 0x3F00000000 → first_page s + page_count s ≤ 2 ^ 26
unfolding page_count
inside_by true s is high = rw is (omega arith)
inside_by false s is high = rw is (omega arith)

own_is : (s : SegmentImage) (later : List SegmentImage) → IsWithin s → own_from s later 0 (2 ^ 26) ≡ own_pages s later
unfolding own_pages
own_is s later inside =
    let first = first_page s in
    let count = page_count s in
    let room : first_page s + page_count s ≤ 2 ^ 26 = inside_by (has_byte s) s refl inside.high in
    let left = 2 ^ 26 - (first_page s + page_count s) in
    let whole : 2 ^ 26 ≡ first_page s + (page_count s + (2 ^ 26 - (first_page s + page_count s))) = omega arith in
    let split = ap (own_from s later 0) whole ∙ (own_split s later 0 first (count + left) ∙ ap (λ (x : ℕ). own_from s later 0 first + x) (own_split s later (0 + first) count left)) in
    let start : 0 + first_page s ≡ first_page s = omega arith in
    let before = own_none s later 0 first (λ q low high. touches_within s q ∙ within_outside (first_page s) (page_count s) q (inl (omega arith))) in
    let here = own_all (has_right s) s later first count refl (λ q low high. touches_within s q ∙ within_inside (first_page s) (page_count s) q low high) in
    let behind = own_none s later (0 + first + count) left (λ q low high. touches_within s q ∙ within_outside (first_page s) (page_count s) q (inr (omega arith))) in
    let middle = ap (λ (p : ℕ). own_from s later p count) start in
    omega (arith, split, before, here, behind, middle)

count_none : (page n : ℕ) → count_stored [] page n ≡ 0
unfolding count_stored
count_none page zero = refl
count_none page (suc n) =
    let rest = count_none (page + 1) n in
    omega (arith, rest)

pub all_counted : (segments : List SegmentImage) → AreWithin segments → count_stored segments 0 (2 ^ 26) ≡ pages_of segments
unfolding pages_of
all_counted [] within = count_none 0 (2 ^ 26)
all_counted (s ∷ segments) within =
    count_more s segments 0 (2 ^ 26)
    ∙ ap (λ (n : ℕ). n + count_stored segments 0 (2 ^ 26)) (own_is s segments within.0)
    ∙ ap (λ (n : ℕ). own_pages s segments + n) (all_counted segments within.1)

-- ---- the memory

paged_by : (t : Bool) (rights : Rights) (x y : ℕ) → rights_of (if t then Some (cell rights x) else None) ≡ rights_of (if t then Some (cell rights y) else None)
paged_by true rights x y = refl
paged_by false rights x y = refl

paged : (segments : List SegmentImage) → IsPaged (cell_of segments)
unfolding cell_of
paged segments a b same =
    paged_by (is_touched segments (a / 4096)) (page_rights segments (a / 4096)) (byte_at segments a) (byte_at segments b)
    ∙ ap (λ (p : ℕ). rights_of (if is_touched segments p then Some (cell (page_rights segments p) (byte_at segments b)) else None)) same

pub stored_loaded : (segments : List SegmentImage) → AreWithin segments → stored_pages (loaded segments) ≡ pages_of segments
unfolding loaded
stored_loaded segments within =
    stored_is (cell_of segments) (paged segments) ∙ counted segments 0 (2 ^ 26) within ∙ all_counted segments within
