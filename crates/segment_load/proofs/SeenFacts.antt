-- The pages of segments that were seen.
use Rattle.std.proofs.Common.{◌≡◌, ℕ, ◌+◌, ◌-◌, ◌*◌, ◌≤◌, ◌<◌, ◌⊎◌, inl, inr, Bool, true, false, not, ◌&&◌, ◌||◌, if◌then◌else◌, List, ◌∷◌, Some, None, refl, ap, sym, ◌∙◌, arith}
use Rattle.std.proofs.lemmas.Grind.{common_steps}
use Rattle.std.specs.List.{list_all}
use Rattle.elf_file.specs.Segments.{SegmentImage, first_page, last_page, shares_byte}
use Rattle.guest_pages.specs.Cells.{cell}
use Rattle.guest_pages.specs.Finding.{is_mapped}
use Rattle.guest_pages.specs.Ranges.{Range, cell_at}
use Rattle.segment_load.specs.Loading.{no_right, touches}
use Rattle.segment_load.specs.Seen.{Counts, HasSeen}
use Rattle.segment_load.specs.Steps.{HasPages, no_rights, with_pages, zeros}
use Rattle.segment_load.specs.Wanted.{has_right, is_stored_by, own_pages}
use Rattle.segment_load.proofs.CellFacts.{lt_or, untouched_empty}
use Rattle.segment_load.proofs.CountFacts.{more_pages, no_own, one_page}
use Rattle.segment_load.proofs.PagedFacts.{has_same_pages, there}

mapped_by : (t : Bool) → is_mapped (if t then Some (cell no_right 0) else None) ≡ t
mapped_by true = refl
mapped_by false = refl

seen_is : (later : List SegmentImage) (memory : List Range) (page : ℕ) → HasSeen later memory → is_mapped (cell_at memory (4096 * page)) ≡ is_stored_by later page
seen_is later memory page has =
    ap is_mapped (there (is_stored_by later) no_rights zeros memory page has) ∙ mapped_by (is_stored_by later page)

-- one without a byte or a right stores nothing
skip_by : (right touched stored : Bool) → (right ≡ false) ⊎ (touched ≡ false) → stored ≡ ((right && touched) || stored)
skip_by true true stored (inl none) = cc
skip_by true true stored (inr none) = cc
skip_by true false stored without = refl
skip_by false touched stored without = refl

no_right_is : (s : SegmentImage) → s.rights ≡ 0 → has_right s ≡ false
no_right_is s none = rw none refl

pub counts_none : (s : SegmentImage) (later : List SegmentImage) (memory : List Range) → (s.rights ≡ 0) ⊎ (s.size ≡ 0) → HasSeen later memory → Counts s later 0 memory
counts_none s later memory without has = record {
  own = no_own s later without;
  seen = has_same_pages (is_stored_by later) (is_stored_by (s ∷ later)) no_rights zeros memory has
      (λ page. skip_by (has_right s) (touches s page) (is_stored_by later page)
      (elim without [ inl none ↦ inl (no_right_is s none) | inr empty ↦ inr (untouched_empty s page empty) ]));
}

-- the pages of another are seen
right_is : (s : SegmentImage) → (s.rights ≡ 0 → ⊥) → has_right s ≡ true
right_is s some = grind (arith, common_steps)

seen_more : (s : SegmentImage) (later : List SegmentImage) (memory : List Range) → (s.rights ≡ 0 → ⊥) → HasPages (with_pages s (is_stored_by later)) no_rights zeros memory → HasSeen (s ∷ later) memory
seen_more s later memory some has =
    has_same_pages (with_pages s (is_stored_by later)) (is_stored_by (s ∷ later)) no_rights zeros memory has
    (λ page. ap (λ (r : Bool). (r && touches s page) || is_stored_by later page) (sym (right_is s some)))

page_order : (s : SegmentImage) → (s.size ≡ 0 → ⊥) → first_page s ≤ last_page s
page_order s byte = omega arith

own_by : (s : SegmentImage) (later : List SegmentImage) (own first last : ℕ) (at_first at_last : Bool) → (s.rights ≡ 0 → ⊥) → (s.size ≡ 0 → ⊥) → first ≡ first_page s → last ≡ last_page s → at_first ≡ is_stored_by later first → at_last ≡ is_stored_by later last → (first ≡ last → own ≡ (if at_first then 0 else 1)) → (first < last → own ≡ (if at_first then 0 else 1) + (last - first - 1) + (if at_last then 0 else 1)) → list_all (λ t. not (shares_byte s t)) later ≡ true → (first < last) ⊎ (last ≤ first) → own ≡ own_pages s later
own_by s later own first last at_first at_last right byte first_is last_is at_first_is at_last_is one more apart (inl order) =
    let other : first_page s ≡ last_page s → ⊥ = λ same. omega (arith, first_is, last_is, same, order) in
    more order
    ∙ ap (λ (b : Bool). (if b then 0 else 1) + (last - first - 1) + (if at_last then 0 else 1)) at_first_is
    ∙ ap (λ (b : Bool). (if is_stored_by later first then 0 else 1) + (last - first - 1) + (if b then 0 else 1)) at_last_is
    ∙ ap (λ (n : ℕ). (if is_stored_by later n then 0 else 1) + (last - n - 1) + (if is_stored_by later last then 0 else 1)) first_is
    ∙ ap (λ (n : ℕ). (if is_stored_by later (first_page s) then 0 else 1) + (n - first_page s - 1) + (if is_stored_by later n then 0 else 1)) last_is
    ∙ more_pages s later apart right byte other
own_by s later own first last at_first at_last right byte first_is last_is at_first_is at_last_is one more apart (inr order) =
    let ordered : first_page s ≤ last_page s = page_order s byte in
    let same : first ≡ last = omega (arith, first_is, last_is, ordered, order) in
    one same
    ∙ ap (λ (b : Bool). if b then 0 else 1) at_first_is
    ∙ ap (λ (n : ℕ). if is_stored_by later n then 0 else 1) first_is
    ∙ one_page s later right byte (omega (arith, first_is, last_is, same))

pub counted_own : (s : SegmentImage) (later : List SegmentImage) (own first last : ℕ) (at_first at_last : Bool) → (s.rights ≡ 0 → ⊥) → (s.size ≡ 0 → ⊥) → first ≡ first_page s → last ≡ last_page s → at_first ≡ is_stored_by later first → at_last ≡ is_stored_by later last → (first ≡ last → own ≡ (if at_first then 0 else 1)) → (first < last → own ≡ (if at_first then 0 else 1) + (last - first - 1) + (if at_last then 0 else 1)) → list_all (λ t. not (shares_byte s t)) later ≡ true → own ≡ own_pages s later
counted_own s later own first last at_first at_last right byte first_is last_is at_first_is at_last_is one more apart =
    own_by s later own first last at_first at_last right byte first_is last_is at_first_is at_last_is one more apart (lt_or first last)

pub counts_own : (s : SegmentImage) (later : List SegmentImage) (own first last : ℕ) (at_first at_last : Bool) (old new : List Range) → (s.rights ≡ 0 → ⊥) → (s.size ≡ 0 → ⊥) → first ≡ first_page s → last ≡ last_page s → at_first ≡ is_mapped (cell_at old (4096 * first)) → at_last ≡ is_mapped (cell_at old (4096 * last)) → (first ≡ last → own ≡ (if at_first then 0 else 1)) → (first < last → own ≡ (if at_first then 0 else 1) + (last - first - 1) + (if at_last then 0 else 1)) → ((m : ℕ → Bool) → HasPages m no_rights zeros old → HasPages (with_pages s m) no_rights zeros new) → list_all (λ t. not (shares_byte s t)) later ≡ true → HasSeen later old → Counts s later own new
counts_own s later own first last at_first at_last old new right byte first_is last_is at_first_is at_last_is one more maps apart has = record {
  own = counted_own s later own first last at_first at_last right byte first_is last_is (at_first_is ∙ seen_is later old first has) (at_last_is ∙ seen_is later old last has) one more apart;
  seen = seen_more s later new right (maps (is_stored_by later) has);
}
