-- The pages of a segment are mapped without rights.
use Rattle.std.proofs.Common.{◌≡◌, ℕ, ◌+◌, ◌-◌, ◌*◌, ◌≤◌, ◌^◌, Bool, false, ◌||◌, List, Result, Ok, Err, OnOk, is_err, ap, sym, subst, ◌∙◌}
use Rattle.elf_file.specs.Segments.{SegmentImage, first_page, last_page}
use Rattle.guest_pages.specs.Operations.{placed}
use Rattle.guest_pages.specs.Ranges.{Range, within}
use Rattle.segment_load.specs.Loading.{no_right}
use Rattle.segment_load.specs.Steps.{HasPages, no_rights, with_pages, zeros}
use Rattle.segment_load.specs.Wanted.{page_count}
use Rattle.segment_load.proofs.CellFacts.{page_count_is, touches_within, untouched_empty}
use Rattle.segment_load.proofs.PagedFacts.{has_bare, has_same_pages}

pub has_none_mapped : (s : SegmentImage) (m : ℕ → Bool) (memory : List Range) → s.size ≡ 0 → HasPages m no_rights zeros memory → HasPages (with_pages s m) no_rights zeros memory
has_none_mapped s m memory empty has =
    has_same_pages m (with_pages s m) no_rights zeros memory has (λ page. ap (λ (t : Bool). t || m page) (sym (untouched_empty s page empty)))

pub has_mapped : (s : SegmentImage) (m : ℕ → Bool) (old new : List Range) (first count : ℕ) → (s.size ≡ 0 → ⊥) → first ≡ first_page s → count ≡ last_page s - first_page s + 1 → first + count ≤ 2 ^ 26 → new ≡ placed (4096 * first) (4096 * count) no_right old → HasPages m no_rights zeros old → HasPages (with_pages s m) no_rights zeros new
has_mapped s m old new first count some first_is count_is inside is has =
    let count_told : count ≡ page_count s = count_is ∙ sym (page_count_is s some) in
    has_same_pages (λ page. within first count page || m page) (with_pages s m) no_rights zeros new
    (subst (λ (memory : List Range). HasPages (λ page. within first count page || m page) no_rights zeros memory) (sym is) (has_bare first count m old inside has))
    (λ page.
    ap (λ (t : Bool). t || m page)
    (ap (λ (n : ℕ). within n count page) first_is ∙ ap (λ (n : ℕ). within (first_page s) n page) count_told ∙ sym (touches_within s page)))

pub ok_is : {T E : Type 0} (result : Result T E) (test : Bool) (P : Type 0) → test ≡ is_err result → test ≡ false → OnOk result P → P
ok_is (Ok value) test P is passed ok = ok
ok_is (Err error) test P is passed ok = cc
