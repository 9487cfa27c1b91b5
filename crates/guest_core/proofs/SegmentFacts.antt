-- No page of a file's segments can be both written and executed.
use Rattle.std.proofs.Common.{◌≡◌, ℕ, ◌/◌, Bool, true, false, not, ◌&&◌, ◌||◌, if◌then◌else◌, List, [], ◌∷◌, map, Some, None, refl, arith}
use Rattle.std.specs.List.{list_all}
use Rattle.std.proofs.lemmas.Bool.Decides.{nat_tests}
use Rattle.std.proofs.lemmas.Grind.{common_steps}
use Rattle.elf_file.specs.declared.loaded.Segment.{Segment}
use Rattle.elf_file.specs.Segments.{SegmentImage, all_pairs, clashes, is_executable, is_writable, rights_clash, shares_page}
use Rattle.elf_file.specs.Views.{segment_image}
use Rattle.guest_pages.specs.Cells.{cell}
use Rattle.guest_pages.proofs.RightsFacts.{both_left, both_right}
use Rattle.guest_pages.proofs.TableFacts.{cell_kept}
use Rattle.guest_pages.proofs.CellFacts.{choice_kept}
use Rattle.segment_load.specs.Loading.{byte_at, cell_of, either, is_touched, loaded, page_rights, rights_by, touches}
use Rattle.guest_pages.specs.Apart.{IsApart}
use Rattle.guest_pages.proofs.ApartFacts.{apart_of, choice_apart}

-- a segment can't be both written and executed
abbrev pub one_way : SegmentImage → Bool
one_way s = not (is_writable s.rights && is_executable s.rights)

pub all_one_way : (segments : List Segment) → list_all one_way (map segment_image segments) ≡ true
all_one_way [] = refl
all_one_way (s ∷ segments) = rw (s.one_way, all_one_way segments) refl

-- two segments with a byte in one page
touched_shares : (s t : SegmentImage) (page : ℕ) → touches s page ≡ true → touches t page ≡ true → shares_page s t ≡ true
unfolding touches
touched_shares s t page first second = grind (arith, nat_tests)

no_clash_by : (shares : Bool) (s t : SegmentImage) → shares ≡ true → not (shares && rights_clash s.rights t.rights) ≡ true → rights_clash s.rights t.rights ≡ false
no_clash_by true s t is apart = grind (arith, common_steps)
no_clash_by false s t is apart = cc

no_clash : (s t : SegmentImage) (page : ℕ) → touches s page ≡ true → touches t page ≡ true → not (clashes s t) ≡ true → rights_clash s.rights t.rights ≡ false
unfolding clashes
no_clash s t page first second apart = no_clash_by (shares_page s t) s t (touched_shares s t page first second) apart

-- where one is executed, the other isn't written
not_written : (w x v y : Bool) → ((w && y) || (x && v)) ≡ false → x ≡ true → v ≡ false
not_written w true true y none is = grind (arith, common_steps)
not_written w x false y none is = refl
not_written w false true y none is = cc

not_executed : (w x v y : Bool) → ((w && y) || (x && v)) ≡ false → w ≡ true → y ≡ false
not_executed true x v true none is = cc
not_executed w x v false none is = refl
not_executed false x v true none is = cc

-- a page that a segment is executed in is written by none of those behind it
write_by : (touched : Bool) (s t : SegmentImage) (segments : List SegmentImage) (page : ℕ) → touches t page ≡ touched → touches s page ≡ true → is_executable s.rights ≡ true → not (clashes s t) ≡ true → (page_rights segments page).write ≡ false → (if touched then either (rights_by t.rights) (page_rights segments page) else page_rights segments page).write ≡ false
unfolding either rights_by
write_by true s t segments page is first runs apart rest =
    rw (not_written (is_writable s.rights) (is_executable s.rights) (is_writable t.rights) (is_executable t.rights) (no_clash s t page first is apart) runs, rest) refl
write_by false s t segments page is first runs apart rest = rest

write_beside : (s : SegmentImage) (segments : List SegmentImage) (page : ℕ) → touches s page ≡ true → is_executable s.rights ≡ true → list_all (λ t. not (clashes s t)) segments ≡ true → (page_rights segments page).write ≡ false
unfolding page_rights
write_beside s [] page first runs apart = refl
write_beside s (t ∷ segments) page first runs apart =
    write_by (touches t page) s t segments page refl first runs (both_left _ _ apart) (write_beside s segments page first runs (both_right _ _ apart))

execute_by : (touched : Bool) (s t : SegmentImage) (segments : List SegmentImage) (page : ℕ) → touches t page ≡ touched → touches s page ≡ true → is_writable s.rights ≡ true → not (clashes s t) ≡ true → (page_rights segments page).execute ≡ false → (if touched then either (rights_by t.rights) (page_rights segments page) else page_rights segments page).execute ≡ false
unfolding either rights_by
execute_by true s t segments page is first writes apart rest =
    rw (not_executed (is_writable s.rights) (is_executable s.rights) (is_writable t.rights) (is_executable t.rights) (no_clash s t page first is apart) writes, rest) refl
execute_by false s t segments page is first writes apart rest = rest

execute_beside : (s : SegmentImage) (segments : List SegmentImage) (page : ℕ) → touches s page ≡ true → is_writable s.rights ≡ true → list_all (λ t. not (clashes s t)) segments ≡ true → (page_rights segments page).execute ≡ false
unfolding page_rights
execute_beside s [] page first writes apart = refl
execute_beside s (t ∷ segments) page first writes apart =
    execute_by (touches t page) s t segments page refl first writes (both_left _ _ apart) (execute_beside s segments page first writes (both_right _ _ apart))

either_apart : (w x v y : Bool) → not (w && x) ≡ true → not (v && y) ≡ true → (x ≡ true → v ≡ false) → (w ≡ true → y ≡ false) → not ((w || v) && (x || y)) ≡ true
either_apart true true v y one other write execute = cc
either_apart true false v y one other write execute = rw (execute refl) refl
either_apart false true v y one other write execute = rw (write refl) refl
either_apart false false v y one other write execute = other

page_by : (touched : Bool) (s : SegmentImage) (segments : List SegmentImage) (page : ℕ) → touches s page ≡ touched → one_way s ≡ true → list_all (λ t. not (clashes s t)) segments ≡ true → not ((page_rights segments page).write && (page_rights segments page).execute) ≡ true → (let rights = if touched then either (rights_by s.rights) (page_rights segments page) else page_rights segments page in not (rights.write && rights.execute)) ≡ true
unfolding either rights_by
page_by true s segments page is way apart rest =
    either_apart (is_writable s.rights) (is_executable s.rights) (page_rights segments page).write (page_rights segments page).execute way rest
    (λ runs. write_beside s segments page is runs apart)
    (λ writes. execute_beside s segments page is writes apart)
page_by false s segments page is way apart rest = rest

page_apart : (segments : List SegmentImage) (page : ℕ) → all_pairs (λ s t. not (clashes s t)) segments ≡ true → list_all one_way segments ≡ true → not ((page_rights segments page).write && (page_rights segments page).execute) ≡ true
unfolding page_rights all_pairs
page_apart [] page clear ways = refl
page_apart (s ∷ segments) page clear ways =
    page_by (touches s page) s segments page refl (both_left _ _ ways) (both_left _ _ clear)
    (page_apart segments page (both_right _ _ clear) (both_right _ _ ways))

pub apart_loaded : (segments : List SegmentImage) → all_pairs (λ s t. not (clashes s t)) segments ≡ true → list_all one_way segments ≡ true → IsApart (loaded segments)
unfolding loaded cell_of
apart_loaded segments clear ways =
    apart_of (cell_of segments)
    (λ a. choice_kept (is_touched segments (a / 4096)) (Some (cell (page_rights segments (a / 4096)) (byte_at segments a))) None (cell_kept (page_rights segments (a / 4096)) (byte_at segments a)) tt)
    (λ a. choice_apart (is_touched segments (a / 4096)) (Some (cell (page_rights segments (a / 4096)) (byte_at segments a))) None (page_apart segments (a / 4096) clear ways) refl)
