use Rattle.std.proofs.Common.{◌≡◌, ◌+◌, ◌*◌, ◌-◌, ◌/◌, ◌≤◌, ◌<◌, ℕ, Bool, List, slice_get, true, false, refl, sym, ap, ◌∙◌, arith}
use Rattle.guest_pages.specs.declared.page.Table.{Table}
use Rattle.guest_pages.specs.Cells.{has_none}
use Rattle.guest_pages.specs.Mapping.{room_of}
use Rattle.guest_pages.proofs.BitFacts.{unless_false}
use Rattle.guest_pages.specs.Counting.{one_if, count_pages}
use Rattle.guest_pages.specs.Tables.{cells, page_at, right_in}
use Rattle.guest_pages.proofs.MapFacts.{no_room_same, one_if_false, room_same}
use Rattle.guest_pages.proofs.RangeFacts.{rights_more, rights_none, rights_passed, right_still, count_first}
use Rattle.guest_pages.proofs.Counting.{count_at_most}
use Rattle.guest_pages.proofs.placing.change_rows.Goals as goal

pub change_page-requires-clause-room : goal.change_page-requires-clause-room
change_page-requires-clause-room c = λ some. c.changing.invariant.room some (c.args.first + c.changing.done) (omega arith) (omega arith)

pub change_page-requires-clause-zero : goal.change_page-requires-clause-zero
change_page-requires-clause-zero c = c.changing.invariant.zero

pub change_page-requires-clause-enough : goal.change_page-requires-clause-enough
change_page-requires-clause-enough c = λ some bare.
    let enough = c.changing.invariant.enough some in
    let next = count_first (cells c.args.tables.now.items) (c.args.first + c.changing.done) (c.args.count - c.changing.done) (omega arith) in
    let still = ap one_if (right_still (cells c.args.tables.now.items) c.args.rights c.changing.tables.items c.args.first c.changing.done c.changing.invariant.changed) in
    let none = one_if_false (right_in (page_at c.changing.tables.items (c.args.first + c.changing.done))) bare in
    let most = count_at_most (cells c.args.tables.now.items) (c.args.first + c.changing.done + 1) (c.args.count - c.changing.done - 1) in
    omega arith

pub changing-init : goal.changing-init
changing-init c = record {
  within = omega arith;
  changed = λ a. sym (rights_none (4096 * c.args.first) c.args.rights (cells c.args.tables.now.items) a);
  marks = λ n. refl;
  size = refl;
  room = c.requires.room;
  zero = c.requires.zero;
  enough = λ some.
      let e = c.requires.enough some in
      let p : c.args.first + 0 ≡ c.args.first = omega arith in
      let q : c.args.count - 0 ≡ c.args.count = omega arith in
      let same = ap (λ (n : ℕ). count_pages (cells c.args.tables.now.items) n (c.args.count - 0)) p ∙ ap (count_pages (cells c.args.tables.now.items) c.args.first) q in
      omega arith;
}

pub changing-preserved : goal.changing-preserved
changing-preserved c = record {
  within = omega arith;
  changed = rights_more (cells c.args.tables.now.items) c.args.rights c.changing.tables.items c.change_page.new.tables.items c.args.first c.changing.done (page_at c.change_page.new.tables.items (c.args.first + c.changing.done))
      c.changing.invariant.changed refl c.change_page.ensures.others c.change_page.ensures.same;
  marks = λ n. c.change_page.ensures.marks n ∙ c.changing.invariant.marks n;
  size = c.change_page.ensures.size ∙ c.changing.invariant.size;
  room = λ some n low high. room_same c.changing.tables.items c.change_page.new.tables.items n c.change_page.ensures.rooms (c.changing.invariant.room some n low high);
  zero = c.change_page.ensures.zero;
  enough = λ some.
      let enough = c.changing.invariant.enough some in
      let next = count_first (cells c.args.tables.now.items) (c.args.first + c.changing.done) (c.args.count - c.changing.done) (omega arith) in
      let still = ap one_if (right_still (cells c.args.tables.now.items) c.args.rights c.changing.tables.items c.args.first c.changing.done c.changing.invariant.changed) in
      let left = c.change_page.ensures.left in
      let p : c.args.first + c.changing.done + 1 ≡ c.args.first + (c.changing.done + 1) = omega arith in
      let q : c.args.count - c.changing.done - 1 ≡ c.args.count - (c.changing.done + 1) = omega arith in
      let same = ap (λ (n : ℕ). count_pages (cells c.args.tables.now.items) n (c.args.count - c.changing.done - 1)) p ∙ ap (count_pages (cells c.args.tables.now.items) (c.args.first + (c.changing.done + 1))) q in
      omega arith;
}

pub changing-preserved-then-passed-gt0 : goal.changing-preserved-then-passed-gt0
changing-preserved-then-passed-gt0 c =
    let few = c.without_pages-passed.ensures.few in
    let rooms : (n : ℕ) → c.args.first + c.changing.done ≤ n → n < c.args.first + c.changing.done + c.without_pages-passed.result → room_of (slice_get c.changing.tables.items (n / 8192)) ≡ 0 =
    λ n low high. ap (λ (tables : List Table). room_of (slice_get tables (n / 8192))) (sym c.as_slice.ensures.value) ∙ c.without_pages-passed.ensures.none n low high in
    let here = rooms (c.args.first + c.changing.done) (omega arith) (omega arith) in
    let bare : has_none c.args.rights ≡ true =
    unless_false (has_none c.args.rights)
    (λ some. no_room_same c.changing.tables.items (c.args.first + c.changing.done) (omega (arith, here)) (c.changing.invariant.room some (c.args.first + c.changing.done) (omega arith) (omega arith))) in
    record {
      within = omega arith;
      changed = rights_passed (cells c.args.tables.now.items) c.args.rights c.changing.tables.items c.args.first c.changing.done c.without_pages-passed.result bare c.changing.invariant.changed rooms;
      marks = c.changing.invariant.marks;
      size = c.changing.invariant.size;
      room = c.changing.invariant.room;
      zero = c.changing.invariant.zero;
      enough = λ some. absurd (both bare some);
    }
  where
    both : {b : Bool} → b ≡ true → b ≡ false → ⊥
    both is none = cc
