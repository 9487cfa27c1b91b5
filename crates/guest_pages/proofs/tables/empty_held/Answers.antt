use Rattle.std.proofs.Common.{◌+◌, ◌/◌, List, slice_get, inl, inr, refl, sym, ap, ◌∙◌, arith}
use Rattle.std.proofs.lemmas.Bool.{cases_eq, cases_lt}
use Rattle.guest_pages.specs.declared.page.Table.{Table}
use Rattle.guest_pages.specs.Mapping.{room_of}
use Rattle.guest_pages.specs.Tables.{page_at}
use Rattle.guest_pages.proofs.MapFacts.{no_room_same, room_same}
use Rattle.guest_pages.proofs.tables.empty_held.Goals as goal

pub emptying-init : goal.emptying-init
emptying-init c = record {
  within = omega arith;
  inside = λ n low high. absurd (omega arith);
  others = λ n out. refl;
  marks = λ n. refl;
  rooms = λ k. refl;
  size = refl;
}

pub emptying-preserved-then-passed-gt0 : goal.emptying-preserved-then-passed-gt0
emptying-preserved-then-passed-gt0 c =
    let few = c.without_pages-passed.ensures.few in
    record {
      within = omega arith;
      inside = λ n low high room.
          elim (cases_lt n (c.args.first + c.emptying.done)) [
            | inl below ↦ c.emptying.invariant.inside n low below room
            | inr from ↦
                let none = ap (λ (tables : List Table). room_of (slice_get tables (n / 8192))) (sym c.as_slice.ensures.value) ∙ c.without_pages-passed.ensures.none n from (omega arith) in
                let same = c.emptying.invariant.rooms (n / 8192) in
                absurd (no_room_same c.args.tables.now.items n (omega arith) room)
          ];
      others = λ n out. c.emptying.invariant.others n (elim out [ inl below ↦ inl below | inr past ↦ inr (omega arith) ]);
      marks = c.emptying.invariant.marks;
      rooms = c.emptying.invariant.rooms;
      size = c.emptying.invariant.size;
    }

pub emptying-preserved : goal.emptying-preserved
emptying-preserved c = record {
  within = omega arith;
  inside = λ n low high room.
      elim (cases_eq n (c.args.first + c.emptying.done)) [
        | inl same ↦
            ap (page_at c.empty_page.new.tables.items) same
            ∙ c.empty_page.ensures.same (room_same c.args.tables.now.items c.emptying.tables.items (c.args.first + c.emptying.done) c.emptying.invariant.rooms (rw (← same) room))
        | inr other ↦ c.empty_page.ensures.others n other ∙ c.emptying.invariant.inside n low (omega arith) room
      ];
  others = λ n out.
      c.empty_page.ensures.others n (elim out [ inl below ↦ omega arith | inr past ↦ omega arith ])
      ∙ c.emptying.invariant.others n (elim out [ inl below ↦ inl below | inr past ↦ inr (omega arith) ]);
  marks = λ n. c.empty_page.ensures.marks n ∙ c.emptying.invariant.marks n;
  rooms = λ k. c.empty_page.ensures.rooms k ∙ c.emptying.invariant.rooms k;
  size = c.empty_page.ensures.size ∙ c.emptying.invariant.size;
}
