use Rattle.std.proofs.Common.{◌≡◌, ◌≤◌, ◌/◌, ◌%◌, List, ℕ, if◌then◌else◌, length, refl, sym, ap, subst, ◌∙◌, arith}
use Rattle.std.specs.Vec.{with_items}
use Rattle.std.proofs.lemmas.List.{with_items_is}
use Rattle.guest_pages.specs.Bits.{bit_of}
use Rattle.guest_pages.specs.Ranges.{within}
use Rattle.guest_pages.proofs.MapFacts.{mark_words, marks_put, marks_unset, page_with_room}
use Rattle.guest_pages.proofs.PageFacts.{room_through, words_through}
use Rattle.guest_pages.proofs.tables.mark_some.Goals as goal

pub mark_bits-requires-clause-room : goal.mark_bits-requires-clause-room
mark_bits-requires-clause-room c = λ on.
    subst (λ (l : List ℕ). 128 ≤ length l) (sym c.as_mut_slice.ensures.value)
    (mark_words c.args.tables.now.items c.args.number c.index_mut-table.result.now (omega arith) c.index_mut-table.ensures.value (c.requires.marks on))

pub returns-then-outer-len-clause-marks : goal.returns-then-outer-len-clause-marks
returns-then-outer-len-clause-marks c =
    marks_put c.args.tables.now.items c.args.number c.min-size.result c.args.on c.index_mut-table.result.now (record { pages = c.index_mut-table.result.now.pages; mapped = with_items c.index_mut-table.result.now.mapped c.mark_bits.new.words }) (omega arith) c.index_mut-table.ensures.value (omega arith)
    (subst (λ (l : List ℕ). (k : ℕ) → bit_of l k ≡ (if within (c.args.number % 8192) c.min-size.result k then c.args.on else bit_of c.index_mut-table.result.now.mapped.items k))
    (sym (with_items_is c.index_mut-table.result.now.mapped c.mark_bits.new.words (c.mark_bits.ensures.size ∙ c.as_mut_slice.ensures.len)))
    (subst (λ (l : List ℕ). (k : ℕ) → bit_of c.mark_bits.new.words k ≡ (if within (c.args.number % 8192) c.min-size.result k then c.args.on else bit_of l k)) c.as_mut_slice.ensures.value c.mark_bits.ensures.bits))

pub returns-then-outer-len-clause-pages : goal.returns-then-outer-len-clause-pages
returns-then-outer-len-clause-pages c = λ n room.
    page_with_room c.args.tables.now.items (c.args.number / 8192) n c.index_mut-table.result.now (record { pages = c.index_mut-table.result.now.pages; mapped = with_items c.index_mut-table.result.now.mapped c.mark_bits.new.words }) (omega arith) c.index_mut-table.ensures.value refl room

pub returns-then-outer-len-clause-rooms : goal.returns-then-outer-len-clause-rooms
returns-then-outer-len-clause-rooms c = λ k.
    room_through c.args.tables.now.items (c.args.number / 8192) k c.index_mut-table.result.now (record { pages = c.index_mut-table.result.now.pages; mapped = with_items c.index_mut-table.result.now.mapped c.mark_bits.new.words }) (omega arith) c.index_mut-table.ensures.value refl

pub returns-then-outer-len-clause-words : goal.returns-then-outer-len-clause-words
returns-then-outer-len-clause-words c = λ k.
    words_through c.args.tables.now.items (c.args.number / 8192) k c.index_mut-table.result.now (record { pages = c.index_mut-table.result.now.pages; mapped = with_items c.index_mut-table.result.now.mapped c.mark_bits.new.words }) (omega arith) c.index_mut-table.ensures.value
    (ap length (with_items_is c.index_mut-table.result.now.mapped c.mark_bits.new.words (c.mark_bits.ensures.size ∙ c.as_mut_slice.ensures.len))
    ∙ (c.mark_bits.ensures.size ∙ ap length c.as_mut_slice.ensures.value))

pub returns-else-outer-len-clause-marks : goal.returns-else-outer-len-clause-marks
returns-else-outer-len-clause-marks c =
    marks_unset c.args.tables.now.items c.args.number c.min-size.result c.args.on (omega arith) c.requires.marks
