use Rattle.std.proofs.Common.{◌≡◌, ◌≤◌, ◌+◌, ◌/◌, ◌%◌, ◌<◌, Bool, true, false, List, ℕ, Option, Some, None, is_some, take, length, refl, ap, ◌∙◌, arith}
use Rattle.byteorder.specs.Endian.{little_bytes}
use Rattle.guest_pages.specs.declared.width.Width.{Width}
use Rattle.guest_pages.specs.declared.width.Width.TheVariants.{One, Two, Four, Eight}
use Rattle.guest_pages.specs.Faults.{first_fault, writable}
use Rattle.guest_pages.specs.Operations.{written}
use Rattle.guest_pages.specs.Sizes.{size_of}
use Rattle.guest_pages.specs.Tables.{rows_of, held, held_in, page_at}
use Rattle.guest_pages.proofs.ByteFacts.{good_held, good_page}
use Rattle.guest_pages.proofs.WriteFacts.{written_held, sound_written, sound_same, same_held, low_bytes_of, low_length}
use Rattle.guest_pages.proofs.pages.Pages.store_near.Goals as goal

either : (b : Bool) (P : Type 0) → (b ≡ true → P) → (b ≡ false → P) → P
either true P done undone = done refl
either false P done undone = undone refl

some_by : (o : Option (List ℕ)) → (o ≡ None → ⊥) → is_some o ≡ true
some_by (Some bytes) apart = refl
some_by None apart = absurd (apart refl)

some_bytes : (width : Width) → 0 < size_of width
some_bytes One = omega arith
some_bytes Two = omega arith
some_bytes Four = omega arith
some_bytes Eight = omega arith

part : (c : goal.After-write_near) → take c.size.result c.to_le_bytes-bytes.result ≡ little_bytes (size_of c.args.width) c.args.value
part c =
    ap (λ (n : ℕ). take n c.to_le_bytes-bytes.result) c.size.ensures ∙ (ap (take (size_of c.args.width)) c.to_le_bytes-bytes.ensures ∙ low_bytes_of c.args.width c.args.value)

pub invariant_of-self : goal.invariant_of-self
invariant_of-self c =
    either c.write_near.result _
    (λ yes. sound_written (rows_of c.self.inside.tables) (rows_of c.write_near.new.tables) c.self.inside.stored c.args.at _ c.self.invariant c.write_near.ensures.size c.write_near.ensures.marks (c.write_near.ensures.done yes))
    (λ no. sound_same (rows_of c.self.inside.tables) (rows_of c.write_near.new.tables) c.self.inside.stored c.self.invariant (λ small. let size = c.write_near.ensures.size in omega arith) c.write_near.ensures.marks (c.write_near.ensures.undone no))

pub returns-clause-stored : goal.returns-clause-stored
returns-clause-stored c = λ yes.
    written_held (rows_of c.self.inside.tables) (rows_of c.write_near.new.tables) c.args.at _ c.self.invariant.small (c.write_near.ensures.done yes)
    ∙ (ap (λ (l : List ℕ). written c.args.at l (held (rows_of c.self.inside.tables))) (part c)
    ∙ ap (written c.args.at (little_bytes (size_of c.args.width) c.args.value)) c.self.view_is)

pub returns-clause-stays : goal.returns-clause-stays
returns-clause-stays c = λ no.
    same_held (rows_of c.self.inside.tables) (rows_of c.write_near.new.tables) (c.write_near.ensures.undone no) ∙ c.self.view_is

pub returns-clause-near : goal.returns-clause-near
returns-clause-near c = λ within allowed.
    let tables = rows_of c.self.inside.tables in
    let size : length (take c.size.result c.to_le_bytes-bytes.result) ≡ size_of c.args.width = ap length (part c) ∙ low_length c.args.width c.args.value in
    let inside : c.args.at % 4096 + length (take c.size.result c.to_le_bytes-bytes.result) ≤ 4096 = rw size within in
    let here : first_fault writable (held tables) c.args.at (size_of c.args.width) ≡ None = rw c.self.view_is allowed in
    let good = good_page writable tables c.args.at (size_of c.args.width) c.self.invariant.small (some_bytes c.args.width) here in
    c.write_near.ensures.near inside ∙ some_by (held_in writable (page_at tables (c.args.at / 4096))) (λ none. good_held writable (page_at tables (c.args.at / 4096)) c.args.at refl good none)
