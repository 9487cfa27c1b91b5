use Rattle.std.proofs.Common.{◌≤◌, ◌<◌, ◌+◌, ◌/◌, ◌%◌, ℕ, Result, Ok, refl, sym, ap, ◌∙◌, arith}
use Rattle.guest_pages.specs.declared.fault.PageFault.{PageFault}
use Rattle.guest_pages.specs.declared.width.Width.{Width}
use Rattle.guest_pages.specs.declared.width.Width.TheVariants.{One, Two, Four, Eight}
use Rattle.guest_pages.specs.Faults.{readable}
use Rattle.guest_pages.specs.Sizes.{size_of}
use Rattle.guest_pages.specs.Tables.{rows_of, held_in, page_at}
use Rattle.guest_pages.proofs.ByteFacts.{good_held, good_page, load_near}
use Rattle.guest_pages.proofs.pages.Pages.load_near.Goals as goal

pub returns-in-Some-clause-value : goal.returns-in-Some-clause-value
returns-in-Some-clause-value c =
    let found = ap (λ t. held_in readable (page_at t (c.args.at / 4096))) (sym c.rows.ensures) ∙ c.in-Some.ensures.bytes in
    let room : c.args.at % 4096 + size_of c.args.width ≤ 4096 = omega arith in
    let e = load_near readable (rows_of c.self.inside.tables) c.args.at (size_of c.args.width) c.in-Some.bytes.now c.self.invariant.small refl found c.in-Some.ensures.size room in
    rw (← c.self.view_is) (e ∙ ap (λ (n : ℕ). let r : Result ℕ PageFault = Ok n in r) (sym c.number_at.ensures))

some : (width : Width) → 0 < size_of width
some One = omega arith
some Two = omega arith
some Four = omega arith
some Eight = omega arith

pub returns-in-None-clause-none : goal.returns-in-None-clause-none
returns-in-None-clause-none c = λ within allowed.
    let tables = rows_of c.self.inside.tables in
    let none = ap (λ t. held_in readable (page_at t (c.args.at / 4096))) (sym c.rows.ensures) ∙ c.in-None.ensures.bytes in
    let here = rw (← c.self.view_is) at allowed in
    let good = good_page readable tables c.args.at (size_of c.args.width) c.self.invariant.small (some c.args.width) here in
    absurd (good_held readable (page_at tables (c.args.at / 4096)) c.args.at refl good none)
