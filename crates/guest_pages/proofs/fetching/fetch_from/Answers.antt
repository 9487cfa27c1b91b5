use Rattle.std.proofs.Common.{◌≤◌, ◌+◌, ◌%◌, ℕ, Result, Ok, refl, sym, ap, ◌∙◌, arith}
use Rattle.guest_pages.specs.declared.fault.PageFault.{PageFault}
use Rattle.guest_pages.specs.Faults.{executable}
use Rattle.guest_pages.proofs.ByteFacts.{load_near}
use Rattle.guest_pages.proofs.fetching.fetch_from.Goals as goal

pub returns-in-Some : goal.returns-in-Some
returns-in-Some c =
    let room : c.args.at % 4096 + 2 ≤ 4096 = omega arith in
    let e = load_near executable c.args.tables.now c.args.at (2) c.in-Some.bytes.now c.requires refl c.in-Some.ensures.bytes c.in-Some.ensures.size room in
    ap (λ (n : ℕ). let r : Result ℕ PageFault = Ok n in r) c.half_at.ensures ∙ sym e
