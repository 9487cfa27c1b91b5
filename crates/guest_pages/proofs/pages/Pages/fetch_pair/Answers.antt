use Rattle.std.proofs.Common.{◌≤◌, ◌+◌, ◌/◌, ◌%◌, ◌≡◌, ℕ, Result, Ok, take, drop, refl, sym, ap, ◌∙◌, arith}
use Rattle.guest_pages.specs.declared.fault.PageFault.{PageFault}
use Rattle.byteorder.specs.Endian.{little_number}
use Rattle.guest_pages.specs.Faults.{executable}
use Rattle.guest_pages.specs.Tables.{rows_of, held_in, page_at}
use Rattle.guest_pages.proofs.ByteFacts.{good_held, good_page, load_near}
use Rattle.guest_pages.proofs.pages.Pages.fetch_pair.Goals as goal

pub returns-in-Some-clause-first : goal.returns-in-Some-clause-first
returns-in-Some-clause-first c =
    let tables = rows_of c.self.inside.tables in
    let found = ap (λ t. held_in executable (page_at t (c.args.at / 4096))) (sym c.rows.ensures) ∙ c.in-Some.ensures.bytes in
    let room : c.args.at % 4096 + 2 ≤ 4096 = omega arith in
    let e = load_near executable tables c.args.at 2 c.in-Some.bytes.now c.self.invariant.small refl found c.in-Some.ensures.size room in
    rw (← c.self.view_is) (e ∙ ap (λ (n : ℕ). let r : Result ℕ PageFault = Ok n in r) (sym c.half_at.ensures))

pub returns-in-Some-clause-second : goal.returns-in-Some-clause-second
returns-in-Some-clause-second c =
    let tables = rows_of c.self.inside.tables in
    let found = ap (λ t. held_in executable (page_at t (c.args.at / 4096))) (sym c.rows.ensures) ∙ c.in-Some.ensures.bytes in
    let page : (c.args.at + 2) / 4096 ≡ c.args.at / 4096 = omega arith in
    let place : (c.args.at + 2) % 4096 ≡ c.args.at % 4096 + 2 = omega arith in
    let room : (c.args.at + 2) % 4096 + 2 ≤ 4096 = omega arith in
    let e = load_near executable tables (c.args.at + 2) 2 c.in-Some.bytes.now c.self.invariant.small refl (ap (λ (n : ℕ). held_in executable (page_at tables n)) page ∙ found) c.in-Some.ensures.size room in
    let number = ap (λ (k : ℕ). let r : Result ℕ PageFault = Ok (little_number 2 (take 2 (drop k c.in-Some.bytes.now))) in r) place in
    rw (← c.self.view_is) (e ∙ number ∙ ap (λ (n : ℕ). let r : Result ℕ PageFault = Ok n in r) (sym c.half_at-in-Some.ensures))

pub returns-in-None-clause-none : goal.returns-in-None-clause-none
returns-in-None-clause-none c = λ within allowed.
    let tables = rows_of c.self.inside.tables in
    let none = ap (λ t. held_in executable (page_at t (c.args.at / 4096))) (sym c.rows.ensures) ∙ c.in-None.ensures.bytes in
    let here = rw (← c.self.view_is) at allowed in
    let good = good_page executable tables c.args.at 4 c.self.invariant.small (omega arith) here in
    absurd (good_held executable (page_at tables (c.args.at / 4096)) c.args.at refl good none)
