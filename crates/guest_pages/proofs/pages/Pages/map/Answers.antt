use Rattle.std.proofs.Common.{◌≡◌, ◌+◌, ◌/◌, ℕ, Err, Result, not, if◌then◌else◌, sym, ap, subst, ◌∙◌, arith}
use Rattle.guest_pages.specs.declared.fault.MapFault.{MapFault}
use Rattle.guest_pages.specs.declared.fault.MapFault.TheVariants.{PagesFull}
use Rattle.guest_pages.specs.Cells.{has_none}
use Rattle.guest_pages.specs.Counting.{count_pages}
use Rattle.guest_pages.specs.Operations.{stored_pages}
use Rattle.guest_pages.specs.Tables.{rows_of, cells}
use Rattle.guest_pages.proofs.RangeFacts.{map_wanted, map_ok, zeros_marked}
use Rattle.guest_pages.proofs.WriteFacts.{same_held, sound_same}
use Rattle.guest_pages.proofs.pages.Pages.map.Goals as goal

pub returns-then-wanted-gt-MOST_PAGES-clause-full : goal.returns-then-wanted-gt-MOST_PAGES-clause-full
returns-then-wanted-gt-MOST_PAGES-clause-full c = λ n same.
    let sum = subst (λ t. c.wanted_pages-wanted.result + count_pages (cells t) (c.args.at / 4096) c.args.count ≡ c.self.inside.stored + (if not (has_none c.args.rights) then c.args.count else 0)) c.rows.ensures c.wanted_pages-wanted.ensures in
    let wanted = map_wanted (rows_of c.self.inside.tables) c.self.inside.stored c.args.at c.args.count c.args.rights c.wanted_pages-wanted.result c.args.self.now c.self.invariant c.self.view_is c.requires.aligned c.requires.inside sum in
    let equal : c.wanted_pages-wanted.result ≡ n = cc in
    (sym equal ∙ wanted, omega arith)

pub returns-then-wanted-gt-MOST_PAGES-clause-many : goal.returns-then-wanted-gt-MOST_PAGES-clause-many
returns-then-wanted-gt-MOST_PAGES-clause-many c = λ more.
    let sum = subst (λ t. c.wanted_pages-wanted.result + count_pages (cells t) (c.args.at / 4096) c.args.count ≡ c.self.inside.stored + (if not (has_none c.args.rights) then c.args.count else 0)) c.rows.ensures c.wanted_pages-wanted.ensures in
    let wanted = map_wanted (rows_of c.self.inside.tables) c.self.inside.stored c.args.at c.args.count c.args.rights c.wanted_pages-wanted.result c.args.self.now c.self.invariant c.self.view_is c.requires.aligned c.requires.inside sum in
    ap (λ (n : ℕ). let r : Result (Unit {0}) MapFault = Err (PagesFull n) in r) wanted

pub invariant_of-self : goal.invariant_of-self
invariant_of-self c =
    sound_same (rows_of c.self.inside.tables) (rows_of c.map_pages.new.tables) c.self.inside.stored c.self.invariant c.map_pages.ensures.small c.in-Err.ensures.still c.in-Err.ensures.err

pub invariant_of-self-in-Ok : goal.invariant_of-self-in-Ok
invariant_of-self-in-Ok c =
    let sum = subst (λ t. c.wanted_pages-wanted.result + count_pages (cells t) (c.args.at / 4096) c.args.count ≡ c.self.inside.stored + (if not (has_none c.args.rights) then c.args.count else 0)) c.rows.ensures c.wanted_pages-wanted.ensures in
    let wanted = map_wanted (rows_of c.self.inside.tables) c.self.inside.stored c.args.at c.args.count c.args.rights c.wanted_pages-wanted.result c.args.self.now c.self.invariant c.self.view_is c.requires.aligned c.requires.inside sum in
    let ok = map_ok (rows_of c.self.inside.tables) (rows_of c.map_pages.new.tables) c.self.inside.stored c.args.at c.args.count c.args.rights c.args.self.now c.self.invariant c.self.view_is c.requires.aligned c.in-Ok.ensures.ok in
    record {
      small = c.map_pages.ensures.small c.self.invariant.small;
      marked = zeros_marked (rows_of c.self.inside.tables) (rows_of c.map_pages.new.tables) (c.args.at / 4096) c.args.count c.args.rights c.self.invariant.marked c.in-Ok.ensures.marks c.in-Ok.ensures.ok;
      counted = wanted ∙ sym (ap stored_pages ok);
    }

pub returns-in-Err-clause-err : goal.returns-in-Err-clause-err
returns-in-Err-clause-err c =
    same_held (rows_of c.self.inside.tables) (rows_of c.map_pages.new.tables) c.in-Err.ensures.err ∙ c.self.view_is

pub returns-in-Err-clause-many : goal.returns-in-Err-clause-many
returns-in-Err-clause-many c = λ more.
    let sum = subst (λ t. c.wanted_pages-wanted.result + count_pages (cells t) (c.args.at / 4096) c.args.count ≡ c.self.inside.stored + (if not (has_none c.args.rights) then c.args.count else 0)) c.rows.ensures c.wanted_pages-wanted.ensures in
    let wanted = map_wanted (rows_of c.self.inside.tables) c.self.inside.stored c.args.at c.args.count c.args.rights c.wanted_pages-wanted.result c.args.self.now c.self.invariant c.self.view_is c.requires.aligned c.requires.inside sum in
    absurd (omega arith)

pub returns-in-Ok-clause-ok : goal.returns-in-Ok-clause-ok
returns-in-Ok-clause-ok c =
    map_ok (rows_of c.self.inside.tables) (rows_of c.map_pages.new.tables) c.self.inside.stored c.args.at c.args.count c.args.rights c.args.self.now c.self.invariant c.self.view_is c.requires.aligned c.in-Ok.ensures.ok

pub returns-in-Ok-clause-many : goal.returns-in-Ok-clause-many
returns-in-Ok-clause-many c = λ more.
    let sum = subst (λ t. c.wanted_pages-wanted.result + count_pages (cells t) (c.args.at / 4096) c.args.count ≡ c.self.inside.stored + (if not (has_none c.args.rights) then c.args.count else 0)) c.rows.ensures c.wanted_pages-wanted.ensures in
    let wanted = map_wanted (rows_of c.self.inside.tables) c.self.inside.stored c.args.at c.args.count c.args.rights c.wanted_pages-wanted.result c.args.self.now c.self.invariant c.self.view_is c.requires.aligned c.requires.inside sum in
    absurd (omega arith)
