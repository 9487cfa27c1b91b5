use Rattle.std.proofs.Common.{ℕ, ◌+◌, ◌-◌, ◌≡◌, arith, subst}
use Rattle.guest_pages.proofs.RightsFacts.{within_high, within_low}
use Rattle.segment_load.specs.Steps.{HasPages, with_more, zeros}
use Rattle.segment_load.proofs.FullFacts.{full_first, full_last, full_middle, on_err}
use Rattle.segment_load.proofs.GrantFacts.{has_whole, none_still}
use Rattle.segment_load.proofs.PagedFacts.{on_ok}
use Rattle.segment_load.proofs.granting.grant_pages.Goals as goal

pub returns-then-first-last-clause-made : goal.returns-then-first-last-clause-made
returns-then-first-last-clause-made c = λ m had none has.
    let one : 1 ≡ c.args.last - c.args.first + 1 = omega (arith, c.if-first-last.true) in
    subst (λ (n : ℕ). HasPages m (with_more c.args.first n c.args.rights had) zeros c.grant_shared.new.memory) one (c.in-Ok.ensures.made m had has)

pub returns-clause-made : goal.returns-clause-made
returns-clause-made c =
    let first = c.args.first in
    let last = c.args.last in
    let rights = c.args.rights in
    on_ok c.grant_shared-2.result _ _
    (λ grants m had none has.
    has_whole first last rights m had c.grant_shared-2.new.memory (omega arith)
    (grants m (with_more (first + 1) (last - first - 1) rights (with_more first 1 rights had))
    (c.in-Ok-grant_alone.ensures.made m (with_more first 1 rights had) (λ page here. none_still first last rights had page none here) (c.in-Ok.ensures.made m had has))))
    c.grant_shared-2.ensures.made

pub returns-in-Err-clause-refused : goal.returns-in-Err-clause-refused
returns-in-Err-clause-refused c = λ m had none has there.
    full_first c.in-Err.fault c.args.first c.args.last c.args.rights m had c.requires.order
    (c.in-Err.ensures.refused m had has (there c.args.first (omega arith) c.requires.order))

pub returns-in-Err-grant_alone-clause-refused : goal.returns-in-Err-grant_alone-clause-refused
returns-in-Err-grant_alone-clause-refused c = λ m had none has there.
    let first = c.args.first in
    let last = c.args.last in
    let rights = c.args.rights in
    full_middle c.in-Err-grant_alone.fault first last rights m had (omega arith)
    (c.in-Err-grant_alone.ensures.refused m (with_more first 1 rights had) (λ page here. none_still first last rights had page none here)
    (c.in-Ok.ensures.made m had has)
    (λ page here. there page (omega (arith, within_low (first + 1) (last - first - 1) page here)) (omega (arith, within_low (first + 1) (last - first - 1) page here, within_high (first + 1) (last - first - 1) page here))))

pub returns-clause-refused : goal.returns-clause-refused
returns-clause-refused c =
    let first = c.args.first in
    let last = c.args.last in
    let rights = c.args.rights in
    on_err c.grant_shared-2.result _ _
    (λ fault tells m had none has there.
    full_last fault first last rights m had (omega arith)
    (tells m (with_more (first + 1) (last - first - 1) rights (with_more first 1 rights had))
    (c.in-Ok-grant_alone.ensures.made m (with_more first 1 rights had) (λ page here. none_still first last rights had page none here) (c.in-Ok.ensures.made m had has))
    (there last (omega arith) (omega arith))))
    c.grant_shared-2.ensures.refused
