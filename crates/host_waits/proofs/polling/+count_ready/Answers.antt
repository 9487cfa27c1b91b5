use Rattle.std.proofs.Common.{length, sym, ◌∙◌, true, false}
use Rattle.std.proofs.lemmas.Bool.{eqb-false}
use Rattle.host_waits.proofs.PollFacts.{count_step}
use Rattle.host_waits.proofs.polling.+count_ready.Goals as goal

pub returns-then-has_bits-clause-count : goal.returns-then-has_bits-clause-count
returns-then-has_bits-clause-count t c =
    count_step c.args.files.now c.args.entries.now true c.count_ready-rest.result (eqb-false (length c.args.entries.now) 0 (sym c.is_empty.ensures ∙ c.if-is_empty.false)) (sym c.has_bits.ensures ∙ c.if-has_bits.true) c.count_ready-rest.ensures.count

pub returns-clause-count : goal.returns-clause-count
returns-clause-count t c =
    count_step c.args.files.now c.args.entries.now false c.count_ready-rest.result (eqb-false (length c.args.entries.now) 0 (sym c.is_empty.ensures ∙ c.if-is_empty.false)) (sym c.has_bits.ensures ∙ c.if-has_bits.false) c.count_ready-rest.ensures.count
