use Rattle.std.proofs.Common.{rules, not}
use Rattle.std.proofs.lemmas.Fn.{filter_same}
use Rattle.futex_table.specs.declared.waiter.Waiter.{Waiter}
use Rattle.futex_table.specs.Waiters.{is_of}
use Rattle.futex_table.proofs.taking.take_thread.Goals as goal

pub returns-clause-others : goal.returns-clause-others
returns-clause-others c = filter_same _ (λ (w : Waiter). not (is_of c.args.thread w)) _ (λ x b f h. search rules) _ _ c.retain.ensures.filtered
