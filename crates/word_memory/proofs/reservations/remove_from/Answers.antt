use Rattle.std.proofs.Common.{rules, ◌==◌, not}
use Rattle.std.proofs.lemmas.Fn.{filter_same}
use Rattle.word_memory.specs.declared.reservations.Held.{Held}
use Rattle.word_memory.proofs.reservations.remove_from.Goals as goal

pub returns : goal.returns
returns c = filter_same _ (λ (h : Held). not (h.thread == c.args.thread)) _ (λ x b f h. search rules) _ _ c.retain.ensures.filtered
