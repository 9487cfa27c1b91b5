use Rattle.std.proofs.Common.{ℕ, length, sym, ap, ◌∙◌}
use Rattle.std.proofs.lemmas.Bool.{eqb-false, eqb-true}
use Rattle.host_calls.proofs.VectorFacts.{ok_map}
use Rattle.host_waits.proofs.PartFacts.{pushed_none, pushed_on}
use Rattle.byteorder.specs.Endian.{little_bytes}
use Rattle.host_waits.proofs.PollFacts.{bytes_none, bytes_step}
use Rattle.host_waits.proofs.polling.+push_bits.Goals as goal

pub returns-then-is_empty : goal.returns-then-is_empty
returns-then-is_empty t c = pushed_none _ _ (bytes_none c.args.files.now c.args.entries.now (eqb-true (length c.args.entries.now) 0 (sym c.is_empty.ensures ∙ c.if-is_empty.true)))

pub returns-in-Ok : goal.returns-in-Ok
returns-in-Ok t c = ok_map c.push_bits.result _ _ (λ rest.
    pushed_on _ _ _ _ _ _ c.in-Ok.ensures.items rest (bytes_step c.args.files.now c.args.entries.now c.to_le_bytes.result (eqb-false (length c.args.entries.now) 0 (sym c.is_empty.ensures ∙ c.if-is_empty.false)) (c.to_le_bytes.ensures ∙ ap (λ (n : ℕ). little_bytes 2 n) c.bits_of.ensures))) c.push_bits.ensures
