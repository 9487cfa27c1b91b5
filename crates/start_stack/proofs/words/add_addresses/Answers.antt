use Rattle.std.proofs.Common.{◌≡◌, ℕ, ◌++◌, ◌∷◌, [], List, length, take, sym, ap, ◌∙◌, append_assoc, arith}
use Rattle.start_stack.specs.Texts.{addresses_from}
use Rattle.start_stack.proofs.TextFacts.{joined_fits, length_joined_more, addresses_more, addresses_none, append_none}
use Rattle.start_stack.proofs.words.add_addresses.Goals as goal

pub loop-text-init : goal.loop-text-init
loop-text-init c = record {
  next = omega arith;
  added = sym (append_none c.args.words.now.items) ∙ ap (λ (l : List ℕ). c.args.words.now.items ++ l) (sym (addresses_none c.args.at));
}

pub overflow_add-next-in-loop-text : goal.overflow_add-next-in-loop-text
overflow_add-next-in-loop-text c =
    let fits = joined_fits c.args.texts.now c.loop-text.text-index c.text-item.result c.loop-text-test.true c.text-item.is in
    let same : length c.as_str.result.now ≡ length c.text-item.result = ap length c.as_str.ensures.same in
    let next = c.loop-text.invariant.next in
    omega arith

pub loop-text-preserved : goal.loop-text-preserved
loop-text-preserved c = record {
  next =
      let more = length_joined_more c.args.texts.now c.loop-text.text-index c.text-item.result c.loop-text-test.true c.text-item.is in
      let same : length c.as_str.result.now ≡ length c.text-item.result = ap length c.as_str.ensures.same in
      let next = c.loop-text.invariant.next in
      omega arith;
  added =
      let old : List ℕ = c.args.words.now.items in
      let front : List ℕ = addresses_from c.args.at (take c.loop-text.text-index c.args.texts.now) in
      c.in_ok-push.ensures.items
      ∙ (ap (λ (l : List ℕ). l ++ c.loop-text.next ∷ []) c.loop-text.invariant.added
      ∙ (append_assoc old front (c.loop-text.next ∷ [])
      ∙ ap (λ (l : List ℕ). old ++ l) (sym (addresses_more c.args.at c.args.texts.now c.loop-text.text-index c.text-item.result c.loop-text.next c.loop-text-test.true c.loop-text.invariant.next))));
}
