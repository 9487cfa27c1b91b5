use Rattle.std.proofs.Common.{◌++◌, sym, ap, ◌∙◌, append_assoc, ◌∷◌, [], ℕ, List, arith}
use Rattle.std.proofs.lemmas.List.FromFn.{map-range_with_len_more}
use Rattle.start_stack.specs.Block.{random_bytes}
use Rattle.guest_pages.specs.Random.{random_byte}
use Rattle.start_stack.proofs.block.add_random.Goals as goal

-- one more random byte
pub loop-k-preserved : goal.loop-k-preserved
loop-k-preserved c =
    let old : List ℕ = c.args.bytes.now.items in
    c.in_ok-push.ensures.items
    ∙ (ap (λ (l : List ℕ). l ++ c.random_byte.result ∷ []) c.loop-k.invariant
    ∙ (ap (λ (b : ℕ). (old ++ random_bytes c.loop-k.k) ++ b ∷ []) c.random_byte.ensures
    ∙ (append_assoc old (random_bytes c.loop-k.k) (random_byte c.loop-k.k ∷ [])
    ∙ ap (λ (l : List ℕ). old ++ l) (sym (map-range_with_len_more random_byte 0 c.loop-k.k c.loop-k.k (omega arith))))))
