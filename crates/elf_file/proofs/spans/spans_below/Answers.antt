use Rattle.std.proofs.Common.{◌∷◌, ◌++◌, [], List, sym, subst, inl, inr, arith}
use Rattle.std.specs.List.{Contains}
use Rattle.std.proofs.lemmas.Bool.{cases_eq}
use Rattle.std.proofs.lemmas.List.Elements.{Contains-append_left, Contains-push}
use Rattle.elf_file.specs.declared.spans.Span.{Span}
use Rattle.elf_file.specs.Spans.{span_of}
use Rattle.elf_file.proofs.spans.spans_below.Goals as goal

pub loop-index-preserved : goal.loop-index-preserved
loop-index-preserved c = λ i low.
    subst (λ (items : List Span). Contains items (span_of c.args.sharing c.args.bytes.now i)) (sym c.in_ok-push.ensures.items)
    (elim (cases_eq i c.loop-index.index) [
      | inl same ↦
          subst (λ k. Contains (c.loop-index.spans.items ++ c.span_at.result ∷ []) (span_of c.args.sharing c.args.bytes.now k)) (sym same)
          (subst (λ (s : Span). Contains (c.loop-index.spans.items ++ c.span_at.result ∷ []) s) c.span_at.ensures (Contains-push c.loop-index.spans.items c.span_at.result))
      | inr other ↦ Contains-append_left c.loop-index.spans.items (c.span_at.result ∷ []) (span_of c.args.sharing c.args.bytes.now i) (c.loop-index.invariant i (omega arith))
    ])
