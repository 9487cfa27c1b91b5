use Rattle.std.proofs.Common.{subst, sym, refl, List}
use Rattle.std.specs.List.{All}
use Rattle.std.proofs.lemmas.List.Elements.{All-replicate}
use Rattle.guest_pages.specs.Ranges.{Range}
use Rattle.isa_step.specs.Known.{IsKnown}
use Rattle.isa_step.proofs.decoder.Decoder.new.Goals as goal

pub returns : goal.returns
returns c = λ (memory : List Range). subst (All (IsKnown memory)) (sym c.in_ok-places.ensures.ok) (All-replicate (IsKnown memory) 4096 _ (record { is = λ regs here some. absurd (some refl); range = tt }))
