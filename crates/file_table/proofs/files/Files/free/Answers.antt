-- A place that is found is free, and there are 256.
use Rattle.std.proofs.Common.{◌≡◌, ℕ, ◌<◌, ◌≤◌, length, None, Option, sym, subst, ap, ◌∙◌}
use Rattle.std.specs.Prelude.{IfSome}
use Rattle.std.proofs.lemmas.Option.{IfSome_then}
use Rattle.file_table.specs.Descriptors.{free_place}
use Rattle.file_table.specs.State.{Files, at}
use Rattle.file_table.proofs.DescriptorFacts.{place_is_free, place_is_least}
use Rattle.file_table.proofs.files.Files.free.Goals as goal

pub returns-clause-free : goal.returns-clause-free
returns-clause-free c =
    let e : c.free_place.result ≡ free_place c.args.least c.args.self.now.descriptors = c.free_place.ensures ∙ (ap (free_place c.args.least) c.as_slice.ensures.value ∙ ap (λ (f : Files). free_place c.args.least f.descriptors) c.self.view_is) in
    let f = subst (λ (o : Option ℕ). IfSome o (λ k. (k < length c.args.self.now.descriptors) × (at c.args.self.now.descriptors k ≡ None))) (sym e) (place_is_free c.args.least c.args.self.now.descriptors) in
    IfSome_then c.free_place.result f (λ k it. it.1)

pub returns-clause-low : goal.returns-clause-low
returns-clause-low c =
    let e : c.free_place.result ≡ free_place c.args.least c.args.self.now.descriptors = c.free_place.ensures ∙ (ap (free_place c.args.least) c.as_slice.ensures.value ∙ ap (λ (f : Files). free_place c.args.least f.descriptors) c.self.view_is) in
    let f = subst (λ (o : Option ℕ). IfSome o (λ k. (k < length c.args.self.now.descriptors) × (at c.args.self.now.descriptors k ≡ None))) (sym e) (place_is_free c.args.least c.args.self.now.descriptors) in
    let many : length c.args.self.now.descriptors ≡ 256 = ap (λ (f : Files). length f.descriptors) (sym c.self.view_is) ∙ c.self.invariant.0.many in
    IfSome_then c.free_place.result f (λ k it. subst (λ (n : ℕ). k < n) many it.0)

pub returns-clause-least : goal.returns-clause-least
returns-clause-least c =
    let e : c.free_place.result ≡ free_place c.args.least c.args.self.now.descriptors = c.free_place.ensures ∙ (ap (free_place c.args.least) c.as_slice.ensures.value ∙ ap (λ (f : Files). free_place c.args.least f.descriptors) c.self.view_is) in
    subst (λ (o : Option ℕ). IfSome o (λ k. c.args.least ≤ k)) (sym e) (place_is_least c.args.least c.args.self.now.descriptors)
