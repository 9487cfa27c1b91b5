-- A half word can only be of a form of its quadrant.
use Rattle.std.proofs.Common.{◌≡◌, ℕ, ◌==◌, Bool, true, false, cond, List, [], ◌∷◌, Option, Some, None, refl, ap, ◌∙◌}
use Rattle.std.specs.List.{find, filter}
use Rattle.std.specs.Option.{option_map}
use Rattle.isa_decode.specs.Fields.{bits}
use Rattle.isa_compressed.specs.Expansion.{Form, forms, has_form, expansion, in_quadrant}

abbrev found : ℕ → List Form → Option Form
found h forms = find (λ form. has_form h form) forms

abbrev of_quadrant : ℕ → List Form → List Form
of_quadrant quadrant forms = filter (λ form. quadrant == form.quadrant) forms

by_quadrant : (same : Bool) (h : ℕ) (form : Form) (rest : Option Form) (kept : List Form) → (bits h 1 0 == form.quadrant) ≡ same → rest ≡ found h kept → cond (has_form h form) (Some form) rest ≡ found h (cond same (form ∷ kept) kept)
by_quadrant true h form rest kept e is = rw is refl
by_quadrant false h form rest kept e is = rw e is

found_of_quadrant : (h : ℕ) (forms : List Form) → found h forms ≡ found h (of_quadrant (bits h 1 0) forms)
found_of_quadrant h [] = refl
found_of_quadrant h (form ∷ forms) = by_quadrant (bits h 1 0 == form.quadrant) h form (found h forms) (of_quadrant (bits h 1 0) forms) refl (found_of_quadrant h forms)

pub expansion_in_quadrant : (h quadrant : ℕ) → bits h 1 0 ≡ quadrant → expansion h ≡ in_quadrant quadrant h
unfolding expansion in_quadrant
expansion_in_quadrant h quadrant is = ap (λ (form : Option Form). option_map (λ f. f.makes h) form) (found_of_quadrant h forms ∙ ap (λ (q : ℕ). found h (of_quadrant q forms)) is)

pub no_quadrant : (h : ℕ) → bits h 1 0 ≡ 3 → expansion h ≡ None
unfolding in_quadrant
no_quadrant h is = expansion_in_quadrant h 3 is
