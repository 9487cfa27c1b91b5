-- The texts of the names.
use Rattle.std.proofs.Common.{◌≡◌, ◌∷◌, ◌++◌, List, ℕ, map, sym, subst, ◌∙◌, ap}
use Rattle.std.specs.List.{All}
use Rattle.std.specs.Str.{IsUtf8}
use Rattle.std.specs.Map.{keys_of}
use Rattle.file_tree.proofs.NameFacts.{keys_named, all_mid}
use Rattle.file_tree.proofs.names.Names.texts.Goals as goal

pub loop-name-init : goal.loop-name-init
loop-name-init c =
    rw (c.new-texts.ensures.items, c.into_iter-name-iterator.ensures.into_iter_gives, c.keys-name-items.ensures.rest) (keys_named c.self.inside.entries.entries ∙ ap keys_of c.self.view_is)

pub text_of-requires : goal.text_of-requires
text_of-requires c =
    let here : c.loop-name.texts.items ++ c.in-Some.name.now.items ∷ map (λ key. key.items) c.next.new.self ≡ keys_of c.args.self.now =
    rw (c.in-Some.ensures.steps) at c.loop-name.invariant in
    rw c.deref.ensures.value (all_mid IsUtf8 c.loop-name.texts.items c.in-Some.name.now.items (map (λ key. key.items) c.next.new.self)
    (subst (λ (names : List (List ℕ)). All IsUtf8 names) (sym here) c.requires))
