-- The names are those of the body.
use Rattle.std.proofs.Common.{subst}
use Rattle.std.specs.Prelude.{All}
use Rattle.std.specs.Map.{keys_of}
use Rattle.std.specs.Str.{IsUtf8}
use Rattle.file_tree.specs.declared.node.Body.{Body}
use Rattle.file_tree.specs.Nodes.{names_of}
use Rattle.file_tree.proofs.node.Node.names.Goals as goal

pub texts-requires : goal.texts-requires
texts-requires c = subst (λ (b : Body). All IsUtf8 (keys_of (names_of b))) c.in-Names.is c.requires
