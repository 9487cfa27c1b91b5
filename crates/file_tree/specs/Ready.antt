-- What is so of a directory and a name where nothing refuses the call.
use Rattle.std.specs.Prelude.{◌≡◌, ℕ, ◌<◌, ◌≤◌, ◌==◌, Bool, true, false, List, [], length, Some, None}
use Rattle.std.specs.List.{list_any}
use Rattle.std.specs.Str.{is_utf8}
use Rattle.file_tree.specs.declared.node.Node.{Node}
use Rattle.file_tree.specs.declared.node.Directory.{Directory}
use Rattle.file_tree.specs.declared.node.Body.TheVariants.{Names}
use Rattle.file_tree.specs.Entries.{entry_named}
use Rattle.file_tree.specs.Paths.{is_dot, is_dots}
use Rattle.file_tree.specs.Nodes.{node_in, names_of, tree_count}
use Rattle.file_tree.specs.Making.{is_own, is_itself, path_below}

abbrev pub has_slash : List ℕ → Bool
has_slash name = list_any (λ byte. byte == 47) name

-- what is so of a directory where a name can be made
pub record IsMakeable (nodes : List (ℕ × Node)) (at : ℕ) (name : List ℕ) : Type 0 where
  pub node : Node
  pub directory : Directory
  pub found : node_in nodes at ≡ Some node
  pub linked : node.linked ≡ true
  pub body : node.body ≡ Names directory
  pub utf8 : is_utf8 name ≡ true
  pub short : length name ≤ 255
  pub other : is_itself name ≡ false
  pub not_dots : is_dots name ≡ false
  pub free : at ≡ 1 → is_own name ≡ false
  pub absent : entry_named name directory.names ≡ None
  pub path : path_below directory.path name ≤ 4095
  pub few : tree_count nodes ≤ 4096

-- what a name leads to in a directory that is linked
pub record IsEntry (nodes : List (ℕ × Node)) (at : ℕ) (name : List ℕ) (inode : ℕ) : Type 0 where
  pub node : Node
  pub directory : Directory
  pub found : node_in nodes at ≡ Some node
  pub linked : node.linked ≡ true
  pub body : node.body ≡ Names directory
  pub entry : entry_named name directory.names ≡ Some inode

-- what is taken away
pub record IsTakeable (nodes : List (ℕ × Node)) (name : List ℕ) (inode : ℕ) : Type 0 where
  pub some : 0 < length name
  pub not_dot : is_dot name ≡ false
  pub not_dots : is_dots name ≡ false
  pub node : Node
  pub found : node_in nodes inode ≡ Some node
  pub empty : names_of node.body ≡ []
