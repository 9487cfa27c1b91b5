-- A name of a directory is a path from it, which leads where the name does.
use Rattle.std.proofs.Common.{◌≡◌, ℕ, ◌<◌, ◌≤◌, ◌==◌, ◌||◌, nat_lt, Bool, true, false, if◌then◌else◌, List, [], ◌∷◌, ◌++◌, length, Option, Some, None, Ok, refl, ap, ◌∙◌, arith}
use Rattle.file_tree.specs.declared.errno.Errno.{Errno}
use Rattle.file_tree.specs.declared.errno.Errno.TheVariants.{ENAMETOOLONG}
use Rattle.file_tree.specs.declared.node.Node.{Node}
use Rattle.file_tree.specs.declared.node.Body.{Body}
use Rattle.file_tree.specs.declared.node.Body.TheVariants.{Bytes, Names}
use Rattle.file_tree.specs.Entries.{entry_named}
use Rattle.file_tree.specs.Paths.{onto, pieces, filled, names, parts, dot, is_dot, is_dots, ends_in_slash, path_refused}
use Rattle.file_tree.specs.Nodes.{Tree, node_in, linked_by, names_of, names_by, names_in}
use Rattle.file_tree.specs.Walk.{step, step_at, step_in, found, follow, unless, start_of, walked}
use Rattle.file_tree.specs.Ready.{has_slash}
use Rattle.file_tree.specs.Whole.{IsName, IsSound}
use Rattle.file_tree.proofs.TreeFacts.{none_some}
use Rattle.file_tree.proofs.WalkFacts.{follow_one}
use Rattle.file_tree.proofs.PathLaws.{long_same, within_from, not_itself, looked_named}

first_plain : (slash : Bool) (rest : Bool) → slash || rest ≡ false → (slash ≡ false) × (rest ≡ false)
first_plain true rest plain = absurd (let f : ⊥ = cc in f)
first_plain false rest plain = (refl, plain)

pieces_plain : (name : List ℕ) → has_slash name ≡ false → pieces name ≡ name ∷ []
pieces_plain [] plain = refl
pieces_plain (byte ∷ name) plain =
    let both = first_plain (byte == 47) (has_slash name) plain in
    ap (λ (slash : Bool). if slash then [] ∷ pieces name else onto byte (pieces name)) both.0 ∙ ap (onto byte) (pieces_plain name both.1)

ends_plain : (name : List ℕ) → has_slash name ≡ false → ends_in_slash name ≡ false
ends_plain [] plain = refl
ends_plain (byte ∷ []) plain = (first_plain (byte == 47) false plain).0
ends_plain (byte ∷ next ∷ name) plain = ends_plain (next ∷ name) (first_plain (byte == 47) (has_slash (next ∷ name)) plain).1

filled_one : (name : List ℕ) → 0 < length name → filled (name ∷ []) ≡ name ∷ []
filled_one [] some = absurd (omega arith)
filled_one (byte ∷ name) some = refl

parts_one : (name : List ℕ) → has_slash name ≡ false → 0 < length name → parts name ≡ name ∷ []
unfolding parts names
parts_one name plain some =
    ap (λ (slash : Bool). filled (pieces name) ++ (if slash then dot ∷ [] else [])) (ends_plain name plain)
    ∙ ap (λ (all : List (List ℕ)). all ++ []) (ap filled (pieces_plain name plain) ∙ filled_one name some)

refused_short : (name : List ℕ) → 0 < length name → length name ≤ 255 → path_refused name ≡ None
unfolding path_refused
refused_short [] some short = absurd (omega arith)
refused_short (byte ∷ name) some short = ap (λ (long : Bool). if long then Some ENAMETOOLONG else None) (not_above (length (byte ∷ name)) short)
  where
    not_above : (n : ℕ) → n ≤ 255 → nat_lt 4095 n ≡ false
    not_above n low = grind arith

start_plain : (from : ℕ) (name : List ℕ) → has_slash name ≡ false → start_of from name ≡ from
start_plain from [] plain = refl
start_plain from (byte ∷ name) plain = ap (λ (slash : Bool). if slash then 1 else from) (first_plain (byte == 47) (has_slash name) plain).0

body_led : (at inode : ℕ) (name : List ℕ) (linked : Bool) (body : Body) → IsName at name → linked ≡ true → entry_named name (names_of body) ≡ Some inode → step_in at linked body name ≡ Ok inode
body_led at inode name linked (Bytes bytes) is on has = absurd (none_some None inode refl has)
body_led at inode name linked (Names d) is on has =
    looked_named at d.parent inode linked (is_dot name) (is_dots name) (found (entry_named name d.names)) on (not_itself name is.other).1 is.not_dots ∙ ap found has

node_led : (at inode : ℕ) (name : List ℕ) (node : Option Node) → IsName at name → linked_by node ≡ true → entry_named name (names_by node) ≡ Some inode → step_at at node name ≡ Ok inode
node_led at inode name None is on has = absurd (none_some None inode refl has)
node_led at inode name (Some node) is on has = body_led at inode name node.linked node.body is on has

step_led : (nodes : List (ℕ × Node)) (at inode : ℕ) (name : List ℕ) → IsName at name → linked_by (node_in nodes at) ≡ true → entry_named name (names_in nodes at) ≡ Some inode → step nodes at name ≡ Ok inode
unfolding step
step_led nodes at inode name is on has =
    long_same (nat_lt 255 (length name)) (step_at at (node_in nodes at) name) (within_from (length name) is.short) ∙ node_led at inode name (node_in nodes at) is on has

pub entry_walked : (tree : Tree) → IsSound tree → (directory : ℕ) (name : List ℕ) (inode : ℕ) → entry_named name (names_in tree.nodes directory) ≡ Some inode → walked tree directory name ≡ Ok inode
unfolding walked
entry_walked tree is directory name inode has =
    let led = is.leads directory name inode has in
    let own = not_itself name led.named.other in
    ap (λ (o : Option Errno). unless o (follow tree.nodes (start_of directory name) (parts name))) (refused_short name own.0 led.named.short)
    ∙ (ap (λ (at : ℕ). follow tree.nodes at (parts name)) (start_plain directory name led.named.plain)
    ∙ (ap (follow tree.nodes directory) (parts_one name led.named.plain own.0)
    ∙ (follow_one tree.nodes directory name ∙ step_led tree.nodes directory inode name led.named led.from has)))
