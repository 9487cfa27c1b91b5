-- What stands at the start.
use Rattle.std.proofs.Common.{◌≡◌, ℕ, ◌-◌, Option, Some, sym, ap, subst, ◌∙◌}
use Rattle.std.specs.Prelude.{IfSome}
use Rattle.file_tree.specs.declared.kind.Kind.TheVariants.{File}
use Rattle.file_tree.specs.Nodes.{Tree, Has, kind_in}
use Rattle.file_table.specs.Opening.{bare, started, with_devices, with_opened}
use Rattle.file_table.specs.Sound.{AreReady}
use Rattle.file_table.specs.State.{Files, at}
use Rattle.file_table.proofs.PlaceFacts.{some_from}
use Rattle.file_table.proofs.StartFacts.{bare_ready, bare_free, bare_tree, input_ready, started_file, started_bare}
use Rattle.file_table.proofs.files.Files.new.Goals as goal

pub open_node-requires-clause-free : goal.open_node-requires-clause-free
open_node-requires-clause-free c = ap (λ (f : Files). at f.descriptors 0) c.in_ok-files.ensures ∙ bare_free c.args.tree c.args.devices

pub open_node-requires-clause-there : goal.open_node-requires-clause-there
open_node-requires-clause-there c =
    let file = subst (λ (o : Option ℕ). IfSome o (λ inode. kind_in c.args.tree inode ≡ Some File)) c.in-Some.is c.requires.input in
    let tree : c.in_ok-files.files.tree ≡ c.args.tree = ap (λ (f : Files). f.tree) c.in_ok-files.ensures ∙ bare_tree c.args.tree c.args.devices in
    subst (λ (t : Tree). Has t c.in-Some.inode) (sym tree) (some_from (kind_in c.args.tree c.in-Some.inode) File file)

pub stand_all-requires-clause-ready : goal.stand_all-requires-clause-ready
stand_all-requires-clause-ready c =
    let e : c.open_node.new.self ≡ with_opened 0 c.in-Some.inode 0 (bare c.args.tree c.args.devices) = c.open_node.ensures ∙ ap (with_opened 0 c.in-Some.inode 0) c.in_ok-files.ensures in
    subst (λ (f : Files). AreReady 1 c.args.devices f) (sym e) (input_ready c.args.tree c.in-Some.inode c.args.devices)

pub stand_all-requires-in-None-clause-ready : goal.stand_all-requires-in-None-clause-ready
stand_all-requires-in-None-clause-ready c = subst (λ (f : Files). AreReady 0 c.args.devices f) (sym c.in_ok-files.ensures) (bare_ready c.args.tree c.args.devices)

pub returns-in-Some : goal.returns-in-Some
returns-in-Some c =
    let e : c.open_node.new.self ≡ with_opened 0 c.in-Some.inode 0 (bare c.args.tree c.args.devices) = c.open_node.ensures ∙ ap (with_opened 0 c.in-Some.inode 0) c.in_ok-files.ensures in
    c.stand_all.ensures ∙ (ap (with_devices 1 (c.args.devices - 1)) e ∙ (started_file c.args.tree c.in-Some.inode c.args.devices ∙ ap (started c.args.tree c.args.devices) (sym c.in-Some.is)))

pub returns-in-None : goal.returns-in-None
returns-in-None c =
    c.stand_all-in-None.ensures ∙ (ap (with_devices 0 (c.args.devices - 0)) c.in_ok-files.ensures ∙ (started_bare c.args.tree c.args.devices ∙ ap (started c.args.tree c.args.devices) (sym c.in-None.is)))
