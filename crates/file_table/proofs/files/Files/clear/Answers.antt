-- The table stays sound: the description goes with its last descriptor, and lets go of what it held.
use Rattle.std.proofs.Common.{◌≡◌, ℕ, ◌<◌, true, false, set, Some, None, sym, subst, ap, ◌∙◌, arith}
use Rattle.std.proofs.lemmas.List.{get_or_default}
use Rattle.file_table.specs.Descriptors.{names, is_named, without_end_by}
use Rattle.file_table.specs.State.{Files, at}
use Rattle.file_table.proofs.SoundFacts.{descriptor_cleared, node_gone, device_gone, end_there, held_once, device_within, pipe_gone, pipe_within}
use Rattle.file_table.proofs.files.Files.clear.Goals as goal

pub invariant_of-self : goal.invariant_of-self
invariant_of-self c =
    let here = subst (λ (f : Files). names c.args.number (at f.descriptors c.args.fd) ≡ true) (sym c.self.view_is) c.requires in
    let still : is_named c.args.number (set c.self.inside.descriptors.items c.args.fd None) ≡ true = cc in
    (descriptor_cleared _ c.args.fd c.args.number c.self.invariant.0 here still, c.self.invariant.1)

pub release-requires : goal.release-requires
release-requires c =
    let there : at c.self.inside.descriptions.items c.args.number ≡ Some c.in-Some.gone = cc in
    subst (λ (n : ℕ). 0 < n) (sym (c.self.invariant.0.holds c.in-Node.inode)) (held_once c.in-Node.inode c.args.number c.self.inside.descriptions.items c.in-Some.gone there c.in-Node.is)

pub invariant_of-self-in-Node : goal.invariant_of-self-in-Node
invariant_of-self-in-Node c =
    let here = subst (λ (f : Files). names c.args.number (at f.descriptors c.args.fd) ≡ true) (sym c.self.view_is) c.requires in
    let gone : is_named c.args.number (set c.self.inside.descriptors.items c.args.fd None) ≡ false = cc in
    let there : at c.self.inside.descriptions.items c.args.number ≡ Some c.in-Some.gone = cc in
    (node_gone _ c.args.fd c.args.number c.in-Node.inode c.in-Some.gone c.release.new.self c.self.invariant.0 here gone there c.in-Node.is c.release.ensures.released, c.self.invariant.1)

pub index_mut-requires-in-Device : goal.index_mut-requires-in-Device
index_mut-requires-in-Device c =
    let there : at c.self.inside.descriptions.items c.args.number ≡ Some c.in-Some.gone = cc in
    let w = device_within _ c.args.number c.in-Device.device c.in-Some.gone c.self.invariant.0 there c.in-Device.is in
    let e = c.self.inside.devices.ok.0 in
    omega arith

pub invariant_of-self-in-Device : goal.invariant_of-self-in-Device
invariant_of-self-in-Device c =
    let here = subst (λ (f : Files). names c.args.number (at f.descriptors c.args.fd) ≡ true) (sym c.self.view_is) c.requires in
    let gone : is_named c.args.number (set c.self.inside.descriptors.items c.args.fd None) ≡ false = cc in
    let there : at c.self.inside.descriptions.items c.args.number ≡ Some c.in-Some.gone = cc in
    (device_gone _ c.args.fd c.args.number c.in-Device.device c.in-Some.gone _ c.self.invariant.0 here gone there c.in-Device.is, c.self.invariant.1)

pub index_mut-requires-in-Pipe : goal.index_mut-requires-in-Pipe
index_mut-requires-in-Pipe c =
    let there : at c.self.inside.descriptions.items c.args.number ≡ Some c.in-Some.gone = cc in
    let w = pipe_within c.self.inside.pipes.items c.in-Pipe.pipe c.in-Pipe.writes (end_there _ c.args.number c.in-Pipe.pipe c.in-Pipe.writes c.in-Some.gone c.self.invariant.0 there c.in-Pipe.is) in
    let e = c.self.inside.pipes.ok.0 in
    omega arith

pub invariant_of-self-in-Pipe : goal.invariant_of-self-in-Pipe
invariant_of-self-in-Pipe c =
    let here = subst (λ (f : Files). names c.args.number (at f.descriptors c.args.fd) ≡ true) (sym c.self.view_is) c.requires in
    let gone : is_named c.args.number (set c.self.inside.descriptors.items c.args.fd None) ≡ false = cc in
    let there : at c.self.inside.descriptions.items c.args.number ≡ Some c.in-Some.gone = cc in
    let within = pipe_within c.self.inside.pipes.items c.in-Pipe.pipe c.in-Pipe.writes (end_there _ c.args.number c.in-Pipe.pipe c.in-Pipe.writes c.in-Some.gone c.self.invariant.0 there c.in-Pipe.is) in
    let e : c.close_end.new.place ≡ without_end_by c.in-Pipe.writes (at c.self.inside.pipes.items c.in-Pipe.pipe) = c.close_end.ensures ∙ ap (without_end_by c.in-Pipe.writes) (c.index_mut-in-Pipe.ensures.value ∙ get_or_default c.self.inside.pipes.items c.in-Pipe.pipe c.index_mut-in-Pipe.result.now None within) in
    (rw e (pipe_gone _ c.args.fd c.args.number c.in-Pipe.pipe c.in-Pipe.writes c.in-Some.gone c.self.invariant.0 here gone there c.in-Pipe.is), c.self.invariant.1)
