-- The table stays sound, and nothing is open for a pipe that is new.
use Rattle.std.proofs.Common.{◌≡◌, ℕ, ◌≤◌, List, Option, length, sym, ap, subst, ◌∙◌}
use Rattle.file_table.specs.Opening.{vacant}
use Rattle.file_table.specs.Pipes.{new_pipe}
use Rattle.file_table.specs.State.{Pipe, at, put}
use Rattle.file_table.proofs.CountFacts.{vacant_behind, vacant_free}
use Rattle.file_table.proofs.PlaceFacts.{put_same}
use Rattle.file_table.proofs.SoundFacts.{none_fresh, pipe_added}
use Rattle.file_table.proofs.files.Files.add_pipe.Goals as goal

pub put_pipe-requires : goal.put_pipe-requires
put_pipe-requires c =
    let e : c.vacant_pipe-number.result ≡ vacant c.self.inside.pipes.items = c.vacant_pipe-number.ensures ∙ ap vacant c.as_slice.ensures.value in
    subst (λ (n : ℕ). n ≤ length c.self.inside.pipes.items) (sym e) (vacant_behind c.self.inside.pipes.items)

pub invariant_of-self-2 : goal.invariant_of-self-2
invariant_of-self-2 c =
    let e : c.vacant_pipe-number.result ≡ vacant c.self.inside.pipes.items = c.vacant_pipe-number.ensures ∙ ap vacant c.as_slice.ensures.value in
    (rw (c.in_ok-put_pipe.ensures.ok, e, c.in_ok-pipe.ensures) (pipe_added _ c.self.invariant.0), c.self.invariant.1)

pub returns-clause-there : goal.returns-clause-there
returns-clause-there c =
    let e : c.vacant_pipe-number.result ≡ vacant c.self.inside.pipes.items = c.vacant_pipe-number.ensures ∙ ap vacant c.as_slice.ensures.value in
    ap (λ (l : List (Option Pipe)). at l c.vacant_pipe-number.result) (c.in_ok-put_pipe.ensures.ok ∙ ap (λ (p : Pipe). put c.vacant_pipe-number.result p c.self.inside.pipes.items) c.in_ok-pipe.ensures)
    ∙ put_same c.self.inside.pipes.items c.vacant_pipe-number.result new_pipe (subst (λ (n : ℕ). n ≤ length c.self.inside.pipes.items) (sym e) (vacant_behind c.self.inside.pipes.items))

pub returns-clause-fresh : goal.returns-clause-fresh
returns-clause-fresh c =
    let e : c.vacant_pipe-number.result ≡ vacant c.self.inside.pipes.items = c.vacant_pipe-number.ensures ∙ ap vacant c.as_slice.ensures.value in
    λ writes other. none_fresh (record { tree = c.self.inside.tree; descriptors = c.self.inside.descriptors.items; descriptions = c.self.inside.descriptions.items; devices = c.self.inside.devices.items; pipes = c.self.inside.pipes.items }) c.vacant_pipe-number.result writes c.self.invariant.0 (ap (at c.self.inside.pipes.items) e ∙ vacant_free c.self.inside.pipes.items) other
