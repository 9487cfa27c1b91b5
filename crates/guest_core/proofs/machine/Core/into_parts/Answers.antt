use Rattle.std.proofs.Common.{ap, map, ◌∙◌}
use Rattle.guest_core.specs.Machine.{Machine}
use Rattle.guest_core.specs.System.{live_ids}
use Rattle.guest_core.proofs.StateFacts.{ids_of, regs_of}
use Rattle.guest_core.proofs.machine.Core.into_parts.Goals as goal

pub returns-clause-threads : goal.returns-clause-threads
returns-clause-threads c =
    ids_of c.self.inside.state.threads.items c.self.inside.state.host.pending ∙ ap (λ (m : Machine). live_ids m) c.self.view_is

pub returns-clause-regs : goal.returns-clause-regs
returns-clause-regs c =
    regs_of c.self.inside.state.threads.items c.self.inside.state.host.pending ∙ ap (λ (m : Machine). map (λ member. member.self.regs) m.members) c.self.view_is
