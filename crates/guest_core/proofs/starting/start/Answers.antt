use Rattle.std.proofs.Common.{subst, sym}
use Rattle.guest_core.specs.Machine.{Machine}
use Rattle.guest_core.specs.Sound.{IsSound}
use Rattle.guest_core.proofs.StartFacts.{start_sound}
use Rattle.guest_core.proofs.starting.start.Goals as goal

pub from_state-requires : goal.from_state-requires
from_state-requires c =
    subst (λ (m : Machine). IsSound m c.in-Ok-new.decoder) (sym c.in-Ok.ensures)
    (start_sound c.args.elf.now c.args.args.now c.args.env.now c.args.files c.in-Ok-new.decoder c.in-Ok-new.ensures)
