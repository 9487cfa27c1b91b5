use Rattle.guest_core.proofs.EndFacts.{elf_ends}
use Rattle.guest_core.proofs.starting.state_of.Goals as goal

pub behind-requires : goal.behind-requires
behind-requires c = elf_ends c.args.elf.now
