-- What the emulator keeps of every state and of the instructions that it remembers.
-- The project's own.
use Rattle.std.specs.Prelude.{List}
use Rattle.std.specs.List.{All}
use Rattle.isa_step.specs.declared.decoder.Known.{Known}
use Rattle.guest_pages.specs.Apart.{IsApart}
use Rattle.guest_core.specs.Kept.{Keeps}
use Rattle.isa_step.specs.Known.{IsKnown}
use Rattle.guest_core.specs.Machine.{Machine}

pub record IsSound (machine : Machine) (known : List Known) : Type 0 where
  pub keeps : Keeps machine
  pub apart : IsApart machine.shared.memory
  pub right : All (IsKnown machine.shared.memory) known
