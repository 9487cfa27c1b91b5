use Rattle.isa_asm.proofs.LawFacts.{printed_meaning}
use Rattle.isa_asm.proofs.PrintedFacts.{assembled_once, printed_assembled}
use Rattle.isa_asm.proofs.SizeFacts.{sized}
use Rattle.isa_asm.proofs.definitions.laws.Goals as goal

pub returns : goal.returns
returns c = record { meaning = printed_meaning; printed = printed_assembled; only = assembled_once; sizes = sized }
