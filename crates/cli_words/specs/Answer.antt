-- What is answered to words.
-- The project's own.
use Rattle.std.specs.Prelude.{◌≡◌, ℕ, List}
use Rattle.cli_words.specs.declared.order.Order.{Order}
use Rattle.cli_words.specs.declared.order.Order.TheVariants.{Solo, Asm}
use Rattle.cli_words.specs.declared.order.Plan.{Plan}
use Rattle.cli_words.specs.declared.order.AsmPlan.{AsmPlan}
use Rattle.cli_words.specs.declared.order.WordsFault.{WordsFault}
use Rattle.cli_words.specs.declared.order.WordsFault.TheVariants.{At, Memory}
use Rattle.cli_words.specs.Command.{Asked, IsAsked, Assembly, IsAsmAsked}
use Rattle.cli_words.specs.FirstWrong.{IsFirstWrong}

-- what a plan holds
abbrev pub plan_asked : Plan → Asked
plan_asked plan = record {
  folder = plan.folder;
  program = plan.program;
  args = plan.args.items;
  env = plan.env.items;
  budget = plan.budget;
  input = plan.input;
  keep = plan.keep;
}

abbrev pub asm_asked : AsmPlan → Assembly
asm_asked plan = record { folder = plan.folder; source = plan.source; out = plan.out }

-- the order holds what the words ask for
abbrev pub IsOrdered : List (List ℕ) → Order → Type 0
IsOrdered words (Solo plan) = IsAsked words (plan_asked plan)
IsOrdered words (Asm plan) = IsAsmAsked words (asm_asked plan)

-- and nothing else is what they ask for
abbrev pub IsOnlyOrder : List (List ℕ) → Order → Type 0
IsOnlyOrder words (Solo plan) = ((asked : Asked) → IsAsked words asked → asked ≡ plan_asked plan) × ((assembly : Assembly) → IsAsmAsked words assembly → ⊥)
IsOnlyOrder words (Asm plan) = ((assembly : Assembly) → IsAsmAsked words assembly → assembly ≡ asm_asked plan) × ((asked : Asked) → IsAsked words asked → ⊥)

-- a fault names the first wrong word, save for want of memory
abbrev pub IsFaultOf : List (List ℕ) → WordsFault → Type 0
IsFaultOf words (At index) = IsFirstWrong words index
IsFaultOf words Memory = Unit {0}
