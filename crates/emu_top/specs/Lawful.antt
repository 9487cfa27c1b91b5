-- What the journal of each answer keeps.
-- The project's own.
use Rattle.std.specs.Prelude.{◌≤◌, length}
use Rattle.cli_words.specs.Command.{most_budget}
use Rattle.emu_run.specs.Journal.{History}

-- its budget is one that words can give, and its events number at most as many
pub record IsLawful (journal : History) : Type 0 where
  pub budget_fits : journal.budget ≤ most_budget
  pub within : length journal.events ≤ journal.budget
