use Rattle.std.proofs.Common.{◌≡◌, ◌∙◌, ℕ, List, true, sym, arith}
use Rattle.cli_words.specs.Words.{is_entry}
use Rattle.cli_words.proofs.WrongFacts.{none_there, bad_there}
use Rattle.cli_words.proofs.RefusalFacts.{entries_full, bad_entry, next_entry}
use Rattle.cli_words.proofs.tail.Options.next_entry.Goals as goal

pub returns-then-len-ge-MOST_ENTRIES : goal.returns-then-len-ge-MOST_ENTRIES
returns-then-len-ge-MOST_ENTRIES c = entries_full c.args.self.now _ (omega arith)

pub returns-in_default : goal.returns-in_default
returns-in_default c =
    bad_entry c.args.self.now _ (omega arith) (none_there (λ (word : List ℕ). is_entry word ≡ true) _ c.in_default.ensures)

pub returns-then-not-is_entry : goal.returns-then-not-is_entry
returns-then-not-is_entry c =
    bad_entry c.args.self.now _ (omega arith)
    (bad_there is_entry _ c.in-Some.field-0.word.now _ c.in-Some.ensures (sym c.is_entry.ensures ∙ c.if-not-is_entry.true))

pub returns : goal.returns
returns c =
    next_entry c.args.self.now _ c.in-Some.field-0.word.now _ (omega arith) c.in-Some.ensures (sym c.is_entry.ensures ∙ c.if-not-is_entry.false)
