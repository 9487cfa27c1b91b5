use Rattle.std.proofs.Common.{◌-◌, length, map}
use Rattle.std.specs.String.{string_bytes}
use Rattle.cli_words.specs.Tail.{IsReadBy}
use Rattle.cli_words.proofs.tail.read_options.Given as goal

abbrev pub invariant-loop-options : goal.invariant-loop-options
invariant-loop-options l = IsReadBy (map string_bytes l.words) l.options

abbrev pub decreases-loop-options : goal.decreases-loop-options
decreases-loop-options l = length (map string_bytes l.words) - l.options.place
