use Rattle.std.specs.Io.KnownBytes.{Appends}
use Rattle.disassemble.specs.Lines.{first_lines}
use Rattle.disassemble.proofs.listing.write_lines.Given as goal

abbrev pub invariant-loop-index : goal.invariant-loop-index
invariant-loop-index g l = Appends (g.W.Write.contents l.fn.output) (g.W.Write.contents l.output) (first_lines l.bytes l.index)
