use Rattle.disassemble.proofs.LineFacts.{no_lines, one_line_more}
use Rattle.disassemble.proofs.listing.write_lines.Goals as goal

pub loop-index-init : goal.loop-index-init
loop-index-init g c = no_lines _ _

pub loop-index-preserved : goal.loop-index-preserved
loop-index-preserved g c =
    one_line_more _ _ _ _ _ _ c.loop-index.invariant c.word_at.ensures c.in_ok-write_line.ensures.line
