use Rattle.std.proofs.Common.{false, ◌+◌, drop}
use Rattle.isa_asm.specs.Lexing.{is_all_blank}
use Rattle.isa_asm.specs.Statement.{quoted_bytes}
use Rattle.isa_asm.proofs.EmitFacts.{at_end, at_mark, text_ends, text_goes_on}
use Rattle.isa_asm.proofs.emit.push_text.Goals as goal

pub returns-then-byte-eq34 : goal.returns-then-byte-eq34
returns-then-byte-eq34 c =
    text_ends c.loop-byte.out.items c.args.out.now.items (quoted_bytes false c.args.quoted.now) _ (is_all_blank (drop (c.loop-byte.byte-index + 1) c.args.quoted.now)) c.requires
    (at_mark c.loop-byte.escaped c.args.quoted.now c.loop-byte.byte-index c.if-escaped.false c.loop-byte-test.true c.if-byte-eq34.true) c.loop-byte.invariant

pub returns : goal.returns
returns c =
    text_goes_on c.loop-byte.out.items c.args.out.now.items (quoted_bytes false c.args.quoted.now) _ c.requires
    (at_end c.loop-byte.escaped c.args.quoted.now c.loop-byte.byte-index c.loop-byte-test.false) c.loop-byte.invariant
