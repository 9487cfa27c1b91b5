use Rattle.std.proofs.Common.{◌≡◌, ◌++◌, false, drop}
use Rattle.std.specs.Option.{option_map}
use Rattle.isa_asm.specs.Statement.{quoted_bytes}
use Rattle.isa_asm.proofs.emit.push_text.Given as goal

abbrev pub invariant-loop-byte : goal.invariant-loop-byte
invariant-loop-byte l =
    option_map (λ bytes. l.out.items ++ bytes) (quoted_bytes l.escaped (drop l.byte-index l.quoted))
    ≡ option_map (λ bytes. l.fn.out.items ++ bytes) (quoted_bytes false l.quoted)
