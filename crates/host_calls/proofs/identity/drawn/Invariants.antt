use Rattle.std.proofs.Common.{◌≡◌}
use Rattle.guest_pages.specs.Random.{random_bytes}
use Rattle.host_calls.proofs.identity.drawn.Given as goal

abbrev pub invariant-loop-k : goal.invariant-loop-k
invariant-loop-k l = l.bytes.items ≡ random_bytes l.drawn l.k
