-- Time that goes on many times at once.
use Rattle.std.proofs.Common.{◌≡◌, ℕ, zero, suc, ◌+◌, ◌-◌, ◌*◌, ◌^◌, ◌<◌, min, ap, ◌∙◌, arith}
use Rattle.host_calls.specs.Shared.{clock_after, later_clock}

pub clock_is : (count clock : ℕ) → clock < 2 ^ 64 → clock_after count clock ≡ min (clock + 100 * count) (2 ^ 64 - 1)
unfolding clock_after
clock_is zero clock fits = omega arith
clock_is (suc count) clock fits = ap later_clock (clock_is count clock fits) ∙ omega arith
