-- Tests on what is noted.
use Rattle.std.proofs.Common.{◌≡◌, ◌||◌, Bool, true, false, refl}

pub same_or : (first rest : Bool) → rest ≡ true → (first || rest) ≡ true
same_or true rest holds = refl
same_or false rest holds = holds
