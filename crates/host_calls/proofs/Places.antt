-- Where the highest free range lies.
use Rattle.std.proofs.Common.{◌≡◌, ℕ, zero, suc, ◌+◌, ◌-◌, ◌*◌, ◌%◌, ◌<◌, ◌≤◌, Bool, true, false, cond, List, Some, arith}
use Rattle.guest_pages.specs.Finding.{any_mapped, free_place, highest_free}
use Rattle.guest_pages.specs.Limits.{user_end}
use Rattle.guest_pages.specs.Ranges.{Range}

place_by : (mapped : Bool) (memory : List Range) (count page at : ℕ) → (highest_free memory count page ≡ Some at → (at % 4096 ≡ 0) × (at < 4096 * page)) → cond mapped (highest_free memory count page) (Some (4096 * page)) ≡ Some at → (at % 4096 ≡ 0) × (at < 4096 * (suc page))
place_by true memory count page at later same = let rest = later same in (rest.0, omega (arith, rest.1))
place_by false memory count page at later same = let here : 4096 * page ≡ at = cc in (omega (arith, here), omega (arith, here))

highest_place : (memory : List Range) (count pages at : ℕ) → highest_free memory count pages ≡ Some at → (at % 4096 ≡ 0) × (at < 4096 * pages)
unfolding highest_free
highest_place memory count zero at same = cc
highest_place memory count (suc page) at same =
    place_by (any_mapped memory (4096 * page) (4096 * count)) memory count page at (highest_place memory count page at) same

pub place_aligned : (memory : List Range) (count at : ℕ) → free_place memory count ≡ Some at → at % 4096 ≡ 0
place_aligned memory count at same = (highest_place memory count (0x3F00000 + 1 - count) at same).0

pub place_inside : (memory : List Range) (count at : ℕ) → free_place memory count ≡ Some at → at + 4096 * count ≤ user_end
place_inside memory count at same =
    let place = highest_place memory count (0x3F00000 + 1 - count) at same in
    omega (arith, place.0, place.1)
