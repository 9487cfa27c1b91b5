-- How far memory can be read from an address on.
use Rattle.std.proofs.Common.{◌≡◌, ℕ, zero, suc, ◌+◌, ◌-◌, ◌≤◌, ◌==◌, nat_lt, Bool, true, false, not, if◌then◌else◌, List, [], ◌∷◌, length, Option, Some, None, Ok, Err, is_some, refl, sym, ap, ◌∙◌, arith}
use Rattle.std.specs.Prelude.{position}
use Rattle.std.proofs.lemmas.Bool.Decides.{nat_tests}
use Rattle.guest_pages.specs.declared.fault.PageFault.{PageFault}
use Rattle.guest_pages.specs.declared.fault.PageFault.TheVariants.{NoAccess, NotMapped}
use Rattle.guest_pages.specs.Cells.{Cell, include}
use Rattle.guest_pages.specs.Faults.{answer_or, fault_of, fault_or, first_fault, readable}
use Rattle.guest_pages.specs.Operations.{byte_of, bytes_at}
use Rattle.guest_pages.specs.Ranges.{Range, cell_at}
use Rattle.host_calls.specs.Paths.{before_zero, readable_from}

abbrev pub bad_address : PageFault → ℕ
bad_address (NotMapped address) = address
bad_address (NoAccess address) = address

bad_by : (test : Bool) (address : ℕ) (fault : PageFault) → (if test then None else Some (NoAccess address)) ≡ Some fault → bad_address fault ≡ address
bad_by true address fault is = cc
bad_by false address fault is = let e : NoAccess address ≡ fault = cc in ap bad_address (sym e)

bad_is : (address : ℕ) (o : Option Cell) (fault : PageFault) → fault_of readable address o ≡ Some fault → bad_address fault ≡ address
bad_is address None fault is = let e : NotMapped address ≡ fault = cc in ap bad_address (sym e)
bad_is address (Some c) fault is = bad_by (include c.rights readable) address fault is

-- what a test of a range found
pub found_fault : (o : Option PageFault) (fault : PageFault) (it : Unit {0}) → answer_or o it ≡ Err fault → o ≡ Some fault
found_fault None fault it is = cc
found_fault (Some bad) fault it is = let e : bad ≡ fault = cc in ap (λ (f : PageFault). Some f) e

pub found_none : (o : Option PageFault) (it other : Unit {0}) → answer_or o it ≡ Ok other → o ≡ None
found_none None it other is = refl
found_none (Some bad) it other is = cc

pub never_bad : (o : Option PageFault) (fault : PageFault) (it : Unit {0}) → o ≡ None → answer_or o it ≡ Err fault → ⊥
never_bad o fault it none is = let bad = found_fault o fault it is in cc

-- up to the first bad address all can be read
pub record UpTo (memory : List Range) (room at : ℕ) (bad : ℕ) : Type 0 where
  pub low : at ≤ bad
  pub near : bad ≤ at + room
  pub good : first_fault readable memory at (bad - at) ≡ None
  pub is : readable_from room memory at ≡ bytes_at memory at (bad - at)

here_by : (memory : List Range) (room at bad : ℕ) → bad ≡ at → is_some (fault_of readable at (cell_at memory at)) ≡ true → UpTo memory (suc room) at bad
unfolding readable_from first_fault bytes_at
here_by memory room at bad same yes-it = let none : bad - at ≡ 0 = omega arith in
    record { low = omega arith; near = omega arith; good = rw none refl; is = rw (none, yes-it) refl }

on_by : (memory : List Range) (room at bad : ℕ) → fault_of readable at (cell_at memory at) ≡ None → UpTo memory room (at + 1) bad → UpTo memory (suc room) at bad
unfolding readable_from first_fault bytes_at
on_by memory room at bad none rest =
    let low : at + 1 ≤ bad = rest.low in
    let more : bad - at ≡ suc (bad - (at + 1)) = omega arith in
    record {
      low = omega arith;
      near = let near = rest.near in omega arith;
      good = rw more (ap (λ (o : Option PageFault). fault_or o (first_fault readable memory (at + 1) (bad - (at + 1)))) none ∙ rest.good);
      is = rw more (ap (λ (o : Option PageFault). if is_some o then [] else byte_of (cell_at memory at) ∷ readable_from room memory (at + 1)) none ∙ ap (λ (l : List ℕ). byte_of (cell_at memory at) ∷ l) rest.is);
    }

cell_by : (o : Option PageFault) (memory : List Range) (room at : ℕ) (fault : PageFault) → fault_of readable at (cell_at memory at) ≡ o → fault_or o (first_fault readable memory (at + 1) room) ≡ Some fault → (first_fault readable memory (at + 1) room ≡ Some fault → UpTo memory room (at + 1) (bad_address fault)) → UpTo memory (suc room) at (bad_address fault)
cell_by None memory room at fault is bad later = on_by memory room at (bad_address fault) is (later bad)
cell_by (Some found) memory room at fault is bad later =
    let same : found ≡ fault = cc in
    here_by memory room at (bad_address fault) (bad_is at (cell_at memory at) fault (is ∙ ap (λ (f : PageFault). Some f) same)) (ap is_some is)

pub up_to : (memory : List Range) (room at : ℕ) (fault : PageFault) → first_fault readable memory at room ≡ Some fault → UpTo memory room at (bad_address fault)
unfolding first_fault
up_to memory zero at fault bad = cc
up_to memory (suc room) at fault bad =
    cell_by (fault_of readable at (cell_at memory at)) memory room at fault refl bad (up_to memory room (at + 1) fault)

all_by : (o : Option PageFault) (memory : List Range) (room at : ℕ) → fault_of readable at (cell_at memory at) ≡ o → fault_or o (first_fault readable memory (at + 1) room) ≡ None → (first_fault readable memory (at + 1) room ≡ None → readable_from room memory (at + 1) ≡ bytes_at memory (at + 1) room) → (if is_some o then [] else byte_of (cell_at memory at) ∷ readable_from room memory (at + 1)) ≡ byte_of (cell_at memory at) ∷ bytes_at memory (at + 1) room
all_by None memory room at is good later = ap (λ (l : List ℕ). byte_of (cell_at memory at) ∷ l) (later good)
all_by (Some found) memory room at is good later = cc

-- where all can be read
pub all_read : (memory : List Range) (room at : ℕ) → first_fault readable memory at room ≡ None → readable_from room memory at ≡ bytes_at memory at room
unfolding first_fault readable_from bytes_at
all_read memory zero at good = refl
all_read memory (suc room) at good = all_by (fault_of readable at (cell_at memory at)) memory room at refl good (all_read memory room (at + 1))

-- ---- the first zero

some_by : (test : Bool) (size n : ℕ) → (if test then Some size else None) ≡ Some n → n ≡ size
some_by true size n is = let e : size ≡ n = cc in sym e
some_by false size n is = cc

pub zero_some : (bytes : List ℕ) (n : ℕ) → position (λ byte. byte == 0) bytes ≡ Some n → n ≡ before_zero bytes
zero_some bytes n is = some_by (nat_lt (before_zero bytes) (length bytes)) (before_zero bytes) n is

within_by : (test : Bool) (rest n : ℕ) → rest ≤ n → (if not test then 1 + rest else 0) ≤ suc n
within_by true rest n low = omega arith
within_by false rest n low = omega (arith, low)

zero_within : (bytes : List ℕ) → before_zero bytes ≤ length bytes
zero_within [] = omega arith
zero_within (byte ∷ bytes) = within_by (byte == 0) (before_zero bytes) (length bytes) (zero_within bytes)

none_by : (test : Bool) (size n : ℕ) → nat_lt size n ≡ test → size ≤ n → (if test then Some size else None) ≡ None → n ≡ size
none_by true size n is low none = cc
none_by false size n is low none = let high : n ≤ size = grind (arith, nat_tests) in omega (arith, high, low)

pub zero_none : (bytes : List ℕ) → position (λ byte. byte == 0) bytes ≡ None → length bytes ≡ before_zero bytes
zero_none bytes none = none_by (nat_lt (before_zero bytes) (length bytes)) (before_zero bytes) (length bytes) refl (zero_within bytes) none
