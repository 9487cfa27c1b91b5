-- Tests of rights and of ranges of addresses.
use Rattle.std.proofs.Common.{◌≡◌, ◌⊎◌, ℕ, ◌+◌, ◌<◌, ◌≤◌, Bool, true, false, ◌&&◌, refl, sym, ap, ◌∙◌, arith}
use Rattle.std.proofs.lemmas.Grind.{common_steps}
use Rattle.guest_pages.specs.declared.rights.Rights.{Rights}
use Rattle.guest_pages.specs.Cells.{same_bool, same_rights}
use Rattle.guest_pages.specs.Ranges.{within}

pub within_inside : (start length address : ℕ) → start ≤ address → address < start + length → within start length address ≡ true
within_inside start length address low high = grind (arith, common_steps)

pub within_outside : (start length address : ℕ) → (address < start) ⊎ (start + length ≤ address) → within start length address ≡ false
within_outside start length address out = grind (arith, common_steps)

pub within_low : (start length address : ℕ) → within start length address ≡ true → start ≤ address
within_low start length address here = grind (arith, common_steps)

pub within_high : (start length address : ℕ) → within start length address ≡ true → address < start + length
within_high start length address here = grind (arith, common_steps)

pub both_left : (x y : Bool) → (x && y) ≡ true → x ≡ true
both_left true y h = refl
both_left false y h = h

pub both_right : (x y : Bool) → (x && y) ≡ true → y ≡ true
both_right true y h = h
both_right false y h = cc

pub same_bool_is : (a b : Bool) → same_bool a b ≡ true → a ≡ b
same_bool_is true b h = sym h
same_bool_is false true h = h
same_bool_is false false h = refl

pub rights_by_fields : (a b : Rights) → a.read ≡ b.read → a.write ≡ b.write → a.execute ≡ b.execute → a ≡ b
rights_by_fields a b read write execute =
    ap (λ (x : Bool). let r : Rights = record { read = x; write = a.write; execute = a.execute } in r) read
    ∙ (ap (λ (x : Bool). let r : Rights = record { read = b.read; write = x; execute = a.execute } in r) write
    ∙ ap (λ (x : Bool). let r : Rights = record { read = b.read; write = b.write; execute = x } in r) execute)

pub same_rights_is : (a b : Rights) → same_rights a b ≡ true → a ≡ b
same_rights_is a b h =
    let read = both_left (same_bool a.read b.read) (same_bool a.write b.write && same_bool a.execute b.execute) h in
    let rest = both_right (same_bool a.read b.read) (same_bool a.write b.write && same_bool a.execute b.execute) h in
    rights_by_fields a b (same_bool_is a.read b.read read)
    (same_bool_is a.write b.write (both_left (same_bool a.write b.write) (same_bool a.execute b.execute) rest))
    (same_bool_is a.execute b.execute (both_right (same_bool a.write b.write) (same_bool a.execute b.execute) rest))
