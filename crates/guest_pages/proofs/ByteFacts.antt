-- The bytes of a range of addresses.
use Rattle.std.proofs.Common.{◌≡◌, ℕ, zero, suc, ◌+◌, ◌/◌, ◌%◌, ◌^◌, ◌<◌, ◌≤◌, Bool, true, false, if◌then◌else◌, not, ◌&&◌, ◌||◌, List, ◌∷◌, ◌++◌, length, take, drop, get_or, Option, Some, None, Result, Ok, refl, sym, ap, ◌∙◌, arith}
use Rattle.std.proofs.lemmas.List.{drop_more}
use Rattle.byteorder.specs.Endian.{little_number}
use Rattle.guest_pages.specs.declared.rights.Rights.{Rights}
use Rattle.guest_pages.specs.declared.fault.PageFault.{PageFault}
use Rattle.guest_pages.specs.declared.page.Page.{Page}
use Rattle.guest_pages.specs.declared.page.Table.{Table}
use Rattle.guest_pages.specs.declared.page.Page.TheVariants.{Absent, Bare, Held}
use Rattle.guest_pages.specs.Cells.{include, has_none}
use Rattle.guest_pages.specs.Faults.{first_fault, answer_or}
use Rattle.guest_pages.specs.Operations.{byte_of, bytes_at}
use Rattle.guest_pages.specs.Ranges.{Range, cell_at}
use Rattle.guest_pages.specs.Tables.{cell_in, fault_in, held_in, page_at, cells, held, nothing}
use Rattle.guest_pages.proofs.TableFacts.{cell_at_held, fault_here}
use Rattle.guest_pages.proofs.FaultFacts.{page_good, good_at, good_below, fault_none}

pub bytes_split : (memory : List Range) (at k n : ℕ) → bytes_at memory at (k + n) ≡ bytes_at memory at k ++ bytes_at memory (at + k) n
unfolding bytes_at
bytes_split memory at zero n =
    let p : at ≡ at + 0 = omega arith in
    let q : 0 + n ≡ n = omega arith in
    ap (bytes_at memory at) q ∙ ap (λ (a : ℕ). bytes_at memory a n) p
bytes_split memory at (suc k) n =
    let p : at + 1 + k ≡ at + suc k = omega arith in
    let q : suc k + n ≡ suc (k + n) = omega arith in
    ap (bytes_at memory at) q
    ∙ ap (λ (l : List ℕ). byte_of (cell_at memory at) ∷ l) (bytes_split memory (at + 1) k n ∙ ap (λ (a : ℕ). bytes_at memory (at + 1) k ++ bytes_at memory a n) p)

pub length_bytes_at : (memory : List Range) (at n : ℕ) → length (bytes_at memory at n) ≡ n
unfolding bytes_at
length_bytes_at memory at zero = refl
length_bytes_at memory at (suc n) = ap suc (length_bytes_at memory (at + 1) n)

-- the bytes are those of a list from a place on
pub bytes_run : (memory : List Range) (at n : ℕ) (bytes : List ℕ) (k : ℕ) → ((i : ℕ) → i < n → byte_of (cell_at memory (at + i)) ≡ get_or bytes (k + i) 0) → k + n ≤ length bytes → bytes_at memory at n ≡ take n (drop k bytes)
unfolding bytes_at
bytes_run memory at zero bytes k same room = refl
bytes_run memory at (suc n) bytes k same room =
    let p : at + 0 ≡ at = omega arith in
    let q : k + 0 ≡ k = omega arith in
    let first : byte_of (cell_at memory at) ≡ get_or bytes k 0 =
    ap (λ (a : ℕ). byte_of (cell_at memory a)) (sym p) ∙ (same 0 (omega arith) ∙ ap (λ (a : ℕ). get_or bytes a 0) q) in
    let rest = bytes_run memory (at + 1) n bytes (k + 1)
    (λ i below.
    let r : at + 1 + i ≡ at + (i + 1) = omega arith in
    let s : k + (i + 1) ≡ k + 1 + i = omega arith in
    ap (λ (a : ℕ). byte_of (cell_at memory a)) r ∙ (same (i + 1) (omega arith) ∙ ap (λ (a : ℕ). get_or bytes a 0) s))
    (omega arith) in
    ap (λ (x : ℕ). x ∷ bytes_at memory (at + 1) n) first
    ∙ (ap (λ (l : List ℕ). get_or bytes k 0 ∷ l) rest
    ∙ sym (ap (take (suc n)) (drop_more bytes k 0 (omega arith))))

fields_include : (rr rw re nr nw ne : Bool) → ((not nr || rr) && ((not nw || rw) && (not ne || re))) ≡ true → not (nr || (nw || ne)) ≡ false → not (rr || (rw || re)) ≡ false
fields_include true rw re nr nw ne h k = refl
fields_include false true re nr nw ne h k = refl
fields_include false false true nr nw ne h k = refl
fields_include false false false true nw ne h k = cc
fields_include false false false false true ne h k = cc
fields_include false false false false false true h k = cc
fields_include false false false false false false h k = k

-- what has rights that are needed has a right
pub include_some : (rights needed : Rights) → include rights needed ≡ true → has_none needed ≡ false → has_none rights ≡ false
include_some rights needed h k = fields_include rights.read rights.write rights.execute needed.read needed.write needed.execute h k

some_if : Bool → List ℕ → Option (List ℕ)
some_if ok bytes = if ok then Some bytes else None

some_if_ok : (ok : Bool) (value bytes : List ℕ) → some_if ok value ≡ Some bytes → ok ≡ true
unfolding some_if
some_if_ok true value bytes h = refl
some_if_ok false value bytes h = cc

some_if_value : (ok : Bool) (value bytes : List ℕ) → some_if ok value ≡ Some bytes → value ≡ bytes
unfolding some_if
some_if_value true value bytes h = cc
some_if_value false value bytes h = cc

byte_or_none : Bool → ℕ → ℕ
byte_or_none none byte = if none then 0 else byte

pub held_byte : (needed : Rights) (page : Page) (bytes : List ℕ) (place : ℕ) → has_none needed ≡ false → held_in needed page ≡ Some bytes → byte_of (cell_in page place) ≡ get_or bytes place 0
unfolding some_if byte_or_none
held_byte needed Absent bytes place some h = cc
held_byte needed Bare bytes place some h = cc
held_byte needed (Held rights value) bytes place some h =
    let ok = some_if_ok (include rights needed) value.value bytes h in
    let same = some_if_value (include rights needed) value.value bytes h in
    ap (λ (b : Bool). byte_or_none b (get_or value.value place 0)) (include_some rights needed ok some)
    ∙ ap (λ (l : List ℕ). get_or l place 0) same

ok_fault : (ok : Bool) (value bytes : List ℕ) (fault : PageFault) → some_if ok value ≡ Some bytes → (if ok then None else Some fault) ≡ None
unfolding some_if
ok_fault true value bytes fault h = refl
ok_fault false value bytes fault h = cc

-- a page whose bytes were found is good
pub held_good : (needed : Rights) (page : Page) (bytes : List ℕ) (address : ℕ) → held_in needed page ≡ Some bytes → fault_in needed page address ≡ None
unfolding some_if
held_good needed Absent bytes address h = cc
held_good needed Bare bytes address h = cc
held_good needed (Held rights value) bytes address h = ok_fault (include rights needed) value.value bytes _ h

pub page_bytes : (needed : Rights) (tables : List Table) (at n : ℕ) (bytes : List ℕ) → length tables ≤ 8192 → has_none needed ≡ false → held_in needed (page_at tables (at / 4096)) ≡ Some bytes → length bytes ≡ 4096 → at % 4096 + n ≤ 4096 → bytes_at (held tables) at n ≡ take n (drop (at % 4096) bytes)
unfolding cells
page_bytes needed tables at n bytes small some found size room =
    bytes_run (held tables) at n bytes (at % 4096)
    (λ i below.
    let p : (at + i) / 4096 ≡ at / 4096 = omega arith in
    let q : (at + i) % 4096 ≡ at % 4096 + i = omega arith in
    ap byte_of (cell_at_held tables (at + i) small)
    ∙ (ap (λ (k : ℕ). byte_of (cell_in (page_at tables k) ((at + i) % 4096))) p
    ∙ (ap (λ (k : ℕ). byte_of (cell_in (page_at tables (at / 4096)) k)) q
    ∙ held_byte needed (page_at tables (at / 4096)) bytes (at % 4096 + i) some found)))
    (omega arith)

-- a load of bytes that lie in one page
pub load_near : (needed : Rights) (tables : List Table) (at n : ℕ) (bytes : List ℕ) → length tables ≤ 8192 → has_none needed ≡ false → held_in needed (page_at tables (at / 4096)) ≡ Some bytes → length bytes ≡ 4096 → at % 4096 + n ≤ 4096 → answer_or (first_fault needed (held tables) at n) (little_number n (bytes_at (held tables) at n)) ≡ Ok (little_number n (take n (drop (at % 4096) bytes)))
load_near needed tables at n bytes small some found size room =
    ap (λ (o : Option PageFault). answer_or o (little_number n (bytes_at (held tables) at n)))
    (page_good needed tables at n small (held_good needed (page_at tables (at / 4096)) bytes at found) room)
    ∙ ap (λ (l : List ℕ). let r : Result ℕ PageFault = Ok (little_number n l) in r) (page_bytes needed tables at n bytes small some found size room)

bare_bad : (ok : Bool) (fault : PageFault) → (if ok then None else Some fault) ≡ None → ok ≡ true
bare_bad true fault h = refl
bare_bad false fault h = cc

one_or_other : (ok : Bool) (bytes : List ℕ) (fault : PageFault) → (if ok then None else Some fault) ≡ None → some_if ok bytes ≡ None → ⊥
unfolding some_if
one_or_other true bytes fault h k = cc
one_or_other false bytes fault h k = cc

-- a good page has bytes, where a right is needed
pub good_held : (needed : Rights) (page : Page) (address : ℕ) → has_none needed ≡ false → fault_in needed page address ≡ None → held_in needed page ≡ None → ⊥
unfolding some_if
good_held needed Absent address some good absent = cc
good_held needed Bare address some good absent =
    let e = include_some nothing needed (bare_bad (include nothing needed) _ good) some in cc
good_held needed (Held rights bytes) address some good absent = one_or_other (include rights needed) bytes.value _ good absent

-- where a range is good, so is the page that it begins in
pub good_page : (needed : Rights) (tables : List Table) (at n : ℕ) → length tables ≤ 8192 → 0 < n → first_fault needed (held tables) at n ≡ None → fault_in needed (page_at tables (at / 4096)) at ≡ None
good_page needed tables at n small some good =
    sym (fault_here needed tables at small) ∙ good_at needed (held tables) at n at good (omega arith) (omega arith)

-- a good range lies in user memory
pub good_range : (needed : Rights) (tables : List Table) (at n i : ℕ) → length tables ≤ 8192 → first_fault needed (held tables) at n ≡ None → i < n → at + i < 2 ^ 38
good_range needed tables at n i small good below =
    good_below needed tables (at + i) small
    (sym (fault_here needed tables (at + i) small) ∙ good_at needed (held tables) at n (at + i) good (omega arith) (omega arith))

-- the middle of a good range is good
pub good_part : (needed : Rights) (memory : List Range) (at done count size : ℕ) → first_fault needed memory at size ≡ None → done + count ≤ size → first_fault needed memory (at + done) count ≡ None
good_part needed memory at done count size good room =
    fault_none needed memory (at + done) count (λ i low high. good_at needed memory at size i good (omega arith) (omega arith))
