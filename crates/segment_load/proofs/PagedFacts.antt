-- Memory that is made of pages: what stands in it, and how each step changes it.
use Rattle.std.proofs.Common.{◌≡◌, ℕ, ◌+◌, ◌-◌, ◌*◌, ◌/◌, ◌^◌, ◌≤◌, inr, Bool, true, false, ◌&&◌, ◌||◌, if◌then◌else◌, List, [], length, get_or, Option, Some, None, Result, Ok, Err, OnOk, is_ok, refl, ap, sym, subst, ◌∙◌, arith}
use mathlib.Core.Path.{fun_ext}
use Rattle.guest_pages.specs.declared.rights.Rights.{Rights}
use Rattle.guest_pages.specs.Cells.{Cell, cell, has_none}
use Rattle.guest_pages.specs.declared.fault.PageFault.{PageFault}
use Rattle.guest_pages.specs.declared.fault.PageFault.TheVariants.{NoAccess}
use Rattle.guest_pages.specs.Faults.{answer_or, executable, fault_of, fault_or, first_fault, readable, writable}
use Rattle.guest_pages.specs.Finding.{is_mapped}
use Rattle.guest_pages.specs.Operations.{placed, protected, written, with_rights, with_byte}
use Rattle.guest_pages.specs.Ranges.{Range, within, cell_at, ranges_of}
use Rattle.guest_pages.proofs.Reading.{IsKept, reads_back}
use Rattle.guest_pages.proofs.RightsFacts.{within_outside}
use Rattle.guest_pages.proofs.TableFacts.{cell_kept, held_none}
use Rattle.guest_pages.specs.Tables.{cells, held, page_at}
use Rattle.segment_load.specs.Loading.{no_right}
use Rattle.segment_load.specs.Steps.{HasPages, no_rights, over, paged, rights_in, zeros}
use Rattle.segment_load.proofs.CellFacts.{within_pages}

-- ---- what stands in it

kept_by : (t : Bool) (rights : Rights) (byte : ℕ) → IsKept (if t then Some (cell rights byte) else None)
kept_by true rights byte = cell_kept rights byte
kept_by false rights byte = tt

paged_kept : (m : ℕ → Bool) (r : ℕ → Rights) (b : ℕ → ℕ) (a : ℕ) → IsKept (paged m r b a)
unfolding paged
paged_kept m r b a = kept_by (m (a / 4096)) (r (a / 4096)) (b a)

paged_low : (m : ℕ → Bool) (r : ℕ → Rights) (b : ℕ → ℕ) (a : ℕ) → ((page : ℕ) → 2 ^ 26 ≤ page → m page ≡ false) → 2 ^ 38 ≤ a → paged m r b a ≡ None
unfolding paged
paged_low m r b a low high = ap (λ (t : Bool). if t then Some (cell (r (a / 4096)) (b a)) else None) (low (a / 4096) (omega arith))

pub back : (m : ℕ → Bool) (r : ℕ → Rights) (b : ℕ → ℕ) (memory : List Range) (a : ℕ) → HasPages m r b memory → cell_at memory a ≡ paged m r b a
back m r b memory a has =
    ap (λ (ranges : List Range). cell_at ranges a) has.is
    ∙ reads_back (paged m r b) a (paged_kept m r b) (λ k high. paged_low m r b k has.low high)

-- the first address of a page that is mapped, or isn't
pub there : (m : ℕ → Bool) (r : ℕ → Rights) (b : ℕ → ℕ) (memory : List Range) (page : ℕ) → HasPages m r b memory → cell_at memory (4096 * page) ≡ (if m page then Some (cell (r page) (b (4096 * page))) else None)
unfolding paged
there m r b memory page has =
    let is : 4096 * page / 4096 ≡ page = omega arith in
    back m r b memory (4096 * page) has
    ∙ ap (λ (p : ℕ). if m p then Some (cell (r p) (b (4096 * page))) else None) is

pub rights_there : (m : ℕ → Bool) (r : ℕ → Rights) (b : ℕ → ℕ) (memory : List Range) (page : ℕ) → HasPages m r b memory → m page ≡ true → rights_in (cell_at memory (4096 * page)) ≡ r page
rights_there m r b memory page has mapped =
    ap rights_in (there m r b memory page has ∙ ap (λ (t : Bool). if t then Some (cell (r page) (b (4096 * page))) else None) mapped)

-- ---- tests of one address

mapped_by : (o : Option Cell) (at : ℕ) → is_ok (answer_or (fault_or (fault_of no_right at o) None) (tt {0})) ≡ is_mapped o
mapped_by None at = refl
mapped_by (Some c) at = refl

pub mapped_test : (memory : List Range) (at : ℕ) → is_ok (answer_or (first_fault no_right memory at 1) (tt {0})) ≡ is_mapped (cell_at memory at)
unfolding first_fault
mapped_test memory at = mapped_by (cell_at memory at) at

and_true : (b : Bool) (fault : PageFault) → is_ok (answer_or (fault_or (if b && true then None else Some fault) None) (tt {0})) ≡ b
and_true true fault = refl
and_true false fault = refl

itself : (b : Bool) (fault : PageFault) → is_ok (answer_or (fault_or (if b then None else Some fault) None) (tt {0})) ≡ b
itself true fault = refl
itself false fault = refl

read_by : (o : Option Cell) (at : ℕ) → is_ok (answer_or (fault_or (fault_of readable at o) None) (tt {0})) ≡ (rights_in o).read
read_by None at = refl
read_by (Some c) at = and_true c.rights.read (NoAccess at)

write_by : (o : Option Cell) (at : ℕ) → is_ok (answer_or (fault_or (fault_of writable at o) None) (tt {0})) ≡ (rights_in o).write
write_by None at = refl
write_by (Some c) at = and_true c.rights.write (NoAccess at)

execute_by : (o : Option Cell) (at : ℕ) → is_ok (answer_or (fault_or (fault_of executable at o) None) (tt {0})) ≡ (rights_in o).execute
execute_by None at = refl
execute_by (Some c) at = itself c.rights.execute (NoAccess at)

pub read_test : (memory : List Range) (at : ℕ) → is_ok (answer_or (first_fault readable memory at 1) (tt {0})) ≡ (rights_in (cell_at memory at)).read
unfolding first_fault
read_test memory at = read_by (cell_at memory at) at

pub write_test : (memory : List Range) (at : ℕ) → is_ok (answer_or (first_fault writable memory at 1) (tt {0})) ≡ (rights_in (cell_at memory at)).write
unfolding first_fault
write_test memory at = write_by (cell_at memory at) at

pub execute_test : (memory : List Range) (at : ℕ) → is_ok (answer_or (first_fault executable memory at 1) (tt {0})) ≡ (rights_in (cell_at memory at)).execute
unfolding first_fault
execute_test memory at = execute_by (cell_at memory at) at

-- ---- other words for the same memory

pub has_made : (m : ℕ → Bool) (r : ℕ → Rights) (b : ℕ → ℕ) (f : ℕ → Option Cell) (memory : List Range) → ((page : ℕ) → 2 ^ 26 ≤ page → m page ≡ false) → memory ≡ ranges_of f → ((a : ℕ) → f a ≡ paged m r b a) → HasPages m r b memory
has_made m r b f memory low is same = record { low = low; is = is ∙ ap ranges_of (fun_ext same) }

alike_by : (t : Bool) (c d : Cell) → (t ≡ true → c ≡ d) → (if t then Some c else None) ≡ (if t then Some d else None)
alike_by true c d same = ap (λ (e : Cell). Some e) (same refl)
alike_by false c d same = refl

-- rights and bytes that make the same cells
pub has_alike : (m : ℕ → Bool) (r r-2 : ℕ → Rights) (b b-2 : ℕ → ℕ) (memory : List Range) → HasPages m r b memory → ((a : ℕ) → m (a / 4096) ≡ true → cell (r (a / 4096)) (b a) ≡ cell (r-2 (a / 4096)) (b-2 a)) → HasPages m r-2 b-2 memory
unfolding paged
has_alike m r r-2 b b-2 memory has same =
    has_made m r-2 b-2 (paged m r b) memory has.low has.is (λ a. alike_by (m (a / 4096)) (cell (r (a / 4096)) (b a)) (cell (r-2 (a / 4096)) (b-2 a)) (same a))

pub has_same_pages : (m m-2 : ℕ → Bool) (r : ℕ → Rights) (b : ℕ → ℕ) (memory : List Range) → HasPages m r b memory → ((page : ℕ) → m page ≡ m-2 page) → HasPages m-2 r b memory
has_same_pages m m-2 r b memory has same = subst (λ (n : ℕ → Bool). HasPages n r b memory) (fun_ext same) has

pub has_same_rights : (m : ℕ → Bool) (r r-2 : ℕ → Rights) (b : ℕ → ℕ) (memory : List Range) → HasPages m r b memory → ((page : ℕ) → r page ≡ r-2 page) → HasPages m r-2 b memory
has_same_rights m r r-2 b memory has same = subst (λ (n : ℕ → Rights). HasPages m n b memory) (fun_ext same) has

pub has_same_bytes : (m : ℕ → Bool) (r : ℕ → Rights) (b b-2 : ℕ → ℕ) (memory : List Range) → HasPages m r b memory → ((a : ℕ) → b a ≡ b-2 a) → HasPages m r b-2 memory
has_same_bytes m r b b-2 memory has same = subst (λ (n : ℕ → ℕ). HasPages m r n memory) (fun_ext same) has

-- ---- no memory

nothing_paged : (a : ℕ) → cells [] a ≡ paged (λ page. false) no_rights zeros a
unfolding paged cells page_at
nothing_paged a = refl

pub has_nothing : (memory : List Range) → memory ≡ [] → HasPages (λ page. false) no_rights zeros memory
unfolding held
has_nothing memory empty =
    has_made (λ page. false) no_rights zeros (cells []) memory (λ page high. refl) (empty ∙ sym held_none) nothing_paged

-- ---- pages are mapped without rights

bare_by : (w t : Bool) → (if w then Some (cell no_right 0) else (if t then Some (cell no_right 0) else None)) ≡ (if w || t then Some (cell no_right 0) else None)
bare_by true t = refl
bare_by false t = refl

or_none : (x y : Bool) → x ≡ false → y ≡ false → (x || y) ≡ false
or_none true y none rest = none
or_none false y none rest = rest

pub has_bare : (first count : ℕ) (m : ℕ → Bool) (memory : List Range) → first + count ≤ 2 ^ 26 → HasPages m no_rights zeros memory → HasPages (λ page. within first count page || m page) no_rights zeros (placed (4096 * first) (4096 * count) no_right memory)
unfolding placed paged
has_bare first count m memory inside has =
    has_made (λ page. within first count page || m page) no_rights zeros
    (λ a. if within (4096 * first) (4096 * count) a then Some (cell no_right 0) else cell_at memory a) (placed (4096 * first) (4096 * count) no_right memory)
    (λ page high. or_none (within first count page) (m page) (within_outside first count page (inr (omega arith))) (has.low page high))
    refl
    (λ a.
    ap (λ (o : Option Cell). if within (4096 * first) (4096 * count) a then Some (cell no_right 0) else o) (back m no_rights zeros memory a has)
    ∙ ap (λ (w : Bool). if w then Some (cell no_right 0) else (if m (a / 4096) then Some (cell no_right 0) else None)) (within_pages first count a)
    ∙ bare_by (within first count (a / 4096)) (m (a / 4096)))

-- ---- pages get other rights

-- the pages from one on have these rights
abbrev pub with_own : ℕ → ℕ → Rights → (ℕ → Rights) → ℕ → Rights
with_own first count own r page = if within first count page then own else r page

own_by : (w t : Bool) (own rights : Rights) (byte : ℕ) → (w ≡ true → (if has_none rights then 0 else byte) ≡ byte) → (if w then with_rights own (if t then Some (cell rights byte) else None) else (if t then Some (cell rights byte) else None)) ≡ (if t then Some (cell (if w then own else rights) byte) else None)
own_by true true own rights byte keeps = ap (λ (n : ℕ). Some (cell own n)) (keeps refl)
own_by true false own rights byte keeps = refl
own_by false true own rights byte keeps = refl
own_by false false own rights byte keeps = refl

pub has_protected : (first count : ℕ) (own : Rights) (m : ℕ → Bool) (r : ℕ → Rights) (b : ℕ → ℕ) (memory : List Range) → HasPages m r b memory → ((a : ℕ) → within first count (a / 4096) ≡ true → (if has_none (r (a / 4096)) then 0 else b a) ≡ b a) → HasPages m (with_own first count own r) b (protected (4096 * first) (4096 * count) own memory)
unfolding protected paged
has_protected first count own m r b memory has keeps =
    has_made m (with_own first count own r) b
    (λ a. if within (4096 * first) (4096 * count) a then with_rights own (cell_at memory a) else cell_at memory a) (protected (4096 * first) (4096 * count) own memory)
    has.low refl
    (λ a.
    ap (λ (o : Option Cell). if within (4096 * first) (4096 * count) a then with_rights own o else o) (back m r b memory a has)
    ∙ ap (λ (w : Bool). if w then with_rights own (if m (a / 4096) then Some (cell (r (a / 4096)) (b a)) else None) else (if m (a / 4096) then Some (cell (r (a / 4096)) (b a)) else None)) (within_pages first count a)
    ∙ own_by (within first count (a / 4096)) (m (a / 4096)) own (r (a / 4096)) (b a) (keeps a))

-- ---- bytes are written

byte_by : (w t : Bool) (rights : Rights) (news old : ℕ) → (if w then with_byte news (if t then Some (cell rights old) else None) else (if t then Some (cell rights old) else None)) ≡ (if t then Some (cell rights (if w then news else old)) else None)
byte_by true true rights news old = refl
byte_by true false rights news old = refl
byte_by false true rights news old = refl
byte_by false false rights news old = refl

pub has_written : (at : ℕ) (bytes : List ℕ) (m : ℕ → Bool) (r : ℕ → Rights) (b : ℕ → ℕ) (memory : List Range) → HasPages m r b memory → HasPages m r (over at bytes b) (written at bytes memory)
unfolding written paged
has_written at bytes m r b memory has =
    has_made m r (over at bytes b)
    (λ a. if within at (length bytes) a then with_byte (get_or bytes (a - at) 0) (cell_at memory a) else cell_at memory a) (written at bytes memory)
    has.low refl
    (λ a.
    ap (λ (o : Option Cell). if within at (length bytes) a then with_byte (get_or bytes (a - at) 0) o else o) (back m r b memory a has)
    ∙ byte_by (within at (length bytes) a) (m (a / 4096)) (r (a / 4096)) (get_or bytes (a - at) 0) (b a))

-- ---- answers

pub on_ok : {T E : Type 0} (result : Result T E) (P Q : Type 0) → (P → Q) → OnOk result P → OnOk result Q
on_ok (Ok value) P Q gives done = gives done
on_ok (Err error) P Q gives done = tt
