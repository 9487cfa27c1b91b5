-- No check refuses for want of memory.
use Rattle.std.proofs.Common.{◌≡◌, ℕ, zero, suc, List, [], ◌∷◌, ◌++◌, Option, Some, Result, Err, Bool, true, false, refl, cond, subst}
use Rattle.elf_file.specs.declared.fault.ElfFault.{ElfFault}
use Rattle.elf_file.specs.declared.fault.ElfFault.TheVariants.{Short, NotElf, NotRiscv, Kind, FloatAbi, Embedded, HeaderSize, Interpreter, BadSegment, WritableCode, Overlap, Entry, Memory}
use Rattle.elf_file.specs.Below.{below}
use Rattle.elf_file.specs.Checks.{Check, checks, entry_checks, first_fault, header_checks, overlap_checks, pair_checks, segment_checks, table_checks}
use Rattle.elf_file.specs.Fields.{e_phnum}
use Rattle.elf_file.specs.Reading.{Gives, Image, reading}

-- a refusal that isn't want of memory
abbrev pub IsNamed : ElfFault → Type 0
IsNamed Memory = ⊥
IsNamed fault = Unit {0}

abbrev pub AreNamed : List Check → Type 0
AreNamed [] = Unit {0}
AreNamed (check ∷ checks) = IsNamed check.otherwise × AreNamed checks

named_append : (xs ys : List Check) → AreNamed xs → AreNamed ys → AreNamed (xs ++ ys)
named_append [] ys named rest = rest
named_append (x ∷ xs) ys named rest = (named.0, named_append xs ys named.1 rest)

named_below : (f : ℕ → List Check) (n : ℕ) → ((i : ℕ) → AreNamed (f i)) → AreNamed (below f n)
unfolding below
named_below f zero each = tt
named_below f (suc n) each = named_append (below f n) (f n) (named_below f n each) (each n)

header_named : (file : List ℕ) → AreNamed (header_checks file)
unfolding header_checks
header_named file = (tt, (tt, (tt, (tt, (tt, (tt, tt))))))

table_named : (file : List ℕ) → AreNamed (table_checks file)
unfolding table_checks
table_named file = (tt, (tt, tt))

segment_named : (file : List ℕ) (i : ℕ) → AreNamed (segment_checks file i)
unfolding segment_checks
segment_named file i = (tt, (tt, (tt, tt)))

pair_named : (file : List ℕ) (j i : ℕ) → AreNamed (pair_checks file j i)
unfolding pair_checks
pair_named file j i = (tt, tt)

overlap_named : (file : List ℕ) (j : ℕ) → AreNamed (overlap_checks file j)
unfolding overlap_checks
overlap_named file j = named_below (pair_checks file j) j (pair_named file j)

entry_named : (file : List ℕ) → AreNamed (entry_checks file)
unfolding entry_checks
entry_named file = (tt, (tt, tt))

checks_named : (file : List ℕ) → AreNamed (checks file)
checks_named file =
    named_append (header_checks file) (table_checks file ++ (below (segment_checks file) (e_phnum file) ++ (below (overlap_checks file) (e_phnum file) ++ entry_checks file))) (header_named file)
    (named_append (table_checks file) (below (segment_checks file) (e_phnum file) ++ (below (overlap_checks file) (e_phnum file) ++ entry_checks file)) (table_named file)
    (named_append (below (segment_checks file) (e_phnum file)) (below (overlap_checks file) (e_phnum file) ++ entry_checks file) (named_below (segment_checks file) (e_phnum file) (segment_named file))
    (named_append (below (overlap_checks file) (e_phnum file)) (entry_checks file) (named_below (overlap_checks file) (e_phnum file) (overlap_named file)) (entry_named file))))

named_by : (holds : Bool) (otherwise fault : ElfFault) (rest : Option ElfFault) → IsNamed otherwise → (rest ≡ Some fault → IsNamed fault) → cond holds rest (Some otherwise) ≡ Some fault → IsNamed fault
named_by true otherwise fault rest here later is = later is
named_by false otherwise fault rest here later is =
    let same : otherwise ≡ fault = cc in
    subst IsNamed same here

fault_named : (checks : List Check) (fault : ElfFault) → AreNamed checks → first_fault checks ≡ Some fault → IsNamed fault
unfolding first_fault
fault_named [] fault named is = cc
fault_named (x ∷ xs) fault named is = named_by x.holds x.otherwise fault (first_fault xs) named.0 (fault_named xs fault named.1) is

gives_by : (fault : ElfFault) (read : Result Image ElfFault) → IsNamed fault → read ≡ Err fault → Gives (Err fault) read
gives_by Short read named is = is
gives_by NotElf read named is = is
gives_by NotRiscv read named is = is
gives_by Kind read named is = is
gives_by FloatAbi read named is = is
gives_by Embedded read named is = is
gives_by (HeaderSize size) read named is = is
gives_by Interpreter read named is = is
gives_by (BadSegment index) read named is = is
gives_by (WritableCode index) read named is = is
gives_by (Overlap first second) read named is = is
gives_by Entry read named is = is
gives_by Memory read named is = absurd named

-- what is answered where a check fails
pub gives_fault : (file : List ℕ) (fault : ElfFault) → first_fault (checks file) ≡ Some fault → Gives (Err fault) (reading file)
unfolding reading
gives_fault file fault is =
    let refused : reading file ≡ Err fault = rw is refl in
    gives_by fault (reading file) (fault_named (checks file) fault (checks_named file) is) refused
