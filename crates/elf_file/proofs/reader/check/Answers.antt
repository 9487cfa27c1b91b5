use Rattle.std.proofs.Common.{ℕ, Result, Ok, Err, OnOk}
use Rattle.elf_file.specs.declared.fault.ElfFault.{ElfFault}
use Rattle.elf_file.specs.Fields.{e_phnum}
use Rattle.elf_file.proofs.PairFacts.{one_way_below, clear_below, apart_below, runs_below}
use Rattle.elf_file.proofs.reader.check.Goals as goal

given : (result : Result ℕ ElfFault) (P : Type 0) → P → OnOk result P
given (Ok x) P holds = holds
given (Err fault) P holds = tt

carried : (result : Result ℕ ElfFault) (P Q : Type 0) → (P → Q) → OnOk result P → OnOk result Q
carried (Ok x) P Q then holds = then holds
carried (Err fault) P Q then holds = tt

pub returns-clause-one_way : goal.returns-clause-one_way
returns-clause-one_way c =
    let file = c.args.bytes.now in
    given c.check_entry.result _ (λ i inside loaded. one_way_below file (e_phnum file) i c.in-Ok-check_segments.ensures.first inside loaded)

pub returns-clause-clear : goal.returns-clause-clear
returns-clause-clear c =
    let file = c.args.bytes.now in
    given c.check_entry.result _ (clear_below file (e_phnum file) c.in-Ok-check_segments.ensures.first)

pub returns-clause-apart : goal.returns-clause-apart
returns-clause-apart c =
    let file = c.args.bytes.now in
    given c.check_entry.result _ (apart_below file (e_phnum file) c.in-Ok-check_overlaps.ensures)

pub returns-clause-runs : goal.returns-clause-runs
returns-clause-runs c =
    let file = c.args.bytes.now in
    carried c.check_entry.result _ _ (runs_below file (e_phnum file)) c.check_entry.ensures.runs
