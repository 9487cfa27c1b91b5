-- The file at the place that is found.
use Rattle.std.proofs.Common.{sym, subst}
use Rattle.image_store.specs.Files.{IsFileOf}
use Rattle.image_store.proofs.FileFacts.{found_file, no_file_here, no_file_there}
use Rattle.image_store.proofs.entries.file_of.Goals as goal

pub returns-in-File-clause-found : goal.returns-in-File-clause-found
returns-in-File-clause-found c =
    subst (IsFileOf c.args.entries.now c.args.path.now) (sym c.as_slice.ensures)
    (found_file c.args.entries.now c.args.path.now c.in-Ok.place c.index-entries-place.result c.in-Ok.ensures.bound c.in-Ok.ensures.position c.index-entries-place.is c.in-File.is)

pub returns-in-Dir-clause-none : goal.returns-in-Dir-clause-none
returns-in-Dir-clause-none c none =
    no_file_here c.args.entries.now c.args.path.now c.in-Ok.place c.index-entries-place.result c.requires c.in-Ok.ensures.bound c.in-Ok.ensures.position c.index-entries-place.is (λ file. let f : ⊥ = cc in f)

pub returns-in-Other-clause-none : goal.returns-in-Other-clause-none
returns-in-Other-clause-none c none =
    no_file_here c.args.entries.now c.args.path.now c.in-Ok.place c.index-entries-place.result c.requires c.in-Ok.ensures.bound c.in-Ok.ensures.position c.index-entries-place.is (λ file. let f : ⊥ = cc in f)

pub returns-in-Err-clause-none : goal.returns-in-Err-clause-none
returns-in-Err-clause-none c none = no_file_there c.args.entries.now c.args.path.now c.in-Err.field-0 c.requires c.in-Err.ensures.position
