use Rattle.std.proofs.Common.{map}
use Rattle.elf_file.specs.Views.{segment_image}
use Rattle.segment_load.proofs.StoredFacts.{are_within, stored_loaded}
use Rattle.segment_load.proofs.counting.laws.Goals as goal

pub returns : goal.returns
returns c = stored_loaded (map segment_image c.args.elf.now.segments.items) (are_within c.args.elf.now.segments.items)
