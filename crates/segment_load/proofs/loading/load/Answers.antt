use Rattle.std.proofs.Common.{◌≡◌, List, map, subst}
use Rattle.elf_file.specs.declared.loaded.Segment.{Segment}
use Rattle.elf_file.specs.Views.{segment_image}
use Rattle.segment_load.specs.Loading.{loaded}
use Rattle.segment_load.proofs.FillFacts.{is_loaded}
use Rattle.segment_load.proofs.loading.load.Goals as goal

pub returns : goal.returns
returns c =
    subst (λ (segments : List Segment). c.fill_all.new.memory ≡ loaded (map segment_image segments)) c.as_slice-segments.ensures.value
    (is_loaded (map segment_image c.as_slice-segments.result.now) c.fill_all.new.memory c.in_ok-fill_all.ensures)
