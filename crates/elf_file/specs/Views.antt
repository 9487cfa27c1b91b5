-- A segment that the code made, as contracts see it.
-- Source: the project's own.
use Rattle.elf_file.specs.declared.loaded.Segment.{Segment}
use Rattle.elf_file.specs.Segments.{SegmentImage}

abbrev pub segment_image : Segment → SegmentImage
segment_image segment = record {
  at = segment.at;
  file_bytes = segment.file_bytes;
  size = segment.size;
  rights = segment.rights;
}
