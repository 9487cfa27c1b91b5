-- What a file stands for: where it begins and its segments, or why it is refused.
-- Source: System V ABI, ELF-64, "Program header".
use Rattle.std.specs.Prelude.{ℕ, ◌≡◌, List, map, Option, Some, None, Result, Ok, Err, IsOk}
use Rattle.elf_file.specs.declared.fault.ElfFault.{ElfFault}
use Rattle.elf_file.specs.declared.fault.ElfFault.TheVariants.{Memory}
use Rattle.elf_file.specs.declared.image.Elf.{Elf}
use Rattle.elf_file.specs.Fields.{e_phnum}
use Rattle.elf_file.specs.Segments as segments
use Rattle.elf_file.specs.Headers as headers
use Rattle.elf_file.specs.Checks.{first_fault, checks}
pub use Rattle.elf_file.specs.Segments.{SegmentImage}
pub use Rattle.elf_file.specs.Views.{segment_image}

-- a file: where it begins, where its program headers stand in memory and how many they are, its segments, and the
-- address behind their bytes
pub record Image : Type 0 where
  pub entry : ℕ
  pub header_at : ℕ
  pub header_count : ℕ
  pub segments : List SegmentImage
  pub top : ℕ

abbrev pub image_of : List ℕ → Image
image_of file = record {
  entry = headers.entry file;
  header_at = headers.header_at file;
  header_count = e_phnum file;
  segments = headers.segments_below file (e_phnum file);
  top = segments.top_of (headers.segments_below file (e_phnum file));
}

abbrev pub image_unless : Option ElfFault → Image → Result Image ElfFault
image_unless None image = Ok image
image_unless (Some fault) image = Err fault

-- the file's image, or the first refusal
unfoldable pub reading : List ℕ → Result Image ElfFault
reading file = image_unless (first_fault (checks file)) (image_of file)

-- what the code made, as an image
abbrev pub image : Elf → Image
image elf = record {
  entry = elf.entry;
  header_at = elf.header_at;
  header_count = elf.header_count;
  segments = map segment_image elf.segments.items;
  top = elf.top;
}

-- The code gives what reading gives. Want of memory comes only where a file would be read.
abbrev pub Gives : Result Elf ElfFault → Result Image ElfFault → Type 0
Gives (Ok elf) read = read ≡ Ok (image elf)
Gives (Err Memory) read = IsOk read
Gives (Err fault) read = read ≡ Err fault
