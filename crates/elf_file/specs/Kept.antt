-- What the code keeps of a program header and of a segment's range.
-- Source: the project's own.
use Rattle.std.specs.Prelude.{◌≡◌, ℕ, List}
use Rattle.elf_file.specs.declared.headers.ProgramHeader.{ProgramHeader}
use Rattle.elf_file.specs.declared.headers.Area.{Area}
use Rattle.elf_file.specs.Fields.{p_type, p_flags, p_offset, p_vaddr, p_filesz, p_memsz}
use Rattle.elf_file.specs.Segments.{SegmentImage}

-- each field is the file's
pub record IsHeader (file : List ℕ) (i : ℕ) (header : ProgramHeader) : Type 0 where
  pub kind : header.kind ≡ p_type file i
  pub flags : header.flags ≡ p_flags file i
  pub offset : header.offset ≡ p_offset file i
  pub address : header.address ≡ p_vaddr file i
  pub file_size : header.file_size ≡ p_filesz file i
  pub memory_size : header.memory_size ≡ p_memsz file i

-- the range and the rights are the segment's
pub record IsArea (segment : SegmentImage) (area : Area) : Type 0 where
  pub start : area.start ≡ segment.at
  pub size : area.size ≡ segment.size
  pub rights : area.rights ≡ segment.rights
