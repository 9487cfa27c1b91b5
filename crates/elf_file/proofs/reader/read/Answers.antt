use Rattle.elf_file.proofs.NamedFacts.{gives_fault}
use Rattle.elf_file.proofs.reader.read.Goals as goal

pub returns-in-Err : goal.returns-in-Err
returns-in-Err c = gives_fault c.args.bytes.now c.in-Err.fault c.in-Err.ensures.first
