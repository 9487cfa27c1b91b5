-- What was written ends within the limit of a file.
use Rattle.file_table.proofs.MoveFacts.{written_low}
use Rattle.file_table.proofs.files.Files.file_write.Goals as goal
use Rattle.file_table.proofs.files.Files.file_write.Goals.{in-Ok, in-Err-Errno, in-Err-Memory}

pub returns-after-write_at-clause-low : goal.returns-after-write_at-clause-low
returns-after-write_at-clause-low c = elim c.match-write_at.branch [
  | in-Ok w ↦ rw w.result-is (λ some. written_low c.args.inode c.args.offset c.args.bytes.now c.self.inside.tree c.write_at.new.self w.in-Ok.ensures.answers some)
  | in-Err-Errno w ↦ rw w.result-is tt
  | in-Err-Memory w ↦ rw w.result-is tt
]
