-- Where no bytes are seen none are read.
use Rattle.std.proofs.Common.{List, ℕ, Result, sym, ap}
use Rattle.file_table.specs.declared.fault.FileFault.{FileFault}
use Rattle.file_table.specs.Due.{Done}
use Rattle.file_table.proofs.PeekFacts.{read_faults}
use Rattle.host_calls.specs.Host.{shared_of}
use Rattle.host_calls.specs.Moving.{taken}
use Rattle.host_calls.proofs.host.Host.move_in.Goals as goal

pub returns-in-Err-clause-err : goal.returns-in-Err-clause-err
returns-in-Err-clause-err c =
    ap (λ (due : Result (Done (List ℕ)) FileFault). taken c.args.thread c.args.pieces.now due (shared_of c.args.self.now))
    (sym (read_faults c.args.fd c.args.size c.args.self.now.files c.in-Err.errno c.requires.none c.in-Err.ensures.fault))
