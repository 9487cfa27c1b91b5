-- What is told of faults. The statuses are those of sysexits.h for wrong data, for a system that lacks memory, and for
-- failed input and output. The messages are the project's own.
use Rattle.std.specs.Prelude.{ℕ, List, codes}
use Rattle.disassemble.specs.declared.fault.Fault.{Fault}
use Rattle.disassemble.specs.declared.fault.Fault.TheVariants.{PartOfAWord, Memory, Stream}

abbrev pub status_of : Fault → ℕ
status_of PartOfAWord = 65
status_of Memory = 70
status_of Stream = 74

abbrev pub message_of : Fault → List ℕ
message_of PartOfAWord = codes "disassemble: the length of the input is no multiple of 4"
message_of Memory = codes "disassemble: out of memory"
message_of Stream = codes "disassemble: reading or writing failed"
