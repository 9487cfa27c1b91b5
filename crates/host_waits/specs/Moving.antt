-- Calls that read and write.
-- Source: read(2), readv(2), write(2), writev(2), pipe(7). That the descriptor is looked at before the memory is the project's
-- own.
use Rattle.std.specs.Prelude.{ℕ, ◌+◌, ◌-◌, ◌*◌, ◌%◌, ◌^◌, min, nat_lt, Bool, not, ◌&&◌, ◌||◌, if◌then◌else◌, is_some, List, [], ◌∷◌, ℤ, pos, negsuc, zero, suc}
use Rattle.call_table.specs.declared.call.Call.{Call}
use Rattle.file_tree.specs.declared.errno.Errno.TheVariants.{EBADF, EFAULT, EINVAL}
use Rattle.file_table.specs.Moving.{read as reads, write as writes}
use Rattle.file_table.specs.Pipes.{room}
use Rattle.file_table.specs.Waits.{is_wait}
use Rattle.guest_pages.specs.Faults.{first_fault, readable}
use Rattle.guest_pages.specs.Operations.{bytes_at}
use Rattle.host_calls.specs.declared.pieces.Piece.{Piece}
use Rattle.host_calls.specs.Answers.{Answered, Refusal, argument, refusal}
use Rattle.host_calls.specs.Moving.{is_readable, is_writable, read_into, reading_refusals, write_from, writing_refusals}
use Rattle.host_calls.specs.Pieces.{any_bad, cut, gathered, most_bytes, one_piece, piece, pieces_in, total}
use Rattle.host_calls.specs.Shared.{Shared}
use Rattle.host_waits.specs.declared.wait.WaitKind.TheVariants.{Read, Write}
use Rattle.host_waits.specs.Begun.{Entered, answering, any_holds, entered_unless, waiting}
use Rattle.host_waits.specs.Waits.{Wait, descriptor, for_bytes}

-- ---- ready and done

-- a read is ready where it wouldn't wait
abbrev pub can_read_now : Wait → Shared → Bool
can_read_now wait shared = not (is_wait (reads (descriptor wait) (total wait.pieces) shared.files))

-- some of what is left fits into the pipe, and not all can be read from memory
abbrev pub meets_bad_memory : Wait → Shared → Bool
meets_bad_memory wait shared = nat_lt 0 (room (descriptor wait) shared.files) && any_bad readable shared.memory wait.pieces

-- a write is ready where it wouldn't wait, and where bad memory is met
abbrev pub can_write_now : Wait → Shared → Bool
can_write_now wait shared =
    not (is_wait (writes (descriptor wait) (gathered shared.memory wait.pieces) shared.files)) || meets_bad_memory wait shared

-- the bytes that went before count, and where there were some nothing is refused
abbrev pub counted : ℕ → ℤ → ℤ
counted moved (pos count) = pos (moved + count)
counted zero (negsuc n) = negsuc n
counted (suc moved) (negsuc n) = pos (suc moved)

abbrev pub with_moved : ℕ → Answered → Answered
with_moved moved answered = record answered { answer = counted moved answered.answer }

-- ---- a part of a long write goes, and the rest waits on

-- more than 4,096 bytes are written, and of those that are left some fit and not all
abbrev pub goes_in_part : Wait → Shared → Bool
goes_in_part wait shared =
    nat_lt 4096 (wait.moved + total wait.pieces)
    && (nat_lt 0 (room (descriptor wait) shared.files) && nat_lt (room (descriptor wait) shared.files) (total wait.pieces))

-- so many bytes are gone
unfoldable pub past : ℕ → List Piece → List Piece
past count [] = []
past count (first ∷ pieces) =
    piece ((first.at + min count first.size) % 2 ^ 64) (first.size - count) ∷ past (count - first.size) pieces

abbrev pub part_written : Wait → Shared → Answered
part_written wait shared = write_from (descriptor wait) (cut (room (descriptor wait) shared.files) wait.pieces) shared

abbrev pub wait_past : ℕ → Wait → Wait
wait_past count wait = record wait { moved = wait.moved + count; pieces = past count wait.pieces }

-- ---- the calls

-- it waits where its descriptor and its memory are good and it isn't ready
abbrev pub reads_or_waits : ℕ → Call → List Piece → Shared → Entered
reads_or_waits thread call pieces shared =
    if any_holds (reading_refusals (argument 0 call.args) pieces shared) || can_read_now (for_bytes Read call pieces) shared
    then answering (read_into thread (argument 0 call.args) pieces shared)
    else waiting (for_bytes Read call pieces) shared

abbrev pub writes_or_waits : Call → List Piece → Shared → Entered
writes_or_waits call pieces shared =
    if any_holds (writing_refusals (argument 0 call.args) pieces shared) || can_write_now (for_bytes Write call pieces) shared
    then answering (write_from (argument 0 call.args) pieces shared)
    else waiting (for_bytes Write call pieces) shared

-- read(2), write(2)
unfoldable pub read : ℕ → Call → Shared → Entered
read thread call shared = reads_or_waits thread call (one_piece (argument 1 call.args) (argument 2 call.args)) shared

unfoldable pub write : Call → Shared → Entered
write call shared = writes_or_waits call (one_piece (argument 1 call.args) (argument 2 call.args)) shared

-- the pieces of readv and writev: at most 1,024, whose places and sizes stand in memory
abbrev pub vector_refusals : Bool → ℕ → ℕ → Shared → List Refusal
vector_refusals allowed at count shared =
    refusal (nat_lt 1024 count) EINVAL
    ∷ refusal (not allowed) EBADF
    ∷ refusal (is_some (first_fault readable shared.memory at (16 * count))) EFAULT
    ∷ []

abbrev pub vector : ℕ → ℕ → Shared → List Piece
vector at count shared = cut most_bytes (pieces_in count (bytes_at shared.memory at (16 * count)))

-- readv(2), writev(2)
unfoldable pub readv : ℕ → Call → Shared → Entered
readv thread call shared =
    entered_unless (vector_refusals (is_readable (argument 0 call.args) shared.files) (argument 1 call.args) (argument 2 call.args) shared) shared
    (reads_or_waits thread call (vector (argument 1 call.args) (argument 2 call.args) shared) shared)

unfoldable pub writev : Call → Shared → Entered
writev call shared =
    entered_unless (vector_refusals (is_writable (argument 0 call.args) shared.files) (argument 1 call.args) (argument 2 call.args) shared) shared
    (writes_or_waits call (vector (argument 1 call.args) (argument 2 call.args) shared) shared)
