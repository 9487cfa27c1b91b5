-- The call that waits for descriptors to be ready.
-- Source: poll(2), ppoll(2). That there are at most 256 entries, and that what is left of the time isn't told, is the project's
-- own.
use Rattle.std.specs.Prelude.{ℕ, zero, suc, ◌+◌, ◌*◌, ◌%◌, ◌^◌, ◌==◌, nat_le, nat_lt, Bool, not, ◌||◌, if◌then◌else◌, is_some, pos, bit_and, bit_or, List, [], ◌∷◌, ◌++◌, drop}
use Rattle.std.specs.List.{list_any}
use Rattle.byteorder.specs.Endian.{little_bytes, little_number}
use Rattle.call_table.specs.declared.call.Call.{Call}
use Rattle.file_tree.specs.declared.errno.Errno.TheVariants.{EFAULT, EINVAL, ENOSYS}
use Rattle.file_table.specs.Pipes.{readiness}
use Rattle.file_table.specs.State.{Files}
use Rattle.guest_pages.specs.Faults.{first_fault, readable, writable}
use Rattle.guest_pages.specs.Operations.{bytes_at}
use Rattle.host_calls.specs.Answers.{Answered, Refusal, argument, refusal, refuses}
use Rattle.host_calls.specs.declared.pieces.Piece.{Piece}
use Rattle.host_calls.specs.Pieces.{any_bad, piece, scattered, stored_of, with_stored}
use Rattle.host_calls.specs.Shared.{Shared}
use Rattle.host_waits.specs.declared.wait.Polled.{Polled}
use Rattle.host_waits.specs.declared.wait.WaitKind.TheVariants.{Poll}
use Rattle.host_waits.specs.Begun.{Entered, answering, entered_unless, waiting}
use Rattle.host_waits.specs.Times.{is_bad_limit, is_wrong_limit, limit_after}
use Rattle.host_waits.specs.Waits.{Wait, for_time, is_past}

-- an entry of eight bytes: a descriptor of four, and the bits that are asked for, of two; the two behind are for the answer
abbrev pub polled_in : List ℕ → Polled
polled_in bytes = record { fd = little_number 4 bytes; asked = little_number 2 (drop 4 bytes) }

-- so many of them, one behind another
unfoldable pub entries_in : ℕ → List ℕ → List Polled
entries_in zero bytes = []
entries_in (suc count) bytes = polled_in bytes ∷ entries_in count (drop 8 bytes)

-- the bits of an entry: those of readiness to read, 1, and to write, 4, where they are asked for, the others always; a negative
-- descriptor has none
abbrev pub bits_of : Files → Polled → ℕ
bits_of files entry = if nat_le (2 ^ 31) entry.fd then 0 else bit_and (readiness entry.fd files) (bit_or entry.asked 56)

abbrev pub has_bits : Files → Polled → Bool
has_bits files entry = not (bits_of files entry == 0)

-- where the bits of each entry go, and the bits
unfoldable pub answer_places : ℕ → List Polled → List Piece
answer_places at [] = []
answer_places at (entry ∷ entries) = piece ((at + 6) % 2 ^ 64) 2 ∷ answer_places ((at + 8) % 2 ^ 64) entries

unfoldable pub answer_bytes : Files → List Polled → List ℕ
answer_bytes files [] = []
answer_bytes files (entry ∷ entries) = little_bytes 2 (bits_of files entry) ++ answer_bytes files entries

-- how many entries have bits
unfoldable pub count_ready : Files → List Polled → ℕ
count_ready files [] = 0
count_ready files (entry ∷ entries) = (if has_bits files entry then 1 else 0) + count_ready files entries

-- the bits go into the entries, as stores of the thread
abbrev pub told_at : ℕ → List Piece → List Polled → Shared → Answered
told_at thread places entries shared =
    if any_bad writable shared.memory places then refuses EFAULT shared
    else record {
      shared = with_stored (scattered thread places (answer_bytes shared.files entries) (stored_of shared)) shared;
      answer = pos (count_ready shared.files entries);
    }

abbrev pub tells : ℕ → ℕ → List Polled → Shared → Answered
tells thread at entries shared = told_at thread (answer_places at entries) entries shared

-- some entry has bits, or the deadline is there
abbrev pub is_polled_now : Wait → Shared → Bool
is_polled_now wait shared = list_any (has_bits shared.files) wait.polled || is_past shared.clock wait.deadline

abbrev pub poll_refusals : ℕ → ℕ → ℕ → Shared → List Refusal
poll_refusals at count limit shared =
    refusal (nat_lt 256 count) EINVAL
    ∷ refusal (is_some (first_fault readable shared.memory at (8 * count))) EFAULT
    ∷ refusal (is_some (first_fault writable shared.memory at (8 * count))) EFAULT
    ∷ refusal (is_bad_limit limit shared.memory) EFAULT
    ∷ refusal (is_wrong_limit limit shared.memory) EINVAL
    ∷ []

abbrev pub entries_at : ℕ → ℕ → Shared → List Polled
entries_at at count shared = entries_in count (bytes_at shared.memory at (8 * count))

abbrev pub polls_or_waits : ℕ → Wait → Shared → Entered
polls_or_waits thread wait shared =
    if is_polled_now wait shared then answering (tells thread (argument 0 wait.call.args) wait.polled shared) else waiting wait shared

abbrev pub polls : ℕ → ℕ → ℕ → ℕ → Call → Shared → Entered
polls thread at count limit call shared =
    entered_unless (poll_refusals at count limit shared) shared
    (polls_or_waits thread (for_time Poll call (limit_after shared.clock limit shared.memory) (entries_at at count shared)) shared)

-- ppoll(2): a mask isn't there yet
unfoldable pub ppoll : ℕ → Call → Shared → Entered
ppoll thread call shared =
    if argument 3 call.args == 0 then polls thread (argument 0 call.args) (argument 1 call.args) (argument 2 call.args) call shared
    else answering (refuses ENOSYS shared)
