-- What calls on files owe: each by the shape of what it does.
use Rattle.std.proofs.Common.{◌≡◌, ℕ, pos, true, false, ◌==◌, min, List, length, is_some, Option, Some, None, Result, Ok, Err, refl, sym, subst}
use Rattle.std.specs.Int.{w64, cast_signed}
use Rattle.file_tree.specs.declared.errno.Errno.{Errno}
use Rattle.file_table.specs.declared.fault.FileFault.{FileFault}
use Rattle.file_table.specs.declared.state.Opened.{Opened}
use Rattle.file_table.specs.Descriptors.{close as closes, dup as dups, dup_to as dups_to, marked, what, with_flags}
use Rattle.file_table.specs.Due.{Done}
use Rattle.file_table.specs.Entries.{list as lists}
use Rattle.file_table.specs.Flags.{kept}
use Rattle.file_table.specs.Moving.{read as reads, read_at as reads_at, seek as seeks, truncate as truncates, write as writes, write_at as writes_at}
use Rattle.file_table.specs.Opening.{opened}
use Rattle.file_table.specs.Paths.{with_dir, without}
use Rattle.file_table.specs.Pipes.{piped}
use Rattle.file_table.specs.State.{Files}
use Rattle.file_table.proofs.OutputFacts.{Grows, Keeps, close_keeps, dir_keeps, done_files, dup_keeps, dup_to_keeps, flags_keep, list_keeps, marked_keeps, opened_keeps, piped_keeps, read_keeps, seek_keeps, themselves, truncate_keeps, without_keeps, write_at_keeps, write_grows}
use Rattle.file_table.proofs.RoomFacts.{Few, list_few}
use Rattle.guest_pages.specs.Faults.{first_fault, writable}
use Rattle.guest_pages.proofs.ApartFacts.{written_stays}
use Rattle.host_calls.specs.declared.pieces.Piece.{Piece}
use Rattle.host_calls.specs.declared.stat.Status.{Status}
use Rattle.host_calls.specs.Answers.{unreserved}
use Rattle.host_calls.specs.Descriptors.{close, dup, dup3, dup3_refusals, end_bytes, fcntl, ioctl, mark, pipe2, pipe_refusals, told_ends}
use Rattle.host_calls.specs.Files.{answered_by, moved_by, done_by, left_by, told_of, with_files}
use Rattle.host_calls.specs.Moving.{ftruncate, getdents64, listing_refusals, lseek, offset_refusals, pread64, pwrite64, read_into, reading_refusals, taken, taken_at, told_entries, write_from, writing_refusals}
use Rattle.host_calls.specs.Owes.{Owes}
use Rattle.host_calls.specs.Paths.{mkdirat, open_refusals, openat, path_at, path_refusals, readlinkat, unlink_refusals, unlinkat}
use Rattle.host_calls.specs.Pieces.{any_bad, gathered, most_bytes, one_piece, put_in, scattered, stored_of, total, with_stored}
use Rattle.host_calls.specs.Shared.{Shared}
use Rattle.host_calls.specs.Stat.{fstat, newfstatat, opened_status, path_status, room_refusals, stat_refusals, status_bytes, told}
use Rattle.host_calls.proofs.PieceFacts.{no_fault, part_good, scattered_eased, scattered_stays}
use Rattle.host_calls.proofs.Shapes.{answers_alone, changes_files, eased_same, eased_store, either_owes, stores, stores_all, unless_owes, writes_out}

-- ---- answers of the table of files

answered_keeps : (thread : ℕ) (r : Result (Done ℕ) Errno) (shared : Shared) → Keeps done_files shared.files r → Owes thread shared (unreserved thread (answered_by r shared).shared)
answered_keeps thread (Err errno) shared keeps = answers_alone thread shared
answered_keeps thread (Ok it) shared keeps = changes_files thread it.files shared keeps

answered_grows : (thread : ℕ) (r : Result (Done ℕ) FileFault) (shared : Shared) → Grows shared.files r → Owes thread shared (unreserved thread (moved_by r shared).shared)
answered_grows thread (Err fault) shared grows = answers_alone thread shared
answered_grows thread (Ok it) shared grows = writes_out thread it.files shared grows

done_keeps : {A : Type 0} (thread : ℕ) (r : Result (Done A) Errno) (shared : Shared) → Keeps done_files shared.files r → Owes thread shared (unreserved thread (done_by r shared).shared)
done_keeps thread (Err errno) shared keeps = answers_alone thread shared
done_keeps thread (Ok it) shared keeps = changes_files thread it.files shared keeps

left_keeps : (thread : ℕ) (r : Result Files Errno) (shared : Shared) → Keeps themselves shared.files r → Owes thread shared (unreserved thread (left_by r shared).shared)
left_keeps thread (Err errno) shared keeps = answers_alone thread shared
left_keeps thread (Ok files) shared keeps = changes_files thread files shared keeps

told_alone : (thread : ℕ) (o : Option Opened) (tell : Opened → ℕ) (shared : Shared) → Owes thread shared (unreserved thread (told_of o tell shared).shared)
told_alone thread None tell shared = answers_alone thread shared
told_alone thread (Some it) tell shared = answers_alone thread shared

-- ---- descriptors

pub duplicates : (thread fd : ℕ) (shared : Shared) → Owes thread shared (unreserved thread (dup fd shared).shared)
unfolding dup
duplicates thread fd shared = answered_keeps thread (dups fd 0 false shared.files) shared (dup_keeps fd 0 false shared.files)

pub duplicates_to : (thread fd to flags : ℕ) (shared : Shared) → Owes thread shared (unreserved thread (dup3 fd to flags shared).shared)
unfolding dup3
duplicates_to thread fd to flags shared = unless_owes (dup3_refusals flags) thread shared _
    (λ passes. answered_keeps thread (dups_to fd to (flags == 0x80000) shared.files) shared (dup_to_keeps fd to (flags == 0x80000) shared.files))

pub controls : (thread fd command argument : ℕ) (shared : Shared) → Owes thread shared (unreserved thread (fcntl fd command argument shared).shared)
unfolding fcntl
controls thread fd command argument shared =
    either_owes (command == 0) thread shared _ _ (λ is. answered_keeps thread (dups fd argument false shared.files) shared (dup_keeps fd argument false shared.files))
    (λ isn't. either_owes (command == 1030) thread shared _ _ (λ is. answered_keeps thread (dups fd argument true shared.files) shared (dup_keeps fd argument true shared.files))
    (λ isn't. either_owes (command == 1) thread shared _ _ (λ is. told_alone thread (what fd shared.files) mark shared)
    (λ isn't. either_owes (command == 2) thread shared _ _ (λ is. left_keeps thread (marked fd _ shared.files) shared (marked_keeps fd _ shared.files))
    (λ isn't. either_owes (command == 3) thread shared _ _ (λ is. told_alone thread (what fd shared.files) (λ opened. kept opened.flags) shared)
    (λ isn't. either_owes (command == 4) thread shared _ _ (λ is. left_keeps thread (with_flags fd argument shared.files) shared (flags_keep fd argument shared.files)) (λ isn't. answers_alone thread shared))))))

pub no_terminal : (thread fd : ℕ) (shared : Shared) → Owes thread shared (unreserved thread (ioctl fd shared).shared)
unfolding ioctl
no_terminal thread fd shared = either_owes (is_some (what fd shared.files)) thread shared _ _ (λ is. answers_alone thread shared) (λ isn't. answers_alone thread shared)

pub ends_descriptor : (thread fd : ℕ) (shared : Shared) → Owes thread shared (unreserved thread (close fd shared).shared)
unfolding close
ends_descriptor thread fd shared = done_keeps thread (closes fd shared.files) shared (close_keeps fd shared.files)

ends_length : (ends : ℕ × ℕ) → length (end_bytes ends) ≡ 8
unfolding end_bytes
ends_length (reader, writer) = refl

told_ends_owe : (thread at : ℕ) (r : Result (Done (ℕ × ℕ)) Errno) (shared : Shared) → first_fault writable shared.memory at 8 ≡ None → Keeps done_files shared.files r → Owes thread shared (unreserved thread (told_ends thread at r shared).shared)
told_ends_owe thread at (Err errno) shared good keeps = answers_alone thread shared
told_ends_owe thread at (Ok it) shared good keeps =
    stores_all thread shared (with_stored (put_in thread at (end_bytes it.answer) (stored_of shared)) (with_files it.files shared))
    (λ apart. written_stays at (end_bytes it.answer) shared.memory apart (subst (λ (n : ℕ). first_fault writable shared.memory at n ≡ None) (sym (ends_length it.answer)) good))
    (eased_store thread at (length (end_bytes it.answer)) shared.held shared.held (eased_same shared.held)) keeps refl refl refl

pub makes_pipe : (thread at flags : ℕ) (shared : Shared) → Owes thread shared (unreserved thread (pipe2 thread at flags shared).shared)
unfolding pipe2
makes_pipe thread at flags shared = unless_owes (pipe_refusals at flags shared) thread shared _
    (λ passes. told_ends_owe thread at (piped flags shared.files) shared (no_fault _ passes.1.0) (piped_keeps flags shared.files))

-- ---- bytes that are read

taken_owes : (thread : ℕ) (pieces : List Piece) (r : Result (Done (List ℕ)) FileFault) (shared : Shared) → any_bad writable shared.memory pieces ≡ false → Keeps done_files shared.files r → Owes thread shared (unreserved thread (taken thread pieces r shared).shared)
taken_owes thread pieces (Err fault) shared good keeps = answers_alone thread shared
taken_owes thread pieces (Ok it) shared good keeps =
    stores_all thread shared (with_stored (scattered thread pieces it.answer (stored_of shared)) (with_files it.files shared))
    (scattered_stays thread pieces it.answer (stored_of shared) good) (scattered_eased thread pieces it.answer (stored_of shared)) keeps refl refl refl

pub reads_into : (thread fd : ℕ) (pieces : List Piece) (shared : Shared) → Owes thread shared (unreserved thread (read_into thread fd pieces shared).shared)
unfolding read_into
reads_into thread fd pieces shared = unless_owes (reading_refusals fd pieces shared) thread shared _
    (λ passes. taken_owes thread pieces (reads fd (total pieces) shared.files) shared passes.1.0 (read_keeps fd (total pieces) shared.files))

taken_at_owes : (thread : ℕ) (pieces : List Piece) (r : Result (List ℕ) Errno) (shared : Shared) → any_bad writable shared.memory pieces ≡ false → Owes thread shared (unreserved thread (taken_at thread pieces r shared).shared)
taken_at_owes thread pieces (Err errno) shared good = answers_alone thread shared
taken_at_owes thread pieces (Ok bytes) shared good =
    stores_all thread shared (with_stored (scattered thread pieces bytes (stored_of shared)) shared)
    (scattered_stays thread pieces bytes (stored_of shared) good) (scattered_eased thread pieces bytes (stored_of shared)) (refl, λ device lives. lives) refl refl refl

pub reads_at_offset : (thread fd at wish offset : ℕ) (shared : Shared) → Owes thread shared (unreserved thread (pread64 thread fd at wish offset shared).shared)
unfolding pread64
reads_at_offset thread fd at wish offset shared = unless_owes (offset_refusals offset) thread shared _
    (λ lawful. unless_owes (reading_refusals fd (one_piece at wish) shared) thread shared _
    (λ passes. taken_at_owes thread (one_piece at wish) (reads_at fd offset (total (one_piece at wish)) shared.files) shared passes.1.0))

-- ---- bytes that are written

pub writes_from : (thread fd : ℕ) (pieces : List Piece) (shared : Shared) → Owes thread shared (unreserved thread (write_from fd pieces shared).shared)
unfolding write_from
writes_from thread fd pieces shared = unless_owes (writing_refusals fd pieces shared) thread shared _
    (λ passes. answered_grows thread (writes fd (gathered shared.memory pieces) shared.files) shared (write_grows fd (gathered shared.memory pieces) shared.files))

pub writes_at_offset : (thread fd at wish offset : ℕ) (shared : Shared) → Owes thread shared (unreserved thread (pwrite64 fd at wish offset shared).shared)
unfolding pwrite64
writes_at_offset thread fd at wish offset shared = unless_owes (offset_refusals offset) thread shared _
    (λ lawful. unless_owes (writing_refusals fd (one_piece at wish) shared) thread shared _
    (λ passes. answered_keeps thread (writes_at fd offset (gathered shared.memory (one_piece at wish)) shared.files) shared (write_at_keeps fd offset (gathered shared.memory (one_piece at wish)) shared.files)))

-- ---- offsets, sizes and entries

pub moves_offset : (thread fd offset whence : ℕ) (shared : Shared) → Owes thread shared (unreserved thread (lseek fd offset whence shared).shared)
unfolding lseek
moves_offset thread fd offset whence shared = answered_keeps thread (seeks fd (cast_signed w64 offset) whence shared.files) shared (seek_keeps fd (cast_signed w64 offset) whence shared.files)

pub cuts : (thread fd size : ℕ) (shared : Shared) → Owes thread shared (unreserved thread (ftruncate fd size shared).shared)
unfolding ftruncate
cuts thread fd size shared = unless_owes (offset_refusals size) thread shared _ (λ lawful. left_keeps thread (truncates fd size shared.files) shared (truncate_keeps fd size shared.files))

told_owes : (thread at room : ℕ) (r : Result (Done (List ℕ)) Errno) (shared : Shared) → first_fault writable shared.memory at room ≡ None → Few room r → Keeps done_files shared.files r → Owes thread shared (unreserved thread (told_entries thread at r shared).shared)
told_owes thread at room (Err errno) shared good few keeps = answers_alone thread shared
told_owes thread at room (Ok it) shared good few keeps =
    stores_all thread shared (with_stored (put_in thread at it.answer (stored_of shared)) (with_files it.files shared))
    (λ apart. written_stays at it.answer shared.memory apart (part_good writable shared.memory at (length it.answer) room good few))
    (eased_store thread at (length it.answer) shared.held shared.held (eased_same shared.held)) keeps refl refl refl

pub lists_entries : (thread fd at wish : ℕ) (shared : Shared) → Owes thread shared (unreserved thread (getdents64 thread fd at wish shared).shared)
unfolding getdents64
lists_entries thread fd at wish shared = unless_owes (listing_refusals fd at (min wish most_bytes) shared) thread shared _
    (λ passes. told_owes thread at (min wish most_bytes) (lists fd (min wish most_bytes) shared.files) shared (no_fault _ passes.1.0)
    (list_few fd (min wish most_bytes) shared.files) (list_keeps fd (min wish most_bytes) shared.files))

-- ---- paths

pub makes_dir : (thread dir at : ℕ) (shared : Shared) → Owes thread shared (unreserved thread (mkdirat dir at shared).shared)
unfolding mkdirat
makes_dir thread dir at shared = unless_owes (path_refusals (cast_signed w64 dir) (path_at shared.memory at) shared.files) thread shared _
    (λ passes. left_keeps thread (with_dir (cast_signed w64 dir) (path_at shared.memory at).bytes shared.files) shared (dir_keeps (cast_signed w64 dir) (path_at shared.memory at).bytes shared.files))

pub unlinks : (thread dir at flags : ℕ) (shared : Shared) → Owes thread shared (unreserved thread (unlinkat dir at flags shared).shared)
unfolding unlinkat
unlinks thread dir at flags shared = unless_owes (unlink_refusals flags) thread shared _
    (λ known. unless_owes (path_refusals (cast_signed w64 dir) (path_at shared.memory at) shared.files) thread shared _
    (λ passes. left_keeps thread (without (cast_signed w64 dir) (path_at shared.memory at).bytes (flags == 0x200) shared.files) shared (without_keeps (cast_signed w64 dir) (path_at shared.memory at).bytes (flags == 0x200) shared.files)))

pub opens : (thread dir at flags : ℕ) (shared : Shared) → Owes thread shared (unreserved thread (openat dir at flags shared).shared)
unfolding openat
opens thread dir at flags shared = unless_owes (open_refusals flags) thread shared _
    (λ known. unless_owes (path_refusals (cast_signed w64 dir) (path_at shared.memory at) shared.files) thread shared _
    (λ passes. answered_keeps thread (opened (cast_signed w64 dir) (path_at shared.memory at).bytes flags shared.files) shared (opened_keeps (cast_signed w64 dir) (path_at shared.memory at).bytes flags shared.files)))

pub no_links : (thread dir at : ℕ) (shared : Shared) → Owes thread shared (unreserved thread (readlinkat dir at shared).shared)
unfolding readlinkat
no_links thread dir at shared = unless_owes (path_refusals (cast_signed w64 dir) (path_at shared.memory at) shared.files) thread shared _ (λ passes. answers_alone thread shared)

told_status : (thread at : ℕ) (r : Result Status Errno) (shared : Shared) → Owes thread shared (unreserved thread (told thread at r shared).shared)
told_status thread at (Err errno) shared = answers_alone thread shared
told_status thread at (Ok status) shared = stores thread at (status_bytes status) (pos 0) shared

pub tells_open : (thread fd at : ℕ) (shared : Shared) → Owes thread shared (unreserved thread (fstat thread fd at shared).shared)
unfolding fstat
tells_open thread fd at shared = told_status thread at (opened_status (what fd shared.files) shared.files) shared

pub tells_path : (thread dir at into flags : ℕ) (shared : Shared) → Owes thread shared (unreserved thread (newfstatat thread dir at into flags shared).shared)
unfolding newfstatat
tells_path thread dir at into flags shared = unless_owes (stat_refusals flags) thread shared _
    (λ known. unless_owes (path_refusals (cast_signed w64 dir) (path_at shared.memory at) shared.files) thread shared _
    (λ passes. unless_owes (room_refusals into shared) thread shared _
    (λ room. told_status thread into (path_status (cast_signed w64 dir) (path_at shared.memory at).bytes flags shared.files) shared)))
