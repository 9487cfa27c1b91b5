-- What a call that doesn't wait comes to: its answer, and what the system has afterwards.
-- Source: intro(2) and syscall(2): a refusal is the negated number of its error, and nothing changes. That a call ends its
-- thread's reservation is the project's own.
use Rattle.std.specs.Prelude.{ℕ, ℤ, pos, neg_ℤ, Bool, if◌then◌else◌, List, [], ◌∷◌, slice_index, length, Option, Some, None}
use Rattle.file_tree.specs.declared.errno.Errno.{Errno}
use Rattle.file_tree.specs.Errors.{number}
use Rattle.file_tree.specs.declared.errno.Errno.TheVariants.{EFAULT}
use Rattle.guest_pages.specs.declared.fault.PageFault.{PageFault}
use Rattle.guest_pages.specs.Faults.{first_fault, writable}
use Rattle.guest_pages.specs.Operations.{written}
use Rattle.word_memory.specs.Reservations.{reserving, stored_to}
use Rattle.host_calls.specs.Shared.{Shared}

pub record Answered : Type 0 where
  pub shared : Shared
  pub answer : ℤ

-- the argument with a number, from 0 on
abbrev pub argument : ℕ → List ℕ → ℕ
argument number args = slice_index args number

-- an answer, and nothing changes
abbrev pub answers : ℤ → Shared → Answered
answers answer shared = record { shared = shared; answer = answer }

abbrev pub refuses : Errno → Shared → Answered
refuses errno shared = answers (neg_ℤ (pos (number errno))) shared

-- the first of some refusals whose test holds, else the answer
pub record Refusal : Type 0 where
  pub holds : Bool
  pub errno : Errno

abbrev pub refusal : Bool → Errno → Refusal
refusal holds errno = record { holds = holds; errno = errno }

abbrev pub unless : List Refusal → Shared → Answered → Answered
unless [] shared answered = answered
unless (first ∷ refusals) shared answered =
    if first.holds then refuses first.errno shared else unless refusals shared answered

-- bytes go into memory, unless their range has a fault. It counts as a store of the thread
abbrev pub stored_unless : Option PageFault → ℕ → ℕ → List ℕ → ℤ → Shared → Answered
stored_unless (Some bad) thread at bytes answer shared = refuses EFAULT shared
stored_unless None thread at bytes answer shared = record {
  shared = record shared { memory = written at bytes shared.memory; held = stored_to thread at (length bytes) shared.held };
  answer = answer;
}

unfoldable pub stored : ℕ → ℕ → List ℕ → ℤ → Shared → Answered
stored thread at bytes answer shared =
    stored_unless (first_fault writable shared.memory at (length bytes)) thread at bytes answer shared

-- the thread has no reservation
abbrev pub unreserved : ℕ → Shared → Shared
unreserved thread shared = record shared { held = reserving thread None shared.held }

-- a call ends its thread's reservation
abbrev pub ending : ℕ → Answered → Answered
ending thread answered = record answered { shared = unreserved thread answered.shared }
