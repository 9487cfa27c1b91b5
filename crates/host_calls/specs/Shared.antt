-- What a system has beside its threads: a Linux process has it, and calls change it. A field is the record of its owner.
-- Source: signal(7), open(2) and the manual pages of the calls; virtual time, which goes on by 100 ns at a step, is the
-- project's own.
use Rattle.std.specs.Prelude.{ℕ, zero, suc, ◌+◌, ◌-◌, ◌^◌, ◌++◌, [], min, List, slice_set, slice_index_or}
use Rattle.guest_pages.specs.Ranges.{Range}
use Rattle.word_memory.specs.declared.reservations.Held.{Held}
use Rattle.file_table.specs.State.{Files}
use Rattle.futex_table.specs.declared.waiter.Waiter.{Waiter}
use Rattle.host_calls.specs.Queue.{Queue}

-- the program's break: where it can begin, on a page's boundary, and where it is
pub record ProgramBreak : Type 0 where
  pub first : ℕ
  pub present : ℕ

pub record Shared : Type 0 where
  pub memory : List Range
  -- the reservations of threads
  pub held : List Held
  -- the tree, the descriptors with what they lead to, and the devices
  pub files : Files
  -- the threads that wait at addresses, in the order in which they came
  pub futexes : List Waiter
  pub queue : Queue
  pub program_break : ProgramBreak
  -- how many random bytes were drawn
  pub drawn : ℕ
  -- in nanoseconds
  pub clock : ℕ

-- bytes behind a device's output
abbrev pub with_output : ℕ → List ℕ → List (List ℕ) → List (List ℕ)
with_output device bytes outputs = slice_set outputs device (slice_index_or outputs device [] ++ bytes)

-- time goes on by 100 ns, at most to its type's end
abbrev pub later_clock : ℕ → ℕ
later_clock clock = min (clock + 100) (2 ^ 64 - 1)

-- so many times
unfoldable pub clock_after : ℕ → ℕ → ℕ
clock_after zero clock = clock
clock_after (suc count) clock = later_clock (clock_after count clock)

abbrev pub later : Shared → Shared
later shared = record shared { clock = later_clock shared.clock }
