-- Whole pages, and the program's break.
-- Source: mmap(2) (lengths are rounded up to whole pages), brk(2); that a break has at most 64 MiB is the project's own.
use Rattle.std.specs.Prelude.{◌≡◌, ◌≤◌, ℕ, ◌+◌, ◌*◌, ◌/◌, ◌%◌}
use Rattle.guest_pages.specs.Limits.{page_size, user_end}
use Rattle.host_calls.specs.Shared.{ProgramBreak}

-- the pages of so many bytes, and their bytes
abbrev pub pages_of : ℕ → ℕ
pages_of length = (length + 4095) / page_size

abbrev pub rounded_up : ℕ → ℕ
rounded_up length = page_size * pages_of length

-- the most bytes of a break: 64 MiB
abbrev pub most_break : ℕ
most_break = 0x4000000

-- the break of a program that ends at an address
abbrev pub break_behind : ℕ → ProgramBreak
break_behind top = record { first = rounded_up top; present = rounded_up top }

pub record IsBreak (first present : ℕ) : Type 0 where
  pub aligned : first % 4096 ≡ 0
  pub room : first + most_break ≤ user_end
  pub low : first ≤ present
  pub high : present ≤ first + most_break
