-- Times up to which a call waits.
-- Source: nanosleep(2), clock_nanosleep(2), futex(2), ppoll(2): seconds and nanoseconds, of eight bytes each. That a deadline
-- past 2^63 - 1 nanoseconds is there is the project's own.
use Rattle.std.specs.Prelude.{ℕ, ◌+◌, ◌*◌, ◌-◌, ◌^◌, ◌==◌, nat_le, min, Bool, ◌&&◌, ◌||◌, not, if◌then◌else◌, List, drop, is_some, Option, Some, None}
use Rattle.byteorder.specs.Endian.{little_number}
use Rattle.guest_pages.specs.Faults.{first_fault, readable}
use Rattle.guest_pages.specs.Operations.{bytes_at}
use Rattle.guest_pages.specs.Ranges.{Range}

abbrev pub seconds_in : List ℕ → ℕ
seconds_in bytes = little_number 8 bytes

abbrev pub nanoseconds_in : List ℕ → ℕ
nanoseconds_in bytes = little_number 8 (drop 8 bytes)

-- a negative second, or nanoseconds that are none of 0 to 999,999,999
abbrev pub is_wrong : List ℕ → Bool
is_wrong bytes = nat_le (2 ^ 63) (seconds_in bytes) || nat_le 1000000000 (nanoseconds_in bytes)

-- that many nanoseconds after a time
abbrev pub time_after : ℕ → List ℕ → ℕ
time_after start bytes = min (start + (seconds_in bytes * 1000000000 + nanoseconds_in bytes)) (2 ^ 63 - 1)

-- a time's bytes in memory
abbrev pub time_at : ℕ → List Range → List ℕ
time_at at memory = bytes_at memory at 16

-- the 16 bytes can't be read
abbrev pub is_bad : ℕ → List Range → Bool
is_bad at memory = is_some (first_fault readable memory at 16)

-- ---- a time that needn't be given: its address is 0 then

abbrev pub is_bad_limit : ℕ → List Range → Bool
is_bad_limit at memory = not (at == 0) && is_bad at memory

abbrev pub is_wrong_limit : ℕ → List Range → Bool
is_wrong_limit at memory = not (at == 0) && is_wrong (time_at at memory)

abbrev pub limit_after : ℕ → ℕ → List Range → Option ℕ
limit_after start at memory = if at == 0 then None else Some (time_after start (time_at at memory))
