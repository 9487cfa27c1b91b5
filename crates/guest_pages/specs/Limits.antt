-- The addresses and the limits of a process. An address is that of a byte.
-- The project's own, but for the size of a page, which is that of the machine.
use Rattle.std.specs.Prelude.{ℕ, ◌^◌}

-- the bytes of a page
abbrev pub page_size : ℕ
page_size = 4096

-- user addresses are below this
abbrev pub user_end : ℕ
user_end = 2 ^ 38

-- the most pages with a right
abbrev pub most_pages : ℕ
most_pages = 65536

-- the page through which handlers of signals return
abbrev pub trampoline : ℕ
trampoline = 0x3FFFFFF000

-- the address behind the first stack, and its bytes: 8 MiB
abbrev pub stack_end : ℕ
stack_end = 0x3FFFFFE000

abbrev pub stack_length : ℕ
stack_length = 0x800000

-- the most bytes of the texts and the words of the first stack
abbrev pub most_stack_bytes : ℕ
most_stack_bytes = 131072

-- a file's segments begin at this address or above
abbrev pub segments_start : ℕ
segments_start = 0x1000

-- segments, and maps whose place is free, end at this address or below
abbrev pub maps_end : ℕ
maps_end = 0x3F00000000

-- where a position-independent file stands
abbrev pub shared_object_base : ℕ
shared_object_base = 0x2000000000
