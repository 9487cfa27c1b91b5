-- The flags with which a file is opened, and those that its description keeps.
-- Source: open(2), fcntl(2). That unnamed bits are passed over is the project's own.
use Rattle.std.specs.Prelude.{ℕ, ◌%◌, ◌==◌, Bool, ◌||◌, bit_and, bit_or}

abbrev pub has : ℕ → ℕ → Bool
has flags bit = bit_and flags bit == bit

abbrev pub access : ℕ → ℕ
access flags = flags % 4

-- what is open for reading alone, or for both, can be read
abbrev pub can_read : ℕ → Bool
can_read flags = (access flags == 0) || (access flags == 2)

abbrev pub can_write : ℕ → Bool
can_write flags = (access flags == 1) || (access flags == 2)

abbrev pub creates : ℕ → Bool
creates flags = has flags 0x40

abbrev pub is_exclusive : ℕ → Bool
is_exclusive flags = has flags 0x80

abbrev pub truncates : ℕ → Bool
truncates flags = has flags 0x200

abbrev pub appends : ℕ → Bool
appends flags = has flags 0x400

abbrev pub never_waits : ℕ → Bool
never_waits flags = has flags 0x800

abbrev pub wants_directory : ℕ → Bool
wants_directory flags = has flags 0x10000

abbrev pub closes_on_exec : ℕ → Bool
closes_on_exec flags = has flags 0x80000

-- flags that can't be had: both access bits, a place in the tree alone, a file without a name
abbrev pub are_wrong : ℕ → Bool
are_wrong flags = (access flags == 3) || (has flags 0x200000 || has flags 0x400000)

-- the flags by which a directory would be written
abbrev pub changes : ℕ → Bool
changes flags = can_write flags || (creates flags || truncates flags)

-- what a description keeps: access, append, no wait, and three that change nothing
abbrev pub kept : ℕ → ℕ
kept flags = bit_and flags 0x38C03

-- those that fcntl sets: append and no wait
abbrev pub with_status : ℕ → ℕ → ℕ
with_status given flags = bit_or (bit_and flags 0x38003) (bit_and given 0xC00)
