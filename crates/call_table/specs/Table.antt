-- The table of system calls: each with its number, and what it is about.
-- Source: Linux's generic system call table (include/uapi/asm-generic/unistd.h), which RISC-V has; the families are the
-- project's own.
use Rattle.std.specs.Prelude.{ℕ, ◌==◌, List, [], ◌∷◌, Option}
use Rattle.std.specs.List.{find}
use Rattle.call_table.specs.declared.call.CallNo.{CallNo}
use Rattle.call_table.specs.declared.call.CallNo.TheVariants as call

-- what a call is about
pub data Family : Type 0 where
  -- who and where the process is, and what it draws
  Identity : Family
  -- time
  Clock : Family
  -- the memory and its maps
  Memory : Family
  -- the tree of files
  Files : Family
  -- open descriptors
  Descriptors : Family
  -- sending, taking and masking signals
  Signals : Family
  -- making and ending threads
  Threads : Family
  -- calls that wait for others alone
  Waits : Family

pub record Row : Type 0 where
  pub number : ℕ
  pub family : Family

abbrev pub row : ℕ → Family → Row
row number family = record { number = number; family = family }

abbrev pub row_of : CallNo → Row
row_of call.Dup = row 23 Descriptors
row_of call.Dup3 = row 24 Descriptors
row_of call.Fcntl = row 25 Descriptors
row_of call.Ioctl = row 29 Descriptors
row_of call.Mkdirat = row 34 Files
row_of call.Unlinkat = row 35 Files
row_of call.Ftruncate = row 46 Files
row_of call.Openat = row 56 Files
row_of call.Close = row 57 Descriptors
row_of call.Pipe2 = row 59 Descriptors
row_of call.Getdents64 = row 61 Files
row_of call.Lseek = row 62 Descriptors
row_of call.Read = row 63 Descriptors
row_of call.Write = row 64 Descriptors
row_of call.Readv = row 65 Descriptors
row_of call.Writev = row 66 Descriptors
row_of call.Pread64 = row 67 Descriptors
row_of call.Pwrite64 = row 68 Descriptors
row_of call.Ppoll = row 73 Waits
row_of call.Readlinkat = row 78 Files
row_of call.Newfstatat = row 79 Files
row_of call.Fstat = row 80 Files
row_of call.Exit = row 93 Threads
row_of call.ExitGroup = row 94 Threads
row_of call.SetTidAddress = row 96 Threads
row_of call.Futex = row 98 Waits
row_of call.SetRobustList = row 99 Threads
row_of call.Nanosleep = row 101 Waits
row_of call.Setitimer = row 103 Clock
row_of call.ClockGettime = row 113 Clock
row_of call.ClockNanosleep = row 115 Waits
row_of call.SchedYield = row 124 Identity
row_of call.Kill = row 129 Signals
row_of call.Tkill = row 130 Signals
row_of call.Tgkill = row 131 Signals
row_of call.Sigaltstack = row 132 Signals
row_of call.RtSigsuspend = row 133 Waits
row_of call.RtSigaction = row 134 Signals
row_of call.RtSigprocmask = row 135 Signals
row_of call.RtSigpending = row 136 Signals
row_of call.RtSigtimedwait = row 137 Waits
row_of call.RtSigqueueinfo = row 138 Signals
row_of call.RtSigreturn = row 139 Signals
row_of call.Uname = row 160 Identity
row_of call.Getpid = row 172 Identity
row_of call.Getuid = row 174 Identity
row_of call.Geteuid = row 175 Identity
row_of call.Getgid = row 176 Identity
row_of call.Getegid = row 177 Identity
row_of call.Gettid = row 178 Identity
row_of call.Brk = row 214 Memory
row_of call.Munmap = row 215 Memory
row_of call.Clone = row 220 Threads
row_of call.Mmap = row 222 Memory
row_of call.Mprotect = row 226 Memory
row_of call.RtTgsigqueueinfo = row 240 Signals
row_of call.Prlimit64 = row 261 Identity
row_of call.Getrandom = row 278 Identity

-- the calls that the table has, by rising number
abbrev pub calls : List CallNo
calls =
    call.Dup ∷ call.Dup3 ∷ call.Fcntl ∷ call.Ioctl ∷ call.Mkdirat ∷ call.Unlinkat ∷ call.Ftruncate ∷ call.Openat ∷
    call.Close ∷ call.Pipe2 ∷ call.Getdents64 ∷ call.Lseek ∷ call.Read ∷ call.Write ∷ call.Readv ∷ call.Writev ∷
    call.Pread64 ∷ call.Pwrite64 ∷ call.Ppoll ∷ call.Readlinkat ∷ call.Newfstatat ∷ call.Fstat ∷ call.Exit ∷
    call.ExitGroup ∷ call.SetTidAddress ∷ call.Futex ∷ call.SetRobustList ∷ call.Nanosleep ∷ call.Setitimer ∷
    call.ClockGettime ∷ call.ClockNanosleep ∷ call.SchedYield ∷ call.Kill ∷ call.Tkill ∷ call.Tgkill ∷
    call.Sigaltstack ∷ call.RtSigsuspend ∷ call.RtSigaction ∷ call.RtSigprocmask ∷ call.RtSigpending ∷
    call.RtSigtimedwait ∷ call.RtSigqueueinfo ∷ call.RtSigreturn ∷ call.Uname ∷ call.Getpid ∷ call.Getuid ∷
    call.Geteuid ∷ call.Getgid ∷ call.Getegid ∷ call.Gettid ∷ call.Brk ∷ call.Munmap ∷ call.Clone ∷ call.Mmap ∷
    call.Mprotect ∷ call.RtTgsigqueueinfo ∷ call.Prlimit64 ∷ call.Getrandom ∷ []

abbrev pub number_of : CallNo → ℕ
number_of call = (row_of call).number

abbrev pub family_of : CallNo → Family
family_of call = (row_of call).family

-- the first call with that number, none where the table doesn't have it
unfoldable pub call_of : ℕ → Option CallNo
call_of number = find (λ call. number == number_of call) calls
