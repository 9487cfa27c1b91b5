-- What comes of each call: of one that may wait its answer or its wait, of another its answer.
-- Source: the manual pages of the calls, and syscall(2).
use Rattle.std.specs.Prelude.{ℕ, Option, Some, None}
use Rattle.call_table.specs.declared.call.Call.{Call}
use Rattle.call_table.specs.declared.call.CallNo.{CallNo}
use Rattle.call_table.specs.declared.call.CallNo.TheVariants as call
use Rattle.host_calls.specs.Immediate.{immediate}
use Rattle.host_calls.specs.Shared.{Shared}
use Rattle.host_waits.specs.declared.beginning.MayWait.{MayWait}
use Rattle.host_waits.specs.declared.beginning.MayWait.TheVariants as may
use Rattle.host_waits.specs.Begun.{Entered, answering, let_go}
use Rattle.host_waits.specs.Futexes.{futex}
use Rattle.host_waits.specs.Moving.{read, readv, write, writev}
use Rattle.host_waits.specs.Polling.{ppoll}
use Rattle.host_waits.specs.Sleeping.{clock_nanosleep, nanosleep}

-- which of the calls that may wait
abbrev pub may_wait : CallNo → Option MayWait
may_wait call.Read = Some may.Read
may_wait call.Readv = Some may.Readv
may_wait call.Write = Some may.Write
may_wait call.Writev = Some may.Writev
may_wait call.Futex = Some may.Futex
may_wait call.Nanosleep = Some may.Nanosleep
may_wait call.ClockNanosleep = Some may.ClockNanosleep
may_wait call.Ppoll = Some may.Ppoll
may_wait call.Dup = None
may_wait call.Dup3 = None
may_wait call.Fcntl = None
may_wait call.Ioctl = None
may_wait call.Mkdirat = None
may_wait call.Unlinkat = None
may_wait call.Ftruncate = None
may_wait call.Openat = None
may_wait call.Close = None
may_wait call.Pipe2 = None
may_wait call.Getdents64 = None
may_wait call.Lseek = None
may_wait call.Pread64 = None
may_wait call.Pwrite64 = None
may_wait call.Readlinkat = None
may_wait call.Newfstatat = None
may_wait call.Fstat = None
may_wait call.Exit = None
may_wait call.ExitGroup = None
may_wait call.SetTidAddress = None
may_wait call.SetRobustList = None
may_wait call.Setitimer = None
may_wait call.ClockGettime = None
may_wait call.SchedYield = None
may_wait call.Kill = None
may_wait call.Tkill = None
may_wait call.Tgkill = None
may_wait call.Sigaltstack = None
may_wait call.RtSigsuspend = None
may_wait call.RtSigaction = None
may_wait call.RtSigprocmask = None
may_wait call.RtSigpending = None
may_wait call.RtSigtimedwait = None
may_wait call.RtSigqueueinfo = None
may_wait call.RtSigreturn = None
may_wait call.Uname = None
may_wait call.Getpid = None
may_wait call.Getuid = None
may_wait call.Geteuid = None
may_wait call.Getgid = None
may_wait call.Getegid = None
may_wait call.Gettid = None
may_wait call.Brk = None
may_wait call.Munmap = None
may_wait call.Clone = None
may_wait call.Mmap = None
may_wait call.Mprotect = None
may_wait call.RtTgsigqueueinfo = None
may_wait call.Prlimit64 = None
may_wait call.Getrandom = None

abbrev pub entered_as : MayWait → ℕ → Call → Shared → Entered
entered_as may.Read thread call shared = read thread call shared
entered_as may.Readv thread call shared = readv thread call shared
entered_as may.Write thread call shared = write call shared
entered_as may.Writev thread call shared = writev call shared
entered_as may.Futex thread call shared = futex thread call shared
entered_as may.Nanosleep thread call shared = nanosleep call shared
entered_as may.ClockNanosleep thread call shared = clock_nanosleep call shared
entered_as may.Ppoll thread call shared = ppoll thread call shared

abbrev pub entered_by : Option MayWait → ℕ → Call → Shared → Entered
entered_by None thread call shared = answering (immediate thread call shared)
entered_by (Some waits) thread call shared = let_go thread (entered_as waits thread call shared)

-- the call of a thread
unfoldable pub entered : ℕ → Call → Shared → Entered
entered thread call shared = entered_by (may_wait call.no) thread call shared
