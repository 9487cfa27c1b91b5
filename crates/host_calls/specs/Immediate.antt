-- The calls that never wait: one dispatch over all calls. A call that is not there yet answers ENOSYS, and so would here
-- those that may wait, and those that the core makes itself, which ends threads and makes them.
-- Source: the manual pages of the calls, and syscall(2).
use Rattle.std.specs.Prelude.{ℕ, List}
use Rattle.call_table.specs.declared.call.Call.{Call}
use Rattle.call_table.specs.declared.call.CallNo.{CallNo}
use Rattle.call_table.specs.declared.call.CallNo.TheVariants as call
use Rattle.file_tree.specs.declared.errno.Errno.TheVariants.{ENOSYS}
use Rattle.host_calls.specs.Answers.{Answered, argument, ending, refuses}
use Rattle.host_calls.specs.Descriptors.{close, dup, dup3, fcntl, ioctl, pipe2}
use Rattle.host_calls.specs.Identity.{getpid, getrandom, gettid, prlimit64, sched_yield, uname, user}
use Rattle.host_calls.specs.Maps.{brk, mmap, mprotect, munmap}
use Rattle.host_calls.specs.Moving.{ftruncate, getdents64, lseek, pread64, pwrite64}
use Rattle.host_calls.specs.Paths.{mkdirat, openat, readlinkat, unlinkat}
use Rattle.host_calls.specs.Stat.{fstat, newfstatat}
use Rattle.host_calls.specs.Time.{clock_gettime}
use Rattle.host_calls.specs.Shared.{Shared}

-- what the call with these arguments does
abbrev pub made : CallNo → ℕ → List ℕ → Shared → Answered
made call.Dup thread args shared = dup (argument 0 args) shared
made call.Dup3 thread args shared = dup3 (argument 0 args) (argument 1 args) (argument 2 args) shared
made call.Fcntl thread args shared = fcntl (argument 0 args) (argument 1 args) (argument 2 args) shared
made call.Ioctl thread args shared = ioctl (argument 0 args) shared
made call.Mkdirat thread args shared = mkdirat (argument 0 args) (argument 1 args) shared
made call.Unlinkat thread args shared = unlinkat (argument 0 args) (argument 1 args) (argument 2 args) shared
made call.Ftruncate thread args shared = ftruncate (argument 0 args) (argument 1 args) shared
made call.Openat thread args shared = openat (argument 0 args) (argument 1 args) (argument 2 args) shared
made call.Close thread args shared = close (argument 0 args) shared
made call.Pipe2 thread args shared = pipe2 thread (argument 0 args) (argument 1 args) shared
made call.Getdents64 thread args shared = getdents64 thread (argument 0 args) (argument 1 args) (argument 2 args) shared
made call.Lseek thread args shared = lseek (argument 0 args) (argument 1 args) (argument 2 args) shared
made call.Read thread args shared = refuses ENOSYS shared
made call.Write thread args shared = refuses ENOSYS shared
made call.Readv thread args shared = refuses ENOSYS shared
made call.Writev thread args shared = refuses ENOSYS shared
made call.Pread64 thread args shared = pread64 thread (argument 0 args) (argument 1 args) (argument 2 args) (argument 3 args) shared
made call.Pwrite64 thread args shared = pwrite64 (argument 0 args) (argument 1 args) (argument 2 args) (argument 3 args) shared
made call.Ppoll thread args shared = refuses ENOSYS shared
made call.Readlinkat thread args shared = readlinkat (argument 0 args) (argument 1 args) shared
made call.Newfstatat thread args shared = newfstatat thread (argument 0 args) (argument 1 args) (argument 2 args) (argument 3 args) shared
made call.Fstat thread args shared = fstat thread (argument 0 args) (argument 1 args) shared
made call.Exit thread args shared = refuses ENOSYS shared
made call.ExitGroup thread args shared = refuses ENOSYS shared
made call.SetTidAddress thread args shared = refuses ENOSYS shared
made call.Futex thread args shared = refuses ENOSYS shared
made call.SetRobustList thread args shared = refuses ENOSYS shared
made call.Nanosleep thread args shared = refuses ENOSYS shared
made call.Setitimer thread args shared = refuses ENOSYS shared
made call.ClockGettime thread args shared = clock_gettime thread (argument 0 args) (argument 1 args) shared
made call.ClockNanosleep thread args shared = refuses ENOSYS shared
made call.SchedYield thread args shared = sched_yield shared
made call.Kill thread args shared = refuses ENOSYS shared
made call.Tkill thread args shared = refuses ENOSYS shared
made call.Tgkill thread args shared = refuses ENOSYS shared
made call.Sigaltstack thread args shared = refuses ENOSYS shared
made call.RtSigsuspend thread args shared = refuses ENOSYS shared
made call.RtSigaction thread args shared = refuses ENOSYS shared
made call.RtSigprocmask thread args shared = refuses ENOSYS shared
made call.RtSigpending thread args shared = refuses ENOSYS shared
made call.RtSigtimedwait thread args shared = refuses ENOSYS shared
made call.RtSigqueueinfo thread args shared = refuses ENOSYS shared
made call.RtSigreturn thread args shared = refuses ENOSYS shared
made call.Uname thread args shared = uname thread (argument 0 args) shared
made call.Getpid thread args shared = getpid shared
made call.Getuid thread args shared = user shared
made call.Geteuid thread args shared = user shared
made call.Getgid thread args shared = user shared
made call.Getegid thread args shared = user shared
made call.Gettid thread args shared = gettid thread shared
made call.Brk thread args shared = brk (argument 0 args) shared
made call.Munmap thread args shared = munmap (argument 0 args) (argument 1 args) shared
made call.Clone thread args shared = refuses ENOSYS shared
made call.Mmap thread args shared = mmap (argument 0 args) (argument 1 args) (argument 2 args) (argument 3 args) (argument 4 args) (argument 5 args) shared
made call.Mprotect thread args shared = mprotect (argument 0 args) (argument 1 args) (argument 2 args) shared
made call.RtTgsigqueueinfo thread args shared = refuses ENOSYS shared
made call.Prlimit64 thread args shared = prlimit64 thread (argument 0 args) (argument 1 args) (argument 2 args) (argument 3 args) shared
made call.Getrandom thread args shared = getrandom thread (argument 0 args) (argument 1 args) shared

-- the call of a thread
unfoldable pub immediate : ℕ → Call → Shared → Answered
immediate thread call shared = ending thread (made call.no thread call.args shared)
