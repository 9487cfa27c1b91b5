-- Every call owes what calls owe: each by the shape of what it does.
use Rattle.std.proofs.Common.{◌≡◌, ℕ, ℤ, List, Result, Ok, Err, IfOk, ap, subst, sym}
use Rattle.call_table.specs.declared.call.Call.{Call}
use Rattle.call_table.specs.declared.call.CallNo.{CallNo}
use Rattle.call_table.specs.declared.call.CallNo.TheVariants as call
use Rattle.host_calls.specs.Answers.{Answered, unreserved}
use Rattle.host_calls.specs.Immediate.{immediate, made}
use Rattle.host_calls.specs.Owes.{Owes}
use Rattle.host_calls.specs.Shared.{Shared}
use Rattle.host_calls.proofs.Shapes.{answers_alone, draws, maps, moves_break, protects, stores, tells_limit, tells_time, unmaps}
use Rattle.host_calls.proofs.FileShapes.{controls, cuts, duplicates, duplicates_to, ends_descriptor, lists_entries, makes_dir, makes_pipe, moves_offset, no_links, no_terminal, opens, reads_at_offset, tells_open, tells_path, unlinks, writes_at_offset}

made_owes : (call : CallNo) (thread : ℕ) (args : List ℕ) (shared : Shared) → Owes thread shared (unreserved thread (made call thread args shared).shared)
made_owes call.Dup thread args shared = duplicates thread _ shared
made_owes call.Dup3 thread args shared = duplicates_to thread _ _ _ shared
made_owes call.Fcntl thread args shared = controls thread _ _ _ shared
made_owes call.Ioctl thread args shared = no_terminal thread _ shared
made_owes call.Mkdirat thread args shared = makes_dir thread _ _ shared
made_owes call.Unlinkat thread args shared = unlinks thread _ _ _ shared
made_owes call.Ftruncate thread args shared = cuts thread _ _ shared
made_owes call.Openat thread args shared = opens thread _ _ _ shared
made_owes call.Close thread args shared = ends_descriptor thread _ shared
made_owes call.Pipe2 thread args shared = makes_pipe thread _ _ shared
made_owes call.Getdents64 thread args shared = lists_entries thread _ _ _ shared
made_owes call.Lseek thread args shared = moves_offset thread _ _ _ shared
made_owes call.Read thread args shared = answers_alone thread shared
made_owes call.Write thread args shared = answers_alone thread shared
made_owes call.Readv thread args shared = answers_alone thread shared
made_owes call.Writev thread args shared = answers_alone thread shared
made_owes call.Pread64 thread args shared = reads_at_offset thread _ _ _ _ shared
made_owes call.Pwrite64 thread args shared = writes_at_offset thread _ _ _ _ shared
made_owes call.Ppoll thread args shared = answers_alone thread shared
made_owes call.Readlinkat thread args shared = no_links thread _ _ shared
made_owes call.Newfstatat thread args shared = tells_path thread _ _ _ _ shared
made_owes call.Fstat thread args shared = tells_open thread _ _ shared
made_owes call.Exit thread args shared = answers_alone thread shared
made_owes call.ExitGroup thread args shared = answers_alone thread shared
made_owes call.SetTidAddress thread args shared = answers_alone thread shared
made_owes call.Futex thread args shared = answers_alone thread shared
made_owes call.SetRobustList thread args shared = answers_alone thread shared
made_owes call.Nanosleep thread args shared = answers_alone thread shared
made_owes call.Setitimer thread args shared = answers_alone thread shared
made_owes call.ClockGettime thread args shared = tells_time thread _ _ shared
made_owes call.ClockNanosleep thread args shared = answers_alone thread shared
made_owes call.SchedYield thread args shared = answers_alone thread shared
made_owes call.Kill thread args shared = answers_alone thread shared
made_owes call.Tkill thread args shared = answers_alone thread shared
made_owes call.Tgkill thread args shared = answers_alone thread shared
made_owes call.Sigaltstack thread args shared = answers_alone thread shared
made_owes call.RtSigsuspend thread args shared = answers_alone thread shared
made_owes call.RtSigaction thread args shared = answers_alone thread shared
made_owes call.RtSigprocmask thread args shared = answers_alone thread shared
made_owes call.RtSigpending thread args shared = answers_alone thread shared
made_owes call.RtSigtimedwait thread args shared = answers_alone thread shared
made_owes call.RtSigqueueinfo thread args shared = answers_alone thread shared
made_owes call.RtSigreturn thread args shared = answers_alone thread shared
made_owes call.Uname thread args shared = stores thread _ _ _ shared
made_owes call.Getpid thread args shared = answers_alone thread shared
made_owes call.Getuid thread args shared = answers_alone thread shared
made_owes call.Geteuid thread args shared = answers_alone thread shared
made_owes call.Getgid thread args shared = answers_alone thread shared
made_owes call.Getegid thread args shared = answers_alone thread shared
made_owes call.Gettid thread args shared = answers_alone thread shared
made_owes call.Brk thread args shared = moves_break thread _ shared
made_owes call.Munmap thread args shared = unmaps thread _ _ shared
made_owes call.Clone thread args shared = answers_alone thread shared
made_owes call.Mmap thread args shared = maps thread _ _ _ _ _ _ shared
made_owes call.Mprotect thread args shared = protects thread _ _ _ shared
made_owes call.RtTgsigqueueinfo thread args shared = answers_alone thread shared
made_owes call.Prlimit64 thread args shared = tells_limit thread _ _ _ _ shared
made_owes call.Getrandom thread args shared = draws thread _ _ shared

pub immediate_owes : (thread : ℕ) (call : Call) (shared : Shared) → Owes thread shared (immediate thread call shared).shared
unfolding immediate
immediate_owes thread call shared = made_owes call.no thread call.args shared

owes_so : (thread : ℕ) (call : Call) (old new : Shared) (answer : ℤ) → record { shared = new; answer = answer } ≡ immediate thread call old → Owes thread old new
owes_so thread call old new answer is = subst (Owes thread old) (sym (ap (λ (answered : Answered). answered.shared) is)) (immediate_owes thread call old)

-- the same where the call was made
pub owes_if : {E : Type 0} (result : Result ℤ E) (thread : ℕ) (call : Call) (old new : Shared) → IfOk result (λ answer. record { shared = new; answer = answer } ≡ immediate thread call old) → IfOk result (λ answer. Owes thread old new)
owes_if (Ok answer) thread call old new is = owes_so thread call old new answer is
owes_if (Err error) thread call old new is = is
