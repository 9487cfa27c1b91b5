-- Number and call undo each other.
use Rattle.std.proofs.Common.{◌≡◌, ℕ, ◌==◌, Bool, true, false, cond, List, [], ◌∷◌, Option, Some, None, refl, arith}
use Rattle.std.specs.List.{find}
use Rattle.std.proofs.lemmas.Bool.Decides.{nat_tests}
use Rattle.call_table.specs.declared.call.CallNo.{CallNo}
use Rattle.call_table.specs.declared.call.CallNo.TheVariants as call
use Rattle.call_table.specs.Table.{call_of, calls, number_of}

-- the call of a call's number is the call
pub found : (c : CallNo) → call_of (number_of c) ≡ Some c
unfolding call_of
found call.Dup = refl
found call.Dup3 = refl
found call.Fcntl = refl
found call.Ioctl = refl
found call.Mkdirat = refl
found call.Unlinkat = refl
found call.Ftruncate = refl
found call.Openat = refl
found call.Close = refl
found call.Pipe2 = refl
found call.Getdents64 = refl
found call.Lseek = refl
found call.Read = refl
found call.Write = refl
found call.Readv = refl
found call.Writev = refl
found call.Pread64 = refl
found call.Pwrite64 = refl
found call.Ppoll = refl
found call.Readlinkat = refl
found call.Newfstatat = refl
found call.Fstat = refl
found call.Exit = refl
found call.ExitGroup = refl
found call.SetTidAddress = refl
found call.Futex = refl
found call.SetRobustList = refl
found call.Nanosleep = refl
found call.Setitimer = refl
found call.ClockGettime = refl
found call.ClockNanosleep = refl
found call.SchedYield = refl
found call.Kill = refl
found call.Tkill = refl
found call.Tgkill = refl
found call.Sigaltstack = refl
found call.RtSigsuspend = refl
found call.RtSigaction = refl
found call.RtSigprocmask = refl
found call.RtSigpending = refl
found call.RtSigtimedwait = refl
found call.RtSigqueueinfo = refl
found call.RtSigreturn = refl
found call.Uname = refl
found call.Getpid = refl
found call.Getuid = refl
found call.Geteuid = refl
found call.Getgid = refl
found call.Getegid = refl
found call.Gettid = refl
found call.Brk = refl
found call.Munmap = refl
found call.Clone = refl
found call.Mmap = refl
found call.Mprotect = refl
found call.RtTgsigqueueinfo = refl
found call.Prlimit64 = refl
found call.Getrandom = refl

first_by : (test : Bool) (number : ℕ) (first c : CallNo) (others : Option CallNo) → (number == number_of first) ≡ test → (others ≡ Some c → number_of c ≡ number) → cond test (Some first) others ≡ Some c → number_of c ≡ number
first_by true number first c others is rest same = let this : first ≡ c = cc in rw (← this) (grind (arith, nat_tests))
first_by false number first c others is rest same = rest same

first_has : (list : List CallNo) (number : ℕ) (c : CallNo) → find (λ call. number == number_of call) list ≡ Some c → number_of c ≡ number
first_has [] number c same = cc
first_has (first ∷ list) number c same = first_by (number == number_of first) number first c (find (λ call. number == number_of call) list) refl (first_has list number c) same

-- the number of a number's call is the number
pub undone : (number : ℕ) (c : CallNo) → call_of number ≡ Some c → number_of c ≡ number
unfolding call_of
undone number c same = first_has calls number c same
