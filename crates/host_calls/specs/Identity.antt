-- Who and where a process is, and what it draws.
-- Source: getpid(2), gettid(2), getuid(2), getgid(2), sched_yield(2), uname(2), getrlimit(2), getrandom(2). That ids are 1000,
-- the names, the limits and the random bytes are the project's own, and that getrandom passes over its flags.
use Rattle.std.specs.Prelude.{ℕ, ◌+◌, ◌-◌, ◌%◌, ◌^◌, ◌==◌, min, not, ◌&&◌, ◌||◌, if◌then◌else◌, pos, List, [], ◌∷◌, ◌++◌, length, replicate, codes, is_some, Option, Some, None}
use Rattle.byteorder.specs.Endian.{little_bytes}
use Rattle.file_tree.specs.declared.errno.Errno.TheVariants.{EFAULT, EPERM, ESRCH}
use Rattle.guest_pages.specs.Random.{random_bytes}
use Rattle.guest_pages.specs.declared.fault.PageFault.{PageFault}
use Rattle.guest_pages.specs.Faults.{first_fault, writable}
use Rattle.guest_pages.specs.Operations.{written}
use Rattle.word_memory.specs.Reservations.{stored_to}
use Rattle.host_calls.specs.Answers.{Answered, Refusal, answers, refusal, refuses, stored, unless}
use Rattle.host_calls.specs.Shared.{Shared}

-- getpid(2)
abbrev pub getpid : Shared → Answered
getpid shared = answers (pos 1000) shared

-- gettid(2)
abbrev pub gettid : ℕ → Shared → Answered
gettid thread shared = answers (pos thread) shared

-- getuid(2), geteuid(2), getgid(2), getegid(2)
abbrev pub user : Shared → Answered
user shared = answers (pos 1000) shared

-- sched_yield(2)
abbrev pub sched_yield : Shared → Answered
sched_yield shared = answers (pos 0) shared

-- a name in 65 bytes, with zeros behind it
abbrev pub name_field : List ℕ → List ℕ
name_field name = name ++ replicate (65 - length name) 0

-- uname(2): the system, the node, its release and version, the machine and the domain
unfoldable pub names : List ℕ
names =
    name_field (codes "Linux") ++ name_field (codes "guest") ++ name_field (codes "5.15.0") ++ name_field (codes "#1")
    ++ name_field (codes "riscv64") ++ name_field (codes "(none)")

abbrev pub uname : ℕ → ℕ → Shared → Answered
uname thread at shared = stored thread at names (pos 0) shared

-- the most that there may be of a resource: 8 MiB of stack, 256 descriptors, and of others any number
abbrev pub limit_of : ℕ → ℕ
limit_of resource = if resource == 3 then 8388608 else if resource == 7 then 256 else 2 ^ 64 - 1

-- the limit now, and the most that it can be
abbrev pub limits : ℕ → List ℕ
limits resource = little_bytes 8 (limit_of resource) ++ little_bytes 8 (limit_of resource)

-- the limit is told where it is asked for
abbrev pub told_limit : ℕ → ℕ → ℕ → Shared → Answered
told_limit thread resource old shared =
    if old == 0 then answers (pos 0) shared else stored thread old (limits resource) (pos 0) shared

-- prlimit64(2): an address that can't be written goes first, then another process, then a new limit
abbrev pub limit_refusals : ℕ → ℕ → ℕ → Shared → List Refusal
limit_refusals pid new old shared =
    refusal (not (old == 0) && is_some (first_fault writable shared.memory old 16)) EFAULT
    ∷ refusal (not (pid == 0 || pid == 1000)) ESRCH
    ∷ refusal (not (new == 0)) EPERM
    ∷ []

unfoldable pub prlimit64 : ℕ → ℕ → ℕ → ℕ → ℕ → Shared → Answered
prlimit64 thread pid resource new old shared =
    unless (limit_refusals pid new old shared) shared (told_limit thread resource old shared)

-- getrandom(2): at most 256 bytes a call
abbrev pub drew : Option PageFault → ℕ → ℕ → List ℕ → Shared → Answered
drew (Some bad) thread at bytes shared = refuses EFAULT shared
drew None thread at bytes shared = record {
  shared = record shared {
    memory = written at bytes shared.memory;
    held = stored_to thread at (length bytes) shared.held;
    drawn = (shared.drawn + length bytes) % 2 ^ 64;
  };
  answer = pos (length bytes);
}

unfoldable pub getrandom : ℕ → ℕ → ℕ → Shared → Answered
getrandom thread at wish shared =
    let bytes = random_bytes shared.drawn (min wish 256) in
    drew (first_fault writable shared.memory at (length bytes)) thread at bytes shared
