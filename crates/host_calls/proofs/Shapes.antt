-- What each shape of call owes.
use Rattle.std.proofs.Common.{◌≡◌, ◌⊎◌, ℕ, zero, suc, ◌+◌, ◌-◌, ◌*◌, ◌≤◌, ◌==◌, ◌||◌, Bool, true, false, cond, nat_lt, min, ℤ, pos, List, [], ◌∷◌, length, Option, Some, None, Result, Ok, Err, inl, inr, refl, sym, subst, ap, ◌∙◌, set, get_or, append-nil, arith}
use Rattle.std.proofs.lemmas.Bool.Decides.{nat_tests}
use Rattle.std.proofs.lemmas.List.{set-get_or}
use Rattle.file_tree.specs.declared.errno.Errno.{Errno}
use Rattle.file_tree.specs.declared.errno.Errno.TheVariants.{EACCES, ENOMEM}
use Rattle.file_table.specs.State.{Files, OnlyDie, outputs_of}
use Rattle.file_table.proofs.OutputFacts.{GoesOn, Kept}
use Rattle.futex_table.specs.declared.waiter.Waiter.{Waiter}
use Rattle.guest_pages.specs.declared.fault.PageFault.{PageFault}
use Rattle.guest_pages.specs.Apart.{IsApart, Stays}
use Rattle.guest_pages.specs.Cells.{Cell}
use Rattle.guest_pages.specs.Faults.{changeable, first_fault, writable}
use Rattle.guest_pages.specs.Finding.{any_cell, any_mapped, free_place, highest_free, is_code, is_mapped, touches_code}
use Rattle.guest_pages.specs.Limits.{page_size, user_end}
use Rattle.guest_pages.specs.Operations.{placed, protected, unmapped, written}
use Rattle.guest_pages.specs.Random.{random_bytes}
use Rattle.guest_pages.specs.Ranges.{Range, cell_at}
use Rattle.guest_pages.proofs.ApartFacts.{placed_stays, protected_stays, same_stays, unmapped_stays, written_stays}
use Rattle.word_memory.specs.declared.reservations.Held.{Held}
use Rattle.word_memory.specs.Reservations.{reserving, stored_to, touches, unless_touched}
use Rattle.host_calls.specs.Answers.{Answered, Refusal, answers, refuses, stored, stored_unless, unless, unreserved}
use Rattle.host_calls.specs.Breaks.{most_break, pages_of, rounded_up}
use Rattle.host_calls.specs.Files.{with_files}
use Rattle.host_calls.specs.Identity.{drew, getrandom, limit_refusals, limits, prlimit64, told_limit}
use Rattle.host_calls.specs.Maps.{brk, contents, filled, is_fixed, is_outside, lowered, mapped_with, mmap, mmap_refusals, mprotect, mprotect_refusals, munmap, munmap_refusals, part_inside, placed_anywhere, placed_at, placed_fixed, placed_free, placed_so, raised, rights_of, same_break, too_many, unplaced, with_break, with_memory}
use Rattle.host_calls.specs.Owes.{Ended, Grows, NoneJoins, OnlyEnd, Owes}
use Rattle.host_calls.specs.Queue.{OnlySends, Queue}
use Rattle.host_calls.specs.Shared.{Shared}
use Rattle.host_calls.proofs.FillFacts.{filled_stays}
use Rattle.host_calls.specs.Time.{clock_gettime, clock_refusals, time_bytes}

-- ---- parts

pub same_grows : (old new : List (List ℕ)) → new ≡ old → Grows old new
same_grows old new same = record {
  device = 0;
  more = [];
  grown = same ∙ sym (ap (λ bytes. set old 0 bytes) (append-nil (get_or old 0 [])) ∙ set-get_or old 0 []);
}

pub same_sends : (old new : Queue) → new ≡ old → OnlySends old new
same_sends old new same = record {
  sent = [];
  pending = ap (λ (queue : Queue). queue.pending) same ∙ sym (append-nil old.pending);
  ids = ap (λ (queue : Queue). queue.next_id) same;
}

-- a reservation stands as it was, or has ended
abbrev pub Eased : Held → Held → Type 0
Eased old new = (new.thread ≡ old.thread) × (new.reserved ≡ None ⊎ new.reserved ≡ old.reserved)

abbrev pub AllEased : List Held → List Held → Type 0
AllEased [] [] = Unit {0}
AllEased (old ∷ olds) (new ∷ news) = Eased old new × AllEased olds news
AllEased [] (new ∷ news) = ⊥
AllEased (old ∷ olds) [] = ⊥

pub eased_same : (held : List Held) → AllEased held held
eased_same [] = tt
eased_same (first ∷ held) = ((refl, inr refl), eased_same held)

touched_by : (start size : ℕ) (old reserved : Option ℕ) → reserved ≡ None ⊎ reserved ≡ old → (unless_touched start size reserved ≡ None) ⊎ (unless_touched start size reserved ≡ old)
touched_by start size old None was = inl refl
touched_by start size old (Some at) was = either_way (touches start size at)
  where
    either_way : (touched : Bool) → (cond touched None (Some at) ≡ None) ⊎ (cond touched None (Some at) ≡ old)
    either_way true = inl refl
    either_way false = was

stored_by : (own : Bool) (start size : ℕ) (old new : Held) → Eased old new → Eased old (cond own new (record { thread = new.thread; reserved = unless_touched start size new.reserved }))
stored_by true start size old new eased = eased
stored_by false start size old new eased = (eased.0, touched_by start size old.reserved new.reserved eased.1)

-- a store of the thread ends some
pub eased_store : (thread start size : ℕ) (olds news : List Held) → AllEased olds news → AllEased olds (stored_to thread start size news)
unfolding stored_to
eased_store thread start size [] [] eased = tt
eased_store thread start size [] (new ∷ news) eased = absurd eased
eased_store thread start size (old ∷ olds) [] eased = absurd eased
eased_store thread start size (old ∷ olds) (new ∷ news) eased =
    (stored_by (new.thread == thread) start size old new eased.0, eased_store thread start size olds news eased.1)

ended_by : (own : Bool) (thread : ℕ) (old new : Held) → (new.thread == thread) ≡ own → Eased old new → Ended thread old (cond own (record { thread = new.thread; reserved = None }) new)
ended_by true thread old new is eased = (eased.0, inl refl)
ended_by false thread old new is eased = (
  eased.0,
  elim eased.1 [
    | inl none ↦ inl none
    | inr same ↦ inr (same, ap (λ (t : ℕ). t == thread) (sym eased.0) ∙ is)
  ],
)

-- and its own ends with the call
pub eased_end : (thread : ℕ) (olds news : List Held) → AllEased olds news → OnlyEnd thread olds (reserving thread None news)
unfolding reserving
eased_end thread [] [] eased = tt
eased_end thread [] (new ∷ news) eased = absurd eased
eased_end thread (old ∷ olds) [] eased = absurd eased
eased_end thread (old ∷ olds) (new ∷ news) eased = (ended_by (new.thread == thread) thread old new refl eased.0, eased_end thread olds news eased.1)

-- files that are the same keep what they owe
same_kept : (old new : Files) → new ≡ old → Kept old new
same_kept old new same = subst (Kept old) (sym same) (refl, λ device lives. lives)

same_joins : (thread : ℕ) (old new : List Waiter) → new ≡ old → NoneJoins thread old new
same_joins thread old new same = subst (NoneJoins thread old) (sym same) (λ other apart held. held)

pub own_ends : (thread : ℕ) (held : List Held) → OnlyEnd thread held (reserving thread None held)
own_ends thread held = eased_end thread held held (eased_same held)

-- ---- shapes

-- it answers, and changes nothing
pub answers_alone : (thread : ℕ) (shared : Shared) → Owes thread shared (unreserved thread shared)
answers_alone thread shared = record {
  memory = λ apart. same_stays shared.memory shared.memory apart refl;
  outputs = same_grows (outputs_of shared.files) (outputs_of shared.files) refl;
  lives = λ device lives. lives;
  held = own_ends thread shared.held;
  futexes = λ other apart held. held;
  queue = same_sends shared.queue shared.queue refl;
  clock = refl;
}

-- it changes memory, and stores nothing that others may have reserved
pub changes_memory : (thread : ℕ) (old new : Shared) → (IsApart old.memory → Stays old.memory new.memory) → new.held ≡ old.held → new.files ≡ old.files → new.queue ≡ old.queue → new.clock ≡ old.clock → new.futexes ≡ old.futexes → Owes thread old (unreserved thread new)
changes_memory thread old new stays held files queue clock futexes = record {
  memory = stays;
  outputs = same_grows (outputs_of old.files) (outputs_of new.files) (ap outputs_of files);
  lives = (same_kept old.files new.files files).1;
  held = subst (λ (h : List Held). OnlyEnd thread old.held (reserving thread None h)) (sym held) (own_ends thread old.held);
  futexes = same_joins thread old.futexes new.futexes futexes;
  queue = same_sends old.queue new.queue queue;
  clock = clock;
}

-- it stores bytes, which may end reservations of others, and may go on in files
pub stores_all : (thread : ℕ) (old new : Shared) → (IsApart old.memory → Stays old.memory new.memory) → AllEased old.held new.held → Kept old.files new.files → new.queue ≡ old.queue → new.clock ≡ old.clock → new.futexes ≡ old.futexes → Owes thread old (unreserved thread new)
stores_all thread old new stays held files queue clock futexes = record {
  memory = stays;
  outputs = same_grows (outputs_of old.files) (outputs_of new.files) files.0;
  lives = files.1;
  held = eased_end thread old.held new.held held;
  futexes = same_joins thread old.futexes new.futexes futexes;
  queue = same_sends old.queue new.queue queue;
  clock = clock;
}

pub stores_bytes : (thread at : ℕ) (bytes : List ℕ) (old new : Shared) → first_fault writable old.memory at (length bytes) ≡ None → new.memory ≡ written at bytes old.memory → new.held ≡ stored_to thread at (length bytes) old.held → new.files ≡ old.files → new.queue ≡ old.queue → new.clock ≡ old.clock → new.futexes ≡ old.futexes → Owes thread old (unreserved thread new)
stores_bytes thread at bytes old new good memory held files queue clock futexes = stores_all thread old new
    (λ apart. subst (Stays old.memory) (sym memory) (written_stays at bytes old.memory apart good))
    (subst (AllEased old.held) (sym held) (eased_store thread at (length bytes) old.held old.held (eased_same old.held)))
    (same_kept old.files new.files files) queue clock futexes

-- it changes files, and writes nothing to devices
pub changes_files : (thread : ℕ) (files : Files) (shared : Shared) → Kept shared.files files → Owes thread shared (unreserved thread (with_files files shared))
changes_files thread files shared same = record {
  memory = λ apart. same_stays shared.memory shared.memory apart refl;
  outputs = same_grows (outputs_of shared.files) (outputs_of files) same.0;
  lives = same.1;
  held = own_ends thread shared.held;
  futexes = λ other apart held. held;
  queue = same_sends shared.queue shared.queue refl;
  clock = refl;
}

-- it wakes and moves those that wait at addresses, or comes to wait itself
pub changes_futexes : (thread : ℕ) (futexes : List Waiter) (shared : Shared) → NoneJoins thread shared.futexes futexes → Owes thread shared (unreserved thread (record shared { futexes = futexes }))
changes_futexes thread futexes shared joins = record {
  memory = λ apart. same_stays shared.memory shared.memory apart refl;
  outputs = same_grows (outputs_of shared.files) (outputs_of shared.files) refl;
  lives = λ device lives. lives;
  held = own_ends thread shared.held;
  futexes = joins;
  queue = same_sends shared.queue shared.queue refl;
  clock = refl;
}

-- it writes to a device
pub writes_out : (thread : ℕ) (files : Files) (shared : Shared) → GoesOn (outputs_of shared.files) (outputs_of files) × OnlyDie shared.files.devices files.devices → Owes thread shared (unreserved thread (with_files files shared))
writes_out thread files shared goes = record {
  memory = λ apart. same_stays shared.memory shared.memory apart refl;
  outputs = record { device = goes.0.0; more = goes.0.1; grown = goes.0.2 };
  lives = goes.1;
  held = own_ends thread shared.held;
  futexes = λ other apart held. held;
  queue = same_sends shared.queue shared.queue refl;
  clock = refl;
}

-- ---- by cases

pub either_owes : (test : Bool) (thread : ℕ) (shared : Shared) (one other : Answered) → (test ≡ true → Owes thread shared (unreserved thread one.shared)) → (test ≡ false → Owes thread shared (unreserved thread other.shared)) → Owes thread shared (unreserved thread (cond test one other).shared)
either_owes true thread shared one other this that = this refl
either_owes false thread shared one other this that = that refl

-- no test of them holds
abbrev pub Passes : List Refusal → Type 0
Passes [] = Unit {0}
Passes (first ∷ refusals) = (first.holds ≡ false) × Passes refusals

-- what is refused answers alone
pub unless_owes : (refusals : List Refusal) (thread : ℕ) (shared : Shared) (answered : Answered) → (Passes refusals → Owes thread shared (unreserved thread answered.shared)) → Owes thread shared (unreserved thread (unless refusals shared answered).shared)
unless_owes [] thread shared answered made = made tt
unless_owes (first ∷ refusals) thread shared answered made =
    either_owes first.holds thread shared (refuses first.errno shared) (unless refusals shared answered) (λ refused. answers_alone thread shared)
    (λ passed. unless_owes refusals thread shared answered (λ passes. made (passed, passes)))

stored_owes : (bad : Option PageFault) (thread at : ℕ) (bytes : List ℕ) (answer : ℤ) (shared : Shared) → first_fault writable shared.memory at (length bytes) ≡ bad → Owes thread shared (unreserved thread (stored_unless bad thread at bytes answer shared).shared)
stored_owes (Some bad) thread at bytes answer shared is = answers_alone thread shared
stored_owes None thread at bytes answer shared is = stores_bytes thread at bytes shared (stored_unless None thread at bytes answer shared).shared is refl refl refl refl refl refl

pub stores : (thread at : ℕ) (bytes : List ℕ) (answer : ℤ) (shared : Shared) → Owes thread shared (unreserved thread (stored thread at bytes answer shared).shared)
unfolding stored
stores thread at bytes answer shared = stored_owes (first_fault writable shared.memory at (length bytes)) thread at bytes answer shared refl

pub tells_time : (thread clock at : ℕ) (shared : Shared) → Owes thread shared (unreserved thread (clock_gettime thread clock at shared).shared)
unfolding clock_gettime
tells_time thread clock at shared = unless_owes (clock_refusals clock) thread shared (stored thread at (time_bytes shared.clock) (pos 0) shared) (λ passes. stores thread at _ _ shared)

pub tells_limit : (thread pid resource new old : ℕ) (shared : Shared) → Owes thread shared (unreserved thread (prlimit64 thread pid resource new old shared).shared)
unfolding prlimit64
tells_limit thread pid resource new old shared = unless_owes (limit_refusals pid new old shared) thread shared (told_limit thread resource old shared)
    (λ passes. either_owes (old == 0) thread shared (answers (pos 0) shared) (stored thread old (limits resource) (pos 0) shared) (λ none. answers_alone thread shared) (λ some. stores thread old _ _ shared))

drew_owes : (bad : Option PageFault) (thread at : ℕ) (bytes : List ℕ) (shared : Shared) → first_fault writable shared.memory at (length bytes) ≡ bad → Owes thread shared (unreserved thread (drew bad thread at bytes shared).shared)
drew_owes (Some bad) thread at bytes shared is = answers_alone thread shared
drew_owes None thread at bytes shared is = stores_bytes thread at bytes shared (drew None thread at bytes shared).shared is refl refl refl refl refl refl

pub draws : (thread at wish : ℕ) (shared : Shared) → Owes thread shared (unreserved thread (getrandom thread at wish shared).shared)
unfolding getrandom
draws thread at wish shared =
    let bytes = random_bytes shared.drawn (min wish 256) in
    drew_owes (first_fault writable shared.memory at (length bytes)) thread at bytes shared refl

-- ---- maps

pub unmaps : (thread at size : ℕ) (shared : Shared) → Owes thread shared (unreserved thread (munmap at size shared).shared)
unfolding munmap
unmaps thread at size shared = unless_owes (munmap_refusals at size shared) thread shared (answers (pos 0) (with_memory (unmapped at (rounded_up size) shared.memory) shared))
    (λ passes. changes_memory thread shared (with_memory (unmapped at (rounded_up size) shared.memory) shared) (unmapped_stays at (rounded_up size) shared.memory passes.1.0) refl refl refl refl refl)

-- a range within user addresses lies whole within them
whole_inside : (at size : ℕ) → is_outside at size ≡ false → part_inside at size ≡ size
whole_inside at size inside = let low : at + size ≤ user_end = grind (arith, nat_tests) in omega (arith, low)

no_code_whole : (memory : List Range) (at size : ℕ) → touches_code memory at (part_inside at size) ≡ false → is_outside at size ≡ false → touches_code memory at size ≡ false
no_code_whole memory at size none inside = subst (λ (n : ℕ). touches_code memory at n ≡ false) (whole_inside at size inside) none

pub protects : (thread at size protection : ℕ) (shared : Shared) → Owes thread shared (unreserved thread (mprotect at size protection shared).shared)
unfolding mprotect
protects thread at size protection shared = unless_owes (mprotect_refusals at (rounded_up size) protection shared) thread shared (answers (pos 0) (with_memory (protected at (rounded_up size) (rights_of protection) shared.memory) shared))
    (λ passes. changes_memory thread shared (with_memory (protected at (rounded_up size) (rights_of protection) shared.memory) shared)
    (protected_stays at (rounded_up size) (rights_of protection) shared.memory refl (no_code_whole shared.memory at (rounded_up size) passes.1.1.0 passes.1.1.1.0)) refl refl refl refl refl)

no_map_cell : (o : Option Cell) → is_mapped o ≡ false → is_code o ≡ false
no_map_cell None none = refl
no_map_cell (Some c) none = cc

-- what isn't mapped is no code
no_map_no_code : (memory : List Range) (at size : ℕ) → any_mapped memory at size ≡ false → touches_code memory at size ≡ false
unfolding any_cell
no_map_no_code memory at zero none = refl
no_map_no_code memory at (suc size) none = both_by (is_mapped (cell_at memory at)) (any_mapped memory (at + 1) size) (cell_at memory at) refl (no_map_no_code memory (at + 1) size) none
  where
    both_by : (here rest : Bool) (o : Option Cell) → is_mapped o ≡ here → (rest ≡ false → touches_code memory (at + 1) size ≡ false) → (here || rest) ≡ false → (is_code o || touches_code memory (at + 1) size) ≡ false
    both_by true rest o is later none = cc
    both_by false rest o is later none = rw (no_map_cell o is, later none) refl

found_by : (mapped : Bool) (memory : List Range) (count page at : ℕ) → any_mapped memory (4096 * page) (4096 * count) ≡ mapped → (highest_free memory count page ≡ Some at → any_mapped memory at (4096 * count) ≡ false) → cond mapped (highest_free memory count page) (Some (4096 * page)) ≡ Some at → any_mapped memory at (4096 * count) ≡ false
found_by true memory count page at is later same = later same
found_by false memory count page at is later same = let here : 4096 * page ≡ at = cc in rw (← here) is

highest_is_free : (memory : List Range) (count pages at : ℕ) → highest_free memory count pages ≡ Some at → any_mapped memory at (4096 * count) ≡ false
unfolding highest_free
highest_is_free memory count zero at same = cc
highest_is_free memory count (suc page) at same =
    found_by (any_mapped memory (4096 * page) (4096 * count)) memory count page at refl (highest_is_free memory count page at) same

-- a map leaves the code
at_stays : (test : Bool) (at size protection : ℕ) (bytes : List ℕ) (memory : List Range) → touches_code memory at size ≡ false → IsApart memory → Stays memory (cond test (unplaced ENOMEM memory) (record { memory = filled at size bytes (rights_of protection) (placed at size (rights_of protection) memory); answer = pos at })).memory
at_stays true at size protection bytes memory none apart = same_stays memory memory apart refl
at_stays false at size protection bytes memory none apart = filled_stays at size (rights_of protection) bytes memory refl none apart

placed_at_stays : (at size protection : ℕ) (bytes : List ℕ) (memory : List Range) → touches_code memory at size ≡ false → IsApart memory → Stays memory (placed_at at size (rights_of protection) bytes memory).memory
unfolding placed_at
placed_at_stays at size protection bytes memory none apart = at_stays (too_many (placed at size (rights_of protection) memory)) at size protection bytes memory none apart

fixed_by : (code out : Bool) (at size protection : ℕ) (bytes : List ℕ) (memory : List Range) → touches_code memory at (part_inside at size) ≡ code → is_outside at size ≡ out → IsApart memory → Stays memory (cond code (unplaced EACCES memory) (cond out (unplaced ENOMEM memory) (placed_at at size (rights_of protection) bytes memory))).memory
fixed_by true out at size protection bytes memory code-is out-is apart = same_stays memory memory apart refl
fixed_by false true at size protection bytes memory code-is out-is apart = same_stays memory memory apart refl
fixed_by false false at size protection bytes memory code-is out-is apart = placed_at_stays at size protection bytes memory (no_code_whole memory at size code-is out-is) apart

free_stays : (place : Option ℕ) (count protection : ℕ) (bytes : List ℕ) (memory : List Range) → free_place memory count ≡ place → IsApart memory → Stays memory (placed_free place (page_size * count) (rights_of protection) bytes memory).memory
free_stays None count protection bytes memory is apart = same_stays memory memory apart refl
free_stays (Some at) count protection bytes memory is apart =
    placed_at_stays at (page_size * count) protection bytes memory (no_map_no_code memory at (4096 * count) (highest_is_free memory count _ at is)) apart

so_by : (fixed : Bool) (at count protection : ℕ) (bytes : List ℕ) (memory : List Range) → IsApart memory → Stays memory (cond fixed (placed_fixed at (page_size * count) (rights_of protection) bytes memory) (placed_anywhere count (rights_of protection) bytes memory)).memory
unfolding placed_fixed placed_anywhere
so_by true at count protection bytes memory apart = fixed_by (touches_code memory at (part_inside at (page_size * count))) (is_outside at (page_size * count)) at (page_size * count) protection bytes memory refl refl apart
so_by false at count protection bytes memory apart = free_stays (free_place memory count) count protection bytes memory refl apart

with_owes : (r : Result (List ℕ) Errno) (thread at count protection flags : ℕ) (shared : Shared) → Owes thread shared (unreserved thread (mapped_with at count (rights_of protection) flags r shared).shared)
with_owes (Err errno) thread at count protection flags shared = answers_alone thread shared
with_owes (Ok bytes) thread at count protection flags shared =
    changes_memory thread shared (with_memory (placed_so at count (rights_of protection) flags bytes shared.memory).memory shared) (so_by (is_fixed flags) at count protection bytes shared.memory) refl refl refl refl refl

pub maps : (thread at size protection flags descriptor offset : ℕ) (shared : Shared) → Owes thread shared (unreserved thread (mmap at size protection flags descriptor offset shared).shared)
unfolding mmap
maps thread at size protection flags descriptor offset shared = unless_owes (mmap_refusals at size protection flags descriptor offset shared) thread shared _
    (λ passes. with_owes (contents flags descriptor offset (rounded_up size) shared.files) thread at (pages_of size) protection flags shared)

-- ---- the break

first_false : (one other : Bool) → (one || other) ≡ false → one ≡ false
first_false false other none = refl
first_false true other none = cc

raised_owes : (thread address from size : ℕ) (shared : Shared) → Owes thread shared (unreserved thread (raised address from size shared).shared)
unfolding raised
raised_owes thread address from size shared =
    either_owes (any_mapped shared.memory from size || too_many (placed from size changeable shared.memory)) thread shared (same_break shared)
    (answers (pos address) (with_break address (placed from size changeable shared.memory) shared)) (λ refused. answers_alone thread shared)
    (λ free. changes_memory thread shared (with_break address (placed from size changeable shared.memory) shared) (placed_stays from size changeable shared.memory refl (no_map_no_code shared.memory from size (first_false _ _ free))) refl refl refl refl refl)

lowered_owes : (thread address from size : ℕ) (shared : Shared) → Owes thread shared (unreserved thread (lowered address from size shared).shared)
unfolding lowered
lowered_owes thread address from size shared =
    either_owes (touches_code shared.memory from size) thread shared (same_break shared)
    (answers (pos address) (with_break address (unmapped from size shared.memory) shared)) (λ code. answers_alone thread shared)
    (λ none. changes_memory thread shared (with_break address (unmapped from size shared.memory) shared) (unmapped_stays from size shared.memory none) refl refl refl refl refl)

pub moves_break : (thread wish : ℕ) (shared : Shared) → Owes thread shared (unreserved thread (brk wish shared).shared)
unfolding brk
moves_break thread wish shared =
    let first = shared.program_break.first in
    let old = rounded_up shared.program_break.present in
    let new = rounded_up wish in
    either_owes (nat_lt wish first || nat_lt (first + most_break) wish) thread shared (same_break shared)
    (cond (nat_lt old new) (raised wish old (new - old) shared) (lowered wish new (old - new) shared)) (λ out. answers_alone thread shared)
    (λ within. either_owes (nat_lt old new) thread shared (raised wish old (new - old) shared) (lowered wish new (old - new) shared)
    (λ up. raised_owes thread wish old (new - old) shared) (λ down. lowered_owes thread wish new (old - new) shared))
