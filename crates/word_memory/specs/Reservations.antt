-- The reservations of threads: each thread has at most one, of an aligned doubleword. A store of another thread that
-- touches the doubleword ends it, whatever it writes.
-- Source: the RISC-V unprivileged manual, "Load-Reserved/Store-Conditional Instructions"; the size of 8 bytes, and that
-- only stores of other threads end a reservation, are the project's own.
use Rattle.std.specs.Prelude.{ℕ, ◌+◌, ◌-◌, ◌%◌, Bool, false, not, ◌&&◌, ◌==◌, nat_lt, if◌then◌else◌, List, [], ◌∷◌, ◌++◌, map, is_some, Option, Some, None}
use Rattle.std.specs.List.{filter, list_any}
use Rattle.word_memory.specs.declared.reservations.Held.{Held}

-- the aligned doubleword of an address
abbrev pub doubleword : ℕ → ℕ
doubleword address = address - address % 8

-- some of the length bytes from start on are in the doubleword
abbrev pub touches : ℕ → ℕ → ℕ → Bool
touches start length at = nat_lt 0 length && (nat_lt start (at + 8) && nat_lt at (start + length))

abbrev pub unless_touched : ℕ → ℕ → Option ℕ → Option ℕ
unless_touched start length None = None
unless_touched start length (Some at) = if touches start length at then None else Some at

abbrev pub with_reservation : ℕ → Option ℕ → Held → Held
with_reservation thread reserved held =
    if held.thread == thread then record { thread = held.thread; reserved = reserved } else held

-- the thread has this reservation, or none
unfoldable pub reserving : ℕ → Option ℕ → List Held → List Held
reserving thread reserved held = map (λ h. with_reservation thread reserved h) held

-- a thread without a reservation joins
unfoldable pub joined : ℕ → List Held → List Held
joined thread held = held ++ (record { thread = thread; reserved = None } ∷ [])

-- the thread leaves
unfoldable pub left : ℕ → List Held → List Held
left thread held = filter (λ h. not (h.thread == thread)) held

-- what a store of the thread leaves of one
abbrev pub after_store : ℕ → ℕ → ℕ → Held → Held
after_store thread start length held =
    if held.thread == thread then held else record { thread = held.thread; reserved = unless_touched start length held.reserved }

-- a store of the thread ends what it touches of others
unfoldable pub stored_to : ℕ → ℕ → ℕ → List Held → List Held
stored_to thread start length held = map (λ h. after_store thread start length h) held

abbrev pub is_at : ℕ → Option ℕ → Bool
is_at at None = false
is_at at (Some reserved) = reserved == at

abbrev pub holds : ℕ → ℕ → Held → Bool
holds thread at held = (held.thread == thread) && is_at at held.reserved

-- the thread's reservation of the doubleword stands
unfoldable pub stands : ℕ → ℕ → List Held → Bool
stands thread at held = list_any (λ h. holds thread at h) held

-- the thread is one of those that joined
unfoldable pub is_there : ℕ → List Held → Bool
is_there thread held = list_any (λ h. h.thread == thread) held

-- some thread has a reservation
abbrev pub any_reserved : List Held → Bool
any_reserved held = list_any (λ h. is_some h.reserved) held
