-- The last entry of a journal.
use Rattle.std.proofs.Common.{◌≡◌, ◌≢◌, ℕ, zero, suc, ◌+◌, ◌≤◌, ◌<◌, List, [], ◌∷◌, ◌++◌, length, replicate, get_or, set, ap, sym, ◌∙◌, subst, append_assoc, append-nil, length-append, arith}
use Rattle.emu_run.specs.declared.journal.Entry.{Entry}
use Rattle.emu_run.specs.Journal.{thread_of, steps_of, counted, all_counted, IsMerged, EndsApart}
use Rattle.std.proofs.lemmas.List.{replicate-append-replicate}
use Rattle.guest_core.specs.declared.events.Event.{Event}

-- more steps of one entry
pub more_steps : (before more : ℕ) (event : Event) → replicate (before + more) event ≡ replicate before event ++ replicate more event
more_steps before more event = sym (replicate-append-replicate before more event)

-- one more entry
pub all_counted_more : (entries : List Entry) (entry : Entry) → all_counted (entries ++ entry ∷ []) ≡ all_counted entries ++ counted entry
all_counted_more [] entry = append-nil (counted entry)
all_counted_more (first ∷ entries) entry =
    ap (λ events. counted first ++ events) (all_counted_more entries entry) ∙ sym (append_assoc (counted first) (all_counted entries) (counted entry))

-- the last entry's events are among all
pub last_fits : (entries : List Entry) (last : ℕ) (d : Entry) → last + 1 ≡ length entries → length (counted (get_or entries last d)) ≤ length (all_counted entries)
last_fits [] last d at = absurd (omega arith)
last_fits (first ∷ entries) zero d at = rw (length-append (counted first) (all_counted entries)) (omega arith)
last_fits (first ∷ entries) (suc last) d at =
    let rest = last_fits entries last d (omega arith) in
    rw (length-append (counted first) (all_counted entries)) (omega arith)

-- where the last entry gains events, so do all
pub last_set : (entries : List Entry) (last : ℕ) (d entry : Entry) (more : List Event) → last + 1 ≡ length entries → counted entry ≡ counted (get_or entries last d) ++ more → all_counted (set entries last entry) ≡ all_counted entries ++ more
last_set [] last d entry more at gains = absurd (omega arith)
last_set (first ∷ []) zero d entry more at gains =
    append-nil (counted entry) ∙ gains ∙ ap (λ events. events ++ more) (sym (append-nil (counted first)))
last_set (first ∷ next ∷ entries) zero d entry more at gains = absurd (omega arith)
last_set (first ∷ entries) (suc last) d entry more at gains =
    ap (λ events. counted first ++ events) (last_set entries last d entry more (omega arith) gains)
    ∙ sym (append_assoc (counted first) (all_counted entries) more)

-- ---- one list of entries for each list of events

-- the last entry grows
pub merged_set : (entries : List Entry) (last : ℕ) (d entry : Entry) → last + 1 ≡ length entries → thread_of entry ≡ thread_of (get_or entries last d) → 0 < steps_of entry → IsMerged entries → IsMerged (set entries last entry)
merged_set [] last d entry at same some merged = absurd (omega arith)
merged_set (first ∷ []) zero d entry at same some merged = some
merged_set (first ∷ []) (suc last) d entry at same some merged = absurd (omega arith)
merged_set (first ∷ next ∷ entries) zero d entry at same some merged = absurd (omega arith)
merged_set (first ∷ next ∷ []) (suc zero) d entry at same some merged =
    (merged.0, subst (λ (thread : ℕ). thread_of first ≢ thread) (sym same) merged.1, some)
merged_set (first ∷ next ∷ []) (suc (suc last)) d entry at same some merged = absurd (omega arith)
merged_set (first ∷ next ∷ third ∷ entries) (suc zero) d entry at same some merged = absurd (omega arith)
merged_set (first ∷ next ∷ third ∷ entries) (suc (suc last)) d entry at same some merged =
    (merged.0, merged.1, merged_set (next ∷ third ∷ entries) (suc last) d entry (omega arith) same some merged.2)

-- an entry of another thread is added
pub merged_push : (entries : List Entry) (entry : Entry) → EndsApart entries (thread_of entry) → 0 < steps_of entry → IsMerged entries → IsMerged (entries ++ entry ∷ [])
merged_push [] entry apart some merged = some
merged_push (first ∷ []) entry apart some merged = (merged, apart, some)
merged_push (first ∷ next ∷ entries) entry apart some merged =
    (merged.0, merged.1, merged_push (next ∷ entries) entry apart some merged.2)

-- where the last entry is of another thread
pub ends_apart : (entries : List Entry) (last thread : ℕ) (d : Entry) → last + 1 ≡ length entries → thread_of (get_or entries last d) ≢ thread → EndsApart entries thread
ends_apart [] last thread d at apart = tt
ends_apart (first ∷ []) zero thread d at apart = apart
ends_apart (first ∷ []) (suc last) thread d at apart = absurd (omega arith)
ends_apart (first ∷ next ∷ entries) zero thread d at apart = absurd (omega arith)
ends_apart (first ∷ next ∷ entries) (suc last) thread d at apart = ends_apart (next ∷ entries) last thread d (omega arith) apart
