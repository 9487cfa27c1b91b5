-- Which row fits, by what the code looks at, and what it comes to.
use Rattle.std.proofs.Common.{◌≡◌, Bool, true, false, ℤ, Some, None, refl, ap, ◌∙◌}
use Rattle.std.specs.Option.{option_map}
use Rattle.guest_core.specs.declared.places.Place.TheVariants.{Loop, Start, Window, Done}
use Rattle.host_calls.specs.declared.queue.Instance.{Instance}
use Rattle.host_calls.specs.Marks.{first_new}
use Rattle.host_calls.specs.Queue.{first_of, is_empty}
use Rattle.guest_core.specs.Machine.{Thread}
use Rattle.guest_core.specs.Rows.{Row, Note, Take, ClearFlag, Execute, Check, Enter, Return, IsSteady, RowIsSteady, check_row, checked, clear_row, done, due_now, enter_row, entered, execute_row, executed, flag_cleared, note_row, return_row, returned, row_of, take_row}
use Rattle.guest_core.specs.State.{NotesDue, TakesDue, row_after, settled_after}
use Rattle.guest_core.specs.System.{After, Context}
use Rattle.guest_core.proofs.AheadFacts.{ready_is}

row_gives : (row : Row) (context : Context Thread) (after : After Thread) → row_of context ≡ Some row → settled_after context.id (done row context) ≡ after → row_after context ≡ Some after
row_gives row context after fits is =
    ap (option_map (λ one. settled_after context.id (done one context))) fits ∙ ap (λ (a : After Thread). Some a) is

note_fits : (context : Context Thread) (instance : Instance) → first_new (due_now context) context.self.noted ≡ Some instance → row_of context ≡ Some (Note instance)
unfolding row_of note_row
note_fits context instance first = rw first refl

pub note_after : (context : Context Thread) (after : After Thread) → NotesDue context after → row_after context ≡ Some after
note_after context after notes = row_gives (Note notes.instance) context after (note_fits context notes.instance notes.first) notes.is

pub execute_after : (context : Context Thread) (after : After Thread) → first_new (due_now context) context.self.noted ≡ None → context.self.place ≡ Loop → context.self.flag ≡ false → settled_after context.id (executed context) ≡ after → row_after context ≡ Some after
execute_after context after none loop clear is = row_gives Execute context after (ready_is context none loop clear) is

-- ---- the others, by the flag and by whether anything is noted

check_by : (flag empty : Bool) (context : Context Thread) → context.self.flag ≡ flag → is_empty context.self.noted ≡ empty → first_new (due_now context) context.self.noted ≡ None → context.self.place ≡ Start → row_of context ≡ Some Check
unfolding row_of note_row take_row clear_row execute_row check_row
check_by true true context is are none at = rw (none, is, are, at) refl
check_by true false context is are none at = rw (none, is, are, at) refl
check_by false empty context is are none at = rw (none, is, at) refl

pub check_after : (context : Context Thread) (after : After Thread) → first_new (due_now context) context.self.noted ≡ None → context.self.place ≡ Start → settled_after context.id (checked context) ≡ after → row_after context ≡ Some after
check_after context after none at is =
    row_gives Check context after (check_by context.self.flag (is_empty context.self.noted) context refl refl none at) is

enter_by : (flag empty : Bool) (context : Context Thread) → context.self.flag ≡ flag → is_empty context.self.noted ≡ empty → first_new (due_now context) context.self.noted ≡ None → context.self.place ≡ Window → row_of context ≡ Some Enter
unfolding row_of note_row take_row clear_row execute_row check_row enter_row
enter_by true true context is are none at = rw (none, is, are, at) refl
enter_by true false context is are none at = rw (none, is, are, at) refl
enter_by false empty context is are none at = rw (none, is, at) refl

enter_fits : (context : Context Thread) → first_new (due_now context) context.self.noted ≡ None → context.self.place ≡ Window → row_of context ≡ Some Enter
enter_fits context none at = enter_by context.self.flag (is_empty context.self.noted) context refl refl none at

pub enter_after : (context : Context Thread) (after : After Thread) → first_new (due_now context) context.self.noted ≡ None → context.self.place ≡ Window → settled_after context.id (entered context) ≡ after → row_after context ≡ Some after
enter_after context after none at is = row_gives Enter context after (enter_fits context none at) is

return_by : (answer : ℤ) (flag empty : Bool) (context : Context Thread) → context.self.flag ≡ flag → is_empty context.self.noted ≡ empty → first_new (due_now context) context.self.noted ≡ None → context.self.place ≡ Done answer → row_of context ≡ Some (Return answer)
unfolding row_of note_row take_row clear_row execute_row check_row enter_row return_row
return_by answer true true context is are none at = rw (none, is, are, at) refl
return_by answer true false context is are none at = rw (none, is, are, at) refl
return_by answer false empty context is are none at = rw (none, is, at) refl

pub return_after : (answer : ℤ) (context : Context Thread) (after : After Thread) → first_new (due_now context) context.self.noted ≡ None → context.self.place ≡ Done answer → settled_after context.id (returned answer context) ≡ after → row_after context ≡ Some after
return_after answer context after none at is =
    row_gives (Return answer) context after (return_by answer context.self.flag (is_empty context.self.noted) context refl refl none at) is

take_fits : (context : Context Thread) (instance : Instance) → first_new (due_now context) context.self.noted ≡ None → context.self.place ≡ Loop → context.self.flag ≡ true → is_empty context.self.noted ≡ false → first_of (due_now context) ≡ Some instance → row_of context ≡ Some (Take instance)
unfolding row_of note_row take_row
take_fits context instance none at set are first = rw (none, set, are, at, first) refl

pub take_after : (context : Context Thread) (after : After Thread) → first_new (due_now context) context.self.noted ≡ None → context.self.place ≡ Loop → context.self.flag ≡ true → is_empty context.self.noted ≡ false → TakesDue context after → row_after context ≡ Some after
take_after context after none at set are takes =
    row_gives (Take takes.instance) context after (take_fits context takes.instance none at set are takes.first) takes.is

clear_fits : (context : Context Thread) → first_new (due_now context) context.self.noted ≡ None → context.self.place ≡ Loop → context.self.flag ≡ true → is_empty context.self.noted ≡ true → row_of context ≡ Some ClearFlag
unfolding row_of note_row take_row clear_row
clear_fits context none at set are = rw (none, set, are, at) refl

pub clear_after : (context : Context Thread) (after : After Thread) → first_new (due_now context) context.self.noted ≡ None → context.self.place ≡ Loop → context.self.flag ≡ true → is_empty context.self.noted ≡ true → settled_after context.id (flag_cleared context) ≡ after → row_after context ≡ Some after
clear_after context after none at set are is = row_gives ClearFlag context after (clear_fits context none at set are) is

-- ---- which steps take no memory

pub enter_not_steady : (context : Context Thread) → first_new (due_now context) context.self.noted ≡ None → context.self.place ≡ Window → IsSteady context → ⊥
enter_not_steady context none at steady = let wrong : ⊥ = rw (enter_fits context none at) at steady in wrong

pub execute_steady : (context : Context Thread) → first_new (due_now context) context.self.noted ≡ None → context.self.place ≡ Loop → context.self.flag ≡ false → IsSteady context → RowIsSteady Execute context
execute_steady context none loop clear steady = rw (ready_is context none loop clear) at steady
