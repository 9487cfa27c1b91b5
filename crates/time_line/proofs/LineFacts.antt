-- A list of deadlines that is gone through: looked at from a place on, and what a timer has after a change.
use Rattle.std.proofs.Common.{◌≡◌, ℕ, ◌+◌, ◌≤◌, ◌<◌, nat_lt, Bool, true, false, not, if◌then◌else◌, List, [], ◌∷◌, ◌++◌, length, get_or, take, drop, Option, Some, None, refl, sym, ap, ◌∙◌, arith, append_assoc}
use Rattle.std.specs.Prelude.{insert}
use Rattle.std.proofs.lemmas.Bool.{eqb-true, eq-eqb, lt-ltb, le-ltb}
use Rattle.std.proofs.lemmas.List.{drop_more, drop_all, take_more, take_all}
use Rattle.time_line.specs.declared.timer.Deadline.{Deadline}
use Rattle.time_line.specs.declared.timer.Timer.{Timer}
use Rattle.time_line.specs.declared.timer.Timer.TheVariants.{Thread, Alarm}
use Rattle.time_line.specs.Line.{same, is_of, deadline, cleared, placed, set_to}

-- ---- the same timer

pub same_true : (one other : Timer) → same one other ≡ true → one ≡ other
same_true (Thread a) (Thread b) h = ap Thread (eqb-true a b h)
same_true (Thread a) Alarm h = absurd (let f : ⊥ = cc in f)
same_true Alarm (Thread b) h = absurd (let f : ⊥ = cc in f)
same_true Alarm Alarm h = refl

pub same_self : (one : Timer) → same one one ≡ true
same_self (Thread a) = eq-eqb a a refl
same_self Alarm = refl

-- ---- from a place on

begins : (line : List Deadline) (place : ℕ) (it : Deadline) → place < length line → it ≡ get_or line place it → drop place line ≡ it ∷ drop (place + 1) line
begins line place it within read = drop_more line place it within ∙ ap (λ (x : Deadline). x ∷ drop (place + 1) line) (sym read)

here_by : (who : Timer) (it : Deadline) (line : List Deadline) → is_of who it ≡ true → deadline who (it ∷ line) ≡ Some it.at
here_by who it line h = ap (λ (b : Bool). if b then Some it.at else deadline who line) h

past_by : (who : Timer) (it : Deadline) (line : List Deadline) → is_of who it ≡ false → deadline who (it ∷ line) ≡ deadline who line
past_by who it line h = ap (λ (b : Bool). if b then Some it.at else deadline who line) h

pub deadline_here : (who : Timer) (line : List Deadline) (place : ℕ) (it : Deadline) → deadline who line ≡ deadline who (drop place line) → place < length line → it ≡ get_or line place it → is_of who it ≡ true → Some it.at ≡ deadline who line
deadline_here who line place it so within read h = sym (so ∙ ap (deadline who) (begins line place it within read) ∙ here_by who it (drop (place + 1) line) h)

pub deadline_past : (who : Timer) (line : List Deadline) (place : ℕ) (it : Deadline) → deadline who line ≡ deadline who (drop place line) → place < length line → it ≡ get_or line place it → is_of who it ≡ false → deadline who line ≡ deadline who (drop (place + 1) line)
deadline_past who line place it so within read h = so ∙ ap (deadline who) (begins line place it within read) ∙ past_by who it (drop (place + 1) line) h

pub deadline_end : (who : Timer) (line : List Deadline) (place : ℕ) → deadline who line ≡ deadline who (drop place line) → length line ≤ place → None ≡ deadline who line
deadline_end who line place so past = sym (so ∙ ap (deadline who) (drop_all place line past))

before_by : (one it : Deadline) (line : List Deadline) → one.at < it.at → placed one (it ∷ line) ≡ one ∷ it ∷ line
before_by one it line h = ap (λ (b : Bool). if b then one ∷ it ∷ line else it ∷ placed one line) (lt-ltb one.at it.at h)

behind_by : (one it : Deadline) (line : List Deadline) → it.at ≤ one.at → placed one (it ∷ line) ≡ it ∷ placed one line
behind_by one it line h = ap (λ (b : Bool). if b then one ∷ it ∷ line else it ∷ placed one line) (le-ltb one.at it.at h)

pub placed_here : (one : Deadline) (line : List Deadline) (place : ℕ) (it : Deadline) → placed one line ≡ take place line ++ placed one (drop place line) → place < length line → it ≡ get_or line place it → one.at < it.at → placed one line ≡ insert line place one
placed_here one line place it so within read h =
    let s = begins line place it within read in
    so ∙ ap (λ (l : List Deadline). take place line ++ placed one l) s ∙ ap (λ (l : List Deadline). take place line ++ l) (before_by one it (drop (place + 1) line) h) ∙ ap (λ (l : List Deadline). take place line ++ one ∷ l) (sym s)

pub placed_past : (one : Deadline) (line : List Deadline) (place : ℕ) (it : Deadline) → placed one line ≡ take place line ++ placed one (drop place line) → place < length line → it ≡ get_or line place it → it.at ≤ one.at → placed one line ≡ take (place + 1) line ++ placed one (drop (place + 1) line)
placed_past one line place it so within read h =
    let s = begins line place it within read in
    let t : take (place + 1) line ≡ take place line ++ it ∷ [] = take_more line place it within ∙ ap (λ (x : Deadline). take place line ++ x ∷ []) (sym read) in
    so ∙ ap (λ (l : List Deadline). take place line ++ placed one l) s ∙ ap (λ (l : List Deadline). take place line ++ l) (behind_by one it (drop (place + 1) line) h)
    ∙ sym (append_assoc (take place line) (it ∷ []) (placed one (drop (place + 1) line))) ∙ ap (λ (l : List Deadline). l ++ placed one (drop (place + 1) line)) (sym t)

pub placed_end : (one : Deadline) (line : List Deadline) (place : ℕ) → placed one line ≡ take place line ++ placed one (drop place line) → length line ≤ place → placed one line ≡ insert line (length line) one
placed_end one line place so past =
    let none = drop_all place line past in
    so ∙ ap (λ (l : List Deadline). take place line ++ placed one l) none
    ∙ ap (λ (l : List Deadline). l ++ one ∷ []) (take_all place line past ∙ sym (take_all (length line) line (omega arith)))
    ∙ ap (λ (l : List Deadline). take (length line) line ++ one ∷ l) (sym (drop_all (length line) line (omega arith)))

-- ---- what a timer has after a change

pub none_kept : (b : Bool) (o : Option ℕ) → o ≡ None → (if b then None else o) ≡ None
none_kept true o h = refl
none_kept false o h = h

kept_if : (b : Bool) (who : Timer) (it : Deadline) (line : List Deadline) → deadline who (if b then it ∷ line else line) ≡ (if b then (if is_of who it then Some it.at else deadline who line) else deadline who line)
kept_if true who it line = refl
kept_if false who it line = refl

gone_by : (s n : Bool) (at : ℕ) (o all : Option ℕ) → o ≡ (if n then None else all) → s ≡ n → o ≡ (if n then None else (if s then Some at else all))
gone_by true true at o all is same = is
gone_by true false at o all is same = absurd (let f : ⊥ = cc in f)
gone_by false true at o all is same = absurd (let f : ⊥ = cc in f)
gone_by false false at o all is same = is

stay_by : (s n : Bool) (at : ℕ) (o all : Option ℕ) → o ≡ (if n then None else all) → (s ≡ true → n ≡ false) → (if s then Some at else o) ≡ (if n then None else (if s then Some at else all))
stay_by true true at o all is apart = absurd (let f : ⊥ = (let one = apart refl in cc) in f)
stay_by true false at o all is apart = refl
stay_by false n at o all is apart = is

cleared_by : (b s n : Bool) (at : ℕ) (o all : Option ℕ) → o ≡ (if n then None else all) → (b ≡ true → s ≡ n) → (b ≡ false → s ≡ true → n ≡ false) → (if not b then (if s then Some at else o) else o) ≡ (if n then None else (if s then Some at else all))
cleared_by true s n at o all is alike apart = gone_by s n at o all is (alike refl)
cleared_by false s n at o all is alike apart = stay_by s n at o all is (apart refl)

not_both : (b n : Bool) → b ≡ false → (n ≡ true → b ≡ true) → n ≡ false
not_both b true is both = absurd (let f : ⊥ = (let one = both refl in cc) in f)
not_both b false is both = refl

pub deadline_cleared : (who other : Timer) (line : List Deadline) → deadline other (cleared who line) ≡ (if same who other then None else deadline other line)
deadline_cleared who other [] = sym (none_kept (same who other) None refl)
deadline_cleared who other (it ∷ line) =
    kept_if (not (is_of who it)) other it (cleared who line)
    ∙ cleared_by (is_of who it) (is_of other it) (same who other) it.at (deadline other (cleared who line)) (deadline other line) (deadline_cleared who other line)
    (λ is. ap (λ (t : Timer). same t other) (same_true it.who who is))
    (λ apart is. not_both (is_of who it) (same who other) apart (λ both. ap (λ (t : Timer). same t who) (same_true it.who other is ∙ sym (same_true who other both)) ∙ same_self who))

-- it has none of the first, nor of the rest
pub none_of : (who : Timer) (it : Deadline) (line : List Deadline) → deadline who (it ∷ line) ≡ None → (is_of who it ≡ false) × (deadline who line ≡ None)
none_of who it line none = by_test (is_of who it) none
  where
    by_test : (b : Bool) → (if b then Some it.at else deadline who line) ≡ None → (b ≡ false) × (deadline who line ≡ None)
    by_test true none = absurd (let f : ⊥ = cc in f)
    by_test false none = (refl, none)

behind_other : (m s : Bool) (at new : ℕ) (o all : Option ℕ) → o ≡ (if m then Some new else all) → (m ≡ true → s ≡ false) → (if s then Some at else o) ≡ (if m then Some new else (if s then Some at else all))
behind_other true true at new o all is apart = absurd (let f : ⊥ = (let one = apart refl in cc) in f)
behind_other true false at new o all is apart = is
behind_other false true at new o all is apart = refl
behind_other false false at new o all is apart = is

placed_by : (b : Bool) (one it : Deadline) (other : Timer) (p line : List Deadline) → deadline other p ≡ (if is_of other one then Some one.at else deadline other line) → (is_of other one ≡ true → is_of other it ≡ false)
    → deadline other (if b then one ∷ it ∷ line else it ∷ p) ≡ (if is_of other one then Some one.at else deadline other (it ∷ line))
placed_by true one it other p line is apart = refl
placed_by false one it other p line is apart = behind_other (is_of other one) (is_of other it) it.at one.at (deadline other p) (deadline other line) is apart

pub deadline_placed : (one : Deadline) (other : Timer) (line : List Deadline) → deadline one.who line ≡ None → deadline other (placed one line) ≡ (if is_of other one then Some one.at else deadline other line)
deadline_placed one other [] none = refl
deadline_placed one other (it ∷ line) none =
    let both = none_of one.who it line none in
    placed_by (nat_lt one.at it.at) one it other (placed one line) line (deadline_placed one other line both.1)
    (λ is. let e : one.who ≡ other = same_true one.who other is in ap (same it.who) (sym e) ∙ both.0)

pub cleared_none : (who : Timer) (line : List Deadline) → deadline who (cleared who line) ≡ None
cleared_none who line = deadline_cleared who who line ∙ ap (λ (b : Bool). if b then None else deadline who line) (same_self who)

once_by : (b : Bool) (at : ℕ) (all : Option ℕ) → (if b then Some at else (if b then None else all)) ≡ (if b then Some at else all)
once_by true at all = refl
once_by false at all = refl

pub deadline_set : (who : Timer) (at : ℕ) (other : Timer) (line : List Deadline) → deadline other (set_to who at line) ≡ (if same who other then Some at else deadline other line)
deadline_set who at other line =
    deadline_placed (record { who = who; at = at }) other (cleared who line) (cleared_none who line)
    ∙ ap (λ (o : Option ℕ). if same who other then Some at else o) (deadline_cleared who other line)
    ∙ once_by (same who other) at (deadline other line)

-- ---- how many

some_more : (b : Bool) (it : Deadline) (o line : List Deadline) → length o ≤ length line → length (if b then it ∷ o else o) ≤ length (it ∷ line)
some_more true it o line h = omega arith
some_more false it o line h = omega arith

pub no_more : (who : Timer) (line : List Deadline) → length (cleared who line) ≤ length line
no_more who [] = omega arith
no_more who (it ∷ line) = some_more (not (is_of who it)) it (cleared who line) line (no_more who line)

fewer_by : (b : Bool) (at : ℕ) (who : Timer) (it : Deadline) (o line : List Deadline) → length o ≤ length line → (deadline who line ≡ Some at → length o < length line) → (if b then Some it.at else deadline who line) ≡ Some at → length (if not b then it ∷ o else o) < length (it ∷ line)
fewer_by true at who it o line most less is = omega arith
fewer_by false at who it o line most less is = let h = less is in omega arith

pub fewer : (who : Timer) (at : ℕ) (line : List Deadline) → deadline who line ≡ Some at → length (cleared who line) < length line
fewer who at [] is = absurd (let f : ⊥ = cc in f)
fewer who at (it ∷ line) is = fewer_by (is_of who it) at who it (cleared who line) line (no_more who line) (fewer who at line) is
