-- Bytes that are written past the end.
use Rattle.std.proofs.Common.{◌≡◌, ℕ, zero, suc, ◌+◌, ◌-◌, ◌<◌, ◌≤◌, ◌==◌, Bool, false, List, [], ◌∷◌, ◌++◌, length, take, drop, replicate, refl, ap, arith}
use Rattle.std.proofs.lemmas.List.{take-replicate, append-nil, drop_all, length-replicate, take_all}
use Rattle.file_tree.specs.Files.{overwritten}

pub front_reached : (old : List ℕ) (offset k : ℕ) → offset - length old ≤ k → take offset (old ++ replicate k 0) ≡ take offset old ++ replicate (offset - length old) 0
front_reached [] zero k low = refl
front_reached [] (suc offset) k low =
    let e : suc offset - 0 ≡ suc offset = omega arith in
    rw e (take-replicate (suc offset) k 0 (omega arith))
front_reached (b ∷ old) zero k low =
    let e : 0 - suc (length old) ≡ 0 = omega arith in
    rw e refl
front_reached (b ∷ old) (suc offset) k low =
    let e : suc offset - suc (length old) ≡ offset - length old = omega arith in
    rw e (ap (λ (t : List ℕ). b ∷ t) (front_reached old offset k (omega arith)))

pub back_reached : (old : List ℕ) (end : ℕ) → drop end (old ++ replicate (end - length old) 0) ≡ drop end old
back_reached [] zero = refl
back_reached [] (suc end) = drop_all (suc end) (replicate (suc end - 0) 0) (rw (length-replicate {A = ℕ} (suc end - 0) 0) (omega arith))
back_reached (b ∷ old) zero =
    let e : 0 - suc (length old) ≡ 0 = omega arith in
    rw e (append-nil (b ∷ old))
back_reached (b ∷ old) (suc end) =
    let e : suc end - suc (length old) ≡ end - length old = omega arith in
    rw e (back_reached old end)

pub written_over : (offset : ℕ) (bytes old : List ℕ) → 0 < length bytes
    → take offset (old ++ replicate (offset + length bytes - length old) 0) ++ bytes ++ drop (offset + length bytes) (old ++ replicate (offset + length bytes - length old) 0)
    ≡ overwritten offset bytes old
written_over offset [] old some = absurd (omega arith)
written_over offset (b ∷ bytes) old some =
    rw (front_reached old offset (offset + length (b ∷ bytes) - length old) (omega arith), back_reached old (offset + length (b ∷ bytes))) refl

pub written_back : (n offset : ℕ) (bytes old cur now new : List ℕ) → 0 < length bytes → n ≡ length cur → now ≡ cur → length new ≡ length now
    → cur ≡ old ++ replicate (offset + length bytes - length old) 0
    → new ≡ take offset now ++ bytes ++ drop (offset + length bytes) now
    → take n (new ++ drop (length new) cur) ≡ overwritten offset bytes old
written_back n offset bytes old cur now new some long same full grown put =
    let none : drop (length new) cur ≡ [] = drop_all (length new) cur (rw (full, same) (omega arith)) in
    let whole : take n new ≡ new = take_all n new (rw (full, same, long) (omega arith)) in
    rw (none, append-nil new, whole, put, same, grown) (written_over offset bytes old some)

pub some_length : (empty : Bool) (n : ℕ) → empty ≡ (n == 0) → empty ≡ false → 0 < n
some_length empty zero same none = absurd (let f : ⊥ = cc in f)
some_length empty (suc n) same none = omega arith
