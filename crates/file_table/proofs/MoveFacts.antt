-- Bytes that are moved, and offsets.
use Rattle.std.proofs.Common.{◌≡◌, ℕ, ◌+◌, ◌<◌, ◌≤◌, max, min, List, ◌++◌, length, take, drop, refl, sym, ap, ◌∙◌, arith, length-take, length-drop}
use Rattle.std.proofs.lemmas.List.{take_at, take_min, drop_at}
use Rattle.std.proofs.Common.{nat_lt, Bool, true, false, if◌then◌else◌, Option, Some, None, Ok}
use Rattle.std.proofs.lemmas.Bool.{ltb-false, ne_eqb}
use Rattle.file_tree.specs.declared.errno.Errno.{Errno}
use Rattle.file_tree.specs.declared.errno.Errno.TheVariants.{EFBIG, ENOSPC}
use Rattle.file_tree.specs.Nodes.{Tree, file_bytes, tree_bytes}
use Rattle.file_tree.specs.Walk.{unless}
use Rattle.file_tree.specs.Files.{read_from, overwritten, with_bytes, too_many, filled_with, written, size_written}
use Rattle.file_tree.proofs.CallFacts.{length_written}
use Rattle.file_table.specs.Due.{RestStays}

-- a buffer that begins with bytes
pub filled : (count : ℕ) (bytes before after : List ℕ) → count ≡ length bytes → length bytes ≤ length before → after ≡ bytes ++ drop count before → (bytes ≡ take count after) × RestStays count before after
filled count bytes before after many fits is =
    (sym (ap (take count) is ∙ take_at bytes (drop count before) count (sym many)), (omega arith, ap (drop count) is ∙ drop_at bytes (drop count before) count (sym many)))

pub read_low : (offset size : ℕ) (bytes : List ℕ) → length bytes ≤ 16777216 → offset + length (read_from offset size bytes) ≤ max offset 16777216
read_low offset size bytes small = omega (arith, length-take size (drop offset bytes), length-drop offset bytes)

pub read_fits : (offset size : ℕ) (bytes : List ℕ) → length (read_from offset size bytes) ≤ size
read_fits offset size bytes = omega (arith, length-take size (drop offset bytes))

-- what was written ends within the limit of a file
small_by : (b : Bool) (size : ℕ) (rest : Option Errno) (made new : Tree) → nat_lt 16777216 size ≡ b → unless (if b then Some EFBIG else rest) (Ok made) ≡ Ok new → size ≤ 16777216
small_by true size rest made new is same = absurd (let f : ⊥ = cc in f)
small_by false size rest made new is same = ltb-false 16777216 size is

filled_small : (file : ℕ) (bytes : List ℕ) (tree new : Tree) → filled_with file bytes tree ≡ Ok new → length bytes ≤ 16777216
unfolding filled_with too_many
filled_small file bytes tree new same =
    small_by (nat_lt 16777216 (length bytes)) (length bytes) (if nat_lt 268435456 (tree_bytes (with_bytes file bytes tree.nodes)) then Some ENOSPC else None) (record { nodes = with_bytes file bytes tree.nodes; next = tree.next }) new refl same

pub written_low : (file offset : ℕ) (bytes : List ℕ) (tree new : Tree) → written file offset bytes tree ≡ Ok new → 0 < length bytes → offset + length bytes ≤ 16777216
written_low file offset bytes tree new same some =
    let small = filled_small file (overwritten offset bytes (file_bytes tree.nodes file)) tree new same in
    let size = length_written offset bytes (file_bytes tree.nodes file) in
    let other : size_written (length (file_bytes tree.nodes file)) offset (length bytes) ≡ max (length (file_bytes tree.nodes file)) (offset + length bytes) =
    ap (λ (b : Bool). if b then length (file_bytes tree.nodes file) else max (length (file_bytes tree.nodes file)) (offset + length bytes)) (ne_eqb (length bytes) 0 (λ none. absurd (omega arith))) in
    omega arith

-- the first bytes of a queue, as many as a buffer holds
pub given_is : (count size : ℕ) (bytes before after : List ℕ) → size ≡ length before → count ≡ min size (length bytes) → after ≡ take count bytes ++ drop count before
    → (count ≡ length (take size bytes)) × ((take size bytes ≡ take count after) × RestStays count before after)
given_is count size bytes before after fits many is =
    let l = length-take size bytes in
    let c : count ≡ length (take size bytes) = omega arith in
    let t : take count bytes ≡ take size bytes = ap (λ (n : ℕ). take n bytes) many ∙ take_min size bytes in
    (c, filled count (take size bytes) before after c (omega arith) (is ∙ ap (λ (l : List ℕ). l ++ drop count before) t))
