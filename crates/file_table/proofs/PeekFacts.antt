-- A read of a file is a look at the bytes, and the offset that goes on; one of what stands ready needs no more room than that.
use Rattle.std.proofs.Common.{◌≡◌, ℕ, zero, suc, ◌+◌, ◌==◌, nat_le, min, max, Bool, true, false, not, ◌||◌, if◌then◌else◌, List, length, take, get_or, set, Option, Some, None, option_map, Result, Ok, Err, refl, sym, ap, ◌∙◌, arith}
use Rattle.std.proofs.lemmas.Bool.{leb-true, leb-false, ne_eqb}
use Rattle.std.proofs.lemmas.List.{take_all}
use Rattle.file_tree.specs.declared.errno.Errno.{Errno}
use Rattle.file_tree.specs.declared.errno.Errno.TheVariants.{EBADF}
use Rattle.file_table.specs.declared.fault.FileFault.{FileFault}
use Rattle.file_table.specs.declared.fault.FileFault.TheVariants as faults
use Rattle.file_table.specs.declared.state.Description.{Description}
use Rattle.file_table.specs.declared.state.Target.{Target}
use Rattle.file_table.specs.declared.state.Target.TheVariants as targets
use Rattle.file_table.specs.Due.{Done, done}
use Rattle.file_table.specs.Flags.{can_read}
use Rattle.file_table.specs.Descriptors.{no_device}
use Rattle.file_table.specs.Moving.{advanced, file_read, given, given_by, moved, peek, peek_target, read, read_device, read_pipe, read_target, standing, standing_in, stopped, waits, went_by, went_on, with_devices, with_pipe, without_bytes, without_input}
use Rattle.file_table.specs.State.{Files, Pipe, at, bytes_by, chosen, open_as}

-- what a read comes to, by what is seen of the bytes
abbrev pub seen : ℕ → Description → Files → Result (List ℕ) Errno → Result (Done (List ℕ)) FileFault
seen number it files (Err errno) = stopped errno
seen number it files (Ok bytes) = Ok (done (moved number (it.offset + length bytes) it files) bytes)

node_seen : (number : ℕ) (it : Description) (files : Files) (r : Result (List ℕ) Errno) → went_on number it files r ≡ seen number it files r
node_seen number it files (Err errno) = refl
node_seen number it files (Ok bytes) = refl

target_seen : (target : Target) (number : ℕ) (it : Description) (size : ℕ) (files : Files) → standing_in target files ≡ None → read_target target number it size files ≡ seen number it files (peek_target target it size files)
target_seen (targets.Node inode) number it size files none = node_seen number it files (file_read inode it.offset size files.tree)
target_seen (targets.Device device) number it size files none = absurd (let f : ⊥ = cc in f)
target_seen (targets.Pipe pipe writes) number it size files none = absurd (let f : ⊥ = cc in f)

access_seen : (closed : Bool) (number : ℕ) (it : Description) (size : ℕ) (files : Files) → standing_in it.target files ≡ None → (if closed then stopped EBADF else read_target it.target number it size files) ≡ seen number it files (if closed then Err EBADF else peek_target it.target it size files)
access_seen true number it size files none = refl
access_seen false number it size files none = target_seen it.target number it size files none

abbrev pub looked : Option (ℕ × Description) → ℕ → Files → Result (List ℕ) Errno
looked o size files =
    chosen o (Err EBADF) (λ number it. if not (can_read it.flags) then Err EBADF else peek_target it.target it size files)

abbrev pub done_so : Option (ℕ × Description) → ℕ → Files → Result (Done (List ℕ)) FileFault
done_so o size files =
    chosen o (stopped EBADF) (λ number it. if not (can_read it.flags) then stopped EBADF else read_target it.target number it size files)

abbrev pub stands_by : Option (ℕ × Description) → Files → Option ℕ
stands_by o files = chosen o None (λ number it. standing_in it.target files)

ok_by : (o : Option (ℕ × Description)) (size : ℕ) (files : Files) (bytes : List ℕ) → stands_by o files ≡ None → looked o size files ≡ Ok bytes → done_so o size files ≡ Ok (done (chosen o files (λ number it. moved number (it.offset + length bytes) it files)) bytes)
ok_by None size files bytes none is = cc
ok_by (Some (number, it)) size files bytes none is = access_seen (not (can_read it.flags)) number it size files none ∙ ap (seen number it files) is

err_by : (o : Option (ℕ × Description)) (size : ℕ) (files : Files) (errno : Errno) → stands_by o files ≡ None → looked o size files ≡ Err errno → done_so o size files ≡ stopped errno
err_by None size files errno none is = cc
err_by (Some (number, it)) size files errno none is = access_seen (not (can_read it.flags)) number it size files none ∙ ap (seen number it files) is

-- where the bytes of a file are seen they are read, and the offset goes on
pub read_is : (fd size : ℕ) (files : Files) (bytes : List ℕ) → standing fd files ≡ None → peek fd size files ≡ Ok bytes → read fd size files ≡ Ok (done (advanced fd (length bytes) files) bytes)
unfolding standing peek read advanced
read_is fd size files bytes none is = ok_by (open_as fd files) size files bytes none is

pub read_faults : (fd size : ℕ) (files : Files) (errno : Errno) → standing fd files ≡ None → peek fd size files ≡ Err errno → read fd size files ≡ Err (faults.Errno errno)
unfolding standing peek read
read_faults fd size files errno none is = err_by (open_as fd files) size files errno none is

-- ---- a read of what stands ready needs no more room than that

zero_same : (size count : ℕ) → (min size (max count 1) == 0) ≡ (size == 0)
zero_same zero count = let e : min zero (max count 1) ≡ zero = omega arith in ap (λ (n : ℕ). n == 0) e
zero_same (suc size) count = ne_eqb (min (suc size) (max count 1)) 0 (λ none. absurd (omega arith)) ∙ sym (ne_eqb (suc size) 0 (λ none. absurd (omega arith)))

few_same : (size : ℕ) (bytes : List ℕ) → take (min size (max (length bytes) 1)) bytes ≡ take size bytes
few_same size bytes = by_test (nat_le size (max (length bytes) 1)) refl
  where
    by_test : (b : Bool) → nat_le size (max (length bytes) 1) ≡ b → take (min size (max (length bytes) 1)) bytes ≡ take size bytes
    by_test true same = let h = leb-true size (max (length bytes) 1) same in let e : min size (max (length bytes) 1) ≡ size = omega arith in ap (λ (n : ℕ). take n bytes) e
    by_test false same = let h = leb-false size (max (length bytes) 1) same in take_all (min size (max (length bytes) 1)) bytes (omega arith) ∙ sym (take_all size bytes (omega arith))

given_same : (more : Bool) (bytes : List ℕ) (flags size : ℕ) → given more bytes flags (min size (max (length bytes) 1)) ≡ given more bytes flags size
given_same more bytes flags size =
    ap (λ (none : Bool). if none || (not (length bytes == 0) || not more) then Ok (take (min size (max (length bytes) 1)) bytes) else waits flags) (zero_same size (length bytes))
    ∙ ap (λ (l : List ℕ). if (size == 0) || (not (length bytes == 0) || not more) then Ok l else waits flags) (few_same size bytes)

place_same : (place : Option Pipe) (flags size : ℕ) → given_by place flags (min size (max (length (bytes_by place)) 1)) ≡ given_by place flags size
place_same None flags size = refl
place_same (Some pipe) flags size = given_same pipe.writer pipe.bytes flags size

target_same : (target : Target) (number : ℕ) (it : Description) (size count : ℕ) (files : Files) → standing_in target files ≡ Some count → read_target target number it (min size (max count 1)) files ≡ read_target target number it size files
target_same (targets.Node inode) number it size count files there = absurd (let f : ⊥ = cc in f)
target_same (targets.Device device) number it size count files there =
    let e : count ≡ length (get_or files.devices device no_device).input = cc in
    ap (λ (n : ℕ). read_device device (get_or files.devices device no_device) it.flags (min size (max n 1)) files) e
    ∙ ap (λ (r : Result (List ℕ) FileFault). went_by r (λ count. with_devices (set files.devices device (without_input count (get_or files.devices device no_device))) files)) (given_same (not (get_or files.devices device no_device).ended) (get_or files.devices device no_device).input it.flags size)
target_same (targets.Pipe pipe writes) number it size count files there =
    let e : count ≡ length (bytes_by (at files.pipes pipe)) = cc in
    ap (λ (n : ℕ). read_pipe pipe (at files.pipes pipe) it.flags (min size (max n 1)) files) e
    ∙ ap (λ (r : Result (List ℕ) FileFault). went_by r (λ count. with_pipe pipe (option_map (without_bytes count) (at files.pipes pipe)) files)) (place_same (at files.pipes pipe) it.flags size)

same_by : (o : Option (ℕ × Description)) (size count : ℕ) (files : Files) → stands_by o files ≡ Some count → done_so o (min size (max count 1)) files ≡ done_so o size files
same_by None size count files there = absurd (let f : ⊥ = cc in f)
same_by (Some (number, it)) size count files there =
    ap (λ (r : Result (Done (List ℕ)) FileFault). if not (can_read it.flags) then stopped EBADF else r) (target_same it.target number it size count files there)

pub read_same : (fd size count : ℕ) (files : Files) → standing fd files ≡ Some count → read fd (min size (max count 1)) files ≡ read fd size files
unfolding standing read
read_same fd size count files there = same_by (open_as fd files) size count files there
