-- One entry more that is polled.
use Rattle.std.proofs.Common.{◌≡◌, ◌≢◌, ℕ, zero, suc, ◌+◌, ◌-◌, ◌%◌, ◌^◌, ◌<◌, if◌then◌else◌, Bool, true, false, List, [], ◌∷◌, ◌++◌, length, take, drop, get_or, refl, sym, ap, ◌∙◌, arith}
use Rattle.std.proofs.lemmas.List.{take_rest}
use Rattle.byteorder.specs.Endian.{little_bytes}
use Rattle.file_table.specs.State.{Files}
use Rattle.host_calls.specs.Pieces.{piece}
use Rattle.host_waits.specs.declared.wait.Polled.{Polled}
use Rattle.host_waits.specs.Polling.{answer_bytes, answer_places, bits_of, count_ready, entries_in, has_bits, polled_in}

pub entries_none : (count : ℕ) (bytes : List ℕ) → count ≡ 0 → entries_in count bytes ≡ []
unfolding entries_in
entries_none count bytes none = rw none refl

entries_by : (count : ℕ) (bytes more : List ℕ) (x : Polled) → 0 < count → x ≡ polled_in bytes → more ≡ drop 8 bytes → x ∷ entries_in (count - 1) more ≡ entries_in count bytes
unfolding entries_in
entries_by zero bytes more x some is same = absurd (omega arith)
entries_by (suc count) bytes more x some is same =
    let e : suc count - 1 ≡ count = omega arith in
    rw (is, same, e) refl

pub entries_step : (count : ℕ) (bytes : List ℕ) (x : Polled) → 0 < count → x ≡ polled_in bytes → x ∷ entries_in (count - 1) (take (length bytes - 8) (drop 8 bytes)) ≡ entries_in count bytes
entries_step count bytes x some is = entries_by count bytes (take (length bytes - 8) (drop 8 bytes)) x some is (take_rest bytes 8)

abbrev pub no_entry : Polled
no_entry = record { fd = 0; asked = 0 }

none_left : (entries : List Polled) → length entries ≡ 0 → entries ≡ []
none_left [] none = refl
none_left (entry ∷ entries) none = absurd (omega (arith, none))

rest_is : (entry : Polled) (entries : List Polled) → take (length (entry ∷ entries) - 1) (drop 1 (entry ∷ entries)) ≡ entries
rest_is entry entries = take_rest (entry ∷ entries) 1

pub places_none : (at : ℕ) (entries : List Polled) → length entries ≡ 0 → answer_places at entries ≡ []
unfolding answer_places
places_none at entries none = rw (none_left entries none) refl

places_by : (at : ℕ) (entry : Polled) (entries rest : List Polled) → rest ≡ entries → piece ((at + 6) % 2 ^ 64) 2 ∷ answer_places ((at + 8) % 2 ^ 64) rest ≡ answer_places at (entry ∷ entries)
unfolding answer_places
places_by at entry entries rest same = rw same refl

pub places_step : (at : ℕ) (entries : List Polled) → length entries ≢ 0 → piece ((at + 6) % 2 ^ 64) 2 ∷ answer_places ((at + 8) % 2 ^ 64) (take (length entries - 1) (drop 1 entries)) ≡ answer_places at entries
places_step at [] some = absurd (some refl)
places_step at (entry ∷ entries) some = places_by at entry entries (take (length (entry ∷ entries) - 1) (drop 1 (entry ∷ entries))) (rest_is entry entries)

pub bytes_none : (files : Files) (entries : List Polled) → length entries ≡ 0 → answer_bytes files entries ≡ []
unfolding answer_bytes
bytes_none files entries none = rw (none_left entries none) refl

bytes_by : (files : Files) (entry : Polled) (entries rest : List Polled) (one : List ℕ) → one ≡ little_bytes 2 (bits_of files entry) → rest ≡ entries → one ++ answer_bytes files rest ≡ answer_bytes files (entry ∷ entries)
unfolding answer_bytes
bytes_by files entry entries rest one is same = rw (is, same) refl

pub bytes_step : (files : Files) (entries : List Polled) (one : List ℕ) → length entries ≢ 0 → one ≡ little_bytes 2 (bits_of files (get_or entries 0 no_entry)) → one ++ answer_bytes files (take (length entries - 1) (drop 1 entries)) ≡ answer_bytes files entries
bytes_step files [] one some is = absurd (some refl)
bytes_step files (entry ∷ entries) one some is = bytes_by files entry entries (take (length (entry ∷ entries) - 1) (drop 1 (entry ∷ entries))) one is (rest_is entry entries)

pub count_none : (files : Files) (entries : List Polled) → length entries ≡ 0 → count_ready files entries ≡ 0
unfolding count_ready
count_none files entries none = rw (none_left entries none) refl

counted_so : (ready : Bool) (n : ℕ) → (if ready then 1 + n else n) ≡ (if ready then 1 else 0) + n
counted_so true n = refl
counted_so false n = omega arith

count_by : (files : Files) (entry : Polled) (entries rest : List Polled) (ready : Bool) (n : ℕ) → has_bits files entry ≡ ready → n ≡ count_ready files rest → rest ≡ entries → (if ready then 1 + n else n) ≡ count_ready files (entry ∷ entries)
unfolding count_ready
count_by files entry entries rest ready n is counts same =
    counted_so ready n
    ∙ (ap (λ (m : ℕ). (if ready then 1 else 0) + m) (counts ∙ ap (count_ready files) same)
    ∙ ap (λ (b : Bool). (if b then 1 else 0) + count_ready files entries) (sym is))

pub count_step : (files : Files) (entries : List Polled) (ready : Bool) (n : ℕ) → length entries ≢ 0 → has_bits files (get_or entries 0 no_entry) ≡ ready → n ≡ count_ready files (take (length entries - 1) (drop 1 entries)) → (if ready then 1 + n else n) ≡ count_ready files entries
count_step files [] ready n some is counts = absurd (some refl)
count_step files (entry ∷ entries) ready n some is counts = count_by files entry entries (take (length (entry ∷ entries) - 1) (drop 1 (entry ∷ entries))) ready n is counts (rest_is entry entries)
