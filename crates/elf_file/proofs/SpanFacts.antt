-- Which spans meet, in the order of their starts.
use Rattle.std.proofs.Common.{◌≡◌, ◌≢◌, ◌⊎◌, ℕ, ◌+◌, ◌<◌, ◌≤◌, Bool, true, false, ◌&&◌, ltb, leb, List, length, get_or, max, min, inl, inr, refl, sym, ap, subst, ◌∙◌, arith, ltb-true, lt-ltb, leb-true}
use Rattle.std.specs.List.{Contains}
use Rattle.std.proofs.lemmas.Bool.{cases_eq, cases_lt}
use Rattle.std.proofs.lemmas.List.{get_or_default}
use Rattle.elf_file.specs.declared.spans.Sharing.{Sharing}
use Rattle.elf_file.specs.declared.spans.Sharing.TheVariants.{Byte, Page}
use Rattle.elf_file.specs.declared.spans.Span.{Span}
use Rattle.elf_file.specs.Segments.{SegmentImage, shares_byte, shares_page, clashes, rights_clash, end_of, first_page, last_page, has_byte, is_writable, is_executable}
use Rattle.elf_file.specs.Headers.{is_loaded, segment, overlap_at, clash_at}
use Rattle.elf_file.proofs.PairFacts.{and_first, and_second, and_true, or_cases, or_left, or_right}
use Rattle.elf_file.specs.Spans.{meets, page_end, span_if, span_of, DoMeet, AreApart, is_met}

-- ---- the sweep

met_here : (t : Span) (n one other : ℕ) → t.index < n → t.start < t.end → ((t.other ≡ true) × (t.start < one)) ⊎ ((t.one ≡ true) × (t.start < other)) → is_met t n one other ≡ true
met_here t n one other low some (inl here) =
    and_true (ltb t.index n && ltb t.start t.end) _ (and_true (ltb t.index n) (ltb t.start t.end) (lt-ltb t.index n low) (lt-ltb t.start t.end some))
    (or_left (t.other && ltb t.start one) _ (and_true t.other (ltb t.start one) here.0 (lt-ltb t.start one here.1)))
met_here t n one other low some (inr here) =
    and_true (ltb t.index n && ltb t.start t.end) _ (and_true (ltb t.index n) (ltb t.start t.end) (lt-ltb t.index n low) (lt-ltb t.start t.end some))
    (or_right (t.other && ltb t.start one) _ (and_true t.one (ltb t.start other) here.0 (lt-ltb t.start other here.1)))

not_met : (s t : Span) (n one other : ℕ) → is_met t n one other ≡ false → t.index < n → (s.one ≡ true → s.end ≤ one) → (s.other ≡ true → s.end ≤ other) → DoMeet s t → ⊥
not_met s t n one other unmet low by-one by-other meet =
    let reached = meet.reached in
    elim meet.kinds [
      | inl kind ↦
          let far = by-one kind.0 in
          let met = met_here t n one other low meet.second (inl (kind.1, omega arith)) in
          cc
      | inr kind ↦
          let far = by-other kind.0 in
          let met = met_here t n one other low meet.second (inr (kind.1, omega arith)) in
          cc
    ]

-- the spans before a place are apart, and reach no further
pub record IsSwept (spans : List Span) (n one other place : ℕ) : Type 0 where
  pub by-one : (p : ℕ) (d : Span) → p < place → (get_or spans p d).index < n → (get_or spans p d).one ≡ true → (get_or spans p d).end ≤ one
  pub by-other : (p : ℕ) (d : Span) → p < place → (get_or spans p d).index < n → (get_or spans p d).other ≡ true → (get_or spans p d).end ≤ other
  pub apart : (p q : ℕ) (d : Span) → p < q → q < place → (get_or spans p d).index < n → (get_or spans q d).index < n → DoMeet (get_or spans p d) (get_or spans q d) → ⊥

pub swept_none : (spans : List Span) (n : ℕ) → IsSwept spans n 0 0 0
swept_none spans n = record {
  by-one = λ p d low. absurd (omega arith);
  by-other = λ p d low. absurd (omega arith);
  apart = λ p q d order low. absurd (omega arith);
}

pub swept_more : (spans : List Span) (n one other one-2 other-2 place : ℕ) (t : Span) → place < length spans → t ≡ get_or spans place t → IsSwept spans n one other place → is_met t n one other ≡ false → one ≤ one-2 → other ≤ other-2 → (t.index < n → t.one ≡ true → t.end ≤ one-2) → (t.index < n → t.other ≡ true → t.end ≤ other-2) → IsSwept spans n one-2 other-2 (place + 1)
swept_more spans n one other one-2 other-2 place t inside is swept unmet more more-2 here here-2 =
    let item : (d : Span) → get_or spans place d ≡ t = λ d. get_or_default spans place d t inside ∙ sym is in
    record {
      by-one = λ p d low.
          elim (cases_eq p place) [
            | inl same ↦ subst (λ (k : ℕ). (get_or spans k d).index < n → (get_or spans k d).one ≡ true → (get_or spans k d).end ≤ one-2) (sym same)
                (subst (λ (s : Span). s.index < n → s.one ≡ true → s.end ≤ one-2) (sym (item d)) here)
            | inr other-place ↦ λ index kind. let before = swept.by-one p d (omega arith) index kind in omega arith
          ];
      by-other = λ p d low.
          elim (cases_eq p place) [
            | inl same ↦ subst (λ (k : ℕ). (get_or spans k d).index < n → (get_or spans k d).other ≡ true → (get_or spans k d).end ≤ other-2) (sym same)
                (subst (λ (s : Span). s.index < n → s.other ≡ true → s.end ≤ other-2) (sym (item d)) here-2)
            | inr other-place ↦ λ index kind. let before = swept.by-other p d (omega arith) index kind in omega arith
          ];
      apart = λ p q d order low.
          elim (cases_eq q place) [
            | inl same ↦ subst (λ (k : ℕ). (get_or spans p d).index < n → (get_or spans k d).index < n → DoMeet (get_or spans p d) (get_or spans k d) → ⊥) (sym same)
                (λ index. subst (λ (s : Span). s.index < n → DoMeet (get_or spans p d) s → ⊥) (sym (item d))
                (λ index-2. not_met (get_or spans p d) t n one other unmet index-2 (swept.by-one p d (omega arith) index) (swept.by-other p d (omega arith) index)))
            | inr other-place ↦ swept.apart p q d order (omega arith)
          ];
    }

pub apart_none : (spans : List Span) → AreApart spans 0
apart_none spans = λ p q d order inside low. absurd (omega arith)

-- ---- segments that meet have spans that do

meet_turned : (s t : Span) → DoMeet s t → DoMeet t s
meet_turned s t meet = record {
  first = meet.second;
  second = meet.first;
  reaches = meet.reached;
  reached = meet.reaches;
  kinds = elim meet.kinds [ inl kind ↦ inr (kind.1, kind.0) | inr kind ↦ inl (kind.1, kind.0) ];
}

bytes_meet : (i j : ℕ) (s t : SegmentImage) → shares_byte s t ≡ true → DoMeet (span_if true Byte i s) (span_if true Byte j t)
unfolding shares_byte
bytes_meet i j s t shared =
    let low = ltb-true (max s.at t.at) (min (end_of s) (end_of t)) shared in
    record { first = omega arith; second = omega arith; reaches = omega arith; reached = omega arith; kinds = inl (refl, refl) }

page_end_is : (s : SegmentImage) → has_byte s ≡ true → page_end s ≡ last_page s + 1
page_end_is s some = rw some refl

pages_meet : (i j : ℕ) (s t : SegmentImage) → clashes s t ≡ true → DoMeet (span_if true Page i s) (span_if true Page j t)
unfolding clashes
pages_meet i j s t clash =
    let page = and_first (shares_page s t) (rights_clash s.rights t.rights) clash in
    let rights = and_second (shares_page s t) (rights_clash s.rights t.rights) clash in
    let bytes = and_first (has_byte s && has_byte t) (leb (first_page s) (last_page t) && leb (first_page t) (last_page s)) page in
    let order = and_second (has_byte s && has_byte t) (leb (first_page s) (last_page t) && leb (first_page t) (last_page s)) page in
    let some-s = and_first (has_byte s) (has_byte t) bytes in
    let some-t = and_second (has_byte s) (has_byte t) bytes in
    let size-s = ltb-true 0 s.size some-s in
    let size-t = ltb-true 0 t.size some-t in
    let low = leb-true (first_page s) (last_page t) (and_first (leb (first_page s) (last_page t)) (leb (first_page t) (last_page s)) order) in
    let low-2 = leb-true (first_page t) (last_page s) (and_second (leb (first_page s) (last_page t)) (leb (first_page t) (last_page s)) order) in
    let end-s = page_end_is s some-s in
    let end-t = page_end_is t some-t in
    record {
      first = omega arith;
      second = omega arith;
      reaches = omega arith;
      reached = omega arith;
      kinds = elim (or_cases (is_writable s.rights && is_executable t.rights) (is_executable s.rights && is_writable t.rights) rights) [
        | inl one ↦ inl (and_first (is_writable s.rights) (is_executable t.rights) one, and_second (is_writable s.rights) (is_executable t.rights) one)
        | inr other ↦ inr (and_first (is_executable s.rights) (is_writable t.rights) other, and_second (is_executable s.rights) (is_writable t.rights) other)
      ];
    }

loaded_meet : (sharing : Sharing) (file : List ℕ) (i j : ℕ) → meets sharing file i j ≡ true → (is_loaded file i ≡ true) × (is_loaded file j ≡ true)
unfolding overlap_at clash_at
loaded_meet Byte file i j met =
    let loaded = and_first (is_loaded file i && is_loaded file j) _ met in
    (and_first (is_loaded file i) (is_loaded file j) loaded, and_second (is_loaded file i) (is_loaded file j) loaded)
loaded_meet Page file i j met =
    let loaded = and_first (is_loaded file i && is_loaded file j) _ met in
    (and_first (is_loaded file i) (is_loaded file j) loaded, and_second (is_loaded file i) (is_loaded file j) loaded)

segments_meet : (sharing : Sharing) (file : List ℕ) (i j : ℕ) → meets sharing file i j ≡ true → DoMeet (span_if true sharing i (segment file i)) (span_if true sharing j (segment file j))
unfolding overlap_at clash_at
segments_meet Byte file i j met = bytes_meet i j (segment file i) (segment file j) (and_second (is_loaded file i && is_loaded file j) _ met)
segments_meet Page file i j met = pages_meet i j (segment file i) (segment file j) (and_second (is_loaded file i && is_loaded file j) _ met)

span_loaded : (sharing : Sharing) (file : List ℕ) (i : ℕ) → is_loaded file i ≡ true → span_if true sharing i (segment file i) ≡ span_of sharing file i
unfolding span_of
span_loaded sharing file i loaded = rw loaded refl

spans_meet : (sharing : Sharing) (file : List ℕ) (i j : ℕ) → meets sharing file i j ≡ true → DoMeet (span_of sharing file i) (span_of sharing file j)
spans_meet sharing file i j met =
    let loaded = loaded_meet sharing file i j met in
    subst (λ (s : Span). DoMeet s (span_of sharing file j)) (span_loaded sharing file i loaded.0)
    (subst (λ (t : Span). DoMeet (span_if true sharing i (segment file i)) t) (span_loaded sharing file j loaded.1) (segments_meet sharing file i j met))

index_if : (loaded : Bool) (sharing : Sharing) (i : ℕ) (s : SegmentImage) → (span_if loaded sharing i s).index ≡ i
index_if false Byte i s = refl
index_if false Page i s = refl
index_if true Byte i s = refl
index_if true Page i s = refl

span_index : (sharing : Sharing) (file : List ℕ) (i : ℕ) → (span_of sharing file i).index ≡ i
unfolding span_of
span_index sharing file i = index_if (is_loaded file i) sharing i (segment file i)

unless_true : (b : Bool) → (b ≡ true → ⊥) → b ≡ false
unless_true true never = absurd (never refl)
unless_true false never = refl

-- two spans of a list whose spans are apart don't meet
list_apart : (spans : List Span) (n : ℕ) (s t : Span) → AreApart spans n → Contains spans s → Contains spans t → s.index < n → t.index < n → s.index ≢ t.index → DoMeet s t → ⊥
list_apart spans n s t apart has-s has-t low low-2 other meet =
    let at-s : get_or spans has-s.0 s ≡ s = has-s.2 in
    let at-t : get_or spans has-t.0 s ≡ t = get_or_default spans has-t.0 s t has-t.1 ∙ has-t.2 in
    let index-s = ap (λ (x : Span). x.index) at-s in
    let index-t = ap (λ (x : Span). x.index) at-t in
    elim (cases_lt has-s.0 has-t.0) [
      | inl before ↦
          apart has-s.0 has-t.0 s before has-t.1 (omega arith) (omega arith)
          (subst (λ (x : Span). DoMeet x (get_or spans has-t.0 s)) (sym at-s) (subst (λ (y : Span). DoMeet s y) (sym at-t) meet))
      | inr from ↦ elim (cases_eq has-s.0 has-t.0) [
        | inl same ↦ absurd (other (sym index-s ∙ (ap (λ (k : ℕ). (get_or spans k s).index) same ∙ index-t)))
        | inr apart-places ↦
            apart has-t.0 has-s.0 s (omega arith) has-s.1 (omega arith) (omega arith)
            (subst (λ (y : Span). DoMeet y (get_or spans has-s.0 s)) (sym at-t) (subst (λ (x : Span). DoMeet t x) (sym at-s) (meet_turned s t meet)))
      ]
    ]

pub spans_apart : (sharing : Sharing) (file : List ℕ) (spans : List Span) (count n : ℕ) → ((i : ℕ) → i < count → Contains spans (span_of sharing file i)) → n ≤ count → AreApart spans n → (i j : ℕ) → i < j → j < n → meets sharing file i j ≡ false
spans_apart sharing file spans count n each few apart i j order inside =
    let index-i = span_index sharing file i in
    let index-j = span_index sharing file j in
    unless_true (meets sharing file i j)
    (λ met. list_apart spans n (span_of sharing file i) (span_of sharing file j) apart (each i (omega arith)) (each j (omega arith)) (omega arith) (omega arith) (omega arith) (spans_meet sharing file i j met))
