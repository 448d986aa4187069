-- NamedSpans among the bytes of all.
use Rattle.std.proofs.Common.{◌≡◌, ℕ, Bool, true, false, cond, ◌≤◌, ◌+◌, ◌-◌, ◌++◌, List, Option, Some, None, Result, Ok, Err, refl, ap, sym, subst, ◌∙◌, length, drop, take, arith}
use Rattle.std.specs.Prelude.{bytes_eq, option_map, OnOk, OnErr, if◌then◌else◌}
use Rattle.std.proofs.lemmas.List.{drop-append-le, take-append-le, length-append, length-drop}
use Rattle.std.proofs.Math.Seq.{drop-append_seam, take-length}
use Rattle.jbuild.specs.declared.span.Span.{Span}
use Rattle.jbuild.specs.declared.named_spans.NamedSpans.{NamedSpans}
use Rattle.jbuild.specs.NamedSpans.{AreSameSpans, SetsSpan, span_of}
use Rattle.jbuild.specs.Spans.{bytes_of_span, end_of_span}

-- what stood there stands there also before more bytes
pub kept : (bytes more : List ℕ) (span : Option Span) → end_of_span span ≤ length bytes → option_map (bytes_of_span (bytes ++ more)) span ≡ option_map (bytes_of_span bytes) span
kept bytes more None within = refl
kept bytes more (Some span) within =
    let begins : span.from ≤ length bytes = omega arith in
    let ends : span.length ≤ length (drop span.from bytes) = rw (length-drop span.from bytes) (omega arith) in
    ap Some (ap (take span.length) (drop-append-le span.from bytes more begins) ∙ take-append-le span.length (drop span.from bytes) more ends)

-- each file is within
within_by : (b : Bool) (span : Span) (old : Option Span) (room : ℕ) → end_of_span old ≤ room → span.from + span.length ≤ room → end_of_span (cond b (Some span) old) ≤ room
within_by true span old room was new = new
within_by false span old room was new = was

pub all_within : {A B : Type 0} (r : Result A B) (name : List ℕ) (span : Span) (old new : NamedSpans) (room : ℕ)
    → OnOk r (SetsSpan old new name span) → OnErr r (AreSameSpans old new)
    → ((n : List ℕ) → end_of_span (span_of old n) ≤ room) → span.from + span.length ≤ room → (n : List ℕ) → end_of_span (span_of new n) ≤ room
all_within (Ok x) name span old new room sets same was is n =
    subst (λ (o : Option Span). end_of_span o ≤ room) (sym (sets n)) (within_by (bytes_eq name n) span (span_of old n) room (was n) is)
all_within (Err x) name span old new room sets same was is n = rw (same n) (was n)

-- the new file has its bytes, and the others theirs
read_by : (b : Bool) (bytes more : List ℕ) (from : ℕ) (old : Option Span) → from ≡ length bytes → end_of_span old ≤ length bytes
    → option_map (bytes_of_span (bytes ++ more)) (cond b (Some (record { from = from; length = length more })) old) ≡ (if b then Some more else option_map (bytes_of_span bytes) old)
read_by true bytes more from old is was = ap Some (ap (λ (k : ℕ). take (length more) (drop k (bytes ++ more))) is ∙ ap (take (length more)) (drop-append_seam bytes more) ∙ take-length more)
read_by false bytes more from old is was = kept bytes more old was

pub read_after : (name bytes more : List ℕ) (from : ℕ) (old new : NamedSpans) → from ≡ length bytes
    → SetsSpan old new name (record { from = from; length = length more })
    → ((n : List ℕ) → end_of_span (span_of old n) ≤ length bytes)
    → (n : List ℕ) → option_map (bytes_of_span (bytes ++ more)) (span_of new n) ≡ (if bytes_eq name n then Some more else option_map (bytes_of_span bytes) (span_of old n))
read_after name bytes more from old new is sets was n =
    ap (option_map (bytes_of_span (bytes ++ more))) (sets n) ∙ read_by (bytes_eq name n) bytes more from (span_of old n) is (was n)

-- one that was found is within
pub found_within : (name : List ℕ) (files : NamedSpans) (span : Span) (room : ℕ) → Some span ≡ span_of files name
    → ((n : List ℕ) → end_of_span (span_of files n) ≤ room) → span.from + span.length ≤ room
found_within name files span room is was = subst (λ (o : Option Span). end_of_span o ≤ room) (sym is) (was name)

-- ---- bytes that were read behind those of all

pub read_within : {A B : Type 0} (r : Result A B) (name bytes more now : List ℕ) (from long : ℕ) (old new : NamedSpans) → now ≡ bytes ++ more → from ≡ length bytes
    → long ≡ length now - from
    → OnOk r (SetsSpan old new name (record { from = from; length = long })) → OnErr r (AreSameSpans old new)
    → ((n : List ℕ) → end_of_span (span_of old n) ≤ length bytes) → (n : List ℕ) → end_of_span (span_of new n) ≤ length now
read_within r name bytes more now from long old new stands is so sets same was =
    let longer : length now ≡ length bytes + length more = rw stands (length-append bytes more) in
    all_within r name _ old new (length now) sets same (λ n. let fits = was n in omega arith) (omega arith)

pub read_all : (name bytes more now : List ℕ) (from long : ℕ) (old new : NamedSpans) → now ≡ bytes ++ more → from ≡ length bytes → long ≡ length now - from
    → SetsSpan old new name (record { from = from; length = long })
    → ((n : List ℕ) → end_of_span (span_of old n) ≤ length bytes)
    → (n : List ℕ) → option_map (bytes_of_span now) (span_of new n) ≡ (if bytes_eq name n then Some more else option_map (bytes_of_span bytes) (span_of old n))
read_all name bytes more now from long old new stands is so sets was =
    let longer : length now ≡ length bytes + length more = rw stands (length-append bytes more) in
    let own : long ≡ length more = omega arith in
    subst (λ (all : List ℕ). (n : List ℕ) → option_map (bytes_of_span all) (span_of new n) ≡ (if bytes_eq name n then Some more else option_map (bytes_of_span bytes) (span_of old n))) (sym stands)
    (read_after name bytes more from old new is
    (subst (λ (k : ℕ). SetsSpan old new name (record { from = from; length = k })) own sets) was)

-- where there was no memory for the name
pub read_same : (bytes more now : List ℕ) (old new : NamedSpans) → now ≡ bytes ++ more → AreSameSpans old new
    → ((n : List ℕ) → end_of_span (span_of old n) ≤ length bytes)
    → (n : List ℕ) → option_map (bytes_of_span now) (span_of new n) ≡ option_map (bytes_of_span bytes) (span_of old n)
read_same bytes more now old new stands same was n = rw stands (rw (same n) (kept bytes more (span_of old n) (was n)))

pub on_err : {A B : Type 0} (r : Result A B) (P : Type 0) → P → OnErr r P
on_err (Ok x) P is = tt
on_err (Err x) P is = is
