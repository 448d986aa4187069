-- NamedSpans by their names, and in the order in which they were added.
use Rattle.std.proofs.Common.{◌≡◌, refl, ℕ, Bool, true, false, ◌≤◌, ◌+◌, ◌++◌, List, ◌∷◌, [], Option, Some, None, ap, sym, subst, ◌∙◌, length, take, drop, arith}
use Rattle.std.specs.Prelude.{String, bytes_eq, string_bytes, All, slice_get, if◌then◌else◌}
use Rattle.std.specs.String.{string_cmp}
use Rattle.std.specs.Ordering.{nat_cmp}
use Rattle.std.specs.Cmp.Lexicographic.{slice_cmp}
use Rattle.std.specs.BTreeMap.{BTreeMap, IsUnchanged, UpdatesBy, get_by_text}
use Rattle.std.proofs.lemmas.Map.Text.{btree_map_updates_text}
use Rattle.std.proofs.lemmas.Slice.Eq.{bytes_eq-Decides}
use Rattle.std.proofs.lemmas.List.{drop-append-le, take-append-le, length-append, length-drop}
use Rattle.std.proofs.lemmas.List.Elements.{All-push, All-weaker}
use Rattle.std.proofs.Math.Seq.{drop-append_seam, take-length}
use Rattle.std.proofs.lemmas.Option.{slice_get_within, get_or_from_slice_get}
use Rattle.jbuild.specs.declared.span.Span.{Span}
use Rattle.jbuild.specs.declared.named_spans.Named.{Named}
use Rattle.jbuild.specs.Named.{StandsByName}
use Rattle.jbuild.specs.Spans.{bytes_of_span}

-- what stands there also stands there before more bytes
pub span_before : (bytes more : List ℕ) (span : Span) → span.from + span.length ≤ length bytes → bytes_of_span (bytes ++ more) span ≡ bytes_of_span bytes span
span_before bytes more span within =
    let begins : span.from ≤ length bytes = omega arith in
    let ends : span.length ≤ length (drop span.from bytes) = rw (length-drop span.from bytes) (omega arith) in
    ap (take span.length) (drop-append-le span.from bytes more begins) ∙ take-append-le span.length (drop span.from bytes) more ends

-- ---- more names

stands_before : {Y : Type 0} (by_name : BTreeMap (String Y) Span) (names more : List ℕ) (named : Named) → StandsByName by_name names named → StandsByName by_name (names ++ more) named
stands_before by_name names more named is =
    let long : length (names ++ more) ≡ length names + length more = length-append names more in
    let within : named.name.from + named.name.length ≤ length names = is.0 in
    (omega arith, ap (get_by_text by_name) (span_before names more named.name is.0) ∙ is.1)

pub all_stand_before : {Y : Type 0} (by_name : BTreeMap (String Y) Span) (names more : List ℕ) (order : List Named) → All (StandsByName by_name names) order → All (StandsByName by_name (names ++ more)) order
all_stand_before by_name names more order all = All-weaker (StandsByName by_name names) (StandsByName by_name (names ++ more)) (stands_before by_name names more) order all

-- ---- one more file

-- one that was there is not the new one
stays : (name n : List ℕ) (get : List ℕ → Option Span) (new span : Span) (b : Bool) → b ≡ bytes_eq name n → get name ≡ None → get n ≡ Some span → (if b then Some new else get n) ≡ Some span
stays name n get new span true same none some =
    let equal : name ≡ n = (bytes_eq-Decides name n).0 (sym same) in
    let gone : get n ≡ None = subst (λ (m : List ℕ). get m ≡ None) equal none in
    cc
stays name n get new span false same none some = some

stands_beside : {Y : Type 0} (name names : List ℕ) (new : Span) (before after : BTreeMap (String Y) Span) (named : Named)
    → UpdatesBy string_cmp (λ k. slice_cmp nat_cmp name (string_bytes k)) before after (Some new) → get_by_text before name ≡ None
    → StandsByName before names named → StandsByName after names named
stands_beside name names new before after named updates none is =
    let own : List ℕ = bytes_of_span names named.name in
    (is.0, btree_map_updates_text name before after (Some new) updates own ∙ stays name own (get_by_text before) new named.span (bytes_eq name own) refl none is.1)

pub all_stand_beside : {Y : Type 0} (name names : List ℕ) (new : Span) (before after : BTreeMap (String Y) Span) (order : List Named)
    → UpdatesBy string_cmp (λ k. slice_cmp nat_cmp name (string_bytes k)) before after (Some new) → get_by_text before name ≡ None
    → All (StandsByName before names) order → All (StandsByName after names) order
all_stand_beside name names new before after order updates none all =
    All-weaker (StandsByName before names) (StandsByName after names) (λ named. stands_beside name names new before after named updates none) order all

-- ---- one of the order

pub stands_at : {Y : Type 0} (by_name : BTreeMap (String Y) Span) (names : List ℕ) (order : List Named) (i : ℕ) (named : Named)
    → All (StandsByName by_name names) order → slice_get order i ≡ Some named → StandsByName by_name names named
stands_at by_name names order i named all is =
    subst (StandsByName by_name names) (get_or_from_slice_get order i named named is) (all i named (slice_get_within order i named is))

-- ---- a call that adds a file

-- it failed
pub all_stand_same : {Y : Type 0} (names : List ℕ) (before after : BTreeMap (String Y) Span) (order : List Named)
    → IsUnchanged before after → All (StandsByName before names) order → All (StandsByName after names) order
all_stand_same names before after order same all =
    All-weaker (StandsByName before names) (StandsByName after names) (λ named is. (is.0, rw same is.1)) order all

-- the new one stands behind the others
stands_new : {Y : Type 0} (name names : List ℕ) (from long : ℕ) (new : Span) (after : BTreeMap (String Y) Span) → from ≡ length names → long ≡ length name
    → get_by_text after name ≡ Some new → StandsByName after (names ++ name) (record { name = record { from = from; length = long }; span = new })
stands_new name names from long new after is so there =
    let longer : length (names ++ name) ≡ length names + length name = length-append names name in
    let own : take long (drop from (names ++ name)) ≡ name =
    ap (λ (k : ℕ). take long (drop k (names ++ name))) is ∙ (ap (take long) (drop-append_seam names name) ∙ (ap (λ (k : ℕ). take k name) so ∙ take-length name)) in
    (omega arith, ap (get_by_text after) own ∙ there)

pub all_stand_new : {Y : Type 0} (b : Bool) (name names : List ℕ) (from long : ℕ) (new : Span) (before after : BTreeMap (String Y) Span) (order : List Named) → from ≡ length names → long ≡ length name
    → UpdatesBy string_cmp (λ k. slice_cmp nat_cmp name (string_bytes k)) before after (Some new) → get_by_text before name ≡ None
    → All (StandsByName before names) order
    → All (StandsByName after (names ++ name)) (if b then order ++ (record { name = record { from = from; length = long }; span = new }) ∷ [] else order)
all_stand_new true name names from long new before after order is so updates none all =
    All-push (StandsByName after (names ++ name)) order _ (all_stand_before after names name order (all_stand_beside name names new before after order updates none all))
    (stands_new name names from long new after is so updates.1)
all_stand_new false name names from long new before after order is so updates none all =
    all_stand_before after names name order (all_stand_beside name names new before after order updates none all)
