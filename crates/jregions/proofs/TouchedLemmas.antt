-- Which units are marked.
use Rattle.std.proofs.Common.{◌≡◌, ℕ, ◌<◌, ◌≤◌, Bool, true, false, ◌&&◌, ◌||◌, List, [], ◌∷◌, ◌++◌, get_or, take, drop, length, append-nil, refl, sym, ap, ◌∙◌, arith, inl, inr}
use Rattle.std.proofs.lemmas.List.{drop_all, take_all}
use Rattle.std.proofs.lemmas.Bool.{cases_lt, le-leb, lt-leb}
use Rattle.std.proofs.Math.Bool.{or-true}
use Rattle.std.specs.Prelude.{nat_le}
use Rattle.std.specs.List.{list_any}
use Rattle.jscan.specs.declared.extent.Extent.{Extent}
use Rattle.jregions.specs.Units.{reaches_unit}

or_assoc : (a b c : Bool) → ((a || b) || c) ≡ (a || (b || c))
or_assoc true b c = refl
or_assoc false b c = refl

or_false : (a : Bool) → (a || false) ≡ a
or_false true = refl
or_false false = refl

-- marks of what was walked over, and what is left of a walk, come to the whole
pub record MarksGoOn (n : ℕ) (whole left : List Extent) (marks : List Bool) : Type 0 where
  pub long : length marks ≡ n
  pub each : (u : ℕ) → u < n → (get_or marks u false || list_any (reaches_unit u) left) ≡ list_any (reaches_unit u) whole

pub marks_begin : (n : ℕ) (whole : List Extent) (marks : List Bool) → length marks ≡ n → ((u : ℕ) → u < n → get_or marks u false ≡ false)
    → MarksGoOn n whole whole marks
marks_begin n whole marks long none = record {
  long = long;
  each = λ u in_n. ap (λ (b : Bool). b || list_any (reaches_unit u) whole) (none u in_n);
}

pub marks_next : (n : ℕ) (whole left : List Extent) (s : Extent) (old new : List Bool) → MarksGoOn n whole (s ∷ left) old → length new ≡ length old
    → ((u : ℕ) → u < length old → get_or new u false ≡ (get_or old u false || reaches_unit u s)) → MarksGoOn n whole left new
marks_next n whole left s old new go long each = record {
  long = long ∙ go.long;
  each = λ u in_n.
      ap (λ (b : Bool). b || list_any (reaches_unit u) left) (each u (omega (arith, go.long, in_n)))
      ∙ or_assoc (get_or old u false) (reaches_unit u s) (list_any (reaches_unit u) left)
      ∙ go.each u in_n;
}

pub marks_end : (n : ℕ) (whole : List Extent) (marks : List Bool) → MarksGoOn n whole [] marks
    → (u : ℕ) → u < n → get_or marks u false ≡ list_any (reaches_unit u) whole
marks_end n whole marks go u in_n = sym (or_false (get_or marks u false)) ∙ go.each u in_n

pub marked_is : (now old : Bool) (first last u : ℕ) → (first ≤ u → u ≤ last → now ≡ true) → (u < first → now ≡ old) → (last < u → now ≡ old)
    → now ≡ (old || (nat_le first u && nat_le u last))
marked_is now old first last u inside below above = elim (cases_lt u first) [
  | inl before ↦ below before ∙ sym (ap (λ (b : Bool). old || (b && nat_le u last)) (lt-leb first u before) ∙ or_false old)
  | inr from ↦ elim (cases_lt last u) [
    | inl past ↦
        above past
        ∙ sym (ap (λ (b : Bool). old || (b && nat_le u last)) (le-leb first u from) ∙ ap (λ (b : Bool). old || b) (lt-leb u last past) ∙ or_false old)
    | inr within ↦
        inside from within
        ∙ sym (ap (λ (b : Bool). old || (b && nat_le u last)) (le-leb first u from) ∙ ap (λ (b : Bool). old || b) (le-leb u last within) ∙ or-true old)
  ]
]

-- what is written over all of a list
pub written_whole : {X : Type 0} (new old : List X) (len : ℕ) → length new ≡ length old → len ≡ length old → take len (new ++ drop (length new) old) ≡ new
written_whole {X} new old len long same =
    ap (λ (l : List X). take len (new ++ l)) (drop_all (length new) old (omega (arith, long)))
    ∙ ap (take len) (append-nil new)
    ∙ take_all len new (omega (arith, long, same))
