-- The names of a directory in a part of a file system.
use Rattle.std.proofs.Common.{◌≡◌, ℕ, ◌==◌, Bool, true, false, List, [], ◌∷◌, map, cond, refl, sym, ap, ◌∙◌, arith}
use Rattle.std.specs.Prelude.{filter}
use Rattle.std.specs.FinMap.{entries, entries_sorted, entries-from_sorted}
use Rattle.std.specs.FinMap.Entries.{is_sorted-where_key}
use Rattle.std.proofs.lemmas.Bool.Decides.{nat_tests}
use Rattle.jname.specs.Live.{Key, key_cmp}
use Rattle.jmount.specs.Tree.{State, entries_in}
use Rattle.jextract.specs.Parts.{is_in_part, part_along}
use Rattle.jextract.specs.Walking.{names_in_part}

taken : {X : Type 0} (p : X → Bool) (x : X) (xs : List X) → p x ≡ true → filter p (x ∷ xs) ≡ x ∷ filter p xs
taken {X} p x xs is = ap (λ (b : Bool). cond b (x ∷ filter p xs) (filter p xs)) is

passed : {X : Type 0} (p : X → Bool) (x : X) (xs : List X) → p x ≡ false → filter p (x ∷ xs) ≡ filter p xs
passed {X} p x xs is = ap (λ (b : Bool). cond b (x ∷ filter p xs) (filter p xs)) is

-- an entry, and what a directory says of it
abbrev Named : Type 0
Named = Key × ℕ

abbrev as_name : Named → List ℕ × ℕ
as_name e = (e.0.1, e.1)

abbrev is_of : ℕ → Named → Bool
is_of dir e = e.0.0 == dir

abbrev is_kept : List Key → Named → Bool
is_kept part e = is_in_part part e.0.0 e.0.1

-- those of a directory among those that are in the part
same_names : (part : List Key) (dir : ℕ) (es : List Named) → map as_name (filter (is_of dir) (filter (is_kept part) es)) ≡ names_in_part part dir (map as_name (filter (is_of dir) es))
same_names part dir [] = refl
same_names part dir (e ∷ es) = by (same_names part dir es) (is_of dir e) (is_kept part e) refl refl
  where
    rest : List (List ℕ × ℕ)
    rest = map as_name (filter (is_of dir) es)

    dir_is : is_of dir e ≡ true → e.0.0 ≡ dir
    dir_is at = grind (arith, nat_tests)

    by : map as_name (filter (is_of dir) (filter (is_kept part) es)) ≡ names_in_part part dir rest → (here inside : Bool) → is_of dir e ≡ here → is_kept part e ≡ inside
        → map as_name (filter (is_of dir) (filter (is_kept part) (e ∷ es))) ≡ names_in_part part dir (map as_name (filter (is_of dir) (e ∷ es)))
    by so true true at is =
        ap (λ (l : List Named). map as_name (filter (is_of dir) l)) (taken (is_kept part) e es is)
        ∙ ap (map as_name) (taken (is_of dir) e (filter (is_kept part) es) at)
        ∙ ap (λ (l : List (List ℕ × ℕ)). as_name e ∷ l) so
        ∙ sym (taken (λ (x : List ℕ × ℕ). is_in_part part dir x.0) (as_name e) rest (ap (λ (d : ℕ). is_in_part part d e.0.1) (sym (dir_is at)) ∙ is))
        ∙ sym (ap (λ (l : List Named). names_in_part part dir (map as_name l)) (taken (is_of dir) e es at))
    by so true false at is =
        ap (λ (l : List Named). map as_name (filter (is_of dir) l)) (passed (is_kept part) e es is)
        ∙ so
        ∙ sym (passed (λ (x : List ℕ × ℕ). is_in_part part dir x.0) (as_name e) rest (ap (λ (d : ℕ). is_in_part part d e.0.1) (sym (dir_is at)) ∙ is))
        ∙ sym (ap (λ (l : List Named). names_in_part part dir (map as_name l)) (taken (is_of dir) e es at))
    by so false true at is =
        ap (λ (l : List Named). map as_name (filter (is_of dir) l)) (taken (is_kept part) e es is)
        ∙ ap (map as_name) (passed (is_of dir) e (filter (is_kept part) es) at)
        ∙ so
        ∙ sym (ap (λ (l : List Named). names_in_part part dir (map as_name l)) (passed (is_of dir) e es at))
    by so false false at is =
        ap (λ (l : List Named). map as_name (filter (is_of dir) l)) (passed (is_kept part) e es is)
        ∙ so
        ∙ sym (ap (λ (l : List Named). names_in_part part dir (map as_name l)) (passed (is_of dir) e es at))

pub entries_along : (part : List Key) (s : State) (dir : ℕ) → entries_in (part_along part s) dir ≡ names_in_part part dir (entries_in s dir)
entries_along part s dir =
    ap (λ (es : List Named). map as_name (filter (is_of dir) es))
    (entries-from_sorted key_cmp (filter (is_kept part) (entries s.names))
    (is_sorted-where_key key_cmp (λ k. is_in_part part k.0 k.1) (entries s.names) (entries_sorted s.names)))
    ∙ same_names part dir (entries s.names)
