-- The next name of two directories side by side.
use Rattle.std.proofs.Common.{◌≡◌, ℕ, not, cond, Bool, true, false, List, [], ◌∷◌, drop, refl, sym, ap, ◌∙◌, Option, Some, None}
use Rattle.std.specs.Prelude.{filter, is_some, option_map, MatchOption}
use Rattle.std.specs.Borrow.{Bor}
use Rattle.std.specs.declared.cmp.Ordering.{Ordering}
use Rattle.std.specs.declared.cmp.Ordering.TheVariants.{Less, Equal, Greater}
use Rattle.std.specs.Ordering.{nat_cmp}
use Rattle.std.specs.Cmp.Lexicographic.{slice_cmp}
use Rattle.std.proofs.lemmas.Bool.{false≢true}
use Rattle.jmount.specs.Tree.{ObjectOf, State, is_there}
use Rattle.jmount.specs.Shown.{shown}
use Rattle.jmount.specs.declared.object.Object.{Object}
use Rattle.jdiff.specs.Names.{SharedName, joined}
use Rattle.jdiff.specs.Sides.{names_behind, names_ahead}

abbrev pub those_there : State → List (List ℕ × ℕ) → List (List ℕ × ℕ)
those_there s names = filter (λ e. is_there s e.1) names

pub name_there : (s : State) (name : List ℕ) (i : ℕ) (all names : List (List ℕ × ℕ)) → all ≡ (name, i) ∷ names → is_there s i ≡ true
    → those_there s all ≡ (name, i) ∷ those_there s names
name_there s name i all names is there = ap (those_there s) is ∙ ap (λ (b : Bool). cond b ((name, i) ∷ those_there s names) (those_there s names)) there

pub name_gone : (s : State) (name : List ℕ) (i : ℕ) (all names : List (List ℕ × ℕ)) → all ≡ (name, i) ∷ names → is_there s i ≡ false
    → those_there s names ≡ those_there s all
name_gone s name i all names is gone = sym (ap (those_there s) is ∙ ap (λ (b : Bool). cond b ((name, i) ∷ those_there s names) (those_there s names)) gone)

pub shown_there : (o : Option (ObjectOf (List ℕ))) (r : Option Object) (b : Bool) → r ≡ option_map shown o → is_some r ≡ b → is_some o ≡ b
shown_there None r b is there = ap is_some (sym is) ∙ there
shown_there (Some x) r b is there = ap is_some (sym is) ∙ there

pub not_none : {X : Type 0} (o : Option X) (b : Bool) → is_some o ≡ not b → b ≡ false → o ≡ None → ⊥
not_none None b is off none = false≢true (is ∙ ap not off)
not_none (Some x) b is off none = cc

-- the next name is passed
pub passed : (s : State) (next result : Option (Bor (List ℕ) × ℕ)) (left new : Option (List (List ℕ × ℕ))) → (next ≡ None → ⊥)
    → MatchOption result (names_behind s left ≡ []) (λ n. names_behind s left ≡ (n.0.now, n.1) ∷ names_behind s new)
    → names_ahead s result new ≡ drop 1 (names_ahead s next left)
passed s None result left new some is = absurd (some refl)
passed s (Some n) None left new some is = sym is
passed s (Some n) (Some m) left new some is = sym is

-- ---- both at an end, or one

pub no_names : (xs ys : List (List ℕ × ℕ)) → xs ≡ [] → ys ≡ [] → joined xs ys ≡ []
no_names xs ys none nothing = ap (λ l. joined l ys) none ∙ ap (joined []) nothing

pub left_alone_next : (xs ys new : List (List ℕ × ℕ)) (name : List ℕ) (i : ℕ) → xs ≡ (name, i) ∷ drop 1 xs → ys ≡ [] → new ≡ drop 1 xs
    → joined xs ys ≡ (name, Some i, None) ∷ joined new ys
left_alone_next xs ys new name i first none passed =
    ap (λ l. joined l ys) first ∙ ap (joined ((name, i) ∷ drop 1 xs)) none
    ∙ ap (λ l. (name, Some i, None) ∷ joined l []) (sym passed) ∙ ap (λ l. (name, Some i, None) ∷ joined new l) (sym none)

pub right_alone_next : (xs ys new : List (List ℕ × ℕ)) (name : List ℕ) (i : ℕ) → xs ≡ [] → ys ≡ (name, i) ∷ drop 1 ys → new ≡ drop 1 ys
    → joined xs ys ≡ (name, None, Some i) ∷ joined xs new
right_alone_next xs ys new name i none first passed =
    ap (λ l. joined l ys) none ∙ ap (joined []) first
    ∙ ap (λ l. (name, None, Some i) ∷ joined [] l) (sym passed) ∙ ap (λ l. (name, None, Some i) ∷ joined l new) (sym none)

-- ---- the first of each

first_of_both : (x y : List ℕ × ℕ) (xs ys : List (List ℕ × ℕ)) (o : Ordering) → slice_cmp nat_cmp x.0 y.0 ≡ o → joined (x ∷ xs) (y ∷ ys) ≡ elim o [
  | Less ↦ (x.0, Some x.1, None) ∷ joined xs (y ∷ ys)
  | Equal ↦ (x.0, Some x.1, Some y.1) ∷ joined xs ys
  | Greater ↦ (y.0, None, Some y.1) ∷ joined (x ∷ xs) ys
]
first_of_both x y xs ys o is = ap (λ (r : Ordering). elim r as (λ _. List SharedName) [
  | Less ↦ (x.0, Some x.1, None) ∷ joined xs (y ∷ ys)
  | Equal ↦ (x.0, Some x.1, Some y.1) ∷ joined xs ys
  | Greater ↦ (y.0, None, Some y.1) ∷ joined (x ∷ xs) ys
]) is

both_first : (xs ys : List (List ℕ × ℕ)) (x y : List ℕ × ℕ) → xs ≡ x ∷ drop 1 xs → ys ≡ y ∷ drop 1 ys → joined xs ys ≡ joined (x ∷ drop 1 xs) (y ∷ drop 1 ys)
both_first xs ys x y first other = ap (λ l. joined l ys) first ∙ ap (joined (x ∷ drop 1 xs)) other

pub lesser_next : (xs ys new : List (List ℕ × ℕ)) (name other : List ℕ) (i j : ℕ) → xs ≡ (name, i) ∷ drop 1 xs → ys ≡ (other, j) ∷ drop 1 ys
    → slice_cmp nat_cmp name other ≡ Less → new ≡ drop 1 xs → joined xs ys ≡ (name, Some i, None) ∷ joined new ys
lesser_next xs ys new name other i j first second less passed =
    both_first xs ys (name, i) (other, j) first second ∙ first_of_both (name, i) (other, j) (drop 1 xs) (drop 1 ys) Less less
    ∙ ap (λ l. (name, Some i, None) ∷ joined l ((other, j) ∷ drop 1 ys)) (sym passed) ∙ ap (λ l. (name, Some i, None) ∷ joined new l) (sym second)

pub equal_next : (xs ys new more : List (List ℕ × ℕ)) (name other : List ℕ) (i j : ℕ) → xs ≡ (name, i) ∷ drop 1 xs → ys ≡ (other, j) ∷ drop 1 ys
    → slice_cmp nat_cmp name other ≡ Equal → new ≡ drop 1 xs → more ≡ drop 1 ys → joined xs ys ≡ (name, Some i, Some j) ∷ joined new more
equal_next xs ys new more name other i j first second same passed gone =
    both_first xs ys (name, i) (other, j) first second ∙ first_of_both (name, i) (other, j) (drop 1 xs) (drop 1 ys) Equal same
    ∙ ap (λ l. (name, Some i, Some j) ∷ joined l (drop 1 ys)) (sym passed) ∙ ap (λ l. (name, Some i, Some j) ∷ joined new l) (sym gone)

pub greater_next : (xs ys new : List (List ℕ × ℕ)) (name other : List ℕ) (i j : ℕ) → xs ≡ (name, i) ∷ drop 1 xs → ys ≡ (other, j) ∷ drop 1 ys
    → slice_cmp nat_cmp name other ≡ Greater → new ≡ drop 1 ys → joined xs ys ≡ (other, None, Some j) ∷ joined xs new
greater_next xs ys new name other i j first second more passed =
    both_first xs ys (name, i) (other, j) first second ∙ first_of_both (name, i) (other, j) (drop 1 xs) (drop 1 ys) Greater more
    ∙ ap (λ l. (other, None, Some j) ∷ joined ((name, i) ∷ drop 1 xs) l) (sym passed) ∙ ap (λ l. (other, None, Some j) ∷ joined l new) (sym first)
