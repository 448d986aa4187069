-- The paths of places rise.
use Rattle.std.proofs.Common.{◌≡◌, ℕ, List, [], ◌∷◌, ◌++◌, refl, sym, ap, ◌∙◌, subst, ◌⊎◌, inl, inr, ⊎_elim}
use Rattle.std.specs.Prelude.{⊤}
use Rattle.std.specs.List.{AllByRecursion}
use Rattle.std.specs.declared.cmp.Ordering.{Ordering}
use Rattle.std.specs.declared.cmp.Ordering.TheVariants.{Less, Equal, Greater}
use Rattle.std.specs.Ordering.{ordering_then, ordering_reverse}
use Rattle.std.proofs.lemmas.Cmp.{nat_list_cmp_total}
use Rattle.jmount.specs.Tree.{State}
use Rattle.jreport.specs.TreeText.{Met}
use Rattle.jdiff.specs.Names.{SharedName, names_there, joined}
use Rattle.jdiff.specs.Pairing.{Place, path_cmp, AreInOrder}
use Rattle.jdiff.specs.Walking.{Spot, met_by, entered_at, spots_of, spots_after, AreSpotPlaces}
use Rattle.jdiff.proofs.NameLemmas.{name_cmp, AboveShared, RisingShared, joined_rising, there_rises}

abbrev Path : Type 0
Path = List (List ℕ)

-- ---- a path before another, which does not lie below it

abbrev IsLeftOf : Path → Path → Type 0
IsLeftOf [] q = ⊥
IsLeftOf (m ∷ p) [] = ⊥
IsLeftOf (m ∷ p) (n ∷ q) = (name_cmp m n ≡ Less) ⊎ ((name_cmp m n ≡ Equal) × IsLeftOf p q)

same_name : (n : List ℕ) → name_cmp n n ≡ Equal
same_name n = by (name_cmp n n) (nat_list_cmp_total.antisymm n n)
  where
    by : (o : Ordering) → o ≡ ordering_reverse o → o ≡ Equal
    by Less is = cc
    by Equal is = refl
    by Greater is = cc

is_before : (p q : Path) → IsLeftOf p q → path_cmp p q ≡ Less
is_before [] q left = absurd left
is_before (m ∷ p) [] left = absurd left
is_before (m ∷ p) (n ∷ q) left =
    ⊎_elim
    (λ (less : name_cmp m n ≡ Less). ap (λ (o : Ordering). ordering_then o (path_cmp p q)) less)
    (λ (same : (name_cmp m n ≡ Equal) × IsLeftOf p q). ap (λ (o : Ordering). ordering_then o (path_cmp p q)) same.0 ∙ is_before p q same.1)
    left

left_of_below : (p q r : Path) → IsLeftOf p q → IsLeftOf (p ++ r) q
left_of_below [] q r left = absurd left
left_of_below (m ∷ p) [] r left = absurd left
left_of_below (m ∷ p) (n ∷ q) r left =
    ⊎_elim
    (λ (less : name_cmp m n ≡ Less). inl less)
    (λ (same : (name_cmp m n ≡ Equal) × IsLeftOf p q). inr (same.0, left_of_below p q r same.1))
    left

siblings : (p : Path) (m n : List ℕ) → name_cmp m n ≡ Less → IsLeftOf (p ++ m ∷ []) (p ++ n ∷ [])
siblings [] m n less = inl less
siblings (k ∷ p) m n less = inr (same_name k, siblings p m n less)

before_below : (p : Path) (n : List ℕ) → path_cmp p (p ++ n ∷ []) ≡ Less
before_below [] n = refl
before_below (m ∷ p) n = ap (λ (o : Ordering). ordering_then o (path_cmp p (p ++ n ∷ []))) (same_name m) ∙ before_below p n

before_more : (p q r : Path) → path_cmp p q ≡ Less → path_cmp p (q ++ r) ≡ Less
before_more [] [] r before = cc
before_more [] (n ∷ q) r before = refl
before_more (m ∷ p) [] r before = cc
before_more (m ∷ p) (n ∷ q) r before = by (name_cmp m n) (λ e. before_more p q r e) before
  where
    by : (o : Ordering) → (path_cmp p q ≡ Less → path_cmp p (q ++ r) ≡ Less) → ordering_then o (path_cmp p q) ≡ Less → ordering_then o (path_cmp p (q ++ r)) ≡ Less
    by Less more is = refl
    by Equal more is = more is
    by Greater more is = cc

-- ---- of each

all_both : {X : Type 0} (P : X → Type 0) (xs ys : List X) → AllByRecursion P xs → AllByRecursion P ys → AllByRecursion P (xs ++ ys)
all_both P [] ys all more = more
all_both P (x ∷ xs) ys all more = (all.0, all_both P xs ys all.1 more)

all_so : {X : Type 0} (P Q : X → Type 0) → ((x : X) → P x → Q x) → (xs : List X) → AllByRecursion P xs → AllByRecursion Q xs
all_so P Q so [] all = tt
all_so P Q so (x ∷ xs) all = (so x all.0, all_so P Q so xs all.1)

-- ---- what is still to compare lies apart

abbrev AreApart : List Spot → Type 0
AreApart [] = ⊤
AreApart (spot ∷ todo) = AllByRecursion (λ later. IsLeftOf spot.0 later.0) todo × AreApart todo

later_siblings : (p : Path) (n : List ℕ) (names : List SharedName) → AboveShared n names → AllByRecursion (λ (later : Spot). IsLeftOf (p ++ n ∷ []) later.0) (spots_of p names)
later_siblings p n [] above = tt
later_siblings p n (m ∷ names) above = (siblings p n m.0 above.0, later_siblings p n names above.1)

spots_apart : (p : Path) (names : List SharedName) (todo : List Spot) → RisingShared names → AllByRecursion (λ (later : Spot). IsLeftOf p later.0) todo → AreApart todo
    → AreApart (spots_of p names ++ todo)
spots_apart p [] todo rising left apart = apart
spots_apart p (n ∷ names) todo rising left apart = (
  all_both (λ (later : Spot). IsLeftOf (p ++ n.0 ∷ []) later.0) (spots_of p names) todo (later_siblings p n.0 names rising.0)
      (all_so (λ (later : Spot). IsLeftOf p later.0) (λ (later : Spot). IsLeftOf (p ++ n.0 ∷ []) later.0) (λ later is. left_of_below p later.0 (n.0 ∷ []) is) todo left),
  spots_apart p names todo rising.1 left apart,
)

apart_after : (s t : State) (a b : Met) (spot : Spot) (todo : List Spot) → AreApart (spot ∷ todo) → AreApart (spots_after s t a b spot todo)
apart_after s t a b spot todo apart =
    let xs = names_there s (entered_at s a spot.1) in
    let ys = names_there t (entered_at t b spot.2) in
    spots_apart spot.0 (joined xs ys) todo (joined_rising xs ys (there_rises s (entered_at s a spot.1)) (there_rises t (entered_at t b spot.2))) apart.0 apart.1

-- ---- places behind a path

abbrev IsBehind : Path → Spot → Type 0
IsBehind p spot = path_cmp p spot.0 ≡ Less

below_behind : (p q : Path) (names : List SharedName) → path_cmp p q ≡ Less → AllByRecursion (IsBehind p) (spots_of q names)
below_behind p q [] before = tt
below_behind p q (n ∷ names) before = (before_more p q (n.0 ∷ []) before, below_behind p q names before)

own_behind : (p : Path) (names : List SharedName) → AllByRecursion (IsBehind p) (spots_of p names)
own_behind p [] = tt
own_behind p (n ∷ names) = (before_below p n.0, own_behind p names)

all_behind : (p : Path) (s t : State) (todo : List Spot) (a b : Met) (places : List Place) → AllByRecursion (IsBehind p) todo → AreSpotPlaces s t a b todo places
    → AllByRecursion (λ (later : Place). path_cmp p later.path ≡ Less) places
all_behind p s t [] a b places behind are = subst (AllByRecursion (λ (later : Place). path_cmp p later.path ≡ Less)) (sym are) tt
all_behind p s t (spot ∷ todo) a b [] behind are = absurd are
all_behind p s t (spot ∷ todo) a b (place ∷ places) behind are = (
  subst (λ (x : Place). path_cmp p x.path ≡ Less) (sym are.0) behind.0,
  all_behind p s t (spots_after s t a b spot todo) (met_by s a spot.1) (met_by t b spot.2) places
      (all_both (IsBehind p) (spots_of spot.0 (joined (names_there s (entered_at s a spot.1)) (names_there t (entered_at t b spot.2)))) todo
      (below_behind p spot.0 (joined (names_there s (entered_at s a spot.1)) (names_there t (entered_at t b spot.2))) behind.0) behind.1) are.1,
)

in_order : (s t : State) (todo : List Spot) (a b : Met) (places : List Place) → AreApart todo → AreSpotPlaces s t a b todo places → AreInOrder places
in_order s t [] a b places apart are = subst AreInOrder (sym are) tt
in_order s t (spot ∷ todo) a b [] apart are = absurd are
in_order s t (spot ∷ todo) a b (place ∷ places) apart are =
    let names = joined (names_there s (entered_at s a spot.1)) (names_there t (entered_at t b spot.2)) in
    let behind : AllByRecursion (IsBehind spot.0) (spots_of spot.0 names ++ todo) =
    all_both (IsBehind spot.0) (spots_of spot.0 names) todo (own_behind spot.0 names)
    (all_so (λ (later : Spot). IsLeftOf spot.0 later.0) (IsBehind spot.0) (λ later is. is_before spot.0 later.0 is) todo apart.0) in (
      subst (λ (x : Place). AllByRecursion (λ (later : Place). path_cmp x.path later.path ≡ Less) places) (sym are.0)
          (all_behind spot.0 s t (spots_after s t a b spot todo) (met_by s a spot.1) (met_by t b spot.2) places behind are.1),
      in_order s t (spots_after s t a b spot todo) (met_by s a spot.1) (met_by t b spot.2) places (apart_after s t a b spot todo apart) are.1,
    )

pub root_in_order : (s t : State) (spot : Spot) (a b : Met) (places : List Place) → AreSpotPlaces s t a b (spot ∷ []) places → AreInOrder places
root_in_order s t spot a b places are = in_order s t (spot ∷ []) a b places (tt, tt) are

-- ---- a path is not before itself

pub not_before : (p : Path) → path_cmp p p ≡ Less → ⊥
not_before [] less = cc
not_before (n ∷ p) less = not_before p (sym (ap (λ (o : Ordering). ordering_then o (path_cmp p p)) (same_name n)) ∙ less)
