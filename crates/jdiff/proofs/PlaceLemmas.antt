-- The places of two trees: the entries of each are its own, and there are places of whatever is still to compare.
use Rattle.std.proofs.Common.{◌≡◌, ℕ, zero, suc, ◌+◌, ◌≤◌, ◌&&◌, cond, Bool, true, false, List, [], ◌∷◌, ◌++◌, map, length, refl, sym, ap, ◌∙◌, subst, arith, Option, Some, None}
use Rattle.std.specs.Prelude.{filter_map, option_map}
use Rattle.std.specs.List.{AllByRecursion, cons_option}
use Rattle.std.specs.declared.cmp.Ordering.{Ordering}
use Rattle.std.specs.declared.cmp.Ordering.TheVariants.{Less, Equal, Greater}
use Rattle.std.specs.Ordering.{nat_cmp}
use Rattle.std.specs.Cmp.Lexicographic.{slice_cmp}
use Rattle.std.proofs.lemmas.List.{length-map, length-append}
use Rattle.std.proofs.lemmas.List.Elements.{filter_map-append}
use Rattle.std.proofs.lemmas.List.Sums.{length-filter, count_by-le-length}
use Rattle.jmount.specs.Tree.{State, object, is_there, is_directory, entries_in}
use Rattle.jmount.specs.Shown.{readable, shown}
use Rattle.jmount.specs.declared.object.Object.{Object}
use Rattle.jreport.specs.TreeText.{Item, Met, items_of, met_after, todo_after, is_entered}
use Rattle.jreport.specs.Walking.{unmet}
use Rattle.jreport.proofs.ListingLemmas.{unmet_entered, unmet_after}
use Rattle.jdiff.specs.Entries.{Entry, entry_if, listed_entry, AreFound, entries_found}
use Rattle.jdiff.specs.Names.{SharedName, names_there, join_first, joined}
use Rattle.jdiff.specs.Pairing.{Place, IsAtPath}
use Rattle.jdiff.specs.Walking.{Spot, spot_entry, met_by, entered_at, spots_of, spot_place, spots_after, AreSpotPlaces}
use Rattle.jdiff.proofs.NameLemmas.{left_name, right_name, joined_left, joined_right}

-- ---- the items of each tree

abbrev pub left_item : Spot → Option Item
left_item spot = option_map (λ i. (spot.0, i)) spot.1

abbrev pub right_item : Spot → Option Item
right_item spot = option_map (λ i. (spot.0, i)) spot.2

abbrev pub item_below : List (List ℕ) → List ℕ × ℕ → Item
item_below path e = (path ++ e.0 ∷ [], e.1)

left_below : (path : List (List ℕ)) (names : List SharedName) → filter_map left_item (spots_of path names) ≡ map (item_below path) (filter_map left_name names)
left_below path [] = refl
left_below path (n ∷ names) = by n.1 (left_below path names)
  where
    by : (o : Option ℕ) → filter_map left_item (spots_of path names) ≡ map (item_below path) (filter_map left_name names)
        → cons_option (option_map (λ i. (path ++ n.0 ∷ [], i)) o) (filter_map left_item (spots_of path names))
        ≡ map (item_below path) (cons_option (option_map (λ i. (n.0, i)) o) (filter_map left_name names))
    by None more = more
    by (Some i) more = ap (λ l. item_below path (n.0, i) ∷ l) more

right_below : (path : List (List ℕ)) (names : List SharedName) → filter_map right_item (spots_of path names) ≡ map (item_below path) (filter_map right_name names)
right_below path [] = refl
right_below path (n ∷ names) = by n.2 (right_below path names)
  where
    by : (o : Option ℕ) → filter_map right_item (spots_of path names) ≡ map (item_below path) (filter_map right_name names)
        → cons_option (option_map (λ i. (path ++ n.0 ∷ [], i)) o) (filter_map right_item (spots_of path names))
        ≡ map (item_below path) (cons_option (option_map (λ i. (n.0, i)) o) (filter_map right_name names))
    by None more = more
    by (Some i) more = ap (λ l. item_below path (n.0, i) ∷ l) more

pub left_spots : (path : List (List ℕ)) (xs ys : List (List ℕ × ℕ)) (todo : List Spot)
    → filter_map left_item (spots_of path (joined xs ys) ++ todo) ≡ map (item_below path) xs ++ filter_map left_item todo
left_spots path xs ys todo =
    filter_map-append left_item (spots_of path (joined xs ys)) todo
    ∙ ap (λ (l : List Item). l ++ filter_map left_item todo) (left_below path (joined xs ys) ∙ ap (map (item_below path)) (joined_left xs ys))

pub right_spots : (path : List (List ℕ)) (xs ys : List (List ℕ × ℕ)) (todo : List Spot)
    → filter_map right_item (spots_of path (joined xs ys) ++ todo) ≡ map (item_below path) ys ++ filter_map right_item todo
right_spots path xs ys todo =
    filter_map-append right_item (spots_of path (joined xs ys)) todo
    ∙ ap (λ (l : List Item). l ++ filter_map right_item todo) (right_below path (joined xs ys) ∙ ap (map (item_below path)) (joined_right xs ys))

-- the names of a number that is visited, before what else is still to list
pub entered_items : (s : State) (met : Met) (path : List (List ℕ)) (i : ℕ) (todo : List Item)
    → map (item_below path) (names_there s (entered_at s met (Some i))) ++ todo ≡ todo_after s met (path, i) todo
entered_items s met path i todo = by (is_entered s met i)
  where
    by : (b : Bool) → map (item_below path) (names_there s (cond b (Some i) None)) ++ todo ≡ cond b (items_of s path (entries_in s i) ++ todo) todo
    by true = refl
    by false = refl

-- ---- what each tree lists

pub record Lists (s : State) (met : Met) (items : List Item) (entries : List Entry) : Type 0 where
  pub found : List (Option Entry)
  pub are : AreFound s met items found
  pub there : entries_found found ≡ entries

left_lists : (s t : State) (todo : List Spot) (a b : Met) (places : List Place) → AreSpotPlaces s t a b todo places
    → Lists s a (filter_map left_item todo) (filter_map (λ place. place.left) places)
left_lists s t [] a b places are =
    record { found = []; are = refl; there = ap (filter_map (λ (place : Place). place.left)) (sym are) }
left_lists s t (spot ∷ todo) a b [] are = absurd are
left_lists s t (spot ∷ todo) a b (place ∷ places) are =
    by spot.1 (ap (λ (p : Place). p.left) are.0) (left_lists s t (spots_after s t a b spot todo) (met_by s a spot.1) (met_by t b spot.2) places are.1)
  where
    theirs : List (List ℕ × ℕ)
    theirs = names_there t (entered_at t b spot.2)

    by : (o : Option ℕ) → place.left ≡ spot_entry s a spot.0 o
        → Lists s (met_by s a o) (filter_map left_item (spots_of spot.0 (joined (names_there s (entered_at s a o)) theirs) ++ todo)) (filter_map (λ place. place.left) places)
        → Lists s a (cons_option (option_map (λ i. (spot.0, i)) o) (filter_map left_item todo)) (cons_option place.left (filter_map (λ place. place.left) places))
    by None is rest = record {
      found = rest.found;
      are = subst (λ (items : List Item). AreFound s a items rest.found) (left_spots spot.0 [] theirs todo) rest.are;
      there = rest.there ∙ ap (λ (x : Option Entry). cons_option x (filter_map (λ place. place.left) places)) (sym is);
    }
    by (Some i) is rest = record {
      found = listed_entry s a (spot.0, i) ∷ rest.found;
      are = (
        refl,
        subst (λ (items : List Item). AreFound s (met_after s a i) items rest.found)
            (left_spots spot.0 (names_there s (entered_at s a (Some i))) theirs todo ∙ entered_items s a spot.0 i (filter_map left_item todo)) rest.are,
      );
      there =
          ap (cons_option (listed_entry s a (spot.0, i))) rest.there
          ∙ ap (λ (x : Option Entry). cons_option x (filter_map (λ place. place.left) places)) (sym is);
    }

right_lists : (s t : State) (todo : List Spot) (a b : Met) (places : List Place) → AreSpotPlaces s t a b todo places
    → Lists t b (filter_map right_item todo) (filter_map (λ place. place.right) places)
right_lists s t [] a b places are =
    record { found = []; are = refl; there = ap (filter_map (λ (place : Place). place.right)) (sym are) }
right_lists s t (spot ∷ todo) a b [] are = absurd are
right_lists s t (spot ∷ todo) a b (place ∷ places) are =
    by spot.2 (ap (λ (p : Place). p.right) are.0) (right_lists s t (spots_after s t a b spot todo) (met_by s a spot.1) (met_by t b spot.2) places are.1)
  where
    ours : List (List ℕ × ℕ)
    ours = names_there s (entered_at s a spot.1)

    by : (o : Option ℕ) → place.right ≡ spot_entry t b spot.0 o
        → Lists t (met_by t b o) (filter_map right_item (spots_of spot.0 (joined ours (names_there t (entered_at t b o))) ++ todo)) (filter_map (λ place. place.right) places)
        → Lists t b (cons_option (option_map (λ i. (spot.0, i)) o) (filter_map right_item todo)) (cons_option place.right (filter_map (λ place. place.right) places))
    by None is rest = record {
      found = rest.found;
      are = subst (λ (items : List Item). AreFound t b items rest.found) (right_spots spot.0 ours [] todo) rest.are;
      there = rest.there ∙ ap (λ (x : Option Entry). cons_option x (filter_map (λ place. place.right) places)) (sym is);
    }
    by (Some i) is rest = record {
      found = listed_entry t b (spot.0, i) ∷ rest.found;
      are = (
        refl,
        subst (λ (items : List Item). AreFound t (met_after t b i) items rest.found)
            (right_spots spot.0 ours (names_there t (entered_at t b (Some i))) todo ∙ entered_items t b spot.0 i (filter_map right_item todo)) rest.are,
      );
      there =
          ap (cons_option (listed_entry t b (spot.0, i))) rest.there
          ∙ ap (λ (x : Option Entry). cons_option x (filter_map (λ place. place.right) places)) (sym is);
    }

pub lefts_of : (s t : State) (todo : List Spot) (a b : Met) (places : List Place) → AreSpotPlaces s t a b todo places
    → Lists s a (filter_map left_item todo) (filter_map (λ place. place.left) places)
lefts_of = left_lists

pub rights_of : (s t : State) (todo : List Spot) (a b : Met) (places : List Place) → AreSpotPlaces s t a b todo places
    → Lists t b (filter_map right_item todo) (filter_map (λ place. place.right) places)
rights_of = right_lists

-- ---- their paths

at_path : (s : State) (met : Met) (path : List (List ℕ)) (o : Option ℕ) → IsAtPath path (spot_entry s met path o)
at_path s met path None = tt
at_path s met path (Some i) = by (option_map shown (object s i))
  where
    by : (o : Option Object) → IsAtPath path (entry_if path (readable s i) (is_directory s i && met i) o)
    by None = tt
    by (Some o) = refl

pub paths_of : (s t : State) (todo : List Spot) (a b : Met) (places : List Place) → AreSpotPlaces s t a b todo places
    → AllByRecursion (λ place. IsAtPath place.path place.left × IsAtPath place.path place.right) places
paths_of s t [] a b places are =
    subst (AllByRecursion (λ (place : Place). IsAtPath place.path place.left × IsAtPath place.path place.right)) (sym are) tt
paths_of s t (spot ∷ todo) a b [] are = absurd are
paths_of s t (spot ∷ todo) a b (place ∷ places) are = (
  subst (λ (p : Place). IsAtPath p.path p.left × IsAtPath p.path p.right) (sym are.0) (at_path s a spot.0 spot.1, at_path t b spot.0 spot.2),
  paths_of s t (spots_after s t a b spot todo) (met_by s a spot.1) (met_by t b spot.2) places are.1,
)

-- ---- there are places

first_long : (x : List ℕ × ℕ) (n : ℕ) (rest : List (List ℕ × ℕ) → List SharedName) → ((ys : List (List ℕ × ℕ)) → length (rest ys) ≤ n + length ys)
    → (ys : List (List ℕ × ℕ)) → length (join_first x rest ys) ≤ suc n + length ys
first_long x n rest each [] = omega (arith, each [])
first_long x n rest each (y ∷ ys) = by (slice_cmp nat_cmp x.0 y.0) (first_long x n rest each ys)
  where
    by : (o : Ordering) → length (join_first x rest ys) ≤ suc n + length ys → length {A = SharedName} (elim o [
      | Less ↦ (x.0, Some x.1, None) ∷ rest (y ∷ ys)
      | Equal ↦ (x.0, Some x.1, Some y.1) ∷ rest ys
      | Greater ↦ (y.0, None, Some y.1) ∷ join_first x rest ys
    ]) ≤ suc n + suc (length ys)
    by Less more = omega (arith, each (y ∷ ys))
    by Equal more = omega (arith, each ys)
    by Greater more = omega (arith, more)

pub joined_long : (xs ys : List (List ℕ × ℕ)) → length (joined xs ys) ≤ length xs + length ys
joined_long [] ys = let alone : List ℕ × ℕ → SharedName = λ y. (y.0, None, Some y.1) in omega (arith, length-map ys alone)
joined_long (x ∷ xs) ys = first_long x (length xs) (joined xs) (joined_long xs) ys

-- a directory that is entered takes its names along
pub side_falls : (s : State) (met : Met) (o : Option ℕ) → unmet s (met_by s met o) + length (names_there s (entered_at s met o)) ≤ unmet s met
side_falls s met None = omega arith
side_falls s met (Some i) = by (is_entered s met i) refl
  where
    by : (b : Bool) → is_entered s met i ≡ b → unmet s (met_after s met i) + length (names_there s (cond b (Some i) None)) ≤ unmet s met
    by true is = omega (
      arith,
      unmet_entered s met i is,
      length-filter (λ e. is_there s e.1) (entries_in s i),
      count_by-le-length (λ e. is_there s e.1) (entries_in s i),
    )
    by false is = omega (arith, unmet_after s met i)

weight_falls : (s t : State) (a b : Met) (spot : Spot) (todo : List Spot)
    → unmet s (met_by s a spot.1) + unmet t (met_by t b spot.2) + length (spots_after s t a b spot todo) ≤ unmet s a + unmet t b + length todo
weight_falls s t a b spot todo =
    let xs = names_there s (entered_at s a spot.1) in
    let ys = names_there t (entered_at t b spot.2) in
    let below : SharedName → Spot = λ n. (spot.0 ++ n.0 ∷ [], n.1, n.2) in
    omega (
      arith,
      side_falls s a spot.1,
      side_falls t b spot.2,
      joined_long xs ys,
      length-map (joined xs ys) below,
      length-append (spots_of spot.0 (joined xs ys)) todo,
    )

has_few : (n : ℕ) (s t : State) (a b : Met) (todo : List Spot) → unmet s a + unmet t b + length todo ≤ n → (places : List Place) × AreSpotPlaces s t a b todo places
has_few n s t a b [] small = ([], refl)
has_few zero s t a b (spot ∷ todo) small = absurd (omega (arith, small))
has_few (suc n) s t a b (spot ∷ todo) small =
    let rest = has_few n s t (met_by s a spot.1) (met_by t b spot.2) (spots_after s t a b spot todo) (omega (arith, small, weight_falls s t a b spot todo)) in
    (spot_place s t a b spot ∷ rest.0, (refl, rest.1))

pub has_places : (s t : State) (a b : Met) (todo : List Spot) → (places : List Place) × AreSpotPlaces s t a b todo places
has_places s t a b todo = has_few (unmet s a + unmet t b + length todo) s t a b todo (omega arith)
