-- One tree of a walk through two: what the walk does not remember to have met there makes no difference.
use Rattle.std.proofs.Common.{◌≡◌, ℕ, ◌+◌, ◌≤◌, cond, Bool, true, false, List, [], ◌∷◌, ◌++◌, map, length, sym, ap, ◌∙◌, subst, arith, Option, Some, None, inl, ◌⊎◌, ⊎_elim}
use Rattle.std.specs.Prelude.{filter_map, option_map}
use Rattle.std.specs.List.{cons_option}
use Rattle.std.proofs.lemmas.List.Sums.{length-filter, count_by-le-length}
use Rattle.jmount.specs.Tree.{State, object, is_there, is_directory, entries_in}
use Rattle.jmount.specs.Shown.{readable, shown}
use Rattle.jmount.proofs.ShapeLemmas.{IsShaped}
use Rattle.jreport.specs.Remembering.{Becomes, remembered}
use Rattle.jreport.specs.TreeText.{Item, Met, met_after, todo_after, is_entered}
use Rattle.jreport.specs.declared.met.MetDirectories.{MetDirectories}
use Rattle.jreport.proofs.AheadLemmas.{names_ahead, next_ahead}
use Rattle.jreport.proofs.ListedOnceLemmas.{AreFresh, fresh_after, no_mark}
use Rattle.jreport.proofs.PartLemmas.{same_entered}
use Rattle.jreport.proofs.RememberingLemmas.{MakesNone, NeedsNone, after_ahead, after_item, after_needs, stays_as}
use Rattle.jdiff.specs.Entries.{entry_if}
use Rattle.jdiff.specs.Names.{names_there, joined}
use Rattle.jdiff.specs.Pairing.{Place}
use Rattle.jdiff.specs.Walking.{Spot, spot_entry, met_by, entered_at, spots_of, AreSpotPlaces, entered_names}
use Rattle.jdiff.proofs.PlaceLemmas.{left_item, right_item, item_below, left_spots, right_spots, entered_items}

-- ---- a path that is visited, before what else is still to list

abbrev pub items_with : List (List ℕ) → Option ℕ → List Item → List Item
items_with path o todo = cons_option (option_map (λ i. (path, i)) o) todo

-- what comes after it
abbrev pub items_then : State → Met → List (List ℕ) → Option ℕ → List Item → List Item
items_then s met path o todo = map (item_below path) (names_there s (entered_at s met o)) ++ todo

pub side_needs : (s : State) (old new : MetDirectories) (path : List (List ℕ)) (o : Option ℕ) (todo : List Item) → NeedsNone s old (items_with path o todo)
    → Becomes old new (met_by s (remembered old) o) → NeedsNone s new (items_then s (remembered old) path o todo)
side_needs s old new path None todo needs becomes = λ is. needs (sym becomes.0 ∙ is)
side_needs s old new path (Some i) todo needs becomes =
    subst (NeedsNone s new) (sym (entered_items s (remembered old) path i todo)) (after_needs s old new (path, i) todo needs becomes)

few_entered : (s : State) (met : Met) (i : ℕ) → length (names_there s (entered_at s met (Some i))) ≤ cond (is_entered s met i) (length (entries_in s i)) 0
few_entered s met i = by (is_entered s met i)
  where
    by : (b : Bool) → length (names_there s (cond b (Some i) None)) ≤ cond b (length (entries_in s i)) 0
    by true = omega (arith, length-filter (λ e. is_there s e.1) (entries_in s i), count_by-le-length (λ e. is_there s e.1) (entries_in s i))
    by false = omega arith

pub side_ahead : (s : State) (old new : MetDirectories) (path : List (List ℕ)) (o : Option ℕ) (todo : List Item) → NeedsNone s old (items_with path o todo)
    → Becomes old new (met_by s (remembered old) o)
    → length (entered_names s old o) + names_ahead s (remembered new) (items_then s (remembered old) path o todo) ≤ names_ahead s (remembered old) (items_with path o todo)
side_ahead s old new path None todo needs becomes =
    let same : names_ahead s (remembered new) todo ≡ names_ahead s (remembered old) todo = ap (λ (m : Met). names_ahead s m todo) (stays_as old new becomes) in
    omega (arith, same)
side_ahead s old new path (Some i) todo needs becomes =
    let then : names_ahead s (remembered new) (items_then s (remembered old) path (Some i) todo)
    ≡ names_ahead s (met_after s (remembered old) i) (todo_after s (remembered old) (path, i) todo) =
    ap (names_ahead s (remembered new)) (entered_items s (remembered old) path i todo) ∙ after_ahead s old new (path, i) todo needs becomes in
    omega (arith, then, next_ahead s (remembered old) (path, i) todo, few_entered s (remembered old) i)

-- what is remembered is what was met, or that makes no difference
abbrev pub IsAsMet : State → Met → Met → List Item → Type 0
IsAsMet s one other todo = (one ≡ other) ⊎ MakesNone s one other todo

pub side_same : (s : State) (old new : MetDirectories) (path : List (List ℕ)) (o : Option ℕ) (todo : List Item) → NeedsNone s old (items_with path o todo)
    → Becomes old new (met_by s (remembered old) o) → IsAsMet s (remembered new) (met_by s (remembered old) o) (items_then s (remembered old) path o todo)
side_same s old new path None todo needs becomes = inl (stays_as old new becomes)
side_same s old new path (Some i) todo needs becomes =
    subst (IsAsMet s (remembered new) (met_after s (remembered old) i)) (sym (entered_items s (remembered old) path i todo)) (after_item s old new (path, i) todo needs becomes)

-- ---- the places are the same

then_fresh : (s : State) (met : Met) (path : List (List ℕ)) (i : ℕ) (todo : List Item) → IsShaped s → AreFresh s met ((path, i) ∷ todo)
    → AreFresh s (met_after s met i) (items_then s met path (Some i) todo)
then_fresh s met path i todo shape fresh =
    subst (AreFresh s (met_after s met i)) (sym (entered_items s met path i todo)) (fresh_after s met (path, i) todo shape fresh)

same_left : (s t : State) (shape : IsShaped s) (places : List Place) (a c b : Met) (todo : List Spot) → AreFresh s a (filter_map left_item todo) → AreFresh s c (filter_map left_item todo)
    → AreSpotPlaces s t a b todo places → AreSpotPlaces s t c b todo places
same_left s t shape places a c b [] fresh too are = are
same_left s t shape [] a c b (spot ∷ todo) fresh too are = absurd are
same_left s t shape (place ∷ places) a c b (spot ∷ todo) fresh too are = by spot.1 (same_left s t shape places) fresh too are.0 are.1
  where
    theirs : List (List ℕ × ℕ)
    theirs = names_there t (entered_at t b spot.2)

    then : Met → Option ℕ → List Spot
    then m o = spots_of spot.0 (joined (names_there s (entered_at s m o)) theirs) ++ todo

    here : Met → Option ℕ → Place
    here m o = record { path = spot.0; left = spot_entry s m spot.0 o; right = spot_entry t b spot.0 spot.2 }

    by : (o : Option ℕ)
        → ((x y z : Met) (more : List Spot) → AreFresh s x (filter_map left_item more) → AreFresh s y (filter_map left_item more) → AreSpotPlaces s t x z more places → AreSpotPlaces s t y z more places)
        → AreFresh s a (items_with spot.0 o (filter_map left_item todo)) → AreFresh s c (items_with spot.0 o (filter_map left_item todo))
        → place ≡ here a o → AreSpotPlaces s t (met_by s a o) (met_by t b spot.2) (then a o) places
        → (place ≡ here c o) × AreSpotPlaces s t (met_by s c o) (met_by t b spot.2) (then c o) places
    by None again fresh too is rest = (
      is,
      again a c (met_by t b spot.2) (then a None) (subst (AreFresh s a) (sym (left_spots spot.0 [] theirs todo)) fresh) (subst (AreFresh s c) (sym (left_spots spot.0 [] theirs todo)) too) rest,
    )
    by (Some i) again fresh too is rest =
        let one = no_mark s a i fresh.0 in
        let two = no_mark s c i too.0 in
        let entered : is_entered s a i ≡ is_entered s c i = same_entered (is_directory s i) (a i) (c i) one two in
        let e : then a (Some i) ≡ then c (Some i) = ap (λ (x : Bool). spots_of spot.0 (joined (names_there s (cond x (Some i) None)) theirs) ++ todo) entered in (
          is ∙ ap (λ (x : Bool). record { path = spot.0; left = entry_if spot.0 (readable s i) x (option_map shown (object s i)); right = spot_entry t b spot.0 spot.2 }) (one ∙ sym two),
          again (met_after s a i) (met_after s c i) (met_by t b spot.2) (then c (Some i))
              (subst (λ (more : List Spot). AreFresh s (met_after s a i) (filter_map left_item more)) e
              (subst (AreFresh s (met_after s a i)) (sym (left_spots spot.0 (names_there s (entered_at s a (Some i))) theirs todo)) (then_fresh s a spot.0 i (filter_map left_item todo) shape fresh)))
              (subst (AreFresh s (met_after s c i)) (sym (left_spots spot.0 (names_there s (entered_at s c (Some i))) theirs todo)) (then_fresh s c spot.0 i (filter_map left_item todo) shape too))
              (subst (λ (more : List Spot). AreSpotPlaces s t (met_after s a i) (met_by t b spot.2) more places) e rest),
        )

same_right : (s t : State) (shape : IsShaped t) (places : List Place) (a b d : Met) (todo : List Spot) → AreFresh t b (filter_map right_item todo) → AreFresh t d (filter_map right_item todo)
    → AreSpotPlaces s t a b todo places → AreSpotPlaces s t a d todo places
same_right s t shape places a b d [] fresh too are = are
same_right s t shape [] a b d (spot ∷ todo) fresh too are = absurd are
same_right s t shape (place ∷ places) a b d (spot ∷ todo) fresh too are = by spot.2 (same_right s t shape places) fresh too are.0 are.1
  where
    ours : List (List ℕ × ℕ)
    ours = names_there s (entered_at s a spot.1)

    then : Met → Option ℕ → List Spot
    then m o = spots_of spot.0 (joined ours (names_there t (entered_at t m o))) ++ todo

    here : Met → Option ℕ → Place
    here m o = record { path = spot.0; left = spot_entry s a spot.0 spot.1; right = spot_entry t m spot.0 o }

    by : (o : Option ℕ)
        → ((z x y : Met) (more : List Spot) → AreFresh t x (filter_map right_item more) → AreFresh t y (filter_map right_item more) → AreSpotPlaces s t z x more places → AreSpotPlaces s t z y more places)
        → AreFresh t b (items_with spot.0 o (filter_map right_item todo)) → AreFresh t d (items_with spot.0 o (filter_map right_item todo))
        → place ≡ here b o → AreSpotPlaces s t (met_by s a spot.1) (met_by t b o) (then b o) places
        → (place ≡ here d o) × AreSpotPlaces s t (met_by s a spot.1) (met_by t d o) (then d o) places
    by None again fresh too is rest = (
      is,
      again (met_by s a spot.1) b d (then b None) (subst (AreFresh t b) (sym (right_spots spot.0 ours [] todo)) fresh) (subst (AreFresh t d) (sym (right_spots spot.0 ours [] todo)) too) rest,
    )
    by (Some i) again fresh too is rest =
        let one = no_mark t b i fresh.0 in
        let two = no_mark t d i too.0 in
        let entered : is_entered t b i ≡ is_entered t d i = same_entered (is_directory t i) (b i) (d i) one two in
        let e : then b (Some i) ≡ then d (Some i) = ap (λ (x : Bool). spots_of spot.0 (joined ours (names_there t (cond x (Some i) None))) ++ todo) entered in (
          is ∙ ap (λ (x : Bool). record { path = spot.0; left = spot_entry s a spot.0 spot.1; right = entry_if spot.0 (readable t i) x (option_map shown (object t i)) }) (one ∙ sym two),
          again (met_by s a spot.1) (met_after t b i) (met_after t d i) (then d (Some i))
              (subst (λ (more : List Spot). AreFresh t (met_after t b i) (filter_map right_item more)) e
              (subst (AreFresh t (met_after t b i)) (sym (right_spots spot.0 ours (names_there t (entered_at t b (Some i))) todo)) (then_fresh t b spot.0 i (filter_map right_item todo) shape fresh)))
              (subst (AreFresh t (met_after t d i)) (sym (right_spots spot.0 ours (names_there t (entered_at t d (Some i))) todo)) (then_fresh t d spot.0 i (filter_map right_item todo) shape too))
              (subst (λ (more : List Spot). AreSpotPlaces s t (met_by s a spot.1) (met_after t b i) more places) e rest),
        )

pub left_places : (s t : State) (a c b : Met) (todo : List Spot) (places : List Place) → IsAsMet s a c (filter_map left_item todo) → AreSpotPlaces s t a b todo places
    → AreSpotPlaces s t c b todo places
left_places s t a c b todo places same are =
    ⊎_elim
    (λ (is : a ≡ c). subst (λ (m : Met). AreSpotPlaces s t m b todo places) is are)
    (λ (none : MakesNone s a c (filter_map left_item todo)). same_left s t none.shape places a c b todo none.fresh none.too are)
    same

pub right_places : (s t : State) (a b d : Met) (todo : List Spot) (places : List Place) → IsAsMet t b d (filter_map right_item todo) → AreSpotPlaces s t a b todo places
    → AreSpotPlaces s t a d todo places
right_places s t a b d todo places same are =
    ⊎_elim
    (λ (is : b ≡ d). subst (λ (m : Met). AreSpotPlaces s t a m todo places) is are)
    (λ (none : MakesNone t b d (filter_map right_item todo)). same_right s t none.shape places a b d todo none.fresh none.too are)
    same
