-- A walk through two trees, from the roots on.
use Rattle.std.proofs.Common.{◌≡◌, ℕ, ◌+◌, ◌-◌, ◌*◌, ◌^◌, ◌<◌, ◌≤◌, Bool, List, [], ◌∷◌, ◌++◌, length, map, min, refl, sym, ap, ◌∙◌, subst, arith, append_assoc, append-nil, Option, Some, None, Result, Ok, Err, Bor, ⊎_elim}
use Rattle.std.specs.Prelude.{filter_map, reverse, IsErrAnd}
use Rattle.std.specs.List.{flat_map}
use Rattle.std.specs.Io.KnownBytes.{Appends}
use Rattle.std.proofs.KnownBytes.{Appends-trans}
use Rattle.std.proofs.lemmas.Grind.{flat_map-append}
use Rattle.flashbase.specs.Device.{PutsPart, next_count}
use Rattle.flashbase.proofs.DeviceLemmas.{part_before, part_behind}
use Rattle.jmount.specs.Tree.{State}
use Rattle.jreport.specs.TreeText.{Met, none_met}
use Rattle.jreport.specs.Remembering.{Becomes, RemembersNone, remembered}
use Rattle.jreport.specs.declared.met.MetDirectories.{MetDirectories}
use Rattle.jreport.specs.declared.faults.ProgramFault.{ProgramFault}
use Rattle.jreport.specs.declared.faults.ProgramFault.TheVariants as program
use Rattle.jreport.specs.declared.faults.ProgramFault.TheVariants.{Output, OutOfMemory}
use Rattle.jreport.proofs.AheadLemmas.{names_ahead}
use Rattle.jreport.proofs.RememberingLemmas.{NeedsNone, needs_first}
use Rattle.jdiff.specs.Differing.{PutsPartOfDifferences, PutsDifferences}
use Rattle.jdiff.specs.Names.{SharedName, names_there, joined}
use Rattle.jdiff.specs.Pairing.{Place, lines_on, text_on, count_on}
use Rattle.jdiff.specs.Walking.{Spot, spot_entry, met_by, entered_at, spot_place, spots_after, AreSpotPlaces, root_spot, spot_lines, spot_text, spots_up, spots_left, AreLeft, pairs_open, entered_names, PassesUp, PutsNextPlace, PutsPartOfLeft}
use Rattle.jdiff.specs.declared.walk.Walk.{Walk}
use Rattle.jdiff.specs.declared.walk.Visited.{Visited}
use Rattle.jdiff.specs.declared.comparing.Comparing.{Comparing}
use Rattle.jdiff.proofs.LineLemmas.{changes_few}
use Rattle.jdiff.proofs.PairedLemmas.{differences_of}
use Rattle.jdiff.proofs.PlaceLemmas.{left_item, right_item, left_spots, right_spots, has_places}
use Rattle.jdiff.proofs.SideLemmas.{IsAsMet, items_then, left_places, right_places, side_ahead, side_needs, side_same}
use Rattle.jdiff.proofs.SpotLemmas.{PutsSpotOn}
use Rattle.jdiff.proofs.StepLemmas.{PutsPairStepOn, count_join, text_join}

-- ---- what is not remembered makes no difference

pub record NeedsBoth (s t : State) (a b : MetDirectories) (todo : List Spot) : Type 0 where
  pub left : NeedsNone s a (filter_map left_item todo)
  pub right : NeedsNone t b (filter_map right_item todo)

abbrev pub NeedsLeft : State → State → Walk → Type 0
NeedsLeft s t w = NeedsBoth s t w.met_left w.met_right (spots_left w)

lefts_then : (s t : State) (a b : MetDirectories) (spot : Spot) (rest : List Spot) → filter_map left_item (spots_after s t (remembered a) (remembered b) spot rest)
    ≡ items_then s (remembered a) spot.0 spot.1 (filter_map left_item rest)
lefts_then s t a b spot rest = left_spots spot.0 (entered_names s a spot.1) (entered_names t b spot.2) rest

rights_then : (s t : State) (a b : MetDirectories) (spot : Spot) (rest : List Spot) → filter_map right_item (spots_after s t (remembered a) (remembered b) spot rest)
    ≡ items_then t (remembered b) spot.0 spot.2 (filter_map right_item rest)
rights_then s t a b spot rest = right_spots spot.0 (entered_names s a spot.1) (entered_names t b spot.2) rest

needs_after : (s t : State) (a b c d : MetDirectories) (spot : Spot) (rest : List Spot) → NeedsBoth s t a b (spot ∷ rest) → Becomes a c (met_by s (remembered a) spot.1)
    → Becomes b d (met_by t (remembered b) spot.2) → NeedsBoth s t c d (spots_after s t (remembered a) (remembered b) spot rest)
needs_after s t a b c d spot rest needs ours theirs = record {
  left = subst (NeedsNone s c) (sym (lefts_then s t a b spot rest)) (side_needs s a c spot.0 spot.1 (filter_map left_item rest) needs.left ours);
  right = subst (NeedsNone t d) (sym (rights_then s t a b spot rest)) (side_needs t b d spot.0 spot.2 (filter_map right_item rest) needs.right theirs);
}

after_spot : (s t : State) (a b c d : MetDirectories) (spot : Spot) (rest : List Spot) (places : List Place) → NeedsBoth s t a b (spot ∷ rest)
    → Becomes a c (met_by s (remembered a) spot.1) → Becomes b d (met_by t (remembered b) spot.2)
    → AreSpotPlaces s t (remembered c) (remembered d) (spots_after s t (remembered a) (remembered b) spot rest) places
    → AreSpotPlaces s t (remembered a) (remembered b) (spot ∷ rest) (spot_place s t (remembered a) (remembered b) spot ∷ places)
after_spot s t a b c d spot rest places needs ours theirs are =
    let then = spots_after s t (remembered a) (remembered b) spot rest in
    let left : IsAsMet s (remembered c) (met_by s (remembered a) spot.1) (filter_map left_item then) =
    subst (IsAsMet s (remembered c) (met_by s (remembered a) spot.1)) (sym (lefts_then s t a b spot rest)) (side_same s a c spot.0 spot.1 (filter_map left_item rest) needs.left ours) in
    let right : IsAsMet t (remembered d) (met_by t (remembered b) spot.2) (filter_map right_item then) =
    subst (IsAsMet t (remembered d) (met_by t (remembered b) spot.2)) (sym (rights_then s t a b spot rest)) (side_same t b d spot.0 spot.2 (filter_map right_item rest) needs.right theirs) in (
      refl,
      right_places s t (met_by s (remembered a) spot.1) (remembered d) (met_by t (remembered b) spot.2) then places right
          (left_places s t (remembered c) (met_by s (remembered a) spot.1) (remembered d) then places left are),
    )

-- the names of the directories that are still to enter in either tree
abbrev pub both_ahead : State → State → MetDirectories → MetDirectories → List Spot → ℕ
both_ahead s t a b todo = names_ahead s (remembered a) (filter_map left_item todo) + names_ahead t (remembered b) (filter_map right_item todo)

ahead_after : (s t : State) (a b c d : MetDirectories) (spot : Spot) (rest : List Spot) → NeedsBoth s t a b (spot ∷ rest) → Becomes a c (met_by s (remembered a) spot.1)
    → Becomes b d (met_by t (remembered b) spot.2)
    → length (entered_names s a spot.1) + length (entered_names t b spot.2) + both_ahead s t c d (spots_after s t (remembered a) (remembered b) spot rest) ≤ both_ahead s t a b (spot ∷ rest)
ahead_after s t a b c d spot rest needs ours theirs =
    let left = ap (names_ahead s (remembered c)) (lefts_then s t a b spot rest) in
    let right = ap (names_ahead t (remembered d)) (rights_then s t a b spot rest) in
    omega (
      arith,
      left,
      right,
      side_ahead s a c spot.0 spot.1 (filter_map left_item rest) needs.left ours,
      side_ahead t b d spot.0 spot.2 (filter_map right_item rest) needs.right theirs,
    )

-- ---- from the roots on

-- the lines on these places went out, and with those that are left they are all
pub record ReachesPlaces (how : Comparing) (s t : State) (w : Walk) (old new : Option (List ℕ)) (count : ℕ) : Type 0 where
  pub done : List Place
  pub put : Appends old new (text_on how done)
  pub counted : count ≡ min (count_on how done) (2 ^ 64 - 1)
  pub rest : (places : List Place) → AreLeft s t w places → AreSpotPlaces s t none_met none_met (root_spot ∷ []) (done ++ places)

abbrev pub root_place : State → State → MetDirectories → MetDirectories → Place
root_place s t a b = spot_place s t (remembered a) (remembered b) root_spot

root_places : (s t : State) (a b : MetDirectories) (places : List Place) → remembered a ≡ none_met → remembered b ≡ none_met
    → AreSpotPlaces s t (remembered a) (remembered b) (root_spot ∷ []) (root_place s t a b ∷ places) → AreSpotPlaces s t none_met none_met (root_spot ∷ []) (root_place s t a b ∷ places)
root_places s t a b places none nothing are =
    subst (λ (m : Met). AreSpotPlaces s t m none_met (root_spot ∷ []) (root_place s t a b ∷ places)) none
    (subst (λ (m : Met). AreSpotPlaces s t (remembered a) m (root_spot ∷ []) (root_place s t a b ∷ places)) nothing are)

root_here : (s t : State) (w : Walk) (a b : MetDirectories) (v : Visited) → w.path.items ≡ [] → w.left ≡ joined (names_there s v.left) (names_there t v.right) → w.above.items ≡ []
    → v.left ≡ entered_at s (remembered a) (Some 1) → v.right ≡ entered_at t (remembered b) (Some 1)
    → spots_left w ≡ spots_after s t (remembered a) (remembered b) root_spot []
root_here s t w a b v path left above ours theirs =
    ap (λ (p : List (Bor (List ℕ))). spots_up (w.left ∷ reverse w.above.items) (map (λ n. n.now) p)) path
    ∙ ap (λ (l : List SharedName). spots_up (l ∷ reverse w.above.items) []) (left
    ∙ ap (λ (d : Option ℕ). joined (names_there s d) (names_there t v.right)) ours
    ∙ ap (λ (d : Option ℕ). joined (entered_names s a (Some 1)) (names_there t d)) theirs)
    ∙ ap (λ (l : List (List SharedName)). spots_up (joined (entered_names s a (Some 1)) (entered_names t b (Some 1)) ∷ reverse l) []) above

pub roots_need : (s t : State) (a b : MetDirectories) → RemembersNone s a → RemembersNone t b → NeedsBoth s t a b (root_spot ∷ [])
roots_need s t a b none nothing = record { left = needs_first s a ([], 1) none refl; right = needs_first t b ([], 1) nothing refl }

pub needs_below : (how : Comparing) (s t : State) (w : Walk) (a b : MetDirectories) (v : Visited) (old new : Option (List ℕ)) (before now : ℕ) → NeedsBoth s t a b (root_spot ∷ [])
    → w.path.items ≡ [] → w.left ≡ joined (names_there s v.left) (names_there t v.right) → w.above.items ≡ []
    → PutsSpotOn how s t a b w.met_left w.met_right root_spot old new before now (Ok v) → NeedsLeft s t w
needs_below how s t w a b v old new before now needs path left above put =
    subst (NeedsBoth s t w.met_left w.met_right) (sym (root_here s t w a b v path left above put.1 put.2))
    (needs_after s t a b w.met_left w.met_right root_spot [] needs put.3 put.4)

pub roots_entered : (how : Comparing) (s t : State) (w : Walk) (a b : MetDirectories) (v : Visited) (old new : Option (List ℕ)) (before now : ℕ) → NeedsBoth s t a b (root_spot ∷ [])
    → remembered a ≡ none_met → remembered b ≡ none_met → w.path.items ≡ [] → w.left ≡ joined (names_there s v.left) (names_there t v.right) → w.above.items ≡ []
    → PutsSpotOn how s t a b w.met_left w.met_right root_spot old new before now (Ok v) → ReachesPlaces how s t w old new v.lines
roots_entered how s t w a b v old new before now needs none nothing path left above put =
    let lines = spot_lines how s t a b root_spot in
    let count : v.lines ≡ length (lines ++ []) = put.0 ∙ ap length (sym (append-nil lines)) in
    record {
      done = root_place s t a b ∷ [];
      put = subst (λ (l : List (List ℕ)). Appends old new (flat_map (λ line. line) l)) (sym (append-nil lines)) put.5;
      counted = least v.lines (length lines) (length (lines ++ [])) put.0 count
          (changes_few how (spot_entry s (remembered a) [] (Some 1)) (spot_entry t (remembered b) [] (Some 1)));
      rest = λ places are. root_places s t a b places none nothing
          (after_spot s t a b w.met_left w.met_right root_spot [] places needs put.3 put.4
          (subst (λ (todo : List Spot). AreSpotPlaces s t (remembered w.met_left) (remembered w.met_right) todo places) (root_here s t w a b v path left above put.1 put.2) are));
    }
  where
    least : (n k m : ℕ) → n ≡ k → n ≡ m → k ≤ 3 → n ≡ min m (2 ^ 64 - 1)
    least n k m own is small = omega arith

-- a beginning of the lines on the roots went out
roots_part : (how : Comparing) (s t : State) (a b : MetDirectories) (old new : Option (List ℕ)) → remembered a ≡ none_met → remembered b ≡ none_met → PutsPart old new (spot_text how s t a b root_spot)
    → PutsPartOfDifferences how s t old new
roots_part how s t a b old new none nothing part =
    let rest = has_places s t (met_by s (remembered a) (Some 1)) (met_by t (remembered b) (Some 1)) (spots_after s t (remembered a) (remembered b) root_spot []) in
    let places : List Place = root_place s t a b ∷ rest.0 in (
      lines_on how places,
      differences_of how s t places (root_places s t a b rest.0 none nothing (refl, rest.1)),
      subst (PutsPart old new) (sym (flat_map-append (λ (line : List ℕ). line) (spot_lines how s t a b root_spot) (lines_on how rest.0)))
          (part_before old new (spot_text how s t a b root_spot) (text_on how rest.0) part),
    )

pub roots_failed : (how : Comparing) (s t : State) (a b c d : MetDirectories) (fault : ProgramFault) (old new : Option (List ℕ)) (before now : ℕ) → remembered a ≡ none_met → remembered b ≡ none_met
    → PutsSpotOn how s t a b c d root_spot old new before now (Err fault) → PutsDifferences how s t old new before now (Err fault)
roots_failed how s t a b c d Output old new before now none nothing put = (roots_part how s t a b old new none nothing put.0, put.1)
roots_failed how s t a b c d OutOfMemory old new before now none nothing put = (roots_part how s t a b old new none nothing (0, put.0), put.1)
roots_failed how s t a b c d (program.Load f) old new before now none nothing put = absurd put
roots_failed how s t a b c d (program.Scan f) old new before now none nothing put = absurd put
roots_failed how s t a b c d (program.Mount f) old new before now none nothing put = absurd put
roots_failed how s t a b c d (program.File f) old new before now none nothing put = absurd put
roots_failed how s t a b c d (program.NotRead f) old new before now none nothing put = absurd put
roots_failed how s t a b c d (program.Listing line) old new before now none nothing put = absurd put
roots_failed how s t a b c d (program.Session f line cause) old new before now none nothing put = absurd put
roots_failed how s t a b c d (program.Path f) old new before now none nothing put = absurd put
roots_failed how s t a b c d program.NotRegular old new before now none nothing put = absurd put
roots_failed how s t a b c d (program.NoSpace folder) old new before now none nothing put = absurd put
roots_failed how s t a b c d (program.Data addr) old new before now none nothing put = absurd put
roots_failed how s t a b c d (program.TooLong addr) old new before now none nothing put = absurd put
roots_failed how s t a b c d (program.Image why) old new before now none nothing put = absurd put
roots_failed how s t a b c d (program.Clash addr other) old new before now none nothing put = absurd put

-- ---- a step

up_places : (s t : State) (w n : Walk) (old new : Option (List ℕ)) (count : ℕ) (places : List Place) → PassesUp w n old new count → AreLeft s t n places → AreLeft s t w places
up_places s t w n old new count places up are =
    subst (λ (m : MetDirectories). AreSpotPlaces s t (remembered m) (remembered w.met_right) (spots_left w) places) up.left
    (subst (λ (m : MetDirectories). AreSpotPlaces s t (remembered n.met_left) (remembered m) (spots_left w) places) up.right
    (subst (λ (todo : List Spot). AreSpotPlaces s t (remembered n.met_left) (remembered n.met_right) todo places) up.todo are))

abbrev next_place : State → State → Walk → Spot → Place
next_place s t w spot = spot_place s t (remembered w.met_left) (remembered w.met_right) spot

next_needs : (how : Comparing) (s t : State) (w n : Walk) (old new : Option (List ℕ)) (count : ℕ) (next : PutsNextPlace how s t w n old new count) → NeedsLeft s t w
    → NeedsBoth s t w.met_left w.met_right (next.spot ∷ next.rest)
next_needs how s t w n old new count next needs = subst (NeedsBoth s t w.met_left w.met_right) next.todo needs

next_places : (how : Comparing) (s t : State) (w n : Walk) (old new : Option (List ℕ)) (count : ℕ) (places : List Place) (next : PutsNextPlace how s t w n old new count) → NeedsLeft s t w
    → AreLeft s t n places → AreLeft s t w (next_place s t w next.spot ∷ places)
next_places how s t w n old new count places next needs are =
    subst (λ (todo : List Spot). AreSpotPlaces s t (remembered w.met_left) (remembered w.met_right) todo (next_place s t w next.spot ∷ places)) (sym next.todo)
    (after_spot s t w.met_left w.met_right n.met_left n.met_right next.spot next.rest places (next_needs how s t w n old new count next needs) next.left next.right
    (subst (λ (todo : List Spot). AreSpotPlaces s t (remembered n.met_left) (remembered n.met_right) todo places) next.todo_then are))

pub needs_on : (how : Comparing) (s t : State) (w n : Walk) (old new : Option (List ℕ)) (before now count : ℕ) → NeedsLeft s t w → PutsPairStepOn how s t w n old new before now (Ok (Some count))
    → NeedsLeft s t n
needs_on how s t w n old new before now count needs put =
    ⊎_elim
    (λ (up : PassesUp w n old new count).
    subst (λ (m : MetDirectories). NeedsBoth s t m n.met_right (spots_left n)) (sym up.left)
    (subst (λ (m : MetDirectories). NeedsBoth s t w.met_left m (spots_left n)) (sym up.right)
    (subst (NeedsBoth s t w.met_left w.met_right) (sym up.todo) needs)))
    (λ (next : PutsNextPlace how s t w n old new count).
    subst (NeedsBoth s t n.met_left n.met_right) (sym next.todo_then)
    (needs_after s t w.met_left w.met_right n.met_left n.met_right next.spot next.rest (next_needs how s t w n old new count next needs) next.left next.right))
    put.0

-- how far it is to the end
abbrev pub steps_to_go : State → State → Walk → ℕ
steps_to_go s t w = 2 * both_ahead s t w.met_left w.met_right (spots_left w) + pairs_open w

pub comes_nearer : (how : Comparing) (s t : State) (w n : Walk) (old new : Option (List ℕ)) (before now count : ℕ) → NeedsLeft s t w → PutsPairStepOn how s t w n old new before now (Ok (Some count))
    → steps_to_go s t n < steps_to_go s t w
comes_nearer how s t w n old new before now count needs put =
    ⊎_elim
    (λ (up : PassesUp w n old new count).
    let same : both_ahead s t n.met_left n.met_right (spots_left n) ≡ both_ahead s t w.met_left w.met_right (spots_left w) =
    ap (both_ahead s t n.met_left n.met_right) up.todo
    ∙ ap (λ (m : MetDirectories). both_ahead s t m n.met_right (spots_left w)) up.left
    ∙ ap (λ (m : MetDirectories). both_ahead s t w.met_left m (spots_left w)) up.right in
    omega (arith, same, up.nearer))
    (λ (next : PutsNextPlace how s t w n old new count).
    let here : both_ahead s t w.met_left w.met_right (spots_left w) ≡ both_ahead s t w.met_left w.met_right (next.spot ∷ next.rest) =
    ap (both_ahead s t w.met_left w.met_right) next.todo in
    let then : both_ahead s t n.met_left n.met_right (spots_left n) ≡ both_ahead s t n.met_left n.met_right (spots_after s t (remembered w.met_left) (remembered w.met_right) next.spot next.rest) =
    ap (both_ahead s t n.met_left n.met_right) next.todo_then in
    let falls = ahead_after s t w.met_left w.met_right n.met_left n.met_right next.spot next.rest (next_needs how s t w n old new count next needs) next.left next.right in
    less (both_ahead s t w.met_left w.met_right (spots_left w)) (both_ahead s t n.met_left n.met_right (spots_left n)) _ _
    (length (entered_names s w.met_left next.spot.1) + length (entered_names t w.met_right next.spot.2)) (pairs_open n) (pairs_open w) here then falls next.nearer)
    put.0
  where
    less : (a b c d m x y : ℕ) → a ≡ c → b ≡ d → m + d ≤ c → x < y + 2 * m → 2 * b + x < 2 * a + y
    less a b c d m x y is too falls near = omega arith

pub places_on : (how : Comparing) (s t : State) (w n : Walk) (a b c : Option (List ℕ)) (count more next before now : ℕ) → NeedsLeft s t w → ReachesPlaces how s t w a b count
    → PutsPairStepOn how s t w n b c before now (Ok (Some more)) → next ≡ min (count + more) (2 ^ 64 - 1) → ReachesPlaces how s t n a c next
places_on how s t w n a b c count more next before now needs far put sum =
    ⊎_elim
    (λ (up : PassesUp w n b c more). record {
      done = far.done;
      put = subst (Appends a c) (append-nil (text_on how far.done)) (Appends-trans a b c (text_on how far.done) [] far.put up.put);
      counted = stayed (count_on how far.done) far.counted up.counted;
      rest = λ places are. far.rest places (up_places s t w n b c more places up are);
    })
    (λ (put : PutsNextPlace how s t w n b c more).
    let place = next_place s t w put.spot in
    let lines = spot_lines how s t w.met_left w.met_right put.spot in
    let alone : lines_on how (place ∷ []) ≡ lines = append-nil lines in
    record {
      done = far.done ++ place ∷ [];
      put = subst (Appends a c) (sym (text_join how far.done (place ∷ [])))
          (Appends-trans a b c (text_on how far.done) (text_on how (place ∷ [])) far.put (subst (λ (l : List (List ℕ)). Appends b c (flat_map (λ line. line) l)) (sym alone) put.put));
      counted = added (count_on how far.done) (count_on how (place ∷ [])) (count_on how (far.done ++ place ∷ [])) far.counted (put.counted ∙ ap length (sym alone)) (count_join how far.done (place ∷ []));
      rest = λ places are.
          subst (AreSpotPlaces s t none_met none_met (root_spot ∷ [])) (sym (append_assoc far.done (place ∷ []) places))
          (far.rest (place ∷ places) (next_places how s t w n b c more places put needs are));
    })
    put.0
  where
    stayed : (x : ℕ) → count ≡ min x (2 ^ 64 - 1) → more ≡ 0 → next ≡ min x (2 ^ 64 - 1)
    stayed x is none = omega arith

    added : (x y z : ℕ) → count ≡ min x (2 ^ 64 - 1) → more ≡ y → z ≡ x + y → next ≡ min z (2 ^ 64 - 1)
    added x y z is own both = omega arith

pub places_end : (how : Comparing) (s t : State) (w n : Walk) (a b c : Option (List ℕ)) (count first before now : ℕ) → ReachesPlaces how s t w a b count → before ≡ first
    → PutsPairStepOn how s t w n b c before now (Ok None) → PutsDifferences how s t a c first now (Ok count)
places_end how s t w n a b c count first before now far same put = (
  lines_on how far.done,
  differences_of how s t far.done
      (subst (AreSpotPlaces s t none_met none_met (root_spot ∷ [])) (append-nil far.done)
      (far.rest [] (subst (λ (todo : List Spot). AreSpotPlaces s t (remembered w.met_left) (remembered w.met_right) todo []) (sym put.0) refl))),
  far.counted,
  subst (Appends a c) (append-nil (text_on how far.done)) (Appends-trans a b c (text_on how far.done) [] far.put put.1),
  put.2 ∙ same,
)

part_of_all : (how : Comparing) (s t : State) (w : Walk) (a b c : Option (List ℕ)) (count : ℕ) → ReachesPlaces how s t w a b count → PutsPartOfLeft how s t w b c
    → PutsPartOfDifferences how s t a c
part_of_all how s t w a b c count far part = (
  lines_on how (far.done ++ part.0),
  differences_of how s t (far.done ++ part.0) (far.rest part.0 part.1),
  subst (PutsPart a c) (sym (text_join how far.done part.0)) (part_behind a b c (text_on how far.done) (text_on how part.0) far.put part.2),
)

pub pair_stopped : (how : Comparing) (s t : State) (w n : Walk) (fault : ProgramFault) (a b c : Option (List ℕ)) (count first before now : ℕ) → ReachesPlaces how s t w a b count → before ≡ first
    → PutsPairStepOn how s t w n b c before now (Err fault) → PutsDifferences how s t a c first now (Err fault)
pair_stopped how s t w n Output a b c count first before now far same put = (part_of_all how s t w a b c count far put.0, put.1 ∙ ap next_count same)
pair_stopped how s t w n OutOfMemory a b c count first before now far same put = (part_of_all how s t w a b c count far put.0, put.1 ∙ same)
pair_stopped how s t w n (program.Load f) a b c count first before now far same put = absurd put
pair_stopped how s t w n (program.Scan f) a b c count first before now far same put = absurd put
pair_stopped how s t w n (program.Mount f) a b c count first before now far same put = absurd put
pair_stopped how s t w n (program.File f) a b c count first before now far same put = absurd put
pair_stopped how s t w n (program.NotRead f) a b c count first before now far same put = absurd put
pair_stopped how s t w n (program.Listing line) a b c count first before now far same put = absurd put
pair_stopped how s t w n (program.Session f line cause) a b c count first before now far same put = absurd put
pair_stopped how s t w n (program.Path f) a b c count first before now far same put = absurd put
pair_stopped how s t w n program.NotRegular a b c count first before now far same put = absurd put
pair_stopped how s t w n (program.NoSpace folder) a b c count first before now far same put = absurd put
pair_stopped how s t w n (program.Data addr) a b c count first before now far same put = absurd put
pair_stopped how s t w n (program.TooLong addr) a b c count first before now far same put = absurd put
pair_stopped how s t w n (program.Image why) a b c count first before now far same put = absurd put
pair_stopped how s t w n (program.Clash addr other) a b c count first before now far same put = absurd put

pub differences_failed : (how : Comparing) (s t : State) (old new : Option (List ℕ)) (before now : ℕ) (r : Result ℕ ProgramFault) (fault : ProgramFault)
    → IsErrAnd r (λ e. e ≡ fault) → PutsDifferences how s t old new before now (Err fault) → PutsDifferences how s t old new before now r
differences_failed how s t old new before now (Ok x) fault is put = absurd is
differences_failed how s t old new before now (Err e) fault is put =
    subst (λ (y : ProgramFault). PutsDifferences how s t old new before now (Err y)) (sym is) put
