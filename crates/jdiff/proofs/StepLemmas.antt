-- The steps of a walk through two trees.
use Rattle.std.proofs.Common.{◌≡◌, ℕ, ◌+◌, ◌-◌, ◌<◌, Bool, List, [], ◌∷◌, ◌++◌, length, map, take, refl, sym, ap, ◌∙◌, subst, arith, append-nil, Option, Some, None, Result, Ok, Err, Bor, inl, inr, ◌*◌}
use Rattle.std.specs.Prelude.{reverse, sum_by, IsErrAnd}
use Rattle.std.specs.List.{flat_map}
use Rattle.std.specs.Io.KnownBytes.{Appends}
use Rattle.std.proofs.KnownBytes.{Appends-nil}
use Rattle.std.proofs.lemmas.Grind.{flat_map-append}
use Rattle.std.proofs.lemmas.List.Sums.{sum_by_push}
use Rattle.std.proofs.lemmas.List.{map-append, reverse-append, length_push, length-append}
use Rattle.std.proofs.Math.Seq.{take-append_seam}
use Rattle.flashbase.specs.Device.{PutsPart}
use Rattle.flashbase.proofs.DeviceLemmas.{part_before}
use Rattle.jmount.specs.Tree.{State}
use Rattle.jmount.specs.Find.{way_up}
use Rattle.jreport.specs.Remembering.{remembered}
use Rattle.jreport.specs.declared.met.MetDirectories.{MetDirectories}
use Rattle.jreport.specs.declared.faults.ProgramFault.{ProgramFault}
use Rattle.jreport.specs.declared.faults.ProgramFault.TheVariants as program
use Rattle.jreport.specs.declared.faults.ProgramFault.TheVariants.{Output, OutOfMemory}
use Rattle.jdiff.specs.Changes.{changes}
use Rattle.jdiff.specs.Names.{SharedName, names_there, joined}
use Rattle.jdiff.specs.Pairing.{Place, lines_on, text_on, count_on}
use Rattle.jdiff.specs.Walking.{Spot, met_by, entered_at, spots_of, spot_place, spots_after, AreSpotPlaces, spot_lines, spot_text, spots_up, way_of_pair, spots_left, AreLeft, pairs_open, entered_names, PairGoesUp, PutsPartOfLeft, PutsPairStep}
use Rattle.jdiff.specs.declared.walk.Walk.{Walk}
use Rattle.jdiff.specs.declared.walk.Visited.{Visited}
use Rattle.jdiff.specs.declared.comparing.Comparing.{Comparing}
use Rattle.jdiff.proofs.PlaceLemmas.{joined_long, has_places}
use Rattle.jdiff.proofs.SpotLemmas.{PutsSpotOn}

-- a step, of each part by itself
abbrev pub PutsPairStepOn : Comparing → State → State → Walk → Walk → Option (List ℕ) → Option (List ℕ) → ℕ → ℕ → Result (Option ℕ) ProgramFault → Type 0
PutsPairStepOn how s t w n old new before now r = PutsPairStep how s t w n (record { old = old; new = new; before = before; now = now }) r

-- ---- the text of places

lines_join : (how : Comparing) (xs ys : List Place) → lines_on how (xs ++ ys) ≡ lines_on how xs ++ lines_on how ys
lines_join how xs ys = flat_map-append (λ (place : Place). changes how place.left place.right) xs ys

pub text_join : (how : Comparing) (xs ys : List Place) → text_on how (xs ++ ys) ≡ text_on how xs ++ text_on how ys
text_join how xs ys =
    ap (flat_map (λ (line : List ℕ). line)) (lines_join how xs ys) ∙ flat_map-append (λ (line : List ℕ). line) (lines_on how xs) (lines_on how ys)

pub count_join : (how : Comparing) (xs ys : List Place) → count_on how (xs ++ ys) ≡ count_on how xs + count_on how ys
count_join how xs ys = ap length (lines_join how xs ys) ∙ length-append (lines_on how xs) (lines_on how ys)

-- ---- where the walk ends, or goes up

nothing_left : (w : Walk) → w.left ≡ [] → w.above.items ≡ [] → spots_left w ≡ []
nothing_left w none empty =
    ap (λ (left : List SharedName). spots_up (left ∷ reverse w.above.items) (way_of_pair w)) none
    ∙ ap (λ (above : List (List SharedName)). spots_up (reverse above) (way_up (way_of_pair w))) empty

up_spots : (w n : Walk) (k : ℕ) → w.left ≡ [] → PairGoesUp w n (Some k) → spots_left n ≡ spots_left w
up_spots w n k none up =
    sym
    (ap (λ (left : List SharedName). spots_up (left ∷ reverse w.above.items) (way_of_pair w)) none
    ∙ ap (λ (above : List (List SharedName)). spots_up (reverse above) (way_up (way_of_pair w))) up.1
    ∙ ap (λ (above : List (List SharedName)). spots_up above (way_up (way_of_pair w))) (reverse-append n.above.items (n.left ∷ []))
    ∙ ap (spots_up (n.left ∷ reverse n.above.items)) (sym up.2))

up_nearer : (w n : Walk) (k : ℕ) → w.left ≡ [] → PairGoesUp w n (Some k) → pairs_open n < pairs_open w
up_nearer w n k none up =
    let left : length w.left ≡ 0 = ap length none in
    let sum : sum_by (λ left. length left) w.above.items ≡ sum_by (λ left. length left) n.above.items + length n.left =
    ap (sum_by (λ left. length left)) up.1 ∙ sum_by_push (λ left. length left) n.above.items n.left in
    let deep : length w.above.items ≡ length n.above.items + 1 = ap length up.1 ∙ length_push n.above.items n.left in
    omega arith

pub pair_goes_up : (how : Comparing) (s t : State) (w n : Walk) (left : List SharedName) (up : Option ℕ) (old : Option (List ℕ)) (before : ℕ) → w.left ≡ []
    → PairGoesUp (record w { left = left }) n up → PutsPairStepOn how s t w n old old before before (Ok up)
pair_goes_up how s t w n left (Some k) old before none up = (
  inl (record { todo = up_spots w n k none up; left = up.3; right = up.4; nearer = up_nearer w n k none up; put = Appends-nil old; counted = up.0 }),
  refl,
)
pair_goes_up how s t w n left None old before none up = (nothing_left w none up, Appends-nil old, refl)

-- ---- where a name was read

abbrev pub spot_in : Walk → List ℕ → Option ℕ → Option ℕ → Spot
spot_in w name i j = (way_of_pair w ++ name ∷ [], i, j)

-- what a walk has left behind a name
abbrev pub spots_behind : Walk → List SharedName → List Spot
spots_behind w names = spots_of (way_of_pair w) names ++ spots_up (reverse w.above.items) (way_up (way_of_pair w))

abbrev pub place_in : State → State → Walk → List ℕ → Option ℕ → Option ℕ → Place
place_in s t w name i j = spot_place s t (remembered w.met_left) (remembered w.met_right) (spot_in w name i j)

read_places : (s t : State) (w : Walk) (name : List ℕ) (i j : Option ℕ) (names : List SharedName) (places : List Place) → w.left ≡ (name, i, j) ∷ names
    → AreSpotPlaces s t (met_by s (remembered w.met_left) i) (met_by t (remembered w.met_right) j)
    (spots_after s t (remembered w.met_left) (remembered w.met_right) (spot_in w name i j) (spots_behind w names)) places
    → AreLeft s t w (place_in s t w name i j ∷ places)
read_places s t w name i j names places read are =
    subst (λ (left : List SharedName). AreSpotPlaces s t (remembered w.met_left) (remembered w.met_right) (spots_up (left ∷ reverse w.above.items) (way_of_pair w)) (place_in s t w name i j ∷ places))
    (sym read) (refl, are)

-- the names of the directories that are entered come next
record EntersPair (s t : State) (w n : Walk) (name : List ℕ) (i j : Option ℕ) (names : List SharedName) : Type 0 where
  pub read : w.left ≡ (name, i, j) ∷ names
  pub left : n.left ≡ joined (names_there s (entered_at s (remembered w.met_left) i)) (names_there t (entered_at t (remembered w.met_right) j))
  pub above : n.above.items ≡ w.above.items ++ names ∷ []
  pub way : way_of_pair n ≡ way_of_pair w ++ name ∷ []

enter_spots : (s t : State) (w n : Walk) (name : List ℕ) (i j : Option ℕ) (names : List SharedName) → EntersPair s t w n name i j names
    → spots_left n ≡ spots_after s t (remembered w.met_left) (remembered w.met_right) (spot_in w name i j) (spots_behind w names)
enter_spots s t w n name i j names is =
    let back : way_up (way_of_pair n) ≡ way_of_pair w =
    ap way_up is.way
    ∙ ap (λ (k : ℕ). take k (way_of_pair w ++ name ∷ [])) {x = length (way_of_pair w ++ name ∷ []) - 1} {y = length (way_of_pair w)} (omega (arith, length_push (way_of_pair w) name))
    ∙ take-append_seam (way_of_pair w) (name ∷ []) in
    let reversed : reverse n.above.items ≡ names ∷ reverse w.above.items = ap reverse is.above ∙ reverse-append w.above.items (names ∷ []) in
    let below : List SharedName = joined (names_there s (entered_at s (remembered w.met_left) i)) (names_there t (entered_at t (remembered w.met_right) j)) in
    ap (λ (p : List (List ℕ)). spots_of p n.left ++ spots_up (reverse n.above.items) (way_up (way_of_pair n))) is.way
    ∙ ap (λ (l : List SharedName). spots_of (way_of_pair w ++ name ∷ []) l ++ spots_up (reverse n.above.items) (way_up (way_of_pair n))) is.left
    ∙ ap (λ (p : List (List ℕ)). spots_of (way_of_pair w ++ name ∷ []) below ++ spots_up (reverse n.above.items) p) back
    ∙ ap (λ (l : List (List SharedName)). spots_of (way_of_pair w ++ name ∷ []) below ++ spots_up l (way_of_pair w)) reversed

enter_nearer : (s t : State) (w n : Walk) (name : List ℕ) (i j : Option ℕ) (names : List SharedName) → EntersPair s t w n name i j names
    → pairs_open n < pairs_open w + 2 * (length (entered_names s w.met_left i) + length (entered_names t w.met_right j))
enter_nearer s t w n name i j names is =
    let xs = entered_names s w.met_left i in
    let ys = entered_names t w.met_right j in
    let own : length n.left ≡ length (joined xs ys) = ap length is.left in
    let one : length w.left ≡ length names + 1 = ap length is.read ∙ omega arith in
    let sum : sum_by (λ left. length left) n.above.items ≡ sum_by (λ left. length left) w.above.items + length names =
    ap (sum_by (λ left. length left)) is.above ∙ sum_by_push (λ left. length left) w.above.items names in
    let deep : length n.above.items ≡ length w.above.items + 1 = ap length is.above ∙ length_push w.above.items names in
    omega (arith, joined_long xs ys)

pub enters_pair : (how : Comparing) (s t : State) (w n : Walk) (name : List ℕ) (i j : Option ℕ) (names : List SharedName) (v : Visited) (old new : Option (List ℕ)) (before now : ℕ)
    → w.left ≡ (name, i, j) ∷ names → n.left ≡ joined (names_there s v.left) (names_there t v.right)
    → n.above.items ≡ w.above.items ++ names ∷ [] → way_of_pair n ≡ way_of_pair w ++ name ∷ []
    → PutsSpotOn how s t w.met_left w.met_right n.met_left n.met_right (spot_in w name i j) old new before now (Ok v)
    → PutsPairStepOn how s t w n old new before now (Ok (Some v.lines))
enters_pair how s t w n name i j names v old new before now read left above way put =
    let is : EntersPair s t w n name i j names = record {
      read = read;
      left = left ∙ ap (λ (d : Option ℕ). joined (names_there s d) (names_there t v.right)) put.1
          ∙ ap (λ (d : Option ℕ). joined (entered_names s w.met_left i) (names_there t d)) put.2;
      above = above;
      way = way;
    } in (
      inr (record {
        spot = spot_in w name i j;
        rest = spots_behind w names;
        todo = ap (λ (left : List SharedName). spots_up (left ∷ reverse w.above.items) (way_of_pair w)) read;
        todo_then = enter_spots s t w n name i j names is;
        left = put.3;
        right = put.4;
        nearer = enter_nearer s t w n name i j names is;
        put = put.5;
        counted = put.0;
      }),
      put.6,
    )

-- ---- where memory runs out, or the sink fails

pub none_put : (how : Comparing) (s t : State) (w n : Walk) (old : Option (List ℕ)) (before : ℕ) → PutsPairStepOn how s t w n old old before before (Err OutOfMemory)
none_put how s t w n old before =
    let whole = has_places s t (remembered w.met_left) (remembered w.met_right) (spots_left w) in ((whole.0, whole.1, (0, Appends-nil old)), refl)

-- a beginning of the lines on a name went out
spot_part : (how : Comparing) (s t : State) (w : Walk) (name : List ℕ) (i j : Option ℕ) (names : List SharedName) (old new : Option (List ℕ)) → w.left ≡ (name, i, j) ∷ names
    → PutsPart old new (spot_text how s t w.met_left w.met_right (spot_in w name i j)) → PutsPartOfLeft how s t w old new
spot_part how s t w name i j names old new read part =
    let whole = has_places s t (met_by s (remembered w.met_left) i) (met_by t (remembered w.met_right) j) (spots_after s t (remembered w.met_left) (remembered w.met_right) (spot_in w name i j) (spots_behind w names)) in (
      place_in s t w name i j ∷ whole.0,
      read_places s t w name i j names whole.0 read whole.1,
      subst (PutsPart old new)
          (sym (flat_map-append (λ (line : List ℕ). line) (spot_lines how s t w.met_left w.met_right (spot_in w name i j)) (lines_on how whole.0)))
          (part_before old new (spot_text how s t w.met_left w.met_right (spot_in w name i j)) (text_on how whole.0) part),
    )

whole_part : (old new : Option (List ℕ)) (line : List ℕ) → Appends old new line → PutsPart old new line
whole_part old new line put = (length line, subst (Appends old new) (sym (take_all line)) put)
  where
    take_all : (xs : List ℕ) → take (length xs) xs ≡ xs
    take_all xs = ap (take (length xs)) (sym (append-nil xs)) ∙ take-append_seam xs []

pub spot_put : (how : Comparing) (s t : State) (w n : Walk) (name : List ℕ) (i j : Option ℕ) (names : List SharedName) (left right : MetDirectories) (v : Visited) (old new : Option (List ℕ)) (before now : ℕ)
    → w.left ≡ (name, i, j) ∷ names → PutsSpotOn how s t w.met_left w.met_right left right (spot_in w name i j) old new before now (Ok v)
    → PutsPairStepOn how s t w n old new before now (Err OutOfMemory)
spot_put how s t w n name i j names left right v old new before now read put =
    (spot_part how s t w name i j names old new read (whole_part old new (spot_text how s t w.met_left w.met_right (spot_in w name i j)) put.5), put.6)

pub spot_failed : (how : Comparing) (s t : State) (w n : Walk) (name : List ℕ) (i j : Option ℕ) (names : List SharedName) (left right : MetDirectories) (fault : ProgramFault) (old new : Option (List ℕ)) (before now : ℕ)
    → w.left ≡ (name, i, j) ∷ names → PutsSpotOn how s t w.met_left w.met_right left right (spot_in w name i j) old new before now (Err fault)
    → PutsPairStepOn how s t w n old new before now (Err fault)
spot_failed how s t w n name i j names left right Output old new before now read put = (spot_part how s t w name i j names old new read put.0, put.1)
spot_failed how s t w n name i j names left right OutOfMemory old new before now read put =
    (spot_part how s t w name i j names old new read (0, put.0), put.1)
spot_failed how s t w n name i j names left right (program.Load f) old new before now read put = absurd put
spot_failed how s t w n name i j names left right (program.Scan f) old new before now read put = absurd put
spot_failed how s t w n name i j names left right (program.Mount f) old new before now read put = absurd put
spot_failed how s t w n name i j names left right (program.File f) old new before now read put = absurd put
spot_failed how s t w n name i j names left right (program.NotRead f) old new before now read put = absurd put
spot_failed how s t w n name i j names left right (program.Listing line) old new before now read put = absurd put
spot_failed how s t w n name i j names left right (program.Session f line cause) old new before now read put = absurd put
spot_failed how s t w n name i j names left right (program.Path f) old new before now read put = absurd put
spot_failed how s t w n name i j names left right program.NotRegular old new before now read put = absurd put
spot_failed how s t w n name i j names left right (program.NoSpace folder) old new before now read put = absurd put
spot_failed how s t w n name i j names left right (program.Data addr) old new before now read put = absurd put
spot_failed how s t w n name i j names left right (program.TooLong addr) old new before now read put = absurd put
spot_failed how s t w n name i j names left right (program.Image why) old new before now read put = absurd put
spot_failed how s t w n name i j names left right (program.Clash addr other) old new before now read put = absurd put

pub pair_step_failed : (how : Comparing) (s t : State) (w n : Walk) (old new : Option (List ℕ)) (before now : ℕ) (r : Result (Option ℕ) ProgramFault) (fault : ProgramFault)
    → IsErrAnd r (λ e. e ≡ fault) → PutsPairStepOn how s t w n old new before now (Err fault) → PutsPairStepOn how s t w n old new before now r
pair_step_failed how s t w n old new before now (Ok x) fault is put = absurd is
pair_step_failed how s t w n old new before now (Err e) fault is put =
    subst (λ (y : ProgramFault). PutsPairStepOn how s t w n old new before now (Err y)) (sym is) put

-- ---- the way to a spot

pub pair_way_on : (w : Walk) (name : Bor (List ℕ)) (path pushed : List (Bor (List ℕ))) → path ≡ pushed → pushed ≡ w.path.items ++ name ∷ []
    → map (λ n. n.now) path ≡ way_of_pair w ++ name.now ∷ []
pair_way_on w name path pushed same is = ap (map (λ n. n.now)) (same ∙ is) ∙ map-append (λ n. n.now) w.path.items (name ∷ [])

pub spot_at : (how : Comparing) (s t : State) (a b c d : MetDirectories) (path way : List (List ℕ)) (i j : Option ℕ) (old new : Option (List ℕ)) (before now : ℕ) (r : Result Visited ProgramFault)
    → path ≡ way → PutsSpotOn how s t a b c d (path, i, j) old new before now r → PutsSpotOn how s t a b c d (way, i, j) old new before now r
spot_at how s t a b c d path way i j old new before now r is put =
    subst (λ (p : List (List ℕ)). PutsSpotOn how s t a b c d (p, i, j) old new before now r) is put
