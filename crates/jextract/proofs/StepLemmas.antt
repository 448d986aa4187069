-- The steps of the walk.
use Rattle.std.proofs.Common.{◌≡◌, ℕ, ◌+◌, ◌-◌, Bool, true, false, List, [], ◌∷◌, ◌++◌, length, map, take, append_assoc, append-nil, refl, sym, ap, ◌∙◌, subst, arith, Option, Result, Ok, Err, Bor, if◌then◌else◌}
use Rattle.std.specs.Prelude.{reverse, sum_by, IsErrAnd}
use Rattle.std.specs.Io.KnownBytes.{Appends}
use Rattle.std.proofs.KnownBytes.{Appends-nil}
use Rattle.std.proofs.lemmas.Grind.{common_steps}
use Rattle.std.proofs.lemmas.List.Sums.{sum_by_push}
use Rattle.std.proofs.lemmas.List.{map-append, reverse-append, length_push}
use Rattle.std.proofs.Math.Seq.{take-append_seam}
use Rattle.flashbase.specs.Device.{PutsPart}
use Rattle.jmount.specs.Tree.{State, entries_in}
use Rattle.jmount.specs.Find.{way_up}
use Rattle.jextract.specs.Folders.{Failures, refused_once}
use Rattle.jextract.specs.Making.{firsts_of}
use Rattle.jextract.specs.Outcomes.{Task, Make, Complete, Outcome, FirstPaths, AreOutcomes, AreFirstOutcomes, tasks_of, tasks_in, all_lines, failures_after, is_refusal}
use Rattle.jname.specs.Live.{Key}
use Rattle.jextract.specs.Parts.{is_in_part, part_along}
use Rattle.jextract.specs.Walking.{Advances, IsOnWay, Knows, open_of, Sight, Had, StopsBy, Visits, Completes, ExtractionGoesUp, Steps, names_in_part, todo_then, extraction_todo, tasks_up, extraction_way}
use Rattle.jextract.specs.declared.extracting.Walk.{Walk}
use Rattle.jextract.specs.declared.fault.ExtractFault.{ExtractFault}
use Rattle.jextract.specs.declared.fault.ExtractFault.TheVariants as fault
use Rattle.jextract.specs.declared.totals.Totals.{Totals}
use Rattle.jextract.proofs.MakingLemmas.{ReportsMore-nil}
use Rattle.jextract.proofs.PartLemmas.{entries_along}
use Rattle.jextract.proofs.SpentLemmas.{gone_up}
use Rattle.jextract.proofs.WalkLemmas.{had_none}

-- a name of the tree: its directory, itself and its number
abbrev pub Name : Type 0
Name = ℕ × List ℕ × ℕ

-- ---- the tasks of a name

-- what a walk has left, beside the names of the directory that it reads
abbrev pub more_of : List Key → Walk → List Task
more_of part w = Complete (extraction_way w) w.ino ∷ tasks_up part (reverse w.above.items) (way_up (extraction_way w))

-- what it has left of the names of the directory that it reads
abbrev pub names_left : List Key → Walk → List (List ℕ × ℕ) → List Task
names_left part w names = tasks_of (extraction_way w) (names_in_part part w.ino names) ++ more_of part w

-- the same, where it read a name that is in the part
todo_read : (part : List Key) (w : Walk) (name : List ℕ) (i : ℕ) (names : List (List ℕ × ℕ)) → w.left ≡ (name, i) ∷ names → is_in_part part w.ino name ≡ true
    → Make (extraction_way w ++ name ∷ []) i ∷ names_left part w names ≡ extraction_todo part w
todo_read part w name i names read is =
    ap (λ (b : Bool). tasks_of (extraction_way w) (if b then (name, i) ∷ names_in_part part w.ino names else names_in_part part w.ino names) ++ more_of part w) (sym is)
    ∙ ap (names_left part w) (sym read)

-- or one that is not
todo_skipped : (part : List Key) (w : Walk) (name : List ℕ) (i : ℕ) (names : List (List ℕ × ℕ)) → w.left ≡ (name, i) ∷ names → is_in_part part w.ino name ≡ false
    → names_left part w names ≡ extraction_todo part w
todo_skipped part w name i names read is =
    ap (λ (b : Bool). tasks_of (extraction_way w) (if b then (name, i) ∷ names_in_part part w.ino names else names_in_part part w.ino names) ++ more_of part w) (sym is)
    ∙ ap (names_left part w) (sym read)

-- ---- the walk goes on in the same directory, or in the one that the name leads to

stays_todo : (part : List Key) (w n : Walk) (names : List (List ℕ × ℕ)) → n.left ≡ names → n.ino ≡ w.ino → n.above.items ≡ w.above.items → extraction_way n ≡ extraction_way w
    → names_left part w names ≡ extraction_todo part n
stays_todo part w n names left ino above way =
    ap (names_left part w) (sym left)
    ∙ ap (λ (i : ℕ). tasks_of (extraction_way w) (names_in_part part i n.left) ++ Complete (extraction_way w) i ∷ tasks_up part (reverse w.above.items) (way_up (extraction_way w))) (sym ino)
    ∙ ap (λ (a : List (ℕ × List (List ℕ × ℕ))). tasks_of (extraction_way w) (names_in_part part n.ino n.left) ++ Complete (extraction_way w) n.ino ∷ tasks_up part (reverse a) (way_up (extraction_way w))) (sym above)
    ∙ ap (tasks_up part ((n.ino, n.left) ∷ reverse n.above.items)) (sym way)

advances_to : (s : State) (owners : Bool) (firsts then_ : FirstPaths) (todo other todo_ todo_other : List Task) (outcomes : List Outcome)
    → todo ≡ other → todo_ ≡ todo_other → Advances s owners firsts todo then_ todo_ outcomes → Advances s owners firsts other then_ todo_other outcomes
advances_to s owners firsts then_ todo other todo_ todo_other outcomes a c advances =
    subst (λ (t : List Task). Advances s owners firsts t then_ todo_other outcomes) a
    (subst (λ (t : List Task). Advances s owners firsts todo then_ t outcomes) c advances)

pub stays : (s : State) (part : List Key) (owners : Bool) (made made_then : FirstPaths) (w n : Walk) (name : List ℕ) (i : ℕ) (x : Name) (old new : Sight) → w.left ≡ (name, i) ∷ n.left → is_in_part part w.ino name ≡ true
    → n.ino ≡ w.ino → n.above.items ≡ w.above.items → extraction_way n ≡ extraction_way w → w.unread ≡ x ∷ n.unread → IsOnWay s made_then n
    → Visits (part_along part s) owners made made_then (Make (extraction_way w ++ name ∷ []) i) old new (Ok false)
    → Steps s part owners made w n (old, new) (Ok true)
stays s part owners made made_then w n name i x old new read is ino above way unread on_way visits =
    let fewer : length w.unread ≡ length n.unread + 1 = ap (λ l. length l) unread ∙ omega arith in
    let deep : length n.above.items ≡ length w.above.items = ap (λ l. length l) above in (
      visits.0,
      made_then,
      on_way,
      visits.1,
      advances_to (part_along part s) owners made made_then (Make (extraction_way w ++ name ∷ []) i ∷ names_left part w n.left) (extraction_todo part w)
          (names_left part w n.left) (extraction_todo part n) visits.0 (todo_read part w name i n.left read is) (stays_todo part w n n.left refl ino above way)
          (visits.2 (names_left part w n.left)),
      omega arith,
    )

-- a name that is not in the part is passed over
pub skips : (s : State) (part : List Key) (owners : Bool) (made : FirstPaths) (w n : Walk) (name : List ℕ) (i : ℕ) (x : Name) (old : Sight) → w.left ≡ (name, i) ∷ n.left → is_in_part part w.ino name ≡ false
    → n.ino ≡ w.ino → n.above.items ≡ w.above.items → extraction_way n ≡ extraction_way w → w.unread ≡ x ∷ n.unread → IsOnWay s made n → Steps s part owners made w n (old, old) (Ok true)
skips s part owners made w n name i x old read is ino above way unread on_way =
    let fewer : length w.unread ≡ length n.unread + 1 = ap (λ l. length l) unread ∙ omega arith in
    let deep : length n.above.items ≡ length w.above.items = ap (λ l. length l) above in
    let todo : extraction_todo part n ≡ extraction_todo part w = sym (stays_todo part w n n.left refl ino above way) ∙ todo_skipped part w name i n.left read is in (
      [],
      made,
      on_way,
      had_none old,
      (
        λ rest are. subst (λ (t : List Task). AreOutcomes (part_along part s) owners made t rest) todo are,
        λ rest are. subst (λ (t : List Task). AreFirstOutcomes (part_along part s) owners made t rest) todo are,
      ),
      omega arith,
    )

pub enters : (s : State) (part : List Key) (owners : Bool) (made made_then : FirstPaths) (w n : Walk) (name : List ℕ) (i : ℕ) (names : List (List ℕ × ℕ)) (x : Name) (old new : Sight) → w.left ≡ (name, i) ∷ names → is_in_part part w.ino name ≡ true
    → n.ino ≡ i → n.left ≡ entries_in s i → n.above.items ≡ w.above.items ++ (w.ino, names) ∷ [] → extraction_way n ≡ extraction_way w ++ name ∷ []
    → w.unread ≡ x ∷ n.unread → IsOnWay s made_then n
    → Visits (part_along part s) owners made made_then (Make (extraction_way w ++ name ∷ []) i) old new (Ok true) → Steps s part owners made w n (old, new) (Ok true)
enters s part owners made made_then w n name i names x old new read is ino left above way unread on_way visits =
    let rest = names_left part w names in
    let inside = entries_in (part_along part s) i in
    let back : way_up (extraction_way n) ≡ extraction_way w =
    ap way_up way
    ∙ ap (λ (k : ℕ). take k (extraction_way w ++ name ∷ [])) {x = length (extraction_way w ++ name ∷ []) - 1} {y = length (extraction_way w)} (omega (arith, length_push (extraction_way w) name))
    ∙ take-append_seam (extraction_way w) (name ∷ []) in
    let reversed : reverse n.above.items ≡ (w.ino, names) ∷ reverse w.above.items = ap reverse above ∙ reverse-append w.above.items ((w.ino, names) ∷ []) in
    let up : rest ≡ tasks_up part (reverse n.above.items) (way_up (extraction_way n)) =
    ap (λ (p : List (List ℕ)). tasks_up part ((w.ino, names) ∷ reverse w.above.items) p) (sym back)
    ∙ ap (λ (l : List (ℕ × List (List ℕ × ℕ))). tasks_up part l (way_up (extraction_way n))) (sym reversed) in
    let todo : tasks_in (part_along part s) (extraction_way w ++ name ∷ []) i ++ rest ≡ extraction_todo part n =
    append_assoc (tasks_of (extraction_way w ++ name ∷ []) inside) (Complete (extraction_way w ++ name ∷ []) i ∷ []) rest
    ∙ ap (λ (p : List (List ℕ)). tasks_of p inside ++ Complete p i ∷ rest) (sym way)
    ∙ ap (λ (l : List (List ℕ × ℕ)). tasks_of (extraction_way n) l ++ Complete (extraction_way n) i ∷ rest) (entries_along part s i ∙ ap (names_in_part part i) (sym left))
    ∙ ap (λ (j : ℕ). tasks_of (extraction_way n) (names_in_part part j n.left) ++ Complete (extraction_way n) j ∷ rest) (sym ino)
    ∙ ap (λ (t : List Task). tasks_of (extraction_way n) (names_in_part part n.ino n.left) ++ Complete (extraction_way n) n.ino ∷ t) up in
    let fewer : length w.unread ≡ length n.unread + 1 = ap (λ l. length l) unread ∙ omega arith in
    let deep : length n.above.items ≡ length w.above.items + 1 = ap (λ l. length l) above ∙ length_push w.above.items (w.ino, names) in (
      visits.0,
      made_then,
      on_way,
      visits.1,
      advances_to (part_along part s) owners made made_then (Make (extraction_way w ++ name ∷ []) i ∷ rest) (extraction_todo part w)
          (tasks_in (part_along part s) (extraction_way w ++ name ∷ []) i ++ rest) (extraction_todo part n) visits.0
          (todo_read part w name i names read is) todo (visits.2 rest),
      omega arith,
    )

-- ---- faults

pub step_at_fault : (s : State) (part : List Key) (owners : Bool) (made : FirstPaths) (w n : Walk) (old new : Sight) (f : ExtractFault) (r : Result Bool ExtractFault) → IsErrAnd r (λ e. e ≡ f)
    → StopsBy (part_along part s) owners made (extraction_todo part w) old new f → Steps s part owners made w n (old, new) r
step_at_fault s part owners made w n old new f (Ok x) err stops = absurd err
step_at_fault s part owners made w n old new f (Err e) err stops = subst (λ (x : ExtractFault). StopsBy (part_along part s) owners made (extraction_todo part w) old new x) (sym err) stops

pub stops_before : (s : State) (owners : Bool) (firsts : FirstPaths) (todo : List Task) (old : Sight) → StopsBy s owners firsts todo old old fault.OutOfMemory
stops_before s owners firsts todo old = (([], tt {0}, ReportsMore-nil old.made, (0, Appends-nil old.told)), refl, refl)

pub visit_failed : (s : State) (part : List Key) (owners : Bool) (made : FirstPaths) (w n : Walk) (name : List ℕ) (i : ℕ) (names : List (List ℕ × ℕ)) (firsts_then : FirstPaths) (old new : Sight) (f : ExtractFault)
    → w.left ≡ (name, i) ∷ names → is_in_part part w.ino name ≡ true → Visits s owners made firsts_then (Make (extraction_way w ++ name ∷ []) i) old new (Err f)
    → StopsBy s owners made (extraction_todo part w) old new f
visit_failed s part owners made w n name i names firsts_then old new f read is visits =
    subst (λ (t : List Task). StopsBy s owners made t old new f) (todo_read part w name i names read is) (visits (names_left part w names))

whole_part : (old new : Option (List ℕ)) (line : List ℕ) → Appends old new line → PutsPart old new line
whole_part old new line put = (length line, subst (Appends old new) (sym (take_whole line)) put)
  where
    take_whole : (xs : List ℕ) → take (length xs) xs ≡ xs
    take_whole xs = grind (arith, common_steps)

-- what is left out is no want of room
pub failures-full : (n : Failures) (outcomes : List Outcome) → (failures_after n outcomes).full ≡ n.full
failures-full n [] = refl
failures-full n (o ∷ outcomes) = failures-full (if is_refusal o.left_out then refused_once n else n) outcomes ∙ by (is_refusal o.left_out)
  where
    by : (b : Bool) → (if b then refused_once n else n).full ≡ n.full
    by true = refl
    by false = refl

-- memory ran out after what was had
pub stops_after : (s : State) (owners : Bool) (firsts firsts_then : FirstPaths) (todo todo_ : List Task) (outcomes : List Outcome) (old new : Sight) → Had old new outcomes
    → Advances s owners firsts todo firsts_then todo_ outcomes → StopsBy s owners firsts todo old new fault.OutOfMemory
stops_after s owners firsts firsts_then todo todo_ outcomes old new had advances = (
  (
    outcomes,
    subst (AreFirstOutcomes s owners firsts todo) (append-nil outcomes) (advances.1 [] (tt {0})),
    had.0,
    whole_part old.told new.told (all_lines outcomes) had.2,
  ),
  had.3,
  ap (λ (f : Failures). f.full) had.1 ∙ failures-full old.failures outcomes,
)

pub visited_then_stops : (s : State) (part : List Key) (owners : Bool) (made : FirstPaths) (w : Walk) (name : List ℕ) (i : ℕ) (names : List (List ℕ × ℕ)) (firsts_then : FirstPaths) (old new : Sight) (entered : Bool)
    → w.left ≡ (name, i) ∷ names → is_in_part part w.ino name ≡ true → Visits s owners made firsts_then (Make (extraction_way w ++ name ∷ []) i) old new (Ok entered)
    → StopsBy s owners made (extraction_todo part w) old new fault.OutOfMemory
visited_then_stops s part owners made w name i names firsts_then old new entered read is visits =
    let rest = names_left part w names in
    subst (λ (t : List Task). StopsBy s owners made t old new fault.OutOfMemory) (todo_read part w name i names read is)
    (stops_after s owners made firsts_then (Make (extraction_way w ++ name ∷ []) i ∷ rest) (todo_then s (Make (extraction_way w ++ name ∷ []) i) entered rest) visits.0 old new visits.1 (visits.2 rest))

-- ---- where no name is left

todo_left : (part : List Key) (w : Walk) → w.left ≡ [] → more_of part w ≡ extraction_todo part w
todo_left part w none = ap (names_left part w) (sym none)

pub leave_failed : (s : State) (part : List Key) (owners : Bool) (made : FirstPaths) (w : Walk) (old new : Sight) (f : ExtractFault) → w.left ≡ [] → Completes s owners (extraction_way w) w.ino old new (Err f)
    → StopsBy s owners made (extraction_todo part w) old new f
leave_failed s part owners made w old new f none completes =
    subst (λ (t : List Task). StopsBy s owners made t old new f) (todo_left part w none)
    (completes made (tasks_up part (reverse w.above.items) (way_up (extraction_way w))))

-- the walk went up, whatever it counts
abbrev pub Up : Walk → Walk → Bool → Type 0
Up w n true = (w.above.items ≡ n.above.items ++ (n.ino, n.left) ∷ []) × (extraction_way n ≡ way_up (extraction_way w)) × (n.firsts ≡ w.firsts) × (n.unread ≡ w.unread)
Up w n false = w.above.items ≡ []

-- it goes on, then, as far as it did before
goes_up : (s : State) (made : FirstPaths) (w n : Walk) → w.left ≡ [] → Up w n true → IsOnWay s made w → IsOnWay s made n
goes_up s made w n none up on_way =
    let back : reverse w.above.items ≡ open_of n = ap reverse up.0 ∙ reverse-append n.above.items ((n.ino, n.left) ∷ []) in
    let sum : sum_by (λ (d : ℕ × List (List ℕ × ℕ)). length d.1) w.above.items ≡ sum_by (λ (d : ℕ × List (List ℕ × ℕ)). length d.1) n.above.items + length n.left =
    ap (sum_by (λ d. length d.1)) up.0 ∙ sum_by_push (λ (d : ℕ × List (List ℕ × ℕ)). length d.1) n.above.items (n.ino, n.left) in
    let left : length w.left ≡ 0 = ap (λ l. length l) none in
    let unread : length n.unread ≡ length w.unread = ap (λ l. length l) up.3 in
    let enough = on_way.enough in
    record {
      knows = subst (Knows s made (firsts_of n.firsts)) back (subst (λ (f : FirstPaths). Knows s made f (reverse w.above.items)) (sym (ap firsts_of up.2)) (gone_up s made (firsts_of w.firsts) (w.ino, w.left) (reverse w.above.items) on_way.knows));
      enough = omega arith;
    }

pub leaves : (s : State) (part : List Key) (owners : Bool) (made : FirstPaths) (w n : Walk) (old new : Sight) (done up : Bool) → w.left ≡ [] → Completes (part_along part s) owners (extraction_way w) w.ino old new (Ok done)
    → Up w n up → IsOnWay s made w → Steps s part owners made w n (old, new) (Ok up)
leaves s part owners made w n old new done false none completes up on_way =
    let rest = tasks_up part (reverse w.above.items) (way_up (extraction_way w)) in
    let empty : rest ≡ [] = ap (λ (above : List (ℕ × List (List ℕ × ℕ))). tasks_up part (reverse above) (way_up (extraction_way w))) up in (
      completes.0,
      made,
      completes.1,
      advances_to (part_along part s) owners made made (more_of part w) (extraction_todo part w) rest [] completes.0 (todo_left part w none) empty (completes.2 made rest),
    )
leaves s part owners made w n old new done true none completes up on_way =
    let rest = tasks_up part (reverse w.above.items) (way_up (extraction_way w)) in
    let todo : rest ≡ extraction_todo part n =
    ap (λ (above : List (ℕ × List (List ℕ × ℕ))). tasks_up part (reverse above) (way_up (extraction_way w))) up.0
    ∙ ap (λ (above : List (ℕ × List (List ℕ × ℕ))). tasks_up part above (way_up (extraction_way w))) (reverse-append n.above.items ((n.ino, n.left) ∷ []))
    ∙ ap (tasks_up part ((n.ino, n.left) ∷ reverse n.above.items)) (sym up.1) in
    let deep : length w.above.items ≡ length n.above.items + 1 = ap (λ l. length l) up.0 ∙ length_push n.above.items (n.ino, n.left) in
    let unread : length n.unread ≡ length w.unread = ap (λ l. length l) up.3 in (
      completes.0,
      made,
      goes_up s made w n none up on_way,
      completes.1,
      advances_to (part_along part s) owners made made (more_of part w) (extraction_todo part w) rest (extraction_todo part n) completes.0 (todo_left part w none) todo (completes.2 made rest),
      omega arith,
    )

-- a step that ends with this count
pub step_left : (s : State) (part : List Key) (owners : Bool) (made : FirstPaths) (w n : Walk) (old seen : Sight) (on : Bool) → n.totals ≡ seen.totals → Steps s part owners made w n (old, seen) (Ok on)
    → Steps s part owners made w n (old, record { made = seen.made; failures = seen.failures; told = seen.told; told_failures = seen.told_failures; totals = n.totals }) (Ok on)
step_left s part owners made w n old seen on is steps =
    subst (λ (k : Totals). Steps s part owners made w n (old, record { made = seen.made; failures = seen.failures; told = seen.told; told_failures = seen.told_failures; totals = k }) (Ok on)) (sym is) steps

-- the same, of a walk that knows another count before it goes up
pub leaves_as : (s : State) (part : List Key) (owners : Bool) (made : FirstPaths) (w m n : Walk) (old new : Sight) (done up : Bool) → w.left ≡ [] → extraction_way m ≡ extraction_way w → m.above.items ≡ w.above.items
    → m.firsts ≡ w.firsts → m.unread ≡ w.unread → Completes (part_along part s) owners (extraction_way w) w.ino old new (Ok done) → ExtractionGoesUp m n up → m.totals ≡ new.totals → IsOnWay s made w
    → Steps s part owners made w n (old, record { made = new.made; failures = new.failures; told = new.told; told_failures = new.told_failures; totals = n.totals }) (Ok up)
leaves_as s part owners made w m n old new done false none way above firsts unread completes up count on_way =
    step_left s part owners made w n old new false (up.2 ∙ count) (leaves s part owners made w n old new done false none completes (sym above ∙ up.0) on_way)
leaves_as s part owners made w m n old new done true none way above firsts unread completes up count on_way =
    step_left s part owners made w n old new true (up.3 ∙ count) (leaves s part owners made w n old new done true none completes (sym above ∙ up.0, up.1 ∙ ap way_up way, up.2 ∙ firsts, up.4 ∙ unread) on_way)

-- ---- the way to an object

pub way_on : (w : Walk) (name : Bor (List ℕ)) (path pushed : List (Bor (List ℕ))) → path ≡ pushed → pushed ≡ w.path.items ++ name ∷ [] → map (λ n. n.now) path ≡ extraction_way w ++ name.now ∷ []
way_on w name path pushed same is = ap (map (λ n. n.now)) (same ∙ is) ∙ map-append (λ n. n.now) w.path.items (name ∷ [])

pub way_back : (w : Walk) (name : Bor (List ℕ)) (pushed popped : List (Bor (List ℕ))) → pushed ≡ w.path.items ++ name ∷ [] → popped ≡ take (length pushed - 1) pushed
    → map (λ n. n.now) popped ≡ extraction_way w
way_back w name pushed popped is cut =
    let one : length pushed - 1 ≡ length w.path.items = omega (arith, ap (λ l. length l) is ∙ length_push w.path.items name) in
    ap (map (λ n. n.now)) (cut ∙ ap (λ (k : ℕ). take k pushed) one ∙ ap (take (length w.path.items)) is ∙ take-append_seam w.path.items (name ∷ []))

pub visit_at : (s : State) (owners : Bool) (firsts firsts_then : FirstPaths) (path way : List (List ℕ)) (i : ℕ) (old new : Sight) (r : Result Bool ExtractFault)
    → path ≡ way → Visits s owners firsts firsts_then (Make path i) old new r → Visits s owners firsts firsts_then (Make way i) old new r
visit_at s owners firsts firsts_then path way i old new r is visits = subst (λ (p : List (List ℕ)). Visits s owners firsts firsts_then (Make p i) old new r) is visits
