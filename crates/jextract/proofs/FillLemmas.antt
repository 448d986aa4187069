-- The whole walk.
use Rattle.std.proofs.Common.{◌≡◌, ℕ, ◌+◌, ◌-◌, ◌==◌, cond, Bool, true, false, List, [], ◌∷◌, ◌++◌, length, take, append_assoc, append-nil, refl, sym, ap, ◌∙◌, subst, arith, Option, Some, None, Result, Ok, Err, Bor, map, if◌then◌else◌}
use Rattle.std.specs.Prelude.{sum_by, min, ◌^◌, count_by, flat_map, is_some, option_map, String, string_bytes, reverse, IsErrAnd}
use Rattle.std.specs.Ordering.{nat_cmp}
use Rattle.std.specs.BTreeMap.{BTreeMap, get, is_at}
use Rattle.std.specs.Map.{lookup}
use Rattle.std.specs.declared.alloc.Global.{Global}
use Rattle.std.specs.Io.KnownBytes.{Appends}
use Rattle.std.proofs.KnownBytes.{Appends-trans}
use Rattle.std.proofs.lemmas.Grind.{common_steps, flat_map-append}
use Rattle.std.proofs.lemmas.Bool.Decides.{nat_tests}
use Rattle.flashbase.specs.Device.{PutsPart, next_count}
use Rattle.flashbase.proofs.DeviceLemmas.{part_behind}
use Rattle.flashbase.specs.Sinks.{SinkChange}
use Rattle.jmount.specs.Tree.{State, all_entries, entries_in}
use Rattle.jextract.specs.Extracts.{AreTreeOutcomes, Extracts, DoesPart}
use Rattle.jextract.specs.Folders.{Failures, FolderChange, Made, ReportsMore, refused_once}
use Rattle.jextract.specs.Making.{firsts_of}
use Rattle.jextract.specs.Outcomes.{Task, Outcome, FirstPaths, AreOutcomes, AreFirstOutcomes, all_lines, all_made, root_made, failures_after, is_refusal, outcome_line, root_alone, tasks_in, tasks_of, Complete}
use Rattle.jname.specs.Live.{Key}
use Rattle.jextract.specs.Parts.{part_along}
use Rattle.jextract.specs.Walking.{Advances, IsOnWay, Knows, Open, open_of, Sight, Had, Stopped, StopsBy, Steps, Fills, counted_up, no_totals, totals_up, tasks_up, extraction_todo}
use Rattle.jextract.specs.declared.extracting.Walk.{Walk}
use Rattle.jextract.specs.declared.fault.ExtractFault.{ExtractFault}
use Rattle.jextract.specs.declared.fault.ExtractFault.TheVariants as fault
use Rattle.jextract.specs.declared.totals.Totals.{Totals}
use Rattle.jextract.proofs.PartLemmas.{entries_along}
use Rattle.std.proofs.KnownBytes.{Appends-nil}
use Rattle.jextract.proofs.SpentLemmas.{knows_first}
use Rattle.jextract.proofs.StepLemmas.{failures-full}
use Rattle.jextract.proofs.WalkLemmas.{had_none, unmade_first}

pub ReportsMore-trans : (a b c : Option (List Made)) (xs ys : List Made) → ReportsMore a b xs → ReportsMore b c ys → ReportsMore a c (xs ++ ys)
ReportsMore-trans None b c xs ys p q = tt
ReportsMore-trans (Some x) None c xs ys p q = absurd p
ReportsMore-trans (Some x) (Some y) None xs ys p q = absurd q
ReportsMore-trans (Some x) (Some y) (Some z) xs ys p q = q ∙ ap (λ l. l ++ ys) p ∙ append_assoc x xs ys

failures-append : (n : Failures) (xs ys : List Outcome) → failures_after n (xs ++ ys) ≡ failures_after (failures_after n xs) ys
failures-append n [] ys = refl
failures-append n (o ∷ xs) ys = failures-append (if is_refusal o.left_out then refused_once n else n) xs ys

count-append : (test : Outcome → Bool) (xs ys : List Outcome) → count_by test (xs ++ ys) ≡ count_by test xs + count_by test ys
count-append test xs ys = grind (arith, common_steps)

counted_up-more : (n a b : ℕ) → counted_up (counted_up n a) b ≡ counted_up n (a + b)
counted_up-more n a b = by (a == 0) (b == 0) (a + b == 0) refl refl refl
  where
    limit : ℕ
    limit = 2 ^ 64 - 1

    by : (p q r : Bool) → a == 0 ≡ p → b == 0 ≡ q → a + b == 0 ≡ r
        → (if b == 0 then (if a == 0 then n else min (n + a) (2 ^ 64 - 1)) else min ((if a == 0 then n else min (n + a) (2 ^ 64 - 1)) + b) (2 ^ 64 - 1)) ≡ (if a + b == 0 then n else min (n + (a + b)) (2 ^ 64 - 1))
    by p q r ep eq er = grind (arith, common_steps, nat_tests)

totals_up-more : (n : Totals) (a b c d : ℕ) → totals_up (totals_up n a c) b d ≡ totals_up n (a + b) (c + d)
totals_up-more n a b c d =
    ap (λ (x : ℕ). let t : Totals = record { left_out = x; lost_bits = counted_up (counted_up n.lost_bits c) d } in t) (counted_up-more n.left_out a b)
    ∙ ap (λ (x : ℕ). let t : Totals = record { left_out = counted_up n.left_out (a + b); lost_bits = x } in t) (counted_up-more n.lost_bits c d)

pub had_more : (a b c : Sight) (xs ys : List Outcome) → Had a b xs → Had b c ys → Had a c (xs ++ ys)
had_more a b c xs ys one two =
    let left : Outcome → Bool = λ o. is_some o.left_out in
    let lost : Outcome → Bool = λ o. o.lost in (
      subst (ReportsMore a.made c.made) (sym (flat_map-append (λ (o : Outcome). o.deeds) xs ys)) (ReportsMore-trans a.made b.made c.made (flat_map (λ o. o.deeds) xs) (flat_map (λ o. o.deeds) ys) one.0 two.0),
      two.1 ∙ ap (λ n. failures_after n ys) one.1 ∙ sym (failures-append a.failures xs ys),
      subst (Appends a.told c.told) (sym (flat_map-append outcome_line xs ys)) (Appends-trans a.told b.told c.told (all_lines xs) (all_lines ys) one.2 two.2),
      two.3 ∙ one.3,
      two.4
          ∙ ap (λ n. totals_up n (count_by left ys) (count_by lost ys)) one.4
          ∙ totals_up-more a.totals (count_by left xs) (count_by left ys) (count_by lost xs) (count_by lost ys)
          ∙ ap (λ n. totals_up a.totals n (count_by lost xs + count_by lost ys)) (sym (count-append left xs ys))
          ∙ ap (totals_up a.totals (count_by left (xs ++ ys))) (sym (count-append lost xs ys)),
    )

pub advances_more : (s : State) (owners : Bool) (f g h : FirstPaths) (x y z : List Task) (xs ys : List Outcome) → Advances s owners f x g y xs → Advances s owners g y h z ys
    → Advances s owners f x h z (xs ++ ys)
advances_more s owners f g h x y z xs ys one two = (
  λ rest are. subst (AreOutcomes s owners f x) (sym (append_assoc xs ys rest)) (one.0 (ys ++ rest) (two.0 rest are)),
  λ rest are. subst (AreFirstOutcomes s owners f x) (sym (append_assoc xs ys rest)) (one.1 (ys ++ rest) (two.1 rest are)),
)

-- a walk that has come so far
abbrev pub Reached : State → List Key → Bool → Walk → Sight → Sight → Type 0
Reached s part owners w old now =
    (outcomes : List Outcome) × (made : FirstPaths) × IsOnWay s made w × Had old now outcomes
    × Advances (part_along part s) owners root_alone (tasks_in (part_along part s) [] 1) made (extraction_todo part w) outcomes

pub reaches_on : (s : State) (part : List Key) (owners : Bool) (w n : Walk) (old now next : Sight) (far : Reached s part owners w old now) → Steps s part owners far.1 w n (now, next) (Ok true) → Reached s part owners n old next
reaches_on s part owners w n old now next far step = (
  far.0 ++ step.0,
  step.1,
  step.2,
  had_more old now next far.0 step.0 far.3 step.3,
  advances_more (part_along part s) owners root_alone far.1 step.1 (tasks_in (part_along part s) [] 1) (extraction_todo part w) (extraction_todo part n) far.0 step.0 far.4 step.4,
)

pub reaches_end : (s : State) (part : List Key) (owners : Bool) (w n : Walk) (old now next : Sight) (far : Reached s part owners w old now) → Steps s part owners far.1 w n (now, next) (Ok false)
    → (outcomes : List Outcome) × AreTreeOutcomes (part_along part s) owners outcomes × Had old next outcomes
reaches_end s part owners w n old now next far step =
    let all = far.0 ++ step.0 in
    let way = advances_more (part_along part s) owners root_alone far.1 step.1 (tasks_in (part_along part s) [] 1) (extraction_todo part w) [] far.0 step.0 far.4 step.3 in
    (all, subst (AreTreeOutcomes (part_along part s) owners) (append-nil all) (way.0 [] refl), had_more old now next far.0 step.0 far.3 step.2)

-- it stopped, after what was had
stopped_more : (s : State) (owners : Bool) (f h : FirstPaths) (x y : List Task) (xs : List Outcome) (old now next : Sight) → Had old now xs → Advances s owners f x h y xs
    → Stopped s owners h y now next → Stopped s owners f x old next
stopped_more s owners f h x y xs old now next had advances stop = (
  xs ++ stop.0,
  advances.1 stop.0 stop.1,
  subst (ReportsMore old.made next.made) (sym (flat_map-append (λ (o : Outcome). o.deeds) xs stop.0)) (ReportsMore-trans old.made now.made next.made (flat_map (λ o. o.deeds) xs) (flat_map (λ o. o.deeds) stop.0) had.0 stop.2),
  subst (PutsPart old.told next.told) (sym (flat_map-append outcome_line xs stop.0)) (part_behind old.told now.told next.told (all_lines xs) (all_lines stop.0) had.2 stop.3),
)

pub stops_later : (s : State) (owners : Bool) (f h : FirstPaths) (x y : List Task) (xs : List Outcome) (old now next : Sight) (why : ExtractFault) → Had old now xs
    → Advances s owners f x h y xs → StopsBy s owners h y now next why → StopsBy s owners f x old next why
stops_later s owners f h x y xs old now next why had advances = by why
  where
    full : now.failures.full ≡ old.failures.full
    full = ap (λ (n : Failures). n.full) had.1 ∙ failures-full old.failures xs

    by : (why : ExtractFault) → StopsBy s owners h y now next why → StopsBy s owners f x old next why
    by fault.Folder stop = stop
    by fault.Notes stop = (stopped_more s owners f h x y xs old now next had advances stop.0, stop.1 ∙ ap next_count had.3, stop.2 ∙ full)
    by fault.NoSpace stop = (stopped_more s owners f h x y xs old now next had advances stop.0, stop.1 ∙ had.3, stop.2 ∙ ap next_count full)
    by fault.OutOfMemory stop = (stopped_more s owners f h x y xs old now next had advances stop.0, stop.1 ∙ had.3, stop.2 ∙ full)

pub reaches_fault : (s : State) (part : List Key) (owners : Bool) (w : Walk) (old now next : Sight) (f : ExtractFault) (far : Reached s part owners w old now)
    → StopsBy (part_along part s) owners far.1 (extraction_todo part w) now next f → StopsBy (part_along part s) owners root_alone (tasks_in (part_along part s) [] 1) old next f
reaches_fault s part owners w old now next f far stop =
    stops_later (part_along part s) owners root_alone far.1 (tasks_in (part_along part s) [] 1) (extraction_todo part w) far.0 old now next f far.3 far.4 stop

-- ---- the folder was made, and then the tree in it

part_made : (s : State) (owners : Bool) (folder : FolderChange) (notes : SinkChange) (made : Option (List Made)) (outcomes : List Outcome) → ReportsMore folder.old made (root_made ∷ [])
    → AreFirstOutcomes s owners root_alone (tasks_in s [] 1) outcomes → ReportsMore made folder.new (flat_map (λ o. o.deeds) outcomes) → PutsPart notes.old notes.new (all_lines outcomes)
    → DoesPart s owners folder notes
part_made s owners folder notes made outcomes first are adds part = (
  outcomes,
  are,
  (length (all_made outcomes), subst (ReportsMore folder.old folder.new) (sym (take_whole (all_made outcomes))) (ReportsMore-trans folder.old made folder.new (root_made ∷ []) (flat_map (λ o. o.deeds) outcomes) first adds)),
  part,
)
  where
    take_whole : (xs : List Made) → take (length xs) xs ≡ xs
    take_whole xs = grind (arith, common_steps)

-- the folder was not made
pub not_made : (s : State) (owners : Bool) (folder : FolderChange) (told : Option (List ℕ)) (count : ℕ) → ReportsMore folder.old folder.new []
    → DoesPart s owners folder (record { old = told; new = told; before = count; now = count })
not_made s owners folder told count adds = ([], tt {0}, (0, adds), (0, Appends-nil told))

pub extracts : (s : State) (owners : Bool) (folder : FolderChange) (notes : SinkChange) (made : Option (List Made)) (mid : Failures) (r : Result Totals ExtractFault)
    → ReportsMore folder.old made (root_made ∷ []) → mid ≡ folder.before
    → Fills s owners (record { made = made; failures = mid; told = notes.old; told_failures = notes.before; totals = no_totals })
    (record { made = folder.new; failures = folder.now; told = notes.new; told_failures = notes.now; totals = no_totals }) r
    → Extracts s owners folder notes r
extracts s owners folder notes made mid (Ok n) first same fills =
    let outcomes = fills.0 in
    let had = fills.2 in (
      outcomes,
      fills.1,
      ReportsMore-trans folder.old made folder.new (root_made ∷ []) (flat_map (λ o. o.deeds) outcomes) first had.0,
      had.1 ∙ ap (λ k. failures_after k outcomes) same,
      had.2,
      had.3,
      had.4
          ∙ ap (λ (x : ℕ). let t : Totals = record { left_out = x; lost_bits = counted_up 0 (count_by (λ (o : Outcome). o.lost) outcomes) } in t) (from_zero (count_by (λ (o : Outcome). is_some o.left_out) outcomes))
          ∙ ap (λ (x : ℕ). let t : Totals = record { left_out = min (count_by (λ (o : Outcome). is_some o.left_out) outcomes) (2 ^ 64 - 1); lost_bits = x } in t) (from_zero (count_by (λ (o : Outcome). o.lost) outcomes)),
    )
  where
    from_zero : (k : ℕ) → counted_up 0 k ≡ min k (2 ^ 64 - 1)
    from_zero k = grind (arith, common_steps, nat_tests)
extracts s owners folder notes made mid (Err fault.Folder) first same fills = absurd fills
extracts s owners folder notes made mid (Err fault.Notes) first same fills =
    (part_made s owners folder notes made fills.0.0 first fills.0.1 fills.0.2 fills.0.3, fills.1, fills.2 ∙ ap (λ (f : Failures). f.full) same)
extracts s owners folder notes made mid (Err fault.NoSpace) first same fills =
    (part_made s owners folder notes made fills.0.0 first fills.0.1 fills.0.2 fills.0.3, fills.1, fills.2 ∙ ap (λ (f : Failures). next_count f.full) same)
extracts s owners folder notes made mid (Err fault.OutOfMemory) first same fills =
    (part_made s owners folder notes made fills.0.0 first fills.0.1 fills.0.2 fills.0.3, fills.1, fills.2 ∙ ap (λ (f : Failures). f.full) same)

-- ---- the walk from its start

pub fills_at_fault : (s : State) (owners : Bool) (old new : Sight) (f : ExtractFault) (r : Result Totals ExtractFault) → IsErrAnd r (λ e. e ≡ f)
    → StopsBy s owners root_alone (tasks_in s [] 1) old new f → Fills s owners old new r
fills_at_fault s owners old new f (Ok x) err stops = absurd err
fills_at_fault s owners old new f (Err e) err stops = subst (λ (x : ExtractFault). StopsBy s owners root_alone (tasks_in s [] 1) old new x) (sym err) stops

pub root_known : (empty first : BTreeMap ℕ (String Global)) (text : String Global) → ((q : ℕ) → get nat_cmp empty q ≡ None) → string_bytes text ≡ []
    → ((q : ℕ) → get nat_cmp first q ≡ cond (is_at (nat_cmp 1) q) (Some text) (get nat_cmp empty q)) → firsts_of first ≡ root_alone
root_known empty first text none blank updates = λ t j. one j t
  where
    is_one : (q : ℕ) → is_at (nat_cmp 1) q ≡ (1 == q)
    is_one q = grind (arith, nat_tests)

    by : (b : Bool) → option_map string_bytes (cond b (Some text) None) ≡ (if b then Some [] else None)
    by true = ap Some blank
    by false = refl

    one : (j : ℕ) → firsts_of first j ≡ root_alone j
    one j =
        ap (option_map string_bytes) (updates j ∙ ap (λ (o : Option (String Global)). cond (is_at (nat_cmp 1) j) (Some text) o) (none j))
        ∙ ap (λ (b : Bool). option_map string_bytes (cond b (Some text) None)) (is_one j)
        ∙ by (1 == j)

-- at its start the walk is on its way: the root alone was made, and is known
first_on_way : (s : State) (w : Walk) → w.ino ≡ 1 → w.left ≡ entries_in s 1 → w.above.items ≡ [] → firsts_of w.firsts ≡ root_alone → w.unread ≡ all_entries s → IsOnWay s root_alone w
first_on_way s w ino left above firsts unread =
    let dirs : (1, entries_in s 1) ∷ [] ≡ open_of w =
    ap (λ (d : ℕ). (d, entries_in s 1) ∷ []) (sym ino) ∙ ap (λ (l : List (List ℕ × ℕ)). (w.ino, l) ∷ []) (sym left) ∙ ap (λ (l : List Open). (w.ino, w.left) ∷ reverse l) (sym above) in
    let own : length w.left ≡ length (entries_in s 1) = ap (λ l. length l) left in
    let none : sum_by (λ (d : Open). length d.1) w.above.items ≡ 0 = ap (sum_by (λ d. length d.1)) above in
    let all : length w.unread ≡ length (all_entries s) = ap (λ l. length l) unread in
    let count = unmade_first s in
    record {
      knows = subst (Knows s root_alone (firsts_of w.firsts)) dirs
          (subst (λ (f : FirstPaths). Knows s root_alone f ((1, entries_in s 1) ∷ [])) (sym firsts) (knows_first s));
      enough = omega arith;
    }

pub reached_first : (s : State) (part : List Key) (owners : Bool) (w : Walk) (old : Sight) → w.path.items ≡ [] → w.ino ≡ 1 → w.left ≡ entries_in s 1 → w.above.items ≡ []
    → firsts_of w.firsts ≡ root_alone → w.unread ≡ all_entries s → Reached s part owners w old old
reached_first s part owners w old path ino left above firsts unread =
    let p = part_along part s in
    let todo : extraction_todo part w ≡ tasks_in p [] 1 =
    ap (λ (p : List (Bor (List ℕ))). tasks_up part ((w.ino, w.left) ∷ reverse w.above.items) (map (λ n. n.now) p)) path
    ∙ ap (λ (a : List (ℕ × List (List ℕ × ℕ))). tasks_up part ((w.ino, w.left) ∷ reverse a) []) above
    ∙ ap (λ (i : ℕ). tasks_up part ((i, w.left) ∷ []) []) ino
    ∙ ap (λ (l : List (List ℕ × ℕ)). tasks_up part ((1, l) ∷ []) []) left
    ∙ ap (λ (l : List (List ℕ × ℕ)). tasks_of [] l ++ Complete [] 1 ∷ []) (sym (entries_along part s 1)) in (
      [],
      root_alone,
      first_on_way s w ino left above firsts unread,
      had_none old,
      (
        λ rest are. subst (λ (t : List Task). AreOutcomes p owners root_alone t rest) todo are,
        λ rest are. subst (λ (t : List Task). AreFirstOutcomes p owners root_alone t rest) todo are,
      ),
    )

pub none_in : (empty : BTreeMap ℕ (String Global)) → empty.entries ≡ [] → (q : ℕ) → get nat_cmp empty q ≡ None
none_in empty none q = ap (λ (es : List (ℕ × String Global)). lookup (is_at (nat_cmp q)) es) none
