-- The walk through a tree that is extracted.
use Rattle.std.proofs.Common.{◌≡◌, ℕ, ◌+◌, ◌≤◌, ◌&&◌, ◌==◌, cond, Bool, true, false, List, [], ◌∷◌, length, append-nil, refl, sym, ap, ◌∙◌, subst, arith, inl, inr, ⊎_elim, Option, Some, None, Result, Ok, Err, if◌then◌else◌}
use Rattle.std.specs.Prelude.{is_some, is_none, count_by, option_map, IsErrAnd}
use Rattle.std.specs.Option.{option_or}
use Rattle.std.specs.Io.KnownBytes.{Appends}
use Rattle.std.proofs.KnownBytes.{Appends-nil}
use Rattle.std.proofs.lemmas.Bool.Decides.{nat_tests}
use Rattle.std.specs.FinMap.{FinMap, entries}
use Rattle.std.proofs.lemmas.List.{length-map}
use Rattle.std.proofs.lemmas.List.Sums.{sum_by-cons}
use Rattle.flashbase.specs.Device.{PutsPart}
use Rattle.flashbase.specs.Sinks.{SinkChange}
use Rattle.jmount.specs.Tree.{State, all_entries, ObjectOf, object, has_bits, directory_bits, entries_in, is_directory, type_bits}
use Rattle.jmount.specs.Shown.{kind_of, readable, shown}
use Rattle.jmount.specs.declared.object.Kind.{Kind}
use Rattle.jmount.specs.declared.object.Kind.TheVariants as kind
use Rattle.jmount.specs.declared.object.Object.{Object}
use Rattle.jextract.specs.Folders.{Failures, FolderChange, ReportsMore, refused_once}
use Rattle.jextract.specs.Making.{HasBegun, Works, FirstsAfter, count_after}
use Rattle.jextract.specs.Outcomes.{root_alone, Task, Make, Complete, path_of_task, Outcome, FirstPaths, Plan, FollowsPlan, IsOutcomeOf, attributes_of, is_directory_kind, is_refusal, plan_of, plan_made, lost_made, tasks_after, todo_if, firsts_after, firsts_if, firsts_with, line_if_left_out, outcome_line}
use Rattle.jextract.specs.Paths.{host_path}
use Rattle.jname.specs.Live.{key_cmp}
use Rattle.jextract.specs.Parts.{with_names}
use Rattle.jextract.specs.Walking.{Settles, NotesVisit, VisitsKnown, Advances, Sight, Had, Stopped, StopsBy, Visits, Completes, todo_then, totals_up, unmade}
use Rattle.jextract.specs.declared.fault.ExtractFault.{ExtractFault}
use Rattle.jextract.specs.declared.fault.ExtractFault.TheVariants as fault
use Rattle.jextract.specs.declared.making.MakeFault.{MakeFault}
use Rattle.jextract.specs.declared.making.MakeFault.TheVariants as make
use Rattle.jextract.specs.declared.reason.Reason.{Reason}
use Rattle.jextract.specs.declared.totals.Totals.{Totals}
use Rattle.jextract.proofs.MakingLemmas.{ReportsMore-nil}
use Rattle.flashbase.proofs.ListLemmas.{count_apart, count_fewer}
use Rattle.jmount.proofs.DirectoryNameLemmas.{length_entries}

-- what a part of a walk does to the folder, and to the notes
abbrev pub folder_change : Sight → Sight → FolderChange
folder_change old new = record { old = old.made; new = new.made; before = old.failures; now = new.failures }

abbrev pub notes_change : Sight → Sight → SinkChange
notes_change old new = record { old = old.told; new = new.told; before = old.told_failures; now = new.told_failures }

-- ---- one outcome

pub one_advances : (s : State) (owners : Bool) (firsts : FirstPaths) (task : Task) (o : Outcome) (todo : List Task) → IsOutcomeOf s owners firsts task o
    → Advances s owners firsts (task ∷ todo) (firsts_after firsts task o) (tasks_after s task o todo) (o ∷ [])
one_advances s owners firsts task o todo is = (λ rest are. (is, are), λ rest are. (is, are))

count_one : (test : Outcome → Bool) (o : Outcome) → count_by test (o ∷ []) ≡ cond (test o) 1 0
count_one test o = omega (arith, sum_by-cons (λ (x : Outcome). cond (test x) 1 0) o [])

had_one : (old new : Sight) (o : Outcome) (path : List (List ℕ)) (why : Option Reason) (lost : Bool) → o.left_out ≡ why → o.path ≡ path → o.lost ≡ lost → ReportsMore old.made new.made o.deeds
    → new.failures ≡ count_after old.failures why → Appends old.told new.told (line_if_left_out path why) → new.told_failures ≡ old.told_failures
    → new.totals ≡ totals_up old.totals (cond (is_some why) 1 0) (cond lost 1 0) → Had old new (o ∷ [])
had_one old new o path why lost left at loses adds failures told same count = (
  subst (ReportsMore old.made new.made) (sym (append-nil o.deeds)) adds,
  failures ∙ ap (count_after old.failures) (sym left),
  subst (Appends old.told new.told)
      (ap (λ (p : List (List ℕ)). line_if_left_out p why) (sym at) ∙ ap (line_if_left_out o.path) (sym left) ∙ sym (append-nil (outcome_line o))) told,
  same,
  count
      ∙ ap (λ (w : Option Reason). totals_up old.totals (cond (is_some w) 1 0) (cond lost 1 0)) (sym left)
      ∙ ap (λ (b : Bool). totals_up old.totals (cond (is_some o.left_out) 1 0) (cond b 1 0)) (sym loses)
      ∙ ap (λ (n : ℕ). totals_up old.totals n (cond o.lost 1 0)) (sym (count_one (λ x. is_some x.left_out) o))
      ∙ ap (totals_up old.totals (count_by (λ (x : Outcome). is_some x.left_out) (o ∷ []))) (sym (count_one (λ x. x.lost) o)),
)

-- a task that was settled
abbrev pub Settled : State → Bool → FirstPaths → Task → Sight → Sight → Bool → Option Reason → Type 0
Settled s owners firsts task old new done why =
    (o : Outcome) × IsOutcomeOf s owners firsts task o × Had old new (o ∷ []) × (o.left_out ≡ why) × (done ≡ is_none why)

abbrev pub left_of : Result Bool MakeFault → Option Reason
left_of (Ok x) = None
left_of (Err (make.LeftOut why)) = Some why
left_of (Err make.NoSpace) = None
left_of (Err make.OutOfMemory) = None

pub settled : (s : State) (owners : Bool) (firsts : FirstPaths) (task : Task) (old new : Sight) (r : Result Bool MakeFault) (done : Bool)
    → Works s owners firsts task (folder_change old new) r
    → Settles r (path_of_task task) (notes_change old new) old.totals new.totals (Ok done) → Settled s owners firsts task old new done (left_of r)
settled s owners firsts task old new (Ok lost) done works tells =
    (works.0, works.1, had_one old new works.0 (path_of_task task) None lost works.2 works.1.0 works.5 works.3 works.4 tells.1 tells.2 tells.3, works.2, tells.0)
settled s owners firsts task old new (Err (make.LeftOut why)) done works tells =
    (works.0, works.1, had_one old new works.0 (path_of_task task) (Some why) false works.2 works.1.0 works.5 works.3 works.4 tells.1 tells.2 tells.3, works.2, tells.0)
settled s owners firsts task old new (Err make.NoSpace) done works tells = absurd tells
settled s owners firsts task old new (Err make.OutOfMemory) done works tells = absurd tells

-- a task at which the walk stops
stops_told : (s : State) (owners : Bool) (firsts : FirstPaths) (task : Task) (todo : List Task) (old new : Sight) (o : Outcome) (why : Reason) → IsOutcomeOf s owners firsts task o
    → o.left_out ≡ Some why → ReportsMore old.made new.made o.deeds → PutsPart old.told new.told (line_if_left_out (path_of_task task) (Some why)) → Stopped s owners firsts (task ∷ todo) old new
stops_told s owners firsts task todo old new o why is left adds part = (
  o ∷ [],
  (is, tt {0}),
  subst (ReportsMore old.made new.made) (sym (append-nil o.deeds)) adds,
  subst (PutsPart old.told new.told)
      (ap (λ (p : List (List ℕ)). line_if_left_out p (Some why)) (sym is.0) ∙ ap (line_if_left_out o.path) (sym left) ∙ sym (append-nil (outcome_line o))) part,
)

-- what is left out is no want of room
full_unchanged : (before now : Failures) (why : Option Reason) → now ≡ count_after before why → now.full ≡ before.full
full_unchanged before now why is = ap (λ (f : Failures). f.full) is ∙ by (is_refusal why)
  where
    by : (b : Bool) → (if b then refused_once before else before).full ≡ before.full
    by true = refl
    by false = refl

-- a task that was begun, and stopped at its fault
stops_begun : (s : State) (owners : Bool) (firsts : FirstPaths) (task : Task) (todo : List Task) (old new : Sight) → HasBegun s owners firsts task old.made new.made
    → Appends old.told new.told [] → Stopped s owners firsts (task ∷ todo) old new
stops_begun s owners firsts task todo old new (inl adds) told = ([], tt {0}, adds, (0, told))
stops_begun s owners firsts task todo old new (inr begun) told =
    (begun.0 ∷ [], (begun.1, tt {0}), subst (ReportsMore old.made new.made) (sym (append-nil begun.0.deeds)) begun.2, (0, told))

pub stops : (s : State) (owners : Bool) (firsts : FirstPaths) (task : Task) (todo : List Task) (old new : Sight) (r : Result Bool MakeFault) (f : ExtractFault)
    → Works s owners firsts task (folder_change old new) r
    → Settles r (path_of_task task) (notes_change old new) old.totals new.totals (Err f) → StopsBy s owners firsts (task ∷ todo) old new f
stops s owners firsts task todo old new (Ok x) fault.Folder works tells = absurd tells
stops s owners firsts task todo old new (Ok x) fault.Notes works tells = absurd tells
stops s owners firsts task todo old new (Ok x) fault.NoSpace works tells = absurd tells
stops s owners firsts task todo old new (Ok x) fault.OutOfMemory works tells = absurd tells
stops s owners firsts task todo old new (Err (make.LeftOut why)) fault.Folder works tells = absurd tells
stops s owners firsts task todo old new (Err (make.LeftOut why)) fault.Notes works tells =
    (stops_told s owners firsts task todo old new works.0 why works.1 works.2 works.3 tells.0, tells.1, full_unchanged old.failures new.failures (Some why) works.4)
stops s owners firsts task todo old new (Err (make.LeftOut why)) fault.NoSpace works tells = absurd tells
stops s owners firsts task todo old new (Err (make.LeftOut why)) fault.OutOfMemory works tells = absurd tells
stops s owners firsts task todo old new (Err make.NoSpace) fault.Folder works tells = absurd tells
stops s owners firsts task todo old new (Err make.NoSpace) fault.Notes works tells = absurd tells
stops s owners firsts task todo old new (Err make.NoSpace) fault.NoSpace works tells =
    (stops_begun s owners firsts task todo old new works.0 tells.0, tells.1, ap (λ (x : Failures). x.full) works.1)
stops s owners firsts task todo old new (Err make.NoSpace) fault.OutOfMemory works tells = absurd tells
stops s owners firsts task todo old new (Err make.OutOfMemory) fault.Folder works tells = absurd tells
stops s owners firsts task todo old new (Err make.OutOfMemory) fault.Notes works tells = absurd tells
stops s owners firsts task todo old new (Err make.OutOfMemory) fault.NoSpace works tells = absurd tells
stops s owners firsts task todo old new (Err make.OutOfMemory) fault.OutOfMemory works tells =
    (stops_begun s owners firsts task todo old new works.0 tells.0, tells.1, ap (λ (x : Failures). x.full) works.1)

-- ---- a directory that is completed

pub completes : (s : State) (owners : Bool) (path : List (List ℕ)) (i : ℕ) (old new : Sight) (r : Result Bool MakeFault) (t : Result Bool ExtractFault)
    → Works s owners (λ j. None) (Complete path i) (folder_change old new) r
    → Settles r path (notes_change old new) old.totals new.totals t → Completes s owners path i old new t
completes s owners path i old new r (Ok done) works tells =
    let by = settled s owners (λ j. None) (Complete path i) old new r done works tells in
    (by.0 ∷ [], by.2, λ firsts todo. one_advances s owners firsts (Complete path i) by.0 todo by.1)
completes s owners path i old new r (Err f) works tells = λ firsts todo. stops s owners firsts (Complete path i) todo old new r f (anywhere firsts r works) tells
  where
    anywhere : (firsts : FirstPaths) (x : Result Bool MakeFault) → Works s owners (λ j. None) (Complete path i) (folder_change old new) x
        → Works s owners firsts (Complete path i) (folder_change old new) x
    anywhere firsts (Ok y) works = works
    anywhere firsts (Err (make.LeftOut why)) works = works
    anywhere firsts (Err make.NoSpace) works = works
    anywhere firsts (Err make.OutOfMemory) works = works

-- ---- the names whose directory was not made

-- a directory that is made for the first time takes its names along
unmade_entered : (s : State) (firsts : FirstPaths) (text : List ℕ) (i : ℕ) → firsts i ≡ None
    → unmade s (firsts_with firsts (Ok text) i) + length (entries_in s i) ≡ unmade s firsts
unmade_entered s firsts text i new =
    ap (λ n. unmade s (firsts_with firsts (Ok text) i) + n) (length_entries s i)
    ∙ count_apart (λ e. is_none (firsts_with firsts (Ok text) i e.0.0)) (λ e. e.0.0 == i) (λ e. is_none (firsts e.0.0)) (λ e. one (firsts e.0.0) (i == e.0.0) (e.0.0 == i) (flip i e.0.0) (same e.0.0)) (entries s.names)
  where
    flip : (a b : ℕ) → (a == b) ≡ (b == a)
    flip a b = grind (arith, nat_tests)

    same : (d : ℕ) → d == i ≡ true → firsts d ≡ None
    same d is = ap firsts (grind (arith, nat_tests)) ∙ new

    one : (there : Option (List ℕ)) (at from : Bool) → at ≡ from → (from ≡ true → there ≡ None)
        → cond (is_none (option_or there (if at then Some text else None))) 1 0 + cond from 1 0 ≡ cond (is_none there) 1 0
    one None true true e gone = refl
    one None true false e gone = absurd (cc)
    one None false true e gone = absurd (cc)
    one None false false e gone = refl
    one (Some x) at true e gone = let none = gone refl in absurd (cc)
    one (Some x) at false e gone = refl

count_all : {X : Type 0} (xs : List X) → count_by (λ x. true) xs ≡ length xs
count_all [] = refl
count_all {X = X} (x ∷ xs) = let more = count_all xs in omega (arith, sum_by-cons (λ (y : X). cond true 1 0) x xs)

-- at the start the names of the root alone are to be read, and all others are still to come
pub unmade_first : (s : State) → unmade s root_alone + length (entries_in s 1) ≤ length (all_entries s)
unmade_first s =
    let nothing : FirstPaths = λ i. None in
    let entered : unmade s root_alone + length (entries_in s 1) ≡ unmade s nothing = unmade_entered s nothing [] 1 refl in
    let all : unmade s nothing ≡ length (entries s.names) = count_all (entries s.names) in
    let same : length (all_entries s) ≡ length (entries s.names) = length-map (entries s.names) (λ e. (e.0.0, e.0.1, e.1)) in
    omega arith

unmade_after : (s : State) (firsts : FirstPaths) (path : Result (List ℕ) Reason) (i : ℕ) → unmade s (firsts_with firsts path i) ≤ unmade s firsts
unmade_after s firsts (Err why) i = omega arith
unmade_after s firsts (Ok text) i =
    count_fewer (λ e. is_none (firsts_with firsts (Ok text) i e.0.0)) (λ e. is_none (firsts e.0.0)) (λ e. one (firsts e.0.0) (i == e.0.0)) (entries s.names)
  where
    one : (there : Option (List ℕ)) (at : Bool) → cond (is_none (option_or there (if at then Some text else None))) 1 0 ≤ cond (is_none there) 1 0
    one None true = omega arith
    one None false = omega arith
    one (Some x) at = omega arith

-- ---- an object that is visited

-- a directory that was made was not made before
made_is_new : (known : Option (List ℕ)) (path : Result (List ℕ) Reason) (bytes : List ℕ) (o : Outcome) (object : Object) (owners : Bool)
    → FollowsPlan path (plan_of known kind.Directory bytes (attributes_of owners object)) o → o.left_out ≡ None → (known ≡ None) × ((text : List ℕ) × (path ≡ Ok text))
made_is_new None (Ok text) bytes o object owners follows left = (refl, (text, refl))
made_is_new None (Err why) bytes o object owners follows left = let other = follows.1 in absurd (cc)
made_is_new (Some first) (Ok text) bytes o object owners follows left = let other = follows.1 in absurd (cc)
made_is_new (Some first) (Err why) bytes o object owners follows left = let other = follows.1 in absurd (cc)

-- the kind of an object, and whether it is there
kind_is : (bits : ℕ) → (bits == 4) ≡ is_directory_kind (kind_of bits)
kind_is bits = by (bits == 4) refl
  where
    other : (a b c d e f : Bool)
        → is_directory_kind (if a then kind.Fifo else if b then kind.CharacterDevice else if false then kind.Directory else if c then kind.BlockDevice else if d then kind.Regular else if e then kind.Symlink else if f then kind.Socket else kind.Other) ≡ false
    other true b c d e f = refl
    other false true c d e f = refl
    other false false true d e f = refl
    other false false false true e f = refl
    other false false false false true f = refl
    other false false false false false true = refl
    other false false false false false false = refl

    by : (b : Bool) → bits == 4 ≡ b → (bits == 4) ≡ is_directory_kind (kind_of bits)
    by true is = let four : bits ≡ 4 = grind (arith, nat_tests) in is ∙ ap (λ n. is_directory_kind (kind_of n)) (sym four)
    by false is =
        is
        ∙ sym (other (bits == 1) (bits == 2) (bits == 6) (bits == 8) (bits == 10) (bits == 12))
        ∙ ap (λ (x : Bool). is_directory_kind (if bits == 1 then kind.Fifo else if bits == 2 then kind.CharacterDevice else if x then kind.Directory else if bits == 6 then kind.BlockDevice else if bits == 8 then kind.Regular else if bits == 10 then kind.Symlink else if bits == 12 then kind.Socket else kind.Other)) (sym is)

pub directory_is : (x : Option (ObjectOf (List ℕ))) (o : Object) → option_map shown x ≡ Some o → has_bits directory_bits x ≡ is_directory_kind o.kind
directory_is None o is = absurd (cc)
directory_is (Some x) o is = let same : shown x ≡ o = cc in kind_is _ ∙ ap (λ (y : Object). is_directory_kind y.kind) same

pub kind_directory : (k : Kind) → is_directory_kind k ≡ true → k ≡ kind.Directory
kind_directory kind.Directory is = refl
kind_directory kind.Fifo is = absurd (cc)
kind_directory kind.CharacterDevice is = absurd (cc)
kind_directory kind.BlockDevice is = absurd (cc)
kind_directory kind.Regular is = absurd (cc)
kind_directory kind.Symlink is = absurd (cc)
kind_directory kind.Socket is = absurd (cc)
kind_directory kind.Other is = absurd (cc)

-- a directory is there
directory_there : (x : Option (ObjectOf (List ℕ))) → has_bits directory_bits x ≡ true → (o : Object) × (option_map shown x ≡ Some o) × (o.kind ≡ kind.Directory)
directory_there None is = absurd (cc)
directory_there (Some x) is = (shown x, refl, kind_directory (shown x).kind (sym (kind_is (type_bits x.mode)) ∙ is))

no_more : (n : Totals) → n ≡ totals_up n 0 0
no_more n = refl

pub had_none : (old : Sight) → Had old old []
had_none old = (ReportsMore-nil old.made, refl, Appends-nil old.told, refl, no_more old.totals)

-- the same way, told with equal words
advances_as : (s : State) (owners : Bool) (firsts : FirstPaths) (todo other : List Task) (then_ then_other : FirstPaths) (todo_ todo_other : List Task) (outcomes : List Outcome)
    → todo ≡ other → then_ ≡ then_other → todo_ ≡ todo_other → Advances s owners firsts todo then_ todo_ outcomes → Advances s owners firsts other then_other todo_other outcomes
advances_as s owners firsts todo other then_ then_other todo_ todo_other outcomes a b c advances =
    subst (λ (t : List Task). Advances s owners firsts t then_other todo_other outcomes) a
    (subst (λ (f : FirstPaths). Advances s owners firsts todo f todo_other outcomes) b
    (subst (λ (t : List Task). Advances s owners firsts todo then_ t outcomes) c advances))

-- what was made after an object was made, or was not
abbrev pub made_after : FirstPaths → List (List ℕ) → ℕ → Result Bool MakeFault → FirstPaths
made_after made path i (Ok x) = firsts_if made path i None
made_after made path i (Err f) = made

pub visit_made : (s : State) (owners : Bool) (firsts firsts_then : FirstPaths) (path : List (List ℕ)) (i : ℕ) (old new : Sight) (r : Result Bool MakeFault) (done : Bool)
    → Works s owners firsts (Make path i) (folder_change old new) r → firsts_then ≡ made_after firsts path i r
    → Settles r path (notes_change old new) old.totals new.totals (Ok done)
    → Visits s owners firsts firsts_then (Make path i) old new (Ok (done && is_directory s i))
visit_made s owners firsts firsts_then path i old new (Err make.NoSpace) done works after tells = absurd tells
visit_made s owners firsts firsts_then path i old new (Err make.OutOfMemory) done works after tells = absurd tells
visit_made s owners firsts firsts_then path i old new (Err (make.LeftOut why)) done works after tells =
    let by = settled s owners firsts (Make path i) old new (Err (make.LeftOut why)) done works tells in
    let entered : done && is_directory s i ≡ false = ap (λ (b : Bool). b && is_directory s i) by.4 in
    let fewer : unmade s firsts_then ≡ unmade s firsts = ap (unmade s) after in (
      by.0 ∷ [],
      by.2,
      λ todo. advances_as s owners firsts (Make path i ∷ todo) (Make path i ∷ todo) (firsts_if firsts path i by.0.left_out) firsts_then (todo_if s path i by.0.left_out todo)
          (todo_then s (Make path i) (done && is_directory s i) todo) (by.0 ∷ []) refl (ap (firsts_if firsts path i) by.3 ∙ sym after)
          (ap (λ (w : Option Reason). todo_if s path i w todo) by.3 ∙ ap (λ (b : Bool). todo_then s (Make path i) b todo) (sym entered))
          (one_advances s owners firsts (Make path i) by.0 todo by.1),
      subst (λ (b : Bool). unmade s firsts_then + (if b then length (entries_in s i) else 0) ≤ unmade s firsts) (sym entered) (omega arith),
    )
visit_made s owners firsts firsts_then path i old new (Ok x) done works after tells =
    let by = settled s owners firsts (Make path i) old new (Ok x) done works tells in
    let entered : done && is_directory s i ≡ is_directory s i = ap (λ (b : Bool). b && is_directory s i) by.4 in (
      by.0 ∷ [],
      by.2,
      λ todo. advances_as s owners firsts (Make path i ∷ todo) (Make path i ∷ todo) (firsts_if firsts path i by.0.left_out) firsts_then (todo_if s path i by.0.left_out todo)
          (todo_then s (Make path i) (done && is_directory s i) todo) (by.0 ∷ []) refl (ap (firsts_if firsts path i) by.3 ∙ sym after)
          (ap (λ (w : Option Reason). todo_if s path i w todo) by.3 ∙ ap (λ (b : Bool). todo_then s (Make path i) b todo) (sym entered))
          (one_advances s owners firsts (Make path i) by.0 todo by.1),
      subst (λ (b : Bool). unmade s firsts_then + (if b then length (entries_in s i) else 0) ≤ unmade s firsts) (sym entered)
          (subst (λ (f : FirstPaths). unmade s f + (if is_directory s i then length (entries_in s i) else 0) ≤ unmade s firsts) (sym after) (fewer by.0 by.1 by.3 (is_directory s i) refl)),
    )
  where
    fewer : (u : Outcome) → IsOutcomeOf s owners firsts (Make path i) u → u.left_out ≡ None → (b : Bool) → is_directory s i ≡ b
        → unmade s (firsts_with firsts (host_path path) i) + (if b then length (entries_in s i) else 0) ≤ unmade s firsts
    fewer u is left false other = omega (arith, unmade_after s firsts (host_path path) i)
    fewer u is left true dir =
        let there = directory_there (object s i) dir in
        let o = there.0 in
        let plan : plan_made s owners firsts i (option_map shown (object s i)) ≡ plan_of (firsts i) kind.Directory (readable s i) (attributes_of owners o) =
        ap (plan_made s owners firsts i) there.1 ∙ ap (λ (k : Kind). plan_of (firsts i) k (readable s i) (attributes_of owners o)) there.2 in
        let is_new = made_is_new (firsts i) (host_path path) (readable s i) u o owners (subst (λ (p : Plan). FollowsPlan (host_path path) p u) plan is.1) left in
        let count = unmade_entered s firsts is_new.1.0 i is_new.0 in
        subst (λ (p : Result (List ℕ) Reason). unmade s (firsts_with firsts p i) + length (entries_in s i) ≤ unmade s firsts) (sym is_new.1.1) (omega (arith, count))

-- ---- what is known of an object is enough

plan_as : (s : State) (owners : Bool) (known made : FirstPaths) (i : ℕ) (x : Option Object) → known i ≡ made i → plan_made s owners known i x ≡ plan_made s owners made i x
plan_as s owners known made i None same = refl
plan_as s owners known made i (Some o) same = ap (λ (first : Option (List ℕ)). plan_of first o.kind (readable s i) (attributes_of owners o)) same

outcome_as : (s : State) (owners : Bool) (known made : FirstPaths) (path : List (List ℕ)) (i : ℕ) (o : Outcome) → known i ≡ made i → IsOutcomeOf s owners known (Make path i) o → IsOutcomeOf s owners made (Make path i) o
outcome_as s owners known made path i o same is = (
  is.0,
  subst (λ (p : Plan). FollowsPlan (host_path path) p o) (plan_as s owners known made i (option_map shown (object s i)) same) is.1,
  is.2 ∙ ap (λ (first : Option (List ℕ)). is_none o.left_out && lost_made owners first (option_map shown (object s i))) same,
)

begun_as : (s : State) (owners : Bool) (known made : FirstPaths) (path : List (List ℕ)) (i : ℕ) (old new : Sight) → known i ≡ made i → HasBegun s owners known (Make path i) old.made new.made
    → HasBegun s owners made (Make path i) old.made new.made
begun_as s owners known made path i old new same (inl none) = inl none
begun_as s owners known made path i old new same (inr begun) = inr (begun.0, outcome_as s owners known made path i begun.0 same begun.1, begun.2)

pub works_as : (s : State) (owners : Bool) (known made : FirstPaths) (path : List (List ℕ)) (i : ℕ) (old new : Sight) (r : Result Bool MakeFault) → known i ≡ made i
    → Works s owners known (Make path i) (folder_change old new) r → Works s owners made (Make path i) (folder_change old new) r
works_as s owners known made path i old new (Ok lost) same works = (works.0, outcome_as s owners known made path i works.0 same works.1, works.2, works.3, works.4, works.5)
works_as s owners known made path i old new (Err (make.LeftOut why)) same works = (works.0, outcome_as s owners known made path i works.0 same works.1, works.2, works.3, works.4, works.5)
works_as s owners known made path i old new (Err make.NoSpace) same works = (begun_as s owners known made path i old new same works.0, works.1)
works_as s owners known made path i old new (Err make.OutOfMemory) same works = (begun_as s owners known made path i old new same works.0, works.1)

-- ---- what is remembered of it

path_of_done : (path : Result (List ℕ) Reason) (plan : Plan) (o : Outcome) → FollowsPlan path plan o → o.left_out ≡ None → (text : List ℕ) × (path ≡ Ok text)
path_of_done (Ok text) plan o follows left = (text, refl)
path_of_done (Err why) plan o follows left = let other = follows.1 in absurd (cc)

new_directory : (s : State) (owners : Bool) (made : FirstPaths) (path : List (List ℕ)) (i : ℕ) (o : Outcome) → IsOutcomeOf s owners made (Make path i) o → o.left_out ≡ None → is_directory s i ≡ true → made i ≡ None
new_directory s owners made path i o is left dir =
    let there = directory_there (object s i) dir in
    let plan : plan_made s owners made i (option_map shown (object s i)) ≡ plan_of (made i) kind.Directory (readable s i) (attributes_of owners there.0) =
    ap (plan_made s owners made i) there.1 ∙ ap (λ (k : Kind). plan_of (made i) k (readable s i) (attributes_of owners there.0)) there.2 in
    (made_is_new (made i) (host_path path) (readable s i) o there.0 owners (subst (λ (p : Plan). FollowsPlan (host_path path) p o) plan is.1) left).0

pub remembers : (s : State) (owners : Bool) (made known known_then : FirstPaths) (path : List (List ℕ)) (i : ℕ) (old new : Sight) (r : Result Bool MakeFault) (done : Bool)
    → Works s owners made (Make path i) (folder_change old new) r → FirstsAfter s known known_then path i r
    → Settles r path (notes_change old new) old.totals new.totals (Ok done) → NotesVisit s made (made_after made path i r) (known, known_then) i (done && is_directory s i)
remembers s owners made known known_then path i old new (Err make.NoSpace) done works after tells = absurd tells
remembers s owners made known known_then path i old new (Err make.OutOfMemory) done works after tells = absurd tells
remembers s owners made known known_then path i old new (Err (make.LeftOut why)) done works after tells = inl (ap (λ (b : Bool). b && is_directory s i) tells.0, refl, after)
remembers s owners made known known_then path i old new (Ok x) done works after tells =
    let text = path_of_done (host_path path) (plan_made s owners made i (option_map shown (object s i))) works.0 works.1.1 works.2 in
    let entered : done && is_directory s i ≡ is_directory s i = ap (λ (b : Bool). b && is_directory s i) tells.0 in
    inr (
      text.0,
      ap (λ (p : Result (List ℕ) Reason). firsts_with made p i) text.1,
      λ is. new_directory s owners made path i works.0 works.1 works.2 (sym entered ∙ is),
      ⊎_elim (λ (added : known_then ≡ firsts_if known path i None). inl (added ∙ ap (λ (p : Result (List ℕ) Reason). firsts_with known p i) text.1)) (λ one. inr one) after,
    )

-- ---- an object that is visited, of a part of a tree

pub visit_known : (s : State) (names : FinMap key_cmp ℕ) (owners : Bool) (made known known_then : FirstPaths) (path : List (List ℕ)) (i : ℕ) (old new : Sight) (r : Result Bool MakeFault) (done : Bool)
    → known i ≡ made i → Works s owners known (Make path i) (folder_change old new) r → FirstsAfter s known known_then path i r
    → Settles r path (notes_change old new) old.totals new.totals (Ok done)
    → VisitsKnown s (with_names s names) owners made (known, known_then) (Make path i) (old, new) (Ok (done && is_directory s i))
visit_known s names owners made known known_then path i old new r done same works after tells =
    let so = works_as s owners known made path i old new r same works in (
      made_after made path i r,
      visit_made (with_names s names) owners made (made_after made path i r) path i old new r done so refl tells,
      (visit_made s owners made (made_after made path i r) path i old new r done so refl tells).3,
      remembers s owners made known known_then path i old new r done so after tells,
    )

pub known_at_fault : (s p : State) (owners : Bool) (made known known_then : FirstPaths) (path : List (List ℕ)) (i : ℕ) (old new : Sight) (f : ExtractFault) (r : Result Bool ExtractFault)
    → IsErrAnd r (λ e. e ≡ f) → Visits p owners made made (Make path i) old new (Err f) → VisitsKnown s p owners made (known, known_then) (Make path i) (old, new) r
known_at_fault s p owners made known known_then path i old new f (Ok x) err visits = absurd err
known_at_fault s p owners made known known_then path i old new f (Err e) err visits =
    subst (λ (x : ExtractFault). Visits p owners made made (Make path i) old new (Err x)) (sym err) visits
