-- Making one object: what a call of the folder does of a plan.
use Rattle.std.proofs.Common.{◌≡◌, ℕ, ◌<◌, ◌≤◌, ◌&&◌, Bool, true, false, not, ◌==◌, nat_lt, nat_le, List, [], ◌∷◌, length, take, append-nil, refl, sym, ap, ◌∙◌, subst, arith, inl, inr, ◌⊎◌, ⊎_elim, Option, Some, None, Result, Ok, Err, Bor, if◌then◌else◌}
use Rattle.std.specs.Prelude.{IfOk, IsErrAnd, IsUtf8}
use Rattle.std.specs.List.{list_all}
use Rattle.std.specs.Str.{is_utf8}
use Rattle.std.specs.Prelude.{String, string_bytes, option_map, option_copied}
use Rattle.std.specs.Ordering.{nat_cmp}
use Rattle.std.specs.BTreeMap.{BTreeMap, get}
use Rattle.std.specs.declared.alloc.Global.{Global}
use Rattle.std.specs.Option.{option_or}
use Rattle.std.proofs.lemmas.Grind.{common_steps}
use Rattle.std.proofs.lemmas.Bool.Decides.{nat_tests}
use Rattle.std.proofs.lemmas.Str.{is_utf8-from_IsUtf8}
use Rattle.jmount.specs.Find.{is_name}
use Rattle.jmount.specs.Tree.{State, object}
use Rattle.jmount.specs.Shown.{readable, shown}
use Rattle.jmount.specs.declared.object.Object.{Object}
use Rattle.jmount.specs.declared.object.Kind.{Kind}
use Rattle.jmount.specs.declared.object.Kind.TheVariants as k
use Rattle.jextract.specs.Folders.{AddsOne, Failures, FolderChange, refused_once, Made, Deed, Link, Symlink, ReportsMore, Counts}
use Rattle.jextract.specs.Making.{Does, DoesSome, Follows, HasBegun, IsPathOf, FirstsAfter, NotesFirst, Works, fault_of, firsts_of}
use Rattle.jextract.specs.Outcomes.{Plan, Do, LeaveOut, Task, Make, path_of_task, Outcome, FirstPaths, FollowsPlan, firsts_if, firsts_with, made_at, is_refusal, is_directory_kind, is_target, loses_bits, lost_at, lost_made, plan_again, plan_anew, plan_at, plan_made, plan_of, plan_symlink, attributes_of}
use Rattle.jextract.specs.Paths.{greatest_path, host_path, relative_path, text_if}
use Rattle.jextract.specs.declared.folder.Attributes.{Attributes}
use Rattle.jextract.specs.declared.folder.FolderFault.{FolderFault}
use Rattle.jextract.specs.declared.folder.FolderFault.TheVariants.{Refused, NoSpace, OutOfMemory}
use Rattle.jextract.specs.declared.making.MakeFault.{MakeFault}
use Rattle.jextract.specs.declared.making.MakeFault.TheVariants as make
use Rattle.jextract.specs.declared.reason.Reason.{Reason}
use Rattle.jextract.specs.declared.reason.Reason.TheVariants as reason

-- at a fault nothing is done
pub adds_none : (S : Type 0) (old new : Option (List Made)) (made : Made) (e : FolderFault) → AddsOne {T = S} old new made (Err e) → ReportsMore old new []
adds_none S old new made Refused adds = adds
adds_none S old new made NoSpace adds = adds
adds_none S old new made OutOfMemory adds = adds

-- the deeds of a plan were not all done
pub does_fail : (S : Type 0) {T : Type 0} (change : FolderChange) (path : List ℕ) (plan : Plan) (deeds : List Deed) (e : FolderFault) (r : Result T MakeFault)
    → plan ≡ Do deeds → Does {T = S} change (made_at path deeds) (Err e) → IsErrAnd r (λ x. x ≡ fault_of e) → Follows change path plan r
does_fail S change path plan deeds e (Ok x) is does err = absurd err
does_fail S {T} change path plan deeds Refused (Err f) is does err =
    subst (λ (y : MakeFault). Follows {T = T} change path plan (Err y)) (sym err) (inr (deeds, is, does.0, does.1, refl))
does_fail S {T} change path plan deeds NoSpace (Err f) is does err =
    subst (λ (y : MakeFault). Follows {T = T} change path plan (Err y)) (sym err) (deeds, is, does.0, does.1)
does_fail S {T} change path plan deeds OutOfMemory (Err f) is does err =
    subst (λ (y : MakeFault). Follows {T = T} change path plan (Err y)) (sym err) (deeds, is, does.0, does.1)

-- the one deed of a plan was not done
pub one_fails : (S : Type 0) {T : Type 0} (change : FolderChange) (path : List ℕ) (plan : Plan) (deed : Deed) (e : FolderFault) (r : Result T MakeFault)
    → plan ≡ Do (deed ∷ []) → AddsOne {T = S} change.old change.new (record { path = path; deed = deed }) (Err e) → Counts {T = S} change.before change.now (Err e) → IsErrAnd r (λ x. x ≡ fault_of e) → Follows change path plan r
one_fails S change path plan deed e r is adds counts err =
    does_fail S change path plan (deed ∷ []) e r is ((0, omega arith, adds_none S change.old change.new (record { path = path; deed = deed }) e adds), counts) err

-- ---- targets

pub target_is_text : (bytes : List ℕ) → IsUtf8 bytes → 0 < length bytes → length bytes ≤ 4095 → list_all (λ b. not (b == 0)) bytes ≡ true → is_target bytes ≡ true
target_is_text bytes text some short plain =
    let u : is_utf8 bytes ≡ true = is_utf8-from_IsUtf8 bytes text in
    let a : nat_lt 0 (length bytes) ≡ true = grind (arith, nat_tests) in
    let b : nat_le (length bytes) 4095 ≡ true = grind (arith, nat_tests) in
    join a b u plain
  where
    join : {a b u p : Bool} → a ≡ true → b ≡ true → u ≡ true → p ≡ true → a && b && u && p ≡ true
    join ha hb hu hp = grind (arith, common_steps)

pub symlink_planned : (bytes : List ℕ) (attributes : Attributes) → is_target bytes ≡ true → plan_symlink bytes attributes ≡ Do (Symlink bytes attributes ∷ [])
symlink_planned bytes attributes is = ap (λ (b : Bool). if b then Do (Symlink bytes attributes ∷ []) else LeaveOut reason.BadTarget) is

-- ---- a further name

pub again_links : (kind : Kind) (first : List ℕ) → (kind ≡ k.Regular) ⊎ (kind ≡ k.Symlink) → plan_again kind first ≡ Do (Link first ∷ [])
again_links kind first (inl is) = ap (λ (x : Kind). plan_again x first) is
again_links kind first (inr is) = ap (λ (x : Kind). plan_again x first) is

-- a folder to which nothing was done
abbrev pub unchanged : Option (List Made) → Failures → FolderChange
unchanged made count = record { old = made; new = made; before = count; now = count }

-- ---- a task, from its plan

pub ReportsMore-nil : (made : Option (List Made)) → ReportsMore made made []
ReportsMore-nil None = tt
ReportsMore-nil (Some made) = sym (append-nil made)

-- the plan of a task whose path the host may have
follows_plan : (path : Result (List ℕ) Reason) (text : List ℕ) (plan planned : Plan) (o : Outcome) → path ≡ Ok text → plan ≡ planned
    → FollowsPlan (Ok text) planned o → FollowsPlan path plan o
follows_plan path text plan planned o at is follows =
    subst (λ (p : Result (List ℕ) Reason). FollowsPlan p plan o) (sym at) (subst (λ (q : Plan). FollowsPlan (Ok text) q o) (sym is) follows)

-- some of a plan was done
begun_as_planned : (s : State) (owners : Bool) (firsts : FirstPaths) (task : Task) (text : List ℕ) (old new : Option (List Made)) (deeds : List Deed)
    → host_path (path_of_task task) ≡ Ok text → plan_at s owners firsts task ≡ Do deeds → DoesSome old new (made_at text deeds) → HasBegun s owners firsts task old new
begun_as_planned s owners firsts task text old new deeds at is some =
    let o : Outcome = record { path = path_of_task task; deeds = take some.0 (made_at text deeds); left_out = Some reason.Refused; lost = false } in
    inr (
      o,
      (refl, follows_plan (host_path (path_of_task task)) text (plan_at s owners firsts task) (Do deeds) o at is (inr (some.0, some.1, refl, refl)), refl),
      some.2,
    )

pub works_as_planned : (s : State) (owners : Bool) (firsts : FirstPaths) (task : Task) (text : List ℕ) (change : FolderChange) (r : Result Bool MakeFault)
    → host_path (path_of_task task) ≡ Ok text → Follows change text (plan_at s owners firsts task) r → IfOk r (λ lost. lost ≡ lost_at s owners firsts task)
    → Works s owners firsts task change r
works_as_planned s owners firsts task text change (Ok lost) at follows loses =
    let o : Outcome = record { path = path_of_task task; deeds = made_at text follows.0; left_out = None; lost = lost } in (
      o,
      (refl, follows_plan (host_path (path_of_task task)) text (plan_at s owners firsts task) (Do follows.0) o at follows.1 (inl (refl, refl)), loses),
      refl,
      follows.2,
      follows.3,
      refl,
    )
works_as_planned s owners firsts task text change (Err (make.LeftOut why)) at (inl left) loses =
    let o : Outcome = record { path = path_of_task task; deeds = []; left_out = Some why; lost = false } in (
      o,
      (refl, follows_plan (host_path (path_of_task task)) text (plan_at s owners firsts task) (LeaveOut why) o at left.0 (refl, refl), refl),
      refl,
      left.1,
      left.2 ∙ ap (λ (b : Bool). if b then refused_once change.before else change.before) (sym left.3),
      refl,
    )
works_as_planned s owners firsts task text change (Err (make.LeftOut why)) at (inr refused) loses =
    let some = refused.2 in
    let o : Outcome = record { path = path_of_task task; deeds = take some.0 (made_at text refused.0); left_out = Some why; lost = false } in (
      o,
      (
        refl,
        follows_plan (host_path (path_of_task task)) text (plan_at s owners firsts task) (Do refused.0) o at refused.1 (inr (some.0, some.1, refl, ap Some refused.4)),
        refl,
      ),
      refl,
      some.2,
      refused.3 ∙ ap (λ (x : Reason). if is_refusal (Some x) then refused_once change.before else change.before) (sym refused.4),
      refl,
    )
works_as_planned s owners firsts task text change (Err make.NoSpace) at follows loses =
    (begun_as_planned s owners firsts task text change.old change.new follows.0 at follows.1 follows.2, follows.3)
works_as_planned s owners firsts task text change (Err make.OutOfMemory) at follows loses =
    (begun_as_planned s owners firsts task text change.old change.new follows.0 at follows.1 follows.2, follows.3)

-- all of a plan was done, and then memory ran out
pub works_then_fails : (s : State) (owners : Bool) (firsts : FirstPaths) (task : Task) (text : List ℕ) (change : FolderChange) (r : Result Bool MakeFault) (S : Type 0) (x : S)
    → host_path (path_of_task task) ≡ Ok text → Follows change text (plan_at s owners firsts task) (Ok x) → IsErrAnd r (λ e. e ≡ make.OutOfMemory)
    → Works s owners firsts task change r
works_then_fails s owners firsts task text change (Ok y) S x at follows err = absurd err
works_then_fails s owners firsts task text change (Err e) S x at follows err =
    let done = works_as_planned s owners firsts task text change (Ok (lost_at s owners firsts task)) at follows refl in
    subst (λ (f : MakeFault). Works s owners firsts task change (Err f)) (sym err) (inr (done.0, done.1, done.3), done.4)

-- a reason that lies in the path is no refusal of the host
pub no_path_is_no_refusal : (path : List (List ℕ)) (why : Reason) → host_path path ≡ Err why → is_refusal (Some why) ≡ false
unfolding host_path
no_path_is_no_refusal path why is = names (list_all is_name path) is
  where
    text : (long utf8 : Bool) → (if long then Err reason.LongPath else if utf8 then Ok (relative_path path) else Err reason.NoText) ≡ Err why → is_refusal (Some why) ≡ false
    text true utf8 is = let e : reason.LongPath ≡ why = cc in ap (λ (x : Reason). is_refusal (Some x)) (sym e)
    text false true is = absurd (cc)
    text false false is = let e : reason.NoText ≡ why = cc in ap (λ (x : Reason). is_refusal (Some x)) (sym e)

    names : (all : Bool) → (if all then text_if (relative_path path) else Err reason.BadName) ≡ Err why → is_refusal (Some why) ≡ false
    names true is = text (nat_lt greatest_path (length (relative_path path))) (is_utf8 (relative_path path)) is
    names false is = let e : reason.BadName ≡ why = cc in ap (λ (x : Reason). is_refusal (Some x)) (sym e)

-- there is no path, or no memory for it
pub works_without_path : (s : State) (owners : Bool) (firsts : FirstPaths) (task : Task) (made : Option (List Made)) (before : Failures) (fault : MakeFault) (r : Result Bool MakeFault)
    → IsPathOf (host_path (path_of_task task)) (Err fault) → IsErrAnd r (λ e. e ≡ fault) → Works s owners firsts task (unchanged made before) r
works_without_path s owners firsts task made before fault (Ok x) gone err = absurd err
works_without_path s owners firsts task made before (make.LeftOut why) (Err e) gone err =
    let o : Outcome = record { path = path_of_task task; deeds = []; left_out = Some why; lost = false } in
    subst (λ (f : MakeFault). Works s owners firsts task (unchanged made before) (Err f)) (sym err) (
      o,
      (refl, subst (λ (p : Result (List ℕ) Reason). FollowsPlan p (plan_at s owners firsts task) o) (sym gone) (refl, refl), refl),
      refl,
      ReportsMore-nil made,
      ap (λ (b : Bool). if b then refused_once before else before) (sym (no_path_is_no_refusal (path_of_task task) why gone)),
      refl,
    )
works_without_path s owners firsts task made before make.NoSpace (Err e) gone err = absurd gone
works_without_path s owners firsts task made before make.OutOfMemory (Err e) gone err =
    subst (λ (f : MakeFault). Works s owners firsts task (unchanged made before) (Err f)) (sym err) (inl (ReportsMore-nil made), refl)

-- there is no object
pub works_without_object : (s : State) (owners : Bool) (firsts : FirstPaths) (path : List (List ℕ)) (i : ℕ) (text : List ℕ) (made : Option (List Made)) (before : Failures)
    → host_path path ≡ Ok text → option_map shown (object s i) ≡ None → Works s owners firsts (Make path i) (unchanged made before) (Err (make.LeftOut reason.Missing))
works_without_object s owners firsts path i text made before at gone =
    let o : Outcome = record { path = path; deeds = []; left_out = Some reason.Missing; lost = false } in (
      o,
      (refl, follows_plan (host_path path) text (plan_at s owners firsts (Make path i)) (LeaveOut reason.Missing) o at (ap (plan_made s owners firsts i) gone) (refl, refl), refl),
      refl,
      ReportsMore-nil made,
      refl,
      refl,
    )

pub works_at_fault : (s : State) (owners : Bool) (firsts : FirstPaths) (task : Task) (change : FolderChange) (fault : MakeFault) (r : Result Bool MakeFault)
    → IsErrAnd r (λ e. e ≡ fault) → Works s owners firsts task change (Err fault) → Works s owners firsts task change r
works_at_fault s owners firsts task change fault (Ok x) err works = absurd err
works_at_fault s owners firsts task change fault (Err e) err works =
    subst (λ (f : MakeFault). Works s owners firsts task change (Err f)) (sym err) works

pub planned_again : (s : State) (owners : Bool) (firsts : FirstPaths) (path : List (List ℕ)) (i : ℕ) (o : Object) (first : List ℕ) → option_map shown (object s i) ≡ Some o
    → firsts i ≡ Some first → plan_at s owners firsts (Make path i) ≡ plan_again o.kind first
planned_again s owners firsts path i o first there known =
    ap (plan_made s owners firsts i) there ∙ ap (λ (f : Option (List ℕ)). plan_of f o.kind (readable s i) (attributes_of owners o)) known

pub planned_anew : (s : State) (owners : Bool) (firsts : FirstPaths) (path : List (List ℕ)) (i : ℕ) (o : Object) → option_map shown (object s i) ≡ Some o
    → firsts i ≡ None → plan_at s owners firsts (Make path i) ≡ plan_anew o.kind (readable s i) (attributes_of owners o)
planned_anew s owners firsts path i o there known =
    ap (plan_made s owners firsts i) there ∙ ap (λ (f : Option (List ℕ)). plan_of f o.kind (readable s i) (attributes_of owners o)) known

pub lost_again : (s : State) (owners : Bool) (firsts : FirstPaths) (path : List (List ℕ)) (i : ℕ) (o : Object) (first : List ℕ) → option_map shown (object s i) ≡ Some o
    → firsts i ≡ Some first → false ≡ lost_at s owners firsts (Make path i)
lost_again s owners firsts path i o first there known =
    sym (ap (λ (f : Option (List ℕ)). lost_made owners f (option_map shown (object s i))) known ∙ ap (lost_made owners (Some first)) there)

pub lost_anew : (s : State) (owners : Bool) (firsts : FirstPaths) (path : List (List ℕ)) (i : ℕ) (o : Object) → option_map shown (object s i) ≡ Some o
    → firsts i ≡ None → (not (is_directory_kind o.kind) && loses_bits owners o.mode) ≡ lost_at s owners firsts (Make path i)
lost_anew s owners firsts path i o there known =
    sym (ap (λ (f : Option (List ℕ)). lost_made owners f (option_map shown (object s i))) known ∙ ap (lost_made owners None) there)

-- ---- the paths at which objects were made first

pub first_known : (firsts : BTreeMap ℕ (String Global)) (i : ℕ) (found : Option (Bor (String Global))) (first : Bor (String Global)) → option_copied found ≡ get nat_cmp firsts i
    → found ≡ Some first → firsts_of firsts i ≡ Some (string_bytes first.now)
first_known firsts i found first is some = ap (option_map string_bytes) (sym is ∙ ap option_copied some)

pub first_unknown : (firsts : BTreeMap ℕ (String Global)) (i : ℕ) (found : Option (Bor (String Global))) → option_copied found ≡ get nat_cmp firsts i
    → found ≡ None → firsts_of firsts i ≡ None
first_unknown firsts i found is none = ap (option_map string_bytes) (sym is ∙ ap option_copied none)

pub link_keeps_firsts : (firsts : FirstPaths) (path : List (List ℕ)) (text first : List ℕ) (i : ℕ) → host_path path ≡ Ok text → firsts i ≡ Some first → firsts ≡ firsts_if firsts path i None
link_keeps_firsts firsts path text first i at there =
    sym (ap (λ (p : Result (List ℕ) Reason). firsts_with firsts p i) at ∙ (λ t j. one j (i == j) refl t))
  where
    flip : (j : ℕ) → i == j ≡ true → firsts j ≡ Some first
    flip j is = ap firsts (grind (arith, nat_tests)) ∙ there

    known : (o : Option (List ℕ)) → o ≡ Some first → option_or o (Some text) ≡ o
    known None is = absurd (cc)
    known (Some x) is = refl

    other : (o : Option (List ℕ)) → option_or o None ≡ o
    other None = refl
    other (Some x) = refl

    one : (j : ℕ) (same : Bool) → i == j ≡ same → option_or (firsts j) (if i == j then Some text else None) ≡ firsts j
    one j true is = ap (λ (b : Bool). option_or (firsts j) (if b then Some text else None)) is ∙ known (firsts j) (flip j is)
    one j false is = ap (λ (b : Bool). option_or (firsts j) (if b then Some text else None)) is ∙ other (firsts j)

pub firsts_kept : {T : Type 0} (s : State) (firsts : FirstPaths) (path : List (List ℕ)) (text first : List ℕ) (i : ℕ) (r : Result T MakeFault) → host_path path ≡ Ok text → firsts i ≡ Some first
    → FirstsAfter s firsts firsts path i r
firsts_kept s firsts path text first i (Ok x) at there = inl (link_keeps_firsts firsts path text first i at there)
firsts_kept s firsts path text first i (Err (make.LeftOut why)) at there = refl
firsts_kept s firsts path text first i (Err make.NoSpace) at there = refl
firsts_kept s firsts path text first i (Err make.OutOfMemory) at there = refl

-- a task that was not done has no first path
pub firsts_fail : {T : Type 0} (s : State) (firsts firsts_then : FirstPaths) (path : List (List ℕ)) (i : ℕ) (r : Result T MakeFault) (P : MakeFault → Type 0) → IsErrAnd r P → firsts_then ≡ firsts
    → FirstsAfter s firsts firsts_then path i r
firsts_fail s firsts firsts_then path i (Ok x) P err same = absurd err
firsts_fail s firsts firsts_then path i (Err (make.LeftOut why)) P err same = same
firsts_fail s firsts firsts_then path i (Err make.NoSpace) P err same = same
firsts_fail s firsts firsts_then path i (Err make.OutOfMemory) P err same = same

pub first_noted : {T : Type 0} (s : State) (old new : FirstPaths) (path : List (List ℕ)) (text : List ℕ) (i : ℕ) (x : T) → host_path path ≡ Ok text
    → NotesFirst {T = Unit {0}} {E = MakeFault} s old new text i (Ok (tt {0})) → FirstsAfter {T = T} s old new path i (Ok x)
first_noted s old new path text i x at notes =
    ⊎_elim (λ (added : new ≡ firsts_with old (Ok text) i). inl (added ∙ ap (λ (p : Result (List ℕ) Reason). firsts_with old p i) (sym at))) (λ one. inr one) notes
