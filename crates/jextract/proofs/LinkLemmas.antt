-- A further name is of a file or a symlink that was made before.
use Rattle.std.proofs.Common.{◌≡◌, ℕ, ◌==◌, Bool, true, false, List, [], ◌∷◌, ◌++◌, take, drop, append-nil, append_assoc, refl, sym, ap, ◌∙◌, subst, inl, inr, ⊎_elim, Option, Some, None, Result, Ok, Err, if◌then◌else◌, Contains}
use Rattle.std.specs.Prelude.{option_map}
use Rattle.std.specs.List.{flat_map}
use Rattle.std.specs.Option.{option_or}
use Rattle.std.proofs.lemmas.Bool.{eqb-true, false≢true}
use Rattle.std.proofs.lemmas.List.{take-append-drop}
use Rattle.std.proofs.lemmas.List.Elements.{Contains-append_left, Contains-append_right}
use Rattle.std.proofs.lemmas.Option.{same_Some}
use Rattle.flashbase.proofs.MemberLemmas.{Contains-none, Contains-here, Contains-there, Contains-cases, Contains-map_from}
use Rattle.jmount.specs.Shown.{readable, shown}
use Rattle.jmount.specs.Tree.{State, object, is_directory}
use Rattle.jmount.specs.declared.object.Kind.{Kind}
use Rattle.jmount.specs.declared.object.Kind.TheVariants as kind
use Rattle.jmount.specs.declared.object.Object.{Object}
use Rattle.jextract.specs.Cells.{cells_of}
use Rattle.jextract.specs.Folders.{Made, Deed, Directory, File, Content, Symlink, Link, Attributed}
use Rattle.jextract.specs.Laws.{HasFile, AreLinkedBack, LinksLeadBack, is_linkable}
use Rattle.jextract.specs.Outcomes.{Task, Make, Complete, path_of_task, Outcome, FirstPaths, Plan, Do, LeaveOut, FollowsPlan, IsOutcomeOf, AreFirstOutcomes, plan_of, plan_at, plan_made, plan_completed, attributes_of, is_target, firsts_after, firsts_if, firsts_with, tasks_after, root_made, root_alone, tasks_in, made_at}
use Rattle.jextract.specs.Paths.{host_path}
use Rattle.jextract.specs.declared.folder.Attributes.{Attributes}
use Rattle.jextract.specs.declared.reason.Reason.{Reason}
use Rattle.jextract.specs.declared.reason.Reason.TheVariants as reason
use Rattle.jextract.proofs.OnceLemmas.{IsBegun, begun, deeds_of, only}
use Rattle.jextract.proofs.WalkLemmas.{directory_is, kind_directory}

-- ---- what may have a further name

abbrev is_linked : Kind → Bool
is_linked kind.Regular = true
is_linked kind.Symlink = true
is_linked _ = false

-- where a file or a symlink is known, it was made
abbrev Known : State → FirstPaths → List Made → Type 0
Known s firsts before = (i : ℕ) (first : List ℕ) (x : Object) → firsts i ≡ Some first → option_map shown (object s i) ≡ Some x → is_linked x.kind ≡ true
    → HasFile before first

known_more : (s : State) (firsts : FirstPaths) (before more : List Made) → Known s firsts before → Known s firsts (before ++ more)
known_more s firsts before more known i first x at there linked =
    let has = known i first x at there linked in (has.0, Contains-append_left before more has.0 has.1, has.2, has.3)

-- ---- the further names of a plan

symlink_links : (target : List ℕ) (attributes : Attributes) (first : List ℕ) (b : Bool)
    → Contains (deeds_of (if b then Do (Symlink target attributes ∷ []) else LeaveOut reason.BadTarget)) (Link first) → ⊥
symlink_links target attributes first true there =
    let no : Symlink target attributes ≡ Link first = only (Symlink target attributes) (Link first) there in absurd (cc)
symlink_links target attributes first false there = Contains-none (Link first) there

same_link : (x first : List ℕ) → Link x ≡ Link first → Some x ≡ Some first
same_link x first is = let same : x ≡ first = cc in ap Some same

plan_links : (known : Option (List ℕ)) (kind : Kind) (bytes : List ℕ) (attributes : Attributes) (first : List ℕ)
    → Contains (deeds_of (plan_of known kind bytes attributes)) (Link first) → (known ≡ Some first) × (is_linked kind ≡ true)
plan_links (Some x) kind.Regular bytes attributes first there = (same_link x first (only (Link x) (Link first) there), refl)
plan_links (Some x) kind.Symlink bytes attributes first there = (same_link x first (only (Link x) (Link first) there), refl)
plan_links None kind.Directory bytes attributes first there = let no : Directory ≡ Link first = only Directory (Link first) there in absurd (cc)
plan_links None kind.Regular bytes attributes first there =
    ⊎_elim (λ (no : File ≡ Link first). absurd (cc))
    (λ later. let no : Content (cells_of bytes) attributes ≡ Link first = only (Content (cells_of bytes) attributes) (Link first) later in absurd (cc))
    (Contains-cases File (Content (cells_of bytes) attributes ∷ []) (Link first) there)
plan_links None kind.Symlink bytes attributes first there = absurd (symlink_links bytes attributes first (is_target bytes) there)
plan_links known kind bytes attributes first there = absurd (Contains-none (Link first) there)

made_links : (s : State) (owners : Bool) (firsts : FirstPaths) (i : ℕ) (x : Option Object) (before : List Made) (first : List ℕ)
    → option_map shown (object s i) ≡ x → Known s firsts before → Contains (deeds_of (plan_made s owners firsts i x)) (Link first) → HasFile before first
made_links s owners firsts i None before first at known there = absurd (Contains-none (Link first) there)
made_links s owners firsts i (Some x) before first at known there =
    let is = plan_links (firsts i) x.kind (readable s i) (attributes_of owners x) first there in known i first x is.0 at is.1

completed_links : (owners : Bool) (x : Option Object) (first : List ℕ) → Contains (deeds_of (plan_completed owners x)) (Link first) → ⊥
completed_links owners None first there = Contains-none (Link first) there
completed_links owners (Some x) first there =
    let no : Attributed (attributes_of owners x) ≡ Link first = only (Attributed (attributes_of owners x)) (Link first) there in absurd (cc)

task_links : (s : State) (owners : Bool) (firsts : FirstPaths) (task : Task) (before : List Made) (first : List ℕ) → Known s firsts before
    → Contains (deeds_of (plan_at s owners firsts task)) (Link first) → HasFile before first
task_links s owners firsts (Make way i) before first known there = made_links s owners firsts i (option_map shown (object s i)) before first refl known there
task_links s owners firsts (Complete way i) before first known there = absurd (completed_links owners (option_map shown (object s i)) first there)

begun_there : (path : Result (List ℕ) Reason) (plan : Plan) (all : List Made) (made : Made) → IsBegun path plan all → Contains all made → Contains (deeds_of plan) made.deed
begun_there path plan all made (inl none) there = absurd (Contains-none made (subst (λ (l : List Made). Contains l made) none there))
begun_there path plan all made (inr some) there =
    let text : List ℕ = some.0 in
    let from = Contains-map_from (λ (deed : Deed). let m : Made = record { path = text; deed = deed } in m) (take some.1 (deeds_of plan)) made
    (subst (λ (l : List Made). Contains l made) some.3 there) in
    subst (λ (d : Deed). Contains (deeds_of plan) d) (ap (λ (m : Made). m.deed) from.2)
    (subst (λ (l : List Deed). Contains l from.0) (take-append-drop some.1 (deeds_of plan))
    (Contains-append_left (take some.1 (deeds_of plan)) (drop some.1 (deeds_of plan)) from.0 from.1))

outcome_links : (s : State) (owners : Bool) (firsts : FirstPaths) (task : Task) (o : Outcome) (before : List Made) → Known s firsts before → IsOutcomeOf s owners firsts task o
    → (made : Made) → Contains o.deeds made → (first : List ℕ) → made.deed ≡ Link first → HasFile before first
outcome_links s owners firsts task o before known is made there first link =
    task_links s owners firsts task before first known
    (subst (λ (d : Deed). Contains (deeds_of (plan_at s owners firsts task)) d) link
    (begun_there (host_path (path_of_task task)) (plan_at s owners firsts task) o.deeds made
    (begun (host_path (path_of_task task)) (plan_at s owners firsts task) o is.1) there))

-- ---- what is known after a task

has_first : (text : List ℕ) (deed : Deed) (more : List Deed) (all : List Made) → all ≡ made_at text (deed ∷ more) → is_linkable deed ≡ true → HasFile all text
has_first text deed more all is linkable =
    let made : Made = record { path = text; deed = deed } in
    (made, subst (λ (l : List Made). Contains l made) (sym is) (Contains-here made (made_at text more)), refl, linkable)

symlink_made : (text target : List ℕ) (attributes : Attributes) (o : Outcome) (b : Bool)
    → FollowsPlan (Ok text) (if b then Do (Symlink target attributes ∷ []) else LeaveOut reason.BadTarget) o
    → o.left_out ≡ None → HasFile o.deeds text
symlink_made text target attributes o true (inl all) left = has_first text (Symlink target attributes) [] o.deeds all.0 refl
symlink_made text target attributes o true (inr part) left = let other = part.3 in absurd (cc)
symlink_made text target attributes o false follows left = let other = follows.1 in absurd (cc)

file_made : (text : List ℕ) (kind : Kind) (bytes : List ℕ) (attributes : Attributes) (o : Outcome) → is_linked kind ≡ true
    → FollowsPlan (Ok text) (plan_of None kind bytes attributes) o → o.left_out ≡ None → HasFile o.deeds text
file_made text kind.Regular bytes attributes o linked (inl all) left = has_first text File (Content (cells_of bytes) attributes ∷ []) o.deeds all.0 refl
file_made text kind.Regular bytes attributes o linked (inr part) left = let other = part.3 in absurd (cc)
file_made text kind.Symlink bytes attributes o linked follows left = symlink_made text bytes attributes o (is_target bytes) follows left
file_made text kind bytes attributes o linked follows left = absurd (false≢true linked)

-- the object of a task that was done, where it was not made before
new_file : (s : State) (owners : Bool) (firsts : FirstPaths) (way : List (List ℕ)) (i : ℕ) (o : Outcome) (text : List ℕ) (x : Object)
    → IsOutcomeOf s owners firsts (Make way i) o → o.left_out ≡ None → host_path way ≡ Ok text → firsts i ≡ None
    → option_map shown (object s i) ≡ Some x → is_linked x.kind ≡ true → HasFile o.deeds text
new_file s owners firsts way i o text x is left path new there linked =
    file_made text x.kind (readable s i) (attributes_of owners x) o linked
    (subst (λ (k : Option (List ℕ)). FollowsPlan (Ok text) (plan_of k x.kind (readable s i) (attributes_of owners x)) o) new
    (subst (λ (y : Option Object). FollowsPlan (Ok text) (plan_made s owners firsts i y) o) there
    (subst (λ (p : Result (List ℕ) Reason). FollowsPlan p (plan_made s owners firsts i (option_map shown (object s i))) o) path is.1)))
    left

known_after : (s : State) (owners : Bool) (firsts : FirstPaths) (task : Task) (o : Outcome) (before : List Made) → Known s firsts before → IsOutcomeOf s owners firsts task o
    → Known s (firsts_after firsts task o) (before ++ o.deeds)
known_after s owners firsts (Complete way i) o before known is = known_more s firsts before o.deeds known
known_after s owners firsts (Make way i) o before known is = by o.left_out refl
  where
    new : o.left_out ≡ None → (path : Result (List ℕ) Reason) → host_path way ≡ path → Known s (firsts_with firsts path i) (before ++ o.deeds)
    new left (Err why) path = known_more s firsts before o.deeds known
    new left (Ok text) path = λ j first x at there linked. at_number left text path j first x (firsts j) (i == j) refl refl at there linked
      where
        at_number : o.left_out ≡ None → (text : List ℕ) → host_path way ≡ Ok text → (j : ℕ) (first : List ℕ) (x : Object) (old : Option (List ℕ))
            (here : Bool) → firsts j ≡ old → (i == j) ≡ here → option_or old (if here then Some text else None) ≡ Some first
            → option_map shown (object s j) ≡ Some x → is_linked x.kind ≡ true → HasFile (before ++ o.deeds) first
        at_number left text path j first x (Some f) here old same at there linked = known_more s firsts before o.deeds known j first x (old ∙ at) there linked
        at_number left text path j first x None true old same at there linked =
            let one : i ≡ j = eqb-true i j same in
            let has =
            new_file s owners firsts way i o text x is left path (ap firsts one ∙ old) (ap (λ (k : ℕ). option_map shown (object s k)) one ∙ there) linked in
            (has.0, Contains-append_right before o.deeds has.0 has.1, has.2 ∙ same_Some text first at, has.3)
        at_number left text path j first x None false old same at there linked = absurd (cc)

    by : (why : Option Reason) → o.left_out ≡ why → Known s (firsts_if firsts way i why) (before ++ o.deeds)
    by (Some why) left = known_more s firsts before o.deeds known
    by None left = new left (host_path way) refl

-- ---- the walk

linked_deeds : (before deeds : List Made)
    → ((made : Made) → Contains deeds made → (first : List ℕ) → made.deed ≡ Link first → HasFile before first) → AreLinkedBack before deeds
linked_deeds before [] each = tt
linked_deeds before (made ∷ deeds) each = (
  each made (Contains-here made deeds),
  linked_deeds (before ++ made ∷ []) deeds
      (λ x there first link. let has = each x (Contains-there made deeds x there) first link in (has.0, Contains-append_left before (made ∷ []) has.0 has.1, has.2, has.3)),
)

linked_append : (before some more : List Made) → AreLinkedBack before some → AreLinkedBack (before ++ some) more → AreLinkedBack before (some ++ more)
linked_append before [] more are rest = subst (λ (l : List Made). AreLinkedBack l more) (append-nil before) rest
linked_append before (made ∷ some) more are rest = (
  are.0,
  linked_append (before ++ made ∷ []) some more are.1 (subst (λ (l : List Made). AreLinkedBack l more) (sym (append_assoc before (made ∷ []) some)) rest),
)

linked : (s : State) (owners : Bool) (firsts : FirstPaths) (todo : List Task) (outcomes : List Outcome) (before : List Made) → AreFirstOutcomes s owners firsts todo outcomes
    → Known s firsts before → AreLinkedBack before (flat_map (λ o. o.deeds) outcomes)
linked s owners firsts todo [] before are known = tt
linked s owners firsts [] (o ∷ outcomes) before are known = absurd are
linked s owners firsts (task ∷ todo) (o ∷ outcomes) before are known =
    linked_append before o.deeds (flat_map (λ (x : Outcome). x.deeds) outcomes)
    (linked_deeds before o.deeds (outcome_links s owners firsts task o before known are.0))
    (linked s owners (firsts_after firsts task o) (tasks_after s task o todo) outcomes (before ++ o.deeds) are.1 (known_after s owners firsts task o before known are.0))

root_known : (s : State) (before : List Made) → is_directory s 1 ≡ true → Known s root_alone before
root_known s before root i first x at there linked = by (1 == i) refl at
  where
    by : (b : Bool) → (1 == i) ≡ b → (if b then Some [] else None) ≡ Some first → HasFile before first
    by true is e =
        let one : 1 ≡ i = eqb-true 1 i is in
        let dir = sym (directory_is (object s i) x there) ∙ subst (λ (k : ℕ). is_directory s k ≡ true) one root in
        let no : is_linked x.kind ≡ false = ap is_linked (kind_directory x.kind dir) in
        absurd (false≢true (sym no ∙ linked))
    by false is e = absurd (cc)

pub links_back : LinksLeadBack
links_back s owners outcomes root are = (
  λ first link. absurd (cc),
  linked s owners root_alone (tasks_in s [] 1) outcomes (root_made ∷ []) are (root_known s (root_made ∷ []) root),
)
