-- Planning an operation in forms of its nodes.
use Rattle.std.proofs.Common.{◌≡◌, ℕ, ◌+◌, ◌*◌, ◌%◌, ◌<◌, ◌≤◌, Bool, List, [], ◌∷◌, ◌++◌, length, map, refl, sym, ap, subst, ◌∙◌, arith, Option, Some, Ok, Err}
use Rattle.std.specs.Prelude.{IsTrue, IsFalse}
use Rattle.std.specs.List.{AllByRecursion}
use Rattle.std.specs.Io.KnownBytes.{Appends}
use Rattle.std.proofs.lemmas.Bool.{both_ways}
use Rattle.jnode.specs.declared.order.Endian.{Endian}
use Rattle.jscan.specs.Pages.{IsPage}
use Rattle.jsteps.specs.Nodes.{Indexed, nodes_of, advanced_all}
use Rattle.jsteps.specs.Laws.{OpFits}
use Rattle.jsteps.specs.declared.op.Op.{Op}
use Rattle.jsteps.specs.declared.step.Step.{Step}
use Rattle.jlog.specs.Packed.{AreNodeForms}
use Rattle.jlog.specs.Places.{places, end_of_all, is_writable_flash}
use Rattle.jlog.specs.Output.{output}
use Rattle.jlog.specs.Laws.{FitsBlock}
use Rattle.jlog.specs.Running.{log_at, shown_place}
use Rattle.jlog.specs.Session.{Flash, IsGoing}
use Rattle.jlog.specs.SessionAs.{content_len, flash_as, IsTakenAs}
use Rattle.jlog.specs.declared.fault.SessionFault.{SessionFault}
use Rattle.jlog.specs.declared.fault.SessionFault.TheVariants as fault
use Rattle.jlog.specs.declared.report.Place.{Place}
use Rattle.jlog.proofs.CodeLemmas.{flash_limits}
use Rattle.jlog.proofs.Parts.{flash_by}
use Rattle.jlog.proofs.RunLemmas.{can_plan}
use Rattle.jpacked.specs.Accepting.{DeclinesAs}
use Rattle.jpacked.proofs.MadeLemmas.{forms_fit_blocks}
use Rattle.jpacked.proofs.RunLemmas.{AppliesBy, TakesBy}
use Rattle.jcuts.specs.Planning.{without_sink}
use Rattle.jcuts.specs.Standing.{standings, standing_in, IsNodeIn}
use Rattle.jcuts.specs.declared.standing.Standing.{Standing}
use Rattle.jcuts.proofs.HeldLemmas.{EndsBelow, nodes_are_in, standings_are_in}
use Rattle.jcuts.proofs.JoinLemmas.{standings_long}
use Rattle.jcuts.proofs.PlanLemmas.{ends_below, flash_words, nodes_most}
use Rattle.jstops.specs.Planned.{Forming, HeldPoint, IsPlannedAs, IsDeclinedAs}
use Rattle.jstops.proofs.FormLemmas.{as_forms, forms_written}

abbrev pub forming_by : Bool → ℕ → Endian → ℕ → ℕ → Forming
forming_by packs page e size blocks = record { packs = packs; flash = flash_by page e size blocks }

abbrev pub held_by : ℕ → Indexed → ℕ → HeldPoint
held_by address index held = record { address = address; index = index; held = held }

abbrev pub PlannedBy : Bool → ℕ → Endian → ℕ → ℕ → ℕ → Indexed → ℕ → Op → ℕ → Indexed → ℕ → List Standing → Type 0
PlannedBy packs page e size blocks from x held o end y now told = IsPlannedAs (forming_by packs page e size blocks) (held_by from x held) o (held_by end y now) told

-- what was held after one operation was applied to a log that held nothing
pub record Planned (packs : Bool) (page : ℕ) (e : Endian) (size blocks from : ℕ) (x : Indexed) (held : ℕ) (o : Op) (end : ℕ) (y : Indexed) (now : ℕ) (out : List ℕ) (places : List Place) : Type 0 where
  pub in_it : AllByRecursion (IsNodeIn e from out) places
  pub planned : PlannedBy packs page e size blocks from x held o end y now (map (standing_in e from out) places)

planned_by : (packs : Bool) (page : ℕ) (e : Endian) (size blocks from : ℕ) (x : Indexed) (held : ℕ) (o : Op) (end : ℕ) (y : Indexed) (now : ℕ) (steps : List Step) (forms : List (List ℕ)) (was : List Place)
    → IsPage page → OpFits o → IsTrue (is_writable_flash size blocks) → page + 80 ≤ size → IsGoing size blocks from x
    → (taken : IsTakenAs packs held (flash_by page e size blocks) (log_at from x was) o steps forms)
    → end ≡ end_of_all size from forms → y ≡ advanced_all x steps → now ≡ held + content_len e forms
    → Planned packs page e size blocks from x held o end y now (output e size from forms) (map shown_place (places size from forms))
planned_by packs page e size blocks from x held o end y now steps forms was is_page fits ok holds going taken end_is y_is now_is =
    let limits = flash_limits size blocks ok in
    let words : size % 4 ≡ 0 = flash_words size blocks ok in
    let both = can_plan page e x o steps is_page going.consistent fits taken.planned in
    let are : AreNodeForms e (nodes_of x steps) forms = as_forms packs e (nodes_of x steps) forms taken.are in
    let room : AllByRecursion (FitsBlock size) forms = forms_fit_blocks page e size x steps forms is_page holds both.0 are in
    let low : EndsBelow 0x1_0000_0000 (places size from forms) = ends_below 0x1_0000_0000 (blocks * size) (places size from forms) (omega (arith, limits.small)) taken.fits in
    let nothing : from + length {A = ℕ} [] ≡ from = omega arith in
    let told_is : map (standing_in e from (output e size from forms)) (map shown_place (places size from forms)) ≡ standings e size from forms = standings_are_in e size from from [] forms words room nothing in
    let few : from + length (standings e size from forms) ≤ end = omega (arith, standings_long e size from forms, nodes_most size from forms words room, end_is) in
    record {
      in_it = nodes_are_in e size from from [] forms words room (forms_written page e x steps forms both.0 are) low nothing;
      planned = record {
        steps = steps;
        forms = forms;
        taken = record { planned = taken.planned; are = taken.are; fits = taken.fits; contents = taken.contents };
        address = end_is;
        index = y_is;
        held = now_is;
        nodes = told_is;
        few = subst (λ (l : List Standing). from + length l ≤ end) (sym told_is) few;
      };
    }

pub planned_op : {T : Type 0} (u : T) (packs : Bool) (held page : ℕ) (e : Endian) (size blocks from : ℕ) (x : Indexed) (o : Op) (was : Bool) (end : ℕ) (y : Indexed) (is : Bool) (old new : Option (List ℕ)) (failures after_failures : ℕ) (before after : List Place) (now : ℕ)
    (out : List ℕ) → IsPage page → OpFits o → IsTrue (is_writable_flash size blocks) → page + 80 ≤ size → IsGoing size blocks from x → old ≡ Some [] → new ≡ Some out → before ≡ []
    → TakesBy packs held page e size blocks from x o was end y is old new failures after_failures before after (Ok u) now
    → Planned packs page e size blocks from x held o end y now out after
planned_op u packs held page e size blocks from x o was end y is old new failures after_failures before after now out is_page fits ok holds going none holds_out no_places (did, held_is) =
    let steps : List Step = did.2.0 in
    let forms : List (List ℕ) = did.2.1 in
    let put = did.2.3 in
    let bytes : out ≡ output e size from forms =
    subst (λ (n : Option (List ℕ)). Appends (Some []) n (output e size from forms)) holds_out
    (subst (λ (m : Option (List ℕ)). Appends m new (output e size from forms)) none put.bytes) in
    let places_are : after ≡ map shown_place (places size from forms) = put.places ∙ ap (λ (l : List Place). l ++ map shown_place (places size from forms)) no_places in
    subst (λ (l : List Place). Planned packs page e size blocks from x held o end y now out l) (sym places_are)
    (subst (λ (l : List ℕ). Planned packs page e size blocks from x held o end y now l (map shown_place (places size from forms))) (sym bytes)
    (planned_by packs page e size blocks from x held o end y now steps forms before is_page fits ok holds going did.2.2 put.cursor put.index held_is))

-- An operation that was not applied is declined.
pub declined_op : (T : Type 0) (packs : Bool) (held page : ℕ) (e : Endian) (size blocks from : ℕ) (x : Indexed) (o : Op) (was : Bool) (end : ℕ) (y : Indexed) (is : Bool) (old new : Option (List ℕ)) (failures now : ℕ) (after : List Place) (f : SessionFault)
    → IsFalse was → AppliesBy {T = T} packs held page e size blocks from x o was end y is old new failures now [] after (Err f)
    → IsDeclinedAs (forming_by packs page e size blocks) (held_by from x held) o (without_sink f)
declined_op T packs held page e size blocks from x o was end y is old new failures now after (fault.Refused g) whole did = did.1
declined_op T packs held page e size blocks from x o was end y is old new failures now after (fault.Full w l) whole did = did.1
declined_op T packs held page e size blocks from x o was end y is old new failures now after fault.Sink whole did = tt
declined_op T packs held page e size blocks from x o was end y is old new failures now after fault.OutOfMemory whole did = tt
declined_op T packs held page e size blocks from x o was end y is old new failures now after fault.Broken whole did = absurd (both_ways was whole did.0)
declined_op T packs held page e size blocks from x o was end y is old new failures now after fault.ReadOnly whole did = absurd did
declined_op T packs held page e size blocks from x o was end y is old new failures now after fault.Geometry whole did = absurd did

-- ---- the same at equal values

pub forming_at : (packs packs' : Bool) (page page' : ℕ) (e : Endian) (size size' blocks blocks' : ℕ) → packs ≡ packs' → page ≡ page' → size ≡ size' → blocks ≡ blocks'
    → forming_by packs page e size blocks ≡ forming_by packs' page' e size' blocks'
forming_at packs packs' page page' e size size' blocks blocks' packs_is page_is size_is blocks_is =
    ap (λ (i : Bool). forming_by i page e size blocks) packs_is
    ∙ (ap (λ (i : ℕ). forming_by packs' i e size blocks) page_is
    ∙ (ap (λ (i : ℕ). forming_by packs' page' e i blocks) size_is ∙ ap (λ (i : ℕ). forming_by packs' page' e size' i) blocks_is))

pub held_at : (from from' : ℕ) (x x' : Indexed) (held held' : ℕ) → from ≡ from' → x ≡ x' → held ≡ held' → held_by from x held ≡ held_by from' x' held'
held_at from from' x x' held held' from_is x_is held_is =
    ap (λ (i : ℕ). held_by i x held) from_is ∙ (ap (λ (i : Indexed). held_by from' i held) x_is ∙ ap (λ (i : ℕ). held_by from' x' i) held_is)

pub planned_at : (on : Forming) (from : HeldPoint) (o : Op) (to to' : HeldPoint) (told told' : List Standing) → to' ≡ to → told' ≡ told → IsPlannedAs on from o to told → IsPlannedAs on from o to' told'
planned_at on from o to to' told told' to_is told_is op =
    subst (λ (l : List Standing). IsPlannedAs on from o to' l) (sym told_is) (subst (λ (p : HeldPoint). IsPlannedAs on from o p told) (sym to_is) op)
