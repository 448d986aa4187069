-- Planning an operation in the openings of an image.
use Rattle.std.proofs.Common.{◌≡◌, ℕ, ◌+◌, ◌%◌, ◌≤◌, Bool, List, [], ◌∷◌, ◌++◌, length, map, drop, refl, sym, ap, ap₂, subst, ◌∙◌, arith, Option, Some, Ok, Err}
use Rattle.std.specs.Prelude.{IsTrue, IsFalse}
use Rattle.std.specs.List.{AllByRecursion}
use Rattle.std.specs.Io.KnownBytes.{Appends}
use Rattle.std.proofs.lemmas.Bool.{both_ways}
use Rattle.jnode.specs.declared.order.Endian.{Endian}
use Rattle.jscan.specs.Pages.{IsPage}
use Rattle.jsteps.specs.Nodes.{Indexed, nodes_of}
use Rattle.jsteps.specs.Laws.{OpFits}
use Rattle.jsteps.specs.declared.op.Op.{Op}
use Rattle.jsteps.specs.declared.step.Step.{Step}
use Rattle.jlog.specs.Packed.{AreNodeForms}
use Rattle.jlog.specs.Places.{is_writable_flash}
use Rattle.jlog.specs.Laws.{FitsBlock}
use Rattle.jlog.specs.Running.{shown_place}
use Rattle.jlog.specs.declared.fault.SessionFault.{SessionFault}
use Rattle.jlog.specs.declared.fault.SessionFault.TheVariants as fault
use Rattle.jlog.specs.declared.report.Place.{Place}
use Rattle.jlog.specs.declared.writing.Blocks.{Blocks}
use Rattle.jlog.proofs.RunLemmas.{can_plan}
use Rattle.jpacked.proofs.MadeLemmas.{forms_fit_blocks}
use Rattle.jcuts.specs.Planning.{without_sink}
use Rattle.jcuts.specs.declared.standing.Standing.{Standing}
use Rattle.jcuts.proofs.PlanLemmas.{flash_words}
use Rattle.jrests.specs.Openings.{AreUpwards}
use Rattle.jrests.specs.Shares.{shares, places_in}
use Rattle.jrests.specs.declared.opening.Opening.{Opening}
use Rattle.jopenings.specs.After.{row_after_all, output_to_all}
use Rattle.jopenings.specs.declared.placing.Stretch.{Stretch}
use Rattle.jupdate.specs.Rows.{IsOpen, begins_of, gone_on, unwritten}
use Rattle.jupdate.specs.SessionIn.{IsGoingIn}
use Rattle.jupdate.proofs.RunLemmas.{AppliesBy, TakesBy}
use Rattle.jstops.proofs.FormLemmas.{as_forms, forms_written}
use Rattle.jstops.proofs.PlannedLemmas.{forming_by}
use Rattle.jhalts.specs.InRow.{RowPoint, IsPlannedIn, IsDeclinedIn}
use Rattle.jhalts.specs.InShares.{row_address, standings_in_shares}
use Rattle.jhalts.specs.Walk.{ArePutIn, IsRowOpen, row_of_walk}
use Rattle.jhalts.specs.declared.walking.Walk.{Walk}
use Rattle.jhalts.proofs.StandingLemmas.{row_grows, standings_many}

abbrev pub point_by : List Opening → Indexed → ℕ → RowPoint
point_by row index held = record { row = row; index = index; held = held }

abbrev pub blocks_by : ℕ → ℕ → Blocks
blocks_by size count = record { size = size; count = count }

-- what was held after one operation was applied to a log that held nothing
pub record PutOp (packs : Bool) (page : ℕ) (e : Endian) (size blocks : ℕ) (row : List Opening) (x : Indexed) (held : ℕ) (o : Op) (end : List Opening) (y : Indexed) (now : ℕ) (out : List ℕ) (places : List Place) : Type 0 where
  pub forms : List (List ℕ)
  pub put : ArePutIn e (blocks_by size blocks) row forms out places
  pub planned : (told : List Standing) → told ≡ standings_in_shares e size (shares size row forms) → IsPlannedIn (forming_by packs page e size blocks) (point_by row x held) o (point_by end y now) told
  pub left : end ≡ row_after_all size row forms

pub planned_row : {T : Type 0} (u : T) (packs : Bool) (held page : ℕ) (e : Endian) (size blocks : ℕ) (row : List Opening) (x : Indexed) (o : Op) (was : Bool) (end : List Opening) (y : Indexed) (is : Bool) (old new : Option (List ℕ)) (failures after_failures : ℕ) (after : List Place) (now : ℕ)
    (out : List ℕ) → IsPage page → OpFits o → IsTrue (is_writable_flash size blocks) → page + 80 ≤ size → IsGoingIn size blocks row x → AreUpwards 0 blocks row → old ≡ Some [] → new ≡ Some out
    → TakesBy packs held page e size blocks row x o was end y is old new failures after_failures [] after (Ok u) now
    → PutOp packs page e size blocks row x held o end y now out after
planned_row u packs held page e size blocks row x o was end y is old new failures after_failures after now out is_page fits ok holds going upwards none holds_out (did, held_is) =
    let steps : List Step = did.2.0 in
    let forms : List (List ℕ) = did.2.1 in
    let taken = did.2.2 in
    let put = did.2.3 in
    let bytes : out ≡ output_to_all e size (shares size row forms) =
    subst (λ (n : Option (List ℕ)). Appends (Some []) n (output_to_all e size (shares size row forms))) holds_out
    (subst (λ (m : Option (List ℕ)). Appends m new (output_to_all e size (shares size row forms))) none put.bytes) in
    let words : size % 4 ≡ 0 = flash_words size blocks ok in
    let both = can_plan page e x o steps is_page going.consistent fits taken.planned in
    let are : AreNodeForms e (nodes_of x steps) forms = as_forms packs e (nodes_of x steps) forms taken.are in
    let room : AllByRecursion (FitsBlock size) forms = forms_fit_blocks page e size x steps forms is_page holds both.0 are in
    let grows : row_address size row + length forms ≤ row_address size (row_after_all size row forms) = row_grows e size blocks row forms words upwards going.openings room taken.fits in
    let many : length (standings_in_shares e size (shares size row forms)) ≡ length forms = standings_many e size row forms taken.fits in
    let ends : row_address size end ≡ row_address size (row_after_all size row forms) = ap (row_address size) put.row in
    record {
      forms = forms;
      put = record {
        writable = ok;
        upwards = upwards;
        each = going.openings;
        room = room;
        written = forms_written page e x steps forms both.0 are;
        fits = taken.fits;
        bytes = bytes;
        placed = put.places;
      };
      planned = λ told is_told. record {
        steps = steps;
        forms = forms;
        taken = record { planned = taken.planned; are = taken.are; fits = taken.fits; contents = taken.contents };
        row = put.row;
        index = put.index;
        held = held_is;
        nodes = is_told;
        few = omega (arith, grows, many, ends, ap length is_told);
      };
      left = put.row;
    }

-- An operation that was not applied is declined.
pub declined_row : (T : Type 0) (packs : Bool) (held page : ℕ) (e : Endian) (size blocks : ℕ) (row : List Opening) (x : Indexed) (o : Op) (was : Bool) (end : List Opening) (y : Indexed) (is : Bool) (old new : Option (List ℕ)) (failures now : ℕ) (after : List Place) (f : SessionFault)
    → IsFalse was → AppliesBy {T = T} packs held page e size blocks row x o was end y is old new failures now [] after (Err f)
    → IsDeclinedIn (forming_by packs page e size blocks) (point_by row x held) o (without_sink f)
declined_row T packs held page e size blocks row x o was end y is old new failures now after (fault.Refused g) whole did = did.1
declined_row T packs held page e size blocks row x o was end y is old new failures now after (fault.Full w l) whole did = did.1
declined_row T packs held page e size blocks row x o was end y is old new failures now after fault.Sink whole did = tt
declined_row T packs held page e size blocks row x o was end y is old new failures now after fault.OutOfMemory whole did = tt
declined_row T packs held page e size blocks row x o was end y is old new failures now after fault.Broken whole did = absurd (both_ways was whole did.0)
declined_row T packs held page e size blocks row x o was end y is old new failures now after fault.ReadOnly whole did = absurd did
declined_row T packs held page e size blocks row x o was end y is old new failures now after fault.Geometry whole did = absurd did

-- ---- the same at equal values

pub point_at : (row row' : List Opening) (x x' : Indexed) (held held' : ℕ) → row ≡ row' → x ≡ x' → held ≡ held' → point_by row x held ≡ point_by row' x' held'
point_at row row' x x' held held' row_is x_is held_is =
    ap (λ (i : List Opening). point_by i x held) row_is ∙ (ap (λ (i : Indexed). point_by row' i held) x_is ∙ ap (λ (i : ℕ). point_by row' x' i) held_is)

-- where openings begin to which nothing went out
begins_of_none : (row : List Opening) → begins_of (map unwritten row) ≡ row
begins_of_none [] = refl
begins_of_none (o ∷ row) = ap (λ (r : List Opening). o ∷ r) (begins_of_none row)

pub begins_unwritten : (ss : List Stretch) (row : List Opening) → ss ≡ map unwritten row → begins_of ss ≡ row
begins_unwritten ss row is = ap begins_of is ∙ begins_of_none row

pub flash_is : (flash : Blocks) (size count : ℕ) → flash.size ≡ size → flash.count ≡ count → flash ≡ blocks_by size count
flash_is flash size count size_is count_is = λ i. record { size = size_is i; count = count_is i }

-- a walk through openings that more went out to
pub row_kept : (ss ts : List Stretch) (walk : Walk) → begins_of ss ≡ begins_of ts → row_of_walk ss walk ≡ row_of_walk ts walk
row_kept ss ts walk same = ap (λ (r : List Opening). gone_on (drop walk.passed r) walk.place) same

pub put_at : (e : Endian) (flash flash' : Blocks) (row row' : List Opening) (forms : List (List ℕ)) (out out' : List ℕ) (ps ps' : List Place) → flash' ≡ flash → row' ≡ row → out' ≡ out → ps' ≡ ps
    → ArePutIn e flash row forms out ps → ArePutIn e flash' row' forms out' ps'
put_at e flash flash' row row' forms out out' ps ps' flash_same row_same out_same ps_same put =
    subst (λ (f : Blocks). ArePutIn e f row' forms out' ps') (sym flash_same)
    (subst (λ (r : List Opening). ArePutIn e flash r forms out' ps') (sym row_same)
    (subst (λ (l : List ℕ). ArePutIn e flash row forms l ps') (sym out_same)
    (subst (λ (l : List Place). ArePutIn e flash row forms out l) (sym ps_same) put)))

pub planned_to : (packs : Bool) (page : ℕ) (e : Endian) (size blocks : ℕ) (from : RowPoint) (o : Op) (to to' : RowPoint) (told : List Standing) → to' ≡ to
    → IsPlannedIn (forming_by packs page e size blocks) from o to told → IsPlannedIn (forming_by packs page e size blocks) from o to' told
planned_to packs page e size blocks from o to to' told same op = subst (λ (p : RowPoint). IsPlannedIn (forming_by packs page e size blocks) from o p told) (sym same) op

pub told_by : (e : Endian) (size size' : ℕ) (row row' : List Opening) (forms : List (List ℕ)) (told : List Standing) → size ≡ size' → row ≡ row' → told ≡ standings_in_shares e size (shares size row forms)
    → told ≡ standings_in_shares e size' (shares size' row' forms)
told_by e size size' row row' forms told size_is row_is is = is ∙ ap₂ (λ (n : ℕ) (r : List Opening). standings_in_shares e n (shares n r forms)) size_is row_is

pub left_by : (size size' : ℕ) (row row' left : List Opening) (forms : List (List ℕ)) → size ≡ size' → row ≡ row' → left ≡ row_after_all size row forms → left ≡ row_after_all size' row' forms
left_by size size' row row' left forms size_is row_is is = is ∙ ap₂ (λ (n : ℕ) (r : List Opening). row_after_all n r forms) size_is row_is

-- a walk through what is left of a session's row
pub open_row : (flash : Blocks) (size count : ℕ) (row row' : List Opening) → flash.size ≡ size → flash.count ≡ count → row ≡ row' → IsTrue (is_writable_flash size count) → AllByRecursion (IsOpen size count) row' → IsRowOpen flash row
open_row flash size count row row' size_is count_is same ok each =
    subst (λ (f : Blocks). IsRowOpen f row) (sym (flash_is flash size count size_is count_is))
    (record { writable = ok; each = subst (AllByRecursion (IsOpen size count)) (sym same) each })

pub address_by : (size size' : ℕ) (row row' : List Opening) → size ≡ size' → row ≡ row' → row_address size row ≡ row_address size' row'
address_by size size' row row' size_is row_is = ap₂ row_address size_is row_is
