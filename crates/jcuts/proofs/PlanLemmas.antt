-- Planning an operation.
use Rattle.std.proofs.Common.{◌≡◌, ℕ, ◌+◌, ◌*◌, ◌%◌, ◌<◌, ◌≤◌, Bool, List, [], ◌∷◌, ◌++◌, length, map, refl, sym, ap, subst, ◌∙◌, arith, inl, Option, Some, Ok, Err}
use Rattle.std.specs.Prelude.{IsTrue, IsFalse, nat_le, nat_lt, ◌&&◌, ◌==◌}
use Rattle.std.specs.List.{AllByRecursion, list_all}
use Rattle.std.specs.Io.KnownBytes.{Appends}
use Rattle.std.proofs.lemmas.Bool.{and_parts, both_ways, leb-true, eqb-true}
use Rattle.flashbase.proofs.BytesLemmas.{le_pad4}
use Rattle.jnode.specs.Weak.{IsWrittenForm}
use Rattle.jnode.specs.declared.order.Endian.{Endian}
use Rattle.jnode.proofs.WritingLemmas.{writable_is_computed}
use Rattle.jscan.specs.Image.{is_block_size, greatest_image}
use Rattle.jsteps.specs.Nodes.{Indexed, node_of, advanced, advanced_all}
use Rattle.jscan.specs.Pages.{IsPage, page_size}
use Rattle.jsteps.specs.Laws.{OpFits}
use Rattle.jsteps.specs.declared.op.Op.{Op}
use Rattle.jscan.specs.declared.page.Page.{Page}
use Rattle.jsteps.specs.declared.step.Step.{Step}
use Rattle.jlog.specs.Places.{place_after, end_after, places, end_of_all, is_writable_flash}
use Rattle.jlog.specs.Output.{output}
use Rattle.jlog.specs.Laws.{FitsBlock}
use Rattle.jlog.specs.Running.{written, places_of, CanWriteAll}
use Rattle.jlog.proofs.Parts.{flash_by, AppliesBy, WrittenBy}
use Rattle.jlog.specs.Session.{IsAccepted, Declines}
use Rattle.jlog.specs.declared.report.Place.{Place}
use Rattle.jlog.specs.declared.fault.SessionFault.{SessionFault}
use Rattle.jlog.specs.declared.fault.SessionFault.TheVariants as fault
use Rattle.jlog.proofs.CodeLemmas.{flash_limits}
use Rattle.jlog.proofs.PlaceLemmas.{place_is_least}
use Rattle.jlog.proofs.RunLemmas.{can_plan, going_on}
use Rattle.jlog.proofs.RunningLemmas.{can_room}
use Rattle.jcuts.specs.Standing.{standings, standing_in, IsNodeIn}
use Rattle.jcuts.specs.Planning.{CanPlan, IfFull, IsPlannedOp, without_sink}
use Rattle.jcuts.specs.declared.standing.Standing.{Standing}
use Rattle.jcuts.proofs.HeldLemmas.{EndsBelow, nodes_are_in, standings_are_in}
use Rattle.jcuts.proofs.JoinLemmas.{standings_long}

-- a block has a whole number of words
pub flash_words : (size blocks : ℕ) → IsTrue (is_writable_flash size blocks) → size % 4 ≡ 0
flash_words size blocks ok =
    let last = and_parts (is_block_size size && nat_le 8192 size && nat_lt 0 blocks) (nat_le (blocks * size) greatest_image) ok in
    let some = and_parts (is_block_size size && nat_le 8192 size) (nat_lt 0 blocks) last.0 in
    let sizes = and_parts (is_block_size size) (nat_le 8192 size) some.0 in
    let both = and_parts (nat_le 4096 size && nat_le size 4194304) (size % 4 == 0) sizes.0 in
    eqb-true _ _ both.1

-- the bytes of steps that can be written are those of nodes
nodes_written : (page : ℕ) (e : Endian) (x : Indexed) (steps : List Step) → CanWriteAll page e x steps → AllByRecursion (IsWrittenForm e) (written e x steps)
nodes_written page e x [] can = tt
nodes_written page e x (s ∷ steps) can = (
  inl (node_of x s, record { form = refl; fits = can.0.node.fits; writable = (writable_is_computed (node_of x s)).0 can.0.node.writable }),
  nodes_written page e (advanced x s) steps can.1,
)

-- those that fit end within the flash
pub ends_below : (limit bound : ℕ) (ps : List (ℕ × ℕ)) → bound < limit → IsTrue (list_all (λ place. nat_le (place.0 + place.1) bound) ps) → EndsBelow limit ps
ends_below limit bound [] small fits = tt
ends_below limit bound (place ∷ ps) small fits =
    let both = and_parts (nat_le (place.0 + place.1) bound) (list_all (λ (place : ℕ × ℕ). nat_le (place.0 + place.1) bound) ps) fits in
    let within : place.0 + place.1 ≤ bound = leb-true _ _ both.0 in
    (omega arith, ends_below limit bound ps small both.1)

-- each node takes a byte at least
pub nodes_most : (size from : ℕ) (nodes : List (List ℕ)) → size % 4 ≡ 0 → AllByRecursion (FitsBlock size) nodes → from + length nodes ≤ end_of_all size from nodes
nodes_most size from [] words ok = omega arith
nodes_most size from (node ∷ nodes) words ok =
    let len : ℕ = length node in
    let up : from ≤ place_after size from len = (place_is_least size from len words ok.0.some ok.0.within).place.upwards in
    let rest : end_after size from len + length nodes ≤ end_of_all size (end_after size from len) nodes = nodes_most size (end_after size from len) nodes words ok.1 in
    omega (arith, le_pad4 len, ok.0.some)

-- an operation is accepted, by the parts of its flash
abbrev pub PlannedOpBy : ℕ → Endian → ℕ → ℕ → ℕ → Indexed → Op → ℕ → Indexed → List Standing → Type 0
PlannedOpBy page e size blocks from x o end y told = IsPlannedOp (flash_by page e size blocks) from x o end y told

-- What was held after one operation was applied to a log that held nothing.
pub record Planned (page : ℕ) (e : Endian) (size blocks from : ℕ) (x : Indexed) (o : Op) (end : ℕ) (y : Indexed) (out : List ℕ) (places : List Place) : Type 0 where
  pub in_it : AllByRecursion (IsNodeIn e from out) places
  pub planned : PlannedOpBy page e size blocks from x o end y (map (standing_in e from out) places)
  pub can : CanPlan page size blocks end y

planned_by : (page : ℕ) (e : Endian) (size blocks from : ℕ) (x : Indexed) (o : Op) (end : ℕ) (y : Indexed) (steps : List Step)
    → IsPage page → OpFits o → CanPlan page size blocks from x → IsAccepted page e size blocks from x o steps
    → end ≡ end_of_all size from (written e x steps) → y ≡ advanced_all x steps
    → Planned page e size blocks from x o end y (output e size from (written e x steps)) (places_of e size from x steps)
planned_by page e size blocks from x o end y steps is_page fits can acc end_is y_is =
    let nodes : List (List ℕ) = written e x steps in
    let limits = flash_limits size blocks can.flash in
    let words : size % 4 ≡ 0 = flash_words size blocks can.flash in
    let both = can_plan page e x o steps is_page can.going.consistent fits acc.planned in
    let room : AllByRecursion (FitsBlock size) nodes = can_room page e size x steps is_page can.holds both.0 in
    let low : EndsBelow 0x1_0000_0000 (places size from nodes) = ends_below 0x1_0000_0000 (blocks * size) (places size from nodes) (omega (arith, limits.small)) acc.fits in
    let nothing : from + length {A = ℕ} [] ≡ from = omega arith in
    let told_is : map (standing_in e from (output e size from nodes)) (places_of e size from x steps) ≡ standings e size from nodes = standings_are_in e size from from [] nodes words room nothing in
    let few : from + length (standings e size from nodes) ≤ end = omega (arith, standings_long e size from nodes, nodes_most size from nodes words room, end_is) in
    record {
      in_it = nodes_are_in e size from from [] nodes words room (nodes_written page e x steps both.0) low nothing;
      planned = record {
        steps = steps;
        accepted = acc;
        cursor = end_is;
        index = y_is;
        nodes = told_is;
        few = subst (λ (l : List Standing). from + length l ≤ end) (sym told_is) few;
      };
      can = record { flash = can.flash; holds = can.holds; going = going_on page e size blocks from end x y steps is_page can.holds words can.going both.0 acc.fits both.1 end_is y_is };
    }

pub planned_op : {T : Type 0} (u : T) (page : ℕ) (e : Endian) (size blocks from : ℕ) (x : Indexed) (o : Op) (was : Bool) (end : ℕ) (y : Indexed) (is : Bool) (old new : Option (List ℕ)) (failures now : ℕ) (before after : List Place)
    (out : List ℕ) → IsPage page → OpFits o → CanPlan page size blocks from x → old ≡ Some [] → new ≡ Some out → before ≡ []
    → AppliesBy page e size blocks from x o was end y is old new failures now before after (Ok u)
    → Planned page e size blocks from x o end y out after
planned_op u page e size blocks from x o was end y is old new failures now before after out is_page fits can none held no_places did =
    let steps : List Step = did.2.0 in
    let wrote : WrittenBy e size from x steps end y old new before after = did.2.2 in
    let bytes : out ≡ output e size from (written e x steps) =
    subst (λ (n : Option (List ℕ)). Appends (Some []) n (output e size from (written e x steps))) held
    (subst (λ (m : Option (List ℕ)). Appends m new (output e size from (written e x steps))) none wrote.bytes) in
    let places_are : after ≡ places_of e size from x steps = wrote.places ∙ ap (λ (l : List Place). l ++ places_of e size from x steps) no_places in
    subst (λ (l : List Place). Planned page e size blocks from x o end y out l) (sym places_are)
    (subst (λ (l : List ℕ). Planned page e size blocks from x o end y l (places_of e size from x steps)) (sym bytes)
    (planned_by page e size blocks from x o end y steps is_page fits can did.2.1 wrote.cursor wrote.index))

-- An operation that was not applied is declined.
pub declined_op : (T : Type 0) (page : ℕ) (e : Endian) (size blocks from : ℕ) (x : Indexed) (o : Op) (was : Bool) (end : ℕ) (y : Indexed) (is : Bool) (old new : Option (List ℕ)) (failures now : ℕ) (before after : List Place) (f : SessionFault)
    → IsFalse was → AppliesBy {T = T} page e size blocks from x o was end y is old new failures now before after (Err f) → Declines page e size blocks from x o (without_sink f)
declined_op T page e size blocks from x o was end y is old new failures now before after (fault.Refused g) whole did = did.1
declined_op T page e size blocks from x o was end y is old new failures now before after (fault.Full w l) whole did = did.1
declined_op T page e size blocks from x o was end y is old new failures now before after fault.Sink whole did = tt
declined_op T page e size blocks from x o was end y is old new failures now before after fault.OutOfMemory whole did = tt
declined_op T page e size blocks from x o was end y is old new failures now before after fault.Broken whole did = absurd (both_ways was whole did.0)
declined_op T page e size blocks from x o was end y is old new failures now before after fault.ReadOnly whole did = absurd did
declined_op T page e size blocks from x o was end y is old new failures now before after fault.Geometry whole did = absurd did

-- Where room was wanting, the log is as it was.
pub stays_op : (T : Type 0) (page : ℕ) (e : Endian) (size blocks from : ℕ) (x : Indexed) (o : Op) (was : Bool) (end : ℕ) (y : Indexed) (is : Bool) (old new : Option (List ℕ)) (failures now : ℕ) (before after : List Place) (f : SessionFault)
    → AppliesBy {T = T} page e size blocks from x o was end y is old new failures now before after (Err f) → IfFull (without_sink f) ((end ≡ from) × (y ≡ x))
stays_op T page e size blocks from x o was end y is old new failures now before after (fault.Full w l) did = (did.2.cursor, did.2.index)
stays_op T page e size blocks from x o was end y is old new failures now before after (fault.Refused g) did = tt
stays_op T page e size blocks from x o was end y is old new failures now before after fault.Sink did = tt
stays_op T page e size blocks from x o was end y is old new failures now before after fault.OutOfMemory did = tt
stays_op T page e size blocks from x o was end y is old new failures now before after fault.Broken did = tt
stays_op T page e size blocks from x o was end y is old new failures now before after fault.ReadOnly did = tt
stays_op T page e size blocks from x o was end y is old new failures now before after fault.Geometry did = tt

-- ---- the same at equal values

pub nodes_at : (e : Endian) (from from' : ℕ) (out out' : List ℕ) (ps ps' : List Place) → from' ≡ from → out' ≡ out → ps' ≡ ps
    → AllByRecursion (IsNodeIn e from out) ps → AllByRecursion (IsNodeIn e from' out') ps'
nodes_at e from from' out out' ps ps' from_is out_is ps_is in_it =
    subst (λ (l : List Place). AllByRecursion (IsNodeIn e from' out') l) (sym ps_is)
    (subst (λ (l : List ℕ). AllByRecursion (IsNodeIn e from' l) ps) (sym out_is)
    (subst (λ (i : ℕ). AllByRecursion (IsNodeIn e i out) ps) (sym from_is) in_it))

pub standings_at : (e : Endian) (from from' : ℕ) (out out' : List ℕ) (ps ps' : List Place) → from' ≡ from → out' ≡ out → ps' ≡ ps
    → map (standing_in e from' out') ps' ≡ map (standing_in e from out) ps
standings_at e from from' out out' ps ps' from_is out_is ps_is =
    ap (λ (l : List Place). map (standing_in e from' out') l) ps_is
    ∙ (ap (λ (l : List ℕ). map (standing_in e from' l) ps) out_is ∙ ap (λ (i : ℕ). map (standing_in e i out) ps) from_is)

pub planned_at : (page : ℕ) (e : Endian) (size blocks from : ℕ) (x : Indexed) (o : Op) (end end' : ℕ) (y y' : Indexed) (told told' : List Standing) → end' ≡ end → y' ≡ y → told' ≡ told
    → PlannedOpBy page e size blocks from x o end y told → PlannedOpBy page e size blocks from x o end' y' told'
planned_at page e size blocks from x o end end' y y' told told' end_is y_is told_is op =
    subst (λ (l : List Standing). PlannedOpBy page e size blocks from x o end' y' l) (sym told_is)
    (subst (λ (z : Indexed). PlannedOpBy page e size blocks from x o end' z told) (sym y_is)
    (subst (λ (i : ℕ). PlannedOpBy page e size blocks from x o i y told) (sym end_is) op))

pub can_at : (page page' : Page) (size size' blocks blocks' from from' : ℕ) (x x' : Indexed) → page' ≡ page → size' ≡ size → blocks' ≡ blocks → from' ≡ from → x' ≡ x
    → CanPlan (page_size page) size blocks from x → CanPlan (page_size page') size' blocks' from' x'
can_at page page' size size' blocks blocks' from from' x x' page_is size_is blocks_is from_is x_is can =
    subst (λ (p : Page). CanPlan (page_size p) size' blocks' from' x') (sym page_is)
    (subst (λ (i : ℕ). CanPlan (page_size page) i blocks' from' x') (sym size_is)
    (subst (λ (i : ℕ). CanPlan (page_size page) size i from' x') (sym blocks_is)
    (subst (λ (i : ℕ). CanPlan (page_size page) size blocks i x') (sym from_is)
    (subst (λ (z : Indexed). CanPlan (page_size page) size blocks from z) (sym x_is) can))))
