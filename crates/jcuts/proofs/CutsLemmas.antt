-- Operations that are told one after another.
use Rattle.std.proofs.Common.{◌≡◌, ◌≢◌, ℕ, suc, ◌+◌, ◌<◌, ◌≤◌, ◌*◌, Bool, List, [], ◌∷◌, ◌++◌, length, get_or, refl, sym, ap, ap₂, subst, ◌∙◌, arith, inl, inr, length-append, Option, Some, None, Result, Ok, Err}
use Rattle.std.specs.Prelude.{IsTrue, IsOk, is_some}
use Rattle.std.specs.Io.KnownBytes.{Appends}
use Rattle.std.proofs.KnownBytes.{Appends-nil, Appends-trans}
use Rattle.std.proofs.lemmas.Bool.{cases_Bool}
use Rattle.std.proofs.lemmas.Grind.{flat_map-append}
use Rattle.std.proofs.lemmas.Option.{slice_get-get_or}
use Rattle.flashbase.specs.Device.{PutsPart, next_count}
use Rattle.flashbase.proofs.DeviceLemmas.{part_behind}
use Rattle.flashbase.specs.Sinks.{SinkChange}
use Rattle.jnode.specs.declared.order.Endian.{Endian}
use Rattle.jsteps.specs.Nodes.{Indexed}
use Rattle.jsteps.specs.declared.op.Op.{Op}
use Rattle.jscan.specs.declared.page.Page.{Page}
use Rattle.jsteps.specs.declared.step.Step.{Step}
use Rattle.jlog.specs.Places.{end_of_all, is_writable_flash}
use Rattle.jlog.specs.Running.{written}
use Rattle.jlog.specs.Session.{IsFresh}
use Rattle.jlog.specs.declared.fault.SessionFault.{SessionFault}
use Rattle.jlog.specs.declared.fault.SessionFault.TheVariants as session
use Rattle.jlog.specs.declared.start.Flash.{Flash}
use Rattle.jlog.proofs.CodeLemmas.{flash_limits}
use Rattle.jcuts.specs.Lines.{step_nodes, text_of_node, text_of_nodes, weak_count, end_text}
use Rattle.jcuts.specs.Planning.{CanPlan, IfFull}
use Rattle.jcuts.specs.Cuts.{Point, Asked, base_point, IsPlannedAt, IsCounted, told_of_op, TellsLeast, TellsOp, AdvancesTo, first_standings, first_nodes, first_text, last_text, AreAllTold, TellsOps, PutsCuts}
use Rattle.jcuts.specs.declared.cuts.Counts.{Counts}
use Rattle.jcuts.specs.declared.cuts.CutsFault.{CutsFault}
use Rattle.jcuts.specs.declared.cuts.CutsFault.TheVariants as told
use Rattle.jcuts.specs.declared.lines.StepNode.{StepNode}
use Rattle.jcuts.specs.declared.lines.Telling.{Telling}
use Rattle.jcuts.specs.declared.standing.Standing.{Standing}
use Rattle.jcuts.proofs.CountLemmas.{count_yes, count_no}
use Rattle.jcuts.proofs.JoinLemmas.{OneMore, next_standings, one_more, leads_nowhere, standings_long, count_on}

-- ---- records of equal parts

abbrev pub flash_by : ℕ → ℕ → Page → Flash
flash_by block blocks page = record { geometry = record { block = block }; blocks = blocks; page = page }

pub same_flash : (block block' blocks blocks' : ℕ) (page page' : Page) → block ≡ block' → blocks ≡ blocks' → page ≡ page'
    → flash_by block blocks page ≡ flash_by block' blocks' page'
same_flash block block' blocks blocks' page page' block_is blocks_is page_is =
    ap (λ (i : ℕ). flash_by i blocks page) block_is ∙ (ap (λ (i : ℕ). flash_by block' i page) blocks_is ∙ ap (λ (i : Page). flash_by block' blocks' i) page_is)

abbrev pub point_by : ℕ → Indexed → Point
point_by address index = record { address = address; index = index }

-- a log that goes on from its base does so there
pub fresh_point : (e : Endian) (flash : Flash) (size blocks : ℕ) (base image : List ℕ) (at : ℕ) (x : Indexed)
    → size ≡ flash.geometry.block → blocks ≡ flash.blocks → base ≡ image → IsFresh e size blocks base at x → point_by at x ≡ base_point e flash image
fresh_point e flash size blocks base image at x size_is blocks_is base_is is =
    let fresh : IsFresh e flash.geometry.block flash.blocks image at x =
    subst (λ (l : List ℕ). IsFresh e flash.geometry.block flash.blocks l at x) base_is
    (subst (λ (n : ℕ). IsFresh e flash.geometry.block n base at x) blocks_is (subst (λ (n : ℕ). IsFresh e n blocks base at x) size_is is)) in
    ap₂ (λ (a : ℕ) (y : Indexed). point_by a y) fresh.cursor_is fresh.index_is

-- ---- one more operation

abbrev pub is_weak_one : Standing → Bool
is_weak_one standing = is_some standing.weak

-- no more are weak than there are
pub weak_most : (list : List Standing) → weak_count list ≤ length list
weak_most [] = omega arith
weak_most (standing ∷ list) = elim (cases_Bool (is_some standing.weak)) [
  | inl weak ↦
      let one : weak_count (standing ∷ list) ≡ suc (weak_count list) = count_yes is_weak_one standing list weak in
      omega (arith, one, weak_most list)
  | inr sound ↦
      let none : weak_count (standing ∷ list) ≡ weak_count list = count_no is_weak_one standing list sound in
      omega (arith, none, weak_most list)
]

-- the numbers of nodes fit
pub counts_fit : (size blocks from at : ℕ) (list : List Standing) (counts : Counts) → IsTrue (is_writable_flash size blocks) → at ≤ blocks * size → from + counts.nodes ≤ at → IsCounted list counts
    → (counts.nodes ≤ 268435456) × (counts.weak ≤ 268435456)
counts_fit size blocks from at list counts ok within few counted =
    let small : blocks * size ≤ 268435456 = (flash_limits size blocks ok).small in
    let nodes : counts.nodes ≤ 268435456 = omega (arith, small, within, few) in
    let most : weak_count list ≤ length list = weak_most list in
    let weak_is : counts.weak ≡ weak_count list = counted.weak in
    let nodes_are : counts.nodes ≡ length list = counted.nodes in
    (nodes, omega (arith, nodes, most, weak_is, nodes_are))

-- So many operations were told.
pub record Told (e : Endian) (flash : Flash) (asked : Asked) (from : Point) (n : ℕ) (at : Point) (sink : SinkChange) (counts : Counts) : Type 0 where
  pub leads : AdvancesTo e flash from asked.ops n at
  pub put : Appends sink.old sink.new (first_text e flash asked from n)
  pub counted : IsCounted (first_standings e flash from asked.ops n) counts
  pub few : from.address + counts.nodes ≤ at.address
  pub failed : sink.now ≡ sink.before

pub none_told : (e : Endian) (flash : Flash) (asked : Asked) (from : Point) (taken : Option (List ℕ)) (failures : ℕ)
    → Told e flash asked from 0 from (record { old = taken; new = taken; before = failures; now = failures }) (record { nodes = 0; weak = 0 })
none_told e flash asked from taken failures = record {
  leads = leads_nowhere e flash from asked.ops;
  put = Appends-nil taken;
  counted = record { nodes = refl; weak = refl };
  few = omega arith;
  failed = refl;
}

-- the text after one more
text_more : (e : Endian) (flash : Flash) (asked : Asked) (from : Point) (n : ℕ) (at : Point) (steps : List Step) (to : Point) (line : ℕ) (nodes : List Standing)
    → OneMore e flash from asked.ops asked.lines n at steps to → line ≡ get_or asked.lines n 0 → nodes ≡ next_standings e flash at steps
    → first_text e flash asked from n ++ told_of_op asked.telling line nodes ≡ first_text e flash asked from (suc n)
text_more e flash asked from n at steps to line nodes more line_is nodes_are =
    let w : List (List ℕ) = written e at.index steps in
    let s : List Standing = next_standings e flash at steps in
    let long : length nodes ≡ length w = ap length nodes_are ∙ standings_long e flash.geometry.block at.address w in
    let here : step_nodes line (length nodes) 1 nodes ≡ step_nodes (get_or asked.lines n 0) (length w) 1 s =
    ap (λ (i : ℕ). step_nodes i (length nodes) 1 nodes) line_is
    ∙ (ap (λ (i : ℕ). step_nodes (get_or asked.lines n 0) i 1 nodes) long ∙ ap (λ (l : List Standing). step_nodes (get_or asked.lines n 0) (length w) 1 l) nodes_are) in
    ap (λ (l : List StepNode). first_text e flash asked from n ++ text_of_nodes asked.telling l) here
    ∙ (sym (flat_map-append (text_of_node asked.telling) _ _) ∙ ap (text_of_nodes asked.telling) (sym more.told))

-- what an operation that is accepted leads to
next_is : (e : Endian) (flash : Flash) (asked : Asked) (from : Point) (n : ℕ) (d o : Op) (at to : Point) (nodes : List Standing)
    → n < length asked.ops → length asked.lines ≡ length asked.ops → o ≡ get_or asked.ops n d → AdvancesTo e flash from asked.ops n at
    → (op : IsPlannedAt e flash at o to nodes) → OneMore e flash from asked.ops asked.lines n at op.steps to
next_is e flash asked from n d o at to nodes below same_long o_is leads op =
    one_more e flash from asked.ops asked.lines n d o at op.steps to below same_long o_is leads op.accepted op.cursor op.index

pub told_next : (e : Endian) (flash : Flash) (asked : Asked) (from : Point) (n : ℕ) (d o : Op) (at to : Point) (line : ℕ) (a b c : Option (List ℕ)) (f g h : ℕ) (counts more : Counts)
    → n < length asked.ops → length asked.lines ≡ length asked.ops → o ≡ get_or asked.ops n d → line ≡ get_or asked.lines n 0
    → Told e flash asked from n at (record { old = a; new = b; before = f; now = g }) counts
    → TellsOp e flash (record { telling = asked.telling; op = o; line = line }) at to (record { old = b; new = c; before = g; now = h }) (Ok more)
    → Told e flash asked from (suc n) to (record { old = a; new = c; before = f; now = h }) (record { nodes = counts.nodes + more.nodes; weak = counts.weak + more.weak })
told_next e flash asked from n d o at to line a b c f g h counts more below same_long o_is line_is first did =
    let nodes : List Standing = did.0 in
    let op : IsPlannedAt e flash at o to nodes = did.1 in
    let counted : IsCounted nodes more = did.2 in
    let one : OneMore e flash from asked.ops asked.lines n at op.steps to = next_is e flash asked from n d o at to nodes below same_long o_is first.leads op in
    let s : List Standing = next_standings e flash at op.steps in
    let earlier : List Standing = first_standings e flash from asked.ops n in
    let all : first_standings e flash from asked.ops (suc n) ≡ earlier ++ s = one.standings_are in
    let few : at.address + length nodes ≤ to.address = op.few in
    let some : more.nodes ≡ length nodes = counted.nodes in
    let upto : from.address + counts.nodes ≤ at.address = first.few in
    record {
      leads = one.leads;
      put = subst (Appends a c) (text_more e flash asked from n at op.steps to line nodes one line_is op.nodes) (Appends-trans a b c _ _ first.put did.3);
      counted = record {
        nodes = ap₂ (λ (i j : ℕ). i + j) first.counted.nodes (counted.nodes ∙ ap length op.nodes) ∙ (sym (length-append earlier s) ∙ ap length (sym all));
        weak = ap₂ (λ (i j : ℕ). i + j) first.counted.weak (counted.weak ∙ ap weak_count op.nodes) ∙ (sym (count_on is_weak_one earlier s) ∙ ap weak_count (sym all));
      };
      few = omega (arith, few, some, upto);
      failed = did.4 ∙ first.failed;
    }

-- the numbers fit then too
pub next_fits : (e : Endian) (flash : Flash) (asked : Asked) (from : Point) (n : ℕ) (d o : Op) (at to : Point) (line : ℕ) (a b c : Option (List ℕ)) (f g h : ℕ) (counts more : Counts) (page size blocks : ℕ)
    → n < length asked.ops → length asked.lines ≡ length asked.ops → o ≡ get_or asked.ops n d → line ≡ get_or asked.lines n 0
    → Told e flash asked from n at (record { old = a; new = b; before = f; now = g }) counts
    → TellsOp e flash (record { telling = asked.telling; op = o; line = line }) at to (record { old = b; new = c; before = g; now = h }) (Ok more)
    → CanPlan page size blocks to.address to.index
    → (counts.nodes + more.nodes ≤ 268435456) × (counts.weak + more.weak ≤ 268435456)
next_fits e flash asked from n d o at to line a b c f g h counts more page size blocks below same_long o_is line_is first did can =
    let next = told_next e flash asked from n d o at to line a b c f g h counts more below same_long o_is line_is first did in
    counts_fit size blocks from.address to.address (first_standings e flash from asked.ops (suc n)) (record { nodes = counts.nodes + more.nodes; weak = counts.weak + more.weak })
    can.flash can.going.within next.few next.counted

-- one that is declined, or at which the sink failed
pub told_stop : (e : Endian) (flash : Flash) (asked : Asked) (from : Point) (n : ℕ) (d o : Op) (at to : Point) (line : ℕ) (a b c : Option (List ℕ)) (f g h : ℕ) (counts : Counts) (fault : CutsFault)
    → n < length asked.ops → length asked.lines ≡ length asked.ops → o ≡ get_or asked.ops n d → line ≡ get_or asked.lines n 0
    → Told e flash asked from n at (record { old = a; new = b; before = f; now = g }) counts
    → TellsOp e flash (record { telling = asked.telling; op = o; line = line }) at to (record { old = b; new = c; before = g; now = h }) (Err fault)
    → TellsOps e flash asked from to (record { old = a; new = c; before = f; now = h }) (Err fault)
told_stop e flash asked from n d o at to line a b c f g h counts (told.Session fault None blocks) below same_long o_is line_is first did = absurd did
told_stop e flash asked from n d o at to line a b c f g h counts (told.Session fault (Some l) blocks) below same_long o_is line_is first did =
    let within : n < length asked.lines = omega (arith, same_long, below) in (
      n,
      record {
        at = at;
        next = o;
        leads = first.leads;
        is_next = slice_get-get_or asked.ops n d below ∙ ap Some (sym o_is);
        line_is = slice_get-get_or asked.lines n 0 within ∙ ap Some (sym (did.0 ∙ line_is));
        declines = did.1;
      },
      subst (λ (t : Option (List ℕ)). Appends a t (first_text e flash asked from n)) (sym did.2) first.put,
      did.3 ∙ first.failed,
      did.4,
    )
told_stop e flash asked from n d o at to line a b c f g h counts told.Output below same_long o_is line_is first did =
    let nodes : List Standing = did.0 in
    let op : IsPlannedAt e flash at o to nodes = did.1 in
    let one : OneMore e flash from asked.ops asked.lines n at op.steps to = next_is e flash asked from n d o at to nodes below same_long o_is first.leads op in (
      suc n,
      (to, one.leads),
      subst (PutsPart a c) (text_more e flash asked from n at op.steps to line nodes one line_is op.nodes)
          (part_behind a b c (first_text e flash asked from n) (told_of_op asked.telling line nodes) first.put did.2),
      did.3 ∙ ap next_count first.failed,
    )

pub all_told : (e : Endian) (flash : Flash) (asked : Asked) (from : Point) (n : ℕ) (at : Point) (sink : SinkChange) (counts : Counts)
    → n ≡ length asked.ops → Told e flash asked from n at sink counts → AreAllTold e flash asked from at sink counts
all_told e flash asked from n at sink counts all first = record {
  leads = subst (λ (i : ℕ). AdvancesTo e flash from asked.ops i at) all first.leads;
  counted = subst (λ (i : ℕ). IsCounted (first_standings e flash from asked.ops i) counts) all first.counted;
  put = subst (λ (i : ℕ). Appends sink.old sink.new (first_text e flash asked from i)) all first.put;
  failed = first.failed;
}

-- the blocks that it needs, told of a log that stayed where it was
pub least_at : {X : Type 0} (e : Endian) (flash' flash : Flash) (address' address : ℕ) (x' x : Indexed) (o : Op) (f : SessionFault) (blocks : Result (Option ℕ) X) → flash' ≡ flash
    → IfFull f ((address' ≡ address) × (x' ≡ x)) → TellsLeast e flash' (point_by address' x') o f blocks → TellsLeast e flash (point_by address x) o f blocks
least_at {X = X} e flash' flash address' address x' x o (session.Full wanted left) blocks flash_is stays least =
    subst (λ (z : Flash). TellsLeast {X = X} e z (point_by address x) o (session.Full wanted left) blocks) flash_is
    (subst (λ (y : Indexed). TellsLeast {X = X} e flash' (point_by address y) o (session.Full wanted left) blocks) stays.1
    (subst (λ (a : ℕ). TellsLeast {X = X} e flash' (point_by a x') o (session.Full wanted left) blocks) stays.0 least))
least_at e flash' flash address' address x' x o (session.Refused g) blocks flash_is stays least = least
least_at e flash' flash address' address x' x o session.ReadOnly blocks flash_is stays least = least
least_at e flash' flash address' address x' x o session.Sink blocks flash_is stays least = least
least_at e flash' flash address' address x' x o session.OutOfMemory blocks flash_is stays least = least
least_at e flash' flash address' address x' x o session.Broken blocks flash_is stays least = least
least_at e flash' flash address' address x' x o session.Geometry blocks flash_is stays least = least

-- ---- all of them

pub cuts_stop : (e : Endian) (flash : Flash) (base : List ℕ) (asked : Asked) (to : Point) (sink : SinkChange) (fault : CutsFault)
    → TellsOps e flash asked (base_point e flash base) to sink (Err fault) → PutsCuts e flash base asked sink (Err fault)
cuts_stop e flash base asked to sink (told.Session fault None blocks) did = absurd did
cuts_stop e flash base asked to sink (told.Session fault (Some l) blocks) did = did
cuts_stop e flash base asked to sink told.Output did = inl did

-- the last text by the numbers that are known
last_is : (e : Endian) (flash : Flash) (asked : Asked) (from to : Point) (sink : SinkChange) (counts : Counts) → AreAllTold e flash asked from to sink counts
    → end_text asked.telling (length asked.ops) counts.nodes from.address to.address counts.weak ≡ last_text e flash asked from
last_is e flash asked from to sink counts all =
    let n : ℕ = length asked.ops in
    let nodes : List Standing = first_standings e flash from asked.ops n in
    ap (λ (i : ℕ). end_text asked.telling n i from.address to.address counts.weak) all.counted.nodes
    ∙ (ap (λ (i : ℕ). end_text asked.telling n (length nodes) from.address i counts.weak) all.leads.address
    ∙ ap (λ (i : ℕ). end_text asked.telling n (length nodes) from.address (end_of_all flash.geometry.block from.address (first_nodes e flash from asked.ops n)) i) all.counted.weak)

pub cuts_end : (e : Endian) (flash : Flash) (base : List ℕ) (asked : Asked) (to : Point) (a b c : Option (List ℕ)) (f g h : ℕ) (counts : Counts)
    → AreAllTold e flash asked (base_point e flash base) to (record { old = a; new = b; before = f; now = g }) counts
    → Appends b c (end_text asked.telling (length asked.ops) counts.nodes (base_point e flash base).address to.address counts.weak) → h ≡ g
    → PutsCuts e flash base asked (record { old = a; new = c; before = f; now = h }) (Ok counts.weak)
cuts_end e flash base asked to a b c f g h counts all put same = record {
  to = to;
  leads = all.leads;
  counted = all.counted.weak;
  put = Appends-trans a b c _ _ all.put (subst (Appends b c) (last_is e flash asked (base_point e flash base) to _ counts all) put);
  failed = same ∙ all.failed;
}

pub cuts_end_failed : (e : Endian) (flash : Flash) (base : List ℕ) (asked : Asked) (to : Point) (a b c : Option (List ℕ)) (f g h : ℕ) (counts : Counts)
    → AreAllTold e flash asked (base_point e flash base) to (record { old = a; new = b; before = f; now = g }) counts
    → PutsPart b c (end_text asked.telling (length asked.ops) counts.nodes (base_point e flash base).address to.address counts.weak) → h ≡ next_count g
    → PutsCuts e flash base asked (record { old = a; new = c; before = f; now = h }) (Err told.Output)
cuts_end_failed e flash base asked to a b c f g h counts all part failed = inr (
  (to, all.leads),
  part_behind a b c _ _ all.put (subst (PutsPart b c) (last_is e flash asked (base_point e flash base) to _ counts all) part),
  failed ∙ ap next_count all.failed,
)

-- ---- the same at equal values

pub ops_at : (e : Endian) (flash' flash : Flash) (asked : Asked) (from' from to : Point) (sink : SinkChange) (r : Result Counts CutsFault) → flash' ≡ flash → from' ≡ from
    → TellsOps e flash' asked from' to sink r → TellsOps e flash asked from to sink r
ops_at e flash' flash asked from' from to sink r flash_is from_is did =
    subst (λ (f : Flash). TellsOps e f asked from to sink r) flash_is (subst (λ (p : Point). TellsOps e flash' asked p to sink r) from_is did)

pub end_at : (telling : Telling) (ops nodes from' from end' end weak : ℕ) → from' ≡ from → end' ≡ end
    → end_text telling ops nodes from' end' weak ≡ end_text telling ops nodes from end weak
end_at telling ops nodes from' from end' end weak from_is end_is =
    ap (λ (i : ℕ). end_text telling ops nodes i end' weak) from_is ∙ ap (λ (i : ℕ). end_text telling ops nodes from i weak) end_is
