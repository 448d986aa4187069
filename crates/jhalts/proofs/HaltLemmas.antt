-- Operations that are told one after another, in forms that go out to openings.
use Rattle.std.proofs.Common.{◌≡◌, ℕ, suc, ◌+◌, ◌*◌, ◌<◌, ◌≤◌, false, List, [], ◌∷◌, ◌++◌, length, map, take, get_or, refl, sym, ap, ap₂, subst, ◌∙◌, arith, inl, inr, length-append, Option, Some, None, Result, Ok, Err}
use Rattle.std.specs.Prelude.{IsTrue}
use Rattle.std.specs.Io.KnownBytes.{Appends}
use Rattle.std.proofs.KnownBytes.{Appends-nil, Appends-trans}
use Rattle.std.proofs.lemmas.Grind.{flat_map-append}
use Rattle.std.proofs.lemmas.List.{length-take-le}
use Rattle.std.proofs.lemmas.Option.{slice_get-get_or}
use Rattle.flashbase.specs.Device.{PutsPart, next_count}
use Rattle.flashbase.specs.Sinks.{SinkChange}
use Rattle.flashbase.proofs.DeviceLemmas.{part_behind}
use Rattle.jnode.specs.declared.order.Endian.{Endian}
use Rattle.jsteps.specs.Nodes.{Indexed, advanced_all}
use Rattle.jsteps.specs.Refusals.{planned_by, plans_of, steps_of_first}
use Rattle.jsteps.specs.declared.op.Op.{Op}
use Rattle.jsteps.specs.declared.step.Step.{Step}
use Rattle.jview.specs.Through.{greatest_contents}
use Rattle.jlog.specs.Places.{is_writable_flash}
use Rattle.jlog.specs.Running.{shown_place}
use Rattle.jlog.specs.SessionAs.{content_len}
use Rattle.jlog.specs.declared.report.Place.{Place}
use Rattle.jpacked.proofs.MadeLemmas.{contents_on}
use Rattle.jpacked.proofs.PlainLemmas.{none_by}
use Rattle.jcuts.specs.Cuts.{Asked, AskedOne, IsCounted, told_of_op}
use Rattle.jcuts.specs.Lines.{step_nodes, text_of_node, text_of_nodes, weak_count, end_text}
use Rattle.jcuts.specs.declared.cuts.Counts.{Counts}
use Rattle.jcuts.specs.declared.cuts.CutsFault.{CutsFault}
use Rattle.jcuts.specs.declared.cuts.CutsFault.TheVariants as told
use Rattle.jcuts.specs.declared.lines.StepNode.{StepNode}
use Rattle.jcuts.specs.declared.standing.Standing.{Standing}
use Rattle.jcuts.proofs.CutsLemmas.{counts_fit, is_weak_one}
use Rattle.jcuts.proofs.JoinLemmas.{count_on, plan_more}
use Rattle.jrests.specs.Shares.{places_in, shares}
use Rattle.jrests.specs.declared.opening.Opening.{Opening}
use Rattle.jopenings.specs.After.{row_after_all}
use Rattle.jopenings.proofs.AfterLemmas.{none_fit, no_places}
use Rattle.jupdate.proofs.RunLemmas.{AppliesBy, RunBy, run_more}
use Rattle.jstops.specs.FormLines.{forms_told}
use Rattle.jstops.specs.Planned.{Forming}
use Rattle.jstops.proofs.FormLemmas.{as_many}
use Rattle.jstops.proofs.ToldLemmas.{told_more}
use Rattle.jhalts.specs.Halts.{AreRowFormsTold, PutsHalts, TellsHalt, TellsHalts}
use Rattle.jhalts.specs.InRow.{IsPlannedIn, RowPoint, row_standings}
use Rattle.jhalts.specs.InShares.{row_address, standings_in_shares}
use Rattle.jhalts.specs.RowLines.{AdvancesIn, all_row_text, first_row_told, last_row_text, row_text}
use Rattle.jhalts.proofs.StandingLemmas.{no_standings, standings_go_on, standings_many}

-- ---- one more operation

-- a run of a session whose sink does not tell
as_run : (on : Forming) (from : RowPoint) (ops : List Op) (n : ℕ) (forms : List (List ℕ)) (at : RowPoint) → AdvancesIn on from ops n forms at
    → RunBy on.packs from.held on.flash.page on.flash.order on.flash.size on.flash.blocks from.row from.index ops n forms at.row at.index None None (map shown_place (places_in on.flash.size (shares on.flash.size from.row forms)))
as_run on from ops n forms at leads = record {
  planned = leads.planned;
  are = leads.are;
  fits = leads.fits;
  contents = omega (arith, leads.held, leads.contents);
  wrote = record { row = leads.row; index = leads.index; bytes = tt; places = refl };
}

applied : (on : Forming) (at : RowPoint) (o : Op) (to : RowPoint) (nodes : List Standing) (before : List Place) → (op : IsPlannedIn on at o to nodes)
    → AppliesBy {T = Unit {0}} on.packs at.held on.flash.page on.flash.order on.flash.size on.flash.blocks at.row at.index o false to.row to.index false None None 0 0 before
    (before ++ map shown_place (places_in on.flash.size (shares on.flash.size at.row op.forms))) (Ok (tt {0}))
applied on at o to nodes before op = (
  refl,
  refl,
  (
    op.steps,
    op.forms,
    record { planned = op.taken.planned; are = op.taken.are; fits = op.taken.fits; contents = op.taken.contents },
    record { row = op.row; index = op.index; bytes = tt; places = refl },
  ),
  refl,
)

pub leads_nowhere : (on : Forming) (from : RowPoint) (ops : List Op) → from.held ≤ greatest_contents → AdvancesIn on from ops 0 [] from
leads_nowhere on from ops within = record {
  planned = omega arith;
  are = none_by on.packs on.flash.order;
  fits = none_fit on.flash.size from.row;
  row = refl;
  index = refl;
  held = omega arith;
  contents = within;
}

leads_on : (on : Forming) (from : RowPoint) (ops : List Op) (n : ℕ) (d o : Op) (forms : List (List ℕ)) (at to : RowPoint) (nodes : List Standing)
    → n < length ops → o ≡ get_or ops n d → AdvancesIn on from ops n forms at → (op : IsPlannedIn on at o to nodes) → AdvancesIn on from ops (suc n) (forms ++ op.forms) to
unfolding applied
leads_on on from ops n d o forms at to nodes below o_is leads op =
    let e : Endian = on.flash.order in
    let before : List Place = map shown_place (places_in on.flash.size (shares on.flash.size from.row forms)) in
    let after : List Place = before ++ map shown_place (places_in on.flash.size (shares on.flash.size at.row op.forms)) in
    let run = run_more {T = Unit {0}} (tt {0}) on.packs from.held at.held on.flash.page e on.flash.size on.flash.blocks from.row from.index ops n d o forms at.row to.row at.index to.index false false
    None None None 0 0 before after below o_is leads.held (as_run on from ops n forms at leads) (applied on at o to nodes before op) in
    let held_is : to.held ≡ from.held + content_len on.flash.order (forms ++ op.forms) = omega (arith, op.held, leads.held, contents_on on.flash.order forms op.forms) in
    let within : from.held + content_len on.flash.order (forms ++ op.forms) ≤ greatest_contents = run.contents in
    record {
      planned = run.planned;
      are = run.are;
      fits = run.fits;
      row = run.wrote.row;
      index = run.wrote.index;
      held = held_is;
      contents = omega (arith, held_is, within);
    }

-- what is told of one more
pub record OneMore (on : Forming) (asked : Asked) (from : RowPoint) (n : ℕ) (forms : List (List ℕ)) (line : ℕ) (more : List (List ℕ)) (to : RowPoint) (nodes : List Standing) : Type 0 where
  pub leads : AdvancesIn on from asked.ops (suc n) (forms ++ more) to
  pub standings_are : row_standings on from (forms ++ more) ≡ row_standings on from forms ++ nodes
  pub text : row_text on asked from n forms ++ told_of_op asked.telling line nodes ≡ row_text on asked from (suc n) (forms ++ more)

pub one_more : (on : Forming) (asked : Asked) (from : RowPoint) (n : ℕ) (d o : Op) (forms : List (List ℕ)) (line : ℕ) (at to : RowPoint) (nodes : List Standing)
    → n < length asked.ops → length asked.lines ≡ length asked.ops → o ≡ get_or asked.ops n d → line ≡ get_or asked.lines n 0
    → AdvancesIn on from asked.ops n forms at → (op : IsPlannedIn on at o to nodes) → OneMore on asked from n forms line op.forms to nodes
one_more on asked from n d o forms line at to nodes below same_long o_is line_is leads op =
    let page : ℕ = on.flash.page in
    let size : ℕ = on.flash.size in
    let e : Endian = on.flash.order in
    let x : Indexed = from.index in
    let all : List (List Step) = plans_of page x asked.ops in
    let plans : List (List Step) = take n all in
    let first : List Step = steps_of_first page x asked.ops n in
    let steps : List Step = op.steps in
    let earlier : List Standing = row_standings on from forms in
    let planned : planned_by page (advanced_all x first) (get_or asked.ops n d) ≡ Ok steps =
    subst (λ (v : Indexed). planned_by page v (get_or asked.ops n d) ≡ Ok steps) leads.index (subst (λ (p : Op). planned_by page at.index p ≡ Ok steps) o_is op.taken.planned) in
    let all_plans : take (suc n) all ≡ plans ++ steps ∷ [] = plan_more page x asked.ops n d steps below leads.planned planned in
    let many : length plans ≡ n = length-take-le n all leads.planned in
    let are : row_standings on from (forms ++ op.forms) ≡ earlier ++ nodes =
    standings_go_on e size from.row forms op.forms leads.fits
    ∙ ap (λ (l : List Standing). earlier ++ l) (ap (λ (r : List Opening). standings_in_shares e size (shares size r op.forms)) (sym leads.row) ∙ sym op.nodes) in
    let long : length earlier ≡ length first = standings_many e size from.row forms leads.fits ∙ as_many on.packs e x first forms leads.are in
    let here : length nodes ≡ length steps = ap length op.nodes ∙ (standings_many e size at.row op.forms op.taken.fits ∙ as_many on.packs e at.index steps op.forms op.taken.are) in
    let told_is : forms_told (plans ++ steps ∷ []) asked.lines (earlier ++ nodes) ≡ forms_told plans asked.lines earlier ++ step_nodes (get_or asked.lines (length plans) 0) (length steps) 1 nodes =
    told_more plans steps asked.lines earlier nodes (omega (arith, many, same_long, below)) long here in
    let last : step_nodes (get_or asked.lines (length plans) 0) (length steps) 1 nodes ≡ step_nodes line (length nodes) 1 nodes =
    ap (λ (i : ℕ). step_nodes (get_or asked.lines i 0) (length steps) 1 nodes) many
    ∙ (ap (λ (i : ℕ). step_nodes i (length steps) 1 nodes) (sym line_is) ∙ ap (λ (i : ℕ). step_nodes line i 1 nodes) (sym here)) in
    let told : first_row_told on asked from (suc n) (forms ++ op.forms) ≡ forms_told plans asked.lines earlier ++ step_nodes line (length nodes) 1 nodes =
    ap₂ (λ (l : List (List Step)) (s : List Standing). forms_told l asked.lines s) all_plans are ∙ (told_is ∙ ap (λ (l : List StepNode). forms_told plans asked.lines earlier ++ l) last) in
    record {
      leads = leads_on on from asked.ops n d o forms at to nodes below o_is leads op;
      standings_are = are;
      text = sym (flat_map-append (text_of_node asked.telling) (forms_told plans asked.lines earlier) (step_nodes line (length nodes) 1 nodes)) ∙ ap (text_of_nodes asked.telling) (sym told);
    }

-- ---- several

-- so many operations were told
pub record Told (on : Forming) (asked : Asked) (from : RowPoint) (n : ℕ) (forms : List (List ℕ)) (at : RowPoint) (sink : SinkChange) (counts : Counts) : Type 0 where
  pub leads : AdvancesIn on from asked.ops n forms at
  pub put : Appends sink.old sink.new (row_text on asked from n forms)
  pub counted : IsCounted (row_standings on from forms) counts
  pub few : row_address on.flash.size from.row + counts.nodes ≤ row_address on.flash.size at.row
  pub failed : sink.now ≡ sink.before

pub none_told : (on : Forming) (asked : Asked) (from : RowPoint) (taken : Option (List ℕ)) (failures : ℕ) → from.held ≤ greatest_contents
    → Told on asked from 0 [] from (record { old = taken; new = taken; before = failures; now = failures }) (record { nodes = 0; weak = 0 })
none_told on asked from taken failures within = record {
  leads = leads_nowhere on from asked.ops within;
  put = Appends-nil taken;
  counted = record { nodes = sym (ap length (no_standings on.flash.order on.flash.size from.row)); weak = sym (ap weak_count (no_standings on.flash.order on.flash.size from.row)) };
  few = omega arith;
  failed = refl;
}

pub told_next : (on : Forming) (asked : Asked) (from : RowPoint) (n : ℕ) (d o : Op) (forms : List (List ℕ)) (at to : RowPoint) (line : ℕ) (a b c : Option (List ℕ)) (f g h : ℕ) (counts more : Counts)
    → n < length asked.ops → length asked.lines ≡ length asked.ops → o ≡ get_or asked.ops n d → line ≡ get_or asked.lines n 0
    → Told on asked from n forms at (record { old = a; new = b; before = f; now = g }) counts
    → (did : TellsHalt on (record { telling = asked.telling; op = o; line = line }) at to (record { old = b; new = c; before = g; now = h }) (Ok more))
    → Told on asked from (suc n) (forms ++ did.1.forms) to (record { old = a; new = c; before = f; now = h }) (record { nodes = counts.nodes + more.nodes; weak = counts.weak + more.weak })
told_next on asked from n d o forms at to line a b c f g h counts more below same_long o_is line_is first did =
    let nodes : List Standing = did.0 in
    let op : IsPlannedIn on at o to nodes = did.1 in
    let counted : IsCounted nodes more = did.2 in
    let one = one_more on asked from n d o forms line at to nodes below same_long o_is line_is first.leads op in
    let earlier : List Standing = row_standings on from forms in
    let all : row_standings on from (forms ++ op.forms) ≡ earlier ++ nodes = one.standings_are in
    let few : row_address on.flash.size at.row + length nodes ≤ row_address on.flash.size to.row = op.few in
    let some : more.nodes ≡ length nodes = counted.nodes in
    let upto : row_address on.flash.size from.row + counts.nodes ≤ row_address on.flash.size at.row = first.few in
    record {
      leads = one.leads;
      put = subst (Appends a c) one.text (Appends-trans a b c _ _ first.put did.3);
      counted = record {
        nodes = ap₂ (λ (i j : ℕ). i + j) first.counted.nodes counted.nodes ∙ (sym (length-append earlier nodes) ∙ ap length (sym all));
        weak = ap₂ (λ (i j : ℕ). i + j) first.counted.weak counted.weak ∙ (sym (count_on is_weak_one earlier nodes) ∙ ap weak_count (sym all));
      };
      few = omega (arith, few, some, upto);
      failed = did.4 ∙ first.failed;
    }

-- the numbers fit then too
pub next_fits : (on : Forming) (asked : Asked) (from : RowPoint) (n : ℕ) (d o : Op) (forms : List (List ℕ)) (at to : RowPoint) (line : ℕ) (a b c : Option (List ℕ)) (f g h : ℕ) (counts more : Counts) (size blocks : ℕ)
    → n < length asked.ops → length asked.lines ≡ length asked.ops → o ≡ get_or asked.ops n d → line ≡ get_or asked.lines n 0
    → Told on asked from n forms at (record { old = a; new = b; before = f; now = g }) counts
    → TellsHalt on (record { telling = asked.telling; op = o; line = line }) at to (record { old = b; new = c; before = g; now = h }) (Ok more)
    → IsTrue (is_writable_flash size blocks) → row_address on.flash.size to.row ≤ blocks * size
    → (counts.nodes + more.nodes ≤ 268435456) × (counts.weak + more.weak ≤ 268435456)
next_fits on asked from n d o forms at to line a b c f g h counts more size blocks below same_long o_is line_is first did ok within =
    let next = told_next on asked from n d o forms at to line a b c f g h counts more below same_long o_is line_is first did in
    counts_fit size blocks (row_address on.flash.size from.row) (row_address on.flash.size to.row) (row_standings on from (forms ++ did.1.forms)) (record { nodes = counts.nodes + more.nodes; weak = counts.weak + more.weak })
    ok within next.few next.counted

-- one that is declined, or at which the sink failed
pub told_stop : (on : Forming) (asked : Asked) (from : RowPoint) (n : ℕ) (d o : Op) (forms : List (List ℕ)) (at to : RowPoint) (line : ℕ) (a b c : Option (List ℕ)) (f g h : ℕ) (counts : Counts) (fault : CutsFault)
    → n < length asked.ops → length asked.lines ≡ length asked.ops → o ≡ get_or asked.ops n d → line ≡ get_or asked.lines n 0
    → Told on asked from n forms at (record { old = a; new = b; before = f; now = g }) counts
    → TellsHalt on (record { telling = asked.telling; op = o; line = line }) at to (record { old = b; new = c; before = g; now = h }) (Err fault)
    → TellsHalts on asked from to (record { old = a; new = c; before = f; now = h }) (Err fault)
told_stop on asked from n d o forms at to line a b c f g h counts (told.Session fault None blocks) below same_long o_is line_is first did = absurd did
told_stop on asked from n d o forms at to line a b c f g h counts (told.Session fault (Some l) blocks) below same_long o_is line_is first did =
    let within : n < length asked.lines = omega (arith, same_long, below) in (
      (
        n,
        forms,
        record {
          at = at;
          next = o;
          leads = first.leads;
          is_next = slice_get-get_or asked.ops n d below ∙ ap Some (sym o_is);
          line_is = slice_get-get_or asked.lines n 0 within ∙ ap Some (sym (did.0 ∙ line_is));
          declines = did.1;
        },
        subst (λ (t : Option (List ℕ)). Appends a t (row_text on asked from n forms)) (sym did.2) first.put,
        did.3 ∙ first.failed,
      ),
      did.4,
    )
told_stop on asked from n d o forms at to line a b c f g h counts told.Output below same_long o_is line_is first did =
    let nodes : List Standing = did.0 in
    let op : IsPlannedIn on at o to nodes = did.1 in
    let one = one_more on asked from n d o forms line at to nodes below same_long o_is line_is first.leads op in (
      suc n,
      forms ++ op.forms,
      (to, one.leads),
      subst (PutsPart a c) one.text (part_behind a b c (row_text on asked from n forms) (told_of_op asked.telling line nodes) first.put did.2),
      did.3 ∙ ap next_count first.failed,
    )

pub all_told : (on : Forming) (asked : Asked) (from : RowPoint) (n : ℕ) (forms : List (List ℕ)) (at : RowPoint) (sink : SinkChange) (counts : Counts)
    → n ≡ length asked.ops → Told on asked from n forms at sink counts → AreRowFormsTold on asked from at forms sink counts
all_told on asked from n forms at sink counts all first = record {
  leads = subst (λ (i : ℕ). AdvancesIn on from asked.ops i forms at) all first.leads;
  counted = first.counted;
  put = subst (λ (i : ℕ). Appends sink.old sink.new (row_text on asked from i forms)) all first.put;
  failed = first.failed;
}

-- ---- all of them

pub halts_fault : (on : Forming) (asked : Asked) (from to : RowPoint) (sink : SinkChange) (fault : CutsFault) → TellsHalts on asked from to sink (Err fault) → PutsHalts on asked from sink (Err fault)
halts_fault on asked from to sink (told.Session fault None blocks) did = absurd did
halts_fault on asked from to sink (told.Session fault (Some l) blocks) did = did
halts_fault on asked from to sink told.Output did = inl did

-- the last text by the numbers that are known
last_is : (on : Forming) (asked : Asked) (from to : RowPoint) (forms : List (List ℕ)) (sink : SinkChange) (counts : Counts) → AreRowFormsTold on asked from to forms sink counts
    → end_text asked.telling (length asked.ops) counts.nodes (row_address on.flash.size from.row) (row_address on.flash.size to.row) counts.weak ≡ last_row_text on asked from forms
last_is on asked from to forms sink counts all =
    let n : ℕ = length asked.ops in
    let size : ℕ = on.flash.size in
    let start : ℕ = row_address size from.row in
    let nodes : List Standing = row_standings on from forms in
    ap (λ (i : ℕ). end_text asked.telling n i start (row_address size to.row) counts.weak) all.counted.nodes
    ∙ (ap (λ (r : List Opening). end_text asked.telling n (length nodes) start (row_address size r) counts.weak) all.leads.row
    ∙ ap (λ (i : ℕ). end_text asked.telling n (length nodes) start (row_address size (row_after_all size from.row forms)) i) all.counted.weak)

pub halts_end : (on : Forming) (asked : Asked) (from to : RowPoint) (a b c : Option (List ℕ)) (f g h : ℕ) (counts : Counts)
    → TellsHalts on asked from to (record { old = a; new = b; before = f; now = g }) (Ok counts)
    → Appends b c (end_text asked.telling (length asked.ops) counts.nodes (row_address on.flash.size from.row) (row_address on.flash.size to.row) counts.weak) → h ≡ g
    → PutsHalts on asked from (record { old = a; new = c; before = f; now = h }) (Ok counts.weak)
halts_end on asked from to a b c f g h counts (forms, all) put same = (
  forms,
  record {
    to = to;
    leads = all.leads;
    counted = all.counted.weak;
    put = Appends-trans a b c _ _ all.put (subst (Appends b c) (last_is on asked from to forms _ counts all) put);
    failed = same ∙ all.failed;
  },
)

pub halts_end_failed : (on : Forming) (asked : Asked) (from to : RowPoint) (a b c : Option (List ℕ)) (f g h : ℕ) (counts : Counts)
    → TellsHalts on asked from to (record { old = a; new = b; before = f; now = g }) (Ok counts)
    → PutsPart b c (end_text asked.telling (length asked.ops) counts.nodes (row_address on.flash.size from.row) (row_address on.flash.size to.row) counts.weak) → h ≡ next_count g
    → PutsHalts on asked from (record { old = a; new = c; before = f; now = h }) (Err told.Output)
halts_end_failed on asked from to a b c f g h counts (forms, all) part failed = inr (
  forms,
  (to, all.leads),
  part_behind a b c _ _ all.put (subst (PutsPart b c) (last_is on asked from to forms _ counts all) part),
  failed ∙ ap next_count all.failed,
)

-- ---- the same at equal values

pub halts_at : (on' on : Forming) (asked : Asked) (from' from to : RowPoint) (sink : SinkChange) (r : Result Counts CutsFault) → on' ≡ on → from' ≡ from
    → TellsHalts on' asked from' to sink r → TellsHalts on asked from to sink r
halts_at on' on asked from' from to sink r on_is from_is did =
    subst (λ (f : Forming). TellsHalts f asked from to sink r) on_is (subst (λ (p : RowPoint). TellsHalts on' asked p to sink r) from_is did)
