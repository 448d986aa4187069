-- What is told of operations that follow one another.
use Rattle.std.proofs.Common.{◌≡◌, ℕ, zero, suc, ◌+◌, ◌<◌, ◌≤◌, Bool, List, [], ◌∷◌, ◌++◌, length, map, take, get_or, refl, sym, ap, ap₂, subst, ◌∙◌, arith, append_assoc, length-append, Result, Ok, Err}
use Rattle.std.specs.Prelude.{IsTrue, flat_map, filter}
use Rattle.std.specs.List.{count_by}
use Rattle.std.proofs.lemmas.List.{append-nil, length-take-le, map-append}
use Rattle.std.proofs.lemmas.List.Elements.{filter-append}
use Rattle.std.proofs.lemmas.List.Sums.{length-filter}
use Rattle.jnode.specs.declared.order.Endian.{Endian}
use Rattle.jsteps.specs.Nodes.{Indexed, advanced_all}
use Rattle.jscan.specs.Pages.{page_size}
use Rattle.jsteps.specs.Refusals.{planned_by, plans_of, steps_of_first}
use Rattle.jsteps.specs.declared.fault.OpFault.{OpFault}
use Rattle.jsteps.specs.declared.op.Op.{Op}
use Rattle.jsteps.specs.declared.step.Step.{Step}
use Rattle.jsteps.proofs.TakenLemmas.{advanced_all-append}
use Rattle.jlog.specs.Places.{place_after, end_after, end_of_all, fit}
use Rattle.jlog.specs.Running.{written}
use Rattle.jlog.specs.Session.{IsAccepted}
use Rattle.jlog.proofs.RunLemmas.{fit_both, plans_next}
use Rattle.jlog.proofs.RunningLemmas.{written_on, StepsGoOn, steps_go_on}
use Rattle.jcuts.specs.Standing.{standings, standing_at}
use Rattle.jcuts.specs.Lines.{step_nodes, nodes_told}
use Rattle.jcuts.specs.Cuts.{Point, first_standings, AdvancesTo}
use Rattle.jlog.specs.declared.start.Flash.{Flash}
use Rattle.jcuts.specs.Laws.{StandingsHavePlaces}
use Rattle.jcuts.specs.declared.lines.StepNode.{StepNode}
use Rattle.jcuts.specs.declared.standing.Standing.{Standing}
use Rattle.jcuts.proofs.StepLemmas.{step_nodes_are}

-- ---- nodes after others

pub standings_on : (e : Endian) (size from : ℕ) (xs ys : List (List ℕ)) → standings e size from (xs ++ ys) ≡ standings e size from xs ++ standings e size (end_of_all size from xs) ys
standings_on e size from [] ys = refl
standings_on e size from (node ∷ xs) ys =
    ap (λ (l : List Standing). standing_at e (place_after size from (length node)) node ∷ l) (standings_on e size (end_after size from (length node)) xs ys)

pub standings_have_places : StandingsHavePlaces
standings_have_places e size from [] = refl
standings_have_places e size from (node ∷ nodes) =
    ap (λ (l : List (ℕ × ℕ)). (place_after size from (length node), length node) ∷ l) (standings_have_places e size (end_after size from (length node)) nodes)

pub standings_long : (e : Endian) (size from : ℕ) (nodes : List (List ℕ)) → length (standings e size from nodes) ≡ length nodes
standings_long e size from [] = refl
standings_long e size from (node ∷ nodes) = ap suc (standings_long e size (end_after size from (length node)) nodes)

pub count_on : {X : Type 0} (p : X → Bool) (xs ys : List X) → count_by p (xs ++ ys) ≡ count_by p xs + count_by p ys
count_on {X} p xs ys =
    sym (length-filter p (xs ++ ys))
    ∙ (ap length (filter-append p xs ys)
    ∙ (length-append (filter p xs) (filter p ys) ∙ ap₂ (λ (a b : ℕ). a + b) (length-filter p xs) (length-filter p ys)))

-- ---- the nodes of plans

-- the nodes that are told are those of the plans' steps
pub told_are : (e : Endian) (size from : ℕ) (x : Indexed) (plans : List (List Step)) (lines : List ℕ) → length plans ≤ length lines
    → map (λ told. told.standing) (nodes_told e size from x plans lines) ≡ standings e size from (written e x (flat_map (λ steps. steps) plans))
told_are e size from x [] lines within = refl
told_are e size from x (steps ∷ plans) [] within = absurd (omega (arith, within))
told_are e size from x (steps ∷ plans) (line ∷ lines) within =
    let nodes : List (List ℕ) = written e x steps in
    let end : ℕ = end_of_all size from nodes in
    let y : Indexed = advanced_all x steps in
    let rest : List Step = flat_map (λ steps. steps) plans in
    map-append (λ (told : StepNode). told.standing) (step_nodes line (length nodes) 1 (standings e size from nodes)) (nodes_told e size end y plans lines)
    ∙ (ap₂ (λ (a b : List Standing). a ++ b) (step_nodes_are line (length nodes) 1 (standings e size from nodes)) (told_are e size end y plans lines (omega (arith, within)))
    ∙ (sym (standings_on e size from nodes (written e y rest)) ∙ ap (standings e size from) (sym (written_on e x steps rest))))

-- one more plan
pub told_more : (e : Endian) (size from : ℕ) (x : Indexed) (plans : List (List Step)) (steps : List Step) (lines : List ℕ) → length plans < length lines
    → let before = flat_map (λ steps. steps) plans in
    let mid = end_of_all size from (written e x before) in
    let y = advanced_all x before in
    nodes_told e size from x (plans ++ steps ∷ []) lines
    ≡ nodes_told e size from x plans lines ++ step_nodes (get_or lines (length plans) 0) (length (written e y steps)) 1 (standings e size mid (written e y steps))
told_more e size from x [] steps [] within = absurd (omega (arith, within))
told_more e size from x [] steps (line ∷ lines) within = append-nil (step_nodes line (length (written e x steps)) 1 (standings e size from (written e x steps)))
told_more e size from x (first ∷ plans) steps [] within = absurd (omega (arith, within))
told_more e size from x (first ∷ plans) steps (line ∷ lines) within =
    let nodes : List (List ℕ) = written e x first in
    let end : ℕ = end_of_all size from nodes in
    let y : Indexed = advanced_all x first in
    let rest : List Step = flat_map (λ steps. steps) plans in
    let here : List StepNode = step_nodes line (length nodes) 1 (standings e size from nodes) in
    let on : StepsGoOn e size from x first rest = steps_go_on e size from x first rest in
    let last : ℕ → Indexed → List StepNode = λ mid z. step_nodes (get_or lines (length plans) 0) (length (written e z steps)) 1 (standings e size mid (written e z steps)) in
    ap (λ (l : List StepNode). here ++ l) (told_more e size end y plans steps lines (omega (arith, within)))
    ∙ (sym (append_assoc here (nodes_told e size end y plans lines) (last (end_of_all size end (written e y rest)) (advanced_all y rest)))
    ∙ ap₂ (λ (mid : ℕ) (z : Indexed). (here ++ nodes_told e size end y plans lines) ++ last mid z) (sym on.end_is) (sym (advanced_all-append x first rest)))

-- ---- plans after others

plans_by : ℕ → Indexed → List Op → Result (List Step) OpFault → List (List Step)
plans_by page x ops (Ok steps) = steps ∷ plans_of page (advanced_all x steps) ops
plans_by page x ops (Err f) = []

pub plans_most : (page : ℕ) (x : Indexed) (ops : List Op) → length (plans_of page x ops) ≤ length ops
unfolding plans_by
plans_most page x [] = omega arith
plans_most page x (o ∷ ops) = by (λ y. plans_most page y ops) (planned_by page x o)
  where
    by : ((y : Indexed) → length (plans_of page y ops) ≤ length ops) → (r : Result (List Step) OpFault) → length (plans_by page x ops r) ≤ suc (length ops)
    by rest_is (Ok steps) = let most : length (plans_of page (advanced_all x steps) ops) ≤ length ops = rest_is (advanced_all x steps) in omega arith
    by rest_is (Err f) = omega arith

pub plan_more : (page : ℕ) (x : Indexed) (ops : List Op) (i : ℕ) (d : Op) (steps : List Step) → i < length ops → i ≤ length (plans_of page x ops)
    → planned_by page (advanced_all x (steps_of_first page x ops i)) (get_or ops i d) ≡ Ok steps
    → take (suc i) (plans_of page x ops) ≡ take i (plans_of page x ops) ++ steps ∷ []
unfolding plans_by
plan_more page x [] i d steps below planned is = absurd (omega arith)
plan_more page x (o ∷ ops) zero d steps below planned is = first_by (planned_by page x o) is
  where
    first_by : (r : Result (List Step) OpFault) → r ≡ Ok steps → take 1 (plans_by page x ops r) ≡ steps ∷ []
    first_by (Ok s) is = let same : s ≡ steps = cc in ap (λ (l : List Step). l ∷ []) same
    first_by (Err f) is = cc
plan_more page x (o ∷ ops) (suc i) d steps below planned is = by (λ y p q. plan_more page y ops i d steps (omega arith) p q) (planned_by page x o) planned is
  where
    by : ((y : Indexed) → i ≤ length (plans_of page y ops) → planned_by page (advanced_all y (steps_of_first page y ops i)) (get_or ops i d) ≡ Ok steps
        → take (suc i) (plans_of page y ops) ≡ take i (plans_of page y ops) ++ steps ∷ [])
        → (r : Result (List Step) OpFault) → suc i ≤ length (plans_by page x ops r)
        → planned_by page (advanced_all x (flat_map (λ steps. steps) (take (suc i) (plans_by page x ops r)))) (get_or ops i d) ≡ Ok steps
        → take (suc (suc i)) (plans_by page x ops r) ≡ take (suc i) (plans_by page x ops r) ++ steps ∷ []
    by rest_is (Ok s) planned is =
        let y : Indexed = advanced_all x s in
        let on : advanced_all x (s ++ steps_of_first page y ops i) ≡ advanced_all y (steps_of_first page y ops i) = advanced_all-append x s (steps_of_first page y ops i) in
        ap (λ (l : List (List Step)). s ∷ l) (rest_is y (omega arith) (sym (ap (λ (z : Indexed). planned_by page z (get_or ops i d)) on) ∙ is))
    by rest_is (Err f) planned is = absurd (omega arith)

-- ---- operations one after another

pub leads_nowhere : (e : Endian) (flash : Flash) (from : Point) (ops : List Op) → AdvancesTo e flash from ops 0 from
leads_nowhere e flash from ops = record { planned = omega arith; fits = refl; address = refl; index = refl }

-- the nodes of one more
abbrev pub next_standings : Endian → Flash → Point → List Step → List Standing
next_standings e flash at steps = standings e flash.geometry.block at.address (written e at.index steps)

-- one more is accepted
pub record OneMore (e : Endian) (flash : Flash) (from : Point) (ops : List Op) (lines : List ℕ) (n : ℕ) (at : Point) (steps : List Step) (to : Point) : Type 0 where
  pub leads : AdvancesTo e flash from ops (suc n) to
  pub standings_are : first_standings e flash from ops (suc n) ≡ first_standings e flash from ops n ++ next_standings e flash at steps
  pub told : nodes_told e flash.geometry.block from.address from.index (take (suc n) (plans_of (page_size flash.page) from.index ops)) lines
      ≡ nodes_told e flash.geometry.block from.address from.index (take n (plans_of (page_size flash.page) from.index ops)) lines
      ++ step_nodes (get_or lines n 0) (length (written e at.index steps)) 1 (next_standings e flash at steps)

pub one_more : (e : Endian) (flash : Flash) (from : Point) (ops : List Op) (lines : List ℕ) (n : ℕ) (d o : Op) (at : Point) (steps : List Step) (to : Point)
    → n < length ops → length lines ≡ length ops → o ≡ get_or ops n d → AdvancesTo e flash from ops n at
    → IsAccepted (page_size flash.page) e flash.geometry.block flash.blocks at.address at.index o steps
    → to.address ≡ end_of_all flash.geometry.block at.address (written e at.index steps) → to.index ≡ advanced_all at.index steps
    → OneMore e flash from ops lines n at steps to
one_more e flash from ops lines n d o at steps to below same_long o_is first acc end_is y_is =
    let page : ℕ = page_size flash.page in
    let size : ℕ = flash.geometry.block in
    let x : Indexed = from.index in
    let start : ℕ = from.address in
    let earlier : List Step = steps_of_first page x ops n in
    let m : ℕ = end_of_all size start (written e x earlier) in
    let w : Indexed = advanced_all x earlier in
    let plans : List (List Step) = take n (plans_of page x ops) in
    let planned : planned_by page w (get_or ops n d) ≡ Ok steps =
    subst (λ (v : Indexed). planned_by page v (get_or ops n d) ≡ Ok steps) first.index (subst (λ (p : Op). planned_by page at.index p ≡ Ok steps) o_is acc.planned) in
    let next = plans_next page x ops n d steps below first.planned planned in
    let all_plans = plan_more page x ops n d steps below first.planned planned in
    let on : StepsGoOn e size start x earlier steps = steps_go_on e size start x earlier steps in
    let long : length plans ≡ n = length-take-le n (plans_of page x ops) first.planned in
    record {
      leads = record {
        planned = next.1;
        fits = subst (λ (l : List Step). IsTrue (fit size flash.blocks start (written e x l))) (sym next.0)
            (fit_both e size flash.blocks start x earlier steps first.fits
            (subst (λ (v : Indexed). IsTrue (fit size flash.blocks m (written e v steps))) first.index (subst (λ (c : ℕ). IsTrue (fit size flash.blocks c (written e at.index steps))) first.address acc.fits)));
        address = end_is
            ∙ (ap₂ (λ (c : ℕ) (v : Indexed). end_of_all size c (written e v steps)) first.address first.index
            ∙ (sym on.end_is ∙ ap (λ (l : List Step). end_of_all size start (written e x l)) (sym next.0)));
        index = y_is ∙ (ap (λ (v : Indexed). advanced_all v steps) first.index ∙ (sym (advanced_all-append x earlier steps) ∙ ap (advanced_all x) (sym next.0)));
      };
      standings_are = ap (λ (l : List Step). standings e size start (written e x l)) next.0
          ∙ (ap (standings e size start) (written_on e x earlier steps)
          ∙ (standings_on e size start (written e x earlier) (written e w steps)
          ∙ ap₂ (λ (c : ℕ) (v : Indexed). standings e size start (written e x earlier) ++ standings e size c (written e v steps)) (sym first.address) (sym first.index)));
      told = ap (λ (l : List (List Step)). nodes_told e size start x l lines) all_plans
          ∙ (told_more e size start x plans steps lines (omega (arith, long, same_long, below))
          ∙ (ap (λ (i : ℕ). nodes_told e size start x plans lines ++ step_nodes (get_or lines i 0) (length (written e w steps)) 1 (standings e size m (written e w steps))) long
          ∙ ap₂ (λ (c : ℕ) (v : Indexed). nodes_told e size start x plans lines ++ step_nodes (get_or lines n 0) (length (written e v steps)) 1 (standings e size c (written e v steps))) (sym first.address) (sym first.index)));
    }
