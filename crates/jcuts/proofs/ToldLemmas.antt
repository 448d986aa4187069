-- What is told survives a stop.
use Rattle.std.proofs.Common.{◌≡◌, ℕ, suc, ◌+◌, ◌%◌, Bool, false, List, [], ◌∷◌, length, map, take, refl, sym, subst, ◌∙◌, arith, inl, inr, Option, Some, None}
use Rattle.std.specs.Prelude.{is_some}
use Rattle.std.specs.List.{AllByRecursion}
use Rattle.std.proofs.lemmas.Bool.{cases_Bool}
use Rattle.std.proofs.lemmas.List.{length-take}
use Rattle.jnode.specs.Weak.{IsLeastWeak}
use Rattle.jnode.specs.Writing.{canonical}
use Rattle.jnode.specs.declared.node.NodeRef.{NodeRef}
use Rattle.jnode.specs.declared.order.Endian.{Endian}
use Rattle.jmount.specs.Mounts.{plain_nodes, state, MountsAs}
use Rattle.jsteps.specs.Steps.{bytes, after}
use Rattle.jscan.specs.Pages.{page_size}
use Rattle.jsteps.specs.Refusals.{plans_of, steps_of_first}
use Rattle.jsteps.specs.Laws.{GoesOn}
use Rattle.jsteps.specs.declared.step.Step.{Step}
use Rattle.jsteps.proofs.FewLemmas.{sizes_are_pages}
use Rattle.jsteps.proofs.GoesOnLemmas.{planned_goes_on}
use Rattle.jlog.specs.Places.{places, place_after, end_after}
use Rattle.jlog.specs.Output.{output}
use Rattle.jlog.specs.Left.{count_whole}
use Rattle.jlog.specs.Laws.{FitsBlock}
use Rattle.jlog.specs.LeftLaws.{NoneWeak}
use Rattle.jlog.specs.Headline.{index_of_image, new_nodes, resume_address}
use Rattle.jlog.proofs.HeadlineLemmas.{all_fit, accepted_survives, planned_loggable, readable}
use Rattle.jlog.proofs.ImageLemmas.{block_size}
use Rattle.jlog.proofs.IntactLemmas.{has_room}
use Rattle.jcuts.specs.Standing.{least_weak, standing_at, standings}
use Rattle.jcuts.specs.Lines.{weak_count}
use Rattle.jcuts.specs.Laws.{count_standing, LinesAreNodes, ToldSurvives}
use Rattle.jcuts.specs.declared.standing.Standing.{Standing}
use Rattle.jcuts.proofs.CountLemmas.{count_yes, count_no, standing_is_counted}
use Rattle.jcuts.proofs.JoinLemmas.{plans_most, told_are}
use Rattle.jcuts.proofs.LeastLemmas.{weak_is_least}

is_none : (r : Option ℕ) → is_some r ≡ false → r ≡ None
is_none None is = refl
is_none (Some n) is = cc

-- whether a node is told to be weak
abbrev has_weak : Standing → Bool
has_weak standing = is_some standing.weak

none_weak : (e : Endian) (size from : ℕ) (nodes : List NodeRef) → weak_count (standings e size from (map (canonical e) nodes)) ≡ 0 → NoneWeak e nodes
none_weak e size from [] none = tt
none_weak e size from (x ∷ xs) none =
    let node : List ℕ = canonical e x in
    let at : ℕ = place_after size from (length node) in
    let end : ℕ = end_after size from (length node) in
    let rest : List Standing = standings e size end (map (canonical e) xs) in
    elim (cases_Bool (is_some (least_weak e node))) [
      | inl weak ↦
          let more : weak_count (standings e size from (map (canonical e) (x ∷ xs))) ≡ suc (weak_count rest) = count_yes has_weak (standing_at e at node) rest weak in
          absurd (omega (arith, more, none))
      | inr sound ↦ (
        subst (IsLeastWeak e node) (is_none (least_weak e node) sound) (weak_is_least e node),
        none_weak e size end xs (sym (count_no has_weak (standing_at e at node) rest sound) ∙ none),
      )
    ]

pub lines_are_nodes : LinesAreNodes
lines_are_nodes page e size blocks n base ops lines long =
    let x = index_of_image e size base in
    let plans : List (List Step) = plans_of (page_size page) x ops in
    told_are e size (resume_address e size blocks base) x (take n plans) lines (omega (arith, length-take n plans, plans_most (page_size page) x ops, long))

pub told_survives : ToldSurvives
told_survives page e size blocks n base ops room is_base are_bytes fit_ops accepted none k image within left =
    let p : ℕ = page_size page in
    let is_page = sizes_are_pages page in
    let from : ℕ = resume_address e size blocks base in
    let steps : List Step = steps_of_first p (index_of_image e size base) ops n in
    let new : List NodeRef = new_nodes e size base steps in
    let nodes : List (List ℕ) = map (canonical e) new in
    let sized = readable e size blocks base is_base in
    let words : size % 4 ≡ 0 = (block_size size sized).words in
    let go : GoesOn p (plain_nodes e size base) steps = planned_goes_on p (plain_nodes e size base) ops n is_page (all_fit e size base sized are_bytes) is_base.mounts.root fit_ops in
    let ok : AllByRecursion (FitsBlock size) nodes = has_room e size new (planned_loggable p e size new is_page room (go.written e)) in
    let count : count_standing (from + k) (standings e size from nodes) ≡ count_whole from (output e size from nodes) k (places size from nodes) = standing_is_counted e size from k nodes words ok in
    subst (λ (i : ℕ). MountsAs e size image (after bytes (state e size base) (take i steps))) (sym count)
    ((accepted_survives p e size blocks n base ops is_page room is_base are_bytes fit_ops accepted).cuts (none_weak e size from new none) k image within left)
