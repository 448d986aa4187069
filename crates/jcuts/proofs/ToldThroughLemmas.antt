-- What is told of forms survives a stop.
use Rattle.std.proofs.Common.{◌≡◌, ℕ, suc, ◌+◌, ◌%◌, Bool, false, List, [], ◌∷◌, length, refl, sym, subst, ◌∙◌, arith, inl, inr, take, Option, Some, None}
use Rattle.std.specs.Prelude.{is_some, IsTrue}
use Rattle.std.specs.List.{AllByRecursion}
use Rattle.std.proofs.lemmas.Bool.{cases_Bool}
use Rattle.jnode.specs.Weak.{IsLeastWeak}
use Rattle.jscan.specs.Image.{is_block_size}
use Rattle.jscan.specs.Pages.{page_size}
use Rattle.jsteps.specs.Laws.{GoesOn}
use Rattle.jsteps.specs.Refusals.{steps_of_first}
use Rattle.jsteps.specs.Steps.{bytes, after}
use Rattle.jsteps.specs.declared.step.Step.{Step}
use Rattle.jsteps.proofs.FewLemmas.{sizes_are_pages}
use Rattle.jsteps.proofs.GoesOnLemmas.{planned_goes_on}
use Rattle.jexpand.specs.Expanded.{expanded_nodes}
use Rattle.jview.specs.Through.{MountsThroughAs}
use Rattle.jlog.specs.Headline.{resume_address}
use Rattle.jlog.specs.HeadlineThrough.{state_through, index_through}
use Rattle.jlog.specs.Laws.{FitsBlock}
use Rattle.jlog.specs.Left.{count_whole}
use Rattle.jlog.specs.Output.{output}
use Rattle.jlog.specs.Places.{places, place_after, end_after}
use Rattle.jlog.proofs.HeadlineThroughLemmas.{all_fit_through, forms_goes, forms_survive, through_size}
use Rattle.jlog.proofs.ImageLemmas.{block_size}
use Rattle.jlog.proofs.LeftLemmas.{forms_have_room, storable_forms}
use Rattle.jcuts.specs.Laws.{count_standing}
use Rattle.jcuts.specs.Lines.{weak_count}
use Rattle.jcuts.specs.Standing.{least_weak, standing_at, standings}
use Rattle.jcuts.specs.ThroughLaws.{NoneToldIsNoneWeak, ToldSurvivesThrough}
use Rattle.jcuts.specs.declared.standing.Standing.{Standing}
use Rattle.jcuts.proofs.CountLemmas.{count_yes, count_no, standing_is_counted}
use Rattle.jcuts.proofs.LeastLemmas.{weak_is_least}

is_none : (r : Option ℕ) → is_some r ≡ false → r ≡ None
is_none None is = refl
is_none (Some n) is = cc

-- whether a form is told to be weak
abbrev has_weak : Standing → Bool
has_weak standing = is_some standing.weak

pub none_told : NoneToldIsNoneWeak
none_told e size from [] none = tt
none_told e size from (form ∷ forms) none =
    let at : ℕ = place_after size from (length form) in
    let end : ℕ = end_after size from (length form) in
    let rest : List Standing = standings e size end forms in
    elim (cases_Bool (is_some (least_weak e form))) [
      | inl weak ↦
          let more : weak_count (standings e size from (form ∷ forms)) ≡ suc (weak_count rest) = count_yes has_weak (standing_at e at form) rest weak in
          absurd (omega (arith, more, none))
      | inr sound ↦ (
        subst (IsLeastWeak e form) (is_none (least_weak e form) sound) (weak_is_least e form),
        none_told e size end forms (sym (count_no has_weak (standing_at e at form) rest sound) ∙ none),
      )
    ]

pub told_survives_through : ToldSurvivesThrough
told_survives_through page e size blocks n base ops forms room is_base are_bytes fit_ops accepted none k image within left =
    let p : ℕ = page_size page in
    let is_page = sizes_are_pages page in
    let from : ℕ = resume_address e size blocks base in
    let steps : List Step = steps_of_first p (index_through e size base) ops n in
    let sized : IsTrue (is_block_size size) = through_size e size blocks base is_base in
    let words : size % 4 ≡ 0 = (block_size size sized).words in
    let go : GoesOn p (expanded_nodes e size base) steps = planned_goes_on p (expanded_nodes e size base) ops n is_page (all_fit_through e size base sized are_bytes) is_base.mounts.root fit_ops in
    let goes = forms_goes p e size blocks base steps forms is_page room is_base accepted.forms_on go in
    let ok : AllByRecursion (FitsBlock size) forms = forms_have_room e size forms (storable_forms e size forms goes.carry.loggable) in
    let count : count_standing (from + k) (standings e size from forms) ≡ count_whole from (output e size from forms) k (places size from forms) = standing_is_counted e size from k forms words ok in
    subst (λ (i : ℕ). MountsThroughAs e size image (after bytes (state_through e size base) (take i steps))) (sym count)
    ((forms_survive p e size blocks n base ops forms is_page room is_base are_bytes fit_ops accepted).cuts (none_told e size from forms none) k image within left)
