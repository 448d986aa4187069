-- The steps of accepted operations survive on a base without compressed nodes, and unpacked: a case of what survives in forms.
use Rattle.std.proofs.Common.{◌≡◌, ℕ, ◌*◌, ◌≤◌, List, [], length, map, take, refl, sym, ap, subst, arith}
use Rattle.std.specs.List.{flat_map}
use Rattle.jnode.specs.Writing.{canonical}
use Rattle.jnode.specs.declared.node.NodeRef.{NodeRef}
use Rattle.jnode.specs.declared.node.Seen.TheVariants as seen
use Rattle.jnode.specs.declared.order.Endian.{Endian}
use Rattle.jscan.specs.Blank.{blank_from}
use Rattle.jmount.specs.StateOf.{state_of}
use Rattle.jmount.specs.Mounts.{plain_nodes, state, IsSound}
use Rattle.jmount.specs.declared.fault.MountFault.TheVariants as fault
use Rattle.jsteps.specs.Steps.{bytes, after}
use Rattle.jsteps.specs.Nodes.{index_of, nodes_of}
use Rattle.jsteps.specs.Refusals.{plans_of, steps_of_first}
use Rattle.jsteps.specs.Laws.{GoesOn}
use Rattle.jsteps.specs.declared.step.Step.{Step}
use Rattle.jsteps.proofs.GoesOnLemmas.{planned_goes_on}
use Rattle.jexpand.specs.Expanded.{expanded_nodes, unpacked_bytes}
use Rattle.jlog.specs.Headline.{AcceptedSurvives}
use Rattle.jlog.specs.HeadlineThrough.{IsBaseThrough, AreAcceptedAs, SurvivesAs, index_through}
use Rattle.jlog.specs.LeftLaws.{RefusesAs}
use Rattle.jlog.specs.Places.{places}
use Rattle.jlog.specs.Left.{count_whole}
use Rattle.jlog.specs.Output.{output}
use Rattle.jlog.specs.MountLaws.{GoesOnSoundly}
use Rattle.jlog.specs.Packed.{AreNodeForms}
use Rattle.jview.specs.Through.{MountsThroughAs}
use Rattle.jlog.specs.Through.{form_content}
use Rattle.jlog.specs.ThroughLaws.{NoneCompressed}
use Rattle.jlog.proofs.HeadlineLemmas.{all_fit, planned_loggable, readable, soundly}
use Rattle.jlog.proofs.HeadlineThroughLemmas.{forms_survive}
use Rattle.jlog.proofs.LeftLemmas.{left_refuses, nodes_not_weak, stored, whole_refuses}
use Rattle.jlog.proofs.MountThroughLemmas.{expanded_are_plain, no_contents, none_in_sound, plain_mounts_through, through_mounts_plain}
use Rattle.jlog.proofs.PackedLemmas.{own_contents}
use Rattle.jlog.proofs.SessionAsLemmas.{own_forms}

-- what has no refusal that its base has not has no compressed node where the base has none
still_none : (e : Endian) (size : ℕ) (base image : List ℕ) → IsSound e size base → RefusesAs e size base image → NoneCompressed e size image
still_none e size base image sound refuses = λ addr compr has. sound.1 addr (fault.Compressed addr compr) (refl, refuses.each (addr, seen.Compressed compr) refl has)

pub accepted_follows : AcceptedSurvives
accepted_follows page e size blocks n base ops is_page room is_base are_bytes fit_ops accepted =
    let size_is = readable e size blocks base is_base in
    let ns : List NodeRef = plain_nodes e size base in
    let sound : IsSound e size base = is_base.mounts.sound in
    let free : NoneCompressed e size base = none_in_sound e size base sound in
    let same : expanded_nodes e size base ≡ ns = expanded_are_plain e size base free in
    let steps : List Step = steps_of_first page (index_of ns) ops n in
    let new : List NodeRef = nodes_of (index_of ns) steps in
    let forms : List (List ℕ) = map (canonical e) new in
    let block : ℕ = blank_from e size base blocks in
    let go : GoesOn page ns steps = planned_goes_on page ns ops n is_page (all_fit e size base size_is are_bytes) is_base.mounts.root fit_ops in
    let on : GoesOnSoundly e size blocks base block new = soundly page e size blocks base steps is_page room is_base accepted.fits go in
    let mounts : MountsThroughAs e size base (state e size base) = plain_mounts_through e size base (state e size base) is_base.mounts in
    let through : IsBaseThrough e size blocks base = record { flash = is_base.flash; mounts = record { sound = mounts.sound; root = mounts.root; same = refl } } in
    let none_held : unpacked_bytes e size base ≡ [] = no_contents e size base free in
    let none_packed : flat_map (form_content e) forms ≡ [] = own_contents e size new (planned_loggable page e size new is_page room (go.written e)) in
    let in_forms : AreAcceptedAs page e size blocks base ops n forms = record {
      planned = subst (λ (l : List NodeRef). n ≤ length (plans_of page (index_of l) ops)) (sym same) accepted.planned;
      forms_on = record {
        are = subst (λ (l : List NodeRef). AreNodeForms e (nodes_of (index_of l) (steps_of_first page (index_of l) ops n)) forms) (sym same) (own_forms e new);
        fits = accepted.fits;
        contents = omega (arith, ap length none_held, ap length none_packed);
      };
    } in
    let survive : SurvivesAs e size blocks base (steps_of_first page (index_through e size base) ops n) forms = forms_survive page e size blocks n base ops forms is_page room through are_bytes fit_ops in_forms in
    record {
      cuts = λ none k image within left.
          let out : List ℕ = output e size (block * size) forms in
          let m : ℕ = count_whole (block * size) out k (places size (block * size) forms) in
          let refuses : RefusesAs e size base image = left_refuses e size blocks block k base image new on.logged none left in
          through_mounts_plain e size image (after bytes (state e size base) (take m steps))
          (subst (MountsThroughAs e size image) (ap (λ (l : List NodeRef). after bytes (state_of l) (take m (steps_of_first page (index_of l) ops n))) same)
          (survive.cuts (nodes_not_weak e new none) k image within left))
          (still_none e size base image sound refuses);
      whole = λ image left.
          let k : ℕ = length (output e size (block * size) forms) in
          let refuses : RefusesAs e size base image = whole_refuses e size blocks block k base image new (stored e size blocks base block new on.logged) (omega arith) left in
          through_mounts_plain e size image (after bytes (state e size base) steps)
          (subst (MountsThroughAs e size image) (ap (λ (l : List NodeRef). after bytes (state_of l) (steps_of_first page (index_of l) ops n)) same) (survive.whole image left))
          (still_none e size base image sound refuses);
    }
