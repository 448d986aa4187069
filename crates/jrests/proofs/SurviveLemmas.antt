-- The steps of accepted operations survive in openings, whatever forms their nodes are put in.
use Rattle.std.proofs.Common.{◌≡◌, ℕ, zero, suc, ◌+◌, ◌*◌, ◌≤◌, List, [], ◌∷◌, length, take, sym, subst, ◌∙◌, arith, length-append}
use Rattle.std.specs.Prelude.{IsTrue, flat_map, nat_le, nat_lt, ◌&&◌}
use Rattle.std.proofs.lemmas.Bool.{and_parts, leb-true}
use Rattle.std.proofs.lemmas.List.{take_all}
use Rattle.jnode.specs.declared.node.NodeRef.{NodeRef}
use Rattle.jnode.specs.declared.order.Endian.{Endian}
use Rattle.jscan.specs.Image.{is_block_size, greatest_image}
use Rattle.jmount.specs.Tree.{State, is_directory}
use Rattle.jmount.specs.StateOf.{state_of}
use Rattle.jsteps.specs.Steps.{bytes, after}
use Rattle.jsteps.specs.Refusals.{steps_of_first}
use Rattle.jsteps.specs.Laws.{GoesOn}
use Rattle.jsteps.specs.declared.step.Step.{Step}
use Rattle.jsteps.proofs.GoesOnLemmas.{planned_goes_on}
use Rattle.jexpand.specs.Expanded.{expanded_nodes}
use Rattle.jview.specs.Through.{MountsThroughAs}
use Rattle.jlog.specs.Places.{is_writable_flash}
use Rattle.jlog.specs.Headline.{is_flash_of}
use Rattle.jlog.specs.HeadlineThrough.{state_through, IsBaseThrough, index_through, nodes_through}
use Rattle.jlog.specs.Through.{form_content}
use Rattle.jlog.proofs.HeadlineLemmas.{planned_loggable}
use Rattle.jlog.proofs.HeadlineThroughLemmas.{all_fit_through}
use Rattle.jlog.proofs.LeftLemmas.{storable_forms}
use Rattle.jlog.proofs.PackedLemmas.{AllCarry, forms_carry}
use Rattle.jrow.specs.Merging.{Interleaves}
use Rattle.jrow.specs.RowLeft.{ExpandsInRow}
use Rattle.jrow.proofs.OrderLemmas.{merged_make_same}
use Rattle.jrests.specs.Left.{whole_in_shares}
use Rattle.jrests.specs.LeftLaws.{AreStoredInOpenings}
use Rattle.jrests.specs.Openings.{AreOpeningsOf}
use Rattle.jrests.specs.Shares.{shares}
use Rattle.jrests.specs.Survives.{AreFormsInOpenings, FormsSurviveInOpenings}
use Rattle.jrests.specs.declared.opening.Opening.{Opening}
use Rattle.jrests.proofs.StandLemmas.{left_in_openings, whole_in_openings}

-- ---- the limits, one by one

record Limits (size blocks : ℕ) (base : List ℕ) : Type 0 where
  size_is : IsTrue (is_block_size size)
  small : blocks * size ≤ greatest_image
  within : length base ≤ blocks * size

limits_of : (size blocks : ℕ) (base : List ℕ) → IsTrue (is_flash_of size blocks base) → Limits size blocks base
limits_of size blocks base ok =
    let both = and_parts (is_writable_flash size blocks) (nat_le (length base) (blocks * size)) ok in
    let last = and_parts (is_block_size size && nat_le 8192 size && nat_lt 0 blocks) (nat_le (blocks * size) greatest_image) both.0 in
    let some = and_parts (is_block_size size && nat_le 8192 size) (nat_lt 0 blocks) last.0 in
    let sizes = and_parts (is_block_size size) (nat_le 8192 size) some.0 in
    record { size_is = sizes.0; small = leb-true _ _ last.1; within = leb-true _ _ both.1 }

fewer_contents : (f : List ℕ → List ℕ) (m : ℕ) (forms : List (List ℕ)) → length (flat_map f (take m forms)) ≤ length (flat_map f forms)
fewer_contents f zero forms = omega arith
fewer_contents f (suc m) [] = omega arith
fewer_contents f (suc m) (x ∷ xs) = omega (arith, length-append (f x) (flat_map f (take m xs)), length-append (f x) (flat_map f xs), fewer_contents f m xs)

-- ---- an image that has what the base has, and the first forms

-- the base, and forms on it
pub record Goes (page : ℕ) (e : Endian) (size blocks : ℕ) (base : List ℕ) (row : List Opening) (steps : List Step) (forms : List (List ℕ)) : Type 0 where
  pub is_base : IsBaseThrough e size blocks base
  pub on : AreFormsInOpenings e size base row steps forms
  pub go : GoesOn page (expanded_nodes e size base) steps
  pub carry : AllCarry e size (nodes_through e size base steps) forms

pub mounts_after : (page : ℕ) (e : Endian) (size blocks m : ℕ) (base image : List ℕ) (row : List Opening) (steps : List Step) (forms : List (List ℕ)) → Goes page e size blocks base row steps forms
    → length image ≤ blocks * size → ExpandsInRow e size base image (take m forms)
    → MountsThroughAs e size image (after bytes (state_through e size base) (take m steps))
mounts_after page e size blocks m base image row steps forms it within has =
    let limits = limits_of size blocks base it.is_base.flash in
    let ns : List NodeRef = expanded_nodes e size base in
    let new : List NodeRef = nodes_through e size base steps in
    let sound = it.is_base.mounts.sound in
    let mixed : Interleaves ns (take m new) (expanded_nodes e size image) =
    subst (λ (l : List NodeRef). Interleaves ns l (expanded_nodes e size image)) (it.carry.gives m) has.nodes in
    let same = merged_make_same ns (take m new) (expanded_nodes e size image) mixed (it.go.apart sound.apart m) in
    let state : state_of (expanded_nodes e size image) ≡ after bytes (state_of ns) (take m steps) = sym same.state ∙ it.go.states m in
    record {
      sound = record {
        scannable = (limits.size_is, omega (arith, within, limits.small));
        none = has.none sound.none;
        contents = omega (arith, has.contents, fewer_contents (form_content e) m forms, it.on.contents);
        apart = same.apart;
      };
      root = subst (λ (s : State). IsTrue (is_directory s 1)) (sym state) (it.go.roots m);
      same = state;
    }

pub stored : (page : ℕ) (e : Endian) (size blocks : ℕ) (base : List ℕ) (row : List Opening) (steps : List Step) (forms : List (List ℕ)) → Goes page e size blocks base row steps forms
    → AreOpeningsOf e size blocks base row → AreStoredInOpenings e size blocks base row forms
stored page e size blocks base row steps forms it opens =
    let limits = limits_of size blocks base it.is_base.flash in
    record {
      size_is = limits.size_is;
      no_longer = limits.within;
      openings = opens;
      each = storable_forms e size forms it.carry.loggable;
      read = it.carry.read;
      room = it.on.fits;
    }

pub forms_survive_in_openings : FormsSurviveInOpenings
forms_survive_in_openings page e size blocks n base row ops forms is_page room is_base are_bytes fit_ops opens accepted =
    let limits = limits_of size blocks base is_base.flash in
    let ns : List NodeRef = expanded_nodes e size base in
    let steps : List Step = steps_of_first page (index_through e size base) ops n in
    let go : GoesOn page ns steps = planned_goes_on page ns ops n is_page (all_fit_through e size base limits.size_is are_bytes) is_base.mounts.root fit_ops in
    let it : Goes page e size blocks base row steps forms = record {
      is_base = is_base;
      on = accepted.forms_in;
      go = go;
      carry = forms_carry e size (nodes_through e size base steps) forms (planned_loggable page e size (nodes_through e size base steps) is_page room (go.written e)) accepted.forms_in.are;
    } in
    let kept = stored page e size blocks base row steps forms it opens in
    record {
      cuts = λ none k image left.
          mounts_after page e size blocks (whole_in_shares e size (shares size row forms) k) base image row steps forms it left.no_longer
          (left_in_openings e size blocks k base image row forms kept it.carry.loggable none left);
      whole = λ image left.
          let m : ℕ = length forms + length steps in
          let all : forms ≡ take m forms = sym (take_all m forms (omega arith)) in
          let all_steps : take m steps ≡ steps = take_all m steps (omega arith) in
          subst (λ (l : List Step). MountsThroughAs e size image (after bytes (state_through e size base) l)) all_steps
          (mounts_after page e size blocks m base image row steps forms it left.no_longer
          (subst (ExpandsInRow e size base image) all (whole_in_openings e size blocks _ base image row forms kept (omega arith) left)));
    }
