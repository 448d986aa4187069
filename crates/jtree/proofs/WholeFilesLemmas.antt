-- Updates leave whole files, whatever the byte at which writing stops.
use Rattle.std.proofs.Common.{◌≡◌, ℕ, zero, suc, true, List, [], ◌∷◌, take, Option, Some, None, Result, Ok, Err, refl, inl, inr, ◌⊎◌, ap, sym, ◌∙◌, subst, ⊎_elim, arith}
use Rattle.std.specs.Prelude.{flat_map, Contains, is_ok}
use Rattle.std.specs.List.{AllByRecursion}
use Rattle.std.proofs.lemmas.Bool.{eqb-true, false≢true}
use Rattle.flashbase.proofs.MemberLemmas.{Contains-here, Contains-there}
use Rattle.jmount.specs.Find.{find_names, path_names, step, walk}
use Rattle.jmount.specs.Mounts.{plain_nodes}
use Rattle.jmount.specs.StateOf.{state_of}
use Rattle.jmount.specs.Tree.{State, outline, named, is_directory, has_bits, directory_bits, regular_bits, type_bits}
use Rattle.jmount.proofs.ShapeLemmas.{walk_begins, same_ok}
use Rattle.jsteps.specs.Steps.{bytes, after}
use Rattle.jsteps.specs.Nodes.{Indexed, index_of, advanced_all}
use Rattle.jscan.specs.Pages.{IsPage}
use Rattle.jsteps.specs.Refusals.{planned_by, plans_of, steps_of_first}
use Rattle.jsteps.specs.Laws.{IsConsistent, OpFits}
use Rattle.jsteps.specs.declared.fault.OpFault.{OpFault}
use Rattle.jsteps.specs.declared.op.Op.{Op}
use Rattle.jsteps.specs.declared.step.Step.{Step}
use Rattle.jsteps.proofs.ConsistentLemmas.{index_is_consistent}
use Rattle.jsteps.proofs.GoesOnLemmas.{planned_goes_on}
use Rattle.jsteps.proofs.PlanLemmas.{accepted, planned_is_ready}
use Rattle.jlog.proofs.HeadlineLemmas.{all_fit, readable, accepted_survives}
use Rattle.jtree.specs.Updates as law
use Rattle.jtree.specs.Updates.{IsUpdate, MakesFileWith, LeadsToFile, IsWholeFile}
use Rattle.jtree.proofs.RunLemmas.{tree_after}
use Rattle.jtree.proofs.UpdateLemmas.{AreWhole, EachWhole, each_first, each_append, op_whole}
use Rattle.jtree.proofs.WayLemmas.{step_is}

-- ---- operations that follow one another

abbrev plans_behind : ℕ → Indexed → List Op → Result (List Step) OpFault → List (List Step)
plans_behind page x ops (Ok steps) = steps ∷ plans_of page (advanced_all x steps) ops
plans_behind page x ops (Err f) = []

whole_behind : (W : List ℕ → Type 0) (page : ℕ) (x : Indexed) (t : State) (o : Op) (ops : List Op) (n : ℕ) → IsPage page → IsConsistent x → x.tree ≡ outline t → OpFits o → IsUpdate o
    → ((all : List ℕ) → MakesFileWith all o → W all) → AreWhole W t
    → ((y : Indexed) (u : State) → IsConsistent y → y.tree ≡ outline u → AreWhole W u → EachWhole W u (steps_of_first page y ops n))
    → (r : Result (List Step) OpFault) → planned_by page x o ≡ r → EachWhole W t (flat_map (λ steps. steps) (take (suc n) (plans_behind page x ops r)))
whole_behind W page x t o ops n is_page same tree fits update makes whole rest (Ok steps) e =
    let is = accepted page x o steps e in
    let ready = planned_is_ready page x o steps is_page same fits e in
    each_append W t steps (steps_of_first page (advanced_all x steps) ops n)
    (subst (EachWhole W t) is.steps_are (op_whole W page x t o steps is_page same tree update makes is whole))
    (λ now. rest (advanced_all x steps) (after bytes t steps) ready.consistent (tree_after x t steps tree ready.ready) now)
whole_behind W page x t o ops n is_page same tree fits update makes whole rest (Err f) e = whole

ops_whole : (W : List ℕ → Type 0) (page : ℕ) (x : Indexed) (t : State) (ops : List Op) (n : ℕ) → IsPage page → IsConsistent x → x.tree ≡ outline t → AllByRecursion OpFits ops
    → AllByRecursion IsUpdate ops → ((o : Op) → Contains ops o → (all : List ℕ) → MakesFileWith all o → W all) → AreWhole W t → EachWhole W t (steps_of_first page x ops n)
ops_whole W page x t ops zero is_page same tree fits update makes whole = whole
ops_whole W page x t [] (suc n) is_page same tree fits update makes whole = whole
ops_whole W page x t (o ∷ ops) (suc n) is_page same tree fits update makes whole =
    whole_behind W page x t o ops n is_page same tree fits.0 update.0 (makes o (Contains-here o ops)) whole
    (λ y u same_y tree_u whole_u. ops_whole W page y u ops n is_page same_y tree_u fits.1 update.1 (λ p among. makes p (Contains-there o ops p among)) whole_u)
    (planned_by page x o) refl

base_whole : (s : State) (ops : List Op) → AreWhole (IsWholeFile s ops) s
base_whole s ops = λ d n i o e there regular. inl (record { directory = d; name = n; number = i; file = o; entry = e; there = there; regular = regular; body = refl })

-- ---- paths lead by names

walk_ends : (t : State) (names : List (List ℕ)) (here i : ℕ) → walk t names (Ok here) ≡ Ok i → (here ≡ i) ⊎ ((d : ℕ) × (n : List ℕ) × (named t d n ≡ Some i))
walk_ends t [] here i e = inl (same_ok here i e)
walk_ends t (name ∷ names) here i e =
    let begins = walk_begins t names (step t here name) i e in
    let is = step_is t here name begins.0 begins.1 in
    ⊎_elim
    (λ (same : begins.0 ≡ i). inr (here, name, is.entry ∙ ap Some same))
    (λ (later : (d : ℕ) × (n : List ℕ) × (named t d n ≡ Some i)). inr later)
    (walk_ends t names begins.0 i begins.2)

path_ends : (t : State) (o : Option (List (List ℕ))) (i : ℕ) → find_names t o ≡ Ok i → (1 ≡ i) ⊎ ((d : ℕ) × (n : List ℕ) × (named t d n ≡ Some i))
path_ends t None i e = absurd (false≢true (ap is_ok e))
path_ends t (Some names) i e = walk_ends t names 1 i e

not_root : (t : State) (path all : List ℕ) (led : LeadsToFile t path all) → is_directory t 1 ≡ true → 1 ≡ led.number → ⊥
not_root t path all led root same =
    let directory : has_bits directory_bits (Some led.file) ≡ true = sym (ap (has_bits directory_bits) led.there) ∙ sym (ap (is_directory t) same) ∙ root in
    let four : type_bits led.file.mode ≡ 4 = eqb-true (type_bits led.file.mode) directory_bits directory in
    let eight : type_bits led.file.mode ≡ 8 = eqb-true (type_bits led.file.mode) regular_bits led.regular in
    omega arith

files_whole : (W : List ℕ → Type 0) (t : State) → is_directory t 1 ≡ true → AreWhole W t → (path all : List ℕ) → LeadsToFile t path all → W all
files_whole W t root whole path all led =
    ⊎_elim
    (λ (same : 1 ≡ led.number). absurd (not_root t path all led root same))
    (λ (at : (d : ℕ) × (n : List ℕ) × (named t d n ≡ Some led.number)). subst W led.body (whole at.0 at.1 led.number led.file at.2 led.there led.regular))
    (path_ends t (path_names path) led.number led.found)

-- ---- the laws

pub steps_keep_files_whole : law.StepsKeepFilesWhole
steps_keep_files_whole page ns ops n m is_page fit root fits update =
    let s = state_of ns in
    let steps = steps_of_first page (index_of ns) ops n in
    let each = ops_whole (IsWholeFile s ops) page (index_of ns) s ops n is_page (index_is_consistent ns fit root) refl fits update (λ o among all makes. inr (o, among, makes)) (base_whole s ops) in
    files_whole (IsWholeFile s ops) (after bytes s (take m steps)) ((planned_goes_on page ns ops n is_page fit root fits).roots m) (each_first (IsWholeFile s ops) s steps m each)

pub updates_are_whole : law.UpdatesAreWhole
updates_are_whole page e size blocks n base ops is_page room is_base are fits update all weak k image within left =
    let survive = accepted_survives page e size blocks n base ops is_page room is_base are fits all in (
      _,
      survive.cuts weak k image within left,
      steps_keep_files_whole page (plain_nodes e size base) ops n _ is_page (all_fit e size base (readable e size blocks base is_base) are) is_base.mounts.root fits update,
    )
