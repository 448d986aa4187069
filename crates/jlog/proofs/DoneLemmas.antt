-- What a log has done survives, and so does what is done next.
use Rattle.std.proofs.Common.{◌≡◌, ℕ, zero, suc, ◌+◌, ◌-◌, ◌%◌, ◌≤◌, true, List, [], ◌∷◌, ◌++◌, length, map, take, refl, sym, ap, ◌∙◌, subst, arith, append_assoc, length-append, Result, Ok, Err}
use Rattle.std.specs.Prelude.{IsTrue, bytes_eq, flat_map}
use Rattle.std.specs.List.{AllByRecursion}
use Rattle.std.proofs.Math.Seq.{take-append-add}
use Rattle.std.proofs.lemmas.Bool.{cond-true}
use Rattle.std.proofs.lemmas.List.{length-map, length-take-le}
use Rattle.std.proofs.lemmas.Slice.Eq.{bytes_eq-Decides}
use Rattle.flashbase.specs.Ranges.{AreBytes}
use Rattle.flashbase.proofs.BytesLemmas.{le_pad4}
use Rattle.jnode.specs.Weak.{torn}
use Rattle.jnode.specs.Writing.{canonical, filled}
use Rattle.jnode.specs.declared.node.NodeRef.{NodeRef}
use Rattle.jnode.specs.declared.order.Endian.{Endian}
use Rattle.jmount.specs.Tree.{State}
use Rattle.jmount.specs.Mounts.{plain_nodes, state, MountsAs}
use Rattle.jsteps.specs.Steps.{bytes, do_step, after}
use Rattle.jsteps.specs.Nodes.{Indexed, node_of, nodes_of, advanced, advanced_all}
use Rattle.jscan.specs.Pages.{IsPage}
use Rattle.jsteps.specs.Refusals.{planned_by, plans_of, steps_of_first}
use Rattle.jsteps.specs.Laws.{OpFits, GoesOn}
use Rattle.jsteps.specs.declared.fault.OpFault.{OpFault}
use Rattle.jsteps.specs.declared.op.Op.{Op}
use Rattle.jsteps.specs.declared.step.Step.{Step}
use Rattle.jsteps.proofs.TakenLemmas.{advanced_all-append}
use Rattle.jsteps.proofs.GoesOnLemmas.{planned_goes_on}
use Rattle.jlog.specs.Places.{place_after, end_after, places, end_of_all, fit}
use Rattle.jlog.specs.Output.{gap, output}
use Rattle.jlog.specs.Left.{IsLeft, count_whole, intact}
use Rattle.jlog.specs.Laws.{FitsBlock}
use Rattle.jlog.specs.LeftLaws.{IsLoggable}
use Rattle.jlog.specs.Headline.{IsBase, AreAccepted, Survives, resume_address, index_of_image, new_nodes}
use Rattle.jlog.specs.Running.{written}
use Rattle.jlog.specs.Done.{steps_on, GoesOnBy, EarlierStand, SurvivesAfter}
use Rattle.jlog.proofs.PlaceLemmas.{place_is_least}
use Rattle.jlog.proofs.HereLemmas.{Sure, cuts_seen, torn_all}
use Rattle.jlog.proofs.LeftLemmas.{nodes_loggable, nodes_not_weak}
use Rattle.jlog.proofs.ImageLemmas.{block_size}
use Rattle.jlog.proofs.IntactLemmas.{first_out, has_room, intact_is_counted}
use Rattle.jlog.proofs.HeadlineLemmas.{all_fit, accepted_survives, planned_loggable, readable, sure_mounts}
use Rattle.jlog.proofs.RunningLemmas.{StepsGoOn, steps_go_on, written_on}
use Rattle.jlog.proofs.RunLemmas.{fit_both}

-- ---- operations after others

plans_by : ℕ → Indexed → List Op → Result (List Step) OpFault → List (List Step)
plans_by page x ops (Ok steps) = steps ∷ plans_of page (advanced_all x steps) ops
plans_by page x ops (Err f) = []

abbrev joined : List (List Step) → List Step
joined plans = flat_map (λ steps. steps) plans

-- where all of the first have steps, those after them have theirs after these
pub record PlansOn (page : ℕ) (x : Indexed) (xs ys : List Op) (m n : ℕ) : Type 0 where
  pub steps_are : steps_of_first page x (xs ++ ys) m ≡ steps_of_first page x xs (length xs) ++ steps_of_first page (advanced_all x (steps_of_first page x xs (length xs))) ys n
  pub planned : m ≤ length (plans_of page x (xs ++ ys))

pub plans_on : (page : ℕ) (x : Indexed) (xs ys : List Op) (m n : ℕ) → m ≡ length xs + n → length xs ≤ length (plans_of page x xs)
    → n ≤ length (plans_of page (advanced_all x (steps_of_first page x xs (length xs))) ys) → PlansOn page x xs ys m n
unfolding plans_by
plans_on page x [] ys m n sum first then =
    let same : n ≡ m = omega arith in
    subst (λ (i : ℕ). PlansOn page x [] ys i n) same (record { steps_are = refl; planned = then })
plans_on page x (o ∷ xs) ys zero n sum first then = absurd (omega arith)
plans_on page x (o ∷ xs) ys (suc m) n sum first then =
    let both = by (λ y p q. plans_on page y xs ys m n (omega arith) p q) (planned_by page x o) first then in
    record { steps_are = both.0; planned = both.1 }
  where
    by : ((y : Indexed) → length xs ≤ length (plans_of page y xs) → n ≤ length (plans_of page (advanced_all y (steps_of_first page y xs (length xs))) ys) → PlansOn page y xs ys m n)
        → (r : Result (List Step) OpFault) → suc (length xs) ≤ length (plans_by page x xs r)
        → n ≤ length (plans_of page (advanced_all x (joined (take (suc (length xs)) (plans_by page x xs r)))) ys)
        → (joined (take (suc m) (plans_by page x (xs ++ ys) r)) ≡ joined (take (suc (length xs)) (plans_by page x xs r)) ++ steps_of_first page (advanced_all x (joined (take (suc (length xs)) (plans_by page x xs r)))) ys n)
        × (suc m ≤ length (plans_by page x (xs ++ ys) r))
    by rest_is (Ok s) first then =
        let y : Indexed = advanced_all x s in
        let mine : List Step = steps_of_first page y xs (length xs) in
        let on : advanced_all x (s ++ mine) ≡ advanced_all y mine = advanced_all-append x s mine in
        let more : PlansOn page y xs ys m n = rest_is y (omega (arith, first)) (subst (λ (z : Indexed). n ≤ length (plans_of page z ys)) on then) in (
          ap (λ (l : List Step). s ++ l) more.steps_are
              ∙ (sym (append_assoc s mine (steps_of_first page (advanced_all y mine) ys n)) ∙ ap (λ (z : Indexed). (s ++ mine) ++ steps_of_first page z ys n) (sym on)),
          omega (arith, more.planned),
        )
    by rest_is (Err f) first then = absurd (omega (arith, first))

-- the first so many operations have the steps that they have among all
pub record FirstOps (page : ℕ) (x : Indexed) (ops : List Op) (n : ℕ) : Type 0 where
  pub steps_are : steps_of_first page x (take n ops) n ≡ steps_of_first page x ops n
  pub planned : n ≤ length (plans_of page x (take n ops))
  pub within : n ≤ length ops

pub first_ops : (page : ℕ) (x : Indexed) (ops : List Op) (n : ℕ) → n ≤ length (plans_of page x ops) → FirstOps page x ops n
unfolding plans_by
first_ops page x ops zero within = record { steps_are = refl; planned = omega arith; within = omega arith }
first_ops page x [] (suc n) within = absurd (omega (arith, within))
first_ops page x (o ∷ ops) (suc n) within =
    let all = by (λ y p. first_ops page y ops n p) (planned_by page x o) within in
    record { steps_are = all.0; planned = all.1; within = all.2 }
  where
    by : ((y : Indexed) → n ≤ length (plans_of page y ops) → FirstOps page y ops n)
        → (r : Result (List Step) OpFault) → suc n ≤ length (plans_by page x ops r)
        → (joined (take (suc n) (plans_by page x (take n ops) r)) ≡ joined (take (suc n) (plans_by page x ops r))) × (suc n ≤ length (plans_by page x (take n ops) r)) × (suc n ≤ length (o ∷ ops))
    by rest_is (Ok s) within =
        let more : FirstOps page (advanced_all x s) ops n = rest_is (advanced_all x s) (omega (arith, within)) in
        (ap (λ (l : List Step). s ++ l) more.steps_are, omega (arith, more.planned), omega (arith, more.within))
    by rest_is (Err f) within = absurd (omega (arith, within))

-- ---- lists

pub all_both : {X : Type 0} (P : X → Type 0) (xs ys : List X) → AllByRecursion P xs → AllByRecursion P ys → AllByRecursion P (xs ++ ys)
all_both P [] ys p q = q
all_both P (x ∷ xs) ys p q = (p.0, all_both P xs ys p.1 q)

pub all_first : {X : Type 0} (P : X → Type 0) (n : ℕ) (xs : List X) → AllByRecursion P xs → AllByRecursion P (take n xs)
all_first P zero xs p = tt
all_first P (suc n) [] p = tt
all_first P (suc n) (x ∷ xs) p = (p.0, all_first P n xs p.1)

pub all_fewer : {X : Type 0} (P : X → Type 0) (n m : ℕ) (xs : List X) → n ≤ m → AllByRecursion P (take m xs) → AllByRecursion P (take n xs)
all_fewer P zero m xs fewer p = tt
all_fewer P (suc n) zero xs fewer p = absurd (omega arith)
all_fewer P (suc n) (suc m) [] fewer p = tt
all_fewer P (suc n) (suc m) (x ∷ xs) fewer p = (p.0, all_fewer P n m xs (omega arith) p.1)

all_left : {X : Type 0} (P : X → Type 0) (xs ys : List X) → AllByRecursion P (xs ++ ys) → AllByRecursion P xs
all_left P [] ys p = tt
all_left P (x ∷ xs) ys p = (p.0, all_left P xs ys p.1)

pub all_right : {X : Type 0} (P : X → Type 0) (xs ys : List X) → AllByRecursion P (xs ++ ys) → AllByRecursion P ys
all_right P [] ys p = p
all_right P (x ∷ xs) ys p = all_right P xs ys p.1

-- steps after steps
pub nodes_on : (x : Indexed) (xs ys : List Step) → nodes_of x (xs ++ ys) ≡ nodes_of x xs ++ nodes_of (advanced_all x xs) ys
nodes_on x [] ys = refl
nodes_on x (s ∷ xs) ys = ap (λ (l : List NodeRef). node_of x s ∷ l) (nodes_on (advanced x s) xs ys)

pub after_on : (s : State) (xs ys : List Step) → after bytes s (xs ++ ys) ≡ after bytes (after bytes s xs) ys
after_on s [] ys = refl
after_on s (step ∷ xs) ys = after_on (do_step bytes s step) xs ys

-- ---- a stop after all bytes of the first nodes

-- leaves all of them, and those after them by the bytes that they still get
intact_on : (e : Endian) (size from k : ℕ) (xs ys : List (List ℕ)) → size % 4 ≡ 0 → AllByRecursion (FitsBlock size) xs
    → intact size from (length (output e size from xs) + k) (xs ++ ys) ≡ length xs + intact size (end_of_all size from xs) k ys
intact_on e size from k [] ys words ok =
    let same : length (output e size from []) + k ≡ k = omega arith in
    ap (λ (i : ℕ). intact size from i ys) same ∙ omega arith
intact_on e size from k (node ∷ xs) ys words ok =
    let len : ℕ = length node in
    let at : ℕ = place_after size from len in
    let end : ℕ = end_after size from len in
    let front : List ℕ = gap e size from at ++ filled node in
    let rest : List ℕ = output e size end xs in
    let all : ℕ = length (output e size from (node ∷ xs)) + k in
    let long : length front + length rest + k ≡ all = omega (arith, length-append front rest) in
    let sum : from + length front ≡ end = first_out e size from node words ok.0 in
    let up : from ≤ at = (place_is_least size from len words ok.0.some ok.0.within).place.upwards in
    let first : bytes_eq (torn node (all - (at - from))) node ≡ true = (bytes_eq-Decides _ _).1 (torn_all node (all - (at - from)) (omega (arith, long, sum, le_pad4 len))) in
    let later : all - (end - from) ≡ length rest + k = omega (arith, long, sum) in
    cond-true (bytes_eq (torn node (all - (at - from))) node) (suc (intact size end (all - (end - from)) (xs ++ ys))) 0 first
    ∙ (ap (λ (i : ℕ). suc (intact size end i (xs ++ ys))) later
    ∙ (ap suc (intact_on e size end k xs ys words ok.1) ∙ omega arith))

pub count_on : (e : Endian) (size from k : ℕ) (xs ys : List (List ℕ)) → size % 4 ≡ 0 → AllByRecursion (FitsBlock size) (xs ++ ys)
    → count_whole from (output e size from (xs ++ ys)) (length (output e size from xs) + k) (places size from (xs ++ ys))
    ≡ length xs + count_whole (end_of_all size from xs) (output e size (end_of_all size from xs) ys) k (places size (end_of_all size from xs) ys)
count_on e size from k xs ys words ok =
    let end : ℕ = end_of_all size from xs in
    intact_is_counted e size from (length (output e size from xs) + k) (xs ++ ys) words ok
    ∙ (intact_on e size from k xs ys words (all_left (FitsBlock size) xs ys ok)
    ∙ ap (λ (i : ℕ). length xs + i) (sym (intact_is_counted e size end k ys words (all_right (FitsBlock size) xs ys ok))))

pub nodes_long : (x : Indexed) (steps : List Step) → length (nodes_of x steps) ≡ length steps
nodes_long x [] = refl
nodes_long x (s ∷ steps) = ap suc (nodes_long (advanced x s) steps)

all_behind : {A : Type 0} (P : A → Type 0) (xs ys : List A) → AllByRecursion P (xs ++ ys) → AllByRecursion P ys
all_behind P [] ys all = all
all_behind P (x ∷ xs) ys all = all_behind P xs ys all.1

pub earlier_stand : (page : ℕ) (e : Endian) (size blocks : ℕ) (base : List ℕ) (earlier steps : List Step) → IsPage page → page + 80 ≤ size → IsBase e size blocks base
    → IsTrue (fit size blocks (resume_address e size blocks base) (written e (index_of_image e size base) (earlier ++ steps)))
    → GoesOn page (plain_nodes e size base) (earlier ++ steps) → EarlierStand e size blocks base earlier steps
earlier_stand page e size blocks base earlier steps is_page room is_base fits go none k image within left =
    let start : ℕ = resume_address e size blocks base in
    let x : Indexed = index_of_image e size base in
    let y : Indexed = advanced_all x earlier in
    let before : List (List ℕ) = written e x earlier in
    let nodes : List (List ℕ) = written e y steps in
    let all : List (List ℕ) = written e x (earlier ++ steps) in
    let from : ℕ = end_of_all size start before in
    let front : ℕ = length (output e size start before) in
    let out : List ℕ = output e size from nodes in
    let m : ℕ = count_whole from out k (places size from nodes) in
    let words : size % 4 ≡ 0 = (block_size size (readable e size blocks base is_base)).words in
    let is : all ≡ before ++ nodes = written_on e x earlier steps in
    let on : StepsGoOn e size start x earlier steps = steps_go_on e size start x earlier steps in
    let loggable : AllByRecursion (IsLoggable e size) (nodes_of x (earlier ++ steps)) = planned_loggable page e size (nodes_of x (earlier ++ steps)) is_page room (go.written e) in
    let roomy : AllByRecursion (FitsBlock size) (before ++ nodes) =
    subst (AllByRecursion (FitsBlock size)) is (has_room e size (nodes_of x (earlier ++ steps)) loggable) in
    let later : AllByRecursion (IsLoggable e size) (nodes_of y steps) =
    all_behind (IsLoggable e size) (nodes_of x earlier) (nodes_of y steps) (subst (AllByRecursion (IsLoggable e size)) (nodes_on x earlier steps) loggable) in
    let count : count_whole start (output e size start all) (front + k) (places size start all) ≡ length earlier + m =
    ap (λ (l : List (List ℕ)). count_whole start (output e size start l) (front + k) (places size start l)) is
    ∙ (count_on e size start k before nodes words roomy ∙ ap (λ (i : ℕ). i + m) (length-map (nodes_of x earlier) (canonical e) ∙ nodes_long x earlier)) in
    let sure : Sure e size start (front + k) (map (canonical e) (new_nodes e size base (earlier ++ steps))) =
    record { first = before; rest = nodes; both = is; uncut = omega arith; seen = cuts_seen e size nodes (nodes_loggable e size (nodes_of y steps) (readable e size blocks base is_base) later) (nodes_not_weak e (nodes_of y steps) none) } in
    let there : IsLeft e size blocks base start (output e size start all) (front + k) image =
    subst (λ (o : List ℕ). IsLeft e size blocks base start o (front + k) image) (sym on.output_is) left in
    let mounts = sure_mounts page e size blocks (front + k) base image (earlier ++ steps) is_page room is_base fits go sure there in
    let taken : take (count_whole start (output e size start all) (front + k) (places size start all)) (earlier ++ steps) ≡ earlier ++ take m steps =
    ap (λ (i : ℕ). take i (earlier ++ steps)) count ∙ take-append-add earlier steps m in
    subst (MountsAs e size image) (ap (after bytes (state e size base)) taken ∙ after_on (state e size base) earlier (take m steps)) mounts

-- ---- what is done next

-- operations have steps, and the nodes of these fit
pub record Fit (page : ℕ) (e : Endian) (size blocks from : ℕ) (x : Indexed) (ops : List Op) (n : ℕ) : Type 0 where
  pub planned : n ≤ length (plans_of page x ops)
  pub fits : IsTrue (fit size blocks from (written e x (steps_of_first page x ops n)))

-- after those that were done
record FitAfter (page : ℕ) (e : Endian) (size blocks : ℕ) (base : List ℕ) (done ops : List Op) (n : ℕ) : Type 0 where
  steps_are : steps_of_first page (index_of_image e size base) (done ++ ops) (length done + n)
      ≡ steps_on page e size base done ++ steps_of_first page (advanced_all (index_of_image e size base) (steps_on page e size base done)) ops n
  accepted : AreAccepted page e size blocks base (done ++ ops) (length done + n)

fit_after : (page : ℕ) (e : Endian) (size blocks from : ℕ) (base : List ℕ) (done ops : List Op) (x : Indexed) (n : ℕ) → GoesOnBy page e size blocks base done from x → Fit page e size blocks from x ops n
    → FitAfter page e size blocks base done ops n
fit_after page e size blocks from base done ops x n on fits_here =
    let start : ℕ = resume_address e size blocks base in
    let z : Indexed = index_of_image e size base in
    let earlier : List Step = steps_on page e size base done in
    let y : Indexed = advanced_all z earlier in
    let at : Fit page e size blocks (end_of_all size start (written e z earlier)) y ops n =
    subst (λ (w : Indexed). Fit page e size blocks (end_of_all size start (written e z earlier)) w ops n) on.index_is
    (subst (λ (c : ℕ). Fit page e size blocks c x ops n) on.cursor_is fits_here) in
    let plans : PlansOn page z done ops (length done + n) n = plans_on page z done ops (length done + n) n refl on.accepted.planned at.planned in
    record {
      steps_are = plans.steps_are;
      accepted = record {
        planned = plans.planned;
        fits = subst (λ (l : List Step). IsTrue (fit size blocks start (written e z l))) (sym plans.steps_are)
            (fit_both e size blocks start z earlier (steps_of_first page y ops n) on.accepted.fits at.fits);
      };
    }

survives_after : (page : ℕ) (e : Endian) (size blocks from : ℕ) (base : List ℕ) (done ops : List Op) (x : Indexed) (n : ℕ) → IsPage page → page + 80 ≤ size
    → GoesOnBy page e size blocks base done from x → AreBytes base → AllByRecursion OpFits ops → Fit page e size blocks from x ops n
    → SurvivesAfter e size blocks base (steps_on page e size base done) (steps_of_first page x ops n)
survives_after page e size blocks from base done ops x n is_page room on are_bytes widths fits_here =
    let z : Indexed = index_of_image e size base in
    let earlier : List Step = steps_on page e size base done in
    let steps : List Step = steps_of_first page (advanced_all z earlier) ops n in
    let it : FitAfter page e size blocks base done ops n = fit_after page e size blocks from base done ops x n on fits_here in
    let all : AllByRecursion OpFits (done ++ ops) = all_both OpFits done ops on.widths widths in
    let go : GoesOn page (plain_nodes e size base) (steps_of_first page z (done ++ ops) (length done + n)) =
    planned_goes_on page (plain_nodes e size base) (done ++ ops) (length done + n) is_page (all_fit e size base (readable e size blocks base on.is_base) are_bytes) on.is_base.mounts.root all in
    let survive : Survives e size blocks base (steps_of_first page z (done ++ ops) (length done + n)) =
    accepted_survives page e size blocks (length done + n) base (done ++ ops) is_page room on.is_base are_bytes all it.accepted in
    subst (λ (w : Indexed). SurvivesAfter e size blocks base earlier (steps_of_first page w ops n)) (sym on.index_is)
    (record {
      all = subst (Survives e size blocks base) it.steps_are survive;
      stand = earlier_stand page e size blocks base earlier steps is_page room on.is_base
          (subst (λ (l : List Step). IsTrue (fit size blocks (resume_address e size blocks base) (written e z l))) it.steps_are it.accepted.fits)
          (subst (GoesOn page (plain_nodes e size base)) it.steps_are go);
    })

-- the first of them alone have steps, and the same
first_fit : (page : ℕ) (e : Endian) (size blocks from : ℕ) (x : Indexed) (ops : List Op) (n : ℕ) → Fit page e size blocks from x ops n → Fit page e size blocks from x (take n ops) n
first_fit page e size blocks from x ops n fits_here =
    let first : FirstOps page x ops n = first_ops page x ops n fits_here.planned in
    record {
      planned = first.planned;
      fits = subst (λ (l : List Step). IsTrue (fit size blocks from (written e x l))) (sym first.steps_are) fits_here.fits;
    }

pub first_survive : (page : ℕ) (e : Endian) (size blocks from : ℕ) (base : List ℕ) (done ops : List Op) (x : Indexed) (n : ℕ) → IsPage page → page + 80 ≤ size
    → GoesOnBy page e size blocks base done from x → AreBytes base → AllByRecursion OpFits (take n ops) → Fit page e size blocks from x ops n
    → SurvivesAfter e size blocks base (steps_on page e size base done) (steps_of_first page x ops n)
first_survive page e size blocks from base done ops x n is_page room on are_bytes widths fits_here =
    subst (SurvivesAfter e size blocks base (steps_on page e size base done)) (first_ops page x ops n fits_here.planned).steps_are
    (survives_after page e size blocks from base done (take n ops) x n is_page room on are_bytes widths (first_fit page e size blocks from x ops n fits_here))

pub goes_on_by_more : (page : ℕ) (e : Endian) (size blocks from end : ℕ) (base : List ℕ) (done ops : List Op) (x y : Indexed) (n : ℕ)
    → GoesOnBy page e size blocks base done from x → AllByRecursion OpFits (take n ops) → Fit page e size blocks from x ops n
    → end ≡ end_of_all size from (written e x (steps_of_first page x ops n)) → y ≡ advanced_all x (steps_of_first page x ops n)
    → GoesOnBy page e size blocks base (done ++ take n ops) end y
goes_on_by_more page e size blocks from end base done ops x y n on widths fits_here cursor_is index_is =
    let start : ℕ = resume_address e size blocks base in
    let z : Indexed = index_of_image e size base in
    let earlier : List Step = steps_on page e size base done in
    let steps : List Step = steps_of_first page x ops n in
    let first : FirstOps page x ops n = first_ops page x ops n fits_here.planned in
    let few : List Op = take n ops in
    let len : length few ≡ n = length-take-le n ops first.within in
    let here_on : Fit page e size blocks from x few n = first_fit page e size blocks from x ops n fits_here in
    let it : FitAfter page e size blocks base done few n = fit_after page e size blocks from base done few x n on here_on in
    let long : length (done ++ few) ≡ length done + n = length-append done few ∙ ap (λ (i : ℕ). length done + i) len in
    let all_steps : steps_on page e size base (done ++ few) ≡ earlier ++ steps =
    ap (steps_of_first page z (done ++ few)) long
    ∙ (it.steps_are ∙ ap (λ (l : List Step). earlier ++ l) (ap (λ (w : Indexed). steps_of_first page w few n) (sym on.index_is) ∙ first.steps_are)) in
    let goes : StepsGoOn e size start z earlier steps = steps_go_on e size start z earlier steps in
    record {
      is_base = on.is_base;
      widths = all_both OpFits done few on.widths widths;
      accepted = subst (AreAccepted page e size blocks base (done ++ few)) (sym long) it.accepted;
      cursor_is = cursor_is
          ∙ (ap (λ (c : ℕ). end_of_all size c (written e x steps)) on.cursor_is
          ∙ (ap (λ (w : Indexed). end_of_all size (end_of_all size start (written e z earlier)) (written e w steps)) on.index_is
          ∙ (sym goes.end_is ∙ ap (λ (l : List Step). end_of_all size start (written e z l)) (sym all_steps))));
      index_is = index_is
          ∙ (ap (λ (w : Indexed). advanced_all w steps) on.index_is
          ∙ (sym (advanced_all-append z earlier steps) ∙ ap (advanced_all z) (sym all_steps)));
    }
