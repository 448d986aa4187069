-- What a log has done in openings survives, in whatever forms, and so does what is done next.
use Rattle.std.proofs.Common.{◌≡◌, ◌⊎◌, ℕ, suc, ◌+◌, ◌-◌, ◌≤◌, List, [], ◌∷◌, ◌++◌, length, take, drop, refl, sym, ap, ◌∙◌, subst, arith, inl, inr, length-append, None}
use Rattle.std.specs.Prelude.{IsTrue, nat_le}
use Rattle.std.specs.List.{AllByRecursion}
use Rattle.std.proofs.Math.Seq.{take-append-add, drop-append-add, drop-append-le}
use Rattle.std.proofs.lemmas.Bool.{and_from, cases_Bool, cond-true, cond-false}
use Rattle.std.proofs.lemmas.List.{length-take-le, take-append-le, take_all}
use Rattle.flashbase.specs.Ranges.{AreBytes}
use Rattle.jnode.specs.Laws.{IsPlain}
use Rattle.jnode.specs.Weak.{IsLeastWeak}
use Rattle.jnode.specs.declared.node.NodeRef.{NodeRef}
use Rattle.jnode.specs.declared.order.Endian.{Endian}
use Rattle.jscan.specs.Pages.{IsPage}
use Rattle.jsteps.specs.Steps.{bytes, after}
use Rattle.jsteps.specs.Nodes.{Indexed, nodes_of, advanced_all}
use Rattle.jsteps.specs.Refusals.{steps_of_first}
use Rattle.jsteps.specs.Laws.{OpFits, GoesOn}
use Rattle.jsteps.specs.declared.op.Op.{Op}
use Rattle.jsteps.specs.declared.step.Step.{Step}
use Rattle.jsteps.proofs.GoesOnLemmas.{planned_goes_on}
use Rattle.jsteps.proofs.TakenLemmas.{advanced_all-append}
use Rattle.jexpand.specs.Expanded.{expanded_nodes, unpacked_bytes}
use Rattle.jview.specs.Through.{greatest_contents, MountsThroughAs}
use Rattle.jlog.specs.Places.{place_after, end_after}
use Rattle.jlog.specs.Output.{output}
use Rattle.jlog.specs.Laws.{FitsBlock}
use Rattle.jlog.specs.Forms.{IsLoggableForm}
use Rattle.jlog.specs.DoneThrough.{steps_through}
use Rattle.jlog.specs.HeadlineThrough.{state_through, index_through, nodes_through}
use Rattle.jlog.specs.Packed.{AreNodeForms}
use Rattle.jlog.proofs.DoneLemmas.{FirstOps, PlansOn, after_on, all_both, all_right, first_ops, nodes_long, nodes_on, plans_on}
use Rattle.jlog.proofs.DoneThroughLemmas.{forms_on}
use Rattle.jlog.proofs.HeadlineLemmas.{planned_loggable}
use Rattle.jlog.proofs.HeadlineThroughLemmas.{all_fit_through, through_size}
use Rattle.jlog.proofs.HereLemmas.{CutsSeen, Sure, cuts_seen, none_cut}
use Rattle.jlog.proofs.ImageLemmas.{block_size}
use Rattle.jlog.proofs.LeftLemmas.{forms_have_room}
use Rattle.jlog.proofs.PackedLemmas.{forms_carry}
use Rattle.jlog.proofs.Parts.{flash_by}
use Rattle.jrests.specs.Left.{whole_in_shares, all_bytes}
use Rattle.jrests.specs.Openings.{AreOpeningsOf}
use Rattle.jrests.specs.Shares.{taken_from, shares, fit_in}
use Rattle.jrests.specs.Survives.{AreFormsInOpenings, AreAcceptedInOpenings, SurvivesInOpenings}
use Rattle.jrests.specs.declared.opening.Opening.{Opening}
use Rattle.jrests.proofs.ShareLemmas.{all_behind, all_first}
use Rattle.jrests.proofs.StandLemmas.{AllSure, all_seen_sure, sure_stands}
use Rattle.jrests.proofs.SurviveLemmas.{Goes, forms_survive_in_openings, mounts_after, stored}
use Rattle.jopenings.specs.After.{row_after, row_after_all}
use Rattle.jopenings.specs.Done.{GoesOnInOpenings, FitInOpenings, EarlierStandInOpenings, SurvivesAfterInOpenings, OpeningsBegin, DoneSurvivesInOpenings, DoneGoesOnInOpenings}
use Rattle.jopenings.proofs.AfterLemmas.{earlier_are_whole, none_fit, room_goes_on}

-- ---- how many of two lists of forms a block takes

-- all of the first and some of the other, or of the first alone
record TakenOn (size p : ℕ) (before forms : List (List ℕ)) : Type 0 where
  more : ℕ
  sum : taken_from size p (before ++ forms) ≡ taken_from size p before + more
  all : (more ≡ 0) ⊎ (taken_from size p before ≡ length before)
  few : taken_from size p before ≤ length before

one_more : (more t n u : ℕ) → u ≡ suc t → (more ≡ 0) ⊎ (t ≡ n) → (more ≡ 0) ⊎ (u ≡ suc n)
one_more more t n u is (inl none) = inl none
one_more more t n u is (inr full) = inr (is ∙ ap suc full)

taken_on : (size p : ℕ) (before forms : List (List ℕ)) → TakenOn size p before forms
taken_on size p [] forms =
    let sum : taken_from size p forms ≡ 0 + taken_from size p forms = omega arith in
    record { more = taken_from size p forms; sum = sum; all = inr refl; few = omega arith }
taken_on size p (x ∷ xs) forms =
    let end : ℕ = end_after size p (length x) in
    let it = taken_on size end xs forms in
    elim (cases_Bool (nat_le (place_after size p (length x) + length x) size)) [
      | inl inside ↦
          let both : taken_from size p (x ∷ (xs ++ forms)) ≡ suc (taken_from size end (xs ++ forms)) =
          cond-true (nat_le (place_after size p (length x) + length x) size) (suc (taken_from size end (xs ++ forms))) 0 inside in
          let first : taken_from size p (x ∷ xs) ≡ suc (taken_from size end xs) =
          cond-true (nat_le (place_after size p (length x) + length x) size) (suc (taken_from size end xs)) 0 inside in
          record {
            more = it.more;
            sum = omega (arith, both, first, it.sum);
            all = one_more it.more (taken_from size end xs) (length xs) (taken_from size p (x ∷ xs)) first it.all;
            few = omega (arith, first, it.few);
          }
      | inr outside ↦
          let both : taken_from size p (x ∷ (xs ++ forms)) ≡ 0 =
          cond-false (nat_le (place_after size p (length x) + length x) size) (suc (taken_from size end (xs ++ forms))) 0 outside in
          let first : taken_from size p (x ∷ xs) ≡ 0 =
          cond-false (nat_le (place_after size p (length x) + length x) size) (suc (taken_from size end xs)) 0 outside in
          record { more = 0; sum = omega (arith, both, first); all = inl refl; few = omega (arith, first) }
    ]

-- ---- none of the earlier forms is cut

-- what the others get, by other names
moved_sure : (e : Endian) (size k : ℕ) (o : Opening) (row : List Opening) (xs ys zs ws : List (List ℕ)) → xs ≡ ys → zs ≡ ws
    → AllSure e size (shares size row ws) (k - length (output e size o.place ys)) → AllSure e size (shares size row zs) (k - length (output e size o.place xs))
moved_sure e size k o row xs ys zs ws first rest sure =
    subst (λ (fs : List (List ℕ)). AllSure e size (shares size row zs) (k - length (output e size o.place fs))) (sym first)
    (subst (λ (fs : List (List ℕ)). AllSure e size (shares size row fs) (k - length (output e size o.place ys))) (sym rest) sure)

sure_by : (e : Endian) (size k : ℕ) (o : Opening) (row : List Opening) (before forms : List (List ℕ)) (more : ℕ) → CutsSeen e forms
    → taken_from size o.place (before ++ forms) ≡ taken_from size o.place before + more → taken_from size o.place before ≤ length before
    → (more ≡ 0) ⊎ (taken_from size o.place before ≡ length before)
    → ((bs : List (List ℕ)) → AllSure e size (shares size row (bs ++ forms)) (all_bytes e size (shares size row bs) + k))
    → AllSure e size (shares size (o ∷ row) (before ++ forms)) (all_bytes e size (shares size (o ∷ row) before) + k)
unfolding AllSure
sure_by e size k o row before forms more seen sum few (inl none) later =
    let b : ℕ = taken_from size o.place before in
    let n : ℕ = taken_from size o.place (before ++ forms) in
    let whole : ℕ = all_bytes e size (shares size (o ∷ row) before) + k in
    let same : n ≡ b = omega (arith, sum, none) in
    let here : take n (before ++ forms) ≡ take b before = ap (λ (m : ℕ). take m (before ++ forms)) same ∙ take-append-le b before forms few in
    let rest : drop n (before ++ forms) ≡ drop b before ++ forms = ap (λ (m : ℕ). drop m (before ++ forms)) same ∙ drop-append-le b before forms few in
    let out : ℕ = length (output e size o.place (take b before)) in
    let others : ℕ = all_bytes e size (shares size row (drop b before)) in
    let left : whole - out ≡ others + k = omega arith in (
      subst (Sure e size o.place whole) (sym here) (none_cut e size o.place whole (take b before) (omega arith)),
      moved_sure e size whole o row (take n (before ++ forms)) (take b before) (drop n (before ++ forms)) (drop b before ++ forms) here rest
          (subst (AllSure e size (shares size row (drop b before ++ forms))) (sym left) (later (drop b before))),
    )
sure_by e size k o row before forms more seen sum few (inr full) later =
    let b : ℕ = taken_from size o.place before in
    let n : ℕ = taken_from size o.place (before ++ forms) in
    let whole : ℕ = all_bytes e size (shares size (o ∷ row) before) + k in
    let long : n ≡ length before + more = omega (arith, sum, full) in
    let all : take b before ≡ before = take_all b before (omega (arith, full)) in
    let here : take n (before ++ forms) ≡ before ++ take more forms = ap (λ (m : ℕ). take m (before ++ forms)) long ∙ take-append-add before forms more in
    let most : length (output e size o.place (take b before)) ≤ whole = omega arith in
    let out : length (output e size o.place before) ≤ whole = subst (λ (fs : List (List ℕ)). length (output e size o.place fs) ≤ whole) all most in
    let rest : drop n (before ++ forms) ≡ drop more forms = ap (λ (m : ℕ). drop m (before ++ forms)) long ∙ drop-append-add before forms more in
    let left : ℕ = whole - length (output e size o.place (before ++ take more forms)) in (
      subst (Sure e size o.place whole) (sym here)
          (record { first = before; rest = take more forms; both = refl; uncut = out; seen = all_first (λ x. IsPlain (length x) × IsLeastWeak e x None) more forms seen }),
      moved_sure e size whole o row (take n (before ++ forms)) (before ++ take more forms) (drop n (before ++ forms)) (drop more forms) here rest
          (all_seen_sure e size left row (drop more forms) (all_behind (λ x. IsPlain (length x) × IsLeastWeak e x None) more forms seen)),
    )

earlier_sure : (e : Endian) (size k : ℕ) (row : List Opening) (before forms : List (List ℕ)) → CutsSeen e forms
    → AllSure e size (shares size row (before ++ forms)) (all_bytes e size (shares size row before) + k)
unfolding AllSure
earlier_sure e size k [] before forms seen = tt
earlier_sure e size k (o ∷ row) before forms seen =
    let it = taken_on size o.place before forms in
    sure_by e size k o row before forms it.more seen it.sum it.few it.all (λ bs. earlier_sure e size k row bs forms seen)

-- ---- the earlier ones stand

forms_long : (e : Endian) (ns : List NodeRef) (fs : List (List ℕ)) → AreNodeForms e ns fs → length fs ≡ length ns
forms_long e [] [] are = refl
forms_long e [] (f ∷ fs) are = absurd are
forms_long e (n ∷ ns) [] are = absurd are
forms_long e (n ∷ ns) (f ∷ fs) are = omega (arith, forms_long e ns fs are.1)

earlier_stand : (page : ℕ) (e : Endian) (size blocks : ℕ) (base : List ℕ) (row : List Opening) (earlier steps : List Step) (before forms : List (List ℕ)) → length before ≡ length earlier
    → IsTrue (fit_in size row before) → AreOpeningsOf e size blocks base row → Goes page e size blocks base row (earlier ++ steps) (before ++ forms)
    → EarlierStandInOpenings (flash_by page e size blocks) base row earlier steps before forms
earlier_stand page e size blocks base row earlier steps before forms len room opens it none k image left =
    let all : List (List ℕ) = before ++ forms in
    let kept = stored page e size blocks base row (earlier ++ steps) all it opens in
    let words = (block_size size kept.size_is).words in
    let roomy : AllByRecursion (FitsBlock size) all = forms_have_room e size all kept.each in
    let later : AllByRecursion (IsLoggableForm e size) forms = all_right (IsLoggableForm e size) before forms it.carry.loggable in
    let at : ℕ = all_bytes e size (shares size row before) + k in
    let n : ℕ = whole_in_shares e size (shares size row all) at in
    let m : ℕ = whole_in_shares e size (shares size (row_after_all size row before) forms) k in
    let has = sure_stands e size blocks at base image row all kept (earlier_sure e size k row before forms (cuts_seen e size forms later none)) left in
    let mounts = mounts_after page e size blocks n base image row (earlier ++ steps) all it left.no_longer has in
    let count : n ≡ length earlier + m = earlier_are_whole e size k row before forms words roomy room ∙ ap (λ (i : ℕ). i + m) len in
    let taken : take n (earlier ++ steps) ≡ earlier ++ take m steps = ap (λ (i : ℕ). take i (earlier ++ steps)) count ∙ take-append-add earlier steps m in
    subst (MountsThroughAs e size image) (ap (after bytes (state_through e size base)) taken ∙ after_on (state_through e size base) earlier (take m steps)) mounts

-- ---- what is done next

record FitAfter (page : ℕ) (e : Endian) (size : ℕ) (base : List ℕ) (row : List Opening) (done ops : List Op) (n : ℕ) (before forms : List (List ℕ)) : Type 0 where
  steps_are : steps_of_first page (index_through e size base) (done ++ ops) (length done + n)
      ≡ steps_through page e size base done ++ steps_of_first page (advanced_all (index_through e size base) (steps_through page e size base done)) ops n
  accepted : AreAcceptedInOpenings page e size base row (done ++ ops) (length done + n) (before ++ forms)

fit_after : (page : ℕ) (e : Endian) (size blocks : ℕ) (base : List ℕ) (row left : List Opening) (done ops : List Op) (before forms : List (List ℕ)) (x : Indexed) (n : ℕ)
    → GoesOnInOpenings (flash_by page e size blocks) base row done before left x → FitInOpenings (flash_by page e size blocks) base before left x ops n forms
    → FitAfter page e size base row done ops n before forms
fit_after page e size blocks base row left done ops before forms x n on here =
    let z : Indexed = index_through e size base in
    let earlier : List Step = steps_through page e size base done in
    let y : Indexed = advanced_all z earlier in
    let at : FitInOpenings (flash_by page e size blocks) base before (row_after_all size row before) y ops n forms =
    subst (λ (w : Indexed). FitInOpenings (flash_by page e size blocks) base before (row_after_all size row before) w ops n forms) on.index_is
    (subst (λ (r : List Opening). FitInOpenings (flash_by page e size blocks) base before r x ops n forms) on.left_is here) in
    let steps : List Step = steps_of_first page y ops n in
    let plans : PlansOn page z done ops (length done + n) n = plans_on page z done ops (length done + n) n refl on.accepted.planned at.planned in
    let was : AreFormsInOpenings e size base row earlier before = on.accepted.forms_in in
    record {
      steps_are = plans.steps_are;
      accepted = record {
        planned = plans.planned;
        forms_in = subst (λ (l : List Step). AreFormsInOpenings e size base row l (before ++ forms)) (sym plans.steps_are)
            (record {
              are = subst (λ (ns : List NodeRef). AreNodeForms e ns (before ++ forms)) (sym (nodes_on z earlier steps)) (forms_on e (nodes_of z earlier) (nodes_of y steps) before forms was.are at.are);
              fits = subst IsTrue (sym (room_goes_on size row before forms)) (and_from _ _ was.fits at.fits);
              contents = at.contents;
            });
      };
    }

first_fit : (page : ℕ) (e : Endian) (size blocks : ℕ) (base : List ℕ) (before forms : List (List ℕ)) (left : List Opening) (x : Indexed) (ops : List Op) (n : ℕ)
    → FitInOpenings (flash_by page e size blocks) base before left x ops n forms → FitInOpenings (flash_by page e size blocks) base before left x (take n ops) n forms
first_fit page e size blocks base before forms left x ops n here =
    let first : FirstOps page x ops n = first_ops page x ops n here.planned in
    record {
      planned = first.planned;
      are = subst (λ (l : List Step). AreNodeForms e (nodes_of x l) forms) (sym first.steps_are) here.are;
      fits = here.fits;
      contents = here.contents;
    }

survives_after : (page : ℕ) (e : Endian) (size blocks n : ℕ) (base : List ℕ) (row left : List Opening) (done ops : List Op) (before forms : List (List ℕ)) (x : Indexed) → IsPage page → page + 80 ≤ size
    → GoesOnInOpenings (flash_by page e size blocks) base row done before left x → AreBytes base → AllByRecursion OpFits ops
    → FitInOpenings (flash_by page e size blocks) base before left x ops n forms
    → SurvivesAfterInOpenings (flash_by page e size blocks) base row (steps_through page e size base done) (steps_of_first page x ops n) before forms
survives_after page e size blocks n base row left done ops before forms x is_page room on are_bytes widths here =
    let z : Indexed = index_through e size base in
    let earlier : List Step = steps_through page e size base done in
    let steps : List Step = steps_of_first page (advanced_all z earlier) ops n in
    let ns : List NodeRef = expanded_nodes e size base in
    let it : FitAfter page e size base row done ops n before forms = fit_after page e size blocks base row left done ops before forms x n on here in
    let all : AllByRecursion OpFits (done ++ ops) = all_both OpFits done ops on.widths widths in
    let planned : List Step = steps_of_first page z (done ++ ops) (length done + n) in
    let go : GoesOn page ns planned =
    planned_goes_on page ns (done ++ ops) (length done + n) is_page (all_fit_through e size base (through_size e size blocks base on.is_base) are_bytes) on.is_base.mounts.root all in
    let survive = forms_survive_in_openings page e size blocks (length done + n) base row (done ++ ops) (before ++ forms) is_page room on.is_base are_bytes all on.openings it.accepted in
    let goes : Goes page e size blocks base row (earlier ++ steps) (before ++ forms) =
    subst (λ (l : List Step). Goes page e size blocks base row l (before ++ forms)) it.steps_are
    (record {
      is_base = on.is_base;
      on = it.accepted.forms_in;
      go = go;
      carry = forms_carry e size (nodes_through e size base planned) (before ++ forms) (planned_loggable page e size (nodes_through e size base planned) is_page room (go.written e)) it.accepted.forms_in.are;
    }) in
    let len : length before ≡ length earlier = forms_long e (nodes_of z earlier) before on.accepted.forms_in.are ∙ nodes_long z earlier in
    subst (λ (w : Indexed). SurvivesAfterInOpenings (flash_by page e size blocks) base row earlier (steps_of_first page w ops n) before forms) (sym on.index_is)
    (record {
      all = subst (λ (l : List Step). SurvivesInOpenings e size blocks base row l (before ++ forms)) it.steps_are survive;
      stand = earlier_stand page e size blocks base row earlier steps before forms len on.accepted.forms_in.fits on.openings goes;
    })

survives_first : (page : ℕ) (e : Endian) (size blocks n : ℕ) (base : List ℕ) (row left : List Opening) (done ops : List Op) (before forms : List (List ℕ)) (x : Indexed) → IsPage page → page + 80 ≤ size
    → GoesOnInOpenings (flash_by page e size blocks) base row done before left x → AreBytes base → AllByRecursion OpFits (take n ops)
    → FitInOpenings (flash_by page e size blocks) base before left x ops n forms
    → SurvivesAfterInOpenings (flash_by page e size blocks) base row (steps_through page e size base done) (steps_of_first page x ops n) before forms
survives_first page e size blocks n base row left done ops before forms x is_page room on are_bytes widths here =
    subst (λ (l : List Step). SurvivesAfterInOpenings (flash_by page e size blocks) base row (steps_through page e size base done) l before forms) (first_ops page x ops n here.planned).steps_are
    (survives_after page e size blocks n base row left done (take n ops) before forms x is_page room on are_bytes widths (first_fit page e size blocks base before forms left x ops n here))

pub done_survives : DoneSurvivesInOpenings
done_survives flash n base row left done ops before forms x is_page room on are_bytes widths here =
    survives_first flash.page flash.order flash.size flash.blocks n base row left done ops before forms x is_page room on are_bytes widths here

-- ---- the log goes on

rows_on : (size : ℕ) (row : List Opening) (before forms : List (List ℕ)) → row_after_all size (row_after_all size row before) forms ≡ row_after_all size row (before ++ forms)
rows_on size row [] forms = refl
rows_on size row (x ∷ xs) forms = rows_on size (row_after size row x) xs forms

goes_on_first : (page : ℕ) (e : Endian) (size blocks n : ℕ) (base : List ℕ) (row left : List Opening) (done ops : List Op) (before forms : List (List ℕ)) (x : Indexed)
    → GoesOnInOpenings (flash_by page e size blocks) base row done before left x → AllByRecursion OpFits (take n ops)
    → FitInOpenings (flash_by page e size blocks) base before left x ops n forms
    → GoesOnInOpenings (flash_by page e size blocks) base row (done ++ take n ops) (before ++ forms) (row_after_all size left forms) (advanced_all x (steps_of_first page x ops n))
goes_on_first page e size blocks n base row left done ops before forms x on widths here =
    let z : Indexed = index_through e size base in
    let earlier : List Step = steps_through page e size base done in
    let steps : List Step = steps_of_first page x ops n in
    let first : FirstOps page x ops n = first_ops page x ops n here.planned in
    let few : List Op = take n ops in
    let len : length few ≡ n = length-take-le n ops first.within in
    let it : FitAfter page e size base row done few n before forms = fit_after page e size blocks base row left done few before forms x n on (first_fit page e size blocks base before forms left x ops n here) in
    let long : length (done ++ few) ≡ length done + n = length-append done few ∙ ap (λ (i : ℕ). length done + i) len in
    let all_steps : steps_through page e size base (done ++ few) ≡ earlier ++ steps =
    ap (steps_of_first page z (done ++ few)) long
    ∙ (it.steps_are ∙ ap (λ (l : List Step). earlier ++ l) (ap (λ (w : Indexed). steps_of_first page w few n) (sym on.index_is) ∙ first.steps_are)) in
    record {
      is_base = on.is_base;
      openings = on.openings;
      widths = all_both OpFits done few on.widths widths;
      accepted = subst (λ (i : ℕ). AreAcceptedInOpenings page e size base row (done ++ few) i (before ++ forms)) (sym long) it.accepted;
      left_is = ap (λ (r : List Opening). row_after_all size r forms) on.left_is ∙ rows_on size row before forms;
      index_is = ap (λ (w : Indexed). advanced_all w steps) on.index_is
          ∙ (sym (advanced_all-append z earlier steps) ∙ ap (advanced_all z) (sym all_steps));
    }

pub done_goes_on : DoneGoesOnInOpenings
done_goes_on flash n base row left done ops before forms x on widths here =
    goes_on_first flash.page flash.order flash.size flash.blocks n base row left done ops before forms x on widths here

pub openings_begin : OpeningsBegin
openings_begin flash base row is_base opens =
    let most : length (unpacked_bytes flash.order flash.size base) + 0 ≤ greatest_contents = omega (arith, is_base.mounts.sound.contents) in
    record {
      is_base = is_base;
      openings = opens;
      widths = tt;
      accepted = record { planned = omega arith; forms_in = record { are = tt; fits = none_fit flash.size row; contents = most } };
      left_is = refl;
      index_is = refl;
    }
