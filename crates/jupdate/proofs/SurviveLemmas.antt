-- What a run puts into a row of openings survives a cut at any byte, and the log goes on after it.
use Rattle.std.proofs.Common.{◌≡◌, ℕ, zero, suc, ◌+◌, ◌<◌, ◌≤◌, Bool, true, false, List, [], ◌∷◌, ◌++◌, length, map, take, get_or, refl, sym, ap, ap₂, subst, ◌∙◌, arith, append-nil, Option, Some, None, Ok, Err, inl, inr}
use Rattle.std.specs.Prelude.{IsTrue, IsFalse, slice_get}
use Rattle.std.specs.List.{AllByRecursion}
use Rattle.std.proofs.lemmas.Bool.{and_from, true≢false}
use Rattle.std.proofs.lemmas.Option.{get_or_from_slice_get}
use Rattle.flashbase.specs.Ranges.{AreBytes}
use Rattle.flashbase.specs.Sinks.{SinkChange}
use Rattle.jnode.specs.Header.{header_len}
use Rattle.jnode.specs.Reading.{inode_len}
use Rattle.jnode.specs.Writing.{canonical}
use Rattle.jnode.specs.declared.node.NodeRef.{NodeRef}
use Rattle.jnode.specs.declared.order.Endian.{Endian}
use Rattle.jscan.specs.Pages.{IsPage, page_size}
use Rattle.jscan.specs.declared.page.Page.{Page}
use Rattle.jsteps.specs.Laws.{OpFits}
use Rattle.jsteps.specs.Nodes.{Indexed, nodes_of, advanced_all}
use Rattle.jsteps.specs.Refusals.{planned_by, steps_of_first}
use Rattle.jsteps.specs.declared.op.Op.{Op}
use Rattle.jsteps.specs.declared.step.Step.{Step}
use Rattle.jlog.specs.DoneThrough.{steps_through}
use Rattle.jlog.specs.Packed.{AreNodeForms}
use Rattle.jlog.specs.Session.{Flash, attempted}
use Rattle.jlog.specs.SessionAs.{AreFormsBy, content_len, flash_as}
use Rattle.jlog.specs.SessionAsLaws.{held_by}
use Rattle.jlog.specs.declared.fault.SessionFault.{SessionFault}
use Rattle.jlog.specs.declared.fault.SessionFault.TheVariants as fault
use Rattle.jlog.specs.declared.report.Place.{Place}
use Rattle.jlog.proofs.DoneLemmas.{nodes_on}
use Rattle.jlog.proofs.DoneThroughLemmas.{forms_on}
use Rattle.jlog.proofs.Parts.{flash_by}
use Rattle.jlog.proofs.RunLemmas.{plans_next}
use Rattle.jpacked.proofs.MadeLemmas.{contents_on}
use Rattle.jrests.specs.Openings.{AreUpwards}
use Rattle.jrests.specs.Shares.{fit_in}
use Rattle.jrests.specs.declared.opening.Opening.{Opening}
use Rattle.jopenings.specs.After.{row_after_all}
use Rattle.jopenings.specs.Done.{GoesOnInOpenings, FitInOpenings, SurvivesAfterInOpenings}
use Rattle.jopenings.specs.Stretches.{longer}
use Rattle.jopenings.specs.declared.placing.Stretch.{Stretch}
use Rattle.jopenings.proofs.AfterLemmas.{room_goes_on}
use Rattle.jopenings.proofs.DoneLemmas.{done_survives, done_goes_on}
use Rattle.jupdate.specs.SessionIn.{StateIn, IsTakenIn, IsUntouchedIn, AppliesIn, IsRunIn, StopsAtIn, RunsIn}
use Rattle.jupdate.specs.Writing.{LogIn, log_in}
use Rattle.jopenings.proofs.LongerLemmas.{stretches_go_on}
use Rattle.jupdate.proofs.RunLemmas.{AppliesBy, RunsBy}
use Rattle.jupdate.proofs.StretchLemmas.{added}

-- ---- forms, packed or not

own_forms : (e : Endian) (ns : List NodeRef) → AreNodeForms e ns (map (canonical e) ns)
own_forms e [] = tt
own_forms e (n ∷ ns) = (inl refl, own_forms e ns)

any_forms : (packs : Bool) (e : Endian) (ns : List NodeRef) (forms : List (List ℕ)) → AreFormsBy packs e ns forms → AreNodeForms e ns forms
any_forms true e ns forms are = are
any_forms false e ns forms are = subst (AreNodeForms e ns) (sym are) (own_forms e ns)

-- ---- what was accepted fits

run_fits : (packs : Bool) (held : ℕ) (flash : Flash) (base : List ℕ) (before forms : List (List ℕ)) (from : LogIn) (ops : List Op) (n : ℕ) (to : LogIn) (old new : Option (List ℕ)) → held ≡ held_by flash.order flash.size base before
    → IsRunIn (flash_as packs held flash) from ops n forms to old new → FitInOpenings flash base before from.row from.index ops n forms
run_fits packs held flash base before forms from ops n to old new held_is run = record {
  planned = run.planned;
  are = any_forms packs flash.order (nodes_of from.index (steps_of_first flash.page from.index ops n)) forms run.are;
  fits = run.fits;
  contents = omega (arith, run.contents, held_is, contents_on flash.order before forms);
}

below_some : (ops : List Op) (n : ℕ) (o : Op) → slice_get ops n ≡ Some o → n < length ops
below_some [] n o is = cc
below_some (x ∷ ops) zero o is = omega arith
below_some (x ∷ ops) (suc n) o is = let rest : n < length ops = below_some ops n o is in omega arith

-- and so does the next one, of which a beginning went out
one_more_fits : (packs : Bool) (held : ℕ) (flash : Flash) (base : List ℕ) (before forms more : List (List ℕ)) (from : LogIn) (ops : List Op) (n : ℕ) (mid : LogIn) (old new : Option (List ℕ)) (o : Op) (steps : List Step)
    → held ≡ held_by flash.order flash.size base before → slice_get ops n ≡ Some o → IsRunIn (flash_as packs held flash) from ops n forms mid old new
    → IsTakenIn packs (held + content_len flash.order forms) flash mid o steps more
    → FitInOpenings flash base before from.row from.index ops (n + 1) (forms ++ more)
one_more_fits packs held flash base before forms more from ops n mid old new o steps held_is at run taken =
    let page : ℕ = flash.page in
    let x : Indexed = from.index in
    let first : List Step = steps_of_first page x ops n in
    let y : Indexed = advanced_all x first in
    let same : get_or ops n o ≡ o = get_or_from_slice_get ops n o o at in
    let next = plans_next page x ops n o steps (below_some ops n o at) run.planned
    (subst (λ (w : Indexed). planned_by page w (get_or ops n o) ≡ Ok steps) run.wrote.index (subst (λ (w : Op). planned_by page mid.index w ≡ Ok steps) (sym same) taken.planned)) in
    let are : AreNodeForms flash.order (nodes_of y steps) more =
    subst (λ (w : Indexed). AreNodeForms flash.order (nodes_of w steps) more) run.wrote.index (any_forms packs flash.order (nodes_of mid.index steps) more taken.are) in
    let both : AreNodeForms flash.order (nodes_of x (first ++ steps)) (forms ++ more) =
    subst (λ (ns : List NodeRef). AreNodeForms flash.order ns (forms ++ more)) (sym (nodes_on x first steps))
    (forms_on flash.order (nodes_of x first) (nodes_of y steps) forms more (any_forms packs flash.order (nodes_of x first) forms run.are) are) in
    let room : IsTrue (fit_in flash.size (row_after_all flash.size from.row forms) more) = subst (λ (r : List Opening). IsTrue (fit_in flash.size r more)) run.wrote.row taken.fits in
    let one : suc n ≡ n + 1 = omega arith in
    subst (λ (i : ℕ). FitInOpenings flash base before from.row x ops i (forms ++ more)) one
    (record {
      planned = next.1;
      are = subst (λ (l : List Step). AreNodeForms flash.order (nodes_of x l) (forms ++ more)) (sym next.0) both;
      fits = subst IsTrue (sym (room_goes_on flash.size from.row forms more)) (and_from _ _ run.fits room);
      contents = omega (arith, taken.contents, held_is, contents_on flash.order before (forms ++ more), contents_on flash.order forms more);
    })

-- ---- those that were attempted

Attempts : Flash → List ℕ → List (List ℕ) → List (List ℕ) → LogIn → List Op → ℕ → Type 0
Attempts flash base before forms from ops m =
    (more : List (List ℕ)) × FitInOpenings flash base before from.row from.index ops m (forms ++ more)

none_more : (flash : Flash) (base : List ℕ) (before forms : List (List ℕ)) (from : LogIn) (ops : List Op) (n : ℕ) (is : Bool) → IsFalse is
    → FitInOpenings flash base before from.row from.index ops n forms → Attempts flash base before forms from ops (attempted n is)
unfolding Attempts
none_more flash base before forms from ops n false whole fits = (
  [],
  subst (λ (l : List (List ℕ)). FitInOpenings flash base before from.row from.index ops n l) (sym (append-nil forms)) fits,
)
none_more flash base before forms from ops n true whole fits = absurd (true≢false whole)

one_more : (flash : Flash) (base : List ℕ) (before forms : List (List ℕ)) (from : LogIn) (ops : List Op) (n : ℕ) (is : Bool) → IsTrue is
    → ((more : List (List ℕ)) × FitInOpenings flash base before from.row from.index ops (n + 1) (forms ++ more)) → Attempts flash base before forms from ops (attempted n is)
unfolding Attempts
one_more flash base before forms from ops n true broken fits = fits
one_more flash base before forms from ops n false broken fits = absurd (true≢false (sym broken))

-- an operation that stopped a run, and what it left
stopped_by : (packs : Bool) (held : ℕ) (flash : Flash) (base : List ℕ) (before forms : List (List ℕ)) (from : LogIn) (ops : List Op) (n : ℕ) (to : StateIn) (sink : SinkChange) (f : SessionFault) → held ≡ held_by flash.order flash.size base before
    → (at : StopsAtIn (flash_as packs held flash) (record { log = from; broken = false }) ops n forms to sink f)
    → AppliesIn {T = Unit {0}} (flash_as packs (held + content_len flash.order forms) flash) (record { log = at.mid; broken = false }) at.op to (record sink { old = at.between }) (Err f)
    → Attempts flash base before forms from ops (attempted n to.broken)
stopped_by packs held flash base before forms from ops n to sink (fault.Refused g) held_is at did =
    none_more flash base before forms from ops n to.broken did.2.whole (run_fits packs held flash base before forms from ops n at.mid sink.old at.between held_is at.run)
stopped_by packs held flash base before forms from ops n to sink (fault.Full wanted left) held_is at did =
    none_more flash base before forms from ops n to.broken did.2.whole (run_fits packs held flash base before forms from ops n at.mid sink.old at.between held_is at.run)
stopped_by packs held flash base before forms from ops n to sink fault.Sink held_is at did =
    let broke = did.1 in
    let it = broke.1 in
    one_more flash base before forms from ops n to.broken broke.0
    (it.1, one_more_fits packs held flash base before forms it.1 from ops n at.mid sink.old at.between at.op it.0 held_is at.next at.run it.3)
stopped_by packs held flash base before forms from ops n to sink fault.OutOfMemory held_is at (whole, inl untouched) =
    none_more flash base before forms from ops n to.broken untouched.whole (run_fits packs held flash base before forms from ops n at.mid sink.old at.between held_is at.run)
stopped_by packs held flash base before forms from ops n to sink fault.OutOfMemory held_is at (whole, inr (broke, count)) =
    let it = broke.1 in
    one_more flash base before forms from ops n to.broken broke.0
    (it.1, one_more_fits packs held flash base before forms it.1 from ops n at.mid sink.old at.between at.op it.0 held_is at.next at.run it.3)
stopped_by packs held flash base before forms from ops n to sink fault.Broken held_is at did = absurd (true≢false (sym did.0))
stopped_by packs held flash base before forms from ops n to sink fault.ReadOnly held_is at did = absurd did
stopped_by packs held flash base before forms from ops n to sink fault.Geometry held_is at did = absurd did

attempts : (packs : Bool) (held : ℕ) (flash : Flash) (base : List ℕ) (before forms : List (List ℕ)) (from : LogIn) (ops : List Op) (n : ℕ) (to : StateIn) (sink : SinkChange) (stopped : Option SessionFault)
    → held ≡ held_by flash.order flash.size base before → RunsIn (flash_as packs held flash) (record { log = from; broken = false }) ops n forms to sink stopped
    → Attempts flash base before forms from ops (attempted n to.broken)
attempts packs held flash base before forms from ops n to sink None held_is did =
    none_more flash base before forms from ops n to.broken did.1 (run_fits packs held flash base before forms from ops n to.log sink.old sink.new held_is did.2)
attempts packs held flash base before forms from ops n to sink (Some f) held_is did = stopped_by packs held flash base before forms from ops n to sink f held_is did did.stop

-- ---- where it goes on after those that were accepted

record StandsAfter (flash : Flash) (from : LogIn) (ops : List Op) (n : ℕ) (forms : List (List ℕ)) (to : LogIn) : Type 0 where
  row : to.row ≡ row_after_all flash.size from.row forms
  index : to.index ≡ advanced_all from.index (steps_of_first flash.page from.index ops n)

untouched_stands : (flash : Flash) (from : LogIn) (ops : List Op) (n : ℕ) (forms : List (List ℕ)) (mid to : LogIn) (is : Bool) (sink : SinkChange) → IsUntouchedIn mid to is sink
    → StandsAfter flash from ops n forms mid → StandsAfter flash from ops n forms to
untouched_stands flash from ops n forms mid to is sink same at = record { row = same.row ∙ at.row; index = same.index ∙ at.index }

stopped_stands : (packs : Bool) (flash : Flash) (held : ℕ) (from : LogIn) (ops : List Op) (n : ℕ) (forms : List (List ℕ)) (mid : LogIn) (o : Op) (to : StateIn) (sink : SinkChange) (f : SessionFault) → IsFalse to.broken
    → AppliesIn {T = Unit {0}} (flash_as packs held flash) (record { log = mid; broken = false }) o to sink (Err f) → StandsAfter flash from ops n forms mid → StandsAfter flash from ops n forms to.log
stopped_stands packs flash held from ops n forms mid o to sink (fault.Refused g) whole did at = untouched_stands flash from ops n forms mid to.log to.broken sink did.2 at
stopped_stands packs flash held from ops n forms mid o to sink (fault.Full wanted left) whole did at = untouched_stands flash from ops n forms mid to.log to.broken sink did.2 at
stopped_stands packs flash held from ops n forms mid o to sink fault.Sink whole did at = absurd (true≢false (sym did.1.0 ∙ whole))
stopped_stands packs flash held from ops n forms mid o to sink fault.OutOfMemory whole (was, inl same) at = untouched_stands flash from ops n forms mid to.log to.broken sink same at
stopped_stands packs flash held from ops n forms mid o to sink fault.OutOfMemory whole (was, inr (broke, count)) at = absurd (true≢false (sym broke.0 ∙ whole))
stopped_stands packs flash held from ops n forms mid o to sink fault.Broken whole did at = absurd (true≢false (sym did.0))
stopped_stands packs flash held from ops n forms mid o to sink fault.ReadOnly whole did at = absurd did
stopped_stands packs flash held from ops n forms mid o to sink fault.Geometry whole did at = absurd did

record GoesTo (flash : Flash) (base : List ℕ) (before forms : List (List ℕ)) (from : LogIn) (ops : List Op) (n : ℕ) (to : LogIn) : Type 0 where
  fits : FitInOpenings flash base before from.row from.index ops n forms
  stands : StandsAfter flash from ops n forms to

goes_to : (packs : Bool) (held : ℕ) (flash : Flash) (base : List ℕ) (before forms : List (List ℕ)) (from : LogIn) (ops : List Op) (n : ℕ) (to : StateIn) (sink : SinkChange) (stopped : Option SessionFault)
    → held ≡ held_by flash.order flash.size base before → IsFalse to.broken → RunsIn (flash_as packs held flash) (record { log = from; broken = false }) ops n forms to sink stopped
    → GoesTo flash base before forms from ops n to.log
goes_to packs held flash base before forms from ops n to sink None held_is whole did = record {
  fits = run_fits packs held flash base before forms from ops n to.log sink.old sink.new held_is did.2;
  stands = record { row = did.2.wrote.row; index = did.2.wrote.index };
}
goes_to packs held flash base before forms from ops n to sink (Some f) held_is whole did = record {
  fits = run_fits packs held flash base before forms from ops n did.mid sink.old did.between held_is did.run;
  stands = stopped_stands packs flash (held + content_len flash.order forms) from ops n forms did.mid did.op to (record sink { old = did.between }) f whole did.stop
      (record { row = did.run.wrote.row; index = did.run.wrote.index });
}

-- ---- by parts

was_whole : (T : Type 0) (packs : Bool) (held page : ℕ) (e : Endian) (size blocks : ℕ) (from : List Opening) (x : Indexed) (o : Op) (was : Bool) (end : List Opening) (y : Indexed) (is : Bool) (old new : Option (List ℕ)) (failures now : ℕ) (before after : List Place)
    (f : SessionFault) → AppliesBy {T = T} packs held page e size blocks from x o was end y is old new failures now before after (Err f) → IsFalse is → IsFalse was
was_whole T packs held page e size blocks from x o was end y is old new failures now before after (fault.Refused f) did whole = did.0
was_whole T packs held page e size blocks from x o was end y is old new failures now before after (fault.Full w l) did whole = did.0
was_whole T packs held page e size blocks from x o was end y is old new failures now before after fault.Sink did whole = did.0
was_whole T packs held page e size blocks from x o was end y is old new failures now before after fault.OutOfMemory did whole = did.0
was_whole T packs held page e size blocks from x o was end y is old new failures now before after fault.Broken did whole = absurd (true≢false (sym did.1 ∙ whole))
was_whole T packs held page e size blocks from x o was end y is old new failures now before after fault.ReadOnly did whole = absurd did
was_whole T packs held page e size blocks from x o was end y is old new failures now before after fault.Geometry did whole = absurd did

was_whole_run : (packs : Bool) (held page : ℕ) (e : Endian) (size blocks : ℕ) (from : List Opening) (x : Indexed) (ops : List Op) (was : Bool) (n : ℕ) (forms : List (List ℕ)) (end : List Opening) (y : Indexed) (is : Bool) (old new : Option (List ℕ)) (failures now : ℕ)
    (places : List Place) (stopped : Option SessionFault) → RunsBy packs held page e size blocks from x ops was n forms end y is old new failures now places stopped → IsFalse is → IsFalse was
was_whole_run packs held page e size blocks from x ops was n forms end y is old new failures now places None did whole = sym did.1 ∙ whole
was_whole_run packs held page e size blocks from x ops was n forms end y is old new failures now places (Some f) did whole =
    was_whole (Unit {0}) packs (held + content_len e forms) page e size blocks did.mid.row did.mid.index did.op was end y is did.between new failures now did.mid.places places f did.stop whole

pub run_survives : (packs : Bool) (held page : ℕ) (e : Endian) (size blocks : ℕ) (from : List Opening) (x : Indexed) (ops : List Op) (was : Bool) (n : ℕ) (forms : List (List ℕ)) (end : List Opening) (y : Indexed) (is : Bool) (old new : Option (List ℕ)) (failures now : ℕ)
    (places : List Place) (stopped : Option SessionFault) (base : List ℕ) (row : List Opening) (done : List Op) (before : List (List ℕ)) → IsPage page → page + 80 ≤ size
    → RunsBy packs held page e size blocks from x ops was n forms end y is old new failures now places stopped → IsFalse was → AreBytes base → AllByRecursion OpFits (take (attempted n is) ops)
    → GoesOnInOpenings (flash_by page e size blocks) base row done before from x → held ≡ held_by e size base before
    → (more : List (List ℕ)) × SurvivesAfterInOpenings (flash_by page e size blocks) base row (steps_through page e size base done) (steps_of_first page x ops (attempted n is)) before (forms ++ more)
unfolding Attempts
run_survives packs held page e size blocks from x ops was n forms end y is old new failures now places stopped base row done before is_page room did whole are_bytes widths on held_is =
    let flash : Flash = flash_by page e size blocks in
    let it = attempts packs held flash base before forms (log_in from x []) ops n (record { log = log_in end y places; broken = is }) (record { old = old; new = new; before = failures; now = now }) stopped held_is
    (subst (λ (b : Bool). RunsBy packs held page e size blocks from x ops b n forms end y is old new failures now places stopped) whole did) in
    (it.0, done_survives flash (attempted n is) base row from done ops before (forms ++ it.0) x is_page room on are_bytes widths it.1)

pub run_goes_on : (packs : Bool) (held held_now page : ℕ) (e : Endian) (size blocks : ℕ) (from : List Opening) (x : Indexed) (ops : List Op) (was : Bool) (n : ℕ) (forms : List (List ℕ)) (end : List Opening) (y : Indexed) (is : Bool) (old new : Option (List ℕ)) (failures now : ℕ)
    (places : List Place) (stopped : Option SessionFault) (base : List ℕ) (row : List Opening) (done : List Op) (before : List (List ℕ))
    → RunsBy packs held page e size blocks from x ops was n forms end y is old new failures now places stopped → IsFalse is → AllByRecursion OpFits (take n ops)
    → GoesOnInOpenings (flash_by page e size blocks) base row done before from x → held ≡ held_by e size base before → held_now ≡ held + content_len e forms
    → GoesOnInOpenings (flash_by page e size blocks) base row (done ++ take n ops) (before ++ forms) end y × (held_now ≡ held_by e size base (before ++ forms))
run_goes_on packs held held_now page e size blocks from x ops was n forms end y is old new failures now places stopped base row done before did whole widths on held_is now_is =
    let flash : Flash = flash_by page e size blocks in
    let few : List Op = take n ops in
    let it : GoesTo flash base before forms (log_in from x []) ops n (log_in end y places) =
    goes_to packs held flash base before forms (log_in from x []) ops n (record { log = log_in end y places; broken = is }) (record { old = old; new = new; before = failures; now = now }) stopped held_is whole
    (subst (λ (b : Bool). RunsBy packs held page e size blocks from x ops b n forms end y is old new failures now places stopped)
    (was_whole_run packs held page e size blocks from x ops was n forms end y is old new failures now places stopped did whole) did) in (
      subst (λ (r : List Opening). GoesOnInOpenings flash base row (done ++ few) (before ++ forms) r y) (sym it.stands.row)
          (subst (λ (z : Indexed). GoesOnInOpenings flash base row (done ++ few) (before ++ forms) (row_after_all size from forms) z) (sym it.stands.index)
          (done_goes_on flash n base row from done ops before forms x on widths it.fits)),
      omega (arith, held_is, now_is, contents_on e before forms),
    )

-- the same of a session that has the same flash and page
pub moved : (page page' : Page) (e : Endian) (size size' blocks blocks' : ℕ) (base : List ℕ) (row : List Opening) (done : List Op) (before : List (List ℕ)) (left : List Opening) (held : ℕ) (x : Indexed)
    → page ≡ page' → size ≡ size' → blocks ≡ blocks'
    → GoesOnInOpenings (flash_by (page_size page) e size blocks) base row done before left x × (held ≡ held_by e size base before)
    → GoesOnInOpenings (flash_by (page_size page') e size' blocks') base row done before left x × (held ≡ held_by e size' base before)
moved page page' e size size' blocks blocks' base row done before left held x page_is size_is blocks_is on =
    subst (λ (p : Page). GoesOnInOpenings (flash_by (page_size p) e size' blocks') base row done before left x × (held ≡ held_by e size' base before)) page_is
    (subst (λ (i : ℕ). GoesOnInOpenings (flash_by (page_size page) e i blocks') base row done before left x × (held ≡ held_by e i base before)) size_is
    (subst (λ (i : ℕ). GoesOnInOpenings (flash_by (page_size page) e size i) base row done before left x × (held ≡ held_by e size base before)) blocks_is on))

-- what went out to each opening then
pub stretches_on : (e : Endian) (size size' blocks : ℕ) (row left : List Opening) (before forms : List (List ℕ)) (ss ts : List Stretch) → AreUpwards 0 blocks row → size ≡ size' → left ≡ row_after_all size row before
    → ss ≡ added e size row before → ts ≡ longer (added e size left forms) ss → ts ≡ added e size' row (before ++ forms)
stretches_on e size size' blocks row left before forms ss ts up size_is left_is ss_is ts_is =
    ts_is
    ∙ (ap₂ (λ (r : List Opening) (l : List Stretch). longer (added e size r forms) l) left_is ss_is
    ∙ (sym (stretches_go_on e size blocks row before forms up) ∙ ap (λ (n : ℕ). added e n row (before ++ forms)) size_is))
