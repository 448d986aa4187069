-- What a run put in forms survives a cut at any byte.
use Rattle.std.proofs.Common.{◌≡◌, ℕ, zero, suc, ◌+◌, ◌<◌, Bool, true, false, List, [], ◌∷◌, ◌++◌, length, take, get_or, sym, ap, subst, ◌∙◌, arith, append-nil, length-append, Option, Some, None, Ok, Err, inl, inr}
use Rattle.std.specs.Prelude.{IsTrue, IsFalse, slice_get}
use Rattle.std.specs.List.{flat_map}
use Rattle.std.proofs.lemmas.Bool.{and_from, true≢false}
use Rattle.std.proofs.lemmas.Grind.{flat_map-append}
use Rattle.std.proofs.lemmas.Option.{get_or_from_slice_get}
use Rattle.flashbase.specs.Sinks.{SinkChange}
use Rattle.jnode.specs.declared.node.NodeRef.{NodeRef}
use Rattle.jnode.specs.declared.order.Endian.{Endian}
use Rattle.jsteps.specs.Nodes.{Indexed, nodes_of, advanced_all}
use Rattle.jsteps.specs.Refusals.{planned_by, steps_of_first}
use Rattle.jsteps.specs.declared.op.Op.{Op}
use Rattle.jsteps.specs.declared.step.Step.{Step}
use Rattle.jlog.specs.Places.{end_of_all, fit}
use Rattle.jlog.specs.Packed.{AreNodeForms}
use Rattle.jlog.specs.Through.{form_content}
use Rattle.jlog.specs.Running.{Log}
use Rattle.jlog.specs.Session.{Flash, LogState, IsUntouched, attempted}
use Rattle.jlog.specs.SessionAs.{content_len, flash_as, IsTakenAs, AppliesAs, IsRunAs, StopsAtAs, RunsAs}
use Rattle.jlog.specs.SessionAsLaws.{held_by, RunSurvivesAs, RunGoesOnAs}
use Rattle.jlog.specs.DoneThrough.{GoesOnAs, FitAs}
use Rattle.jlog.specs.declared.fault.SessionFault.{SessionFault}
use Rattle.jlog.specs.declared.fault.SessionFault.TheVariants as fault
use Rattle.jlog.proofs.DoneLemmas.{nodes_on}
use Rattle.jlog.proofs.DoneThroughLemmas.{done_goes_on, done_survives, forms_on}
use Rattle.jlog.proofs.RoomLemmas.{room_goes_on}
use Rattle.jlog.proofs.RunLemmas.{plans_next}

-- contents of forms after others
contents_on : (e : Endian) (xs ys : List (List ℕ)) → content_len e (xs ++ ys) ≡ content_len e xs + content_len e ys
contents_on e xs ys = ap length (flat_map-append (form_content e) xs ys) ∙ length-append (flat_map (form_content e) xs) (flat_map (form_content e) ys)

-- those that were accepted fit
run_fits : (flash : Flash) (base : List ℕ) (before forms : List (List ℕ)) (from : Log) (ops : List Op) (n : ℕ) (to : Log) (old new : Option (List ℕ))
    → IsRunAs (flash_as true (held_by flash.order flash.size base before) flash) from ops n forms to old new
    → FitAs flash base before from.cursor from.index ops n forms
run_fits flash base before forms from ops n to old new run = record {
  planned = run.planned;
  are = run.are;
  fits = run.fits;
  contents = omega (arith, run.contents, contents_on flash.order before forms);
}

below_some : (ops : List Op) (n : ℕ) (o : Op) → slice_get ops n ≡ Some o → n < length ops
below_some [] n o is = cc
below_some (x ∷ ops) zero o is = omega arith
below_some (x ∷ ops) (suc n) o is = let rest : n < length ops = below_some ops n o is in omega arith

-- and so does the next one, of which a beginning went out
one_more_fits : (flash : Flash) (base : List ℕ) (before forms more : List (List ℕ)) (from : Log) (ops : List Op) (n : ℕ) (mid : Log) (old new : Option (List ℕ)) (o : Op) (steps : List Step)
    → slice_get ops n ≡ Some o → IsRunAs (flash_as true (held_by flash.order flash.size base before) flash) from ops n forms mid old new
    → IsTakenAs true (held_by flash.order flash.size base before + content_len flash.order forms) flash mid o steps more
    → FitAs flash base before from.cursor from.index ops (n + 1) (forms ++ more)
one_more_fits flash base before forms more from ops n mid old new o steps at run taken =
    let page : ℕ = flash.page in
    let x : Indexed = from.index in
    let first : List Step = steps_of_first page x ops n in
    let y : Indexed = advanced_all x first in
    let same : get_or ops n o ≡ o = get_or_from_slice_get ops n o o at in
    let next = plans_next page x ops n o steps (below_some ops n o at) run.planned
    (subst (λ (w : Indexed). planned_by page w (get_or ops n o) ≡ Ok steps) run.wrote.index (subst (λ (w : Op). planned_by page mid.index w ≡ Ok steps) (sym same) taken.planned)) in
    let are : AreNodeForms flash.order (nodes_of y steps) more = subst (λ (w : Indexed). AreNodeForms flash.order (nodes_of w steps) more) run.wrote.index taken.are in
    let both : AreNodeForms flash.order (nodes_of x (first ++ steps)) (forms ++ more) =
    subst (λ (ns : List NodeRef). AreNodeForms flash.order ns (forms ++ more)) (sym (nodes_on x first steps)) (forms_on flash.order (nodes_of x first) (nodes_of y steps) forms more run.are are) in
    let room : IsTrue (fit flash.size flash.blocks (end_of_all flash.size from.cursor forms) more) = subst (λ (c : ℕ). IsTrue (fit flash.size flash.blocks c more)) run.wrote.cursor taken.fits in
    let one : suc n ≡ n + 1 = omega arith in
    subst (λ (i : ℕ). FitAs flash base before from.cursor x ops i (forms ++ more)) one
    (record {
      planned = next.1;
      are = subst (λ (l : List Step). AreNodeForms flash.order (nodes_of x l) (forms ++ more)) (sym next.0) both;
      fits = subst IsTrue (sym (room_goes_on flash.size flash.blocks from.cursor forms more)) (and_from _ _ run.fits room);
      contents = omega (arith, taken.contents, contents_on flash.order before (forms ++ more), contents_on flash.order forms more);
    })

-- ---- those that were attempted

Attempts : Flash → List ℕ → List (List ℕ) → List (List ℕ) → Log → List Op → ℕ → Type 0
Attempts flash base before forms from ops m =
    (more : List (List ℕ)) × FitAs flash base before from.cursor from.index ops m (forms ++ more)

none_more : (flash : Flash) (base : List ℕ) (before forms : List (List ℕ)) (from : Log) (ops : List Op) (n : ℕ) (is : Bool) → IsFalse is
    → FitAs flash base before from.cursor from.index ops n forms → Attempts flash base before forms from ops (attempted n is)
unfolding Attempts
none_more flash base before forms from ops n false whole fits = (
  [],
  subst (λ (l : List (List ℕ)). FitAs flash base before from.cursor from.index ops n l) (sym (append-nil forms)) fits,
)
none_more flash base before forms from ops n true whole fits = absurd (true≢false whole)

one_more : (flash : Flash) (base : List ℕ) (before forms : List (List ℕ)) (from : Log) (ops : List Op) (n : ℕ) (is : Bool) → IsTrue is
    → ((more : List (List ℕ)) × FitAs flash base before from.cursor from.index ops (n + 1) (forms ++ more)) → Attempts flash base before forms from ops (attempted n is)
unfolding Attempts
one_more flash base before forms from ops n true broken fits = fits
one_more flash base before forms from ops n false broken fits = absurd (true≢false (sym broken))

-- an operation that stopped a run, and what it left
stopped_by : (flash : Flash) (base : List ℕ) (before forms : List (List ℕ)) (from : Log) (ops : List Op) (n : ℕ) (to : LogState) (sink : SinkChange) (f : SessionFault)
    → (at : StopsAtAs (flash_as true (held_by flash.order flash.size base before) flash) (record { log = from; broken = false }) ops n forms to sink f)
    → AppliesAs {T = Unit {0}} (flash_as true (held_by flash.order flash.size base before + content_len flash.order forms) flash) (record { log = at.mid; broken = false }) at.op to (record sink { old = at.between }) (Err f)
    → Attempts flash base before forms from ops (attempted n to.broken)
stopped_by flash base before forms from ops n to sink (fault.Refused g) at did =
    none_more flash base before forms from ops n to.broken did.2.whole (run_fits flash base before forms from ops n at.mid sink.old at.between at.run)
stopped_by flash base before forms from ops n to sink (fault.Full wanted left) at did =
    none_more flash base before forms from ops n to.broken did.2.whole (run_fits flash base before forms from ops n at.mid sink.old at.between at.run)
stopped_by flash base before forms from ops n to sink fault.Sink at did =
    let broke = did.1 in
    let it = broke.1 in
    one_more flash base before forms from ops n to.broken broke.0
    (it.1, one_more_fits flash base before forms it.1 from ops n at.mid sink.old at.between at.op it.0 at.next at.run it.3)
stopped_by flash base before forms from ops n to sink fault.OutOfMemory at (whole, inl untouched) =
    none_more flash base before forms from ops n to.broken untouched.whole (run_fits flash base before forms from ops n at.mid sink.old at.between at.run)
stopped_by flash base before forms from ops n to sink fault.OutOfMemory at (whole, inr (broke, count)) =
    let it = broke.1 in
    one_more flash base before forms from ops n to.broken broke.0
    (it.1, one_more_fits flash base before forms it.1 from ops n at.mid sink.old at.between at.op it.0 at.next at.run it.3)
stopped_by flash base before forms from ops n to sink fault.Broken at did = absurd (true≢false (sym did.0))
stopped_by flash base before forms from ops n to sink fault.ReadOnly at did = absurd did
stopped_by flash base before forms from ops n to sink fault.Geometry at did = absurd did

attempts : (flash : Flash) (base : List ℕ) (before forms : List (List ℕ)) (from : Log) (ops : List Op) (n : ℕ) (to : LogState) (sink : SinkChange) (stopped : Option SessionFault)
    → RunsAs (flash_as true (held_by flash.order flash.size base before) flash) (record { log = from; broken = false }) ops n forms to sink stopped
    → Attempts flash base before forms from ops (attempted n to.broken)
attempts flash base before forms from ops n to sink None did =
    none_more flash base before forms from ops n to.broken did.1 (run_fits flash base before forms from ops n to.log sink.old sink.new did.2)
attempts flash base before forms from ops n to sink (Some f) did = stopped_by flash base before forms from ops n to sink f did did.stop

-- ---- the laws

pub run_survives_as : RunSurvivesAs
unfolding Attempts
run_survives_as flash base done ops before forms from n to sink stopped is_page room on are_bytes widths did =
    let it = attempts flash base before forms from ops n to sink stopped did in
    (it.0, done_survives flash from.cursor (attempted n to.broken) base done ops before (forms ++ it.0) from.index is_page room on are_bytes widths it.1)

-- where it goes on after those that were accepted
record StandsAfter (flash : Flash) (from : Log) (ops : List Op) (n : ℕ) (forms : List (List ℕ)) (to : Log) : Type 0 where
  cursor : to.cursor ≡ end_of_all flash.size from.cursor forms
  index : to.index ≡ advanced_all from.index (steps_of_first flash.page from.index ops n)

untouched_stands : (flash : Flash) (from : Log) (ops : List Op) (n : ℕ) (forms : List (List ℕ)) (mid to : Log) (is : Bool) (sink : SinkChange) → IsUntouched mid to is sink
    → StandsAfter flash from ops n forms mid → StandsAfter flash from ops n forms to
untouched_stands flash from ops n forms mid to is sink same at = record { cursor = same.cursor ∙ at.cursor; index = same.index ∙ at.index }

stopped_stands : (flash : Flash) (held : ℕ) (from : Log) (ops : List Op) (n : ℕ) (forms : List (List ℕ)) (mid : Log) (o : Op) (to : LogState) (sink : SinkChange) (f : SessionFault) → IsFalse to.broken
    → AppliesAs {T = Unit {0}} (flash_as true held flash) (record { log = mid; broken = false }) o to sink (Err f) → StandsAfter flash from ops n forms mid → StandsAfter flash from ops n forms to.log
stopped_stands flash held from ops n forms mid o to sink (fault.Refused g) whole did at = untouched_stands flash from ops n forms mid to.log to.broken sink did.2 at
stopped_stands flash held from ops n forms mid o to sink (fault.Full wanted left) whole did at = untouched_stands flash from ops n forms mid to.log to.broken sink did.2 at
stopped_stands flash held from ops n forms mid o to sink fault.Sink whole did at = absurd (true≢false (sym did.1.0 ∙ whole))
stopped_stands flash held from ops n forms mid o to sink fault.OutOfMemory whole (was, inl same) at = untouched_stands flash from ops n forms mid to.log to.broken sink same at
stopped_stands flash held from ops n forms mid o to sink fault.OutOfMemory whole (was, inr (broke, count)) at = absurd (true≢false (sym broke.0 ∙ whole))
stopped_stands flash held from ops n forms mid o to sink fault.Broken whole did at = absurd (true≢false (sym did.0))
stopped_stands flash held from ops n forms mid o to sink fault.ReadOnly whole did at = absurd did
stopped_stands flash held from ops n forms mid o to sink fault.Geometry whole did at = absurd did

record GoesTo (flash : Flash) (base : List ℕ) (before forms : List (List ℕ)) (from : Log) (ops : List Op) (n : ℕ) (to : Log) : Type 0 where
  fits : FitAs flash base before from.cursor from.index ops n forms
  stands : StandsAfter flash from ops n forms to

goes_to : (flash : Flash) (base : List ℕ) (before forms : List (List ℕ)) (from : Log) (ops : List Op) (n : ℕ) (to : LogState) (sink : SinkChange) (stopped : Option SessionFault) → IsFalse to.broken
    → RunsAs (flash_as true (held_by flash.order flash.size base before) flash) (record { log = from; broken = false }) ops n forms to sink stopped
    → GoesTo flash base before forms from ops n to.log
goes_to flash base before forms from ops n to sink None whole did = record {
  fits = run_fits flash base before forms from ops n to.log sink.old sink.new did.2;
  stands = record { cursor = did.2.wrote.cursor; index = did.2.wrote.index };
}
goes_to flash base before forms from ops n to sink (Some f) whole did = record {
  fits = run_fits flash base before forms from ops n did.mid sink.old did.between did.run;
  stands = stopped_stands flash (held_by flash.order flash.size base before + content_len flash.order forms) from ops n forms did.mid did.op to (record sink { old = did.between }) f whole did.stop
      (record { cursor = did.run.wrote.cursor; index = did.run.wrote.index });
}

pub run_goes_on_as : RunGoesOnAs
run_goes_on_as flash base done ops before forms from n to sink stopped on widths whole did =
    let it : GoesTo flash base before forms from ops n to.log = goes_to flash base before forms from ops n to sink stopped whole did in
    let few : List Op = take n ops in
    subst (λ (c : ℕ). GoesOnAs flash base (done ++ few) (before ++ forms) c to.log.index) (sym it.stands.cursor)
    (subst (λ (y : Indexed). GoesOnAs flash base (done ++ few) (before ++ forms) (end_of_all flash.size from.cursor forms) y) (sym it.stands.index)
    (done_goes_on flash from.cursor n base done ops before forms from.index on widths it.fits))
