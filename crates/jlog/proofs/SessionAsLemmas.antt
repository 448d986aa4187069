-- A session that may pack, and does not, promises what one that never packs does.
use Rattle.std.proofs.Common.{◌≡◌, ℕ, ◌+◌, false, List, ap, ◌∙◌, subst, Option, Some, None, Ok, Err, inl, inr, true, [], ◌∷◌, map, refl, sym}
use Rattle.flashbase.specs.Sinks.{SinkChange}
use Rattle.jsteps.specs.declared.op.Op.{Op}
use Rattle.jsteps.specs.declared.step.Step.{Step}
use Rattle.std.specs.Prelude.{IsTrue, IsFalse}
use Rattle.jsteps.specs.Refusals.{steps_of_first}
use Rattle.jlog.specs.Places.{fit, needed}
use Rattle.jnode.specs.Writing.{canonical}
use Rattle.jnode.specs.declared.node.NodeRef.{NodeRef}
use Rattle.jnode.specs.declared.order.Endian.{Endian}
use Rattle.jsteps.specs.Nodes.{nodes_of}
use Rattle.jlog.specs.Packed.{AreNodeForms}
use Rattle.jlog.specs.Running.{Log, written, IsWritten, IsBegun}
use Rattle.jlog.specs.Session.{Flash, LogState, IsAccepted, BreaksWithin, IsRun}
use Rattle.jlog.specs.SessionAs.{content_len, flash_as, IsPutAs, IsPutPartAs, IsTakenAs, IsTooMuch, BreaksAs, AppliesAs, IsRunAs, StopsAtAs}
use Rattle.jlog.specs.SessionAsLaws.{UnpackedApplies, UnpackedRuns, UnpackedMayPack}
use Rattle.jlog.specs.declared.fault.SessionFault.{SessionFault}
use Rattle.jlog.specs.declared.fault.SessionFault.TheVariants as fault
use Rattle.jlog.specs.declared.report.Place.{Place}

put_written : (flash : Flash) (from : Log) (steps : List Step) (forms : List (List ℕ)) (to : Log) (old new : Option (List ℕ)) → forms ≡ written flash.order from.index steps
    → IsPutAs flash from steps forms to old new → IsWritten flash.order flash.size from steps to old new
put_written flash from steps forms to old new are put =
    let at : IsPutAs flash from steps (written flash.order from.index steps) to old new = subst (λ (l : List (List ℕ)). IsPutAs flash from steps l to old new) are put in
    record { cursor = at.cursor; index = at.index; bytes = at.bytes; places = at.places }

part_begun : (flash : Flash) (from : Log) (steps : List Step) (forms : List (List ℕ)) (t : ℕ) (told : List Place) (old new : Option (List ℕ)) → forms ≡ written flash.order from.index steps
    → IsPutPartAs flash from forms t told old new → IsBegun flash.order flash.size from steps t told old new
part_begun flash from steps forms t told old new are part =
    let at : IsPutPartAs flash from (written flash.order from.index steps) t told old new = subst (λ (l : List (List ℕ)). IsPutPartAs flash from l t told old new) are part in
    record { within = at.within; bytes = at.bytes; places = at.places }

taken_accepted : (held : ℕ) (flash : Flash) (from : Log) (o : Op) (steps : List Step) (forms : List (List ℕ)) → IsTakenAs false held flash from o steps forms
    → IsAccepted flash.page flash.order flash.size flash.blocks from.cursor from.index o steps
taken_accepted held flash from o steps forms it =
    let at : IsTakenAs false held flash from o steps (written flash.order from.index steps) = subst (λ (l : List (List ℕ)). IsTakenAs false held flash from o steps l) it.are it in
    record { planned = at.planned; fits = at.fits }

breaks : (held : ℕ) (flash : Flash) (from : Log) (o : Op) (to : LogState) (least : ℕ) (sink : SinkChange) → BreaksAs false held flash from o to least sink → BreaksWithin flash from o to least sink
breaks held flash from o to least sink (broken, (steps, forms, t, taken, some, part)) =
    (broken, (steps, t, taken_accepted held flash from o steps forms taken, some, part_begun flash from steps forms t to.log.places sink.old sink.new taken.are part))

pub unpacked_applies : UnpackedApplies
unpacked_applies held flash from o to sink (Ok x) (whole, still, (steps, forms, taken, put), same) =
    (whole, still, (steps, taken_accepted held flash from.log o steps forms taken, put_written flash from.log steps forms to.log sink.old sink.new taken.are put), same)
unpacked_applies held flash from o to sink (Err (fault.Refused f)) did = did
unpacked_applies held flash from o to sink (Err (fault.Full wanted left)) (whole, much, same) =
    let at : IsTooMuch false flash from.log o wanted left = much in
    let are : at.forms ≡ written flash.order from.log.index at.steps = at.are in (
      whole,
      (
        at.steps,
        at.planned,
        subst (λ (l : List (List ℕ)). IsFalse (fit flash.size flash.blocks from.log.cursor l)) are at.fits,
        at.wanted_is ∙ ap needed are,
        at.left_is,
      ),
      same,
    )
unpacked_applies held flash from o to sink (Err fault.Sink) (whole, broke, count) = (whole, breaks held flash from.log o to 0 sink broke, count)
unpacked_applies held flash from o to sink (Err fault.OutOfMemory) (whole, inl untouched) = (whole, inl untouched)
unpacked_applies held flash from o to sink (Err fault.OutOfMemory) (whole, inr broke) = (whole, inr (breaks held flash from.log o to 1 sink broke.0, broke.1))
unpacked_applies held flash from o to sink (Err fault.Broken) did = did
unpacked_applies held flash from o to sink (Err fault.ReadOnly) did = did
unpacked_applies held flash from o to sink (Err fault.Geometry) did = did

run_is : (held : ℕ) (flash : Flash) (from : Log) (ops : List Op) (n : ℕ) (forms : List (List ℕ)) (to : Log) (old new : Option (List ℕ)) → IsRunAs (flash_as false held flash) from ops n forms to old new
    → IsRun flash from ops n to old new
run_is held flash from ops n forms to old new it =
    let steps : List Step = steps_of_first flash.page from.index ops n in
    record {
      planned = it.planned;
      fits = subst (λ (l : List (List ℕ)). IsTrue (fit flash.size flash.blocks from.cursor l)) it.are it.fits;
      wrote = put_written flash from steps forms to old new it.are it.wrote;
    }

pub unpacked_runs : UnpackedRuns
unpacked_runs held flash from ops n forms to sink None did = (did.0, did.1, run_is held flash from.log ops n forms to.log sink.old sink.new did.2, did.3)
unpacked_runs held flash from ops n forms to sink (Some f) did =
    let at : StopsAtAs (flash_as false held flash) from ops n forms to sink f = did in
    record {
      mid = at.mid;
      between = at.between;
      op = at.op;
      run = run_is held flash from.log ops n forms at.mid sink.old at.between at.run;
      next = at.next;
      stop = unpacked_applies (held + content_len flash.order forms) flash (record { log = at.mid; broken = from.broken }) at.op to (record sink { old = at.between }) (Err f) at.stop;
    }

-- ---- a node's own form is a form

pub own_forms : (e : Endian) (ns : List NodeRef) → AreNodeForms e ns (map (canonical e) ns)
own_forms e [] = tt
own_forms e (n ∷ ns) = (inl refl, own_forms e ns)

may_pack : (e : Endian) (ns : List NodeRef) (forms : List (List ℕ)) → forms ≡ map (canonical e) ns → AreNodeForms e ns forms
may_pack e ns forms are = subst (AreNodeForms e ns) (sym are) (own_forms e ns)

may_take : (held : ℕ) (flash : Flash) (from : Log) (o : Op) (steps : List Step) (forms : List (List ℕ)) → IsTakenAs false held flash from o steps forms → IsTakenAs true held flash from o steps forms
may_take held flash from o steps forms it =
    record { planned = it.planned; are = may_pack flash.order (nodes_of from.index steps) forms it.are; fits = it.fits; contents = it.contents }

may_break : (held : ℕ) (flash : Flash) (from : Log) (o : Op) (to : LogState) (least : ℕ) (sink : SinkChange) → BreaksAs false held flash from o to least sink → BreaksAs true held flash from o to least sink
may_break held flash from o to least sink (broken, (steps, forms, t, taken, some, part)) = (broken, (steps, forms, t, may_take held flash from o steps forms taken, some, part))

may_stop : (held : ℕ) (flash : Flash) (from : LogState) (o : Op) (to : LogState) (sink : SinkChange) (f : SessionFault)
    → AppliesAs {T = Unit {0}} (flash_as false held flash) from o to sink (Err f) → AppliesAs {T = Unit {0}} (flash_as true held flash) from o to sink (Err f)
may_stop held flash from o to sink (fault.Refused f) did = did
may_stop held flash from o to sink (fault.Full wanted left) (whole, much, same) = (
  whole,
  record {
    steps = much.steps;
    forms = much.forms;
    planned = much.planned;
    are = may_pack flash.order (nodes_of from.log.index much.steps) much.forms much.are;
    fits = much.fits;
    wanted_is = much.wanted_is;
    left_is = much.left_is;
  },
  same,
)
may_stop held flash from o to sink fault.Sink (whole, broke, count) = (whole, may_break held flash from.log o to 0 sink broke, count)
may_stop held flash from o to sink fault.OutOfMemory (whole, inl untouched) = (whole, inl untouched)
may_stop held flash from o to sink fault.OutOfMemory (whole, inr broke) = (whole, inr (may_break held flash from.log o to 1 sink broke.0, broke.1))
may_stop held flash from o to sink fault.Broken did = did
may_stop held flash from o to sink fault.ReadOnly did = did
may_stop held flash from o to sink fault.Geometry did = did

may_run : (held : ℕ) (flash : Flash) (from : Log) (ops : List Op) (n : ℕ) (forms : List (List ℕ)) (to : Log) (old new : Option (List ℕ)) → IsRunAs (flash_as false held flash) from ops n forms to old new
    → IsRunAs (flash_as true held flash) from ops n forms to old new
may_run held flash from ops n forms to old new it =
    record {
      planned = it.planned;
      are = may_pack flash.order (nodes_of from.index (steps_of_first flash.page from.index ops n)) forms it.are;
      fits = it.fits;
      contents = it.contents;
      wrote = it.wrote;
    }

pub unpacked_may_pack : UnpackedMayPack
unpacked_may_pack held flash from ops n forms to sink None did = (did.0, did.1, may_run held flash from.log ops n forms to.log sink.old sink.new did.2, did.3)
unpacked_may_pack held flash from ops n forms to sink (Some f) did =
    let at : StopsAtAs (flash_as false held flash) from ops n forms to sink f = did in
    record {
      mid = at.mid;
      between = at.between;
      op = at.op;
      run = may_run held flash from.log ops n forms at.mid sink.old at.between at.run;
      next = at.next;
      stop = may_stop (held + content_len flash.order forms) flash (record { log = at.mid; broken = from.broken }) at.op to (record sink { old = at.between }) f at.stop;
    }
