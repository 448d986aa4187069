use Rattle.std.proofs.Common.{◌≡◌, ◌≤◌, ◌-◌, ◌+◌, drop, length, take, vec_len, vec_capacity}
use Rattle.jpacked.specs.Forms.{step_forms}
use Rattle.jopenings.specs.Stretches.{AreStretches, longer}
use Rattle.jupdate.specs.Rows.{begins_of, ends_of}
use Rattle.jupdate.proofs.Parts.{PutBy}
use Rattle.jupdate.proofs.StretchLemmas.{added}
use Rattle.jupdate.proofs.writing.put_steps.Given as goal

abbrev pub invariant-loop-i : goal.invariant-loop-i
invariant-loop-i g l = record {
  within : l.i ≤ length l.steps;
  stretches : AreStretches l.flash.size 0 l.flash.count l.log.stretches.items;
  begins : begins_of l.log.stretches.items ≡ begins_of l.initial.log.stretches.items;
  longer_by : l.log.stretches.items ≡ longer (added g.E.Order.order l.flash.size (drop l.initial.log.passed (ends_of l.initial.log.stretches.items)) (take l.i (step_forms g.E.Order.order l.initial.log.index l.steps l.streams)))
      l.initial.log.stretches.items;
  wrote : PutBy g.E.Order.order l.flash.size (drop l.initial.log.passed (ends_of l.initial.log.stretches.items)) l.initial.log.index (take l.i l.steps) (take l.i (step_forms g.E.Order.order l.initial.log.index l.steps l.streams))
      (drop l.log.passed (ends_of l.log.stretches.items)) l.log.index (g.S.Sink.taken l.initial.log.sink) (g.S.Sink.taken l.log.sink) l.initial.places.items l.places.items;
  none_failed : g.S.Sink.failures l.log.sink ≡ g.S.Sink.failures l.initial.log.sink;
  room : vec_len l.places + (length l.steps - l.i) ≤ vec_capacity l.places;
}

abbrev pub decreases-loop-i : goal.decreases-loop-i
decreases-loop-i g l = length l.steps - l.i
