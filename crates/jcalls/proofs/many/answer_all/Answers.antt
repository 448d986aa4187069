use Rattle.std.proofs.Common.{refl, arith, rules}
use Rattle.jcalls.proofs.ManyLemmas.{room_for_next, answered_next}
use Rattle.jcalls.proofs.many.answer_all.Goals as goal

pub answer-row-requires : goal.answer-row-requires
answer-row-requires c = record {
  room = room_for_next c.args.mounted.now.state c.args.requests.now c.args.out.now c.loop-i.i c.loop-i.requests c.loop-i.out c.loop-i.at _
      c.loop-i.invariant (omega arith) c.requires.room (search rules) refl;
}

pub loop-i-preserved : goal.loop-i-preserved
loop-i-preserved c =
    answered_next c.args.mounted.now.state c.args.requests.now c.args.out.now c.loop-i.i c.loop-i.requests c.loop-i.out c.answer-row.new.out c.loop-i.at _ c.answer-row.result
    c.loop-i.invariant (omega arith) refl c.answer-row.ensures.row c.answer-row.ensures.bytes
