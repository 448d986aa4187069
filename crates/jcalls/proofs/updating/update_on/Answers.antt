use Rattle.std.proofs.Common.{inl, inr}
use Rattle.jcalls.specs.Asked.{is_asked}
use Rattle.jcalls.specs.Updating.{IsUpdatedOn}
use Rattle.jcalls.proofs.UpdatingLemmas.{made_through, memory_refused_through}
use Rattle.jcalls.proofs.updating.update_on.Goals as goal

pub returns-in-Ok-judge-clause-ok : goal.returns-in-Ok-judge-clause-ok
returns-in-Ok-judge-clause-ok g c =
    made_through g.E.Order.order c.args.flash c.args.image.now c.in-Ok.mounted c.update_mounted.result
    (λ image made. IsUpdatedOn g.E.Order.order c.args.flash (is_asked c.args.pack) image c.args.planned.now.ops.items c.args.planned.now.numbers.items made.bytes.items made.row) c.in-Ok.ensures c.in-Ok-judge.ensures.ok
    c.update_mounted.ensures.ok

pub returns-in-Ok-judge-clause-err : goal.returns-in-Ok-judge-clause-err
returns-in-Ok-judge-clause-err g c =
    memory_refused_through g.E.Order.order c.args.flash c.args.image.now c.in-Ok.mounted c.update_mounted.result c.in-Ok.ensures c.update_mounted.ensures.err

pub returns-in-Err-clause-err : goal.returns-in-Err-clause-err
returns-in-Err-clause-err g c = record {
  is = c.view_told.ensures.is;
  other = c.view_told.ensures.other;
  due = inl (c.in-Err.why, c.in-Err.ensures, c.view_told.ensures.told);
}

pub returns-clause-err : goal.returns-clause-err
returns-clause-err g c = record {
  is = c.session_told.ensures.is;
  other = c.session_told.ensures.other;
  due = inr (c.in-Ok.mounted, c.in-Err-judge.why, c.in-Ok.ensures, c.in-Err-judge.ensures.err, c.session_told.ensures.told);
}
