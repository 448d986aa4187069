use Rattle.std.proofs.Common.{refl, sym}
use Rattle.jscan.proofs.TakeLemmas.{at_none, at_refusal, if_ok, taken_after, taken_in, taken_refused}
use Rattle.jscan.proofs.answer.PartialScan.take.Goals as goal

pub returns-then-is_some : goal.returns-then-is_some
returns-then-is_some c = λ ss has.
    let (why, some) = at_refusal c.args.self.now.refused c.is_some.result c.is_some.ensures c.if-is_some.true in
    taken_after ss c.args.extent c.args.self.now c.args.self.now has why some

pub returns-in-Some : goal.returns-in-Some
returns-in-Some c = λ ss has.
    taken_refused ss c.args.extent c.args.self.now _ has c.in-Some.refusal (at_none _ c.is_some.result c.is_some.ensures c.if-is_some.false) (sym c.in-Some.ensures) refl refl

pub returns-in-None : goal.returns-in-None
returns-in-None c = λ ss has.
    if_ok c.add.result c.add.ensures
    (taken_in ss c.args.extent c.args.self.now c.add.new.self has (at_none _ c.is_some.result c.is_some.ensures c.if-is_some.false) (sym c.in-None.ensures))
