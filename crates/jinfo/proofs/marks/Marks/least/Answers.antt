use Rattle.std.proofs.Common.{◌+◌, ◌*◌, sym, ◌∙◌}
use Rattle.jinfo.specs.Marks.{may_be_by}
use Rattle.jinfo.proofs.SizeLemmas.{upwards_more, upwards_here, upwards_none}
use Rattle.jinfo.proofs.marks.Marks.least.Goals as goal

pub loop-k-preserved : goal.loop-k-preserved
loop-k-preserved c =
    upwards_more (may_be_by c.args.self.now) c.loop-k.k c.loop-k-test.true (sym c.may_be.ensures ∙ c.if-may_be.false) ∙ c.loop-k.invariant

pub returns-then-may_be : goal.returns-then-may_be
returns-then-may_be c =
    sym (upwards_here (may_be_by c.args.self.now) c.loop-k.k c.loop-k-test.true (sym c.may_be.ensures ∙ c.if-may_be.true)) ∙ c.loop-k.invariant

pub returns : goal.returns
returns c = sym (upwards_none (may_be_by c.args.self.now) c.loop-k.k (4096 + 4 * c.loop-k.k) c.loop-k-test.false) ∙ c.loop-k.invariant
