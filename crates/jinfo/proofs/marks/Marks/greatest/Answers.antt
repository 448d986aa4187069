use Rattle.std.proofs.Common.{◌-◌, ◌*◌, sym, ◌∙◌}
use Rattle.jinfo.specs.Marks.{may_be_by}
use Rattle.jinfo.proofs.SizeLemmas.{downwards_more, downwards_here, downwards_none, downwards_from}
use Rattle.jinfo.proofs.marks.Marks.greatest.Goals as goal

pub loop-k-init : goal.loop-k-init
loop-k-init c = downwards_from c.args.self.now c.count_above-first.result c.count_above-first.ensures.few c.count_above-first.ensures.none

pub loop-k-preserved : goal.loop-k-preserved
loop-k-preserved c =
    downwards_more (may_be_by c.args.self.now) c.loop-k.k c.loop-k-test.true (sym c.may_be.ensures ∙ c.if-may_be.false) ∙ c.loop-k.invariant

pub returns-then-may_be : goal.returns-then-may_be
returns-then-may_be c =
    sym (downwards_here (may_be_by c.args.self.now) c.loop-k.k c.loop-k-test.true (sym c.may_be.ensures ∙ c.if-may_be.true)) ∙ c.loop-k.invariant

pub returns : goal.returns
returns c = sym (downwards_none (may_be_by c.args.self.now) c.loop-k.k (4194304 - 4 * c.loop-k.k) c.loop-k-test.false) ∙ c.loop-k.invariant
