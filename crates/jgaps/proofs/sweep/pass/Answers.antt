use Rattle.std.proofs.Common.{◌≡◌, ℕ, Vec, Global, min, arith, ap, ◌∙◌}
use Rattle.jgaps.specs.declared.gap.Gap.{Gap}
use Rattle.jgaps.proofs.SweptLemmas.{swept_gap, swept_on}
use Rattle.jgaps.proofs.sweep.pass.Goals as goal
use Rattle.jgaps.proofs.sweep.pass.Goals.{then-reach-stretch+in_ok-push, else-reach-stretch}

pub returns : goal.returns
returns c = λ covered all left begin w.
    let to : c.min-to.result ≡ min c.args.stretch.now.to c.args.size = c.min-to.ensures ∙ ap (λ (n : ℕ). min c.args.stretch.now.to n) c.from.ensures in
    elim c.if-reach-stretch.branch [
      | then-reach-stretch+in_ok-push v ↦
          swept_gap c.args.ino c.args.size covered all c.args.stretch.now left c.args.gaps.now.items c.args.reach c.min-to.result to c.if-to-stretch.false w c.max.result c.if-reach-stretch.gaps.items
          c.max.ensures v.if-reach-stretch.true (omega arith) begin (ap (λ (g : Vec Gap Global). g.items) v.gaps-is ∙ v.in_ok-push.ensures.items)
      | else-reach-stretch v ↦
          swept_on c.args.ino c.args.size covered all c.args.stretch.now left c.args.gaps.now.items c.args.reach c.min-to.result to c.if-to-stretch.false w c.max.result c.if-reach-stretch.gaps.items
          c.max.ensures v.if-reach-stretch.false (ap (λ (g : Vec Gap Global). g.items) v.gaps-is)
    ]
