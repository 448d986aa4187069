use Rattle.std.proofs.Common.{rules}
use Rattle.jspare.proofs.PartLemmas.{skips_more}
use Rattle.jspare.proofs.part.reach_image.Goals as goal

pub loop-before-preserved : goal.loop-before-preserved
loop-before-preserved g c = record {
  skipped = skips_more _ _ _ _ c.loop-before.before c.in_ok-n.n c.fill.new.buf (search rules) (search rules)
      c.loop-before.invariant.skipped c.in_ok-n.ensures.bytes.0;
  none_failed = search rules;
}
