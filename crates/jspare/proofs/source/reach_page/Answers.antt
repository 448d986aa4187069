use Rattle.std.proofs.Common.{rules, arith}
use Rattle.std.proofs.KnownBytes.{Keeps-trans}
use Rattle.jspare.proofs.PagingLemmas.{next_page, skipped}
use Rattle.jspare.proofs.source.reach_page.Goals as goal

pub loop-left-preserved : goal.loop-left-preserved
loop-left-preserved g c = record {
  spare = omega arith;
  kept = Keeps-trans _ _ _ c.loop-left.invariant.kept
      (skipped c.args.layout c.loop-left.left c.in_ok-n.n _ _ c.fill.new.buf (search rules) (search rules) c.loop-left.invariant.spare c.in_ok-n.ensures.bytes.0);
  none_failed = search rules;
}

pub returns-clause-kept : goal.returns-clause-kept
returns-clause-kept g c =
    Keeps-trans _ _ _ c.loop-left.invariant.kept
    (next_page c.args.layout c.loop-left.left c.stride.result _ (omega arith) c.stride.ensures)
