use Rattle.jcompact.proofs.CoverLemmas.{cover_more, cover_all}
use Rattle.jcompact.proofs.covering.cover.Goals as goal

pub loop-c-preserved : goal.loop-c-preserved
loop-c-preserved c = cover_more _ c.loop-c.bare c.remove.new.self c.args.from c.args.to c.in-Some.c c.in-Some.ensures.from c.in-Some.ensures.to c.remove.ensures.updates.0 c.loop-c.invariant

pub returns : goal.returns
returns c = cover_all _ c.loop-c.bare c.args.from c.args.to c.loop-c.invariant c.in_default.ensures.none
