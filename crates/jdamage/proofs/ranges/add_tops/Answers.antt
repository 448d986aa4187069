use Rattle.jdamage.proofs.RangeLemmas.{no_entries, sifted_all, sifted_popped}
use Rattle.jdamage.proofs.ranges.add_tops.Goals as goal

pub loop-top-preserved : goal.loop-top-preserved
loop-top-preserved c = λ lost all s.
    sifted_popped lost all c.loop-top.found.items c.push.new.self.items c.loop-top.left c.pop_first.new.self c.in-Some.field-0-0 c.in-Some.top (c.loop-top.invariant lost all s) c.in_ok-push.ensures.items
    c.in-Some.ensures.value c.in-Some.ensures.updates.0

pub returns : goal.returns
returns c = λ lost all s. sifted_all lost all c.loop-top.found.items c.loop-top.left (c.loop-top.invariant lost all s) (no_entries c.loop-top.left c.in_default.ensures.variant.1)
