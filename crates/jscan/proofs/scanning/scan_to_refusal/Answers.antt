use Rattle.std.proofs.Common.{sym}
use Rattle.jscan.proofs.PartialScanLemmas.{image_next, image_refused, image_end}
use Rattle.jscan.proofs.scanning.scan_to_refusal.Goals as goal

pub returns-in-Some-refusal-clause-refused : goal.returns-in-Some-refusal-clause-refused
returns-in-Some-refusal-clause-refused g c =
    (image_refused g.E.Order.order c.args.geometry.block c.args.image.now _ _ _ _ _ c.loop-extent.invariant c.in-Some.ensures.steps c.in-Some-refusal.ensures).refusal

pub returns-in-Some-refusal-clause-nodes : goal.returns-in-Some-refusal-clause-nodes
returns-in-Some-refusal-clause-nodes g c =
    (image_refused g.E.Order.order c.args.geometry.block c.args.image.now _ _ _ _ _ c.loop-extent.invariant c.in-Some.ensures.steps c.in-Some-refusal.ensures).nodes

pub loop-extent-preserved : goal.loop-extent-preserved
loop-extent-preserved g c =
    image_next _ _ _ _ _ _ c.loop-extent.invariant c.in-Some.ensures.steps (sym c.in_default.ensures) c.in_ok-add.ensures

pub returns-clause-refused : goal.returns-clause-refused
returns-clause-refused g c = (image_end g.E.Order.order c.args.geometry.block c.args.image.now _ _ c.loop-extent.invariant c.in-None.ensures.steps.0).first

pub returns-clause-nodes : goal.returns-clause-nodes
returns-clause-nodes g c = (image_end g.E.Order.order c.args.geometry.block c.args.image.now _ _ c.loop-extent.invariant c.in-None.ensures.steps.0).in_front

pub returns-clause-all_nodes : goal.returns-clause-all_nodes
returns-clause-all_nodes g c = (image_end g.E.Order.order c.args.geometry.block c.args.image.now _ _ c.loop-extent.invariant c.in-None.ensures.steps.0).all

pub returns-clause-findings : goal.returns-clause-findings
returns-clause-findings g c = λ none. (image_end g.E.Order.order c.args.geometry.block c.args.image.now _ _ c.loop-extent.invariant c.in-None.ensures.steps.0).found

pub returns-clause-read_only : goal.returns-clause-read_only
returns-clause-read_only g c = λ none. (image_end g.E.Order.order c.args.geometry.block c.args.image.now _ _ c.loop-extent.invariant c.in-None.ensures.steps.0).forbidding
