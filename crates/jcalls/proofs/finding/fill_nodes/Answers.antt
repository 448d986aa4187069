use Rattle.std.proofs.Common.{◌≡◌, arith, rules, sym, subst, ◌+◌, None}
use Rattle.jscan.specs.ImageLeft.{image_left}
use Rattle.jscan.specs.Scans.{image_extents}
use Rattle.jcalls.specs.NodeRows.{node_row}
use Rattle.jcalls.proofs.CountingLemmas.{extents_few}
use Rattle.jcalls.proofs.FillingLemmas.{few_rows}
use Rattle.jcalls.proofs.NodesLemmas.{NodesSoFar, next_is_there, nodes_pass, nodes_give, nodes_count}
use Rattle.jcalls.proofs.finding.fill_nodes.Goals as goal
use Rattle.jcalls.proofs.finding.fill_nodes.Goals.{then-count-rows, else-count-rows}

pub overflow_add-count : goal.overflow_add-count
overflow_add-count g c =
    let e = g.E.Order.order in
    let few = few_rows (node_row e c.args.block c.args.image.now) (image_extents e c.args.block c.args.image.now) _ c.args.rows.now c.loop-extent.rows c.loop-extent.count c.loop-extent.invariant.rows in
    omega (arith, few, extents_few e c.args.block c.args.image.now c.in-Ok.ensures.scannable)

pub loop-extent-preserved-in-Some-node_row : goal.loop-extent-preserved-in-Some-node_row
loop-extent-preserved-in-Some-node_row g c =
    let e = g.E.Order.order in
    elim c.if-count-rows.branch [
      | then-count-rows w ↦
          subst (λ rows. NodesSoFar e c.args.block c.args.image.now (image_left c.next.new.self) c.args.rows.now rows (c.loop-extent.count + 1)) (sym w.rows-is)
          (nodes_give e c.args.block c.args.image.now c.in-Some.extent _ (image_left c.next.new.self) c.args.rows.now c.loop-extent.rows c.loop-extent.count c.in-Some-node_row.row
          c.in-Some.ensures.steps (sym c.in-Some-node_row.ensures) w.if-count-rows.true c.loop-extent.auto.rows c.loop-extent.invariant)
      | else-count-rows w ↦
          subst (λ rows. NodesSoFar e c.args.block c.args.image.now (image_left c.next.new.self) c.args.rows.now rows (c.loop-extent.count + 1)) (sym w.rows-is)
          (nodes_count e c.args.block c.args.image.now c.in-Some.extent _ (image_left c.next.new.self) c.args.rows.now c.loop-extent.rows c.loop-extent.count c.in-Some-node_row.row
          c.in-Some.ensures.steps (sym c.in-Some-node_row.ensures) w.if-count-rows.false c.loop-extent.auto.rows c.loop-extent.invariant)
    ]

pub node_row-requires-clause-there : goal.node_row-requires-clause-there
node_row-requires-clause-there g c =
    next_is_there g.E.Order.order c.args.block c.args.image.now c.in-Some.extent _ (image_left c.next.new.self) c.args.rows.now c.loop-extent.rows c.loop-extent.count
    c.in-Some.ensures.steps c.loop-extent.invariant

pub loop-extent-preserved : goal.loop-extent-preserved
loop-extent-preserved g c =
    let e = g.E.Order.order in
    let none : node_row e c.args.block c.args.image.now c.in-Some.extent ≡ None = search rules in
    nodes_pass e c.args.block c.args.image.now c.in-Some.extent _ (image_left c.next.new.self) c.args.rows.now c.loop-extent.rows c.loop-extent.count
    c.in-Some.ensures.steps none c.loop-extent.invariant
