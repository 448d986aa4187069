use Rattle.std.proofs.Common.{◌≤◌}
use Rattle.jscan.specs.Image.{nodes}
use Rattle.jclash.proofs.LowestLemmas.{none_below, none_clashes, none_there}
use Rattle.jclash.proofs.lowest.clash_below.Goals as goal

pub returns-in_default : goal.returns-in_default
returns-in_default g c = none_there (nodes g.E.Order.order c.args.geometry.block c.args.image.now) c.args.addr c.in_default.ensures

pub returns-in_default-lowest_clash : goal.returns-in_default-lowest_clash
returns-in_default-lowest_clash g c =
    none_clashes g.E.Order.order c.args.geometry.block c.args.image.now c.args.addr c.in-Some.node c.in-Some.ensures c.in_default-lowest_clash.ensures

pub returns-then-below-addr : goal.returns-then-below-addr
returns-then-below-addr g c =
    let above : c.args.addr ≤ c.in-Some-lowest_clash.below = c.if-below-addr.true in
    none_below g.E.Order.order c.args.geometry.block c.args.image.now c.args.addr c.in-Some-lowest_clash.below c.in-Some.node c.in-Some.ensures c.in-Some-lowest_clash.ensures above
