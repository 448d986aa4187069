use Rattle.std.proofs.Common.{rules, ◌≡◌, Err, sym, subst}
use Rattle.jmount.specs.MountsNodes.{AreMountable, AnswersNodes}
use Rattle.jthrough.specs.MountsThrough.{AnswersThrough}
use Rattle.jthrough.specs.View.{mount_fault_viewed}
use Rattle.jthrough.proofs.MountLemmas.{view_refused, stop_answers, view_mounted, view_unmounted}
use Rattle.jthrough.proofs.PlacedLemmas.{view_seen, placed_mountable}
use Rattle.jthrough.proofs.mounting.mount_view.Goals as goal

pub nodes_of-requires-clause-seen : goal.nodes_of-requires-clause-seen
nodes_of-requires-clause-seen g c = view_seen g.E.Order.order c.args.geometry.block c.args.image.now c.args.contents.now c.args.view c.requires.viewed

pub returns-in_err-refuse_clashes : goal.returns-in_err-refuse_clashes
returns-in_err-refuse_clashes g c =
    let same : c.from_residual-in_err-refuse_clashes.result ≡ Err (mount_fault_viewed c.in_err-refuse_clashes.field-0.0) = search rules in
    subst (λ r. AnswersThrough g.E.Order.order c.args.geometry.block c.args.image.now r) (sym same)
    (stop_answers g.E.Order.order c.args.geometry.block c.args.image.now c.args.contents.now c.args.view c.requires.viewed c.in_ok-nodes.nodes.items
    c.in_err-refuse_clashes.field-0.0 c.in_ok-nodes.ensures c.in_err-refuse_clashes.ensures.err)

pub returns-in-Some : goal.returns-in-Some
returns-in-Some g c =
    view_refused g.E.Order.order c.args.geometry.block c.args.image.now c.args.contents.now c.args.view c.requires.viewed c.in_ok-nodes.nodes.items c.in-Some.why c.in_ok-nodes.ensures
    c.in_ok-refuse_clashes.ensures.ok c.in-Some.is

pub mount_nodes-requires : goal.mount_nodes-requires
mount_nodes-requires g c =
    let seen = view_seen g.E.Order.order c.args.geometry.block c.args.image.now c.args.contents.now c.args.view c.requires.viewed in
    record {
      mountable = subst AreMountable (sym c.in_ok-nodes.ensures)
          (placed_mountable g.E.Order.order c.args.geometry.block c.args.image.now c.args.view.tiles.items c.requires.viewed.scannable seen.sighted);
    }

pub returns-in-Ok : goal.returns-in-Ok
returns-in-Ok g c =
    view_mounted g.E.Order.order c.args.geometry.block c.args.image.now c.args.contents.now c.args.view c.requires.viewed c.in_ok-nodes.nodes.items c.in_ok-nodes.ensures c.in_default.is
    c.in-Ok.mounted c.in-Ok.ensures

pub returns : goal.returns
returns g c =
    subst (λ f. AnswersThrough g.E.Order.order c.args.geometry.block c.args.image.now (Err f)) (sym c.from.ensures)
    (view_unmounted g.E.Order.order c.args.geometry.block c.args.image.now c.args.contents.now c.args.view c.requires.viewed c.in_ok-nodes.nodes.items c.in_ok-nodes.ensures c.in_default.is
    c.in-Err.why
    (subst (λ r. AnswersNodes c.args.image.now c.in_ok-nodes.nodes.items c.args.view.findings.items c.args.view.read_only r) c.in-Err.is c.mount_nodes.ensures))
