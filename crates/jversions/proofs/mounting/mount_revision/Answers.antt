use Rattle.std.proofs.Common.{rules, ◌≡◌, Err, false, sym, subst, ◌∙◌}
use Rattle.jthrough.specs.declared.fault.ViewFault.TheVariants.{OutOfMemory}
use Rattle.jversions.specs.Answers.{AnswersRevision}
use Rattle.jversions.proofs.MountLemmas.{revision_mounted, revision_unmounted, untaken, upto_mountable, upto_seen}
use Rattle.jversions.proofs.mounting.mount_revision.Goals as goal

pub returns-in_err-tiles : goal.returns-in_err-tiles
returns-in_err-tiles g c =
    let same : c.from_residual.result ≡ Err c.in_err-tiles.field-0.0 = search rules in
    subst (λ r. AnswersRevision c.args.revision g.E.Order.order c.args.geometry.block c.args.image.now r) (sym same)
    (untaken c.args.revision g.E.Order.order c.args.geometry.block c.args.image.now c.in_err-tiles.field-0.0 c.in_err-tiles.ensures.err)

pub nodes_of-requires-clause-readable : goal.nodes_of-requires-clause-readable
nodes_of-requires-clause-readable g c = c.in_ok-tiles.ensures.scannable.0

pub nodes_of-requires-clause-seen : goal.nodes_of-requires-clause-seen
nodes_of-requires-clause-seen g c =
    upto_seen c.args.revision g.E.Order.order c.args.geometry.block c.args.image.now c.in_ok-tiles.tiles.items c.deref.result.now c.in_ok-tiles.ensures.tiles c.in_ok-tiles.ensures.held
    (c.deref.ensures.value ∙ c.in_ok-tiles.ensures.contents)

pub returns-in_err-nodes : goal.returns-in_err-nodes
returns-in_err-nodes g c =
    let same : c.from_residual-in_err-nodes.result ≡ Err OutOfMemory = search rules in
    subst (λ r. AnswersRevision c.args.revision g.E.Order.order c.args.geometry.block c.args.image.now r) (sym same) c.in_ok-tiles.ensures.scannable

pub mount_nodes-requires : goal.mount_nodes-requires
mount_nodes-requires g c = record {
  mountable = upto_mountable c.args.revision g.E.Order.order c.args.geometry.block c.args.image.now c.in_ok-tiles.tiles.items c.in_ok-nodes.nodes.items
      c.in_ok-tiles.ensures.scannable c.in_ok-tiles.ensures.tiles c.in_ok-nodes.ensures;
}

pub returns-in-Ok : goal.returns-in-Ok
returns-in-Ok g c =
    revision_mounted c.args.revision g.E.Order.order c.args.geometry.block c.args.image.now c.in_ok-tiles.tiles.items c.in_ok-nodes.nodes.items
    c.in_ok-tiles.ensures.scannable c.in_ok-tiles.ensures.tiles c.in_ok-nodes.ensures c.in_ok-tiles.ensures.held c.new.result.items false c.in-Ok.mounted c.in-Ok.ensures

pub returns-in-Err : goal.returns-in-Err
returns-in-Err g c =
    subst (λ f. AnswersRevision c.args.revision g.E.Order.order c.args.geometry.block c.args.image.now (Err f)) (sym c.from.ensures)
    (revision_unmounted c.args.revision g.E.Order.order c.args.geometry.block c.args.image.now c.in_ok-tiles.tiles.items c.in_ok-nodes.nodes.items
    c.in_ok-tiles.ensures.scannable c.in_ok-tiles.ensures.tiles c.in_ok-nodes.ensures c.in_ok-tiles.ensures.held c.new.result.items false c.in-Err.why c.in-Err.ensures)
