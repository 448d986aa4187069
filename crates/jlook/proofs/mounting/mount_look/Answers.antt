use Rattle.std.proofs.Common.{rules, ◌≡◌, Err, sym, subst}
use Rattle.jmount.specs.MountsNodes.{AreMountable, AnswersNodes}
use Rattle.jthrough.specs.View.{mount_fault_viewed}
use Rattle.jlook.specs.Looks.{AnswersLook}
use Rattle.jlook.proofs.MountLemmas.{look_seen, look_refused, stop_answers, look_mounted, look_unmounted, look_mountable}
use Rattle.jlook.proofs.mounting.mount_look.Goals as goal

pub nodes_of-requires-clause-looked : goal.nodes_of-requires-clause-looked
nodes_of-requires-clause-looked g c =
    let (wants, looked) = c.requires.looked in
    look_seen wants g.E.Order.order c.args.geometry.block c.args.image.now c.args.contents.now c.args.look looked

pub returns-in_err-refuse_clashes : goal.returns-in_err-refuse_clashes
returns-in_err-refuse_clashes g c = λ wants looked.
    let same : c.from_residual-in_err-refuse_clashes.result ≡ Err (mount_fault_viewed c.in_err-refuse_clashes.field-0.0) = search rules in
    subst (λ r. AnswersLook wants g.E.Order.order c.args.geometry.block c.args.image.now r) (sym same)
    (stop_answers wants g.E.Order.order c.args.geometry.block c.args.image.now c.args.contents.now c.args.look looked c.in_ok-nodes.nodes.items
    c.in_err-refuse_clashes.field-0.0 c.in_ok-nodes.ensures c.in_err-refuse_clashes.ensures.err)

pub returns-in-Some : goal.returns-in-Some
returns-in-Some g c = λ wants looked.
    look_refused wants g.E.Order.order c.args.geometry.block c.args.image.now c.args.contents.now c.args.look looked c.in_ok-nodes.nodes.items c.in-Some.why c.in_ok-nodes.ensures
    c.in_ok-refuse_clashes.ensures.ok c.in-Some.is

pub mount_nodes-requires : goal.mount_nodes-requires
mount_nodes-requires g c =
    let (wants, looked) = c.requires.looked in
    record {
      mountable = subst AreMountable (sym c.in_ok-nodes.ensures)
          (look_mountable wants g.E.Order.order c.args.geometry.block c.args.image.now c.args.contents.now c.args.look looked);
    }

pub returns-in-Ok : goal.returns-in-Ok
returns-in-Ok g c = λ wants looked.
    look_mounted wants g.E.Order.order c.args.geometry.block c.args.image.now c.args.contents.now c.args.look looked c.in_ok-nodes.nodes.items c.in_ok-nodes.ensures c.in_default.is
    c.in-Ok.mounted c.in-Ok.ensures

pub returns : goal.returns
returns g c = λ wants looked.
    subst (λ f. AnswersLook wants g.E.Order.order c.args.geometry.block c.args.image.now (Err f)) (sym c.from.ensures)
    (look_unmounted wants g.E.Order.order c.args.geometry.block c.args.image.now c.args.contents.now c.args.look looked c.in_ok-nodes.nodes.items c.in_ok-nodes.ensures c.in_default.is
    c.in-Err.why
    (subst (λ r. AnswersNodes c.args.image.now c.in_ok-nodes.nodes.items c.args.look.findings.items c.args.look.read_only r) c.in-Err.is c.mount_nodes.ensures))
