use Rattle.std.proofs.Common.{◌≡◌, ℕ, List, Option, Err, length, sym, ap, subst, ◌∙◌, arith}
use Rattle.std.specs.Prelude.{IfSome}
use Rattle.jclash.specs.Parting.{AreByAddress}
use Rattle.jmount.specs.MountsNodes.{AreMountable, AnswersNodes}
use Rattle.jthrough.specs.MountsThrough.{AnswersAlone}
use Rattle.jthrough.specs.declared.fault.ViewFault.{ViewFault}
use Rattle.jthrough.proofs.AddressedLemmas.{addressed_are_mountable}
use Rattle.jthrough.proofs.PlacedLemmas.{view_seen}
use Rattle.jcompact.specs.Matters.{Placed}
use Rattle.jcollect.specs.Staying.{AnswersStaying}
use Rattle.jcollect.proofs.MountStayingLemmas.{alone_answers, nodes_addressed, staying_mounted, staying_unmounted}
use Rattle.jcollect.proofs.StayingLemmas.{addressed_in_order, mountable_elsewhere, stay_mountable}
use Rattle.jcollect.proofs.staying.mount_staying.Goals as goal

pub returns-in-Some : goal.returns-in-Some
returns-in-Some g c =
    let e = g.E.Order.order in
    let size : ℕ = c.args.geometry.block in
    alone_answers e size c.args.image.now c.in-Some.why
    (subst (λ (o : Option ViewFault). IfSome o (AnswersAlone e size c.args.image.now)) c.in-Some.is c.requires.refused)

pub nodes_of-requires-clause-seen : goal.nodes_of-requires-clause-seen
nodes_of-requires-clause-seen g c = view_seen g.E.Order.order c.args.geometry.block c.args.image.now c.args.contents.now c.args.view c.requires.viewed

pub stay_of-requires : goal.stay_of-requires
stay_of-requires g c =
    let e = g.E.Order.order in
    let size : ℕ = c.args.geometry.block in
    let is = nodes_addressed e size c.args.image.now c.args.contents.now c.args.view c.requires.viewed c.in_default.is c.in_ok-nodes.nodes.items c.in_ok-nodes.ensures in
    subst AreByAddress (sym is) (addressed_in_order e size c.args.image.now)

pub mount_nodes-requires : goal.mount_nodes-requires
mount_nodes-requires g c =
    let e = g.E.Order.order in
    let size : ℕ = c.args.geometry.block in
    let ns : List Placed = c.in_ok-nodes.nodes.items in
    let stay : List Placed = c.in_ok-parted.parted.0.items in
    let is = nodes_addressed e size c.args.image.now c.args.contents.now c.args.view c.requires.viewed c.in_default.is ns c.in_ok-nodes.ensures in
    record {
      mountable = mountable_elsewhere stay c.in_ok-placed.placed.items (c.in_ok-placed.ensures ∙ sym c.in_ok-parted.ensures.same)
          (stay_mountable ns stay c.in_ok-parted.parted.1.left.items c.in_ok-parted.ensures.stay
          (subst AreMountable (sym is) (addressed_are_mountable e size c.args.image.now c.requires.viewed.scannable)));
    }

pub returns-in-Ok : goal.returns-in-Ok
returns-in-Ok g c =
    let e = g.E.Order.order in
    let size : ℕ = c.args.geometry.block in
    let ns : List Placed = c.in_ok-nodes.nodes.items in
    let is = nodes_addressed e size c.args.image.now c.args.contents.now c.args.view c.requires.viewed c.in_default.is ns c.in_ok-nodes.ensures in
    record {
      mounts = staying_mounted e size c.args.image.now c.args.contents.now c.args.view c.requires.viewed c.in_default.is ns c.in_ok-parted.parted.0.items c.in_ok-placed.placed.items
          c.in_ok-parted.parted.1.left.items c.in_ok-nodes.ensures c.in_ok-parted.ensures.stay (c.in_ok-placed.ensures ∙ sym c.in_ok-parted.ensures.same) c.in-Ok.mounted c.in-Ok.ensures;
      count = omega (arith, c.len-count.ensures, c.in_ok-nodes.nodes.ok.0, ap (λ (l : List Placed). length l) is);
    }

pub returns : goal.returns
returns g c =
    let e = g.E.Order.order in
    let size : ℕ = c.args.geometry.block in
    let ns : List Placed = c.in_ok-nodes.nodes.items in
    let placed : List Placed = c.in_ok-placed.placed.items in
    subst (λ (f : ViewFault). AnswersStaying e size c.args.image.now (Err f)) (sym c.from.ensures)
    (staying_unmounted e size c.args.image.now c.args.contents.now c.args.view c.requires.viewed c.in_default.is ns c.in_ok-parted.parted.0.items placed
    c.in_ok-parted.parted.1.left.items c.in_ok-nodes.ensures c.in_ok-parted.ensures.stay (c.in_ok-placed.ensures ∙ sym c.in_ok-parted.ensures.same) c.in-Err.why
    (subst (λ r. AnswersNodes c.args.image.now placed c.args.view.findings.items c.args.view.read_only r) c.in-Err.is c.mount_nodes.ensures))
