use Rattle.std.proofs.Common.{ℕ, List, sym, subst}
use Rattle.jthrough.specs.Addressed.{addressed_nodes}
use Rattle.jthrough.proofs.AddressedLemmas.{addressed_are_mountable}
use Rattle.jcollect.specs.Planning.{IsSoundNodeAt}
use Rattle.jcollect.proofs.ApartLemmas.{counted, planned_apart_may, stay_sighted, unviewed_staying}
use Rattle.jcollect.proofs.StayingLemmas.{addressed_in_order, stay_in_order, stay_mountable}
use Rattle.jcollect.proofs.apart.plan_apart.Goals as goal

pub returns-in-Err-clause-refused : goal.returns-in-Err-clause-refused
returns-in-Err-clause-refused g c = unviewed_staying g.E.Order.order c.args.geometry.block c.args.image.now c.in-Err.why c.in-Err.ensures.err

pub plan_nodes-requires-clause-mountable : goal.plan_nodes-requires-clause-mountable
plan_nodes-requires-clause-mountable g c =
    let e = g.E.Order.order in
    let size : ℕ = c.args.geometry.block in
    let is = c.in-Ok-mount_staying.ensures.mounts.stays in
    stay_mountable (addressed_nodes e size c.args.image.now) _ _ is.parted (addressed_are_mountable e size c.args.image.now is.read.scannable)

pub plan_nodes-requires-clause-by_address : goal.plan_nodes-requires-clause-by_address
plan_nodes-requires-clause-by_address g c =
    let e = g.E.Order.order in
    let size : ℕ = c.args.geometry.block in
    stay_in_order (addressed_nodes e size c.args.image.now) _ _ (addressed_in_order e size c.args.image.now) c.in-Ok-mount_staying.ensures.mounts.stays.parted

pub plan_nodes-requires-clause-made : goal.plan_nodes-requires-clause-made
plan_nodes-requires-clause-made g c = c.in-Ok-mount_staying.ensures.mounts.mount.state

pub plan_nodes-requires-clause-sighted : goal.plan_nodes-requires-clause-sighted
plan_nodes-requires-clause-sighted g c =
    let e = g.E.Order.order in
    let size : ℕ = c.args.geometry.block in
    let is = c.in-Ok-mount_staying.ensures.mounts in
    λ n has. subst (λ (i : List ℕ). IsSoundNodeAt e size i n.0) (sym is.image_is) (stay_sighted e size c.args.image.now _ _ is.stays n has)

pub returns-in-Ok-plan_nodes-clause-planned : goal.returns-in-Ok-plan_nodes-clause-planned
returns-in-Ok-plan_nodes-clause-planned g c = record {
  stay = c.in-Ok-mount_staying.stayed.nodes.items;
  mount = c.in-Ok-mount_staying.stayed.mounted;
  mounts = c.in-Ok-mount_staying.ensures.mounts;
  planned = counted _ g.E.Order.order _ _ _ _ _ _ c.in-Ok-plan_nodes.ensures.planned;
  count_is = c.in-Ok-mount_staying.ensures.count;
}

pub returns-in-Ok-plan_nodes-clause-scannable : goal.returns-in-Ok-plan_nodes-clause-scannable
returns-in-Ok-plan_nodes-clause-scannable g c = c.in-Ok-mount_staying.ensures.mounts.stays.read.scannable

pub returns-in-Ok-plan_nodes-clause-may : goal.returns-in-Ok-plan_nodes-clause-may
returns-in-Ok-plan_nodes-clause-may g c =
    planned_apart_may g.E.Order.order c.args.geometry.block c.args.blocks c.args.image.now c.in-Ok-mount_staying.stayed.left.items _ _ _
    (record {
      stay = c.in-Ok-mount_staying.stayed.nodes.items;
      mount = c.in-Ok-mount_staying.stayed.mounted;
      mounts = c.in-Ok-mount_staying.ensures.mounts;
      planned = counted _ g.E.Order.order _ _ _ _ _ _ c.in-Ok-plan_nodes.ensures.planned;
      count_is = c.in-Ok-mount_staying.ensures.count;
    })

pub returns-clause-refused : goal.returns-clause-refused
returns-clause-refused g c = (
  c.in-Ok-mount_staying.stayed.nodes.items,
  c.in-Ok-mount_staying.stayed.left.items,
  c.in-Ok-mount_staying.stayed.mounted,
  c.in-Ok-mount_staying.ensures.mounts,
  c.in-Err-plan_nodes.ensures.refused,
)
