use Rattle.std.proofs.Common.{◌≡◌, ℕ, ◌<◌, List, ap, sym, subst, ◌∙◌}
use Rattle.std.specs.List.{AllPairs}
use Rattle.jexpand.specs.Expanded.{unpacked_bytes}
use Rattle.jmount.specs.Collected.{without_addresses}
use Rattle.jmount.specs.MountsNodes.{AreMountable}
use Rattle.jmount.specs.StateOf.{state_of}
use Rattle.jview.specs.Through.{IsSoundThrough}
use Rattle.jthrough.specs.Addressed.{addressed_nodes}
use Rattle.jthrough.specs.View.{BeginWith}
use Rattle.jthrough.proofs.AddressedLemmas.{addressed_are_expanded, addressed_are_by_address, addressed_are_mountable}
use Rattle.jcompact.specs.Matters.{Placed}
use Rattle.jinspects.proofs.SurveyLemmas.{of_kept}
use Rattle.jinspects.proofs.live.live_addresses.Goals as goal

pub nodes_through-requires-clause-sound : goal.nodes_through-requires-clause-sound
nodes_through-requires-clause-sound g c = subst (IsSoundThrough g.E.Order.order c.args.geometry.block) (sym c.image.ensures) c.requires.mount.mounts.sound

pub nodes_through-requires-clause-contents : goal.nodes_through-requires-clause-contents
nodes_through-requires-clause-contents g c =
    subst (λ (image : List ℕ). BeginWith (unpacked_bytes g.E.Order.order c.args.geometry.block image) c.args.contents.now) (sym c.image.ensures) c.requires.held

pub kept-requires-clause-mountable : goal.kept-requires-clause-mountable
kept-requires-clause-mountable g c =
    let e = g.E.Order.order in
    let size : ℕ = c.args.geometry.block in
    subst AreMountable (sym (c.in_ok-nodes.ensures ∙ ap (addressed_nodes e size) c.image.ensures))
    (addressed_are_mountable e size c.args.mounted.now.image c.requires.mount.mounts.sound.scannable)

pub kept-requires-clause-by_address : goal.kept-requires-clause-by_address
kept-requires-clause-by_address g c =
    let e = g.E.Order.order in
    let size : ℕ = c.args.geometry.block in
    subst (AllPairs (λ (m n : Placed). m.0 < n.0)) (sym (c.in_ok-nodes.ensures ∙ ap (addressed_nodes e size) c.image.ensures)) (addressed_are_by_address e size c.args.mounted.now.image)

pub kept-requires-clause-made : goal.kept-requires-clause-made
kept-requires-clause-made g c =
    let e = g.E.Order.order in
    let size : ℕ = c.args.geometry.block in
    sym c.requires.mount.mounts.same ∙ ap state_of (sym (addressed_are_expanded e size c.args.mounted.now.image))
    ∙ ap (λ (ns : List Placed). state_of (without_addresses ns)) (sym (c.in_ok-nodes.ensures ∙ ap (addressed_nodes e size) c.image.ensures))

pub returns : goal.returns
returns g c =
    let e = g.E.Order.order in
    let size : ℕ = c.args.geometry.block in
    let are : c.in_ok-nodes.nodes.items ≡ addressed_nodes e size c.args.mounted.now.image = c.in_ok-nodes.ensures ∙ ap (addressed_nodes e size) c.image.ensures in
    of_kept e size c.args.mounted.now.image c.in_ok-nodes.nodes.items c.in_ok-kept.kept.items _ c.addresses_of.result are c.in_ok-kept.ensures c.deref.ensures.value c.addresses_of.ensures
