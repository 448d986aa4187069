use Rattle.std.proofs.Common.{◌≡◌, ℕ, ◌<◌, List, ap, sym, subst, ◌∙◌}
use Rattle.std.specs.Prelude.{IfOk}
use Rattle.std.specs.List.{AllPairs}
use Rattle.jscan.specs.Image.{nodes}
use Rattle.jscan.specs.Scans.{IsScannable}
use Rattle.jmount.specs.Collected.{without_addresses}
use Rattle.jmount.specs.MountsNodes.{AreMountable}
use Rattle.jmount.specs.StateOf.{state_of}
use Rattle.jmount.proofs.MountLemmas.{nodes_mountable}
use Rattle.jcompact.specs.Matters.{Placed, AreWhatMatters}
use Rattle.jcompact.proofs.ImageLemmas.{nodes_in_order}
use Rattle.jcompact.proofs.image.kept_in.Goals as goal

pub nodes_of-requires : goal.nodes_of-requires
nodes_of-requires g c = subst (IsScannable c.args.geometry.block) (sym c.image.ensures) c.requires.mounts.sound.0

pub kept-requires-clause-mountable : goal.kept-requires-clause-mountable
kept-requires-clause-mountable g c =
    let e = g.E.Order.order in
    let size = c.args.geometry.block in
    subst AreMountable (sym (c.in_ok-nodes.ensures ∙ ap (nodes e size) c.image.ensures)) (nodes_mountable e size c.args.mounted.now.image c.requires.mounts.sound.0)

pub kept-requires-clause-by_address : goal.kept-requires-clause-by_address
kept-requires-clause-by_address g c =
    let e = g.E.Order.order in
    let size = c.args.geometry.block in
    subst (AllPairs (λ (m n : Placed). m.0 < n.0)) (sym (c.in_ok-nodes.ensures ∙ ap (nodes e size) c.image.ensures)) (nodes_in_order e size c.args.mounted.now.image)

pub kept-requires-clause-made : goal.kept-requires-clause-made
kept-requires-clause-made g c =
    let e = g.E.Order.order in
    let size = c.args.geometry.block in
    sym c.requires.mounts.same ∙ ap (λ (ns : List Placed). state_of (without_addresses ns)) (sym (c.in_ok-nodes.ensures ∙ ap (nodes e size) c.image.ensures))

pub returns : goal.returns
returns g c =
    let e = g.E.Order.order in
    let size = c.args.geometry.block in
    subst (λ (ns : List Placed). IfOk c.kept.result (λ kept. AreWhatMatters ns kept.items)) (c.in_ok-nodes.ensures ∙ ap (nodes e size) c.image.ensures) c.kept.ensures
