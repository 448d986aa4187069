use Rattle.std.proofs.Common.{◌∙◌, ◌<◌, ℕ, List, ap, subst, sym}
use Rattle.std.specs.List.{AllPairs}
use Rattle.jexpand.specs.Expanded.{unpacked_bytes}
use Rattle.jmount.specs.Collected.{without_addresses}
use Rattle.jmount.specs.MountsNodes.{AreMountable}
use Rattle.jmount.specs.StateOf.{state_of}
use Rattle.jview.specs.Through.{IsSoundThrough}
use Rattle.jthrough.specs.Addressed.{addressed_nodes}
use Rattle.jthrough.specs.View.{BeginWith}
use Rattle.jthrough.proofs.AddressedLemmas.{addressed_are_by_address, addressed_are_expanded, addressed_are_mountable}
use Rattle.jcompact.specs.Matters.{Placed}
use Rattle.history_tests.proofs.history.lines.words_mounted.Goals as goal

pub nodes_through-requires-clause-sound : goal.nodes_through-requires-clause-sound
nodes_through-requires-clause-sound g c =
    subst (IsSoundThrough g.E.Order.order 4096) (sym c.image.ensures) c.requires.mount.mounts.sound

pub nodes_through-requires-clause-contents : goal.nodes_through-requires-clause-contents
nodes_through-requires-clause-contents g c =
    subst (λ (image : List ℕ). BeginWith (unpacked_bytes g.E.Order.order 4096 image)
    c.args.contents.now) (sym c.image.ensures) c.requires.held

pub words_of-requires-clause-mountable : goal.words_of-requires-clause-mountable
words_of-requires-clause-mountable g c =
    let e = g.E.Order.order in
    subst AreMountable (sym (c.in-Ok.ensures ∙ ap (addressed_nodes e 4096) c.image.ensures))
    (addressed_are_mountable e 4096 c.args.mounted.now.image
    c.requires.mount.mounts.sound.scannable)

pub words_of-requires-clause-by_address : goal.words_of-requires-clause-by_address
words_of-requires-clause-by_address g c =
    let e = g.E.Order.order in
    subst (AllPairs (λ (m n : Placed). m.0 < n.0))
    (sym (c.in-Ok.ensures ∙ ap (addressed_nodes e 4096) c.image.ensures))
    (addressed_are_by_address e 4096 c.args.mounted.now.image)

pub words_of-requires-clause-made : goal.words_of-requires-clause-made
words_of-requires-clause-made g c =
    let e = g.E.Order.order in
    let image = c.args.mounted.now.image in
    sym c.requires.mount.mounts.same
    ∙ ap state_of (sym (addressed_are_expanded e 4096 image))
    ∙ ap (λ (ns : List Placed). state_of (without_addresses ns))
    (sym (c.in-Ok.ensures ∙ ap (addressed_nodes e 4096) c.image.ensures))
