use Rattle.std.proofs.Common.{◌≡◌, ℕ, ◌<◌, List, length, ap, sym, subst, ◌∙◌, arith}
use Rattle.std.specs.List.{AllPairs}
use Rattle.jscan.specs.Image.{nodes}
use Rattle.jmount.specs.Collected.{without_addresses}
use Rattle.jmount.specs.MountsNodes.{AreMountable}
use Rattle.jmount.specs.StateOf.{state_of}
use Rattle.jmount.proofs.MountLemmas.{nodes_mountable}
use Rattle.jcompact.specs.Matters.{Placed, AreWhatMatters}
use Rattle.jcompact.proofs.ImageLemmas.{nodes_in_order}
use Rattle.jcollect.specs.Collecting.{addresses_of}
use Rattle.jcollect.proofs.collecting.kept_addresses.Goals as goal

pub kept-requires-clause-mountable : goal.kept-requires-clause-mountable
kept-requires-clause-mountable g c =
    let e = g.E.Order.order in
    let size : ℕ = c.args.geometry.block in
    subst AreMountable (sym (c.in-Ok.ensures.2 ∙ ap (nodes e size) c.image.ensures)) (nodes_mountable e size c.args.mounted.now.image c.requires.mounts.sound.0)

pub kept-requires-clause-by_address : goal.kept-requires-clause-by_address
kept-requires-clause-by_address g c =
    let e = g.E.Order.order in
    let size : ℕ = c.args.geometry.block in
    subst (AllPairs (λ (m n : Placed). m.0 < n.0)) (sym (c.in-Ok.ensures.2 ∙ ap (nodes e size) c.image.ensures)) (nodes_in_order e size c.args.mounted.now.image)

pub kept-requires-clause-made : goal.kept-requires-clause-made
kept-requires-clause-made g c =
    let e = g.E.Order.order in
    let size : ℕ = c.args.geometry.block in
    sym c.requires.mounts.same ∙ ap (λ (ns : List Placed). state_of (without_addresses ns)) (sym (c.in-Ok.ensures.2 ∙ ap (nodes e size) c.image.ensures))

pub returns : goal.returns
returns g c =
    let e = g.E.Order.order in
    let size : ℕ = c.args.geometry.block in
    let are : c.in-Ok.found.nodes.items ≡ nodes e size c.args.mounted.now.image = c.in-Ok.ensures.2 ∙ ap (nodes e size) c.image.ensures in
    record {
      kept = c.in_ok-kept.kept.items;
      matter = subst (λ (ns : List Placed). AreWhatMatters ns c.in_ok-kept.kept.items) are c.in_ok-kept.ensures;
      addresses_are = c.in_ok-addresses_of.ensures ∙ ap addresses_of c.deref.ensures.value;
      count_is = omega (arith, c.len-count.ensures, c.in-Ok.found.nodes.ok.0, ap (λ (ns : List Placed). length ns) are);
    }
