use Rattle.std.proofs.Common.{◌≡◌, ℕ, List, Option, Some, None, sym, ap, subst, ◌∙◌}
use Rattle.jnode.specs.declared.node.CompressedNode.{CompressedNode}
use Rattle.jnode.specs.declared.node.Seen.{Seen}
use Rattle.jnode.specs.declared.node.Seen.TheVariants.{Compressed}
use Rattle.jexpand.specs.Expanded.{compressed_node_at, node_content, tile_content}
use Rattle.jexpand.specs.Refused.{node_fault}
use Rattle.jexpand.proofs.NodeLemmas.{accepted_content}
use Rattle.jexpand.proofs.node.write_with_content.Goals as goal

pub put_with_content-requires : goal.put_with_content-requires
put_with_content-requires g c =
    let e = g.E.Order.order in
    let size : ℕ = c.args.geometry.block in
    let image : List ℕ = c.args.image.now in
    let accepted : node_fault e size image (c.args.addr, Compressed c.in-Compressed.compr) ≡ None =
    subst (λ (s : Seen). node_fault e size image (c.args.addr, s) ≡ None) c.in-Compressed.is c.requires.accepted in
    ap (λ (n : CompressedNode). node_content n) c.compressed_node-packed.ensures
    ∙ (accepted_content size c.args.addr (compressed_node_at e size image c.args.addr) accepted
    ∙ ap (λ (xs : List ℕ). Some xs) (sym (c.requires.content ∙ ap (λ (s : Seen). tile_content e size image (c.args.addr, s)) c.in-Compressed.is)))
