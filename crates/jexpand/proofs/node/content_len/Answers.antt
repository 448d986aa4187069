use Rattle.std.proofs.Common.{◌≡◌, ℕ, List, length, sym, ap, subst, ◌∙◌, None}
use Rattle.jnode.specs.declared.node.Seen.{Seen}
use Rattle.jexpand.specs.Expanded.{compressed_node_at, tile_content}
use Rattle.jexpand.specs.Refused.{node_fault}
use Rattle.jnode.specs.declared.node.Seen.TheVariants.{Compressed}
use Rattle.jnode.specs.declared.node.CompressedNode.{CompressedNode}
use Rattle.jexpand.proofs.NodeLemmas.{accepted_size}
use Rattle.jexpand.proofs.node.content_len.Goals as goal

pub returns-in-Compressed : goal.returns-in-Compressed
returns-in-Compressed g c =
    let e = g.E.Order.order in
    let size : ℕ = c.args.geometry.block in
    let image : List ℕ = c.args.image.now in
    let accepted : node_fault e size image (c.args.addr, Compressed c.in-Compressed.compr) ≡ None =
    subst (λ (s : Seen). node_fault e size image (c.args.addr, s) ≡ None) c.in-Compressed.is c.requires.accepted in
    ap (λ (n : CompressedNode). n.dsize) c.compressed_node.ensures
    ∙ (sym (accepted_size size c.args.addr (compressed_node_at e size image c.args.addr) accepted)
    ∙ sym (ap (λ (s : Seen). length (tile_content e size image (c.args.addr, s))) c.in-Compressed.is))
