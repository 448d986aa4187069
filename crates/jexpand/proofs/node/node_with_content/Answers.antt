use Rattle.std.proofs.Common.{◌≡◌, ℕ, List, Option, Some, None, sym, ap, ap₂, subst, ◌∙◌, option_map}
use Rattle.std.proofs.lemmas.List.{append-nil}
use Rattle.jnode.specs.declared.node.CompressedNode.{CompressedNode}
use Rattle.jnode.specs.declared.node.InodeNode.{InodeNode}
use Rattle.jnode.specs.declared.node.NodeRef.{NodeRef}
use Rattle.jnode.specs.declared.node.NodeRef.TheVariants as node
use Rattle.jnode.specs.declared.node.Seen.{Seen}
use Rattle.jnode.specs.declared.node.Seen.TheVariants.{Compressed}
use Rattle.jexpand.specs.Expanded.{compressed_node_at, node_content, tile_content, with_content, expanded_node}
use Rattle.jexpand.specs.Refused.{node_fault}
use Rattle.jexpand.proofs.NodeLemmas.{accepted_content}
use Rattle.jexpand.proofs.node.node_with_content.Goals as goal

pub returns-in-Compressed : goal.returns-in-Compressed
returns-in-Compressed g c =
    let e = g.E.Order.order in
    let size : ℕ = c.args.geometry.block in
    let image : List ℕ = c.args.image.now in
    let at : CompressedNode = compressed_node_at e size image c.args.addr in
    let accepted : node_fault e size image (c.args.addr, Compressed c.in-Compressed.compr) ≡ None =
    subst (λ (s : Seen). node_fault e size image (c.args.addr, s) ≡ None) c.in-Compressed.is c.requires.accepted in
    let holds : node_content at ≡ Some c.args.content.now =
    accepted_content size c.args.addr at accepted
    ∙ ap (λ (xs : List ℕ). Some xs) (sym (c.requires.content ∙ ap (λ (s : Seen). tile_content e size image (c.args.addr, s)) c.in-Compressed.is)) in
    let bytes : c.new.result ≡ c.args.content.now = c.new.ensures ∙ append-nil c.args.content.now in
    ap (λ (i : InodeNode). Some (node.Inode i)) c.inode_with.ensures
    ∙ ap₂ (λ (p : CompressedNode) (b : List ℕ). Some (with_content p b)) c.compressed_node-packed.ensures bytes
    ∙ sym (ap (option_map (with_content at)) holds)
    ∙ sym (ap (λ (s : Seen). expanded_node e size image (c.args.addr, s)) c.in-Compressed.is)
