-- Mounting an image through, and mounting what goes out for it.
use Rattle.std.proofs.Common.{◌≡◌, ℕ, ◌+◌, ◌≤◌, List, [], ◌∷◌, ◌++◌, length, map, filter_map, refl, sym, ap, ap₂, subst, ◌∙◌, arith, Option, None, Some, option_map, IsTrue, length-append}
use Rattle.std.specs.Prelude.{unwrap_or}
use Rattle.std.specs.List.{cons_option, flat_map}
use Rattle.std.specs.Option.{option_or}
use Rattle.flashbase.proofs.BytesLemmas.{le_pad4}
use Rattle.jnode.specs.Writing.{canonical, filled}
use Rattle.jnode.specs.declared.node.CompressedNode.{CompressedNode}
use Rattle.jnode.specs.declared.node.NodeRef.{NodeRef}
use Rattle.jnode.specs.declared.node.Seen.{Seen}
use Rattle.jnode.specs.declared.node.Seen.TheVariants as seen
use Rattle.jnode.specs.declared.order.Endian.{Endian}
use Rattle.jnode.proofs.WritingLemmas.{length-filled}
use Rattle.jscan.specs.Image.{sightings}
use Rattle.jmount.specs.Mounts.{MountsAs, plain_nodes}
use Rattle.jmount.specs.StateOf.{state_of}
use Rattle.jmount.specs.Tree.{is_directory}
use Rattle.jmount.specs.Clash.{NoneClash}
use Rattle.jlog.specs.Output.{gap, output}
use Rattle.jlog.specs.Places.{place_after, end_after}
use Rattle.jview.specs.Through.{through_fault, through_fault_among}
use Rattle.jlog.proofs.LeftLemmas.{placed_are_new}
use Rattle.jlog.proofs.SoundLemmas.{sound_nodes_are_apart}
use Rattle.jexpand.specs.Expanded.{compressed_node_at, expanded_node, expanded_nodes, node_content, node_length, tile_content, unpacked_bytes, with_content}
use Rattle.jexpand.specs.Refused.{node_fault, fault_among}
use Rattle.jexpand.specs.declared.fault.ConvertFault.{ConvertFault}
use Rattle.jconvert.specs.Converting.{converted_image}
use Rattle.jconvert.specs.Laws.{ThroughIsConverted}
use Rattle.jconvert.proofs.JudgeLemmas.{Accepted, accepted, both_none}
use Rattle.jconvert.proofs.LawLemmas.{converted_is_image, converted_mounts, greatest_small}
use Rattle.jconvert.proofs.TallyLemmas.{length_form}

-- ---- what is not refused is not refused by the view

through_none : (e : Endian) (size : ℕ) (image : List ℕ) (s : ℕ × Seen) → node_fault e size image s ≡ None → through_fault e size image s ≡ None
through_none e size image (addr, seen.Incompatible nodetype) none = none
through_none e size image (addr, seen.Compressed compr) none = none
through_none e size image (addr, _) none = refl

none_among : (e : Endian) (size : ℕ) (image : List ℕ) (ss : List (ℕ × Seen)) → fault_among e size image ss ≡ None → through_fault_among e size image ss ≡ None
none_among e size image [] none = refl
none_among e size image (s ∷ ss) none =
    let both = both_none (node_fault e size image s) (fault_among e size image ss) none in
    ap₂ (λ (o p : Option ConvertFault). option_or o p) (through_none e size image s both.0) (none_among e size image ss both.1)

-- ---- the contents are no more bytes than what goes out

out_more : (e : Endian) (size from : ℕ) (form : List ℕ) (forms : List (List ℕ)) → length form + length (output e size (end_after size from (length form)) forms) ≤ length (output e size from (form ∷ forms))
out_more e size from form forms =
    let g : List ℕ = gap e size from (place_after size from (length form)) in
    let rest : List ℕ = output e size (end_after size from (length form)) forms in
    omega (arith, length-append (g ++ filled form) rest, length-append g (filled form), length-filled form, le_pad4 (length form))

-- a tile's content, and the node that it gives
held : (content : List ℕ) (o : Option NodeRef) → Type 0
held content None = content ≡ []
held content (Some n) = length content ≤ node_length n

packed_held : (packed : CompressedNode) (o : Option (List ℕ)) → held (unwrap_or o []) (option_map (with_content packed) o)
unfolding held
packed_held packed None = refl
packed_held packed (Some bytes) = omega arith

tile_held : (e : Endian) (size : ℕ) (image : List ℕ) (s : ℕ × Seen) → held (tile_content e size image s) (expanded_node e size image s)
unfolding held
tile_held e size image (addr, seen.Entry entry) = omega arith
tile_held e size image (addr, seen.Inode inode) = omega arith
tile_held e size image (addr, seen.Compressed compr) = let packed = compressed_node_at e size image addr in packed_held packed (node_content packed)
tile_held e size image (addr, _) = refl

more_held : (e : Endian) (size from : ℕ) (content more : List ℕ) (o : Option NodeRef) (ns : List NodeRef) → held content o → ((from : ℕ) → length more ≤ length (output e size from (map (canonical e) ns)))
    → length (content ++ more) ≤ length (output e size from (map (canonical e) (cons_option o ns)))
unfolding held
more_held e size from content more None ns none rest = omega (arith, length-append content more, ap length none, rest from)
more_held e size from content more (Some n) ns some rest =
    let form : List ℕ = canonical e n in
    omega (arith, length-append content more, some, length_form e n, rest (end_after size from (length form)), out_more e size from form (map (canonical e) ns))

contents_held : (e : Endian) (size : ℕ) (image : List ℕ) (ss : List (ℕ × Seen)) (from : ℕ)
    → length (flat_map (tile_content e size image) ss) ≤ length (output e size from (map (canonical e) (filter_map (expanded_node e size image) ss)))
contents_held e size image [] from = omega arith
contents_held e size image (s ∷ ss) from =
    more_held e size from (tile_content e size image s) (flat_map (tile_content e size image) ss) (expanded_node e size image s) (filter_map (expanded_node e size image) ss) (tile_held e size image s)
    (λ at. contents_held e size image ss at)

-- ---- the law

pub through_is_converted : ThroughIsConverted
through_is_converted e size image s are h =
    let it : Accepted e size image = accepted e size image h in
    let out : List ℕ = converted_image e size image in
    let is = converted_is_image e size image are h in
    let few : length (unpacked_bytes e size image) ≤ length out = contents_held e size image (sightings e size image) 0 in
    let same : plain_nodes e size out ≡ expanded_nodes e size image = ap (map (λ n. n.1)) is.has ∙ (placed_are_new e size 0 (expanded_nodes e size image)).nodes in (
      λ through. subst (MountsAs e size out) through.same (converted_mounts e size image are h through.sound.apart through.root),
      λ mounts. record {
        sound = record {
          scannable = (it.size_is, it.small);
          none = none_among e size image (sightings e size image) it.none;
          contents = omega (arith, few, is.within, greatest_small size);
          apart = subst NoneClash same (sound_nodes_are_apart e size out mounts.sound);
        };
        root = subst (λ (ns : List NodeRef). IsTrue (is_directory (state_of ns) 1)) same mounts.root;
        same = ap state_of (sym same) ∙ mounts.same;
      },
    )
