-- What goes out for the expanded nodes is an image of them.
use Rattle.std.proofs.Common.{◌≡◌, ℕ, zero, suc, ◌+◌, ◌*◌, ◌/◌, ◌%◌, ◌<◌, ◌≤◌, List, [], ◌∷◌, ◌++◌, length, map, filter_map, take, drop, refl, sym, ap, subst, ◌∙◌, arith, Option, None, Some, Err, option_map, Contains, inl, inr, ◌↔◌}
use Rattle.std.specs.Prelude.{IsTrue, IsFalse}
use Rattle.std.specs.List.{cons_option, AllByRecursion}
use Rattle.std.proofs.lemmas.Nat.{div-add-mod'}
use Rattle.flashbase.specs.Bytes.{erased}
use Rattle.flashbase.specs.Ranges.{AreBytes}
use Rattle.flashbase.proofs.MemberLemmas.{Contains-filter_map, Contains-here, Contains-there}
use Rattle.jnode.specs.Header.{header_len}
use Rattle.jnode.specs.Reading.{inode_len, ReadsCompressed, seen_of, tile_of}
use Rattle.jnode.specs.Writing.{canonical, Fits, IsWritable, is_writable}
use Rattle.jnode.specs.Compressed.{inode_with}
use Rattle.jnode.specs.declared.node.CompressedNode.{CompressedNode}
use Rattle.jnode.specs.declared.node.Fill.TheVariants.{Data}
use Rattle.jnode.specs.declared.node.NodeRef.{NodeRef}
use Rattle.jnode.specs.declared.node.NodeRef.TheVariants as node
use Rattle.jnode.specs.declared.node.Seen.{Seen}
use Rattle.jnode.specs.declared.node.Seen.TheVariants as seen
use Rattle.jnode.specs.declared.order.Endian.{Endian}
use Rattle.jnode.proofs.FitsLemmas.{inode_fits}
use Rattle.jnode.proofs.OrderLemmas.{bytes-take, bytes-drop}
use Rattle.jnode.proofs.ReadingLemmas.{seen_compressed}
use Rattle.jnode.proofs.TileLemmas.{tile_headed}
use Rattle.jnode.proofs.WritingLemmas.{writable_is_computed}
use Rattle.jscan.specs.Image.{is_block_size, greatest_image, block_of, sightings, node_sighted, nodes}
use Rattle.jscan.proofs.FitLaws.{nodes_fit, nodes_writable}
use Rattle.jmount.specs.Clash.{IsClashAt, NoneClash}
use Rattle.jmount.specs.Mounts.{IsFaultAt, MountsAs, Answers, plain_nodes}
use Rattle.jmount.specs.StateOf.{state_of}
use Rattle.jmount.specs.Tree.{is_directory}
use Rattle.jmount.specs.declared.fault.MountFault.TheVariants as fault
use Rattle.jlog.specs.LeftLaws.{IsStorable, AreStorable, IsImageOfNodes, placed}
use Rattle.jlog.proofs.AnewLemmas.{output_is_image, output_is_sound, output_mounts}
use Rattle.jexpand.specs.Expanded.{rest_at, compressed_node_at, node_content, with_content, expanded_node, expanded_nodes, node_length}
use Rattle.jexpand.specs.Refused.{node_fault, fault_among}
use Rattle.jexpand.proofs.NodeLemmas.{accepted_long, content_long}
use Rattle.jexpand.proofs.SightedLemmas.{sighted_at, size_words}
use Rattle.jconvert.specs.Converting.{greatest_blocks, expanded_forms, converted_image, convert_fault}
use Rattle.jconvert.proofs.TallyLemmas.{nodes_of_tiles, length_form}
use Rattle.jconvert.proofs.JudgeLemmas.{both_none, accepted}
use Rattle.jconvert.proofs.CallLemmas.{size_most}

-- ---- bytes

bytes_erased : (n : ℕ) → AreBytes (erased n)
bytes_erased zero i = omega arith
bytes_erased (suc n) zero = omega arith
bytes_erased (suc n) (suc i) = bytes_erased n i

bytes_append : (xs ys : List ℕ) → AreBytes xs → AreBytes ys → AreBytes (xs ++ ys)
bytes_append [] ys these those i = those i
bytes_append (x ∷ xs) ys these those zero = these 0
bytes_append (x ∷ xs) ys these those (suc i) = bytes_append xs ys (λ j. these (suc j)) those i

bytes_rest : (size addr : ℕ) (image : List ℕ) → AreBytes image → AreBytes (rest_at size image addr)
bytes_rest size addr image are =
    let k : ℕ = addr / size in
    bytes-drop (addr % size) (block_of size image k)
    (bytes-take size (drop (k * size) image ++ erased size) (bytes_append (drop (k * size) image) (erased size) (bytes-drop (k * size) image are) (bytes_erased size)))

-- ---- nodes

mapped_some : {A B : Type 0} (f : A → B) (o : Option A) (y : B) → option_map f o ≡ Some y → (x : A) × (o ≡ Some x) × (f x ≡ y)
mapped_some f None y h = absurd (cc)
mapped_some f (Some x) y h = (x, refl, cc)

-- a node that an image has is storable where a block holds it
plain_storable : (e : Endian) (size : ℕ) (image : List ℕ) (addr : ℕ) (n : NodeRef) → IsTrue (is_block_size size) → AreBytes image
    → Contains (nodes e size image) (addr, n) → header_len + node_length n ≤ size → IsStorable e size n
plain_storable e size image addr n size_is are has within = record {
  fits = (nodes_fit e size image (addr, n) size_is are has).0;
  writable = (writable_is_computed n).1 (nodes_writable e size image (addr, n) size_is has);
  room = subst (λ (k : ℕ). header_len + k ≤ size) (sym (length_form e n)) within;
}

packed_storable : (e : Endian) (size : ℕ) (image : List ℕ) (addr compr : ℕ) (bytes : List ℕ) → IsTrue (is_block_size size) → AreBytes image
    → Contains (sightings e size image) (addr, seen.Compressed compr) → node_content (compressed_node_at e size image addr) ≡ Some bytes
    → header_len + node_length (with_content (compressed_node_at e size image addr) bytes) ≤ size
    → IsStorable e size (with_content (compressed_node_at e size image addr) bytes)
packed_storable e size image addr compr bytes size_is are has content within =
    let packed : CompressedNode = compressed_node_at e size image addr in
    let rest : List ℕ = rest_at size image addr in
    let tile : List ℕ = tile_of e rest in
    let at = sighted_at e size image addr (seen.Compressed compr) (size_words size size_is) has in
    let reads : ReadsCompressed e tile compr = (seen_compressed e tile compr (tile_headed e rest at.good at.words)).0 (sym at.seen) in
    let long : length bytes ≡ packed.dsize = content_long packed bytes content in
    let most : size ≤ 4194304 = size_most size size_is in
    let object = reads.sound.object in
    let n : NodeRef = with_content packed bytes in
    let is : IsWritable n = record {
      object = omega arith;
      end = reads.sound.end;
      stored = long;
      long = omega arith;
    } in
    record {
      fits = inode_fits e tile (Data bytes) (bytes-take _ rest (bytes_rest size addr image are));
      writable = (writable_is_computed n).1 is;
      room = subst (λ (k : ℕ). header_len + k ≤ size) (sym (length_form e n)) within;
    }

storable : (e : Endian) (size : ℕ) (image : List ℕ) (addr : ℕ) (s : Seen) (n : NodeRef) → IsTrue (is_block_size size) → AreBytes image
    → Contains (sightings e size image) (addr, s) → node_fault e size image (addr, s) ≡ None → expanded_node e size image (addr, s) ≡ Some n → IsStorable e size n
storable e size image addr (seen.Entry entry) n size_is are has none is =
    let within = accepted_long e size image addr (seen.Entry entry) n none is in
    let same : node.Entry entry ≡ n = cc in
    plain_storable e size image addr n size_is are
    (subst (λ (m : NodeRef). Contains (nodes e size image) (addr, m)) same
    (Contains-filter_map node_sighted (sightings e size image) (addr, seen.Entry entry) (addr, node.Entry entry) has refl)) within
storable e size image addr (seen.Inode inode) n size_is are has none is =
    let within = accepted_long e size image addr (seen.Inode inode) n none is in
    let same : node.Inode inode ≡ n = cc in
    plain_storable e size image addr n size_is are
    (subst (λ (m : NodeRef). Contains (nodes e size image) (addr, m)) same
    (Contains-filter_map node_sighted (sightings e size image) (addr, seen.Inode inode) (addr, node.Inode inode) has refl)) within
storable e size image addr (seen.Compressed compr) n size_is are has none is =
    let within = accepted_long e size image addr (seen.Compressed compr) n none is in
    let packed : CompressedNode = compressed_node_at e size image addr in
    let given = mapped_some (with_content packed) (node_content packed) n is in
    subst (IsStorable e size) given.2
    (packed_storable e size image addr compr given.0 size_is are has given.1
    (subst (λ (m : NodeRef). header_len + node_length m ≤ size) (sym given.2) within))
storable e size image addr seen.Marker n size_is are has none is = absurd (cc)
storable e size image addr seen.Padding n size_is are has none is = absurd (cc)
storable e size image addr seen.Obsolete n size_is are has none is = absurd (cc)
storable e size image addr seen.Attribute n size_is are has none is = absurd (cc)
storable e size image addr (seen.Skippable t) n size_is are has none is = absurd (cc)
storable e size image addr (seen.ReadOnly t) n size_is are has none is = absurd (cc)
storable e size image addr (seen.Incompatible t) n size_is are has none is = absurd (cc)
storable e size image addr (seen.Damaged q) n size_is are has none is = absurd (cc)

cons_storable : (e : Endian) (size : ℕ) (o : Option NodeRef) (ns : List NodeRef) → ((n : NodeRef) → o ≡ Some n → IsStorable e size n)
    → AllByRecursion (IsStorable e size) ns → AllByRecursion (IsStorable e size) (cons_option o ns)
cons_storable e size None ns one rest = rest
cons_storable e size (Some n) ns one rest = (one n refl, rest)

all_storable : (e : Endian) (size : ℕ) (image : List ℕ) (ss : List (ℕ × Seen)) → IsTrue (is_block_size size) → AreBytes image
    → ((s : ℕ × Seen) → Contains ss s → Contains (sightings e size image) s) → fault_among e size image ss ≡ None
    → AllByRecursion (IsStorable e size) (nodes_of_tiles e size image ss)
all_storable e size image [] size_is are among none = tt
all_storable e size image (s ∷ ss) size_is are among none =
    let both = both_none (node_fault e size image s) (fault_among e size image ss) none in
    cons_storable e size (expanded_node e size image s) (nodes_of_tiles e size image ss)
    (λ n is. storable e size image s.0 s.1 n size_is are (among s (Contains-here s ss)) both.0 is)
    (all_storable e size image ss size_is are (λ t has. among t (Contains-there s ss t has)) both.1)

-- ---- the laws

pub are_storable : (e : Endian) (size : ℕ) (image : List ℕ) → AreBytes image → convert_fault e size image ≡ None
    → AreStorable e size (greatest_blocks size) (expanded_nodes e size image)
are_storable e size image are h =
    let it = accepted e size image h in
    record {
      size_is = it.size_is;
      nodes = all_storable e size image (sightings e size image) it.size_is are (λ s has. has) it.none;
      room = it.fits;
    }

pub greatest_small : (size : ℕ) → greatest_blocks size * size ≤ greatest_image
greatest_small size = omega (arith, div-add-mod' greatest_image size)

pub converted_is_image : (e : Endian) (size : ℕ) (image : List ℕ) → AreBytes image → convert_fault e size image ≡ None
    → IsImageOfNodes e size (greatest_blocks size) (expanded_nodes e size image) (converted_image e size image)
converted_is_image e size image are h = output_is_image e size (greatest_blocks size) (expanded_nodes e size image) (are_storable e size image are h)

pub converted_mounts : (e : Endian) (size : ℕ) (image : List ℕ) → AreBytes image → convert_fault e size image ≡ None
    → NoneClash (expanded_nodes e size image) → IsTrue (is_directory (state_of (expanded_nodes e size image)) 1)
    → MountsAs e size (converted_image e size image) (state_of (expanded_nodes e size image))
converted_mounts e size image are h apart root =
    output_mounts e size (greatest_blocks size) (expanded_nodes e size image) (are_storable e size image are h) (greatest_small size) apart root

pub converted_has_no_root : (e : Endian) (size : ℕ) (image : List ℕ) → AreBytes image → convert_fault e size image ≡ None
    → NoneClash (expanded_nodes e size image) → IsFalse (is_directory (state_of (expanded_nodes e size image)) 1)
    → Answers e size (converted_image e size image) (Err fault.RootKind)
converted_has_no_root e size image are h apart root =
    let sound = output_is_sound e size (greatest_blocks size) (expanded_nodes e size image) (are_storable e size image are h) (greatest_small size) apart in
    (sound.sound, ap (λ (ns : List NodeRef). is_directory (state_of ns) 1) sound.nodes ∙ root)

pub converted_clashes : (e : Endian) (size at : ℕ) (image : List ℕ) → AreBytes image → convert_fault e size image ≡ None
    → IsFaultAt e size (converted_image e size image) at (fault.Clash at) ↔ IsClashAt (placed e size 0 (expanded_nodes e size image)) at
converted_clashes e size at image are h =
    let has = (converted_is_image e size image are h).has in (
      (λ clash. subst (λ (ns : List (ℕ × NodeRef)). IsClashAt ns at) has clash.1),
      (λ clash. (refl, subst (λ (ns : List (ℕ × NodeRef)). IsClashAt ns at) (sym has) clash)),
    )
