-- What the nodes of an image hold.
use Rattle.std.proofs.Common.{◌≡◌, ◌≢◌, ℕ, zero, suc, ◌+◌, ◌*◌, ◌%◌, ◌≤◌, List, [], ◌∷◌, ◌++◌, length, drop, refl, sym, ap, subst, ◌∙◌, arith, length-take-le, length-take, length-drop, Option, None, Some}
use Rattle.std.specs.Prelude.{filter_map, flat_map, Contains, IsTrue, option_map}
use Rattle.std.specs.List.{AllByRecursion, cons_option}
use Rattle.flashbase.specs.Bytes.{pad4_of, erased}
use Rattle.flashbase.specs.Lists.{below}
use Rattle.flashbase.specs.Ranges.{AreBytes}
use Rattle.jnode.specs.Header.{IsGood, totlen_of}
use Rattle.jnode.specs.Reading.{Reads, ReadsEntry, ReadsInode, ReadsFill, seen_of, tile_of, node_in, nsize_of, csize_of, name_of, data_of}
use Rattle.jnode.specs.Writing.{Fits, HoldsBytes, IsWritable, IsWritableEntry, IsWritableInode, HoldsRange, stored_bytes}
use Rattle.jnode.specs.declared.order.Endian.{Endian}
use Rattle.jnode.specs.declared.node.Dirent.{Dirent}
use Rattle.jnode.specs.declared.node.Fill.{Fill}
use Rattle.jnode.specs.declared.node.Fill.TheVariants.{Zero, Data}
use Rattle.jnode.specs.declared.node.InodeNode.{InodeNode}
use Rattle.jnode.specs.declared.node.NodeRef.{NodeRef}
use Rattle.jnode.specs.declared.node.NodeRef.TheVariants as node
use Rattle.jnode.specs.declared.node.Seen.{Seen}
use Rattle.jnode.proofs.FitsLemmas.{seen_fits, seen_is_read}
use Rattle.jnode.proofs.HeaderLemmas.{good_found}
use Rattle.jnode.proofs.OrderLemmas.{bytes-take, bytes-drop}
use Rattle.jscan.specs.Image.{is_block_size, block_of, block_count, sighting, sightings_from, sightings_in, node_sighted, sightings, nodes}
use Rattle.jscan.specs.Tiling.{tile_at}
use Rattle.jscan.proofs.AddressLaws.{of_each}
use Rattle.jscan.proofs.ImageLemmas.{readable_most}
use Rattle.jscan.proofs.PaddingLemmas.{pad4_up}
use Rattle.jscan.proofs.PartLemmas.{block_length}
use Rattle.jscan.proofs.HeaderlessLemmas.{seen_among}
use Rattle.jscan.proofs.StreamCounts.{readable_words}
use Rattle.jscan.proofs.ExtentLaws.{tile_words, tile_within}
use Rattle.jscan.proofs.TileLemmas.{tile_cases, tile_then_rest}

-- ---- where a sighting is read

-- It is what the whole tile of a good header in a block is seen as.
pub record IsReadIn (e : Endian) (block : List ℕ) (what : Seen) : Type 0 where
  pub rest : List ℕ
  pub good : IsGood e rest
  pub words : length rest % 4 ≡ 0
  pub within : length rest ≤ length block
  pub bytes : AreBytes block → AreBytes rest
  pub seen : what ≡ seen_of e (tile_of e rest)

all_option : {X : Type 0} (P : X → Type 0) (o : Option X) (xs : List X) → ((x : X) → o ≡ Some x → P x) → AllByRecursion P xs → AllByRecursion P (cons_option o xs)
all_option P None xs first others = others
all_option P (Some x) xs first others = (first x refl, others)

all_append : {X : Type 0} (P : X → Type 0) (xs ys : List X) → AllByRecursion P xs → AllByRecursion P ys → AllByRecursion P (xs ++ ys)
all_append P [] ys all more = more
all_append P (x ∷ xs) ys all more = (all.0, all_append P xs ys all.1 more)

all_flat : {X : Type 0} (P : X → Type 0) (f : ℕ → List X) (ks : List ℕ) → ((k : ℕ) → AllByRecursion P (f k)) → AllByRecursion P (flat_map f ks)
all_flat P f [] all = tt
all_flat P f (k ∷ ks) all = all_append P (f k) (flat_map f ks) (all k) (all_flat P f ks all)

all_taken : {X Y : Type 0} (P : X → Type 0) (Q : Y → Type 0) (take_of : X → Option Y) → ((x : X) (y : Y) → P x → take_of x ≡ Some y → Q y)
    → (xs : List X) → AllByRecursion P xs → AllByRecursion Q (filter_map take_of xs)
all_taken P Q take_of gives [] all = tt
all_taken P Q take_of gives (x ∷ xs) all =
    all_option Q (take_of x) (filter_map take_of xs) (λ y is. gives x y all.0 is) (all_taken P Q take_of gives xs all.1)

tile_read : (e : Endian) (start place : ℕ) (block rest : List ℕ) → length rest ≤ length block → length rest % 4 ≡ 0 → (AreBytes block → AreBytes rest)
    → (s : ℕ × Seen) → (let tile = tile_at e place rest in sighting e (start + tile.place) tile.bytes tile.kind) ≡ Some s → IsReadIn e block s.1
tile_read e start place block rest within words bytes =
    tile_cases e place rest (λ tile. (s : ℕ × Seen) → sighting e (start + tile.place) tile.bytes tile.kind ≡ Some s → IsReadIn e block s.1)
    (λ good s is. record {
      rest = rest;
      good = good_found e rest good;
      words = words;
      within = within;
      bytes = bytes;
      seen = ap (λ (t : ℕ × Seen). t.1) {x = s} {y = (start + place, seen_of e (tile_of e rest))} cc;
    })
    (λ bad long s is. cc)
    (λ bad short s is. cc)

read_from : (n : ℕ) (e : Endian) (start place : ℕ) (block rest : List ℕ) → length rest ≤ n → length rest ≤ length block → length rest % 4 ≡ 0
    → (AreBytes block → AreBytes rest) → AllByRecursion (λ (s : ℕ × Seen). IsReadIn e block s.1) (sightings_from e start place rest)
read_from n e start place block [] h within words bytes = tt
read_from zero e start place block (b ∷ bs) h within words bytes = absurd (omega arith)
read_from (suc n) e start place block (b ∷ bs) h within words bytes =
    let rest : List ℕ = b ∷ bs in
    let tile = tile_at e place rest in
    let size = tile_words e place rest words (omega arith) in
    let fits = tile_within e place rest in
    let left = length-drop (length tile.bytes) rest in
    let next =
    read_from n e start (place + length tile.bytes) block (drop (length tile.bytes) rest) (omega (arith, left, size.0)) (omega (arith, left, within))
    (omega (arith, left, size.1, fits, words)) (λ are. bytes-drop (length tile.bytes) rest (bytes are)) in
    subst (AllByRecursion (λ (s : ℕ × Seen). IsReadIn e block s.1)) (sym (ap (seen_among e start) (tile_then_rest e place rest (omega arith))))
    (all_option (λ (s : ℕ × Seen). IsReadIn e block s.1) (sighting e (start + tile.place) tile.bytes tile.kind)
    (sightings_from e start (place + length tile.bytes) (drop (length tile.bytes) rest)) (tile_read e start place block rest within words bytes) next)

-- ---- blocks hold bytes where the image does

bytes_erased : (n : ℕ) → AreBytes (erased n)
bytes_erased zero i = omega arith
bytes_erased (suc n) zero = omega arith
bytes_erased (suc n) (suc i) = bytes_erased n i

bytes_append : (xs ys : List ℕ) → AreBytes xs → AreBytes ys → AreBytes (xs ++ ys)
bytes_append [] ys these those i = those i
bytes_append (x ∷ xs) ys these those zero = these 0
bytes_append (x ∷ xs) ys these those (suc i) = bytes_append xs ys (λ j. these (suc j)) those i

bytes_block : (size : ℕ) (image : List ℕ) (k : ℕ) → AreBytes image → AreBytes (block_of size image k)
bytes_block size image k are =
    bytes-take size (drop (k * size) image ++ erased size) (bytes_append (drop (k * size) image) (erased size) (bytes-drop (k * size) image are) (bytes_erased size))

-- ---- what is read could be written

named : (tile : List ℕ) (total : ℕ) → length tile ≡ pad4_of total → pad4_of (40 + nsize_of tile) ≡ pad4_of total → length (name_of tile) ≡ nsize_of tile
named tile total whole sizes =
    length-take-le (nsize_of tile) (drop 40 tile) (omega (arith, length-drop 40 tile, whole, sizes, (pad4_up (40 + nsize_of tile)).0))

stored : (e : Endian) (tile : List ℕ) (total : ℕ) → length tile ≡ pad4_of total → pad4_of (68 + csize_of e tile) ≡ pad4_of total
    → (length (data_of e tile) ≡ csize_of e tile) × (68 + csize_of e tile ≤ length tile)
stored e tile total whole sizes =
    let up = (pad4_up (68 + csize_of e tile)).0 in
    (length-take-le (csize_of e tile) (drop 68 tile) (omega (arith, length-drop 68 tile, whole, sizes, up)), omega (arith, whole, sizes, up))

not_none : (n : ℕ) → n ≢ 0 → 1 ≤ n
not_none zero some = absurd (some refl)
not_none (suc n) some = omega arith

entry_writable : (e : Endian) (tile : List ℕ) (entry : Dirent) → ReadsEntry e tile entry → IsWritableEntry entry
entry_writable e tile entry reads =
    let name : length entry.name ≡ nsize_of tile = ap (λ (d : Dirent). length d.name) reads.fields ∙ named tile (totlen_of e tile) reads.is_tile.whole reads.sizes in
    let pino = ap (λ (d : Dirent). d.pino) reads.fields in
    let some = not_none _ reads.parent in
    record { name = (omega (arith, name, reads.name_least), omega (arith, name, reads.name_most)); parent = omega (arith, pino, some) }

inode_writable : (e : Endian) (tile : List ℕ) (inode : InodeNode) (fill : Fill) → fill ≡ inode.fill → ReadsInode e tile inode → ReadsFill e tile fill
    → length tile ≤ 4194304 → IsWritableInode inode
inode_writable e tile inode Zero is reads gives most =
    let ino = ap (λ (n : InodeNode). n.ino) reads.fields in
    let offset = ap (λ (n : InodeNode). n.offset) reads.fields in
    let dsize = ap (λ (n : InodeNode). n.dsize) reads.fields in
    record {
      object = omega (arith, ino, not_none _ reads.sound.object);
      end = omega (arith, offset, dsize, reads.sound.end);
      stored = subst (λ (f : Fill). HoldsRange f inode.dsize) is tt;
      long = subst (λ (f : Fill). 68 + length (stored_bytes f) ≤ 4194304) is (omega arith);
    }
inode_writable e tile inode (Data bytes) is reads gives most =
    let ino = ap (λ (n : InodeNode). n.ino) reads.fields in
    let offset = ap (λ (n : InodeNode). n.offset) reads.fields in
    let dsize = ap (λ (n : InodeNode). n.dsize) reads.fields in
    let room = stored e tile (totlen_of e tile) reads.sound.is_tile.whole reads.sound.sizes in
    let size : length bytes ≡ csize_of e tile = ap length gives.2 ∙ room.0 in
    record {
      object = omega (arith, ino, not_none _ reads.sound.object);
      end = omega (arith, offset, dsize, reads.sound.end);
      stored = subst (λ (f : Fill). HoldsRange f inode.dsize) is (size ∙ gives.1 ∙ sym dsize);
      long = subst (λ (f : Fill). 68 + length (stored_bytes f) ≤ 4194304) is (omega (arith, size, room.1, most));
    }

writable : (e : Endian) (tile : List ℕ) (x : NodeRef) → Reads e tile x → length tile ≤ 4194304 → IsWritable x
writable e tile (node.Entry entry) reads most = entry_writable e tile entry reads
writable e tile (node.Inode inode) reads most = inode_writable e tile inode inode.fill refl reads reads.gives most

-- ---- the nodes of an image

-- a node is read in some block of the image
record IsNodeOf (e : Endian) (size : ℕ) (image : List ℕ) (x : NodeRef) : Type 0 where
  k : ℕ
  what : Seen
  read : IsReadIn e (block_of size image k) what
  is : node_in what ≡ Some x

placed : (addr : ℕ) (o : Option NodeRef) (n : ℕ × NodeRef) → option_map {U = ℕ × NodeRef} (λ x. (addr, x)) o ≡ Some n → o ≡ Some n.1
placed addr None n is = cc
placed addr (Some x) n is = ap (λ (m : ℕ × NodeRef). Some m.1) {x = (addr, x)} {y = n} cc

nodes_read : (e : Endian) (size : ℕ) (image : List ℕ) → size % 4 ≡ 0 → AllByRecursion (λ (n : ℕ × NodeRef). IsNodeOf e size image n.1) (nodes e size image)
nodes_read e size image words =
    all_taken (λ (s : ℕ × Seen). (k : ℕ) × IsReadIn e (block_of size image k) s.1) (λ (n : ℕ × NodeRef). IsNodeOf e size image n.1) node_sighted
    (λ s n there is. record { k = there.0; what = s.1; read = there.1; is = placed s.0 (node_in s.1) n is })
    (sightings e size image)
    (all_flat (λ (s : ℕ × Seen). (k : ℕ) × IsReadIn e (block_of size image k) s.1)
    (λ k. sightings_in e (k * size) (block_of size image k)) (below (block_count size image))
    (λ k. all_with k (sightings_in e (k * size) (block_of size image k))
    (read_from (length (block_of size image k)) e (k * size) 0 (block_of size image k) (block_of size image k) (omega arith) (omega arith)
    (omega (arith, block_length size image k, words)) (λ are. are))))
  where
    all_with : (k : ℕ) (ss : List (ℕ × Seen)) → AllByRecursion (λ (s : ℕ × Seen). IsReadIn e (block_of size image k) s.1) ss
        → AllByRecursion (λ (s : ℕ × Seen). (j : ℕ) × IsReadIn e (block_of size image j) s.1) ss
    all_with k [] all = tt
    all_with k (s ∷ ss) all = ((k, all.0), all_with k ss all.1)

pub nodes_fit : (e : Endian) (size : ℕ) (image : List ℕ) (n : ℕ × NodeRef) → IsTrue (is_block_size size) → AreBytes image → Contains (nodes e size image) n
    → Fits n.1 × HoldsBytes n.1
nodes_fit e size image n readable are has =
    let it = of_each (λ (m : ℕ × NodeRef). IsNodeOf e size image m.1) (nodes e size image) n (nodes_read e size image (readable_words size readable)) has in
    let rest = it.read.rest in
    seen_fits e (tile_of e rest) n.1 (bytes-take (pad4_of (totlen_of e rest)) rest (it.read.bytes (bytes_block size image it.k are)))
    (ap node_in (sym it.read.seen) ∙ it.is)

pub nodes_writable : (e : Endian) (size : ℕ) (image : List ℕ) (n : ℕ × NodeRef) → IsTrue (is_block_size size) → Contains (nodes e size image) n → IsWritable n.1
nodes_writable e size image n readable has =
    let it = of_each (λ (m : ℕ × NodeRef). IsNodeOf e size image m.1) (nodes e size image) n (nodes_read e size image (readable_words size readable)) has in
    let rest = it.read.rest in
    let reads = (seen_is_read e rest n.1 it.read.good it.read.words).0 (ap node_in (sym it.read.seen) ∙ it.is) in
    writable e (tile_of e rest) n.1 reads
    (omega (arith, length-take (pad4_of (totlen_of e rest)) rest, it.read.within, block_length size image it.k, readable_most size readable))
