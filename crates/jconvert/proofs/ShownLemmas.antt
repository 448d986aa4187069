-- What the forms that go out for nodes are seen as, and that they give these nodes.
use Rattle.std.proofs.Common.{◌≡◌, ◌≢◌, ℕ, zero, suc, ◌+◌, ◌-◌, ◌%◌, ◌^◌, ◌<◌, ◌≤◌, Bool, true, false, cond, List, [], ◌∷◌, ◌++◌, length, drop, count_by, refl, sym, ap, ap₂, subst, ◌∙◌, arith, Option, None, Some, option_map, inl, inr, length-append, IsTrue}
use Rattle.std.specs.Prelude.{filter, filter_map, ◌||◌}
use Rattle.std.specs.List.{list_any, cons_option, AllByRecursion}
use Rattle.std.specs.Option.{option_or, is_none}
use Rattle.std.proofs.lemmas.Bool.{cases_Bool, true≢false}
use Rattle.std.proofs.lemmas.List.{drop_at}
use Rattle.std.proofs.lemmas.List.Sums.{sum_by-cons}
use Rattle.flashbase.specs.Bytes.{pad4_of}
use Rattle.flashbase.proofs.BytesLemmas.{pad4_words}
use Rattle.jnode.specs.Compressed.{canonical_compressed, compressed_of, ReadsCompressedNode}
use Rattle.jnode.specs.Header.{header_len, is_good}
use Rattle.jnode.specs.Reading.{inode_len, seen_of, tile_of, ReadsCompressed}
use Rattle.jnode.specs.Writing.{canonical, filled}
use Rattle.jnode.specs.declared.node.CompressedNode.{CompressedNode}
use Rattle.jnode.specs.declared.node.NodeRef.{NodeRef}
use Rattle.jnode.specs.declared.node.NodeRef.TheVariants as node
use Rattle.jnode.specs.declared.node.Seen.{Seen}
use Rattle.jnode.specs.declared.node.Seen.TheVariants as seen
use Rattle.jnode.specs.declared.order.Endian.{Endian}
use Rattle.jnode.proofs.CompressedLemmas.{compressed_is_tile, compressed_reads_back, length-canonical_compressed}
use Rattle.jnode.proofs.HeaderLemmas.{good_found}
use Rattle.jnode.proofs.ReadingLemmas.{seen_compressed}
use Rattle.jnode.proofs.TileLemmas.{IsHeaded, tile_headed}
use Rattle.jnode.proofs.WritingLemmas.{canonical_long, length-filled}
use Rattle.jscan.specs.Scans.{forbids_writing}
use Rattle.jscan.specs.Tiling.{Tile, tiling_from}
use Rattle.jscan.specs.Image.{sightings_from}
use Rattle.jscan.proofs.TileLemmas.{tile_good, tile_then_rest}
use Rattle.jscan.proofs.HeaderlessLemmas.{seen_among}
use Rattle.jcompr.specs.Content.{method_of}
use Rattle.jlog.specs.LeftLaws.{IsStorable, tells, sighting_of}
use Rattle.jlog.proofs.SightLemmas.{told, node_then}
use Rattle.jexpand.specs.Expanded.{rest_at, compressed_node_at, node_content, with_content, expanded_node, node_length}
use Rattle.jexpand.specs.Refused.{too_long, compressed_fault, node_fault, fault_among}
use Rattle.jexpand.specs.declared.fault.ConvertFault.{ConvertFault}
use Rattle.jexpand.proofs.NodeLemmas.{content_long, compressed_ok}
use Rattle.jlog.specs.Packed.{StandsFor, IsPackedForm}
use Rattle.jconvert.specs.Compressing.{AreFormsFor}
use Rattle.jconvert.specs.Converting.{is_changed}
use Rattle.jconvert.proofs.JudgeLemmas.{both_none}
use Rattle.jconvert.proofs.PackLemmas.{fewer_words}
use Rattle.jconvert.proofs.TallyLemmas.{length_form}

-- ---- one form

-- a form as it stands in a block: what it is seen as, and the node that this gives
pub record IsShown (e : Endian) (size : ℕ) (n : NodeRef) (form : List ℕ) (is_packed : Bool) : Type 0 where
  pub some : 0 < length form
  pub room : header_len + length form ≤ size
  pub no_longer : length form ≤ node_length n
  pub seen : Seen
  pub stands : (start place : ℕ) (more : List ℕ) → told e start place (filled form ++ more) ≡ (start + place, seen) ∷ told e start (place + pad4_of (length form)) more
  pub gives : (image : List ℕ) (addr : ℕ) (more : List ℕ) → rest_at size image addr ≡ filled form ++ more → expanded_node e size image (addr, seen) ≡ Some n
  pub accepted : (image : List ℕ) (addr : ℕ) (more : List ℕ) → rest_at size image addr ≡ filled form ++ more → node_fault e size image (addr, seen) ≡ None
  pub writable : forbids_writing seen ≡ false
  pub changed : is_changed seen ≡ is_packed

-- a node that a block holds is not too long
short : (size addr len : ℕ) → header_len + len ≤ size → too_long size addr len ≡ None
short size addr len within = search (arith, within)

own_shown : (e : Endian) (size : ℕ) (n : NodeRef) (form : List ℕ) → size ≤ 4194304 → IsStorable e size n → form ≡ canonical e n → IsShown e size n form false
own_shown e size (node.Entry entry) form most ok is =
    let n : NodeRef = node.Entry entry in
    let own : List ℕ = canonical e n in
    let room : header_len + length own ≤ size = ok.room in
    let long : length own ≡ node_length n = length_form e n in
    let least = canonical_long e n in
    subst (λ (f : List ℕ). IsShown e size n f false) (sym is)
    (record {
      some = omega (arith, least);
      room = room;
      no_longer = omega (arith, long);
      seen = seen.Entry entry;
      stands = λ start place more. node_then e size start place n more ok (omega (arith, room, most));
      gives = λ image addr more here. refl;
      accepted = λ image addr more here. short size addr (node_length n) (omega (arith, room, long));
      writable = refl;
      changed = refl;
    })
own_shown e size (node.Inode inode) form most ok is =
    let n : NodeRef = node.Inode inode in
    let own : List ℕ = canonical e n in
    let room : header_len + length own ≤ size = ok.room in
    let long : length own ≡ node_length n = length_form e n in
    let least = canonical_long e n in
    subst (λ (f : List ℕ). IsShown e size n f false) (sym is)
    (record {
      some = omega (arith, least);
      room = room;
      no_longer = omega (arith, long);
      seen = seen.Inode inode;
      stands = λ start place more. node_then e size start place n more ok (omega (arith, room, most));
      gives = λ image addr more here. refl;
      accepted = λ image addr more here. short size addr (node_length n) (omega (arith, room, long));
      writable = refl;
      changed = refl;
    })

-- ---- a compressed node at the front of a rest

node_first : (e : Endian) (start place : ℕ) (rest : List ℕ) → is_good e rest ≡ true
    → sightings_from e start place rest
    ≡ (start + place, seen_of e (tile_of e rest)) ∷ sightings_from e start (place + length (tile_of e rest)) (drop (length (tile_of e rest)) rest)
node_first e start place rest good =
    let some : 0 < length rest = omega (arith, (good_found e rest good).room) in
    ap (seen_among e start)
    (subst (λ (t : Tile). tiling_from e place 0 rest ≡ t ∷ tiling_from e (place + length t.bytes) 0 (drop (length t.bytes) rest)) (tile_good e place rest good) (tile_then_rest e place rest some))

packed_seen : (e : Endian) (packed : CompressedNode) (n : NodeRef) → StandsFor packed n → length (canonical_compressed e packed) < 2 ^ 32
    → seen_of e (filled (canonical_compressed e packed)) ≡ seen.Compressed packed.compr
packed_seen e packed n stands small =
    let bytes : List ℕ = filled (canonical_compressed e packed) in
    let is = compressed_is_tile e packed [] small in
    let words : length (bytes ++ []) % 4 ≡ 0 = omega (arith, length-append bytes [], length-filled (canonical_compressed e packed), pad4_words (length (canonical_compressed e packed))) in
    let headed : IsHeaded e bytes = subst (IsHeaded e) is.tile (tile_headed e (bytes ++ []) (good_found e (bytes ++ []) is.good) words) in
    let reads : ReadsCompressedNode e bytes packed = compressed_reads_back e packed stands.fits stands.writable in
    let it : ReadsCompressed e bytes packed.compr = record {
      sound = reads.sound;
      compression = ap (λ (c : CompressedNode). c.compr) reads.fields;
      not_none = reads.not_none;
      not_zero = reads.not_zero;
    } in
    (seen_compressed e bytes packed.compr headed).1 it

packed_stands : (e : Endian) (packed : CompressedNode) (n : NodeRef) (start place : ℕ) (more : List ℕ) → StandsFor packed n → length (canonical_compressed e packed) < 2 ^ 32
    → let form = canonical_compressed e packed in
    told e start place (filled form ++ more) ≡ (start + place, seen.Compressed packed.compr) ∷ told e start (place + pad4_of (length form)) more
packed_stands e packed n start place more stands small =
    let form : List ℕ = canonical_compressed e packed in
    let tile : List ℕ = filled form in
    let is = compressed_is_tile e packed more small in
    ap (filter tells) (node_first e start place (tile ++ more) is.good)
    ∙ (ap (λ (t : List ℕ). filter tells ((start + place, seen_of e t) ∷ sightings_from e start (place + length t) (drop (length t) (tile ++ more)))) is.tile
    ∙ (ap (λ (s : Seen). filter tells ((start + place, s) ∷ sightings_from e start (place + length tile) (drop (length tile) (tile ++ more)))) (packed_seen e packed n stands small)
    ∙ (ap (λ (r : List ℕ). (start + place, seen.Compressed packed.compr) ∷ told e start (place + length tile) r) (drop_at tile more (length tile) refl)
    ∙ ap (λ (k : ℕ). (start + place, seen.Compressed packed.compr) ∷ told e start (place + k) more) (length-filled form))))

-- the node at its address is that node
packed_there : (e : Endian) (size : ℕ) (image : List ℕ) (addr : ℕ) (packed : CompressedNode) (n : NodeRef) (more : List ℕ) → StandsFor packed n → length (canonical_compressed e packed) < 2 ^ 32
    → rest_at size image addr ≡ filled (canonical_compressed e packed) ++ more → compressed_node_at e size image addr ≡ packed
packed_there e size image addr packed n more stands small here =
    let is = compressed_is_tile e packed more small in
    let reads = compressed_reads_back e packed stands.fits stands.writable in
    ap (λ (r : List ℕ). compressed_of e (tile_of e r)) here ∙ (ap (compressed_of e) is.tile ∙ sym reads.fields)

packed_gives : (packed : CompressedNode) (n : NodeRef) → StandsFor packed n → (size : ℕ) (e : Endian) (image : List ℕ) (addr : ℕ) → compressed_node_at e size image addr ≡ packed
    → expanded_node e size image (addr, seen.Compressed packed.compr) ≡ Some n
packed_gives packed n stands size e image addr there =
    ap (λ (c : CompressedNode). option_map (with_content c) (node_content c)) there
    ∙ (ap (option_map (with_content packed)) stands.content ∙ ap (λ (m : NodeRef). Some m) stands.expanded)

packed_long : (packed : CompressedNode) (n : NodeRef) → StandsFor packed n → node_length n ≡ inode_len + packed.dsize
packed_long packed n stands =
    sym (ap node_length stands.expanded) ∙ ap (λ (k : ℕ). inode_len + k) (content_long packed stands.bytes stands.content)

packed_accepted : (packed : CompressedNode) (n : NodeRef) → StandsFor packed n → (size : ℕ) (e : Endian) (image : List ℕ) (addr : ℕ) → header_len + node_length n ≤ size
    → compressed_node_at e size image addr ≡ packed → node_fault e size image (addr, seen.Compressed packed.compr) ≡ None
packed_accepted packed n stands size e image addr within there =
    let long : too_long size addr (inode_len + packed.dsize) ≡ None =
    short size addr (inode_len + packed.dsize) (subst (λ (k : ℕ). header_len + k ≤ size) (packed_long packed n stands) within) in
    let read : is_none (method_of packed.compr) ≡ false = ap (λ (k : ℕ). is_none (method_of k)) stands.method in
    ap (compressed_fault size addr) there
    ∙ (compressed_ok size addr packed stands.bytes (Some (inode_len + packed.dsize)) read long refl stands.content).0

packed_shown : (e : Endian) (size : ℕ) (n : NodeRef) (form : List ℕ) → size ≤ 4194304 → header_len + node_length n ≤ size → IsPackedForm e n form → IsShown e size n form true
packed_shown e size n form most within is =
    let packed : CompressedNode = is.0 in
    let stands : StandsFor packed n = is.1 in
    let own : List ℕ = canonical_compressed e packed in
    let long : length own ≡ inode_len + length packed.data = length-canonical_compressed e packed in
    let plain : node_length n ≡ inode_len + length stands.bytes = sym (ap node_length stands.expanded) in
    let fewer : inode_len + length packed.data ≤ inode_len + length stands.bytes = fewer_words (inode_len + length packed.data) (inode_len + length stands.bytes) stands.shorter in
    let small : length own < 2 ^ 32 = omega (arith, long, plain, fewer, within, most) in
    subst (λ (f : List ℕ). IsShown e size n f true) (sym is.2)
    (record {
      some = omega (arith, long);
      room = omega (arith, long, plain, fewer, within);
      no_longer = omega (arith, long, plain, fewer);
      seen = seen.Compressed packed.compr;
      stands = λ start place more. packed_stands e packed n start place more stands small;
      gives = λ image addr more here. packed_gives packed n stands size e image addr (packed_there e size image addr packed n more stands small here);
      accepted = λ image addr more here. packed_accepted packed n stands size e image addr within (packed_there e size image addr packed n more stands small here);
      writable = refl;
      changed = refl;
    })

-- ---- the forms of all nodes

abbrev pub AreShown : Endian → ℕ → List NodeRef → List (List ℕ) → ℕ → Type 0
AreShown e size [] [] changed = changed ≡ 0
AreShown e size [] (form ∷ forms) changed = ⊥
AreShown e size (n ∷ ns) [] changed = ⊥
AreShown e size (n ∷ ns) (form ∷ forms) changed =
    (is_packed : Bool) × IsShown e size n form is_packed × ((fewer : ℕ) × (changed ≡ cond is_packed 1 0 + fewer) × AreShown e size ns forms fewer)

pub are_shown : (e : Endian) (size : ℕ) (ns : List NodeRef) (forms : List (List ℕ)) (changed : ℕ) → size ≤ 4194304 → AllByRecursion (IsStorable e size) ns
    → AreFormsFor e ns forms changed → AreShown e size ns forms changed
are_shown e size [] [] changed most ok are = are
are_shown e size [] (form ∷ forms) changed most ok are = are
are_shown e size (n ∷ ns) [] changed most ok are = are
are_shown e size (n ∷ ns) (form ∷ forms) changed most ok (inl own) =
    (false, own_shown e size n form most ok.0 own.0, (changed, omega arith, are_shown e size ns forms changed most ok.1 own.1))
are_shown e size (n ∷ ns) (form ∷ forms) changed most ok (inr packed) =
    let within : header_len + node_length n ≤ size = subst (λ (k : ℕ). header_len + k ≤ size) (length_form e n) ok.0.room in
    let fewer : ℕ = packed.1.0 in
    let one : changed ≡ suc fewer = packed.1.1 in
    (true, packed_shown e size n form most within packed.0, (fewer, omega (arith, one), are_shown e size ns forms fewer most ok.1 packed.1.2))

-- ---- what is told of tiles

-- of these tiles: the nodes that they give, no fault, nothing that forbids writing, and so many compressed ones
pub record Tells (e : Endian) (size : ℕ) (image : List ℕ) (ss : List (ℕ × Seen)) (ns : List NodeRef) (packed : ℕ) : Type 0 where
  pub nodes : filter_map (expanded_node e size image) ss ≡ ns
  pub none : fault_among e size image ss ≡ None
  pub writable : list_any (λ s. forbids_writing s.1) ss ≡ false
  pub changed : count_by (λ s. is_changed s.1) ss ≡ packed

pub tells_none : (e : Endian) (size : ℕ) (image : List ℕ) → Tells e size image [] [] 0
tells_none e size image = record { nodes = refl; none = refl; writable = refl; changed = refl }

zero_more : (n : ℕ) → 0 + n ≡ n
zero_more n = omega arith

count_one : {X : Type 0} (p : X → Bool) (x : X) (xs : List X) → count_by p (x ∷ xs) ≡ cond (p x) 1 0 + count_by p xs
count_one p x xs = sum_by-cons (λ y. cond (p y) 1 0) x xs

pub tells_one : (e : Endian) (size : ℕ) (image : List ℕ) (addr : ℕ) (n : NodeRef) (form : List ℕ) (is_packed : Bool) (ss : List (ℕ × Seen)) (ns : List NodeRef) (fewer : ℕ) (more : List ℕ)
    → (is : IsShown e size n form is_packed) → rest_at size image addr ≡ filled form ++ more → Tells e size image ss ns fewer
    → Tells e size image ((addr, is.seen) ∷ ss) (n ∷ ns) (cond is_packed 1 0 + fewer)
tells_one e size image addr n form is_packed ss ns fewer more is here rest =
    record {
      nodes = ap₂ (λ (o : Option NodeRef) (l : List NodeRef). cons_option o l) (is.gives image addr more here) rest.nodes;
      none = ap₂ (λ (o p : Option ConvertFault). option_or o p) (is.accepted image addr more here) rest.none;
      writable = ap₂ (λ (a b : Bool). a || b) is.writable rest.writable;
      changed = count_one (λ (s : ℕ × Seen). is_changed s.1) (addr, is.seen) ss
          ∙ ap₂ (λ (b : Bool) (k : ℕ). cond b 1 0 + k) is.changed rest.changed;
    }

-- ---- what is not told gives nothing

untold : (e : Endian) (size : ℕ) (image : List ℕ) (s : ℕ × Seen) (ss : List (ℕ × Seen)) (ns : List NodeRef) (changed : ℕ) → tells s ≡ false → Tells e size image ss ns changed
    → Tells e size image (s ∷ ss) ns changed
untold e size image (addr, seen.Marker) ss ns changed none rest =
    record {
      nodes = rest.nodes;
      none = rest.none;
      writable = rest.writable;
      changed = count_one (λ (s : ℕ × Seen). is_changed s.1) (addr, seen.Marker) ss ∙ (zero_more (count_by (λ s. is_changed s.1) ss) ∙ rest.changed);
    }
untold e size image (addr, seen.Damaged which) ss ns changed none rest =
    record {
      nodes = rest.nodes;
      none = rest.none;
      writable = rest.writable;
      changed = count_one (λ (s : ℕ × Seen). is_changed s.1) (addr, seen.Damaged which) ss ∙ (zero_more (count_by (λ s. is_changed s.1) ss) ∙ rest.changed);
    }
untold e size image (addr, _) ss ns changed none rest = absurd (true≢false none)

told_one : (e : Endian) (size : ℕ) (image : List ℕ) (s : ℕ × Seen) (ss ts : List (ℕ × Seen)) (ns : List NodeRef) (changed : ℕ)
    → ((ms : List NodeRef) (k : ℕ) → Tells e size image ts ms k → Tells e size image ss ms k) → Tells e size image (s ∷ ts) ns changed → Tells e size image (s ∷ ss) ns changed
told_one e size image s ss ts ns changed on at =
    let p : ℕ × Seen → Bool = λ s. is_changed s.1 in
    let both = both_none (node_fault e size image s) (fault_among e size image ts) at.none in
    let bans = neither (forbids_writing s.1) (list_any (λ t. forbids_writing t.1) ts) at.writable in
    let rest = on (filter_map (expanded_node e size image) ts) (count_by p ts) (record { nodes = refl; none = both.1; writable = bans.1; changed = refl }) in
    record {
      nodes = ap (cons_option (expanded_node e size image s)) rest.nodes ∙ at.nodes;
      none = ap₂ (λ (o q : Option ConvertFault). option_or o q) both.0 rest.none;
      writable = ap₂ (λ (a b : Bool). a || b) bans.0 rest.writable;
      changed = count_one p s ss ∙ (ap (λ (k : ℕ). cond (p s) 1 0 + k) rest.changed ∙ (sym (count_one p s ts) ∙ at.changed));
    }
  where
    neither : (a b : Bool) → (a || b) ≡ false → (a ≡ false) × (b ≡ false)
    neither false b none = (refl, none)
    neither true b none = absurd (true≢false none)

-- What is told of tiles is told of all of them.
pub all_told : (e : Endian) (size : ℕ) (image : List ℕ) (ss : List (ℕ × Seen)) (ns : List NodeRef) (changed : ℕ) → Tells e size image (filter tells ss) ns changed → Tells e size image ss ns changed
all_told e size image [] ns changed at = at
all_told e size image (s ∷ ss) ns changed at = elim (cases_Bool (tells s)) [
  | inl kept ↦
      told_one e size image s ss (filter tells ss) ns changed (λ ms k there. all_told e size image ss ms k there)
      (subst (λ (b : Bool). Tells e size image (cond b (s ∷ filter tells ss) (filter tells ss)) ns changed) kept at)
  | inr left ↦
      untold e size image s ss ns changed left
      (all_told e size image ss ns changed (subst (λ (b : Bool). Tells e size image (cond b (s ∷ filter tells ss) (filter tells ss)) ns changed) left at))
]
