-- What went out compressed gives the nodes back.
use Rattle.std.proofs.Common.{◌≡◌, ℕ, ◌+◌, ◌*◌, ◌%◌, ◌<◌, ◌≤◌, Bool, true, false, List, [], ◌∷◌, length, map, filter_map, refl, sym, ap, ap₂, subst, ◌∙◌, arith, Option, None, Some, inl, inr, IsTrue}
use Rattle.std.specs.Prelude.{filter, flat_map, nat_le, nat_lt, not, ◌&&◌, ◌++◌}
use Rattle.std.specs.List.{cons_option, AllByRecursion}
use Rattle.std.specs.Option.{option_or}
use Rattle.std.proofs.lemmas.Bool.{and_from, and_parts, le-leb, leb-true}
use Rattle.std.proofs.lemmas.Nat.{le-div}
use Rattle.flashbase.specs.Bytes.{pad4_of}
use Rattle.flashbase.specs.Lists.{below}
use Rattle.flashbase.specs.Ranges.{AreBytes}
use Rattle.flashbase.proofs.BytesLemmas.{le_pad4, pad4_words, pad4_least}
use Rattle.jnode.specs.Header.{header_len}
use Rattle.jnode.specs.Writing.{canonical}
use Rattle.jnode.specs.declared.node.NodeRef.{NodeRef}
use Rattle.jnode.specs.declared.node.NodeRef.TheVariants as node
use Rattle.jnode.specs.declared.node.Seen.{Seen}
use Rattle.jnode.specs.declared.node.Seen.TheVariants as seen
use Rattle.jnode.specs.declared.order.Endian.{Endian}
use Rattle.jscan.specs.Image.{is_block_size, greatest_image, block_count, block_of, sightings, sightings_in, node_sighted, nodes}
use Rattle.jscan.specs.Scans.{IsScannable}
use Rattle.jscan.proofs.BlockLemmas.{count_within}
use Rattle.jmount.specs.Mounts.{MountsAs, plain_nodes}
use Rattle.jmount.specs.Tree.{State, is_directory}
use Rattle.jmount.specs.StateOf.{state_of}
use Rattle.jmount.specs.Clash.{NoneClash}
use Rattle.jlog.specs.Laws.{FitsBlock}
use Rattle.jlog.specs.LeftLaws.{IsStorable, tells}
use Rattle.jlog.specs.Output.{output}
use Rattle.jlog.specs.Places.{IsPlace, place_after, end_after, end_of_all, fit}
use Rattle.jlog.proofs.FlashLemmas.{up}
use Rattle.jlog.proofs.ImageLemmas.{below_same, below_up, told_below, told_image}
use Rattle.jlog.proofs.IntactLemmas.{output_is_long}
use Rattle.jlog.proofs.PlaceLemmas.{place_is_least}
use Rattle.jlog.proofs.RoomLemmas.{end_is_within}
use Rattle.jlog.proofs.SoundLemmas.{sound_nodes_are_apart}
use Rattle.jexpand.specs.Expanded.{expanded_node, expanded_nodes, node_length}
use Rattle.jexpand.specs.Refused.{node_fault, fault_among, nodes_fault}
use Rattle.jexpand.specs.declared.fault.ConvertFault.{ConvertFault}
use Rattle.jexpand.specs.declared.fault.ConvertFault.TheVariants as fault
use Rattle.jexpand.proofs.SightedLemmas.{size_words, size_some}
use Rattle.jconvert.specs.Compressing.{AreFormsFor, pack_fault, pack_fault_among, compress_fault}
use Rattle.jconvert.specs.CompressingLaws.{CompressedAreNodes, GivesBack, CompressedGivesBack, CompressedMounts}
use Rattle.jconvert.specs.Converting.{greatest_blocks, expanded_forms, converted_image, convert_fault, flash_fault}
use Rattle.jconvert.proofs.CallLemmas.{size_most}
use Rattle.jconvert.proofs.JudgeLemmas.{Accepted, accepted, both_none, unless_none, not_true, not_less, fitting, flash_decides}
use Rattle.jconvert.proofs.LawLemmas.{are_storable, greatest_small, converted_mounts}
use Rattle.jconvert.proofs.PackLemmas.{form_fits}
use Rattle.jconvert.proofs.ShownLemmas.{IsShown, AreShown, Tells, are_shown, all_told}
use Rattle.jconvert.proofs.TallyLemmas.{length_form}
use Rattle.jconvert.proofs.WalkLemmas.{image_tells}

-- ---- an image that is compressed is one of the profile

plain_tile : (e : Endian) (size : ℕ) (image : List ℕ) (s : ℕ × Seen) → pack_fault e size image s ≡ None
    → (node_fault e size image s ≡ None) × ((ns : List NodeRef) (ms : List (ℕ × NodeRef)) → ns ≡ map (λ n. n.1) ms
    → cons_option (expanded_node e size image s) ns ≡ map (λ n. n.1) (cons_option (node_sighted s) ms))
plain_tile e size image (addr, seen.Compressed compr) none = absurd (cc)
plain_tile e size image (addr, seen.Entry entry) none = (none, λ ns ms same. ap (λ (l : List NodeRef). node.Entry entry ∷ l) same)
plain_tile e size image (addr, seen.Inode inode) none = (none, λ ns ms same. ap (λ (l : List NodeRef). node.Inode inode ∷ l) same)
plain_tile e size image (addr, seen.Marker) none = (none, λ ns ms same. same)
plain_tile e size image (addr, seen.Padding) none = (none, λ ns ms same. same)
plain_tile e size image (addr, seen.Obsolete) none = (none, λ ns ms same. same)
plain_tile e size image (addr, seen.Attribute) none = (none, λ ns ms same. same)
plain_tile e size image (addr, seen.Skippable t) none = (none, λ ns ms same. same)
plain_tile e size image (addr, seen.ReadOnly t) none = (none, λ ns ms same. same)
plain_tile e size image (addr, seen.Incompatible t) none = (none, λ ns ms same. same)
plain_tile e size image (addr, seen.Damaged q) none = (none, λ ns ms same. same)

plain_tiles : (e : Endian) (size : ℕ) (image : List ℕ) (ss : List (ℕ × Seen)) → pack_fault_among e size image ss ≡ None
    → (fault_among e size image ss ≡ None) × (filter_map (expanded_node e size image) ss ≡ map (λ n. n.1) (filter_map node_sighted ss))
plain_tiles e size image [] none = (refl, refl)
plain_tiles e size image (s ∷ ss) none =
    let both = both_none (pack_fault e size image s) (pack_fault_among e size image ss) none in
    let one = plain_tile e size image s both.0 in
    let rest = plain_tiles e size image ss both.1 in
    (ap₂ (λ (o p : Option ConvertFault). option_or o p) one.0 rest.0, one.1 (filter_map (expanded_node e size image) ss) (filter_map node_sighted ss) rest.1)

record Plain (e : Endian) (size : ℕ) (image : List ℕ) : Type 0 where
  scannable : IsScannable size image
  none : pack_fault_among e size image (sightings e size image) ≡ None
  flash : flash_fault e size image ≡ None

plain : (e : Endian) (size : ℕ) (image : List ℕ) → compress_fault e size image ≡ None → Plain e size image
plain e size image h =
    let sized = unless_none (not (is_block_size size)) fault.BlockSize _ h in
    let long = unless_none (nat_lt greatest_image (length image)) fault.TooLarge _ sized.1 in
    let both = both_none (pack_fault_among e size image (sightings e size image)) (flash_fault e size image) long.1 in
    record {
      scannable = (not_true (is_block_size size) sized.0, not_less greatest_image (length image) long.0);
      none = both.0;
      flash = both.1;
    }

pub plain_converts : (e : Endian) (size : ℕ) (image : List ℕ) → compress_fault e size image ≡ None → convert_fault e size image ≡ None
plain_converts e size image h =
    let it : Plain e size image = plain e size image h in
    flash_decides e size image it.scannable (plain_tiles e size image (sightings e size image) it.none).0 ∙ it.flash

pub compressed_are_nodes : CompressedAreNodes
compressed_are_nodes e size image h = (plain_tiles e size image (sightings e size image) (plain e size image h).none).1

-- ---- shorter forms fit where longer ones do

pub place_before : (size a b short long : ℕ) → size % 4 ≡ 0 → 0 < short → short ≤ long → header_len + long ≤ size → a ≤ b → place_after size a short ≤ place_after size b long
place_before size a b short long words some less room up =
    let at : IsPlace size b long (place_after size b long) = (place_is_least size b long words (omega arith) room).place in
    (place_is_least size a short words some (omega arith)).least (place_after size b long) (record {
      aligned = at.aligned;
      upwards = omega (arith, at.upwards);
      behind_marker = at.behind_marker;
      within = omega (arith, at.within);
    })

pub end_before : (size a b short long : ℕ) → size % 4 ≡ 0 → 0 < short → short ≤ long → header_len + long ≤ size → a ≤ b → end_after size a short ≤ end_after size b long
end_before size a b short long words some less room up =
    let place = place_before size a b short long words some less room up in
    let padded : pad4_of short ≤ pad4_of long = pad4_least short (pad4_of long) (omega (arith, le_pad4 long)) (pad4_words long) in
    omega (arith, place, padded)

all_fit : (e : Endian) (size blocks a b : ℕ) (ns : List NodeRef) (forms : List (List ℕ)) (changed : ℕ) → size % 4 ≡ 0 → AllByRecursion (IsStorable e size) ns
    → AreShown e size ns forms changed → a ≤ b → IsTrue (fit size blocks b (map (canonical e) ns)) → IsTrue (fit size blocks a forms)
all_fit e size blocks a b [] [] changed words ok are up fits = fits
all_fit e size blocks a b [] (form ∷ forms) changed words ok are up fits = absurd are
all_fit e size blocks a b (n ∷ ns) [] changed words ok are up fits = absurd are
all_fit e size blocks a b (n ∷ ns) (form ∷ forms) changed words ok are up fits =
    let is : IsShown e size n form are.0 = are.1 in
    let own : ℕ = length (canonical e n) in
    let less : length form ≤ own = subst (λ (k : ℕ). length form ≤ k) (sym (length_form e n)) is.no_longer in
    let parts = and_parts _ _ fits in
    let place = place_before size a b (length form) own words is.some less ok.0.room up in
    let within : place_after size b own + own ≤ blocks * size = leb-true _ _ parts.0 in
    let inside : place_after size a (length form) + length form ≤ blocks * size = omega (arith, place, within, less) in
    and_from _ _ (le-leb _ _ inside)
    (all_fit e size blocks (end_after size a (length form)) (end_after size b own) ns forms are.2.0 words ok.1 are.2.2
    (end_before size a b (length form) own words is.some less ok.0.room up) parts.1)

forms_have_room : (e : Endian) (size : ℕ) (ns : List NodeRef) (forms : List (List ℕ)) (changed : ℕ) → AllByRecursion (IsStorable e size) ns → AreFormsFor e ns forms changed
    → AllByRecursion (FitsBlock size) forms
forms_have_room e size [] [] changed ok are = tt
forms_have_room e size [] (form ∷ forms) changed ok are = absurd are
forms_have_room e size (n ∷ ns) [] changed ok are = absurd are
forms_have_room e size (n ∷ ns) (form ∷ forms) changed ok (inl own) =
    (form_fits e size n form false (subst (λ (k : ℕ). header_len + k ≤ size) (length_form e n) ok.0.room) (inr (refl, own.0)), forms_have_room e size ns forms changed ok.1 own.1)
forms_have_room e size (n ∷ ns) (form ∷ forms) changed ok (inr packed) =
    (form_fits e size n form true (subst (λ (k : ℕ). header_len + k ≤ size) (length_form e n) ok.0.room) (inl (refl, packed.0)), forms_have_room e size ns forms packed.1.0 ok.1 packed.1.2)

-- ---- what went out

-- the limits of a block, in the greatest flash
record Limits (size : ℕ) : Type 0 where
  words : size % 4 ≡ 0
  least : 4096 ≤ size
  most : size ≤ 4194304
  blocks : 64 ≤ greatest_blocks size

limits : (size : ℕ) → IsTrue (is_block_size size) → Limits size
limits size is =
    let most = size_most size is in
    let least = size_some size is in
    record { words = size_words size is; least = least; most = most; blocks = le-div 64 greatest_image size (omega arith) (omega arith) }

-- no blocks, nothing told
no_blocks : (size : ℕ) → 0 < size → block_count size [] ≡ 0
no_blocks size some =
    let most : block_count size [] ≤ 0 = count_within size 0 [] some (omega arith) in
    omega (arith, most)

none_sighted : (e : Endian) (size : ℕ) → 0 < size → sightings e size [] ≡ []
none_sighted e size some = ap (λ (n : ℕ). flat_map (λ k. sightings_in e (k * size) (block_of size [] k)) (below n)) (no_blocks size some)

none_below : (e : Endian) (size : ℕ) (flash : ℕ → List ℕ) → 0 < size → told_below e size flash 0 ≡ []
none_below e size flash some =
    below_same e size flash (block_of size []) 0 (λ k less. absurd (omega (arith, less)))
    ∙ (sym (told_image e size 0 [] some (omega arith)) ∙ ap (filter tells) (none_sighted e size some))

-- of an image all is told by its blocks
blocks_tell : (e : Endian) (size blocks : ℕ) (image : List ℕ) → 0 < size → length image ≤ blocks * size
    → filter tells (sightings e size image) ≡ up e size (block_of size image) 0 blocks
blocks_tell e size blocks image some within =
    let all : blocks ≡ 0 + blocks = omega arith in
    told_image e size blocks image some within
    ∙ (ap (told_below e size (block_of size image)) all
    ∙ (below_up e size (block_of size image) 0 blocks
    ∙ ap (λ (ss : List (ℕ × Seen)). ss ++ up e size (block_of size image) 0 blocks) (none_below e size (block_of size image) some)))

record WentOut (e : Endian) (size : ℕ) (image : List ℕ) (forms : List (List ℕ)) (changed : ℕ) : Type 0 where
  small : length (output e size 0 forms) ≤ greatest_image
  tells : Tells e size (output e size 0 forms) (sightings e size (output e size 0 forms)) (expanded_nodes e size image) changed

went_out : (e : Endian) (size : ℕ) (image : List ℕ) (forms : List (List ℕ)) (changed : ℕ) → AreBytes image → convert_fault e size image ≡ None
    → AreFormsFor e (expanded_nodes e size image) forms changed → WentOut e size image forms changed
went_out e size image forms changed are h made =
    let ns : List NodeRef = expanded_nodes e size image in
    let blocks : ℕ = greatest_blocks size in
    let out : List ℕ = output e size 0 forms in
    let it = are_storable e size image are h in
    let limit : Limits size = limits size it.size_is in
    let shown : AreShown e size ns forms changed = are_shown e size ns forms changed limit.most it.nodes made in
    let fits : IsTrue (fit size blocks 0 forms) = all_fit e size blocks 0 0 ns forms changed limit.words it.nodes shown (omega arith) it.room in
    let roomy : AllByRecursion (FitsBlock size) forms = forms_have_room e size ns forms changed it.nodes made in
    let long : 0 + length out ≡ end_of_all size 0 forms = output_is_long e size 0 forms limit.words roomy in
    let ends : end_of_all size 0 forms ≤ blocks * size = (end_is_within size blocks 0 forms limit.words roomy refl (omega arith) fits).0 in
    let within : length out ≤ blocks * size = omega (arith, long, ends) in
    let told = image_tells e size blocks ns forms changed limit.words (omega (arith, limit.least)) limit.most (omega (arith, limit.blocks)) shown fits in
    let same : filter tells (sightings e size out) ≡ up e size (block_of size out) 0 blocks = blocks_tell e size blocks out (omega (arith, limit.least)) within in
    record {
      small = omega (arith, within, greatest_small size);
      tells = all_told e size out (sightings e size out) ns changed (subst (λ (ss : List (ℕ × Seen)). Tells e size out ss ns changed) (sym same) told);
    }

forms_give_back : (e : Endian) (size : ℕ) (image : List ℕ) (forms : List (List ℕ)) (changed : ℕ) → AreBytes image → compress_fault e size image ≡ None
    → AreFormsFor e (expanded_nodes e size image) forms changed → GivesBack e size image (output e size 0 forms) changed
forms_give_back e size image forms changed are h made =
    let out : List ℕ = output e size 0 forms in
    let converts : convert_fault e size image ≡ None = plain_converts e size image h in
    let it : Accepted e size image = accepted e size image converts in
    let went : WentOut e size image forms changed = went_out e size image forms changed are converts made in
    let same : expanded_nodes e size out ≡ expanded_nodes e size image = went.tells.nodes in
    let fits : IsTrue (fit size (greatest_blocks size) 0 (expanded_forms e size out)) =
    subst (λ (ns : List NodeRef). IsTrue (fit size (greatest_blocks size) 0 (map (canonical e) ns))) (sym same) it.fits in
    record {
      accepted = fitting e size out (it.size_is, went.small) went.tells.none went.tells.writable it.least fits;
      nodes = same ∙ compressed_are_nodes e size image h;
      changed = went.tells.changed;
    }

pub compressed_gives_back : CompressedGivesBack
compressed_gives_back e size image out changed are h made =
    subst (λ (o : List ℕ). GivesBack e size image o changed) (sym made.2) (forms_give_back e size image made.0 changed are h made.1)

pub compressed_mounts : CompressedMounts
compressed_mounts e size image out changed s are h made mounts =
    let converts : convert_fault e size image ≡ None = plain_converts e size image h in
    let gives : GivesBack e size image out changed = compressed_gives_back e size image out changed are h made in
    let plain_are : plain_nodes e size image ≡ expanded_nodes e size image = sym (compressed_are_nodes e size image h) in
    let apart = subst NoneClash plain_are (sound_nodes_are_apart e size image mounts.sound) in
    let root = subst (λ (ns : List NodeRef). IsTrue (is_directory (state_of ns) 1)) plain_are mounts.root in
    let back : MountsAs e size (converted_image e size image) (state_of (expanded_nodes e size image)) = converted_mounts e size image are converts apart root in
    let same : converted_image e size image ≡ converted_image e size out = ap (λ (ns : List NodeRef). output e size 0 (map (canonical e) ns)) (sym (gives.nodes ∙ plain_are)) in
    let state_is : state_of (expanded_nodes e size image) ≡ s = ap state_of (sym plain_are) ∙ mounts.same in
    subst (λ (i : List ℕ). MountsAs e size i s) same (subst (MountsAs e size (converted_image e size image)) state_is back)
