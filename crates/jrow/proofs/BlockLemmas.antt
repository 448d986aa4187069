-- The nodes of an image are those of its blocks.
use Rattle.std.proofs.Common.{◌≡◌, ℕ, ◌+◌, ◌-◌, ◌*◌, ◌%◌, ◌<◌, ◌≤◌, Bool, true, false, List, [], ◌∷◌, ◌++◌, length, filter_map, take, drop, refl, sym, ap, ap₂, subst, ◌∙◌, arith, Option, None, Some, is_some, append-nil}
use Rattle.std.specs.Prelude.{flat_map, IsTrue, ◌||◌}
use Rattle.std.specs.Option.{option_or}
use Rattle.std.proofs.lemmas.List.Elements.{filter_map-append}
use Rattle.std.proofs.lemmas.List.Folds.{list_any-append}
use Rattle.std.proofs.lemmas.Grind.{flat_map-append}
use Rattle.std.proofs.Math.Seq.{take-append_seam}
use Rattle.flashbase.specs.Bytes.{erased}
use Rattle.flashbase.specs.Lists.{below}
use Rattle.flashbase.proofs.ListLemmas.{flat_map-below}
use Rattle.jnode.specs.declared.node.NodeRef.{NodeRef}
use Rattle.jnode.specs.declared.node.Seen.{Seen}
use Rattle.jnode.specs.declared.order.Endian.{Endian}
use Rattle.jscan.specs.Image.{is_block_size, block_of, block_count, sightings_in, sightings}
use Rattle.jscan.specs.Scans.{forbids_writing}
use Rattle.jscan.proofs.BlockLemmas.{filter_map-flat_map, block_past, past_count, count_within}
use Rattle.jscan.proofs.HeaderlessLemmas.{erased_has_no_nodes}
use Rattle.jscan.proofs.PartLemmas.{block_length}
use Rattle.jexpand.specs.Expanded.{expanded_node, expanded_nodes, tile_content, unpacked_bytes}
use Rattle.jexpand.specs.declared.fault.ConvertFault.{ConvertFault}
use Rattle.jexpand.proofs.SightedLemmas.{size_words, size_some}
use Rattle.jview.specs.Through.{through_fault, through_fault_among}
use Rattle.jrow.specs.Row.{side_by_side}
use Rattle.jrow.specs.RowLaws.{nodes_of_blocks, contents_of_blocks, ImageIsOfBlocks, RowIsOfBlocks}
use Rattle.jrow.proofs.SideLemmas.{side_long, side_blocks}
use Rattle.jrow.proofs.GlimpseLemmas.{Glimpse, block_glimpses, node_glimpsed, content_glimpsed, is_refused, is_ban, AreGlimpsed, block_glimpsed}

-- ---- one after the other

either_some : (o p : Option ConvertFault) → is_some (option_or o p) ≡ (is_some o || is_some p)
either_some None p = refl
either_some (Some f) p = refl

or_assoc : (a b c : Bool) → (a || (b || c)) ≡ ((a || b) || c)
or_assoc true b c = refl
or_assoc false b c = refl

refused-append : (e : Endian) (size : ℕ) (image : List ℕ) (ss ts : List (ℕ × Seen))
    → is_some (through_fault_among e size image (ss ++ ts)) ≡ (is_some (through_fault_among e size image ss) || is_some (through_fault_among e size image ts))
refused-append e size image [] ts = refl
refused-append e size image (s ∷ ss) ts =
    let here : Option ConvertFault = through_fault e size image s in
    either_some here (through_fault_among e size image (ss ++ ts))
    ∙ (ap (λ (b : Bool). is_some here || b) (refused-append e size image ss ts)
    ∙ (or_assoc (is_some here) (is_some (through_fault_among e size image ss)) (is_some (through_fault_among e size image ts))
    ∙ ap (λ (b : Bool). b || is_some (through_fault_among e size image ts)) (sym (either_some here (through_fault_among e size image ss)))))

both_glimpsed : (e : Endian) (size : ℕ) (image : List ℕ) (ss ts : List (ℕ × Seen)) (gs hs : List Glimpse) → AreGlimpsed e size image ss gs → AreGlimpsed e size image ts hs
    → AreGlimpsed e size image (ss ++ ts) (gs ++ hs)
both_glimpsed e size image ss ts gs hs first second = record {
  nodes = filter_map-append (expanded_node e size image) ss ts ∙ (ap₂ (λ (xs ys : List NodeRef). xs ++ ys) first.nodes second.nodes ∙ sym (filter_map-append node_glimpsed gs hs));
  contents = flat_map-append (tile_content e size image) ss ts ∙ (ap₂ (λ (xs ys : List ℕ). xs ++ ys) first.contents second.contents ∙ sym (flat_map-append content_glimpsed gs hs));
  refused = refused-append e size image ss ts ∙ (ap₂ (λ (a b : Bool). a || b) first.refused second.refused ∙ sym (list_any-append (is_refused size) gs hs));
  bans = list_any-append (λ (s : ℕ × Seen). forbids_writing s.1) ss ts ∙ (ap₂ (λ (a b : Bool). a || b) first.bans second.bans ∙ sym (list_any-append is_ban gs hs));
}

-- ---- an image

-- what is told of blocks of an image
abbrev pub glimpses_of : Endian → ℕ → List ℕ → List ℕ → List Glimpse
glimpses_of e size image bs = flat_map (λ b. block_glimpses e (block_of size image b)) bs

blocks_glimpsed : (e : Endian) (size : ℕ) (image : List ℕ) → size % 4 ≡ 0 → (bs : List ℕ)
    → AreGlimpsed e size image (flat_map (λ k. sightings_in e (k * size) (block_of size image k)) bs) (glimpses_of e size image bs)
blocks_glimpsed e size image words [] = record { nodes = refl; contents = refl; refused = refl; bans = refl }
blocks_glimpsed e size image words (b ∷ bs) =
    both_glimpsed e size image (sightings_in e (b * size) (block_of size image b)) (flat_map (λ k. sightings_in e (k * size) (block_of size image k)) bs)
    (block_glimpses e (block_of size image b)) (glimpses_of e size image bs)
    (block_glimpsed e size image (block_of size image b) b words refl (block_length size image b)) (blocks_glimpsed e size image words bs)

sightings_are_of_blocks : (e : Endian) (size blocks : ℕ) (image : List ℕ) → 0 < size → length image ≤ blocks * size
    → sightings e size image ≡ flat_map (λ k. sightings_in e (k * size) (block_of size image k)) (below blocks)
sightings_are_of_blocks e size blocks image p h =
    let n : ℕ = block_count size image in
    let le : n ≤ blocks = count_within size blocks image p h in
    let sum : (blocks - n) + n ≡ blocks = omega arith in
    sym (flat_map-below (λ k. sightings_in e (k * size) (block_of size image k)) n (blocks - n)
    (λ k q. ap (sightings_in e (k * size)) (block_past size image k (past_count size image k p q)) ∙ erased_has_no_nodes e (k * size) size))
    ∙ ap (λ (m : ℕ). flat_map (λ k. sightings_in e (k * size) (block_of size image k)) (below m)) sum

pub image_glimpsed : (e : Endian) (size blocks : ℕ) (image : List ℕ) → IsTrue (is_block_size size) → length image ≤ blocks * size
    → AreGlimpsed e size image (sightings e size image) (glimpses_of e size image (below blocks))
image_glimpsed e size blocks image size_is within =
    let some : 0 < size = omega (arith, size_some size size_is) in
    subst (λ (ss : List (ℕ × Seen)). AreGlimpsed e size image ss (glimpses_of e size image (below blocks))) (sym (sightings_are_of_blocks e size blocks image some within))
    (blocks_glimpsed e size image (size_words size size_is) (below blocks))

-- ---- a block as an image of its own

block_alone : (size : ℕ) (block : List ℕ) → length block ≡ size → block_of size block 0 ≡ block
block_alone size block long =
    let start : 0 * size ≡ 0 = omega arith in
    ap (λ (n : ℕ). take size (drop n block ++ erased size)) start
    ∙ (ap (λ (n : ℕ). take n (block ++ erased size)) (sym long) ∙ take-append_seam block (erased size))

alone_glimpsed : (e : Endian) (size : ℕ) (block : List ℕ) → IsTrue (is_block_size size) → length block ≡ size → AreGlimpsed e size block (sightings e size block) (block_glimpses e block)
alone_glimpsed e size block size_is long =
    let one : glimpses_of e size block (below 1) ≡ block_glimpses e block =
    append-nil (block_glimpses e (block_of size block 0)) ∙ ap (block_glimpses e) (block_alone size block long) in
    subst (AreGlimpsed e size block (sightings e size block)) one (image_glimpsed e size 1 block size_is (omega (arith, long)))

flat_map-flat_map : {A B C : Type 0} (h : B → List C) (g : A → List B) (xs : List A) → flat_map h (flat_map g xs) ≡ flat_map (λ x. flat_map h (g x)) xs
flat_map-flat_map h g [] = refl
flat_map-flat_map h g (x ∷ xs) = flat_map-append h (g x) (flat_map g xs) ∙ ap (λ ys. flat_map h (g x) ++ ys) (flat_map-flat_map h g xs)

pub same_for_each : {A B : Type 0} (f g : A → List B) (xs : List A) → ((x : A) → f x ≡ g x) → flat_map f xs ≡ flat_map g xs
same_for_each f g [] same = refl
same_for_each {B = B} f g (x ∷ xs) same = ap₂ (λ (a b : List B). a ++ b) (same x) (same_for_each f g xs same)

nodes_told : (e : Endian) (size : ℕ) (image bs : List ℕ) → IsTrue (is_block_size size) → filter_map node_glimpsed (glimpses_of e size image bs) ≡ nodes_of_blocks e size image bs
nodes_told e size image bs size_is =
    filter_map-flat_map node_glimpsed (λ b. block_glimpses e (block_of size image b)) bs
    ∙ same_for_each (λ b. filter_map node_glimpsed (block_glimpses e (block_of size image b))) (λ b. expanded_nodes e size (block_of size image b)) bs
    (λ b. sym (alone_glimpsed e size (block_of size image b) size_is (block_length size image b)).nodes)

contents_told : (e : Endian) (size : ℕ) (image bs : List ℕ) → IsTrue (is_block_size size) → flat_map content_glimpsed (glimpses_of e size image bs) ≡ contents_of_blocks e size image bs
contents_told e size image bs size_is =
    flat_map-flat_map content_glimpsed (λ b. block_glimpses e (block_of size image b)) bs
    ∙ same_for_each (λ b. flat_map content_glimpsed (block_glimpses e (block_of size image b))) (λ b. unpacked_bytes e size (block_of size image b)) bs
    (λ b. sym (alone_glimpsed e size (block_of size image b) size_is (block_length size image b)).contents)

pub image_is_of_blocks : ImageIsOfBlocks
image_is_of_blocks e size blocks image size_is within =
    let all = image_glimpsed e size blocks image size_is within in
    record {
      nodes = all.nodes ∙ nodes_told e size image (below blocks) size_is;
      contents = all.contents ∙ contents_told e size image (below blocks) size_is;
    }

-- ---- a row

pub row_glimpsed : (e : Endian) (size : ℕ) (row image : List ℕ) → IsTrue (is_block_size size)
    → AreGlimpsed e size (side_by_side size row image) (sightings e size (side_by_side size row image)) (glimpses_of e size image row)
row_glimpsed e size row image size_is =
    let flash : List ℕ = side_by_side size row image in
    subst (AreGlimpsed e size flash (sightings e size flash)) (side_blocks (block_glimpses e) size row image)
    (image_glimpsed e size (length row) flash size_is (omega (arith, side_long size row image)))

pub row_is_of_blocks : RowIsOfBlocks
row_is_of_blocks e size row image size_is =
    let all = row_glimpsed e size row image size_is in
    record {
      nodes = all.nodes ∙ nodes_told e size image row size_is;
      contents = all.contents ∙ contents_told e size image row size_is;
    }
