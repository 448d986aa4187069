-- The rows of the nodes of an image, one after another.
use Rattle.std.proofs.Common.{◌≡◌, ◌<◌, ◌≤◌, ◌+◌, ℕ, List, ◌∷◌, length, sym, ap, subst, Some, None, slice_set}
use Rattle.std.specs.Prelude.{Contains, filter_map}
use Rattle.flashbase.proofs.MemberLemmas.{Contains-filter_map, Contains-here, Contains-there}
use Rattle.jnode.specs.declared.order.Endian.{Endian}
use Rattle.jnode.specs.declared.node.Seen.{Seen}
use Rattle.jscan.specs.Extents.{sighted, sighted_by}
use Rattle.jscan.specs.Image.{sightings}
use Rattle.jscan.specs.Scans.{image_extents}
use Rattle.jscan.specs.declared.extent.Extent.{Extent}
use Rattle.jscan.specs.declared.extent.ExtentKind.TheVariants.{Tiled}
use Rattle.jscan.proofs.ImageLemmas.{image_sighted}
use Rattle.jcalls.specs.NodeRows.{node_row, node_rows}
use Rattle.jcalls.specs.declared.node_row.NodeRow.{NodeRow}
use Rattle.jcalls.proofs.FillingLemmas.{FilledSoFar, filling_begins, filling_passes, filling_gives, filling_counts}

-- a node's extent is among the sightings
pub there_is_sighted : (e : Endian) (size : ℕ) (image : List ℕ) (s : Extent) (what : Seen) → Contains (image_extents e size image) s → s.kind ≡ Tiled what
    → Contains (sightings e size image) (s.addr, what)
there_is_sighted e size image s what there is =
    subst (λ (l : List (ℕ × Seen)). Contains l (s.addr, what)) (image_sighted e size image)
    (Contains-filter_map sighted (image_extents e size image) s (s.addr, what) there (ap (sighted_by s.addr) is))

pub record NodesSoFar (e : Endian) (size : ℕ) (image : List ℕ) (left : List Extent) (old now : List NodeRow) (count : ℕ) : Type 0 where
  pub rows : FilledSoFar (node_rows e size image) (filter_map (node_row e size image) left) old now count
  pub among : (s : Extent) → Contains left s → Contains (image_extents e size image) s

pub nodes_begin : (e : Endian) (size : ℕ) (image : List ℕ) (left : List Extent) (old : List NodeRow) → left ≡ image_extents e size image → NodesSoFar e size image left old old 0
nodes_begin e size image left old all = record {
  rows = filling_begins (node_rows e size image) (filter_map (node_row e size image) left) old (ap (filter_map (node_row e size image)) all);
  among = λ s has. subst (λ (l : List Extent). Contains l s) all has;
}

pub next_is_there : (e : Endian) (size : ℕ) (image : List ℕ) (s : Extent) (now_left left : List Extent) (old now : List NodeRow) (count : ℕ)
    → now_left ≡ s ∷ left → NodesSoFar e size image now_left old now count → Contains (image_extents e size image) s
next_is_there e size image s now_left left old now count first before =
    before.among s (subst (λ (l : List Extent). Contains l s) (sym first) (Contains-here s left))

others : (e : Endian) (size : ℕ) (image : List ℕ) (s : Extent) (now_left left : List Extent) (old now : List NodeRow) (count : ℕ)
    → now_left ≡ s ∷ left → NodesSoFar e size image now_left old now count → (t : Extent) → Contains left t → Contains (image_extents e size image) t
others e size image s now_left left old now count first before t has =
    before.among t (subst (λ (l : List Extent). Contains l t) (sym first) (Contains-there s left t has))

rows_of : (e : Endian) (size : ℕ) (image : List ℕ) (s : Extent) (now_left left : List Extent) (old now : List NodeRow) (count : ℕ)
    → now_left ≡ s ∷ left → NodesSoFar e size image now_left old now count
    → FilledSoFar (node_rows e size image) (filter_map (node_row e size image) (s ∷ left)) old now count
rows_of e size image s now_left left old now count first before =
    subst (λ (l : List Extent). FilledSoFar (node_rows e size image) (filter_map (node_row e size image) l) old now count) first before.rows

pub nodes_pass : (e : Endian) (size : ℕ) (image : List ℕ) (s : Extent) (now_left left : List Extent) (old now : List NodeRow) (count : ℕ)
    → now_left ≡ s ∷ left → node_row e size image s ≡ None → NodesSoFar e size image now_left old now count → NodesSoFar e size image left old now count
nodes_pass e size image s now_left left old now count first none before = record {
  rows = filling_passes (node_row e size image) s left (node_rows e size image) old now count none (rows_of e size image s now_left left old now count first before);
  among = others e size image s now_left left old now count first before;
}

pub nodes_give : (e : Endian) (size : ℕ) (image : List ℕ) (s : Extent) (now_left left : List Extent) (old now : List NodeRow) (count : ℕ) (row : NodeRow)
    → now_left ≡ s ∷ left → node_row e size image s ≡ Some row → count < length now → length now ≡ length old → NodesSoFar e size image now_left old now count
    → NodesSoFar e size image left old (slice_set now count row) (count + 1)
nodes_give e size image s now_left left old now count row first some room long before = record {
  rows = filling_gives (node_row e size image) s left (node_rows e size image) old now count row some room long (rows_of e size image s now_left left old now count first before);
  among = others e size image s now_left left old now count first before;
}

pub nodes_count : (e : Endian) (size : ℕ) (image : List ℕ) (s : Extent) (now_left left : List Extent) (old now : List NodeRow) (count : ℕ) (row : NodeRow)
    → now_left ≡ s ∷ left → node_row e size image s ≡ Some row → length now ≤ count → length now ≡ length old → NodesSoFar e size image now_left old now count
    → NodesSoFar e size image left old now (count + 1)
nodes_count e size image s now_left left old now count row first some full long before = record {
  rows = filling_counts (node_row e size image) s left (node_rows e size image) old now count row some full long (rows_of e size image s now_left left old now count first before);
  among = others e size image s now_left left old now count first before;
}
