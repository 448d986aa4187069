-- What is known of nodes while they go out.
use Rattle.std.proofs.Common.{◌≡◌, ℕ, ◌+◌, ◌<◌, ◌≤◌, List, [], ◌∷◌, ◌++◌, length, drop, slice_index, refl, sym, ap, subst, ◌∙◌, arith, Option, append_assoc}
use Rattle.std.specs.Prelude.{IsTrue}
use Rattle.std.specs.List.{AllByRecursion}
use Rattle.std.specs.Io.KnownBytes.{Appends}
use Rattle.std.proofs.KnownBytes.{Appends-trans}
use Rattle.std.proofs.lemmas.Bool.{and_parts, leb-true}
use Rattle.std.proofs.Math.ListN.{drop_of_length-le}
use Rattle.std.proofs.lemmas.List.{append-nil, drop_more}
use Rattle.flashbase.specs.Device.{PutsPart}
use Rattle.flashbase.proofs.DeviceLemmas.{part_before, part_behind}
use Rattle.jnode.specs.Header.{header_len}
use Rattle.jnode.specs.Writing.{filled}
use Rattle.jnode.specs.declared.order.Endian.{Endian}
use Rattle.jscan.specs.Image.{is_block_size}
use Rattle.jlog.specs.Output.{gap, output}
use Rattle.jlog.specs.Places.{place_after, end_after, fit}
use Rattle.jlog.proofs.ImageLemmas.{block_size}
use Rattle.jcollect.specs.Collecting.{FitBlocks}
use Rattle.jcollect.specs.Planning.{IsSoundNodeAt, IsWriteCursor, tile_piece}
use Rattle.jcollect.specs.Tiles.{tile_in, tiles_at, copied_image}
use Rattle.jcollect.proofs.NodeLemmas.{node_is_tile}
use Rattle.jcollect.proofs.RoomLemmas.{next_cursor}
use Rattle.jcollect.proofs.TileLemmas.{filled_tile}

-- what went out so far, and the nodes that are left
pub record Putting (e : Endian) (size blocks : ℕ) (image all left : List ℕ) (from : ℕ) (old now : Option (List ℕ)) : Type 0 where
  pub among : AllByRecursion (IsSoundNodeAt e size image) left
  pub each : AllByRecursion (λ (addr : ℕ). header_len + length (tile_in e size image addr) ≤ size) left
  pub room : IsTrue (fit size blocks from (tiles_at e size image left))
  pub cursor : IsWriteCursor size blocks from
  pub done : List ℕ
  pub appended : Appends old now done
  pub whole : copied_image e size image all ≡ done ++ output e size from (tiles_at e size image left)

pub putting_at : (e : Endian) (size blocks : ℕ) (image all left rest : List ℕ) (addr from : ℕ) (old now : Option (List ℕ)) → Putting e size blocks image all left from old now → left ≡ addr ∷ rest
    → IsSoundNodeAt e size image addr × (header_len + length (tile_in e size image addr) ≤ size)
putting_at e size blocks image all left rest addr from old now it is =
    let here : Putting e size blocks image all (addr ∷ rest) from old now = subst (λ (l : List ℕ). Putting e size blocks image all l from old now) is it in
    (here.among.0, here.each.0)

-- what goes out with one node more
piece_out : (e : Endian) (size : ℕ) (image rest : List ℕ) (addr from : ℕ) (whole done : List ℕ) → IsTrue (is_block_size size) → IsSoundNodeAt e size image addr
    → whole ≡ done ++ output e size from (tiles_at e size image (addr ∷ rest))
    → whole ≡ (done ++ tile_piece e size from (tile_in e size image addr)) ++ output e size (end_after size from (length (tile_in e size image addr))) (tiles_at e size image rest)
piece_out e size image rest addr from whole done size_is node is =
    let tile : List ℕ = tile_in e size image addr in
    let next : List ℕ = output e size (end_after size from (length tile)) (tiles_at e size image rest) in
    let same : filled tile ≡ tile = filled_tile e tile (node_is_tile e size image addr size_is node) in
    is ∙ (ap (λ (t : List ℕ). done ++ (gap e size from (place_after size from (length tile)) ++ t ++ next)) same
    ∙ sym (append_assoc done (tile_piece e size from tile) next))

pub putting_next : (e : Endian) (size blocks : ℕ) (image all left rest : List ℕ) (addr from next : ℕ) (old mid now : Option (List ℕ)) → IsTrue (is_block_size size)
    → Putting e size blocks image all left from old mid → left ≡ addr ∷ rest → Appends mid now (tile_piece e size from (tile_in e size image addr))
    → next ≡ end_after size from (length (tile_in e size image addr)) → Putting e size blocks image all rest next old now
putting_next e size blocks image all left rest addr from next old mid now size_is before is put next_is =
    let it : Putting e size blocks image all (addr ∷ rest) from old mid = subst (λ (l : List ℕ). Putting e size blocks image all l from old mid) is before in
    let tile : List ℕ = tile_in e size image addr in
    let both = and_parts _ _ it.room in
    let limits = block_size size size_is in
    subst (λ (n : ℕ). Putting e size blocks image all rest n old now) (sym next_is) (record {
      among = it.among.1;
      each = it.each.1;
      room = both.1;
      cursor = next_cursor size blocks from (length tile) limits.words (leb-true _ _ both.0);
      done = it.done ++ tile_piece e size from tile;
      appended = Appends-trans old mid now it.done (tile_piece e size from tile) it.appended put;
      whole = piece_out e size image rest addr from (copied_image e size image all) it.done size_is it.among.0 it.whole;
    })

pub putting_failed : (e : Endian) (size blocks : ℕ) (image all left rest : List ℕ) (addr from : ℕ) (old mid now : Option (List ℕ)) → IsTrue (is_block_size size)
    → Putting e size blocks image all left from old mid → left ≡ addr ∷ rest → PutsPart mid now (tile_piece e size from (tile_in e size image addr))
    → PutsPart old now (copied_image e size image all)
putting_failed e size blocks image all left rest addr from old mid now size_is before is part =
    let it : Putting e size blocks image all (addr ∷ rest) from old mid = subst (λ (l : List ℕ). Putting e size blocks image all l from old mid) is before in
    let tile : List ℕ = tile_in e size image addr in
    let next : List ℕ = output e size (end_after size from (length tile)) (tiles_at e size image rest) in
    subst (PutsPart old now) (sym (piece_out e size image rest addr from (copied_image e size image all) it.done size_is it.among.0 it.whole))
    (part_before old now (it.done ++ tile_piece e size from tile) next (part_behind old mid now it.done (tile_piece e size from tile) it.appended part))

pub putting_end : (e : Endian) (size blocks : ℕ) (image all left : List ℕ) (from : ℕ) (old now : Option (List ℕ)) → Putting e size blocks image all left from old now → left ≡ []
    → Appends old now (copied_image e size image all)
putting_end e size blocks image all left from old now before is =
    let it : Putting e size blocks image all [] from old now = subst (λ (l : List ℕ). Putting e size blocks image all l from old now) is before in
    subst (Appends old now) (sym (it.whole ∙ append-nil it.done)) it.appended

pub putting_start : (e : Endian) (size blocks : ℕ) (image all : List ℕ) (old : Option (List ℕ)) → AllByRecursion (IsSoundNodeAt e size image) all → FitBlocks e size blocks image all → Appends old old []
    → Putting e size blocks image all all 0 old old
putting_start e size blocks image all old nodes room none = record {
  among = nodes;
  each = room.each;
  room = room.room;
  cursor = (omega arith, refl);
  done = [];
  appended = none;
  whole = refl;
}

-- ---- a slice, from an index on

pub slice_left : (xs : List ℕ) (i : ℕ) → i < length xs → drop i xs ≡ slice_index xs i ∷ drop (i + 1) xs
slice_left xs i less = drop_more xs i 0 less

pub slice_end : (xs : List ℕ) (i : ℕ) → length xs ≤ i → drop i xs ≡ []
slice_end xs i past = drop_of_length-le xs past
