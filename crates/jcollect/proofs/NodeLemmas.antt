-- The tile of a node that is sighted.
use Rattle.std.proofs.Common.{ℕ, ◌+◌, ◌/◌, ◌%◌, ◌≤◌, List, [], ◌∷◌, length, arith, length-take, length-drop}
use Rattle.std.specs.Prelude.{IsTrue}
use Rattle.std.specs.List.{AllByRecursion}
use Rattle.flashbase.specs.Bytes.{pad4_of}
use Rattle.jnode.specs.Header.{header_len, totlen_of}
use Rattle.jnode.specs.declared.order.Endian.{Endian}
use Rattle.jscan.specs.Image.{is_block_size, block_of}
use Rattle.jscan.proofs.PartLemmas.{block_length}
use Rattle.jexpand.specs.Expanded.{rest_at}
use Rattle.jexpand.proofs.SightedLemmas.{IsSightedAt, sighted_at, size_words}
use Rattle.jcollect.specs.Planning.{IsSoundNodeAt}
use Rattle.jcollect.specs.Tiles.{tile_in, tiles_at, IsSoundTile, IsStorableTile}
use Rattle.jcollect.proofs.TileLemmas.{sighted_is_tile}

pub node_here : (e : Endian) (size : ℕ) (image : List ℕ) (addr : ℕ) → IsTrue (is_block_size size) → (at : IsSoundNodeAt e size image addr) → IsSightedAt e size image addr at.0
node_here e size image addr size_is at = sighted_at e size image addr at.0 (size_words size size_is) at.1

pub node_is_tile : (e : Endian) (size : ℕ) (image : List ℕ) (addr : ℕ) → IsTrue (is_block_size size) → IsSoundNodeAt e size image addr → IsSoundTile e (tile_in e size image addr)
node_is_tile e size image addr size_is at = (sighted_is_tile e size addr image at.0 size_is at.1 at.2).0

pub rest_long : (size : ℕ) (image : List ℕ) (addr : ℕ) → length (rest_at size image addr) ≤ size
rest_long size image addr =
    let block : List ℕ = block_of size image (addr / size) in
    omega (arith, length-drop (addr % size) block, block_length size image (addr / size))

pub tile_long : (e : Endian) (size : ℕ) (image : List ℕ) (addr : ℕ) → length (tile_in e size image addr) ≤ size
tile_long e size image addr =
    let rest : List ℕ = rest_at size image addr in
    omega (arith, length-take (pad4_of (totlen_of e rest)) rest, rest_long size image addr)

pub nodes_storable : (e : Endian) (size : ℕ) (image addresses : List ℕ) → IsTrue (is_block_size size) → AllByRecursion (IsSoundNodeAt e size image) addresses
    → AllByRecursion (λ (addr : ℕ). header_len + length (tile_in e size image addr) ≤ size) addresses
    → AllByRecursion (IsStorableTile e size) (tiles_at e size image addresses)
nodes_storable e size image [] size_is nodes room = tt
nodes_storable e size image (addr ∷ addresses) size_is nodes room =
    (record { is = node_is_tile e size image addr size_is nodes.0; room = room.0 }, nodes_storable e size image addresses size_is nodes.1 room.1)
