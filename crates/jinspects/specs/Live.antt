-- Which nodes of an image are live on its map.
use Rattle.std.specs.Prelude.{◌≡◌, ℕ, List, map}
use Rattle.jnode.specs.declared.order.Endian.{Endian}
use Rattle.jexpand.specs.Expanded.{unpacked_bytes}
use Rattle.jthrough.specs.Addressed.{addressed_nodes}
use Rattle.jthrough.specs.View.{BeginWith}
use Rattle.jcompact.specs.Matters.{AreWhatMatters, Placed}

-- the contents of the compressed nodes of an image stand in front, one after another
abbrev pub HoldsContents : Endian → ℕ → List ℕ → List ℕ → Type 0
HoldsContents e size image held = BeginWith (unpacked_bytes e size image) held

-- these are the addresses of the nodes that matter of an image through its compression
abbrev pub AreLive : Endian → ℕ → List ℕ → List ℕ → Type 0
AreLive e size image live = (kept : List Placed)
    × AreWhatMatters (addressed_nodes e size image) kept × (live ≡ map (λ n. n.0) kept)
