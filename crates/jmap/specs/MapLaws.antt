-- Laws of maps. Each is a statement: it holds since a public function's contract names it.
use Rattle.std.specs.Prelude.{◌≡◌, ℕ, ◌+◌, List, length}
use Rattle.jnode.specs.declared.order.Endian.{Endian}
use Rattle.jscan.specs.Counts.{extents_of_block}
use Rattle.jmap.specs.ByteKinds.{byte_kinds, tally_of}
use Rattle.jmap.specs.MapText.{bar_of}
use Rattle.jmap.specs.declared.kind.ByteKind.{ByteKind}

-- Each byte of a block has one kind,
abbrev pub KindsAreOfBlock : Type 0
KindsAreOfBlock = (e : Endian) (size : ℕ) (image kept : List ℕ) (k : ℕ)
    → length (byte_kinds kept (extents_of_block e size image k)) ≡ size

-- so the five numbers of its line sum to its bytes.
abbrev pub TallyIsAll : Type 0
TallyIsAll = (e : Endian) (size : ℕ) (image kept : List ℕ) (k : ℕ)
    → let t = tally_of (byte_kinds kept (extents_of_block e size image k)) in
    t.live + t.superseded + t.obsolete + t.damaged + t.free ≡ size

abbrev pub BarIsLong : Type 0
BarIsLong = (size : ℕ) (kinds : List ByteKind) → length (bar_of size kinds) ≡ 50
