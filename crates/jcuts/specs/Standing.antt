-- From where on a node stands whole, and whether a cut of it can go unseen.
use Rattle.std.specs.Prelude.{◌≡◌, ℕ, zero, suc, ◌+◌, ◌-◌, ◌==◌, ◌≤◌, ◌<◌, Option, List, [], ◌∷◌, length, find, if◌then◌else◌}
use Rattle.std.specs.List.{range_with_len}
use Rattle.jnode.specs.Weak.{torn, is_weak, IsWrittenForm}
use Rattle.jnode.specs.declared.order.Endian.{Endian}
use Rattle.jlog.specs.Places.{place_after, end_after}
use Rattle.jlog.specs.Left.{bytes_at}
use Rattle.jlog.specs.declared.report.Place.{Place}
use Rattle.jcuts.specs.declared.standing.Standing.{Standing}

-- rule: The log: The byte from which on a node is whole: after its last one that is not 0xFF.
--   definitions: jcuts.Standing.whole_len, jcuts.Standing.IsWholeLen, jcuts.Standing.standings
--   code: jcuts::standing::standings_in
--   laws: jcuts::laws::standing_is_least, jcuts::laws::standing_is_counted,
--   jcuts::examples::known_whole_lens
-- how many of its first bytes make a node whole on erased flash: those up to its last byte that is
-- not 0xFF
abbrev pub whole_len : List ℕ → ℕ
whole_len [] = 0
whole_len (byte ∷ bytes) =
    elim (whole_len bytes) [ zero ↦ if byte == 0xFF then 0 else 1 | suc n ↦ suc (suc n) ]

-- The first n bytes, and erased flash after them, are the node; fewer are not.
pub record IsWholeLen (node : List ℕ) (n : ℕ) : Type 0 where
  pub whole : torn node n ≡ node
  pub least : (k : ℕ) → torn node k ≡ node → n ≤ k

-- the least cut of a node that its checks do not show, if there is one
abbrev pub least_weak : Endian → List ℕ → Option ℕ
least_weak e node = find (is_weak e node) (range_with_len 0 (length node))

-- A node at an address stands whole exactly where the bytes below the address after its last byte
-- that is not 0xFF were put.
abbrev pub standing_at : Endian → ℕ → List ℕ → Standing
standing_at e at node = record {
  addr = at;
  totlen = length node;
  stands_from = at + whole_len node;
  weak = least_weak e node;
}

-- nodes that go out from an address on, each at its place
abbrev pub standings : Endian → ℕ → ℕ → List (List ℕ) → List Standing
standings e size from [] = []
standings e size from (node ∷ nodes) =
    standing_at e (place_after size from (length node)) node
    ∷ standings e size (end_after size from (length node)) nodes

-- ---- the same of the bytes that go out

-- a place within these bytes, which go out from an address on, and a node that is there, compressed
-- or not
pub record IsNodeIn (e : Endian) (from : ℕ) (out : List ℕ) (place : Place) : Type 0 where
  pub up : from ≤ place.addr
  pub within : place.addr - from + place.totlen ≤ length out
  pub low : place.addr + place.totlen < 0x1_0000_0000
  pub node : IsWrittenForm e (bytes_at from out (place.addr, place.totlen))

abbrev pub standing_in : Endian → ℕ → List ℕ → Place → Standing
standing_in e from out place =
    standing_at e place.addr (bytes_at from out (place.addr, place.totlen))
