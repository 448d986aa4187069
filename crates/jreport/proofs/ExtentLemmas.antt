-- How many extents a block has, and how long the names are that their lines show.
use Rattle.std.proofs.Common.{◌≡◌, ℕ, zero, suc, ◌+◌, ◌-◌, ◌<◌, ◌≤◌, Bool, true, false, cond, not, ◌&&◌, List, [], ◌∷◌, length, map, refl, sym, ap, arith, subst, drop, get_or, length-take, rules, nat_le, nat_lt, ◌==◌}
use Rattle.std.specs.List.{list_all}
use Rattle.std.proofs.lemmas.List.{length-map}
use Rattle.std.proofs.lemmas.List.Sums.{count_by-le-length}
use Rattle.std.proofs.lemmas.Bool.{leb-true}
use Rattle.jnode.specs.Order.{number_at}
use Rattle.jnode.specs.declared.order.Endian.{Endian}
use Rattle.jnode.specs.Header.{magic_of, nodetype_of}
use Rattle.jnode.specs.Reading.{nsize_of, name_of, dirent_of, is_crc_right, seen_of, entry_seen, is_entry_in_range, inode_seen, passed_seen, plain_seen, other_seen}
use Rattle.jnode.specs.declared.node.Seen.{Seen}
use Rattle.jnode.specs.declared.node.Seen.TheVariants.{Entry, Damaged}
use Rattle.jnode.specs.declared.node.Damage.TheVariants.{Range, NameCrc}
use Rattle.jscan.specs.Tiling.{Tile, tiling_from, tile_at}
use Rattle.jscan.specs.Extents.{other_magic, extents, extents_from, extent_of, extent_kind_of, class_of, in_front, runs_joined, is_one_run}
use Rattle.jscan.specs.declared.tiles.TileKind.{TileKind}
use Rattle.jscan.specs.declared.tiles.TileKind.TheVariants.{Node, Word, Rest}
use Rattle.jscan.specs.declared.extent.ExtentKind.{ExtentKind}
use Rattle.jscan.specs.declared.extent.ExtentKind.TheVariants.{Tiled, Erased, OtherOrder, Dirt}
use Rattle.jscan.specs.declared.extent.Extent.{Extent}
use Rattle.jscan.specs.Counts.{count_in}
use Rattle.jreport.specs.Forms.{shown_name}

-- a tile has a byte of its own
length_tiling_from : (e : Endian) (place inside : ℕ) (rest : List ℕ) → length (tiling_from e place inside rest) ≤ length rest
length_tiling_from e place inside [] = omega arith
length_tiling_from e place (suc inside) (b ∷ rest) = omega (arith, length_tiling_from e (place + 1) inside rest)
length_tiling_from e place zero (b ∷ rest) =
    let more = length_tiling_from e (place + 1) (length (tile_at e place (b ∷ rest)).bytes - 1) rest in omega (arith, more)

length_in_front : (s : Extent) (ss : List Extent) → length (in_front s ss) ≤ length ss + 1
length_in_front s [] = omega arith
length_in_front s (t ∷ ss) = by (is_one_run s.kind t.kind)
  where
    by : (b : Bool) → length (cond b (record { addr = s.addr; len = s.len + t.len; kind = s.kind } ∷ ss) (s ∷ t ∷ ss)) ≤ length (t ∷ ss) + 1
    by true = omega arith
    by false = omega arith

length_runs_joined : (ss : List Extent) → length (runs_joined ss) ≤ length ss
length_runs_joined [] = omega arith
length_runs_joined (s ∷ ss) = omega (arith, length_in_front s (runs_joined ss), length_runs_joined ss)

pub length_extents : (e : Endian) (start : ℕ) (block : List ℕ) → length (extents e start block) ≤ length block
unfolding extents_from
length_extents e start block =
    let tiles = tiling_from e 0 0 block in
    omega (arith, length_runs_joined (map (extent_of e start) tiles), length-map tiles (extent_of e start), length_tiling_from e 0 0 block)

pub count_in-le : (test : ExtentKind → Bool) (ss : List Extent) → count_in test ss ≤ length ss
count_in-le test ss = count_by-le-length (λ s. test s.kind) ss

-- ---- the name that a line shows has 255 bytes at most

pub record IsShort (kind : ExtentKind) : Type 0 where
  pub short : length (shown_name kind) ≤ 255

nameless : (kind : ExtentKind) → shown_name kind ≡ [] → IsShort kind
nameless kind none = record { short = omega (arith, ap length none) }

either : (b : Bool) (s t : Seen) → IsShort (Tiled s) → IsShort (Tiled t) → IsShort (Tiled (cond b s t))
either true s t p q = p
either false s t p q = q

middle_of_three : (a b c : Bool) → (a && b && c) ≡ true → b ≡ true
middle_of_three true true true e = refl
middle_of_three true true false e = refl
middle_of_three true false c e = cc
middle_of_three false b c e = cc

-- the name is one only where it is in range
short_entry : (e : Endian) (tile : List ℕ) (in_range crc : Bool) → (in_range ≡ true → nsize_of tile ≤ 254)
    → IsShort (Tiled (cond (not in_range) (Damaged Range) (cond (not crc) (Damaged NameCrc) (Entry (dirent_of e tile)))))
short_entry e tile false crc small = nameless _ refl
short_entry e tile true false small = nameless _ refl
short_entry e tile true true small = record { short = omega (arith, length-take (nsize_of tile) (drop 40 tile), small refl) }

short_entry_seen : (e : Endian) (tile : List ℕ) → IsShort (Tiled (entry_seen e tile))
unfolding entry_seen is_entry_in_range
short_entry_seen e tile =
    let last = short_entry e tile (is_entry_in_range e tile) (is_crc_right e tile 36 (name_of tile))
    (λ in_range. leb-true (nsize_of tile) 254 (middle_of_three (nat_le 1 (nsize_of tile)) (nat_le (nsize_of tile) 254) (nat_lt 0 (number_at e 4 12 tile)) in_range)) in
    search (rules, either, nameless, last)

short_inode_seen : (e : Endian) (tile : List ℕ) → IsShort (Tiled (inode_seen e tile))
unfolding inode_seen passed_seen
short_inode_seen e tile = search (rules, either, nameless)

short_plain_seen : (nodetype : ℕ) → IsShort (Tiled (plain_seen nodetype))
unfolding plain_seen other_seen
short_plain_seen nodetype = search (rules, either, nameless)

short_seen_of : (e : Endian) (tile : List ℕ) → IsShort (Tiled (seen_of e tile))
unfolding seen_of
short_seen_of e tile =
    let entry = short_entry_seen e tile in
    let inode = short_inode_seen e tile in
    let plain = short_plain_seen (nodetype_of e tile) in
    search (rules, either, nameless, entry, inode, plain)

short_class_of : (e : Endian) (bytes : List ℕ) → IsShort (class_of e bytes)
unfolding class_of
short_class_of e bytes = by (list_all (λ b. b == 0xFF) bytes) (magic_of e bytes == other_magic)
  where
    by : (b c : Bool) → IsShort (cond b Erased (cond c OtherOrder Dirt))
    by true c = nameless _ refl
    by false true = nameless _ refl
    by false false = nameless _ refl

short_extent_kind_of : (e : Endian) (kind : TileKind) (bytes : List ℕ) → IsShort (extent_kind_of e kind bytes)
short_extent_kind_of e (Node header) bytes = short_seen_of e bytes
short_extent_kind_of e Word bytes = short_class_of e bytes
short_extent_kind_of e Rest bytes = short_class_of e bytes

abbrev AreShort : List Extent → Type 0
AreShort [] = Unit {0}
AreShort (s ∷ ss) = IsShort s.kind × AreShort ss

short_in_front : (s : Extent) (ss : List Extent) → IsShort s.kind → AreShort ss → AreShort (in_front s ss)
short_in_front s [] one more = (one, tt)
short_in_front s (t ∷ ss) one more = by (is_one_run s.kind t.kind)
  where
    by : (b : Bool) → AreShort (cond b (record { addr = s.addr; len = s.len + t.len; kind = s.kind } ∷ ss) (s ∷ t ∷ ss))
    by true = (one, more.1)
    by false = (one, more)

short_runs_joined : (e : Endian) (start : ℕ) (tiles : List Tile) → AreShort (runs_joined (map (extent_of e start) tiles))
short_runs_joined e start [] = tt
short_runs_joined e start (t ∷ tiles) =
    short_in_front (extent_of e start t) _ (short_extent_kind_of e t.kind t.bytes) (short_runs_joined e start tiles)

short_at : (ss : List Extent) (i : ℕ) (d : Extent) → i < length ss → AreShort ss → IsShort (get_or ss i d).kind
short_at [] i d within all = absurd (omega arith)
short_at (s ∷ ss) zero d within all = all.0
short_at (s ∷ ss) (suc i) d within all = short_at ss i d (omega arith) all.1

-- the extent at a place of a block's
pub short_extents : (e : Endian) (start : ℕ) (block : List ℕ) (i : ℕ) (s : Extent) → i < length (extents e start block)
    → s ≡ get_or (extents e start block) i s → length (shown_name s.kind) ≤ 255
unfolding extents_from
short_extents e start block i s within here =
    let one = short_at (extents e start block) i s within (short_runs_joined e start (tiling_from e 0 0 block)) in
    (subst (λ (x : Extent). IsShort x.kind) (sym here) one).short
