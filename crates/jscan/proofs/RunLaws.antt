-- An extent consists of the bytes of tiles that kind like it.
use Rattle.std.proofs.Common.{◌≡◌, ℕ, ◌+◌, Bool, true, false, List, [], ◌∷◌, ◌++◌, length, take, drop, map, refl, sym, ap, ap₂, subst, ◌∙◌, arith, ⊎_elim, append_assoc, append-nil, length-append}
use Rattle.std.specs.Prelude.{Contains, sum_by, ◌==◌, if◌then◌else◌}
use Rattle.std.specs.List.{list_all}
use Rattle.std.proofs.Math.Seq.{take-append_seam, drop-append_seam}
use Rattle.std.proofs.lemmas.Bool.{and_parts, eqb-true, cond-true, cond-false, cond_both, cases_Bool}
use Rattle.std.proofs.lemmas.Grind.{flat_map-append}
use Rattle.std.proofs.lemmas.List.{replicate-append-replicate}
use Rattle.std.proofs.lemmas.List.Sums.{sum_by-cons}
use Rattle.flashbase.specs.Bytes.{erased}
use Rattle.jnode.specs.Header.{magic_of}
use Rattle.jnode.specs.declared.order.Endian.{Endian}
use Rattle.jscan.specs.Laws.{MakeExtent}
use Rattle.jscan.specs.Extents.{class_of, extent_kind_of, other_magic, extent_of, is_one_run, in_front, runs_joined, extents_from, extents}
use Rattle.jscan.specs.Tiling.{Tile, bytes_of, tiling}
use Rattle.jscan.specs.declared.extent.ExtentKind.{ExtentKind}
use Rattle.jscan.specs.declared.extent.ExtentKind.TheVariants.{Tiled, Erased, OtherOrder, Dirt}
use Rattle.jscan.specs.declared.extent.Extent.{Extent}
use Rattle.jscan.specs.declared.tiles.TileKind.{TileKind}
use Rattle.jscan.specs.declared.tiles.TileKind.TheVariants.{Node, Word, Rest}
use Rattle.flashbase.proofs.MemberLemmas.{Contains-none, Contains-here, Contains-there, Contains-cases}
use Rattle.jscan.proofs.ExtentLemmas.{one_run_same}
use Rattle.jscan.proofs.TilingLaws.{whole_of}

abbrev len_sum : List Extent → ℕ
len_sum = sum_by (λ s. s.len)

AllAreOfKind : Endian → ExtentKind → List Tile → Type 0
AllAreOfKind e kind tiles = (tile : Tile) → Contains tiles tile → extent_kind_of e tile.kind tile.bytes ≡ kind

-- the extents take up the tiles in turn
Covers : Endian → List Tile → List Extent → Type 0
Covers e tiles [] = tiles ≡ []
Covers e tiles (s ∷ ss) = (run left : List Tile) × (tiles ≡ run ++ left) × (length (bytes_of run) ≡ s.len) × AllAreOfKind e s.kind run × Covers e left ss

one_tile : (tile : Tile) → length (bytes_of (tile ∷ [])) ≡ length tile.bytes
one_tile tile = ap length (append-nil tile.bytes)

kind_alone : (e : Endian) (tile : Tile) → AllAreOfKind e (extent_kind_of e tile.kind tile.bytes) (tile ∷ [])
unfolding AllAreOfKind
kind_alone e tile t has =
    ⊎_elim
    (λ (same : tile ≡ t). ap (λ (x : Tile). extent_kind_of e x.kind x.bytes) (sym same))
    (λ none. absurd (Contains-none t none))
    (Contains-cases tile [] t has)

kind_more : (e : Endian) (kind : ExtentKind) (tile : Tile) (tiles : List Tile) → extent_kind_of e tile.kind tile.bytes ≡ kind → AllAreOfKind e kind tiles → AllAreOfKind e kind (tile ∷ tiles)
unfolding AllAreOfKind
kind_more e kind tile tiles first others t has =
    ⊎_elim
    (λ (same : tile ≡ t). ap (λ (x : Tile). extent_kind_of e x.kind x.bytes) (sym same) ∙ first)
    (λ later. others t later)
    (Contains-cases tile tiles t has)

in_front_covers : (e : Endian) (start : ℕ) (tile : Tile) (tiles : List Tile) (ss : List Extent) → Covers e tiles ss
    → Covers e (tile ∷ tiles) (in_front (extent_of e start tile) ss)
unfolding Covers
in_front_covers e start tile tiles [] covers = (tile ∷ [], tiles, refl, one_tile tile, kind_alone e tile, covers)
in_front_covers e start tile tiles (u ∷ us) covers =
    let s = extent_of e start tile in
    ⊎_elim
    (λ one. subst (Covers e (tile ∷ tiles)) (sym (cond-true (is_one_run s.kind u.kind) (record { addr = s.addr; len = s.len + u.len; kind = s.kind } ∷ us) (s ∷ u ∷ us) one)) (
      tile ∷ covers.0,
      covers.1,
      ap (λ (l : List Tile). tile ∷ l) covers.2,
      length-append tile.bytes (bytes_of covers.0) ∙ ap (λ (n : ℕ). length tile.bytes + n) covers.3,
      kind_more e s.kind tile covers.0 refl (subst (λ (kind : ExtentKind). AllAreOfKind e kind covers.0) (sym (one_run_same s.kind u.kind one)) covers.4),
      covers.5,
    ))
    (λ two. subst (Covers e (tile ∷ tiles)) (sym (cond-false (is_one_run s.kind u.kind) (record { addr = s.addr; len = s.len + u.len; kind = s.kind } ∷ us) (s ∷ u ∷ us) two))
    (tile ∷ [], tiles, refl, one_tile tile, kind_alone e tile, covers))
    (cases_Bool (is_one_run s.kind u.kind))

covers_all : (e : Endian) (start : ℕ) (tiles : List Tile) → Covers e tiles (runs_joined (map (extent_of e start) tiles))
unfolding Covers
covers_all e start [] = refl
covers_all e start (tile ∷ tiles) = in_front_covers e start tile tiles (runs_joined (map (extent_of e start) tiles)) (covers_all e start tiles)

heads : (x y : Extent) (xs ys : List Extent) → (x ∷ xs) ≡ (y ∷ ys) → (x ≡ y) × (xs ≡ ys)
heads x y xs ys e = (cc, cc)

-- the tiles of one of the extents, among all
record IsRun (e : Endian) (all : List Tile) (place : ℕ) (s : Extent) (before tiles after : List Tile) : Type 0 where
  stand : all ≡ before ++ (tiles ++ after)
  begin : length (bytes_of before) ≡ place
  long : length (bytes_of tiles) ≡ s.len
  kind : AllAreOfKind e s.kind tiles

run_at : (e : Endian) (all : List Tile) (ss before after : List Extent) (s : Extent) → Covers e all ss → ss ≡ before ++ s ∷ after
    → (tb ts ta : List Tile) × IsRun e all (len_sum before) s tb ts ta
unfolding Covers
run_at e all [] [] after s covers same = absurd (cc)
run_at e all [] (b ∷ bs) after s covers same = absurd (cc)
run_at e all (u ∷ us) [] after s covers same =
    let is = (heads _ _ _ _ same).0 in (
      [],
      covers.0,
      covers.1,
      record {
        stand = covers.2;
        begin = refl;
        long = covers.3 ∙ ap (λ (x : Extent). x.len) is;
        kind = subst (λ (x : Extent). AllAreOfKind e x.kind covers.0) is covers.4;
      },
    )
run_at e all (u ∷ us) (b ∷ bs) after s covers same =
    let parts = heads _ _ _ _ same in
    let next = run_at e covers.1 us bs after s covers.5 parts.1 in
    let run = next.3 in (
      covers.0 ++ next.0,
      next.1,
      next.2,
      record {
        stand = covers.2 ∙ ap (λ (l : List Tile). covers.0 ++ l) run.stand ∙ sym (append_assoc covers.0 next.0 (next.1 ++ next.2));
        begin = ap length (flat_map-append (λ (x : Tile). x.bytes) covers.0 next.0) ∙ length-append (bytes_of covers.0) (bytes_of next.0)
            ∙ ap₂ (λ (m n : ℕ). m + n) (covers.3 ∙ ap (λ (x : Extent). x.len) parts.0) run.begin ∙ sym (sum_by-cons (λ (x : Extent). x.len) b bs);
        long = run.long;
        kind = run.kind;
      },
    )

covers_block : (e : Endian) (start : ℕ) (block : List ℕ) → Covers e (tiling e block) (extents e start block)
unfolding extents_from
covers_block e start block = covers_all e start (tiling e block)

pub extents_are_tiles : (e : Endian) (start : ℕ) (block : List ℕ) (before after : List Extent) (s : Extent) → extents e start block ≡ before ++ s ∷ after
    → (tb ts ta : List Tile) × MakeExtent e block (len_sum before) s tb ts ta
unfolding AllAreOfKind
extents_are_tiles e start block before after s same =
    let found = run_at e (tiling e block) (extents e start block) before after s (covers_block e start block) same in
    let run = found.3 in
    (found.0, found.1, found.2, record { stand = run.stand; begin = run.begin; long = run.long; kind = run.kind })

-- ---- erased runs

all_erased : (bytes : List ℕ) → list_all (λ b. b == 0xFF) bytes ≡ true → bytes ≡ erased (length bytes)
all_erased [] all = refl
all_erased (b ∷ bytes) all =
    let parts = and_parts (b == 0xFF) (list_all (λ b. b == 0xFF) bytes) all in
    ap₂ (λ (x : ℕ) (xs : List ℕ). x ∷ xs) (eqb-true b 255 parts.0) (all_erased bytes parts.1)

is_erased_kind : ExtentKind → Bool
is_erased_kind Erased = true
is_erased_kind (Tiled what) = false
is_erased_kind OtherOrder = false
is_erased_kind Dirt = false

class_erased : (e : Endian) (bytes : List ℕ) → class_of e bytes ≡ Erased → bytes ≡ erased (length bytes)
unfolding class_of is_erased_kind
class_erased e bytes is =
    ⊎_elim
    (λ all. all_erased bytes all)
    (λ some.
    let other : is_erased_kind (class_of e bytes) ≡ false =
    ap is_erased_kind (cond-false (list_all (λ b. b == 0xFF) bytes) Erased (if magic_of e bytes == other_magic then OtherOrder else Dirt) some)
    ∙ cond_both (magic_of e bytes == other_magic) OtherOrder Dirt (λ (kind : ExtentKind). is_erased_kind kind ≡ false) (λ h. refl) (λ h. refl) in
    let bad : true ≡ false = ap is_erased_kind (sym is) ∙ other in absurd (cc))
    (cases_Bool (list_all (λ b. b == 0xFF) bytes))

tile_erased : (e : Endian) (kind : TileKind) (bytes : List ℕ) → extent_kind_of e kind bytes ≡ Erased → bytes ≡ erased (length bytes)
tile_erased e (Node header) bytes is = absurd (cc)
tile_erased e Word bytes is = class_erased e bytes is
tile_erased e Rest bytes is = class_erased e bytes is

tiles_erased : (e : Endian) (tiles : List Tile) → ((tile : Tile) → Contains tiles tile → extent_kind_of e tile.kind tile.bytes ≡ Erased) → bytes_of tiles ≡ erased (length (bytes_of tiles))
tiles_erased e [] kind = refl
tiles_erased e (tile ∷ tiles) kind =
    ap₂ (λ (a b : List ℕ). a ++ b) (tile_erased e tile.kind tile.bytes (kind tile (Contains-here tile tiles))) (tiles_erased e tiles (λ t has. kind t (Contains-there tile tiles t has)))
    ∙ replicate-append-replicate (length tile.bytes) (length (bytes_of tiles)) 0xFF
    ∙ ap erased (sym (length-append tile.bytes (bytes_of tiles)))

pub erased_runs_are_erased : (e : Endian) (start : ℕ) (block : List ℕ) (before after : List Extent) (s : Extent) → extents e start block ≡ before ++ s ∷ after
    → s.kind ≡ Erased → take s.len (drop (len_sum before) block) ≡ erased s.len
erased_runs_are_erased e start block before after s same is =
    let found = extents_are_tiles e start block before after s same in
    let made = found.3 in
    let tiles = found.1 in
    let bytes : block ≡ bytes_of found.0 ++ (bytes_of tiles ++ bytes_of found.2) =
    sym (whole_of (length block) e 0 block (omega arith)) ∙ ap bytes_of made.stand
    ∙ flat_map-append (λ (x : Tile). x.bytes) found.0 (tiles ++ found.2)
    ∙ ap (λ (l : List ℕ). bytes_of found.0 ++ l) (flat_map-append (λ (x : Tile). x.bytes) tiles found.2) in
    let behind : drop (len_sum before) block ≡ bytes_of tiles ++ bytes_of found.2 =
    ap (λ (n : ℕ). drop n block) (sym made.begin) ∙ ap (drop (length (bytes_of found.0))) bytes
    ∙ drop-append_seam (bytes_of found.0) (bytes_of tiles ++ bytes_of found.2) in
    ap₂ (λ (n : ℕ) (l : List ℕ). take n l) (sym made.long) behind ∙ take-append_seam (bytes_of tiles) (bytes_of found.2)
    ∙ tiles_erased e tiles (λ t has. made.kind t has ∙ is) ∙ ap erased made.long
