-- The sightings of a block are its extents that are nodes' tiles.
use Rattle.std.proofs.Common.{◌≡◌, ℕ, zero, suc, ◌+◌, ◌<◌, ◌≤◌, true, List, [], ◌∷◌, length, drop, refl, sym, ap, ap₂, ◌∙◌, arith, ⊎_elim, length-drop, Option, None}
use Rattle.std.specs.Prelude.{filter_map, ◌==◌, if◌then◌else◌}
use Rattle.std.specs.List.{list_all, cons_option}
use Rattle.std.proofs.lemmas.Bool.{cond-true, cond-false, cond_both, cases_Bool}
use Rattle.jnode.specs.declared.order.Endian.{Endian}
use Rattle.jnode.specs.Header.{magic_of}
use Rattle.jnode.specs.declared.node.Seen.{Seen}
use Rattle.jscan.specs.Tiling.{tile_at}
use Rattle.jscan.specs.Image.{sighting, sightings_from, sightings_in}
use Rattle.jscan.specs.Extents.{class_of, other_magic, extent_kind_of, extent_of, is_one_run, in_front, extents_from, extents, sighted_by, sighted}
use Rattle.jscan.specs.declared.tiles.TileKind.{TileKind}
use Rattle.jscan.specs.declared.tiles.TileKind.TheVariants.{Node, Word, Rest}
use Rattle.jscan.specs.declared.extent.ExtentKind.{ExtentKind}
use Rattle.jscan.specs.declared.extent.ExtentKind.TheVariants.{Erased, OtherOrder, Dirt}
use Rattle.jscan.specs.declared.extent.Extent.{Extent}
use Rattle.jscan.proofs.TileLemmas.{tile_then_rest, tile_some}
use Rattle.jscan.proofs.ExtentLaws.{front_then_rest, no_extents}
use Rattle.jscan.proofs.HeaderlessLemmas.{seen_among}

-- a run that goes on with another is no sighting, and nor is the other
run_unsighted : (kind other : ExtentKind) (a b : ℕ) → is_one_run kind other ≡ true → (sighted_by a kind ≡ None) × (sighted_by b other ≡ None)
run_unsighted Erased Erased a b one = (refl, refl)
run_unsighted OtherOrder OtherOrder a b one = (refl, refl)
run_unsighted Dirt Dirt a b one = (refl, refl)
run_unsighted kind other a b one = (cc, cc)

in_front_sighted : (s : Extent) (ss : List Extent) → filter_map sighted (in_front s ss) ≡ filter_map sighted (s ∷ ss)
in_front_sighted s [] = refl
in_front_sighted s (t ∷ ts) =
    ⊎_elim
    (λ one.
    let none = run_unsighted s.kind t.kind s.addr t.addr one in
    ap (filter_map sighted) (cond-true (is_one_run s.kind t.kind) (record { addr = s.addr; len = s.len + t.len; kind = s.kind } ∷ ts) (s ∷ t ∷ ts) one)
    ∙ ap (λ (o : Option (ℕ × Seen)). cons_option o (filter_map sighted ts)) none.0
    ∙ sym (ap₂ (λ (o p : Option (ℕ × Seen)). cons_option o (cons_option p (filter_map sighted ts))) none.0 none.1))
    (λ two. ap (filter_map sighted) (cond-false (is_one_run s.kind t.kind) (record { addr = s.addr; len = s.len + t.len; kind = s.kind } ∷ ts) (s ∷ t ∷ ts) two))
    (cases_Bool (is_one_run s.kind t.kind))

class_unsighted : (e : Endian) (addr : ℕ) (bytes : List ℕ) → None ≡ sighted_by addr (class_of e bytes)
unfolding class_of
class_unsighted e addr bytes =
    cond_both (list_all (λ b. b == 0xFF) bytes) Erased (if magic_of e bytes == other_magic then OtherOrder else Dirt) (λ (kind : ExtentKind). None ≡ sighted_by addr kind)
    (λ h. refl)
    (λ h. cond_both (magic_of e bytes == other_magic) OtherOrder Dirt (λ (kind : ExtentKind). None ≡ sighted_by addr kind) (λ i. refl) (λ i. refl))

tile_sighted : (e : Endian) (addr : ℕ) (bytes : List ℕ) (kind : TileKind) → sighting e addr bytes kind ≡ sighted_by addr (extent_kind_of e kind bytes)
tile_sighted e addr bytes (Node header) = refl
tile_sighted e addr bytes Word = class_unsighted e addr bytes
tile_sighted e addr bytes Rest = class_unsighted e addr bytes

sighted_from : (n : ℕ) (e : Endian) (start place : ℕ) (rest : List ℕ) → length rest ≤ n
    → sightings_from e start place rest ≡ filter_map sighted (extents_from e start place rest)
sighted_from n e start place [] h = sym (ap (filter_map sighted) (no_extents e start place))
sighted_from zero e start place (b ∷ bs) h = absurd (omega arith)
sighted_from (suc n) e start place (b ∷ bs) h =
    let rest : List ℕ = b ∷ bs in
    let tile = tile_at e place rest in
    let some : 0 < length tile.bytes = tile_some e place rest (omega arith) in
    let next = sighted_from n e start (place + length tile.bytes) (drop (length tile.bytes) rest) (omega (arith, length-drop (length tile.bytes) rest)) in
    ap (seen_among e start) (tile_then_rest e place rest (omega arith))
    ∙ ap₂ (λ (o : Option (ℕ × Seen)) (l : List (ℕ × Seen)). cons_option o l) (tile_sighted e (start + tile.place) tile.bytes tile.kind) next
    ∙ sym (in_front_sighted (extent_of e start tile) (extents_from e start (place + length tile.bytes) (drop (length tile.bytes) rest)))
    ∙ sym (ap (filter_map sighted) (front_then_rest e start place rest (omega arith)))

pub sightings_are_extents : (e : Endian) (start : ℕ) (block : List ℕ) → sightings_in e start block ≡ filter_map sighted (extents e start block)
sightings_are_extents e start block = sighted_from (length block) e start 0 block (omega arith)
