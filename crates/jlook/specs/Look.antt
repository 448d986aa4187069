-- What is found out of an image that is looked at, before it is mounted.
use Rattle.std.specs.Prelude.{◌≡◌, ◌++◌, ◌||◌, ℕ, false, List, [], ◌∷◌, length, ◌≤◌, Contains, Option, Some, None, option_to_list}
use Rattle.jnode.specs.declared.node.Seen.{Seen}
use Rattle.jnode.specs.declared.node.Seen.TheVariants as seen
use Rattle.jnode.specs.declared.order.Endian.{Endian}
use Rattle.jscan.specs.Image.{sightings}
use Rattle.jscan.specs.Scans.{IsScannable, findings, forbids_writing, is_read_only}
use Rattle.jexpand.specs.Expanded.{tile_content, contents_of_tiles}
use Rattle.jview.specs.Through.{greatest_contents, through_fault}
use Rattle.jthrough.specs.Refusals.{IsRefusedBy}
use Rattle.jthrough.specs.View.{BeginWith, HasTiles, RefusesTile, kept_tile}
use Rattle.jthrough.specs.declared.fault.ViewFault.{ViewFault}
use Rattle.jlook.specs.Looked.{Wants, looked_tiles}
use Rattle.jlook.specs.declared.look.Look.{Look}
use Rattle.jlook.specs.declared.sighted.Sighted.{Sighted}

-- a tile that is looked at as compressed is sighted so
abbrev pub IsSightedIfPacked : Endian → ℕ → List ℕ → ℕ × Seen → Type 0
IsSightedIfPacked e size image s = (compr : ℕ) → s.1 ≡ seen.Compressed compr
    → Contains (sightings e size image) (s.0, seen.Compressed compr)

-- tiles that are looked at and have no fault by themselves, with their contents
pub record AreLookedAt (e : Endian) (size : ℕ) (image : List ℕ) (tiles : List (ℕ × Seen))
    (held : List ℕ) : Type 0 where
  pub sighted : (s : ℕ × Seen) → Contains tiles s → IsSightedIfPacked e size image s
  pub none : (s : ℕ × Seen) → Contains tiles s → through_fault e size image s ≡ None
  pub contents : BeginWith (contents_of_tiles e size image tiles) held

-- ---- an image that was gone over once

pub record IsSightedOf (e : Endian) (size : ℕ) (image : List ℕ) (sighted : Sighted) : Type 0 where
  pub scannable : IsScannable size image
  pub tiles : sighted.tiles.items ≡ sightings e size image
  pub findings : sighted.findings.items ≡ findings e size image

-- ---- a look

-- of no tile
pub record IsLookBegun (look : Look) : Type 0 where
  pub tiles : look.tiles.items ≡ []
  pub findings : look.findings.items ≡ []
  pub read_only : look.read_only ≡ false
  pub refused : look.refused ≡ None

-- One tile more, which has no fault as it is looked at: it is kept if it gives a node, and its
-- content is added.
pub record AddsLooked (e : Endian) (size : ℕ) (image : List ℕ) (s : ℕ × Seen) (old new : Look)
    (before after : List ℕ) : Type 0 where
  pub none : through_fault e size image s ≡ None
  pub tiles : new.tiles.items ≡ old.tiles.items ++ option_to_list (kept_tile s)
  pub read_only : new.read_only ≡ (old.read_only || forbids_writing s.1)
  pub contents : after ≡ before ++ tile_content e size image s
  pub few : length after ≤ greatest_contents

-- One tile more: it is added, or it refuses the image.
pub record TakesLooked (e : Endian) (size : ℕ) (image : List ℕ) (s : ℕ × Seen) (old new : Look)
    (before after : List ℕ) : Type 0 where
  pub adds : new.refused ≡ None → AddsLooked e size image s old new before after
  pub refuses : (why : ViewFault) → new.refused ≡ Some why
      → RefusesTile e size image s before after why × (new.tiles.items ≡ old.tiles.items)
  pub findings : new.findings.items ≡ old.findings.items

-- what comes after some tiles: nothing, and the whole is known; or the tile that refuses the image
abbrev pub EndsLook : Endian → ℕ → List ℕ → List (ℕ × Seen) → List (ℕ × Seen) → Look
    → Option ViewFault → Type 0
EndsLook e size image done rest look None =
    (rest ≡ []) × (look.findings.items ≡ findings e size image)
    × (look.read_only ≡ is_read_only e size image)
EndsLook e size image done rest look (Some why) =
    (s : ℕ × Seen) × (after : List (ℕ × Seen)) × (rest ≡ s ∷ after)
    × IsRefusedBy e size image done s why

-- it is the look at an image
pub record IsLookAt (wants : Wants) (e : Endian) (size : ℕ) (image contents : List ℕ)
    (look : Look) : Type 0 where
  pub scannable : IsScannable size image
  pub done : List (ℕ × Seen)
  pub rest : List (ℕ × Seen)
  pub all : looked_tiles wants e size image ≡ done ++ rest
  pub has : HasTiles e size image done look.tiles.items contents
  pub ends : EndsLook e size image done rest look look.refused
