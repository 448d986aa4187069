-- An image that is gone over, extent by extent.
use Rattle.std.proofs.Common.{◌≡◌, ℕ, List, [], ◌∷◌, ◌++◌, sym, ap, ◌∙◌}
use Rattle.std.specs.Prelude.{filter_map, option_to_list}
use Rattle.std.proofs.lemmas.List.{append-nil}
use Rattle.jnode.specs.declared.node.Seen.{Seen}
use Rattle.jnode.specs.declared.order.Endian.{Endian}
use Rattle.jscan.specs.Extents.{sighted}
use Rattle.jscan.specs.Findings.{finding_of}
use Rattle.jscan.specs.Image.{sightings}
use Rattle.jscan.specs.Scans.{IsScannable, findings, image_extents}
use Rattle.jscan.specs.declared.extent.Extent.{Extent}
use Rattle.jscan.specs.declared.finding.Finding.{Finding}
use Rattle.jscan.proofs.ImageLemmas.{image_sighted}
use Rattle.jscan.proofs.PartialScanLemmas.{cons_append}
use Rattle.jlook.specs.Look.{IsSightedOf}
use Rattle.jlook.specs.declared.sighted.Sighted.{Sighted}

module _ (e : Endian) (size : ℕ) (image : List ℕ) where
  -- what is had of the extents so far, and what is left
  pub record Going (left : List Extent) (has : Sighted) : Type 0 where
    pub tiles : sightings e size image ≡ has.tiles.items ++ filter_map sighted left
    pub found : findings e size image ≡ has.findings.items ++ filter_map finding_of left

  pub going_start : (left : List Extent) (has : Sighted) → left ≡ image_extents e size image → has.tiles.items ≡ [] → has.findings.items ≡ [] → Going left has
  going_start left has all no_tile no_finding = record {
    tiles = sym (image_sighted e size image) ∙ ap (filter_map sighted) (sym all) ∙ ap (λ (l : List (ℕ × Seen)). l ++ filter_map sighted left) (sym no_tile);
    found = ap (filter_map finding_of) (sym all) ∙ ap (λ (l : List Finding). l ++ filter_map finding_of left) (sym no_finding);
  }

  pub going_next : (now left : List Extent) (s : Extent) (old new : Sighted) → Going now old → now ≡ s ∷ left
      → new.tiles.items ≡ old.tiles.items ++ option_to_list (sighted s) → new.findings.items ≡ old.findings.items ++ option_to_list (finding_of s) → Going left new
  going_next now left s old new v first tiles found = record {
    tiles = v.tiles ∙ ap (λ (l : List Extent). old.tiles.items ++ filter_map sighted l) first
        ∙ cons_append old.tiles.items (sighted s) (filter_map sighted left)
        ∙ ap (λ (l : List (ℕ × Seen)). l ++ filter_map sighted left) (sym tiles);
    found = v.found ∙ ap (λ (l : List Extent). old.findings.items ++ filter_map finding_of l) first
        ∙ cons_append old.findings.items (finding_of s) (filter_map finding_of left)
        ∙ ap (λ (l : List Finding). l ++ filter_map finding_of left) (sym found);
  }

  pub going_end : (left : List Extent) (has : Sighted) → IsScannable size image → Going left has → left ≡ [] → IsSightedOf e size image has
  going_end left has scannable v empty = record {
    scannable = scannable;
    tiles = sym (v.tiles ∙ ap (λ (l : List Extent). has.tiles.items ++ filter_map sighted l) empty ∙ append-nil has.tiles.items);
    findings = sym (v.found ∙ ap (λ (l : List Extent). has.findings.items ++ filter_map finding_of l) empty ∙ append-nil has.findings.items);
  }
