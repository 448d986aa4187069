-- The nodes that tiles give as they are looked at, with their addresses.
use Rattle.std.proofs.Common.{◌≡◌, ℕ, List, [], ◌∷◌, ◌++◌, length, drop, None, Option, sym, ap, subst, ◌∙◌, append_assoc, Contains}
use Rattle.std.specs.Prelude.{option_map, option_to_list}
use Rattle.std.proofs.Math.Seq.{drop-append_seam}
use Rattle.std.proofs.lemmas.List.{append-nil}
use Rattle.flashbase.proofs.MemberLemmas.{Contains-here, Contains-there}
use Rattle.jnode.specs.declared.node.NodeRef.{NodeRef}
use Rattle.jnode.specs.declared.node.Seen.{Seen}
use Rattle.jnode.specs.declared.order.Endian.{Endian}
use Rattle.jscan.proofs.PartialScanLemmas.{cons_append}
use Rattle.jexpand.specs.Expanded.{expanded_node, tile_content, contents_of_tiles}
use Rattle.jview.specs.Through.{through_fault}
use Rattle.jthrough.specs.View.{BeginWith, placed_node, placed_nodes}
use Rattle.jlook.specs.Look.{AreLookedAt, IsSightedIfPacked}

module _ (e : Endian) (size : ℕ) (image : List ℕ) where
  -- ---- while tiles are gone through

  -- the nodes so far, and the tiles that are left
  pub record PlacingLooked (all left : List (ℕ × Seen)) (held : List ℕ) (nodes : List (ℕ × NodeRef)) : Type 0 where
    pub seen : AreLookedAt e size image left held
    pub whole : placed_nodes e size image all ≡ nodes ++ placed_nodes e size image left

  pub looked_start : (all left : List (ℕ × Seen)) (held : List ℕ) (nodes : List (ℕ × NodeRef)) → left ≡ all → nodes ≡ [] → AreLookedAt e size image all held → PlacingLooked all left held nodes
  looked_start all left held nodes is empty seen = record {
    seen = subst (λ (l : List (ℕ × Seen)). AreLookedAt e size image l held) (sym is) seen;
    whole = ap (placed_nodes e size image) (sym is) ∙ ap (λ (ns : List (ℕ × NodeRef)). ns ++ placed_nodes e size image left) (sym empty);
  }

  head_there : (left rest : List (ℕ × Seen)) (s : ℕ × Seen) → left ≡ s ∷ rest → Contains left s
  head_there left rest s is = subst (λ (l : List (ℕ × Seen)). Contains l s) (sym is) (Contains-here s rest)

  pub looked_sighted : (all left rest : List (ℕ × Seen)) (s : ℕ × Seen) (held : List ℕ) (nodes : List (ℕ × NodeRef)) → PlacingLooked all left held nodes → left ≡ s ∷ rest
      → IsSightedIfPacked e size image s
  looked_sighted all left rest s held nodes p is = p.seen.sighted s (head_there left rest s is)

  pub looked_none : (all left rest : List (ℕ × Seen)) (s : ℕ × Seen) (held : List ℕ) (nodes : List (ℕ × NodeRef)) → PlacingLooked all left held nodes → left ≡ s ∷ rest
      → through_fault e size image s ≡ None
  looked_none all left rest s held nodes p is = p.seen.none s (head_there left rest s is)

  -- the contents begin with that of the next tile
  parted : (left rest : List (ℕ × Seen)) (s : ℕ × Seen) (held : List ℕ) → AreLookedAt e size image left held → left ≡ s ∷ rest
      → (more : List ℕ) × (held ≡ tile_content e size image s ++ (contents_of_tiles e size image rest ++ more))
  parted left rest s held seen is =
      let more = seen.contents.0 in (
        more,
        seen.contents.1 ∙ ap (λ (l : List (ℕ × Seen)). contents_of_tiles e size image l ++ more) is
            ∙ append_assoc (tile_content e size image s) (contents_of_tiles e size image rest) more,
      )

  pub looked_contents : (all left rest : List (ℕ × Seen)) (s : ℕ × Seen) (held : List ℕ) (nodes : List (ℕ × NodeRef)) → PlacingLooked all left held nodes → left ≡ s ∷ rest
      → BeginWith (tile_content e size image s) held
  looked_contents all left rest s held nodes p is =
      let parts = parted left rest s held p.seen is in
      (contents_of_tiles e size image rest ++ parts.0, parts.1)

  pub looked_next : (all left rest : List (ℕ × Seen)) (addr : ℕ) (what : Seen) (held behind : List ℕ) (nodes more : List (ℕ × NodeRef)) (node : Option NodeRef)
      → PlacingLooked all left held nodes → left ≡ (addr, what) ∷ rest → behind ≡ drop (length (tile_content e size image (addr, what))) held
      → node ≡ expanded_node e size image (addr, what) → more ≡ nodes ++ option_to_list (option_map (λ n. (addr, n)) node)
      → PlacingLooked all rest behind more
  looked_next all left rest addr what held behind nodes more node p is behind_is node_is more_is =
      let s : ℕ × Seen = (addr, what) in
      let content : List ℕ = tile_content e size image s in
      let parts = parted left rest s held p.seen is in
      let others : List ℕ = contents_of_tiles e size image rest ++ parts.0 in
      let gives : option_map {U = ℕ × NodeRef} (λ (n : NodeRef). (addr, n)) node ≡ placed_node e size image s = ap (option_map {U = ℕ × NodeRef} (λ (n : NodeRef). (addr, n))) node_is in
      record {
        seen = record {
          sighted = λ t has. p.seen.sighted t (subst (λ (l : List (ℕ × Seen)). Contains l t) (sym is) (Contains-there s rest t has));
          none = λ t has. p.seen.none t (subst (λ (l : List (ℕ × Seen)). Contains l t) (sym is) (Contains-there s rest t has));
          contents = (parts.0, behind_is ∙ ap (drop (length content)) parts.1 ∙ drop-append_seam content others);
        };
        whole = p.whole
            ∙ ap (λ (l : List (ℕ × Seen)). nodes ++ placed_nodes e size image l) is
            ∙ cons_append nodes (placed_node e size image s) (placed_nodes e size image rest)
            ∙ ap (λ (o : Option (ℕ × NodeRef)). (nodes ++ option_to_list o) ++ placed_nodes e size image rest) (sym gives)
            ∙ ap (λ (ns : List (ℕ × NodeRef)). ns ++ placed_nodes e size image rest) (sym more_is);
      }

  pub looked_end : (all left : List (ℕ × Seen)) (held : List ℕ) (nodes : List (ℕ × NodeRef)) → PlacingLooked all left held nodes → left ≡ [] → nodes ≡ placed_nodes e size image all
  looked_end all left held nodes p is =
      sym (p.whole ∙ ap (λ (l : List (ℕ × Seen)). nodes ++ placed_nodes e size image l) is ∙ append-nil nodes)
