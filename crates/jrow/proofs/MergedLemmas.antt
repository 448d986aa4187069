-- An image whose blank blocks were written has the nodes of the base, and those of the row.
use Rattle.std.proofs.Common.{◌≡◌, ℕ, ◌+◌, ◌≤◌, Bool, false, List, length, filter_map, refl, sym, ap, ap₂, subst, ◌∙◌, arith, Option, None, Some, is_some}
use Rattle.std.specs.Prelude.{◌||◌}
use Rattle.flashbase.specs.Lists.{below}
use Rattle.flashbase.proofs.MemberLemmas.{Contains-below_from}
use Rattle.jnode.specs.declared.node.NodeRef.{NodeRef}
use Rattle.jnode.specs.declared.order.Endian.{Endian}
use Rattle.jscan.specs.Blank.{is_blank}
use Rattle.jscan.specs.Image.{block_of}
use Rattle.jexpand.specs.Expanded.{expanded_nodes}
use Rattle.jexpand.specs.declared.fault.ConvertFault.{ConvertFault}
use Rattle.jexpand.proofs.SightedLemmas.{size_some}
use Rattle.jview.specs.Through.{first_fault}
use Rattle.jrow.specs.Merging.{Interleaves}
use Rattle.jrow.specs.MergedLaws.{OthersStay, RowIsMerged}
use Rattle.jrow.specs.Row.{blank_blocks, side_by_side}
use Rattle.jrow.proofs.BlankLemmas.{blank_untold}
use Rattle.jrow.proofs.BlockLemmas.{glimpses_of, image_glimpsed, row_glimpsed}
use Rattle.jrow.proofs.GlimpseLemmas.{Glimpse, block_glimpses, node_glimpsed, content_glimpsed, is_refused, is_ban}
use Rattle.jrow.proofs.MergeLemmas.{merged_by_test, merged_taken, merged_length, merged_any}

glimpses_merge : (e : Endian) (size blocks : ℕ) (base image : List ℕ) → 12 ≤ size → OthersStay e size blocks base image
    → Interleaves (glimpses_of e size base (below blocks)) (glimpses_of e size image (blank_blocks e size blocks base)) (glimpses_of e size image (below blocks))
glimpses_merge e size blocks base image large stay =
    merged_by_test (λ b. is_blank e size (block_of size base b)) (λ b. block_glimpses e (block_of size image b)) (λ b. block_glimpses e (block_of size base b)) (below blocks)
    (λ b has blank. blank_untold e size (block_of size base b) large blank)
    (λ b has not. ap (block_glimpses e) (stay b (Contains-below_from blocks b has) not))

pub none_of : (o : Option ConvertFault) → is_some o ≡ false → o ≡ None
none_of None none = refl
none_of (Some f) none = absurd (cc)

pub row_is_merged : RowIsMerged
row_is_merged e size blocks base image size_is base_within within stay =
    let row : List ℕ = blank_blocks e size blocks base in
    let written : List ℕ = side_by_side size row image in
    let large : 12 ≤ size = omega (arith, size_some size size_is) in
    let merged = glimpses_merge e size blocks base image large stay in
    let old : List Glimpse = glimpses_of e size base (below blocks) in
    let new : List Glimpse = glimpses_of e size image row in
    let all : List Glimpse = glimpses_of e size image (below blocks) in
    let was = image_glimpsed e size blocks base size_is base_within in
    let put = row_glimpsed e size row image size_is in
    let is = image_glimpsed e size blocks image size_is within in
    record {
      nodes = subst (λ (l : List NodeRef). Interleaves l (expanded_nodes e size written) (expanded_nodes e size image)) (sym was.nodes)
          (subst (λ (l : List NodeRef). Interleaves (filter_map node_glimpsed old) l (expanded_nodes e size image)) (sym put.nodes)
          (subst (λ (l : List NodeRef). Interleaves (filter_map node_glimpsed old) (filter_map node_glimpsed new) l) (sym is.nodes)
          (merged_taken node_glimpsed old new all merged)));
      contents = ap length is.contents
          ∙ (merged_length content_glimpsed old new all merged ∙ ap₂ (λ (a b : List ℕ). length a + length b) (sym was.contents) (sym put.contents));
      none = λ base_none row_none.
          none_of (first_fault e size image)
          (is.refused ∙ (merged_any (is_refused size) old new all merged
          ∙ ap₂ (λ (a b : Bool). a || b) (sym was.refused ∙ ap is_some base_none) (sym put.refused ∙ ap is_some row_none)));
      read_only = is.bans ∙ (merged_any is_ban old new all merged ∙ ap₂ (λ (a b : Bool). a || b) (sym was.bans) (sym put.bans));
    }
