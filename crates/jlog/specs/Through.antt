-- What forms give, seen through their compression, and what is left of an image so.
use Rattle.std.specs.Prelude.{◌≡◌, ℕ, List, ◌++◌, filter_map, Option, None}
use Rattle.std.specs.List.{flat_map}
use Rattle.jnode.specs.Compressed.{compressed_of}
use Rattle.jnode.specs.Reading.{seen_of}
use Rattle.jnode.specs.Writing.{filled}
use Rattle.jnode.specs.declared.node.NodeRef.{NodeRef}
use Rattle.jnode.specs.declared.order.Endian.{Endian}
use Rattle.jscan.specs.Scans.{is_read_only}
use Rattle.jexpand.specs.Expanded.{expanded_nodes, unpacked_bytes}
use Rattle.jview.specs.Through.{node_by, content_by, fault_by, first_fault}

-- ---- what a form gives

abbrev pub form_node : Endian → List ℕ → Option NodeRef
form_node e form = node_by (compressed_of e (filled form)) (seen_of e (filled form))

abbrev pub form_content : Endian → List ℕ → List ℕ
form_content e form = content_by (compressed_of e (filled form)) (seen_of e (filled form))

-- a form of which the content is read, and whose content a block of this size holds
abbrev pub IsReadForm : Endian → ℕ → List ℕ → Type 0
IsReadForm e size form = (addr : ℕ)
    → fault_by size addr (compressed_of e (filled form)) (seen_of e (filled form)) ≡ None

-- ---- what is left, through its compression

-- The nodes are the base's, and those of these forms; and so are the contents. What refuses it, or
-- forbids to write after it, does so in the base.
pub record Expands (e : Endian) (size : ℕ) (base image : List ℕ) (forms : List (List ℕ)) : Type
    0 where
  pub nodes : expanded_nodes e size image
      ≡ expanded_nodes e size base ++ filter_map (form_node e) forms
  pub contents : unpacked_bytes e size image
      ≡ unpacked_bytes e size base ++ flat_map (form_content e) forms
  pub fault : first_fault e size image ≡ first_fault e size base
  pub read_only : is_read_only e size image ≡ is_read_only e size base
