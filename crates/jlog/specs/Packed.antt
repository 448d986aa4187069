-- What may go out for a node: its own written form, or that of a compressed node that stands for
-- it.
use Rattle.std.specs.Prelude.{◌≡◌, ◌≢◌, ◌⊎◌, ℕ, ◌+◌, ◌<◌, List, [], ◌∷◌, length, Some}
use Rattle.flashbase.specs.Bytes.{pad4_of}
use Rattle.jnode.specs.Compressed.{canonical_compressed, FitsCompressed, IsWritableCompressed}
use Rattle.jnode.specs.Header.{magic}
use Rattle.jnode.specs.Reading.{inode_len}
use Rattle.jnode.specs.Writing.{canonical}
use Rattle.jnode.specs.declared.node.CompressedNode.{CompressedNode}
use Rattle.jnode.specs.declared.node.NodeRef.{NodeRef}
use Rattle.jnode.specs.declared.order.Endian.{Endian}
use Rattle.jmount.specs.Tree.{type_bits, regular_bits}
use Rattle.jexpand.specs.Expanded.{node_content, with_content}

-- the number of the method that is written
abbrev pub zlib_number : ℕ
zlib_number = 6

-- rule: Compressed data: The compressed node that may replace a node, and the image of such nodes
--   that goes out.
--   definitions: jlog.Packed.StandsFor, jconvert.Compressing.AreFormsFor,
--   jconvert.Compressing.StaysPlain, jconvert.Compressing.IsPackedImage,
--   jconvert.Compressing.Compresses
--   code: jconvert::packing::pack_inode, jconvert::compressing::write_packed,
--   jconvert::compressing::compress
--   laws: jconvert::laws::compressed_gives_back
-- A compressed node that stands for a node of a regular file: its data give just the bytes of that
-- node, whose other fields it has, and it takes fewer words.
pub record StandsFor (packed : CompressedNode) (node : NodeRef) : Type 0 where
  pub bytes : List ℕ
  pub content : node_content packed ≡ Some bytes
  pub expanded : with_content packed bytes ≡ node
  pub method : packed.compr ≡ zlib_number
  pub regular : type_bits packed.mode ≡ regular_bits
  pub shorter : pad4_of (inode_len + length packed.data) < pad4_of (inode_len + length bytes)
  pub fits : FitsCompressed packed
  pub writable : IsWritableCompressed packed

-- the written form of a compressed node that stands for a node
abbrev pub IsPackedForm : Endian → NodeRef → List ℕ → Type 0
IsPackedForm e node form =
    (packed : CompressedNode) × StandsFor packed node × (form ≡ canonical_compressed e packed)

-- A form of a node: its own, or a packed one whose length does not spell the magic.
abbrev pub IsNodeForm : Endian → NodeRef → List ℕ → Type 0
IsNodeForm e node form =
    (form ≡ canonical e node) ⊎ (IsPackedForm e node form × (length form ≢ magic))

-- forms of nodes, one for each and in their order
abbrev pub AreNodeForms : Endian → List NodeRef → List (List ℕ) → Type 0
AreNodeForms e [] [] = Unit {0}
AreNodeForms e [] (form ∷ forms) = ⊥
AreNodeForms e (node ∷ nodes) [] = ⊥
AreNodeForms e (node ∷ nodes) (form ∷ forms) = IsNodeForm e node form × AreNodeForms e nodes forms
