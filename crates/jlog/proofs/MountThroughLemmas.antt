-- An image without compressed nodes mounts through just where it mounts, as the same file system.
use Rattle.std.proofs.Common.{◌≡◌, ℕ, List, [], ◌∷◌, length, map, filter_map, refl, sym, ap, ap₂, subst, ◌∙◌, arith, Option, None, Some, Contains, inl, inr}
use Rattle.std.specs.Prelude.{IsTrue}
use Rattle.std.specs.List.{flat_map}
use Rattle.std.specs.Option.{option_or}
use Rattle.flashbase.proofs.MemberLemmas.{Contains-here, Contains-there, Contains-cases}
use Rattle.jnode.specs.declared.node.NodeRef.{NodeRef}
use Rattle.jnode.specs.declared.node.NodeRef.TheVariants as node
use Rattle.jnode.specs.declared.node.Seen.{Seen}
use Rattle.jnode.specs.declared.node.Seen.TheVariants as seen
use Rattle.jnode.specs.declared.order.Endian.{Endian}
use Rattle.jscan.specs.Image.{sightings, node_sighted, nodes}
use Rattle.jmount.specs.Tree.{is_directory}
use Rattle.jmount.specs.StateOf.{state_of}
use Rattle.jmount.specs.Mounts.{IsSound, plain_nodes, IsFaultAt}
use Rattle.jmount.specs.declared.fault.MountFault.{MountFault}
use Rattle.jmount.specs.declared.fault.MountFault.TheVariants as fault
use Rattle.jmount.specs.Clash.{NoneClash}
use Rattle.jsteps.proofs.ImageLemmas.{none_clashes_at_address}
use Rattle.jexpand.specs.Expanded.{expanded_node, expanded_nodes, tile_content, unpacked_bytes}
use Rattle.jexpand.specs.declared.fault.ConvertFault.{ConvertFault}
use Rattle.jview.specs.Through.{through_fault, through_fault_among, first_fault}
use Rattle.jlog.specs.ThroughLaws.{NoneCompressed, PlainMountsThrough, ThroughMountsPlain}
use Rattle.jlog.proofs.SoundLemmas.{sound_nodes_are_apart}

-- what tiles give where none is compressed
record ArePlain (e : Endian) (size : ℕ) (image : List ℕ) (ss : List (ℕ × Seen)) : Type 0 where
  nodes : filter_map (expanded_node e size image) ss ≡ map (λ n. n.1) (filter_map node_sighted ss)
  contents : flat_map (tile_content e size image) ss ≡ []

Uncompressed : List (ℕ × Seen) → Type 0
Uncompressed ss = (addr compr : ℕ) → Contains ss (addr, seen.Compressed compr) → ⊥

plain_one : (e : Endian) (size : ℕ) (image : List ℕ) (s : ℕ × Seen) (ss : List (ℕ × Seen)) → Uncompressed (s ∷ ss) → ArePlain e size image ss → ArePlain e size image (s ∷ ss)
unfolding Uncompressed
plain_one e size image (addr, seen.Compressed compr) ss free rest = absurd (free addr compr (Contains-here (addr, seen.Compressed compr) ss))
plain_one e size image (addr, seen.Entry entry) ss free rest = record { nodes = ap (λ (l : List NodeRef). node.Entry entry ∷ l) rest.nodes; contents = rest.contents }
plain_one e size image (addr, seen.Inode inode) ss free rest = record { nodes = ap (λ (l : List NodeRef). node.Inode inode ∷ l) rest.nodes; contents = rest.contents }
plain_one e size image (addr, _) ss free rest = record { nodes = rest.nodes; contents = rest.contents }

are_plain : (e : Endian) (size : ℕ) (image : List ℕ) (ss : List (ℕ × Seen)) → Uncompressed ss → ArePlain e size image ss
unfolding Uncompressed
are_plain e size image [] free = record { nodes = refl; contents = refl }
are_plain e size image (s ∷ ss) free =
    plain_one e size image s ss free (are_plain e size image ss (λ addr compr has. free addr compr (Contains-there s ss (addr, seen.Compressed compr) has)))

none_compressed : (e : Endian) (size : ℕ) (image : List ℕ) → NoneCompressed e size image → Uncompressed (sightings e size image)
unfolding Uncompressed
none_compressed e size image free = free

-- ---- no fault

Compatible : List (ℕ × Seen) → Type 0
Compatible ss = (addr nodetype : ℕ) → Contains ss (addr, seen.Incompatible nodetype) → ⊥

fault_none : (e : Endian) (size : ℕ) (image : List ℕ) (s : ℕ × Seen) (ss : List (ℕ × Seen)) → Uncompressed (s ∷ ss) → Compatible (s ∷ ss) → through_fault e size image s ≡ None
unfolding Uncompressed Compatible
fault_none e size image (addr, seen.Compressed compr) ss free able = absurd (free addr compr (Contains-here (addr, seen.Compressed compr) ss))
fault_none e size image (addr, seen.Incompatible nodetype) ss free able = absurd (able addr nodetype (Contains-here (addr, seen.Incompatible nodetype) ss))
fault_none e size image (addr, _) ss free able = refl

no_fault : (e : Endian) (size : ℕ) (image : List ℕ) (ss : List (ℕ × Seen)) → Uncompressed ss → Compatible ss → through_fault_among e size image ss ≡ None
unfolding Uncompressed Compatible
no_fault e size image [] free able = refl
no_fault e size image (s ∷ ss) free able =
    ap₂ (λ (o p : Option ConvertFault). option_or o p) (fault_none e size image s ss free able)
    (no_fault e size image ss (λ addr compr has. free addr compr (Contains-there s ss (addr, seen.Compressed compr) has))
    (λ addr nodetype has. able addr nodetype (Contains-there s ss (addr, seen.Incompatible nodetype) has)))

both_none : (o p : Option ConvertFault) → option_or o p ≡ None → (o ≡ None) × (p ≡ None)
both_none None p none = (refl, none)
both_none (Some f) p none = absurd (cc)

-- where none is refused, none is incompatible
is_compatible : (e : Endian) (size : ℕ) (image : List ℕ) (ss : List (ℕ × Seen)) (addr nodetype : ℕ) → through_fault_among e size image ss ≡ None → Contains ss (addr, seen.Incompatible nodetype) → ⊥
is_compatible e size image [] addr nodetype none has = absurd (omega (arith, has.1))
is_compatible e size image (s ∷ ss) addr nodetype none has =
    let both = both_none (through_fault e size image s) (through_fault_among e size image ss) none in
    elim (Contains-cases s ss (addr, seen.Incompatible nodetype) has) [
      | inl same ↦
          let refused : through_fault e size image (addr, seen.Incompatible nodetype) ≡ None = subst (λ (t : ℕ × Seen). through_fault e size image t ≡ None) same both.0 in
          absurd (cc)
      | inr later ↦ is_compatible e size image ss addr nodetype both.1 later
    ]

no_first_fault : (e : Endian) (size : ℕ) (image : List ℕ) → Uncompressed (sightings e size image)
    → ((addr nodetype : ℕ) → Contains (sightings e size image) (addr, seen.Incompatible nodetype) → ⊥) → first_fault e size image ≡ None
unfolding Compatible
no_first_fault e size image un able = no_fault e size image (sightings e size image) un able

-- ---- the nodes and the contents of such an image

pub none_in_sound : (e : Endian) (size : ℕ) (image : List ℕ) → IsSound e size image → NoneCompressed e size image
none_in_sound e size image sound = λ addr compr has. sound.1 addr (fault.Compressed addr compr) (refl, has)

pub expanded_are_plain : (e : Endian) (size : ℕ) (image : List ℕ) → NoneCompressed e size image → expanded_nodes e size image ≡ plain_nodes e size image
expanded_are_plain e size image free = (are_plain e size image (sightings e size image) (none_compressed e size image free)).nodes

pub no_contents : (e : Endian) (size : ℕ) (image : List ℕ) → NoneCompressed e size image → unpacked_bytes e size image ≡ []
no_contents e size image free = (are_plain e size image (sightings e size image) (none_compressed e size image free)).contents

-- ---- the laws

pub plain_mounts_through : PlainMountsThrough
plain_mounts_through e size image s mounts =
    let sound = mounts.sound in
    let free : NoneCompressed e size image = λ addr compr has. sound.1 addr (fault.Compressed addr compr) (refl, has) in
    let un : Uncompressed (sightings e size image) = none_compressed e size image free in
    let are = are_plain e size image (sightings e size image) un in
    let nodes_are : expanded_nodes e size image ≡ plain_nodes e size image = are.nodes in
    record {
      sound = record {
        scannable = sound.0;
        none = no_first_fault e size image un (λ addr nodetype has. sound.1 addr (fault.Incompatible addr nodetype) (refl, has));
        contents = omega (arith, ap length are.contents);
        apart = subst NoneClash (sym nodes_are) (sound_nodes_are_apart e size image sound);
      };
      root = subst (λ (ns : List NodeRef). IsTrue (is_directory (state_of ns) 1)) (sym nodes_are) mounts.root;
      same = ap state_of nodes_are ∙ mounts.same;
    }

pub through_mounts_plain : ThroughMountsPlain
through_mounts_plain e size image s mounts free =
    let sound = mounts.sound in
    let are = are_plain e size image (sightings e size image) (none_compressed e size image free) in
    let nodes_are : expanded_nodes e size image ≡ plain_nodes e size image = are.nodes in
    let apart : NoneClash (plain_nodes e size image) = subst NoneClash nodes_are sound.apart in
    record {
      sound = (sound.scannable, no_fault_at apart sound.none);
      root = subst (λ (ns : List NodeRef). IsTrue (is_directory (state_of ns) 1)) nodes_are mounts.root;
      same = ap state_of (sym nodes_are) ∙ mounts.same;
    }
  where
    no_fault_at : NoneClash (plain_nodes e size image) → first_fault e size image ≡ None → (at : ℕ) (f : MountFault) → IsFaultAt e size image at f → ⊥
    no_fault_at apart none at (fault.Incompatible addr nodetype) stands = is_compatible e size image (sightings e size image) addr nodetype none stands.1
    no_fault_at apart none at (fault.Compressed addr compr) stands = free addr compr stands.1
    no_fault_at apart none at (fault.Clash addr) stands = none_clashes_at_address (nodes e size image) apart addr stands.1
    no_fault_at apart none at fault.BlockSize stands = stands
    no_fault_at apart none at fault.TooLarge stands = stands
    no_fault_at apart none at fault.RootKind stands = stands
    no_fault_at apart none at fault.OutOfMemory stands = stands
