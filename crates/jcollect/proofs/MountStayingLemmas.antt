-- What a mount of the nodes that stay answers, of the image.
use Rattle.std.proofs.Common.{◌≡◌, ℕ, ◌≤◌, List, ◌∷◌, length, refl, sym, ap, subst, ◌∙◌, None, Some, Option, Contains, Err, IsTrue, IsFalse}
use Rattle.std.specs.Prelude.{Ok}
use Rattle.flashbase.proofs.MemberLemmas.{Contains-here, Contains-map}
use Rattle.std.proofs.lemmas.List.Elements.{Contains-append_left, Contains-append_right}
use Rattle.jnode.specs.declared.node.NodeRef.{NodeRef}
use Rattle.jnode.specs.declared.node.Seen.{Seen}
use Rattle.jnode.specs.declared.order.Endian.{Endian}
use Rattle.jscan.specs.Image.{sightings}
use Rattle.jscan.specs.Scans.{findings, is_read_only}
use Rattle.jclash.specs.declared.parting.LeftOut.{LeftOut}
use Rattle.jexpand.specs.Expanded.{contents_of_tiles}
use Rattle.jmount.specs.Clash.{NoneClash}
use Rattle.jmount.specs.Collected.{FirstClash, without_addresses}
use Rattle.jmount.specs.Mount.{Mount}
use Rattle.jmount.specs.MountsNodes.{AnswersNodes}
use Rattle.jmount.specs.StateOf.{state_of}
use Rattle.jmount.specs.Tree.{is_directory}
use Rattle.jmount.specs.declared.fault.MountFault.{MountFault}
use Rattle.jmount.specs.declared.fault.MountFault.TheVariants as mount
use Rattle.jview.specs.Through.{greatest_contents}
use Rattle.jthrough.specs.Addressed.{addressed_nodes}
use Rattle.jthrough.specs.MountsThrough.{AnswersAlone}
use Rattle.jthrough.specs.View.{IsViewOf, EndsView, placed_nodes, mount_fault_viewed}
use Rattle.jthrough.specs.declared.fault.ViewFault.{ViewFault}
use Rattle.jthrough.specs.declared.fault.ViewFault.TheVariants as fault
use Rattle.jthrough.specs.declared.view.View.{View}
use Rattle.jthrough.proofs.MountLemmas.{all, none_among}
use Rattle.jcompact.specs.Matters.{Placed}
use Rattle.jcollect.specs.Staying.{StayPlaced, IsReadThrough, StayOfImage, MountsStaying, AnswersStaying}
use Rattle.jcollect.proofs.StayingLemmas.{stay_apart}

-- ---- a view that is refused

pub alone_answers : (e : Endian) (size : ℕ) (image : List ℕ) (why : ViewFault) → AnswersAlone e size image why → AnswersStaying e size image (Err why)
alone_answers e size image (fault.Incompatible addr nodetype) h = h
alone_answers e size image (fault.Compressed addr compr) h = h
alone_answers e size image (fault.Data addr) h = h
alone_answers e size image (fault.TooLong addr) h = h
alone_answers e size image (fault.Clash addr) h = absurd h
alone_answers e size image fault.BlockSize h = absurd h
alone_answers e size image fault.TooLarge h = absurd h
alone_answers e size image fault.RootKind h = absurd h
alone_answers e size image fault.OutOfMemory h = absurd h

-- ---- a view that nothing refuses

-- nodes of which none clash have no first that does
no_first : (ns : List Placed) (addr : ℕ) → NoneClash (without_addresses ns) → FirstClash ns addr → ⊥
no_first ns addr apart (pre, node, post, split, before, clashes) =
    let (below, other, there, clash) = clashes in
    let own : Contains ns (addr, node) =
    subst (λ (l : List Placed). Contains l (addr, node)) (sym split) (Contains-append_right pre ((addr, node) ∷ post) (addr, node) (Contains-here (addr, node) post)) in
    let else_there : Contains ns (below, other) =
    subst (λ (l : List Placed). Contains l (below, other)) (sym split) (Contains-append_left pre ((addr, node) ∷ post) (below, other) there) in
    apart node other (Contains-map (λ (n : Placed). n.1) ns (addr, node) own) (Contains-map (λ (n : Placed). n.1) ns (below, other) else_there) clash

module _ (e : Endian) (size : ℕ) (image contents : List ℕ) (view : View) (v : IsViewOf e size image contents view) (refused : view.refused ≡ None) where
  ends : EndsView e size image v.done v.rest view None
  ends = subst (EndsView e size image v.done v.rest view) refused v.ends

  seen : sightings e size image ≡ v.done
  seen = all e size image contents view v (placed_nodes e size image view.tiles.items) refl refused

  pub nodes_addressed : (ns : List Placed) → ns ≡ placed_nodes e size image view.tiles.items → ns ≡ addressed_nodes e size image
  nodes_addressed ns is = is ∙ v.has.nodes ∙ ap (placed_nodes e size image) (sym seen)

  read : IsReadThrough e size image
  read = record {
    scannable = v.scannable;
    none = none_among e size image contents view v (sightings e size image) (λ s has. v.has.none s (subst (λ (l : List (ℕ × Seen)). Contains l s) seen has));
    contents = subst (λ (l : List (ℕ × Seen)). length (contents_of_tiles e size image l) ≤ greatest_contents) (sym seen) v.has.few;
  }

  module _ (ns stay nodes : List Placed) (left : List LeftOut) (is : ns ≡ placed_nodes e size image view.tiles.items) (placed : StayPlaced ns stay left)
      (same : without_addresses nodes ≡ without_addresses stay) where
    parted : StayOfImage e size image stay left
    parted = record { read = read; parted = subst (λ (l : List Placed). StayPlaced l stay left) (nodes_addressed ns is) placed }

    pub staying_mounted : (mounted : Mount) → AnswersNodes image nodes view.findings.items view.read_only (Ok mounted) → MountsStaying e size image stay left mounted
    staying_mounted mounted h = record {
      image_is = h.1.image;
      stays = parted;
      mount = record {
        root = subst (λ (l : List NodeRef). IsTrue (is_directory (state_of l) 1)) same h.0.root;
        state = h.0.state ∙ ap state_of same;
        findings = h.1.findings ∙ ends.1 ∙ ap (findings e size) (sym h.1.image);
        read_only = h.1.read_only ∙ ends.2 ∙ ap (is_read_only e size) (sym h.1.image);
      };
    }

    pub staying_unmounted : (why : MountFault) → AnswersNodes image nodes view.findings.items view.read_only (Err why) → AnswersStaying e size image (Err (mount_fault_viewed why))
    staying_unmounted (mount.Clash addr) h = absurd (no_first nodes addr (subst NoneClash (sym same) (stay_apart ns stay left placed)) h)
    staying_unmounted mount.RootKind h = (stay, left, parted, subst (λ (l : List NodeRef). IsFalse (is_directory (state_of l) 1)) same h.1)
    staying_unmounted mount.OutOfMemory h = v.scannable
    staying_unmounted mount.BlockSize h = absurd h
    staying_unmounted mount.TooLarge h = absurd h
    staying_unmounted (mount.Incompatible addr nodetype) h = absurd h
    staying_unmounted (mount.Compressed addr compr) h = absurd h
