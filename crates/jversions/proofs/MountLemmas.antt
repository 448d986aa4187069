-- What a mount of the nodes of a revision answers.
use Rattle.std.proofs.Common.{◌≡◌, ℕ, Bool, List, [], Option, sym, ap, subst, ◌∙◌, Contains, IsTrue, IsFalse, Err}
use Rattle.std.specs.Prelude.{Ok, Result}
use Rattle.std.proofs.lemmas.List.{append-nil}
use Rattle.flashbase.proofs.MemberLemmas.{Contains-filter_from}
use Rattle.jnode.specs.declared.node.NodeRef.{NodeRef}
use Rattle.jnode.specs.declared.node.Seen.{Seen}
use Rattle.jnode.specs.declared.order.Endian.{Endian}
use Rattle.flashbase.specs.Sinks.{SinkChange}
use Rattle.jscan.specs.Image.{sightings}
use Rattle.jscan.specs.Scans.{IsScannable}
use Rattle.jscan.specs.declared.finding.Finding.{Finding}
use Rattle.jexpand.specs.Expanded.{contents_of_tiles, expanded_nodes}
use Rattle.jmount.specs.Clash.{NoneClash}
use Rattle.jmount.specs.Collected.{FirstClash, without_addresses}
use Rattle.jmount.specs.Mount.{Mount}
use Rattle.jmount.specs.MountsNodes.{AnswersNodes, AreMountable}
use Rattle.jmount.specs.StateOf.{state_of}
use Rattle.jmount.specs.Tree.{ObjectOf, State, is_directory, object}
use Rattle.jmount.specs.declared.fault.MountFault.{MountFault}
use Rattle.jmount.specs.declared.fault.MountFault.TheVariants as mount
use Rattle.jthrough.specs.View.{AreSeen, mount_fault_viewed, placed_nodes}
use Rattle.jthrough.specs.declared.fault.ViewFault.{ViewFault}
use Rattle.jthrough.specs.declared.fault.ViewFault.TheVariants as fault
use Rattle.jthrough.proofs.PlacedLemmas.{placed_mountable, placed_without}
use Rattle.jversions.specs.Answers.{AnswersRevision, AreNodesSound, PutsObject, PutsRevision, image_upto}
use Rattle.jversions.specs.Revisions.{object_upto}
use Rattle.jversions.specs.Taking.{IsUntaken}
use Rattle.jversions.specs.Tiles.{AreTilesHeld, takes_tile, tiles_upto}
use Rattle.jversions.specs.declared.fault.RevisionFault.{RevisionFault}
use Rattle.jversions.specs.declared.fault.RevisionFault.TheVariants as revision
use Rattle.jversions.specs.declared.revision.Revision.{Revision}
use Rattle.jversions.proofs.LawLemmas.{tiles_give_nodes}

module _ (r : Revision) (e : Endian) (size : ℕ) (image : List ℕ) where
  upto_sighted : (s : ℕ × Seen) → Contains (tiles_upto r e size image) s → Contains (sightings e size image) s
  upto_sighted s has = (Contains-filter_from (takes_tile r e size image) (sightings e size image) s has).0

  pub upto_seen : (tiles : List (ℕ × Seen)) (held : List ℕ) → tiles ≡ tiles_upto r e size image → AreTilesHeld e size image (tiles_upto r e size image)
      → held ≡ contents_of_tiles e size image (tiles_upto r e size image) → AreSeen e size image tiles held
  upto_seen tiles held are sound exact = record {
    sighted = λ s has. upto_sighted s (subst (λ (l : List (ℕ × Seen)). Contains l s) are has);
    none = λ s has. sound.none s (subst (λ (l : List (ℕ × Seen)). Contains l s) are has);
    contents = ([], exact ∙ ap (contents_of_tiles e size image) (sym are) ∙ sym (append-nil (contents_of_tiles e size image tiles)));
  }

  placed_upto : (tiles : List (ℕ × Seen)) (ns : List (ℕ × NodeRef)) → tiles ≡ tiles_upto r e size image → ns ≡ placed_nodes e size image tiles → ns ≡ placed_nodes e size image (tiles_upto r e size image)
  placed_upto tiles ns are is = is ∙ ap (placed_nodes e size image) are

  pub upto_mountable : (tiles : List (ℕ × Seen)) (ns : List (ℕ × NodeRef)) → IsScannable size image → tiles ≡ tiles_upto r e size image → ns ≡ placed_nodes e size image tiles → AreMountable ns
  upto_mountable tiles ns scannable are is =
      subst AreMountable (sym (placed_upto tiles ns are is)) (placed_mountable e size image (tiles_upto r e size image) scannable upto_sighted)

  module _ (tiles : List (ℕ × Seen)) (ns : List (ℕ × NodeRef)) (scannable : IsScannable size image) (are : tiles ≡ tiles_upto r e size image)
      (is : ns ≡ placed_nodes e size image tiles) (held : AreTilesHeld e size image (tiles_upto r e size image)) where
    nodes_are : without_addresses ns ≡ image_upto r e size image
    nodes_are = ap without_addresses (placed_upto tiles ns are is) ∙ placed_without e size image (tiles_upto r e size image) ∙ tiles_give_nodes r e size image

    nodes_sound : NoneClash (without_addresses ns) → AreNodesSound r e size image
    nodes_sound apart = record { scannable = scannable; held = held; apart = subst NoneClash nodes_are apart }

    pub revision_mounted : (found : List Finding) (forbids : Bool) (mounted : Mount) → AnswersNodes image ns found forbids (Ok mounted) → AnswersRevision r e size image (Ok mounted)
    revision_mounted found forbids mounted answers =
        let (mounts, with) = answers in (
          record { sound = nodes_sound mounts.apart; root = subst (λ (l : List NodeRef). IsTrue (is_directory (state_of l) 1)) nodes_are mounts.root },
          mounts.state ∙ ap state_of nodes_are,
        )

    pub revision_unmounted : (found : List Finding) (forbids : Bool) (why : MountFault) → AnswersNodes image ns found forbids (Err why) → AnswersRevision r e size image (Err (mount_fault_viewed why))
    revision_unmounted found forbids (mount.Clash addr) answers =
        (scannable, held, subst (λ (l : List (ℕ × NodeRef)). FirstClash l addr) (placed_upto tiles ns are is) answers)
    revision_unmounted found forbids mount.RootKind answers =
        (nodes_sound answers.0, subst (λ (l : List NodeRef). IsFalse (is_directory (state_of l) 1)) nodes_are answers.1)
    revision_unmounted found forbids mount.OutOfMemory answers = scannable
    revision_unmounted found forbids mount.BlockSize answers = absurd answers
    revision_unmounted found forbids mount.TooLarge answers = absurd answers
    revision_unmounted found forbids (mount.Incompatible addr nodetype) answers = absurd answers
    revision_unmounted found forbids (mount.Compressed addr compr) answers = absurd answers

  -- ---- why its tiles are not taken

  pub untaken : (why : ViewFault) → IsUntaken r e size image why → AnswersRevision r e size image (Err why)
  untaken (fault.Incompatible addr nodetype) is = absurd is
  untaken (fault.Compressed addr compr) is = is
  untaken (fault.Data addr) is = is
  untaken (fault.TooLong addr) is = is
  untaken (fault.Clash addr) is = absurd is
  untaken fault.BlockSize is = is
  untaken fault.TooLarge is = is
  untaken fault.RootKind is = absurd is
  untaken fault.OutOfMemory is = is

-- ---- the bytes of its object

-- what is put of the object of a mount is put of the revision
pub puts_shown : {T : Type 0} (r : Revision) (e : Endian) (size : ℕ) (image : List ℕ) (mounted : Mount) (sink : SinkChange) (answer : Result T RevisionFault)
    → AnswersRevision r e size image (Ok mounted) → PutsObject (object mounted.state r.ino) sink answer → PutsRevision r e size image sink answer
puts_shown {T} r e size image mounted sink answer answers puts = by_answer answer (subst (λ (o : Option (ObjectOf (List ℕ))). PutsObject o sink answer) same puts)
  where
    same : object mounted.state r.ino ≡ object_upto r (expanded_nodes e size image)
    same = ap (λ (s : State). object s r.ino) answers.1

    by_answer : (a : Result T RevisionFault) → PutsObject (object_upto r (expanded_nodes e size image)) sink a → PutsRevision r e size image sink a
    by_answer (Ok done) is = (answers.0, is)
    by_answer (Err revision.Output) is = (answers.0, is)
    by_answer (Err revision.NoNode) is = (answers.0, is)
    by_answer (Err revision.NoContent) is = (answers.0, is)
    by_answer (Err (revision.Refused why)) is = absurd is
