-- The file system that nodes make depends on which nodes there are.
use Rattle.std.proofs.Common.{◌≡◌, ℕ, ◌+◌, List, ◌∷◌, map, length, get_or, Option, Some, None, refl, ap, sym, ◌∙◌, arith}
use Rattle.std.specs.Prelude.{Contains, filter, option_map, ◌==◌}
use Rattle.std.proofs.lemmas.Bool.{eqb-true}
use Rattle.std.proofs.lemmas.List.{ext_get_or}
use Rattle.std.proofs.lemmas.List.Elements.{Contains-get_or}
use Rattle.std.specs.List.{flat_map}
use Rattle.flashbase.proofs.ListLemmas.{newest_is_newest}
use Rattle.jnode.specs.declared.node.InodeNode.{InodeNode}
use Rattle.jfrag.specs.declared.piece.Piece.{Piece}
use Rattle.jfrag.specs.Pieces.{byte_of}
use Rattle.jfrag.specs.Laws as overlay
use Rattle.jname.specs.Live.{live_names}
use Rattle.jname.proofs.LawLemmas.{live_names-same}
use Rattle.flashbase.proofs.MemberLemmas.{Contains-map_from, Contains-filter_from}
use Rattle.jmount.specs.Clash.{NoInodesClash}
use Rattle.jmount.specs.Device.{given_bytes, device_held}
use Rattle.jmount.specs.StateOf.{inodes, entries, inode_in, entry_in, versions_of, latest, piece_of, contents, object_by, object_of, objects_of, or_root, numbers_in, next_of, owner, version_of, top}
use Rattle.jmount.specs.Laws as law
use Rattle.jmount.specs.Laws.{SameElements}
use Rattle.jmount.proofs.SameLemmas.{number_stable, same_sym, same_within, IsWithin, same_cons, same_filter, same_mapped, same_filter_mapped, same_flat_mapped, greatest-same, tabled-same, none_newest, newest_version, content-same}

-- ---- pieces of one version agree where no nodes clash

-- all are nodes of one number, and no two clash
pub record AreVersions (i : ℕ) (versions : List InodeNode) : Type 0 where
  pub of_number : (node : InodeNode) → Contains versions node → node.ino ≡ i
  pub apart : NoInodesClash versions

pub versions-AreVersions : (nodes : List InodeNode) (i : ℕ) → NoInodesClash nodes → AreVersions i (versions_of nodes i)
versions-AreVersions nodes i apart = record {
  of_number = λ node c. sym (eqb-true i node.ino (Contains-filter_from (λ n. i == n.ino) nodes node c).1);
  apart = λ node c other d clash. apart node (Contains-filter_from (λ n. i == n.ino) nodes node c).0 other (Contains-filter_from (λ n. i == n.ino) nodes other d).0 clash;
}

-- nodes of one version show the same numbers
pub one_field : (i : ℕ) (versions : List InodeNode) → AreVersions i versions → (x y : InodeNode) → Contains versions x → Contains versions y → x.version ≡ y.version
    → (field : InodeNode → ℕ) → field x ≡ field y
one_field i versions are x y in_x in_y same field =
    number_stable (field x) (field y)
    (λ no. are.apart y in_y x in_x (record { ino = are.of_number x in_x ∙ sym (are.of_number y in_y); version = same; contents = λ (e : x ≡ y). no (ap field e) }))

pub pieces_agree : (i : ℕ) (versions : List InodeNode) → AreVersions i versions → (place : ℕ) → overlay.AgreeAt (map piece_of versions) place
pieces_agree i versions are place j k d below l same covers_first covers_second =
    let ps = map piece_of versions in
    let first = Contains-map_from piece_of versions (get_or ps j d) (Contains-get_or ps j d (omega arith)) in
    let second = Contains-map_from piece_of versions (get_or ps k d) (Contains-get_or ps k d l) in
    let version : first.0.version ≡ second.0.version = ap (λ (p : Piece). p.version) first.2 ∙ same ∙ sym (ap (λ (p : Piece). p.version) second.2) in
    ap (byte_of place) (sym first.2) ∙ one_field i versions are first.0 second.0 first.1 second.1 version (λ node. byte_of place (piece_of node)) ∙ ap (byte_of place) second.2

-- ---- an object

-- nodes that show the same numbers have the same number of a device
pub same_device : (y z : InodeNode) → ((f : InodeNode → ℕ) → f y ≡ f z) → device_held y.mode (given_bytes y.dsize y.fill) ≡ device_held z.mode (given_bytes z.dsize z.fill)
same_device y z field =
    let held : given_bytes y.dsize y.fill ≡ given_bytes z.dsize z.fill =
    ext_get_or 0 (given_bytes y.dsize y.fill) (given_bytes z.dsize z.fill) (field (λ n. length (given_bytes n.dsize n.fill)))
    (λ k h. field (λ n. get_or (given_bytes n.dsize n.fill) k 0)) in
    ap (λ m. device_held m (given_bytes y.dsize y.fill)) (field (λ n. n.mode)) ∙ ap (device_held z.mode) held

-- nodes of one version make one object
one_object : (i : ℕ) (a b : List InodeNode) → SameElements a b → AreVersions i a → AreVersions i b → (y z : InodeNode) → Contains a y → Contains a z → y.version ≡ z.version
    → object_by a y ≡ object_by b z
one_object i a b same are others y z in_y in_z version =
    let field : (f : InodeNode → ℕ) → f y ≡ f z = one_field i a are y z in_y in_z version in
    let bytes : contents a y.isize ≡ contents b z.isize =
    ap (contents a) (field (λ n. n.isize)) ∙ content-same (map piece_of a) (map piece_of b) z.isize (same_mapped piece_of a b same) (pieces_agree i b others) in
    let device : device_held y.mode (given_bytes y.dsize y.fill) ≡ device_held z.mode (given_bytes z.dsize z.fill) = same_device y z field in
    λ j. record {
      mode = field (λ n. n.mode) j;
      uid = field (λ n. n.uid) j;
      gid = field (λ n. n.gid) j;
      atime = field (λ n. n.atime) j;
      mtime = field (λ n. n.mtime) j;
      ctime = field (λ n. n.ctime) j;
      device = device j;
      body = bytes j;
    }

from_newest : (i : ℕ) (a b : List InodeNode) → SameElements a b → AreVersions i a → AreVersions i b → (o p : Option InodeNode) → latest a ≡ o → latest b ≡ p
    → option_map (object_by a) o ≡ option_map (object_by b) p
from_newest i a b same are others None None e f = refl
from_newest i a b same are others None (Some z) e f = absurd (none_newest (λ node. node.version) a b same e z f)
from_newest i a b same are others (Some y) None e f = absurd (none_newest (λ node. node.version) b a (same_sym a b same) f y e)
from_newest i a b same are others (Some y) (Some z) e f =
    let in_y : Contains a y = (newest_is_newest a (λ node. node.version) y e).0 in
    let in_z : Contains a z = (same z).1 (newest_is_newest b (λ node. node.version) z f).0 in
    ap Some (one_object i a b same are others y z in_y in_z (newest_version (λ node. node.version) a b same y z e f))

-- no nodes clash in a list of nodes of another
apart_within : (a b : List InodeNode) → IsWithin b a → NoInodesClash a → NoInodesClash b
apart_within a b within apart node c other d clash = apart node (within node c) other (within other d) clash

pub object-same : law.ObjectDependsOnNodes
object-same a b i same apart =
    ap (or_root i)
    (from_newest i (versions_of a i) (versions_of b i) (same_filter (λ node. i == node.ino) a b same)
    (versions-AreVersions a i apart) (versions-AreVersions b i (apart_within a b (same_within b a (same_sym a b same)) apart))
    (latest (versions_of a i)) (latest (versions_of b i)) refl refl)

pub objects-same : law.ObjectsDependOnNodes
objects-same a b same apart =
    tabled-same (1 ∷ map (λ node. node.ino) a) (1 ∷ map (λ node. node.ino) b) (object_of a) (object_of b)
    (same_cons 1 (map (λ node. node.ino) a) (map (λ node. node.ino) b) (same_mapped (λ node. node.ino) a b same))
    (λ q. object-same a b q same apart)

-- ---- numbers and versions

pub next-same : law.NextDependsOnNodes
next-same a b same =
    ap (λ n. 1 + n)
    (greatest-same (1 ∷ flat_map numbers_in a) (1 ∷ flat_map numbers_in b) (same_cons 1 (flat_map numbers_in a) (flat_map numbers_in b) (same_flat_mapped numbers_in a b same)))

pub top-same : law.TopDependsOnNodes
top-same a b i same =
    greatest-same (map version_of (filter (λ n. i == owner n) a)) (map version_of (filter (λ n. i == owner n) b))
    (same_mapped version_of (filter (λ n. i == owner n) a) (filter (λ n. i == owner n) b) (same_filter (λ n. i == owner n) a b same))

pub tops-same : law.TopsDependOnNodes
tops-same a b same =
    tabled-same (1 ∷ map owner a) (1 ∷ map owner b) (λ i. Some (top a i)) (λ i. Some (top b i))
    (same_cons 1 (map owner a) (map owner b) (same_mapped owner a b same))
    (λ q. ap Some (top-same a b q same))

-- ---- the whole

pub state-same : law.StateDependsOnNodes
state-same a b same apart names_apart =
    let objects : objects_of (inodes a) ≡ objects_of (inodes b) = objects-same (inodes a) (inodes b) (same_filter_mapped inode_in a b same) apart in
    let names : live_names (entries a) ≡ live_names (entries b) = live_names-same (entries a) (entries b) (same_filter_mapped entry_in a b same) names_apart in
    let next : next_of a ≡ next_of b = next-same a b same in
    λ j. record { objects = objects j; names = names j; next = next j }
