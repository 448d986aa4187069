-- The objects that nodes make, as they are stored.
use Rattle.std.proofs.Common.{◌≡◌, ℕ, ◌≤◌, Bool, List, [], ◌∷◌, map, get_or, Option, Some, None, refl, ap, sym, ◌∙◌, subst, arith}
use Rattle.std.specs.Prelude.{All, Contains, option_map, if◌then◌else◌, ◌==◌}
use Rattle.std.specs.Cmp.{unsigned_tied}
use Rattle.std.specs.List.{flat_map}
use Rattle.std.specs.Map.{lookup}
use Rattle.std.specs.Option.{option_and_then}
use Rattle.std.specs.Ordering.{nat_cmp, eq_by_cmp}
use Rattle.std.specs.BTreeMap.{BTreeMap, get, Updates}
use Rattle.std.proofs.lemmas.Bool.{eqb-true}
use Rattle.std.proofs.lemmas.Map.Lookups.{exact_unsigned}
use Rattle.std.proofs.lemmas.Map.Views.{Contains-from_lookup, tells_apart}
use Rattle.std.proofs.lemmas.List.Elements.{All-contains, All-head, All-tail, Contains-get_or}
use Rattle.std.proofs.lemmas.Option.{same_Some}
use Rattle.flashbase.specs.Lists.{each_below}
use Rattle.flashbase.proofs.ListLemmas.{newest_is_newest, newest_of_none}
use Rattle.jnode.specs.declared.node.InodeNode.{InodeNode}
use Rattle.jfrag.specs.declared.piece.Piece.{Piece}
use Rattle.jfrag.specs.Pieces.{byte_of}
use Rattle.jfrag.specs.Overlays.{Visible, byte_at, IsHighestAt, content}
use Rattle.jfrag.specs.Laws as overlay
use Rattle.jfrag.proofs.OverlaysLemmas.{only_one_is_highest}
use Rattle.jname.proofs.ContentsByNameLemmas.{by_test}
use Rattle.flashbase.proofs.MemberLemmas.{Contains-none, Contains-here, Contains-map_from, Contains-flat_map}
use Rattle.jmount.specs.declared.versions.Versions.{Versions}
use Rattle.jmount.specs.declared.stored.Stored.{Stored}
use Rattle.jmount.specs.Inodes.{inode_of_version, IsByVersion, IsKeyed, NodesByNumber, nodes_in, nodes_of_numbers}
use Rattle.jmount.specs.StateOf.{latest, piece_of}
use Rattle.jmount.specs.Storing.{VersionedObject, as_made, made_by, made_of_number}
use Rattle.jmount.proofs.NumbersLemmas.{eqb_symm}
use Rattle.jmount.proofs.NewestLemmas.{version_found, version_from, at_most_newest}

-- ---- the nodes of one number

pub Contains-at_version : (versions : Versions) (v : ℕ) (x : InodeNode) → inode_of_version versions v ≡ Some x → Contains (nodes_in versions) x
Contains-at_version versions v x h = (version_from versions v x h).0

pub one_of_version : (versions : Versions) → (x y : InodeNode) → Contains (nodes_in versions) x → Contains (nodes_in versions) y → x.version ≡ y.version → x ≡ y
one_of_version versions x y in_x in_y same =
    same_Some x y (sym (version_found versions x in_x) ∙ ap (inode_of_version versions) same ∙ version_found versions y in_y)

-- ---- their pieces agree

pub pieces_agree_by_version : (versions : Versions) → IsByVersion versions → (place : ℕ) → overlay.AgreeAt (map piece_of (nodes_in versions)) place
pieces_agree_by_version versions keyed place j k d below l same covers_first covers_second =
    let ps = map piece_of (nodes_in versions) in
    let first = Contains-map_from piece_of (nodes_in versions) (get_or ps j d) (Contains-get_or ps j d (omega arith)) in
    let second = Contains-map_from piece_of (nodes_in versions) (get_or ps k d) (Contains-get_or ps k d l) in
    let version : first.0.version ≡ second.0.version = ap (λ (p : Piece). p.version) first.2 ∙ same ∙ sym (ap (λ (p : Piece). p.version) second.2) in
    ap (byte_of place) (sym first.2) ∙ ap (λ node. byte_of place (piece_of node)) (one_of_version versions first.0 second.0 first.1 second.1 version) ∙ ap (byte_of place) second.2

-- so what is visible is the content
pub content-visible : (versions : Versions) → IsByVersion versions → (visible_at : ℕ → Visible) → ((place : ℕ) → IsHighestAt (map piece_of (nodes_in versions)) place (visible_at place))
    → (size : ℕ) → each_below size (λ place. byte_at (visible_at place)) ≡ content (map piece_of (nodes_in versions)) size
content-visible versions keyed visible_at highest size =
    λ i. each_below size (λ place. byte_at (only_one_is_highest (map piece_of (nodes_in versions)) place (visible_at place) (pieces_agree_by_version versions keyed place) (highest place) i))

-- ---- the latest

in_newest : (versions : Versions) → Contains (nodes_in versions) versions.newest
in_newest versions = Contains-here versions.newest versions.older.nodes.items

latest_from : (versions : Versions) → IsByVersion versions → (o : Option InodeNode) → latest (nodes_in versions) ≡ o → o ≡ Some versions.newest
latest_from versions keyed None e =
    let none : nodes_in versions ≡ [] = newest_of_none (nodes_in versions) (λ n. n.version) e in
    absurd (Contains-none versions.newest (subst (λ ns. Contains ns versions.newest) none (in_newest versions)))
latest_from versions keyed (Some x) e =
    let is = newest_is_newest (nodes_in versions) (λ n. n.version) x e in
    let above : versions.newest.version ≤ x.version = is.1 versions.newest (in_newest versions) in
    let below : x.version ≤ versions.newest.version = at_most_newest versions x is.0 in
    let same : x.version ≡ versions.newest.version = omega arith in
    ap Some (one_of_version versions x versions.newest is.0 (in_newest versions) same)

pub latest_is : (versions : Versions) → IsByVersion versions → latest (nodes_in versions) ≡ Some versions.newest
latest_is versions keyed = latest_from versions keyed (latest (nodes_in versions)) refl

-- ---- the objects of all numbers

abbrev Objects : Type 0
Objects = BTreeMap ℕ Stored

pub replaced_at : (old new : Objects) (k : ℕ) (stored : Stored) → Updates nat_cmp old new k (Some stored) → (i : ℕ) → get nat_cmp new i ≡ (if k == i then Some stored else get nat_cmp old i)
replaced_at old new k stored u i = u.0 i ∙ ap (λ (b : Bool). if b then Some stored else get nat_cmp old i) (unsigned_tied k i)

made_of : Option Versions → Option VersionedObject
made_of o = option_and_then (λ versions. made_by (nodes_in versions)) o

-- the objects of all numbers but those that are left
abbrev pub AreDone : NodesByNumber → List (ℕ × Versions) → Objects → Type 0
AreDone numbers rest objects = (i : ℕ) → lookup (eq_by_cmp nat_cmp i) rest ≡ None → option_map as_made (get nat_cmp objects i) ≡ made_of_number numbers i

one_object_done : (numbers : NodesByNumber) (old new : Objects) (k : ℕ) (versions : Versions) (rest : List (ℕ × Versions)) (stored : Stored)
    → get nat_cmp numbers k ≡ Some versions → Some (as_made stored) ≡ made_by (nodes_in versions) → Updates nat_cmp old new k (Some stored)
    → AreDone numbers ((k, versions) ∷ rest) old → AreDone numbers rest new
unfolding made_of
one_object_done numbers old new k versions rest stored there made u before i none =
    by_test (k == i)
    (λ e. ap (option_map as_made) (replaced_at old new k stored u i ∙ ap (λ (b : Bool). if b then Some stored else get nat_cmp old i) e)
    ∙ made ∙ sym (ap made_of there) ∙ ap (made_of_number numbers) (eqb-true k i e))
    (λ e. ap (option_map as_made) (replaced_at old new k stored u i ∙ ap (λ (b : Bool). if b then Some stored else get nat_cmp old i) e)
    ∙ before i (ap (λ (b : Bool). if b then Some versions else lookup (eq_by_cmp nat_cmp i) rest) (unsigned_tied i k ∙ eqb_symm i k ∙ e) ∙ none))

-- each of those that are left has its versions
abbrev pub AreLeft : NodesByNumber → List (ℕ × Versions) → Type 0
AreLeft numbers rest = All (λ e. get nat_cmp numbers e.0 ≡ Some e.1) rest

pub first_left : (numbers : NodesByNumber) (all rest : List (ℕ × Versions)) (k : ℕ) (versions : Versions) → all ≡ (k, versions) ∷ rest → AreLeft numbers all → get nat_cmp numbers k ≡ Some versions
first_left numbers all rest k versions is left =
    All-head (λ (e : ℕ × Versions). get nat_cmp numbers e.0 ≡ Some e.1) (k, versions) rest (subst (AreLeft numbers) is left)

pub others_left : (numbers : NodesByNumber) (all rest : List (ℕ × Versions)) (k : ℕ) (versions : Versions) → all ≡ (k, versions) ∷ rest → AreLeft numbers all → AreLeft numbers rest
others_left numbers all rest k versions is left =
    All-tail (λ (e : ℕ × Versions). get nat_cmp numbers e.0 ≡ Some e.1) (k, versions) rest (subst (AreLeft numbers) is left)

pub first_done : (numbers : NodesByNumber) (old new : Objects) (all rest : List (ℕ × Versions)) (k : ℕ) (versions : Versions) (stored : Stored) → all ≡ (k, versions) ∷ rest
    → AreLeft numbers all → AreDone numbers all old → Some (as_made stored) ≡ made_by (nodes_in versions) → Updates nat_cmp old new k (Some stored) → AreDone numbers rest new
first_done numbers old new all rest k versions stored is left done made u =
    one_object_done numbers old new k versions rest stored (first_left numbers all rest k versions is left) made u (subst (λ es. AreDone numbers es old) is done)

pub none_done : (numbers : NodesByNumber) (objects : Objects) → objects.entries ≡ [] → AreDone numbers numbers.entries objects
unfolding made_of
none_done numbers objects empty i none =
    ap (λ (es : List (ℕ × Stored)). option_map as_made (lookup (eq_by_cmp nat_cmp i) es)) empty ∙ sym (ap made_of none)

pub by_version-of : (numbers : NodesByNumber) → IsKeyed numbers → (k : ℕ) (versions : Versions) → get nat_cmp numbers k ≡ Some versions → IsByVersion versions
by_version-of numbers keyed k versions there v node h =
    (keyed k v node (ap (λ (o : Option Versions). option_and_then (λ vs. inode_of_version vs v) o) there ∙ h)).1

pub All-of_number : (P : InodeNode → Type 0) (numbers : NodesByNumber) (k : ℕ) (versions : Versions) → get nat_cmp numbers k ≡ Some versions → All P (nodes_of_numbers numbers) → All P (nodes_in versions)
unfolding nodes_of_numbers
All-of_number P numbers k versions there all j d l =
    All-contains P (flat_map (λ (e : ℕ × Versions). nodes_in e.1) numbers.entries) (get_or (nodes_in versions) j d) all
    (Contains-flat_map (λ (e : ℕ × Versions). nodes_in e.1) numbers.entries (k, versions) (get_or (nodes_in versions) j d)
    (Contains-from_lookup (tells_apart exact_unsigned) k versions numbers.entries there) (Contains-get_or (nodes_in versions) j d l))
