-- What one more node at the end changes.
use Rattle.std.proofs.Common.{◌≡◌, ℕ, ◌<◌, ◌≤◌, Bool, true, false, ◌&&◌, cond, List, [], ◌∷◌, ◌++◌, map, Option, Some, None, refl, ap, sym, ◌∙◌, arith}
use Rattle.std.specs.Prelude.{filter, fold, max, option_map, option_and_then, ◌==◌, bytes_eq}
use Rattle.std.specs.List.{Any, flat_map}
use Rattle.std.proofs.lemmas.Bool.{cond_both, cond-true, eqb-true, lt-ltb, and_parts}
use Rattle.std.proofs.lemmas.List.{append-nil, map-append}
use Rattle.std.proofs.lemmas.List.Elements.{filter_map-append}
use Rattle.std.proofs.lemmas.Grind.{flat_map-append, fold-append}
use Rattle.flashbase.specs.Lists.{newest, greatest}
use Rattle.flashbase.proofs.ListLemmas.{after_last, after_last-new, filter-push, newest-push, newest-filter-push, version_there, version-newest, greatest-cons, greatest-push, fold_max, contained_below}
use Rattle.jnode.specs.declared.node.Dirent.{Dirent}
use Rattle.jnode.specs.declared.node.InodeNode.{InodeNode}
use Rattle.jnode.specs.declared.node.NodeRef.{NodeRef}
use Rattle.jnode.specs.declared.node.NodeRef.TheVariants.{Entry, Inode}
use Rattle.jfrag.specs.declared.piece.Piece.{Piece}
use Rattle.jfrag.specs.Pieces.{covers, byte_of}
use Rattle.jfrag.specs.Overlays.{Visible, GivesAt, IsHighestAt, visible, byte_at, outranks}
use Rattle.jfrag.proofs.OverlaysLemmas.{one_more_piece, visible_is_highest, content_is_visible}
use Rattle.jname.specs.Live.{is_at, ino_if_any, live, live_names}
use Rattle.jmount.specs.StateOf.{inode_in, entry_in, inodes, entries, versions_of, latest, piece_of, object_by, object_from, objects_of, or_root, numbers_in, owner, version_of, top}
use Rattle.jmount.specs.Laws as law
use Rattle.jmount.proofs.NumbersLemmas.{object-state_of, inode_top, top_is_max}

-- ---- the two kinds of node

pub inodes-push_inode : (ns : List NodeRef) (node : InodeNode) → inodes (ns ++ Inode node ∷ []) ≡ inodes ns ++ node ∷ []
inodes-push_inode ns node = filter_map-append inode_in ns (Inode node ∷ [])

pub inodes-push_entry : (ns : List NodeRef) (entry : Dirent) → inodes (ns ++ Entry entry ∷ []) ≡ inodes ns
inodes-push_entry ns entry = filter_map-append inode_in ns (Entry entry ∷ []) ∙ append-nil (inodes ns)

pub entries-push_entry : (ns : List NodeRef) (entry : Dirent) → entries (ns ++ Entry entry ∷ []) ≡ entries ns ++ entry ∷ []
entries-push_entry ns entry = filter_map-append entry_in ns (Entry entry ∷ [])

pub entries-push_inode : (ns : List NodeRef) (node : InodeNode) → entries (ns ++ Inode node ∷ []) ≡ entries ns
entries-push_inode ns node = filter_map-append entry_in ns (Inode node ∷ []) ∙ append-nil (entries ns)

pub entry_keeps_objects : law.EntryKeepsObjects
entry_keeps_objects ns entry = ap objects_of (inodes-push_entry ns entry)

pub inode_keeps_names : law.InodeKeepsNames
inode_keeps_names ns node = ap live_names (entries-push_inode ns node)

-- ---- the greatest version and the next number

top_pushed : (b : Bool) (ns : List NodeRef) (node : NodeRef)
    → greatest (map version_of (cond b (ns ++ node ∷ []) ns)) ≡ cond b (max (greatest (map version_of ns)) (version_of node)) (greatest (map version_of ns))
top_pushed true ns node = ap greatest (map-append version_of ns (node ∷ [])) ∙ greatest-push (map version_of ns) (version_of node)
top_pushed false ns node = refl

pub top_of_one_more : law.TopOfOneMore
top_of_one_more ns node i =
    ap (λ xs. greatest (map version_of xs)) (filter-push (λ n. i == owner n) ns node) ∙ top_pushed (i == owner node) (filter (λ n. i == owner n) ns) node

greatest-append : (xs ys : List ℕ) → greatest (xs ++ ys) ≡ max (greatest xs) (greatest ys)
greatest-append xs ys =
    let same : greatest xs ≡ max (greatest xs) 0 = omega arith in
    fold-append max 0 xs ys ∙ ap (λ m. fold max m ys) same ∙ fold_max (greatest xs) 0 ys

pub next_of_one_more : law.NextOfOneMore
next_of_one_more ns node =
    let all : greatest (1 ∷ flat_map numbers_in (ns ++ node ∷ [])) ≡ max (greatest (1 ∷ flat_map numbers_in ns)) (greatest (numbers_in node)) =
    ap (λ xs. greatest (1 ∷ xs)) (flat_map-append numbers_in ns (node ∷ []) ∙ ap (λ xs. flat_map numbers_in ns ++ xs) (append-nil (numbers_in node)))
    ∙ greatest-append (1 ∷ flat_map numbers_in ns) (numbers_in node) in
    omega arith

-- ---- names

-- of entries that a test takes, all of one directory, none is above the directory's top
kept_below : (i : ℕ) (p : Dirent → Bool) → ((entry : Dirent) → p entry ≡ true → (entry.pino == i) ≡ true) → (es : List Dirent)
    → greatest (map (λ entry. entry.version) (filter p es)) ≤ greatest (map (λ entry. entry.version) (filter (λ entry. entry.pino == i) es))
kept_below i p of_i [] = omega arith
kept_below i p of_i (entry ∷ es) =
    let rest = filter p es in
    let all = filter (λ entry. entry.pino == i) es in
    let hyp : greatest (map (λ entry. entry.version) rest) ≤ greatest (map (λ entry. entry.version) all) = kept_below i p of_i es in
    let least = greatest-cons entry.version (map (λ entry. entry.version) rest) in
    let most = greatest-cons entry.version (map (λ entry. entry.version) all) in
    cond_both (p entry) (entry ∷ rest) rest (λ xs. greatest (map (λ entry. entry.version) xs) ≤ greatest (map (λ entry. entry.version) (cond (entry.pino == i) (entry ∷ all) all)))
    (λ yes. let here = cond-true (entry.pino == i) (entry ∷ all) all (of_i entry yes) in let same = ap (λ xs. greatest (map (λ (entry : Dirent). entry.version) xs)) here in omega arith)
    (λ _. cond_both (entry.pino == i) (entry ∷ all) all (λ ys. greatest (map (λ entry. entry.version) rest) ≤ greatest (map (λ entry. entry.version) ys)) (λ _. omega arith) (λ _. omega arith))

entries_below_top : (i : ℕ) (p : Dirent → Bool) → ((entry : Dirent) → p entry ≡ true → (entry.pino == i) ≡ true) → (ns : List NodeRef)
    → greatest (map (λ entry. entry.version) (filter p (entries ns))) ≤ top ns i
entries_below_top i p of_i ns =
    let below = kept_below i p of_i (entries ns) in
    let both = top_is_max ns i in
    omega arith

new_one : {X Y : Type 0} (v : X → ℕ) (g : X → Option Y) (b : Bool) (there : Option X) (x : X) → (b ≡ true → after_last v there x ≡ x)
    → option_and_then g (cond b (Some (after_last v there x)) there) ≡ cond b (g x) (option_and_then g there)
new_one v g true there x h = ap g (h refl)
new_one v g false there x h = refl

pub new_entry_is_visible : law.NewEntryIsVisible
new_entry_is_visible ns entry key newer =
    let v : Dirent → ℕ = λ entry. entry.version in
    let there = newest v (filter (is_at key) (entries ns)) in
    ap (λ es. live es key) (entries-push_entry ns entry)
    ∙ ap (option_and_then ino_if_any) (newest-filter-push v (is_at key) (entries ns) entry)
    ∙ new_one v ino_if_any (is_at key entry) there entry
    (λ yes.
    let of_key : (e : Dirent) → is_at key e ≡ true → (e.pino == key.0) ≡ true = λ e at. (and_parts (e.pino == key.0) (bytes_eq e.name key.1) at).0 in
    let same : top ns entry.pino ≡ top ns key.0 = ap (top ns) (eqb-true entry.pino key.0 (of_key entry yes)) in
    let below : greatest (map v (filter (is_at key) (entries ns))) ≤ top ns key.0 = entries_below_top key.0 (is_at key) of_key ns in
    let is : version_there v there ≡ greatest (map v (filter (is_at key) (entries ns))) = version-newest v (filter (is_at key) (entries ns)) in
    after_last-new v there entry (omega arith))

-- ---- objects

pub versions-push : (ns : List NodeRef) (node : InodeNode) (i : ℕ)
    → versions_of (inodes (ns ++ Inode node ∷ [])) i ≡ cond (i == node.ino) (versions_of (inodes ns) i ++ node ∷ []) (versions_of (inodes ns) i)
versions-push ns node i = ap (filter (λ n. i == n.ino)) (inodes-push_inode ns node) ∙ filter-push (λ n. i == n.ino) (inodes ns) node

inodes_below_top : (ns : List NodeRef) (i : ℕ) → inode_top ns i ≤ top ns i
inodes_below_top ns i = let both = top_is_max ns i in omega arith

-- the newest of an object's versions and of a newer one is the newer one
pub latest-push : (ns : List NodeRef) (node : InodeNode) → top ns node.ino < node.version → latest (versions_of (inodes ns) node.ino ++ node ∷ []) ≡ Some node
latest-push ns node newer =
    let v : InodeNode → ℕ = λ node. node.version in
    let versions = versions_of (inodes ns) node.ino in
    let below : inode_top ns node.ino ≤ top ns node.ino = inodes_below_top ns node.ino in
    let is : version_there v (latest versions) ≡ greatest (map v versions) = version-newest v versions in
    newest-push v versions node ∙ ap Some (after_last-new v (latest versions) node (omega arith))

one_object : (i : ℕ) (b : Bool) (olds : List InodeNode) (node : InodeNode) → (b ≡ true → latest (olds ++ node ∷ []) ≡ Some node)
    → object_from i (cond b (olds ++ node ∷ []) olds) ≡ cond b (Some (object_by (olds ++ node ∷ []) node)) (object_from i olds)
one_object i true olds node h = ap (λ o. or_root i (option_map (object_by (olds ++ node ∷ [])) o)) (h refl)
one_object i false olds node h = refl

pub new_inode_is_visible : law.NewInodeIsVisible
new_inode_is_visible ns node i newer =
    let olds = versions_of (inodes ns) i in
    object-state_of (ns ++ Inode node ∷ []) i
    ∙ ap (object_from i) (versions-push ns node i)
    ∙ one_object i (i == node.ino) olds node (λ yes. ap (λ k. latest (versions_of (inodes ns) k ++ node ∷ [])) (eqb-true i node.ino yes) ∙ latest-push ns node newer)
    ∙ ap (cond (i == node.ino) (Some (object_by (olds ++ node ∷ []) node))) (sym (object-state_of ns i))

-- ---- bytes

versions_of_pieces : (nodes : List InodeNode) → map (λ piece. piece.version) (map piece_of nodes) ≡ map (λ node. node.version) nodes
versions_of_pieces [] = refl
versions_of_pieces (node ∷ nodes) = ap (λ vs. node.version ∷ vs) (versions_of_pieces nodes)

outranks_all : (ps : List Piece) (place v : ℕ) (s : Visible) → IsHighestAt ps place s → greatest (map (λ piece. piece.version) ps) < v → outranks v s ≡ true
outranks_all ps place v None h newer = refl
outranks_all ps place v (Some there) h newer = by_piece h.0
  where
    by_piece : Any (GivesAt place there) ps → outranks v (Some there) ≡ true
    by_piece (k, p, k_in, at_k, (p_covers, p_version, p_byte)) =
        let below : p.version ≤ greatest (map (λ piece. piece.version) ps) = contained_below (λ piece. piece.version) ps k p k_in at_k in
        lt-ltb there.0 v (omega arith)

overlaid_on : (c : Bool) (there : ℕ × ℕ) (s : Visible) → byte_at (cond (c && true) (Some there) s) ≡ cond c there.1 (byte_at s)
overlaid_on true there s = refl
overlaid_on false there s = refl

pub byte-new : (ps : List Piece) (piece : Piece) (place : ℕ) → greatest (map (λ p. p.version) ps) < piece.version
    → byte_at (visible (ps ++ piece ∷ []) place) ≡ cond (covers place piece) (byte_of place piece) (byte_at (visible ps place))
byte-new ps piece place newer =
    let there : ℕ × ℕ = (piece.version, byte_of place piece) in
    ap byte_at (one_more_piece ps piece place)
    ∙ ap (λ (b : Bool). byte_at (cond (covers place piece && b) (Some there) (visible ps place)))
    (outranks_all ps place piece.version (visible ps place) (visible_is_highest ps place) newer)
    ∙ overlaid_on (covers place piece) there (visible ps place)

pub new_bytes_are_visible : law.NewBytesAreVisible
new_bytes_are_visible ns node size place newer within =
    let olds = versions_of (inodes ns) node.ino in
    let below : inode_top ns node.ino ≤ top ns node.ino = inodes_below_top ns node.ino in
    let same : greatest (map (λ piece. piece.version) (map piece_of olds)) ≡ inode_top ns node.ino = ap greatest (versions_of_pieces olds) in
    (content_is_visible (map piece_of (olds ++ node ∷ [])) size place within).1
    ∙ ap (λ ps. byte_at (visible ps place)) (map-append piece_of olds (node ∷ []))
    ∙ byte-new (map piece_of olds) (piece_of node) place (omega arith)
