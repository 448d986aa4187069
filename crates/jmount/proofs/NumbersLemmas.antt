-- Greatest versions, and the next number that is free.
use Rattle.std.proofs.Common.{◌≡◌, ℕ, ◌+◌, Bool, true, false, cond, List, [], ◌∷◌, map, Option, Some, None, refl, ap, sym, ◌∙◌, arith}
use Rattle.std.specs.Prelude.{filter, max, option_map, unwrap_or, ◌==◌}
use Rattle.std.specs.List.{list_any, flat_map}
use Rattle.std.specs.Ordering.{eq_by_cmp, nat_cmp}
use Rattle.std.specs.Cmp.{nat_cmp_total, unsigned_tied, eq_by_cmp_equiv}
use Rattle.std.specs.FinMap.{nat_cmp-IsAntisymmetric}
use Rattle.std.proofs.lemmas.Bool.{cond-false, or_parts}
use Rattle.flashbase.specs.Lists.{newest, greatest}
use Rattle.flashbase.proofs.ListLemmas.{version_there, version-newest, greatest-cons, get-tabled, get-tabled_all, filter-no_key}
use Rattle.jname.specs.Live.{highest}
use Rattle.jname.proofs.NamingLemmas.{get-live_names}
use Rattle.jnode.specs.declared.node.Dirent.{Dirent}
use Rattle.jnode.specs.declared.node.InodeNode.{InodeNode}
use Rattle.jnode.specs.declared.node.NodeRef.{NodeRef}
use Rattle.jnode.specs.declared.node.NodeRef.TheVariants.{Entry, Inode}
use Rattle.jmount.specs.StateOf.{inodes, entries, versions_of, latest, default_root, or_root, object_from, object_of, numbers_in, owner, version_of, top}
use Rattle.jmount.specs.Laws as law

pub eqb_symm : (a b : ℕ) → (a == b) ≡ (b == a)
eqb_symm a b = sym (unsigned_tied a b) ∙ (eq_by_cmp_equiv nat_cmp_total).symm a b ∙ unsigned_tied b a

-- ---- the objects at each number

no_root : (i : ℕ) → (i == 1) ≡ false → or_root i None ≡ None
no_root i h = cond-false (i == 1) (Some default_root) None h

pub get-objects_of : law.ObjectsHaveEach
get-objects_of nodes i =
    get-tabled_all nat_cmp nat_cmp_total nat_cmp-IsAntisymmetric (1 ∷ map (λ node. node.ino) nodes) (object_of nodes) i
    (λ none.
    let parts = or_parts (eq_by_cmp nat_cmp i 1) (list_any (eq_by_cmp nat_cmp i) (map (λ node. node.ino) nodes)) none in
    ap (object_from i) (filter-no_key nat_cmp (λ node. node.ino) (λ node. i == node.ino) i (λ node. unsigned_tied i node.ino) nodes parts.1)
    ∙ no_root i (sym (unsigned_tied i 1) ∙ parts.0))

pub object-state_of : law.StateHasObjects
object-state_of ns i = get-objects_of (inodes ns) i

pub named-state_of : law.StateHasNames
named-state_of ns dir name = get-live_names (entries ns) (dir, name)

-- ---- the greatest version at each number

unwrapped : (b : Bool) (n : ℕ) → (b ≡ false → n ≡ 0) → unwrap_or (cond b (Some n) None) 0 ≡ n
unwrapped true n h = refl
unwrapped false n h = sym (h refl)

pub top_at-tops_of : law.TopsHaveEach
top_at-tops_of ns i =
    ap (λ (o : Option ℕ). unwrap_or o 0) (get-tabled nat_cmp nat_cmp_total nat_cmp-IsAntisymmetric (1 ∷ map owner ns) (λ k. Some (top ns k)) i)
    ∙ unwrapped (list_any (eq_by_cmp nat_cmp i) (1 ∷ map owner ns)) (top ns i)
    (λ none.
    let parts = or_parts (eq_by_cmp nat_cmp i 1) (list_any (eq_by_cmp nat_cmp i) (map owner ns)) none in
    ap (λ (xs : List NodeRef). greatest (map version_of xs)) (filter-no_key nat_cmp owner (λ n. i == owner n) i (λ n. unsigned_tied i (owner n)) ns parts.1))

-- ---- one more node, at the front

one_kept : {X : Type 0} (version : X → ℕ) (b : Bool) (x : X) (xs : List X)
    → greatest (map version (cond b (x ∷ xs) xs)) ≡ cond b (max (version x) (greatest (map version xs))) (greatest (map version xs))
one_kept version true x xs = greatest-cons (version x) (map version xs)
one_kept version false x xs = refl

pub top-cons : (node : NodeRef) (ns : List NodeRef) (i : ℕ) → top (node ∷ ns) i ≡ cond (i == owner node) (max (version_of node) (top ns i)) (top ns i)
top-cons node ns i = one_kept version_of (i == owner node) node (filter (λ n. i == owner n) ns)

-- the greatest version of a number's inode nodes, and of the entries below it
abbrev pub inode_top : List NodeRef → ℕ → ℕ
inode_top ns i = greatest (map (λ (node : InodeNode). node.version) (versions_of (inodes ns) i))

abbrev pub entry_top : List NodeRef → ℕ → ℕ
entry_top ns i = greatest (map (λ (entry : Dirent). entry.version) (filter (λ entry. entry.pino == i) (entries ns)))

version_or_none : {X : Type 0} (version : X → ℕ) (o : Option X) → unwrap_or (option_map version o) 0 ≡ version_there version o
version_or_none version None = refl
version_or_none version (Some x) = refl

pub version-latest : (versions : List InodeNode) → unwrap_or (option_map (λ node. node.version) (latest versions)) 0 ≡ greatest (map (λ node. node.version) versions)
version-latest versions = version_or_none (λ node. node.version) (latest versions) ∙ version-newest (λ node. node.version) versions

pub entry_top-highest : (ns : List NodeRef) (i : ℕ) → entry_top ns i ≡ unwrap_or (highest (entries ns) i) 0
entry_top-highest ns i =
    let es = filter (λ entry. entry.pino == i) (entries ns) in
    sym (version_or_none (λ (entry : Dirent). entry.version) (newest (λ entry. entry.version) es) ∙ version-newest (λ (entry : Dirent). entry.version) es)

cond_max : (b : Bool) (v t a c : ℕ) → t ≡ max a c → cond b (max v t) t ≡ max (cond b (max v a) a) c
cond_max true v t a c h = omega arith
cond_max false v t a c h = h

cond_max_right : (b : Bool) (v t a c : ℕ) → t ≡ max a c → cond b (max v t) t ≡ max a (cond b (max v c) c)
cond_max_right true v t a c h = omega arith
cond_max_right false v t a c h = h

pub top_is_max : (ns : List NodeRef) (i : ℕ) → top ns i ≡ max (inode_top ns i) (entry_top ns i)
top_is_max [] i = omega arith
top_is_max (Inode node ∷ ns) i =
    top-cons (Inode node) ns i
    ∙ cond_max (i == node.ino) node.version (top ns i) (inode_top ns i) (entry_top ns i) (top_is_max ns i)
    ∙ ap (λ n. max n (entry_top ns i)) (sym (one_kept (λ (node : InodeNode). node.version) (i == node.ino) node (versions_of (inodes ns) i)))
top_is_max (Entry entry ∷ ns) i =
    top-cons (Entry entry) ns i
    ∙ cond_max_right (i == entry.pino) entry.version (top ns i) (inode_top ns i) (entry_top ns i) (top_is_max ns i)
    ∙ ap (λ (b : Bool). max (inode_top ns i) (cond b (max entry.version (entry_top ns i)) (entry_top ns i))) (eqb_symm i entry.pino)
    ∙ ap (max (inode_top ns i)) (sym (one_kept (λ (entry : Dirent). entry.version) (entry.pino == i) entry (filter (λ entry. entry.pino == i) (entries ns))))

pub top_of_both_kinds : law.TopIsOfBothKinds
top_of_both_kinds ns i = top_is_max ns i ∙ ap (max (inode_top ns i)) (entry_top-highest ns i)

-- ---- the next number

abbrev inode_numbers : List NodeRef → ℕ
inode_numbers ns = greatest (map (λ (node : InodeNode). node.ino) (inodes ns))

abbrev entry_numbers : List NodeRef → ℕ
entry_numbers ns = greatest (flat_map (λ (entry : Dirent). entry.pino ∷ entry.ino ∷ []) (entries ns))

pub numbers_are_max : (ns : List NodeRef) → greatest (flat_map numbers_in ns) ≡ max (inode_numbers ns) (entry_numbers ns)
numbers_are_max [] = omega arith
numbers_are_max (Inode node ∷ ns) =
    let all = greatest-cons node.ino (flat_map numbers_in ns) in
    let part = greatest-cons node.ino (map (λ (node : InodeNode). node.ino) (inodes ns)) in
    let hyp = numbers_are_max ns in
    omega arith
numbers_are_max (Entry entry ∷ ns) =
    let rest = flat_map (λ (entry : Dirent). entry.pino ∷ entry.ino ∷ []) (entries ns) in
    let all = greatest-cons entry.pino (entry.ino ∷ flat_map numbers_in ns) in
    let all_but_one = greatest-cons entry.ino (flat_map numbers_in ns) in
    let part = greatest-cons entry.pino (entry.ino ∷ rest) in
    let part_but_one = greatest-cons entry.ino rest in
    let hyp = numbers_are_max ns in
    omega arith

pub next_of_both_kinds : law.NextIsOfBothKinds
next_of_both_kinds ns = ap (λ n. 1 + n) (greatest-cons 1 (flat_map numbers_in ns) ∙ ap (max 1) (numbers_are_max ns))
