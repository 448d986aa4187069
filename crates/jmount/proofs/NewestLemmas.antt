-- The nodes of one number, of which the newest is apart.
use Rattle.std.proofs.Common.{◌≡◌, ℕ, Bool, false, ◌<◌, ◌≤◌, List, [], ◌∷◌, ◌++◌, Option, Some, None, refl, ap, sym, subst, ◌∙◌, ⊎_elim, arith}
use Rattle.std.specs.Prelude.{if◌then◌else◌, ◌==◌, Contains}
use Rattle.std.proofs.lemmas.Bool.{eq-eqb, eqb-true}
use Rattle.std.proofs.lemmas.List.Elements.{Contains-push_cases}
use Rattle.jnode.specs.declared.node.InodeNode.{InodeNode}
use Rattle.jmount.specs.declared.versions.Versions.{Versions}
use Rattle.jmount.specs.ByVersion.{node_of_version}
use Rattle.jmount.specs.Inodes.{nodes_in, inode_of_version}
use Rattle.jname.proofs.ContentsByNameLemmas.{by_test}
use Rattle.flashbase.proofs.MemberLemmas.{Contains-cases}
use Rattle.jmount.proofs.NumbersLemmas.{eqb_symm}
use Rattle.jmount.proofs.OlderLemmas.{choose, node_at, node_of_first, node_of_pushed}

-- all of these are below a version
abbrev pub AreBelow : List InodeNode → ℕ → Type 0
AreBelow nodes v = (node : InodeNode) → Contains nodes node → node.version < v

none_unless : (o : Option InodeNode) → ((node : InodeNode) → o ≡ Some node → ⊥) → o ≡ None
none_unless None never = refl
none_unless (Some node) never = absurd (never node refl)

pub none_of_greater : (nodes : List InodeNode) (v : ℕ) → AreBelow nodes v → node_of_version nodes v ≡ None
none_of_greater nodes v below =
    none_unless (node_of_version nodes v)
    (λ node h.
    let at = node_at nodes v node h in
    let less : node.version < v = below node at.0 in
    let same : node.version ≡ v = at.1 in omega arith)

pub below_same : (old new : List InodeNode) (v : ℕ) → new ≡ old → AreBelow old v → AreBelow new v
below_same old new v same below node h = below node (subst (λ (ns : List InodeNode). Contains ns node) same h)

pub below_one_more : (old new : List InodeNode) (more : InodeNode) (v : ℕ) → ((x : InodeNode) → Contains new x → Contains (more ∷ old) x) → more.version < v → AreBelow old v → AreBelow new v
below_one_more old new more v from less below node h =
    ⊎_elim
    (λ (is : more ≡ node). subst (λ (n : InodeNode). n.version < v) is less)
    (λ (was : Contains old node). below node was)
    (Contains-cases more old node (from node h))

pub below_pushed : (old new : List InodeNode) (last newest : InodeNode) (v : ℕ) → new ≡ old ++ last ∷ [] → last ≡ newest → newest.version < v → AreBelow old newest.version → AreBelow new v
below_pushed old new last newest v is same less below node h =
    ⊎_elim
    (λ (was : Contains old node). let before : node.version < newest.version = below node was in omega arith)
    (λ (here : last ≡ node). let version : newest.version ≡ node.version = ap (λ (n : InodeNode). n.version) (sym same ∙ here) in omega arith)
    (Contains-push_cases old last node (subst (λ (ns : List InodeNode). Contains ns node) is h))

not_equal : (v w : ℕ) → v < w → (v == w) ≡ false
not_equal v w h = by_test (v == w) (λ e. let same : v ≡ w = eqb-true v w e in absurd (omega arith)) (λ e. e)

-- a node of the list is stored at its version
pub version_found : (versions : Versions) (node : InodeNode) → Contains (nodes_in versions) node → inode_of_version versions node.version ≡ Some node
unfolding choose
version_found versions node h =
    node_of_first versions.newest versions.older.nodes.items node.version
    ∙ ⊎_elim
    (λ (is : versions.newest ≡ node).
    ap (λ (b : Bool). choose b versions.newest (node_of_version versions.older.nodes.items node.version)) (eq-eqb node.version versions.newest.version (sym (ap (λ (n : InodeNode). n.version) is)))
    ∙ ap Some is)
    (λ (older : Contains versions.older.nodes.items node).
    ap (λ (b : Bool). choose b versions.newest (node_of_version versions.older.nodes.items node.version)) (not_equal node.version versions.newest.version (versions.below node older))
    ∙ versions.older.found node older)
    (Contains-cases versions.newest versions.older.nodes.items node h)

-- and what is stored at a version is of the list
pub version_from : (versions : Versions) (v : ℕ) (node : InodeNode) → inode_of_version versions v ≡ Some node → Contains (nodes_in versions) node × (node.version ≡ v)
version_from versions v node h = node_at (nodes_in versions) v node h

pub at_most_newest : (versions : Versions) (node : InodeNode) → Contains (nodes_in versions) node → node.version ≤ versions.newest.version
at_most_newest versions node h =
    ⊎_elim
    (λ (is : versions.newest ≡ node). let same : versions.newest.version ≡ node.version = ap (λ (n : InodeNode). n.version) is in omega arith)
    (λ (older : Contains versions.older.nodes.items node). let less : node.version < versions.newest.version = versions.below node older in omega arith)
    (Contains-cases versions.newest versions.older.nodes.items node h)

pub none_above : (versions : Versions) (v : ℕ) → versions.newest.version < v → inode_of_version versions v ≡ None
none_above versions v above =
    none_of_greater (nodes_in versions) v (λ node h. let most : node.version ≤ versions.newest.version = at_most_newest versions node h in omega arith)

-- a node at the greatest version is one more
pub newest_more : (versions : Versions) (v : ℕ) → inode_of_version versions v ≡ (if versions.newest.version == v then Some versions.newest else inode_of_version versions v)
unfolding choose
newest_more versions v =
    by_test (versions.newest.version == v)
    (λ e.
    node_of_first versions.newest versions.older.nodes.items v
    ∙ ap (λ (b : Bool). choose b versions.newest (node_of_version versions.older.nodes.items v)) (eqb_symm v versions.newest.version ∙ e)
    ∙ ap (λ (b : Bool). choose b versions.newest (inode_of_version versions v)) (sym e))
    (λ e. ap (λ (b : Bool). choose b versions.newest (inode_of_version versions v)) (sym e))

-- the old nodes with that which was the newest, and a greater one apart
pub greater_more : (versions : Versions) (node : InodeNode) (older : List InodeNode) → older ≡ versions.older.nodes.items ++ versions.newest ∷ []
    → (v : ℕ) → node_of_version (node ∷ older) v ≡ (if node.version == v then Some node else inode_of_version versions v)
unfolding choose
greater_more versions node older is v =
    node_of_first node older v
    ∙ ap (λ (b : Bool). choose b node (node_of_version older v)) (eqb_symm v node.version)
    ∙ ap (choose (node.version == v) node)
    (ap (λ (ns : List InodeNode). node_of_version ns v) is
    ∙ node_of_pushed versions.older.nodes.items versions.newest v (none_of_greater versions.older.nodes.items versions.newest.version versions.below)
    ∙ ap (λ (b : Bool). choose b versions.newest (node_of_version versions.older.nodes.items v)) (eqb_symm versions.newest.version v)
    ∙ sym (node_of_first versions.newest versions.older.nodes.items v))
