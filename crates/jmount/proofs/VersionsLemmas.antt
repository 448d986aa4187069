-- The nodes of a number, among all that are stored.
use Rattle.std.proofs.Common.{◌≡◌, ℕ, Bool, true, false, cond, List, [], ◌∷◌, ◌++◌, map, Option, Some, None, refl, ap, sym, ◌∙◌}
use Rattle.std.specs.Prelude.{Contains, filter, ◌==◌}
use Rattle.std.specs.declared.cmp.Ordering.TheVariants.{Less}
use Rattle.std.specs.List.{flat_map, AllByRecursion}
use Rattle.std.specs.List.Sorted.{IsStrictlySortedBy}
use Rattle.std.specs.Map.{lookup}
use Rattle.std.specs.Option.{option_and_then}
use Rattle.std.specs.Ordering.{nat_cmp, is_eq, eq_by_cmp}
use Rattle.std.specs.Cmp.{unsigned_tied}
use Rattle.std.specs.BTreeMap.{get, IsOrdered}
use Rattle.std.proofs.lemmas.Bool.{eqb-true}
use Rattle.std.proofs.lemmas.List.{append-nil}
use Rattle.std.proofs.lemmas.List.Elements.{filter-append}
use Rattle.jnode.specs.declared.node.InodeNode.{InodeNode}
use Rattle.jname.proofs.EntriesLemmas.{nat_found}
use Rattle.jname.proofs.ContentsByNameLemmas.{by_test}
use Rattle.flashbase.proofs.MemberLemmas.{Contains-here, Contains-there}
use Rattle.jmount.specs.declared.versions.Versions.{Versions}
use Rattle.jmount.specs.Inodes.{NodesByNumber, IsKeyed, inode_at, inode_of_version, nodes_in, nodes_of_numbers}
use Rattle.jmount.specs.StateOf.{versions_of}
use Rattle.jmount.specs.Storing.{made_of_number, made_by}
use Rattle.jmount.proofs.NewestLemmas.{version_found}

filter_all : {X : Type 0} (p : X → Bool) (xs : List X) → ((x : X) → Contains xs x → p x ≡ true) → filter p xs ≡ xs
filter_all p [] h = refl
filter_all p (x ∷ xs) h =
    ap (λ b. cond b (x ∷ filter p xs) (filter p xs)) (h x (Contains-here x xs)) ∙ ap (λ ys. x ∷ ys) (filter_all p xs (λ y c. h y (Contains-there x xs y c)))

filter_no : {X : Type 0} (p : X → Bool) (xs : List X) → ((x : X) → Contains xs x → p x ≡ false) → filter p xs ≡ []
filter_no p [] h = refl
filter_no p (x ∷ xs) h =
    ap (λ b. cond b (x ∷ filter p xs) (filter p xs)) (h x (Contains-here x xs)) ∙ filter_no p xs (λ y c. h y (Contains-there x xs y c))

-- a key below all others is none of them
lookup_below : {X : Type 0} (k : ℕ) (es : List (ℕ × X)) → AllByRecursion (λ q. nat_cmp k q ≡ Less) (map (λ e. e.0) es) → lookup (eq_by_cmp nat_cmp k) es ≡ None
lookup_below k [] h = refl
lookup_below k (e ∷ es) h = ap (λ o. cond (is_eq o) (Some e.1) (lookup (eq_by_cmp nat_cmp k) es)) h.0 ∙ lookup_below k es h.1

nodes_found : Option Versions → List InodeNode
nodes_found None = []
nodes_found (Some versions) = nodes_in versions

-- the nodes at each number are that number's
abbrev AreOwn : List (ℕ × Versions) → Type 0
AreOwn es = (e : ℕ × Versions) → Contains es e → (node : InodeNode) → Contains (nodes_in e.1) node → node.ino ≡ e.0

nodes_listed : List (ℕ × Versions) → List InodeNode
nodes_listed es = flat_map (λ (e : ℕ × Versions). nodes_in e.1) es

versions_listed : (es : List (ℕ × Versions)) (i : ℕ) → IsStrictlySortedBy nat_cmp (map (λ e. e.0) es) → AreOwn es
    → filter (λ (node : InodeNode). i == node.ino) (nodes_listed es) ≡ nodes_found (lookup (eq_by_cmp nat_cmp i) es)
unfolding IsStrictlySortedBy nodes_listed nodes_found
versions_listed [] i sorted own = refl
versions_listed (e ∷ es) i sorted own =
    let later = versions_listed es i sorted.1 (λ f c. own f (Contains-there e es f c)) in
    let mine : (node : InodeNode) → Contains (nodes_in e.1) node → (i == node.ino) ≡ (i == e.0) = λ node c. ap (λ n. i == n) (own e (Contains-here e es) node c) in
    let test : eq_by_cmp nat_cmp i e.0 ≡ (i == e.0) = unsigned_tied i e.0 in
    filter-append (λ (node : InodeNode). i == node.ino) (nodes_in e.1) (flat_map (λ (f : ℕ × Versions). nodes_in f.1) es)
    ∙ by_test (i == e.0)
    (λ t.
    let same : i ≡ e.0 = eqb-true i e.0 t in
    let none : lookup (eq_by_cmp nat_cmp i) es ≡ None = ap (λ n. lookup (eq_by_cmp nat_cmp n) es) same ∙ lookup_below e.0 es sorted.0 in
    (λ j. filter_all (λ (node : InodeNode). i == node.ino) (nodes_in e.1) (λ node c. mine node c ∙ t) j ++ (later ∙ ap nodes_found none) j)
    ∙ append-nil (nodes_in e.1)
    ∙ ap (λ b. nodes_found (cond b (Some e.1) (lookup (eq_by_cmp nat_cmp i) es))) (sym (test ∙ t)))
    (λ f.
    ap (λ ns. ns ++ filter (λ (node : InodeNode). i == node.ino) (flat_map (λ (g : ℕ × Versions). nodes_in g.1) es)) (filter_no (λ (node : InodeNode). i == node.ino) (nodes_in e.1) (λ node c. mine node c ∙ f))
    ∙ later
    ∙ ap (λ b. nodes_found (cond b (Some e.1) (lookup (eq_by_cmp nat_cmp i) es))) (sym (test ∙ f)))

own-of : (numbers : NodesByNumber) → IsOrdered nat_cmp numbers → IsKeyed numbers → AreOwn numbers.entries
own-of numbers ordered keyed e c node h =
    let number : get nat_cmp numbers e.0 ≡ Some e.1 = nat_found numbers.entries e.0 e.1 ordered c in
    let there : inode_at numbers e.0 node.version ≡ Some node =
    ap (λ (o : Option Versions). option_and_then (λ vs. inode_of_version vs node.version) o) number ∙ version_found e.1 node h in
    (keyed e.0 node.version node there).0

versions_of-nodes : (numbers : NodesByNumber) → IsOrdered nat_cmp numbers → IsKeyed numbers → (i : ℕ) → versions_of (nodes_of_numbers numbers) i ≡ nodes_found (get nat_cmp numbers i)
unfolding nodes_of_numbers nodes_listed
versions_of-nodes numbers ordered keyed i = versions_listed numbers.entries i ordered (own-of numbers ordered keyed)

made_found : (o : Option Versions) → option_and_then (λ versions. made_by (nodes_in versions)) o ≡ made_by (nodes_found o)
unfolding nodes_found
made_found None = refl
made_found (Some versions) = refl

pub made_at-is : (numbers : NodesByNumber) → IsOrdered nat_cmp numbers → IsKeyed numbers → (i : ℕ) → made_of_number numbers i ≡ made_by (versions_of (nodes_of_numbers numbers) i)
made_at-is numbers ordered keyed i = made_found (get nat_cmp numbers i) ∙ ap made_by (sym (versions_of-nodes numbers ordered keyed i))
