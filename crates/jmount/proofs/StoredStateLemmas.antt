-- What is stored of nodes that were collected is the file system that they make.
use Rattle.std.proofs.Common.{◌≡◌, ℕ, ◌+◌, ◌⊎◌, Bool, List, [], ◌∷◌, ◌++◌, map, max, Option, Some, None, refl, ap, sym, ◌∙◌, subst, ⊎_elim, inl, inr, arith}
use Rattle.std.specs.Prelude.{Contains, option_map, unwrap_or, if◌then◌else◌, ◌==◌}
use Rattle.std.specs.Ordering.{nat_cmp}
use Rattle.std.specs.BTreeMap.{get, IsOrdered}
use Rattle.std.proofs.lemmas.Bool.{eq-eqb, eqb-true}
use Rattle.std.proofs.lemmas.List.Elements.{Contains-append_left, Contains-append_right, Contains-append_cases}
use Rattle.std.proofs.lemmas.Map.Lookups.{exact_unsigned}
use Rattle.std.proofs.lemmas.Map.Views.{Contains-from_lookup, tells_apart}
use Rattle.flashbase.specs.Lists.{greatest}
use Rattle.flashbase.proofs.ListLemmas.{newest_is_newest, newest_of_none}
use Rattle.jnode.specs.declared.node.Dirent.{Dirent}
use Rattle.jnode.specs.declared.node.InodeNode.{InodeNode}
use Rattle.jnode.specs.declared.node.NodeRef.{NodeRef}
use Rattle.jnode.specs.declared.node.NodeRef.TheVariants.{Entry, Inode}
use Rattle.jname.specs.Live.{live_names}
use Rattle.jname.proofs.LawLemmas.{highest-same, live_names-same}
use Rattle.jname.proofs.EntriesLemmas.{nat_found}
use Rattle.jname.proofs.ContentsByNameLemmas.{by_test}
use Rattle.flashbase.proofs.MemberLemmas.{Contains-none, Contains-here, Contains-there, Contains-cases, Contains-map, Contains-map_from, Contains-filter, Contains-filter_from}
use Rattle.jmount.specs.declared.stored.Stored.{Stored}
use Rattle.jmount.specs.Laws.{SameElements}
use Rattle.jmount.specs.StateOf.{inodes, entries, versions_of, latest, object_by, object_of, or_root, objects_of, owner, top, tops_of, next_of, state_of}
use Rattle.jmount.specs.Stored.{ObjectsByNumber, stored_object, stored_objects, stored_top, stored_tops, stored_state}
use Rattle.jmount.specs.Storing.{VersionedObject, as_made, made_by, made_of, made_root, or_made_root}
use Rattle.jmount.specs.Collected.{Collected, without_addresses, greatest_number}
use Rattle.jmount.proofs.ClashLemmas.{in_entries, in_inodes, from_entries, from_inodes}
use Rattle.jmount.proofs.NumbersLemmas.{version-latest, top_of_both_kinds}
use Rattle.jmount.proofs.SameLemmas.{greatest-same, tabled-same, same_mapped, same_filter}
use Rattle.jmount.proofs.StateLemmas.{objects-same}

-- each number has what the nodes make
abbrev pub HasEach : ObjectsByNumber → List InodeNode → Type 0
HasEach objects nodes = (i : ℕ) → option_map as_made (get nat_cmp objects i) ≡ made_of nodes i

-- ---- which numbers have an object

-- a number of these nodes, or the root's
abbrev IsNumber : List InodeNode → ℕ → Type 0
IsNumber nodes i = (i ≡ 1) ⊎ Contains (map (λ (node : InodeNode). node.ino) nodes) i

number_from : (nodes : List InodeNode) (i : ℕ) (m : VersionedObject) (o : Option InodeNode) → latest (versions_of nodes i) ≡ o
    → or_made_root i (option_map (λ node. (object_by (versions_of nodes i) node, node.version)) o) ≡ Some m → IsNumber nodes i
number_from nodes i m None e h = by_test (i == 1) (λ t. inl (eqb-true i 1 t)) (λ f. let no : None ≡ Some m = sym (ap (λ (b : Bool). if b then Some made_root else None) f) ∙ h in cc)
number_from nodes i m (Some node) e h =
    let found = newest_is_newest (versions_of nodes i) (λ n. n.version) node e in
    let found_one = Contains-filter_from (λ (n : InodeNode). i == n.ino) nodes node found.0 in
    inr (subst (λ j. Contains (map (λ (n : InodeNode). n.ino) nodes) j) (sym (eqb-true i node.ino found_one.1)) (Contains-map (λ (n : InodeNode). n.ino) nodes node found_one.0))

none_at_one : (o : Option VersionedObject) → or_made_root 1 o ≡ None → ⊥
none_at_one None h = let no : Some made_root ≡ None = h in cc
none_at_one (Some m) h = let no : Some m ≡ None = h in cc

none_or : (i : ℕ) (o : Option VersionedObject) → or_made_root i o ≡ None → o ≡ None
none_or i None h = refl
none_or i (Some m) h = h

none_of : {X Y : Type 0} (f : X → Y) (o : Option X) → option_map f o ≡ None → o ≡ None
none_of f None h = refl
none_of f (Some x) h = let no : Some (f x) ≡ None = h in cc

no_number : (nodes : List InodeNode) (i : ℕ) → made_of nodes i ≡ None → IsNumber nodes i → ⊥
no_number nodes i h (inl one) = none_at_one (made_by (versions_of nodes 1)) (sym (ap (made_of nodes) one) ∙ h)
no_number nodes i h (inr in_inos) =
    let found = Contains-map_from (λ (n : InodeNode). n.ino) nodes i in_inos in
    let none : versions_of nodes i ≡ [] = newest_of_none (versions_of nodes i) (λ n. n.version) (none_of (λ (node : InodeNode). (object_by (versions_of nodes i) node, node.version)) (latest (versions_of nodes i)) (none_or i (made_by (versions_of nodes i)) h)) in
    Contains-none found.0 (subst (λ ns. Contains ns found.0) none (Contains-filter (λ (n : InodeNode). i == n.ino) nodes found.0 (eq-eqb i found.0.ino (sym found.2)) found.1))

keys : ObjectsByNumber → List ℕ
keys objects = map (λ (e : ℕ × Stored). e.0) objects.entries

number_of_key : (objects : ObjectsByNumber) (nodes : List InodeNode) → IsOrdered nat_cmp objects → HasEach objects nodes → (i : ℕ) → Contains (keys objects) i → IsNumber nodes i
unfolding keys
number_of_key objects nodes ordered each i h =
    let e = Contains-map_from (λ (e : ℕ × Stored). e.0) objects.entries i h in
    let found : get nat_cmp objects e.0.0 ≡ Some e.0.1 = nat_found objects.entries e.0.0 e.0.1 ordered e.1 in
    let made : made_of nodes i ≡ Some (as_made e.0.1) = sym (each i) ∙ ap (λ j. option_map as_made (get nat_cmp objects j)) (sym e.2) ∙ ap (option_map as_made) found in
    number_from nodes i (as_made e.0.1) (latest (versions_of nodes i)) refl made

key_of_number : (objects : ObjectsByNumber) (nodes : List InodeNode) → HasEach objects nodes → (i : ℕ) → IsNumber nodes i → Contains (keys objects) i
unfolding keys
key_of_number objects nodes each i number = by_found (get nat_cmp objects i) refl
  where
    by_found : (o : Option Stored) → get nat_cmp objects i ≡ o → Contains (map (λ (e : ℕ × Stored). e.0) objects.entries) i
    by_found None e = absurd (no_number nodes i (sym (each i) ∙ ap (option_map as_made) e) number)
    by_found (Some stored) e =
        Contains-map (λ (e : ℕ × Stored). e.0) objects.entries (i, stored) (Contains-from_lookup (tells_apart exact_unsigned) i stored objects.entries e)

-- ---- objects

object_made : (i : ℕ) (versions : List InodeNode) (o : Option InodeNode)
    → option_map (λ (m : VersionedObject). m.0) (or_made_root i (option_map (λ node. (object_by versions node, node.version)) o)) ≡ or_root i (option_map (object_by versions) o)
object_made i versions None = by_test (i == 1) (λ t. rw t refl) (λ f. rw f refl)
object_made i versions (Some node) = refl

first_shown : (o : Option Stored) → option_map stored_object o ≡ option_map (λ (m : VersionedObject). m.0) (option_map as_made o)
first_shown None = refl
first_shown (Some stored) = refl

pub objects_stored : (objects : ObjectsByNumber) (nodes : List InodeNode) → IsOrdered nat_cmp objects → HasEach objects nodes → stored_objects objects ≡ objects_of nodes
unfolding keys
objects_stored objects nodes ordered each =
    tabled-same (keys objects) (1 ∷ map (λ (node : InodeNode). node.ino) nodes) (λ i. option_map stored_object (get nat_cmp objects i)) (object_of nodes)
    (λ i. (
      λ h. ⊎_elim (λ one. subst (λ j. Contains (1 ∷ map (λ (node : InodeNode). node.ino) nodes) j) (sym one) (Contains-here 1 (map (λ (node : InodeNode). node.ino) nodes)))
          (λ later. Contains-there 1 (map (λ (node : InodeNode). node.ino) nodes) i later) (number_of_key objects nodes ordered each i h),
      λ h. key_of_number objects nodes each i (⊎_elim (λ one. inl (sym one)) (λ later. inr later) (Contains-cases 1 (map (λ (node : InodeNode). node.ino) nodes) i h)),
    ))
    (λ i. first_shown (get nat_cmp objects i) ∙ ap (option_map (λ (m : VersionedObject). m.0)) (each i) ∙ object_made i (versions_of nodes i) (latest (versions_of nodes i)))

-- ---- greatest versions

second_shown : (o : Option Stored) → option_map (λ (stored : Stored). stored.version) o ≡ option_map (λ (m : VersionedObject). m.1) (option_map as_made o)
second_shown None = refl
second_shown (Some stored) = refl

version_made : (i : ℕ) (versions : List InodeNode) (o : Option InodeNode)
    → unwrap_or (option_map (λ (m : VersionedObject). m.1) (or_made_root i (option_map (λ node. (object_by versions node, node.version)) o))) 0 ≡ unwrap_or (option_map (λ node. node.version) o) 0
version_made i versions None = by_test (i == 1) (λ t. rw t refl) (λ f. rw f refl)
version_made i versions (Some node) = refl

version_stored : (objects : ObjectsByNumber) (nodes : List InodeNode) (ns : List NodeRef) → HasEach objects nodes → SameElements nodes (inodes ns) → (i : ℕ)
    → unwrap_or (option_map (λ (stored : Stored). stored.version) (get nat_cmp objects i)) 0 ≡ greatest (map (λ (node : InodeNode). node.version) (versions_of (inodes ns) i))
version_stored objects nodes ns each same i =
    ap (λ o. unwrap_or o 0) (second_shown (get nat_cmp objects i) ∙ ap (option_map (λ (m : VersionedObject). m.1)) (each i))
    ∙ version_made i (versions_of nodes i) (latest (versions_of nodes i))
    ∙ version-latest (versions_of nodes i)
    ∙ greatest-same (map (λ (node : InodeNode). node.version) (versions_of nodes i)) (map (λ (node : InodeNode). node.version) (versions_of (inodes ns) i))
    (same_mapped (λ (node : InodeNode). node.version) (versions_of nodes i) (versions_of (inodes ns) i) (same_filter (λ (node : InodeNode). i == node.ino) nodes (inodes ns) same))

top_stored : (objects : ObjectsByNumber) (names : List Dirent) (nodes : List InodeNode) (ns : List NodeRef) → HasEach objects nodes → SameElements nodes (inodes ns) → SameElements names (entries ns)
    → (i : ℕ) → stored_top objects names i ≡ top ns i
top_stored objects names nodes ns each same_nodes same_names i =
    (λ j. max (version_stored objects nodes ns each same_nodes i j) (unwrap_or (highest-same names (entries ns) i same_names j) 0)) ∙ sym (top_of_both_kinds ns i)

owned_number : (nodes : List InodeNode) (ns : List NodeRef) → SameElements nodes (inodes ns) → (i : ℕ) → IsNumber nodes i → Contains (1 ∷ map owner ns) i
owned_number nodes ns same i (inl one) = subst (λ j. Contains (1 ∷ map owner ns) j) (sym one) (Contains-here 1 (map owner ns))
owned_number nodes ns same i (inr in_inos) =
    let found = Contains-map_from (λ (n : InodeNode). n.ino) nodes i in_inos in
    Contains-there 1 (map owner ns) i
    (subst (λ j. Contains (map owner ns) j) found.2 (Contains-map owner ns (Inode found.0) (from_inodes ns found.0 ((same found.0).0 found.1))))

owned_entry : (names : List Dirent) (ns : List NodeRef) → SameElements names (entries ns) → (i : ℕ) → Contains (map (λ (entry : Dirent). entry.pino) names) i → Contains (1 ∷ map owner ns) i
owned_entry names ns same i h =
    let found = Contains-map_from (λ (entry : Dirent). entry.pino) names i h in
    Contains-there 1 (map owner ns) i
    (subst (λ j. Contains (map owner ns) j) found.2 (Contains-map owner ns (Entry found.0) (from_entries ns found.0 ((same found.0).0 found.1))))

owner_stored : (objects : ObjectsByNumber) (names : List Dirent) (nodes : List InodeNode) (ns : List NodeRef) → HasEach objects nodes → SameElements nodes (inodes ns) → SameElements names (entries ns)
    → (n : NodeRef) → Contains ns n → Contains (keys objects ++ map (λ (entry : Dirent). entry.pino) names) (owner n)
owner_stored objects names nodes ns each same_nodes same_names (Inode node) h =
    Contains-append_left (keys objects) (map (λ (entry : Dirent). entry.pino) names) node.ino
    (key_of_number objects nodes each node.ino (inr (Contains-map (λ (n : InodeNode). n.ino) nodes node ((same_nodes node).1 (in_inodes ns node h)))))
owner_stored objects names nodes ns each same_nodes same_names (Entry entry) h =
    Contains-append_right (keys objects) (map (λ (entry : Dirent). entry.pino) names) entry.pino
    (Contains-map (λ (entry : Dirent). entry.pino) names entry ((same_names entry).1 (in_entries ns entry h)))

same_owners : (objects : ObjectsByNumber) (names : List Dirent) (nodes : List InodeNode) (ns : List NodeRef) → IsOrdered nat_cmp objects → HasEach objects nodes → SameElements nodes (inodes ns)
    → SameElements names (entries ns) → SameElements (keys objects ++ map (λ (entry : Dirent). entry.pino) names) (1 ∷ map owner ns)
same_owners objects names nodes ns ordered each same_nodes same_names i = (
  λ h.
      ⊎_elim
      (λ key. owned_number nodes ns same_nodes i (number_of_key objects nodes ordered each i key))
      (λ later. owned_entry names ns same_names i later)
      (Contains-append_cases (keys objects) (map (λ (entry : Dirent). entry.pino) names) i h),
  λ h.
      ⊎_elim
      (λ (one : 1 ≡ i). Contains-append_left (keys objects) (map (λ (entry : Dirent). entry.pino) names) i (key_of_number objects nodes each i (inl (sym one))))
      (λ later.
      let found = Contains-map_from owner ns i later in
      subst (λ j. Contains (keys objects ++ map (λ (entry : Dirent). entry.pino) names) j) found.2 (owner_stored objects names nodes ns each same_nodes same_names found.0 found.1))
      (Contains-cases 1 (map owner ns) i h),
)

pub tops_stored : (objects : ObjectsByNumber) (names : List Dirent) (nodes : List InodeNode) (ns : List NodeRef) → IsOrdered nat_cmp objects → HasEach objects nodes → SameElements nodes (inodes ns)
    → SameElements names (entries ns) → stored_tops objects names ≡ tops_of ns
unfolding keys
tops_stored objects names nodes ns ordered each same_nodes same_names =
    tabled-same (map (λ (e : ℕ × Stored). e.0) objects.entries ++ map (λ (entry : Dirent). entry.pino) names) (1 ∷ map owner ns) (λ i. Some (stored_top objects names i)) (λ i. Some (top ns i))
    (same_owners objects names nodes ns ordered each same_nodes same_names)
    (λ i. ap Some (top_stored objects names nodes ns each same_nodes same_names i))

-- ---- the whole

pub state_stored : (objects : ObjectsByNumber) (names : List Dirent) (nodes : List InodeNode) (ns : List (ℕ × NodeRef)) (next number : ℕ) → IsOrdered nat_cmp objects → HasEach objects nodes
    → Collected names nodes ns → number ≡ greatest_number (without_addresses ns) → next ≡ number + 1 → stored_state objects names next ≡ state_of (without_addresses ns)
state_stored objects names nodes ns next number ordered each collected is more =
    let same_objects : stored_objects objects ≡ objects_of (inodes (without_addresses ns)) = objects_stored objects nodes ordered each ∙ objects-same nodes (inodes (without_addresses ns)) collected.same_inodes collected.inodes_apart in
    let same_names : live_names names ≡ live_names (entries (without_addresses ns)) = live_names-same names (entries (without_addresses ns)) collected.same_entries collected.entries_apart in
    let same_next : next ≡ next_of (without_addresses ns) = omega arith in
    λ j. record { objects = same_objects j; names = same_names j; next = same_next j }
