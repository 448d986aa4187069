-- What the small trees have at their numbers and names.
use Rattle.std.proofs.Common.{◌≡◌, ℕ, true, List, [], cond, Option, Some, None, refl, ap, sym, ◌∙◌, codes}
use Rattle.std.specs.Prelude.{◌==◌, option_map, is_some}
use Rattle.std.specs.Ordering.{eq_by_cmp, nat_cmp}
use Rattle.std.specs.Cmp.{nat_cmp_total}
use Rattle.std.specs.FinMap as finite
use Rattle.std.specs.FinMap.{FinMap, get, insert, get-insert, get-entries, find}
use Rattle.std.proofs.lemmas.Bool.{eq-eqb}
use Rattle.std.proofs.lemmas.List.Folds.{list_any-from_Any}
use Rattle.flashbase.proofs.MemberLemmas.{Contains-map}
use Rattle.jname.specs.Live.{Key, key_cmp}
use Rattle.jname.proofs.NamingLemmas.{key_cmp-IsAntisymmetric}
use Rattle.jname.proofs.SortedLemmas.{Contains-from_find}
use Rattle.jnode.specs.declared.node.NodeRef.{NodeRef}
use Rattle.jmount.specs.Device.{device_held}
use Rattle.jmount.specs.Tree.{ObjectOf, Outline, outline, sized, object, named}
use Rattle.jmount.specs.StateOf.{default_root, object_of, inodes, state_of, top}
use Rattle.jmount.proofs.NumbersLemmas.{object-state_of, named-state_of}
use Rattle.jmount.proofs.OutlineLemmas.{object-outline}
use Rattle.jsteps.specs.Nodes.{index_of}
use Rattle.jsteps.specs.Refusals.{has_names}
use Rattle.jsteps.specs.Examples.{small, small_nodes, nested, nested_nodes, spent, spent_nodes, used_up, used_up_nodes}
use Rattle.jsteps.proofs.IndexLemmas.{get_tops}

object_is : (ns : List NodeRef) (i : ℕ) → object (outline (state_of ns)) i ≡ option_map sized (object_of (inodes ns) i)
object_is ns i = object-outline (state_of ns) i ∙ ap (option_map sized) (object-state_of ns i)

top_is : (ns : List NodeRef) (i : ℕ) → get (index_of ns).tops i ≡ cond (is_some (object_of (inodes ns) i)) (Some (top ns i)) None
top_is ns i = get_tops (state_of ns) (top ns) i ∙ ap (λ (o : Option (ObjectOf (List ℕ))). cond (is_some o) (Some (top ns i)) None) (object-state_of ns i)

-- a file of four bytes
abbrev pub four_bytes : ObjectOf ℕ
four_bytes = record { mode = 0o100644; uid = 0; gid = 0; atime = 0; mtime = 0; ctime = 0; device = None; body = 4 }

pub small_root : object small.tree 1 ≡ Some (sized default_root)
small_root = object_is small_nodes 1

pub small_file : object small.tree 2 ≡ Some four_bytes
unfolding device_held
small_file = object_is small_nodes 2

pub small_missing : object small.tree 57 ≡ None
small_missing = object_is small_nodes 57

pub small_a : named small.tree 1 (codes "a") ≡ Some 2
small_a = named-state_of small_nodes 1 (codes "a")

pub small_q : named small.tree 1 (codes "q") ≡ Some 57
small_q = named-state_of small_nodes 1 (codes "q")

pub small_n : named small.tree 1 (codes "n") ≡ None
small_n = named-state_of small_nodes 1 (codes "n")

pub small_r : named small.tree 1 (codes "r") ≡ None
small_r = named-state_of small_nodes 1 (codes "r")

pub small_b : named small.tree 1 (codes "b") ≡ None
small_b = named-state_of small_nodes 1 (codes "b")

pub small_root_top : get small.tops 1 ≡ Some 2
small_root_top = top_is small_nodes 1

pub small_file_top : get small.tops 2 ≡ Some 1
small_file_top = top_is small_nodes 2

pub nested_root : object nested.tree 1 ≡ Some (sized default_root)
nested_root = object_is nested_nodes 1

abbrev pub empty_directory : ObjectOf ℕ
empty_directory = record { mode = 0o040755; uid = 0; gid = 0; atime = 0; mtime = 0; ctime = 0; device = None; body = 0 }

pub nested_directory : object nested.tree 2 ≡ Some empty_directory
unfolding device_held
nested_directory = object_is nested_nodes 2

pub nested_d : named nested.tree 1 (codes "d") ≡ Some 2
nested_d = named-state_of nested_nodes 1 (codes "d")

pub nested_e : named nested.tree 1 (codes "e") ≡ None
nested_e = named-state_of nested_nodes 1 (codes "e")

pub nested_d_e : named nested.tree 2 (codes "e") ≡ None
nested_d_e = named-state_of nested_nodes 2 (codes "e")

pub nested_d_x : named nested.tree 2 (codes "x") ≡ Some 9
nested_d_x = named-state_of nested_nodes 2 (codes "x")

-- a directory that has a name has names
names_here : (t : Outline) (dir : ℕ) (name : List ℕ) (i : ℕ) → named t dir name ≡ Some i → has_names t dir ≡ true
names_here t dir name i e =
    let key : Key = (dir, name) in
    let there : find key_cmp key (finite.entries t.names) ≡ Some i = sym (get-entries t.names key) ∙ e in
    let in_entries = Contains-from_find key_cmp key_cmp-IsAntisymmetric (finite.entries t.names) key i there in
    let at = Contains-map (λ (e : Key × ℕ). e.0) (finite.entries t.names) (key, i) in_entries in
    list_any-from_Any (λ (key : Key). key.0 == dir) (finite.keys t.names) (at.0, key, at.1, at.2, eq-eqb dir dir refl)

pub nested_names : has_names nested.tree 2 ≡ true
nested_names = names_here nested.tree 2 (codes "x") 9 nested_d_x

pub spent_root : object spent.tree 1 ≡ Some (sized default_root)
spent_root = object_is spent_nodes 1

pub spent_file : object spent.tree 2 ≡ Some four_bytes
spent_file = object_is spent_nodes 2

pub spent_a : named spent.tree 1 (codes "a") ≡ Some 2
spent_a = named-state_of spent_nodes 1 (codes "a")

pub spent_r : named spent.tree 1 (codes "r") ≡ None
spent_r = named-state_of spent_nodes 1 (codes "r")

pub spent_root_top : get spent.tops 1 ≡ Some 2
spent_root_top = top_is spent_nodes 1

pub spent_file_top : get spent.tops 2 ≡ Some 4294967294
spent_file_top = top_is spent_nodes 2

pub used_up_root : object used_up.tree 1 ≡ Some (sized default_root)
used_up_root = object_is used_up_nodes 1

pub used_up_file : object used_up.tree 2 ≡ Some four_bytes
used_up_file = object_is used_up_nodes 2

pub used_up_a : named used_up.tree 1 (codes "a") ≡ Some 2
used_up_a = named-state_of used_up_nodes 1 (codes "a")

pub used_up_file_top : get used_up.tops 2 ≡ Some 4294967295
used_up_file_top = top_is used_up_nodes 2

-- what is after one more key
pub top_inserted : (m : FinMap nat_cmp ℕ) (k v q : ℕ) → get (insert m k v) q ≡ cond (eq_by_cmp nat_cmp q k) (Some v) (get m q)
top_inserted m k v q = get-insert nat_cmp_total m k v q

pub object_inserted : (m : FinMap nat_cmp (ObjectOf ℕ)) (k : ℕ) (v : ObjectOf ℕ) (q : ℕ) → get (insert m k v) q ≡ cond (eq_by_cmp nat_cmp q k) (Some v) (get m q)
object_inserted m k v q = get-insert nat_cmp_total m k v q

-- the index of no nodes
pub empty_root : object (index_of []).tree 1 ≡ Some (sized default_root)
empty_root = object_is [] 1

pub empty_root_top : get (index_of []).tops 1 ≡ Some 0
empty_root_top = top_is [] 1
