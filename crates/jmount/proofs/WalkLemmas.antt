-- The objects that are stored, in order.
use Rattle.std.proofs.Common.{◌≡◌, ℕ, Bool, true, false, List, [], ◌∷◌, map, cond, Option, Some, refl, ap, sym, ◌∙◌, subst}
use Rattle.std.specs.Prelude.{option_map, T}
use Rattle.std.specs.declared.cmp.Ordering.TheVariants.{Less}
use Rattle.std.specs.List.{AllByRecursion}
use Rattle.std.specs.List.Sorted.{IsStrictlySortedBy}
use Rattle.std.specs.Map.{lookup}
use Rattle.std.specs.Ordering.{nat_cmp, eq_by_cmp, is_lt}
use Rattle.std.specs.Cmp.{nat_cmp_total}
use Rattle.std.specs.BTreeMap.{IsOrdered}
use Rattle.std.specs.FinMap.{entries, entries_sorted, get-entries, nat_cmp-IsAntisymmetric}
use Rattle.std.specs.FinMap.Entries.{find, below_all, is_sorted, same_entries}
use Rattle.jname.proofs.SortedLemmas.{T_both}
use Rattle.jmount.specs.Tree.{ObjectOf}
use Rattle.jmount.specs.Shown.{shown}
use Rattle.jmount.specs.declared.object.Object.{Object}
use Rattle.jmount.specs.declared.stored.Stored.{Stored}
use Rattle.jmount.specs.Stored.{ObjectsByNumber, stored_object, stored_objects}
use Rattle.jmount.specs.Walk.{shown_entries}
use Rattle.jmount.proofs.StoredLemmas.{get-stored_objects}

abbrev pair_of : ℕ × Stored → ℕ × ObjectOf (List ℕ)
pair_of e = (e.0, stored_object e.1)

below-each : (k : ℕ) (es : List (ℕ × Stored)) → AllByRecursion (λ q. nat_cmp k q ≡ Less) (map (λ e. e.0) es) → T (below_all nat_cmp k (map pair_of es))
below-each k [] h = tt
below-each k (e ∷ es) h =
    T_both (is_lt (nat_cmp k e.0)) (below_all nat_cmp k (map pair_of es)) (subst (λ r. T (is_lt r)) (sym h.0) tt) (below-each k es h.1)

sorted-each : (es : List (ℕ × Stored)) → IsStrictlySortedBy nat_cmp (map (λ e. e.0) es) → T (is_sorted nat_cmp (map pair_of es))
unfolding IsStrictlySortedBy
sorted-each [] h = tt
sorted-each (e ∷ es) h = T_both (below_all nat_cmp e.0 (map pair_of es)) (is_sorted nat_cmp (map pair_of es)) (below-each e.0 es h.0) (sorted-each es h.1)

map_cond : {X Y : Type 0} (f : X → Y) (b : Bool) (x : X) (o : Option X) (p : Option Y) → p ≡ option_map f o → cond b (Some (f x)) p ≡ option_map f (cond b (Some x) o)
map_cond f true x o p e = refl
map_cond f false x o p e = e

find-each : (q : ℕ) (es : List (ℕ × Stored)) → find nat_cmp q (map pair_of es) ≡ option_map stored_object (lookup (eq_by_cmp nat_cmp q) es)
find-each q [] = refl
find-each q (e ∷ es) =
    map_cond stored_object (eq_by_cmp nat_cmp q e.0) e.1 (lookup (eq_by_cmp nat_cmp q) es) (find nat_cmp q (map pair_of es)) (find-each q es)

pub entries-stored_objects : (objects : ObjectsByNumber) → IsOrdered nat_cmp objects → map pair_of objects.entries ≡ entries (stored_objects objects)
entries-stored_objects objects ordered =
    same_entries nat_cmp nat_cmp_total nat_cmp-IsAntisymmetric (map pair_of objects.entries) (entries (stored_objects objects))
    (sorted-each objects.entries ordered) (entries_sorted (stored_objects objects))
    (λ q. find-each q objects.entries ∙ sym (get-stored_objects objects q) ∙ get-entries (stored_objects objects) q)

map-unchanged : (es : List (ℕ × Stored)) → shown_entries es ≡ map (λ e. (e.0, shown e.1)) (map pair_of es)
map-unchanged [] = refl
map-unchanged (e ∷ es) = ap (λ (rest : List (ℕ × Object)). (e.0, shown (stored_object e.1)) ∷ rest) (map-unchanged es)

-- what the walk gives
pub shown_entries-is : (objects : ObjectsByNumber) → IsOrdered nat_cmp objects → shown_entries objects.entries ≡ map (λ e. (e.0, shown e.1)) (entries (stored_objects objects))
shown_entries-is objects ordered =
    map-unchanged objects.entries ∙ ap (λ (es : List (ℕ × ObjectOf (List ℕ))). map (λ e. (e.0, shown e.1)) es) (entries-stored_objects objects ordered)
