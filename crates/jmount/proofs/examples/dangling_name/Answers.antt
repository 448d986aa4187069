use Rattle.std.proofs.Common.{◌≡◌, ℕ, List, [], ◌∷◌, length, map, ap, sym, refl, Option, Ok, Err, cond, not, ◌∙◌, codes, arith}
use Rattle.std.specs.Prelude.{filter, is_some}
use Rattle.std.specs.FinMap.{empty, entries-insert, len-entries, len-empty, put}
use Rattle.std.specs.FinMap as finite
use Rattle.jnode.specs.declared.node.NodeRef.{NodeRef}
use Rattle.jnode.specs.declared.node.NodeRef.TheVariants.{Entry}
use Rattle.jname.specs.Live.{Key, key_cmp}
use Rattle.jname.proofs.NamingLemmas.{key_cmp_total}
use Rattle.jmount.specs.declared.fault.FindFault.TheVariants as fault
use Rattle.jmount.specs.Examples.{named_node}
use Rattle.jmount.specs.Tree.{ObjectOf, named, is_there, has_bits, directory_bits}
use Rattle.jmount.specs.StateOf.{state_of}
use Rattle.jmount.specs.Find.{step_to}
use Rattle.jmount.proofs.NumbersLemmas.{object-state_of, named-state_of}
use Rattle.jmount.proofs.examples.dangling_name.Goals as goal

abbrev nodes : List NodeRef
nodes = Entry (named_node 1 57) ∷ []

nil_of_length : (es : List (Key × ℕ)) → length es ≡ 0 → es ≡ []
nil_of_length [] h = refl
nil_of_length (e ∷ es) h = absurd (omega arith)

names_of_one : finite.entries (state_of nodes).names ≡ ((1, codes "q"), 57) ∷ []
names_of_one =
    entries-insert key_cmp_total empty (1, codes "q") 57
    ∙ ap (put key_cmp (1, codes "q") 57) (nil_of_length (finite.entries (empty {R = key_cmp})) (sym (len-entries (empty {X = ℕ} {R = key_cmp})) ∙ len-empty key_cmp ℕ))

pub returns-clause-dangling : goal.returns-clause-dangling
returns-clause-dangling c =
    ap (λ (es : List (Key × ℕ)). filter (λ e. not (is_there (state_of nodes) e.2)) (map (λ e. (e.0.0, e.0.1, e.1)) es)) names_of_one
    ∙ ap (λ (o : Option (ObjectOf (List ℕ))). cond (not (is_some o)) ((1, codes "q", 57) ∷ []) []) (object-state_of nodes 57)

pub returns-clause-find : goal.returns-clause-find
returns-clause-find c =
    ap (λ (o : Option (ObjectOf (List ℕ))). cond (has_bits directory_bits o) (step_to (state_of nodes) (named (state_of nodes) 1 (codes "q"))) (Err fault.NotDirectory)) (object-state_of nodes 1)
    ∙ ap (step_to (state_of nodes)) (named-state_of nodes 1 (codes "q"))
    ∙ ap (λ (o : Option (ObjectOf (List ℕ))). cond (is_some o) (Ok 57) (Err fault.NotFound)) (object-state_of nodes 57)
