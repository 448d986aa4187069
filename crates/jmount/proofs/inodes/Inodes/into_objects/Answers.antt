use Rattle.std.proofs.Common.{◌≡◌, ℕ, ap, ◌∙◌, List, option_map}
use Rattle.std.specs.Ordering.{nat_cmp}
use Rattle.std.specs.BTreeMap.{BTreeMap, get}
use Rattle.jnode.specs.declared.node.InodeNode.{InodeNode}
use Rattle.jfrag.proofs.OverlaysLemmas.{if_ok}
use Rattle.jmount.specs.declared.stored.Stored.{Stored}
use Rattle.jmount.specs.Storing.{made_of, made_of_number, or_made_root, as_made}
use Rattle.jmount.proofs.VersionsLemmas.{made_at-is}
use Rattle.jmount.proofs.inodes.Inodes.into_objects.Goals as goal

pub returns-clause-each : goal.returns-clause-each
returns-clause-each c =
    if_ok c.objects_with_root.result
    (λ (objects : BTreeMap ℕ Stored). (i : ℕ) → option_map as_made (get nat_cmp objects i) ≡ or_made_root i (made_of_number c.self.inside.numbers i))
    (λ (objects : BTreeMap ℕ Stored). (i : ℕ) → option_map as_made (get nat_cmp objects i) ≡ made_of c.args.self i)
    (λ objects h i. h i ∙ ap (or_made_root i) (made_at-is c.self.inside.numbers c.self.invariant.0 c.self.invariant.1 i)
    ∙ ap (λ (nodes : List InodeNode). made_of nodes i) c.self.view_is)
    c.objects_with_root.ensures.each
