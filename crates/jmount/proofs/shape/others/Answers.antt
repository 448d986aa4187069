use Rattle.std.proofs.Common.{rules, tests, not, ◌==◌, ◌&&◌, ◌∙◌, ℕ}
use Rattle.std.specs.Ordering.{nat_cmp}
use Rattle.std.specs.BTreeSet.{contains}
use Rattle.std.proofs.lemmas.Iterator.{items_from_collect, YieldsList-from_map}
use Rattle.std.proofs.lemmas.Iterator.Consumers.{YieldsList-from_first, YieldsList-from_filter, YieldsList-at}
use Rattle.jmount.specs.Tree.{is_directory}
use Rattle.jmount.specs.Shown.{objects_in}
use Rattle.jmount.specs.declared.object.Object.{Object}
use Rattle.jmount.proofs.shape.others.Goals as goal

pub returns : goal.returns
returns c =
    let s = c.args.tree.now in
    items_from_collect _ c.collect.ensures.ran
    (YieldsList-from_filter _ (λ i. not (i == 1) && is_directory s i && not (contains nat_cmp c.args.held.now i))
    (YieldsList-at c.filter.ensures.source (YieldsList-from_map _ (λ (e : ℕ × Object). e.0)
    (YieldsList-from_first (λ x. x) (λ rest. rest) (objects_in s) (c.map.ensures.source ∙ c.objects.ensures))
    c.map.ensures.closure (λ x b q k. search (rules, tests))))
    c.filter.ensures.closure (λ x b q k. search (rules, tests)))
