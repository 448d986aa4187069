use Rattle.std.proofs.Common.{rules, tests, ◌==◌, ◌&&◌, ◌||◌}
use Rattle.std.specs.Ordering.{nat_cmp}
use Rattle.std.specs.BTreeSet.{contains}
use Rattle.std.proofs.lemmas.Iterator.Consumers.{YieldsList-from_first}
use Rattle.std.proofs.lemmas.Iterator.Search.{any_from_yields_List}
use Rattle.jmount.specs.Tree.{is_directory, all_entries}
use Rattle.jmount.proofs.shape.is_root_held.Goals as goal

pub returns : goal.returns
returns c =
    let s = c.args.tree.now in
    any_from_yields_List (λ e. (e.2 == 1) && is_directory s e.0 && ((e.0 == 1) || contains nat_cmp c.args.left.now e.0)) _ _ _ c.any.ensures.ran
    (YieldsList-from_first (λ x. (x.0, x.1.now, x.2)) (λ rest. rest) (all_entries s) c.names.ensures)
    (λ x b q k. search (rules, tests))
