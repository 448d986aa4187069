use Rattle.std.proofs.Common.{rules, tests, ◌==◌, ◌∙◌}
use Rattle.std.proofs.lemmas.Iterator.Consumers.{YieldsList-from_first}
use Rattle.std.proofs.lemmas.Iterator.Search.{find_from_yields_List}
use Rattle.jmount.specs.Tree.{all_entries}
use Rattle.jdamage.proofs.WayLemmas.{is_first_name}
use Rattle.jdamage.proofs.firsts.find_name.Goals as goal

pub returns : goal.returns
returns c =
    let s = c.args.mounted.now.state in
    find_from_yields_List (λ n. n.2 == c.args.ino) _ _ _ c.find.ensures.ran
    (YieldsList-from_first (λ x. (x.0, x.1.now, x.2)) (λ rest. rest) (all_entries s) c.names.ensures)
    (λ x b q k. search (rules, tests))
    ∙ is_first_name s c.args.ino
