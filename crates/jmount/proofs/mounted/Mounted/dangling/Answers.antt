use Rattle.std.proofs.Common.{rules, tests, not, ◌∙◌}
use Rattle.std.proofs.lemmas.Iterator.Consumers.{YieldsList-from_first, YieldsList-from_filter, map_from_collect}
use Rattle.jmount.specs.Tree.{is_there, all_entries}
use Rattle.jmount.proofs.mounted.Mounted.dangling.Goals as goal

pub returns : goal.returns
returns c =
    let s = c.args.self.now.state in
    map_from_collect _ c.collect.ensures.ran
    (YieldsList-from_filter _ (λ e. not (is_there s e.2))
    (YieldsList-from_first (λ x. (x.0, x.1.now, x.2)) (λ rest. rest) (all_entries s) (c.filter.ensures.source ∙ c.names.ensures))
    c.filter.ensures.closure (λ x b q k. search (rules, tests)))
