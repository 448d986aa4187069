use Rattle.std.proofs.Common.{rules, tests, ◌≡◌, not, ◌==◌, ◌&&◌}
use Rattle.std.specs.List.{list_any}
use Rattle.std.proofs.lemmas.Iterator.Consumers.{YieldsList-from_rest}
use Rattle.std.proofs.lemmas.Iterator.Search.{any_from_yields_List}
use Rattle.jmount.specs.Tree.{is_directory}
use Rattle.jmount.proofs.SeveralLemmas.{second_is_told}
use Rattle.jmount.proofs.shape.has_second_name.Goals as goal

pub returns : goal.returns
returns c =
    let s = c.args.tree.now in
    let told : c.any.result ≡ list_any (λ i. not (i == 1) && is_directory s i) c.args.several.now.keys =
    any_from_yields_List (λ i. not (i == 1) && is_directory s i) _ _ _ c.any.ensures.ran (YieldsList-from_rest c.args.several.now.keys c.iter.ensures.rest) (λ x b q k. search (rules, tests)) in
    second_is_told s c.args.several.now c.any.result c.requires told
