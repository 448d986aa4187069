use Rattle.std.proofs.Common.{rules, tests, ◌≡◌, List, ℕ, map, subst, IfOk}
use Rattle.std.specs.Prelude.{◌==◌}
use Rattle.std.proofs.lemmas.Iterator.Consumers.{map_from_collect}
use Rattle.std.proofs.lemmas.Iterator.Splits.{YieldsList-from_slice_split}
use Rattle.jmount.proofs.PathLemmas.{split-is}
use Rattle.jreport.proofs.paths.between_slashes.Goals as goal

pub returns : goal.returns
returns c =
    subst (λ (ps : List (List ℕ)). IfOk c.collect.result (λ names. map (λ n. n.now) names.items ≡ ps)) (split-is c.args.text.now)
    (map_from_collect _ c.collect.ensures.ran
    (YieldsList-from_slice_split _ (λ b. b == 47) c.args.text.now c.split.ensures.rest c.split.ensures.done c.split.ensures.closure (λ x b q k. search (rules, tests))))
