use Rattle.std.proofs.Common.{◌∙◌, List, ℕ, Bor, sym, rules, tests}
use Rattle.std.proofs.lemmas.Iterator.Search.{all_from_yields_List}
use Rattle.std.proofs.lemmas.Iterator.{YieldsList-from_slice}
use Rattle.std.proofs.lemmas.List.Folds.{list_all-map}
use Rattle.jmount.specs.Find.{is_name}
use Rattle.jextract.proofs.paths.are_names.Goals as goal

pub returns : goal.returns
returns c =
    all_from_yields_List (λ (e : Bor (List ℕ)). is_name e.now) _ _ _ c.all.ensures.ran
    (YieldsList-from_slice c.args.names.now cc)
    (λ x b q k. search (rules, tests))
    ∙ sym (list_all-map is_name (λ (e : Bor (List ℕ)). e.now) c.args.names.now)
