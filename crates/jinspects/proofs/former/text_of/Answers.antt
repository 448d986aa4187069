use Rattle.std.proofs.Common.{rules, ℕ, ◌<◌, ◌++◌, ◌∷◌, ◌∙◌, List, length, ap}
use Rattle.std.specs.List.{flat_map}
use Rattle.jinspects.proofs.FormerLemmas.{text_of_names}
use Rattle.jinspects.proofs.former.text_of.Goals as goal

pub returns : goal.returns
returns c =
    let some : 0 < length c.args.names.now = search rules in
    c.in_ok-push_names.ensures
    ∙ ap (λ (l : List ℕ). l ++ flat_map (λ n. 47 ∷ n.now) c.args.names.now) c.new-text.ensures.items
    ∙ text_of_names (λ n. n.now) c.args.names.now some
