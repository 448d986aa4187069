use Rattle.std.proofs.Common.{rules, ◌≡◌, List, [], ◌∷◌, ◌++◌, ℕ, ap, ◌∙◌}
use Rattle.jcompact.specs.Reaching.{IsMetUpTo}
use Rattle.jcompact.proofs.ReachingLemmas.{all_met, met_leads, root_is_met}
use Rattle.jcompact.proofs.reaching.unreached.Goals as goal

pub returns-clause-unreached : goal.returns-clause-unreached
returns-clause-unreached c =
    let none : c.new-above.result.items ≡ [] = search rules in
    let one : c.push.new.self.items ≡ 1 ∷ [] = c.in_ok-push.ensures.items ∙ ap (λ (xs : List ℕ). xs ++ 1 ∷ []) none in
    all_met c.args.mounted.now.state c.take_reached.new.unmet
    (c.in_ok-take_reached.ensures
    (root_is_met c.args.mounted.now.state c.in_ok-unmet.unmet c.remove.new.self c.push.new.self.items c.in_ok-unmet.ensures.there c.in_ok-unmet.ensures.each c.remove.ensures.updates.0 one))

pub returns-clause-reached : goal.returns-clause-reached
returns-clause-reached c =
    let none : c.new-above.result.items ≡ [] = search rules in
    let one : c.push.new.self.items ≡ 1 ∷ [] = c.in_ok-push.ensures.items ∙ ap (λ (xs : List ℕ). xs ++ 1 ∷ []) none in
    met_leads c.args.mounted.now.state c.take_reached.new.unmet
    (c.in_ok-take_reached.ensures
    (root_is_met c.args.mounted.now.state c.in_ok-unmet.unmet c.remove.new.self c.push.new.self.items c.in_ok-unmet.ensures.there c.in_ok-unmet.ensures.each c.remove.ensures.updates.0 one))
