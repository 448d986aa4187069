use Rattle.std.proofs.Common.{refl, true}
use Rattle.jdamage.specs.Ways.{name_up}
use Rattle.jdamage.proofs.NowhereLemmas.{none_nowhere}
use Rattle.jdamage.proofs.ways_up.by_walk.Goals as goal

pub invariant_of-result-clause-names_are : goal.invariant_of-result-clause-names_are
invariant_of-result-clause-names_are c = λ i there. c.in_ok-names.ensures i

pub invariant_of-result-clause-leads : goal.invariant_of-result-clause-leads
invariant_of-result-clause-leads c = λ dir names. refl

pub invariant_of-result-clause-nowhere_is : goal.invariant_of-result-clause-nowhere_is
invariant_of-result-clause-nowhere_is c = none_nowhere c.args.mounted.now.state (name_up c.args.mounted.now.state true) _ c.new-nowhere.ensures.empty
