use Rattle.std.proofs.Common.{◌≡◌, rules, ◌∷◌, ◌∙◌, refl}
use Rattle.jdamage.proofs.EnteredLemmas.{reads_first, reads_on, reads_all}
use Rattle.jdamage.proofs.entered.entered_names.Goals as goal

pub loop-name-init : goal.loop-name-init
loop-name-init c = record {
  can = tt;
  finite = tt;
  so_far = reads_first c.args.mounted.now.state c.new-names.result _ _ c.new-names.ensures.empty refl c.entries.ensures c.new.ensures.items (c.into_iter-name-iterator.ensures.into_iter_gives ∙ c.names-name-items.ensures);
}

pub loop-name-preserved : goal.loop-name-preserved
loop-name-preserved c =
    let is : c.loop-name._name-iterator ≡ (c.in-Some._name.0, c.in-Some._name.1.now, c.in-Some._name.2) ∷ c.next.new.self = search rules in
    record {
      can = tt;
      finite = tt;
      so_far = reads_on c.args.mounted.now.state c.loop-name.names c.step.new.names c.loop-name.walk c.step.new.self _ _ _ is c.in_ok-step.ensures c.loop-name.invariant.so_far;
    }

pub returns : goal.returns
returns c = reads_all c.args.mounted.now.state c.loop-name.names c.loop-name.walk _ c.in-None.ensures.steps.0 c.loop-name.invariant.so_far
