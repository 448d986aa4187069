use Rattle.std.proofs.Common.{◌≡◌, ℕ, rules, ◌∷◌, ◌∙◌}
use Rattle.jmount.specs.declared.object.Object.{Object}
use Rattle.jcompact.proofs.ReachingLemmas.{all_added, none_added, one_added}
use Rattle.jcompact.proofs.reaching.numbers_of.Goals as goal

pub loop-ino-init : goal.loop-ino-init
loop-ino-init c = record {
  can = tt;
  finite = tt;
  so_far = none_added c.args.mounted.now.state c.into_iter-ino-iterator.result c.new-numbers.result (c.into_iter-ino-iterator.ensures.into_iter_gives ∙ c.objects-ino-items.ensures) c.new-numbers.ensures.empty;
}

pub loop-ino-preserved : goal.loop-ino-preserved
loop-ino-preserved c =
    let x : ℕ × Object = (c.in-Some.ino, c.in-Some.field-0-1) in
    let is : c.loop-ino.ino-iterator ≡ x ∷ c.next.new.self = search rules in
    record {
      can = tt;
      finite = tt;
      so_far = one_added c.args.mounted.now.state c.loop-ino.ino-iterator c.next.new.self x c.loop-ino.numbers c.insert.new.self is c.in_ok-insert.ensures.updates.0 c.loop-ino.invariant.so_far;
    }

pub returns-clause-there : goal.returns-clause-there
returns-clause-there c = c.loop-ino.invariant.so_far.there

pub returns-clause-each : goal.returns-clause-each
returns-clause-each c = all_added c.args.mounted.now.state c.loop-ino.ino-iterator c.loop-ino.numbers c.in-None.ensures.steps.0 c.loop-ino.invariant.so_far
