use Rattle.std.proofs.Common.{◌≡◌, ℕ, rules, ◌∷◌, ◌∙◌}
use Rattle.jmount.specs.declared.object.Object.{Object}
use Rattle.jlook.proofs.FoundLemmas.{none_found, next_found, all_found}
use Rattle.jlook.proofs.chosen.symlinks_of.Goals as goal

pub loop-ino-init : goal.loop-ino-init
loop-ino-init c = record {
  can = tt;
  finite = tt;
  so_far = none_found c.args.mounted.now.state c.into_iter-ino-iterator.result c.new-numbers.result (c.into_iter-ino-iterator.ensures.into_iter_gives ∙ c.objects-ino-items.ensures) c.new-numbers.ensures.empty;
}

pub loop-ino-preserved : goal.loop-ino-preserved
loop-ino-preserved c =
    let x : ℕ × Object = (c.in-Some.ino, c.in-Some.object) in
    let is : c.loop-ino.ino-iterator ≡ x ∷ c.next.new.self = search rules in
    record {
      can = tt;
      finite = tt;
      so_far = next_found c.args.mounted.now.state c.loop-ino.ino-iterator c.next.new.self x c.loop-ino.numbers c.add_symlink.new.numbers is c.in_ok-add_symlink.ensures c.loop-ino.invariant.so_far;
    }

pub returns : goal.returns
returns c = all_found c.args.mounted.now.state c.loop-ino.ino-iterator c.loop-ino.numbers c.in-None.ensures.steps.0 c.loop-ino.invariant.so_far
