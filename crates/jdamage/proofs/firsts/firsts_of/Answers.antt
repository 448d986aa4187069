use Rattle.std.proofs.Common.{◌≡◌, rules, ◌∷◌, ◌∙◌}
use Rattle.jdamage.specs.Ways.{name_held}
use Rattle.jdamage.proofs.WayLemmas.{firsts_begin, firsts_more, firsts_all}
use Rattle.jdamage.proofs.firsts.firsts_of.Goals as goal

pub loop-name-init : goal.loop-name-init
loop-name-init c = record {
  can = tt;
  finite = tt;
  so_far = firsts_begin c.args.mounted.now.state c.args.dirs.now c.new-firsts.result _ c.new-firsts.ensures.empty (c.into_iter-name-iterator.ensures.into_iter_gives ∙ c.names-name-items.ensures);
}

pub loop-name-preserved : goal.loop-name-preserved
loop-name-preserved c =
    let is : c.loop-name.name-iterator ≡ name_held c.in-Some.name ∷ c.next.new.self = search rules in
    record {
      can = tt;
      finite = tt;
      so_far = firsts_more c.args.mounted.now.state c.args.dirs.now c.loop-name.firsts c.note_first.new.firsts c.in-Some.name _ _ is c.in_ok-note_first.ensures c.loop-name.invariant.so_far;
    }

pub returns : goal.returns
returns c = firsts_all c.args.mounted.now.state c.args.dirs.now c.loop-name.firsts _ c.in-None.ensures.steps.0 c.loop-name.invariant.so_far
