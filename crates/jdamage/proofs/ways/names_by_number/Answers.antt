use Rattle.std.proofs.Common.{◌≡◌, rules, ◌∷◌, ◌∙◌}
use Rattle.jdamage.specs.Ways.{name_held}
use Rattle.jdamage.proofs.WayLemmas.{led_begin, one_led, all_led}
use Rattle.jdamage.proofs.ways.names_by_number.Goals as goal

pub loop-name-init : goal.loop-name-init
loop-name-init c = record {
  can = tt;
  finite = tt;
  so_far = led_begin c.args.up.now.mounted.now.state c.args.numbers.now c.new-names.result _ c.new-names.ensures.empty (c.into_iter-name-iterator.ensures.into_iter_gives ∙ c.names-name-items.ensures);
}

pub loop-name-preserved : goal.loop-name-preserved
loop-name-preserved c =
    let is : c.loop-name.name-iterator ≡ name_held c.in-Some.name ∷ c.next.new.self = search rules in
    record {
      can = tt;
      finite = tt;
      so_far = one_led c.args.up.now.mounted.now.state c.args.numbers.now c.loop-name.names c.note_name.new.names c.in-Some.name _ _ is c.in_ok-note_name.ensures c.loop-name.invariant.so_far;
    }

pub returns : goal.returns
returns c = all_led c.args.up.now.mounted.now.state c.args.numbers.now c.loop-name.names _ c.in-None.ensures.steps.0 c.loop-name.invariant.so_far
