use Rattle.std.proofs.Common.{ℕ, ◌-◌, take, refl, sym, ap, ◌∙◌}
use Rattle.jdamage.proofs.HiddenLemmas.{swept_none, swept_more, swept_all}
use Rattle.jdamage.proofs.LawLemmas.{no_items}
use Rattle.jdamage.proofs.NowhereLemmas.{none_in}
use Rattle.jdamage.proofs.hidden.sweep.Goals as goal

pub loop-addr-init : goal.loop-addr-init
loop-addr-init g c =
    swept_none g.E.Order.order c.args.mounted.now c.args.sound.items c.args.spots c.args.nodes.items c.args.sound.items c.args.spots c.new-numbers.result c.new-hidden.result refl refl
    (λ q. none_in c.new-numbers.result q c.new-numbers.ensures.empty) (λ q. none_in c.new-hidden.result q c.new-hidden.ensures.empty) c.requires.ascends c.requires.nodes_ascend

pub loop-addr-preserved : goal.loop-addr-preserved
loop-addr-preserved g c =
    swept_more g.E.Order.order c.args.mounted.now c.args.sound.items c.args.spots c.args.nodes.items c.requires.versions c.requires.ends c.requires.starts c.loop-addr.lost.items c.pop.new.self.items (c.in-Some.addr, c.in-Some.version)
    c.loop-addr.left.items c.take_from.new.left.items c.loop-addr.bare c.take_from.new.bare c.loop-addr.numbers c.take_from.new.numbers c.loop-addr.hidden c.note_hidden.new.hidden c.loop-addr.invariant
    c.in-Some.ensures.items (c.in-Some.ensures.rest ∙ ap (λ (n : ℕ). take (n - 1) c.loop-addr.lost.items) c.loop-addr.lost.ok.0) c.in_ok-take_from.ensures.taken c.in_ok-take_from.ensures.below c.in_ok-take_from.ensures.ascends c.in_ok-note_hidden.ensures

pub returns : goal.returns
returns g c = record {
  right = c.loop-addr.invariant.right;
  each = swept_all g.E.Order.order c.args.mounted.now c.args.sound.items c.args.spots c.args.nodes.items c.loop-addr.lost.items c.loop-addr.left.items c.loop-addr.bare c.loop-addr.numbers c.loop-addr.hidden c.loop-addr.invariant (no_items c.loop-addr.lost.items c.loop-addr.lost.items refl (sym c.loop-addr.lost.ok.0 ∙ c.in_default.ensures.cases.0));
}
