use Rattle.std.proofs.Common.{◌≡◌, ℕ, List, rules, ap, ◌∙◌}
use Rattle.std.specs.Prelude.{filter_map}
use Rattle.std.proofs.lemmas.List.Sorted.{IsNonDecreasingBy-from_sort_by_key}
use Rattle.jdamage.specs.Hidden.{AreHidden, lost_if}
use Rattle.jgaps.specs.declared.fields.Stretch.{Stretch}
use Rattle.jdamage.proofs.HiddenLemmas.{all_hidden, ends_kept, if_both, starts_of, versions_sorted}
use Rattle.jdamage.proofs.hidden.hidden_of.Goals as goal

pub sweep-requires-clause-ascends : goal.sweep-requires-clause-ascends
sweep-requires-clause-ascends g c = IsNonDecreasingBy-from_sort_by_key (λ (s : Stretch). s.version) _ c.sort_unstable_by_key.ensures.sorted (λ a r q k. search rules)

pub sweep-requires-clause-nodes_ascend : goal.sweep-requires-clause-nodes_ascend
sweep-requires-clause-nodes_ascend g c = IsNonDecreasingBy-from_sort_by_key (λ (l : ℕ × ℕ). l.1) _ c.sort_unstable_by_key-2.ensures.sorted (λ a r q k. search rules)

pub sweep-requires-clause-versions : goal.sweep-requires-clause-versions
sweep-requires-clause-versions g c =
    versions_sorted g.E.Order.order c.args.mounted.now.image c.args.damaged.now c.in_ok-lost.lost.items c.sort_unstable_by_key-2.new.self.items
    (c.in_ok-lost.ensures ∙ ap (λ (im : List ℕ). filter_map (lost_if g.E.Order.order im) c.args.damaged.now) c.image-image.ensures) c.sort_unstable_by_key-2.ensures.permutation

pub sweep-requires-clause-ends : goal.sweep-requires-clause-ends
sweep-requires-clause-ends g c = ends_kept c.in_ok-spots.spots c.add_starts.new.spots c.deref.result.now c.sort_unstable_by_key.new.self.items c.deref.ensures.value c.in_ok-add_starts.ensures.keeps c.in_ok-spots.ensures

pub sweep-requires-clause-starts : goal.sweep-requires-clause-starts
sweep-requires-clause-starts g c =
    starts_of g.E.Order.order c.image-image.result.now c.args.mounted.now.image c.add_starts.new.spots c.deref-2.result.now c.sort_unstable_by_key-2.new.self.items c.image-image.ensures c.deref-2.ensures.value c.in_ok-add_starts.ensures.starts

pub returns : goal.returns
returns g c =
    let e = g.E.Order.order in
    let m = c.args.mounted.now in
    let found : c.in_ok-lost.lost.items ≡ filter_map (lost_if e m.image) c.args.damaged.now = c.in_ok-lost.ensures ∙ ap (λ (im : List ℕ). filter_map (lost_if e im) c.args.damaged.now) c.image-image.ensures in
    if_both c.sweep.result _ _ (λ hidden. AreHidden e m c.args.sound.items hidden c.args.damaged.now)
    (λ hidden right each.
    all_hidden e m c.args.sound.items c.sort_unstable_by_key.new.self.items hidden c.args.damaged.now c.in_ok-lost.lost.items c.sort_unstable_by_key-2.new.self.items
    c.sort_unstable_by_key.ensures.permutation found c.sort_unstable_by_key-2.ensures.permutation right each)
    c.sweep.ensures.right c.sweep.ensures.each
