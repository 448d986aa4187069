use Rattle.std.proofs.Common.{◌≡◌, ℕ, List, rules, refl, subst, sym, ap, ◌∙◌, take_all}
use Rattle.std.specs.Prelude.{filter_map}
use Rattle.std.specs.List.Sorted.{IsNonDecreasingBy, IsPermutation}
use Rattle.std.proofs.lemmas.List.Sorted.{IsNonDecreasingBy-from_sort_by_key}
use Rattle.jnode.specs.declared.node.Damage.{Damage}
use Rattle.jnode.specs.declared.node.Damage.TheVariants.{NodeCrc}
use Rattle.jdamage.specs.Ranges.{range_if}
use Rattle.jdamage.proofs.HiddenLemmas.{lost_more}
use Rattle.jdamage.proofs.RangeLemmas.{if_found}
use Rattle.jdamage.proofs.ranges.ranges_of.Goals as goal

pub loop-addr-preserved : goal.loop-addr-preserved
loop-addr-preserved g c =
    let d : ℕ × Damage = (0, NodeCrc) in
    lost_more (range_if g.E.Order.order c.args.image.now) c.args.damaged.now c.loop-addr.addr-index d _ _ _ c.loop-addr-test.true refl c.loop-addr.invariant c.in_ok-push_range.ensures

pub reached-requires : goal.reached-requires
reached-requires g c =
    subst (IsNonDecreasingBy (λ r. r.0)) (sym c.deref.ensures.value) (IsNonDecreasingBy-from_sort_by_key (λ (r : ℕ × ℕ). r.0) _ c.sort_unstable_by_key.ensures.sorted (λ a r q k. search rules))

pub returns : goal.returns
returns g c =
    let all = filter_map (range_if g.E.Order.order c.args.image.now) c.args.damaged.now in
    let whole : c.loop-addr.ranges.items ≡ all = c.loop-addr.invariant ∙ ap (filter_map (range_if g.E.Order.order c.args.image.now)) (take_all c.loop-addr.addr-index c.args.damaged.now c.loop-addr-test.false) in
    if_found c.reached.result c.deref.result.now all c.sort_unstable_by_key.new.self.items c.deref.ensures.value (subst (λ (l : List (ℕ × ℕ)). IsPermutation l c.sort_unstable_by_key.new.self.items) whole c.sort_unstable_by_key.ensures.permutation) c.reached.ensures
