use Rattle.std.proofs.Common.{rules, ◌≡◌, ◌++◌, List, Option, subst, sym}
use Rattle.std.specs.Prelude.{filter, filter_map, option_to_list}
use Rattle.jscan.specs.SightingsLeft.{sightings_left}
use Rattle.jgaps.specs.Fields.{stretch_sighted, stretches}
use Rattle.jdamage.specs.Ranges.{Sifted}
use Rattle.jdamage.specs.Telling.{is_kept}
use Rattle.jgaps.specs.declared.fields.Stretch.{Stretch}
use Rattle.jdamage.proofs.RangeLemmas.{sifted_end, sifted_next, sifted_start}
use Rattle.jdamage.proofs.nodes.stretches_of.Goals as goal

pub loop-addr-init : goal.loop-addr-init
loop-addr-init g c =
    let all = filter (is_kept c.args.numbers.now) (stretches g.E.Order.order c.args.geometry.block c.args.image.now) in
    let same : filter (is_kept c.args.numbers.now) (filter_map (stretch_sighted g.E.Order.order c.args.image.now) (sightings_left c.into_iter-addr-iterator.result)) ≡ all = search rules in
    λ lost f. sifted_start lost all _ c.new-found.result.items c.new-tops.result same c.new-found.ensures.items c.new-tops.ensures.empty

pub loop-addr-preserved : goal.loop-addr-preserved
loop-addr-preserved g c =
    let p = is_kept c.args.numbers.now in
    let h = stretch_sighted g.E.Order.order c.args.image.now in
    let all : List Stretch = filter p (stretches g.E.Order.order c.args.geometry.block c.args.image.now) in
    let left : List Stretch = filter p (filter_map h (sightings_left c.next.new.self)) in
    λ lost f.
    c.in_ok-keep_stretch.ensures lost all left f
    (subst (λ (o : Option Stretch). Sifted lost all (filter p (option_to_list o) ++ left) c.loop-addr.found.items c.loop-addr.tops) (sym c.stretch_sighted-sighted.ensures)
    (sifted_next h p lost all c.loop-addr.found.items c.loop-addr.tops _ _ (c.in-Some.addr, c.in-Some.seen) c.in-Some.ensures.steps (c.loop-addr.invariant lost f)))

pub returns : goal.returns
returns g c =
    let all = filter (is_kept c.args.numbers.now) (stretches g.E.Order.order c.args.geometry.block c.args.image.now) in
    λ lost f.
    c.in_ok-add_tops.ensures lost all
    (sifted_end (stretch_sighted g.E.Order.order c.args.image.now) (is_kept c.args.numbers.now) lost all c.loop-addr.found.items c.loop-addr.tops _ c.in-None.ensures.steps.0 (c.loop-addr.invariant lost f))
