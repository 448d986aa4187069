use Rattle.std.proofs.Common.{◌≢◌, ◌≡◌, ◌∙◌, ap, Some, rules}
use Rattle.jexpand.specs.declared.fault.ConvertFault.{ConvertFault}
use Rattle.jexpand.specs.declared.fault.ConvertFault.TheVariants.{Sink, OutOfMemory}
use Rattle.jconvert.specs.Converting.{convert_fault}
use Rattle.jconvert.proofs.CallLemmas.{handed_on, head_among, tile_refused, tile_no_sink, tile_counted}
use Rattle.jscan.specs.Image.{sightings}
use Rattle.jscan.specs.SightingsLeft.{sightings_left}
use Rattle.jconvert.proofs.HoldingLemmas.{holding_start, holding_next}
use Rattle.jconvert.proofs.judging.count_nodes.Goals as goal

pub count_tile-requires-clause-sighted : goal.count_tile-requires-clause-sighted
count_tile-requires-clause-sighted g c =
    head_among g.E.Order.order c.args.geometry.block c.args.image.now _ _ c.in-Some.addr c.in-Some.seen c.loop-addr.tally c.loop-addr.invariant.counted c.in-Some.ensures.steps

pub returns-in_err-tally-clause-refused : goal.returns-in_err-tally-clause-refused
returns-in_err-tally-clause-refused g c =
    handed_on c.from_residual.result c.in_err-tally.field-0.0
    (λ (f : ConvertFault). f ≢ OutOfMemory → convert_fault g.E.Order.order c.args.geometry.block c.args.image.now ≡ Some f) c.from_residual.ensures.1
    (tile_refused g.E.Order.order c.args.geometry.block c.args.image.now _ _ c.in-Some.addr c.in-Some.seen c.loop-addr.tally c.in_err-tally.field-0.0 c.loop-addr.invariant.counted c.in-Some.ensures.steps
    c.in_err-tally.ensures.refused)

pub returns-in_err-tally-clause-no_sink : goal.returns-in_err-tally-clause-no_sink
returns-in_err-tally-clause-no_sink g c =
    handed_on c.from_residual.result c.in_err-tally.field-0.0 (λ (f : ConvertFault). f ≢ Sink) c.from_residual.ensures.1
    (tile_no_sink g.E.Order.order c.args.geometry.block c.args.image.now c.in-Some.addr c.in-Some.seen c.in_err-tally.field-0.0 c.in_err-tally.ensures.refused)

pub loop-addr-preserved : goal.loop-addr-preserved
loop-addr-preserved g c = record {
  counted = tile_counted g.E.Order.order c.args.geometry.block c.args.image.now _ _ c.in-Some.addr c.in-Some.seen c.loop-addr.tally c.in_ok-tally.tally c.loop-addr.invariant.counted c.in-Some.ensures.steps
      c.in_ok-tally.ensures.ok;
  holds = holding_next g.E.Order.order c.args.geometry.block c.args.image.now _ _ c.in-Some.addr c.in-Some.seen _ _ _ c.loop-addr.held.is_whole c.hold.new.self.is_whole c.loop-addr.invariant.holds c.in-Some.ensures.steps
      (c.deref.ensures.value ∙ c.in_ok-tally.ensures.content) c.hold.ensures.bytes c.hold.ensures.whole;
  few = c.hold.ensures.few;
}

pub loop-addr-init : goal.loop-addr-init
loop-addr-init g c =
    let all : sightings_left c.into_iter-addr-iterator.result ≡ sightings g.E.Order.order c.args.geometry.block c.args.image.now =
    ap (λ s. sightings_left s) c.into_iter-addr-iterator.ensures.into_iter_gives ∙ c.in-Ok.ensures.sightings in
    record {
      counted = search rules;
      holds = holding_start g.E.Order.order c.args.geometry.block c.args.image.now _ _ all c.new-2.ensures.items;
      few = search rules;
    }

pub returns-clause-held : goal.returns-clause-held
returns-clause-held g c = (c.loop-addr.invariant.holds.more, c.loop-addr.invariant.holds.whole)
