use Rattle.std.proofs.Common.{rules, ◌≡◌, ℕ, ◌+◌, ◌%◌, cond, refl, sym, ap, subst, ◌∙◌}
use Rattle.jscan.specs.Image.{sightings}
use Rattle.jscan.specs.SightingsLeft.{sightings_left}
use Rattle.jexpand.proofs.SightedLemmas.{size_words}
use Rattle.jconvert.proofs.JudgeLemmas.{accepted}
use Rattle.jconvert.proofs.PackLemmas.{Packed, count_failed, nothing_written, packed_end, packed_failed, packed_head, packed_next, packed_sound, packed_start}
use Rattle.jconvert.proofs.compressing.write_packed.Goals as goal

pub returns-in_err-packing : goal.returns-in_err-packing
returns-in_err-packing g c =
    nothing_written g.E.Order.order c.args.geometry.block c.args.image.now _ _ c.from_residual.result c.in_err-packing.field-0.0
    (accepted g.E.Order.order c.args.geometry.block c.args.image.now c.requires).none c.from_residual.ensures.1 c.in_err-packing.ensures

pub loop-addr-init : goal.loop-addr-init
loop-addr-init g c =
    let all : sightings_left c.into_iter-addr-iterator.result ≡ sightings g.E.Order.order c.args.geometry.block c.args.image.now =
    ap (λ s. sightings_left s) c.into_iter-addr-iterator.ensures.into_iter_gives ∙ c.in-Ok.ensures.sightings in
    record {
      wrote = packed_start g.E.Order.order c.args.geometry.block c.args.image.now _ _ all (accepted g.E.Order.order c.args.geometry.block c.args.image.now c.requires).none;
      none_failed = refl;
    }

pub put_packed-requires-clause-sighted : goal.put_packed-requires-clause-sighted
put_packed-requires-clause-sighted g c =
    packed_head g.E.Order.order c.args.geometry.block c.args.image.now _ _ (c.in-Some.addr, c.in-Some.seen) c.loop-addr.from c.loop-addr.changed _ _ c.loop-addr.invariant.wrote
    c.in-Some.ensures.steps

pub put_packed-requires-clause-accepted : goal.put_packed-requires-clause-accepted
put_packed-requires-clause-accepted g c =
    packed_sound g.E.Order.order c.args.geometry.block c.args.image.now _ _ (c.in-Some.addr, c.in-Some.seen) c.loop-addr.from c.loop-addr.changed _ _ c.loop-addr.invariant.wrote
    c.in-Some.ensures.steps

pub returns-in_err-changed-in-Ok-put_packed : goal.returns-in_err-changed-in-Ok-put_packed
returns-in_err-changed-in-Ok-put_packed g c =
    let words : c.args.geometry.block % 4 ≡ 0 = size_words c.args.geometry.block (accepted g.E.Order.order c.args.geometry.block c.args.image.now c.requires).size_is in
    count_failed g.E.Order.order c.args.geometry.block c.args.image.now _ _ (c.in-Some.addr, c.in-Some.seen) c.loop-addr.from c.loop-addr.changed _ _ _ _ _ _
    (c.in-Ok-put_packed.next, c.in-Ok-put_packed.is_packed) c.from_residual-in_err-changed-in-Ok-put_packed.result c.in_err-changed-in-Ok-put_packed.field-0.0 words
    c.loop-addr.invariant.wrote c.in-Some.ensures.steps c.loop-addr.invariant.none_failed c.in-Ok-put_packed.ensures c.from_residual-in_err-changed-in-Ok-put_packed.ensures.1
    c.in_err-changed-in-Ok-put_packed.ensures.memory

pub loop-addr-preserved : goal.loop-addr-preserved
loop-addr-preserved g c =
    let words : c.args.geometry.block % 4 ≡ 0 = size_words c.args.geometry.block (accepted g.E.Order.order c.args.geometry.block c.args.image.now c.requires).size_is in
    let one : c.from.result ≡ cond c.in-Ok-put_packed.is_packed 1 0 = search (rules, c.from.ensures) in
    let count : c.loop-addr.changed + cond c.in-Ok-put_packed.is_packed 1 0 ≡ c.in_ok-changed-in-Ok-put_packed.changed =
    sym (c.in_ok-changed-in-Ok-put_packed.ensures.sum ∙ ap (λ (k : ℕ). c.loop-addr.changed + k) one) in
    record {
      wrote = subst (λ (k : ℕ). Packed g.E.Order.order c.args.geometry.block c.args.image.now (sightings_left c.next.new.self) c.in-Ok-put_packed.next k (g.S.Sink.taken c.args.sink.now)
          (g.S.Sink.taken c.put_packed.new.sink)) count
          (packed_next g.E.Order.order c.args.geometry.block c.args.image.now _ _ (c.in-Some.addr, c.in-Some.seen) c.loop-addr.from c.loop-addr.changed _ _ _ _ _
          (c.in-Ok-put_packed.next, c.in-Ok-put_packed.is_packed) words c.loop-addr.invariant.wrote c.in-Some.ensures.steps c.in-Ok-put_packed.ensures);
      none_failed = c.in-Ok-put_packed.ensures.1 ∙ c.loop-addr.invariant.none_failed;
    }

pub returns-in-Err-put_packed : goal.returns-in-Err-put_packed
returns-in-Err-put_packed g c =
    packed_failed g.E.Order.order c.args.geometry.block c.args.image.now _ _ (c.in-Some.addr, c.in-Some.seen) c.loop-addr.from c.loop-addr.changed _ _ _ _ _ _ c.in-Err-put_packed.fault
    c.loop-addr.invariant.wrote c.in-Some.ensures.steps c.loop-addr.invariant.none_failed c.in-Err-put_packed.ensures

pub returns : goal.returns
returns g c =
    let all_out : c.from-2.result ≡ c.loop-addr.from = search (rules, c.from-2.ensures) in
    packed_end g.E.Order.order c.args.geometry.block c.args.image.now _ c.loop-addr.from c.loop-addr.changed _ _ _ _ c.from-2.result c.loop-addr.invariant.wrote c.in-None.ensures.steps.0
    c.loop-addr.invariant.none_failed all_out
