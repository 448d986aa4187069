use Rattle.std.proofs.Common.{rules, is_some, ◌∙◌, [], Ok, Err, true, refl, subst, sym, ap}
use Rattle.std.specs.Prelude.{IsFalse}
use Rattle.jscan.specs.Pages.{page_size}
use Rattle.jsteps.proofs.FewLemmas.{sizes_are_pages}
use Rattle.jlog.specs.Running.{log_at, CanWriteAll}
use Rattle.jlog.specs.Session.{IsGoing}
use Rattle.jlog.specs.declared.writing.Stop.{Stop}
use Rattle.jlog.specs.declared.writing.Stop.TheVariants as stop
use Rattle.jlog.proofs.RunLemmas.{can_plan}
use Rattle.jlog.proofs.StepLemmas.{size_words}
use Rattle.jpacked.specs.Accepting.{IsChosenFor}
use Rattle.jpacked.proofs.RunLemmas.{packs_by, puts_same, took_all, took_sink, took_begun, going_on}
use Rattle.jpacked.proofs.session.PackingSession.apply_onto.Goals as goal

pub put_steps-requires-clause-steps : goal.put_steps-requires-clause-steps
put_steps-requires-clause-steps g c =
    let s = c.args.self.now in
    let e = g.E.Order.order in
    let o = c.args.op.now in
    let t = c.in_ok-steps.field-0 in
    let whole : IsFalse s.broken = search rules in
    let going : IsGoing s.block s.blocks s.log.cursor s.log.index = s.going whole in
    let can = can_plan (page_size s.page) e s.log.index o t.steps.items (sizes_are_pages s.page) going.consistent c.known.ensures c.in_ok-steps.ensures.accepted.planned in
    record { page = page_size s.page; is_page = sizes_are_pages s.page; fits = s.holds; can = subst (CanWriteAll (page_size s.page) e s.log.index) (sym c.deref.ensures.value) can.0 }

pub invariant_of-self-in-Ok : goal.invariant_of-self-in-Ok
invariant_of-self-in-Ok g c =
    let s = c.args.self.now in
    let e = g.E.Order.order in
    let o = c.args.op.now in
    let t = c.in_ok-steps.field-0 in
    let whole : IsFalse s.broken = search rules in
    let log = c.put_steps.new.log in
    let chosen : IsChosenFor (packs_by (is_some s.packing) s.held (page_size s.page) e s.block s.blocks) (log_at s.log.cursor s.log.index []) o t.steps.items t.chosen.streams.items t.chosen.held = c.in_ok-steps.ensures.accepted in
    let put = puts_same e s.block s.log.cursor s.log.index c.deref.result.now t.steps.items c.deref-2.result.now t.chosen.streams.items log.cursor log.index (g.S.Sink.taken s.log.sink) (g.S.Sink.taken log.sink)
    (g.S.Sink.failures s.log.sink) (g.S.Sink.failures log.sink) c.reserve.new.self.items c.args.places.now.items c.put_steps.new.places.items c.put_steps.result (Ok (tt {0}))
    c.deref.ensures.value c.deref-2.ensures.value c.in_ok-reserve.ensures.items c.in-Ok.is c.put_steps.ensures in
    let going : IsGoing s.block s.blocks s.log.cursor s.log.index = s.going whole in
    let can = can_plan (page_size s.page) e s.log.index o t.steps.items (sizes_are_pages s.page) going.consistent c.known.ensures chosen.planned in
    record {
      flash = s.flash;
      holds = s.holds;
      going = λ _. going_on (page_size s.page) e s.block s.blocks s.log.cursor log.cursor s.log.index log.index t.steps.items t.chosen.streams.items (sizes_are_pages s.page) s.holds (size_words s.block s.blocks s.flash) going
          can.0 chosen.fitting.packed.made chosen.fitting.fits can.1 put.0.cursor put.0.index;
      few = chosen.fitting.packed.within;
    }

pub returns-in-Ok-clause-applies : goal.returns-in-Ok-clause-applies
returns-in-Ok-clause-applies g c =
    let s = c.args.self.now in
    let e = g.E.Order.order in
    let o = c.args.op.now in
    let t = c.in_ok-steps.field-0 in
    let whole : IsFalse s.broken = search rules in
    let log = c.put_steps.new.log in
    let chosen : IsChosenFor (packs_by (is_some s.packing) s.held (page_size s.page) e s.block s.blocks) (log_at s.log.cursor s.log.index []) o t.steps.items t.chosen.streams.items t.chosen.held = c.in_ok-steps.ensures.accepted in
    let put = puts_same e s.block s.log.cursor s.log.index c.deref.result.now t.steps.items c.deref-2.result.now t.chosen.streams.items log.cursor log.index (g.S.Sink.taken s.log.sink) (g.S.Sink.taken log.sink)
    (g.S.Sink.failures s.log.sink) (g.S.Sink.failures log.sink) c.reserve.new.self.items c.args.places.now.items c.put_steps.new.places.items c.put_steps.result (Ok (tt {0}))
    c.deref.ensures.value c.deref-2.ensures.value c.in_ok-reserve.ensures.items c.in-Ok.is c.put_steps.ensures in
    took_all (is_some s.packing) s.held t.chosen.held (page_size s.page) e s.block s.blocks s.log.cursor s.log.index o t.steps.items t.chosen.streams.items s.broken s.broken log.cursor log.index (g.S.Sink.taken s.log.sink) (g.S.Sink.taken log.sink)
    (g.S.Sink.failures s.log.sink) (g.S.Sink.failures log.sink) c.args.places.now.items c.put_steps.new.places.items [] whole whole chosen put

pub returns-in-Err-Begun-clause-applies : goal.returns-in-Err-Begun-clause-applies
returns-in-Err-Begun-clause-applies g c =
    let s = c.args.self.now in
    let e = g.E.Order.order in
    let o = c.args.op.now in
    let t = c.in_ok-steps.field-0 in
    let whole : IsFalse s.broken = search rules in
    let log = c.put_steps.new.log in
    let chosen : IsChosenFor (packs_by (is_some s.packing) s.held (page_size s.page) e s.block s.blocks) (log_at s.log.cursor s.log.index []) o t.steps.items t.chosen.streams.items t.chosen.held = c.in_ok-steps.ensures.accepted in
    let put = puts_same e s.block s.log.cursor s.log.index c.deref.result.now t.steps.items c.deref-2.result.now t.chosen.streams.items log.cursor log.index (g.S.Sink.taken s.log.sink) (g.S.Sink.taken log.sink)
    (g.S.Sink.failures s.log.sink) (g.S.Sink.failures log.sink) c.reserve.new.self.items c.args.places.now.items c.put_steps.new.places.items c.put_steps.result (Err stop.Begun)
    c.deref.ensures.value c.deref-2.ensures.value c.in_ok-reserve.ensures.items (c.in-Err-Begun.is ∙ ap (λ (it : Stop). Err it) c.in-Err-Begun.field-0-is) c.put_steps.ensures in
    took_begun (is_some s.packing) s.held t.chosen.held (page_size s.page) e s.block s.blocks s.log.cursor s.log.index o t.steps.items t.chosen.streams.items s.broken true log.cursor log.index (g.S.Sink.taken s.log.sink) (g.S.Sink.taken log.sink)
    (g.S.Sink.failures s.log.sink) (g.S.Sink.failures log.sink) c.args.places.now.items c.put_steps.new.places.items [] whole refl chosen put

pub returns-clause-applies : goal.returns-clause-applies
returns-clause-applies g c =
    let s = c.args.self.now in
    let e = g.E.Order.order in
    let o = c.args.op.now in
    let t = c.in_ok-steps.field-0 in
    let whole : IsFalse s.broken = search rules in
    let log = c.put_steps.new.log in
    let chosen : IsChosenFor (packs_by (is_some s.packing) s.held (page_size s.page) e s.block s.blocks) (log_at s.log.cursor s.log.index []) o t.steps.items t.chosen.streams.items t.chosen.held = c.in_ok-steps.ensures.accepted in
    let put = puts_same e s.block s.log.cursor s.log.index c.deref.result.now t.steps.items c.deref-2.result.now t.chosen.streams.items log.cursor log.index (g.S.Sink.taken s.log.sink) (g.S.Sink.taken log.sink)
    (g.S.Sink.failures s.log.sink) (g.S.Sink.failures log.sink) c.reserve.new.self.items c.args.places.now.items c.put_steps.new.places.items c.put_steps.result (Err stop.Sink)
    c.deref.ensures.value c.deref-2.ensures.value c.in_ok-reserve.ensures.items (c.in-Err-Sink.is ∙ ap (λ (it : Stop). Err it) c.in-Err-Sink.field-0-is) c.put_steps.ensures in
    took_sink (is_some s.packing) s.held t.chosen.held (page_size s.page) e s.block s.blocks s.log.cursor s.log.index o t.steps.items t.chosen.streams.items s.broken true log.cursor log.index (g.S.Sink.taken s.log.sink) (g.S.Sink.taken log.sink)
    (g.S.Sink.failures s.log.sink) (g.S.Sink.failures log.sink) c.args.places.now.items c.put_steps.new.places.items [] whole refl chosen put
