use Rattle.std.proofs.Common.{◌≡◌, ◌∙◌, ℕ, List, Ok, Err, ap, length, refl, subst}
use Rattle.std.specs.Io.KnownBytes.{Appends}
use Rattle.flashbase.specs.Device.{PutsPart}
use Rattle.flashbase.specs.Sinks.{SinkChange}
use Rattle.jcuts.specs.Cuts.{Asked}
use Rattle.jcuts.proofs.CutsLemmas.{end_at}
use Rattle.jstops.specs.Planned.{Forming, HeldPoint, forming_of, forming_with, held_point_of, through_point}
use Rattle.jstops.proofs.StopLemmas.{stops_at, stops_end, stops_end_failed, stops_fault}
use Rattle.jstops.proofs.stops.put_stops.Goals as goal

pub plan_from-requires : goal.plan_from-requires
plan_from-requires g c = c.requires.through

pub returns-in-Err : goal.returns-in-Err
returns-in-Err g c = (refl, refl, refl, refl)

pub tell_ops-requires-clause-ready : goal.tell_ops-requires-clause-ready
tell_ops-requires-clause-ready g c = c.in-Ok.ensures.ready

pub tell_ops-requires-clause-numbered : goal.tell_ops-requires-clause-numbered
tell_ops-requires-clause-numbered g c = c.requires.numbered

pub returns-in-Err-tell_ops : goal.returns-in-Err-tell_ops
returns-in-Err-tell_ops g c =
    let a = c.args in
    let e = g.E.Order.order in
    let plan = c.in-Ok.plan in
    let on : Forming = forming_with e a.on.forms a.on.flash in
    let base : HeldPoint = through_point e a.on.flash a.mounted.now.image in
    let asked : Asked = record { telling = a.on.telling; ops = a.ops.now; lines = a.lines.now } in
    let to : HeldPoint = held_point_of c.tell_ops.new.plan in
    let sink : SinkChange = record { old = g.T.Sink.taken a.sink.now; new = g.T.Sink.taken c.tell_ops.new.sink; before = g.T.Sink.failures a.sink.now; now = g.T.Sink.failures c.tell_ops.new.sink } in
    stops_fault on asked base to sink c.in-Err-tell_ops.stopped
    (stops_at (forming_of plan) on asked (held_point_of plan) base to sink (Err c.in-Err-tell_ops.stopped) c.in-Ok.ensures.forming c.in-Ok.ensures.point c.in-Err-tell_ops.ensures)

pub returns-in-Ok-put_end : goal.returns-in-Ok-put_end
returns-in-Ok-put_end g c =
    let a = c.args in
    let e = g.E.Order.order in
    let plan = c.in-Ok.plan in
    let on : Forming = forming_with e a.on.forms a.on.flash in
    let base : HeldPoint = through_point e a.on.flash a.mounted.now.image in
    let asked : Asked = record { telling = a.on.telling; ops = a.ops.now; lines = a.lines.now } in
    let to : HeldPoint = held_point_of c.tell_ops.new.plan in
    let sink : SinkChange = record { old = g.T.Sink.taken a.sink.now; new = g.T.Sink.taken c.tell_ops.new.sink; before = g.T.Sink.failures a.sink.now; now = g.T.Sink.failures c.tell_ops.new.sink } in
    let counts = c.in-Ok-tell_ops.counts in
    let all = stops_at (forming_of plan) on asked (held_point_of plan) base to sink (Ok counts) c.in-Ok.ensures.forming c.in-Ok.ensures.point c.in-Ok-tell_ops.ensures in
    let from : c.cursor-from.result ≡ base.address = c.cursor-from.ensures ∙ ap (λ (p : HeldPoint). p.address) c.in-Ok.ensures.point in
    let put = c.in-Ok-put_end.ensures in
    stops_end on asked base to (g.T.Sink.taken a.sink.now) (g.T.Sink.taken c.tell_ops.new.sink) (g.T.Sink.taken c.put_end.new.sink)
    (g.T.Sink.failures a.sink.now) (g.T.Sink.failures c.tell_ops.new.sink) (g.T.Sink.failures c.put_end.new.sink) counts all
    (subst (λ (l : List ℕ). Appends (g.T.Sink.taken c.tell_ops.new.sink) (g.T.Sink.taken c.put_end.new.sink) l)
    (end_at a.on.telling (length a.ops.now) counts.nodes c.cursor-from.result base.address c.cursor-end.result to.address counts.weak from c.cursor-end.ensures) put.0) put.1

pub returns : goal.returns
returns g c =
    let a = c.args in
    let e = g.E.Order.order in
    let plan = c.in-Ok.plan in
    let on : Forming = forming_with e a.on.forms a.on.flash in
    let base : HeldPoint = through_point e a.on.flash a.mounted.now.image in
    let asked : Asked = record { telling = a.on.telling; ops = a.ops.now; lines = a.lines.now } in
    let to : HeldPoint = held_point_of c.tell_ops.new.plan in
    let sink : SinkChange = record { old = g.T.Sink.taken a.sink.now; new = g.T.Sink.taken c.tell_ops.new.sink; before = g.T.Sink.failures a.sink.now; now = g.T.Sink.failures c.tell_ops.new.sink } in
    let counts = c.in-Ok-tell_ops.counts in
    let all = stops_at (forming_of plan) on asked (held_point_of plan) base to sink (Ok counts) c.in-Ok.ensures.forming c.in-Ok.ensures.point c.in-Ok-tell_ops.ensures in
    let from : c.cursor-from.result ≡ base.address = c.cursor-from.ensures ∙ ap (λ (p : HeldPoint). p.address) c.in-Ok.ensures.point in
    let put = c.in-Err-put_end.ensures in
    stops_end_failed on asked base to (g.T.Sink.taken a.sink.now) (g.T.Sink.taken c.tell_ops.new.sink) (g.T.Sink.taken c.put_end.new.sink)
    (g.T.Sink.failures a.sink.now) (g.T.Sink.failures c.tell_ops.new.sink) (g.T.Sink.failures c.put_end.new.sink) counts all
    (subst (λ (l : List ℕ). PutsPart (g.T.Sink.taken c.tell_ops.new.sink) (g.T.Sink.taken c.put_end.new.sink) l)
    (end_at a.on.telling (length a.ops.now) counts.nodes c.cursor-from.result base.address c.cursor-end.result to.address counts.weak from c.cursor-end.ensures) put.0) put.1

pub invariant_of-plan : goal.invariant_of-plan
invariant_of-plan g c =
    let plan = c.tell_ops.new.plan in
    record { flash = plan.flash; holds = plan.holds; going = plan.going; few = plan.few }

pub invariant_of-plan-in-Ok-put_end : goal.invariant_of-plan-in-Ok-put_end
invariant_of-plan-in-Ok-put_end g c =
    let plan = c.tell_ops.new.plan in
    record { flash = plan.flash; holds = plan.holds; going = plan.going; few = plan.few }

pub invariant_of-plan-2 : goal.invariant_of-plan-2
invariant_of-plan-2 g c =
    let plan = c.tell_ops.new.plan in
    record { flash = plan.flash; holds = plan.holds; going = plan.going; few = plan.few }
