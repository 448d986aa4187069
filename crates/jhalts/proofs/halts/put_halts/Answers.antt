use Rattle.std.proofs.Common.{◌≡◌, ◌∙◌, ℕ, List, Ok, Err, ap, length, refl, subst, sym}
use Rattle.std.specs.Io.KnownBytes.{Appends}
use Rattle.flashbase.specs.Device.{PutsPart}
use Rattle.flashbase.specs.Sinks.{SinkChange}
use Rattle.jcuts.specs.Cuts.{Asked}
use Rattle.jcuts.specs.declared.lines.Telling.TheVariants.{Nodes}
use Rattle.jcuts.proofs.CutsLemmas.{end_at}
use Rattle.jupdate.specs.Rows.{begins_of}
use Rattle.jupdate.specs.View.{left_of}
use Rattle.jhalts.specs.InShares.{row_address}
use Rattle.jhalts.specs.Walk.{row_of_walk}
use Rattle.jhalts.proofs.PlannedLemmas.{address_by, open_row, row_kept}
use Rattle.jhalts.specs.InRow.{RowPoint, device_point, forming_in_row, forming_on, row_point_of}
use Rattle.jstops.specs.Planned.{Forming}
use Rattle.jhalts.proofs.HaltLemmas.{halts_at, halts_end, halts_end_failed, halts_fault}
use Rattle.jhalts.proofs.halts.put_halts.Goals as goal

pub plan_from-requires-clause-through : goal.plan_from-requires-clause-through
plan_from-requires-clause-through g c = c.requires.through

pub plan_from-requires-clause-goes_on : goal.plan_from-requires-clause-goes_on
plan_from-requires-clause-goes_on g c = c.requires.goes_on

pub returns-in-Err : goal.returns-in-Err
returns-in-Err g c = (refl, refl, refl, refl)

pub tell_ops-requires-clause-ready : goal.tell_ops-requires-clause-ready
tell_ops-requires-clause-ready g c =
    let plan = c.in-Ok.plan in
    let fresh = c.in-Ok.ensures.fresh in
    let walk = c.at_opening-walk.result in
    let row : row_of_walk plan.log.stretches.items walk ≡ left_of plan =
    row_kept plan.log.stretches.items c.stretches.result.now walk (ap begins_of (sym c.stretches.ensures.same)) ∙ (c.at_opening-walk.ensures.row ∙ (ap begins_of c.stretches.ensures.same ∙ sym fresh.left)) in
    let size : walk.flash.size ≡ plan.block = ap (λ f. f.size) c.at_opening-walk.ensures.flash ∙ sym fresh.size in
    let count : walk.flash.count ≡ plan.blocks = ap (λ f. f.count) c.at_opening-walk.ensures.flash ∙ sym fresh.count in
    record { whole = fresh.whole; none = fresh.none; goes_on = sym row; size = size; count = count }

pub address_of-from-requires : goal.address_of-from-requires
address_of-from-requires g c =
    let plan = c.in-Ok.plan in
    let fresh = c.in-Ok.ensures.fresh in
    let walk = c.at_opening-walk.result in
    let row : row_of_walk plan.log.stretches.items walk ≡ left_of plan =
    row_kept plan.log.stretches.items c.stretches.result.now walk (ap begins_of (sym c.stretches.ensures.same)) ∙ (c.at_opening-walk.ensures.row ∙ (ap begins_of c.stretches.ensures.same ∙ sym fresh.left)) in
    let size : walk.flash.size ≡ plan.block = ap (λ f. f.size) c.at_opening-walk.ensures.flash ∙ sym fresh.size in
    let count : walk.flash.count ≡ plan.blocks = ap (λ f. f.count) c.at_opening-walk.ensures.flash ∙ sym fresh.count in
    open_row walk.flash plan.block plan.blocks (row_of_walk c.stretches-2.result.now walk) (left_of plan) size count
    (row_kept c.stretches-2.result.now plan.log.stretches.items walk (ap begins_of c.stretches-2.ensures.same) ∙ row) plan.flash (plan.going fresh.whole).openings

pub address_of-end-requires : goal.address_of-end-requires
address_of-end-requires g c =
    let plan = c.tell_ops.new.plan in
    let walk = c.tell_ops.new.walk in
    let ready = c.in-Ok-tell_ops.ensures.ready in
    open_row walk.flash plan.block plan.blocks (row_of_walk c.stretches-3.result.now walk) (left_of plan) ready.size ready.count
    (row_kept c.stretches-3.result.now plan.log.stretches.items walk (ap begins_of c.stretches-3.ensures.same) ∙ sym ready.goes_on) plan.flash (plan.going ready.whole).openings

pub tell_ops-requires-clause-numbered : goal.tell_ops-requires-clause-numbered
tell_ops-requires-clause-numbered g c = c.requires.numbered

pub returns-in-Err-tell_ops : goal.returns-in-Err-tell_ops
returns-in-Err-tell_ops g c =
    let a = c.args in
    let e = g.E.Order.order in
    let plan = c.in-Ok.plan in
    let on : Forming = forming_on e a.on in
    let base : RowPoint = device_point e a.on a.mounted.now.image in
    let asked : Asked = record { telling = Nodes; ops = a.ops.now; lines = a.lines.now } in
    let to : RowPoint = row_point_of c.tell_ops.new.plan in
    let sink : SinkChange = record { old = g.T.Sink.taken a.sink.now; new = g.T.Sink.taken c.tell_ops.new.sink; before = g.T.Sink.failures a.sink.now; now = g.T.Sink.failures c.tell_ops.new.sink } in
    halts_fault on asked base to sink c.in-Err-tell_ops.stopped
    (halts_at (forming_in_row plan) on asked (row_point_of plan) base to sink (Err c.in-Err-tell_ops.stopped) c.in-Ok.ensures.forming c.in-Ok.ensures.point c.in-Err-tell_ops.ensures.tells)

pub returns-in-Ok-put_end : goal.returns-in-Ok-put_end
returns-in-Ok-put_end g c =
    let a = c.args in
    let e = g.E.Order.order in
    let plan = c.in-Ok.plan in
    let on : Forming = forming_on e a.on in
    let base : RowPoint = device_point e a.on a.mounted.now.image in
    let asked : Asked = record { telling = Nodes; ops = a.ops.now; lines = a.lines.now } in
    let to : RowPoint = row_point_of c.tell_ops.new.plan in
    let sink : SinkChange = record { old = g.T.Sink.taken a.sink.now; new = g.T.Sink.taken c.tell_ops.new.sink; before = g.T.Sink.failures a.sink.now; now = g.T.Sink.failures c.tell_ops.new.sink } in
    let counts = c.in-Ok-tell_ops.counts in
    let all = halts_at (forming_in_row plan) on asked (row_point_of plan) base to sink (Ok counts) c.in-Ok.ensures.forming c.in-Ok.ensures.point c.in-Ok-tell_ops.ensures.tells in
    let fresh = c.in-Ok.ensures.fresh in
    let walk = c.at_opening-walk.result in
    let first : row_of_walk c.stretches-2.result.now walk ≡ base.row =
    row_kept c.stretches-2.result.now c.stretches.result.now walk (ap begins_of (c.stretches-2.ensures.same ∙ sym c.stretches.ensures.same)) ∙ (c.at_opening-walk.ensures.row ∙ (ap begins_of c.stretches.ensures.same ∙ (sym fresh.left ∙ ap (λ (p : RowPoint). p.row) c.in-Ok.ensures.point))) in
    let from : c.address_of-from.result ≡ row_address on.flash.size base.row =
    c.address_of-from.ensures ∙ address_by walk.flash.size on.flash.size (row_of_walk c.stretches-2.result.now walk) base.row (ap (λ f. f.size) c.at_opening-walk.ensures.flash) first in
    let ready = c.in-Ok-tell_ops.ensures.ready in
    let last = c.tell_ops.new.walk in
    let now = c.tell_ops.new.plan in
    let end : c.address_of-end.result ≡ row_address on.flash.size to.row =
    c.address_of-end.ensures ∙ address_by last.flash.size on.flash.size (row_of_walk c.stretches-3.result.now last) to.row (ready.size ∙ ap (λ (f : Forming). f.flash.size) (c.in-Ok-tell_ops.ensures.forming ∙ c.in-Ok.ensures.forming))
    (row_kept c.stretches-3.result.now now.log.stretches.items last (ap begins_of c.stretches-3.ensures.same) ∙ sym ready.goes_on) in
    let put = c.in-Ok-put_end.ensures in
    halts_end on asked base to (g.T.Sink.taken a.sink.now) (g.T.Sink.taken c.tell_ops.new.sink) (g.T.Sink.taken c.put_end.new.sink)
    (g.T.Sink.failures a.sink.now) (g.T.Sink.failures c.tell_ops.new.sink) (g.T.Sink.failures c.put_end.new.sink) counts all
    (subst (λ (l : List ℕ). Appends (g.T.Sink.taken c.tell_ops.new.sink) (g.T.Sink.taken c.put_end.new.sink) l)
    (end_at Nodes (length a.ops.now) counts.nodes c.address_of-from.result (row_address on.flash.size base.row) c.address_of-end.result (row_address on.flash.size to.row) counts.weak from end) put.0) put.1

pub returns : goal.returns
returns g c =
    let a = c.args in
    let e = g.E.Order.order in
    let plan = c.in-Ok.plan in
    let on : Forming = forming_on e a.on in
    let base : RowPoint = device_point e a.on a.mounted.now.image in
    let asked : Asked = record { telling = Nodes; ops = a.ops.now; lines = a.lines.now } in
    let to : RowPoint = row_point_of c.tell_ops.new.plan in
    let sink : SinkChange = record { old = g.T.Sink.taken a.sink.now; new = g.T.Sink.taken c.tell_ops.new.sink; before = g.T.Sink.failures a.sink.now; now = g.T.Sink.failures c.tell_ops.new.sink } in
    let counts = c.in-Ok-tell_ops.counts in
    let all = halts_at (forming_in_row plan) on asked (row_point_of plan) base to sink (Ok counts) c.in-Ok.ensures.forming c.in-Ok.ensures.point c.in-Ok-tell_ops.ensures.tells in
    let fresh = c.in-Ok.ensures.fresh in
    let walk = c.at_opening-walk.result in
    let first : row_of_walk c.stretches-2.result.now walk ≡ base.row =
    row_kept c.stretches-2.result.now c.stretches.result.now walk (ap begins_of (c.stretches-2.ensures.same ∙ sym c.stretches.ensures.same)) ∙ (c.at_opening-walk.ensures.row ∙ (ap begins_of c.stretches.ensures.same ∙ (sym fresh.left ∙ ap (λ (p : RowPoint). p.row) c.in-Ok.ensures.point))) in
    let from : c.address_of-from.result ≡ row_address on.flash.size base.row =
    c.address_of-from.ensures ∙ address_by walk.flash.size on.flash.size (row_of_walk c.stretches-2.result.now walk) base.row (ap (λ f. f.size) c.at_opening-walk.ensures.flash) first in
    let ready = c.in-Ok-tell_ops.ensures.ready in
    let last = c.tell_ops.new.walk in
    let now = c.tell_ops.new.plan in
    let end : c.address_of-end.result ≡ row_address on.flash.size to.row =
    c.address_of-end.ensures ∙ address_by last.flash.size on.flash.size (row_of_walk c.stretches-3.result.now last) to.row (ready.size ∙ ap (λ (f : Forming). f.flash.size) (c.in-Ok-tell_ops.ensures.forming ∙ c.in-Ok.ensures.forming))
    (row_kept c.stretches-3.result.now now.log.stretches.items last (ap begins_of c.stretches-3.ensures.same) ∙ sym ready.goes_on) in
    let put = c.in-Err-put_end.ensures in
    halts_end_failed on asked base to (g.T.Sink.taken a.sink.now) (g.T.Sink.taken c.tell_ops.new.sink) (g.T.Sink.taken c.put_end.new.sink)
    (g.T.Sink.failures a.sink.now) (g.T.Sink.failures c.tell_ops.new.sink) (g.T.Sink.failures c.put_end.new.sink) counts all
    (subst (λ (l : List ℕ). PutsPart (g.T.Sink.taken c.tell_ops.new.sink) (g.T.Sink.taken c.put_end.new.sink) l)
    (end_at Nodes (length a.ops.now) counts.nodes c.address_of-from.result (row_address on.flash.size base.row) c.address_of-end.result (row_address on.flash.size to.row) counts.weak from end) put.0) put.1

pub invariant_of-plan : goal.invariant_of-plan
invariant_of-plan g c =
    let plan = c.tell_ops.new.plan in
    record { flash = plan.flash; holds = plan.holds; going = plan.going; stretches = plan.stretches; few = plan.few }

pub invariant_of-plan-in-Ok-put_end : goal.invariant_of-plan-in-Ok-put_end
invariant_of-plan-in-Ok-put_end g c =
    let plan = c.tell_ops.new.plan in
    record { flash = plan.flash; holds = plan.holds; going = plan.going; stretches = plan.stretches; few = plan.few }

pub invariant_of-plan-2 : goal.invariant_of-plan-2
invariant_of-plan-2 g c =
    let plan = c.tell_ops.new.plan in
    record { flash = plan.flash; holds = plan.holds; going = plan.going; stretches = plan.stretches; few = plan.few }
