use Rattle.std.proofs.Common.{◌≡◌, ◌∙◌, ℕ, List, Ok, Err, ap, length, refl, subst}
use Rattle.std.specs.Io.KnownBytes.{Appends}
use Rattle.flashbase.specs.Device.{PutsPart}
use Rattle.flashbase.specs.Sinks.{SinkChange}
use Rattle.jcuts.specs.Cuts.{Asked, Point, base_point, flash_of, point_of}
use Rattle.jcuts.proofs.CutsLemmas.{cuts_end, cuts_end_failed, cuts_stop, end_at, ops_at}
use Rattle.jcuts.proofs.cuts.put_cuts.Goals as goal

pub returns-in-Err : goal.returns-in-Err
returns-in-Err g c = (refl, refl, refl, refl)

pub tell_ops-requires-clause-ready : goal.tell_ops-requires-clause-ready
tell_ops-requires-clause-ready g c = c.in-Ok.ensures.ready

pub tell_ops-requires-clause-numbered : goal.tell_ops-requires-clause-numbered
tell_ops-requires-clause-numbered g c = c.requires

pub returns-in-Err-tell_ops : goal.returns-in-Err-tell_ops
returns-in-Err-tell_ops g c =
    let a = c.args in
    let e = g.E.Order.order in
    let flash = a.start.now.flash in
    let image : List ℕ = a.start.now.mounted.now.image in
    let plan = c.in-Ok.plan in
    let asked : Asked = record { telling = a.telling; ops = a.ops.now; lines = a.lines.now } in
    let to : Point = point_of c.tell_ops.new.plan in
    let sink : SinkChange = record { old = g.T.Sink.taken a.sink.now; new = g.T.Sink.taken c.tell_ops.new.sink; before = g.T.Sink.failures a.sink.now; now = g.T.Sink.failures c.tell_ops.new.sink } in
    cuts_stop e flash image asked to sink c.in-Err-tell_ops.stopped
    (ops_at e (flash_of plan) flash asked (point_of plan) (base_point e flash image) to sink (Err c.in-Err-tell_ops.stopped) c.in-Ok.ensures.flash c.in-Ok.ensures.point c.in-Err-tell_ops.ensures)

pub returns-in-Ok-put_end : goal.returns-in-Ok-put_end
returns-in-Ok-put_end g c =
    let a = c.args in
    let e = g.E.Order.order in
    let flash = a.start.now.flash in
    let image : List ℕ = a.start.now.mounted.now.image in
    let plan = c.in-Ok.plan in
    let counts = c.in-Ok-tell_ops.counts in
    let base : Point = base_point e flash image in
    let asked : Asked = record { telling = a.telling; ops = a.ops.now; lines = a.lines.now } in
    let to : Point = point_of c.tell_ops.new.plan in
    let sink : SinkChange = record { old = g.T.Sink.taken a.sink.now; new = g.T.Sink.taken c.tell_ops.new.sink; before = g.T.Sink.failures a.sink.now; now = g.T.Sink.failures c.tell_ops.new.sink } in
    let all = ops_at e (flash_of plan) flash asked (point_of plan) base to sink (Ok counts) c.in-Ok.ensures.flash c.in-Ok.ensures.point c.in-Ok-tell_ops.ensures in
    let from : c.cursor-from.result ≡ base.address = c.cursor-from.ensures ∙ ap (λ (p : Point). p.address) c.in-Ok.ensures.point in
    let put = c.in-Ok-put_end.ensures in
    cuts_end e flash image asked to (g.T.Sink.taken a.sink.now) (g.T.Sink.taken c.tell_ops.new.sink) (g.T.Sink.taken c.put_end.new.sink)
    (g.T.Sink.failures a.sink.now) (g.T.Sink.failures c.tell_ops.new.sink) (g.T.Sink.failures c.put_end.new.sink) counts all
    (subst (λ (l : List ℕ). Appends (g.T.Sink.taken c.tell_ops.new.sink) (g.T.Sink.taken c.put_end.new.sink) l)
    (end_at a.telling (length a.ops.now) counts.nodes c.cursor-from.result base.address c.cursor-end.result to.address counts.weak from c.cursor-end.ensures) put.0) put.1

pub returns : goal.returns
returns g c =
    let a = c.args in
    let e = g.E.Order.order in
    let flash = a.start.now.flash in
    let image : List ℕ = a.start.now.mounted.now.image in
    let plan = c.in-Ok.plan in
    let counts = c.in-Ok-tell_ops.counts in
    let base : Point = base_point e flash image in
    let asked : Asked = record { telling = a.telling; ops = a.ops.now; lines = a.lines.now } in
    let to : Point = point_of c.tell_ops.new.plan in
    let sink : SinkChange = record { old = g.T.Sink.taken a.sink.now; new = g.T.Sink.taken c.tell_ops.new.sink; before = g.T.Sink.failures a.sink.now; now = g.T.Sink.failures c.tell_ops.new.sink } in
    let all = ops_at e (flash_of plan) flash asked (point_of plan) base to sink (Ok counts) c.in-Ok.ensures.flash c.in-Ok.ensures.point c.in-Ok-tell_ops.ensures in
    let from : c.cursor-from.result ≡ base.address = c.cursor-from.ensures ∙ ap (λ (p : Point). p.address) c.in-Ok.ensures.point in
    let put = c.in-Err-put_end.ensures in
    cuts_end_failed e flash image asked to (g.T.Sink.taken a.sink.now) (g.T.Sink.taken c.tell_ops.new.sink) (g.T.Sink.taken c.put_end.new.sink)
    (g.T.Sink.failures a.sink.now) (g.T.Sink.failures c.tell_ops.new.sink) (g.T.Sink.failures c.put_end.new.sink) counts all
    (subst (λ (l : List ℕ). PutsPart (g.T.Sink.taken c.tell_ops.new.sink) (g.T.Sink.taken c.put_end.new.sink) l)
    (end_at a.telling (length a.ops.now) counts.nodes c.cursor-from.result base.address c.cursor-end.result to.address counts.weak from c.cursor-end.ensures) put.0) put.1
