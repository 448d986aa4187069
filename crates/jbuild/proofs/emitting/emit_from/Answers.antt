use Rattle.std.proofs.Common.{◌≡◌, ◌∙◌, ℕ, List, [], ap, subst, sym}
use Rattle.std.specs.Prelude.{Option, Ok}
use Rattle.std.specs.Io.KnownBytes.{Appends}
use Rattle.jscan.specs.Pages.{page_size}
use Rattle.jlog.proofs.Parts.{RunsBy, flash_by, state_by}
use Rattle.jlog.specs.Left.{front_of}
use Rattle.jlog.specs.Resuming.{resumes}
use Rattle.jlog.specs.View.{written_flash}
use Rattle.jlog.specs.declared.fault.SessionFault.{SessionFault}
use Rattle.jbuild.specs.Blocks.{TellsRefused, TellsRefusedOn}
use Rattle.jbuild.specs.Emitting.{IsEmitted}
use Rattle.jbuild.proofs.BlocksLemmas.{if_told, stopped_within, tells_after}
use Rattle.jbuild.proofs.EmitLemmas.{emitted_by, puts_all, same_number}
use Rattle.jbuild.proofs.LengthLemmas.{goes_on_flash, line_tells_length}
use Rattle.jbuild.proofs.emitting.emit_from.Goals as goal

pub returns-clause-emitted : goal.returns-clause-emitted
returns-clause-emitted g c =
    let e = g.E.Order.order in
    let a = c.args in
    let flash = a.start.now.flash in
    let base : List ℕ = a.start.now.mounted.now.image in
    let begun = c.in-Ok.ensures.begun in
    let s = c.in-Ok.session in
    let t = c.run-report.new.self in
    let r = c.run-report.result in
    let from : ℕ = c.address-from.result in
    let put = puts_all _ _ _ _ _ c.put_front.result (sym c.is_err.ensures.value ∙ c.if-is_err.false) c.put_front.ensures in
    let sink = sym begun.sink in
    let image : c.image.result.now ≡ base = c.image.ensures ∙ ap (λ m. m.image) c.mounted.ensures.same in
    let same : g.S.Sink.failures s.sink ≡ g.S.Sink.failures a.sink = subst (λ k. g.S.Sink.failures k ≡ g.S.Sink.failures a.sink) sink put.1 in
    let front : Appends (g.S.Sink.taken a.sink) (g.S.Sink.taken s.sink) (front_of base from) =
    subst (λ k. Appends (g.S.Sink.taken a.sink) (g.S.Sink.taken k) (front_of base from)) sink
    (subst (λ (l : List ℕ). Appends (g.S.Sink.taken a.sink) (g.S.Sink.taken c.put_front.new.sink) (front_of l from)) image put.0) in
    let runs = subst (λ k. RunsBy (page_size s.page) e s.block s.blocks s.cursor s.index a.ops.now s.broken r.accepted t.cursor t.index t.broken (g.S.Sink.taken s.sink) (g.S.Sink.taken k)
    (g.S.Sink.failures s.sink) (g.S.Sink.failures k) r.places.items r.stopped) (sym c.finish.ensures) c.run-report.ensures.runs in
    emitted_by flash.page s.page e flash.geometry.block s.block flash.blocks s.blocks base s.base.now s.cursor from s.index a.ops.now s.broken r.accepted t.cursor t.index t.broken
    (g.S.Sink.taken a.sink) (g.S.Sink.taken s.sink) (g.S.Sink.taken c.finish.result) (g.S.Sink.failures a.sink) (g.S.Sink.failures s.sink) (g.S.Sink.failures c.finish.result) r.places.items r.stopped
    begun.page begun.block begun.blocks begun.base
    (same_number (resumes e flash a.start.now.mounted.now) from s.cursor c.address-from.ensures.goes_on begun.cursor)
    begun.resumed begun.whole same front runs (c.run-report.ensures.survives begun.whole [] begun.begins).all

pub returns-clause-long : goal.returns-clause-long
returns-clause-long g c = λ all.
    let a = c.args in
    let start = a.start.now in
    let flash = start.flash in
    let m = start.mounted.now in
    let e = g.E.Order.order in
    let r = c.run-report.result in
    line_tells_length (written_flash e flash) m.image a.ops.now r.accepted r.places.items
    (record { old = g.S.Sink.taken a.sink; new = g.S.Sink.taken c.finish.result; before = g.S.Sink.failures a.sink; now = g.S.Sink.failures c.finish.result })
    (goes_on_flash flash.page e flash.geometry.block flash.blocks m c.address-from.result c.address-from.ensures.goes_on)
    (subst (λ (s : Option SessionFault). IsEmitted (written_flash e flash) m.image a.ops.now r.accepted r.places.items s (record { old = g.S.Sink.taken a.sink; new = g.S.Sink.taken c.finish.result; before = g.S.Sink.failures a.sink; now = g.S.Sink.failures c.finish.result })) all (returns-clause-emitted g c))

pub blocks_for_refused-blocks-requires : goal.blocks_for_refused-blocks-requires
blocks_for_refused-blocks-requires g c = stopped_within _ _ _ _ _ _ _ c.run-report.ensures.runs

pub returns-clause-blocks : goal.returns-clause-blocks
returns-clause-blocks g c =
    let e = g.E.Order.order in
    let a = c.args in
    let flash = a.start.now.flash in
    let base : List ℕ = a.start.now.mounted.now.image in
    let s = c.in-Ok.session in
    let t = c.run-report.new.self in
    let r = c.run-report.result in
    let begun = c.in-Ok.ensures.begun in
    let ran = c.run-report.ensures in
    let told = λ (blocks : Option ℕ). TellsRefused (flash_by (page_size t.page) e t.block t.blocks) (state_by t.cursor t.index t.broken []) a.ops.now r.accepted r.stopped blocks in
    let on = λ (blocks : Option ℕ). TellsRefusedOn (written_flash e flash) base a.ops.now r.accepted r.stopped blocks in
    if_told told on c.blocks_for_refused-blocks.result (λ blocks is. tells_after flash.page s.page t.page e flash.geometry.block s.block t.block flash.blocks s.blocks t.blocks base s.base.now s.cursor s.index a.ops.now s.broken r.accepted t.cursor t.index t.broken
    (g.S.Sink.taken s.sink) (g.S.Sink.taken t.sink) (g.S.Sink.failures s.sink) (g.S.Sink.failures t.sink) r.places.items r.stopped blocks
    begun.page begun.block begun.blocks ran.page ran.block ran.blocks begun.base begun.resumed begun.whole ran.runs is) c.blocks_for_refused-blocks.ensures.blocks
