use Rattle.std.proofs.Common.{◌≡◌, ◌∙◌, ℕ, List, [], is_some, ap, sym, subst, Some}
use Rattle.std.specs.Prelude.{IsFalse}
use Rattle.flashbase.specs.Sinks.{SinkChange}
use Rattle.jscan.specs.Pages.{page_size}
use Rattle.jsteps.specs.declared.op.Op.{Op}
use Rattle.jmount.specs.Mount.{Mount}
use Rattle.jlog.specs.SessionAs.{flash_as}
use Rattle.jlog.specs.declared.start.Flash.{Flash}
use Rattle.jlog.proofs.Parts.{flash_by}
use Rattle.jrests.specs.Shares.{shares}
use Rattle.jrests.specs.declared.opening.Opening.{Opening}
use Rattle.jopenings.specs.Stretches.{AreStretches, image_with, stretches_of}
use Rattle.jupdate.specs.Rows.{left_in}
use Rattle.jcalls.specs.Updating.{IsUpdatedOn, openings_on}
use Rattle.jcalls.specs.declared.told.Told.{Told}
use Rattle.jcalls.proofs.UpdatingLemmas.{begun_same, flash_same, gone_on, index_same, packed_same, session_state, updated_on}
use Rattle.jcalls.proofs.updating.update_in_session.Goals as goal

pub placed-requires-clause-readable : goal.placed-requires-clause-readable
placed-requires-clause-readable g c = (gone_on g.E.Order.order c.args.flash c.args.mounted.now c.requires.begun.resumes).readable

pub placed-requires-clause-small : goal.placed-requires-clause-small
placed-requires-clause-small g c = (gone_on g.E.Order.order c.args.flash c.args.mounted.now c.requires.begun.resumes).small

pub placed-requires-clause-stretches : goal.placed-requires-clause-stretches
placed-requires-clause-stretches g c =
    let flash : Flash = c.args.flash in
    let u = c.replace_sink.new.self in
    let begun = c.requires.begun in
    let block : u.block ≡ flash.geometry.block = c.replace_sink.ensures.block ∙ (c.run-report.ensures.block ∙ begun.of.block) in
    let blocks : u.blocks ≡ flash.blocks = c.replace_sink.ensures.blocks ∙ (c.run-report.ensures.blocks ∙ begun.of.blocks) in
    subst (λ (n : ℕ). AreStretches n 0 flash.blocks c.stretches.result.now) block (subst (λ (n : ℕ). AreStretches u.block 0 n c.stretches.result.now) blocks c.stretches.ensures.within)

pub returns-in-Ok-placed-clause-ok : goal.returns-in-Ok-placed-clause-ok
returns-in-Ok-placed-clause-ok g c =
    let e = g.E.Order.order in
    let s = c.args.session in
    let t = c.run-report.new.self in
    let flash : Flash = c.args.flash in
    let m : Mount = c.args.mounted.now in
    let image : List ℕ = m.image in
    let row : List Opening = openings_on e flash image in
    let begun = c.requires.begun in
    let r = c.run-report.result in
    let n : ℕ = r.accepted in
    let ran = c.run-report.ensures.runs in
    let made = c.made_of.result in
    let sink : SinkChange = record { old = Some s.log.sink.writer.items; new = Some t.log.sink.writer.items; before = s.log.sink.failures; now = t.log.sink.failures } in
    let block : t.block ≡ flash.geometry.block = c.run-report.ensures.block ∙ begun.of.block in
    let blocks : t.blocks ≡ flash.blocks = c.run-report.ensures.blocks ∙ begun.of.blocks in
    let done = λ (whole : IsFalse t.broken). ran.done whole image row [] [] begun.begins in
    let index = index_same (page_size s.page) e s.block flash.geometry.block image s.log.index begun.of.block begun.begins.goes_on.index_is in
    let given = updated_on e flash (is_some s.packing) image c.deref.result.now c.deref-2.result.now n ran.forms (session_state (left_in t.log.passed t.log.stretches.items) t.log.index r.places.items t.broken) sink r.stopped
    (flash_as (is_some s.packing) s.held (flash_by (page_size s.page) e s.block s.blocks)) (session_state (left_in s.log.passed s.log.stretches.items) s.log.index [] s.broken)
    (flash_by (page_size t.page) e t.block t.blocks) (left_in t.log.passed t.log.stretches.items) t.log.index c.stretches.result.now c.deref-3.result.now c.in-Ok-placed.image.items made.row
    (packed_same (is_some s.packing) s.held e s.block s.blocks s.page flash image begun.of.block begun.of.blocks begun.of.page begun.of.held)
    (begun_same (left_in s.log.passed s.log.stretches.items) s.log.index s.broken e flash image begun.of.left index begun.of.whole)
    (flash_same e t.block t.blocks t.page flash block blocks (c.run-report.ensures.page ∙ begun.of.page))
    c.requires.sink
    (ap (λ k. Some k.writer.items) (sym c.replace_sink.ensures.back) ∙ (sym c.into_writer-bytes.ensures ∙ ap Some (sym c.deref-3.ensures.value)))
    c.requires.none_failed
    (gone_on e flash m begun.resumes).room
    begun.begins.bytes
    c.made_of.ensures.accepted
    (c.made_of.ensures.stop ∙ c.in-Ok.ensures.ok)
    (λ seven. c.in-Ok.ensures.memory (sym (ap (λ (told : Told). told.status) c.made_of.ensures.stop) ∙ seven))
    ran.runs
    (λ whole. (done whole).goes_on)
    (λ whole. c.stretches.ensures.same ∙ (c.replace_sink.ensures.stretches ∙ ((done whole).stretches ∙ ap (λ (k : ℕ). stretches_of e k (shares k row ran.forms)) block)))
    (c.in-Ok-placed.ensures.ok ∙ ap (λ (i : List ℕ). image_with flash.geometry.block flash.blocks i c.stretches.result.now c.deref-3.result.now) c.image.ensures)
    c.made_of.ensures.long
    c.made_of.ensures.nodes
    c.made_of.ensures.spare in
    subst (λ (bytes : List ℕ). IsUpdatedOn e flash (is_some s.packing) image c.args.planned.now.ops.items c.args.planned.now.numbers.items bytes made.row) (sym c.made_of.ensures.bytes)
    (subst (λ (numbers : List ℕ). IsUpdatedOn e flash (is_some s.packing) image c.args.planned.now.ops.items numbers c.in-Ok-placed.image.items made.row) c.deref-2.ensures.value
    (subst (λ (ops : List Op). IsUpdatedOn e flash (is_some s.packing) image ops c.deref-2.result.now c.in-Ok-placed.image.items made.row) c.deref.ensures.value given))
