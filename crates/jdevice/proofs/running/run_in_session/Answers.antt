use Rattle.std.proofs.Common.{◌≡◌, ◌∙◌, ℕ, List, [], is_some, ap, refl, sym, subst, Some}
use Rattle.std.specs.Prelude.{IsFalse}
use Rattle.flashbase.specs.Sinks.{SinkChange}
use Rattle.jscan.specs.Pages.{page_size}
use Rattle.jmount.specs.Mount.{Mount}
use Rattle.jlog.specs.SessionAs.{flash_as}
use Rattle.jlog.specs.declared.start.Flash.{Flash}
use Rattle.jlog.proofs.Parts.{flash_by}
use Rattle.jrests.specs.Shares.{shares}
use Rattle.jrests.specs.declared.opening.Opening.{Opening}
use Rattle.jopenings.specs.Stretches.{AreStretches, stretches_of}
use Rattle.jopenings.specs.declared.placing.Stretch.{Stretch}
use Rattle.jupdate.specs.Rows.{left_in}
use Rattle.jdevice.specs.Run.{openings_planned}
use Rattle.jdevice.specs.declared.running.DevicePlan.{DevicePlan}
use Rattle.jdevice.proofs.RunLemmas.{begun_same, device_ran, flash_same, gone_on, index_same, packed_same, session_state}
use Rattle.jdevice.proofs.running.run_in_session.Goals as goal

pub returns : goal.returns
returns g c =
    let e = g.E.Order.order in
    let s = c.args.session in
    let t = c.run-report.new.self in
    let on : DevicePlan = c.args.on in
    let flash : Flash = on.flash in
    let m : Mount = c.args.mounted.now in
    let image : List ℕ = m.image in
    let row : List Opening = openings_planned e on image in
    let begun = c.requires.begun in
    let r = c.run-report.result in
    let ran = c.run-report.ensures.runs in
    let sink : SinkChange = record { old = Some s.log.sink.writer.items; new = Some t.log.sink.writer.items; before = s.log.sink.failures; now = t.log.sink.failures } in
    let block : t.block ≡ flash.geometry.block = c.run-report.ensures.block ∙ begun.of.block in
    let blocks : t.blocks ≡ flash.blocks = c.run-report.ensures.blocks ∙ begun.of.blocks in
    let done = λ (whole : IsFalse t.broken). ran.done whole image row [] [] begun.begins in
    let index = index_same (page_size s.page) e s.block flash.geometry.block image s.log.index begun.of.block begun.begins.goes_on.index_is in
    let kept : c.in_ok-stretches.stretches.items ≡ c.stretches.result.now = c.in_ok-stretches.ensures.items_if_clones_equal (λ x y is. is) in
    device_ran e on image c.args.ops.now _ (record {
      forms = ran.forms;
      to = session_state (left_in t.log.passed t.log.stretches.items) t.log.index r.places.items t.broken;
      sink = sink;
      flash = flash_as (is_some s.packing) s.held (flash_by (page_size s.page) e s.block s.blocks);
      from = session_state (left_in s.log.passed s.log.stretches.items) s.log.index [] s.broken;
      after = flash_by (page_size t.page) e t.block t.blocks;
      left = left_in t.log.passed t.log.stretches.items;
      index = t.log.index;
      flash_is = packed_same (is_some s.packing) s.held e s.block s.blocks s.page on image c.requires.packs begun.of.block begun.of.blocks begun.of.page begun.of.held;
      from_is = begun_same (left_in s.log.passed s.log.stretches.items) s.log.index s.broken e on image begun.of.left index begun.of.whole;
      after_is = flash_same e t.block t.blocks t.page flash block blocks (c.run-report.ensures.page ∙ begun.of.page);
      none = c.requires.sink;
      some = ap (λ k. Some k.writer.items) (sym c.finish.ensures) ∙ sym c.into_writer-bytes.ensures;
      zero_failed = c.requires.none_failed;
      room = (gone_on e flash m begun.resumes).room;
      bytes = begun.begins.bytes;
      stops = sym c.stops_at_op.ensures ∙ c.if-not-stops_at_op.false;
      did = ran.runs;
      goes = λ whole. (done whole).goes_on;
      stretches = λ whole. kept ∙ (c.stretches.ensures.same ∙ ((done whole).stretches ∙ ap (λ (k : ℕ). stretches_of e k (shares k row ran.forms)) block));
      lie = subst (λ (l : List Stretch). AreStretches flash.geometry.block 0 flash.blocks l) (sym kept)
          (subst (λ (n : ℕ). AreStretches n 0 flash.blocks c.stretches.result.now) block (subst (λ (n : ℕ). AreStretches t.block 0 n c.stretches.result.now) blocks c.stretches.ensures.within));
      places = refl;
    })
