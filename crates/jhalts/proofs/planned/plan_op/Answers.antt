use Rattle.std.proofs.Common.{◌≡◌, ◌∙◌, ℕ, List, Some, [], refl, sym, ap, subst}
use Rattle.jscan.specs.Pages.{page_size}
use Rattle.jsteps.proofs.FewLemmas.{sizes_are_pages}
use Rattle.jlog.specs.declared.fault.SessionFault.{SessionFault}
use Rattle.jlog.specs.declared.report.Applied.{Applied}
use Rattle.jupdate.specs.Rows.{begins_of}
use Rattle.jupdate.specs.View.{held_of, index_of_log, is_broken, left_of, packs_of, sink_of}
use Rattle.jupdate.proofs.StretchLemmas.{left_is_upwards}
use Rattle.jstops.proofs.PlannedLemmas.{forming_at}
use Rattle.jhalts.specs.InRow.{IsDeclinedIn, forming_in_row, row_point_of}
use Rattle.jhalts.specs.Walk.{row_of_walk}
use Rattle.jhalts.proofs.PlannedLemmas.{blocks_by, declined_row, flash_is, left_by, planned_row, planned_to, point_at, put_at, row_kept, told_by}
use Rattle.jhalts.proofs.planned.plan_op.Goals as goal

pub returns-in-Err-clause-forming : goal.returns-in-Err-clause-forming
returns-in-Err-clause-forming g c =
    let p = c.args.plan.now in
    let q = c.apply.new.self in
    forming_at (packs_of q) (packs_of p) (page_size q.page) (page_size p.page) g.E.Order.order q.block p.block q.blocks p.blocks
    c.apply.ensures.packs (ap page_size c.apply.ensures.page) c.apply.ensures.block c.apply.ensures.blocks

pub returns-in-Err-clause-declined : goal.returns-in-Err-clause-declined
returns-in-Err-clause-declined g c =
    let p = c.args.plan.now in
    let q = c.apply.new.self in
    let did = c.in-Err.ensures.applies in
    subst (λ (f : SessionFault). IsDeclinedIn (forming_in_row p) (row_point_of p) c.args.op.now f) (sym c.without_sink.ensures)
    (declined_row Applied (packs_of p) (held_of p) (page_size p.page) g.E.Order.order p.block p.blocks (left_of p) (index_of_log p) c.args.op.now (is_broken p) (left_of q) (index_of_log q) (is_broken q)
    (Some (sink_of p).bytes.items) (Some (sink_of q).bytes.items) (sink_of p).failures (sink_of q).failures did.places c.in-Err.fault c.requires.whole did.applies.0.0)

pub standings_of-requires : goal.standings_of-requires
standings_of-requires g c =
    let p = c.args.plan.now in
    let q = c.apply.new.self in
    let r = c.replace_sink-held.new.self in
    let e = g.E.Order.order in
    let walk = c.args.walk.now in
    let did = c.in-Ok.ensures.applies in
    let op = planned_row c.in-Ok.applied (packs_of p) (held_of p) (page_size p.page) e p.block p.blocks (left_of p) (index_of_log p) c.args.op.now (is_broken p) (left_of q) (index_of_log q) (is_broken q)
    (Some (sink_of p).bytes.items) (Some (sink_of q).bytes.items) (sink_of p).failures (sink_of q).failures did.places (held_of q) (sink_of q).bytes.items
    (sizes_are_pages p.page) c.known.ensures p.flash p.holds (p.going c.requires.whole) (left_is_upwards p.block p.blocks p.log.passed p.log.stretches.items p.stretches) (ap (λ (l : List ℕ). Some l) c.requires.none) refl did.applies.0 in
    let row : row_of_walk c.stretches.result.now walk ≡ left_of p =
    row_kept c.stretches.result.now p.log.stretches.items walk (ap begins_of (c.stretches.ensures.same ∙ c.replace_sink-held.ensures.stretches) ∙ c.apply.ensures.openings) ∙ sym c.requires.goes_on in
    let put = put_at e (blocks_by p.block p.blocks) walk.flash (left_of p) (row_of_walk c.stretches.result.now walk) op.forms (sink_of q).bytes.items c.deref.result.now did.places c.deref-2.result.now
    (flash_is walk.flash p.block p.blocks c.requires.size c.requires.count) row (c.deref.ensures.value ∙ ap (λ h. h.bytes.items) c.replace_sink-held.ensures.back) (c.deref-2.ensures.value ∙ did.told) op.put in
    (op.forms, put)

pub returns-in-Ok-standings_of-clause-forming : goal.returns-in-Ok-standings_of-clause-forming
returns-in-Ok-standings_of-clause-forming g c =
    let p = c.args.plan.now in
    let r = c.replace_sink-held.new.self in
    forming_at (packs_of r) (packs_of p) (page_size r.page) (page_size p.page) g.E.Order.order r.block p.block r.blocks p.blocks
    (c.replace_sink-held.ensures.packs ∙ c.apply.ensures.packs) (ap page_size (c.replace_sink-held.ensures.page ∙ c.apply.ensures.page)) (c.replace_sink-held.ensures.block ∙ c.apply.ensures.block)
    (c.replace_sink-held.ensures.blocks ∙ c.apply.ensures.blocks)

pub returns-in-Ok-standings_of-clause-planned : goal.returns-in-Ok-standings_of-clause-planned
returns-in-Ok-standings_of-clause-planned g c =
    let p = c.args.plan.now in
    let q = c.apply.new.self in
    let r = c.replace_sink-held.new.self in
    let e = g.E.Order.order in
    let walk = c.args.walk.now in
    let did = c.in-Ok.ensures.applies in
    let op = planned_row c.in-Ok.applied (packs_of p) (held_of p) (page_size p.page) e p.block p.blocks (left_of p) (index_of_log p) c.args.op.now (is_broken p) (left_of q) (index_of_log q) (is_broken q)
    (Some (sink_of p).bytes.items) (Some (sink_of q).bytes.items) (sink_of p).failures (sink_of q).failures did.places (held_of q) (sink_of q).bytes.items
    (sizes_are_pages p.page) c.known.ensures p.flash p.holds (p.going c.requires.whole) (left_is_upwards p.block p.blocks p.log.passed p.log.stretches.items p.stretches) (ap (λ (l : List ℕ). Some l) c.requires.none) refl did.applies.0 in
    let row : row_of_walk c.stretches.result.now walk ≡ left_of p =
    row_kept c.stretches.result.now p.log.stretches.items walk (ap begins_of (c.stretches.ensures.same ∙ c.replace_sink-held.ensures.stretches) ∙ c.apply.ensures.openings) ∙ sym c.requires.goes_on in
    let put = put_at e (blocks_by p.block p.blocks) walk.flash (left_of p) (row_of_walk c.stretches.result.now walk) op.forms (sink_of q).bytes.items c.deref.result.now did.places c.deref-2.result.now
    (flash_is walk.flash p.block p.blocks c.requires.size c.requires.count) row (c.deref.ensures.value ∙ ap (λ h. h.bytes.items) c.replace_sink-held.ensures.back) (c.deref-2.ensures.value ∙ did.told) op.put in
    planned_to (packs_of p) (page_size p.page) e p.block p.blocks (row_point_of p) c.args.op.now (row_point_of q) (row_point_of r) c.in-Ok-standings_of.told.items
    (point_at (left_of r) (left_of q) (index_of_log r) (index_of_log q) (held_of r) (held_of q) c.replace_sink-held.ensures.left c.replace_sink-held.ensures.index c.replace_sink-held.ensures.held)
    (op.planned c.in-Ok-standings_of.told.items
    (told_by e walk.flash.size p.block (row_of_walk c.stretches.result.now walk) (left_of p) op.forms c.in-Ok-standings_of.told.items c.requires.size row (c.in-Ok-standings_of.ensures.told op.forms put)))

pub returns-in-Ok-standings_of-clause-ready : goal.returns-in-Ok-standings_of-clause-ready
returns-in-Ok-standings_of-clause-ready g c =
    let p = c.args.plan.now in
    let q = c.apply.new.self in
    let r = c.replace_sink-held.new.self in
    let e = g.E.Order.order in
    let walk = c.args.walk.now in
    let did = c.in-Ok.ensures.applies in
    let op = planned_row c.in-Ok.applied (packs_of p) (held_of p) (page_size p.page) e p.block p.blocks (left_of p) (index_of_log p) c.args.op.now (is_broken p) (left_of q) (index_of_log q) (is_broken q)
    (Some (sink_of p).bytes.items) (Some (sink_of q).bytes.items) (sink_of p).failures (sink_of q).failures did.places (held_of q) (sink_of q).bytes.items
    (sizes_are_pages p.page) c.known.ensures p.flash p.holds (p.going c.requires.whole) (left_is_upwards p.block p.blocks p.log.passed p.log.stretches.items p.stretches) (ap (λ (l : List ℕ). Some l) c.requires.none) refl did.applies.0 in
    let row : row_of_walk c.stretches.result.now walk ≡ left_of p =
    row_kept c.stretches.result.now p.log.stretches.items walk (ap begins_of (c.stretches.ensures.same ∙ c.replace_sink-held.ensures.stretches) ∙ c.apply.ensures.openings) ∙ sym c.requires.goes_on in
    let put = put_at e (blocks_by p.block p.blocks) walk.flash (left_of p) (row_of_walk c.stretches.result.now walk) op.forms (sink_of q).bytes.items c.deref.result.now did.places c.deref-2.result.now
    (flash_is walk.flash p.block p.blocks c.requires.size c.requires.count) row (c.deref.ensures.value ∙ ap (λ h. h.bytes.items) c.replace_sink-held.ensures.back) (c.deref-2.ensures.value ∙ did.told) op.put in
    let after = c.standings_of.new.walk in
    record {
      whole = c.replace_sink-held.ensures.whole ∙ did.applies.0.0.1;
      none = ap (λ h. h.bytes.items) c.replace_sink-held.ensures.sink ∙ c.new.ensures;
      goes_on = c.replace_sink-held.ensures.left
          ∙ (op.left
          ∙ (sym (left_by walk.flash.size p.block (row_of_walk c.stretches.result.now walk) (left_of p) (row_of_walk c.stretches.result.now after) op.forms c.requires.size row (c.in-Ok-standings_of.ensures.row op.forms put))
          ∙ row_kept c.stretches.result.now r.log.stretches.items after (ap begins_of c.stretches.ensures.same)));
      size = ap (λ f. f.size) c.standings_of.ensures.flash ∙ (c.requires.size ∙ sym (c.replace_sink-held.ensures.block ∙ c.apply.ensures.block));
      count = ap (λ f. f.count) c.standings_of.ensures.flash ∙ (c.requires.count ∙ sym (c.replace_sink-held.ensures.blocks ∙ c.apply.ensures.blocks));
    }

pub returns-clause-forming : goal.returns-clause-forming
returns-clause-forming g c =
    let p = c.args.plan.now in
    let r = c.replace_sink-held.new.self in
    forming_at (packs_of r) (packs_of p) (page_size r.page) (page_size p.page) g.E.Order.order r.block p.block r.blocks p.blocks
    (c.replace_sink-held.ensures.packs ∙ c.apply.ensures.packs) (ap page_size (c.replace_sink-held.ensures.page ∙ c.apply.ensures.page)) (c.replace_sink-held.ensures.block ∙ c.apply.ensures.block)
    (c.replace_sink-held.ensures.blocks ∙ c.apply.ensures.blocks)
