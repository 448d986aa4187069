use Rattle.std.proofs.Common.{◌≡◌, ◌∙◌, ℕ, List, Some, [], refl, sym, ap, subst, is_some}
use Rattle.jscan.specs.Pages.{page_size}
use Rattle.jsteps.proofs.FewLemmas.{sizes_are_pages}
use Rattle.jlog.specs.declared.fault.SessionFault.{SessionFault}
use Rattle.jlog.specs.declared.report.Applied.{Applied}
use Rattle.jpacked.specs.View.{cursor_of, held_of, index_of_log, is_broken, packs_of, sink_of}
use Rattle.jcuts.proofs.PlanLemmas.{nodes_at, standings_at}
use Rattle.jstops.specs.Planned.{IsDeclinedAs, forming_of, held_point_of}
use Rattle.jstops.proofs.PlannedLemmas.{declined_op, forming_at, held_at, planned_at, planned_op}
use Rattle.jstops.proofs.planned.plan_op.Goals as goal

pub returns-in-Err-clause-forming : goal.returns-in-Err-clause-forming
returns-in-Err-clause-forming g c =
    let p = c.args.plan.now in
    let q = c.apply.new.self in
    forming_at (packs_of q) (packs_of p) (page_size q.page) (page_size p.page) g.E.Order.order q.block p.block q.blocks p.blocks
    c.apply.ensures.packs (ap page_size c.apply.ensures.page) c.apply.ensures.block c.apply.ensures.blocks

pub returns-in-Err-clause-declined : goal.returns-in-Err-clause-declined
returns-in-Err-clause-declined g c =
    let p = c.args.plan.now in
    let q = c.apply.new.self in
    let did = c.in-Err.ensures.applies in
    subst (λ (f : SessionFault). IsDeclinedAs (forming_of p) (held_point_of p) c.args.op.now f) (sym c.without_sink.ensures)
    (declined_op Applied (packs_of p) (held_of p) (page_size p.page) g.E.Order.order p.block p.blocks (cursor_of p) (index_of_log p) c.args.op.now (is_broken p) (cursor_of q) (index_of_log q) (is_broken q)
    (Some (sink_of p).bytes.items) (Some (sink_of q).bytes.items) (sink_of p).failures (sink_of q).failures did.places c.in-Err.fault c.requires.whole did.applies.0)

pub standings_in-requires : goal.standings_in-requires
standings_in-requires g c =
    let p = c.args.plan.now in
    let q = c.apply.new.self in
    let e = g.E.Order.order in
    let did = c.in-Ok.ensures.applies in
    let planned = planned_op c.in-Ok.applied (packs_of p) (held_of p) (page_size p.page) e p.block p.blocks (cursor_of p) (index_of_log p) c.args.op.now (is_broken p) (cursor_of q) (index_of_log q) (is_broken q)
    (Some (sink_of p).bytes.items) (Some (sink_of q).bytes.items) (sink_of p).failures (sink_of q).failures [] did.places (held_of q) (sink_of q).bytes.items
    (sizes_are_pages p.page) c.known.ensures p.flash p.holds (p.going c.requires.whole) (ap (λ (l : List ℕ). Some l) c.requires.none) refl refl did.applies in
    nodes_at e (cursor_of p) c.cursor-from.result (sink_of q).bytes.items c.deref.result.now did.places c.deref-2.result.now
    c.cursor-from.ensures (c.deref.ensures.value ∙ ap (λ h. h.bytes.items) c.replace_sink-held.ensures.back) (c.deref-2.ensures.value ∙ did.told) planned.in_it

pub returns-in-Ok-standings_in-clause-forming : goal.returns-in-Ok-standings_in-clause-forming
returns-in-Ok-standings_in-clause-forming g c =
    let p = c.args.plan.now in
    let r = c.replace_sink-held.new.self in
    forming_at (packs_of r) (packs_of p) (page_size r.page) (page_size p.page) g.E.Order.order r.block p.block r.blocks p.blocks
    (c.replace_sink-held.ensures.packs ∙ c.apply.ensures.packs) (ap page_size (c.replace_sink-held.ensures.page ∙ c.apply.ensures.page)) (c.replace_sink-held.ensures.block ∙ c.apply.ensures.block)
    (c.replace_sink-held.ensures.blocks ∙ c.apply.ensures.blocks)

pub returns-in-Ok-standings_in-clause-planned : goal.returns-in-Ok-standings_in-clause-planned
returns-in-Ok-standings_in-clause-planned g c =
    let p = c.args.plan.now in
    let q = c.apply.new.self in
    let r = c.replace_sink-held.new.self in
    let e = g.E.Order.order in
    let did = c.in-Ok.ensures.applies in
    let planned = planned_op c.in-Ok.applied (packs_of p) (held_of p) (page_size p.page) e p.block p.blocks (cursor_of p) (index_of_log p) c.args.op.now (is_broken p) (cursor_of q) (index_of_log q) (is_broken q)
    (Some (sink_of p).bytes.items) (Some (sink_of q).bytes.items) (sink_of p).failures (sink_of q).failures [] did.places (held_of q) (sink_of q).bytes.items
    (sizes_are_pages p.page) c.known.ensures p.flash p.holds (p.going c.requires.whole) (ap (λ (l : List ℕ). Some l) c.requires.none) refl refl did.applies in
    planned_at (forming_of p) (held_point_of p) c.args.op.now (held_point_of q) (held_point_of r) _ c.in-Ok-standings_in.told.items
    (held_at (cursor_of r) (cursor_of q) (index_of_log r) (index_of_log q) (held_of r) (held_of q) c.replace_sink-held.ensures.cursor c.replace_sink-held.ensures.index c.replace_sink-held.ensures.held)
    (c.in-Ok-standings_in.ensures ∙ standings_at e (cursor_of p) c.cursor-from.result (sink_of q).bytes.items c.deref.result.now did.places c.deref-2.result.now
    c.cursor-from.ensures (c.deref.ensures.value ∙ ap (λ h. h.bytes.items) c.replace_sink-held.ensures.back) (c.deref-2.ensures.value ∙ did.told)) planned.planned

pub returns-in-Ok-standings_in-clause-ready : goal.returns-in-Ok-standings_in-clause-ready
returns-in-Ok-standings_in-clause-ready g c = record {
  whole = c.replace_sink-held.ensures.whole ∙ c.in-Ok.ensures.applies.applies.0.1;
  none = ap (λ h. h.bytes.items) c.replace_sink-held.ensures.sink ∙ c.new.ensures;
}

pub returns-clause-forming : goal.returns-clause-forming
returns-clause-forming g c =
    let p = c.args.plan.now in
    let r = c.replace_sink-held.new.self in
    forming_at (packs_of r) (packs_of p) (page_size r.page) (page_size p.page) g.E.Order.order r.block p.block r.blocks p.blocks
    (c.replace_sink-held.ensures.packs ∙ c.apply.ensures.packs) (ap page_size (c.replace_sink-held.ensures.page ∙ c.apply.ensures.page)) (c.replace_sink-held.ensures.block ∙ c.apply.ensures.block)
    (c.replace_sink-held.ensures.blocks ∙ c.apply.ensures.blocks)
