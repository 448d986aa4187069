use Rattle.std.proofs.Common.{◌≡◌, ◌∙◌, ℕ, List, Some, [], refl, sym, ap, subst}
use Rattle.std.proofs.lemmas.Result.{IfOk-from_err, err_from_is_err_and}
use Rattle.jscan.specs.Pages.{page_size}
use Rattle.jsteps.proofs.FewLemmas.{sizes_are_pages}
use Rattle.jlog.specs.Session.{Declines}
use Rattle.jlog.specs.View.{block_size_of, blocks_of, page_of, cursor_of, index_of_log, is_broken, sink_of}
use Rattle.jlog.specs.declared.fault.SessionFault.{SessionFault}
use Rattle.jlog.specs.declared.report.Applied.{Applied}
use Rattle.jcuts.specs.Planning.{IfFull}
use Rattle.jcuts.proofs.PlanLemmas.{can_at, declined_op, nodes_at, planned_at, planned_op, standings_at, stays_op}
use Rattle.jcuts.proofs.planning.plan_op.Goals as goal

pub returns-in-Err : goal.returns-in-Err
returns-in-Err g c =
    let p = c.args.plan.now in
    let q = c.apply.new.self in
    let e = g.E.Order.order in
    record {
      base = c.apply.ensures.base;
      block = c.apply.ensures.block;
      blocks = c.apply.ensures.blocks;
      page = c.apply.ensures.page;
      planned = tt;
      whole = tt;
      can = tt;
      none = tt;
      stays = subst (λ (f : SessionFault). IfFull f ((cursor_of q ≡ cursor_of p) × (index_of_log q ≡ index_of_log p))) (sym c.without_sink.ensures)
          (stays_op Applied (page_size (page_of p)) e (block_size_of p) (blocks_of p) (cursor_of p) (index_of_log p) c.args.op.now (is_broken p) (cursor_of q) (index_of_log q) (is_broken q)
          (Some (sink_of p).bytes.items) (Some (sink_of q).bytes.items) (sink_of p).failures (sink_of q).failures [] c.in-Err.ensures.applies.0 c.in-Err.fault c.in-Err.ensures.applies.2);
      declined = subst (λ (f : SessionFault). Declines (page_size (page_of p)) e (block_size_of p) (blocks_of p) (cursor_of p) (index_of_log p) c.args.op.now f) (sym c.without_sink.ensures)
          (declined_op Applied (page_size (page_of p)) e (block_size_of p) (blocks_of p) (cursor_of p) (index_of_log p) c.args.op.now (is_broken p) (cursor_of q) (index_of_log q) (is_broken q)
          (Some (sink_of p).bytes.items) (Some (sink_of q).bytes.items) (sink_of p).failures (sink_of q).failures [] c.in-Err.ensures.applies.0 c.in-Err.fault c.requires.whole c.in-Err.ensures.applies.2);
    }

pub standings_in-requires : goal.standings_in-requires
standings_in-requires g c =
    let p = c.args.plan.now in
    let q = c.apply.new.self in
    let e = g.E.Order.order in
    let did = c.in-Ok.ensures.applies in
    let planned = planned_op c.in-Ok.applied (page_size (page_of p)) e (block_size_of p) (blocks_of p) (cursor_of p) (index_of_log p) c.args.op.now (is_broken p) (cursor_of q) (index_of_log q) (is_broken q)
    (Some (sink_of p).bytes.items) (Some (sink_of q).bytes.items) (sink_of p).failures (sink_of q).failures [] did.0 (sink_of q).bytes.items
    (sizes_are_pages (page_of p)) c.known.ensures c.requires.can (ap (λ (l : List ℕ). Some l) c.requires.none) refl refl did.2 in
    nodes_at e (cursor_of p) c.cursor-from.result (sink_of q).bytes.items c.deref.result.now did.0 c.deref-2.result.now
    c.cursor-from.ensures (c.deref.ensures.value ∙ ap (λ h. h.bytes.items) c.replace_sink-held.ensures.back) (c.deref-2.ensures.value ∙ did.1) planned.in_it

pub returns-in_err-told-clause-base : goal.returns-in_err-told-clause-base
returns-in_err-told-clause-base g c = c.replace_sink-held.ensures.base ∙ c.apply.ensures.base

pub returns-in_err-told-clause-block : goal.returns-in_err-told-clause-block
returns-in_err-told-clause-block g c = c.replace_sink-held.ensures.block ∙ c.apply.ensures.block

pub returns-in_err-told-clause-blocks : goal.returns-in_err-told-clause-blocks
returns-in_err-told-clause-blocks g c = c.replace_sink-held.ensures.blocks ∙ c.apply.ensures.blocks

pub returns-in_err-told-clause-page : goal.returns-in_err-told-clause-page
returns-in_err-told-clause-page g c = c.replace_sink-held.ensures.page ∙ c.apply.ensures.page

pub returns-clause-base : goal.returns-clause-base
returns-clause-base g c = c.replace_sink-held.ensures.base ∙ c.apply.ensures.base

pub returns-clause-block : goal.returns-clause-block
returns-clause-block g c = c.replace_sink-held.ensures.block ∙ c.apply.ensures.block

pub returns-clause-blocks : goal.returns-clause-blocks
returns-clause-blocks g c = c.replace_sink-held.ensures.blocks ∙ c.apply.ensures.blocks

pub returns-clause-page : goal.returns-clause-page
returns-clause-page g c = c.replace_sink-held.ensures.page ∙ c.apply.ensures.page

pub returns-in_err-told-clause-planned : goal.returns-in_err-told-clause-planned
returns-in_err-told-clause-planned g c = IfOk-from_err c.from_residual.result _ c.from_residual.ensures.0

pub returns-in_err-told-clause-whole : goal.returns-in_err-told-clause-whole
returns-in_err-told-clause-whole g c = IfOk-from_err c.from_residual.result _ c.from_residual.ensures.0

pub returns-in_err-told-clause-can : goal.returns-in_err-told-clause-can
returns-in_err-told-clause-can g c = IfOk-from_err c.from_residual.result _ c.from_residual.ensures.0

pub returns-in_err-told-clause-none : goal.returns-in_err-told-clause-none
returns-in_err-told-clause-none g c = IfOk-from_err c.from_residual.result _ c.from_residual.ensures.0

pub returns-in_err-told-clause-declined : goal.returns-in_err-told-clause-declined
returns-in_err-told-clause-declined g c = let p = err_from_is_err_and c.from_residual.result c.from_residual.ensures.1 in rw (p.1, p.2) tt

pub returns-in_err-told-clause-stays : goal.returns-in_err-told-clause-stays
returns-in_err-told-clause-stays g c = let p = err_from_is_err_and c.from_residual.result c.from_residual.ensures.1 in rw (p.1, p.2) tt

pub returns-clause-planned : goal.returns-clause-planned
returns-clause-planned g c =
    let p = c.args.plan.now in
    let q = c.apply.new.self in
    let r = c.replace_sink-held.new.self in
    let e = g.E.Order.order in
    let did = c.in-Ok.ensures.applies in
    let planned = planned_op c.in-Ok.applied (page_size (page_of p)) e (block_size_of p) (blocks_of p) (cursor_of p) (index_of_log p) c.args.op.now (is_broken p) (cursor_of q) (index_of_log q) (is_broken q)
    (Some (sink_of p).bytes.items) (Some (sink_of q).bytes.items) (sink_of p).failures (sink_of q).failures [] did.0 (sink_of q).bytes.items
    (sizes_are_pages (page_of p)) c.known.ensures c.requires.can (ap (λ (l : List ℕ). Some l) c.requires.none) refl refl did.2 in
    planned_at (page_size (page_of p)) e (block_size_of p) (blocks_of p) (cursor_of p) (index_of_log p) c.args.op.now (cursor_of q) (cursor_of r) (index_of_log q) (index_of_log r) _ c.in_ok-told.told.items
    c.replace_sink-held.ensures.cursor c.replace_sink-held.ensures.index
    (c.in_ok-told.ensures ∙ standings_at e (cursor_of p) c.cursor-from.result (sink_of q).bytes.items c.deref.result.now did.0 c.deref-2.result.now
    c.cursor-from.ensures (c.deref.ensures.value ∙ ap (λ h. h.bytes.items) c.replace_sink-held.ensures.back) (c.deref-2.ensures.value ∙ did.1)) planned.planned

pub returns-clause-whole : goal.returns-clause-whole
returns-clause-whole g c = c.replace_sink-held.ensures.whole ∙ c.in-Ok.ensures.applies.2.1

pub returns-clause-can : goal.returns-clause-can
returns-clause-can g c =
    let p = c.args.plan.now in
    let q = c.apply.new.self in
    let r = c.replace_sink-held.new.self in
    let e = g.E.Order.order in
    let did = c.in-Ok.ensures.applies in
    let planned = planned_op c.in-Ok.applied (page_size (page_of p)) e (block_size_of p) (blocks_of p) (cursor_of p) (index_of_log p) c.args.op.now (is_broken p) (cursor_of q) (index_of_log q) (is_broken q)
    (Some (sink_of p).bytes.items) (Some (sink_of q).bytes.items) (sink_of p).failures (sink_of q).failures [] did.0 (sink_of q).bytes.items
    (sizes_are_pages (page_of p)) c.known.ensures c.requires.can (ap (λ (l : List ℕ). Some l) c.requires.none) refl refl did.2 in
    can_at (page_of p) (page_of r) (block_size_of p) (block_size_of r) (blocks_of p) (blocks_of r) (cursor_of q) (cursor_of r) (index_of_log q) (index_of_log r)
    (c.replace_sink-held.ensures.page ∙ c.apply.ensures.page) (c.replace_sink-held.ensures.block ∙ c.apply.ensures.block) (c.replace_sink-held.ensures.blocks ∙ c.apply.ensures.blocks)
    c.replace_sink-held.ensures.cursor c.replace_sink-held.ensures.index planned.can

pub returns-clause-none : goal.returns-clause-none
returns-clause-none g c = ap (λ h. h.bytes.items) c.replace_sink-held.ensures.sink ∙ c.new.ensures
