use Rattle.std.proofs.Common.{rules, ◌≡◌, ◌∙◌, List, ap, length, refl, subst}
use Rattle.std.specs.Io.KnownBytes.{Appends}
use Rattle.flashbase.specs.Device.{PutsPart}
use Rattle.jlog.specs.View.{cursor_of, index_of_log}
use Rattle.jcuts.specs.Cuts.{flash_of, told_of_op}
use Rattle.jcuts.specs.Lines.{weak_count}
use Rattle.jcuts.specs.declared.standing.Standing.{Standing}
use Rattle.jcuts.proofs.CutsLemmas.{least_at, same_flash}
use Rattle.jcuts.proofs.cuts.tell_op.Goals as goal

pub plan_op-requires-clause-whole : goal.plan_op-requires-clause-whole
plan_op-requires-clause-whole g c = c.requires.whole

pub plan_op-requires-clause-can : goal.plan_op-requires-clause-can
plan_op-requires-clause-can g c = c.requires.can

pub plan_op-requires-clause-none : goal.plan_op-requires-clause-none
plan_op-requires-clause-none g c = c.requires.none

pub returns-in-Err-clause-flash : goal.returns-in-Err-clause-flash
returns-in-Err-clause-flash g c =
    let p = c.args.plan.now in
    let q = c.plan_op.new.plan in
    same_flash q.block p.block q.blocks p.blocks q.page p.page c.plan_op.ensures.block c.plan_op.ensures.blocks c.plan_op.ensures.page

pub returns-in-Err-clause-tells : goal.returns-in-Err-clause-tells
returns-in-Err-clause-tells g c =
    let p = c.args.plan.now in
    let q = c.plan_op.new.plan in
    let same = same_flash q.block p.block q.blocks p.blocks q.page p.page c.plan_op.ensures.block c.plan_op.ensures.blocks c.plan_op.ensures.page in (
      refl,
      c.in-Err.ensures.declined,
      refl,
      refl,
      least_at g.E.Order.order (flash_of q) (flash_of p) (cursor_of q) (cursor_of p) (index_of_log q) (index_of_log p) c.args.op.now c.in-Err.fault c.least_for.result same
          c.in-Err.ensures.stays c.least_for.ensures,
    )

pub returns-in-Ok-put_nodes-clause-flash : goal.returns-in-Ok-put_nodes-clause-flash
returns-in-Ok-put_nodes-clause-flash g c =
    let p = c.args.plan.now in
    let q = c.plan_op.new.plan in
    same_flash q.block p.block q.blocks p.blocks q.page p.page c.plan_op.ensures.block c.plan_op.ensures.blocks c.plan_op.ensures.page

pub returns-in-Ok-put_nodes-clause-ready : goal.returns-in-Ok-put_nodes-clause-ready
returns-in-Ok-put_nodes-clause-ready g c = record { whole = c.in-Ok.ensures.whole; can = c.in-Ok.ensures.can; none = c.in-Ok.ensures.none }

pub returns-in-Ok-put_nodes-clause-tells : goal.returns-in-Ok-put_nodes-clause-tells
returns-in-Ok-put_nodes-clause-tells g c =
    let nodes = c.in-Ok.nodes.items in
    let long : c.len.result ≡ length nodes = search rules in
    let put = c.in-Ok-put_nodes.ensures in (
      nodes,
      c.in-Ok.ensures.planned,
      record { nodes = long; weak = c.count_weak.ensures ∙ ap weak_count c.deref-in-Ok-put_nodes.ensures.value },
      subst (λ (l : List Standing). Appends (g.T.Sink.taken c.args.sink.now) (g.T.Sink.taken c.put_nodes.new.sink) (told_of_op c.args.telling c.args.line l)) c.deref.ensures.value put.0,
      put.1,
    )

pub returns-clause-flash : goal.returns-clause-flash
returns-clause-flash g c =
    let p = c.args.plan.now in
    let q = c.plan_op.new.plan in
    same_flash q.block p.block q.blocks p.blocks q.page p.page c.plan_op.ensures.block c.plan_op.ensures.blocks c.plan_op.ensures.page

pub returns-clause-tells : goal.returns-clause-tells
returns-clause-tells g c =
    let put = c.in-Err-put_nodes.ensures in (
      c.in-Ok.nodes.items,
      c.in-Ok.ensures.planned,
      subst (λ (l : List Standing). PutsPart (g.T.Sink.taken c.args.sink.now) (g.T.Sink.taken c.put_nodes.new.sink) (told_of_op c.args.telling c.args.line l)) c.deref.ensures.value put.0,
      put.1,
    )
