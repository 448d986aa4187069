use Rattle.std.proofs.Common.{rules, ◌≡◌, ◌∙◌, List, ap, length, refl, subst}
use Rattle.std.specs.Io.KnownBytes.{Appends}
use Rattle.flashbase.specs.Device.{PutsPart}
use Rattle.jcuts.specs.Cuts.{told_of_op}
use Rattle.jcuts.specs.Lines.{weak_count}
use Rattle.jcuts.specs.declared.lines.Telling.TheVariants.{Nodes}
use Rattle.jcuts.specs.declared.standing.Standing.{Standing}
use Rattle.jhalts.proofs.halts.tell_op.Goals as goal

pub plan_op-requires : goal.plan_op-requires
plan_op-requires g c = c.requires

pub returns-in-Err-clause-forming : goal.returns-in-Err-clause-forming
returns-in-Err-clause-forming g c = c.plan_op.ensures.forming

pub returns-in-Err-clause-tells : goal.returns-in-Err-clause-tells
returns-in-Err-clause-tells g c = (refl, c.in-Err.ensures.declined, refl, refl, refl)

pub returns-in-Ok-put_nodes-clause-forming : goal.returns-in-Ok-put_nodes-clause-forming
returns-in-Ok-put_nodes-clause-forming g c = c.plan_op.ensures.forming

pub returns-in-Ok-put_nodes-clause-ready : goal.returns-in-Ok-put_nodes-clause-ready
returns-in-Ok-put_nodes-clause-ready g c = c.in-Ok.ensures.ready

pub returns-in-Ok-put_nodes-clause-tells : goal.returns-in-Ok-put_nodes-clause-tells
returns-in-Ok-put_nodes-clause-tells g c =
    let nodes = c.in-Ok.nodes.items in
    let long : c.len.result ≡ length nodes = search rules in
    let put = c.in-Ok-put_nodes.ensures in (
      nodes,
      c.in-Ok.ensures.planned,
      record { nodes = long; weak = c.count_weak.ensures ∙ ap weak_count c.deref-in-Ok-put_nodes.ensures.value },
      subst (λ (l : List Standing). Appends (g.T.Sink.taken c.args.sink.now) (g.T.Sink.taken c.put_nodes.new.sink) (told_of_op Nodes c.args.line l)) c.deref.ensures.value put.0,
      put.1,
    )

pub returns-clause-forming : goal.returns-clause-forming
returns-clause-forming g c = c.plan_op.ensures.forming

pub returns-clause-tells : goal.returns-clause-tells
returns-clause-tells g c =
    let put = c.in-Err-put_nodes.ensures in (
      c.in-Ok.nodes.items,
      c.in-Ok.ensures.planned,
      subst (λ (l : List Standing). PutsPart (g.T.Sink.taken c.args.sink.now) (g.T.Sink.taken c.put_nodes.new.sink) (told_of_op Nodes c.args.line l)) c.deref.ensures.value put.0,
      put.1,
    )
