use Rattle.std.proofs.Common.{◌∙◌, Bool, ap, map, refl, subst, Ok, Err}
use Rattle.jreport.specs.TreeText.{Item}
use Rattle.jreport.specs.Walking.{PutsVisit, PutsStep}
use Rattle.jreport.specs.declared.tree_walk.Walk.{Walk}
use Rattle.jreport.proofs.WalkLemmas.{first_entered, first_needs, first_alone, first_failed, steps_on, needs_on, comes_nearer, all_steps, stopped, tree_failed, visit_at}
use Rattle.jreport.proofs.RememberingLemmas.{needs_first}
use Rattle.jreport.proofs.tree_walk.lines_from.Goals as goal
use Rattle.jreport.proofs.SinkLemmas.{sink_change}

pub returns-in_err-visit : goal.returns-in_err-visit
returns-in_err-visit g c =
    let fault = c.in_err-visit.field-0.0 in
    tree_failed c.args.mounted.now.state (map (λ n. n.now) c.args.path.items, c.args.ino) (g.T.Sink.taken c.args.sink.now) (g.T.Sink.taken c.visit.new.sink) (g.T.Sink.failures c.args.sink.now) (g.T.Sink.failures c.visit.new.sink)
    c.from_residual.result fault c.from_residual.ensures.1
    (first_failed (Unit {0}) c.args.mounted.now.state (map (λ n. n.now) c.args.path.items, c.args.ino) c.new-met.result c.visit.new.met fault (g.T.Sink.taken c.args.sink.now) (g.T.Sink.taken c.visit.new.sink)
    (g.T.Sink.failures c.args.sink.now) (g.T.Sink.failures c.visit.new.sink) c.new-met.ensures.0
    (visit_at c.args.mounted.now.state c.new-met.result c.visit.new.met _ (map (λ n. n.now) c.args.path.items) c.args.ino _ _ _ _ (Err fault)
    (ap (map (λ n. n.now)) c.deref.ensures.value) c.in_err-visit.ensures))

pub returns-then-not-branch : goal.returns-then-not-branch
returns-then-not-branch g c =
    let s = c.args.mounted.now.state in
    let old = g.T.Sink.taken c.args.sink.now in
    let new = g.T.Sink.taken c.visit.new.sink in
    let before = g.T.Sink.failures c.args.sink.now in
    let now = g.T.Sink.failures c.visit.new.sink in
    first_alone s (map (λ n. n.now) c.args.path.items, c.args.ino) c.new-met.result c.visit.new.met old new before now (tt {0}) c.new-met.ensures.0
    (subst (λ (b : Bool). PutsVisit s c.new-met.result c.visit.new.met (map (λ n. n.now) c.args.path.items, c.args.ino) (sink_change old new before now) (Ok b)) c.if-not-branch.true
    (visit_at s c.new-met.result c.visit.new.met _ (map (λ n. n.now) c.args.path.items) c.args.ino _ _ _ _ (Ok c.in_ok-visit.field-0)
    (ap (map (λ n. n.now)) c.deref.ensures.value) c.in_ok-visit.ensures))

pub loop-walk-init : goal.loop-walk-init
loop-walk-init g c =
    let s = c.args.mounted.now.state in
    let old = g.T.Sink.taken c.args.sink.now in
    let new = g.T.Sink.taken c.visit.new.sink in
    let before = g.T.Sink.failures c.args.sink.now in
    let now = g.T.Sink.failures c.visit.new.sink in
    let w : Walk = record { path = c.args.path; left = c.entries.result; above = c.new.result; met = c.visit.new.met } in
    let put = subst (λ (b : Bool). PutsVisit s c.new-met.result c.visit.new.met (map (λ n. n.now) c.args.path.items, c.args.ino) (sink_change old new before now) (Ok b)) c.if-not-branch.false
    (visit_at s c.new-met.result c.visit.new.met _ (map (λ n. n.now) c.args.path.items) c.args.ino _ _ _ _ (Ok c.in_ok-visit.field-0)
    (ap (map (λ n. n.now)) c.deref.ensures.value) c.in_ok-visit.ensures) in
    let needs = needs_first s c.new-met.result (map (λ n. n.now) c.args.path.items, c.args.ino) c.new-met.ensures c.requires in
    record {
      needs = first_needs s (map (λ n. n.now) c.args.path.items, c.args.ino) w c.new-met.result old new before now needs refl c.entries.ensures c.new.ensures.items put;
      so_far = first_entered s (map (λ n. n.now) c.args.path.items, c.args.ino) w c.new-met.result old new before now c.new-met.ensures.0 needs refl c.entries.ensures c.new.ensures.items put;
      failed = put.3;
    }

pub returns-in_err-step : goal.returns-in_err-step
returns-in_err-step g c =
    let fault = c.in_err-step.field-0.0 in
    let far = c.loop-walk.invariant in
    tree_failed c.args.mounted.now.state (map (λ n. n.now) c.args.path.items, c.args.ino) (g.T.Sink.taken c.args.sink.now) (g.T.Sink.taken c.step.new.sink) (g.T.Sink.failures c.args.sink.now) (g.T.Sink.failures c.step.new.sink)
    c.from_residual-in_err-step.result fault c.from_residual-in_err-step.ensures.1
    (stopped (Unit {0}) c.args.mounted.now.state (map (λ n. n.now) c.args.path.items, c.args.ino) c.loop-walk.walk c.step.new.self fault (g.T.Sink.taken c.args.sink.now) (g.T.Sink.taken c.loop-walk.sink) (g.T.Sink.taken c.step.new.sink)
    (g.T.Sink.failures c.args.sink.now) (g.T.Sink.failures c.loop-walk.sink) (g.T.Sink.failures c.step.new.sink) far.so_far far.failed c.in_err-step.ensures)

pub loop-walk-preserved : goal.loop-walk-preserved
loop-walk-preserved g c =
    let s = c.args.mounted.now.state in
    let w = c.loop-walk.walk in
    let n = c.step.new.self in
    let a = g.T.Sink.taken c.args.sink.now in
    let b = g.T.Sink.taken c.loop-walk.sink in
    let d = g.T.Sink.taken c.step.new.sink in
    let before = g.T.Sink.failures c.loop-walk.sink in
    let now = g.T.Sink.failures c.step.new.sink in
    let far = c.loop-walk.invariant in
    let put = subst (λ (on : Bool). PutsStep s w n (sink_change b d before now) (Ok on)) c.if-branch.true c.in_ok-step.ensures in
    record {
      needs = needs_on s w n b d before now far.needs put;
      so_far = steps_on s (map (λ n. n.now) c.args.path.items, c.args.ino) w n a b d before now far.needs far.so_far put;
      failed = put.1 ∙ far.failed;
    }

pub loop-walk-smaller : goal.loop-walk-smaller
loop-walk-smaller g c =
    let s = c.args.mounted.now.state in
    let w = c.loop-walk.walk in
    let n = c.step.new.self in
    let b = g.T.Sink.taken c.loop-walk.sink in
    let d = g.T.Sink.taken c.step.new.sink in
    let before = g.T.Sink.failures c.loop-walk.sink in
    let now = g.T.Sink.failures c.step.new.sink in
    let put = subst (λ (on : Bool). PutsStep s w n (sink_change b d before now) (Ok on)) c.if-branch.true c.in_ok-step.ensures in
    comes_nearer s w n b d before now c.loop-walk.invariant.needs put

pub returns : goal.returns
returns g c =
    let s = c.args.mounted.now.state in
    let w = c.loop-walk.walk in
    let n = c.step.new.self in
    let a = g.T.Sink.taken c.args.sink.now in
    let b = g.T.Sink.taken c.loop-walk.sink in
    let d = g.T.Sink.taken c.step.new.sink in
    let before = g.T.Sink.failures c.loop-walk.sink in
    let now = g.T.Sink.failures c.step.new.sink in
    let far = c.loop-walk.invariant in
    let put = subst (λ (on : Bool). PutsStep s w n (sink_change b d before now) (Ok on)) c.if-branch.false c.in_ok-step.ensures in
    all_steps s (map (λ n. n.now) c.args.path.items, c.args.ino) w n a b d (g.T.Sink.failures c.args.sink.now) before now (tt {0}) far.so_far far.failed put
