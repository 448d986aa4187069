use Rattle.std.proofs.Common.{ℕ, Bool, true, List, [], ◌∷◌, ◌++◌, refl, sym, ap, ◌∙◌, take, ◌-◌, subst, Ok, Err}
use Rattle.jreport.specs.Walking.{PutsVisit, PutsStep, way_of}
use Rattle.jreport.specs.declared.tree_walk.Walk.{Walk}
use Rattle.jreport.specs.declared.faults.ProgramFault.TheVariants.{OutOfMemory}
use Rattle.jreport.proofs.WalkLemmas.{goes_up, stays, enters, nothing_put, line_put, line_failed, step_failed, visit_at, way_back, way_on}
use Rattle.jreport.proofs.tree_walk.Walk.step.Goals as goal
use Rattle.jreport.proofs.tree_walk.Walk.step.Goals.{then-branch+in_ok-push-2, else-branch}
use Rattle.jreport.proofs.SinkLemmas.{sink_change}

pub returns-in_default : goal.returns-in_default
returns-in_default g c =
    goes_up c.args.mounted.now.state c.args.self.now c.go_up.new.self c.next.new.self c.go_up.result (g.T.Sink.taken c.args.sink.now) (g.T.Sink.failures c.args.sink.now)
    c.in_default.ensures.steps.0 c.go_up.ensures

pub returns-in_err-push : goal.returns-in_err-push
returns-in_err-push g c =
    let s = c.args.mounted.now.state in
    let w = c.args.self.now in
    let n : Walk = record { path = c.push.new.self; left = c.next.new.self; above = c.args.self.now.above; met = c.args.self.now.met } in
    let old = g.T.Sink.taken c.args.sink.now in
    let before = g.T.Sink.failures c.args.sink.now in
    step_failed s w n old old before before c.from_residual.result OutOfMemory c.from_residual.ensures.1 (nothing_put s w n old before)

pub returns-in_err-visit : goal.returns-in_err-visit
returns-in_err-visit g c =
    let s = c.args.mounted.now.state in
    let w = c.args.self.now in
    let n : Walk = record { path = c.push.new.self; left = c.next.new.self; above = c.args.self.now.above; met = c.visit.new.met } in
    let old = g.T.Sink.taken c.args.sink.now in
    let new = g.T.Sink.taken c.visit.new.sink in
    let before = g.T.Sink.failures c.args.sink.now in
    let now = g.T.Sink.failures c.visit.new.sink in
    let way = way_on w c.in-Some.name c.deref.result.now c.push.new.self.items c.deref.ensures.value c.in_ok-push.ensures.items in
    let put = visit_at s w.met c.visit.new.met _ (way_of w ++ c.in-Some.name.now ∷ []) c.in-Some.ino old new before now (Err c.in_err-visit.field-0.0) way c.in_err-visit.ensures in
    step_failed s w n old new before now c.from_residual-in_err-visit.result c.in_err-visit.field-0.0 c.from_residual-in_err-visit.ensures.1
    (line_failed s w n c.in-Some.name.now c.in-Some.ino c.next.new.self c.visit.new.met c.in_err-visit.field-0.0 old new before now c.in-Some.ensures.steps put)

pub returns-in_err-push-2 : goal.returns-in_err-push-2
returns-in_err-push-2 g c =
    let s = c.args.mounted.now.state in
    let w = c.args.self.now in
    let n : Walk = record { path = c.push.new.self; left = c.replace.new.dest; above = c.push-then-branch.new.self; met = c.visit.new.met } in
    let old = g.T.Sink.taken c.args.sink.now in
    let new = g.T.Sink.taken c.visit.new.sink in
    let before = g.T.Sink.failures c.args.sink.now in
    let now = g.T.Sink.failures c.visit.new.sink in
    let way = way_on w c.in-Some.name c.deref.result.now c.push.new.self.items c.deref.ensures.value c.in_ok-push.ensures.items in
    let put = visit_at s w.met c.visit.new.met _ (way_of w ++ c.in-Some.name.now ∷ []) c.in-Some.ino old new before now (Ok c.in_ok-visit.field-0) way c.in_ok-visit.ensures in
    step_failed s w n old new before now c.from_residual-in_err-push-2.result OutOfMemory c.from_residual-in_err-push-2.ensures.1
    (line_put s w n c.in-Some.name.now c.in-Some.ino c.next.new.self c.visit.new.met c.in_ok-visit.field-0 old new before now c.in-Some.ensures.steps put)

pub returns : goal.returns
returns g c =
    let s = c.args.mounted.now.state in
    let w = c.args.self.now in
    let old = g.T.Sink.taken c.args.sink.now in
    let new = g.T.Sink.taken c.visit.new.sink in
    let before = g.T.Sink.failures c.args.sink.now in
    let now = g.T.Sink.failures c.visit.new.sink in
    let way = way_on w c.in-Some.name c.deref.result.now c.push.new.self.items c.deref.ensures.value c.in_ok-push.ensures.items in
    let put = visit_at s w.met c.visit.new.met _ (way_of w ++ c.in-Some.name.now ∷ []) c.in-Some.ino old new before now (Ok c.in_ok-visit.field-0) way c.in_ok-visit.ensures in
    elim c.if-branch.branch [
      | then-branch+in_ok-push-2 x ↦
          let n : Walk = record { path = c.push.new.self; left = x.replace.new.dest; above = x.push-then-branch.new.self; met = c.visit.new.met } in
          subst (λ (m : Walk). PutsStep s w m (sink_change old new before now) (Ok true)) (sym x.self-is)
          (enters s w n c.in-Some.name.now c.in-Some.ino c.next.new.self old new before now c.in-Some.ensures.steps
          (x.replace.ensures.after ∙ x.entries.ensures)
          (x.in_ok-push-2.ensures.items ∙ ap (λ (l : List (List ℕ × ℕ)). w.above.items ++ l ∷ []) x.replace.ensures.value)
          (way_on w c.in-Some.name c.push.new.self.items c.push.new.self.items refl c.in_ok-push.ensures.items)
          (subst (λ (b : Bool). PutsVisit s w.met c.visit.new.met (way_of w ++ c.in-Some.name.now ∷ [], c.in-Some.ino) (sink_change old new before now) (Ok b)) x.if-branch.true put))
      | else-branch x ↦
          let n : Walk = record { path = x.pop.new.self; left = c.next.new.self; above = w.above; met = c.visit.new.met } in
          subst (λ (m : Walk). PutsStep s w m (sink_change old new before now) (Ok true)) (sym x.self-is)
          (stays s w n c.in-Some.name.now c.in-Some.ino old new before now c.in-Some.ensures.steps refl
          (way_back w c.in-Some.name c.push.new.self.items x.pop.new.self.items c.in_ok-push.ensures.items
          (x.pop.ensures.rest ∙ ap (λ (k : ℕ). take (k - 1) c.push.new.self.items) c.push.new.self.ok.0))
          (subst (λ (b : Bool). PutsVisit s w.met c.visit.new.met (way_of w ++ c.in-Some.name.now ∷ [], c.in-Some.ino) (sink_change old new before now) (Ok b)) x.if-branch.false put))
    ]
