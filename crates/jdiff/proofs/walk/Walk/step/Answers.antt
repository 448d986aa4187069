use Rattle.std.proofs.Common.{List, [], ◌∷◌, ◌++◌, refl, ap, ◌∙◌, Ok, Err}
use Rattle.jdiff.specs.Names.{SharedName}
use Rattle.jdiff.specs.Walking.{way_of_pair}
use Rattle.jdiff.specs.declared.walk.Walk.{Walk}
use Rattle.jreport.specs.declared.faults.ProgramFault.TheVariants.{OutOfMemory}
use Rattle.jdiff.proofs.StepLemmas.{pair_goes_up, enters_pair, none_put, spot_put, spot_failed, pair_step_failed, pair_way_on, spot_at}
use Rattle.jdiff.proofs.walk.Walk.step.Goals as goal

pub returns-in_default-clause-puts : goal.returns-in_default-clause-puts
returns-in_default-clause-puts g c =
    let trees = c.args.trees.now in
    pair_goes_up trees.how trees.left.now.state trees.right.now.state c.args.self.now c.go_up.new.self c.next.new.self c.go_up.result
    (g.T.Sink.taken c.args.sink.now) (g.T.Sink.failures c.args.sink.now) c.in_default.ensures c.go_up.ensures.up

pub returns-in_err-push-clause-puts : goal.returns-in_err-push-clause-puts
returns-in_err-push-clause-puts g c =
    let trees = c.args.trees.now in
    let s = trees.left.now.state in
    let t = trees.right.now.state in
    let w = c.args.self.now in
    let n : Walk = record w { path = c.push.new.self; left = c.next.new.self } in
    let old = g.T.Sink.taken c.args.sink.now in
    let before = g.T.Sink.failures c.args.sink.now in
    pair_step_failed trees.how s t w n old old before before c.from_residual.result OutOfMemory c.from_residual.ensures.1 (none_put trees.how s t w n old before)

pub returns-in_err-seen-clause-puts : goal.returns-in_err-seen-clause-puts
returns-in_err-seen-clause-puts g c =
    let trees = c.args.trees.now in
    let s = trees.left.now.state in
    let t = trees.right.now.state in
    let w = c.args.self.now in
    let n : Walk = record w { path = c.push.new.self; left = c.next.new.self; met_left = c.visit.new.met_left; met_right = c.visit.new.met_right; compared = c.visit.new.compared } in
    let old = g.T.Sink.taken c.args.sink.now in
    let new = g.T.Sink.taken c.visit.new.sink in
    let before = g.T.Sink.failures c.args.sink.now in
    let now = g.T.Sink.failures c.visit.new.sink in
    let way = pair_way_on w c.in-Some.name c.deref.result.now c.push.new.self.items c.deref.ensures.value c.in_ok-push.ensures.items in
    let fault = c.in_err-seen.field-0.0 in
    let put = spot_at trees.how s t w.met_left w.met_right c.visit.new.met_left c.visit.new.met_right _ (way_of_pair w ++ c.in-Some.name.now ∷ []) c.in-Some.left c.in-Some.right old new before now
    (Err fault) way c.in_err-seen.ensures.puts in
    pair_step_failed trees.how s t w n old new before now c.from_residual-in_err-seen.result fault c.from_residual-in_err-seen.ensures.1
    (spot_failed trees.how s t w n c.in-Some.name.now c.in-Some.left c.in-Some.right c.next.new.self c.visit.new.met_left c.visit.new.met_right fault old new before now c.in-Some.ensures put)

pub returns-in_err-push-2-clause-puts : goal.returns-in_err-push-2-clause-puts
returns-in_err-push-2-clause-puts g c =
    let trees = c.args.trees.now in
    let s = trees.left.now.state in
    let t = trees.right.now.state in
    let w = c.args.self.now in
    let n : Walk = record w { path = c.push.new.self; left = c.replace.new.dest; above = c.push-2.new.self; met_left = c.visit.new.met_left; met_right = c.visit.new.met_right; compared = c.visit.new.compared } in
    let old = g.T.Sink.taken c.args.sink.now in
    let new = g.T.Sink.taken c.visit.new.sink in
    let before = g.T.Sink.failures c.args.sink.now in
    let now = g.T.Sink.failures c.visit.new.sink in
    let way = pair_way_on w c.in-Some.name c.deref.result.now c.push.new.self.items c.deref.ensures.value c.in_ok-push.ensures.items in
    let put = spot_at trees.how s t w.met_left w.met_right c.visit.new.met_left c.visit.new.met_right _ (way_of_pair w ++ c.in-Some.name.now ∷ []) c.in-Some.left c.in-Some.right old new before now
    (Ok c.in_ok-seen.seen) way c.in_ok-seen.ensures.puts in
    pair_step_failed trees.how s t w n old new before now c.from_residual-in_err-push-2.result OutOfMemory c.from_residual-in_err-push-2.ensures.1
    (spot_put trees.how s t w n c.in-Some.name.now c.in-Some.left c.in-Some.right c.next.new.self c.visit.new.met_left c.visit.new.met_right c.in_ok-seen.seen old new before now c.in-Some.ensures put)

pub returns-clause-puts : goal.returns-clause-puts
returns-clause-puts g c =
    let trees = c.args.trees.now in
    let s = trees.left.now.state in
    let t = trees.right.now.state in
    let w = c.args.self.now in
    let n : Walk = record w { path = c.push.new.self; left = c.replace.new.dest; above = c.push-2.new.self; met_left = c.visit.new.met_left; met_right = c.visit.new.met_right; compared = c.visit.new.compared } in
    let old = g.T.Sink.taken c.args.sink.now in
    let new = g.T.Sink.taken c.visit.new.sink in
    let before = g.T.Sink.failures c.args.sink.now in
    let now = g.T.Sink.failures c.visit.new.sink in
    let way = pair_way_on w c.in-Some.name c.deref.result.now c.push.new.self.items c.deref.ensures.value c.in_ok-push.ensures.items in
    let put = spot_at trees.how s t w.met_left w.met_right c.visit.new.met_left c.visit.new.met_right _ (way_of_pair w ++ c.in-Some.name.now ∷ []) c.in-Some.left c.in-Some.right old new before now
    (Ok c.in_ok-seen.seen) way c.in_ok-seen.ensures.puts in
    enters_pair trees.how s t w n c.in-Some.name.now c.in-Some.left c.in-Some.right c.next.new.self c.in_ok-seen.seen old new before now c.in-Some.ensures
    (c.replace.ensures.after ∙ c.new-below.ensures)
    (c.in_ok-push-2.ensures.items ∙ ap (λ (l : List SharedName). w.above.items ++ l ∷ []) c.replace.ensures.value)
    (pair_way_on w c.in-Some.name c.push.new.self.items c.push.new.self.items refl c.in_ok-push.ensures.items)
    put
