use Rattle.std.proofs.Common.{◌∙◌, ℕ, subst, Ok, Option}
use Rattle.jdiff.specs.declared.walk.Walk.{Walk}
use Rattle.jdiff.proofs.ReachLemmas.{comes_nearer, differences_failed, needs_below, needs_on, pair_stopped, places_end, places_on, roots_entered, roots_failed, roots_need}
use Rattle.jdiff.proofs.StepLemmas.{PutsPairStepOn}
use Rattle.jdiff.proofs.walk.put_differences.Goals as goal

pub returns-in_err-seen : goal.returns-in_err-seen
returns-in_err-seen g c =
    let fault = c.in_err-seen.field-0.0 in
    differences_failed c.args.how c.args.left.now.state c.args.right.now.state (g.T.Sink.taken c.args.sink.now) (g.T.Sink.taken c.visit.new.sink)
    (g.T.Sink.failures c.args.sink.now) (g.T.Sink.failures c.visit.new.sink) c.from_residual.result fault c.from_residual.ensures.1
    (roots_failed c.args.how c.args.left.now.state c.args.right.now.state c.new-met_left.result c.new-met_right.result c.visit.new.met_left c.visit.new.met_right fault
    (g.T.Sink.taken c.args.sink.now) (g.T.Sink.taken c.visit.new.sink) (g.T.Sink.failures c.args.sink.now) (g.T.Sink.failures c.visit.new.sink)
    c.new-met_left.ensures.0 c.new-met_right.ensures.0 c.in_err-seen.ensures.puts)

pub loop-walk-init : goal.loop-walk-init
loop-walk-init g c =
    let w : Walk = record { path = c.new.result; left = c.new-2.result; above = c.new-3.result; met_left = c.visit.new.met_left; met_right = c.visit.new.met_right; compared = c.visit.new.compared } in
    let needs = roots_need c.args.left.now.state c.args.right.now.state c.new-met_left.result c.new-met_right.result c.new-met_left.ensures c.new-met_right.ensures in
    record {
      needs = needs_below c.args.how c.args.left.now.state c.args.right.now.state w c.new-met_left.result c.new-met_right.result c.in_ok-seen.seen
          (g.T.Sink.taken c.args.sink.now) (g.T.Sink.taken c.visit.new.sink) (g.T.Sink.failures c.args.sink.now) (g.T.Sink.failures c.visit.new.sink)
          needs c.new.ensures.items c.new-2.ensures c.new-3.ensures.items c.in_ok-seen.ensures.puts;
      so_far = roots_entered c.args.how c.args.left.now.state c.args.right.now.state w c.new-met_left.result c.new-met_right.result c.in_ok-seen.seen
          (g.T.Sink.taken c.args.sink.now) (g.T.Sink.taken c.visit.new.sink) (g.T.Sink.failures c.args.sink.now) (g.T.Sink.failures c.visit.new.sink)
          needs c.new-met_left.ensures.0 c.new-met_right.ensures.0 c.new.ensures.items c.new-2.ensures c.new-3.ensures.items c.in_ok-seen.ensures.puts;
      known = c.in_ok-seen.ensures.known;
      failed = c.in_ok-seen.ensures.puts.6;
    }

pub returns-in_err-more : goal.returns-in_err-more
returns-in_err-more g c =
    let fault = c.in_err-more.field-0.0 in
    let far = c.loop-walk.invariant in
    differences_failed c.args.how c.args.left.now.state c.args.right.now.state (g.T.Sink.taken c.args.sink.now) (g.T.Sink.taken c.step.new.sink)
    (g.T.Sink.failures c.args.sink.now) (g.T.Sink.failures c.step.new.sink) c.from_residual-in_err-more.result fault c.from_residual-in_err-more.ensures.1
    (pair_stopped c.args.how c.args.left.now.state c.args.right.now.state c.loop-walk.walk c.step.new.self fault
    (g.T.Sink.taken c.args.sink.now) (g.T.Sink.taken c.loop-walk.sink) (g.T.Sink.taken c.step.new.sink) c.loop-walk.lines
    (g.T.Sink.failures c.args.sink.now) (g.T.Sink.failures c.loop-walk.sink) (g.T.Sink.failures c.step.new.sink) far.so_far far.failed c.in_err-more.ensures.puts)

pub loop-walk-preserved : goal.loop-walk-preserved
loop-walk-preserved g c =
    let s = c.args.left.now.state in
    let t = c.args.right.now.state in
    let w = c.loop-walk.walk in
    let n = c.step.new.self in
    let a = g.T.Sink.taken c.args.sink.now in
    let b = g.T.Sink.taken c.loop-walk.sink in
    let d = g.T.Sink.taken c.step.new.sink in
    let before = g.T.Sink.failures c.loop-walk.sink in
    let now = g.T.Sink.failures c.step.new.sink in
    let far = c.loop-walk.invariant in
    let put = subst (λ (o : Option ℕ). PutsPairStepOn c.args.how s t w n b d before now (Ok o)) c.in-Some.is c.in_ok-more.ensures.puts in
    record {
      needs = needs_on c.args.how s t w n b d before now c.in-Some.more far.needs put;
      so_far = places_on c.args.how s t w n a b d c.loop-walk.lines c.in-Some.more c.saturating_add-lines.result before now far.needs far.so_far put c.saturating_add-lines.ensures;
      known = c.in_ok-more.ensures.known;
      failed = put.1 ∙ far.failed;
    }

pub loop-walk-smaller : goal.loop-walk-smaller
loop-walk-smaller g c =
    let put = subst (λ (o : Option ℕ). PutsPairStepOn c.args.how c.args.left.now.state c.args.right.now.state c.loop-walk.walk c.step.new.self (g.T.Sink.taken c.loop-walk.sink) (g.T.Sink.taken c.step.new.sink)
    (g.T.Sink.failures c.loop-walk.sink) (g.T.Sink.failures c.step.new.sink) (Ok o)) c.in-Some.is c.in_ok-more.ensures.puts in
    comes_nearer c.args.how c.args.left.now.state c.args.right.now.state c.loop-walk.walk c.step.new.self (g.T.Sink.taken c.loop-walk.sink) (g.T.Sink.taken c.step.new.sink)
    (g.T.Sink.failures c.loop-walk.sink) (g.T.Sink.failures c.step.new.sink) c.in-Some.more c.loop-walk.invariant.needs put

pub returns : goal.returns
returns g c =
    let s = c.args.left.now.state in
    let t = c.args.right.now.state in
    let w = c.loop-walk.walk in
    let n = c.step.new.self in
    let a = g.T.Sink.taken c.args.sink.now in
    let b = g.T.Sink.taken c.loop-walk.sink in
    let d = g.T.Sink.taken c.step.new.sink in
    let before = g.T.Sink.failures c.loop-walk.sink in
    let now = g.T.Sink.failures c.step.new.sink in
    let far = c.loop-walk.invariant in
    let put = subst (λ (o : Option ℕ). PutsPairStepOn c.args.how s t w n b d before now (Ok o)) c.in_default.is c.in_ok-more.ensures.puts in
    places_end c.args.how s t w n a b d c.loop-walk.lines (g.T.Sink.failures c.args.sink.now) before now far.so_far far.failed put
