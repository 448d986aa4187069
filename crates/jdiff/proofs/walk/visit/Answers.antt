use Rattle.std.proofs.Common.{map}
use Rattle.jdiff.proofs.SpotLemmas.{found_is_there, spot_visited, spot_memory, spot_output}
use Rattle.jdiff.proofs.walk.visit.Goals as goal

pub returns-in_err-left-clause-puts : goal.returns-in_err-left-clause-puts
returns-in_err-left-clause-puts g c =
    let trees = c.args.trees.now in
    let old = g.T.Sink.taken c.args.sink.now in
    let before = g.T.Sink.failures c.args.sink.now in
    spot_memory trees.how trees.left.now.state trees.right.now.state c.args.met_left.now c.args.met_right.now c.look.new.met c.args.met_right.now
    (map (λ name. name.now) c.args.spot.0.now) c.args.spot.1 c.args.spot.2 old before c.from_residual.result c.in_err-left.field-0.0 c.from_residual.ensures.1 c.in_err-left.ensures.fault

pub returns-in_err-right-clause-puts : goal.returns-in_err-right-clause-puts
returns-in_err-right-clause-puts g c =
    let trees = c.args.trees.now in
    let old = g.T.Sink.taken c.args.sink.now in
    let before = g.T.Sink.failures c.args.sink.now in
    spot_memory trees.how trees.left.now.state trees.right.now.state c.args.met_left.now c.args.met_right.now c.look.new.met c.look-2.new.met
    (map (λ name. name.now) c.args.spot.0.now) c.args.spot.1 c.args.spot.2 old before c.from_residual-in_err-right.result c.in_err-right.field-0.0 c.from_residual-in_err-right.ensures.1 c.in_err-right.ensures.fault

pub returns-in_err-place-clause-puts : goal.returns-in_err-place-clause-puts
returns-in_err-place-clause-puts g c =
    let trees = c.args.trees.now in
    let old = g.T.Sink.taken c.args.sink.now in
    let before = g.T.Sink.failures c.args.sink.now in
    spot_memory trees.how trees.left.now.state trees.right.now.state c.args.met_left.now c.args.met_right.now c.look.new.met c.look-2.new.met
    (map (λ name. name.now) c.args.spot.0.now) c.args.spot.1 c.args.spot.2 old before c.from_residual-in_err-place.result c.in_err-place.field-0.0 c.from_residual-in_err-place.ensures.1 c.in_err-place.ensures.fault

pub returns-in_err-lines-clause-puts : goal.returns-in_err-lines-clause-puts
returns-in_err-lines-clause-puts g c =
    let trees = c.args.trees.now in
    let put = c.in_err-lines.ensures.puts in
    spot_output trees.how trees.left.now.state trees.right.now.state c.args.met_left.now c.args.met_right.now c.look.new.met c.look-2.new.met
    (map (λ name. name.now) c.args.spot.0.now) c.args.spot.1 c.args.spot.2 c.in_ok-left.left c.in_ok-right.right
    (g.T.Sink.taken c.args.sink.now) (g.T.Sink.taken c.put_changes.new.sink) (g.T.Sink.failures c.args.sink.now) (g.T.Sink.failures c.put_changes.new.sink)
    c.from_residual-in_err-lines.result c.in_ok-left.ensures.found c.in_ok-right.ensures.found c.from_residual-in_err-lines.ensures.1 put.0 put.1

pub returns-clause-puts : goal.returns-clause-puts
returns-clause-puts g c =
    let trees = c.args.trees.now in
    let put = c.in_ok-lines.ensures.puts in
    spot_visited trees.how trees.left.now.state trees.right.now.state c.args.met_left.now c.args.met_right.now c.look.new.met c.look-2.new.met
    (map (λ name. name.now) c.args.spot.0.now) c.args.spot.1 c.args.spot.2 c.in_ok-left.left c.in_ok-right.right
    (record { lines = c.in_ok-lines.lines; left = c.directory_of.result; right = c.directory_of-2.result })
    (g.T.Sink.taken c.args.sink.now) (g.T.Sink.taken c.put_changes.new.sink) (g.T.Sink.failures c.args.sink.now) (g.T.Sink.failures c.put_changes.new.sink)
    c.in_ok-left.ensures.found c.in_ok-right.ensures.found c.in_ok-left.ensures.met c.in_ok-right.ensures.met c.in_ok-lines.ensures.count c.directory_of.ensures c.directory_of-2.ensures put.0 put.1

pub place_of-requires : goal.place_of-requires
place_of-requires g c =
    let trees = c.args.trees.now in
    record {
      left = found_is_there trees.left.now.state _ c.args.spot.1 c.in_ok-left.left c.in_ok-left.ensures.found;
      right = found_is_there trees.right.now.state _ c.args.spot.2 c.in_ok-right.right c.in_ok-right.ensures.found;
      known = c.requires;
    }

pub put_changes-requires : goal.put_changes-requires
put_changes-requires g c =
    let trees = c.args.trees.now in
    record {
      left = found_is_there trees.left.now.state _ c.args.spot.1 c.in_ok-left.left c.in_ok-left.ensures.found;
      right = found_is_there trees.right.now.state _ c.args.spot.2 c.in_ok-right.right c.in_ok-right.ensures.found;
      place = c.in_ok-place.ensures.place;
    }
