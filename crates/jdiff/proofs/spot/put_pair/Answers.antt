use Rattle.std.proofs.Common.{ℕ, ◌+◌, map, arith}
use Rattle.jdiff.specs.Changes.{object_changes, number_changes, number_of_device}
use Rattle.jdiff.specs.Walking.{entry_found}
use Rattle.flashbase.specs.declared.source.DeviceFault.{DeviceFault}
use Rattle.jdiff.proofs.LineLemmas.{first_lines_failed, more_lines_failed, all_lines_put, objects_few, numbers_few}
use Rattle.jdiff.proofs.spot.put_pair.Goals as goal

pub returns-in_err-count-clause-puts : goal.returns-in_err-count-clause-puts
returns-in_err-count-clause-puts g c =
    let trees = c.args.trees.now in
    let way = map (λ name. name.now) c.args.path.now in
    let objects = object_changes trees.how.times (entry_found trees.left.now.state way c.args.left.now) (entry_found trees.right.now.state way c.args.right.now) in
    let numbers = number_changes way (number_of_device trees.how.order c.args.left.now.object) (number_of_device trees.how.order c.args.right.now.object) in
    let put = c.in_err-count.ensures.puts in
    first_lines_failed _ _ _ _ objects numbers _ c.from_residual.ensures.0 put.0 put.1

pub returns-in_err-more-clause-puts : goal.returns-in_err-more-clause-puts
returns-in_err-more-clause-puts g c =
    let trees = c.args.trees.now in
    let way = map (λ name. name.now) c.args.path.now in
    let objects = object_changes trees.how.times (entry_found trees.left.now.state way c.args.left.now) (entry_found trees.right.now.state way c.args.right.now) in
    let numbers = number_changes way (number_of_device trees.how.order c.args.left.now.object) (number_of_device trees.how.order c.args.right.now.object) in
    let put = c.in_ok-count.ensures.puts in
    let next = c.in_err-more.ensures.puts in
    more_lines_failed _ (g.T.Sink.taken c.put_objects.new.sink) _ _ _ _ objects numbers _ c.from_residual-in_err-more.ensures.0 put.0 put.1 next.0 next.1

pub overflow_add-result : goal.overflow_add-result
overflow_add-result g c =
    let trees = c.args.trees.now in
    let way = map (λ name. name.now) c.args.path.now in
    let first = objects_few trees.how.times (entry_found trees.left.now.state way c.args.left.now) (entry_found trees.right.now.state way c.args.right.now) in
    let more = numbers_few way (number_of_device trees.how.order c.args.left.now.object) (number_of_device trees.how.order c.args.right.now.object) in
    omega (arith, c.in_ok-count.ensures.count, first, c.in_ok-more.ensures.count, more)

pub returns-clause-puts : goal.returns-clause-puts
returns-clause-puts g c =
    let trees = c.args.trees.now in
    let way = map (λ name. name.now) c.args.path.now in
    let objects = object_changes trees.how.times (entry_found trees.left.now.state way c.args.left.now) (entry_found trees.right.now.state way c.args.right.now) in
    let numbers = number_changes way (number_of_device trees.how.order c.args.left.now.object) (number_of_device trees.how.order c.args.right.now.object) in
    let put = c.in_ok-count.ensures.puts in
    let next = c.in_ok-more.ensures.puts in
    all_lines_put {T = ℕ} DeviceFault _ (g.T.Sink.taken c.put_objects.new.sink) _ _ _ _ objects numbers (c.in_ok-count.count + c.in_ok-more.more) put.0 put.1 next.0 next.1
