use Rattle.std.proofs.Common.{ℕ, [], ◌++◌, map}
use Rattle.jdiff.specs.Changes.{removed_line, added_line}
use Rattle.jdiff.specs.Walking.{entry_found}
use Rattle.flashbase.specs.declared.source.DeviceFault.{DeviceFault}
use Rattle.jdiff.proofs.LineLemmas.{second_failed, two_put}
use Rattle.flashbase.proofs.DeviceLemmas.{first_failed}
use Rattle.jdiff.proofs.spot.put_both.Goals as goal

pub returns-in_err-put_entry-clause-puts : goal.returns-in_err-put_entry-clause-puts
returns-in_err-put_entry-clause-puts g c =
    let trees = c.args.trees.now in
    let way = map (λ name. name.now) c.args.path.now in
    let removed = removed_line trees.how.times (entry_found trees.left.now.state way c.args.left.now) in
    let added = added_line trees.how.times (entry_found trees.right.now.state way c.args.right.now) in
    let put = c.in_err-put_entry.ensures in
    first_failed _ _ _ _ removed (added ++ []) _ c.from_residual.ensures.0 put.0 put.1

pub returns-in_err-put_entry-2-clause-puts : goal.returns-in_err-put_entry-2-clause-puts
returns-in_err-put_entry-2-clause-puts g c =
    let trees = c.args.trees.now in
    let way = map (λ name. name.now) c.args.path.now in
    let removed = removed_line trees.how.times (entry_found trees.left.now.state way c.args.left.now) in
    let added = added_line trees.how.times (entry_found trees.right.now.state way c.args.right.now) in
    let put = c.in_ok-put_entry.ensures in
    let next = c.in_err-put_entry-2.ensures in
    second_failed _ (g.T.Sink.taken c.put_entry.new.sink) _ _ _ _ removed added _ c.from_residual-in_err-put_entry-2.ensures.0 put.0 put.1 next.0 next.1

pub returns-clause-puts : goal.returns-clause-puts
returns-clause-puts g c =
    let trees = c.args.trees.now in
    let way = map (λ name. name.now) c.args.path.now in
    let removed = removed_line trees.how.times (entry_found trees.left.now.state way c.args.left.now) in
    let added = added_line trees.how.times (entry_found trees.right.now.state way c.args.right.now) in
    let put = c.in_ok-put_entry.ensures in
    let next = c.in_ok-put_entry-2.ensures in
    two_put {T = ℕ} DeviceFault _ (g.T.Sink.taken c.put_entry.new.sink) _ _ _ _ removed added 2 put.0 put.1 next.0 next.1
