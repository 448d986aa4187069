use Rattle.std.proofs.Common.{Ok}
use Rattle.std.specs.Prelude.{option_map}
use Rattle.jreport.proofs.WholeImageLemmas.{tree_done, tree_failed, tree_put, mount_failed}
use Rattle.jreport.proofs.whole_image.image_tree.Goals as goal

pub returns-in_err-tree : goal.returns-in_err-tree
returns-in_err-tree g c =
    mount_failed g.E.Order.order c.args.geometry.block c.args.image.now c.in_err-tree.field-0.0 _ _ _ _ c.from_residual.ensures.1 c.in_err-tree.ensures.told

pub returns-in_err-lines_at : goal.returns-in_err-lines_at
returns-in_err-lines_at g c =
    tree_failed (Unit {0}) g.E.Order.order c.args.geometry.block (option_map (λ p. p.now) c.args.path) c.args.image.now c.in_ok-tree.tree
    (g.T.Sink.taken c.args.sink.now) (g.T.Sink.taken c.lines_at.new.sink) (g.T.Sink.failures c.args.sink.now) (g.T.Sink.failures c.lines_at.new.sink)
    c.in_err-lines_at.field-0.0 _ c.from_residual-in_err-lines_at.ensures.1 c.in_ok-tree.ensures.mounts c.in_err-lines_at.ensures

pub returns : goal.returns
returns g c =
    tree_put g.E.Order.order c.args.geometry.block (option_map (λ p. p.now) c.args.path) c.args.image.now c.in_ok-tree.tree
    (g.T.Sink.taken c.args.sink.now) (g.T.Sink.taken c.lines_at.new.sink) (g.T.Sink.failures c.args.sink.now) (g.T.Sink.failures c.lines_at.new.sink)
    (Ok c.noted.result) c.in_ok-tree.ensures.mounts
    (tree_done (Unit {0}) c.in_ok-tree.tree.state (option_map (λ p. p.now) c.args.path) (g.T.Sink.taken c.args.sink.now) (g.T.Sink.taken c.lines_at.new.sink) (g.T.Sink.failures c.args.sink.now) (g.T.Sink.failures c.lines_at.new.sink)
    c.in_ok-lines_at.field-0 c.noted.result c.in_ok-lines_at.ensures) c.noted.ensures
