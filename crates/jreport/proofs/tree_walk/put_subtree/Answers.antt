use Rattle.std.proofs.Common.{map, sym, refl}
use Rattle.jreport.proofs.PartPutLemmas.{item_of_names, no_names, part_not_found, part_out_of_memory, part_put}
use Rattle.jreport.proofs.tree_walk.put_subtree.Goals as goal

pub returns-in_err-ino : goal.returns-in_err-ino
returns-in_err-ino g c =
    part_not_found c.args.mounted.now.state c.args.path.now (g.T.Sink.taken c.args.sink.now) (g.T.Sink.failures c.args.sink.now) c.in_err-ino.field-0.0 c.from_residual.result
    c.from_residual.ensures.1 (sym c.in_err-ino.ensures)

pub returns-in_err-names : goal.returns-in_err-names
returns-in_err-names g c =
    part_out_of_memory c.args.mounted.now.state c.args.path.now c.in_ok-ino.ino (g.T.Sink.taken c.args.sink.now) (g.T.Sink.failures c.args.sink.now) c.from_residual-in_err-names.result
    c.from_residual-in_err-names.ensures.1 (sym c.in_ok-ino.ensures)

pub returns-in_default : goal.returns-in_default
returns-in_default g c =
    (no_names c.args.mounted.now.state c.args.path.now c.in_ok-names.field-0 c.in_ok-names.ensures c.in_default.is, refl, refl)

pub returns : goal.returns
returns g c =
    part_put c.args.mounted.now.state c.args.path.now (map (λ n. n.now) c.in-Some.names.items, c.in_ok-ino.ino) (g.T.Sink.taken c.args.sink.now) (g.T.Sink.taken c.lines_from.new.sink)
    (g.T.Sink.failures c.args.sink.now) (g.T.Sink.failures c.lines_from.new.sink) c.lines_from.result
    (item_of_names c.args.mounted.now.state c.args.path.now c.in_ok-names.field-0 c.in-Some.names c.in_ok-ino.ino c.in_ok-names.ensures c.in-Some.is c.in_ok-ino.ensures)
    c.lines_from.ensures
