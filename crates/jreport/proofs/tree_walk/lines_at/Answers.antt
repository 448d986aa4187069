use Rattle.std.proofs.Common.{ℕ, List, Bor, Option, sym, subst}
use Rattle.std.specs.Prelude.{option_map}
use Rattle.jreport.specs.TreeText.{PutsTreeAt}
use Rattle.jreport.proofs.tree_walk.lines_at.Goals as goal
use Rattle.flashbase.specs.Sinks.{change_of}

pub returns-in-Some : goal.returns-in-Some
returns-in-Some g c =
    subst (λ (path : Option (Bor (List ℕ))). PutsTreeAt c.args.mounted.now.state (option_map (λ p. p.now) path) (change_of g.T.Sink c.args.sink.now c.put_subtree.new.sink) c.put_subtree.result) (sym c.in-Some.is) c.put_subtree.ensures

pub returns-in-None : goal.returns-in-None
returns-in-None g c =
    subst (λ (path : Option (Bor (List ℕ))). PutsTreeAt c.args.mounted.now.state (option_map (λ p. p.now) path) (change_of g.T.Sink c.args.sink.now c.tree_lines.new.sink) c.tree_lines.result) (sym c.in-None.is) c.tree_lines.ensures
