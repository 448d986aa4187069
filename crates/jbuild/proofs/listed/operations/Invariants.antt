use Rattle.std.proofs.Common.{◌≡◌, ◌++◌}
use Rattle.std.specs.Vec.Iter.{into_iter_items}
use Rattle.jbuild.specs.HostFiles.{part_contents}
use Rattle.jbuild.specs.Operations.{ops_in}
use Rattle.jbuild.proofs.listed.operations.Given as goal

abbrev pub invariant-loop-line : goal.invariant-loop-line
invariant-loop-line g l =
    l.ops.items ++ ops_in g.E.Order.order (part_contents l.parts) (into_iter_items l.line-iterator) ≡ ops_in g.E.Order.order (part_contents l.parts) l.fn.lines.items
