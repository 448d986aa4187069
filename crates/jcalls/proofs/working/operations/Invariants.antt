use Rattle.std.proofs.Common.{◌≡◌, ◌++◌}
use Rattle.std.specs.Vec.Iter.{into_iter_items}
use Rattle.jbuild.specs.Operations.{ops_in}
use Rattle.jcalls.specs.Files.{bytes_named}
use Rattle.jcalls.proofs.working.operations.Given as goal

abbrev pub invariant-loop-line : goal.invariant-loop-line
invariant-loop-line g l =
    l.ops.items ++ ops_in g.E.Order.order (bytes_named l.named.files.bytes.now l.named.files.rows.now) (into_iter_items l.line-iterator)
    ≡ ops_in g.E.Order.order (bytes_named l.named.files.bytes.now l.named.files.rows.now) l.fn.lines.items
