use Rattle.std.proofs.Common.{◌≡◌, ◌++◌, length}
use Rattle.std.specs.Vec.Iter.{into_iter_items, into_iter_len}
use Rattle.jffs2_image.proofs.collected.Given as goal

abbrev pub invariant-loop-arg : goal.invariant-loop-arg
invariant-loop-arg l =
    (l.all.items ++ into_iter_items l.arg-iterator ≡ into_iter_items l.fn.args)
    × (into_iter_len l.arg-iterator ≡ length (into_iter_items l.arg-iterator))
