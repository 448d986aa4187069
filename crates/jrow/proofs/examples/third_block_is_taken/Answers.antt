use Rattle.std.proofs.Common.{arith, ◌++◌, refl}
use Rattle.jnode.specs.Vectors.{little_marker, entry_a}
use Rattle.jnode.specs.declared.order.Endian.TheVariants.{Little}
use Rattle.jrow.proofs.ExampleLemmas.{third_taken}
use Rattle.jrow.proofs.examples.third_block_is_taken.Goals as goal

pub returns : goal.returns
returns c = third_taken Little 8192 16384 (little_marker ++ entry_a) refl (omega arith) (omega arith) (omega arith)
