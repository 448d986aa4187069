use Rattle.std.proofs.Common.{◌<◌, ℕ}
use Rattle.std.specs.Prelude.{Contains}
use Rattle.jnode.specs.declared.node.NodeRef.{NodeRef}
use Rattle.jclash.specs.Parting.{AreByAddress}
use Rattle.files_tests.proofs.clash.rows.placed.Given as goal

abbrev pub invariant-loop-addr : goal.invariant-loop-addr
invariant-loop-addr g l = record {
  order : AreByAddress l.nodes.items;
  below : (m : ℕ × NodeRef) → Contains l.nodes.items m → m.0 < l.least;
}
