use Rattle.std.proofs.Common.{◌≡◌, ◌++◌, reverse, vec_len}
use Rattle.jfolder.proofs.reading.Walk.put_off.Given as goal

abbrev pub invariant-loop-path : goal.invariant-loop-path
invariant-loop-path l = record {
  items : l.self.items.items ≡ l.fn.self.items.items;
  pending : l.self.pending.items ++ reverse l.paths.items ≡ l.fn.self.pending.items ++ reverse l.fn.paths.items;
  left_out : l.self.left_out ≡ l.fn.self.left_out;
  firsts : l.self.firsts ≡ l.fn.self.firsts;
}

abbrev pub decreases-loop-path : goal.decreases-loop-path
decreases-loop-path l = vec_len l.paths
