use Rattle.std.proofs.Common.{◌≡◌, ◌++◌, length, drop}
use Rattle.std.specs.Vec.{vec_len}
use Rattle.jspare.specs.Spare.{first_pages}
use Rattle.jspare.proofs.dropping.drop_spare.Given as goal

abbrev pub invariant-loop-i : goal.invariant-loop-i
invariant-loop-i l = record {
  long : vec_len l.dump ≡ vec_len l.fn.dump;
  kept : l.kept ≡ length (first_pages l.fn.layout l.fn.dump.items l.i);
  items : l.dump.items ≡ first_pages l.fn.layout l.fn.dump.items l.i ++ drop l.kept l.fn.dump.items;
}
