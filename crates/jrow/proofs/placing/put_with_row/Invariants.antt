use Rattle.std.proofs.Common.{◌≡◌, ◌-◌, ◌*◌, take}
use Rattle.std.specs.Prelude.{flat_map}
use Rattle.std.specs.Io.KnownBytes.{Appends}
use Rattle.flashbase.specs.Lists.{below}
use Rattle.jrow.specs.RowLeft.{block_with}
use Rattle.jrow.proofs.placing.put_with_row.Given as goal

abbrev pub invariant-loop-block : goal.invariant-loop-block
invariant-loop-block g l = record {
  appended : Appends (g.S.Sink.taken l.initial.sink) (g.S.Sink.taken l.sink)
      (take l.len (flat_map (block_with l.flash.geometry.block l.image l.flash.row.now l.written) (below l.block)));
  none_failed : g.S.Sink.failures l.sink ≡ g.S.Sink.failures l.initial.sink;
  left : l.left ≡ l.len - l.block * l.flash.geometry.block;
}
