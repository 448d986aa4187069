use Rattle.std.proofs.Common.{◌≡◌, ◌≤◌, ◌-◌, Some, take}
use Rattle.std.specs.Io.KnownBytes.{Appends}
use Rattle.jmount.specs.Shown.{bytes_if}
use Rattle.jmount.specs.Stored.{stored_object}
use Rattle.jmount.proofs.read.put_stored.Given as goal

abbrev pub invariant-loop-offset : goal.invariant-loop-offset
invariant-loop-offset g l = record {
  within : l.offset ≤ l.size;
  put : Appends (g.T.Sink.taken l.fn.sink) (g.T.Sink.taken l.sink) (take l.offset (bytes_if (Some (stored_object l.stored))));
  failed : g.T.Sink.failures l.sink ≡ g.T.Sink.failures l.fn.sink;
}

abbrev pub decreases-loop-offset : goal.decreases-loop-offset
decreases-loop-offset g l = l.size - l.offset
