-- What a call puts of a file that it reads as a stream.
use Rattle.std.specs.Prelude.{ℕ, List, Option, Result, Ok}
use Rattle.flashbase.specs.Sinks.{SinkChange}
use Rattle.jnode.specs.declared.order.Endian.{Endian}
use Rattle.jedge.specs.Acts.{DoesFrom, PutsBy}
use Rattle.jedge.specs.Calls.{Event}
use Rattle.jedge.specs.Told.{Told}
use Rattle.jedge.specs.declared.fault.Fault.{Fault}
use Rattle.jreads.specs.Scanning.{Progress, ReportsScan, reads_stream}

-- the file of a name is read, and the report of what was read is put
pub record PutsScan (e : Endian) (size : ℕ) (name : List ℕ) (old new : Option (List Event))
    (sink : SinkChange) (result : Result Told Fault) : Type 0 where
  pub progress : Progress
  pub reads : DoesFrom old new (reads_stream name) (Ok progress)
  pub puts : PutsBy (ReportsScan e size progress) sink result
