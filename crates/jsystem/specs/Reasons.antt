-- Why a file of the system failed last.
use Rattle.jreport.specs.declared.reason.Reason.{Reason}
use Rattle.jsystem.specs.declared.output.BufferedOutput.{BufferedOutput}
use Rattle.jsystem.specs.declared.source.FileSource.{FileSource}

-- one that is read
abbrev pub source_reason : {R : Type 0} → FileSource R → Reason
source_reason source = source.reason

-- one that is written
abbrev pub sink_reason : {W : Type 0} → BufferedOutput W → Reason
sink_reason output = output.reason
