use Rattle.std.specs.Io.Buffered.{writer_buffer, writer_inner}
use Rattle.jsystem.proofs.OutputLemmas.{behind_buffer}
use Rattle.jsystem.proofs.output.BufferedOutput.empty.Goals as goal

pub returns-in-Ok-clause-part : goal.returns-in-Ok-clause-part
returns-in-Ok-clause-part g c = behind_buffer (g.W.Write.contents (writer_inner c.flush.new.self)) (writer_buffer c.flush.new.self)

pub returns-in-Err-clause-part : goal.returns-in-Err-clause-part
returns-in-Err-clause-part g c = behind_buffer (g.W.Write.contents (writer_inner c.flush.new.self)) (writer_buffer c.flush.new.self)
