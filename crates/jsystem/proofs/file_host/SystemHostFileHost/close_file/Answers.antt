use Rattle.jsystem.proofs.MakingLemmas.{closes_by}
use Rattle.jsystem.proofs.file_host.SystemHostFileHost.close_file.Goals as goal

pub returns : goal.returns
returns c = λ text told. closes_by _ c.args.filling c.args.well _ text c.finish-written.result c.end.result c.finish-written.ensures.sound c.end.ensures
