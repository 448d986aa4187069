use Rattle.std.specs.Prelude.{string_bytes}
use Rattle.jsystem.proofs.ReadingLemmas.{read_failed}
use Rattle.jsystem.proofs.host.SystemHostHost.read.Goals as goal

pub returns-in-Err : goal.returns-in-Err
returns-in-Err c = read_failed (string_bytes c.args.input.name) _ _ c.unread.result c.unread.ensures
