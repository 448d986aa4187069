use Rattle.std.proofs.Common.{refl, sym}
use Rattle.jhistory.proofs.NewestLemmas.{newest_found}
use Rattle.jhistory.proofs.newest.newest_for.Goals as goal

pub returns : goal.returns
returns c = λ ns has.
    newest_found ns c.args.newest.now (c.args.entry.now.pino, c.in_ok-name_of.field-0) c.args.entry.now c.known.result refl c.in_ok-name_of.ensures has (sym c.known.ensures)
