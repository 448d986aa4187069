use Rattle.jextract.proofs.FillLemmas.{none_in, root_known}
use Rattle.jextract.proofs.extracting.firsts_of_root.Goals as goal

pub returns-clause-ok : goal.returns-clause-ok
returns-clause-ok c =
    root_known c.new-firsts.result c.insert.new.self c.new.result (none_in c.new-firsts.result c.new-firsts.ensures.empty) c.new.ensures.bytes c.in_ok-insert.ensures.updates.0
