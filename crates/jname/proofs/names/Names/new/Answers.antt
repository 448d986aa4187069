use Rattle.jname.proofs.EntriesLemmas.{entries_of-none}
use Rattle.jname.proofs.names.Names.new.Goals as goal

pub returns : goal.returns
returns c = entries_of-none c.new.result c.new.ensures.empty
