use Rattle.jnode.proofs.HeaderLemmas.{header_is_twelve_bytes}
use Rattle.jnode.proofs.laws.header_is_twelve_bytes.Goals as goal

pub returns : goal.returns
returns c = header_is_twelve_bytes
