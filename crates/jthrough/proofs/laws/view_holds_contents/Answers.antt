use Rattle.jthrough.proofs.AddressedLemmas.{view_holds_contents}
use Rattle.jthrough.proofs.laws.view_holds_contents.Goals as goal

pub returns : goal.returns
returns c = view_holds_contents
