use Rattle.jthrough.proofs.AddressedLemmas.{addressed_are_expanded, addressed_are_by_address, addressed_are_mountable}
use Rattle.jthrough.proofs.laws.addressed_are_expanded.Goals as goal

pub returns-clause-expanded : goal.returns-clause-expanded
returns-clause-expanded c = addressed_are_expanded

pub returns-clause-ordered : goal.returns-clause-ordered
returns-clause-ordered c = addressed_are_by_address

pub returns-clause-mountable : goal.returns-clause-mountable
returns-clause-mountable c = addressed_are_mountable
