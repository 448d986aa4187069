use Rattle.jrow.proofs.AddressLemmas.{row_starts, row_address_holds}
use Rattle.jrow.proofs.laws.row_has_addresses.Goals as goal

pub returns-clause-start : goal.returns-clause-start
returns-clause-start c = row_starts

pub returns-clause-address : goal.returns-clause-address
returns-clause-address c = row_address_holds
