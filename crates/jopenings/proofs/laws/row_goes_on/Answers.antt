use Rattle.jopenings.proofs.AfterLemmas.{all_rows_go_on, bytes_are_counted}
use Rattle.jopenings.proofs.laws.row_goes_on.Goals as goal

pub returns-clause-goes_on : goal.returns-clause-goes_on
returns-clause-goes_on c = all_rows_go_on

pub returns-clause-counted : goal.returns-clause-counted
returns-clause-counted c = bytes_are_counted
