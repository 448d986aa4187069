use Rattle.jopenings.proofs.DoneLemmas.{done_goes_on, done_survives, openings_begin}
use Rattle.jopenings.proofs.laws.log_goes_on_in_openings.Goals as goal

pub returns-clause-begins : goal.returns-clause-begins
returns-clause-begins c = openings_begin

pub returns-clause-survives : goal.returns-clause-survives
returns-clause-survives c = done_survives

pub returns-clause-goes_on : goal.returns-clause-goes_on
returns-clause-goes_on c = done_goes_on
