use Rattle.std.proofs.Common.{refl}
use Rattle.clap.proofs.OnLiterals.{clap_on_literals}
use Rattle.jcommand.specs.Parsed.{parsed, parsed_from}
use Rattle.jcommand.specs.Commands.{program}
use Rattle.jcommand.proofs.laws.known_placings.Goals as goal

pub returns-clause-padded : goal.returns-clause-padded
unfolding clap_on_literals program parsed parsed_from
returns-clause-padded c = refl

pub returns-clause-apart : goal.returns-clause-apart
unfolding clap_on_literals program parsed parsed_from
returns-clause-apart c = refl

pub returns-clause-both : goal.returns-clause-both
unfolding clap_on_literals program parsed parsed_from
returns-clause-both c = refl

pub returns-clause-compacted : goal.returns-clause-compacted
unfolding clap_on_literals program parsed parsed_from
returns-clause-compacted c = refl

pub returns-clause-updated : goal.returns-clause-updated
unfolding clap_on_literals program parsed parsed_from
returns-clause-updated c = refl

pub returns-clause-updated_in_place : goal.returns-clause-updated_in_place
unfolding clap_on_literals program parsed parsed_from
returns-clause-updated_in_place c = refl

pub returns-clause-by_letters : goal.returns-clause-by_letters
unfolding clap_on_literals program parsed parsed_from
returns-clause-by_letters c = refl

pub returns-clause-by_name : goal.returns-clause-by_name
unfolding clap_on_literals program parsed parsed_from
returns-clause-by_name c = refl
