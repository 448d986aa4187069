use Rattle.std.proofs.Common.{refl}
use Rattle.clap.proofs.OnLiterals.{clap_on_literals}
use Rattle.jcommand.specs.Parsed.{parsed}
use Rattle.jcommand.specs.Requests.{request_from}
use Rattle.jcommand.specs.Commands.{program}
use Rattle.jcommand.proofs.laws.known_regions.Goals as goal

pub returns-clause-counted : goal.returns-clause-counted
unfolding clap_on_literals program parsed request_from
returns-clause-counted c = refl

pub returns-clause-found : goal.returns-clause-found
unfolding clap_on_literals program parsed request_from
returns-clause-found c = refl

pub returns-clause-unread : goal.returns-clause-unread
unfolding clap_on_literals program parsed request_from
returns-clause-unread c = refl

pub returns-clause-empty : goal.returns-clause-empty
unfolding clap_on_literals program parsed request_from
returns-clause-empty c = refl

pub returns-clause-cut_alone : goal.returns-clause-cut_alone
unfolding clap_on_literals program parsed request_from
returns-clause-cut_alone c = refl

pub returns-clause-not_of_build : goal.returns-clause-not_of_build
unfolding clap_on_literals program parsed request_from
returns-clause-not_of_build c = refl
