use Rattle.std.proofs.Common.{refl}
use Rattle.clap.proofs.OnLiterals.{clap_on_literals}
use Rattle.jcommand.specs.Parsed.{parsed}
use Rattle.jcommand.specs.Requests.{request_from}
use Rattle.jcommand.specs.Commands.{program}
use Rattle.jcommand.proofs.laws.known_json.Goals as goal

pub returns-clause-parameters : goal.returns-clause-parameters
unfolding clap_on_literals program parsed request_from
returns-clause-parameters c = refl

pub returns-clause-drawn : goal.returns-clause-drawn
unfolding clap_on_literals program parsed request_from
returns-clause-drawn c = refl

pub returns-clause-not_of_cat : goal.returns-clause-not_of_cat
unfolding clap_on_literals program parsed request_from
returns-clause-not_of_cat c = refl
