use Rattle.std.proofs.Common.{refl}
use Rattle.clap.proofs.OnLiterals.{clap_on_literals}
use Rattle.jcommand.specs.Parsed.{parsed}
use Rattle.jcommand.specs.Requests.{request_from}
use Rattle.jcommand.specs.Commands.{program}
use Rattle.jcommand.proofs.laws.known_autos.Goals as goal

pub returns-clause-tree : goal.returns-clause-tree
unfolding clap_on_literals program parsed request_from
returns-clause-tree c = refl

pub returns-clause-scanned : goal.returns-clause-scanned
unfolding clap_on_literals program parsed request_from
returns-clause-scanned c = refl

pub returns-clause-compared : goal.returns-clause-compared
unfolding clap_on_literals program parsed request_from
returns-clause-compared c = refl

pub returns-clause-cut : goal.returns-clause-cut
unfolding clap_on_literals program parsed request_from
returns-clause-cut c = refl

pub returns-clause-given : goal.returns-clause-given
unfolding clap_on_literals program parsed request_from
returns-clause-given c = refl

pub returns-clause-size : goal.returns-clause-size
unfolding clap_on_literals program parsed request_from
returns-clause-size c = refl

pub returns-clause-letter : goal.returns-clause-letter
unfolding clap_on_literals program parsed request_from
returns-clause-letter c = refl

pub returns-clause-order : goal.returns-clause-order
unfolding clap_on_literals program parsed request_from
returns-clause-order c = refl

pub returns-clause-decompressed : goal.returns-clause-decompressed
unfolding clap_on_literals program parsed request_from
returns-clause-decompressed c = refl

pub returns-clause-cut_alone : goal.returns-clause-cut_alone
unfolding clap_on_literals program parsed request_from
returns-clause-cut_alone c = refl

pub returns-clause-not_of_build : goal.returns-clause-not_of_build
unfolding clap_on_literals program parsed request_from
returns-clause-not_of_build c = refl

pub returns-clause-read_once : goal.returns-clause-read_once
unfolding clap_on_literals program parsed request_from
returns-clause-read_once c = refl
