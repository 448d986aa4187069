use Rattle.jscan.proofs.RefusalLaws.{refusal_is_first, none_refuses}
use Rattle.jscan.proofs.laws.refusal_is_first.Goals as goal

pub returns-clause-first : goal.returns-clause-first
returns-clause-first c = refusal_is_first

pub returns-clause-none : goal.returns-clause-none
returns-clause-none c = none_refuses
