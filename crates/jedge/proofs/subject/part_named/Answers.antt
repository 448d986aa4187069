use Rattle.std.proofs.Common.{ap}
use Rattle.std.specs.Prelude.{option_map}
use Rattle.jedge.proofs.ViewLemmas.{part_found, part_refused, part_whole}
use Rattle.jedge.proofs.subject.part_named.Goals as goal

pub returns-in-Ok : goal.returns-in-Ok
returns-in-Ok c = part_found _ c.in-Some.word.now _ (ap (option_map (λ w. w.now)) c.in-Some.is) c.in-Ok.ensures

pub returns-in-Err : goal.returns-in-Err
returns-in-Err c = part_refused _ c.in-Some.word.now _ (ap (option_map (λ w. w.now)) c.in-Some.is) c.in-Err.ensures

pub returns-in-None : goal.returns-in-None
returns-in-None c = part_whole _ (ap (option_map (λ w. w.now)) c.in-None.is)
