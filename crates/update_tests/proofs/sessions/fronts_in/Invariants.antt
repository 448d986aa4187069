use Rattle.std.proofs.Common.{◌≡◌, ◌++◌, ◌==◌, drop}
use Rattle.std.specs.Prelude.{filter}
use Rattle.jrests.specs.declared.opening.Opening.{Opening}
use Rattle.update_tests.proofs.sessions.fronts_in.Given as goal

abbrev pub invariant-loop-opening : goal.invariant-loop-opening
invariant-loop-opening l =
    l.fronts.items ++ filter (λ (o : Opening). o.place == 0) (drop l.opening-index l.openings)
    ≡ filter (λ (o : Opening). o.place == 0) l.openings
