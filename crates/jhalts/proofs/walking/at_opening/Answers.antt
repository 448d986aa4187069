use Rattle.std.proofs.Common.{◌≡◌, Some, length, refl}
use Rattle.std.proofs.lemmas.Option.{slice_get_read}
use Rattle.jhalts.proofs.WalkLemmas.{begin_at}
use Rattle.jhalts.proofs.walking.at_opening.Goals as goal

pub returns-in-Some-clause-row : goal.returns-in-Some-clause-row
returns-in-Some-clause-row c =
    let a = c.args in
    let s = c.in-Some.stretch.now in
    begin_at a.stretches.now a.passed s (slice_get_read a.stretches.now (length a.stretches.now) a.passed s refl c.in-Some.ensures.lookup.3.0 c.in-Some.ensures.lookup.1)
