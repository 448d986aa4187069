use Rattle.std.proofs.Common.{◌∙◌, List, ap}
use Rattle.jlog.specs.declared.report.Place.{Place}
use Rattle.jbuild.specs.Accepted.{accepted_line}
use Rattle.jmakes.specs.Writing.{prints_accepted}
use Rattle.std.specs.Prelude.{Result}
use Rattle.jedge.specs.Acts.{and_closed, seen_as}
use Rattle.jedge.specs.Told.{Told}
use Rattle.jedge.specs.declared.fault.Fault.{Fault}
use Rattle.jmakes.specs.Seen.{told_seen}
use Rattle.jedge.proofs.Steps.{does_at, seen_closed}
use Rattle.jmakes.proofs.LineLemmas.{line_put}
use Rattle.jmakes.proofs.MakingSteps.{put_printed}
use Rattle.jmakes.proofs.written.print_accepted.Goals as goal

pub returns : goal.returns
returns g c =
    let told = told_seen c.args.written in
    does_at (λ (places : List Place). prints_accepted c.args.from told (record { accepted = c.args.done.accepted; places = places }))
    c.deref.ensures.value
    (put_printed _ c.requires.sound c.requires.empty
    (line_put (accepted_line c.args.from c.args.done.accepted c.deref.result.now) told _ c.put_accepted-put.result c.put_accepted-put.ensures)
    c.close-closed.ensures
    (ap (seen_as told_seen) c.finished.ensures
    ∙ seen_closed told_seen c.line_answer.result c.close-closed.result
    ∙ ap (λ (r : Result Told Fault). and_closed r c.close-closed.result) c.line_answer.ensures))
