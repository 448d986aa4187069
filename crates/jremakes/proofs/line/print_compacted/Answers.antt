use Rattle.std.proofs.Common.{◌∙◌, ap}
use Rattle.jedge.specs.Acts.{seen_as}
use Rattle.jedge.proofs.Steps.{seen_closed}
use Rattle.jremakes.proofs.PuttingLemmas.{put_printed}
use Rattle.jremakes.proofs.line.print_compacted.Goals as goal

pub returns : goal.returns
returns g c = λ answer. put_printed _ c.requires.sound c.requires.empty
    (c.put_compacted-put.ensures answer) c.close-closed.ensures
    (ap (seen_as (λ _. answer)) c.finished.ensures
    ∙ seen_closed (λ _. answer) c.put_compacted-put.result c.close-closed.result)
