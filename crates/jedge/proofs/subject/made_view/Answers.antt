use Rattle.std.proofs.Common.{Some, ap, refl}
use Rattle.jreport.specs.declared.findings.Found.{Found}
use Rattle.jedge.proofs.subject.made_view.Goals as goal

pub found_in-requires : goal.found_in-requires
found_in-requires g c = c.in-Ok.ensures.scannable

pub returns-in-Ok : goal.returns-in-Ok
returns-in-Ok g c =
    ((c.in-Ok.ensures.ok, ap (λ (f : Found). Some f) c.found_in.ensures), c.requires)

pub returns-in-Err : goal.returns-in-Err
returns-in-Err g c = (refl, (c.in-Err.fault, c.conversion_refusal.ensures, c.in-Err.ensures.err))
