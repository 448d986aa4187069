use Rattle.std.proofs.Common.{◌∙◌, Ok, ap, refl, sym}
use Rattle.std.specs.Prelude.{Result}
use Rattle.jcommand.specs.Status.{outcome_of}
use Rattle.jcommand.specs.declared.outcome.Outcome.{Outcome}
use Rattle.jreport.specs.declared.findings.Found.{Found}
use Rattle.jedge.specs.Acts.{seen_as}
use Rattle.jedge.specs.Commands.{ends}
use Rattle.jedge.specs.declared.fault.Fault.{Fault}
use Rattle.jedge.proofs.Steps.{does_at, mapped}
use Rattle.jremakes.specs.Leaving.{remade_noted, remade_told}
use Rattle.jremakes.proofs.leaving.report_remade.Goals as goal

pub returns-in-Ok : goal.returns-in-Ok
returns-in-Ok g c =
    does_at (λ (answer : Result Found Fault). ends (seen_as remade_told answer)) (sym c.in-Ok.is)
    (mapped (λ events said. record {
      text = remade_noted c.in-Ok.found;
      tells = refl;
      said = said;
      is = ap (λ (o : Outcome). Ok o) (c.of.ensures ∙ ap outcome_of c.count.ensures);
    }) c.say_remade.ensures)

pub returns-in-Err : goal.returns-in-Err
returns-in-Err g c = does_at (λ (answer : Result Found Fault). ends (seen_as remade_told answer))
    (sym c.in-Err.is) c.report.ensures
