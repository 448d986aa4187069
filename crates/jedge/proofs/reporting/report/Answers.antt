use Rattle.std.proofs.Common.{Ok, Some, ap, refl, sym}
use Rattle.std.specs.Prelude.{Result, option_map}
use Rattle.jcommand.specs.declared.outcome.Outcome.{Outcome}
use Rattle.jedge.specs.Acts.{seen_as}
use Rattle.jedge.specs.Commands.{ends}
use Rattle.jedge.specs.Told.{found_told, note_text}
use Rattle.jedge.specs.declared.fault.Fault.{Fault}
use Rattle.jedge.specs.declared.found.Found.{Found}
use Rattle.jedge.proofs.Steps.{does_at, mapped}
use Rattle.jedge.proofs.reporting.report.Goals as goal

pub returns-in-Ok : goal.returns-in-Ok
returns-in-Ok g c = does_at (λ (answer : Result Found Fault). ends (seen_as found_told answer))
    (sym c.in-Ok.is) (mapped (λ events said. record {
      text = option_map note_text c.in-Ok.found.note;
      tells = refl;
      said = said;
      is = ap (λ (o : Outcome). Ok o) c.of.ensures;
    }) c.say_noted.ensures)

pub returns-in-Err : goal.returns-in-Err
returns-in-Err g c =
    let said = c.say_fault.ensures in
    does_at (λ (answer : Result Found Fault). ends (seen_as found_told answer)) (sym c.in-Err.is)
    (mapped (λ events done. record {
      text = Some said.0;
      tells = (said.0, refl, said.1);
      said = done;
      is = refl;
    }) said.2)
