use Rattle.std.proofs.Common.{◌∙◌, Ok, ap, refl, sym}
use Rattle.std.specs.Prelude.{Result}
use Rattle.jcommand.specs.Status.{outcome_of}
use Rattle.jcommand.specs.declared.outcome.Outcome.{Outcome}
use Rattle.jedge.specs.Acts.{seen_as}
use Rattle.jedge.specs.Commands.{ends}
use Rattle.jedge.specs.Told.{either}
use Rattle.jedge.specs.declared.fault.Fault.{Fault}
use Rattle.jmakes.specs.Seen.{told_seen}
use Rattle.jmakes.specs.declared.written.Written.{Written}
use Rattle.jedge.proofs.Steps.{does_at, mapped}
use Rattle.jmakes.proofs.reporting.report_written.Goals as goal

pub returns-in-Ok : goal.returns-in-Ok
returns-in-Ok g c = does_at (λ (answer : Result Written Fault). ends (seen_as told_seen answer))
    (sym c.in-Ok.is) (mapped (λ events said. record {
      text = (told_seen c.in-Ok.written).noted;
      tells = refl;
      said = said;
      is = ap (λ (o : Outcome). Ok o) (c.of.ensures ∙ ap outcome_of (c.either.ensures
          ∙ ap (either c.in-Ok.written.weak.weak) c.attributes_lost.ensures));
    }) c.say_written.ensures)

pub returns-in-Err : goal.returns-in-Err
returns-in-Err g c = does_at (λ (answer : Result Written Fault). ends (seen_as told_seen answer))
    (sym c.in-Err.is) (mapped (λ events done. record {
      text = done.text;
      tells = done.tells;
      said = done.said;
      is = done.is;
    }) c.report.ensures)
