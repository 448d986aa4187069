use Rattle.std.proofs.Common.{◌∙◌, ℕ, List, Ok, ap, ap₂, length, refl, sym}
use Rattle.std.specs.Prelude.{Result}
use Rattle.jclash.specs.declared.parting.LeftOut.{LeftOut}
use Rattle.jcommand.specs.Status.{outcome_of}
use Rattle.jcommand.specs.declared.outcome.Outcome.{Outcome}
use Rattle.jedge.specs.Acts.{says, seen_as}
use Rattle.jedge.specs.Commands.{ends}
use Rattle.jedge.specs.Told.{either}
use Rattle.jedge.specs.declared.fault.Fault.{Fault}
use Rattle.jedge.proofs.Steps.{does_at, mapped}
use Rattle.jremakes.specs.Leaving.{apart_told, left_out_noted}
use Rattle.jremakes.specs.declared.apart.ApartDone.{ApartDone}
use Rattle.jremakes.proofs.leaving.report_apart.Goals as goal

pub returns-in-Ok : goal.returns-in-Ok
returns-in-Ok g c =
    let done = c.in-Ok.done in
    let left = c.as_slice-left.ensures.value in
    does_at (λ (answer : Result ApartDone Fault). ends (seen_as apart_told answer)) (sym c.in-Ok.is)
    (mapped (λ events said. record {
      text = left_out_noted done.left.items done.found;
      tells = refl;
      said = said;
      is = ap (λ (o : Outcome). Ok o) (c.of.ensures ∙ ap outcome_of (c.either.ensures
          ∙ ap₂ (λ (k n : ℕ). either k n) (ap length left) c.count.ensures));
    }) (does_at (λ (l : List LeftOut). says (left_out_noted l done.found)) left c.say_apart.ensures))

pub returns-in-Err : goal.returns-in-Err
returns-in-Err g c = does_at (λ (answer : Result ApartDone Fault). ends (seen_as apart_told answer))
    (sym c.in-Err.is) c.report.ensures
