use Rattle.std.proofs.Common.{◌≡◌, Ok, ap, sym}
use Rattle.std.specs.Prelude.{Result}
use Rattle.jcommand.specs.Status.{outcome_of}
use Rattle.jcommand.specs.declared.outcome.Outcome.{Outcome}
use Rattle.jedge.specs.Acts.{seen_as}
use Rattle.jedge.specs.Commands.{ends}
use Rattle.jedge.specs.declared.fault.Fault.{Fault}
use Rattle.jedge.proofs.Steps.{does_at, mapped}
use Rattle.jmakes.specs.Seen.{told_seen}
use Rattle.jpacks.specs.Seen.{packed_seen}
use Rattle.jpacks.specs.declared.packing.Packed.{Packed}
use Rattle.jpacks.proofs.EndLemmas.{ends_with}
use Rattle.jpacks.proofs.commands.report_packed.Goals as goal

pub returns-in-Ok : goal.returns-in-Ok
returns-in-Ok g c = does_at (λ (answer : Result Packed Fault). ends (seen_as packed_seen answer))
    (sym c.in-Ok.is) (mapped (λ events done. record {
      text = done.text;
      tells = done.tells;
      said = done.said;
      is = let same : c.report_written-outcome.result ≡ outcome_of (told_seen c.in-Ok.packed.written).counted = (let seen = done.is in cc) in
          ap (λ (o : Outcome). Ok o) (ends_with c.in-Ok.packed.left_out (told_seen c.in-Ok.packed.written).counted _ _ same c.outcome_with.ensures);
    }) c.report_written-outcome.ensures)

pub returns-in-Err : goal.returns-in-Err
returns-in-Err g c = does_at (λ (answer : Result Packed Fault). ends (seen_as packed_seen answer))
    (sym c.in-Err.is) (mapped (λ events done. record {
      text = done.text;
      tells = done.tells;
      said = done.said;
      is = done.is;
    }) c.report_written.ensures)
