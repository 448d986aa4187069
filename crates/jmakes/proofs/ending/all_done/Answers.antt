use Rattle.std.proofs.Common.{◌≡◌, Err, refl, rules, subst, sym}
use Rattle.std.specs.Prelude.{Result, string_bytes}
use Rattle.jedge.specs.declared.fault.Fault.TheVariants as fault
use Rattle.jmakes.specs.Writing.{EndsAs, ending_of_all}
use Rattle.jmakes.specs.declared.wanted.CloseFault.{CloseFault}
use Rattle.jmakes.specs.declared.wanted.CloseFault.TheVariants as close
use Rattle.jmakes.proofs.ending.all_done.Goals as goal

pub returns : goal.returns
returns c =
    let reason = c.in-Err-NotNamed.reason in
    let is : c.args.closed ≡ Err (close.NotNamed reason) = search rules in
    subst (λ (closed : Result Unit CloseFault). EndsAs (string_bytes c.args.name)
    (ending_of_all c.args.accepted c.args.places.items closed)
    (Err (fault.File (record { name = c.args.name; reason = reason })))) (sym is)
    (record { name = c.args.name; reason = reason }, refl, refl, refl)
