use Rattle.std.proofs.Common.{rules, ◌≡◌, ◌-◌, length, Some}
use Rattle.std.specs.Prelude.{slice_get}
use Rattle.jdamage.proofs.SweepLemmas.{all_lower}
use Rattle.jdamage.proofs.coverage.next_version.Goals as goal

pub returns-then-last-version-clause-below : goal.returns-then-last-version-clause-below
returns-then-last-version-clause-below c =
    let is : slice_get c.args.left.now.items (length c.args.left.now.items - 1) ≡ Some c.in_ok-last.field-0.now = search rules in
    all_lower c.args.version c.args.left.now.items c.in_ok-last.field-0.now c.requires is c.if-last-version.true
