use Rattle.std.proofs.Common.{◌≡◌}
use Rattle.std.specs.Prelude.{map}
use Rattle.std.specs.List.{All}
use Rattle.jpast.specs.Pasts.{IsPastOf}
use Rattle.jpast.proofs.finding.pasts_of.Given as goal

abbrev pub invariant-loop-ino : goal.invariant-loop-ino
invariant-loop-ino l = record {
  order : map (λ past. past.ino) l.pasts.items ≡ map (λ n. n.now) l.yielded;
  each : All (IsPastOf l.nodes l.mounted.state) l.pasts.items;
}
