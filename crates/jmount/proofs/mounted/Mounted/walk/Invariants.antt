use Rattle.std.proofs.Common.{◌≡◌, ◌==◌, Ok, length, drop}
use Rattle.std.specs.List.{slice_split}
use Rattle.jmount.specs.Find.{walk}
use Rattle.jmount.proofs.mounted.Mounted.walk.Given as goal

abbrev pub invariant-loop-name : goal.invariant-loop-name
invariant-loop-name l =
    let names = slice_split (λ b. b == 47) l.names in
    walk l.self.state names (Ok 1) ≡ walk l.self.state (drop (length l.yielded) names) (Ok l.here)
