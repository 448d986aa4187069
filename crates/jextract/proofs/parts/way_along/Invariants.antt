use Rattle.std.proofs.Common.{◌≡◌, ◌==◌, ◌++◌, Some, length, drop}
use Rattle.std.specs.List.{slice_split}
use Rattle.jextract.specs.Parts.{keys_of, way_from}
use Rattle.jextract.proofs.parts.way_along.Given as goal

abbrev pub invariant-loop-name : goal.invariant-loop-name
invariant-loop-name l =
    let names = slice_split (λ b. b == 47) l.names in
    keys_of l.way.items ++ way_from l.mounted.state l.here (drop (length l.yielded) names) ≡ way_from l.mounted.state (Some 1) names
