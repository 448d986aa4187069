use Rattle.std.proofs.Common.{◌≡◌, ◌-◌, ◌^◌, min, take}
use Rattle.jcalls.specs.Many.{count_of_all}
use Rattle.jcalls.proofs.many.count_of_all.Given as goal

abbrev pub invariant-loop-request : goal.invariant-loop-request
invariant-loop-request l =
    l.count ≡ min (count_of_all l.mounted.state (take l.request-index l.requests)) (2 ^ 64 - 1)
