-- How many objects were counted.
use Rattle.std.specs.Prelude.{◌+◌, ◌-◌, ◌^◌, ℕ, min}
use Rattle.jhost.specs.declared.progress.Progress.{Progress}

abbrev pub counted_objects : {R : Type 0} → Progress R → ℕ
counted_objects progress = progress.count

-- one more, up to the greatest u64
abbrev pub one_more : ℕ → ℕ
one_more count = min (count + 1) (2 ^ 64 - 1)
