-- The regions of a dump of a whole flash.
use Rattle.std.specs.Prelude.{ℕ, List, Result, Ok, Err}
use Rattle.jregions.specs.Regions.{AreRegions}
use Rattle.jregions.specs.declared.region.Regions.{Regions}
use Rattle.jedge.specs.declared.fault.Fault.{Fault}
use Rattle.jedge.specs.declared.fault.Fault.TheVariants as fault

-- the regions of a file that are told; or there is no memory to look for them
abbrev pub FindsRegions : List ℕ → Result Regions Fault → Type 0
FindsRegions file (Ok found) = AreRegions file found
FindsRegions file (Err (fault.File name)) = ⊥
FindsRegions file (Err (fault.NotRead name)) = ⊥
FindsRegions file (Err (fault.NoNodes of others)) = ⊥
FindsRegions file (Err (fault.NoSpace folder)) = ⊥
FindsRegions file (Err (fault.Findings of findings)) = ⊥
FindsRegions file (Err (fault.Refused why)) = ⊥
FindsRegions file (Err fault.Output) = ⊥
FindsRegions file (Err fault.OutOfMemory) = Unit {0}
