-- Dumps of which each page has spare bytes behind it.
use Rattle.std.specs.Prelude.{ℕ, List, Option, Result, Ok, Err}
use Rattle.jspare.specs.Showing.{IsSpareShown}
use Rattle.jspare.specs.declared.layout.PageLayout.{PageLayout}
use Rattle.jedge.specs.declared.fault.Fault.{Fault}
use Rattle.jedge.specs.declared.fault.Fault.TheVariants as fault

-- the layout of a dump that is told; or there is no memory to look for it
abbrev pub FindsSpare : List ℕ → Result (Option PageLayout) Fault → Type 0
FindsSpare dump (Ok found) = IsSpareShown dump found
FindsSpare dump (Err (fault.File file)) = ⊥
FindsSpare dump (Err (fault.NotRead file)) = ⊥
FindsSpare dump (Err (fault.NoNodes of others)) = ⊥
FindsSpare dump (Err (fault.NoSpace folder)) = ⊥
FindsSpare dump (Err (fault.Findings of findings)) = ⊥
FindsSpare dump (Err (fault.Refused why)) = ⊥
FindsSpare dump (Err fault.Output) = ⊥
FindsSpare dump (Err fault.OutOfMemory) = Unit {0}
