-- The line of a mount that was refused.
use Rattle.std.specs.Prelude.{ℕ, List, [], ◌∷◌, ◌++◌, codes}
use Rattle.jreport.specs.Faults.{fault_text_of}
use Rattle.jreport.specs.declared.faults.ProgramFault.{ProgramFault}

-- a mount was refused, for this reason
unfoldable pub refusal_line : ProgramFault → List ℕ
refusal_line why = codes "mount refused " ++ (fault_text_of why ++ 10 ∷ [])
