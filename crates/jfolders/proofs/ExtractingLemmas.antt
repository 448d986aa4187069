-- The part of a tree that is extracted.
use Rattle.std.proofs.Common.{◌≡◌, ℕ, List, Option, None, Some, Ok, Err, refl, sym, subst, inl, inr}
use Rattle.std.specs.Prelude.{IsSome}
use Rattle.jmount.specs.Find.{find}
use Rattle.jmount.specs.Tree.{State}
use Rattle.jmount.specs.declared.fault.FindFault.{FindFault}
use Rattle.jextract.specs.Parts.{IsPartAsked, IsPartAt}
use Rattle.jreport.specs.declared.faults.ProgramFault.TheVariants as program
use Rattle.jedge.specs.declared.fault.Fault.TheVariants as fault
use Rattle.jfolders.specs.Extracting.{HasPart}

pub part_whole : (s : State) (path : Option (List ℕ)) → path ≡ None → HasPart s path (Ok s)
part_whole s path is = subst (λ (p : Option (List ℕ)). IsPartAsked s p s) (sym is) refl

pub part_found : (s part : State) (path : Option (List ℕ)) (given : List ℕ) → path ≡ Some given → IsPartAt s given part → HasPart s path (Ok part)
part_found s part path given is at = subst (λ (p : Option (List ℕ)). IsPartAsked s p part) (sym is) at

pub part_missing : (s : State) (path : Option (List ℕ)) (given : List ℕ) (why : FindFault) → path ≡ Some given → find s given ≡ Err why → HasPart s path (Err (fault.Refused (program.Path why)))
part_missing s path given why is none = inl (given, why, is, refl, none)

pub part_unheld : (s : State) (path : Option (List ℕ)) (given : List ℕ) → path ≡ Some given → HasPart s path (Err fault.OutOfMemory)
part_unheld s path given is = inr (subst (λ (p : Option (List ℕ)). IsSome p) (sym is) refl, refl)
