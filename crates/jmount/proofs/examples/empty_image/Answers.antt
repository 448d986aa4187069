use Rattle.std.proofs.Common.{ℕ, List, [], ap, Option, Err, cond, ◌∙◌, codes}
use Rattle.jmount.specs.declared.fault.FindFault.TheVariants as fault
use Rattle.jmount.specs.Tree.{ObjectOf, named, has_bits, directory_bits}
use Rattle.jmount.specs.StateOf.{state_of}
use Rattle.jmount.specs.Find.{step_to}
use Rattle.jmount.proofs.NumbersLemmas.{object-state_of, named-state_of}
use Rattle.jmount.proofs.examples.empty_image.Goals as goal

pub returns-clause-root : goal.returns-clause-root
returns-clause-root c = object-state_of [] 1

pub returns-clause-missing : goal.returns-clause-missing
returns-clause-missing c =
    ap (λ (o : Option (ObjectOf (List ℕ))). cond (has_bits directory_bits o) (step_to (state_of []) (named (state_of []) 1 (codes "q"))) (Err fault.NotDirectory)) (object-state_of [] 1)
    ∙ ap (step_to (state_of [])) (named-state_of [] 1 (codes "q"))
