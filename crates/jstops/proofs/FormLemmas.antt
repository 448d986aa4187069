-- Forms of nodes, packed or not.
use Rattle.std.proofs.Common.{◌≡◌, ℕ, suc, Bool, true, false, List, [], ◌∷◌, length, refl, sym, ap, subst, ◌∙◌, inl, inr}
use Rattle.std.specs.List.{AllByRecursion}
use Rattle.jnode.specs.Weak.{IsWrittenForm}
use Rattle.jnode.specs.declared.node.NodeRef.{NodeRef}
use Rattle.jnode.specs.declared.order.Endian.{Endian}
use Rattle.jnode.proofs.WritingLemmas.{writable_is_computed}
use Rattle.jsteps.specs.Nodes.{Indexed, node_of, nodes_of, advanced}
use Rattle.jsteps.specs.declared.step.Step.{Step}
use Rattle.jlog.specs.Packed.{AreNodeForms, IsNodeForm}
use Rattle.jlog.specs.Running.{CanWrite, CanWriteAll}
use Rattle.jlog.specs.SessionAs.{AreFormsBy}
use Rattle.jlog.proofs.SessionAsLemmas.{own_forms}
use Rattle.jpacked.proofs.MadeLemmas.{many_nodes}

-- a node's own form is a form
pub as_forms : (packs : Bool) (e : Endian) (ns : List NodeRef) (forms : List (List ℕ)) → AreFormsBy packs e ns forms → AreNodeForms e ns forms
as_forms true e ns forms are = are
as_forms false e ns forms are = subst (AreNodeForms e ns) (sym are) (own_forms e ns)

forms_long : (e : Endian) (ns : List NodeRef) (forms : List (List ℕ)) → AreNodeForms e ns forms → length forms ≡ length ns
forms_long e [] [] are = refl
forms_long e [] (form ∷ forms) are = absurd are
forms_long e (n ∷ ns) [] are = absurd are
forms_long e (n ∷ ns) (form ∷ forms) are = ap suc (forms_long e ns forms are.1)

-- as many as steps
pub as_many : (packs : Bool) (e : Endian) (x : Indexed) (steps : List Step) (forms : List (List ℕ)) → AreFormsBy packs e (nodes_of x steps) forms → length forms ≡ length steps
as_many packs e x steps forms are = forms_long e (nodes_of x steps) forms (as_forms packs e (nodes_of x steps) forms are) ∙ many_nodes x steps

form_written : (page : ℕ) (e : Endian) (x : Indexed) (s : Step) (form : List ℕ) → CanWrite page e x s → IsNodeForm e (node_of x s) form → IsWrittenForm e form
form_written page e x s form can (inl is) = inl (node_of x s, record { form = is; fits = can.node.fits; writable = (writable_is_computed (node_of x s)).0 can.node.writable })
form_written page e x s form can (inr is) = inr (record { node = is.0.0; form = is.0.2; fits = is.0.1.fits; writable = is.0.1.writable })

-- the forms of steps that can be written are those of nodes
pub forms_written : (page : ℕ) (e : Endian) (x : Indexed) (steps : List Step) (forms : List (List ℕ)) → CanWriteAll page e x steps → AreNodeForms e (nodes_of x steps) forms
    → AllByRecursion (IsWrittenForm e) forms
forms_written page e x [] [] can are = tt
forms_written page e x [] (form ∷ forms) can are = absurd are
forms_written page e x (s ∷ steps) [] can are = absurd are
forms_written page e x (s ∷ steps) (form ∷ forms) can are = (form_written page e x s form can.0 are.0, forms_written page e (advanced x s) steps forms can.1 are.1)
