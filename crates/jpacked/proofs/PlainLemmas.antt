-- Nodes of which none is packed, and forms by whether they are.
use Rattle.std.proofs.Common.{◌≡◌, ℕ, ◌+◌, ◌≤◌, Bool, true, false, List, [], ◌∷◌, ◌++◌, length, refl, sym, ap, ap₂, subst, ◌∙◌, arith}
use Rattle.std.specs.Prelude.{map}
use Rattle.std.specs.List.{AllByRecursion}
use Rattle.std.proofs.lemmas.List.{map-append}
use Rattle.jnode.specs.Writing.{canonical}
use Rattle.jnode.specs.declared.node.NodeRef.{NodeRef}
use Rattle.jnode.specs.declared.order.Endian.{Endian}
use Rattle.jscan.specs.Pages.{IsPage}
use Rattle.jsteps.specs.Nodes.{Indexed, nodes_of}
use Rattle.jsteps.specs.declared.step.Step.{Step}
use Rattle.jview.specs.Through.{greatest_contents}
use Rattle.jlog.specs.Running.{CanWriteAll}
use Rattle.jlog.specs.SessionAs.{AreFormsBy, content_len}
use Rattle.jlog.proofs.DoneThroughLemmas.{forms_on}
use Rattle.jlog.proofs.PackedLemmas.{own_contents}
use Rattle.jpacked.specs.Forms.{IsMadeOf, AreMadeOf, AreNoneUnless, ArePacked, form_with, forms_with, step_forms}
use Rattle.jpacked.proofs.MadeLemmas.{loggable_all, made_forms, many_nodes}

-- packed data of which there are none
abbrev pub are_none : List (List ℕ) → Type 0
are_none streams = AllByRecursion (λ stream. stream ≡ []) streams

-- ---- forms

own_with : (e : Endian) (n : NodeRef) (stream : List ℕ) → stream ≡ [] → form_with e n stream ≡ canonical e n
own_with e n stream none = ap (form_with e n) none

pub own_forms_with : (e : Endian) (nodes : List NodeRef) (streams : List (List ℕ)) → AreMadeOf e nodes streams → are_none streams → forms_with e nodes streams ≡ map (canonical e) nodes
own_forms_with e [] [] made none = refl
own_forms_with e [] (stream ∷ streams) made none = absurd made
own_forms_with e (n ∷ nodes) [] made none = absurd made
own_forms_with e (n ∷ nodes) (stream ∷ streams) made none =
    ap₂ (λ (f : List ℕ) (fs : List (List ℕ)). f ∷ fs) (own_with e n stream none.0) (own_forms_with e nodes streams made.1 none.1)

-- what was chosen makes forms, and where none are packed the nodes' own
pub forms_by : (packs : Bool) (e : Endian) (nodes : List NodeRef) (streams : List (List ℕ)) → AreMadeOf e nodes streams → AreNoneUnless packs streams
    → AreFormsBy packs e nodes (forms_with e nodes streams)
forms_by true e nodes streams made plain = made_forms e nodes streams made
forms_by false e nodes streams made plain = own_forms_with e nodes streams made plain

pub none_by : (packs : Bool) (e : Endian) → AreFormsBy packs e [] []
none_by true e = tt
none_by false e = refl

pub more_by : (packs : Bool) (e : Endian) (ns ms : List NodeRef) (forms more : List (List ℕ)) → AreFormsBy packs e ns forms → AreFormsBy packs e ms more → AreFormsBy packs e (ns ++ ms) (forms ++ more)
more_by true e ns ms forms more are those = forms_on e ns ms forms more are those
more_by false e ns ms forms more are those = ap₂ (λ (l k : List (List ℕ)). l ++ k) are those ∙ sym (map-append (canonical e) ns ms)

-- ---- none are chosen

none_made : (e : Endian) (nodes : List NodeRef) (streams : List (List ℕ)) → length streams ≡ length nodes → are_none streams → AreMadeOf e nodes streams
none_made e [] [] long none = tt
none_made e [] (stream ∷ streams) long none = absurd (omega (arith, long))
none_made e (n ∷ nodes) [] long none = absurd (omega (arith, long))
none_made e (n ∷ nodes) (stream ∷ streams) long none = (made_none e n stream none.0, none_made e nodes streams (omega (arith, long)) none.1)
  where
    made_none : (e : Endian) (n : NodeRef) (stream : List ℕ) → stream ≡ [] → IsMadeOf e n stream
    made_none e n stream is = subst (IsMadeOf e n) (sym is) tt

-- They make the nodes' own forms, and no content is held with them.
pub none_are_packed : (page : ℕ) (e : Endian) (x : Indexed) (steps : List Step) (held : ℕ) (streams : List (List ℕ)) → IsPage page → CanWriteAll page e x steps → length streams ≡ length steps → are_none streams
    → held ≤ greatest_contents → ArePacked e x steps held streams held
none_are_packed page e x steps held streams is_page can long none within =
    let nodes : List NodeRef = nodes_of x steps in
    let made : AreMadeOf e nodes streams = none_made e nodes streams (omega (arith, long, many_nodes x steps)) none in
    let own : step_forms e x steps streams ≡ map (canonical e) nodes = own_forms_with e nodes streams made none in
    let empty : content_len e (map (canonical e) nodes) ≡ 0 = ap length (own_contents e (page + 80) nodes (loggable_all page e (page + 80) x steps is_page (omega arith) can)) in
    record { made = made; now_is = omega (arith, ap (content_len e) own, empty); within = within }

pub none_pushed : (streams : List (List ℕ)) (t : List ℕ) → are_none streams → t ≡ [] → are_none (streams ++ t ∷ [])
none_pushed [] t none is = (is, tt)
none_pushed (stream ∷ streams) t none is = (none.0, none_pushed streams t none.1 is)
