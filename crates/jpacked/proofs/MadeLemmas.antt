-- The forms that packed data make of nodes.
use Rattle.std.proofs.Common.{◌≡◌, ℕ, zero, suc, ◌+◌, ◌<◌, ◌≤◌, List, [], ◌∷◌, ◌++◌, length, take, get_or, length-append, refl, sym, ap, subst, ◌∙◌, arith, inl, inr}
use Rattle.std.specs.List.{AllByRecursion, flat_map}
use Rattle.std.proofs.lemmas.Grind.{flat_map-append}
use Rattle.std.proofs.Math.Seq.{take-suc}
use Rattle.jnode.specs.Reading.{inode_len}
use Rattle.jnode.specs.Writing.{canonical}
use Rattle.jnode.specs.declared.node.NodeRef.{NodeRef}
use Rattle.jnode.specs.declared.node.NodeRef.TheVariants as node
use Rattle.jnode.specs.declared.order.Endian.{Endian}
use Rattle.jnode.proofs.CompressedLemmas.{length-canonical_compressed}
use Rattle.jscan.specs.Pages.{IsPage}
use Rattle.jsteps.specs.Laws.{IsPlanned}
use Rattle.jsteps.specs.Nodes.{Indexed, node_of, nodes_of, advanced, advanced_all}
use Rattle.jsteps.specs.declared.step.Step.{Step}
use Rattle.jview.specs.Through.{greatest_contents}
use Rattle.jlog.specs.Laws.{FitsBlock}
use Rattle.jlog.specs.LeftLaws.{IsLoggable}
use Rattle.jlog.specs.Packed.{IsNodeForm, AreNodeForms}
use Rattle.jlog.specs.Running.{CanWrite, CanWriteAll}
use Rattle.jlog.specs.SessionAs.{content_len}
use Rattle.jlog.specs.Through.{form_content}
use Rattle.jlog.proofs.DoneLemmas.{nodes_on}
use Rattle.jlog.proofs.HeadlineLemmas.{planned_loggable}
use Rattle.jlog.proofs.LeftLemmas.{forms_have_room, storable_forms}
use Rattle.jexpand.specs.Expanded.{node_length}
use Rattle.jlog.proofs.PackedLemmas.{forms_carry, canonical_length, fewer_words}
use Rattle.jlog.proofs.RoomCode.{node_len_is}
use Rattle.jlog.proofs.RunningLemmas.{can_at}
use Rattle.jpacked.specs.Forms.{form_with, forms_with, step_forms, IsMadeOf, AreMadeOf, ArePacked, IsChosen, content_chosen, form_len}
use Rattle.jpacked.proofs.ChooseLemmas.{chosen_made, chosen_content, chosen_room}

-- ---- one

pub made_form : (e : Endian) (n : NodeRef) (stream : List ℕ) → IsMadeOf e n stream → IsNodeForm e n (form_with e n stream)
made_form e n [] made = inl refl
made_form e (node.Entry entry) (b ∷ stream) made = absurd made
made_form e (node.Inode inode) (b ∷ stream) made = made

packed_long : (e : Endian) (n : NodeRef) (b : ℕ) (stream : List ℕ) → IsMadeOf e n (b ∷ stream) → length (form_with e n (b ∷ stream)) ≡ inode_len + length (b ∷ stream)
packed_long e (node.Entry entry) b stream made = absurd made
packed_long e (node.Inode inode) b stream made = length-canonical_compressed e _

pub made_long : (e : Endian) (x : Indexed) (s : Step) (stream : List ℕ) → IsMadeOf e (node_of x s) stream → length (form_with e (node_of x s) stream) ≡ form_len s stream
made_long e x s [] made = node_len_is e x s
made_long e x s (b ∷ stream) made = packed_long e (node_of x s) b stream made

-- a form is no longer than the node's own
no_longer : (e : Endian) (n : NodeRef) (form : List ℕ) → IsNodeForm e n form → length form ≤ length (canonical e n)
no_longer e n form (inl own) = omega (arith, ap length own)
no_longer e n form (inr (is, plain)) =
    let long = ap length is.2 ∙ length-canonical_compressed e is.0 in
    let own : length (canonical e n) ≡ inode_len + length is.1.bytes = canonical_length e n ∙ sym (ap node_length is.1.expanded) in
    omega (arith, long, own, fewer_words (inode_len + length is.0.«data») (inode_len + length is.1.bytes) is.1.shorter)

-- nor than the longest node
pub made_short : (page : ℕ) (e : Endian) (x : Indexed) (s : Step) (stream : List ℕ) → IsPage page → CanWrite page e x s → IsMadeOf e (node_of x s) stream → form_len s stream ≤ 16452
made_short page e x s stream is_page can made =
    omega (arith, made_long e x s stream made, no_longer e (node_of x s) (form_with e (node_of x s) stream) (made_form e (node_of x s) stream made), can.node.within, is_page.most)

pub form_short : (page : ℕ) (e : Endian) (x : Indexed) (s : Step) (t : List ℕ) → IsPage page → CanWrite page e x s → IsMadeOf e (node_of x s) t → length (form_with e (node_of x s) t) ≤ 16452
form_short page e x s t is_page can made = omega (arith, made_long e x s t made, made_short page e x s t is_page can made)

-- ---- several

pub made_forms : (e : Endian) (ns : List NodeRef) (ts : List (List ℕ)) → AreMadeOf e ns ts → AreNodeForms e ns (forms_with e ns ts)
made_forms e [] [] made = tt
made_forms e [] (t ∷ ts) made = absurd made
made_forms e (n ∷ ns) [] made = absurd made
made_forms e (n ∷ ns) (t ∷ ts) made = (made_form e n t made.0, made_forms e ns ts made.1)

pub made_many : (e : Endian) (ns : List NodeRef) (ts : List (List ℕ)) → AreMadeOf e ns ts → length ts ≡ length ns
made_many e [] [] made = refl
made_many e [] (t ∷ ts) made = absurd made
made_many e (n ∷ ns) [] made = absurd made
made_many e (n ∷ ns) (t ∷ ts) made = ap suc (made_many e ns ts made.1)

pub many_nodes : (x : Indexed) (steps : List Step) → length (nodes_of x steps) ≡ length steps
many_nodes x [] = refl
many_nodes x (s ∷ steps) = ap suc (many_nodes (advanced x s) steps)

pub many_forms : (e : Endian) (ns : List NodeRef) (ts : List (List ℕ)) → AreMadeOf e ns ts → length (forms_with e ns ts) ≡ length ns
many_forms e [] [] made = refl
many_forms e [] (t ∷ ts) made = absurd made
many_forms e (n ∷ ns) [] made = absurd made
many_forms e (n ∷ ns) (t ∷ ts) made = ap suc (many_forms e ns ts made.1)

-- one more
pub made_more : (e : Endian) (ns : List NodeRef) (ts : List (List ℕ)) (n : NodeRef) (t : List ℕ) → AreMadeOf e ns ts → IsMadeOf e n t → AreMadeOf e (ns ++ n ∷ []) (ts ++ t ∷ [])
made_more e [] [] n t made one = (one, tt)
made_more e [] (u ∷ ts) n t made one = absurd made
made_more e (m ∷ ns) [] n t made one = absurd made
made_more e (m ∷ ns) (u ∷ ts) n t made one = (made.0, made_more e ns ts n t made.1 one)

pub forms_more : (e : Endian) (ns : List NodeRef) (ts : List (List ℕ)) (n : NodeRef) (t : List ℕ) → AreMadeOf e ns ts → forms_with e (ns ++ n ∷ []) (ts ++ t ∷ []) ≡ forms_with e ns ts ++ form_with e n t ∷ []
forms_more e [] [] n t made = refl
forms_more e [] (u ∷ ts) n t made = absurd made
forms_more e (m ∷ ns) [] n t made = absurd made
forms_more e (m ∷ ns) (u ∷ ts) n t made = ap (λ (l : List (List ℕ)). form_with e m u ∷ l) (forms_more e ns ts n t made.1)

-- the one of the i-th step
pub made_at : (e : Endian) (x : Indexed) (steps : List Step) (ts : List (List ℕ)) (i : ℕ) (d : Step) (u : List ℕ) → AreMadeOf e (nodes_of x steps) ts → i < length steps
    → IsMadeOf e (node_of (advanced_all x (take i steps)) (get_or steps i d)) (get_or ts i u)
made_at e x [] ts i d u made below = absurd (omega arith)
made_at e x (s ∷ steps) [] i d u made below = absurd made
made_at e x (s ∷ steps) (t ∷ ts) zero d u made below = made.0
made_at e x (s ∷ steps) (t ∷ ts) (suc i) d u made below = made_at e (advanced x s) steps ts i d u made.1 (omega arith)

pub form_at : (e : Endian) (x : Indexed) (steps : List Step) (ts : List (List ℕ)) (i : ℕ) (d : Step) (u v : List ℕ) → AreMadeOf e (nodes_of x steps) ts → i < length steps
    → get_or (step_forms e x steps ts) i v ≡ form_with e (node_of (advanced_all x (take i steps)) (get_or steps i d)) (get_or ts i u)
form_at e x [] ts i d u v made below = absurd (omega arith)
form_at e x (s ∷ steps) [] i d u v made below = absurd made
form_at e x (s ∷ steps) (t ∷ ts) zero d u v made below = refl
form_at e x (s ∷ steps) (t ∷ ts) (suc i) d u v made below = form_at e (advanced x s) steps ts i d u v made.1 (omega arith)

-- and its length
pub long_at : (e : Endian) (x : Indexed) (steps : List Step) (ts : List (List ℕ)) (i : ℕ) (d : Step) (u v : List ℕ) → AreMadeOf e (nodes_of x steps) ts → i < length steps
    → length (get_or (step_forms e x steps ts) i v) ≡ form_len (get_or steps i d) (get_or ts i u)
long_at e x steps ts i d u v made below =
    ap length (form_at e x steps ts i d u v made below)
    ∙ made_long e (advanced_all x (take i steps)) (get_or steps i d) (get_or ts i u) (made_at e x steps ts i d u made below)

pub short_at : (page : ℕ) (e : Endian) (x : Indexed) (steps : List Step) (ts : List (List ℕ)) (i : ℕ) (d : Step) (u : List ℕ) → IsPage page → CanWriteAll page e x steps → AreMadeOf e (nodes_of x steps) ts → i < length steps
    → form_len (get_or steps i d) (get_or ts i u) ≤ 16452
short_at page e x steps ts i d u is_page can made below =
    made_short page e (advanced_all x (take i steps)) (get_or steps i d) (get_or ts i u) is_page (can_at page e x steps i d can below) (made_at e x steps ts i d u made below)

-- ---- room for them

planned_all : (page : ℕ) (e : Endian) (x : Indexed) (steps : List Step) → CanWriteAll page e x steps → AllByRecursion (IsPlanned page e) (nodes_of x steps)
planned_all page e x [] can = tt
planned_all page e x (s ∷ steps) can = (can.0.node, planned_all page e (advanced x s) steps can.1)

pub loggable_all : (page : ℕ) (e : Endian) (size : ℕ) (x : Indexed) (steps : List Step) → IsPage page → page + 80 ≤ size → CanWriteAll page e x steps → AllByRecursion (IsLoggable e size) (nodes_of x steps)
loggable_all page e size x steps is_page room can = planned_loggable page e size (nodes_of x steps) is_page room (planned_all page e x steps can)

pub forms_fit_blocks : (page : ℕ) (e : Endian) (size : ℕ) (x : Indexed) (steps : List Step) (forms : List (List ℕ)) → IsPage page → page + 80 ≤ size → CanWriteAll page e x steps
    → AreNodeForms e (nodes_of x steps) forms → AllByRecursion (FitsBlock size) forms
forms_fit_blocks page e size x steps forms is_page room can are =
    let carry = forms_carry e size (nodes_of x steps) forms (loggable_all page e size x steps is_page room can) are in
    forms_have_room e size forms (storable_forms e size forms carry.loggable)

pub form_fits_block : (page : ℕ) (e : Endian) (size : ℕ) (x : Indexed) (s : Step) (t : List ℕ) → IsPage page → page + 80 ≤ size → CanWrite page e x s → IsMadeOf e (node_of x s) t
    → FitsBlock size (form_with e (node_of x s) t)
form_fits_block page e size x s t is_page room can made =
    (forms_fit_blocks page e size x (s ∷ []) (form_with e (node_of x s) t ∷ []) is_page room (can, tt) (made_form e (node_of x s) t made, tt)).0

-- ---- choosing

pub contents_on : (e : Endian) (xs ys : List (List ℕ)) → content_len e (xs ++ ys) ≡ content_len e xs + content_len e ys
contents_on e xs ys = ap length (flat_map-append (form_content e) xs ys) ∙ length-append (flat_map (form_content e) xs) (flat_map (form_content e) ys)

pub none_packed : (e : Endian) (x : Indexed) (held : ℕ) → held ≤ greatest_contents → ArePacked e x [] held [] held
none_packed e x held within = record { made = tt; now_is = omega arith; within = within }

pub packed_more : (page : ℕ) (e : Endian) (x : Indexed) (steps : List Step) (held now : ℕ) (ts : List (List ℕ)) (i : ℕ) (d s : Step) (t : List ℕ) → IsPage page → CanWriteAll page e x steps
    → i < length steps → s ≡ get_or steps i d → ArePacked e x (take i steps) held ts now → IsChosen (node_of (advanced_all x (take i steps)) s) now t
    → ArePacked e x (take (suc i) steps) held (ts ++ t ∷ []) (now + content_chosen s t)
packed_more page e x steps held now ts i d s t is_page can below is packed chosen =
    let y : Indexed = advanced_all x (take i steps) in
    let n : NodeRef = node_of y s in
    let first : List NodeRef = nodes_of x (take i steps) in
    let planned : IsPlanned page e n = subst (λ (r : Step). IsPlanned page e (node_of y r)) (sym is) (can_at page e x steps i d can below).node in
    let same : take i steps ++ s ∷ [] ≡ take (suc i) steps = ap (λ (r : Step). take i steps ++ r ∷ []) is ∙ sym (take-suc steps i d below) in
    let nodes : nodes_of x (take (suc i) steps) ≡ first ++ n ∷ [] = ap (nodes_of x) (sym same) ∙ nodes_on x (take i steps) (s ∷ []) in
    let made : AreMadeOf e (first ++ n ∷ []) (ts ++ t ∷ []) = made_more e first ts n t packed.made (chosen_made page e n now t is_page planned chosen) in
    let forms : forms_with e (nodes_of x (take (suc i) steps)) (ts ++ t ∷ []) ≡ forms_with e first ts ++ form_with e n t ∷ [] =
    ap (λ (l : List NodeRef). forms_with e l (ts ++ t ∷ [])) nodes ∙ forms_more e first ts n t packed.made in
    let content : content_len e (forms_with e first ts ++ form_with e n t ∷ []) ≡ content_len e (forms_with e first ts) + content_len e (form_with e n t ∷ []) =
    contents_on e (forms_with e first ts) (form_with e n t ∷ []) in
    let one : content_len e (form_with e n t ∷ []) ≡ content_chosen s t = chosen_content page e y s now t is_page planned chosen in
    let all : content_len e (step_forms e x (take (suc i) steps) (ts ++ t ∷ [])) ≡ content_len e (forms_with e first ts ++ form_with e n t ∷ []) = ap (content_len e) forms in
    record {
      made = subst (λ (l : List NodeRef). AreMadeOf e l (ts ++ t ∷ [])) (sym nodes) made;
      now_is = omega (arith, all, content, one, packed.now_is);
      within = chosen_room page e y s now t is_page planned chosen packed.within;
    }
