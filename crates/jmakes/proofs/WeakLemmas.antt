-- Notes on the weak nodes of an image that is written.
use Rattle.std.proofs.Common.{◌≡◌, ℕ, zero, suc, ◌≤◌, Bool, List, [], ◌∷◌, ◌++◌, length, map, take, refl, sym, ap, subst, ◌∙◌, arith, append_assoc, Option, Some, None, Result, Ok, Err}
use Rattle.std.specs.Prelude.{IsTrue, flat_map, slice_get}
use Rattle.std.specs.declared.alloc.AllocError.{AllocError}
use Rattle.std.proofs.lemmas.Bool.{and_parts, false≢true}
use Rattle.std.proofs.lemmas.List.{append-nil}
use Rattle.flashbase.specs.Sinks.{SinkChange}
use Rattle.jnode.specs.declared.order.Endian.{Endian}
use Rattle.jmount.specs.Mount.{Mount}
use Rattle.jsteps.specs.Nodes.{Indexed, advanced_all}
use Rattle.jscan.specs.Pages.{page_size}
use Rattle.jsteps.specs.Refusals.{planned_by, plans_of, steps_of_first}
use Rattle.jsteps.specs.declared.fault.OpFault.{OpFault}
use Rattle.jsteps.specs.declared.op.Op.{Op}
use Rattle.jsteps.specs.declared.step.Step.{Step}
use Rattle.jsteps.proofs.TakenLemmas.{advanced_all-append}
use Rattle.jlog.specs.Headline.{index_of_image, resume_address}
use Rattle.jlog.specs.Places.{end_of_all, fit}
use Rattle.jlog.specs.Running.{written}
use Rattle.jlog.specs.declared.fault.SessionFault.{SessionFault}
use Rattle.jlog.specs.declared.fault.SessionFault.TheVariants as session
use Rattle.jlog.specs.declared.start.Flash.{Flash}
use Rattle.jlog.proofs.RoomLemmas.{room_goes_on}
use Rattle.jlog.proofs.RunLemmas.{fit_first}
use Rattle.jlog.proofs.RunningLemmas.{written_on}
use Rattle.jcuts.specs.Cuts.{Asked, DeclinesNext, IsDeclined, PutsCuts, base_point}
use Rattle.jcuts.specs.Lines.{text_of_nodes}
use Rattle.jcuts.specs.Telling.{first_told}
use Rattle.jcuts.specs.declared.cuts.CutsFault.TheVariants as told
use Rattle.jcuts.specs.declared.lines.StepNode.{StepNode}
use Rattle.jcuts.specs.declared.lines.Telling.TheVariants as telling
use Rattle.jcuts.proofs.ToldLemmas.{lines_are_nodes}
use Rattle.jmakes.specs.Notes.{AreTakenOn, AreWeakNotes, WeakNotes, weak_node_note}

-- ---- the text

-- notes are on the nodes alone
notes_of_nodes : (nodes : List StepNode) → text_of_nodes telling.WeakNotes nodes ≡ flat_map weak_node_note (map (λ told. told.standing) nodes)
notes_of_nodes [] = refl
notes_of_nodes (n ∷ nodes) = ap (λ (l : List ℕ). weak_node_note n.standing ++ l) (notes_of_nodes nodes)

-- what is told of all operations are the notes
pub told_notes : (e : Endian) (flash : Flash) (m : Mount) (ops : List Op) (lines : List ℕ) (notes : WeakNotes) (old : List ℕ) (before now weak : ℕ) → length lines ≡ length ops → old ≡ [] → notes.weak ≡ weak
    → PutsCuts e flash m.image (record { telling = telling.WeakNotes; ops = ops; lines = lines }) (record { old = Some old; new = Some notes.text; before = before; now = now }) (Ok weak)
    → AreWeakNotes e flash m.image ops notes
told_notes e flash m ops lines notes old before now weak long none same puts =
    let size : ℕ = flash.geometry.block in
    let all : List StepNode = first_told flash.page e size flash.blocks m.image ops lines (length ops) in
    record {
      text = puts.put ∙ (ap (λ (l : List ℕ). l ++ (text_of_nodes telling.WeakNotes all ++ [])) none ∙ (append-nil (text_of_nodes telling.WeakNotes all) ∙ (notes_of_nodes all ∙ ap (flat_map weak_node_note) (lines_are_nodes flash.page e size flash.blocks (length ops) m.image ops lines long))));
      weak = same ∙ puts.counted;
    }

-- ---- an operation among those that are accepted

plans_by : ℕ → Indexed → List Op → Result (List Step) OpFault → List (List Step)
plans_by page x ops (Ok steps) = steps ∷ plans_of page (advanced_all x steps) ops
plans_by page x ops (Err f) = []

-- it has steps, and they stand among the steps of all
abbrev pub IsOneOf : ℕ → Indexed → List Op → ℕ → Op → Type 0
IsOneOf page x ops n o = (steps : List Step) × (rest : List Step)
    × (planned_by page (advanced_all x (steps_of_first page x ops n)) o ≡ Ok steps)
    × (steps_of_first page x ops (length ops) ≡ steps_of_first page x ops n ++ (steps ++ rest))

first_of : (page : ℕ) (x : Indexed) (ops : List Op) (r : Result (List Step) OpFault) → suc (length ops) ≤ length (plans_by page x ops r)
    → (steps : List Step) × (rest : List Step) × (r ≡ Ok steps) × (flat_map (λ steps. steps) (take (suc (length ops)) (plans_by page x ops r)) ≡ steps ++ rest)
unfolding plans_by
first_of page x ops (Ok s) long = (s, steps_of_first page (advanced_all x s) ops (length ops), refl, refl)
first_of page x ops (Err f) long = absurd (omega arith)

pub one_of : (page : ℕ) (x : Indexed) (ops : List Op) (n : ℕ) (o : Op) → slice_get ops n ≡ Some o → length ops ≤ length (plans_of page x ops) → IsOneOf page x ops n o
unfolding plans_by
one_of page x [] zero o at long = cc
one_of page x [] (suc n) o at long = cc
one_of page x (p ∷ ops) zero o at long =
    let same : p ≡ o = cc in
    subst (λ (q : Op). IsOneOf page x (p ∷ ops) zero q) same (first_of page x ops (planned_by page x p) (omega (arith, long)))
one_of page x (p ∷ ops) (suc n) o at long = by (λ y more. one_of page y ops n o at more) (planned_by page x p) long
  where
    by : ((y : Indexed) → length ops ≤ length (plans_of page y ops) → IsOneOf page y ops n o) → (r : Result (List Step) OpFault) → suc (length ops) ≤ length (plans_by page x ops r)
        → (steps : List Step) × (rest : List Step) × (planned_by page (advanced_all x (flat_map (λ steps. steps) (take (suc n) (plans_by page x ops r)))) o ≡ Ok steps)
        × (flat_map (λ steps. steps) (take (suc (length ops)) (plans_by page x ops r)) ≡ flat_map (λ steps. steps) (take (suc n) (plans_by page x ops r)) ++ (steps ++ rest))
    by rest_is (Ok s) long =
        let y : Indexed = advanced_all x s in
        let first : List Step = steps_of_first page y ops n in
        let one : IsOneOf page y ops n o = rest_is y (omega arith) in
        let on : advanced_all x (s ++ first) ≡ advanced_all y first = advanced_all-append x s first in (
          one.0,
          one.1,
          ap (λ (z : Indexed). planned_by page z o) on ∙ one.2,
          ap (λ (l : List Step). s ++ l) one.3 ∙ sym (append_assoc s first (one.0 ++ one.1)),
        )
    by rest_is (Err f) long = absurd (omega arith)

-- its nodes fit
fits_among : (e : Endian) (size blocks from : ℕ) (x : Indexed) (xs ys zs : List Step) → IsTrue (fit size blocks from (written e x (xs ++ (ys ++ zs))))
    → IsTrue (fit size blocks (end_of_all size from (written e x xs)) (written e (advanced_all x xs) ys))
fits_among e size blocks from x xs ys zs fits =
    let end : ℕ = end_of_all size from (written e x xs) in
    let y : Indexed = advanced_all x xs in
    fit_first e size blocks end y ys zs
    (and_parts (fit size blocks from (written e x xs)) (fit size blocks end (written e y (ys ++ zs)))
    (subst IsTrue (ap (fit size blocks from) (written_on e x xs (ys ++ zs)) ∙ room_goes_on size blocks from (written e x xs) (written e y (ys ++ zs))) fits)).1

-- a plan has its steps alone
not_both : (steps : List Step) (f : OpFault) (r : Result (List Step) OpFault) → r ≡ Ok steps → r ≡ Err f → ⊥
not_both steps f (Ok s) is not = cc
not_both steps f (Err g) is not = cc

same_steps : (steps others : List Step) (r : Result (List Step) OpFault) → r ≡ Ok steps → r ≡ Ok others → steps ≡ others
same_steps steps others (Ok s) is was = cc
same_steps steps others (Err g) is was = cc

-- it is not declined
not_declined : (e : Endian) (flash : Flash) (m : Mount) (asked : Asked) (n line : ℕ) (f : SessionFault) → AreTakenOn e flash m asked.ops
    → (declines : DeclinesNext e flash asked (base_point e flash m.image) n line f) → IsDeclined e flash declines.at declines.next f → f ≡ session.OutOfMemory
not_declined e flash m asked n line f taken declines = by f
  where
    page : ℕ
    page = page_size flash.page

    size : ℕ
    size = flash.geometry.block

    x : Indexed
    x = index_of_image e size m.image

    from : ℕ
    from = resume_address e size flash.blocks m.image

    one : IsOneOf page x asked.ops n declines.next
    one = one_of page x asked.ops n declines.next declines.is_next taken.accepted.planned

    planned : planned_by page declines.at.index declines.next ≡ Ok one.0
    planned = ap (λ (y : Indexed). planned_by page y declines.next) declines.leads.index ∙ one.2

    fits : IsTrue (fit size flash.blocks declines.at.address (written e declines.at.index one.0))
    fits =
        let first : List Step = steps_of_first page x asked.ops n in
        let among = fits_among e size flash.blocks from x first one.0 one.1 (subst (λ (l : List Step). IsTrue (fit size flash.blocks from (written e x l))) one.3 taken.accepted.fits) in
        subst (λ (y : Indexed). IsTrue (fit size flash.blocks declines.at.address (written e y one.0))) (sym declines.leads.index)
        (subst (λ (a : ℕ). IsTrue (fit size flash.blocks a (written e (advanced_all x first) one.0))) (sym declines.leads.address) among)

    by : (f : SessionFault) → IsDeclined e flash declines.at declines.next f → f ≡ session.OutOfMemory
    by (session.Refused r) is = absurd (not_both one.0 r (planned_by page declines.at.index declines.next) planned is)
    by (session.Full wanted left) is =
        let same : one.0 ≡ is.0 = same_steps one.0 is.0 (planned_by page declines.at.index declines.next) planned is.1 in
        absurd (false≢true (sym is.2 ∙ subst (λ (l : List Step). IsTrue (fit size flash.blocks declines.at.address (written e declines.at.index l))) same fits))
    by session.OutOfMemory is = refl
    by session.Sink is = absurd is
    by session.Broken is = absurd is
    by session.ReadOnly is = absurd is
    by session.Geometry is = absurd is

-- Where an image is gone on from and all operations on it are accepted, only memory is wanting.
pub only_memory : (e : Endian) (flash : Flash) (m : Mount) (asked : Asked) (sink : SinkChange) (f : SessionFault) (line : Option ℕ) (blocks : Result (Option ℕ) AllocError)
    → AreTakenOn e flash m asked.ops → PutsCuts e flash m.image asked sink (Err (told.Session f line blocks)) → f ≡ session.OutOfMemory
only_memory e flash m asked sink f (Some line) blocks taken puts = not_declined e flash m asked puts.0 line f taken puts.1 puts.1.declines
only_memory e flash m asked sink f None blocks taken puts = puts.0
