-- Operations of a session that packs, one after another.
use Rattle.std.proofs.Common.{◌≡◌, ℕ, suc, ◌+◌, ◌*◌, ◌%◌, ◌<◌, ◌≤◌, Bool, true, false, List, [], ◌∷◌, ◌++◌, length, take, get_or, refl, sym, subst, ◌∙◌, arith, Option, Some, None, Result, Ok, Err, inl, inr}
use Rattle.std.specs.Prelude.{IsTrue, IsFalse}
use Rattle.std.specs.List.{AllByRecursion}
use Rattle.std.specs.Io.KnownBytes.{Appends}
use Rattle.std.proofs.lemmas.Bool.{and_from, true≢false}
use Rattle.flashbase.specs.Ranges.{AreBytes}
use Rattle.jnode.specs.declared.node.NodeRef.{NodeRef}
use Rattle.jnode.specs.declared.order.Endian.{Endian}
use Rattle.jscan.specs.Pages.{IsPage, page_size}
use Rattle.jscan.specs.declared.page.Page.{Page}
use Rattle.jsteps.specs.Laws.{IsConsistent, OpFits}
use Rattle.jsteps.specs.Nodes.{Indexed, nodes_of, advanced_all}
use Rattle.jsteps.specs.Refusals.{planned_by, steps_of_first}
use Rattle.jsteps.specs.declared.op.Op.{Op}
use Rattle.jsteps.specs.declared.step.Step.{Step}
use Rattle.jview.specs.Through.{greatest_contents}
use Rattle.jlog.specs.Done.{accepted_by}
use Rattle.jlog.specs.DoneThrough.{steps_through, GoesOnAs, SurvivesAfterAs}
use Rattle.jlog.specs.Places.{end_of_all, fit}
use Rattle.jlog.specs.Running.{log_at, CanWriteAll}
use Rattle.jlog.specs.Session.{IsGoing, IsUntouched, attempted}
use Rattle.jlog.specs.SessionAs.{FlashAs, AreFormsBy, content_len, flash_as, IsPutAs, IsPutPartAs, IsTakenAs, AppliesAs, IsRunAs, RunsAs}
use Rattle.jlog.specs.SessionAsLaws.{held_by}
use Rattle.jlog.specs.declared.fault.SessionFault.{SessionFault}
use Rattle.jlog.specs.declared.fault.SessionFault.TheVariants as fault
use Rattle.jlog.specs.declared.report.Place.{Place}
use Rattle.jlog.specs.declared.writing.Stop.{Stop}
use Rattle.jlog.specs.declared.writing.Stop.TheVariants as stop
use Rattle.jlog.proofs.DoneLemmas.{nodes_on}
use Rattle.jlog.proofs.Parts.{flash_by, state_by}
use Rattle.jlog.proofs.RoomLemmas.{end_is_within, room_goes_on}
use Rattle.jlog.proofs.RunAsLemmas.{run_survives_as, run_goes_on_as}
use Rattle.jlog.proofs.RunLemmas.{plans_next}
use Rattle.jlog.proofs.SessionAsLemmas.{unpacked_may_pack}
use Rattle.jpacked.specs.Forms.{step_forms, AreMadeOf}
use Rattle.jpacked.specs.Accepting.{IsChosenFor, DeclinesAs}
use Rattle.jpacked.specs.View.{HoldsAfter, stop_by}
use Rattle.jpacked.proofs.MadeLemmas.{contents_on, forms_fit_blocks, made_forms}
use Rattle.jpacked.proofs.Parts.{change_by, PutBy, PartBy, PutsBy}
use Rattle.jpacked.proofs.PlainLemmas.{forms_by, more_by, none_by}
use Rattle.jpacked.proofs.PutLemmas.{put_then}

-- a session that packs, by its parts
abbrev pub packs_by : Bool → ℕ → ℕ → Endian → ℕ → ℕ → FlashAs
packs_by packs held page e size blocks = flash_as packs held (flash_by page e size blocks)

abbrev pub AppliesBy : {T : Type 0} → Bool → ℕ → ℕ → Endian → ℕ → ℕ → ℕ → Indexed → Op → Bool → ℕ → Indexed → Bool → Option (List ℕ) → Option (List ℕ) → ℕ → ℕ → List Place → List Place → Result T SessionFault → Type 0
AppliesBy packs held page e size blocks from x o was end y is old new failures now before after r =
    AppliesAs (packs_by packs held page e size blocks) (state_by from x was before) o (state_by end y is after) (change_by old new failures now) r

abbrev pub RunBy : Bool → ℕ → ℕ → Endian → ℕ → ℕ → ℕ → Indexed → List Op → ℕ → List (List ℕ) → ℕ → Indexed → Option (List ℕ) → Option (List ℕ) → List Place → Type 0
RunBy packs held page e size blocks from x ops n forms end y old new places = IsRunAs (packs_by packs held page e size blocks) (log_at from x []) ops n forms (log_at end y places) old new

abbrev pub RunsBy : Bool → ℕ → ℕ → Endian → ℕ → ℕ → ℕ → Indexed → List Op → Bool → ℕ → List (List ℕ) → ℕ → Indexed → Bool → Option (List ℕ) → Option (List ℕ) → ℕ → ℕ → List Place → Option SessionFault → Type 0
RunsBy packs held page e size blocks from x ops was n forms end y is old new failures now places stopped =
    RunsAs (packs_by packs held page e size blocks) (state_by from x was []) ops n forms (state_by end y is places) (change_by old new failures now) stopped

-- ---- one operation

pub put_as : (page : ℕ) (e : Endian) (size blocks c : ℕ) (x : Indexed) (steps : List Step) (forms : List (List ℕ)) (end : ℕ) (y : Indexed) (a b : Option (List ℕ)) (p q : List Place)
    → PutBy e size c x steps forms end y a b p q → IsPutAs (flash_by page e size blocks) (log_at c x p) steps forms (log_at end y q) a b
put_as page e size blocks c x steps forms end y a b p q put = record { cursor = put.cursor; index = put.index; bytes = put.bytes; places = put.places }

pub part_as : (page : ℕ) (e : Endian) (size blocks c : ℕ) (x : Indexed) (forms : List (List ℕ)) (t : ℕ) (a b : Option (List ℕ)) (p q : List Place)
    → PartBy e size c x forms t a b p q → IsPutPartAs (flash_by page e size blocks) (log_at c x p) forms t q a b
part_as page e size blocks c x forms t a b p q part = record { within = part.within; bytes = part.bytes; places = part.places }

pub taken_as : (packs : Bool) (held now page : ℕ) (e : Endian) (size blocks c : ℕ) (x : Indexed) (p q : List Place) (o : Op) (steps : List Step) (streams : List (List ℕ))
    → IsChosenFor (packs_by packs held page e size blocks) (log_at c x q) o steps streams now
    → IsTakenAs packs held (flash_by page e size blocks) (log_at c x p) o steps (step_forms e x steps streams)
taken_as packs held now page e size blocks c x p q o steps streams chosen = record {
  planned = chosen.planned;
  are = forms_by packs e (nodes_of x steps) streams chosen.fitting.packed.made chosen.fitting.plain;
  fits = chosen.fitting.fits;
  contents = omega (arith, chosen.fitting.packed.now_is, chosen.fitting.packed.within);
}

-- where it goes on
pub going_on : (page : ℕ) (e : Endian) (size blocks from end : ℕ) (x y : Indexed) (steps : List Step) (streams : List (List ℕ)) → IsPage page → page + 80 ≤ size → size % 4 ≡ 0
    → IsGoing size blocks from x → CanWriteAll page e x steps → AreMadeOf e (nodes_of x steps) streams → IsTrue (fit size blocks from (step_forms e x steps streams)) → IsConsistent (advanced_all x steps)
    → end ≡ end_of_all size from (step_forms e x steps streams) → y ≡ advanced_all x steps → IsGoing size blocks end y
going_on page e size blocks from end x y steps streams is_page room words going can made fits same end_is index_is =
    let forms : List (List ℕ) = step_forms e x steps streams in
    let at = end_is_within size blocks from forms words (forms_fit_blocks page e size x steps forms is_page room can (made_forms e (nodes_of x steps) streams made)) going.word going.within fits in
    record {
      within = subst (λ (n : ℕ). n ≤ blocks * size) (sym end_is) at.0;
      word = subst (λ (n : ℕ). n % 4 ≡ 0) (sym end_is) at.1;
      consistent = subst IsConsistent (sym index_is) same;
    }

-- ---- one after another

pub none_run : (packs : Bool) (held page : ℕ) (e : Endian) (size blocks from : ℕ) (x : Indexed) (ops : List Op) (a : Option (List ℕ)) → held ≤ greatest_contents → PutBy e size from x [] [] from x a a [] []
    → RunBy packs held page e size blocks from x ops 0 [] from x a a []
none_run packs held page e size blocks from x ops a within put = record {
  planned = omega arith;
  are = none_by packs e;
  fits = refl;
  contents = omega (arith, within);
  wrote = record { cursor = refl; index = refl; bytes = put.bytes; places = refl };
}

pub run_more : {T : Type 0} (u : T) (packs : Bool) (held h page : ℕ) (e : Endian) (size blocks from : ℕ) (x : Indexed) (ops : List Op) (i : ℕ) (d o : Op) (forms : List (List ℕ)) (mid end : ℕ) (z y : Indexed) (was is : Bool)
    (a b c : Option (List ℕ)) (f n : ℕ) (p q : List Place)
    → i < length ops → o ≡ get_or ops i d → h ≡ held + content_len e forms → RunBy packs held page e size blocks from x ops i forms mid z a b p
    → (did : AppliesBy packs h page e size blocks mid z o was end y is b c f n p q (Ok u)) → RunBy packs held page e size blocks from x ops (suc i) (forms ++ did.2.1) end y a c q
run_more u packs held h page e size blocks from x ops i d o forms mid end z y was is a b c f n p q below o_is h_is run did =
    let steps : List Step = did.2.0 in
    let more : List (List ℕ) = did.2.1 in
    let first : List Step = steps_of_first page x ops i in
    let next = plans_next page x ops i d steps below run.planned
    (subst (λ (w : Indexed). planned_by page w (get_or ops i d) ≡ Ok steps) run.wrote.index (subst (λ (w : Op). planned_by page z w ≡ Ok steps) o_is did.2.2.planned)) in
    let are : AreFormsBy packs e (nodes_of (advanced_all x first) steps) more = subst (λ (w : Indexed). AreFormsBy packs e (nodes_of w steps) more) run.wrote.index did.2.2.are in
    let both : AreFormsBy packs e (nodes_of x (first ++ steps)) (forms ++ more) =
    subst (λ (ns : List NodeRef). AreFormsBy packs e ns (forms ++ more)) (sym (nodes_on x first steps)) (more_by packs e (nodes_of x first) (nodes_of (advanced_all x first) steps) forms more run.are are) in
    let room : IsTrue (fit size blocks (end_of_all size from forms) more) = subst (λ (m : ℕ). IsTrue (fit size blocks m more)) run.wrote.cursor did.2.2.fits in
    let was_put : PutBy e size from x first forms mid z a b [] p = record { cursor = run.wrote.cursor; index = run.wrote.index; bytes = run.wrote.bytes; places = run.wrote.places } in
    let is_put : PutBy e size mid z steps more end y b c p q = record { cursor = did.2.3.cursor; index = did.2.3.index; bytes = did.2.3.bytes; places = did.2.3.places } in
    let all : PutBy e size from x (first ++ steps) (forms ++ more) end y a c [] q = put_then e size from x first steps forms more mid end z y a b c [] p q was_put is_put in
    record {
      planned = next.1;
      are = subst (λ (l : List Step). AreFormsBy packs e (nodes_of x l) (forms ++ more)) (sym next.0) both;
      fits = subst IsTrue (sym (room_goes_on size blocks from forms more)) (and_from _ _ run.fits room);
      contents = omega (arith, did.2.2.contents, contents_on e forms more, h_is);
      wrote = put_as page e size blocks from x (steps_of_first page x ops (suc i)) (forms ++ more) end y a c [] q
          (subst (λ (l : List Step). PutBy e size from x l (forms ++ more) end y a c [] q) (sym next.0) all);
    }

-- what an operation does, and how much content is held then
abbrev pub TakesBy : {T : Type 0} → Bool → ℕ → ℕ → Endian → ℕ → ℕ → ℕ → Indexed → Op → Bool → ℕ → Indexed → Bool → Option (List ℕ) → Option (List ℕ) → ℕ → ℕ → List Place → List Place → Result T SessionFault → ℕ → Type 0
TakesBy packs held page e size blocks from x o was end y is old new failures now before after r held_now =
    (did : AppliesBy packs held page e size blocks from x o was end y is old new failures now before after r)
    × HoldsAfter (packs_by packs held page e size blocks) (state_by from x was before) o (state_by end y is after) (change_by old new failures now) r did held_now

-- ---- what putting the forms of an operation does

pub puts_same : (e : Endian) (size c : ℕ) (x : Indexed) (ss steps : List Step) (ts streams : List (List ℕ)) (end : ℕ) (y : Indexed) (a b : Option (List ℕ)) (f n : ℕ) (o p q : List Place) (s r : Result (Unit {0}) Stop)
    → ss ≡ steps → ts ≡ streams → o ≡ p → s ≡ r → PutsBy e size c x ss (step_forms e x ss ts) end y a b f n o q s → PutsBy e size c x steps (step_forms e x steps streams) end y a b f n p q r
puts_same e size c x ss steps ts streams end y a b f n o p q s r steps_are streams_are places_are is put =
    subst (λ (i : Result (Unit {0}) Stop). PutsBy e size c x steps (step_forms e x steps streams) end y a b f n p q i) is
    (subst (λ (l : List Place). PutsBy e size c x steps (step_forms e x steps streams) end y a b f n l q s) places_are
    (subst (λ (l : List Step). PutsBy e size c x l (step_forms e x l streams) end y a b f n o q s) steps_are
    (subst (λ (l : List (List ℕ)). PutsBy e size c x ss (step_forms e x ss l) end y a b f n o q s) streams_are put)))

pub took_all : (packs : Bool) (held now page : ℕ) (e : Endian) (size blocks c : ℕ) (x : Indexed) (o : Op) (steps : List Step) (streams : List (List ℕ)) (was is : Bool) (end : ℕ) (y : Indexed)
    (a b : Option (List ℕ)) (f n : ℕ) (p q r : List Place) → IsFalse was → IsFalse is
    → IsChosenFor (packs_by packs held page e size blocks) (log_at c x r) o steps streams now
    → PutsBy e size c x steps (step_forms e x steps streams) end y a b f n p q (Ok (tt {0}))
    → TakesBy {T = Unit {0}} packs held page e size blocks c x o was end y is a b f n p q (Ok (tt {0})) now
took_all packs held now page e size blocks c x o steps streams was is end y a b f n p q r whole still chosen put = (
  (
    whole,
    still,
    (
      steps,
      step_forms e x steps streams,
      taken_as packs held now page e size blocks c x p r o steps streams chosen,
      put_as page e size blocks c x steps (step_forms e x steps streams) end y a b p q put.0,
    ),
    put.1,
  ),
  chosen.fitting.packed.now_is,
)

pub took_sink : (packs : Bool) (held now page : ℕ) (e : Endian) (size blocks c : ℕ) (x : Indexed) (o : Op) (steps : List Step) (streams : List (List ℕ)) (was is : Bool) (end : ℕ) (y : Indexed)
    (a b : Option (List ℕ)) (f n : ℕ) (p q r : List Place) → IsFalse was → IsTrue is
    → IsChosenFor (packs_by packs held page e size blocks) (log_at c x r) o steps streams now
    → PutsBy e size c x steps (step_forms e x steps streams) end y a b f n p q (Err stop.Sink)
    → TakesBy {T = Unit {0}} packs held page e size blocks c x o was end y is a b f n p q (Err fault.Sink) held
took_sink packs held now page e size blocks c x o steps streams was is end y a b f n p q r whole broke chosen put = (
  (
    whole,
    (
      broke,
      (
        steps,
        step_forms e x steps streams,
        put.0.0,
        taken_as packs held now page e size blocks c x p r o steps streams chosen,
        omega arith,
        part_as page e size blocks c x (step_forms e x steps streams) put.0.0 a b p q put.0.1,
      ),
    ),
    put.1,
  ),
  refl,
)

pub took_begun : (packs : Bool) (held now page : ℕ) (e : Endian) (size blocks c : ℕ) (x : Indexed) (o : Op) (steps : List Step) (streams : List (List ℕ)) (was is : Bool) (end : ℕ) (y : Indexed)
    (a b : Option (List ℕ)) (f n : ℕ) (p q r : List Place) → IsFalse was → IsTrue is
    → IsChosenFor (packs_by packs held page e size blocks) (log_at c x r) o steps streams now
    → PutsBy e size c x steps (step_forms e x steps streams) end y a b f n p q (Err stop.Begun)
    → TakesBy {T = Unit {0}} packs held page e size blocks c x o was end y is a b f n p q (Err fault.OutOfMemory) held
took_begun packs held now page e size blocks c x o steps streams was is end y a b f n p q r whole broke chosen put = (
  (
    whole,
    inr (
      (
        broke,
        (
          steps,
          step_forms e x steps streams,
          put.0.0,
          taken_as packs held now page e size blocks c x p r o steps streams chosen,
          put.0.1,
          part_as page e size blocks c x (step_forms e x steps streams) put.0.0 a b p q put.0.2,
        ),
      ),
      put.1,
    ),
  ),
  refl,
)

pub untouched_at : (c : ℕ) (x : Indexed) (p : List Place) (is : Bool) (a : Option (List ℕ)) (f : ℕ) → IsFalse is → Appends a a [] → IsUntouched (log_at c x p) (log_at c x p) is (change_by a a f f)
untouched_at c x p is a f still none = record { whole = still; cursor = refl; index = refl; bytes = none; places = refl; none_failed = refl }

pub took_unbegun : (packs : Bool) (held page : ℕ) (e : Endian) (size blocks c : ℕ) (x : Indexed) (o : Op) (steps : List Step) (forms : List (List ℕ)) (was is : Bool) (end : ℕ) (y : Indexed)
    (a b : Option (List ℕ)) (f n : ℕ) (p q : List Place) → IsFalse was → IsFalse is
    → PutsBy e size c x steps forms end y a b f n p q (Err stop.Unbegun)
    → TakesBy {T = Unit {0}} packs held page e size blocks c x o was end y is a b f n p q (Err fault.OutOfMemory) held
took_unbegun packs held page e size blocks c x o steps forms was is end y a b f n p q whole still put = (
  (whole, inl (record { whole = still; cursor = put.0; index = put.1; bytes = put.2; places = put.3; none_failed = put.4 })),
  refl,
)

-- what an operation that is not accepted does
pub took_none : (packs : Bool) (held page : ℕ) (e : Endian) (size blocks c : ℕ) (x : Indexed) (o : Op) (was is : Bool) (a : Option (List ℕ)) (f : ℕ) (p r : List Place) (g : SessionFault)
    → IsFalse was → IsFalse is → Appends a a [] → DeclinesAs (packs_by packs held page e size blocks) (log_at c x r) o g
    → TakesBy {T = Unit {0}} packs held page e size blocks c x o was c x is a a f f p p (Err g) held
took_none packs held page e size blocks c x o was is a f p r (fault.Refused g) whole still none why = ((whole, why, untouched_at c x p is a f still none), refl)
took_none packs held page e size blocks c x o was is a f p r (fault.Full wanted left) whole still none why = (
  (
    whole,
    record { steps = why.steps; forms = why.forms; planned = why.planned; are = why.are; fits = why.fits; wanted_is = why.wanted_is; left_is = why.left_is },
    untouched_at c x p is a f still none,
  ),
  refl,
)
took_none packs held page e size blocks c x o was is a f p r fault.OutOfMemory whole still none why = ((whole, inl (untouched_at c x p is a f still none)), refl)
took_none packs held page e size blocks c x o was is a f p r fault.Sink whole still none why = absurd why
took_none packs held page e size blocks c x o was is a f p r fault.Broken whole still none why = absurd why
took_none packs held page e size blocks c x o was is a f p r fault.ReadOnly whole still none why = absurd why
took_none packs held page e size blocks c x o was is a f p r fault.Geometry whole still none why = absurd why

-- nor one of a broken session
pub took_broken : (packs : Bool) (held page : ℕ) (e : Endian) (size blocks c : ℕ) (x : Indexed) (o : Op) (was is : Bool) (a : Option (List ℕ)) (f : ℕ) (p : List Place)
    → IsTrue was → IsTrue is → Appends a a [] → TakesBy {T = Unit {0}} packs held page e size blocks c x o was c x is a a f f p p (Err fault.Broken) held
took_broken packs held page e size blocks c x o was is a f p broke still none = ((broke, still, none, refl, refl), refl)

-- the same of another session of the same flash
pub takes_same : {T : Type 0} (packs' packs : Bool) (held page' page : ℕ) (e : Endian) (size' size blocks' blocks c : ℕ) (z : Indexed) (o : Op) (was' was : Bool) (end : ℕ) (y : Indexed) (is : Bool)
    (b d : Option (List ℕ)) (f' f n : ℕ) (p q : List Place) (r s : Result T SessionFault) (held_now : ℕ)
    → packs' ≡ packs → page' ≡ page → size' ≡ size → blocks' ≡ blocks → was' ≡ was → f' ≡ f → r ≡ s
    → TakesBy packs' held page' e size' blocks' c z o was' end y is b d f' n p q r held_now → TakesBy packs held page e size blocks c z o was end y is b d f n p q s held_now
takes_same packs' packs held page' page e size' size blocks' blocks c z o was' was end y is b d f' f n p q r s held_now packs_is page_is size_is blocks_is was_is f_is r_is did =
    subst (λ (i : Bool). TakesBy i held page e size blocks c z o was end y is b d f n p q s held_now) packs_is
    (subst (λ (i : ℕ). TakesBy packs' held i e size blocks c z o was end y is b d f n p q s held_now) page_is
    (subst (λ (i : ℕ). TakesBy packs' held page' e i blocks c z o was end y is b d f n p q s held_now) size_is
    (subst (λ (i : ℕ). TakesBy packs' held page' e size' i c z o was end y is b d f n p q s held_now) blocks_is
    (subst (λ (i : Bool). TakesBy packs' held page' e size' blocks' c z o i end y is b d f n p q s held_now) was_is
    (subst (λ (i : ℕ). TakesBy packs' held page' e size' blocks' c z o was' end y is b d i n p q s held_now) f_is
    (subst (λ i. TakesBy packs' held page' e size' blocks' c z o was' end y is b d f' n p q i held_now) r_is did))))))

-- a fault says the same whatever would have been answered without one
pub fault_as : (T U : Type 0) (packs : Bool) (held page : ℕ) (e : Endian) (size blocks from : ℕ) (x : Indexed) (o : Op) (was : Bool) (end : ℕ) (y : Indexed) (is : Bool) (old new : Option (List ℕ)) (failures now : ℕ) (before after : List Place) (f : SessionFault) (held_now : ℕ)
    → TakesBy {T = T} packs held page e size blocks from x o was end y is old new failures now before after (Err f) held_now → TakesBy {T = U} packs held page e size blocks from x o was end y is old new failures now before after (Err f) held_now
fault_as T U packs held page e size blocks from x o was end y is old new failures now before after (fault.Refused g) held_now did = did
fault_as T U packs held page e size blocks from x o was end y is old new failures now before after (fault.Full w l) held_now did = did
fault_as T U packs held page e size blocks from x o was end y is old new failures now before after fault.Sink held_now did = did
fault_as T U packs held page e size blocks from x o was end y is old new failures now before after fault.OutOfMemory held_now did = did
fault_as T U packs held page e size blocks from x o was end y is old new failures now before after fault.Broken held_now did = did
fault_as T U packs held page e size blocks from x o was end y is old new failures now before after fault.ReadOnly held_now did = did
fault_as T U packs held page e size blocks from x o was end y is old new failures now before after fault.Geometry held_now did = did

-- at a fault it is as much as before
pub held_still : (T : Type 0) (packs : Bool) (held page : ℕ) (e : Endian) (size blocks from : ℕ) (x : Indexed) (o : Op) (was : Bool) (end : ℕ) (y : Indexed) (is : Bool) (old new : Option (List ℕ)) (failures now : ℕ) (before after : List Place) (f : SessionFault) (held_now : ℕ)
    → TakesBy {T = T} packs held page e size blocks from x o was end y is old new failures now before after (Err f) held_now → held_now ≡ held
held_still T packs held page e size blocks from x o was end y is old new failures now before after (fault.Refused g) held_now (did, holds) = holds
held_still T packs held page e size blocks from x o was end y is old new failures now before after (fault.Full w l) held_now (did, holds) = holds
held_still T packs held page e size blocks from x o was end y is old new failures now before after fault.Sink held_now (did, holds) = holds
held_still T packs held page e size blocks from x o was end y is old new failures now before after fault.OutOfMemory held_now (did, holds) = holds
held_still T packs held page e size blocks from x o was end y is old new failures now before after fault.Broken held_now (did, holds) = holds
held_still T packs held page e size blocks from x o was end y is old new failures now before after fault.ReadOnly held_now (did, holds) = absurd holds
held_still T packs held page e size blocks from x o was end y is old new failures now before after fault.Geometry held_now (did, holds) = absurd holds

-- ---- what survives

-- what one did that may not pack, one may do that does
as_packing : (packs : Bool) (held page : ℕ) (e : Endian) (size blocks from : ℕ) (x : Indexed) (ops : List Op) (was : Bool) (n : ℕ) (forms : List (List ℕ)) (end : ℕ) (y : Indexed) (is : Bool) (old new : Option (List ℕ)) (failures now : ℕ)
    (places : List Place) (stopped : Option SessionFault) → RunsBy packs held page e size blocks from x ops was n forms end y is old new failures now places stopped
    → RunsBy true held page e size blocks from x ops was n forms end y is old new failures now places stopped
as_packing true held page e size blocks from x ops was n forms end y is old new failures now places stopped did = did
as_packing false held page e size blocks from x ops was n forms end y is old new failures now places stopped did =
    unpacked_may_pack held (flash_by page e size blocks) (state_by from x was []) ops n forms (state_by end y is places) (change_by old new failures now) stopped did

pub run_survives : (packs : Bool) (held page : ℕ) (e : Endian) (size blocks from : ℕ) (x : Indexed) (ops : List Op) (was : Bool) (n : ℕ) (forms : List (List ℕ)) (end : ℕ) (y : Indexed) (is : Bool) (old new : Option (List ℕ)) (failures now : ℕ)
    (places : List Place) (stopped : Option SessionFault) (base : List ℕ) (done : List Op) (before : List (List ℕ)) → IsPage page → page + 80 ≤ size
    → RunsBy packs held page e size blocks from x ops was n forms end y is old new failures now places stopped → IsFalse was → AreBytes base → AllByRecursion OpFits (take (attempted n is) ops)
    → GoesOnAs (flash_by page e size blocks) base done before from x → held ≡ held_by e size base before
    → (more : List (List ℕ)) × SurvivesAfterAs e size blocks base (steps_through page e size base done) (steps_of_first page x ops (attempted n is)) before (forms ++ more)
run_survives packs held page e size blocks from x ops was n forms end y is old new failures now places stopped base done before is_page room did whole are_bytes widths on held_is =
    run_survives_as (flash_by page e size blocks) base done ops before forms (log_at from x []) n (state_by end y is places) (change_by old new failures now) stopped is_page room on are_bytes widths
    (subst (λ (h : ℕ). RunsBy true h page e size blocks from x ops false n forms end y is old new failures now places stopped) held_is
    (subst (λ (b : Bool). RunsBy true held page e size blocks from x ops b n forms end y is old new failures now places stopped) whole
    (as_packing packs held page e size blocks from x ops was n forms end y is old new failures now places stopped did)))

was_whole : (T : Type 0) (packs : Bool) (held page : ℕ) (e : Endian) (size blocks from : ℕ) (x : Indexed) (o : Op) (was : Bool) (end : ℕ) (y : Indexed) (is : Bool) (old new : Option (List ℕ)) (failures now : ℕ) (before after : List Place)
    (f : SessionFault) → AppliesBy {T = T} packs held page e size blocks from x o was end y is old new failures now before after (Err f) → IsFalse is → IsFalse was
was_whole T packs held page e size blocks from x o was end y is old new failures now before after (fault.Refused f) did whole = did.0
was_whole T packs held page e size blocks from x o was end y is old new failures now before after (fault.Full w l) did whole = did.0
was_whole T packs held page e size blocks from x o was end y is old new failures now before after fault.Sink did whole = did.0
was_whole T packs held page e size blocks from x o was end y is old new failures now before after fault.OutOfMemory did whole = did.0
was_whole T packs held page e size blocks from x o was end y is old new failures now before after fault.Broken did whole = absurd (true≢false (sym did.1 ∙ whole))
was_whole T packs held page e size blocks from x o was end y is old new failures now before after fault.ReadOnly did whole = absurd did
was_whole T packs held page e size blocks from x o was end y is old new failures now before after fault.Geometry did whole = absurd did

was_whole_run : (packs : Bool) (held page : ℕ) (e : Endian) (size blocks from : ℕ) (x : Indexed) (ops : List Op) (was : Bool) (n : ℕ) (forms : List (List ℕ)) (end : ℕ) (y : Indexed) (is : Bool) (old new : Option (List ℕ)) (failures now : ℕ)
    (places : List Place) (stopped : Option SessionFault) → RunsBy packs held page e size blocks from x ops was n forms end y is old new failures now places stopped → IsFalse is → IsFalse was
was_whole_run packs held page e size blocks from x ops was n forms end y is old new failures now places None did whole = sym did.1 ∙ whole
was_whole_run packs held page e size blocks from x ops was n forms end y is old new failures now places (Some f) did whole =
    was_whole (Unit {0}) packs (held + content_len e forms) page e size blocks did.mid.cursor did.mid.index did.op was end y is did.between new failures now did.mid.places places f did.stop whole

pub run_goes_on : (packs : Bool) (held held_now page : ℕ) (e : Endian) (size blocks from : ℕ) (x : Indexed) (ops : List Op) (was : Bool) (n : ℕ) (forms : List (List ℕ)) (end : ℕ) (y : Indexed) (is : Bool) (old new : Option (List ℕ)) (failures now : ℕ)
    (places : List Place) (stopped : Option SessionFault) (base : List ℕ) (done : List Op) (before : List (List ℕ))
    → RunsBy packs held page e size blocks from x ops was n forms end y is old new failures now places stopped → IsFalse is → AllByRecursion OpFits (take n ops)
    → GoesOnAs (flash_by page e size blocks) base done before from x → held ≡ held_by e size base before → held_now ≡ held + content_len e forms
    → GoesOnAs (flash_by page e size blocks) base (done ++ take n ops) (before ++ forms) end y × (held_now ≡ held_by e size base (before ++ forms))
run_goes_on packs held held_now page e size blocks from x ops was n forms end y is old new failures now places stopped base done before did whole widths on held_is now_is = (
  run_goes_on_as (flash_by page e size blocks) base done ops before forms (log_at from x []) n (state_by end y is places) (change_by old new failures now) stopped on widths whole
      (subst (λ (h : ℕ). RunsBy true h page e size blocks from x ops false n forms end y is old new failures now places stopped) held_is
      (subst (λ (b : Bool). RunsBy true held page e size blocks from x ops b n forms end y is old new failures now places stopped)
      (was_whole_run packs held page e size blocks from x ops was n forms end y is old new failures now places stopped did whole)
      (as_packing packs held page e size blocks from x ops was n forms end y is old new failures now places stopped did))),
  omega (arith, held_is, now_is, contents_on e before forms),
)

-- the same of a session that has the same flash and page
pub moved : (page page' : Page) (e : Endian) (size size' blocks blocks' : ℕ) (base : List ℕ) (done : List Op) (before : List (List ℕ)) (from held : ℕ) (x : Indexed)
    → page ≡ page' → size ≡ size' → blocks ≡ blocks'
    → GoesOnAs (flash_by (page_size page) e size blocks) base done before from x × (held ≡ held_by e size base before)
    → GoesOnAs (flash_by (page_size page') e size' blocks') base done before from x × (held ≡ held_by e size' base before)
moved page page' e size size' blocks blocks' base done before from held x page_is size_is blocks_is on =
    subst (λ (p : Page). GoesOnAs (flash_by (page_size p) e size' blocks') base done before from x × (held ≡ held_by e size' base before)) page_is
    (subst (λ (i : ℕ). GoesOnAs (flash_by (page_size page) e i blocks') base done before from x × (held ≡ held_by e i base before)) size_is
    (subst (λ (i : ℕ). GoesOnAs (flash_by (page_size page) e size i) base done before from x × (held ≡ held_by e size base before)) blocks_is on))

-- ---- one operation alone

-- the forms that went out for it
pub alone : (T : Type 0) (packs : Bool) (held page : ℕ) (e : Endian) (size blocks from : ℕ) (x : Indexed) (o : Op) (was : Bool) (end : ℕ) (y : Indexed) (is : Bool) (old new : Option (List ℕ)) (failures now : ℕ) (places : List Place)
    (r : Result T SessionFault) (held_now : ℕ) → held ≤ greatest_contents → PutBy e size from x [] [] from x old old [] []
    → TakesBy {T = T} packs held page e size blocks from x o was end y is old new failures now [] places r held_now
    → (forms : List (List ℕ)) × RunsBy packs held page e size blocks from x (o ∷ []) was (accepted_by r) forms end y is old new failures now places (stop_by r) × (held_now ≡ held + content_len e forms)
alone T packs held page e size blocks from x o was end y is old new failures now places (Ok u) held_now within put (did, holds) = (
  [] ++ did.2.1,
  (
    refl,
    did.1 ∙ sym did.0,
    run_more u packs held held page e size blocks from x (o ∷ []) 0 o o [] from end x y was is old old new failures now [] places (omega arith) refl (omega arith)
        (none_run packs held page e size blocks from x (o ∷ []) old within put) did,
    did.3,
  ),
  holds,
)
alone T packs held page e size blocks from x o was end y is old new failures now places (Err f) held_now within put (did, holds) = (
  [],
  record { mid = log_at from x []; between = old; op = o; run = none_run packs held page e size blocks from x (o ∷ []) old within put; next = refl; stop = stop_at f did },
  omega (arith, held_still T packs held page e size blocks from x o was end y is old new failures now [] places f held_now (did, holds)),
)
  where
    none : held ≡ held + content_len e []
    none = omega arith

    stop_at : (f : SessionFault) → AppliesBy {T = T} packs held page e size blocks from x o was end y is old new failures now [] places (Err f)
        → AppliesAs {T = Unit {0}} (packs_by packs (held + content_len e []) page e size blocks) (state_by from x was []) o (state_by end y is places) (change_by old new failures now) (Err f)
    stop_at f did = any f (subst (λ (h : ℕ). AppliesBy {T = T} packs h page e size blocks from x o was end y is old new failures now [] places (Err f)) none did)
      where
        any : (f : SessionFault) → AppliesBy {T = T} packs (held + content_len e []) page e size blocks from x o was end y is old new failures now [] places (Err f)
            → AppliesAs {T = Unit {0}} (packs_by packs (held + content_len e []) page e size blocks) (state_by from x was []) o (state_by end y is places) (change_by old new failures now) (Err f)
        any (fault.Refused f) did = did
        any (fault.Full w l) did = did
        any fault.Sink did = did
        any fault.OutOfMemory did = did
        any fault.Broken did = did
        any fault.ReadOnly did = did
        any fault.Geometry did = did
