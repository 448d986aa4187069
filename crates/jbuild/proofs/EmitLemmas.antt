-- What went out for a base, and for a run on it.
use Rattle.std.proofs.Common.{◌≡◌, ℕ, Bool, false, List, Option, Result, Ok, Err, inl, inr, refl, sym, ap, ◌∙◌, subst}
use Rattle.std.specs.Prelude.{IfOk, IsOk, is_err}
use Rattle.std.specs.Io.KnownBytes.{Appends}
use Rattle.flashbase.specs.Device.{Puts}
use Rattle.flashbase.specs.Sinks.{SinkChange}
use Rattle.jnode.specs.declared.order.Endian.{Endian}
use Rattle.jmount.specs.Mount.{Mount}
use Rattle.jsteps.specs.Nodes.{Indexed}
use Rattle.jscan.specs.Pages.{page_size}
use Rattle.jsteps.specs.Refusals.{steps_of_first}
use Rattle.jsteps.specs.declared.op.Op.{Op}
use Rattle.jscan.specs.declared.page.Page.{Page}
use Rattle.jlog.specs.Headline.{index_of_image, Survives}
use Rattle.jlog.specs.Left.{front_of}
use Rattle.jlog.specs.Session.{IsFresh, attempted}
use Rattle.jlog.proofs.Parts.{RunsBy}
use Rattle.jlog.specs.declared.fault.SessionFault.{SessionFault}
use Rattle.jlog.specs.declared.report.Place.{Place}
use Rattle.jlog.specs.declared.start.Flash.{Flash}
use Rattle.jlog.specs.Resuming.{resumes_by}
use Rattle.jlog.specs.View.{written_flash}
use Rattle.jlog.proofs.ResumeLemmas.{why_not}
use Rattle.jbuild.specs.Blocks.{TellsRefusedOn}
use Rattle.jbuild.specs.Emitting.{IsEmitted, IsNotEmitted, IsNotRun, paged_flash, session_fault}
use Rattle.jbuild.specs.Length.{TellsLength}
use Rattle.jbuild.specs.declared.emitting.EmitFault.{EmitFault}
use Rattle.jbuild.specs.declared.emitting.EmitFault.TheVariants as emit

number_or_zero : {E : Type 0} → Result ℕ E → ℕ
number_or_zero (Ok n) = n
number_or_zero (Err e) = 0

pub same_number : {E : Type 0} (r : Result ℕ E) (a b : ℕ) → r ≡ Ok a → r ≡ Ok b → a ≡ b
unfolding number_or_zero
same_number r a b one other = ap number_or_zero (sym one ∙ other)

-- what did not fail put all
pub puts_all : {T E : Type 0} (old new : Option (List ℕ)) (before now : ℕ) (bytes : List ℕ) (r : Result T E) → is_err r ≡ false
    → Puts old new before now bytes r → Appends old new bytes × (now ≡ before)
puts_all old new before now bytes (Ok x) fine put = put
puts_all old new before now bytes (Err e) fine put = cc

-- a run from where the base is gone on from
emitted_at : (page : Page) (e : Endian) (size blocks : ℕ) (base : List ℕ) (from : ℕ) (x : Indexed) (ops : List Op) (was : Bool) (n end : ℕ) (y : Indexed) (is : Bool)
    (old between new : Option (List ℕ)) (before mid now : ℕ) (places : List Place) (stopped : Option SessionFault)
    → IsFresh e size blocks base from x → was ≡ false → mid ≡ before → Appends old between (front_of base from)
    → RunsBy (page_size page) e size blocks from x ops was n end y is between new mid now places stopped
    → Survives e size blocks base (steps_of_first (page_size page) x ops (attempted n is))
    → IsEmitted (paged_flash page e size blocks) base ops n places stopped (record { old = old; new = new; before = before; now = now })
emitted_at page e size blocks base from x ops was n end y is old between new before mid now places stopped fresh whole same front runs survives = record {
  between = between;
  end = end;
  index = y;
  broken = is;
  front = subst (λ (at : ℕ). Appends old between (front_of base at)) fresh.cursor_is front;
  runs = subst (λ (at : ℕ). RunsBy (page_size page) e size blocks at (index_of_image e size base) ops false n end y is between new before now places stopped) fresh.cursor_is
      (subst (λ (z : Indexed). RunsBy (page_size page) e size blocks from z ops false n end y is between new before now places stopped) fresh.index_is
      (subst (λ (b : Bool). RunsBy (page_size page) e size blocks from x ops b n end y is between new before now places stopped) whole
      (subst (λ (m : ℕ). RunsBy (page_size page) e size blocks from x ops was n end y is between new m now places stopped) same runs)));
  survives = subst (λ (z : Indexed). Survives e size blocks base (steps_of_first (page_size page) z ops (attempted n is))) fresh.index_is survives;
}

-- the same, where the session's own words for the flash and the base are known
pub emitted_by : (page p : Page) (e : Endian) (size s blocks b : ℕ) (base image : List ℕ) (from at : ℕ) (x : Indexed) (ops : List Op) (was : Bool) (n end : ℕ) (y : Indexed) (is : Bool)
    (old between new : Option (List ℕ)) (before mid now : ℕ) (places : List Place) (stopped : Option SessionFault)
    → p ≡ page → s ≡ size → b ≡ blocks → image ≡ base → at ≡ from
    → IsFresh e s b image from x → was ≡ false → mid ≡ before → Appends old between (front_of base at)
    → RunsBy (page_size p) e s b from x ops was n end y is between new mid now places stopped
    → Survives e s b image (steps_of_first (page_size p) x ops (attempted n is))
    → IsEmitted (paged_flash page e size blocks) base ops n places stopped (record { old = old; new = new; before = before; now = now })
emitted_by page p e size s blocks b base image from at x ops was n end y is old between new before mid now places stopped same_page same_size same_blocks same_base same_at fresh whole same front runs survives =
    subst (λ (z : Page). IsEmitted (paged_flash z e size blocks) base ops n places stopped (record { old = old; new = new; before = before; now = now })) same_page
    (subst (λ (z : List ℕ). IsEmitted (paged_flash p e size blocks) z ops n places stopped (record { old = old; new = new; before = before; now = now })) same_base
    (subst (λ (z : ℕ). IsEmitted (paged_flash p e size z) image ops n places stopped (record { old = old; new = new; before = before; now = now })) same_blocks
    (subst (λ (z : ℕ). IsEmitted (paged_flash p e z b) image ops n places stopped (record { old = old; new = new; before = before; now = now })) same_size
    (emitted_at p e s b image from x ops was n end y is old between new before mid now places stopped fresh whole same
    (subst (λ (z : List ℕ). Appends old between (front_of z from)) (sym same_base) (subst (λ (z : ℕ). Appends old between (front_of base z)) same_at front)) runs survives))))

-- ---- where nothing was run

-- the image is not gone on from
pub not_started : (page : Page) (e : Endian) (size blocks : ℕ) (m : Mount) (taken : Option (List ℕ)) (failures : ℕ) (f : SessionFault)
    → resumes_by page e size blocks m ≡ Err f → IsNotEmitted page e size blocks m (record { old = taken; new = taken; before = failures; now = failures }) f
not_started page e size blocks m taken failures f is = elim (why_not page e size blocks m f is) [
  | inl read_only ↦ at (sym read_only) (λ same. (same, refl, refl))
  | inr geometry ↦ at (sym geometry) (λ same. (same, refl, refl))
]
  where
    at : {g : SessionFault} → g ≡ f → (resumes_by page e size blocks m ≡ Err g → IsNotEmitted page e size blocks m (record { old = taken; new = taken; before = failures; now = failures }) g)
        → IsNotEmitted page e size blocks m (record { old = taken; new = taken; before = failures; now = failures }) f
    at {g} same here = subst (IsNotEmitted page e size blocks m (record { old = taken; new = taken; before = failures; now = failures })) same (here (is ∙ ap Err (sym same)))

-- it is, and the sink failed at its bytes, or memory ran out after them
pub not_run : (page : Page) (e : Endian) (size blocks : ℕ) (m : Mount) (sink : SinkChange) (f : EmitFault)
    → IsOk (resumes_by page e size blocks m) → IsNotRun (paged_flash page e size blocks) m.image sink f → IsNotEmitted page e size blocks m sink (session_fault f)
not_run page e size blocks m sink emit.Sink ok put = (ok, put.0, put.1)
not_run page e size blocks m sink emit.OutOfMemory ok put = (ok, put.0, put.1)

pub does_go_on : (page : Page) (e : Endian) (size blocks : ℕ) (m : Mount) (at : ℕ) → resumes_by page e size blocks m ≡ Ok at → IsOk (resumes_by page e size blocks m)
does_go_on page e size blocks m at is = subst (λ (r : Result ℕ SessionFault). IsOk r) (sym is) refl

-- the same, where the start's words for the flash and the mount are known
pub emitted_on : (e : Endian) (flash' flash : Flash) (m' m : Mount) (ops : List Op) (n : ℕ) (places : List Place) (stopped : Option SessionFault) (sink : SinkChange)
    → flash' ≡ flash → m' ≡ m → IsEmitted (written_flash e flash') m'.image ops n places stopped sink → IsEmitted (written_flash e flash) m.image ops n places stopped sink
emitted_on e flash' flash m' m ops n places stopped sink flash_is mount_is did =
    subst (λ (f : Flash). IsEmitted (written_flash e f) m.image ops n places stopped sink) flash_is
    (subst (λ (k : Mount). IsEmitted (written_flash e flash') k.image ops n places stopped sink) mount_is did)

pub length_on : (e : Endian) (flash' flash : Flash) (m' m : Mount) (ops : List Op) (n : ℕ) (places : List Place)
    → flash' ≡ flash → m' ≡ m → TellsLength (written_flash e flash') m'.image ops n places → TellsLength (written_flash e flash) m.image ops n places
length_on e flash' flash m' m ops n places flash_is mount_is did =
    subst (λ (f : Flash). TellsLength (written_flash e f) m.image ops n places) flash_is
    (subst (λ (k : Mount). TellsLength (written_flash e flash') k.image ops n places) mount_is did)

pub blocks_on : {E : Type 0} (e : Endian) (flash' flash : Flash) (m' m : Mount) (ops : List Op) (n : ℕ) (stopped : Option SessionFault) (blocks : Result (Option ℕ) E)
    → flash' ≡ flash → m' ≡ m → IfOk blocks (TellsRefusedOn (written_flash e flash') m'.image ops n stopped) → IfOk blocks (TellsRefusedOn (written_flash e flash) m.image ops n stopped)
blocks_on e flash' flash m' m ops n stopped blocks flash_is mount_is did =
    subst (λ (f : Flash). IfOk blocks (TellsRefusedOn (written_flash e f) m.image ops n stopped)) flash_is
    (subst (λ (k : Mount). IfOk blocks (TellsRefusedOn (written_flash e flash') k.image ops n stopped)) mount_is did)

pub refused_on : (e : Endian) (flash' flash : Flash) (m' m : Mount) (sink : SinkChange) (f : EmitFault)
    → flash' ≡ flash → m' ≡ m → IsNotRun (written_flash e flash') m'.image sink f → IsNotRun (written_flash e flash) m.image sink f
refused_on e flash' flash m' m sink f flash_is mount_is did =
    subst (λ (k : Flash). IsNotRun (written_flash e k) m.image sink f) flash_is
    (subst (λ (k : Mount). IsNotRun (written_flash e flash') k.image sink f) mount_is did)
