-- Whether an operation is accepted in a row of openings, with what was chosen for its nodes.
use Rattle.std.specs.Prelude.{◌≡◌, ℕ, Bool, IsTrue, IsFalse, List, Ok, Err}
use Rattle.jnode.specs.declared.order.Endian.{Endian}
use Rattle.jscan.specs.Pages.{page_size}
use Rattle.jsteps.specs.Nodes.{nodes_of}
use Rattle.jsteps.specs.Refusals.{planned_by}
use Rattle.jsteps.specs.declared.op.Op.{Op}
use Rattle.jsteps.specs.declared.step.Step.{Step}
use Rattle.jlog.specs.Places.{needed}
use Rattle.jlog.specs.SessionAs.{FlashAs, flash_as}
use Rattle.jlog.specs.declared.fault.SessionFault.{SessionFault}
use Rattle.jlog.specs.declared.fault.SessionFault.TheVariants as fault
use Rattle.jrests.specs.Shares.{fit_in}
use Rattle.jpacked.specs.Forms.{AreMadeOf, ArePacked, AreNoneUnless, step_forms}
use Rattle.jupdate.specs.Rows.{free_in}
use Rattle.jupdate.specs.SessionIn.{IsTooMuchIn}
use Rattle.jupdate.specs.Writing.{LogIn}
use Rattle.jupdate.specs.declared.accepting.Room.{Room}

-- the flash, as such a session sees it
abbrev pub flash_in_room : Endian → Bool → Room → FlashAs
flash_in_room e packs room = flash_as packs room.held (record {
  order = e;
  size = room.flash.size;
  blocks = room.flash.count;
  page = page_size room.page;
})

-- ---- steps

-- These packed data make forms of the nodes of steps, which fit the row that is left, and so much
-- content is held with them.
pub record AreFittingIn (on : FlashAs) (from : LogIn) (steps : List Step) (streams : List (List ℕ))
    (now : ℕ) : Type 0 where
  pub packed : ArePacked on.flash.order from.index steps on.held streams now
  pub plain : AreNoneUnless on.packs streams
  pub fits : IsTrue (fit_in on.flash.size from.row
      (step_forms on.flash.order from.index steps streams))

-- some packed data make forms of their nodes that do not fit, which need so much room
pub record IsFullIn (on : FlashAs) (from : LogIn) (steps : List Step) (wanted left : ℕ) : Type
    0 where
  pub streams : List (List ℕ)
  pub made : AreMadeOf on.flash.order (nodes_of from.index steps) streams
  pub plain : AreNoneUnless on.packs streams
  pub fits : IsFalse (fit_in on.flash.size from.row
      (step_forms on.flash.order from.index steps streams))
  pub wanted_is : wanted ≡ needed (step_forms on.flash.order from.index steps streams)
  pub left_is : left ≡ free_in on.flash.size from.row

-- why none were chosen for them; out of memory says nothing
abbrev pub ChoosesNoneIn : FlashAs → LogIn → List Step → SessionFault → Type 0
ChoosesNoneIn on from steps (fault.Full wanted left) = IsFullIn on from steps wanted left
ChoosesNoneIn on from steps fault.OutOfMemory = Unit {0}
ChoosesNoneIn on from steps (fault.Refused f) = ⊥
ChoosesNoneIn on from steps fault.Sink = ⊥
ChoosesNoneIn on from steps fault.Broken = ⊥
ChoosesNoneIn on from steps fault.ReadOnly = ⊥
ChoosesNoneIn on from steps fault.Geometry = ⊥

-- ---- operations

-- rule: The log: A session in a row of openings accepts an operation as a whole, by the lengths of
--   its forms.
--   definitions: jupdate.Accepting.IsChosenIn, jupdate.Accepting.DeclinesIn,
--   jupdate.SessionIn.IsTooMuchIn
--   code: jupdate::accepting::accept, jupdate::room::has_room
-- It has these steps, and these packed data were chosen for them.
pub record IsChosenIn (on : FlashAs) (from : LogIn) (o : Op) (steps : List Step)
    (streams : List (List ℕ)) (now : ℕ) : Type 0 where
  pub planned : planned_by on.flash.page from.index o ≡ Ok steps
  pub fitting : AreFittingIn on from steps streams now

-- why it has none, or its forms do not fit; out of memory says nothing
abbrev pub DeclinesIn : FlashAs → LogIn → Op → SessionFault → Type 0
DeclinesIn on from o (fault.Refused f) = planned_by on.flash.page from.index o ≡ Err f
DeclinesIn on from o (fault.Full wanted left) = IsTooMuchIn on.packs on.flash from o wanted left
DeclinesIn on from o fault.OutOfMemory = Unit {0}
DeclinesIn on from o fault.Sink = ⊥
DeclinesIn on from o fault.Broken = ⊥
DeclinesIn on from o fault.ReadOnly = ⊥
DeclinesIn on from o fault.Geometry = ⊥
