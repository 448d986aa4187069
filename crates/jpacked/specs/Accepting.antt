-- Whether an operation is accepted, with what was chosen for its nodes.
use Rattle.std.specs.Prelude.{◌≡◌, ℕ, Bool, IsTrue, IsFalse, List, Ok, Err}
use Rattle.jnode.specs.declared.order.Endian.{Endian}
use Rattle.jscan.specs.Pages.{page_size}
use Rattle.jsteps.specs.Nodes.{nodes_of}
use Rattle.jsteps.specs.Refusals.{planned_by}
use Rattle.jsteps.specs.declared.op.Op.{Op}
use Rattle.jsteps.specs.declared.step.Step.{Step}
use Rattle.jlog.specs.Places.{fit, needed, free}
use Rattle.jlog.specs.Running.{Log}
use Rattle.jlog.specs.SessionAs.{FlashAs, flash_as, IsTooMuch}
use Rattle.jlog.specs.declared.fault.SessionFault.{SessionFault}
use Rattle.jlog.specs.declared.fault.SessionFault.TheVariants as fault
use Rattle.jpacked.specs.Forms.{AreMadeOf, ArePacked, AreNoneUnless, step_forms}
use Rattle.jpacked.specs.declared.accepting.Room.{Room}

-- the flash, as such a session sees it
abbrev pub flash_of_room : Endian → Bool → Room → FlashAs
flash_of_room e packs room = flash_as packs room.held (record {
  order = e;
  size = room.flash.size;
  blocks = room.flash.count;
  page = page_size room.page;
})

-- ---- steps

-- These packed data make forms of the nodes of steps, which fit, and so much content is held with
-- them.
pub record AreFitting (on : FlashAs) (from : Log) (steps : List Step) (streams : List (List ℕ))
    (now : ℕ) : Type 0 where
  pub packed : ArePacked on.flash.order from.index steps on.held streams now
  pub plain : AreNoneUnless on.packs streams
  pub fits : IsTrue (fit on.flash.size on.flash.blocks from.cursor
      (step_forms on.flash.order from.index steps streams))

-- some packed data make forms of their nodes that do not fit, which need so much room
pub record IsFullFor (on : FlashAs) (from : Log) (steps : List Step) (wanted left : ℕ) : Type
    0 where
  pub streams : List (List ℕ)
  pub made : AreMadeOf on.flash.order (nodes_of from.index steps) streams
  pub plain : AreNoneUnless on.packs streams
  pub fits : IsFalse (fit on.flash.size on.flash.blocks from.cursor
      (step_forms on.flash.order from.index steps streams))
  pub wanted_is : wanted ≡ needed (step_forms on.flash.order from.index steps streams)
  pub left_is : left ≡ free on.flash.size on.flash.blocks from.cursor

-- why none were chosen for them; out of memory says nothing
abbrev pub ChoosesNone : FlashAs → Log → List Step → SessionFault → Type 0
ChoosesNone on from steps (fault.Full wanted left) = IsFullFor on from steps wanted left
ChoosesNone on from steps fault.OutOfMemory = Unit {0}
ChoosesNone on from steps (fault.Refused f) = ⊥
ChoosesNone on from steps fault.Sink = ⊥
ChoosesNone on from steps fault.Broken = ⊥
ChoosesNone on from steps fault.ReadOnly = ⊥
ChoosesNone on from steps fault.Geometry = ⊥

-- ---- operations

-- rule: The log: A packing session accepts an operation as a whole, by the lengths of its forms.
--   definitions: jpacked.Accepting.IsChosenFor, jpacked.Accepting.DeclinesAs,
--   jlog.SessionAs.IsTooMuch
--   code: jpacked::accepting::accept, jpacked::room::has_room
-- It has these steps, and these packed data were chosen for them.
pub record IsChosenFor (on : FlashAs) (from : Log) (o : Op) (steps : List Step)
    (streams : List (List ℕ)) (now : ℕ) : Type 0 where
  pub planned : planned_by on.flash.page from.index o ≡ Ok steps
  pub fitting : AreFitting on from steps streams now

-- why it has none, or its forms do not fit; out of memory says nothing
abbrev pub DeclinesAs : FlashAs → Log → Op → SessionFault → Type 0
DeclinesAs on from o (fault.Refused f) = planned_by on.flash.page from.index o ≡ Err f
DeclinesAs on from o (fault.Full wanted left) = IsTooMuch on.packs on.flash from o wanted left
DeclinesAs on from o fault.OutOfMemory = Unit {0}
DeclinesAs on from o fault.Sink = ⊥
DeclinesAs on from o fault.Broken = ⊥
DeclinesAs on from o fault.ReadOnly = ⊥
DeclinesAs on from o fault.Geometry = ⊥
