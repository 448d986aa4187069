-- Why an operation is not accepted.
use Rattle.std.proofs.Common.{◌≡◌, ℕ, Bool, List, Ok, subst, sym}
use Rattle.jsteps.specs.Nodes.{nodes_of}
use Rattle.jsteps.specs.Refusals.{planned_by}
use Rattle.jsteps.specs.declared.op.Op.{Op}
use Rattle.jsteps.specs.declared.step.Step.{Step}
use Rattle.jlog.specs.SessionAs.{flash_as}
use Rattle.jlog.specs.Session.{Flash}
use Rattle.jlog.specs.declared.fault.SessionFault.{SessionFault}
use Rattle.jlog.specs.declared.fault.SessionFault.TheVariants as fault
use Rattle.jpacked.specs.Forms.{step_forms}
use Rattle.jpacked.proofs.PlainLemmas.{forms_by}
use Rattle.jupdate.specs.Accepting.{ChoosesNoneIn, DeclinesIn}
use Rattle.jupdate.specs.Writing.{LogIn}

pub declines : (packs : Bool) (held : ℕ) (flash : Flash) (from : LogIn) (o : Op) (steps ss : List Step) (f : SessionFault) → planned_by flash.page from.index o ≡ Ok steps → ss ≡ steps
    → ChoosesNoneIn (flash_as packs held flash) from ss f → DeclinesIn (flash_as packs held flash) from o f
declines packs held flash from o steps ss (fault.Full wanted left) planned same none = record {
  steps = ss;
  forms = step_forms flash.order from.index ss none.streams;
  planned = subst (λ (l : List Step). planned_by flash.page from.index o ≡ Ok l) (sym same) planned;
  are = forms_by packs flash.order (nodes_of from.index ss) none.streams none.made none.plain;
  fits = none.fits;
  wanted_is = none.wanted_is;
  left_is = none.left_is;
}
declines packs held flash from o steps ss fault.OutOfMemory planned same none = tt
declines packs held flash from o steps ss (fault.Refused f) planned same none = absurd none
declines packs held flash from o steps ss fault.Sink planned same none = absurd none
declines packs held flash from o steps ss fault.Broken planned same none = absurd none
declines packs held flash from o steps ss fault.ReadOnly planned same none = absurd none
declines packs held flash from o steps ss fault.Geometry planned same none = absurd none
