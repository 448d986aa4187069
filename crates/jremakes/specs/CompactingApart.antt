-- What `compact --clashes higher` judges of an image before a file is made: which nodes stay, which
-- of these matter, and whether a flash has room for them.
use Rattle.std.specs.Prelude.{◌≡◌, ℕ, List, Result, Ok, Err}
use Rattle.jnode.specs.declared.order.Endian.{Endian}
use Rattle.jclash.specs.declared.parting.LeftOut.{LeftOut}
use Rattle.jcollect.specs.PlanningApart.{ArePlannedApart, IsUnplannedApart}
use Rattle.jcollect.specs.declared.apart.PlanApart.{PlanApart}
use Rattle.jcollect.specs.declared.fault.ThroughFault.{ThroughFault}
use Rattle.jcollect.specs.declared.fault.ThroughFault.TheVariants as through
use Rattle.jreport.specs.declared.faults.ProgramFault.{ProgramFault}
use Rattle.jedge.specs.Images.{view_refusal}
use Rattle.jedge.specs.declared.fault.Fault.{Fault}
use Rattle.jedge.specs.declared.fault.Fault.TheVariants as fault
use Rattle.jremakes.specs.Compacting.{collect_refusal}

-- the nodes that stay are not mounted, or do not go out, as the program tells it
abbrev pub apart_refusal : ℕ → ℕ → ThroughFault → ProgramFault
apart_refusal size blocks (through.Unmounted why) = view_refusal why
apart_refusal size blocks (through.Uncollected why) = collect_refusal size blocks why

-- where the nodes lie that go out, how many the image has, how many bytes go out, and which nodes
-- are left out since others clash with them
pub record CompactApartPlan : Type 0 where
  pub addresses : List ℕ
  pub nodes : ℕ
  pub bytes : ℕ
  pub left : List LeftOut

abbrev pub compact_apart_plan : PlanApart → CompactApartPlan
compact_apart_plan planned = record {
  addresses = planned.plan.addresses.items;
  nodes = planned.plan.nodes;
  bytes = planned.plan.bytes;
  left = planned.left.items;
}

abbrev pub IsCompactApartPlan : Endian → ℕ → ℕ → List ℕ → CompactApartPlan → Type 0
IsCompactApartPlan e size blocks image plan =
    ArePlannedApart e size blocks image plan.left plan.addresses plan.nodes plan.bytes

-- this is planned; or this is why not
abbrev pub IsCompactableApart : Endian → ℕ → ℕ → List ℕ → Result CompactApartPlan Fault → Type 0
IsCompactableApart e size blocks image (Ok plan) = IsCompactApartPlan e size blocks image plan
IsCompactableApart e size blocks image (Err (fault.File file)) = ⊥
IsCompactableApart e size blocks image (Err (fault.NotRead file)) = ⊥
IsCompactableApart e size blocks image (Err (fault.NoNodes told others)) = ⊥
IsCompactableApart e size blocks image (Err (fault.NoSpace folder)) = ⊥
IsCompactableApart e size blocks image (Err (fault.Findings told findings)) = ⊥
IsCompactableApart e size blocks image (Err (fault.Refused why)) = (refused : ThroughFault)
    × (why ≡ apart_refusal size blocks refused) × IsUnplannedApart e size blocks image refused
IsCompactableApart e size blocks image (Err fault.Output) = ⊥
IsCompactableApart e size blocks image (Err fault.OutOfMemory) = ⊥
