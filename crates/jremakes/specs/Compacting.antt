-- What `compact` judges of an image before a file is made: which nodes matter, and whether a flash
-- has room for them.
use Rattle.std.specs.Prelude.{◌≡◌, ◌⊎◌, ℕ, ◌++◌, ◌∷◌, [], List, codes, decimal, Option, Some, None, Result, Ok, Err}
use Rattle.jnode.specs.declared.order.Endian.{Endian}
use Rattle.jexpand.specs.declared.fault.ConvertFault.TheVariants as convert
use Rattle.jscan.specs.declared.page.Page.TheVariants as pages
use Rattle.jmount.specs.Mount.{Mount}
use Rattle.jlog.specs.declared.fault.SessionFault.TheVariants as session
use Rattle.jthrough.specs.Addressed.{addressed_nodes}
use Rattle.jcollect.specs.Planning.{ArePlanned}
use Rattle.jcollect.specs.PlanningThrough.{IsUnplannedThrough, MountsAsThis}
use Rattle.jcollect.specs.declared.collecting.Plan.{Plan}
use Rattle.jcollect.specs.declared.fault.CollectFault.{CollectFault}
use Rattle.jcollect.specs.declared.fault.CollectFault.TheVariants as collect
use Rattle.jconvert.specs.Converting.{greatest_blocks}
use Rattle.jreport.specs.Causes.{first_limit, limit_cause}
use Rattle.jreport.specs.declared.cause.Plan.{Plan as FlashPlan}
use Rattle.jreport.specs.declared.faults.ProgramFault.{ProgramFault}
use Rattle.jreport.specs.declared.faults.ProgramFault.TheVariants as program
use Rattle.jedge.specs.Images.{IsViewRefused}
use Rattle.jedge.specs.Views.{conversion_refusal}
use Rattle.jedge.specs.declared.fault.Fault.{Fault}
use Rattle.jedge.specs.declared.fault.Fault.TheVariants as fault

-- ---- the flash

-- as many blocks as are asked for, or as the greatest flash has
abbrev pub compact_blocks : ℕ → Option ℕ → ℕ
compact_blocks size None = greatest_blocks size
compact_blocks size (Some blocks) = blocks

-- ---- why none is made

-- the flash that they go out to
abbrev pub compact_flash : ℕ → ℕ → FlashPlan
compact_flash size blocks = record {
  geometry = record { block = size };
  blocks = blocks;
  page = pages.P4096;
  length = 0;
}

-- the nodes of an image do not go out to a flash of so many blocks, as the program tells it
abbrev pub collect_refusal : ℕ → ℕ → CollectFault → ProgramFault
collect_refusal size blocks collect.ReadOnly = conversion_refusal convert.ReadOnly
collect_refusal size blocks collect.Geometry =
    program.Session session.Geometry None (limit_cause (first_limit (compact_flash size blocks)))
collect_refusal size blocks (collect.TooLong addr) = conversion_refusal (convert.TooLong addr)
collect_refusal size blocks (collect.Full needed free) =
    conversion_refusal (convert.Full needed free)
collect_refusal size blocks collect.Sink = conversion_refusal convert.Sink
collect_refusal size blocks collect.OutOfMemory = conversion_refusal convert.OutOfMemory

-- it does not mount, or it does and a flash of so many blocks does not take the nodes that matter
abbrev pub IsNotCompacted : Endian → ℕ → ℕ → List ℕ → ProgramFault → Type 0
IsNotCompacted e size blocks image why =
    IsViewRefused e size image why
    ⊎ ((m : Mount) × (refused : CollectFault) × (why ≡ collect_refusal size blocks refused)
    × MountsAsThis e size image m × IsUnplannedThrough e size blocks m refused)

-- ---- what goes out

-- where the nodes lie that matter, how many the image has, and how many bytes go out
pub record CompactPlan : Type 0 where
  pub addresses : List ℕ
  pub nodes : ℕ
  pub bytes : ℕ

abbrev pub compact_plan : Plan → CompactPlan
compact_plan plan = record {
  addresses = plan.addresses.items;
  nodes = plan.nodes;
  bytes = plan.bytes;
}

-- the image mounts through its compression, and a flash of so many blocks takes the nodes that
-- matter
abbrev pub IsCompactPlan : Endian → ℕ → ℕ → List ℕ → CompactPlan → Type 0
IsCompactPlan e size blocks image plan = (m : Mount) × MountsAsThis e size image m
    × ArePlanned (addressed_nodes e size m.image) e size blocks m plan.addresses plan.nodes
    plan.bytes

-- this is planned; or this is why not
abbrev pub IsCompactable : Endian → ℕ → ℕ → List ℕ → Result CompactPlan Fault → Type 0
IsCompactable e size blocks image (Ok plan) = IsCompactPlan e size blocks image plan
IsCompactable e size blocks image (Err (fault.File file)) = ⊥
IsCompactable e size blocks image (Err (fault.NotRead file)) = ⊥
IsCompactable e size blocks image (Err (fault.NoNodes told others)) = ⊥
IsCompactable e size blocks image (Err (fault.NoSpace folder)) = ⊥
IsCompactable e size blocks image (Err (fault.Findings told findings)) = ⊥
IsCompactable e size blocks image (Err (fault.Refused why)) =
    IsNotCompacted e size blocks image why
IsCompactable e size blocks image (Err fault.Output) = ⊥
IsCompactable e size blocks image (Err fault.OutOfMemory) = ⊥

-- ---- the line on it

-- so many nodes went out, of so many, in so many bytes
abbrev pub compacted_line : ℕ → ℕ → ℕ → List ℕ
compacted_line kept nodes bytes = codes "compacted " ++ decimal kept ++ codes " of "
    ++ decimal nodes ++ codes " nodes bytes " ++ decimal bytes ++ 10 ∷ []
