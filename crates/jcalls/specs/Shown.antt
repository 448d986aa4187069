-- The file system that an image shows as a caller asks: that of its nodes, or the one through its
-- compression; and why it shows none.
use Rattle.std.specs.Prelude.{◌≡◌, ◌≢◌, ◌<◌, ℕ, Bool, true, false, List, Err}
use Rattle.jnode.specs.declared.order.Endian.{Endian}
use Rattle.jmount.specs.Mounts.{Answers, MountsAs}
use Rattle.jmount.specs.Tree.{State}
use Rattle.jmount.specs.declared.fault.MountFault.{MountFault}
use Rattle.jview.specs.Through.{MountsThroughAs}
use Rattle.jthrough.specs.MountsThrough.{AnswersThrough}
use Rattle.jthrough.specs.declared.fault.ViewFault.{ViewFault}
use Rattle.jcalls.specs.Asked.{is_through, asked_order}
use Rattle.jcalls.specs.Told.{mount_told, view_told}
use Rattle.jcalls.specs.declared.how.How.{How}
use Rattle.jcalls.specs.declared.told.Told.{Told}

-- it shows this one
abbrev pub ShowsBy : Bool → Endian → ℕ → List ℕ → State → Type 0
ShowsBy true e size image s = MountsThroughAs e size image s
ShowsBy false e size image s = MountsAs e size image s

-- it shows none, and this is told
abbrev pub RefusesBy : Bool → Endian → ℕ → List ℕ → Told → Type 0
RefusesBy true e size image told =
    (why : ViewFault) × AnswersThrough e size image (Err why) × (told ≡ view_told why)
RefusesBy false e size image told =
    (why : MountFault) × Answers e size image (Err why) × (told ≡ mount_told why)

-- ---- as a caller asks

abbrev pub Shows : How → List ℕ → State → Type 0
Shows how image s = ShowsBy (is_through how) (asked_order how) how.block image s

abbrev pub ShowsNone : How → List ℕ → Told → Type 0
ShowsNone how image told = RefusesBy (is_through how) (asked_order how) how.block image told

-- a fault whose number is neither that of success nor that of too little room
pub record IsDueFault (why : Told → Type 0) (told : Told) : Type 0 where
  pub is : 0 < told.status
  pub other : told.status ≢ 9
  pub due : why told
