-- What a log has done since it went on from its base, and what survives of that and of what is done
-- next.
use Rattle.std.specs.Prelude.{◌≡◌, ℕ, ◌+◌, ◌≤◌, List, ◌++◌, length, take, Result, Ok, Err}
use Rattle.std.specs.List.{AllByRecursion}
use Rattle.jnode.specs.declared.order.Endian.{Endian}
use Rattle.jmount.specs.Mounts.{state, MountsAs}
use Rattle.jsteps.specs.Steps.{bytes, after}
use Rattle.jsteps.specs.Nodes.{Indexed, nodes_of, advanced_all}
use Rattle.jsteps.specs.Refusals.{steps_of_first}
use Rattle.jsteps.specs.Laws.{OpFits}
use Rattle.jsteps.specs.declared.op.Op.{Op}
use Rattle.jsteps.specs.declared.step.Step.{Step}
use Rattle.jlog.specs.Places.{places, end_of_all}
use Rattle.jlog.specs.Output.{output}
use Rattle.jlog.specs.Left.{IsLeft, count_whole}
use Rattle.jlog.specs.LeftLaws.{NoneWeak}
use Rattle.jlog.specs.Headline.{IsBase, resume_address, index_of_image, AreAccepted, Survives}
use Rattle.jlog.specs.Running.{written}
use Rattle.jlog.specs.declared.fault.SessionFault.{SessionFault}

-- the steps of all these operations on a base
abbrev pub steps_on : ℕ → Endian → ℕ → List ℕ → List Op → List Step
steps_on page e size base done = steps_of_first page (index_of_image e size base) done (length done)

-- A log goes on from a base by way of operations: they were accepted one after the other, and their
-- steps lead to this address and this index. By way of none it is as resuming gives it. The
-- operations' times and owners have the widths of their types.
pub record GoesOnBy (page : ℕ) (e : Endian) (size blocks : ℕ) (base : List ℕ) (done : List Op)
    (from : ℕ) (x : Indexed) : Type 0 where
  pub is_base : IsBase e size blocks base
  pub widths : AllByRecursion OpFits done
  pub accepted : AreAccepted page e size blocks base done (length done)
  pub cursor_is : from ≡ end_of_all size (resume_address e size blocks base)
      (written e (index_of_image e size base) (steps_on page e size base done))
  pub index_is : x ≡ advanced_all (index_of_image e size base) (steps_on page e size base done)

-- how many operations are accepted by the answer to one
abbrev pub accepted_by : {T : Type 0} → Result T SessionFault → ℕ
accepted_by (Ok _) = 1
accepted_by (Err _) = 0

-- A stop while the nodes of more steps were being written, after all bytes of the earlier ones and
-- k more, leaves an image that mounts as the file system after all earlier steps, and after those
-- of the others whose nodes stand whole. No node of the others is weak; an earlier one may be,
-- since no stop cuts it then.
abbrev pub EarlierStand : Endian → ℕ → ℕ → List ℕ → List Step → List Step → Type 0
EarlierStand e size blocks base earlier steps =
    let start = resume_address e size blocks base in
    let before = written e (index_of_image e size base) earlier in
    let from = end_of_all size start before in
    let x = advanced_all (index_of_image e size base) earlier in
    let nodes = written e x steps in
    let out = output e size from nodes in
    NoneWeak e (nodes_of x steps)
    → (k : ℕ) (image : List ℕ) → k ≤ length out → IsLeft e size blocks base start
    (output e size start before ++ out) (length (output e size start before) + k) image
    → MountsAs e size image (after bytes (after bytes (state e size base) earlier)
    (take (count_whole from out k (places size from nodes)) steps))

-- All steps survive, the earlier ones and those after them; and while those after them are written
-- the earlier ones stand.
pub record SurvivesAfter (e : Endian) (size blocks : ℕ) (base : List ℕ)
    (earlier steps : List Step) : Type 0 where
  pub all : Survives e size blocks base (earlier ++ steps)
  pub stand : EarlierStand e size blocks base earlier steps
