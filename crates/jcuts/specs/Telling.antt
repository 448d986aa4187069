-- What is told of the first operations on a base.
use Rattle.std.specs.Prelude.{ℕ, List, take}
use Rattle.jnode.specs.declared.order.Endian.{Endian}
use Rattle.jscan.specs.Pages.{page_size}
use Rattle.jsteps.specs.Refusals.{plans_of, steps_of_first}
use Rattle.jsteps.specs.declared.op.Op.{Op}
use Rattle.jscan.specs.declared.page.Page.{Page}
use Rattle.jsteps.specs.declared.step.Step.{Step}
use Rattle.jlog.specs.Headline.{index_of_image, resume_address}
use Rattle.jlog.specs.Running.{written}
use Rattle.jcuts.specs.Standing.{standings}
use Rattle.jcuts.specs.Lines.{nodes_told}
use Rattle.jcuts.specs.declared.lines.StepNode.{StepNode}
use Rattle.jcuts.specs.declared.standing.Standing.{Standing}

-- their steps
abbrev pub steps_told : Page → Endian → ℕ → List ℕ → List Op → ℕ → List Step
steps_told page e size base ops n =
    steps_of_first (page_size page) (index_of_image e size base) ops n

-- their nodes' bytes
abbrev pub bytes_told : Page → Endian → ℕ → List ℕ → List Op → ℕ → List (List ℕ)
bytes_told page e size base ops n =
    written e (index_of_image e size base) (steps_told page e size base ops n)

-- from where on each of them stands
abbrev pub standings_told : Page → Endian → ℕ → ℕ → List ℕ → List Op → ℕ → List Standing
standings_told page e size blocks base ops n =
    standings e size (resume_address e size blocks base) (bytes_told page e size base ops n)

-- the same, each with its step
abbrev pub first_told : Page → Endian → ℕ → ℕ → List ℕ → List Op → List ℕ → ℕ → List StepNode
first_told page e size blocks base ops lines n =
    let index = index_of_image e size base in
    nodes_told e size (resume_address e size blocks base) index
    (take n (plans_of (page_size page) index ops)) lines
