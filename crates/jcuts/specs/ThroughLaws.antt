-- Laws of what is told of forms: of nodes as they are, or compressed.
use Rattle.std.specs.Prelude.{◌≡◌, ℕ, ◌+◌, ◌≤◌, List, length, take}
use Rattle.std.specs.List.{AllByRecursion}
use Rattle.flashbase.specs.Ranges.{AreBytes}
use Rattle.jnode.specs.declared.order.Endian.{Endian}
use Rattle.jscan.specs.Pages.{page_size}
use Rattle.jscan.specs.declared.page.Page.{Page}
use Rattle.jsteps.specs.Laws.{OpFits}
use Rattle.jsteps.specs.Refusals.{steps_of_first}
use Rattle.jsteps.specs.Steps.{bytes, after}
use Rattle.jsteps.specs.declared.op.Op.{Op}
use Rattle.jview.specs.Through.{MountsThroughAs}
use Rattle.jlog.specs.Forms.{NoFormWeak}
use Rattle.jlog.specs.Headline.{resume_address}
use Rattle.jlog.specs.HeadlineThrough.{state_through, IsBaseThrough, index_through, AreAcceptedAs}
use Rattle.jlog.specs.Left.{IsLeft}
use Rattle.jlog.specs.Output.{output}
use Rattle.jcuts.specs.Laws.{count_standing}
use Rattle.jcuts.specs.Lines.{weak_count}
use Rattle.jcuts.specs.Standing.{standings}

-- Where no form is told to be weak, none is.
abbrev pub NoneToldIsNoneWeak : Type 0
NoneToldIsNoneWeak = (e : Endian) (size from : ℕ) (forms : List (List ℕ))
    → weak_count (standings e size from forms) ≡ 0 → NoFormWeak e forms

-- rule: The log: What is told of the forms of accepted operations says what a stop leaves.
--   definitions: jcuts.ThroughLaws.ToldSurvivesThrough, jcuts.Standing.standings,
--   jlog.HeadlineThrough.AreAcceptedAs
--   code: jcuts::standing::standings_in
--   laws: jcuts::through_laws::told_survives_through
-- Where no form of accepted operations is told to be weak, a stop after any number of bytes leaves
-- an image that mounts through as the file system after the steps whose forms stand where the bytes
-- below that address were put: the first so many.
abbrev pub ToldSurvivesThrough : Type 0
ToldSurvivesThrough = (page : Page) (e : Endian) (size blocks n : ℕ) (base : List ℕ)
    (ops : List Op) (forms : List (List ℕ))
    → page_size page + 80 ≤ size → IsBaseThrough e size blocks base
    → AreBytes base → AllByRecursion OpFits ops
    → AreAcceptedAs (page_size page) e size blocks base ops n forms
    → let from = resume_address e size blocks base in
    let out = output e size from forms in
    let told = standings e size from forms in
    weak_count told ≡ 0
    → (k : ℕ) (image : List ℕ) → k ≤ length out → IsLeft e size blocks base from out k image
    → MountsThroughAs e size image (after bytes (state_through e size base)
    (take (count_standing (from + k) told)
    (steps_of_first (page_size page) (index_through e size base) ops n)))
