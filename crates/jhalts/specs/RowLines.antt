-- What is told of the forms of the nodes of operations that follow one another in a row of
-- openings.
use Rattle.std.specs.Prelude.{◌≡◌, ℕ, ◌+◌, ◌≤◌, IsTrue, List, ◌++◌, length, take}
use Rattle.jsteps.specs.Nodes.{nodes_of, advanced_all}
use Rattle.jsteps.specs.Refusals.{plans_of, steps_of_first}
use Rattle.jsteps.specs.declared.op.Op.{Op}
use Rattle.jview.specs.Through.{greatest_contents}
use Rattle.jlog.specs.SessionAs.{AreFormsBy, content_len}
use Rattle.jcuts.specs.Cuts.{Asked}
use Rattle.jcuts.specs.Lines.{text_of_nodes, weak_count, end_text}
use Rattle.jcuts.specs.declared.lines.StepNode.{StepNode}
use Rattle.jrests.specs.Shares.{fit_in}
use Rattle.jopenings.specs.After.{row_after_all}
use Rattle.jstops.specs.FormLines.{forms_told}
use Rattle.jstops.specs.Planned.{Forming}
use Rattle.jhalts.specs.InRow.{RowPoint, row_standings}
use Rattle.jhalts.specs.InShares.{row_address}

-- So many operations are accepted in these forms of the nodes of their steps, and lead from one
-- point to another.
pub record AdvancesIn (on : Forming) (from : RowPoint) (ops : List Op) (n : ℕ)
    (forms : List (List ℕ)) (to : RowPoint) : Type 0 where
  pub planned : n ≤ length (plans_of on.flash.page from.index ops)
  pub are : AreFormsBy on.packs on.flash.order
      (nodes_of from.index (steps_of_first on.flash.page from.index ops n)) forms
  pub fits : IsTrue (fit_in on.flash.size from.row forms)
  pub row : to.row ≡ row_after_all on.flash.size from.row forms
  pub index : to.index
      ≡ advanced_all from.index (steps_of_first on.flash.page from.index ops n)
  pub held : to.held ≡ from.held + content_len on.flash.order forms
  pub contents : to.held ≤ greatest_contents

-- ---- the lines

-- what is told of each of the forms of the first operations
abbrev pub first_row_told : Forming → Asked → RowPoint → ℕ → List (List ℕ) → List StepNode
first_row_told on asked from n forms =
    forms_told (take n (plans_of on.flash.page from.index asked.ops)) asked.lines
    (row_standings on from forms)

-- what is told of them
abbrev pub row_text : Forming → Asked → RowPoint → ℕ → List (List ℕ) → List ℕ
row_text on asked from n forms =
    text_of_nodes asked.telling (first_row_told on asked from n forms)

-- What is told last, of all: it says where the first opening begins that is written, and where
-- writing would go on.
abbrev pub last_row_text : Forming → Asked → RowPoint → List (List ℕ) → List ℕ
last_row_text on asked from forms =
    let told = row_standings on from forms in
    let size = on.flash.size in
    end_text asked.telling (length asked.ops) (length told) (row_address size from.row)
    (row_address size (row_after_all size from.row forms)) (weak_count told)

-- both
abbrev pub all_row_text : Forming → Asked → RowPoint → List (List ℕ) → List ℕ
all_row_text on asked from forms =
    row_text on asked from (length asked.ops) forms ++ last_row_text on asked from forms
