-- What is told of the forms of the nodes of operations that follow one another.
use Rattle.std.specs.Prelude.{◌≡◌, ℕ, ◌+◌, ◌≤◌, IsTrue, List, [], ◌∷◌, ◌++◌, length, take, drop}
use Rattle.jsteps.specs.Nodes.{nodes_of, advanced_all}
use Rattle.jsteps.specs.Refusals.{plans_of, steps_of_first}
use Rattle.jsteps.specs.declared.op.Op.{Op}
use Rattle.jsteps.specs.declared.step.Step.{Step}
use Rattle.jview.specs.Through.{greatest_contents}
use Rattle.jlog.specs.Places.{end_of_all, fit}
use Rattle.jlog.specs.SessionAs.{AreFormsBy, content_len}
use Rattle.jcuts.specs.Cuts.{Asked}
use Rattle.jcuts.specs.Lines.{step_nodes, text_of_nodes, weak_count, end_text}
use Rattle.jcuts.specs.declared.lines.StepNode.{StepNode}
use Rattle.jcuts.specs.declared.standing.Standing.{Standing}
use Rattle.jstops.specs.Planned.{Forming, HeldPoint, form_standings}

-- rule: The log: Operations that follow one another in forms of their nodes, one form a step.
--   definitions: jstops.FormLines.AdvancesAs, jlog.SessionAs.AreFormsBy
--   code: jstops::stops::tell_ops
-- So many operations are accepted in these forms of the nodes of their steps, and lead from one
-- point to another.
pub record AdvancesAs (on : Forming) (from : HeldPoint) (ops : List Op) (n : ℕ)
    (forms : List (List ℕ)) (to : HeldPoint) : Type 0 where
  pub planned : n ≤ length (plans_of on.flash.page from.index ops)
  pub are : AreFormsBy on.packs on.flash.order
      (nodes_of from.index (steps_of_first on.flash.page from.index ops n)) forms
  pub fits : IsTrue (fit on.flash.size on.flash.blocks from.address forms)
  pub address : to.address ≡ end_of_all on.flash.size from.address forms
  pub index : to.index
      ≡ advanced_all from.index (steps_of_first on.flash.page from.index ops n)
  pub held : to.held ≡ from.held + content_len on.flash.order forms
  pub contents : to.held ≤ greatest_contents

-- ---- the lines

-- By the steps of each operation and the number of its line, what is told of each of all forms:
-- those of an operation are as many as its steps, and come behind those of the one before it.
abbrev pub forms_told : List (List Step) → List ℕ → List Standing → List StepNode
forms_told [] lines told = []
forms_told (steps ∷ plans) [] told = []
forms_told (steps ∷ plans) (line ∷ lines) told =
    step_nodes line (length steps) 1 (take (length steps) told)
    ++ forms_told plans lines (drop (length steps) told)

-- those of the first operations
abbrev pub first_forms_told : Forming → Asked → HeldPoint → ℕ → List (List ℕ) → List StepNode
first_forms_told on asked from n forms =
    forms_told (take n (plans_of on.flash.page from.index asked.ops)) asked.lines
    (form_standings on from forms)

-- what is told of them
abbrev pub forms_text : Forming → Asked → HeldPoint → ℕ → List (List ℕ) → List ℕ
forms_text on asked from n forms =
    text_of_nodes asked.telling (first_forms_told on asked from n forms)

-- what is told last, of all
abbrev pub last_forms_text : Forming → Asked → HeldPoint → List (List ℕ) → List ℕ
last_forms_text on asked from forms =
    let told = form_standings on from forms in
    end_text asked.telling (length asked.ops) (length told) from.address
    (end_of_all on.flash.size from.address forms) (weak_count told)

-- both
abbrev pub all_forms_text : Forming → Asked → HeldPoint → List (List ℕ) → List ℕ
all_forms_text on asked from forms =
    forms_text on asked from (length asked.ops) forms ++ last_forms_text on asked from forms
