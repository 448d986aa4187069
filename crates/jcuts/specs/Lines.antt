-- The lines that tell which step stands from which byte on.
use Rattle.std.specs.Prelude.{ℕ, ◌+◌, is_some, List, [], ◌∷◌, ◌++◌, length, count_by, flat_map, codes, decimal}
use Rattle.std.specs.Option.{option_map_or}
use Rattle.jnode.specs.declared.order.Endian.{Endian}
use Rattle.jsteps.specs.Nodes.{Indexed, advanced_all}
use Rattle.jsteps.specs.declared.step.Step.{Step}
use Rattle.jline.specs.Words.{hex}
use Rattle.jlog.specs.Places.{end_of_all}
use Rattle.jlog.specs.Running.{written}
use Rattle.jcuts.specs.Standing.{standings}
use Rattle.jcuts.specs.declared.standing.Standing.{Standing}
use Rattle.jcuts.specs.declared.lines.StepNode.{StepNode}
use Rattle.jcuts.specs.declared.lines.Telling.{Telling}
use Rattle.jcuts.specs.declared.lines.Telling.TheVariants.{Nodes, WeakNotes}

-- ---- what is told of each node

-- the nodes of one operation, from one of its steps on
abbrev pub step_nodes : ℕ → ℕ → ℕ → List Standing → List StepNode
step_nodes line steps step [] = []
step_nodes line steps step (standing ∷ more) =
    record { line = line; step = step; steps = steps; standing = standing }
    ∷ step_nodes line steps (step + 1) more

-- Those of operations that follow one another, by the steps of each, and the number of each one's
-- line.
abbrev pub nodes_told : Endian → ℕ → ℕ → Indexed → List (List Step) → List ℕ → List StepNode
nodes_told e size from x [] lines = []
nodes_told e size from x (steps ∷ plans) [] = []
nodes_told e size from x (steps ∷ plans) (line ∷ lines) =
    let nodes = written e x steps in
    step_nodes line (length nodes) 1 (standings e size from nodes)
    ++ nodes_told e size (end_of_all size from nodes) (advanced_all x steps) plans lines

-- ---- the lines

-- rule: The log: The lines on it, a node's step and its weak cut.
--   definitions: jcuts.Lines.node_line, jcuts.Lines.weak_line, jcuts.Lines.end_line,
--   jcuts.Lines.nodes_told
--   code: jcuts::lines::put_nodes, jcuts::lines::put_end
--   laws: jcuts::laws::lines_are_nodes, jcuts::examples::made_is_told,
--   jcuts::examples::written_is_told
-- a node's line
abbrev pub node_line : StepNode → List ℕ
node_line n = hex 8 n.standing.addr ++ codes " " ++ decimal n.standing.totlen ++ codes " line "
    ++ decimal n.line
    ++ codes " step " ++ decimal n.step ++ codes " of " ++ decimal n.steps
    ++ codes " stands from " ++ hex 8 n.standing.stands_from ++ codes "\n"

-- a cut of a node, at an address, after so many bytes
abbrev pub weak_line : ℕ → ℕ → List ℕ
weak_line addr cut = codes "weak " ++ hex 8 addr ++ codes " at " ++ decimal cut ++ codes "\n"

-- What is told of a node: its line, and below it that of a weak cut, where it has one; or that one
-- alone, as a note.
abbrev pub text_of_node : Telling → StepNode → List ℕ
text_of_node Nodes n =
    node_line n ++ option_map_or (λ cut. weak_line n.standing.addr cut) n.standing.weak []
text_of_node WeakNotes n = option_map_or
    (λ cut. codes "jffs2_image: note: " ++ weak_line n.standing.addr cut) n.standing.weak []

abbrev pub text_of_nodes : Telling → List StepNode → List ℕ
text_of_nodes telling nodes = flat_map (text_of_node telling) nodes

-- how many nodes have a cut that goes unseen
abbrev pub weak_count : List Standing → ℕ
weak_count told = count_by (λ standing. is_some standing.weak) told

-- the last line: how many operations, how many nodes, from which address to which, and how many of
-- them are weak
abbrev pub end_line : ℕ → ℕ → ℕ → ℕ → ℕ → List ℕ
end_line ops nodes from end weak =
    codes "total operations " ++ decimal ops ++ codes " steps " ++ decimal nodes
    ++ codes " from " ++ hex 8 from ++ codes " to " ++ hex 8 end ++ codes " weak " ++ decimal weak
    ++ codes "\n"

-- it comes where nodes are told
abbrev pub end_text : Telling → ℕ → ℕ → ℕ → ℕ → ℕ → List ℕ
end_text Nodes ops nodes from end weak = end_line ops nodes from end weak
end_text WeakNotes ops nodes from end weak = []
