-- Laws of the text that `ls` prints. Each is a statement: it holds since a public function's
-- contract names it.
use Rattle.std.specs.Prelude.{◌≡◌, ◌++◌, false, ℕ, List, [], Some}
use Rattle.jmount.specs.Tree.{State, ObjectOf, object}
use Rattle.jmount.specs.Shown.{shown}
use Rattle.jreport.specs.TreeText.{object_line, IsTreeText}

-- however its names lead, also in a circle, a file system has one text
abbrev pub EachTreeHasOneText : Type 0
EachTreeHasOneText = (s : State) → (text : List ℕ) × IsTreeText s text
    × ((other : List ℕ) → IsTreeText s other → other ≡ text)

-- the root's line comes first, and says that it was not met before
abbrev pub RootComesFirst : Type 0
RootComesFirst = (s : State) (root : ObjectOf (List ℕ)) (text : List ℕ) → object s 1 ≡ Some root
    → IsTreeText s text
    → (rest : List ℕ) × (text ≡ object_line s [] 1 (shown root) false ++ rest)
