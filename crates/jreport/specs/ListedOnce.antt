-- A law of the text that `ls` prints of a tree that has its shape: it lists no directory again.
use Rattle.std.specs.Prelude.{◌≡◌, false, ℕ, List, [], ◌∷◌, Contains, option_map, Ok}
use Rattle.jmount.specs.Tree.{State, object}
use Rattle.jmount.specs.Find.{walk}
use Rattle.jmount.specs.Shape.{HasShape}
use Rattle.jmount.specs.Shown.{shown}
use Rattle.jreport.specs.TreeText.{line_if, none_met, AreLinesOf}

-- the line of what a path leads to, which does not say that it was met before
abbrev pub IsNotAgain : State → List ℕ → Type 0
IsNotAgain s line = (path : List (List ℕ)) × (i : ℕ) × (walk s path (Ok 1) ≡ Ok i)
    × (line ≡ line_if s path i (option_map shown (object s i)) false)

-- in the text of a tree that has its shape, no directory is listed again
abbrev pub ShapeIsListedOnce : Type 0
ShapeIsListedOnce =
    (s : State) (lines : List (List ℕ)) → HasShape s → AreLinesOf s none_met (([], 1) ∷ []) lines
    → (line : List ℕ) → Contains lines line → IsNotAgain s line
