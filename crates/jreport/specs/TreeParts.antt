-- A law of the text that `ls` prints of a part of a tree that has its shape: it is a stretch of the
-- text of the whole tree.
use Rattle.std.specs.Prelude.{◌≡◌, ◌++◌, ℕ, List}
use Rattle.jmount.specs.Tree.{State}
use Rattle.jmount.specs.Shape.{HasShape}
use Rattle.jreport.specs.TreeText.{Item, IsItemAt, IsTextFrom, IsTreeText}

-- what an object that a path names is listed by, alone, it is listed by in the whole tree, in one
-- stretch
abbrev pub PartIsStretch : Type 0
PartIsStretch = (s : State) (path : List ℕ) (item : Item) (whole part : List ℕ) → HasShape s
    → IsItemAt s path item
    → IsTreeText s whole → IsTextFrom s item part → (front after : List ℕ)
    × (whole ≡ front ++ (part ++ after))
