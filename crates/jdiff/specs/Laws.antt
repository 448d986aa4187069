-- Laws of the lines on two trees. Each is a statement: it holds since a public function's contract
-- names it.
use Rattle.std.specs.Prelude.{◌≡◌, ◌↔◌, IsTrue, List, [], ◌∷◌, ℕ, ⊤}
use Rattle.jmount.specs.Tree.{State}
use Rattle.jdiff.specs.Entries.{Entry, AreEntries}
use Rattle.jdiff.specs.Changes.{is_same_object, number_of_device}
use Rattle.jdiff.specs.Differing.{AreDifferences}
use Rattle.jdiff.specs.declared.comparing.Comparing.{Comparing}

-- an entry that is the same: its path, what is compared of its object, the number that it has of a
-- device, and its bytes
abbrev pub IsSameEntry : Comparing → Entry → Entry → Type 0
IsSameEntry how x y =
    (x.path ≡ y.path) × IsTrue (is_same_object how.times x.object y.object)
    × (number_of_device how.order x.object ≡ number_of_device how.order y.object)
    × (x.bytes ≡ y.bytes)

-- path by path
abbrev pub AreSameEntries : Comparing → List Entry → List Entry → Type 0
AreSameEntries how [] [] = ⊤
AreSameEntries how [] (y ∷ ys) = ⊥
AreSameEntries how (x ∷ xs) [] = ⊥
AreSameEntries how (x ∷ xs) (y ∷ ys) = IsSameEntry how x y × AreSameEntries how xs ys

-- there are no lines exactly where two trees have the same entries
abbrev pub SameTreesHaveNoLines : Type 0
SameTreesHaveNoLines =
    (how : Comparing) (s t : State) (left right : List Entry) (lines : List (List ℕ))
    → AreEntries s left → AreEntries t right → AreDifferences how s t lines → (lines ≡ [])
    ↔ AreSameEntries how left right

-- any two trees have lines, and no others
abbrev pub TreesHaveLines : Type 0
TreesHaveLines =
    (how : Comparing) (s t : State) → (lines : List (List ℕ)) × AreDifferences how s t lines
    × ((other : List (List ℕ)) → AreDifferences how s t other → other ≡ lines)
