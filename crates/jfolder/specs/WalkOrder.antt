-- The order of a walk: paths are visited as they rise, and a path that does not come next is an
-- item's.
use Rattle.std.specs.Prelude.{◌≡◌, ◌⊎◌, ◌++◌, ◌∷◌, [], ℕ, false, List, All, Contains, IsTrue}
use Rattle.std.specs.List.{AllPairs}
use Rattle.jfolder.specs.Complete.{child, item_paths}
use Rattle.jfolder.specs.Order.{is_before}
use Rattle.jfolder.specs.Walking.{IsShortName, comes_next}
use Rattle.jfolder.specs.declared.tree.Item.{Item}

-- no path is before an earlier one of the list
abbrev pub Ascend : List (List ℕ) → Type 0
Ascend paths = AllPairs (λ path later. is_before later path ≡ false) paths

-- nothing is added, or the path of this name, which a listing can have
abbrev pub IsAdded : List ℕ → List ℕ → List (List ℕ) → List (List ℕ) → Type 0
IsAdded directory name old new =
    (new ≡ old) ⊎ (IsShortName name × (new ≡ old ++ child directory name ∷ []))

-- it comes after the paths of all items, or is one of them
abbrev pub IsInTurn : List Item → List ℕ → Type 0
IsInTurn items path = IsTrue (comes_next items path) ⊎ Contains (item_paths items) path

-- Of paths that are still to visit, the next one last, each is in turn, and none is before one that
-- is visited earlier, unless it is an item's.
pub record InOrder (items : List Item) (pending : List (List ℕ)) : Type 0 where
  pub in_turn : All (IsInTurn items) pending
  pub ascend : AllPairs
      (λ later path. (is_before later path ≡ false) ⊎ Contains (item_paths items) later) pending
