-- A walk that enters directories, as it is held.
use Rattle.std.specs.Prelude.{◌≡◌, ℕ, suc, List, ◌∷◌, reverse}
use Rattle.std.specs.BTreeMap.{BTreeMap}
use Rattle.std.specs.List.{flat_map}
use Rattle.jmount.specs.Tree.{State}
use Rattle.jdamage.specs.Entered.{NameOf, entered_from, first_among, unread_names}
use Rattle.jdamage.specs.Ways.{HeldName, held_first}
use Rattle.jdamage.specs.declared.entered.Walk.{Walk}

-- of each number the first of these names is held
abbrev pub HoldNames : List NameOf → BTreeMap ℕ HeldName → Type 0
HoldNames met names = (i : ℕ) → held_first names i ≡ first_among met i

-- what a walk has still to read
abbrev pub names_to_read : Walk → List NameOf
names_to_read w = flat_map unread_names ((w.dir, w.left) ∷ reverse w.above.items)

-- from these names and a walk to the names that are held and the walk after one more name
abbrev pub ReadsOneName : State → List NameOf → Walk → BTreeMap ℕ HeldName → Walk → Type 0
ReadsOneName s met w names_then w_then = (met_then : List NameOf) × HoldNames met_then names_then
    × ((steps : ℕ) → entered_from s (suc steps) met (names_to_read w)
    ≡ entered_from s steps met_then (names_to_read w_then))
