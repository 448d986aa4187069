-- The directories that a walk remembers to have met.
use Rattle.std.specs.Prelude.{◌≡◌, ℕ, ◌==◌, ◌||◌, Bool, not, Option, Some, None, is_some, Result, Ok, Err, Decides, if◌then◌else◌}
use Rattle.std.specs.Ordering.{nat_cmp}
use Rattle.std.specs.BTreeSet.{BTreeSet, contains}
use Rattle.jmount.specs.Tree.{State}
use Rattle.jmount.specs.Shape.{HasShape}
use Rattle.jreport.specs.TreeText.{Met, none_met}
use Rattle.jreport.specs.declared.met.MetDirectories.{MetDirectories}

abbrev pub met_of : BTreeSet ℕ → Met
met_of set = λ i. contains nat_cmp set i

abbrev pub met_if_noted : Option (BTreeSet ℕ) → Met
met_if_noted None = none_met
met_if_noted (Some set) = met_of set

-- those that are remembered
abbrev pub remembered : MetDirectories → Met
remembered met = met_if_noted met.noted

-- whether any ever are
abbrev pub remembers : MetDirectories → Bool
remembers met = is_some met.noted

-- none was met, and those that will be are remembered just where the tree has not its shape
abbrev pub RemembersNone : State → MetDirectories → Type 0
RemembersNone s met = (remembered met ≡ none_met) × Decides (not (remembers met)) (HasShape s)

-- what is remembered becomes this, or it stays as it is where nothing ever is
abbrev pub Becomes : MetDirectories → MetDirectories → Met → Type 0
Becomes old new met = (remembers new ≡ remembers old)
    × (remembered new ≡ (if remembers old then met else remembered old))

-- A directory is met. The answer is whether it is not remembered from before.
abbrev pub MeetsDirectory : {E : Type 0} → MetDirectories → MetDirectories → ℕ → Result Bool E
    → Type 0
MeetsDirectory old new i (Ok first) =
    (first ≡ not (remembered old i)) × Becomes old new (λ j. remembered old j || i == j)
MeetsDirectory old new i (Err _) = Becomes old new (remembered old)
