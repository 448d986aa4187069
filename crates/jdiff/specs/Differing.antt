-- The lines on two trees, and what a call puts of them.
use Rattle.std.specs.Prelude.{◌≡◌, ℕ, ◌-◌, ◌^◌, List, length, min, Option, Result, Ok, Err}
use Rattle.std.specs.Io.KnownBytes.{Appends}
use Rattle.std.specs.List.{flat_map}
use Rattle.flashbase.specs.Device.{PutsPart, next_count}
use Rattle.jmount.specs.Tree.{State}
use Rattle.jreport.specs.declared.faults.ProgramFault.{ProgramFault}
use Rattle.jreport.specs.declared.faults.ProgramFault.TheVariants as program
use Rattle.jdiff.specs.Entries.{Entry, AreEntries}
use Rattle.jdiff.specs.Pairing.{Place, ArePaired, lines_on}
use Rattle.jdiff.specs.declared.comparing.Comparing.{Comparing}

-- the lines on two trees: on each path in order, those on what the trees have there
pub record AreDifferences (how : Comparing) (s t : State) (lines : List (List ℕ)) : Type 0 where
  pub left : List Entry
  pub right : List Entry
  pub places : List Place
  pub of_left : AreEntries s left
  pub of_right : AreEntries t right
  pub paired : ArePaired left right places
  pub said : lines ≡ lines_on how places

-- a beginning of them went out
abbrev pub PutsPartOfDifferences : Comparing → State → State → Option (List ℕ)
    → Option (List ℕ) → Type 0
PutsPartOfDifferences how s t old new =
    (lines : List (List ℕ)) × AreDifferences how s t lines
    × PutsPart old new (flat_map (λ line. line) lines)

-- A call puts the lines, and answers how many there are, or the greatest u64. Where the sink fails
-- or memory runs out, a beginning of them went out.
abbrev pub PutsDifferences : Comparing → State → State → Option (List ℕ) → Option (List ℕ) → ℕ → ℕ
    → Result ℕ ProgramFault → Type 0
PutsDifferences how s t old new before now (Ok count) =
    (lines : List (List ℕ)) × AreDifferences how s t lines
    × (count ≡ min (length lines) (2 ^ 64 - 1))
    × Appends old new (flat_map (λ line. line) lines) × (now ≡ before)
PutsDifferences how s t old new before now (Err program.Output) =
    PutsPartOfDifferences how s t old new × (now ≡ next_count before)
PutsDifferences how s t old new before now (Err program.OutOfMemory) =
    PutsPartOfDifferences how s t old new × (now ≡ before)
PutsDifferences how s t old new before now (Err (program.Load fault)) = ⊥
PutsDifferences how s t old new before now (Err (program.Scan fault)) = ⊥
PutsDifferences how s t old new before now (Err (program.Mount fault)) = ⊥
PutsDifferences how s t old new before now (Err (program.Clash addr other)) = ⊥
PutsDifferences how s t old new before now (Err (program.File file)) = ⊥
PutsDifferences how s t old new before now (Err (program.NotRead file)) = ⊥
PutsDifferences how s t old new before now (Err (program.Listing bad)) = ⊥
PutsDifferences how s t old new before now (Err (program.Session fault line cause)) = ⊥
PutsDifferences how s t old new before now (Err (program.Path fault)) = ⊥
PutsDifferences how s t old new before now (Err program.NotRegular) = ⊥
PutsDifferences how s t old new before now (Err (program.NoSpace name)) = ⊥
PutsDifferences how s t old new before now (Err (program.Data addr)) = ⊥
PutsDifferences how s t old new before now (Err (program.TooLong addr)) = ⊥
PutsDifferences how s t old new before now (Err (program.Image fault)) = ⊥
