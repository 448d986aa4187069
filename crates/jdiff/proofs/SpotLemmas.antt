-- A spot that is visited.
use Rattle.std.proofs.Common.{◌≡◌, ℕ, Bool, List, length, refl, sym, ap, ◌∙◌, subst, Option, Result, Ok, Err}
use Rattle.std.specs.Prelude.{IfSome, IsErrAnd}
use Rattle.std.specs.List.{flat_map}
use Rattle.std.specs.Io.KnownBytes.{Appends}
use Rattle.std.proofs.KnownBytes.{Appends-nil}
use Rattle.flashbase.specs.Device.{PutsPart, next_count}
use Rattle.jmount.specs.Tree.{State}
use Rattle.jreport.specs.TreeText.{Met}
use Rattle.jreport.specs.Remembering.{Becomes, remembered}
use Rattle.jreport.specs.declared.met.MetDirectories.{MetDirectories}
use Rattle.jreport.specs.declared.faults.ProgramFault.{ProgramFault}
use Rattle.jreport.specs.declared.faults.ProgramFault.TheVariants.{Output, OutOfMemory}
use Rattle.jdiff.specs.Changes.{changes}
use Rattle.jdiff.specs.Walking.{spot_entry, met_by, found_at, directory_found, entries_here, IsFoundIn, spot_lines, Spot, PutsSpot}
use Rattle.jdiff.specs.declared.found.Found.{Found}
use Rattle.jdiff.specs.declared.walk.Visited.{Visited}
use Rattle.jdiff.specs.declared.comparing.Comparing.{Comparing}
use Rattle.jdiff.proofs.FoundLemmas.{found_entry, found_directory, found_there}

-- the same, of each part by itself
abbrev pub PutsSpotOn : Comparing → State → State → MetDirectories → MetDirectories → MetDirectories → MetDirectories → Spot → Option (List ℕ) → Option (List ℕ) → ℕ → ℕ → Result Visited ProgramFault → Type 0
PutsSpotOn how s t a b c d spot old new before now r =
    PutsSpot how s t (record { left = a; right = b }) (record { left = c; right = d }) spot (record { old = old; new = new; before = before; now = now }) r

pub found_is_there : (s : State) (met : Met) (i : Option ℕ) (x : Option Found) → x ≡ found_at s met i → IfSome x (IsFoundIn s)
found_is_there s met i x is = subst (λ (o : Option Found). IfSome o (IsFoundIn s)) (sym is) (found_there s met i)

changes_here : (how : Comparing) (s t : State) (a b : MetDirectories) (path : List (List ℕ)) (i j : Option ℕ) (x y : Option Found)
    → x ≡ found_at s (remembered a) i → y ≡ found_at t (remembered b) j
    → changes how (entries_here s path x) (entries_here t path y) ≡ spot_lines how s t a b (path, i, j)
changes_here how s t a b path i j x y is other =
    ap (λ (o : Option Found). changes how (entries_here s path o) (entries_here t path y)) is
    ∙ ap (λ (o : Option Found). changes how (entries_here s path (found_at s (remembered a) i)) (entries_here t path o)) other
    ∙ ap (λ e. changes how e (entries_here t path (found_at t (remembered b) j))) (found_entry s (remembered a) path i)
    ∙ ap (changes how (spot_entry s (remembered a) path i)) (found_entry t (remembered b) path j)

pub spot_visited : (how : Comparing) (s t : State) (a b c d : MetDirectories) (path : List (List ℕ)) (i j : Option ℕ) (x y : Option Found) (v : Visited) (old new : Option (List ℕ)) (before now : ℕ)
    → x ≡ found_at s (remembered a) i → y ≡ found_at t (remembered b) j → Becomes a c (met_by s (remembered a) i) → Becomes b d (met_by t (remembered b) j)
    → v.lines ≡ length (changes how (entries_here s path x) (entries_here t path y)) → v.left ≡ directory_found x → v.right ≡ directory_found y
    → Appends old new (flat_map (λ line. line) (changes how (entries_here s path x) (entries_here t path y))) → now ≡ before
    → PutsSpotOn how s t a b c d (path, i, j) old new before now (Ok v)
spot_visited how s t a b c d path i j x y v old new before now is other ours theirs count left right put same =
    let lines = changes_here how s t a b path i j x y is other in (
      count ∙ ap length lines,
      left ∙ ap directory_found is ∙ found_directory s (remembered a) i,
      right ∙ ap directory_found other ∙ found_directory t (remembered b) j,
      ours,
      theirs,
      subst (λ (l : List (List ℕ)). Appends old new (flat_map (λ line. line) l)) lines put,
      same,
    )

pub spot_memory : (how : Comparing) (s t : State) (a b c d : MetDirectories) (path : List (List ℕ)) (i j : Option ℕ) (old : Option (List ℕ)) (before : ℕ) (r : Result Visited ProgramFault) (fault : ProgramFault)
    → IsErrAnd r (λ e. e ≡ fault) → fault ≡ OutOfMemory → PutsSpotOn how s t a b c d (path, i, j) old old before before r
spot_memory how s t a b c d path i j old before (Ok v) fault is memory = absurd is
spot_memory how s t a b c d path i j old before (Err e) fault is memory =
    subst (λ (f : ProgramFault). PutsSpotOn how s t a b c d (path, i, j) old old before before (Err f)) (sym (is ∙ memory)) (Appends-nil old, refl)

pub spot_output : (how : Comparing) (s t : State) (a b c d : MetDirectories) (path : List (List ℕ)) (i j : Option ℕ) (x y : Option Found) (old new : Option (List ℕ)) (before now : ℕ) (r : Result Visited ProgramFault)
    → x ≡ found_at s (remembered a) i → y ≡ found_at t (remembered b) j → IsErrAnd r (λ e. e ≡ Output)
    → PutsPart old new (flat_map (λ line. line) (changes how (entries_here s path x) (entries_here t path y))) → now ≡ next_count before
    → PutsSpotOn how s t a b c d (path, i, j) old new before now r
spot_output how s t a b c d path i j x y old new before now (Ok v) is other err part failed = absurd err
spot_output how s t a b c d path i j x y old new before now (Err e) is other err part failed =
    subst (λ (f : ProgramFault). PutsSpotOn how s t a b c d (path, i, j) old new before now (Err f)) (sym err)
    (subst (λ (l : List (List ℕ)). PutsPart old new (flat_map (λ line. line) l)) (changes_here how s t a b path i j x y is other) part, failed)
