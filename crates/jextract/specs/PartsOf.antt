-- The part of a file system that a value of the program stands for.
use Rattle.std.specs.Prelude.{◌≡◌, ℕ, false, List, [], ◌∷◌, map, Some, Err, if◌then◌else◌}
use Rattle.jname.specs.Live.{Key}
use Rattle.jmount.specs.Tree.{State, is_directory}
use Rattle.jmount.specs.Find.{find, path_names}
use Rattle.jextract.specs.Parts.{IsPartAt, keys_of, end_name, part_along, part_alone, way_from}
use Rattle.jextract.specs.declared.parts.Part.{Part}
use Rattle.jextract.specs.declared.parts.Part.TheVariants as part
use Rattle.jextract.specs.declared.parts.PartFault.{PartFault}
use Rattle.jextract.specs.declared.parts.PartFault.TheVariants.{Path, OutOfMemory}

abbrev pub part_of : Part → State → State
part_of (part.Along way) s = part_along (keys_of way.items) s
part_of (part.Alone name ino) s = part_alone name.now ino s

-- an object alone is no directory
abbrev pub IsPart : State → Part → Type 0
IsPart s (part.Along way) = Unit {0}
IsPart s (part.Alone name ino) = is_directory s ino ≡ false

-- a path names nothing; or it names a part, and memory runs out
abbrev pub IsPartFault : State → List ℕ → PartFault → Type 0
IsPartFault s path (Path fault) = find s path ≡ Err fault
IsPartFault s path OutOfMemory = (part : State) × IsPartAt s path part

-- the way that a path leads, if it is one
abbrev pub IsWayTo : State → List ℕ → List Key → Type 0
IsWayTo s path way =
    (names : List (List ℕ)) → path_names path ≡ Some names → way ≡ way_from s (Some 1) names

-- the part at the end of a way
abbrev pub part_to : List Key → ℕ → State → State
part_to [] i s = part_along [] s
part_to (key ∷ way) i s = if is_directory s i then part_along (key ∷ way) s
    else part_alone (end_name key.1 (map (λ k. k.1) way)) i s
