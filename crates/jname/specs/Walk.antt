-- The live names among what is stored, in order.
use Rattle.std.specs.Prelude.{ℕ, ◌==◌, List, map, Option, Some, None, if◌then◌else◌, filter_map}
use Rattle.std.specs.List.{flat_map}
use Rattle.std.specs.Option.{option_map}
use Rattle.std.specs.Cow.{cow_slice_items}
use Rattle.jname.specs.declared.versions.Versions.{Versions}
use Rattle.jname.specs.declared.apart.Apart.{Apart}
use Rattle.jname.specs.Versions.{newest_of}
use Rattle.jname.specs.ContentsByName.{Name}
use Rattle.jname.specs.NameMaps.{names_in}

-- the inode number at the highest version, where it is not 0
unfoldable pub live_ino : Versions → Option ℕ
live_ino versions = if (newest_of versions).ino == 0 then None else Some (newest_of versions).ino

-- a name with its inode number, if it is live
abbrev pub live_name : Name × Versions → Option (List ℕ × ℕ)
live_name e = option_map (λ ino. (cow_slice_items e.0, ino)) (live_ino e.1)

-- the live names of a directory
abbrev pub names_under : List (Name × Versions) → List (List ℕ × ℕ)
names_under es = filter_map live_name es

-- the same, with the directory's number
abbrev pub with_parent : ℕ → List ℕ × ℕ → ℕ × List ℕ × ℕ
with_parent pino e = (pino, e.0, e.1)

-- the live names of directories
abbrev pub names_within : List (ℕ × Apart) → List (ℕ × List ℕ × ℕ)
names_within es =
    flat_map (λ e. map (with_parent e.0) (names_under (names_in e.1.directory.value.names))) es
