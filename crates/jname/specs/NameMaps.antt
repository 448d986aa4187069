-- The names of a directory.
use Rattle.std.specs.Prelude.{List, ◌++◌}
use Rattle.jname.specs.declared.versions.Versions.{Versions}
use Rattle.jname.specs.declared.name_map.NameMap.{NameMap}
use Rattle.jname.specs.declared.name_map.NameIter.{NameIter}
use Rattle.jname.specs.ContentsByName.{Name}

-- the names with their versions, in order: those of the row, and then those of the map
abbrev pub names_in : NameMap → List (Name × Versions)
names_in names = names.few.items ++ names.map.entries

-- those that a walk has left
abbrev pub names_left : NameIter → List (Name × Versions)
names_left names = names.few.rest.now ++ names.left
