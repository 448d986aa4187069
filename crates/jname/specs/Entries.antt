-- The entries that the map holds, as a list: in order of directory and name.
use Rattle.std.specs.Prelude.{ℕ, List, map}
use Rattle.std.specs.List.{flat_map}
use Rattle.std.specs.Cow.{cow_slice_items}
use Rattle.jnode.specs.declared.node.Dirent.{Dirent}
use Rattle.jname.specs.declared.versions.Content.{Content}
use Rattle.jname.specs.declared.versions.Versions.{Versions}
use Rattle.jname.specs.declared.apart.Apart.{Apart}
use Rattle.jname.specs.Versions.{contents_of}
use Rattle.jname.specs.ContentsByName.{Name}
use Rattle.jname.specs.NameMaps.{names_in}
use Rattle.jname.specs.Directories.{DirectoriesByNumber}

abbrev pub content_of_entry : Dirent → Content
content_of_entry entry = record { ino = entry.ino; mctime = entry.mctime; kind = entry.kind }

abbrev pub entry_of : ℕ → List ℕ → ℕ × Content → Dirent
entry_of pino name e = record {
  pino = pino;
  version = e.0;
  ino = e.1.ino;
  mctime = e.1.mctime;
  kind = e.1.kind;
  name = name;
}

abbrev pub entries_under : ℕ → Name × Versions → List Dirent
entries_under pino e = map (entry_of pino (cow_slice_items e.0)) (contents_of e.1)

abbrev pub entries_in_directory : ℕ × Apart → List Dirent
entries_in_directory e = flat_map (entries_under e.0) (names_in e.1.directory.value.names)

unfoldable pub entries_of : DirectoriesByNumber → List Dirent
entries_of directories = flat_map entries_in_directory directories.entries
