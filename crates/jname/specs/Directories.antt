-- What is stored in a directory.
use Rattle.std.specs.Prelude.{ℕ, List, Option}
use Rattle.std.specs.Option.{option_and_then, option_map}
use Rattle.std.specs.Ordering.{nat_cmp}
use Rattle.std.specs.BTreeMap.{BTreeMap, get}
use Rattle.jname.specs.declared.versions.Content.{Content}
use Rattle.jname.specs.declared.apart.Apart.{Apart}
use Rattle.jname.specs.declared.directory.Directory.{Directory}
use Rattle.jname.specs.ContentsByName.{content_in}
use Rattle.jname.specs.NameMaps.{names_in}

-- the content that is stored in a directory under a name at a version
abbrev pub content_under : Directory → List ℕ → ℕ → Option Content
content_under directory name v = content_in (names_in directory.names) name v

-- the same of one in memory of its own
abbrev pub content_held : Apart → List ℕ → ℕ → Option Content
content_held apart name v = content_under apart.directory.value name v

abbrev pub DirectoriesByNumber : Type 0
DirectoriesByNumber = BTreeMap ℕ Apart

-- the content that is stored for a parent, a name and a version
abbrev pub content_at : DirectoriesByNumber → ℕ → List ℕ → ℕ → Option Content
content_at directories pino name v =
    option_and_then (λ apart. content_held apart name v) (get nat_cmp directories pino)

-- the greatest version of a directory
abbrev pub highest_at : DirectoriesByNumber → ℕ → Option ℕ
highest_at directories pino =
    option_map (λ apart. apart.directory.value.highest) (get nat_cmp directories pino)
