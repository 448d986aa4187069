-- What is stored under a name and in a directory.
use Rattle.std.specs.Prelude.{◌≡◌, ℕ, List, map, Option}
use Rattle.std.specs.Option.{option_and_then}
use Rattle.std.specs.declared.cmp.Ordering.{Ordering}
use Rattle.std.specs.Map.{lookup}
use Rattle.std.specs.Ordering.{nat_cmp, is_eq}
use Rattle.std.specs.Cmp.Lexicographic.{slice_cmp}
use Rattle.std.specs.Cow.{cow_slice_items}
use Rattle.std.specs.declared.borrow.CowSlice.{CowSlice}
use Rattle.std.specs.declared.alloc.Global.{Global}
use Rattle.std.specs.BTreeMap.{BTreeMap}
use Rattle.jname.specs.declared.versions.Content.{Content}
use Rattle.jname.specs.declared.versions.Versions.{Versions}
use Rattle.jname.specs.Versions.{contents_of, version_at}

abbrev pub Name : Type 0
Name = CowSlice ℕ Global

-- names in the order of their bytes
abbrev pub name_cmp : Name → Name → Ordering
name_cmp x y = slice_cmp nat_cmp (cow_slice_items x) (cow_slice_items y)

abbrev pub ByName : Type 0
ByName = BTreeMap Name Versions

-- the versions of a name among these
abbrev pub versions_of_name : List (Name × Versions) → List ℕ → Option Versions
versions_of_name names name = lookup (λ k. is_eq (slice_cmp nat_cmp name (cow_slice_items k))) names

-- the content that is stored under a name at a version
abbrev pub content_in : List (Name × Versions) → List ℕ → ℕ → Option Content
content_in names name v =
    option_and_then (λ versions. version_at versions v) (versions_of_name names name)

-- a name with the contents at its versions, in order
abbrev pub with_contents : Name × Versions → Name × List (ℕ × Content)
with_contents e = (e.0, contents_of e.1)

-- the same names, with the same contents at the same versions
abbrev pub HasSameContents : List (Name × Versions) → List (Name × Versions) → Type 0
HasSameContents old new = map with_contents new ≡ map with_contents old
