-- Entries that contradict each other. Of two entry nodes of one directory, name and version the
-- medium format names no winner (Linux, include/uapi/linux/jffs2.h: a version orders the nodes of
-- one directory; Woodhouse 2001): if they are not one and the same, they clash.
use Rattle.std.specs.Prelude.{◌≡◌, ◌≢◌, List, Contains}
use Rattle.jnode.specs.declared.node.Dirent.{Dirent}

-- two entries of one directory, name and version whose contents (ino, mctime or kind) differ
pub record EntriesClash (a b : Dirent) : Type 0 where
  pub directory : a.pino ≡ b.pino
  pub name : a.name ≡ b.name
  pub version : a.version ≡ b.version
  pub contents : a ≢ b

-- an entry clashes with one of these
abbrev pub SomeEntryClashesWith : List Dirent → Dirent → Type 0
SomeEntryClashesWith entries entry =
    (other : Dirent) × Contains entries other × EntriesClash other entry

-- an entry clashes with none of these
abbrev pub NoEntryClashesWith : List Dirent → Dirent → Type 0
NoEntryClashesWith entries entry =
    (other : Dirent) → Contains entries other → EntriesClash other entry → ⊥

-- no two of these clash
abbrev pub NoEntriesClash : List Dirent → Type 0
NoEntriesClash entries =
    (entry : Dirent) → Contains entries entry → NoEntryClashesWith entries entry
