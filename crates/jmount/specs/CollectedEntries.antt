-- Entries collected from nodes, in whatever order they were added.
use Rattle.std.specs.Prelude.{◌↔◌, List, map, Contains}
use Rattle.jnode.specs.declared.node.Dirent.{Dirent}
use Rattle.jname.specs.Clash as names
use Rattle.jmount.specs.declared.sorting.Pending.{Pending}

-- the entries that are to be added
abbrev pub pending_entries : List Pending → List Dirent
pending_entries pending = map (λ p. p.entry.now) pending

-- what was collected of these entries, of which no two clash
pub record CollectedEntries (gained given : List Dirent) : Type 0 where
  pub same : (x : Dirent) → Contains gained x ↔ Contains given x
  pub apart : names.NoEntriesClash gained
