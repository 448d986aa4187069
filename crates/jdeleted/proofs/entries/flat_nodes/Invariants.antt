use Rattle.std.proofs.Common.{◌≡◌, ◌++◌, filter, is_some, map, take}
use Rattle.jmount.specs.Collected.{without_addresses}
use Rattle.jmount.specs.StateOf.{inode_in}
use Rattle.jdeleted.specs.Deleted.{entry_of_file}
use Rattle.jdeleted.proofs.entries.flat_nodes.Given as goal

abbrev pub invariant-loop-file : goal.invariant-loop-file
invariant-loop-file l = without_addresses l.flat.items
    ≡ filter (λ n. is_some (inode_in n)) (without_addresses l.fn.nodes.items) ++ map entry_of_file (take l.file-index l.files)
