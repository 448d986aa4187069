-- What nodes make in whatever order they come.
use Rattle.std.specs.Prelude.{◌≡◌, List, ◌++◌}
use Rattle.jnode.specs.declared.node.NodeRef.{NodeRef}
use Rattle.jmount.specs.Clash.{NoneClash}
use Rattle.jmount.specs.Laws.{SameElements}
use Rattle.jmount.specs.StateOf.{state_of, tops_of}
use Rattle.jrow.specs.Merging.{Interleaves}

-- These nodes make the same file system, with the same greatest versions, and no two of them clash.
pub record MakeSame (ns others : List NodeRef) : Type 0 where
  pub state : state_of ns ≡ state_of others
  pub tops : tops_of ns ≡ tops_of others
  pub apart : NoneClash others

-- Nodes of which no two clash make the same in whatever order they come,
abbrev pub OrderDoesNotMatter : Type 0
OrderDoesNotMatter =
    (ns others : List NodeRef) → SameElements ns others → NoneClash ns → MakeSame ns others

-- so also where others come between them that could come after them.
abbrev pub MergedMakeSame : Type 0
MergedMakeSame = (xs ys zs : List NodeRef) → Interleaves xs ys zs → NoneClash (xs ++ ys)
    → MakeSame (xs ++ ys) zs
