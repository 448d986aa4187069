-- The versions of all objects, while nodes are taken one by one.
use Rattle.std.specs.Prelude.{ℕ, ◌==◌, List, [], ◌∷◌, ◌++◌, if◌then◌else◌}
use Rattle.std.specs.BTreeMap.{BTreeMap, get}
use Rattle.std.specs.Ordering.{nat_cmp}
use Rattle.jpast.specs.Pasts.{IsSpanIf, NodesAt, object_versions}
use Rattle.jpast.specs.declared.past.Span.{Span}

-- each number has the span of its versions
abbrev pub AreSpansOf : (ℕ → List ℕ) → BTreeMap ℕ Span → Type 0
AreSpansOf versions spans = (i : ℕ) → IsSpanIf (versions i) (get nat_cmp spans i)

-- a version more, of one number
abbrev pub and_version : (ℕ → List ℕ) → ℕ → ℕ → ℕ → List ℕ
and_version versions ino version i =
    versions i ++ (if ino == i then version ∷ [] else [])

-- those of the inode nodes among some nodes
abbrev pub HasSpans : NodesAt → BTreeMap ℕ Span → Type 0
HasSpans ns spans = AreSpansOf (object_versions ns) spans
