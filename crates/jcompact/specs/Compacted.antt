-- Images of the nodes that matter: what an offline garbage collector is to write.
use Rattle.std.specs.Prelude.{◌≡◌, ℕ, true, List, []}
use Rattle.jnode.specs.declared.order.Endian.{Endian}
use Rattle.jscan.specs.Image.{nodes}
use Rattle.jscan.specs.Scans.{findings}
use Rattle.jmount.specs.Collected.{without_addresses}
use Rattle.jmount.specs.Find.{find}
use Rattle.jmount.specs.Mounts.{IsSound, plain_nodes, state}
use Rattle.jmount.specs.Tree.{dangling, is_there, object}
use Rattle.jcompact.specs.Matters.{Placed, AreWhatMatters, NamesLeadTo}

-- An image has just the nodes of another one that matter, in the same order, wherever they lie, and
-- nothing that is a finding.
pub record IsCompactOf (e : Endian) (size : ℕ) (image compact : List ℕ) : Type 0 where
  pub sound : IsSound e size image
  pub kept : List Placed
  pub matter : AreWhatMatters (nodes e size image) kept
  pub same : plain_nodes e size compact ≡ without_addresses kept
  pub clean : findings e size compact ≡ []

-- Each path leads to the same number, or to the same fault.
abbrev pub CompactKeepsPaths : Type 0
CompactKeepsPaths = (e : Endian) (size : ℕ) (image compact : List ℕ)
    → IsCompactOf e size image compact
    → (text : List ℕ) → find (state e size compact) text ≡ find (state e size image) text

-- An object that names lead to has the same attributes, size and bytes.
abbrev pub CompactKeepsObjects : Type 0
CompactKeepsObjects = (e : Endian) (size : ℕ) (image compact : List ℕ)
    → IsCompactOf e size image compact
    → (i : ℕ) → NamesLeadTo (state e size image) i
    → object (state e size compact) i ≡ object (state e size image) i

-- No name dangles, and names lead to each object.
abbrev pub CompactHasNoRest : Type 0
CompactHasNoRest = (e : Endian) (size : ℕ) (image compact : List ℕ)
    → IsCompactOf e size image compact
    → (dangling (state e size compact) ≡ [])
    × ((i : ℕ) → is_there (state e size compact) i ≡ true
    → NamesLeadTo (state e size compact) i)
