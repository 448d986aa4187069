-- How much room the paths take that are told.
use Rattle.std.specs.Prelude.{◌≡◌, ℕ, ◌<◌, List, map, take, All, false, ⊤}
use Rattle.std.specs.BTreeSet.{BTreeSet, contains}
use Rattle.std.specs.Ordering.{nat_cmp}
use Rattle.jnode.specs.declared.order.Endian.{Endian}
use Rattle.jnode.specs.declared.node.Damage.{Damage}
use Rattle.jnode.specs.declared.node.Damage.TheVariants.{NameCrc, DataCrc}
use Rattle.jmount.specs.Mount.{Mount}
use Rattle.jmount.specs.Tree.{State}
use Rattle.jgaps.specs.Fields.{stretch_at}
use Rattle.jdamage.specs.Fields.{loss_at}
use Rattle.jgaps.specs.declared.gap.Gap.{Gap}
use Rattle.jdamage.specs.Damage.{most_paths}
use Rattle.jdamage.specs.Ways.{HeldName, NameOf, depth, name_held, names_led}

-- the directory of each of these names lies less than so deep, so that its path and a name fit
abbrev pub PathsFit : State → ℕ → List NameOf → Type 0
PathsFit s room names = All (λ n. depth s n.0 < room) names

abbrev pub HeldPathsFit : State → ℕ → List HeldName → Type 0
HeldPathsFit s room names = PathsFit s room (map name_held names)

-- the names that may be told for one node
unfoldable pub names_told : State → ℕ → List NameOf
names_told s i = take most_paths (names_led s i)

-- so do the directories of which is told where a node is damaged
abbrev pub NodePathsFit : Endian → Mount → BTreeSet ℕ → ℕ → ℕ × Damage → Type 0
NodePathsFit e m hidden room (addr, DataCrc) = contains nat_cmp hidden addr ≡ false
    → PathsFit m.state room (names_told m.state (stretch_at e m.image addr).ino)
NodePathsFit e m hidden room (addr, NameCrc) = depth m.state (loss_at e m.image addr).pino < room
NodePathsFit e m hidden room (addr, _) = ⊤

-- and those of the names of a gap's file
abbrev pub GapPathsFit : State → ℕ → List Gap → Type 0
GapPathsFit s room gaps = All (λ g. PathsFit s room (names_told s g.ino)) gaps
