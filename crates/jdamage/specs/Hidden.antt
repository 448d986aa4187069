-- The nodes of damaged data that hide nothing.
use Rattle.std.specs.Prelude.{◌≡◌, ℕ, true, List, Option, Some, None}
use Rattle.std.specs.List.{All}
use Rattle.std.specs.List.Sorted.{IsNonDecreasingBy}
use Rattle.std.specs.BTreeSet.{BTreeSet, contains}
use Rattle.std.specs.Ordering.{nat_cmp}
use Rattle.jnode.specs.declared.order.Endian.{Endian}
use Rattle.jnode.specs.declared.node.Damage.{Damage}
use Rattle.jnode.specs.declared.node.Damage.TheVariants.{DataCrc}
use Rattle.jmount.specs.Mount.{Mount}
use Rattle.jdamage.specs.Damage.{changes_nothing}
use Rattle.jgaps.specs.Fields.{stretch_at}
use Rattle.jdamage.specs.Sweep.{spot}
use Rattle.jgaps.specs.declared.fields.Stretch.{Stretch}

-- the address and the version of a node whose data are damaged
abbrev pub lost_if : Endian → List ℕ → ℕ × Damage → Option (ℕ × ℕ)
lost_if e image (addr, DataCrc) = Some (addr, (stretch_at e image addr).version)
lost_if e image (addr, _) = None

abbrev pub LostAscend : List (ℕ × ℕ) → Type 0
LostAscend nodes = IsNonDecreasingBy (λ l. l.1) nodes

abbrev pub AreVersions : Endian → List ℕ → List (ℕ × ℕ) → Type 0
AreVersions e image nodes = All (λ l. l.1 ≡ (stretch_at e image l.0).version) nodes

-- the spot where the range of a node begins
abbrev pub spot_at : Endian → List ℕ → ℕ → ℕ
spot_at e image addr = spot (stretch_at e image addr).ino (stretch_at e image addr).from

abbrev pub HaveStarts : Endian → List ℕ → BTreeSet ℕ → List (ℕ × ℕ) → Type 0
HaveStarts e image spots nodes =
    All (λ l. contains nat_cmp spots (spot_at e image l.0) ≡ true) nodes

-- of each node of damaged data its address is there exactly where it hides nothing
abbrev pub IsHidden : Endian → Mount → List Stretch → BTreeSet ℕ → ℕ × Damage → Type 0
IsHidden e m others hidden d = d.1 ≡ DataCrc
    → contains nat_cmp hidden d.0 ≡ changes_nothing m.state others (stretch_at e m.image d.0)

abbrev pub AreHidden : Endian → Mount → List Stretch → BTreeSet ℕ → List (ℕ × Damage) → Type 0
AreHidden e m others hidden damaged = All (IsHidden e m others hidden) damaged
