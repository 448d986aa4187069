-- What the damages of nodes are called: each by the check that a node fails first.
use Rattle.std.specs.Prelude.{ℕ, List, codes}
use Rattle.jnode.specs.declared.node.Damage.{Damage}
use Rattle.jnode.specs.declared.node.Damage.TheVariants as damage

abbrev pub damage_name : Damage → List ℕ
damage_name damage.NodeCrc = codes "node-crc"
damage_name damage.NameCrc = codes "name-crc"
damage_name damage.DataCrc = codes "data-crc"
damage_name damage.Length = codes "length"
damage_name damage.Range = codes "range"
