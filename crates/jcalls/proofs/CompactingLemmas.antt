-- An image of the nodes that matter, made in memory, and why there is none.
use Rattle.std.proofs.Common.{◌≡◌, ◌∙◌, ℕ, List, [], length, ap, sym, subst, Some, Ok, Err}
use Rattle.std.specs.Io.KnownBytes.{Appends}
use Rattle.flashbase.specs.Sinks.{SinkChange}
use Rattle.jnode.specs.declared.order.Endian.{Endian}
use Rattle.jthrough.specs.Addressed.{addressed_nodes}
use Rattle.jcollect.specs.Planning.{ArePlanned}
use Rattle.jcollect.specs.PlanningThrough.{CompactsThrough, ShowsCompact}
use Rattle.jcollect.specs.Tiles.{copied_image}
use Rattle.jcollect.specs.declared.collecting.Collected.{Collected}
use Rattle.jcollect.specs.declared.fault.CollectFault.TheVariants as collect
use Rattle.jcollect.specs.declared.fault.ThroughFault.{ThroughFault}
use Rattle.jcollect.specs.declared.fault.ThroughFault.TheVariants as through
use Rattle.jcalls.specs.Compacting.{CompactRefused, IsCompacted}
use Rattle.jcalls.specs.Told.{through_told}
use Rattle.jcalls.specs.declared.told.Told.{Told}
use Rattle.jcalls.proofs.WritingLemmas.{taken_from_none}

-- what went to a sink that had nothing is the image
pub compacted : (e : Endian) (size blocks : ℕ) (image made : List ℕ) (sink : SinkChange) (told : Collected) → sink.old ≡ Some [] → sink.new ≡ Some made
    → CompactsThrough e size blocks image sink (Ok told) → (out : List ℕ) × ShowsCompact e size image out × Appends sink.old sink.new out → IsCompacted e size blocks image made
compacted e size blocks image made sink told none some did shows =
    let copied = copied_image e size did.0.image did.2.0 in
    let is : made ≡ copied = taken_from_none sink.old sink.new made copied none some did.2.3 in
    let same : made ≡ shows.0 = taken_from_none sink.old sink.new made shows.0 none some shows.2 in
    record {
      mount = did.0;
      mounts = did.1;
      addresses = did.2.0;
      count = told.nodes;
      planned = subst (ArePlanned (addressed_nodes e size did.0.image) e size blocks did.0 did.2.0 told.nodes) (did.2.1.length_is ∙ ap length (sym is)) did.2.1;
      made_is = is;
      shows = subst (ShowsCompact e size image) (sym same) shows.1;
    }

-- The sink is memory: where it fails memory is wanting.
pub not_compacted : (e : Endian) (size blocks : ℕ) (image : List ℕ) (sink : SinkChange) (why : ThroughFault) (told : Told) → CompactsThrough e size blocks image sink (Err why)
    → told ≡ through_told why → CompactRefused e size blocks image told
not_compacted e size blocks image sink (through.Unmounted why) told did is = (through.Unmounted why, did.0, is)
not_compacted e size blocks image sink (through.Uncollected collect.ReadOnly) told did is = (through.Uncollected collect.ReadOnly, (did.0, did.1, did.2.0), is)
not_compacted e size blocks image sink (through.Uncollected collect.Geometry) told did is = (through.Uncollected collect.Geometry, (did.0, did.1, did.2.0), is)
not_compacted e size blocks image sink (through.Uncollected (collect.TooLong addr)) told did is =
    (through.Uncollected (collect.TooLong addr), (did.0, did.1, did.2.0), is)
not_compacted e size blocks image sink (through.Uncollected (collect.Full needed free)) told did is =
    (through.Uncollected (collect.Full needed free), (did.0, did.1, did.2.0), is)
not_compacted e size blocks image sink (through.Uncollected collect.Sink) told did is = (through.Uncollected collect.OutOfMemory, (did.0, did.1, tt), is)
not_compacted e size blocks image sink (through.Uncollected collect.OutOfMemory) told did is = (through.Uncollected collect.OutOfMemory, (did.0, did.1, tt), is)
