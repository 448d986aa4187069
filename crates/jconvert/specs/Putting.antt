-- What putting one node into a sink does.
use Rattle.std.specs.Prelude.{◌≡◌, ◌⊎◌, ◌<◌, ℕ, List, [], ◌++◌, length, Some, MatchOption, Result, Ok, Err}
use Rattle.std.specs.Io.KnownBytes.{Appends}
use Rattle.flashbase.specs.Device.{PutsPart, next_count}
use Rattle.flashbase.specs.Sinks.{SinkChange}
use Rattle.jnode.specs.Writing.{canonical, filled, IsWritable}
use Rattle.jnode.specs.declared.node.NodeRef.{NodeRef}
use Rattle.jnode.specs.declared.node.Seen.{Seen}
use Rattle.jnode.specs.declared.order.Endian.{Endian}
use Rattle.jlog.specs.Places.{place_after, end_after}
use Rattle.jlog.specs.Output.{gap}
use Rattle.jexpand.specs.Expanded.{expanded_node}
use Rattle.jexpand.specs.declared.fault.ConvertFault.{ConvertFault}
use Rattle.jconvert.specs.Converting.{WriteFaultOwes}
use Rattle.jconvert.specs.Tallying.{IsCursor, EndsWithin}

-- what goes out for a node of this form, from an address on
abbrev pub form_piece : Endian → ℕ → ℕ → List ℕ → List ℕ
form_piece e size from form = gap e size from (place_after size from (length form)) ++ filled form

-- It goes out, and the next one may begin behind it; or a beginning does, where the sink failed; or
-- nothing, where there is no room for it.
abbrev pub PutsForm : Endian → ℕ → ℕ → List ℕ → SinkChange → Result ℕ ConvertFault → Type 0
PutsForm e size from form sink (Ok next) =
    Appends sink.old sink.new (form_piece e size from form) × (sink.now ≡ sink.before)
    × (next ≡ end_after size from (length form)) × IsCursor size next
PutsForm e size from form sink (Err f) = WriteFaultOwes
    (PutsPart sink.old sink.new (form_piece e size from form)
    × (sink.now ≡ next_count sink.before))
    ((sink.new ≡ sink.old) × (sink.now ≡ sink.before)) f

-- What goes out for a sighted tile: its node, if it gives one.
abbrev pub PutsTile : Endian → ℕ → List ℕ → ℕ × Seen → ℕ → SinkChange → Result ℕ ConvertFault
    → Type 0
PutsTile e size image s from sink (Ok next) =
    MatchOption (expanded_node e size image s) ((sink.new ≡ sink.old) × (next ≡ from))
    (λ n. Appends sink.old sink.new (form_piece e size from (canonical e n))
    × (next ≡ end_after size from (length (canonical e n))) × IsCursor size next)
    × (sink.now ≡ sink.before)
PutsTile e size image s from sink (Err f) = WriteFaultOwes
    (((n : NodeRef) × (expanded_node e size image s ≡ Some n)
    × PutsPart sink.old sink.new (form_piece e size from (canonical e n)))
    × (sink.now ≡ next_count sink.before))
    ((sink.new ≡ sink.old) × (sink.now ≡ sink.before)) f

-- why a node is not put though the sink did not fail: it is none that is written, the buffer has no
-- room for it, or the flash has none
abbrev pub IsUnput : Endian → ℕ → ℕ → ℕ → NodeRef → Type 0
IsUnput e size from capacity node = ¬ IsWritable node ⊎ ((capacity < length (canonical e node))
    ⊎ ¬ EndsWithin size from (length (canonical e node)))
