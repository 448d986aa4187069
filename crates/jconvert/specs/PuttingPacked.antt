-- What putting nodes does, each as it is or packed.
use Rattle.std.specs.Prelude.{◌≡◌, ◌⊎◌, ℕ, ◌<◌, Bool, IsTrue, IsFalse, List, length, Option, Some, None, Result, Ok, Err, if◌then◌else◌}
use Rattle.std.specs.Io.KnownBytes.{Appends}
use Rattle.flashbase.specs.Device.{PutsPart, next_count}
use Rattle.flashbase.specs.Sinks.{SinkChange}
use Rattle.jnode.specs.Writing.{canonical}
use Rattle.jnode.specs.declared.node.NodeRef.{NodeRef}
use Rattle.jnode.specs.declared.order.Endian.{Endian}
use Rattle.jlog.specs.Places.{end_after}
use Rattle.jexpand.specs.declared.fault.ConvertFault.{ConvertFault}
use Rattle.jlog.specs.Packed.{IsPackedForm}
use Rattle.jconvert.specs.Converting.{WriteFaultOwes}
use Rattle.jconvert.specs.Compressing.{IsPackedImage, PutsPackedPart}
use Rattle.jconvert.specs.Putting.{form_piece}
use Rattle.jconvert.specs.Tallying.{IsCursor}

-- a form that goes out for a node: packed, or its own
abbrev pub IsFormFor : Endian → NodeRef → List ℕ → Bool → Type 0
IsFormFor e node form is_packed =
    (IsTrue is_packed × IsPackedForm e node form) ⊎ (IsFalse is_packed × (form ≡ canonical e node))

-- what was made for a tile, if it gives a node
abbrev pub IsMadeFor : Endian → Option NodeRef → List ℕ → Bool → Bool → Type 0
IsMadeFor e (Some node) form is_one is_packed = IsTrue is_one × IsFormFor e node form is_packed
IsMadeFor e None form is_one is_packed = IsFalse is_one

-- what goes out for a tile
abbrev pub PutsMade : Endian → ℕ → Option NodeRef → ℕ → Option (List ℕ) → Option (List ℕ) → ℕ
    × Bool → Type 0
PutsMade e size (Some node) from old new done =
    (form : List ℕ) × IsFormFor e node form done.1 × Appends old new (form_piece e size from form)
    × (done.0 ≡ end_after size from (length form)) × IsCursor size done.0
PutsMade e size None from old new done = (new ≡ old) × (done.0 ≡ from) × IsFalse done.1

-- the same of a call: with how often the sink failed, before and after, and where the next node may
-- begin, and whether the node is packed
abbrev pub PutsPacked : Endian → ℕ → Option NodeRef → ℕ → SinkChange
    → Result (ℕ × Bool) ConvertFault → Type 0
PutsPacked e size gives from sink (Ok done) =
    PutsMade e size gives from sink.old sink.new done × (sink.now ≡ sink.before)
PutsPacked e size gives from sink (Err f) = WriteFaultOwes
    (((n : NodeRef) × (gives ≡ Some n)
    × ((form : List ℕ) × (is_packed : Bool) × IsFormFor e n form is_packed
    × PutsPart sink.old sink.new (form_piece e size from form)))
    × (sink.now ≡ next_count sink.before))
    ((sink.new ≡ sink.old) × (sink.now ≡ sink.before)) f

-- What a call does that writes an image of all nodes, and answers how many of them are packed, and
-- how many bytes went out.
abbrev pub WritesPacked : Endian → ℕ → List ℕ → SinkChange → Result (ℕ × ℕ) ConvertFault → Type 0
WritesPacked e size image sink (Ok done) =
    ((out : List ℕ) × IsPackedImage e size image out done.0 × Appends sink.old sink.new out
    × (done.1 ≡ length out)) × (sink.now ≡ sink.before)
WritesPacked e size image sink (Err f) = WriteFaultOwes
    (PutsPackedPart e size image sink.old sink.new × (sink.now ≡ next_count sink.before))
    (PutsPackedPart e size image sink.old sink.new × (sink.now ≡ sink.before)) f
