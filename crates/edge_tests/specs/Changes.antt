-- What a call adds to what happened.
use Rattle.std.specs.Prelude.{◌≡◌, ◌++◌, ℕ, Bool, true, false, List, Result}
use Rattle.jedge.specs.Acts.{IsPrintedInPart, reads_whole}
use Rattle.jedge.specs.Calls.{Event, Stream, printed}
use Rattle.jedge.specs.declared.fault.Fault.{Fault}

-- a text that a sink took, which failed so often, is printed; or a beginning of it is
abbrev pub AddsPrint : Stream → ℕ → List ℕ → List Event → List Event → Bool → Type 0
AddsPrint stream failures text before now true =
    (failures ≡ 0) × (now ≡ before ++ printed stream text)
AddsPrint stream failures text before now false =
    (more : List Event) × IsPrintedInPart stream text more × (now ≡ before ++ more)

-- the file of a name, which is open, is read
abbrev pub AddsRead : List ℕ → List Event → List Event → Result (List ℕ) Fault → Type 0
AddsRead name before now result =
    (more : List Event) × reads_whole name more result × (now ≡ before ++ more)
