-- What a sink over the lines of a command shows of itself.
use Rattle.std.specs.Prelude.{◌≡◌, ℕ, Bool, List, take, Option, Some, None, Result, Ok, Err}
use Rattle.std.specs.Io.KnownBytes.{Appends}
use Rattle.flashbase.specs.Device.{PutsPart}
use Rattle.jjson.specs.Texts.{json_after, unfinished}
use Rattle.jjson.specs.declared.lines.Lines.{Lines}
use Rattle.jjson.specs.declared.sink.JsonSink.{JsonSink}

-- the sink below
abbrev pub sink_below : {S : Type 0} → JsonSink S → S
sink_below sink = sink.below

-- whose lines it takes, if they become JSON
abbrev pub json_lines : {S : Type 0} → JsonSink S → Option Lines
json_lines sink = sink.lines

-- the line that it has begun
abbrev pub line_begun : {S : Type 0} → JsonSink S → List ℕ
line_begun sink = sink.line.items

-- whether it failed, and takes nothing more
abbrev pub has_failed : {S : Type 0} → JsonSink S → Bool
has_failed sink = sink.failed

-- the bytes that it took, if they went below as they are; of a text it reports none
abbrev pub taken_below : Option Lines → Option (List ℕ) → Option (List ℕ)
taken_below None taken = taken
taken_below (Some lines) taken = None

-- how often it failed over a text that becomes JSON
abbrev pub own_failures : {S : Type 0} → JsonSink S → ℕ
own_failures sink = sink.failures

-- how often it failed: over bytes that go below as they are, as often as the sink there
abbrev pub failures_of : Option Lines → ℕ → ℕ → ℕ
failures_of None own below = below
failures_of (Some lines) own below = own

-- A put takes n bytes of a text. The JSON of the lines that they end goes below, and the line that
-- they begin is kept. At a failure a beginning of the JSON of the text went out.
abbrev pub PutsJson : {S E : Type 0} → Lines → (S → Option (List ℕ)) → JsonSink S → JsonSink S
    → List ℕ → Result ℕ E → Type 0
PutsJson lines taken old new text (Ok n) =
    Appends (taken (sink_below old)) (taken (sink_below new))
    (json_after lines (line_begun old) (take n text))
    × (line_begun new ≡ unfinished (line_begun old) (take n text))
PutsJson lines taken old new text (Err _) =
    PutsPart (taken (sink_below old)) (taken (sink_below new))
    (json_after lines (line_begun old) text)
