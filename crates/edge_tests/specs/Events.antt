-- What happened, as the host in memory lists it.
use Rattle.std.specs.Prelude.{List, [], map, string_bytes}
use Rattle.jedge.specs.Calls.{Event, Did, Failed, Stream, Answers, Errors, Open, Read, ReadPart, Print}
use Rattle.edge_tests.specs.declared.happened.Happened.{Happened}
use Rattle.edge_tests.specs.declared.happened.Happened.TheVariants as happened
use Rattle.edge_tests.specs.declared.happened.To.{To}
use Rattle.edge_tests.specs.declared.happened.To.TheVariants as to

abbrev pub stream_to : To → Stream
stream_to to.Answers = Answers
stream_to to.Errors = Errors

-- What failed to be printed is not kept.
abbrev pub event_of : Happened → Event
event_of (happened.Opened name) = Did (Open (string_bytes name))
event_of (happened.NotOpened name reason) = Failed (Open (string_bytes name)) reason
event_of (happened.Read name bytes) = Did (Read (string_bytes name) bytes.now)
event_of (happened.ReadPart name bytes) = Did (ReadPart (string_bytes name) bytes.now)
event_of (happened.NotRead name bytes reason) =
    Failed (ReadPart (string_bytes name) bytes.now) reason
event_of (happened.Printed to bytes) = Did (Print (stream_to to) bytes.items)
event_of (happened.NotPrinted to reason) = Failed (Print (stream_to to) []) reason

abbrev pub events_of : List Happened → List Event
events_of all = map event_of all
