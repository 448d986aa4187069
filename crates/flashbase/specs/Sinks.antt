-- What a call puts into a sink: `Puts` of what the sink tells of itself before and after the call.
use Rattle.std.specs.Prelude.{ℕ, List, Option, Result}
use Rattle.flashbase.specs.Device.{Puts}
use Rattle.flashbase.specs.declared.sink.Sink.{Ghosts as OfSink}

-- a sink before and after: what is known of the bytes that it took, and how often it failed
pub record SinkChange : Type 0 where
  pub old : Option (List ℕ)
  pub new : Option (List ℕ)
  pub before : ℕ
  pub now : ℕ

abbrev pub change_of : {S : Type 0} → OfSink S → S → S → SinkChange
change_of sink old new = record {
  old = sink.taken old;
  new = sink.taken new;
  before = sink.failures old;
  now = sink.failures new;
}

-- the call puts all of these bytes; at a fault a beginning of them went out
abbrev pub PutsTo : {S T E : Type 0} → OfSink S → S → S → List ℕ → Result T E → Type 0
PutsTo sink old new bytes result =
    Puts (sink.taken old) (sink.taken new) (sink.failures old) (sink.failures new) bytes result
