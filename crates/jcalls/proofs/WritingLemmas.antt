-- What went to a sink in memory.
use Rattle.std.proofs.Common.{◌≡◌, ℕ, List, [], refl, subst, Some}
use Rattle.std.specs.Prelude.{Option, Result, Ok, Err, IfOk}
use Rattle.std.specs.Io.KnownBytes.{Appends}
use Rattle.flashbase.specs.Sinks.{SinkChange}
use Rattle.jcuts.specs.Cuts.{AreCutsTold, Asked, Point, TellsUpTo, base_point}
use Rattle.jlog.specs.declared.fault.SessionFault.{SessionFault}
use Rattle.jlog.specs.declared.start.Flash.{Flash}
use Rattle.jnode.specs.declared.order.Endian.{Endian}
use Rattle.jsteps.specs.declared.op.Op.{Op}
use Rattle.jcalls.specs.Cutting.{AreCuts, IsDeclinedAt, asked_nodes}
use Rattle.jcalls.specs.Told.{session_told, told_number}
use Rattle.jcalls.specs.Works.{IsGoneOn, sink_with}
use Rattle.jcalls.specs.declared.told.Told.{Told}

-- what it has, if it had nothing
pub taken_from_none : (old new : Option (List ℕ)) (bytes text : List ℕ) → old ≡ Some [] → new ≡ Some bytes → Appends old new text → bytes ≡ text
taken_from_none old new bytes text none some appends =
    subst (λ n. Appends (Some []) n text) some (subst (λ o. Appends o new text) none appends)

-- ---- what `cuts` puts, and what `append` does

pub cuts_put : (e : Endian) (flash : Flash) (asked : Asked) (from : Point) (sink : SinkChange) (weak : ℕ) (bytes : List ℕ) → sink.old ≡ Some [] → sink.new ≡ Some bytes
    → AreCutsTold e flash asked from sink weak → AreCutsTold e flash asked from (sink_with bytes 0) weak
cuts_put e flash asked from sink weak bytes none some told = record {
  to = told.to;
  leads = told.leads;
  counted = told.counted;
  put = taken_from_none sink.old sink.new bytes _ none some told.put;
  failed = refl;
}

pub sink_is : (sink : SinkChange) (bytes : List ℕ) → sink.old ≡ Some [] → sink.new ≡ Some bytes → sink.before ≡ 0 → sink ≡ sink_with bytes sink.now
sink_is sink bytes none some zero = λ i. record { old = none i; new = some i; before = zero i; now = sink.now }

pub declined_at : {X : Type 0} (e : Endian) (flash : Flash) (image : List ℕ) (ops : List Op) (numbers : List ℕ) (sink : SinkChange) (why : SessionFault) (line : ℕ)
    (blocks : Result (Option ℕ) X) (told : Told) → TellsUpTo e flash (asked_nodes ops numbers) (base_point e flash image) sink why (line, blocks)
    → told ≡ session_told (told_number line) why → IsDeclinedAt e flash image ops numbers told
declined_at e flash image ops numbers sink why line blocks told tells is = (tells.0, line, why, tells.1, is)

-- those on an image
pub cuts_of : {V : Type 0} (e : Endian) (flash : Flash) (image : List ℕ) (ops : List Op) (numbers : List ℕ) (r : Result V Told) (text : V → List ℕ)
    → IfOk r (λ v. IsGoneOn e flash image × ((weak : ℕ) × AreCutsTold e flash (asked_nodes ops numbers) (base_point e flash image) (sink_with (text v) 0) weak))
    → IfOk r (λ v. AreCuts e flash image ops numbers (text v))
cuts_of e flash image ops numbers (Ok v) text has = record { base = has.0; weak = has.1.0; told = has.1.1 }
cuts_of e flash image ops numbers (Err told) text has = has
