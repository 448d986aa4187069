-- What a host does that tells nothing of it.
use Rattle.std.proofs.Common.{◌≡◌, ◌++◌, ◌+◌, ◌<◌, ℕ, List, [], ◌∷◌, None, arith, refl}
use Rattle.std.specs.Prelude.{Result, length}
use Rattle.std.proofs.lemmas.List.{length-replicate}
use Rattle.flashbase.specs.Bytes.{erased}
use Rattle.jreport.specs.declared.reason.Reason.TheVariants as reason
use Rattle.jedge.specs.Acts.{Act, DoesFrom, IsPrintedInPart}
use Rattle.jedge.specs.Calls.{Event, Failed, Print, Stream}
use Rattle.jedge.specs.declared.fault.Fault.{Fault}

pub untold : {A : Type 0} {act : Act A} {r : Result A Fault} (events : List Event) → act events r → DoesFrom None None act r
untold events is = record { events = events; acts = is; told = refl }

-- some bytes are more than so many
pub longer_than : (n : ℕ) → (bytes : List ℕ) × (n < length bytes)
longer_than n = (erased (n + 1), omega (arith, length-replicate {A = ℕ} (n + 1) 0xFF))

pub none_of : (stream : Stream) (text : List ℕ) → IsPrintedInPart stream text (Failed (Print stream []) reason.Other ∷ [])
none_of stream text = record { begun = []; left = text; rest = []; reason = reason.Other; of = refl; happened = refl }
