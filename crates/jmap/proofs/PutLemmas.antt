-- Texts that go out one after another, up to a fault.
use Rattle.std.proofs.Common.{◌≡◌, ℕ, ◌+◌, ◌<◌, List, ◌++◌, Option, sym, ap, ◌∙◌, subst}
use Rattle.std.specs.Prelude.{Result, Ok, Err, IsErr, IsErrAnd}
use Rattle.std.specs.List.{flat_map}
use Rattle.std.specs.Io.KnownBytes.{Appends}
use Rattle.std.proofs.KnownBytes.{Appends-trans}
use Rattle.flashbase.specs.Device.{PutsPart, Puts, next_count}
use Rattle.flashbase.specs.Lists.{below}
use Rattle.flashbase.specs.Sinks.{SinkChange}
use Rattle.flashbase.proofs.DeviceLemmas.{first_failed, part_behind}
use Rattle.jscan.specs.Scans.{IsScannable}
use Rattle.jmap.specs.MapText.{PutsMap}
use Rattle.jmap.specs.declared.fault.MapFault.{MapFault}
use Rattle.jmap.specs.declared.fault.MapFault.TheVariants.{Output}
use Rattle.jmap.proofs.BlockLemmas.{below_more, below_begins}

-- ---- a text for each of the first numbers

pub number_put : (f : ℕ → List ℕ) (k : ℕ) (a b c : Option (List ℕ)) → Appends a b (flat_map f (below k)) → Appends b c (f k) → Appends a c (flat_map f (below (k + 1)))
number_put f k a b c put next = subst (Appends a c) (sym (below_more f k)) (Appends-trans a b c (flat_map f (below k)) (f k) put next)

pub number_failed : {T E : Type 0} (f : ℕ → List ℕ) (k n : ℕ) (a b c : Option (List ℕ)) (before mid now : ℕ) (r : Result T E) → IsErr r → k < n
    → Appends a b (flat_map f (below k)) → mid ≡ before → PutsPart b c (f k) → now ≡ next_count mid → Puts a c before now (flat_map f (below n)) r
number_failed f k n a b c before mid now r err less put same part failed =
    let (rest, is) = below_begins f k n less in
    subst (λ (l : List ℕ). Puts a c before now l r) (sym is)
    (first_failed a c before now (flat_map f (below k) ++ f k) rest r err
    (part_behind a b c (flat_map f (below k)) (f k) put part) (failed ∙ ap next_count same))

-- ---- a whole map

pub map_failed : {T : Type 0} (size : ℕ) (image text : List ℕ) (sink : SinkChange) (r : Result T MapFault) → IsErrAnd r (λ x. x ≡ Output) → IsScannable size image
    → PutsPart sink.old sink.new text → sink.now ≡ next_count sink.before → PutsMap size image text sink r
map_failed {T} size image text sink (Ok x) is scannable part failed = absurd is
map_failed {T} size image text sink (Err x) is scannable part failed =
    subst (λ (y : MapFault). PutsMap {T = T} size image text sink (Err y)) (sym is) (scannable, part, failed)
