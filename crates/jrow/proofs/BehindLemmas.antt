-- Bytes that go out behind others of the same call, up to a fault that counts those too.
use Rattle.std.proofs.Common.{◌≡◌, ℕ, ◌+◌, ◌-◌, ◌*◌, ◌<◌, ◌≤◌, List, ◌++◌, length, take, min, sym, ap, subst, ◌∙◌, arith, Option}
use Rattle.std.specs.Prelude.{flat_map, Result, Ok, Err, IfErr, IsErrAnd}
use Rattle.std.specs.Io.KnownBytes.{Appends}
use Rattle.std.proofs.KnownBytes.{Appends-trans}
use Rattle.std.proofs.lemmas.List.{take-append-le, take-replicate, take_all, take-take, length-take, length-replicate, replicate-append-replicate}
use Rattle.flashbase.specs.Bytes.{erased}
use Rattle.flashbase.specs.Lists.{below}
use Rattle.flashbase.proofs.ListLemmas.{length-below}
use Rattle.jrow.proofs.SideLemmas.{made_long}
use Rattle.jrow.proofs.PlacingLemmas.{begin_more, begin_rest, part_parts}

-- a call that fails behind `before` bytes of `bytes` in all, of which it counts `taken`
abbrev pub StopsBehind : ℕ → Option (List ℕ) → Option (List ℕ) → List ℕ → ℕ → ℕ → Type 0
StopsBehind before old new bytes len taken =
    (before ≤ taken) × (taken < before + len) × Appends old new (take (taken - before) bytes)

-- a fault that goes on to the caller
pub goes_on : {T E : Type 0} (r : Result T E) (fault : E) (Q : E → Type 0) → IsErrAnd r (λ e. e ≡ fault) → Q fault → IfErr r Q
goes_on (Ok x) fault Q is holds = tt
goes_on (Err e) fault Q is holds = subst Q (sym is) holds

-- ---- erased bytes

-- a piece of them failed, of which the first n bytes were to go out
pub clear_stopped : (a b c : Option (List ℕ)) (before done n count taken : ℕ) (piece : List ℕ) → piece ≡ erased n → done + n ≤ count
    → Appends a b (erased done) → StopsBehind (before + done) b c piece (length piece) taken
    → (before ≤ taken) × (taken < before + count) × Appends a c (erased (taken - before))
clear_stopped a b c before done n count taken piece is within put stopped =
    let more : ℕ = taken - (before + done) in
    let long : length piece ≡ n = ap length is ∙ length-replicate n 0xFF in
    let few : more ≤ n = omega (arith, stopped.0, stopped.1, long) in
    let sum : done + more ≡ taken - before = omega (arith, stopped.0) in
    let same : take more piece ≡ erased more = ap (take more) is ∙ take-replicate more n 0xFF few in (
      omega (arith, stopped.0),
      omega (arith, stopped.1, long, within),
      subst (Appends a c) (replicate-append-replicate done more 0xFF ∙ ap erased sum)
          (Appends-trans a b c (erased done) (erased more) put (subst (Appends b c) same stopped.2)),
    )

-- ---- a part, its present bytes first

-- these failed
pub present_stopped : (a b : Option (List ℕ)) (before len held taken : ℕ) (part present : List ℕ)
    → part ≡ present ++ erased (length part - length present) → held ≡ min len (length present)
    → StopsBehind before a b (take held present) (length (take held present)) taken → StopsBehind before a b part len taken
present_stopped a b before len held taken part present is least stopped =
    let more : ℕ = taken - before in
    let long : length (take held present) ≡ min held (length present) = length-take held present in
    let few : more ≤ held = omega (arith, stopped.0, stopped.1, long) in
    let inside : more ≤ length present = omega (arith, few, least) in (
      stopped.0,
      omega (arith, stopped.1, long, least),
      subst (Appends a b)
          (take-take more held present few ∙ (sym (take-append-le more present (erased (length part - length present)) inside) ∙ sym (ap (take more) is)))
          stopped.2,
    )

-- those behind them failed
pub missing_stopped : (a b c : Option (List ℕ)) (before len held taken : ℕ) (part present : List ℕ) → len ≤ length part
    → part ≡ present ++ erased (length part - length present) → held ≡ min len (length present) → Appends a b (take held present)
    → (before + held ≤ taken) × (taken < before + held + (len - held)) × Appends b c (erased (taken - (before + held)))
    → StopsBehind before a c part len taken
missing_stopped a b c before len held taken part present within is least put stopped =
    let more : ℕ = taken - before in
    let rest : taken - (before + held) ≡ more - held = omega arith in
    let whole : held ≡ min more (length present) = omega (arith, stopped.0, stopped.1, least) in (
      omega (arith, stopped.0),
      omega (arith, stopped.1, least),
      subst (Appends a c) (part_parts more held part present (omega (arith, stopped.1, within, least)) is whole)
          (Appends-trans a b c (take held present) (erased (more - held)) put (subst (λ (n : ℕ). Appends b c (erased n)) rest stopped.2)),
    )

-- ---- a block behind others

pub block_stopped : (a b c : Option (List ℕ)) (size len k blocks left held taken : ℕ) (f : ℕ → List ℕ) → ((d : ℕ) → length (f d) ≡ size) → k < blocks
    → left ≡ len - k * size → held ≡ min left size → Appends a b (take len (flat_map f (below k))) → StopsBehind (len - left) b c (f k) held taken
    → (taken < len) × Appends a c (take taken (flat_map f (below blocks)))
block_stopped a b c size len k blocks left held taken f long within is least put stopped =
    let xs : List ℕ = flat_map f (below k) in
    let front : length xs ≡ k * size = made_long size f long (below k) ∙ ap (λ (n : ℕ). n * size) (length-below k) in
    let before : len - left ≡ k * size = omega (arith, stopped.0, stopped.1, is, least) in
    let most : taken < k * size + size = omega (arith, stopped.0, stopped.1, before, least) in
    let more : ℕ = taken - (len - left) in
    let next : more ≡ min (taken - k * size) size = omega (arith, before, most) in
    let all : take len xs ≡ take taken xs = take_all len xs (omega (arith, front, before)) ∙ sym (take_all taken xs (omega (arith, front, stopped.0, before))) in (
      omega (arith, stopped.1, is, least),
      subst (Appends a c)
          (ap (λ (l : List ℕ). l ++ take more (f k)) all
          ∙ (sym (begin_more size taken k (taken - k * size) more f long (omega arith) next) ∙ begin_rest size taken (k + 1) blocks f long (omega arith) (omega (arith, most))))
          (Appends-trans a b c (take len xs) (take more (f k)) put stopped.2),
    )
