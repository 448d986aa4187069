-- Where the nodes lie that matter.
use Rattle.std.proofs.Common.{◌≡◌, ℕ, ◌<◌, List, [], ◌∷◌, Ok, Err, Global, Vec, length, map, arith, ap, sym, subst, ◌∙◌}
use Rattle.std.specs.Prelude.{IfOk, Result}
use Rattle.std.specs.List.{AllPairs, filter}
use Rattle.std.proofs.lemmas.List.{get_or-map, length-map}
use Rattle.std.proofs.lemmas.List.Kept.{AllPairs-filter}
use Rattle.jnode.specs.declared.order.Endian.{Endian}
use Rattle.jthrough.specs.Addressed.{addressed_nodes}
use Rattle.jthrough.proofs.AddressedLemmas.{addressed_are_by_address}
use Rattle.jcompact.specs.Matters.{AreWhatMatters, Placed, matters}
use Rattle.jinspects.specs.Live.{AreLive}

-- the addresses of nodes that are in order
addresses_ascend : (ns : List Placed) → AllPairs (λ (m n : Placed). m.0 < n.0) ns → AllPairs (λ (a b : ℕ). a < b) (map (λ (n : Placed). n.0) ns)
addresses_ascend [] up i j d lt within = absurd (omega (arith, within))
addresses_ascend (x ∷ xs) up i j d lt within =
    let ns : List Placed = x ∷ xs in
    let short : j < length ns = omega (arith, within, length-map ns (λ (n : Placed). n.0)) in
    let first = get_or-map (λ (n : Placed). n.0) ns i x d (omega (arith, lt, short)) in
    let second = get_or-map (λ (n : Placed). n.0) ns j x d short in
    omega (arith, first, second, up i j x lt short)

-- what is answered of the nodes that were kept
pub of_kept : {E : Type 0} (e : Endian) (size : ℕ) (image : List ℕ) (nodes kept lent : List Placed) (r : Result (Vec ℕ Global) E)
    → nodes ≡ addressed_nodes e size image → AreWhatMatters nodes kept → lent ≡ kept → IfOk r (λ found. found.items ≡ map (λ n. n.0) lent)
    → IfOk r (λ live. AreLive e size image live.items)
of_kept e size image nodes kept lent (Ok found) are matter same is =
    (kept, subst (λ (ns : List Placed). AreWhatMatters ns kept) are matter, is ∙ ap (λ (ns : List Placed). map (λ (n : Placed). n.0) ns) same)
of_kept e size image nodes kept lent (Err error) are matter same is = tt

pub live_ascend : (e : Endian) (size : ℕ) (image live : List ℕ) → AreLive e size image live → AllPairs (λ (a b : ℕ). a < b) live
live_ascend e size image live is =
    let ns : List Placed = addressed_nodes e size image in
    let up : AllPairs (λ (m n : Placed). m.0 < n.0) is.0 =
    subst (AllPairs (λ (m n : Placed). m.0 < n.0)) (sym is.1.2) (AllPairs-filter (λ (m n : Placed). m.0 < n.0) (matters ns is.1.0) ns (addressed_are_by_address e size image)) in
    subst (AllPairs (λ (a b : ℕ). a < b)) (sym is.2) (addresses_ascend is.0 up)
