-- Nodes in order of their addresses, with one more behind them.
use Rattle.std.proofs.Common.{◌≡◌, ℕ, ◌+◌, ◌<◌, ◌≤◌, List, [], ◌∷◌, ◌++◌, sym, subst, arith, ⊎_elim}
use Rattle.std.specs.Prelude.{Contains}
use Rattle.std.proofs.lemmas.List.Elements.{Contains-append_cases}
use Rattle.flashbase.proofs.MemberLemmas.{Contains-none, Contains-here, Contains-there, Contains-cases}
use Rattle.jnode.specs.declared.node.NodeRef.{NodeRef}
use Rattle.jclash.specs.Parting.{AreByAddress}

abbrev pub AreBelow : List (ℕ × NodeRef) → ℕ → Type 0
AreBelow ns least = (m : ℕ × NodeRef) → Contains ns m → m.0 < least

-- an address that is no less than one that all are below
apart_from_last : (ns : List (ℕ × NodeRef)) (n : ℕ × NodeRef) (k : ℕ) → ((m : ℕ × NodeRef) → Contains ns m → k < m.0) → k < n.0 → (m : ℕ × NodeRef) → Contains (ns ++ n ∷ []) m → k < m.0
apart_from_last ns n k above last m has =
    ⊎_elim (λ early. above m early)
    (λ late. ⊎_elim (λ (e : n ≡ m). subst (λ (x : ℕ × NodeRef). k < x.0) e last) (λ none. absurd (Contains-none m none)) (Contains-cases n [] m late))
    (Contains-append_cases ns (n ∷ []) m has)

pub ordered_more : (ns : List (ℕ × NodeRef)) (n : ℕ × NodeRef) (least : ℕ) → AreByAddress ns → AreBelow ns least → least ≤ n.0 → AreByAddress (ns ++ n ∷ [])
ordered_more [] n least order below most = ((λ m has. absurd (Contains-none m has)), tt)
ordered_more (x ∷ ns) n least order below most =
    let first : x.0 < least = below x (Contains-here x ns) in
    (apart_from_last ns n x.0 order.0 (omega (arith, first, most)), ordered_more ns n least order.1 (λ m has. below m (Contains-there x ns m has)) most)

pub below_more : (ns : List (ℕ × NodeRef)) (n : ℕ × NodeRef) (least : ℕ) → AreBelow ns least → least ≤ n.0 → AreBelow (ns ++ n ∷ []) (n.0 + 1)
below_more ns n least below most m has =
    ⊎_elim (λ early. let less : m.0 < least = below m early in omega (arith, less, most))
    (λ late. ⊎_elim (λ (e : n ≡ m). subst (λ (x : ℕ × NodeRef). x.0 < n.0 + 1) e (omega arith)) (λ none. absurd (Contains-none m none)) (Contains-cases n [] m late))
    (Contains-append_cases ns (n ∷ []) m has)

-- the same of a list that got one more
pub ordered_pushed : (ns new : List (ℕ × NodeRef)) (n : ℕ × NodeRef) (least : ℕ) → new ≡ ns ++ n ∷ [] → AreByAddress ns → AreBelow ns least → least ≤ n.0 → AreByAddress new
ordered_pushed ns new n least is order below most = subst AreByAddress (sym is) (ordered_more ns n least order below most)

pub below_pushed : (ns new : List (ℕ × NodeRef)) (n : ℕ × NodeRef) (least next : ℕ) → new ≡ ns ++ n ∷ [] → AreBelow ns least → least ≤ n.0 → next ≡ n.0 + 1 → AreBelow new next
below_pushed ns new n least next is below most so =
    subst (λ (k : ℕ). AreBelow new k) (sym so) (subst (λ (l : List (ℕ × NodeRef)). AreBelow l (n.0 + 1)) (sym is) (below_more ns n least below most))
