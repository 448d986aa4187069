-- The next number and the greatest versions are the least that serve.
use Rattle.std.proofs.Common.{◌≡◌, ℕ, ◌+◌, ◌-◌, ◌<◌, ◌≤◌, List, [], ◌∷◌, map, sym, ⊎_elim, arith}
use Rattle.std.specs.Prelude.{Contains, filter, ◌==◌}
use Rattle.std.specs.List.{flat_map}
use Rattle.std.proofs.lemmas.Bool.{eq-eqb, eqb-true}
use Rattle.flashbase.specs.Lists.{greatest}
use Rattle.flashbase.proofs.ListLemmas.{greatest_is_greatest}
use Rattle.jnode.specs.declared.node.NodeRef.{NodeRef}
use Rattle.flashbase.proofs.MemberLemmas.{Contains-here, Contains-there, Contains-cases, Contains-map, Contains-map_from, Contains-flat_map, Contains-flat_map_from, Contains-filter, Contains-filter_from}
use Rattle.jmount.specs.StateOf.{numbers_in, owner, version_of}
use Rattle.jmount.specs.Laws as law

at_most_greatest : (xs : List ℕ) (x : ℕ) → Contains xs x → x ≤ greatest xs
at_most_greatest xs x c = (greatest_is_greatest xs).0 x c

greatest_at_most : (xs : List ℕ) (most : ℕ) → ((x : ℕ) → Contains xs x → x ≤ most) → greatest xs ≤ most
greatest_at_most [] most h = omega arith
greatest_at_most (x ∷ xs) most h = h (greatest (x ∷ xs)) ((greatest_is_greatest (x ∷ xs)).1 (omega arith))

numbered : (ns : List NodeRef) (next : ℕ) → law.IsPastAll ns next → (x : ℕ) → Contains (1 ∷ flat_map numbers_in ns) x → x + 1 ≤ next
numbered ns next past x c =
    ⊎_elim
    (λ (root : 1 ≡ x). let l : 1 < next = past.0 in omega arith)
    (λ named. let found = Contains-flat_map_from numbers_in ns x named in let l : x < next = past.1 found.0 x found.1 found.2 in omega arith)
    (Contains-cases 1 (flat_map numbers_in ns) x c)

below_all : (xs : List ℕ) (next : ℕ) → ((x : ℕ) → Contains xs x → x + 1 ≤ next) → 1 ≤ next → 1 + greatest xs ≤ next
below_all xs next h some =
    let most : greatest xs ≤ next - 1 = greatest_at_most xs (next - 1) (λ x c. let l : x + 1 ≤ next = h x c in omega arith) in
    omega arith

pub next_is_least : law.NextIsLeastPastAll
next_is_least ns = (
  (
    (let root : 1 ≤ greatest (1 ∷ flat_map numbers_in ns) = at_most_greatest (1 ∷ flat_map numbers_in ns) 1 (Contains-here 1 (flat_map numbers_in ns)) in omega arith),
    λ node i there named.
        let most : i ≤ greatest (1 ∷ flat_map numbers_in ns) =
        at_most_greatest (1 ∷ flat_map numbers_in ns) i (Contains-there 1 (flat_map numbers_in ns) i (Contains-flat_map numbers_in ns node i there named)) in
        omega arith,
  ),
  λ next past. below_all (1 ∷ flat_map numbers_in ns) next (numbered ns next past) (let l : 1 < next = past.0 in omega arith),
)

pub top_is_least : law.TopIsLeastNotPassed
top_is_least ns i =
    let kept = filter (λ n. i == owner n) ns in (
      λ node there same.
          at_most_greatest (map version_of kept) (version_of node) (Contains-map version_of kept node (Contains-filter (λ n. i == owner n) ns node (eq-eqb i (owner node) (sym same)) there)),
      λ version h.
          greatest_at_most (map version_of kept) version
          (λ x c.
          let found = Contains-map_from version_of kept x c in
          let of_number = Contains-filter_from (λ n. i == owner n) ns found.0 found.1 in
          let most : version_of found.0 ≤ version = h found.0 of_number.0 (sym (eqb-true i (owner found.0) of_number.1)) in
          let same : version_of found.0 ≡ x = found.2 in
          omega arith),
    )
