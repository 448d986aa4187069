-- The nodes of an image, one after another, until one is met that is looked for.
use Rattle.std.proofs.Common.{◌≡◌, ℕ, ◌<◌, ◌≤◌, List, [], ◌∷◌, ◌++◌, refl, sym, ap, subst, ◌∙◌, append_assoc, arith, Option, None, Some, ⊎_elim}
use Rattle.std.specs.Prelude.{Contains, ◌==◌, filter_map, option_map, if◌then◌else◌}
use Rattle.std.specs.List.{cons_option}
use Rattle.std.proofs.lemmas.Bool.{cases_Bool, cond-true, cond-false, eqb-true, eq-eqb}
use Rattle.std.proofs.lemmas.Option.{same_Some, none-some}
use Rattle.std.proofs.lemmas.List.Elements.{Contains-append_right, Contains-append_cases, Contains-push_cases}
use Rattle.flashbase.proofs.MemberLemmas.{Contains-none, Contains-here, Contains-cases}
use Rattle.jnode.specs.Reading.{node_in}
use Rattle.jnode.specs.declared.order.Endian.{Endian}
use Rattle.jnode.specs.declared.node.NodeRef.{NodeRef}
use Rattle.jnode.specs.declared.node.Seen.{Seen}
use Rattle.jscan.specs.Image.{node_sighted, nodes}
use Rattle.jscan.proofs.AddressLaws.{nodes_ascend}
use Rattle.jmount.specs.Clash.{NodesClash, IsClashAt}
use Rattle.jmount.proofs.ClashLemmas.{clashes_sym}
use Rattle.jmount.proofs.FaultLemmas.{Rises, rises, ascends_from_splits}
use Rattle.jclash.specs.Parting.{NoneClashesWith}
use Rattle.jclash.specs.Lowest.{IsLowestClash}

-- ---- what is passed

-- Of these nodes some were passed, none of which is looked for; the tiles that are left have the
-- rest.
abbrev pub Passes : (ℕ × NodeRef → Type 0) → List (ℕ × NodeRef) → List (ℕ × Seen) → Type 0
Passes Is ns left = (passed : List (ℕ × NodeRef)) × (ns ≡ passed ++ filter_map node_sighted left) × ((n : ℕ × NodeRef) → Contains passed n → Is n → ⊥)

pub passes_start : (Is : ℕ × NodeRef → Type 0) (ns : List (ℕ × NodeRef)) (left : List (ℕ × Seen)) → ns ≡ filter_map node_sighted left → Passes Is ns left
passes_start Is ns left is = ([], is, λ n has this. Contains-none n has)

pub passes_next : (Is : ℕ × NodeRef → Type 0) (ns : List (ℕ × NodeRef)) (left : List (ℕ × Seen)) (s : ℕ × Seen) (rest : List (ℕ × Seen)) → Passes Is ns left → left ≡ s ∷ rest
    → ((n : ℕ × NodeRef) → node_sighted s ≡ Some n → Is n → ⊥) → Passes Is ns rest
passes_next Is ns left s rest so_far is not =
    by (node_sighted s) not (so_far.1 ∙ ap (λ (l : List (ℕ × Seen)). so_far.0 ++ filter_map node_sighted l) is)
  where
    by : (o : Option (ℕ × NodeRef)) → ((n : ℕ × NodeRef) → o ≡ Some n → Is n → ⊥) → ns ≡ so_far.0 ++ cons_option o (filter_map node_sighted rest) → Passes Is ns rest
    by None other split = (so_far.0, split, so_far.2)
    by (Some n) other split = (
      so_far.0 ++ n ∷ [],
      split ∙ sym (append_assoc so_far.0 (n ∷ []) (filter_map node_sighted rest)),
      λ m has this.
          ⊎_elim
          (λ early. so_far.2 m early this)
          (λ (e : n ≡ m). other m (ap Some e) this)
          (Contains-push_cases so_far.0 n m has),
    )

pub passes_end : (Is : ℕ × NodeRef → Type 0) (ns : List (ℕ × NodeRef)) (left : List (ℕ × Seen)) → Passes Is ns left → left ≡ [] → (n : ℕ × NodeRef) → Contains ns n → Is n → ⊥
passes_end Is ns left all is n has this =
    let split : ns ≡ all.0 ++ [] = all.1 ∙ ap (λ (l : List (ℕ × Seen)). all.0 ++ filter_map node_sighted l) is in
    ⊎_elim
    (λ early. all.2 n early this)
    (λ late. Contains-none n late)
    (Contains-append_cases all.0 [] n (subst (λ (l : List (ℕ × NodeRef)). Contains l n) split has))

-- a node that is met is one of them, and no other one that is looked for is below it
pub reached : (e : Endian) (size : ℕ) (image : List ℕ) (Is : ℕ × NodeRef → Type 0) (left : List (ℕ × Seen)) (s : ℕ × Seen) (rest : List (ℕ × Seen)) (n : ℕ × NodeRef)
    → Passes Is (nodes e size image) left → left ≡ s ∷ rest → node_sighted s ≡ Some n
    → Contains (nodes e size image) n × ((m : ℕ × NodeRef) → Contains (nodes e size image) m → Is m → n.0 ≤ m.0)
reached e size image Is left s rest n so_far is sighted =
    let more : List (ℕ × NodeRef) = filter_map node_sighted rest in
    let split : nodes e size image ≡ so_far.0 ++ n ∷ more =
    so_far.1 ∙ ap (λ (l : List (ℕ × Seen)). so_far.0 ++ filter_map node_sighted l) is ∙ ap (λ (o : Option (ℕ × NodeRef)). so_far.0 ++ cons_option o more) sighted in (
      subst (λ (l : List (ℕ × NodeRef)). Contains l n) (sym split) (Contains-append_right so_far.0 (n ∷ more) n (Contains-here n more)),
      λ m has this.
          ⊎_elim
          (λ early. absurd (so_far.2 m early this))
          (λ late.
          ⊎_elim
          (λ (same : n ≡ m). let equal : n.0 ≡ m.0 = ap (λ (z : ℕ × NodeRef). z.0) same in omega (arith, equal))
          (λ later. let less : n.0 < m.0 = nodes_ascend e size image so_far.0 more n m split later in omega (arith, less))
          (Contains-cases n more m late))
          (Contains-append_cases so_far.0 (n ∷ more) m (subst (λ (l : List (ℕ × NodeRef)). Contains l m) split has)),
    )

-- ---- the node at an address

-- a tile shows no node there
pub not_there : (at addr : ℕ) (seen : Seen) → None ≡ (if at == addr then node_in seen else None) → (n : ℕ × NodeRef) → node_sighted (at, seen) ≡ Some n → n.0 ≡ addr → ⊥
not_there at addr seen none n sighted here = by (node_in seen) refl sighted
  where
    by : (o : Option NodeRef) → node_in seen ≡ o → option_map (λ node. (at, node)) o ≡ Some n → ⊥
    by None is some = none-some n some
    by (Some node) is some =
        let same : at ≡ n.0 = ap (λ (z : ℕ × NodeRef). z.0) (same_Some (at, node) n some) in
        none-some node (none ∙ cond-true (at == addr) (node_in seen) None (eq-eqb at addr (same ∙ here)) ∙ is)

-- a tile shows this one there
pub is_there : (at addr : ℕ) (seen : Seen) (node : NodeRef) → Some node ≡ (if at == addr then node_in seen else None) → node_sighted (at, seen) ≡ Some (addr, node)
is_there at addr seen node some =
    ⊎_elim
    (λ yes.
    let same : at ≡ addr = eqb-true at addr yes in
    let is : node_in seen ≡ Some node = sym (some ∙ cond-true (at == addr) (node_in seen) None yes) in
    ap (option_map (λ (m : NodeRef). (at, m))) is ∙ ap (λ (a : ℕ). Some (a, node)) same)
    (λ no. absurd (none-some node (sym (some ∙ cond-false (at == addr) (node_in seen) None no))))
    (cases_Bool (at == addr))

one_at : (ns : List (ℕ × NodeRef)) (addr : ℕ) (a b : NodeRef) → Rises ns → Contains ns (addr, a) → Contains ns (addr, b) → a ≡ b
one_at [] addr a b up has_a has_b = absurd (Contains-none (addr, a) has_a)
one_at (n ∷ ns) addr a b up has_a has_b =
    ⊎_elim
    (λ (e : n ≡ (addr, a)). ⊎_elim
    (λ (f : n ≡ (addr, b)). ap (λ (z : ℕ × NodeRef). z.1) (sym e ∙ f))
    (λ later. let less : n.0 < addr = up.0 (addr, b) later in let same : n.0 ≡ addr = ap (λ (z : ℕ × NodeRef). z.0) e in absurd (omega (arith, less, same)))
    (Contains-cases n ns (addr, b) has_b))
    (λ early. ⊎_elim
    (λ (f : n ≡ (addr, b)). let less : n.0 < addr = up.0 (addr, a) early in let same : n.0 ≡ addr = ap (λ (z : ℕ × NodeRef). z.0) f in absurd (omega (arith, less, same)))
    (λ later. one_at ns addr a b up.1 early later)
    (Contains-cases n ns (addr, b) has_b))
    (Contains-cases n ns (addr, a) has_a)

pub one_node_at : (e : Endian) (size : ℕ) (image : List ℕ) (addr : ℕ) (a b : NodeRef) → Contains (nodes e size image) (addr, a) → Contains (nodes e size image) (addr, b) → a ≡ b
one_node_at e size image addr a b has_a has_b =
    one_at (nodes e size image) addr a b (rises (nodes e size image) (ascends_from_splits (nodes e size image) (nodes_ascend e size image))) has_a has_b

-- ---- nodes that clash

sighted_clash : (at : ℕ) (seen : Seen) (n : ℕ × NodeRef) → node_sighted (at, seen) ≡ Some n → node_in seen ≡ Some n.1
sighted_clash at seen n sighted = by (node_in seen) sighted
  where
    by : (o : Option NodeRef) → option_map (λ node. (at, node)) o ≡ Some n → o ≡ Some n.1
    by None some = absurd (none-some n some)
    by (Some node) some = ap (λ (z : ℕ × NodeRef). Some z.1) (same_Some (at, node) n some)

-- a tile shows no node that clashes
pub no_clash_seen : (at : ℕ) (seen : Seen) (node : NodeRef) → ((other : NodeRef) × (node_in seen ≡ Some other) × NodesClash other node → ⊥)
    → (n : ℕ × NodeRef) → node_sighted (at, seen) ≡ Some n → NodesClash n.1 node → ⊥
no_clash_seen at seen node none n sighted clash = none (n.1, sighted_clash at seen n sighted, clash)

pub lowest_reached : (e : Endian) (size : ℕ) (image : List ℕ) (node : NodeRef) (left : List (ℕ × Seen)) (at : ℕ) (seen : Seen) (rest : List (ℕ × Seen))
    → Passes (λ n. NodesClash n.1 node) (nodes e size image) left → left ≡ (at, seen) ∷ rest
    → (other : NodeRef) × (node_in seen ≡ Some other) × NodesClash other node → IsLowestClash (nodes e size image) node at
lowest_reached e size image node left at seen rest so_far is found =
    let here = reached e size image (λ n. NodesClash n.1 node) left (at, seen) rest (at, found.0) so_far is (ap (option_map (λ (m : NodeRef). (at, m))) found.1) in
    record { other = found.0; there = here.0; clash = found.2; lowest = here.1 }

-- ---- the answer

pub none_there : (ns : List (ℕ × NodeRef)) (addr : ℕ) → ((node : NodeRef) → Contains ns (addr, node) → ⊥) → IsClashAt ns addr → ⊥
none_there ns addr none c = none c.0 c.3

pub none_clashes : (e : Endian) (size : ℕ) (image : List ℕ) (addr : ℕ) (node : NodeRef) → Contains (nodes e size image) (addr, node) → NoneClashesWith (nodes e size image) node
    → IsClashAt (nodes e size image) addr → ⊥
none_clashes e size image addr node has none c =
    let same : c.0 ≡ node = one_node_at e size image addr c.0 node c.3 has in
    none (c.1, c.2) c.4 (clashes_sym node c.2 (subst (λ (m : NodeRef). NodesClash m c.2) same c.6))

pub none_below : (e : Endian) (size : ℕ) (image : List ℕ) (addr at : ℕ) (node : NodeRef) → Contains (nodes e size image) (addr, node) → IsLowestClash (nodes e size image) node at → addr ≤ at
    → IsClashAt (nodes e size image) addr → ⊥
none_below e size image addr at node has lowest above c =
    let same : c.0 ≡ node = one_node_at e size image addr c.0 node c.3 has in
    let under : c.1 < addr = c.5 in
    let low : at ≤ c.1 = lowest.lowest (c.1, c.2) c.4 (clashes_sym node c.2 (subst (λ (m : NodeRef). NodesClash m c.2) same c.6)) in
    absurd (omega (arith, under, low, above))
