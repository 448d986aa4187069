-- Laws of what stays. Each is a statement: it holds since a public function's contract names it.
use Rattle.std.specs.Prelude.{◌≡◌, ℕ, ◌+◌, List, [], map, length, Contains}
use Rattle.jnode.specs.declared.node.NodeRef.{NodeRef}
use Rattle.jmount.specs.Clash.{NodesClash}
use Rattle.jclash.specs.Parting.{Parts}
use Rattle.jclash.specs.declared.parting.LeftOut.{LeftOut}

-- no two of the nodes that stay clash
abbrev pub StayingDoNotClash : Type 0
StayingDoNotClash = (ns : List (ℕ × NodeRef)) (stay : List NodeRef) (left : List LeftOut)
    → Parts ns stay left → (a b : NodeRef) → Contains stay a → Contains stay b → NodesClash a b → ⊥

-- where no two nodes clash, all stay, and none is left out
abbrev pub AllStayWithoutClash : Type 0
AllStayWithoutClash = (ns : List (ℕ × NodeRef)) (stay : List NodeRef) (left : List LeftOut)
    → Parts ns stay left
    → ((m n : ℕ × NodeRef) → Contains ns m → Contains ns n → NodesClash m.1 n.1 → ⊥)
    → (stay ≡ map (λ n. n.1) ns) × (left ≡ [])

-- there is one way to part nodes
abbrev pub OneParting : Type 0
OneParting = (ns : List (ℕ × NodeRef)) (stay again : List NodeRef) (left out : List LeftOut)
    → Parts ns stay left → Parts ns again out → (stay ≡ again) × (left ≡ out)

-- each node that stays is one of them
abbrev pub StayingAreOfNodes : Type 0
StayingAreOfNodes = (ns : List (ℕ × NodeRef)) (stay : List NodeRef) (left : List LeftOut)
    → Parts ns stay left → (node : NodeRef) → Contains stay node
    → (addr : ℕ) × Contains ns (addr, node)

-- each node stays or is left out
abbrev pub NoneIsLost : Type 0
NoneIsLost = (ns : List (ℕ × NodeRef)) (stay : List NodeRef) (left : List LeftOut)
    → Parts ns stay left → length stay + length left ≡ length ns
