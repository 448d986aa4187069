-- What goes out of an image that is compacted.
use Rattle.std.proofs.Common.{◌≡◌, ℕ, List, subst}
use Rattle.jnode.specs.declared.order.Endian.{Endian}
use Rattle.jmount.specs.Mount.{Mount}
use Rattle.jthrough.specs.Addressed.{addressed_nodes}
use Rattle.jcollect.specs.Planning.{ArePlanned, MayPut}
use Rattle.jcollect.proofs.CompactThroughLemmas.{planned_through}

pub may_compact : (e : Endian) (size blocks : ℕ) (image : List ℕ) (m : Mount) (addresses : List ℕ) (count bytes : ℕ) → m.image ≡ image
    → ArePlanned (addressed_nodes e size m.image) e size blocks m addresses count bytes → MayPut e size image addresses
may_compact e size blocks image m addresses count bytes same plan =
    subst (λ (l : List ℕ). MayPut e size l addresses) same (planned_through e size blocks m addresses count bytes plan)
