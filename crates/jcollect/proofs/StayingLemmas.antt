-- Which nodes stay, and what holds of them.
use Rattle.std.proofs.Common.{◌≡◌, ℕ, zero, suc, ◌++◌, append_assoc, ◌+◌, ◌<◌, ◌≤◌, Bool, true, false, cond, List, [], ◌∷◌, length, map, refl, sym, ap, ap₂, subst, ◌∙◌, arith, get_or, take, None, Some, Option, Contains, ⊎_elim, inl, inr, Err}
use Rattle.std.specs.Prelude.{◌==◌, ◌||◌, AllPairs, IsFalse, IsTrue, filter, not, Ok}
use Rattle.std.specs.List.{list_any}
use Rattle.std.proofs.lemmas.Bool.{eq-eqb, eqb-true, cases_Bool}
use Rattle.std.proofs.lemmas.List.{append-nil, map-append}
use Rattle.std.proofs.lemmas.List.Folds.{list_any_more}
use Rattle.flashbase.proofs.MemberLemmas.{Contains-none, Contains-here, Contains-there, Contains-cases, Contains-filter_from, Contains-map}
use Rattle.jnode.specs.declared.node.NodeRef.{NodeRef}
use Rattle.jnode.specs.declared.order.Endian.{Endian}
use Rattle.jclash.specs.Parting.{AreByAddress, Parts}
use Rattle.jclash.specs.declared.parting.LeftOut.{LeftOut}
use Rattle.jclash.proofs.PartLemmas.{staying_do_not_clash}
use Rattle.jmount.specs.Clash.{NoneClash}
use Rattle.jmount.specs.Collected.{without_addresses}
use Rattle.jmount.specs.MountsNodes.{AreMountable}
use Rattle.jmount.proofs.FaultLemmas.{Rises, rises}
use Rattle.jthrough.specs.Addressed.{addressed_nodes}
use Rattle.jthrough.proofs.AddressedLemmas.{addressed_are_by_address, ascends_by}
use Rattle.jlog.proofs.SoundLemmas.{with_address}
use Rattle.jcompact.specs.Matters.{Placed}
use Rattle.jcollect.specs.Staying.{is_left_out, not_left_out, StayPlaced, StayingArePlaced}

-- ---- in the order of their addresses

pub by_address : (ns : List Placed) → Rises ns → AreByAddress ns
by_address [] up = tt
by_address (n ∷ ns) up = (up.0, by_address ns up.1)

rises_by : (ns : List Placed) → AreByAddress ns → Rises ns
rises_by [] order = tt
rises_by (n ∷ ns) order = (order.0, rises_by ns order.1)

pub addressed_in_order : (e : Endian) (size : ℕ) (image : List ℕ) → AreByAddress (addressed_nodes e size image)
addressed_in_order e size image = by_address (addressed_nodes e size image) (rises (addressed_nodes e size image) (addressed_are_by_address e size image))

order_if : (b : Bool) (n : Placed) (ns : List Placed) → ((m : Placed) → Contains ns m → n.0 < m.0) → AreByAddress ns → AreByAddress (cond b (n ∷ ns) ns)
order_if true n ns below order = (below, order)
order_if false n ns below order = order

order_filter : (p : Placed → Bool) (ns : List Placed) → AreByAddress ns → AreByAddress (filter p ns)
order_filter p [] order = tt
order_filter p (n ∷ ns) order = order_if (p n) n (filter p ns) (λ m has. order.0 m (Contains-filter_from p ns m has).0) (order_filter p ns order.1)

pub filter_in_order : (p : Placed → Bool) (ns : List Placed) → AreByAddress ns → AllPairs (λ (m n : Placed). m.0 < n.0) (filter p ns)
filter_in_order p ns order = ascends_by (filter p ns) (rises_by (filter p ns) (order_filter p ns order))

-- ---- addresses that are left out

or_swap : (a b : Bool) → (a || b) ≡ (b || a)
or_swap true true = refl
or_swap true false = refl
or_swap false true = refl
or_swap false false = refl

-- with one address more
pub one_more_out : (left : List LeftOut) (i : ℕ) (d : LeftOut) (addr : ℕ) (old new : ℕ → Bool) → i < length left → addr ≡ (get_or left i d).addr
    → ((a : ℕ) → new a ≡ ((addr == a) || old a)) → ((a : ℕ) → old a ≡ is_left_out (take i left) a) → (a : ℕ) → new a ≡ is_left_out (take (i + 1) left) a
one_more_out left i d addr old new less at adds so_far a =
    adds a ∙ ap (λ (b : Bool). (addr == a) || b) (so_far a)
    ∙ or_swap (addr == a) (is_left_out (take i left) a)
    ∙ ap (λ (k : ℕ). is_left_out (take i left) a || (k == a)) at
    ∙ sym (list_any_more (λ (l : LeftOut). l.addr == a) left i d less)

unequal : (a b : ℕ) → (a ≡ b → ⊥) → (a == b) ≡ false
unequal a b differ = by_test (a == b) refl
  where
    by_test : (t : Bool) → (a == b) ≡ t → t ≡ false
    by_test true is = absurd (differ (eqb-true a b is))
    by_test false is = refl

-- no node below all of these is left out of them
none_out : (ns : List Placed) (stay : List NodeRef) (left : List LeftOut) → Parts ns stay left → (addr : ℕ) → ((m : Placed) → Contains ns m → addr < m.0) → is_left_out left addr ≡ false
none_out [] stay left parts addr below = ap (λ (l : List LeftOut). is_left_out l addr) parts.1
none_out (n ∷ ns) stay left parts addr below =
    ⊎_elim
    (λ here. none_out ns here.1.0 left here.1.2 addr (λ m has. below m (Contains-there n ns m has)))
    (λ out.
    let rest = none_out ns stay out.2.0 out.2.2 addr (λ m has. below m (Contains-there n ns m has)) in
    let above : addr < n.0 = below n (Contains-here n ns) in
    ap (λ (l : List LeftOut). is_left_out l addr) out.2.1 ∙ ap₂ (λ (a b : Bool). a || b) (unequal n.0 addr (λ same. omega (arith, same, above))) rest)
    parts

-- ---- the others

filter_if : (p q : Placed → Bool) (n : Placed) (ns ms : List Placed) → p n ≡ q n → ns ≡ ms → cond (p n) (n ∷ ns) ns ≡ cond (q n) (n ∷ ms) ms
filter_if p q n ns ms same rest = ap₂ (λ (b : Bool) (l : List Placed). cond b (n ∷ l) l) same rest

pub filter_alike : (p q : Placed → Bool) (ns : List Placed) → ((n : Placed) → Contains ns n → p n ≡ q n) → filter p ns ≡ filter q ns
filter_alike p q [] same = refl
filter_alike p q (n ∷ ns) same = filter_if p q n (filter p ns) (filter q ns) (same n (Contains-here n ns)) (filter_alike p q ns (λ m has. same m (Contains-there n ns m has)))

above_out : (one : LeftOut) (left : List LeftOut) (ns : List Placed) → ((m : Placed) → Contains ns m → one.addr < m.0) → not_left_out (one ∷ left) ns ≡ not_left_out left ns
above_out one left ns below =
    filter_alike (λ n. not (is_left_out (one ∷ left) n.0)) (λ n. not (is_left_out left n.0)) ns
    (λ n has. let under : one.addr < n.0 = below n has in ap (λ (b : Bool). not (b || is_left_out left n.0)) (unequal one.addr n.0 (λ same. omega (arith, same, under))))

pub staying_are : (ns : List Placed) (stay : List NodeRef) (left : List LeftOut) → AreByAddress ns → Parts ns stay left → without_addresses (not_left_out left ns) ≡ stay
staying_are [] stay left order parts = sym parts.0
staying_are (n ∷ ns) stay left order parts =
    ⊎_elim
    (λ here.
    let kept : is_left_out left n.0 ≡ false = none_out ns here.1.0 left here.1.2 n.0 order.0 in
    ap (λ (b : Bool). without_addresses (cond (not b) (n ∷ not_left_out left ns) (not_left_out left ns))) kept
    ∙ (ap (λ (l : List NodeRef). n.1 ∷ l) (staying_are ns here.1.0 left order.1 here.1.2) ∙ sym here.1.1))
    (λ out.
    let one : LeftOut = record { addr = n.0; by = out.0 } in
    let gone : is_left_out left n.0 ≡ true =
    ap (λ (l : List LeftOut). is_left_out l n.0) out.2.1 ∙ ap (λ (b : Bool). b || is_left_out out.2.0 n.0) (eq-eqb n.0 n.0 refl) in
    ap (λ (b : Bool). without_addresses (cond (not b) (n ∷ not_left_out left ns) (not_left_out left ns))) gone
    ∙ (ap (λ (l : List LeftOut). without_addresses (not_left_out l ns)) out.2.1
    ∙ (ap without_addresses (above_out one out.2.0 ns order.0) ∙ staying_are ns stay out.2.0 order.1 out.2.2)))
    parts

pub staying_are_placed : StayingArePlaced
staying_are_placed ns stay left order parts = record {
  parts = subst (λ (s : List NodeRef). Parts ns s left) (sym (staying_are ns stay left order parts)) parts;
  placed = refl;
}

-- ---- what holds of them

pub stay_part : (ns stay : List Placed) (left : List LeftOut) → StayPlaced ns stay left → (n : Placed) → Contains stay n → Contains ns n
stay_part ns stay left placed n has =
    (Contains-filter_from (λ (m : Placed). not (is_left_out left m.0)) ns n (subst (λ (l : List Placed). Contains l n) placed.placed has)).0

pub stay_apart : (ns stay : List Placed) (left : List LeftOut) → StayPlaced ns stay left → NoneClash (without_addresses stay)
stay_apart ns stay left placed a b has_a has_b clash = staying_do_not_clash ns (without_addresses stay) left placed.parts a b has_a has_b clash

pub stay_in_order : (ns stay : List Placed) (left : List LeftOut) → AreByAddress ns → StayPlaced ns stay left → AllPairs (λ (m n : Placed). m.0 < n.0) stay
stay_in_order ns stay left order placed =
    subst (AllPairs (λ (m n : Placed). m.0 < n.0)) (sym placed.placed) (filter_in_order (λ (m : Placed). not (is_left_out left m.0)) ns order)

pub stay_mountable : (ns stay : List Placed) (left : List LeftOut) → StayPlaced ns stay left → AreMountable ns → AreMountable stay
stay_mountable ns stay left placed all n has = all n (stay_part ns stay left placed n has)

-- ---- as a mount takes them

pub unplaced_start : (all left : List NodeRef) (placed : List Placed) → left ≡ all → placed ≡ [] → all ≡ without_addresses placed ++ left
unplaced_start all left placed is empty = sym is ∙ ap (λ (l : List Placed). without_addresses l ++ left) (sym empty)

pub unplaced_next : (all left rest : List NodeRef) (node : NodeRef) (placed more : List Placed) → all ≡ without_addresses placed ++ left → left ≡ node ∷ rest
    → more ≡ placed ++ (0, node) ∷ [] → all ≡ without_addresses more ++ rest
unplaced_next all left rest node placed more so_far is next =
    so_far ∙ ap (λ (l : List NodeRef). without_addresses placed ++ l) is
    ∙ sym (append_assoc (without_addresses placed) (node ∷ []) rest)
    ∙ ap (λ (l : List NodeRef). l ++ rest) (sym (ap without_addresses next ∙ map-append (λ (n : Placed). n.1) placed ((0, node) ∷ [])))

pub unplaced_end : (all left : List NodeRef) (placed : List Placed) → all ≡ without_addresses placed ++ left → left ≡ [] → without_addresses placed ≡ all
unplaced_end all left placed so_far none = sym (so_far ∙ ap (λ (l : List NodeRef). without_addresses placed ++ l) none ∙ append-nil (without_addresses placed))

-- what is so of nodes is so wherever they lie
pub mountable_elsewhere : (ns ms : List Placed) → without_addresses ms ≡ without_addresses ns → AreMountable ns → AreMountable ms
mountable_elsewhere ns ms same all m has =
    let there = with_address ns m.1 (subst (λ (l : List NodeRef). Contains l m.1) same (Contains-map (λ (n : Placed). n.1) ms m has)) in
    all (there.0, m.1) there.1

-- ---- parted

pub stay_parted : (ns placed : List Placed) (stay : List NodeRef) (left : List LeftOut) (out : ℕ → Bool) → AreByAddress ns → Parts ns stay left → ((a : ℕ) → out a ≡ is_left_out left a)
    → placed ≡ filter (λ n. not (out n.0)) ns → StayPlaced ns placed left × (without_addresses placed ≡ stay)
stay_parted ns placed stay left out order parts is kept =
    let same : placed ≡ not_left_out left ns = kept ∙ filter_alike (λ n. not (out n.0)) (λ n. not (is_left_out left n.0)) ns (λ n has. ap (λ (b : Bool). not b) (is n.0)) in
    (subst (λ (l : List Placed). StayPlaced ns l left) (sym same) (staying_are_placed ns stay left order parts), ap without_addresses same ∙ staying_are ns stay left order parts)
