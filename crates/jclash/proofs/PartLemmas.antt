-- What stays of nodes of which some clash.
use Rattle.std.proofs.Common.{◌≡◌, ℕ, zero, suc, drop, slice_index_or, ◌+◌, ◌-◌, ◌<◌, ◌≤◌, List, [], ◌∷◌, ◌++◌, length, refl, sym, ap, ap₂, subst, ◌∙◌, arith, Option, None, Some, inl, inr, ⊎_elim}
use Rattle.std.specs.Prelude.{Contains, reverse}
use Rattle.std.proofs.lemmas.List.{drop_more, reverse-append}
use Rattle.flashbase.proofs.MemberLemmas.{Contains-none, Contains-here, Contains-there, Contains-cases}
use Rattle.jnode.specs.declared.node.NodeRef.{NodeRef}
use Rattle.jnode.specs.declared.node.NodeRef.TheVariants.{Entry, Inode}
use Rattle.jmount.specs.Clash.{NodesClash}
use Rattle.jmount.proofs.ClashLemmas.{clashes_sym}
use Rattle.jclash.specs.Parting.{AreByAddress, NoneClashesWith, IsHighestClash, IsClashAmong, Parts, PutsBehind}
use Rattle.jclash.specs.Laws.{StayingDoNotClash, AllStayWithoutClash, OneParting, NoneIsLost}
use Rattle.jclash.specs.declared.parting.LeftOut.{LeftOut}

-- ---- clashes

-- a node does not clash with itself
pub no_self_clash : (n : NodeRef) → NodesClash n n → ⊥
no_self_clash (Entry a) c = c.contents refl
no_self_clash (Inode a) c = c.contents refl

-- ---- clashes with one node more, below all others

pub none_more : (n : ℕ × NodeRef) (ns : List (ℕ × NodeRef)) (node : NodeRef) → (NodesClash n.1 node → ⊥) → NoneClashesWith ns node → NoneClashesWith (n ∷ ns) node
none_more n ns node not none m has c =
    ⊎_elim
    (λ (e : n ≡ m). not (subst (λ (z : ℕ × NodeRef). NodesClash z.1 node) (sym e) c))
    (λ later. none m later c)
    (Contains-cases n ns m has)

-- the first one that clashes
pub first_clash : (addr : ℕ) (y : NodeRef) (ns : List (ℕ × NodeRef)) (node : NodeRef) → NodesClash y node → NoneClashesWith ns node → IsHighestClash ((addr, y) ∷ ns) node addr
first_clash addr y ns node clash none = record {
  other = y;
  there = Contains-here (addr, y) ns;
  clash = clash;
  highest = λ m has c.
      ⊎_elim
      (λ (e : (addr, y) ≡ m). let same : addr ≡ m.0 = ap (λ (z : ℕ × NodeRef). z.0) e in omega (arith, same))
      (λ later. absurd (none m later c))
      (Contains-cases (addr, y) ns m has);
}

-- a higher one stays the highest
pub still_highest : (n : ℕ × NodeRef) (ns : List (ℕ × NodeRef)) (node : NodeRef) (at : ℕ) → ((m : ℕ × NodeRef) → Contains ns m → n.0 < m.0) → IsHighestClash ns node at → IsHighestClash (n ∷ ns) node at
still_highest n ns node at below h = record {
  other = h.other;
  there = Contains-there n ns (at, h.other) h.there;
  clash = h.clash;
  highest = λ m has c.
      ⊎_elim
      (λ (e : n ≡ m). let under : n.0 < at = below (at, h.other) h.there in let same : n.0 ≡ m.0 = ap (λ (z : ℕ × NodeRef). z.0) e in omega (arith, under, same))
      (λ later. h.highest m later c)
      (Contains-cases n ns m has);
}

pub among_more : (n : ℕ × NodeRef) (ns : List (ℕ × NodeRef)) (node : NodeRef) (o : Option ℕ) → ((m : ℕ × NodeRef) → Contains ns m → n.0 < m.0) → (NodesClash n.1 node → ⊥)
    → IsClashAmong ns node o → IsClashAmong (n ∷ ns) node o
among_more n ns node None below not among = none_more n ns node not among
among_more n ns node (Some at) below not among = still_highest n ns node at below among

-- ---- the laws

pub staying_of_nodes : (ns : List (ℕ × NodeRef)) (stay : List NodeRef) (left : List LeftOut) → Parts ns stay left → (node : NodeRef) → Contains stay node → (addr : ℕ) × Contains ns (addr, node)
staying_of_nodes [] stay left parts node has = absurd (Contains-none node (subst (λ (s : List NodeRef). Contains s node) parts.0 has))
staying_of_nodes (n ∷ ns) stay left parts node has =
    ⊎_elim
    (λ here.
    let rest : List NodeRef = here.1.0 in
    ⊎_elim
    (λ (e : n.1 ≡ node). (n.0, subst (λ (z : NodeRef). Contains (n ∷ ns) (n.0, z)) e (Contains-here n ns)))
    (λ later. let found = staying_of_nodes ns rest left here.1.2 node later in (found.0, Contains-there n ns (found.0, node) found.1))
    (Contains-cases n.1 rest node (subst (λ (s : List NodeRef). Contains s node) here.1.1 has)))
    (λ out. let found = staying_of_nodes ns stay out.2.0 out.2.2 node has in (found.0, Contains-there n ns (found.0, node) found.1))
    parts

-- one that stays does not clash with those behind it that stay
head_apart : (n : ℕ × NodeRef) (ns : List (ℕ × NodeRef)) (rest : List NodeRef) (left : List LeftOut) → NoneClashesWith ns n.1 → Parts ns rest left → (b : NodeRef) → Contains rest b
    → NodesClash b n.1 → ⊥
head_apart n ns rest left none parts b has c =
    let found = staying_of_nodes ns rest left parts b has in
    none (found.0, b) found.1 c

pub staying_do_not_clash : StayingDoNotClash
staying_do_not_clash [] stay left parts a b has_a has_b c = Contains-none a (subst (λ (s : List NodeRef). Contains s a) parts.0 has_a)
staying_do_not_clash (n ∷ ns) stay left parts a b has_a has_b c =
    ⊎_elim
    (λ here.
    let rest : List NodeRef = here.1.0 in
    let in_a = subst (λ (s : List NodeRef). Contains s a) here.1.1 has_a in
    let in_b = subst (λ (s : List NodeRef). Contains s b) here.1.1 has_b in
    ⊎_elim
    (λ (e : n.1 ≡ a). ⊎_elim
    (λ (f : n.1 ≡ b). no_self_clash n.1 (subst (λ (z : NodeRef). NodesClash n.1 z) (sym f) (subst (λ (z : NodeRef). NodesClash z b) (sym e) c)))
    (λ later. head_apart n ns rest left here.0 here.1.2 b later (subst (λ (z : NodeRef). NodesClash b z) (sym e) (clashes_sym a b c)))
    (Contains-cases n.1 rest b in_b))
    (λ (early : Contains rest a). ⊎_elim
    (λ (f : n.1 ≡ b). head_apart n ns rest left here.0 here.1.2 a early (subst (λ (z : NodeRef). NodesClash a z) (sym f) c))
    (λ later. staying_do_not_clash ns rest left here.1.2 a b early later c)
    (Contains-cases n.1 rest b in_b))
    (Contains-cases n.1 rest a in_a))
    (λ out. staying_do_not_clash ns stay out.2.0 out.2.2 a b has_a has_b c)
    parts

pub all_stay : AllStayWithoutClash
all_stay [] stay left parts apart = parts
all_stay (n ∷ ns) stay left parts apart =
    ⊎_elim
    (λ here.
    let rest : List NodeRef = here.1.0 in
    let more = all_stay ns rest left here.1.2 (λ m k in_m in_k. apart m k (Contains-there n ns m in_m) (Contains-there n ns k in_k)) in
    (here.1.1 ∙ ap (λ (s : List NodeRef). n.1 ∷ s) more.0, more.1))
    (λ out. absurd (apart (out.0, out.1.other) n (Contains-there n ns (out.0, out.1.other) out.1.there) (Contains-here n ns) out.1.clash))
    parts

-- of two highest addresses neither is the higher
one_highest : (ns : List (ℕ × NodeRef)) (node : NodeRef) (a b : ℕ) → IsHighestClash ns node a → IsHighestClash ns node b → a ≡ b
one_highest ns node a b h k =
    let up : a ≤ b = k.highest (a, h.other) h.there h.clash in
    let down : b ≤ a = h.highest (b, k.other) k.there k.clash in
    omega (arith, up, down)

left_is : (addr a b : ℕ) → a ≡ b → ◌≡◌ {A = LeftOut} (record { addr = addr; by = a }) (record { addr = addr; by = b })
left_is addr a b e = ap (λ (k : ℕ). record { addr = addr; by = k }) e

pub one_parting : OneParting
one_parting [] stay again left out parts others = (parts.0 ∙ sym others.0, parts.1 ∙ sym others.1)
one_parting (n ∷ ns) stay again left out parts others =
    ⊎_elim
    (λ here. ⊎_elim
    (λ there.
    let more = one_parting ns here.1.0 there.1.0 left out here.1.2 there.1.2 in
    (here.1.1 ∙ ap (λ (s : List NodeRef). n.1 ∷ s) more.0 ∙ sym there.1.1, more.1))
    (λ away. absurd (here.0 (away.0, away.1.other) away.1.there away.1.clash))
    others)
    (λ gone. ⊎_elim
    (λ there. absurd (there.0 (gone.0, gone.1.other) gone.1.there gone.1.clash))
    (λ away.
    let more = one_parting ns stay again gone.2.0 away.2.0 gone.2.2 away.2.2 in
    let by : gone.0 ≡ away.0 = one_highest ns n.1 gone.0 away.0 gone.1 away.1 in
    let head : ◌≡◌ {A = LeftOut} (record { addr = n.0; by = gone.0 }) (record { addr = n.0; by = away.0 }) = left_is n.0 gone.0 away.0 by in
    (more.0, gone.2.1 ∙ ap (λ (l : LeftOut). l ∷ gone.2.0) head ∙ ap (λ (ls : List LeftOut). record { addr = n.0; by = away.0 } ∷ ls) more.1 ∙ sym away.2.1))
    others)
    parts

pub none_is_lost : NoneIsLost
none_is_lost [] stay left parts = ap₂ (λ (s : List NodeRef) (l : List LeftOut). length s + length l) parts.0 parts.1
none_is_lost (n ∷ ns) stay left parts =
    ⊎_elim
    (λ here.
    let more : length here.1.0 + length left ≡ length ns = none_is_lost ns here.1.0 left here.1.2 in
    let long : length stay ≡ length here.1.0 + 1 = ap (λ (s : List NodeRef). length s) here.1.1 ∙ omega arith in
    omega (arith, more, long))
    (λ out.
    let more : length stay + length out.2.0 ≡ length ns = none_is_lost ns stay out.2.0 out.2.2 in
    let long : length left ≡ length out.2.0 + 1 = ap (λ (l : List LeftOut). length l) out.2.1 ∙ omega arith in
    omega (arith, more, long))
    parts

-- ---- with one node more in front

pub parts_stays : (n : ℕ × NodeRef) (ns : List (ℕ × NodeRef)) (stay : List NodeRef) (left : List LeftOut) → NoneClashesWith ns n.1 → Parts ns stay left → Parts (n ∷ ns) (n.1 ∷ stay) left
parts_stays n ns stay left none parts = inl (none, (stay, refl, parts))

pub parts_leaves : (n : ℕ × NodeRef) (ns : List (ℕ × NodeRef)) (stay : List NodeRef) (left : List LeftOut) (by : ℕ) → IsHighestClash ns n.1 by → Parts ns stay left
    → Parts (n ∷ ns) stay (record { addr = n.0; by = by } ∷ left)
parts_leaves n ns stay left by h parts = inr (by, h, (left, refl, parts))

-- ---- from the last node to the first

pub order_left : (ns : List (ℕ × NodeRef)) (i : ℕ) → AreByAddress ns → AreByAddress (drop i ns)
order_left ns zero order = order
order_left [] (suc i) order = tt
order_left (n ∷ ns) (suc i) order = order_left ns i order.1

last_first : {A : Type 0} (xs : List A) (x : A) → reverse (xs ++ x ∷ []) ≡ x ∷ reverse xs
last_first xs x = reverse-append xs (x ∷ [])

pub step_parts : (n : ℕ × NodeRef) (ns : List (ℕ × NodeRef)) (stay stays : List NodeRef) (left leaves : List LeftOut) (by : Option ℕ)
    → IsClashAmong ns n.1 by → PutsBehind (stay, stays) (left, leaves) n.0 n.1 by
    → Parts ns (reverse stay) (reverse left) → Parts (n ∷ ns) (reverse stays) (reverse leaves)
step_parts n ns stay stays left leaves None none puts parts =
    let grown : reverse stays ≡ n.1 ∷ reverse stay = ap (λ (s : List NodeRef). reverse s) puts.0 ∙ last_first stay n.1 in
    subst (λ (s : List NodeRef). Parts (n ∷ ns) s (reverse leaves)) (sym grown)
    (subst (λ (l : List LeftOut). Parts (n ∷ ns) (n.1 ∷ reverse stay) (reverse l)) (sym puts.1) (parts_stays n ns (reverse stay) (reverse left) none parts))
step_parts n ns stay stays left leaves (Some at) highest puts parts =
    let one : LeftOut = record { addr = n.0; by = at } in
    let grown : reverse leaves ≡ one ∷ reverse left = ap (λ (l : List LeftOut). reverse l) puts.1 ∙ last_first left one in
    subst (λ (l : List LeftOut). Parts (n ∷ ns) (reverse stays) l) (sym grown)
    (subst (λ (s : List NodeRef). Parts (n ∷ ns) (reverse s) (one ∷ reverse left)) (sym puts.0) (parts_leaves n ns (reverse stay) (reverse left) at highest parts))

-- what is left with the node before it
pub last_left : (ns : List (ℕ × NodeRef)) (i : ℕ) (n : ℕ × NodeRef) → 0 < i → i ≤ length ns → n ≡ slice_index_or ns (i - 1) n → drop (i - 1) ns ≡ n ∷ drop i ns
last_left ns i n some within is =
    let less : i - 1 < length ns = omega (arith, some, within) in
    let next : i - 1 + 1 ≡ i = omega (arith, some) in
    drop_more ns (i - 1) n less ∙ ap₂ (λ (m : ℕ × NodeRef) (k : ℕ). m ∷ drop k ns) (sym is) next
