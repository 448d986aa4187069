-- Of the nodes that are in front of the refusal: which fault of an image is the one of least address.
use Rattle.std.proofs.Common.{◌≡◌, ℕ, zero, suc, ◌<◌, ◌≤◌, List, [], ◌∷◌, ◌++◌, Option, None, Some, refl, sym, ap, ◌∙◌, subst, ⊎_elim, append_assoc, arith, get_or}
use Rattle.std.specs.Prelude.{Contains, AllPairs, filter_map, option_map, ⊤, Err}
use Rattle.std.specs.List.{cons_option}
use Rattle.std.proofs.lemmas.Bool.{cases_lt}
use Rattle.std.proofs.lemmas.Option.{same_Some, none-some}
use Rattle.std.proofs.lemmas.List.Elements.{Contains-append_left, Contains-append_right, Contains-get_or}
use Rattle.jnode.specs.declared.order.Endian.{Endian}
use Rattle.jnode.specs.Reading.{node_in}
use Rattle.jnode.specs.declared.node.NodeRef.{NodeRef}
use Rattle.jnode.specs.declared.node.Seen.{Seen}
use Rattle.jnode.specs.declared.node.Seen.TheVariants as seen
use Rattle.flashbase.proofs.MemberLemmas.{Contains-none, Contains-here, Contains-there, Contains-cases, Contains-filter_map, Contains-filter_map_from}
use Rattle.jscan.specs.Image.{node_sighted, sightings, nodes}
use Rattle.jscan.specs.Scans.{IsScannable, IsNoNode, refusal_by, refusal_among, before_refusal, first_refused, nodes_before_refusal}
use Rattle.jscan.specs.Findings.{refused_node}
use Rattle.jscan.specs.declared.geometry.ScanFault.{ScanFault}
use Rattle.jscan.specs.declared.geometry.ScanFault.TheVariants as scan
use Rattle.jscan.proofs.PartialScanLemmas.{before_open, before_shut, before_none, refusal_open, refusal_shut}
use Rattle.jmount.specs.Clash.{NodesClash, IsClashAt}
use Rattle.jmount.specs.Mounts.{IsFaultAt, IsFirstAt, IsSound, Answers}
use Rattle.jmount.specs.declared.fault.MountFault.{MountFault}
use Rattle.jmount.specs.declared.fault.MountFault.TheVariants as fault
use Rattle.jmount.specs.Collected.{HasNoClash, FirstClash, refusal_fault}
use Rattle.jmount.proofs.ClashLemmas.{no_clash_at}
use Rattle.jmount.proofs.ClashLemmas.{clash_among}

-- ---- addresses that ascend

-- each is below all after it
abbrev pub Ascends : {X : Type 0} → List (ℕ × X) → Type 0
Ascends {X} xs = AllPairs (λ (a b : ℕ × X). a.0 < b.0) xs

-- the same by recursion
abbrev pub Rises : {X : Type 0} → List (ℕ × X) → Type 0
Rises [] = ⊤
Rises {X} (x ∷ xs) = ((y : ℕ × X) → Contains xs y → x.0 < y.0) × Rises xs

pub rises : {X : Type 0} (xs : List (ℕ × X)) → Ascends xs → Rises xs
rises [] up = tt
rises {X} (x ∷ xs) up = (
  λ y h. let below : x.0 < (get_or xs h.0 y).0 = up zero (suc h.0) y (omega arith) (omega (arith, h.1)) in
      subst (λ (z : ℕ × X). x.0 < z.0) h.2 below,
  rises xs (λ i j d lt within. up (suc i) (suc j) d (omega arith) (omega arith)),
)

-- the same in the words of the splits of a list
rises_from : {X : Type 0} (all front xs : List (ℕ × X)) → ((before after : List (ℕ × X)) (s t : ℕ × X) → all ≡ before ++ s ∷ after → Contains after t → s.0 < t.0)
    → all ≡ front ++ xs → Rises xs
rises_from all front [] up is = tt
rises_from {X} all front (x ∷ xs) up is = (
  λ y h. up front xs x y is h,
  rises_from all (front ++ x ∷ []) xs up (is ∙ sym (append_assoc front (x ∷ []) xs)),
)

ascends_by : {X : Type 0} (xs : List (ℕ × X)) → Rises xs → Ascends xs
ascends_by [] up i j d lt within = absurd (omega arith)
ascends_by (x ∷ xs) up i zero d lt within = absurd (omega arith)
ascends_by (x ∷ xs) up zero (suc j) d lt within = up.0 (get_or xs j d) (Contains-get_or xs j d (omega arith))
ascends_by (x ∷ xs) up (suc i) (suc j) d lt within = ascends_by xs up.1 i j d (omega arith) (omega arith)

pub ascends_from_splits : {X : Type 0} (xs : List (ℕ × X)) → ((before after : List (ℕ × X)) (s t : ℕ × X) → xs ≡ before ++ s ∷ after → Contains after t → s.0 < t.0) → Ascends xs
ascends_from_splits xs up = ascends_by xs (rises_from xs [] xs up refl)

-- what is in front of one of them is below it
rises_front : {X : Type 0} (pre post : List (ℕ × X)) (z x : ℕ × X) → Rises (pre ++ z ∷ post) → Contains pre x → x.0 < z.0
rises_front [] post z x up h = absurd (Contains-none x h)
rises_front {X} (p ∷ pre) post z x up h =
    ⊎_elim
    (λ (e : p ≡ x). subst (λ (y : ℕ × X). y.0 < z.0) e (up.0 z (Contains-append_right pre (z ∷ post) z (Contains-here z post))))
    (λ later. rises_front pre post z x up.1 later)
    (Contains-cases p pre x h)

-- and what is below it is in front of it
rises_split : {X : Type 0} (pre post : List (ℕ × X)) (z x : ℕ × X) → Rises (pre ++ z ∷ post) → Contains (pre ++ z ∷ post) x → x.0 < z.0 → Contains pre x
rises_split {X} [] post z x up h lt =
    ⊎_elim
    (λ (e : z ≡ x). let same : z.0 ≡ x.0 = ap (λ (y : ℕ × X). y.0) e in absurd (omega arith))
    (λ later. let above : z.0 < x.0 = up.0 x later in absurd (omega arith))
    (Contains-cases z post x h)
rises_split {X} (p ∷ pre) post z x up h lt =
    ⊎_elim
    (λ (e : p ≡ x). subst (λ (y : ℕ × X). Contains (p ∷ pre) y) e (Contains-here p pre))
    (λ later. Contains-there p pre x (rises_split pre post z x up.1 later lt))
    (Contains-cases p (pre ++ z ∷ post) x h)

-- ---- what is in front of the refusal

from_before : (ss : List (ℕ × Seen)) (s : ℕ × Seen) → Contains (before_refusal ss) s → Contains ss s × (refusal_by s ≡ None)
from_before [] s h = absurd (Contains-none s h)
from_before (x ∷ xs) s h = by_refusal (from_before xs s) (refusal_by x) refl
  where
    by_refusal : (Contains (before_refusal xs) s → Contains xs s × (refusal_by s ≡ None)) → (o : Option ScanFault) → refusal_by x ≡ o → Contains (x ∷ xs) s × (refusal_by s ≡ None)
    by_refusal next None is =
        ⊎_elim
        (λ (e : x ≡ s). (subst (λ (z : ℕ × Seen). Contains (x ∷ xs) z) e (Contains-here x xs), ap refusal_by (sym e) ∙ is))
        (λ later. let deep = next later in (Contains-there x xs s deep.0, deep.1))
        (Contains-cases x (before_refusal xs) s (subst (λ (l : List (ℕ × Seen)). Contains l s) (before_open x xs is) h))
    by_refusal next (Some why) is = absurd (Contains-none s (subst (λ (l : List (ℕ × Seen)). Contains l s) (before_shut x xs why is) h))

-- with one that is there, all that are not above it do
in_before : (ss : List (ℕ × Seen)) (s t : ℕ × Seen) → Rises ss → Contains ss s → Contains (before_refusal ss) t → s.0 ≤ t.0 → Contains (before_refusal ss) s
in_before [] s t up h g le = absurd (Contains-none s h)
in_before (x ∷ xs) s t up h g le = by_refusal (in_before xs s t up.1) (refusal_by x) refl
  where
    by_refusal : (Contains xs s → Contains (before_refusal xs) t → s.0 ≤ t.0 → Contains (before_refusal xs) s) → (o : Option ScanFault) → refusal_by x ≡ o → Contains (before_refusal (x ∷ xs)) s
    by_refusal next None is =
        subst (λ (l : List (ℕ × Seen)). Contains l s) (sym (before_open x xs is))
        (⊎_elim
        (λ (e : x ≡ s). subst (λ (z : ℕ × Seen). Contains (x ∷ before_refusal xs) z) e (Contains-here x (before_refusal xs)))
        (λ later.
        ⊎_elim
        (λ (e : x ≡ t). let above : x.0 < s.0 = up.0 s later in let same : x.0 ≡ t.0 = ap (λ (z : ℕ × Seen). z.0) e in absurd (omega arith))
        (λ there. Contains-there x (before_refusal xs) s (next later there le))
        (Contains-cases x (before_refusal xs) t (subst (λ (l : List (ℕ × Seen)). Contains l t) (before_open x xs is) g)))
        (Contains-cases x xs s h))
    by_refusal next (Some why) is = absurd (Contains-none t (subst (λ (l : List (ℕ × Seen)). Contains l t) (before_shut x xs why is) g))

-- the sighting that is refused, and all below it in front
abbrev RefusedAt : List (ℕ × Seen) → ScanFault → Type 0
RefusedAt ss why =
    (s : ℕ × Seen) × Contains ss s × (refusal_by s ≡ Some why)
    × ((t : ℕ × Seen) → Contains ss t → t.0 < s.0 → Contains (before_refusal ss) t)

refused_at : (ss : List (ℕ × Seen)) (why : ScanFault) → Rises ss → refusal_among ss ≡ Some why → RefusedAt ss why
refused_at [] why up some = absurd (none-some why some)
refused_at (x ∷ xs) why up some = by_refusal (refused_at xs why up.1) (refusal_by x) refl
  where
    by_refusal : (refusal_among xs ≡ Some why → RefusedAt xs why) → (o : Option ScanFault) → refusal_by x ≡ o → RefusedAt (x ∷ xs) why
    by_refusal next None is =
        let deep = next (sym (refusal_open x xs is) ∙ some) in (
          deep.0,
          Contains-there x xs deep.0 deep.1,
          deep.2,
          λ t h lt. subst (λ (l : List (ℕ × Seen)). Contains l t) (sym (before_open x xs is))
              (⊎_elim
              (λ (e : x ≡ t). subst (λ (z : ℕ × Seen). Contains (x ∷ before_refusal xs) z) e (Contains-here x (before_refusal xs)))
              (λ later. Contains-there x (before_refusal xs) t (deep.3 t later lt))
              (Contains-cases x xs t h)),
        )
    by_refusal next (Some other) is = (
      x,
      Contains-here x xs,
      is ∙ sym (refusal_shut x xs other is) ∙ some,
      λ t h lt.
          ⊎_elim
          (λ (e : x ≡ t). let same : x.0 ≡ t.0 = ap (λ (z : ℕ × Seen). z.0) e in absurd (omega arith))
          (λ later. let above : x.0 < t.0 = up.0 t later in absurd (omega arith))
          (Contains-cases x xs t h),
    )

rises_before : (ss : List (ℕ × Seen)) → Rises ss → Rises (before_refusal ss)
rises_before [] up = tt
rises_before (x ∷ xs) up = by_refusal (rises_before xs up.1) (refusal_by x) refl
  where
    by_refusal : Rises (before_refusal xs) → (o : Option ScanFault) → refusal_by x ≡ o → Rises (before_refusal (x ∷ xs))
    by_refusal next None is =
        let more : Rises (x ∷ before_refusal xs) = (λ y h. up.0 y ((from_before xs y h).0), next) in
        subst (λ (l : List (ℕ × Seen)). Rises l) (sym (before_open x xs is)) more
    by_refusal next (Some why) is = subst (λ (l : List (ℕ × Seen)). Rises l) (sym (before_shut x xs why is)) tt

-- ---- the nodes among sightings

abbrev seen_nodes : List (ℕ × Seen) → List (ℕ × NodeRef)
seen_nodes ss = filter_map node_sighted ss

at_address : (addr : ℕ) (o : Option NodeRef) (n : ℕ × NodeRef) → option_map (λ (node : NodeRef). (addr, node)) o ≡ Some n → addr ≡ n.0
at_address addr None n e = absurd (none-some n e)
at_address addr (Some node) n e = ap (λ (q : ℕ × NodeRef). q.0) (same_Some (addr, node) n e)

-- a node's sighting is at its address
sighted_from : (ss : List (ℕ × Seen)) (n : ℕ × NodeRef) → Contains (seen_nodes ss) n → (s : ℕ × Seen) × Contains ss s × (node_sighted s ≡ Some n) × (s.0 ≡ n.0)
sighted_from ss n h =
    let found = Contains-filter_map_from node_sighted ss n h in
    (found.0, found.1, found.2, at_address found.0.0 (node_in found.0.1) n found.2)

rises_nodes : (ss : List (ℕ × Seen)) → Rises ss → Rises (seen_nodes ss)
rises_nodes [] up = tt
rises_nodes (x ∷ xs) up = by_node (rises_nodes xs up.1) (node_sighted x) refl
  where
    by_node : Rises (seen_nodes xs) → (o : Option (ℕ × NodeRef)) → node_sighted x ≡ o → Rises (cons_option o (seen_nodes xs))
    by_node next None is = next
    by_node next (Some n) is = (
      λ y h. let found = sighted_from xs y h in
          let above : x.0 < found.0.0 = up.0 found.0 found.1 in
          let here : x.0 ≡ n.0 = at_address x.0 (node_in x.1) n is in
          let there : found.0.0 ≡ y.0 = found.3 in
          omega arith,
      next,
    )

all_of_before : (ss : List (ℕ × Seen)) (n : ℕ × NodeRef) → Contains (seen_nodes (before_refusal ss)) n → Contains (seen_nodes ss) n
all_of_before ss n h =
    let found = sighted_from (before_refusal ss) n h in
    Contains-filter_map node_sighted ss found.0 n ((from_before ss found.0 found.1).0) found.2

-- with one that is in front of the refusal, all nodes that are not above it do
nodes_in_before : (ss : List (ℕ × Seen)) (n m : ℕ × NodeRef) → Rises ss → Contains (seen_nodes ss) n → Contains (seen_nodes (before_refusal ss)) m → n.0 ≤ m.0
    → Contains (seen_nodes (before_refusal ss)) n
nodes_in_before ss n m up h g le =
    let low = sighted_from ss n h in
    let high = sighted_from (before_refusal ss) m g in
    let order : low.0.0 ≤ high.0.0 = omega (arith, low.3, high.3) in
    Contains-filter_map node_sighted (before_refusal ss) low.0 n (in_before ss low.0 high.0 up low.1 high.1 order) low.2

-- ---- the fault of least address

-- what is refused is above all in front of the refusal
above_before : (ss : List (ℕ × Seen)) (s t : ℕ × Seen) (why : ScanFault) → Rises ss → refusal_by s ≡ Some why → Contains ss s → Contains (before_refusal ss) t → t.0 < s.0
above_before ss s t why up some h g =
    ⊎_elim
    (λ lt. lt)
    (λ le. let none : refusal_by s ≡ None = (from_before ss s (in_before ss s t up h g le)).1 in absurd (none-some why (sym none ∙ some)))
    (cases_lt t.0 s.0)

-- the first node that clashes with one before it
module _ (e : Endian) (size : ℕ) (image : List ℕ) (pre post : List (ℕ × NodeRef)) (addr : ℕ) (node : NodeRef) (up : Rises (sightings e size image)) (is : nodes_before_refusal e size image ≡ pre ++ (addr, node) ∷ post) where
  abbrev here : ℕ × NodeRef
  here = (addr, node)

  at_here : Contains (nodes_before_refusal e size image) here
  at_here = subst (λ (l : List (ℕ × NodeRef)). Contains l here) (sym is) (Contains-append_right pre (here ∷ post) here (Contains-here here post))

  before_here : (n : ℕ × NodeRef) → Contains pre n → Contains (nodes_before_refusal e size image) n
  before_here n h = subst (λ (l : List (ℕ × NodeRef)). Contains l n) (sym is) (Contains-append_left pre (here ∷ post) n h)

  rises_here : Rises (pre ++ here ∷ post)
  rises_here = subst (λ (l : List (ℕ × NodeRef)). Rises l) is (rises_nodes (before_refusal (sightings e size image)) (rises_before (sightings e size image) up))

  -- all nodes below it are before it
  below_here : (n : ℕ × NodeRef) → Contains (nodes e size image) n → n.0 < addr → Contains pre n
  below_here n h lt =
      let front = nodes_in_before (sightings e size image) n here up h at_here (omega arith) in
      rises_split pre post here n rises_here (subst (λ (l : List (ℕ × NodeRef)). Contains l n) is front) lt

  clash_here : (below : ℕ) (other : NodeRef) → Contains pre (below, other) → NodesClash node other → IsClashAt (nodes e size image) addr
  clash_here below other h clash = (
    node,
    below,
    other,
    all_of_before (sightings e size image) here at_here,
    all_of_before (sightings e size image) (below, other) (before_here (below, other) h),
    rises_front pre post here (below, other) rises_here h,
    clash,
  )

  refused_above : (s : ℕ × Seen) (why : ScanFault) → refusal_by s ≡ Some why → Contains (sightings e size image) s → addr ≤ s.0
  refused_above s why some h =
      let found = sighted_from (before_refusal (sightings e size image)) here at_here in
      let above : found.0.0 < s.0 = above_before (sightings e size image) s found.0 why up some h found.1 in
      let same : found.0.0 ≡ addr = found.3 in
      omega arith

  clash_above : HasNoClash pre → (at : ℕ) → IsClashAt (nodes e size image) at → addr ≤ at
  clash_above none at c =
      ⊎_elim
      (λ lt. absurd (none at (clash_among (nodes e size image) pre at (λ n h le. below_here n h (omega arith)) c)))
      (λ le. le)
      (cases_lt at addr)

  least_clash : HasNoClash pre → (at : ℕ) (other : MountFault) → IsFaultAt e size image at other → addr ≤ at
  least_clash none at (fault.Incompatible a nodetype) h =
      let above : addr ≤ a = refused_above (a, seen.Incompatible nodetype) (scan.Incompatible a nodetype) refl h.1 in omega (arith, h.0)
  least_clash none at (fault.Compressed a compr) h =
      let above : addr ≤ a = refused_above (a, seen.Compressed compr) (scan.Compressed a compr) refl h.1 in omega (arith, h.0)
  least_clash none at (fault.Clash a) h = let above : addr ≤ a = clash_above none a h.1 in omega (arith, h.0)
  least_clash none at fault.BlockSize h = absurd h
  least_clash none at fault.TooLarge h = absurd h
  least_clash none at fault.RootKind h = absurd h
  least_clash none at fault.OutOfMemory h = absurd h

-- the first node that clashes with one before it is the fault of an image
pub clash_is_first : (e : Endian) (size : ℕ) (image : List ℕ) (pre post : List (ℕ × NodeRef)) (addr : ℕ) (node : NodeRef) (below : ℕ) (other : NodeRef)
    → IsScannable size image → Ascends (sightings e size image) → nodes_before_refusal e size image ≡ pre ++ (addr, node) ∷ post
    → HasNoClash pre → Contains pre (below, other) → NodesClash node other → IsFirstAt e size image addr (fault.Clash addr)
clash_is_first e size image pre post addr node below other scannable ascends is none h clash =
    let up = rises (sightings e size image) ascends in
    (scannable, (refl, clash_here e size image pre post addr node up is below other h clash), least_clash e size image pre post addr node up is none)

-- and so it is where a loop over them stops
pub first_clash_answers : (e : Endian) (size : ℕ) (image : List ℕ) (addr : ℕ) → IsScannable size image → Ascends (sightings e size image)
    → FirstClash (nodes_before_refusal e size image) addr → Answers e size image (Err (fault.Clash addr))
first_clash_answers e size image addr scannable ascends c =
    clash_is_first e size image c.0 c.2 addr c.1 c.5.0 c.5.1 scannable ascends c.3 (no_clash_at c.0 c.4) c.5.2 c.5.3

-- ---- an image without a clash in front of its refusal

-- the fault that a refusal by this sighting gives
IsRefusalOf : ℕ → Seen → ScanFault → Type 0
IsRefusalOf at what (scan.Incompatible addr nodetype) = (at ≡ addr) × (what ≡ seen.Incompatible nodetype)
IsRefusalOf at what (scan.Compressed addr compr) = (at ≡ addr) × (what ≡ seen.Compressed compr)
IsRefusalOf at what scan.BlockSize = ⊥
IsRefusalOf at what scan.TooLarge = ⊥
IsRefusalOf at what scan.OutOfMemory = ⊥

refusal_is_of : (at : ℕ) (what : Seen) (why : ScanFault) → refused_node at what ≡ Some why → IsRefusalOf at what why
unfolding IsRefusalOf
refusal_is_of at (seen.Incompatible nodetype) why some = subst (IsRefusalOf at (seen.Incompatible nodetype)) (same_Some (scan.Incompatible at nodetype) why some) (refl, refl)
refusal_is_of at (seen.Compressed compr) why some = subst (IsRefusalOf at (seen.Compressed compr)) (same_Some (scan.Compressed at compr) why some) (refl, refl)
refusal_is_of at (seen.Entry entry) why some = absurd (none-some why some)
refusal_is_of at (seen.Inode inode) why some = absurd (none-some why some)
refusal_is_of at seen.Marker why some = absurd (none-some why some)
refusal_is_of at seen.Padding why some = absurd (none-some why some)
refusal_is_of at seen.Obsolete why some = absurd (none-some why some)
refusal_is_of at seen.Attribute why some = absurd (none-some why some)
refusal_is_of at (seen.Skippable nodetype) why some = absurd (none-some why some)
refusal_is_of at (seen.ReadOnly nodetype) why some = absurd (none-some why some)
refusal_is_of at (seen.Damaged which) why some = absurd (none-some why some)

module _ (e : Endian) (size : ℕ) (image : List ℕ) (up : Rises (sightings e size image)) (none : HasNoClash (nodes_before_refusal e size image)) where
  -- what is refused is nowhere below the first
  refused_below : (addr : ℕ) → ((t : ℕ × Seen) → Contains (sightings e size image) t → t.0 < addr → Contains (before_refusal (sightings e size image)) t)
      → (s : ℕ × Seen) (why : ScanFault) → refusal_by s ≡ Some why → Contains (sightings e size image) s → addr ≤ s.0
  refused_below addr front s why some h =
      ⊎_elim
      (λ lt. let unrefused : refusal_by s ≡ None = (from_before (sightings e size image) s (front s h lt)).1 in absurd (none-some why (sym unrefused ∙ some)))
      (λ le. le)
      (cases_lt s.0 addr)

  -- nor does a clash
  clash_below : (addr : ℕ) → ((t : ℕ × Seen) → Contains (sightings e size image) t → t.0 < addr → Contains (before_refusal (sightings e size image)) t)
      → (at : ℕ) → IsClashAt (nodes e size image) at → addr ≤ at
  clash_below addr front at c =
      ⊎_elim
      (λ lt. absurd (none at (clash_among (nodes e size image) (nodes_before_refusal e size image) at
      (λ n h le.
      let found = sighted_from (sightings e size image) n h in
      let same : found.0.0 ≡ n.0 = found.3 in
      let low : found.0.0 < addr = omega arith in
      Contains-filter_map node_sighted (before_refusal (sightings e size image)) found.0 n (front found.0 found.1 low) found.2)
      c)))
      (λ le. le)
      (cases_lt at addr)

  least_refusal : (addr : ℕ) → ((t : ℕ × Seen) → Contains (sightings e size image) t → t.0 < addr → Contains (before_refusal (sightings e size image)) t)
      → (at : ℕ) (other : MountFault) → IsFaultAt e size image at other → addr ≤ at
  least_refusal addr front at (fault.Incompatible a nodetype) h =
      let above : addr ≤ a = refused_below addr front (a, seen.Incompatible nodetype) (scan.Incompatible a nodetype) refl h.1 in omega (arith, h.0)
  least_refusal addr front at (fault.Compressed a compr) h =
      let above : addr ≤ a = refused_below addr front (a, seen.Compressed compr) (scan.Compressed a compr) refl h.1 in omega (arith, h.0)
  least_refusal addr front at (fault.Clash a) h = let above : addr ≤ a = clash_below addr front a h.1 in omega (arith, h.0)
  least_refusal addr front at fault.BlockSize h = absurd h
  least_refusal addr front at fault.TooLarge h = absurd h
  least_refusal addr front at fault.RootKind h = absurd h
  least_refusal addr front at fault.OutOfMemory h = absurd h

  first_by : IsScannable size image → (why : ScanFault) (s : ℕ × Seen) → Contains (sightings e size image) s
      → ((t : ℕ × Seen) → Contains (sightings e size image) t → t.0 < s.0 → Contains (before_refusal (sightings e size image)) t)
      → IsRefusalOf s.0 s.1 why → Answers e size image (Err (refusal_fault why))
  unfolding IsRefusalOf
  first_by scannable (scan.Incompatible addr nodetype) s h front is =
      let here : ◌≡◌ {A = ℕ × Seen} s (addr, seen.Incompatible nodetype) = λ i. (is.0 i, is.1 i) in (
        scannable,
        (refl, subst (λ (t : ℕ × Seen). Contains (sightings e size image) t) here h),
        least_refusal addr (λ t g lt. front t g (omega (arith, is.0))),
      )
  first_by scannable (scan.Compressed addr compr) s h front is =
      let here : ◌≡◌ {A = ℕ × Seen} s (addr, seen.Compressed compr) = λ i. (is.0 i, is.1 i) in (
        scannable,
        (refl, subst (λ (t : ℕ × Seen). Contains (sightings e size image) t) here h),
        least_refusal addr (λ t g lt. front t g (omega (arith, is.0))),
      )
  first_by scannable scan.BlockSize s h front is = absurd is
  first_by scannable scan.TooLarge s h front is = absurd is
  first_by scannable scan.OutOfMemory s h front is = absurd is

-- where the nodes in front of the refusal have no clash, the refusal is the answer
pub refusal_answers : (e : Endian) (size : ℕ) (image : List ℕ) (why : ScanFault) → IsScannable size image → Ascends (sightings e size image)
    → HasNoClash (nodes_before_refusal e size image) → first_refused e size image ≡ Some why → Answers e size image (Err (refusal_fault why))
refusal_answers e size image why scannable ascends none some =
    let up = rises (sightings e size image) ascends in
    let at = refused_at (sightings e size image) why up some in
    first_by e size image up none scannable why at.0 at.1 at.3 (refusal_is_of at.0.0 at.0.1 why at.2)

pub incompatible_is_first : (e : Endian) (size : ℕ) (image : List ℕ) (addr nodetype : ℕ) → IsScannable size image → Ascends (sightings e size image)
    → HasNoClash (nodes_before_refusal e size image) → first_refused e size image ≡ Some (scan.Incompatible addr nodetype)
    → IsFirstAt e size image addr (fault.Incompatible addr nodetype)
incompatible_is_first e size image addr nodetype scannable ascends none some = refusal_answers e size image (scan.Incompatible addr nodetype) scannable ascends none some

pub compressed_is_first : (e : Endian) (size : ℕ) (image : List ℕ) (addr compr : ℕ) → IsScannable size image → Ascends (sightings e size image)
    → HasNoClash (nodes_before_refusal e size image) → first_refused e size image ≡ Some (scan.Compressed addr compr)
    → IsFirstAt e size image addr (fault.Compressed addr compr)
compressed_is_first e size image addr compr scannable ascends none some = refusal_answers e size image (scan.Compressed addr compr) scannable ascends none some

-- every refusal is a node's
not_no_node : (at : ℕ) (what : Seen) (why : ScanFault) → IsRefusalOf at what why → IsNoNode why → ⊥
unfolding IsRefusalOf
not_no_node at what (scan.Incompatible addr nodetype) is h = h
not_no_node at what (scan.Compressed addr compr) is h = h
not_no_node at what scan.BlockSize is h = is
not_no_node at what scan.TooLarge is h = is
not_no_node at what scan.OutOfMemory is h = is

refusal_among_node : (ss : List (ℕ × Seen)) (why : ScanFault) → refusal_among ss ≡ Some why → IsNoNode why → ⊥
refusal_among_node [] why some h = none-some why some
refusal_among_node (x ∷ xs) why some h = by_refusal (λ deep. refusal_among_node xs why deep h) (refusal_by x) refl
  where
    by_refusal : (refusal_among xs ≡ Some why → ⊥) → (o : Option ScanFault) → refusal_by x ≡ o → ⊥
    by_refusal next None is = next (sym (refusal_open x xs is) ∙ some)
    by_refusal next (Some other) is = not_no_node x.0 x.1 why (refusal_is_of x.0 x.1 why (is ∙ sym (refusal_shut x xs other is) ∙ some)) h

pub refusal_is_node : (e : Endian) (size : ℕ) (image : List ℕ) (why : ScanFault) → first_refused e size image ≡ Some why → IsNoNode why → ⊥
refusal_is_node e size image why some h = refusal_among_node (sightings e size image) why some h

-- ---- an image without a refusal and without a clash

pub nodes_are_all : (e : Endian) (size : ℕ) (image : List ℕ) → first_refused e size image ≡ None → nodes_before_refusal e size image ≡ nodes e size image
nodes_are_all e size image none = ap (filter_map node_sighted) (before_none (sightings e size image) none)

module _ (e : Endian) (size : ℕ) (image : List ℕ) (unrefused : first_refused e size image ≡ None) (none : HasNoClash (nodes e size image)) where
  none_refused : (s : ℕ × Seen) (why : ScanFault) → refusal_by s ≡ Some why → Contains (sightings e size image) s → ⊥
  none_refused s why some h =
      let front = subst (λ (l : List (ℕ × Seen)). Contains l s) (sym (before_none (sightings e size image) unrefused)) h in
      let is : refusal_by s ≡ None = (from_before (sightings e size image) s front).1 in
      none-some why (sym is ∙ some)

  none_is_at : (at : ℕ) (f : MountFault) → IsFaultAt e size image at f → ⊥
  none_is_at at (fault.Incompatible a nodetype) h = none_refused (a, seen.Incompatible nodetype) (scan.Incompatible a nodetype) refl h.1
  none_is_at at (fault.Compressed a compr) h = none_refused (a, seen.Compressed compr) (scan.Compressed a compr) refl h.1
  none_is_at at (fault.Clash a) h = none a h.1
  none_is_at at fault.BlockSize h = h
  none_is_at at fault.TooLarge h = h
  none_is_at at fault.RootKind h = h
  none_is_at at fault.OutOfMemory h = h

pub none_is_sound : (e : Endian) (size : ℕ) (image : List ℕ) → IsScannable size image → first_refused e size image ≡ None → HasNoClash (nodes e size image) → IsSound e size image
none_is_sound e size image scannable unrefused none = (scannable, none_is_at e size image unrefused none)
