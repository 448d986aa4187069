-- Why a whole file system is the same without a node that hides nothing.
use Rattle.std.proofs.Common.{◌≡◌, ℕ, ◌+◌, ◌<◌, ◌≤◌, Bool, true, false, cond, List, [], ◌∷◌, ◌++◌, length, map, Some, refl, ap, sym, ◌∙◌, subst, ⊎_elim, arith}
use Rattle.std.specs.Prelude.{Contains, filter, ◌==◌}
use Rattle.std.specs.List.{flat_map}
use Rattle.std.proofs.lemmas.Bool.{eq-eqb, eqb-true}
use Rattle.std.proofs.lemmas.Grind.{flat_map-append}
use Rattle.std.proofs.lemmas.List.{map-append}
use Rattle.std.proofs.lemmas.List.Elements.{filter-append, filter_map-append}
use Rattle.flashbase.specs.Lists.{greatest}
use Rattle.flashbase.proofs.ListLemmas.{greatest_is_greatest}
use Rattle.flashbase.proofs.MemberLemmas.{Contains-map, Contains-filter, Contains-flat_map, Contains-here, Contains-there}
use Rattle.jnode.specs.declared.node.InodeNode.{InodeNode}
use Rattle.jnode.specs.declared.node.NodeRef.{NodeRef}
use Rattle.jnode.specs.declared.node.NodeRef.TheVariants.{Inode}
use Rattle.jname.specs.Live.{live_names}
use Rattle.jmount.specs.Laws.{SameElements}
use Rattle.jmount.specs.StateOf.{inode_in, entry_in, inodes, entries, object_from, object_of, objects_of, numbers_in, next_of, owner, version_of, top, tops_of}
use Rattle.jmount.proofs.ClashLemmas.{from_inodes}
use Rattle.jmount.proofs.SameLemmas.{same_cons, tabled-same}
use Rattle.jdamage.specs.Laws.{HidesNothingBetween, StateIsSameWithout}
use Rattle.jdamage.proofs.BetweenLemmas.{cases_between, in_between}
use Rattle.jdamage.proofs.WithoutLemmas.{IsNotOlder, newer_one, object_is_same_without}

-- ---- one element more between others

same_between : {X : Type 0} (a b : List X) (x : X) → Contains (a ++ b) x → SameElements (a ++ x ∷ b) (a ++ b)
same_between a b x there y = (
  λ c. ⊎_elim (λ (here : x ≡ y). subst (Contains (a ++ b)) here there) (λ is. is) (cases_between a b x y c),
  λ c. in_between a b x y c,
)

has_some : {X : Type 0} (xs : List X) (x : X) → Contains xs x → 0 < length xs
has_some xs x there = let within : there.0 < length xs = there.1 in omega arith

-- the greatest is the same with a number that another one reaches
greatest_between : (a b : List ℕ) (n m : ℕ) → Contains (a ++ b) m → n ≤ m → greatest (a ++ n ∷ b) ≡ greatest (a ++ b)
greatest_between a b n m there most =
    let with_it = greatest_is_greatest (a ++ n ∷ b) in
    let without = greatest_is_greatest (a ++ b) in
    let reaches : m ≤ greatest (a ++ b) = without.0 m there in
    let low : greatest (a ++ b) ≤ greatest (a ++ n ∷ b) = with_it.0 (greatest (a ++ b)) (in_between a b n (greatest (a ++ b)) (without.1 (has_some (a ++ b) m there))) in
    let high : greatest (a ++ n ∷ b) ≤ greatest (a ++ b) =
    ⊎_elim
    (λ (here : n ≡ greatest (a ++ n ∷ b)). omega (arith, here, most, reaches))
    (λ before. without.0 (greatest (a ++ n ∷ b)) before)
    (cases_between a b n (greatest (a ++ n ∷ b)) (with_it.1 (has_some (a ++ n ∷ b) m (in_between a b n m there)))) in
    omega (arith, low, high)

-- ---- the objects

module _ (front back : List InodeNode) (lost : InodeNode) (h : HidesNothingBetween front back lost) where
  same_elsewhere : (i : ℕ) (b : Bool) → (i == lost.ino) ≡ b → object_of (front ++ lost ∷ back) i ≡ object_of (front ++ back) i
  same_elsewhere i true e =
      let is : i ≡ lost.ino = eqb-true i lost.ino e in
      subst (λ (k : ℕ). object_of (front ++ lost ∷ back) k ≡ object_of (front ++ back) k) (sym is) (object_is_same_without front back lost h)
  same_elsewhere i false e =
      let p : InodeNode → Bool = λ node. i == node.ino in
      ap (object_from i)
      (filter-append p front (lost ∷ back) ∙ ap (λ (b : Bool). filter p front ++ cond b (lost ∷ filter p back) (filter p back)) e ∙ sym (filter-append p front back))

  abbrev ino : InodeNode → ℕ
  ino node = node.ino

  has_number : Contains (map ino front ++ map ino back) lost.ino
  has_number =
      let one = newer_one front back lost h in
      let there : Contains (map ino (front ++ back)) one.0.ino = Contains-map ino (front ++ back) one.0 one.1 in
      subst (λ (k : ℕ). Contains (map ino front ++ map ino back) k) one.2.number
      (subst (λ (ks : List ℕ). Contains ks one.0.ino) (map-append ino front back) there)

  same_numbers : SameElements (map ino (front ++ lost ∷ back)) (map ino (front ++ back))
  same_numbers =
      subst (λ (ks : List ℕ). SameElements ks (map ino (front ++ back))) (sym (map-append ino front (lost ∷ back)))
      (subst (λ (ks : List ℕ). SameElements (map ino front ++ lost.ino ∷ map ino back) ks) (sym (map-append ino front back))
      (same_between (map ino front) (map ino back) lost.ino has_number))

  pub same_objects : objects_of (front ++ lost ∷ back) ≡ objects_of (front ++ back)
  same_objects =
      tabled-same (1 ∷ map ino (front ++ lost ∷ back)) (1 ∷ map ino (front ++ back)) (object_of (front ++ lost ∷ back)) (object_of (front ++ back))
      (same_cons 1 (map ino (front ++ lost ∷ back)) (map ino (front ++ back)) same_numbers)
      (λ i. same_elsewhere i (i == lost.ino) refl)

-- ---- the whole

module _ (front back : List NodeRef) (lost : InodeNode) (h : HidesNothingBetween (inodes front) (inodes back) lost) where
  inodes_all : inodes (front ++ Inode lost ∷ back) ≡ inodes front ++ lost ∷ inodes back
  inodes_all = filter_map-append inode_in front (Inode lost ∷ back)

  inodes_left : inodes (front ++ back) ≡ inodes front ++ inodes back
  inodes_left = filter_map-append inode_in front back

  one : (node : InodeNode) × Contains (front ++ back) (Inode node) × IsNotOlder lost node
  one =
      let newer = newer_one (inodes front) (inodes back) lost h in
      (newer.0, from_inodes (front ++ back) newer.0 (subst (λ (nodes : List InodeNode). Contains nodes newer.0) (sym inodes_left) newer.1), newer.2)

  objects_same : objects_of (inodes (front ++ Inode lost ∷ back)) ≡ objects_of (inodes (front ++ back))
  objects_same = ap objects_of inodes_all ∙ same_objects (inodes front) (inodes back) lost h ∙ sym (ap objects_of inodes_left)

  names_same : live_names (entries (front ++ Inode lost ∷ back)) ≡ live_names (entries (front ++ back))
  names_same = ap live_names (filter_map-append entry_in front (Inode lost ∷ back) ∙ sym (filter_map-append entry_in front back))

  next_same : next_of (front ++ Inode lost ∷ back) ≡ next_of (front ++ back)
  next_same =
      let before = flat_map numbers_in front in
      let after = flat_map numbers_in back in
      let there : Contains (flat_map numbers_in (front ++ back)) one.0.ino = Contains-flat_map numbers_in (front ++ back) (Inode one.0) one.0.ino one.1 (Contains-here one.0.ino []) in
      let number : Contains (before ++ after) lost.ino =
      subst (λ (k : ℕ). Contains (before ++ after) k) one.2.number (subst (λ (ks : List ℕ). Contains ks one.0.ino) (flat_map-append numbers_in front back) there) in
      let same : greatest (1 ∷ (before ++ lost.ino ∷ after)) ≡ greatest (1 ∷ (before ++ after)) =
      greatest_between (1 ∷ before) after lost.ino lost.ino (Contains-there 1 (before ++ after) lost.ino number) (omega arith) in
      ap (λ (ks : List ℕ). 1 + greatest (1 ∷ ks)) (flat_map-append numbers_in front (Inode lost ∷ back))
      ∙ ap (λ (n : ℕ). 1 + n) same
      ∙ sym (ap (λ (ks : List ℕ). 1 + greatest (1 ∷ ks)) (flat_map-append numbers_in front back))

  -- ---- the greatest versions

  abbrev of_number : ℕ → List NodeRef → List NodeRef
  of_number i ns = filter (λ n. i == owner n) ns

  abbrev top_by : List NodeRef → List NodeRef → ℕ
  top_by before after = greatest (map version_of (before ++ after))

  top_same : (i : ℕ) (b : Bool) → (i == lost.ino) ≡ b → top (front ++ Inode lost ∷ back) i ≡ top (front ++ back) i
  top_same i b e = top_split ∙ by b e ∙ sym (ap (λ (ns : List NodeRef). greatest (map version_of ns)) (filter-append (λ n. i == owner n) front back))
    where
      top_split : top (front ++ Inode lost ∷ back) i ≡ top_by (of_number i front) (cond b (Inode lost ∷ of_number i back) (of_number i back))
      top_split =
          ap (λ (ns : List NodeRef). greatest (map version_of ns)) (filter-append (λ n. i == owner n) front (Inode lost ∷ back))
          ∙ ap (λ (t : Bool). top_by (of_number i front) (cond t (Inode lost ∷ of_number i back) (of_number i back))) e

      by : (b : Bool) → (i == lost.ino) ≡ b → top_by (of_number i front) (cond b (Inode lost ∷ of_number i back) (of_number i back)) ≡ top_by (of_number i front) (of_number i back)
      by false e = refl
      by true e =
          let is : i ≡ lost.ino = eqb-true i lost.ino e in
          let test : (i == one.0.ino) ≡ true = eq-eqb i one.0.ino (is ∙ sym one.2.number) in
          let among : Contains (of_number i front ++ of_number i back) (Inode one.0) =
          subst (λ (ns : List NodeRef). Contains ns (Inode one.0)) (filter-append (λ n. i == owner n) front back) (Contains-filter (λ n. i == owner n) (front ++ back) (Inode one.0) test one.1) in
          let version : Contains (map version_of (of_number i front) ++ map version_of (of_number i back)) one.0.version =
          subst (λ (ks : List ℕ). Contains ks one.0.version) (map-append version_of (of_number i front) (of_number i back)) (Contains-map version_of (of_number i front ++ of_number i back) (Inode one.0) among) in
          ap greatest (map-append version_of (of_number i front) (Inode lost ∷ of_number i back))
          ∙ greatest_between (map version_of (of_number i front)) (map version_of (of_number i back)) lost.version one.0.version version one.2.high
          ∙ sym (ap greatest (map-append version_of (of_number i front) (of_number i back)))

  owner_there : Contains (map owner front ++ map owner back) lost.ino
  owner_there =
      subst (λ (k : ℕ). Contains (map owner front ++ map owner back) k) one.2.number
      (subst (λ (ks : List ℕ). Contains ks one.0.ino) (map-append owner front back) (Contains-map owner (front ++ back) (Inode one.0) one.1))

  same_owners : SameElements (map owner (front ++ Inode lost ∷ back)) (map owner (front ++ back))
  same_owners =
      subst (λ (ks : List ℕ). SameElements ks (map owner (front ++ back))) (sym (map-append owner front (Inode lost ∷ back)))
      (subst (λ (ks : List ℕ). SameElements (map owner front ++ lost.ino ∷ map owner back) ks) (sym (map-append owner front back))
      (same_between (map owner front) (map owner back) lost.ino owner_there))

  tops_same : tops_of (front ++ Inode lost ∷ back) ≡ tops_of (front ++ back)
  tops_same =
      tabled-same (1 ∷ map owner (front ++ Inode lost ∷ back)) (1 ∷ map owner (front ++ back)) (λ i. Some (top (front ++ Inode lost ∷ back) i)) (λ i. Some (top (front ++ back) i))
      (same_cons 1 (map owner (front ++ Inode lost ∷ back)) (map owner (front ++ back)) same_owners)
      (λ i. ap Some (top_same i (i == lost.ino) refl))

pub state_is_same_without : StateIsSameWithout
state_is_same_without front back lost h = (
  λ j. record { objects = objects_same front back lost h j; names = names_same front back lost h j; next = next_same front back lost h j },
  tops_same front back lost h,
)
