-- What is known of the nodes above an address.
use Rattle.std.proofs.Common.{◌≡◌, ◌≢◌, ℕ, ◌<◌, true, cond, List, ◌∷◌, refl, sym, ap, ap₂, subst, ◌∙◌, arith, Option, None, Some, ⊎_elim}
use Rattle.std.specs.Prelude.{Contains}
use Rattle.std.specs.Option.{option_or}
use Rattle.std.specs.Cow.{cow_slice_items}
use Rattle.std.specs.declared.cmp.Ordering.{Ordering}
use Rattle.std.specs.declared.cmp.Ordering.TheVariants.{Less, Equal, Greater}
use Rattle.std.specs.Ordering.{nat_cmp, ordering_then, is_eq}
use Rattle.std.specs.Cmp.Lexicographic.{slice_cmp}
use Rattle.std.specs.BTreeMap.{BTreeMap, get}
use Rattle.std.proofs.lemmas.Bool.{cases_Bool, cond-true, cond-false}
use Rattle.std.proofs.lemmas.Map.Lookups.{exact_unsigned, exact_bytes}
use Rattle.std.proofs.lemmas.Cmp.{nat_cmp_total, nat_list_cmp_total, tied_itself}
use Rattle.jnode.specs.declared.node.NodeRef.{NodeRef}
use Rattle.jnode.specs.declared.node.NodeRef.TheVariants.{Entry, Inode}
use Rattle.jmount.specs.Clash.{NodesClash}
use Rattle.jclash.specs.Parting.{AreByAddress, NoneClashesWith, IsHighestClash, IsClashAmong}
use Rattle.jclash.specs.Keys.{NodeKey, IsKeyOf, node_key_cmp, TellsClash, KnowsNodes, KnowsOneMore}
use Rattle.jclash.specs.declared.highest.Highest.{Highest}
use Rattle.jclash.proofs.PartLemmas.{none_more, first_clash, still_highest, among_more, no_self_clash}

-- ---- keys

-- two that compare equal have the same parts
then_equal : (o p : Ordering) → is_eq (ordering_then o p) ≡ true → (o ≡ Equal) × (p ≡ Equal)
then_equal Less p h = absurd (cc)
then_equal Greater p h = absurd (cc)
then_equal Equal Less h = absurd (cc)
then_equal Equal Equal h = (refl, refl)
then_equal Equal Greater h = absurd (cc)

eq_of : (o : Ordering) → o ≡ Equal → is_eq o ≡ true
eq_of o e = ap is_eq e

record SameKey (a b : NodeKey) : Type 0 where
  pub kind : a.0 ≡ b.0
  pub number : a.1 ≡ b.1
  pub version : a.2 ≡ b.2
  pub name : cow_slice_items a.3 ≡ cow_slice_items b.3

same_key : (a b : NodeKey) → is_eq (node_key_cmp a b) ≡ true → SameKey a b
same_key a b h =
    let kinds = nat_cmp a.0 b.0 in
    let numbers = nat_cmp a.1 b.1 in
    let versions = nat_cmp a.2 b.2 in
    let names = slice_cmp nat_cmp (cow_slice_items a.3) (cow_slice_items b.3) in
    let last = then_equal (ordering_then (ordering_then kinds numbers) versions) names h in
    let third = then_equal (ordering_then kinds numbers) versions (eq_of _ last.0) in
    let second = then_equal kinds numbers (eq_of _ third.0) in
    record {
      kind = exact_unsigned a.0 b.0 second.0;
      number = exact_unsigned a.1 b.1 second.1;
      version = exact_unsigned a.2 b.2 third.1;
      name = exact_bytes (cow_slice_items a.3) (cow_slice_items b.3) last.1;
    }

equal_key : (a b : NodeKey) → a.0 ≡ b.0 → a.1 ≡ b.1 → a.2 ≡ b.2 → cow_slice_items a.3 ≡ cow_slice_items b.3 → is_eq (node_key_cmp a b) ≡ true
equal_key a b kind number version name =
    let kinds : nat_cmp a.0 b.0 ≡ Equal = subst (λ (k : ℕ). nat_cmp a.0 k ≡ Equal) kind (tied_itself nat_cmp_total a.0) in
    let numbers : nat_cmp a.1 b.1 ≡ Equal = subst (λ (k : ℕ). nat_cmp a.1 k ≡ Equal) number (tied_itself nat_cmp_total a.1) in
    let versions : nat_cmp a.2 b.2 ≡ Equal = subst (λ (k : ℕ). nat_cmp a.2 k ≡ Equal) version (tied_itself nat_cmp_total a.2) in
    let names : slice_cmp nat_cmp (cow_slice_items a.3) (cow_slice_items b.3) ≡ Equal =
    subst (λ (k : List ℕ). slice_cmp nat_cmp (cow_slice_items a.3) k ≡ Equal) name (tied_itself nat_list_cmp_total (cow_slice_items a.3)) in
    ap₂ (λ (o p : Ordering). is_eq (ordering_then (ordering_then (ordering_then o p) (nat_cmp a.2 b.2)) (slice_cmp nat_cmp (cow_slice_items a.3) (cow_slice_items b.3)))) kinds numbers
    ∙ ap₂ (λ (o p : Ordering). is_eq (ordering_then (ordering_then Equal o) p)) versions names

-- nodes that clash have one key
clash_key : (y x : NodeRef) (k q : NodeKey) → IsKeyOf y k → IsKeyOf x q → NodesClash y x → is_eq (node_key_cmp k q) ≡ true
clash_key (Entry a) (Entry b) k q ky kx c =
    equal_key k q (ky.0 ∙ sym kx.0) (ky.1 ∙ c.directory ∙ sym kx.1) (ky.2 ∙ c.version ∙ sym kx.2) (ky.3 ∙ c.name ∙ sym kx.3)
clash_key (Inode a) (Inode b) k q ky kx c = equal_key k q (ky.0 ∙ sym kx.0) (ky.1 ∙ c.ino ∙ sym kx.1) (ky.2 ∙ c.version ∙ sym kx.2) (ky.3 ∙ sym kx.3)
clash_key (Entry a) (Inode b) k q ky kx c = absurd c
clash_key (Inode a) (Entry b) k q ky kx c = absurd c

-- and those of one key clash, unless they say the same
key_clash : (y x : NodeRef) (k q : NodeKey) → IsKeyOf y k → IsKeyOf x q → is_eq (node_key_cmp k q) ≡ true → y ≢ x → NodesClash y x
key_clash (Entry a) (Entry b) k q ky kx h other =
    let same = same_key k q h in
    record {
      directory = sym ky.1 ∙ same.number ∙ kx.1;
      name = sym ky.3 ∙ same.name ∙ kx.3;
      version = sym ky.2 ∙ same.version ∙ kx.2;
      contents = λ (e : a ≡ b). other (ap Entry e);
    }
key_clash (Inode a) (Inode b) k q ky kx h other =
    let same = same_key k q h in
    record {
      ino = sym ky.1 ∙ same.number ∙ kx.1;
      version = sym ky.2 ∙ same.version ∙ kx.2;
      contents = λ (e : a ≡ b). other (ap Inode e);
    }
key_clash (Entry a) (Inode b) k q ky kx h other =
    let same : 0 ≡ 1 = sym ky.0 ∙ (same_key k q h).kind ∙ kx.0 in absurd (omega (arith, same))
key_clash (Inode a) (Entry b) k q ky kx h other =
    let same : 1 ≡ 0 = sym ky.0 ∙ (same_key k q h).kind ∙ kx.0 in absurd (omega (arith, same))

-- a key of one of them is one of the other
same_node_key : (y x : NodeRef) (k q : NodeKey) → IsKeyOf y k → IsKeyOf x q → is_eq (node_key_cmp k q) ≡ true → IsKeyOf x k
same_node_key y (Entry b) k q ky kx h =
    let same = same_key k q h in (same.kind ∙ kx.0, same.number ∙ kx.1, same.version ∙ kx.2, same.name ∙ kx.3)
same_node_key y (Inode b) k q ky kx h =
    let same = same_key k q h in (same.kind ∙ kx.0, same.number ∙ kx.1, same.version ∙ kx.2, same.name ∙ kx.3)

-- ---- what is known with one node more

-- of nodes of other keys
tells_more : (n : ℕ × NodeRef) (ns : List (ℕ × NodeRef)) (x : NodeRef) (o : Option Highest) → ((m : ℕ × NodeRef) → Contains ns m → n.0 < m.0) → (NodesClash n.1 x → ⊥)
    → TellsClash ns x o → TellsClash (n ∷ ns) x o
tells_more n ns x None below not tells = none_more n ns x not tells
tells_more n ns x (Some h) below not tells = (
  λ e. among_more n ns x h.other below not (tells.0 e),
  λ e. still_highest n ns x h.addr below (tells.1 e),
)

-- of the same key: the other address that is known, with one more that clashes
among_or : (addr : ℕ) (y : NodeRef) (ns : List (ℕ × NodeRef)) (x : NodeRef) (o : Option ℕ) → ((m : ℕ × NodeRef) → Contains ns m → addr < m.0) → NodesClash y x
    → IsClashAmong ns x o → IsClashAmong ((addr, y) ∷ ns) x (option_or o (Some addr))
among_or addr y ns x None below clash none = first_clash addr y ns x clash none
among_or addr y ns x (Some at) below clash highest = still_highest (addr, y) ns x at below highest

-- the first node of its key
tells_first : (addr : ℕ) (y : NodeRef) (ns : List (ℕ × NodeRef)) (x : NodeRef) (now : Highest) → now.addr ≡ addr → now.node.now ≡ y → now.other ≡ None
    → (y ≢ x → NodesClash y x) → NoneClashesWith ns x → TellsClash ((addr, y) ∷ ns) x (Some now)
tells_first addr y ns x now at is other clash none = (
  λ e.
      let same : y ≡ x = sym is ∙ e in
      subst (IsClashAmong ((addr, y) ∷ ns) x) (sym other)
      (none_more (addr, y) ns x (λ c. no_self_clash x (subst (λ (z : NodeRef). NodesClash z x) same c)) none),
  λ e. subst (IsHighestClash ((addr, y) ∷ ns) x) (sym at) (first_clash addr y ns x (clash (λ same. e (is ∙ same))) none),
)

-- a node of a key that is known
tells_next : (addr : ℕ) (y : NodeRef) (ns : List (ℕ × NodeRef)) (x : NodeRef) (h now : Highest) (by : Option ℕ) → ((m : ℕ × NodeRef) → Contains ns m → addr < m.0)
    → KnowsOneMore (Some h) addr y (by, now) → (y ≢ x → NodesClash y x) → TellsClash ns x (Some h) → TellsClash ((addr, y) ∷ ns) x (Some now)
tells_next addr y ns x h now by below adds clash tells =
    let n : ℕ × NodeRef = (addr, y) in
    let node : now.node.now ≡ h.node.now = ap (λ b. b.now) adds.1 in (
      λ e.
          let same : h.node.now ≡ x = sym node ∙ e in
          ⊎_elim
          (λ equal.
          let is : y ≡ x = sym equal.0 ∙ same in
          subst (IsClashAmong (n ∷ ns) x) (sym equal.2)
          (among_more n ns x h.other below (λ c. no_self_clash x (subst (λ (z : NodeRef). NodesClash z x) is c)) (tells.0 same)))
          (λ unlike.
          subst (IsClashAmong (n ∷ ns) x) (sym unlike.2)
          (among_or addr y ns x h.other below (clash (λ is. unlike.0 (same ∙ sym is))) (tells.0 same)))
          adds.2,
      λ e. subst (IsHighestClash (n ∷ ns) x) (sym adds.0) (still_highest n ns x h.addr below (tells.1 (λ same. e (node ∙ same)))),
    )

-- what a node is answered
answer_known : (addr : ℕ) (y : NodeRef) (ns : List (ℕ × NodeRef)) (o : Option Highest) (by : Option ℕ) (now : Highest) → KnowsOneMore o addr y (by, now) → TellsClash ns y o → IsClashAmong ns y by
answer_known addr y ns None by now adds tells = subst (IsClashAmong ns y) (sym adds.0) tells
answer_known addr y ns (Some h) by now adds tells =
    ⊎_elim
    (λ equal. subst (IsClashAmong ns y) (sym equal.1) (tells.0 equal.0))
    (λ unlike. subst (IsClashAmong ns y) (sym unlike.1) (tells.1 unlike.0))
    adds.2

tells_key : (addr : ℕ) (y : NodeRef) (ns : List (ℕ × NodeRef)) (x : NodeRef) (o : Option Highest) (by : Option ℕ) (now : Highest) → ((m : ℕ × NodeRef) → Contains ns m → addr < m.0)
    → KnowsOneMore o addr y (by, now) → (y ≢ x → NodesClash y x) → TellsClash ns x o → TellsClash ((addr, y) ∷ ns) x (Some now)
tells_key addr y ns x None by now below adds clash none = tells_first addr y ns x now adds.1 adds.2 adds.3 clash none
tells_key addr y ns x (Some h) by now below adds clash tells = tells_next addr y ns x h now by below adds clash tells

pub knows_more : (addr : ℕ) (y : NodeRef) (ns : List (ℕ × NodeRef)) (k : NodeKey) (old new : BTreeMap NodeKey Highest) (by : Option ℕ) (now : Highest)
    → IsKeyOf y k → KnowsOneMore (get node_key_cmp old k) addr y (by, now)
    → ((q : NodeKey) → get node_key_cmp new q ≡ cond (is_eq (node_key_cmp k q)) (Some now) (get node_key_cmp old q))
    → AreByAddress ((addr, y) ∷ ns) → KnowsNodes ns old → KnowsNodes ((addr, y) ∷ ns) new × IsClashAmong ns y by
knows_more addr y ns k old new by now key adds updates order knows = (
  λ x q is.
      ⊎_elim
      (λ at.
      -- the same key: what is known of x is what was known of y
      let here : get node_key_cmp new q ≡ Some now = updates q ∙ cond-true _ _ _ at in
      subst (TellsClash ((addr, y) ∷ ns) x) (sym here)
      (tells_key addr y ns x (get node_key_cmp old k) by now order.0 adds (key_clash y x k q key is at) (knows x k (same_node_key y x k q key is at))))
      (λ away.
      let there : get node_key_cmp new q ≡ get node_key_cmp old q = updates q ∙ cond-false _ _ _ away in
      subst (TellsClash ((addr, y) ∷ ns) x) (sym there)
      (tells_more (addr, y) ns x (get node_key_cmp old q) order.0 (λ c. let yes = clash_key y x k q key is c in absurd (cc)) (knows x q is)))
      (cases_Bool (is_eq (node_key_cmp k q))),
  answer_known addr y ns (get node_key_cmp old k) by now adds (knows y k key),
)
