-- The nodes of an image collected in order, entries and inode nodes apart, up to the first that clashes.
use Rattle.std.proofs.Common.{◌≡◌, ℕ, ◌+◌, ◌<◌, ◌≤◌, List, [], ◌∷◌, ◌++◌, length, take, drop, None, Some, sym, ap, ◌∙◌, subst, ⊎_elim, inl, inr, get_or}
use Rattle.std.specs.Prelude.{Contains, filter_map, map, Err, ◌↔◌, ◌⊎◌}
use Rattle.std.proofs.lemmas.List.Elements.{Contains-append_left, Contains-push, Contains-push_cases, filter_map-append}
use Rattle.std.proofs.lemmas.List.{append-nil, map_push, take-append-drop, take_more, take_all, drop_more}
use Rattle.jnode.specs.declared.order.Endian.{Endian}
use Rattle.jnode.specs.declared.node.Dirent.{Dirent}
use Rattle.jnode.specs.declared.node.InodeNode.{InodeNode}
use Rattle.jnode.specs.declared.node.NodeRef.{NodeRef}
use Rattle.jnode.specs.declared.node.NodeRef.TheVariants.{Entry, Inode}
use Rattle.jname.specs.Clash as names
use Rattle.jname.specs.Live.{Gains}
use Rattle.flashbase.proofs.MemberLemmas.{Contains-none}
use Rattle.jscan.specs.Image.{sightings, nodes}
use Rattle.jscan.specs.Scans.{IsScannable, first_refused, nodes_before_refusal}
use Rattle.jscan.specs.declared.geometry.ScanFault.{ScanFault}
use Rattle.jmount.specs.Clash.{InodesClash, SomeInodeClashesWith, NoInodeClashesWith, NoInodesClash, NoneClash}
use Rattle.jmount.specs.StateOf.{inode_in, entry_in, inodes, entries}
use Rattle.jmount.specs.Mounts.{IsSound, Answers}
use Rattle.jmount.specs.declared.fault.MountFault.TheVariants as fault
use Rattle.jmount.specs.Collected.{without_addresses, HasNoClash, ClashesIn, FirstClash, Collected, refusal_fault}
use Rattle.jmount.proofs.ClashLemmas.{clashes_sym, plain_apart, tables_have_no_clash, entry_clashes_in, inode_clashes_in}
use Rattle.jmount.proofs.FaultLemmas.{Ascends, nodes_are_all, clash_is_first, refusal_answers, none_is_sound}

-- ---- nodes collected in order, entries and inode nodes apart

pub collected_none : Collected [] [] []
collected_none = record {
  same_entries = λ x. (λ h. h, λ h. h);
  same_inodes = λ x. (λ h. h, λ h. h);
  entries_apart = λ entry h other g c. Contains-none entry h;
  inodes_apart = λ node h other g c. Contains-none node h;
}

pub entries_push : (ns : List (ℕ × NodeRef)) (addr : ℕ) (node : NodeRef) → entries (without_addresses (ns ++ (addr, node) ∷ [])) ≡ entries (without_addresses ns) ++ entries (node ∷ [])
entries_push ns addr node = ap (filter_map entry_in) (map_push (λ (n : ℕ × NodeRef). n.1) ns (addr, node)) ∙ filter_map-append entry_in (without_addresses ns) (node ∷ [])

pub inodes_push : (ns : List (ℕ × NodeRef)) (addr : ℕ) (node : NodeRef) → inodes (without_addresses (ns ++ (addr, node) ∷ [])) ≡ inodes (without_addresses ns) ++ inodes (node ∷ [])
inodes_push ns addr node = ap (filter_map inode_in) (map_push (λ (n : ℕ × NodeRef). n.1) ns (addr, node)) ∙ filter_map-append inode_in (without_addresses ns) (node ∷ [])

-- one more on both sides
pub same_push : {X : Type 0} (old new all : List X) (y : X) → ((x : X) → Contains old x ↔ Contains all x) → ((x : X) → Contains new x ↔ (Contains old x ⊎ (x ≡ y)))
    → (x : X) → Contains new x ↔ Contains (all ++ y ∷ []) x
same_push {X} old new all y same gains x = (
  λ h.
      ⊎_elim
      (λ was. Contains-append_left all (y ∷ []) x ((same x).0 was))
      (λ (is : x ≡ y). subst (λ (z : X). Contains (all ++ y ∷ []) z) (sym is) (Contains-push all y))
      ((gains x).0 h),
  λ h.
      ⊎_elim
      (λ was. (gains x).1 (inl ((same x).1 was)))
      (λ (is : y ≡ x). (gains x).1 (inr (sym is)))
      (Contains-push_cases all y x h),
)

-- what is gained clashes with nothing that was there
pub entries_apart_push : (gained more : List Dirent) (entry : Dirent) → names.NoEntriesClash gained → Gains gained more entry → names.NoEntryClashesWith gained entry → names.NoEntriesClash more
entries_apart_push gained more entry apart gains none a h b g c =
    ⊎_elim
    (λ a_was.
    ⊎_elim
    (λ b_was. apart a a_was b b_was c)
    (λ (b_is : b ≡ entry). none a a_was (names_sym b_is c))
    ((gains b).0 g))
    (λ (a_is : a ≡ entry).
    ⊎_elim
    (λ b_was. none b b_was (subst (λ (z : Dirent). names.EntriesClash b z) a_is c))
    (λ (b_is : b ≡ entry). c.contents (b_is ∙ sym a_is))
    ((gains b).0 g))
    ((gains a).0 h)
  where
    names_sym : {a b : Dirent} → b ≡ entry → names.EntriesClash b a → names.EntriesClash a entry
    names_sym {a} {b} is c =
        let turned : names.EntriesClash a b = clashes_sym (Entry b) (Entry a) c in
        subst (λ (z : Dirent). names.EntriesClash a z) is turned

pub collected_entry : (gained more : List Dirent) (inode_list : List InodeNode) (ns : List (ℕ × NodeRef)) (addr : ℕ) (entry : Dirent)
    → Collected gained inode_list ns → Gains gained more entry → names.NoEntryClashesWith gained entry → Collected more inode_list (ns ++ (addr, Entry entry) ∷ [])
collected_entry gained more inode_list ns addr entry before gains none = record {
  same_entries =
      subst (λ (l : List Dirent). (x : Dirent) → Contains more x ↔ Contains l x) (sym (entries_push ns addr (Entry entry)))
      (same_push gained more (entries (without_addresses ns)) entry before.same_entries gains);
  same_inodes =
      subst (λ (l : List InodeNode). (x : InodeNode) → Contains inode_list x ↔ Contains l x) (sym (inodes_push ns addr (Entry entry) ∙ append-nil (inodes (without_addresses ns))))
      before.same_inodes;
  entries_apart = entries_apart_push gained more entry before.entries_apart gains none;
  inodes_apart = before.inodes_apart;
}

pub collected_inode : (gained : List Dirent) (inode_list more : List InodeNode) (ns : List (ℕ × NodeRef)) (addr : ℕ) (node : InodeNode)
    → Collected gained inode_list ns → ((x : InodeNode) → Contains more x ↔ (Contains inode_list x ⊎ (x ≡ node))) → NoInodeClashesWith inode_list node
    → Collected gained more (ns ++ (addr, Inode node) ∷ [])
collected_inode gained inode_list more ns addr node before gains none = record {
  same_entries =
      subst (λ (l : List Dirent). (x : Dirent) → Contains gained x ↔ Contains l x) (sym (entries_push ns addr (Inode node) ∙ append-nil (entries (without_addresses ns))))
      before.same_entries;
  same_inodes =
      subst (λ (l : List InodeNode). (x : InodeNode) → Contains more x ↔ Contains l x) (sym (inodes_push ns addr (Inode node)))
      (same_push inode_list more (inodes (without_addresses ns)) node before.same_inodes gains);
  entries_apart = before.entries_apart;
  inodes_apart = λ a h b g c.
      ⊎_elim
      (λ a_was.
      ⊎_elim
      (λ b_was. before.inodes_apart a a_was b b_was c)
      (λ (b_is : b ≡ node). none a a_was (inodes_sym b_is c))
      ((gains b).0 g))
      (λ (a_is : a ≡ node).
      ⊎_elim
      (λ b_was. none b b_was (subst (λ (z : InodeNode). InodesClash b z) a_is c))
      (λ (b_is : b ≡ node). c.contents (b_is ∙ sym a_is))
      ((gains b).0 g))
      ((gains a).0 h);
}
  where
    inodes_sym : {a b : InodeNode} → b ≡ node → InodesClash b a → InodesClash a node
    inodes_sym {a} {b} is c =
        let turned : InodesClash a b = clashes_sym (Inode b) (Inode a) c in
        subst (λ (z : InodeNode). InodesClash a z) is turned

-- ---- what was collected, as a fact on the nodes themselves

pub collected_entries_apart : (gained : List Dirent) (inode_list : List InodeNode) (ns : List (ℕ × NodeRef)) → Collected gained inode_list ns → names.NoEntriesClash (entries (map (λ n. n.1) ns))
collected_entries_apart gained inode_list ns all a h b g c = all.entries_apart a ((all.same_entries a).1 h) b ((all.same_entries b).1 g) c

pub collected_inodes_apart : (gained : List Dirent) (inode_list : List InodeNode) (ns : List (ℕ × NodeRef)) → Collected gained inode_list ns → NoInodesClash (inodes (map (λ n. n.1) ns))
collected_inodes_apart gained inode_list ns all a h b g c = all.inodes_apart a ((all.same_inodes a).1 h) b ((all.same_inodes b).1 g) c

pub collected_has_no_clash : (gained : List Dirent) (inode_list : List InodeNode) (ns : List (ℕ × NodeRef)) → Collected gained inode_list ns → HasNoClash ns
collected_has_no_clash gained inode_list ns all = tables_have_no_clash ns (collected_entries_apart gained inode_list ns all) (collected_inodes_apart gained inode_list ns all)

pub collected_none_clash : (gained : List Dirent) (inode_list : List InodeNode) (ns : List (ℕ × NodeRef)) → Collected gained inode_list ns → NoneClash (without_addresses ns)
collected_none_clash gained inode_list ns all = plain_apart (without_addresses ns) (collected_entries_apart gained inode_list ns all) (collected_inodes_apart gained inode_list ns all)

pub collected_entry_clashes : (gained : List Dirent) (inode_list : List InodeNode) (ns : List (ℕ × NodeRef)) (entry : Dirent) → Collected gained inode_list ns
    → names.SomeEntryClashesWith gained entry → ClashesIn ns (Entry entry)
collected_entry_clashes gained inode_list ns entry all some = entry_clashes_in ns entry (some.0, (all.same_entries some.0).0 some.1, some.2)

pub collected_inode_clashes : (gained : List Dirent) (inode_list : List InodeNode) (ns : List (ℕ × NodeRef)) (node : InodeNode) → Collected gained inode_list ns
    → SomeInodeClashesWith inode_list node → ClashesIn ns (Inode node)
collected_inode_clashes gained inode_list ns node all some = inode_clashes_in ns node (some.0, (all.same_inodes some.0).0 some.1, some.2)

-- ---- a loop over a list of nodes

-- the parts of a list on either side of one of it
sides : {X : Type 0} (xs : List X) (i : ℕ) (x : X) → i < length xs → x ≡ get_or xs i x → xs ≡ take i xs ++ x ∷ drop (i + 1) xs
sides {X} xs i x lt is =
    sym (take-append-drop i xs) ∙ ap (λ (l : List X). take i xs ++ l) (drop_more xs i x lt ∙ ap (λ (y : X). y ∷ drop (i + 1) xs) (sym is))

more_at : {X : Type 0} (xs : List X) (i : ℕ) (x y : X) → i < length xs → x ≡ get_or xs i x → x ≡ y → take (i + 1) xs ≡ take i xs ++ y ∷ []
more_at {X} xs i x y lt is same = take_more xs i x lt ∙ ap (λ (z : X). take i xs ++ z ∷ []) (sym is ∙ same)

-- the node at i is this entry or inode node
abbrev pub IsNodeAt : List (ℕ × NodeRef) → ℕ → ℕ × NodeRef → NodeRef → Type 0
IsNodeAt ns i n node = (i < length ns) × (n ≡ get_or ns i n) × (n.1 ≡ node)

with_node : (n : ℕ × NodeRef) (node : NodeRef) → n.1 ≡ node → n ≡ (n.0, node)
with_node n node is = ap (λ (m : NodeRef). (n.0, m)) is

pub collected_entry_at : (gained more : List Dirent) (inode_list : List InodeNode) (ns : List (ℕ × NodeRef)) (i : ℕ) (n : ℕ × NodeRef) (entry : Dirent)
    → Collected gained inode_list (take i ns) → IsNodeAt ns i n (Entry entry) → Gains gained more entry → names.NoEntryClashesWith gained entry
    → Collected more inode_list (take (i + 1) ns)
collected_entry_at gained more inode_list ns i n entry before at gains none =
    subst (λ (l : List (ℕ × NodeRef)). Collected more inode_list l) (sym (more_at ns i n (n.0, Entry entry) at.0 at.1 (with_node n (Entry entry) at.2)))
    (collected_entry gained more inode_list (take i ns) n.0 entry before gains none)

pub collected_inode_at : (gained : List Dirent) (inode_list more : List InodeNode) (ns : List (ℕ × NodeRef)) (i : ℕ) (n : ℕ × NodeRef) (node : InodeNode)
    → Collected gained inode_list (take i ns) → IsNodeAt ns i n (Inode node) → ((x : InodeNode) → Contains more x ↔ (Contains inode_list x ⊎ (x ≡ node))) → NoInodeClashesWith inode_list node
    → Collected gained more (take (i + 1) ns)
collected_inode_at gained inode_list more ns i n node before at gains none =
    subst (λ (l : List (ℕ × NodeRef)). Collected gained more l) (sym (more_at ns i n (n.0, Inode node) at.0 at.1 (with_node n (Inode node) at.2)))
    (collected_inode gained inode_list more (take i ns) n.0 node before gains none)

pub collected_end : (gained : List Dirent) (inode_list : List InodeNode) (ns : List (ℕ × NodeRef)) (i : ℕ) → Collected gained inode_list (take i ns) → length ns ≤ i → Collected gained inode_list ns
collected_end gained inode_list ns i all le = subst (λ (l : List (ℕ × NodeRef)). Collected gained inode_list l) (take_all i ns le) all

first_clash_at : (gained : List Dirent) (inode_list : List InodeNode) (ns : List (ℕ × NodeRef)) (i : ℕ) (n : ℕ × NodeRef) (node : NodeRef)
    → Collected gained inode_list (take i ns) → IsNodeAt ns i n node → ClashesIn (take i ns) node → FirstClash ns n.0
first_clash_at gained inode_list ns i n node before at clash = (
  take i ns,
  node,
  drop (i + 1) ns,
  sides ns i n at.0 at.1 ∙ ap (λ (m : ℕ × NodeRef). take i ns ++ m ∷ drop (i + 1) ns) (with_node n node at.2),
  collected_none_clash gained inode_list (take i ns) before,
  clash,
)

pub entry_clashes_first : (gained : List Dirent) (inode_list : List InodeNode) (ns : List (ℕ × NodeRef)) (i : ℕ) (n : ℕ × NodeRef) (entry : Dirent)
    → Collected gained inode_list (take i ns) → IsNodeAt ns i n (Entry entry) → names.SomeEntryClashesWith gained entry → FirstClash ns n.0
entry_clashes_first gained inode_list ns i n entry before at some =
    first_clash_at gained inode_list ns i n (Entry entry) before at (collected_entry_clashes gained inode_list (take i ns) entry before some)

pub inode_clashes_first : (gained : List Dirent) (inode_list : List InodeNode) (ns : List (ℕ × NodeRef)) (i : ℕ) (n : ℕ × NodeRef) (node : InodeNode)
    → Collected gained inode_list (take i ns) → IsNodeAt ns i n (Inode node) → SomeInodeClashesWith inode_list node → FirstClash ns n.0
inode_clashes_first gained inode_list ns i n node before at some =
    first_clash_at gained inode_list ns i n (Inode node) before at (collected_inode_clashes gained inode_list (take i ns) node before some)
