-- Entries collected from nodes, and inode nodes collected beside them.
use Rattle.std.proofs.Common.{◌≡◌, ℕ, ◌+◌, ◌<◌, List, [], ◌∷◌, ◌++◌, length, take, sym, ap, ◌∙◌, subst, get_or}
use Rattle.std.specs.Prelude.{Contains, filter_map, ◌↔◌, IfOk, Result, Ok, Err}
use Rattle.std.specs.List.Sorted.{IsPermutation}
use Rattle.std.proofs.lemmas.List.Elements.{Contains-append_left, filter_map-append}
use Rattle.std.proofs.lemmas.List.{append-nil, map-append, take_more}
use Rattle.std.proofs.lemmas.List.Sorted.{Contains-permutation, IsPermutation-map, IsPermutation-sym}
use Rattle.jnode.specs.declared.node.Dirent.{Dirent}
use Rattle.jnode.specs.declared.node.InodeNode.{InodeNode}
use Rattle.jnode.specs.declared.node.NodeRef.{NodeRef}
use Rattle.jnode.specs.declared.node.NodeRef.TheVariants.{Entry}
use Rattle.jname.specs.Clash as names
use Rattle.jname.specs.Live.{Gains}
use Rattle.jmount.specs.StateOf.{entry_in, inodes, entries}
use Rattle.jmount.specs.Collected.{Collected, without_addresses}
use Rattle.jmount.specs.CollectedEntries.{CollectedEntries, pending_entries}
use Rattle.jmount.specs.declared.sorting.Pending.{Pending}
use Rattle.jmount.proofs.CollectedLemmas.{entries_push, inodes_push, same_push, entries_apart_push, collected_entries_apart}

-- ---- entries collected

-- those of a list of nodes up to one of them, and then its own
pub entries_more : (ns : List (ℕ × NodeRef)) (i : ℕ) (n : ℕ × NodeRef) (known more : List Dirent) → i < length ns → n ≡ get_or ns i n
    → known ≡ entries (without_addresses (take i ns)) → more ≡ known ++ entries (n.1 ∷ []) → more ≡ entries (without_addresses (take (i + 1) ns))
entries_more ns i n known more lt is was gains =
    gains ∙ ap (λ (l : List Dirent). l ++ entries (n.1 ∷ [])) was ∙ sym (entries_push (take i ns) n.0 n.1)
    ∙ ap (λ (l : List (ℕ × NodeRef)). entries (without_addresses l)) (sym (take_more ns i n lt ∙ ap (λ (m : ℕ × NodeRef). take i ns ++ m ∷ []) (sym is)))

pub entries_collected_more : (gained more given all : List Dirent) (entry : Dirent) → CollectedEntries gained given → Gains gained more entry → names.NoEntryClashesWith gained entry
    → all ≡ given ++ entry ∷ [] → CollectedEntries more all
entries_collected_more gained more given all entry before gains none is = record {
  same = subst (λ (l : List Dirent). (x : Dirent) → Contains more x ↔ Contains l x) (sym is) (same_push gained more given entry before.same gains);
  apart = entries_apart_push gained more entry before.apart gains none;
}

-- the order in which they were added says nothing
pub entries_collected_permuted : (gained given : List Dirent) (pending sorted : List Pending) → pending_entries pending ≡ given → IsPermutation pending sorted → CollectedEntries gained (pending_entries sorted) → CollectedEntries gained given
entries_collected_permuted gained given pending sorted is moved all =
    let same : IsPermutation given (pending_entries sorted) = subst (λ (l : List Dirent). IsPermutation l (pending_entries sorted)) is (IsPermutation-map (λ (p : Pending). p.entry.now) pending sorted moved) in
    record {
      same = λ x. (
        λ h. Contains-permutation (pending_entries sorted) given x (IsPermutation-sym given (pending_entries sorted) same) ((all.same x).0 h),
        λ h. (all.same x).1 (Contains-permutation given (pending_entries sorted) x same h),
      );
      apart = all.apart;
    }

pub if_ok : {T E : Type 0} (r : Result T E) (P Q : T → Type 0) → ((x : T) → P x → Q x) → IfOk r P → IfOk r Q
if_ok (Ok x) P Q f h = f x h
if_ok (Err e) P Q f h = h

-- none of the entries themselves clash
pub entries_collected_apart : (gained given : List Dirent) → CollectedEntries gained given → names.NoEntriesClash given
entries_collected_apart gained given all a h b g c = all.apart a ((all.same a).1 h) b ((all.same b).1 g) c

-- ---- inode nodes collected beside them

-- the entries of the first of these nodes clash no more than those of all
entries_apart_before : (ns rest all : List (ℕ × NodeRef)) → ns ++ rest ≡ all → names.NoEntriesClash (entries (without_addresses all)) → names.NoEntriesClash (entries (without_addresses ns))
entries_apart_before ns rest all is apart a h b g c = apart a (within a h) b (within b g) c
  where
    split : entries (without_addresses all) ≡ entries (without_addresses ns) ++ entries (without_addresses rest)
    split =
        ap (λ (l : List (ℕ × NodeRef)). entries (without_addresses l)) (sym is) ∙ ap (filter_map entry_in) (map-append (λ (n : ℕ × NodeRef). n.1) ns rest)
        ∙ filter_map-append entry_in (without_addresses ns) (without_addresses rest)

    within : (x : Dirent) → Contains (entries (without_addresses ns)) x → Contains (entries (without_addresses all)) x
    within x h = subst (λ (l : List Dirent). Contains l x) (sym split) (Contains-append_left (entries (without_addresses ns)) (entries (without_addresses rest)) x h)

-- the entries themselves in place of what was gained of them
pub collected_entries : (gained : List Dirent) (inode_list : List InodeNode) (ns : List (ℕ × NodeRef)) → Collected gained inode_list ns → Collected (entries (without_addresses ns)) inode_list ns
collected_entries gained inode_list ns all = record {
  same_entries = λ x. (λ h. h, λ h. h);
  same_inodes = all.same_inodes;
  entries_apart = collected_entries_apart gained inode_list ns all;
  inodes_apart = all.inodes_apart;
}

-- an entry among them changes nothing
pub collected_past_entry : (inode_list : List InodeNode) (ns rest all : List (ℕ × NodeRef)) (addr : ℕ) (node : NodeRef) (entry : Dirent)
    → Collected (entries (without_addresses ns)) inode_list ns → node ≡ Entry entry → (ns ++ (addr, node) ∷ []) ++ rest ≡ all → names.NoEntriesClash (entries (without_addresses all))
    → Collected (entries (without_addresses (ns ++ (addr, node) ∷ []))) inode_list (ns ++ (addr, node) ∷ [])
collected_past_entry inode_list ns rest all addr node entry before is whole apart = record {
  same_entries = λ x. (λ h. h, λ h. h);
  same_inodes =
      subst (λ (l : List InodeNode). (x : InodeNode) → Contains inode_list x ↔ Contains l x)
      (sym (inodes_push ns addr node ∙ ap (λ (m : NodeRef). inodes (without_addresses ns) ++ inodes (m ∷ [])) is ∙ append-nil (inodes (without_addresses ns)))) before.same_inodes;
  entries_apart = entries_apart_before (ns ++ (addr, node) ∷ []) rest all whole apart;
  inodes_apart = before.inodes_apart;
}

-- both together
pub collected_of_entries : (gained : List Dirent) (inode_list : List InodeNode) (ns all : List (ℕ × NodeRef))
    → CollectedEntries gained (entries (without_addresses all)) → Collected (entries (without_addresses ns)) inode_list ns → ns ≡ all → Collected gained inode_list all
collected_of_entries gained inode_list ns all sorted collected is = record {
  same_entries = sorted.same;
  same_inodes = subst (λ (l : List (ℕ × NodeRef)). (x : InodeNode) → Contains inode_list x ↔ Contains (inodes (without_addresses l)) x) is collected.same_inodes;
  entries_apart = sorted.apart;
  inodes_apart = collected.inodes_apart;
}
