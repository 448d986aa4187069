-- One node more is collected, or is not.
use Rattle.std.proofs.Common.{◌≡◌, ℕ, ◌+◌, List, ◌∷◌, [], ◌++◌, max, sym, ap, ◌∙◌, arith}
use Rattle.flashbase.specs.Lists.{greatest}
use Rattle.jnode.specs.declared.node.Dirent.{Dirent}
use Rattle.jnode.specs.declared.node.InodeNode.{InodeNode}
use Rattle.jnode.specs.declared.node.NodeRef.{NodeRef}
use Rattle.jnode.specs.declared.node.NodeRef.TheVariants.{Entry, Inode}
use Rattle.jname.specs.Clash as names
use Rattle.jmount.specs.Clash.{SomeInodeClashesWith}
use Rattle.jmount.specs.StateOf.{numbers_in, next_of}
use Rattle.jmount.specs.Collected.{without_addresses, ClashesIn, FirstClash, Collected, IsRefused, StopsCollecting, greatest_number}
use Rattle.jmount.specs.declared.fault.MountFault.{MountFault}
use Rattle.jmount.specs.declared.fault.MountFault.TheVariants as fault
use Rattle.jmount.proofs.CollectedLemmas.{collected_none_clash, collected_entry_clashes, collected_inode_clashes}
use Rattle.jmount.proofs.OneMoreLemmas.{next_of_one_more}
use Rattle.std.proofs.lemmas.List.{map_push}

pub number_push : (ns : List (ℕ × NodeRef)) (addr : ℕ) (node : NodeRef) (before number all : ℕ)
    → before ≡ greatest_number (without_addresses ns) → number ≡ greatest (numbers_in node) → all ≡ max before number → all ≡ greatest_number (without_addresses (ns ++ (addr, node) ∷ []))
number_push ns addr node before number all e f is =
    let more : next_of (without_addresses ns ++ node ∷ []) ≡ max (next_of (without_addresses ns)) (1 + greatest (numbers_in node)) = next_of_one_more (without_addresses ns) node in
    let same : greatest_number (without_addresses (ns ++ (addr, node) ∷ [])) ≡ greatest_number (without_addresses ns ++ node ∷ []) = ap greatest_number (map_push (λ (n : ℕ × NodeRef). n.1) ns (addr, node)) in
    omega arith

first_clash : (gained : List Dirent) (inode_list : List InodeNode) (all pre post : List (ℕ × NodeRef)) (addr at : ℕ) (node : NodeRef)
    → Collected gained inode_list pre → all ≡ pre ++ (addr, node) ∷ post → at ≡ addr → ClashesIn pre node → FirstClash all at
first_clash gained inode_list all pre post addr at node before is same clash =
    (pre, node, post, is ∙ ap (λ a. pre ++ (a, node) ∷ post) (sym same), collected_none_clash gained inode_list pre before, clash)

refused : (gained : List Dirent) (inode_list : List InodeNode) (all pre post : List (ℕ × NodeRef)) (addr : ℕ) (node : NodeRef) (Clashing : Type 0) (why : MountFault)
    → Collected gained inode_list pre → all ≡ pre ++ (addr, node) ∷ post → (Clashing → ClashesIn pre node) → IsRefused addr Clashing why → StopsCollecting all why
refused gained inode_list all pre post addr node Clashing (fault.Clash at) before is clash h = first_clash gained inode_list all pre post addr at node before is h.0 (clash h.1)
refused gained inode_list all pre post addr node Clashing fault.OutOfMemory before is clash h = tt
refused gained inode_list all pre post addr node Clashing fault.BlockSize before is clash h = h
refused gained inode_list all pre post addr node Clashing fault.TooLarge before is clash h = h
refused gained inode_list all pre post addr node Clashing (fault.Incompatible other nodetype) before is clash h = h
refused gained inode_list all pre post addr node Clashing (fault.Compressed other compr) before is clash h = h
refused gained inode_list all pre post addr node Clashing fault.RootKind before is clash h = h

at_node : (all pre post : List (ℕ × NodeRef)) (addr : ℕ) (n node : NodeRef) → pre ++ (addr, n) ∷ post ≡ all → n ≡ node → all ≡ pre ++ (addr, node) ∷ post
at_node all pre post addr n node is same = sym is ∙ ap (λ m. pre ++ (addr, m) ∷ post) same

pub entry_refused : (gained : List Dirent) (inode_list : List InodeNode) (all pre post : List (ℕ × NodeRef)) (addr : ℕ) (n : NodeRef) (entry : Dirent) (why : MountFault)
    → Collected gained inode_list pre → pre ++ (addr, n) ∷ post ≡ all → n ≡ Entry entry → IsRefused addr (names.SomeEntryClashesWith gained entry) why → StopsCollecting all why
entry_refused gained inode_list all pre post addr n entry why before is same h =
    refused gained inode_list all pre post addr (Entry entry) (names.SomeEntryClashesWith gained entry) why before (at_node all pre post addr n (Entry entry) is same)
    (λ some. collected_entry_clashes gained inode_list pre entry before some) h

pub inode_refused : (gained : List Dirent) (inode_list : List InodeNode) (all pre post : List (ℕ × NodeRef)) (addr : ℕ) (n : NodeRef) (inode : InodeNode) (why : MountFault)
    → Collected gained inode_list pre → pre ++ (addr, n) ∷ post ≡ all → n ≡ Inode inode → IsRefused addr (SomeInodeClashesWith inode_list inode) why → StopsCollecting all why
inode_refused gained inode_list all pre post addr n inode why before is same h =
    refused gained inode_list all pre post addr (Inode inode) (SomeInodeClashesWith inode_list inode) why before (at_node all pre post addr n (Inode inode) is same)
    (λ some. collected_inode_clashes gained inode_list pre inode before some) h
