-- What nodes make in whatever order they come.
use Rattle.std.proofs.Common.{◌≡◌, List, [], ◌∷◌, ◌++◌, sym, subst, inl, inr, Some, Contains, ⊎_elim}
use Rattle.std.proofs.lemmas.List.Elements.{Contains-append_left, Contains-append_right, Contains-append_cases}
use Rattle.flashbase.proofs.MemberLemmas.{Contains-none, Contains-here, Contains-there, Contains-cases, Contains-filter_map_from}
use Rattle.jname.specs.Clash as names
use Rattle.jnode.specs.declared.node.Dirent.{Dirent}
use Rattle.jnode.specs.declared.node.InodeNode.{InodeNode}
use Rattle.jnode.specs.declared.node.NodeRef.{NodeRef}
use Rattle.jnode.specs.declared.node.NodeRef.TheVariants.{Entry, Inode}
use Rattle.jmount.specs.Clash.{NoInodesClash, NoneClash}
use Rattle.jmount.specs.Laws.{SameElements}
use Rattle.jmount.specs.StateOf.{inodes, entries, inode_in, entry_in}
use Rattle.jmount.proofs.StateLemmas.{state-same, tops-same}
use Rattle.jrow.specs.Merging.{Interleaves}
use Rattle.jrow.specs.OrderLaws.{OrderDoesNotMatter, MergedMakeSame}

-- ---- the two kinds of nodes that do not clash

entry_is : (x : NodeRef) (entry : Dirent) → entry_in x ≡ Some entry → x ≡ Entry entry
entry_is (Entry other) entry is = cc
entry_is (Inode node) entry is = absurd (cc)

inode_is : (x : NodeRef) (node : InodeNode) → inode_in x ≡ Some node → x ≡ Inode node
inode_is (Inode other) node is = cc
inode_is (Entry entry) node is = absurd (cc)

entry_there : (ns : List NodeRef) (entry : Dirent) → Contains (entries ns) entry → Contains ns (Entry entry)
entry_there ns entry has =
    let found = Contains-filter_map_from entry_in ns entry has in
    subst (λ (x : NodeRef). Contains ns x) (entry_is found.0 entry found.2) found.1

inode_there : (ns : List NodeRef) (node : InodeNode) → Contains (inodes ns) node → Contains ns (Inode node)
inode_there ns node has =
    let found = Contains-filter_map_from inode_in ns node has in
    subst (λ (x : NodeRef). Contains ns x) (inode_is found.0 node found.2) found.1

entries_apart : (ns : List NodeRef) → NoneClash ns → names.NoEntriesClash (entries ns)
entries_apart ns none entry has other there clash = none (Entry other) (Entry entry) (entry_there ns other there) (entry_there ns entry has) clash

inodes_apart : (ns : List NodeRef) → NoneClash ns → NoInodesClash (inodes ns)
inodes_apart ns none node has other there clash = none (Inode other) (Inode node) (inode_there ns other there) (inode_there ns node has) clash

pub order_does_not_matter : OrderDoesNotMatter
order_does_not_matter ns others same none = record {
  state = state-same ns others same (inodes_apart ns none) (entries_apart ns none);
  tops = tops-same ns others same;
  apart = λ a b in_a in_b clash. none a b ((same a).1 in_a) ((same b).1 in_b) clash;
}

-- ---- merged lists

of_both : {X : Type 0} (xs ys zs : List X) → Interleaves xs ys zs → (x : X) → Contains zs x → Contains (xs ++ ys) x
of_both xs ys [] h x has = absurd (Contains-none x has)
of_both {X} xs ys (z ∷ zs) (inl (rest, is, more)) x has =
    subst (λ (l : List X). Contains (l ++ ys) x) (sym is)
    (⊎_elim
    (λ (here : z ≡ x). subst (λ (y : X). Contains (z ∷ (rest ++ ys)) y) here (Contains-here z (rest ++ ys)))
    (λ later. Contains-there z (rest ++ ys) x (of_both rest ys zs more x later))
    (Contains-cases z zs x has))
of_both {X} xs ys (z ∷ zs) (inr (rest, is, more)) x has =
    subst (λ (l : List X). Contains (xs ++ l) x) (sym is)
    (⊎_elim
    (λ (here : z ≡ x). subst (λ (y : X). Contains (xs ++ z ∷ rest) y) here (Contains-append_right xs (z ∷ rest) z (Contains-here z rest)))
    (λ later.
    ⊎_elim
    (λ first. Contains-append_left xs (z ∷ rest) x first)
    (λ second. Contains-append_right xs (z ∷ rest) x (Contains-there z rest x second))
    (Contains-append_cases xs rest x (of_both xs rest zs more x later)))
    (Contains-cases z zs x has))

of_first : {X : Type 0} (xs ys zs : List X) → Interleaves xs ys zs → (x : X) → Contains xs x → Contains zs x
of_first {X} xs ys [] h x has = absurd (Contains-none x (subst (λ (l : List X). Contains l x) h.0 has))
of_first {X} xs ys (z ∷ zs) (inl (rest, is, more)) x has =
    ⊎_elim
    (λ (here : z ≡ x). subst (λ (y : X). Contains (z ∷ zs) y) here (Contains-here z zs))
    (λ later. Contains-there z zs x (of_first rest ys zs more x later))
    (Contains-cases z rest x (subst (λ (l : List X). Contains l x) is has))
of_first xs ys (z ∷ zs) (inr (rest, is, more)) x has = Contains-there z zs x (of_first xs rest zs more x has)

of_second : {X : Type 0} (xs ys zs : List X) → Interleaves xs ys zs → (x : X) → Contains ys x → Contains zs x
of_second {X} xs ys [] h x has = absurd (Contains-none x (subst (λ (l : List X). Contains l x) h.1 has))
of_second {X} xs ys (z ∷ zs) (inr (rest, is, more)) x has =
    ⊎_elim
    (λ (here : z ≡ x). subst (λ (y : X). Contains (z ∷ zs) y) here (Contains-here z zs))
    (λ later. Contains-there z zs x (of_second xs rest zs more x later))
    (Contains-cases z rest x (subst (λ (l : List X). Contains l x) is has))
of_second xs ys (z ∷ zs) (inl (rest, is, more)) x has = Contains-there z zs x (of_second rest ys zs more x has)

pub merged_same : {X : Type 0} (xs ys zs : List X) → Interleaves xs ys zs → SameElements (xs ++ ys) zs
merged_same xs ys zs h x = (
  λ has. ⊎_elim (λ first. of_first xs ys zs h x first) (λ second. of_second xs ys zs h x second) (Contains-append_cases xs ys x has),
  λ has. of_both xs ys zs h x has,
)

pub merged_make_same : MergedMakeSame
merged_make_same xs ys zs h none = order_does_not_matter (xs ++ ys) zs (merged_same xs ys zs h) none
