-- The nodes that matter make names that lead to objects, and objects that names lead to.
use Rattle.std.proofs.Common.{◌≡◌, ℕ, Bool, true, List, [], Ok, ap, sym, ◌∙◌, ⊎_elim}
use Rattle.std.specs.Prelude.{◌||◌, filter, not, Contains, is_some}
use Rattle.flashbase.proofs.ListLemmas.{filter-none}
use Rattle.flashbase.proofs.MemberLemmas.{Contains-map_from}
use Rattle.jname.specs.Live.{Key}
use Rattle.jname.proofs.LiveLemmas.{both_true, some_of}
use Rattle.jname.proofs.NamingLemmas.{live-from_Contains}
use Rattle.std.specs.FinMap as finite
use Rattle.jnode.specs.declared.node.InodeNode.{InodeNode}
use Rattle.jnode.specs.declared.node.NodeRef.TheVariants.{Inode}
use Rattle.jmount.specs.Clash.{NoneClash}
use Rattle.jmount.specs.Collected.{without_addresses}
use Rattle.jmount.specs.Laws.{IsLatest}
use Rattle.jmount.specs.StateOf.{entries, inodes, object_of, state_of}
use Rattle.jmount.specs.Tree.{State, all_entries, dangling, has_bits, directory_bits, is_there}
use Rattle.jmount.proofs.NumbersLemmas.{object-state_of, named-state_of}
use Rattle.jmount.proofs.ObjectsLemmas.{object_is_of_latest}
use Rattle.jcompact.specs.Matters.{Placed, NamesLeadTo, SaysReached, is_newest, shows, latest_size, matters}
use Rattle.jcompact.proofs.TopLemmas.{none_any}
use Rattle.jcompact.proofs.ObjectLemmas.{inode_at, kept_from}
use Rattle.jcompact.proofs.NameLemmas.{kept_live}
use Rattle.jcompact.proofs.PathLemmas.{object_same, there_is, stepped, walk_same}

module _ (ns kept : List Placed) (reached : ℕ → Bool) (apart : NoneClash (without_addresses ns)) (says : SaysReached ns reached) (is : kept ≡ filter (matters ns reached) ns) where
  abbrev before : State
  before = state_of (without_addresses ns)

  abbrev after : State
  after = state_of (without_addresses kept)

  -- a name leads to an object
  leads : (key : Key) (j : ℕ) → Contains (finite.entries after.names) (key, j) → is_there after j ≡ true
  leads key j c =
      let there = kept_live ns kept reached apart is key j (live-from_Contains (entries (without_addresses kept)) key j c) in
      let thing : is_there before j ≡ true = there_is ns kept reached apart says is j ∙ there.object_is in
      let way = stepped ns kept reached apart says is key.0 j key.1 ((says key.0).0 there.reached_is)
      (ap (has_bits directory_bits) (object-state_of (without_addresses ns) key.0) ∙ there.folder_is)
      (named-state_of (without_addresses ns) key.0 key.1 ∙ there.live_is) thing in
      ap is_some (object_same ns kept reached apart says is j way) ∙ thing

  pub none_dangle : dangling after ≡ []
  none_dangle =
      filter-none (λ (e : ℕ × List ℕ × ℕ). not (is_there after e.2)) (all_entries after)
      (none_any (λ (e : ℕ × List ℕ × ℕ). not (is_there after e.2)) (all_entries after)
      (λ e c.
      let found = Contains-map_from (λ (x : Key × ℕ). (x.0.0, x.0.1, x.1)) (finite.entries after.names) e c in
      ap (λ (x : ℕ × List ℕ × ℕ). not (is_there after x.2)) (sym found.2) ∙ ap not (leads found.0.0 found.0.1 found.1)))

  reached_node : (i : ℕ) (node : InodeNode) → IsLatest (inodes (without_addresses kept)) i node → NamesLeadTo after i
  reached_node i node last =
      let at = inode_at kept node last.there in
      let found = kept_from ns kept reached apart is (at.0, Inode node) at.1 in
      let met = both_true (reached node.ino) (is_newest ns (at.0, Inode node) || shows ns (latest_size ns node.ino) (at.0, Inode node)) found.1 in
      let way = (says i).0 (ap reached (sym last.number) ∙ met.0) in
      (way.0, walk_same ns kept reached apart says is way.0 ∙ way.1)

  pub all_reached : (i : ℕ) → is_there after i ≡ true → NamesLeadTo after i
  all_reached i h =
      let some = some_of (object_of (inodes (without_addresses kept)) i) (sym (ap is_some (object-state_of (without_addresses kept) i)) ∙ h) in
      ⊎_elim
      (λ found. reached_node i found.0 found.1)
      (λ root. ([], ap (λ (n : ℕ). Ok n) (sym root.1)))
      (object_is_of_latest (inodes (without_addresses kept)) i some.0 some.1)

  pub is_part : (n : Placed) → Contains kept n → Contains ns n
  is_part n c = (kept_from ns kept reached apart is n c).0
