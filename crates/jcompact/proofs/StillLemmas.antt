-- Among the nodes that matter each one still does.
use Rattle.std.proofs.Common.{◌≡◌, ℕ, Bool, true, false, cond, List, Some, None, refl, ap, sym, subst, ◌∙◌, ⊎_elim}
use Rattle.std.specs.Prelude.{◌&&◌, ◌||◌, ◌==◌, not, filter, is_some, Contains}
use Rattle.std.specs.List.{list_any}
use Rattle.std.proofs.lemmas.Bool.{false≢true}
use Rattle.flashbase.specs.Lists.{below}
use Rattle.jnode.specs.declared.node.Dirent.{Dirent}
use Rattle.jnode.specs.declared.node.InodeNode.{InodeNode}
use Rattle.jnode.specs.declared.node.NodeRef.TheVariants.{Entry, Inode}
use Rattle.jname.specs.Live.{ino_if_any}
use Rattle.jname.proofs.LiveLemmas.{both_true}
use Rattle.jmount.specs.Clash.{NoneClash}
use Rattle.jmount.specs.Collected.{without_addresses}
use Rattle.jmount.specs.Tree.{has_bits, directory_bits}
use Rattle.jmount.proofs.NumbersLemmas.{object-state_of, named-state_of}
use Rattle.jcompact.specs.Matters.{Placed, SaysReached, AreWhatMatters, counts_above, is_newest, has_byte, shows_at, shows, latest_size, is_folder, is_object, matters}
use Rattle.jcompact.proofs.TopLemmas.{left_or, right_or, either_true, both, not_true, any_of, any_from, none_of, none_any, filter_all}
use Rattle.jcompact.proofs.ObjectLemmas.{kept_from, object_kept, size_kept}
use Rattle.jcompact.proofs.NameLemmas.{newest_live, fewer_newest}
use Rattle.jcompact.proofs.PathLemmas.{there_is, stepped, walk_same}

pub some_number : (n : ℕ) (b : Bool) → not b ≡ true → cond b None (Some n) ≡ Some n
some_number n true h = absurd (false≢true h)
some_number n false h = refl

module _ (ns kept : List Placed) (reached : ℕ → Bool) (apart : NoneClash (without_addresses ns)) (says : SaysReached ns reached) (is : kept ≡ filter (matters ns reached) ns) where
  pub says_still : SaysReached kept reached
  says_still i = (
    λ h. let way = (says i).0 h in (way.0, walk_same ns kept reached apart says is way.0 ∙ way.1),
    λ way. (says i).1 (way.0, sym (walk_same ns kept reached apart says is way.0) ∙ way.1),
  )

  entry_still : (addr : ℕ) (entry : Dirent) → Contains kept (addr, Entry entry) → matters kept reached (addr, Entry entry) ≡ true
  entry_still addr entry c =
      let n : Placed = (addr, Entry entry) in
      let found = kept_from ns kept reached apart is n c in
      let parts = both_true (is_newest ns n) (not (entry.ino == 0) && (reached entry.pino && (is_folder ns entry.pino && is_object ns entry.ino))) found.1 in
      let more = both_true (not (entry.ino == 0)) (reached entry.pino && (is_folder ns entry.pino && is_object ns entry.ino)) parts.1 in
      let folder = both_true (reached entry.pino) (is_folder ns entry.pino && is_object ns entry.ino) more.1 in
      let object = both_true (is_folder ns entry.pino) (is_object ns entry.ino) folder.1 in
      let stands : ino_if_any entry ≡ Some entry.ino = some_number entry.ino (entry.ino == 0) more.0 in
      let way = stepped ns kept reached apart says is entry.pino entry.ino entry.name ((says entry.pino).0 folder.0)
      (ap (has_bits directory_bits) (object-state_of (without_addresses ns) entry.pino) ∙ object.0)
      (named-state_of (without_addresses ns) entry.pino entry.name ∙ newest_live ns addr entry apart found.0 parts.0 ∙ stands)
      (there_is ns kept reached apart says is entry.ino ∙ object.1) in
      let thing : is_object kept entry.ino ≡ true = ap is_some (object_kept ns kept reached apart is entry.ino ((says entry.ino).1 way)) ∙ object.1 in
      let directory : is_folder kept entry.pino ≡ true = ap (has_bits directory_bits) (object_kept ns kept reached apart is entry.pino folder.0) ∙ object.0 in
      both (is_newest kept n) (not (entry.ino == 0) && (reached entry.pino && (is_folder kept entry.pino && is_object kept entry.ino))) (fewer_newest ns kept reached apart is n parts.0)
      (both (not (entry.ino == 0)) (reached entry.pino && (is_folder kept entry.pino && is_object kept entry.ino)) more.0
      (both (reached entry.pino) (is_folder kept entry.pino && is_object kept entry.ino) folder.0
      (both (is_folder kept entry.pino) (is_object kept entry.ino) directory thing)))

  shown_still : (n : Placed) (place : ℕ) → shows_at ns n place ≡ true → shows_at kept n place ≡ true
  shown_still n place h =
      let parts = both_true (has_byte place n.1) (not (list_any (λ (m : Placed). counts_above m n && has_byte place m.1) ns)) h in
      both (has_byte place n.1) (not (list_any (λ (m : Placed). counts_above m n && has_byte place m.1) kept)) parts.0
      (ap not
      (none_any (λ (m : Placed). counts_above m n && has_byte place m.1) kept
      (λ m c.
      none_of (λ (x : Placed). counts_above x n && has_byte place x.1) ns
      (not_true (list_any (λ (x : Placed). counts_above x n && has_byte place x.1) ns) parts.1) m (kept_from ns kept reached apart is m c).0)))

  inode_still : (addr : ℕ) (node : InodeNode) → Contains kept (addr, Inode node) → matters kept reached (addr, Inode node) ≡ true
  inode_still addr node c =
      let n : Placed = (addr, Inode node) in
      let found = kept_from ns kept reached apart is n c in
      let parts = both_true (reached node.ino) (is_newest ns n || shows ns (latest_size ns node.ino) n) found.1 in
      let counts : (is_newest kept n || shows kept (latest_size kept node.ino) n) ≡ true =
      ⊎_elim
      (λ (newest : is_newest ns n ≡ true). left_or (is_newest kept n) (shows kept (latest_size kept node.ino) n) (fewer_newest ns kept reached apart is n newest))
      (λ (shown : shows ns (latest_size ns node.ino) n ≡ true).
      let at = any_from (shows_at ns n) (below (latest_size ns node.ino)) shown in
      right_or (is_newest kept n) (shows kept (latest_size kept node.ino) n)
      (any_of (shows_at kept n) (below (latest_size kept node.ino)) at.0
      (subst (λ (size : ℕ). Contains (below size) at.0) (sym (size_kept ns kept reached apart is node.ino parts.0)) at.1)
      (shown_still n at.0 at.2)))
      (either_true (is_newest ns n) (shows ns (latest_size ns node.ino) n) parts.1) in
      both (reached node.ino) (is_newest kept n || shows kept (latest_size kept node.ino) n) parts.0 counts

  pub still : (n : Placed) → Contains kept n → matters kept reached n ≡ true
  still (addr, Entry entry) c = entry_still addr entry c
  still (addr, Inode node) c = inode_still addr node c

  pub all_still : AreWhatMatters kept kept
  all_still = (reached, says_still, sym (filter_all (matters kept reached) kept still))
