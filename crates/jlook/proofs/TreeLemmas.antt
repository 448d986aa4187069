-- The file system of nodes as they are looked at: it has the same outline, and the same objects where they are wanted.
use Rattle.std.proofs.Common.{◌≡◌, ℕ, ◌+◌, ◌==◌, Bool, true, false, cond, List, [], ◌∷◌, map, filter, None, Some, Option, refl, sym, ap, ap₂, subst, ◌∙◌}
use Rattle.std.specs.Prelude.{option_map, flat_map, nat_lt}
use Rattle.std.specs.Ordering.{nat_cmp}
use Rattle.std.specs.Cmp.{nat_cmp_total}
use Rattle.std.specs.FinMap.{FinMap, same_map, nat_cmp-IsAntisymmetric}
use Rattle.std.proofs.lemmas.Bool.{eqb-true}
use Rattle.flashbase.specs.Lists.{newest, higher_of, greatest, tabled}
use Rattle.flashbase.proofs.ListLemmas.{length-each_below}
use Rattle.flashbase.proofs.MemberLemmas.{Contains-map_from}
use Rattle.jnode.specs.declared.node.Dirent.{Dirent}
use Rattle.jnode.specs.declared.node.InodeNode.{InodeNode}
use Rattle.jnode.specs.declared.node.NodeRef.{NodeRef}
use Rattle.jnode.specs.declared.node.NodeRef.TheVariants.{Entry, Inode}
use Rattle.jfrag.specs.Overlays.{byte_at, visible}
use Rattle.jname.specs.Live.{key_cmp, live_names}
use Rattle.jmount.specs.Clash.{NodesClash, NoneClash}
use Rattle.jmount.specs.StateOf.{inodes, entries, versions_of, latest, piece_of, with_bytes, object_by, or_root, object_from, object_of, numbers_in, next_of, owner, version_of, top, tops_of, state_of}
use Rattle.jmount.specs.Tree.{ObjectOf, Outline, sized, outline, object}
use Rattle.jmount.proofs.NumbersLemmas.{object-state_of}
use Rattle.jmount.proofs.OutlineLemmas.{object-outline}
use Rattle.jmount.proofs.SameLemmas.{tabled-same}
use Rattle.jlook.specs.Looked.{Wants, zeroed, looked_inode, looked_node}

-- ---- lists

higher_map : {X Y : Type 0} (f : X → Y) (v : X → ℕ) (w : Y → ℕ) → ((x : X) → w (f x) ≡ v x) → (x : X) (o : Option X)
    → higher_of w (f x) (option_map f o) ≡ f (higher_of v x o)
higher_map f v w same x None = refl
higher_map {X} {Y} f v w same x (Some y) =
    ap₂ (λ (m n : ℕ). cond (nat_lt m n) (f y) (f x)) (same x) (same y) ∙ by (nat_lt (v x) (v y))
  where
    by : (b : Bool) → cond b (f y) (f x) ≡ f (cond b y x)
    by true = refl
    by false = refl

newest_map : {X Y : Type 0} (f : X → Y) (v : X → ℕ) (w : Y → ℕ) → ((x : X) → w (f x) ≡ v x) → (xs : List X)
    → newest w (map f xs) ≡ option_map f (newest v xs)
newest_map f v w same [] = refl
newest_map {X} {Y} f v w same (x ∷ xs) =
    ap (λ (o : Option Y). Some (higher_of w (f x) o)) (newest_map f v w same xs)
    ∙ ap (λ (y : Y). Some y) (higher_map f v w same x (newest v xs))

abbrev tree_of : FinMap nat_cmp (ObjectOf ℕ) → FinMap key_cmp ℕ → ℕ → Outline
tree_of objects names next = record { objects = objects; names = names; next = next }

same_tree : (s t : Outline) → s.objects ≡ t.objects → s.names ≡ t.names → s.next ≡ t.next → s ≡ t
same_tree s t objects names next =
    ap (λ (o : FinMap nat_cmp (ObjectOf ℕ)). tree_of o s.names s.next) objects
    ∙ ap (λ (n : FinMap key_cmp ℕ). tree_of t.objects n s.next) names
    ∙ ap (λ (k : ℕ). tree_of t.objects t.names k) next

-- what an outline has of the object of a node: not what the node holds
abbrev outlined : InodeNode → ℕ → ObjectOf ℕ
outlined n size = record (with_bytes {B = ℕ} n size) { device = None }

module _ (wants : Wants) where
  -- ---- a node

  kept : {X : Type 0} (f : InodeNode → X) (n : InodeNode) → f (zeroed n) ≡ f n → f (looked_inode wants n) ≡ f n
  kept {X} f n same = by (wants n.ino)
    where
      by : (b : Bool) → f (cond b n (zeroed n)) ≡ f n
      by true = refl
      by false = same

  ino_kept : (n : InodeNode) → (looked_inode wants n).ino ≡ n.ino
  ino_kept n = kept (λ (m : InodeNode). m.ino) n refl

  version_kept : (n : InodeNode) → (looked_inode wants n).version ≡ n.version
  version_kept n = kept (λ (m : InodeNode). m.version) n refl

  size_kept : (n : InodeNode) → outlined (looked_inode wants n) (looked_inode wants n).isize ≡ outlined n n.isize
  size_kept n = kept (λ (m : InodeNode). outlined m m.isize) n refl

  owner_kept : (n : NodeRef) → owner (looked_node wants n) ≡ owner n
  owner_kept (Entry entry) = refl
  owner_kept (Inode inode) = ino_kept inode

  number_kept : (n : NodeRef) → version_of (looked_node wants n) ≡ version_of n
  number_kept (Entry entry) = refl
  number_kept (Inode inode) = version_kept inode

  -- ---- nodes

  inodes_looked : (ns : List NodeRef) → inodes (map (looked_node wants) ns) ≡ map (looked_inode wants) (inodes ns)
  inodes_looked [] = refl
  inodes_looked ((Entry entry) ∷ ns) = inodes_looked ns
  inodes_looked ((Inode inode) ∷ ns) = ap (λ (l : List InodeNode). looked_inode wants inode ∷ l) (inodes_looked ns)

  entries_looked : (ns : List NodeRef) → entries (map (looked_node wants) ns) ≡ entries ns
  entries_looked [] = refl
  entries_looked ((Entry entry) ∷ ns) = ap (λ (l : List Dirent). entry ∷ l) (entries_looked ns)
  entries_looked ((Inode inode) ∷ ns) = entries_looked ns

  numbers_looked : (ns : List NodeRef) → flat_map numbers_in (map (looked_node wants) ns) ≡ flat_map numbers_in ns
  numbers_looked [] = refl
  numbers_looked ((Entry entry) ∷ ns) = ap (λ (l : List ℕ). entry.pino ∷ entry.ino ∷ l) (numbers_looked ns)
  numbers_looked ((Inode inode) ∷ ns) = ap₂ (λ (i : ℕ) (l : List ℕ). i ∷ l) (ino_kept inode) (numbers_looked ns)

  next_looked : (ns : List NodeRef) → next_of (map (looked_node wants) ns) ≡ next_of ns
  next_looked ns = ap (λ (l : List ℕ). 1 + greatest (1 ∷ l)) (numbers_looked ns)

  owners_looked : (ns : List NodeRef) → map owner (map (looked_node wants) ns) ≡ map owner ns
  owners_looked [] = refl
  owners_looked (n ∷ ns) = ap₂ (λ (i : ℕ) (l : List ℕ). i ∷ l) (owner_kept n) (owners_looked ns)

  owned_looked : (ns : List NodeRef) (i : ℕ) → map version_of (filter (λ node. i == owner node) (map (looked_node wants) ns)) ≡ map version_of (filter (λ node. i == owner node) ns)
  owned_looked [] i = refl
  owned_looked (n ∷ ns) i =
      ap (λ (k : ℕ). map version_of (cond (i == k)
      (looked_node wants n ∷ filter (λ node. i == owner node) (map (looked_node wants) ns)) (filter (λ node. i == owner node) (map (looked_node wants) ns)))) (owner_kept n)
      ∙ by (owned_looked ns i) (i == owner n)
    where
      by : map version_of (filter (λ node. i == owner node) (map (looked_node wants) ns)) ≡ map version_of (filter (λ node. i == owner node) ns) → (b : Bool)
          → map version_of (cond b (looked_node wants n ∷ filter (λ node. i == owner node) (map (looked_node wants) ns)) (filter (λ node. i == owner node) (map (looked_node wants) ns)))
          ≡ map version_of (cond b (n ∷ filter (λ node. i == owner node) ns) (filter (λ node. i == owner node) ns))
      by more true = ap₂ (λ (v : ℕ) (l : List ℕ). v ∷ l) (number_kept n) more
      by more false = more

  pub tops_looked : (ns : List NodeRef) → tops_of (map (looked_node wants) ns) ≡ tops_of ns
  tops_looked ns =
      ap (λ (l : List ℕ). tabled nat_cmp (1 ∷ l) (λ i. Some (top (map (looked_node wants) ns) i))) (owners_looked ns)
      ∙ tabled-same (1 ∷ map owner ns) (1 ∷ map owner ns) (λ i. Some (top (map (looked_node wants) ns) i)) (λ i. Some (top ns i)) (λ x. (λ has. has, λ has. has))
      (λ i. ap (λ (l : List ℕ). Some (greatest l)) (owned_looked ns i))

  -- ---- the versions of a number

  versions_looked : (ns : List InodeNode) (i : ℕ) → versions_of (map (looked_inode wants) ns) i ≡ map (looked_inode wants) (versions_of ns i)
  versions_looked [] i = refl
  versions_looked (n ∷ ns) i =
      ap (λ (k : ℕ). cond (i == k) (looked_inode wants n ∷ versions_of (map (looked_inode wants) ns) i) (versions_of (map (looked_inode wants) ns) i)) (ino_kept n)
      ∙ ap (λ (l : List InodeNode). cond (i == n.ino) (looked_inode wants n ∷ l) l) (versions_looked ns i)
      ∙ by (i == n.ino)
    where
      by : (b : Bool) → cond b (looked_inode wants n ∷ map (looked_inode wants) (versions_of ns i)) (map (looked_inode wants) (versions_of ns i))
          ≡ map (looked_inode wants) (cond b (n ∷ versions_of ns i) (versions_of ns i))
      by true = refl
      by false = refl

  latest_looked : (vs : List InodeNode) → latest (map (looked_inode wants) vs) ≡ option_map (looked_inode wants) (latest vs)
  latest_looked vs = newest_map (looked_inode wants) (λ (n : InodeNode). n.version) (λ (n : InodeNode). n.version) version_kept vs

  -- those of a number that is wanted are as they are
  own_kept : (n : InodeNode) → wants n.ino ≡ true → looked_inode wants n ≡ n
  own_kept n wanted = ap (λ (b : Bool). cond b n (zeroed n)) wanted

  versions_wanted : (ns : List InodeNode) (i : ℕ) → wants i ≡ true → map (looked_inode wants) (versions_of ns i) ≡ versions_of ns i
  versions_wanted [] i wanted = refl
  versions_wanted (n ∷ ns) i wanted = by (versions_wanted ns i wanted) (i == n.ino) (λ is. own_kept n (ap wants (sym (eqb-true i n.ino is)) ∙ wanted))
    where
      by : map (looked_inode wants) (versions_of ns i) ≡ versions_of ns i → (b : Bool) → (b ≡ true → looked_inode wants n ≡ n) → map (looked_inode wants) (cond b (n ∷ versions_of ns i) (versions_of ns i)) ≡ cond b (n ∷ versions_of ns i) (versions_of ns i)
      by more true same = ap₂ (λ (m : InodeNode) (l : List InodeNode). m ∷ l) (same refl) more
      by more false same = more

  -- ---- objects

  object_sized : (vs : List InodeNode) (n : InodeNode) → sized (object_by vs n) ≡ outlined n n.isize
  object_sized vs n = ap (outlined n) (length-each_below n.isize (λ place. byte_at (visible (map piece_of vs) place)))

  from_looked : (i : ℕ) (vs : List InodeNode) → option_map sized (object_from i (map (looked_inode wants) vs)) ≡ option_map sized (object_from i vs)
  from_looked i vs =
      ap (λ (o : Option InodeNode). option_map sized (or_root i (option_map (object_by (map (looked_inode wants) vs)) o))) (latest_looked vs)
      ∙ by (latest vs)
    where
      by : (o : Option InodeNode) → option_map sized (or_root i (option_map (object_by (map (looked_inode wants) vs)) (option_map (looked_inode wants) o)))
          ≡ option_map sized (or_root i (option_map (object_by vs) o))
      by None = refl
      by (Some n) =
          ap (λ (x : ObjectOf ℕ). Some x)
          (object_sized (map (looked_inode wants) vs) (looked_inode wants n) ∙ size_kept n ∙ sym (object_sized vs n))

  sizes_looked : (ns : List InodeNode) (i : ℕ) → option_map sized (object_of (map (looked_inode wants) ns) i) ≡ option_map sized (object_of ns i)
  sizes_looked ns i = ap (λ (vs : List InodeNode). option_map sized (object_from i vs)) (versions_looked ns i) ∙ from_looked i (versions_of ns i)

  object_looked : (ns : List NodeRef) (i : ℕ) → object (state_of (map (looked_node wants) ns)) i ≡ object_of (map (looked_inode wants) (inodes ns)) i
  object_looked ns i = object-state_of (map (looked_node wants) ns) i ∙ ap (λ (l : List InodeNode). object_of l i) (inodes_looked ns)

  pub wanted_looked : (ns : List NodeRef) (i : ℕ) → wants i ≡ true → object (state_of (map (looked_node wants) ns)) i ≡ object (state_of ns) i
  wanted_looked ns i wanted =
      object_looked ns i
      ∙ ap (object_from i) (versions_looked (inodes ns) i ∙ versions_wanted (inodes ns) i wanted)
      ∙ sym (object-state_of ns i)

  objects_looked : (ns : List NodeRef) → (outline (state_of (map (looked_node wants) ns))).objects ≡ (outline (state_of ns)).objects
  objects_looked ns =
      same_map nat_cmp_total nat_cmp-IsAntisymmetric (outline (state_of (map (looked_node wants) ns))).objects (outline (state_of ns)).objects
      (λ i.
      object-outline (state_of (map (looked_node wants) ns)) i
      ∙ ap (option_map sized) (object_looked ns i)
      ∙ sizes_looked (inodes ns) i
      ∙ ap (option_map sized) (sym (object-state_of ns i))
      ∙ sym (object-outline (state_of ns) i))

  pub outline_looked : (ns : List NodeRef) → outline (state_of (map (looked_node wants) ns)) ≡ outline (state_of ns)
  outline_looked ns =
      same_tree (outline (state_of (map (looked_node wants) ns))) (outline (state_of ns)) (objects_looked ns)
      (ap (λ (l : List Dirent). live_names l) (entries_looked ns)) (next_looked ns)

  -- ---- no clash is found that is not there

  clash_there : (m n : NodeRef) → NodesClash (looked_node wants m) (looked_node wants n) → NodesClash m n
  clash_there (Entry a) (Entry b) clash = clash
  clash_there (Inode a) (Inode b) clash = record {
    ino = sym (ino_kept a) ∙ clash.ino ∙ ino_kept b;
    version = sym (version_kept a) ∙ clash.version ∙ version_kept b;
    contents = λ same. clash.contents (ap (looked_inode wants) same);
  }
  clash_there (Entry a) (Inode b) clash = clash
  clash_there (Inode a) (Entry b) clash = clash

  pub apart_looked : (ns : List NodeRef) → NoneClash ns → NoneClash (map (looked_node wants) ns)
  apart_looked ns apart a b in_a in_b clash =
      let (m, has_m, is_a) = Contains-map_from (looked_node wants) ns a in_a in
      let (n, has_n, is_b) = Contains-map_from (looked_node wants) ns b in_b in
      apart m n has_m has_n
      (clash_there m n (subst (λ (x : NodeRef). NodesClash x (looked_node wants n)) (sym is_a) (subst (λ (y : NodeRef). NodesClash a y) (sym is_b) clash)))
