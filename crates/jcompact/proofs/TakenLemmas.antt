-- What is known of the nodes that were taken, with one more.
use Rattle.std.proofs.Common.{◌≡◌, ◌≢◌, ℕ, zero, suc, ◌+◌, ◌-◌, ◌*◌, ◌<◌, ◌≤◌, Bool, true, false, cond, List, [], ◌∷◌, length, map, Option, Some, None, refl, ap, sym, subst, ◌∙◌, arith, inl, inr, ⊎_elim}
use Rattle.std.specs.Prelude.{◌⊎◌, ◌&&◌, ◌||◌, ◌==◌, nat_lt, nat_le, min, not, bytes_eq, option_map, is_some, Contains}
use Rattle.std.specs.List.{All, AllPairs, list_any}
use Rattle.std.specs.Cow.{cow_slice_items}
use Rattle.std.specs.declared.cmp.Ordering.{Ordering}
use Rattle.std.specs.declared.cmp.Ordering.TheVariants.{Less, Equal, Greater}
use Rattle.std.specs.Ordering.{eq_by_cmp, is_eq, nat_cmp, ordering_then}
use Rattle.std.specs.Cmp.{unsigned_tied}
use Rattle.std.specs.Cmp.Lexicographic.{slice_cmp}
use Rattle.std.specs.BTreeSet.{BTreeSet, contains}
use Rattle.std.proofs.lemmas.Bool.{true≢false, false≢true, eqb-true, eq-eqb, ltb-true, ltb-false, leb-true, le-leb, lt-ltb}
use Rattle.std.proofs.lemmas.Bool.Decides.{nat_tests}
use Rattle.std.proofs.lemmas.Cmp.{nat_cmp_total, nat_list_cmp_total, tied_itself}
use Rattle.std.proofs.lemmas.List.Elements.{All-contains}
use Rattle.std.proofs.lemmas.Map.Lookups.{exact_unsigned, exact_bytes}
use Rattle.std.proofs.lemmas.Slice.Eq.{bytes_eq-Decides}
use Rattle.flashbase.specs.Lists.{below}
use Rattle.flashbase.proofs.ListLemmas.{length-each_below}
use Rattle.flashbase.proofs.MemberLemmas.{Contains-below, Contains-below_from}
use Rattle.jnode.specs.declared.node.Dirent.{Dirent}
use Rattle.jnode.specs.declared.node.InodeNode.{InodeNode}
use Rattle.jnode.specs.declared.node.NodeRef.{NodeRef}
use Rattle.jnode.specs.declared.node.NodeRef.TheVariants.{Entry, Inode}
use Rattle.jfrag.specs.Pieces.{body_len, covers, end_of}
use Rattle.jfrag.specs.Overlays.{visible, byte_at}
use Rattle.jname.proofs.ContentsByNameLemmas.{by_test}
use Rattle.jname.proofs.LiveLemmas.{both_true}
use Rattle.jname.specs.Live.{is_at, key_of}
use Rattle.jmount.specs.Collected.{without_addresses}
use Rattle.jmount.specs.MountsNodes.{IsMountable, AreMountable}
use Rattle.jmount.specs.StateOf.{default_root, inodes, latest, object_by, object_of, or_root, piece_of, state_of, versions_of}
use Rattle.jmount.specs.Tree.{State, has_bits, directory_bits, object, is_directory, is_there}
use Rattle.jmount.proofs.NumbersLemmas.{object-state_of}
use Rattle.jcompact.specs.Matters.{Placed, counts_above, has_byte, is_for_same, is_folder, is_newest, is_object, latest_size, matters, shows, shows_at, size_if}
use Rattle.jcompact.specs.Taking.{AddsIf, HasEnds, IsNext, KnowsTaken, NameKey, SaysBare, TakesEntry, TakesInode, TakesNode, among, covers_spot, is_named, is_of, name_key_cmp, node_rank, reached_by, size_if_there, size_there, spot_of, stands}
use Rattle.jcompact.specs.declared.taken.Taken.{Taken}
use Rattle.jcompact.proofs.RankLemmas.{among_more, among_same, and_false, and_true, counted, newest_is, same_test}
use Rattle.jcompact.proofs.TopLemmas.{any_from, any_of, none_any, both, right_or}

-- ---- the state of the nodes

size_is : (i : ℕ) (versions : List InodeNode) (o : Option InodeNode) → size_if_there (or_root i (option_map (object_by versions) o)) ≡ size_if o
size_is i versions (Some node) = length-each_below node.isize (λ place. byte_at (visible (map piece_of versions) place))
size_is i versions None = by (i == 1)
  where
    by : (b : Bool) → size_if_there (cond b (Some default_root) None) ≡ 0
    by true = refl
    by false = refl

module _ (s : State) (ns : List Placed) (made : s ≡ state_of (without_addresses ns)) where
  object_made : (i : ℕ) → object s i ≡ object_of (inodes (without_addresses ns)) i
  object_made i = ap (λ (t : State). object t i) made ∙ object-state_of (without_addresses ns) i

  pub size_made : (i : ℕ) → size_there s i ≡ latest_size ns i
  size_made i =
      ap size_if_there (object_made i)
      ∙ size_is i (versions_of (inodes (without_addresses ns)) i) (latest (versions_of (inodes (without_addresses ns)) i))

  pub there_made : (i : ℕ) → is_there s i ≡ is_object ns i
  there_made i = ap is_some (object_made i)

  pub folder_made : (i : ℕ) → is_directory s i ≡ is_folder ns i
  folder_made i = ap (has_bits directory_bits) (object_made i)

-- ---- spots

-- a place and its spot
spot_at : (j i q f t : ℕ) → f < 4294967296 → t < 4294967296 → q < 4294967296
    → ((j == i) && (nat_le f q && nat_lt q t)) ≡ (nat_le (j * 4294967296 + f) (i * 4294967296 + q) && nat_lt (i * 4294967296 + q) (j * 4294967296 + t))
spot_at j i q f t from to small = by (nat_lt j i) (nat_lt i j) refl refl
  where
    by : (a b : Bool) → nat_lt j i ≡ a → nat_lt i j ≡ b
        → ((j == i) && (nat_le f q && nat_lt q t)) ≡ (nat_le (j * 4294967296 + f) (i * 4294967296 + q) && nat_lt (i * 4294967296 + q) (j * 4294967296 + t))
    by true b e d = grind (arith, nat_tests)
    by false true e d = grind (arith, nat_tests)
    by false false e d =
        let same : j ≡ i = grind (arith, nat_tests) in
        grind (arith, nat_tests)

step_in : (f t c : ℕ) → (nat_le f c && nat_lt c t) ≡ true → ((nat_le f (c + 1) && nat_lt (c + 1) t) ≡ true) ⊎ (t ≡ c + 1)
step_in f t c held = by (nat_lt (c + 1) t) refl
  where
    by : (b : Bool) → nat_lt (c + 1) t ≡ b → ((nat_le f (c + 1) && nat_lt (c + 1) t) ≡ true) ⊎ (t ≡ c + 1)
    by true e = inl (grind (arith, nat_tests))
    by false e = inr (grind (arith, nat_tests))

step_spot : (spots : BTreeSet ℕ) (c : ℕ) (r : NodeRef) → HasEnds spots r → covers_spot c r ≡ true → (covers_spot (c + 1) r ≡ true) ⊎ (contains nat_cmp spots (c + 1) ≡ true)
step_spot spots c (Entry entry) ends h = absurd (false≢true h)
step_spot spots c (Inode node) ends h =
    ⊎_elim (λ on. inl on) (λ end. inr (subst (λ (k : ℕ). contains nat_cmp spots k ≡ true) end ends.1))
    (step_in (spot_of node.ino node.offset) (spot_of node.ino (end_of (piece_of node))) c h)

spot_is : (i q : ℕ) (r : NodeRef) (node : InodeNode) → node.ino ≡ i → IsMountable r → q < 4294967296 → (is_for_same r (Inode node) && has_byte q r) ≡ covers_spot (spot_of i q) r
spot_is i q (Entry entry) node same fits small = refl
spot_is i q (Inode a) node same fits small =
    let end : end_of (piece_of a) < 4294967296 = fits in
    let start : a.offset < 4294967296 = omega (arith, end) in
    ap (λ (j : ℕ). (a.ino == j) && (nat_le a.offset q && nat_lt q (end_of (piece_of a)))) same ∙ spot_at a.ino i q a.offset (end_of (piece_of a)) start end small

version_is : (r : NodeRef) (node : InodeNode) → is_for_same r (Inode node) ≡ is_of node.ino r
version_is (Entry entry) node = refl
version_is (Inode a) node = refl

split_and : (a b : Bool) → (a && not b) ≡ true → (a ≡ true) × (b ≡ false)
split_and true false h = (refl, refl)
split_and true true h = absurd (false≢true h)
split_and false b h = absurd (false≢true h)

had : (a b : Bool) → a ≡ true → (a && not b) ≡ false → b ≡ true
had true true p q = refl
had true false p q = absurd (true≢false q)
had false b p q = absurd (false≢true p)

module _ (ns : List Placed) (spots : BTreeSet ℕ) (ends : All (λ n. HasEnds spots n.1) ns) (floor : ℕ) where
  next_had : (c : ℕ) → among ns floor (λ n. covers_spot c n.1) ≡ true → (among ns floor (λ n. covers_spot (c + 1) n.1) ≡ true) ⊎ (contains nat_cmp spots (c + 1) ≡ true)
  next_had c h =
      let found = any_from (λ (n : Placed). nat_le floor (node_rank n) && covers_spot c n.1) ns h in
      let parts = both_true (nat_le floor (node_rank found.0)) (covers_spot c found.0.1) found.2 in
      ⊎_elim
      (λ on. inl (any_of (λ (n : Placed). nat_le floor (node_rank n) && covers_spot (c + 1) n.1) ns found.0 found.1 (both (nat_le floor (node_rank found.0)) (covers_spot (c + 1) found.0.1) parts.0 on)))
      (λ end. inr end)
      (step_spot spots c found.0.1 (All-contains (λ (n : Placed). HasEnds spots n.1) ns found.0 ends found.1) parts.1)

  module _ (bare : BTreeSet ℕ) (are : (c : ℕ) → contains nat_cmp bare c ≡ (contains nat_cmp spots c && not (among ns floor (λ n. covers_spot c n.1)))) where
    spot_had : (c : ℕ) → contains nat_cmp spots c ≡ true → contains nat_cmp bare c ≡ false → among ns floor (λ n. covers_spot c n.1) ≡ true
    spot_had c there none = had (contains nat_cmp spots c) (among ns floor (λ n. covers_spot c n.1)) there (sym (are c) ∙ none)

    had_from : (from to : ℕ) → contains nat_cmp spots from ≡ true → ((c : ℕ) → from ≤ c → c < to → contains nat_cmp bare c ≡ false)
        → (n : ℕ) → from + n < to → among ns floor (λ m. covers_spot (from + n) m.1) ≡ true
    had_from from to there none zero less =
        let same : from ≡ from + zero = omega arith in
        subst (λ (c : ℕ). among ns floor (λ m. covers_spot c m.1) ≡ true) same (spot_had from there (none from (omega arith) (omega (arith, less))))
    had_from from to there none (suc n) less =
        let same : from + n + 1 ≡ from + suc n = omega arith in
        subst (λ (c : ℕ). among ns floor (λ m. covers_spot c m.1) ≡ true) same
        (⊎_elim (λ h. h) (λ end. spot_had (from + n + 1) end (none (from + n + 1) (omega arith) (omega (arith, less))))
        (next_had (from + n) (had_from from to there none n (omega (arith, less)))))

-- ---- keys of names

then_equal : (o p : Ordering) → is_eq (ordering_then o p) ≡ true → (o ≡ Equal) × (p ≡ Equal)
then_equal Less p h = absurd (cc)
then_equal Greater p h = absurd (cc)
then_equal Equal Less h = absurd (cc)
then_equal Equal Equal h = (refl, refl)
then_equal Equal Greater h = absurd (cc)

equal_then : (o p : Ordering) → o ≡ Equal → p ≡ Equal → is_eq (ordering_then o p) ≡ true
equal_then o p e d = λ i. is_eq (ordering_then (e i) (d i))

same_name : (key other : NameKey) (entry : Dirent) → key.0 ≡ entry.pino → cow_slice_items key.1 ≡ entry.name → is_eq (name_key_cmp key other) ≡ is_named other (Entry entry)
same_name key other entry number name =
    same_test (is_eq (name_key_cmp key other)) (is_named other (Entry entry))
    (λ h.
    let parts = then_equal (nat_cmp key.0 other.0) (slice_cmp nat_cmp (cow_slice_items key.1) (cow_slice_items other.1)) h in
    both (entry.pino == other.0) (bytes_eq entry.name (cow_slice_items other.1))
    (eq-eqb _ _ (sym number ∙ exact_unsigned key.0 other.0 parts.0))
    ((bytes_eq-Decides entry.name (cow_slice_items other.1)).1 (sym name ∙ exact_bytes (cow_slice_items key.1) (cow_slice_items other.1) parts.1)))
    (λ h.
    let parts = both_true (entry.pino == other.0) (bytes_eq entry.name (cow_slice_items other.1)) h in
    let numbers : key.0 ≡ other.0 = number ∙ eqb-true _ _ parts.0 in
    let names : cow_slice_items key.1 ≡ cow_slice_items other.1 = name ∙ (bytes_eq-Decides entry.name (cow_slice_items other.1)).0 parts.1 in
    equal_then (nat_cmp key.0 other.0) (slice_cmp nat_cmp (cow_slice_items key.1) (cow_slice_items other.1))
    (subst (λ (k : ℕ). nat_cmp key.0 k ≡ Equal) numbers (tied_itself nat_cmp_total key.0))
    (subst (λ (k : List ℕ). slice_cmp nat_cmp (cow_slice_items key.1) k ≡ Equal) names (tied_itself nat_list_cmp_total (cow_slice_items key.1))))

-- ---- one more

module _ (s : State) (ns : List Placed) (made : s ≡ state_of (without_addresses ns)) (ascending : AllPairs (λ m n. m.0 < n.0) ns) (small : All (λ n. n.0 < 4294967296) ns)
    (fit : AreMountable ns) (spots : BTreeSet ℕ) (ends : All (λ n. HasEnds spots n.1) ns) (reached : ℕ → Bool) (floor : ℕ) (old new : Taken) (knows : KnowsTaken ns reached spots floor old) where
  module _ (addr : ℕ) (node : InodeNode) (next : IsNext ns floor (addr, Inode node)) where
    abbrev x : Placed
    x = (addr, Inode node)

    abbrev size : ℕ
    size = latest_size ns node.ino

    newest_inode : is_newest ns x ≡ not (contains nat_cmp old.numbers node.ino)
    newest_inode =
        newest_is ns ascending small floor x next
        ∙ ap not (among_same ns floor (λ m. is_for_same m.1 (Inode node)) (λ m. is_of node.ino m.1) (λ m c. version_is m.1 node) ∙ sym (knows.numbers node.ino))

    own : HasEnds spots (Inode node)
    own = All-contains (λ (n : Placed). HasEnds spots n.1) ns x ends next.there

    end : end_of (piece_of node) < 4294967296
    end = fit x next.there

    shown_is : (p : ℕ) → p < 4294967296 → shows_at ns x p ≡ (covers p (piece_of node) && not (among ns floor (λ m. covers_spot (spot_of node.ino p) m.1)))
    shown_is p less =
        ap (λ (b : Bool). covers p (piece_of node) && not b)
        (counted ns ascending small floor x next (λ m. has_byte p m.1)
        ∙ among_same ns floor (λ m. is_for_same m.1 (Inode node) && has_byte p m.1) (λ m. covers_spot (spot_of node.ino p) m.1) (λ m c. spot_is node.ino p m.1 node refl (fit m c) less))

    shows_is : (says : Bool) → SaysBare old.bare (spot_of node.ino node.offset) (spot_of node.ino (min (end_of (piece_of node)) size)) says → shows ns size x ≡ says
    shows_is true is =
        let found = is.yes refl in
        let c : ℕ = found.0 in
        let p : ℕ = c - node.ino * 4294967296 in
        let low : spot_of node.ino node.offset ≤ c = found.1 in
        let high : c < spot_of node.ino (min (end_of (piece_of node)) size) = found.2 in
        let at : c ≡ spot_of node.ino p = omega (arith, low) in
        let from : node.offset ≤ p = omega (arith, low, high) in
        let to : p < end_of (piece_of node) = omega (arith, low, high) in
        let below_size : p < size = omega (arith, low, high) in
        let over : covers p (piece_of node) ≡ true = both (nat_le node.offset p) (nat_lt p (end_of (piece_of node))) (le-leb _ _ from) (lt-ltb _ _ to) in
        let free = (split_and (contains nat_cmp spots c) (among ns floor (λ m. covers_spot c m.1)) (sym (knows.bare c) ∙ found.3)).1 in
        any_of (shows_at ns x) (below size) p (Contains-below size p below_size)
        (shown_is p (omega (arith, to, end))
        ∙ both (covers p (piece_of node)) (not (among ns floor (λ m. covers_spot (spot_of node.ino p) m.1))) over
        (ap not (subst (λ (k : ℕ). among ns floor (λ m. covers_spot k m.1) ≡ false) at free)))
    shows_is false is =
        none_any (shows_at ns x) (below size)
        (λ p c.
        let less : p < size = Contains-below_from size p c in
        by_test (covers p (piece_of node))
        (λ over.
        let parts = both_true (nat_le node.offset p) (nat_lt p (end_of (piece_of node))) over in
        let from : node.offset ≤ p = leb-true _ _ parts.0 in
        let to : p < end_of (piece_of node) = ltb-true _ _ parts.1 in
        let same : spot_of node.ino node.offset + (p - node.offset) ≡ spot_of node.ino p = omega (arith, from) in
        let before : spot_of node.ino node.offset + (p - node.offset) < spot_of node.ino (min (end_of (piece_of node)) size) = omega (arith, same, less, to) in
        let taken = had_from ns spots ends floor old.bare knows.bare (spot_of node.ino node.offset) (spot_of node.ino (min (end_of (piece_of node)) size)) own.0 (is.no refl) (p - node.offset) before in
        shown_is p (omega (arith, to, end))
        ∙ ap (λ (b : Bool). covers p (piece_of node) && not b) (subst (λ (k : ℕ). among ns floor (λ m. covers_spot k m.1) ≡ true) same taken)
        ∙ and_false (covers p (piece_of node)))
        (λ out. ap (λ (b : Bool). b && not (list_any (λ m. counts_above m x && has_byte p m.1) ns)) out))

    bare_more : (a b c : Bool) → ((a && not c) && not b) ≡ (a && not (b || c))
    bare_more true true true = refl
    bare_more true true false = refl
    bare_more true false true = refl
    bare_more true false false = refl
    bare_more false b c = refl

    pub knows_inode : TakesInode s reached addr node old new → KnowsTaken ns reached spots (node_rank x) new
    knows_inode t =
        let sized : SaysBare old.bare (spot_of node.ino node.offset) (spot_of node.ino (min (end_of (piece_of node)) size)) t.shows =
        subst (λ (k : ℕ). SaysBare old.bare (spot_of node.ino node.offset) (spot_of node.ino (min (end_of (piece_of node)) k)) t.shows) (size_made s ns made node.ino) t.says in
        let counts : (reached node.ino && (not (contains nat_cmp old.numbers node.ino) || t.shows)) ≡ matters ns reached x = λ i. reached node.ino && (sym newest_inode i || sym (shows_is t.shows sized) i) in
        record {
          bare = λ c.
              t.bare c
              ∙ ap (λ (b : Bool). b && not (covers_spot c (Inode node))) (knows.bare c)
              ∙ bare_more (contains nat_cmp spots c) (covers_spot c (Inode node)) (among ns floor (λ n. covers_spot c n.1))
              ∙ ap (λ (b : Bool). contains nat_cmp spots c && not b) (sym (among_more ns ascending small floor x next (λ n. covers_spot c n.1)));
          numbers = λ i.
              t.numbers i
              ∙ ap (λ (b : Bool). b || contains nat_cmp old.numbers i) (and_true (node.ino == i))
              ∙ ap (λ (b : Bool). (node.ino == i) || b) (knows.numbers i)
              ∙ sym (among_more ns ascending small floor x next (λ n. is_of i n.1));
          names = λ key.
              ap (λ (ks : BTreeSet NameKey). contains name_key_cmp ks key) t.names ∙ knows.names key ∙ sym (among_more ns ascending small floor x next (λ n. is_named key n.1));
          kept = λ a.
              t.kept a
              ∙ ap (λ (b : Bool). ((addr == a) && b) || contains nat_cmp old.kept a) counts
              ∙ ap (λ (b : Bool). ((addr == a) && matters ns reached x) || b) (knows.kept a)
              ∙ sym (among_more ns ascending small floor x next (λ n. (n.0 == a) && matters ns reached n));
        }

  module _ (addr : ℕ) (entry : Dirent) (next : IsNext ns floor (addr, Entry entry)) where
    abbrev y : Placed
    y = (addr, Entry entry)

    named_is : (key : NameKey) (r : NodeRef) → key.0 ≡ entry.pino → cow_slice_items key.1 ≡ entry.name → is_named key r ≡ is_for_same r (Entry entry)
    named_is key (Inode node) number name = refl
    named_is key (Entry a) number name = λ i. (a.pino == number i) && bytes_eq a.name (name i)

    newest_entry : (key : NameKey) → key.0 ≡ entry.pino → cow_slice_items key.1 ≡ entry.name → is_newest ns y ≡ not (contains name_key_cmp old.names key)
    newest_entry key number name =
        newest_is ns ascending small floor y next
        ∙ ap not (among_same ns floor (λ m. is_for_same m.1 (Entry entry)) (λ m. is_named key m.1) (λ m c. sym (named_is key m.1 number name)) ∙ sym (knows.names key))

    pub knows_entry : TakesEntry s reached addr entry old new → KnowsTaken ns reached spots (node_rank y) new
    knows_entry t =
        let leads : stands s reached entry ≡ (not (entry.ino == 0) && (reached entry.pino && (is_folder ns entry.pino && is_object ns entry.ino))) = λ i.
        not (entry.ino == 0) && (reached entry.pino && (folder_made s ns made entry.pino i && there_made s ns made entry.ino i)) in
        let counts : (not (contains name_key_cmp old.names t.key) && stands s reached entry) ≡ matters ns reached y = λ i. sym (newest_entry t.key t.number t.name) i && leads i in
        record {
          bare = λ c. ap (λ (k : BTreeSet ℕ). contains nat_cmp k c) t.bare ∙ knows.bare c ∙ ap (λ (b : Bool). contains nat_cmp spots c && not b) (sym (among_more ns ascending small floor y next (λ n. covers_spot c n.1)));
          numbers = λ i. ap (λ (k : BTreeSet ℕ). contains nat_cmp k i) t.numbers ∙ knows.numbers i ∙ sym (among_more ns ascending small floor y next (λ n. is_of i n.1));
          names = λ key.
              t.names key
              ∙ ap (λ (b : Bool). b || contains name_key_cmp old.names key) (same_name t.key key entry t.number t.name)
              ∙ ap (λ (b : Bool). is_named key (Entry entry) || b) (knows.names key)
              ∙ sym (among_more ns ascending small floor y next (λ n. is_named key n.1));
          kept = λ a.
              t.kept a
              ∙ ap (λ (b : Bool). ((addr == a) && b) || contains nat_cmp old.kept a) counts
              ∙ ap (λ (b : Bool). ((addr == a) && matters ns reached y) || b) (knows.kept a)
              ∙ sym (among_more ns ascending small floor y next (λ n. (n.0 == a) && matters ns reached n));
        }

  pub knows_node : (n : Placed) → IsNext ns floor n → TakesNode s reached n old new → KnowsTaken ns reached spots (node_rank n) new
  knows_node (addr, Inode node) next t = knows_inode addr node next t
  knows_node (addr, Entry entry) next t = knows_entry addr entry next t

-- ---- calls

abbrev pub AddsOne : BTreeSet ℕ → BTreeSet ℕ → ℕ → Type 0
AddsOne old new k = (q : ℕ) → contains nat_cmp new q ≡ cond (eq_by_cmp nat_cmp k q) true (contains nat_cmp old q)

adds_it : (old new : BTreeSet ℕ) (k : ℕ) → AddsOne old new k → AddsIf old new k true
adds_it old new k adds i =
    adds i ∙ ap (λ (t : Bool). cond t true (contains nat_cmp old i)) (unsigned_tied k i) ∙ either (k == i) (contains nat_cmp old i)
    ∙ ap (λ (b : Bool). b || contains nat_cmp old i) (sym (and_true (k == i)))
  where
    either : (b x : Bool) → cond b true x ≡ (b || x)
    either true x = refl
    either false x = refl

pub says_at : (bare : BTreeSet ℕ) (from to first last : ℕ) (says : Bool) → from ≡ first → to ≡ last → SaysBare bare from to says → SaysBare bare first last says
says_at bare from to first last says e d is = subst (λ (k : ℕ). SaysBare bare first k says) d (subst (λ (k : ℕ). SaysBare bare k to says) e is)

pub takes_inode : (s : State) (reached : ℕ → Bool) (addr : ℕ) (node : InodeNode) (old new : Taken) (from last to : ℕ) (shows counts : Bool) → from ≡ spot_of node.ino node.offset
    → last ≡ spot_of node.ino (min (end_of (piece_of node)) (size_there s node.ino)) → to ≡ spot_of node.ino (end_of (piece_of node)) → SaysBare old.bare from last shows
    → ((c : ℕ) → contains nat_cmp new.bare c ≡ (contains nat_cmp old.bare c && not (nat_le from c && nat_lt c to))) → AddsOne old.numbers new.numbers node.ino → new.names ≡ old.names
    → AddsIf old.kept new.kept addr counts → counts ≡ (reached node.ino && (not (contains nat_cmp old.numbers node.ino) || shows)) → TakesInode s reached addr node old new
takes_inode s reached addr node old new from last to shows counts begins stops ends says bare numbers names kept is = record {
  shows = shows;
  says = says_at old.bare from last (spot_of node.ino node.offset) (spot_of node.ino (min (end_of (piece_of node)) (size_there s node.ino))) shows begins stops says;
  bare = λ c. bare c ∙ λ i. contains nat_cmp old.bare c && not (nat_le (begins i) c && nat_lt c (ends i));
  numbers = adds_it old.numbers new.numbers node.ino numbers;
  names = names;
  kept = λ a. kept a ∙ ap (λ (b : Bool). ((addr == a) && b) || contains nat_cmp old.kept a) is;
}

abbrev pub AddsName : BTreeSet NameKey → BTreeSet NameKey → NameKey → Type 0
AddsName old new k = (q : NameKey) → contains name_key_cmp new q ≡ cond (is_eq (name_key_cmp k q)) true (contains name_key_cmp old q)

pub takes_entry : (s : State) (reached : ℕ → Bool) (addr : ℕ) (entry : Dirent) (old new : Taken) (key : NameKey) (counts : Bool) → key.0 ≡ entry.pino → cow_slice_items key.1 ≡ entry.name
    → new.bare ≡ old.bare → new.numbers ≡ old.numbers → AddsName old.names new.names key → AddsIf old.kept new.kept addr counts
    → counts ≡ (not (contains name_key_cmp old.names key) && stands s reached entry) → TakesEntry s reached addr entry old new
takes_entry s reached addr entry old new key counts number name bare numbers names kept is = record {
  key = key;
  number = number;
  name = name;
  bare = bare;
  numbers = numbers;
  names = λ other. names other ∙ either (is_eq (name_key_cmp key other)) (contains name_key_cmp old.names other);
  kept = λ a. kept a ∙ ap (λ (b : Bool). ((addr == a) && b) || contains nat_cmp old.kept a) is;
}
  where
    either : (b x : Bool) → cond b true x ≡ (b || x)
    either true x = refl
    either false x = refl
