-- Each node that matters would be missed.
use Rattle.std.proofs.Common.{◌≡◌, ◌≢◌, ℕ, suc, ◌+◌, ◌-◌, ◌<◌, ◌≤◌, Bool, true, false, List, ◌∷◌, ◌++◌, length, map, get_or, replicate, Option, Some, None, refl, ap, sym, subst, ◌∙◌, arith, inl, inr, ⊎_elim}
use Rattle.std.specs.Prelude.{◌⊎◌, ◌&&◌, ◌||◌, ◌==◌, nat_lt, nat_le, not, filter, option_map, slice_index, Contains, if◌then◌else◌}
use Rattle.std.specs.List.{AllPairs, list_any}
use Rattle.std.proofs.lemmas.Bool.{true≢false, false≢true, eqb-true, eqb-false, eq-eqb, ltb-true, ltb-false, lt-ltb, leb-true}
use Rattle.std.proofs.lemmas.Option.{same_Some}
use Rattle.std.proofs.lemmas.List.{get_or_append_left, get_or-append-add, get_or-replicate, length-append, length-replicate}
use Rattle.std.proofs.lemmas.List.Elements.{Contains-append_left, Contains-append_right, Contains-append_cases}
use Rattle.flashbase.specs.Lists.{below, newest}
use Rattle.flashbase.proofs.ListLemmas.{newest_is_newest, newest_of_none}
use Rattle.flashbase.proofs.MemberLemmas.{Contains-none, Contains-here, Contains-there, Contains-cases, Contains-map, Contains-map_from, Contains-filter, Contains-filter_from, Contains-below_from}
use Rattle.jnode.specs.Writing.{HoldsRange}
use Rattle.jnode.specs.declared.node.Dirent.{Dirent}
use Rattle.jnode.specs.declared.node.Fill.{Fill}
use Rattle.jnode.specs.declared.node.Fill.TheVariants as fill
use Rattle.jnode.specs.declared.node.InodeNode.{InodeNode}
use Rattle.jnode.specs.declared.node.NodeRef.TheVariants.{Entry, Inode}
use Rattle.jfrag.specs.declared.piece.Piece.{Piece}
use Rattle.jfrag.specs.Pieces.{body_len, byte_of, covers}
use Rattle.jfrag.specs.Overlays.{byte_at, visible}
use Rattle.jfrag.proofs.OverlaysLemmas.{content_is_visible}
use Rattle.jname.specs.Live.{Key, is_at, key_of, live}
use Rattle.jname.proofs.ContentsByNameLemmas.{by_test}
use Rattle.jname.proofs.LiveLemmas.{both_true}
use Rattle.jmount.specs.Clash.{NoneClash}
use Rattle.jmount.specs.Collected.{without_addresses}
use Rattle.jmount.specs.StateOf.{body_of, entries, inode_in, inodes, latest, object_by, object_of, or_root, piece_of, state_of, version_of, versions_of}
use Rattle.jmount.specs.Tree.{ObjectOf, named, object}
use Rattle.jmount.proofs.NumbersLemmas.{object-state_of, named-state_of}
use Rattle.jmount.proofs.ObjectsLemmas.{in_versions, of_versions}
use Rattle.jmount.proofs.StateLemmas.{one_field, versions-AreVersions}
use Rattle.jcompact.specs.Laws.{HasRangeOf}
use Rattle.jcompact.specs.Matters.{Placed, counts_above, has_byte, is_above, is_folder, is_newest, is_object, latest_size, matters, shows, shows_at, size_if}
use Rattle.jcompact.proofs.NameLemmas.{live_entry, newest_live, own_key}
use Rattle.jcompact.proofs.ObjectLemmas.{at_inode, inode_at, inodes_apart}
use Rattle.jcompact.proofs.StillLemmas.{some_number}
use Rattle.jcompact.proofs.TopLemmas.{above_cases, any_from, any_of, both, left_or, none_any, none_of, not_true, right_or}

-- ---- the only one that is so high

newest_alone : {X : Type 0} (version : X → ℕ) (xs : List X) (x : X) → Contains xs x → ((y : X) → Contains xs y → version x ≤ version y → y ≡ x) → newest version xs ≡ Some x
newest_alone {X} version xs x c only = by (newest version xs) refl
  where
    by : (o : Option X) → newest version xs ≡ o → newest version xs ≡ Some x
    by None e = absurd (Contains-none x (subst (λ (ys : List X). Contains ys x) (newest_of_none xs version e) c))
    by (Some y) e = let is = newest_is_newest xs version y e in e ∙ ap Some (only y is.0 (is.1 x c))

-- ---- between others

in_between : {X : Type 0} (front back : List X) (x y : X) → Contains (front ++ back) y → Contains (front ++ x ∷ back) y
in_between front back x y c =
    ⊎_elim
    (λ first. Contains-append_left front (x ∷ back) y first)
    (λ last. Contains-append_right front (x ∷ back) y (Contains-there x back y last))
    (Contains-append_cases front back y c)

itself_between : {X : Type 0} (front back : List X) (x : X) → Contains (front ++ x ∷ back) x
itself_between front back x = Contains-append_right front (x ∷ back) x (Contains-here x back)

cases_between : {X : Type 0} (front back : List X) (x y : X) → Contains (front ++ x ∷ back) y → (x ≡ y) ⊎ Contains (front ++ back) y
cases_between front back x y c =
    ⊎_elim
    (λ first. inr (Contains-append_left front back y first))
    (λ last. ⊎_elim (λ same. inl same) (λ after. inr (Contains-append_right front back y after)) (Contains-cases x back y last))
    (Contains-append_cases front (x ∷ back) y c)

-- where addresses ascend, the others have other addresses
module _ (front back : List Placed) (n : Placed) (up : AllPairs (λ a b. a.0 < b.0) (front ++ n ∷ back)) where
  first_below : (m : Placed) → Contains front m → m.0 < n.0
  first_below m (k, within, at_k) =
      let long = length-append front (n ∷ back) in
      let less = up k (length front + 0) m (omega (arith, within)) (omega (arith, long)) in
      let first : (get_or (front ++ n ∷ back) k m).0 ≡ m.0 = ap (λ (x : Placed). x.0) (get_or_append_left front (n ∷ back) m k within ∙ at_k) in
      let last : (get_or (front ++ n ∷ back) (length front + 0) m).0 ≡ n.0 = ap (λ (x : Placed). x.0) (get_or-append-add front (n ∷ back) 0 m) in
      omega (arith, less, first, last)

  last_above : (m : Placed) → Contains back m → n.0 < m.0
  last_above m (k, within, at_k) =
      let long = length-append front (n ∷ back) in
      let less = up (length front + 0) (length front + (suc k)) m (omega arith) (omega (arith, long, within)) in
      let first : (get_or (front ++ n ∷ back) (length front + 0) m).0 ≡ n.0 = ap (λ (x : Placed). x.0) (get_or-append-add front (n ∷ back) 0 m) in
      let last : (get_or (front ++ n ∷ back) (length front + (suc k)) m).0 ≡ m.0 = ap (λ (x : Placed). x.0) (get_or-append-add front (n ∷ back) (suc k) m ∙ at_k) in
      omega (arith, less, first, last)

  apart_by_address : (m : Placed) → Contains (front ++ back) m → (m.0 < n.0) ⊎ (n.0 < m.0)
  apart_by_address m c = ⊎_elim (λ first. inl (first_below m first)) (λ last. inr (last_above m last)) (Contains-append_cases front back m c)

-- one of two nodes of unlike addresses is above the other
above_by_version : (m n : Placed) → version_of n.1 < version_of m.1 → is_above m n ≡ true
above_by_version m n less = left_or (nat_lt (version_of n.1) (version_of m.1)) ((version_of m.1 == version_of n.1) && nat_lt n.0 m.0) (lt-ltb _ _ less)

above_by_address : (m n : Placed) → version_of m.1 ≡ version_of n.1 → n.0 < m.0 → is_above m n ≡ true
above_by_address m n same less =
    right_or (nat_lt (version_of n.1) (version_of m.1)) ((version_of m.1 == version_of n.1) && nat_lt n.0 m.0)
    (both (version_of m.1 == version_of n.1) (nat_lt n.0 m.0) (eq-eqb _ _ same) (lt-ltb _ _ less))

one_above : (m n : Placed) → (m.0 < n.0) ⊎ (n.0 < m.0) → (is_above m n ≡ true) ⊎ (is_above n m ≡ true)
one_above m n apart =
    by_test (nat_lt (version_of n.1) (version_of m.1))
    (λ high. inl (above_by_version m n (ltb-true _ _ high)))
    (λ low.
    by_test (nat_lt (version_of m.1) (version_of n.1))
    (λ high. inr (above_by_version n m (ltb-true _ _ high)))
    (λ most.
    let down = ltb-false _ _ low in
    let up = ltb-false _ _ most in
    let same : version_of m.1 ≡ version_of n.1 = omega (arith, down, up) in
    ⊎_elim (λ less. inr (above_by_address n m (sym same) less)) (λ more. inl (above_by_address m n same more)) apart))

not_newest : (xs : List Placed) (m n : Placed) → Contains xs m → counts_above m n ≡ true → is_newest xs n ≡ true → ⊥
not_newest xs m n c up newest_it = true≢false (sym up ∙ none_of (λ (x : Placed). counts_above x n) xs (not_true (list_any (λ (x : Placed). counts_above x n) xs) newest_it) m c)

-- ---- an entry

module _ (front back : List Placed) (addr : ℕ) (entry : Dirent) (apart : NoneClash (without_addresses (front ++ (addr, Entry entry) ∷ back)))
    (up : AllPairs (λ a b. a.0 < b.0) (front ++ (addr, Entry entry) ∷ back)) (reached : ℕ → Bool)
    (all : (m : Placed) → Contains (front ++ (addr, Entry entry) ∷ back) m → matters (front ++ (addr, Entry entry) ∷ back) reached m ≡ true) where
  abbrev entry_placed : Placed
  entry_placed = (addr, Entry entry)

  abbrev with_entry : List Placed
  with_entry = front ++ entry_placed ∷ back

  newest_entry : (a : ℕ) (x : Dirent) → Contains with_entry (a, Entry x) → is_newest with_entry (a, Entry x) ≡ true
  newest_entry a x c =
      (both_true (is_newest with_entry (a, Entry x)) (not (x.ino == 0) && (reached x.pino && (is_folder with_entry x.pino && is_object with_entry x.ino))) (all (a, Entry x) c)).0

  pub leads : named (state_of (without_addresses with_entry)) entry.pino entry.name ≡ Some entry.ino
  leads =
      let here = itself_between front back entry_placed in
      let parts = both_true (is_newest with_entry entry_placed) (not (entry.ino == 0) && (reached entry.pino && (is_folder with_entry entry.pino && is_object with_entry entry.ino))) (all entry_placed here) in
      let more = both_true (not (entry.ino == 0)) (reached entry.pino && (is_folder with_entry entry.pino && is_object with_entry entry.ino)) parts.1 in
      named-state_of (without_addresses with_entry) entry.pino entry.name ∙ newest_live with_entry addr entry apart here parts.0 ∙ some_number entry.ino (entry.ino == 0) more.0

  another_entry : (a : ℕ) (x : Dirent) → Contains (front ++ back) (a, Entry x) → key_of x ≡ key_of entry → ⊥
  another_entry a x c same =
      let there = in_between front back entry_placed (a, Entry x) c in
      let here = itself_between front back entry_placed in
      let own : is_at (key_of entry) entry ≡ true = own_key entry in
      let to_it : is_at (key_of entry) x ≡ true = subst (λ (k : Key). is_at k x ≡ true) same (own_key x) in
      let from_it : is_at (key_of x) entry ≡ true = subst (λ (k : Key). is_at k entry ≡ true) (sym same) own in
      ⊎_elim
      (λ higher. not_newest with_entry (a, Entry x) entry_placed there (both (is_at (key_of entry) x) (is_above (a, Entry x) entry_placed) to_it higher) (newest_entry addr entry here))
      (λ lower. not_newest with_entry entry_placed (a, Entry x) here (both (is_at (key_of x) entry) (is_above entry_placed (a, Entry x)) from_it lower) (newest_entry a x there))
      (one_above (a, Entry x) entry_placed (apart_by_address front back entry_placed up (a, Entry x) c))

  pub nowhere : named (state_of (without_addresses (front ++ back))) entry.pino entry.name ≡ None
  nowhere = named-state_of (without_addresses (front ++ back)) entry.pino entry.name ∙ by (live (entries (without_addresses (front ++ back))) (key_of entry)) refl
    where
      by : (o : Option ℕ) → live (entries (without_addresses (front ++ back))) (key_of entry) ≡ o → live (entries (without_addresses (front ++ back))) (key_of entry) ≡ None
      by None e = e
      by (Some j) e = let other = live_entry (front ++ back) (key_of entry) j e in absurd (another_entry other.0 other.1 other.2.there other.2.key_is)

-- ---- an inode node

-- a number that is not this one
abbrev another : ℕ → ℕ
another n = if n == 0 then 1 else 0

is_another : (n : ℕ) → another n ≢ n
is_another n = by (n == 0) refl
  where
    by : (b : Bool) → (n == 0) ≡ b → (if b then 1 else 0) ≢ n
    by true e same = let zero_is : n ≡ 0 = eqb-true n 0 e in absurd (omega (arith, same, zero_is))
    by false e same = eqb-false n 0 e (sym same)

abbrev uid_of : Option (ObjectOf (List ℕ)) → ℕ
uid_of None = 0
uid_of (Some o) = o.uid

abbrev byte_in : ℕ → Option (ObjectOf (List ℕ)) → ℕ
byte_in place None = 0
byte_in place (Some o) = slice_index o.body place

holds : (f : Fill) (dsize : ℕ) → HoldsRange f dsize → body_len (body_of dsize f) ≡ dsize
holds fill.Zero dsize h = refl
holds (fill.Data bytes) dsize h = h

inode_is : (a b : ℕ) (x y : InodeNode) → ◌≡◌ {A = Placed} (a, Inode x) (b, Inode y) → x ≡ y
inode_is a b x y same = same_Some x y (ap (λ (p : Placed). inode_in p.1) same)

module _ (front back : List Placed) (addr : ℕ) (node : InodeNode) (apart : NoneClash (without_addresses (front ++ (addr, Inode node) ∷ back)))
    (up : AllPairs (λ a b. a.0 < b.0) (front ++ (addr, Inode node) ∷ back)) (reached : ℕ → Bool)
    (all : (m : Placed) → Contains (front ++ (addr, Inode node) ∷ back) m → matters (front ++ (addr, Inode node) ∷ back) reached m ≡ true) where
  abbrev placed : Placed
  placed = (addr, Inode node)

  abbrev ks : List Placed
  ks = front ++ placed ∷ back

  here : Contains ks placed
  here = itself_between front back placed

  -- of two equal nodes the lower one does not matter
  module _ (low high : ℕ) (c : Contains ks (high, Inode node)) (less : low < high) where
    abbrev lower : Placed
    lower = (low, Inode node)

    covered : counts_above (high, Inode node) lower ≡ true
    covered = both (node.ino == node.ino) (is_above (high, Inode node) lower) (eq-eqb _ _ refl) (above_by_address (high, Inode node) lower refl less)

    hidden_at : (place : ℕ) → shows_at ks lower place ≡ false
    hidden_at place = by (has_byte place (Inode node)) refl
      where
        by : (b : Bool) → has_byte place (Inode node) ≡ b → (b && not (list_any (λ (m : Placed). counts_above m lower && has_byte place m.1) ks)) ≡ false
        by true over = ap not (any_of (λ (m : Placed). counts_above m lower && has_byte place m.1) ks (high, Inode node) c (both (counts_above (high, Inode node) lower) (has_byte place (Inode node)) covered over))
        by false out = refl

    idle : matters ks reached lower ≡ false
    idle =
        none_of_both (reached node.ino) (is_newest ks lower) (shows ks (latest_size ks node.ino) lower)
        (ap not (any_of (λ (m : Placed). counts_above m lower) ks (high, Inode node) c covered))
        (none_any (shows_at ks lower) (below (latest_size ks node.ino)) (λ place d. hidden_at place))
      where
        none_of_both : (r a b : Bool) → a ≡ false → b ≡ false → (r && (a || b)) ≡ false
        none_of_both true a b e f = ap (λ (x : Bool). x || b) e ∙ f
        none_of_both false a b e f = refl

  -- so the others of the object are of other versions
  own_version : (a : ℕ) (y : InodeNode) → Contains (front ++ back) (a, Inode y) → y.ino ≡ node.ino → y.version ≡ node.version → ⊥
  own_version a y c number version =
      let there : Contains ks (a, Inode y) = in_between front back placed (a, Inode y) c in
      apart (Inode y) (Inode node) (Contains-map (λ (m : Placed). m.1) ks (a, Inode y) there) (Contains-map (λ (m : Placed). m.1) ks placed here)
      (record {
        ino = number;
        version = version;
        contents = λ (e : y ≡ node).
            let twin : Contains ks (a, Inode node) = subst (λ (x : InodeNode). Contains ks (a, Inode x)) e there in
            ⊎_elim
            (λ (less : a < addr). true≢false (sym (all (a, Inode node) twin) ∙ idle a addr here less))
            (λ (more : addr < a). true≢false (sym (all placed here) ∙ idle addr a twin more))
            (apart_by_address front back placed up (a, Inode y) c);
      })

  -- and one that is not older counts more
  counts : (a : ℕ) (y : InodeNode) → Contains (front ++ back) (a, Inode y) → y.ino ≡ node.ino → node.version ≤ y.version → counts_above (a, Inode y) placed ≡ true
  counts a y c number high =
      both (y.ino == node.ino) (is_above (a, Inode y) placed) (eq-eqb _ _ number)
      (by_test (nat_lt node.version y.version)
      (λ more. above_by_version (a, Inode y) placed (ltb-true _ _ more))
      (λ most. let least = ltb-false _ _ most in absurd (own_version a y c number (omega (arith, high, least)))))

  -- ---- with a node of its number and version in its place

  abbrev with_node : InodeNode → List InodeNode
  with_node x = inodes (without_addresses (front ++ (addr, Inode x) ∷ back))

  abbrev versions : InodeNode → List InodeNode
  versions x = versions_of (with_node x) node.ino

  pub record IsElsewhere (y : InodeNode) : Type 0 where
    pub addr_of : ℕ
    pub there : Contains (front ++ back) (addr_of, Inode y)
    pub number : y.ino ≡ node.ino

  in_versions_elsewhere : (x y : InodeNode) → IsElsewhere y → Contains (versions x) y
  in_versions_elsewhere x y at =
      in_versions (with_node x) node.ino y
      (at_inode (front ++ (addr, Inode x) ∷ back) at.addr_of y (in_between front back (addr, Inode x) (at.addr_of, Inode y) at.there)) at.number

  module _ (x : InodeNode) (number : x.ino ≡ node.ino) (version : x.version ≡ node.version) where
    itself : Contains (versions x) x
    itself = in_versions (with_node x) node.ino x (at_inode (front ++ (addr, Inode x) ∷ back) addr x (itself_between front back (addr, Inode x))) number

    version_cases : (y : InodeNode) → Contains (versions x) y → (y ≡ x) ⊎ IsElsewhere y
    version_cases y c =
        let found = of_versions (with_node x) node.ino y c in
        let at = inode_at (front ++ (addr, Inode x) ∷ back) y found.0 in
        ⊎_elim
        (λ same. inl (sym (inode_is addr at.0 x y same)))
        (λ elsewhere. inr (record { addr_of = at.0; there = elsewhere; number = found.1 }))
        (cases_between front back (addr, Inode x) (at.0, Inode y) at.1)

    uid_is : is_newest ks placed ≡ true → uid_of (object_of (with_node x) node.ino) ≡ x.uid
    uid_is h =
        ap (λ (o : Option InodeNode). uid_of (or_root node.ino (option_map (object_by (versions x)) o)))
        (newest_alone (λ (v : InodeNode). v.version) (versions x) x itself
        (λ y c high.
        ⊎_elim
        (λ same. same)
        (λ (at : IsElsewhere y).
        absurd
        (not_newest ks (at.addr_of, Inode y) placed (in_between front back placed (at.addr_of, Inode y) at.there)
        (counts at.addr_of y at.there at.number (omega (arith, high, version))) h))
        (version_cases y c)))

    -- where it shows a byte
    module _ (place : ℕ) (over : covers place (piece_of x) ≡ true) (bare : list_any (λ (m : Placed). counts_above m placed && has_byte place m.1) ks ≡ false) where
      visible_is : visible (map piece_of (versions x)) place ≡ Some (x.version, byte_of place (piece_of x))
      visible_is =
          ap (option_map (λ (p : Piece). (p.version, byte_of place p)))
          (newest_alone (λ (p : Piece). p.version) (filter (covers place) (map piece_of (versions x))) (piece_of x)
          (Contains-filter (covers place) (map piece_of (versions x)) (piece_of x) over (Contains-map piece_of (versions x) x itself))
          (λ p c high.
          let found = Contains-filter_from (covers place) (map piece_of (versions x)) p c in
          let of_it = Contains-map_from piece_of (versions x) p found.0 in
          let y : InodeNode = of_it.0 in
          let same_version : y.version ≡ p.version = ap (λ (q : Piece). q.version) of_it.2 in
          let covering : has_byte place (Inode y) ≡ true = ap (covers place) of_it.2 ∙ found.1 in
          ⊎_elim
          (λ (same : y ≡ x). sym of_it.2 ∙ ap piece_of same)
          (λ (at : IsElsewhere y).
          absurd
          (true≢false
          (sym (both (counts_above (at.addr_of, Inode y) placed) (has_byte place (Inode y)) (counts at.addr_of y at.there at.number (omega (arith, high, version, same_version))) covering)
          ∙ none_of (λ (m : Placed). counts_above m placed && has_byte place m.1) ks bare (at.addr_of, Inode y) (in_between front back placed (at.addr_of, Inode y) at.there))))
          (version_cases y of_it.1)))

  -- ---- where another version is newer

  module _ (o : InodeNode) (at_o : IsElsewhere o) (above : node.version < o.version) where
    latest_elsewhere : (x : InodeNode) → x.ino ≡ node.ino → x.version ≡ node.version → (w : InodeNode) → latest (versions x) ≡ Some w → IsElsewhere w
    latest_elsewhere x number version w e =
        let is = newest_is_newest (versions x) (λ (v : InodeNode). v.version) w e in
        let high : o.version ≤ w.version = is.1 o (in_versions_elsewhere x o at_o) in
        ⊎_elim
        (λ (same : w ≡ x). let equal : w.version ≡ x.version = ap (λ (v : InodeNode). v.version) same in absurd (omega (arith, high, above, version, equal)))
        (λ at. at)
        (version_cases x number version w is.0)

    same_size : (x : InodeNode) → x.ino ≡ node.ino → x.version ≡ node.version → (w : InodeNode) → latest (versions x) ≡ Some w → latest_size ks node.ino ≡ w.isize
    same_size x number version w e = by (latest (versions node)) refl
      where
        by : (p : Option InodeNode) → latest (versions node) ≡ p → latest_size ks node.ino ≡ w.isize
        by None f =
            absurd (Contains-none node (subst (λ (vs : List InodeNode). Contains vs node) (newest_of_none (versions node) (λ (v : InodeNode). v.version) f) (itself node refl refl)))
        by (Some k) f =
            let is_k = newest_is_newest (versions node) (λ (v : InodeNode). v.version) k f in
            let is_w = newest_is_newest (versions x) (λ (v : InodeNode). v.version) w e in
            let w_there = in_versions_elsewhere node w (latest_elsewhere x number version w e) in
            let high : w.version ≤ k.version = is_k.1 w w_there in
            let low : k.version ≤ w.version = is_w.1 k (in_versions_elsewhere x k (latest_elsewhere node refl refl k f)) in
            ap size_if f
            ∙ one_field node.ino (versions node) (versions-AreVersions (with_node node) node.ino (inodes_apart ks apart)) k w is_k.0 w_there (omega (arith, high, low)) (λ (v : InodeNode). v.isize)

    byte_is : (x : InodeNode) → x.ino ≡ node.ino → x.version ≡ node.version → (place : ℕ) → place < latest_size ks node.ino → covers place (piece_of x) ≡ true
        → list_any (λ (m : Placed). counts_above m placed && has_byte place m.1) ks ≡ false → byte_in place (object_of (with_node x) node.ino) ≡ byte_of place (piece_of x)
    byte_is x number version place within over bare = by (latest (versions x)) refl
      where
        by : (p : Option InodeNode) → latest (versions x) ≡ p → byte_in place (object_of (with_node x) node.ino) ≡ byte_of place (piece_of x)
        by None e =
            absurd (Contains-none x (subst (λ (vs : List InodeNode). Contains vs x) (newest_of_none (versions x) (λ (v : InodeNode). v.version) e) (itself x number version)))
        by (Some w) e =
            let size = same_size x number version w e in
            ap (λ (p : Option InodeNode). byte_in place (or_root node.ino (option_map (object_by (versions x)) p))) e
            ∙ (content_is_visible (map piece_of (versions x)) w.isize place (omega (arith, within, size))).1
            ∙ ap byte_at (visible_is x number version place over bare)

  of_newer : (m : Placed) → Contains ks m → counts_above m placed ≡ true → (o : InodeNode) × IsElsewhere o × (node.version < o.version)
  of_newer (a, Entry entry) c high = absurd (false≢true high)
  of_newer (a, Inode o) c high =
      let tests = both_true (o.ino == node.ino) (is_above (a, Inode o) placed) high in
      let number : o.ino ≡ node.ino = eqb-true _ _ tests.0 in
      ⊎_elim
      (λ (same : placed ≡ (a, Inode o)).
      let version : node.version ≡ o.version = ap (λ (x : Placed). version_of x.1) same in
      let at : addr ≡ a = ap (λ (x : Placed). x.0) same in
      ⊎_elim
      (λ (less : node.version < o.version). absurd (omega (arith, less, version)))
      (λ (tie : (o.version ≡ node.version) × (addr < a)). let less : addr < a = tie.1 in absurd (omega (arith, less, at)))
      (above_cases (a, Inode o) placed tests.1))
      (λ elsewhere. (
        o,
        record { addr_of = a; there = elsewhere; number = number },
        ⊎_elim
            (λ (less : node.version < o.version). less)
            (λ (tie : (o.version ≡ node.version) × (addr < a)). absurd (own_version a o elsewhere number tie.0))
            (above_cases (a, Inode o) placed tests.1),
      ))
      (cases_between front back placed (a, Inode o) c)

  -- ---- the two nodes that would make another object

  abbrev of_another : InodeNode
  of_another = record {
    ino = node.ino;
    version = node.version;
    mode = node.mode;
    uid = another node.uid;
    gid = node.gid;
    isize = node.isize;
    atime = node.atime;
    mtime = node.mtime;
    ctime = node.ctime;
    offset = node.offset;
    dsize = node.dsize;
    fill = node.fill;
  }

  abbrev count : ℕ
  count = body_len (body_of node.dsize node.fill)

  abbrev filled : ℕ → InodeNode
  filled byte = record {
    ino = node.ino;
    version = node.version;
    mode = node.mode;
    uid = node.uid;
    gid = node.gid;
    isize = node.isize;
    atime = node.atime;
    mtime = node.mtime;
    ctime = node.ctime;
    offset = node.offset;
    dsize = node.dsize;
    fill = fill.Data (replicate count byte);
  }

  abbrev IsMissed : Type 0
  IsMissed =
      (other : InodeNode) × HasRangeOf node other
      × (object (state_of (without_addresses (front ++ (addr, Inode other) ∷ back))) node.ino ≢ object (state_of (without_addresses ks)) node.ino)

  as_objects : (x : InodeNode) → object (state_of (without_addresses (front ++ (addr, Inode x) ∷ back))) node.ino ≡ object (state_of (without_addresses ks)) node.ino
      → object_of (with_node x) node.ino ≡ object_of (with_node node) node.ino
  as_objects x same = sym (object-state_of (without_addresses (front ++ (addr, Inode x) ∷ back)) node.ino) ∙ same ∙ object-state_of (without_addresses ks) node.ino

  by_uid : is_newest ks placed ≡ true → IsMissed
  by_uid h = (
    of_another,
    record { number = refl; version = refl; offset = refl; count = refl; long = λ holds_it. holds_it },
    λ same. is_another node.uid (sym (uid_is of_another refl refl h) ∙ ap uid_of (as_objects of_another same) ∙ uid_is node refl refl h),
  )

  by_byte : (place : ℕ) → place < latest_size ks node.ino → shows_at ks placed place ≡ true → (o : InodeNode) → IsElsewhere o → node.version < o.version → IsMissed
  by_byte place within seen o at_o above =
      let tests = both_true (has_byte place (Inode node)) (not (list_any (λ (m : Placed). counts_above m placed && has_byte place m.1) ks)) seen in
      let bare = not_true (list_any (λ (m : Placed). counts_above m placed && has_byte place m.1) ks) tests.1 in
      let ends = both_true (nat_le node.offset place) (nat_lt place (node.offset + count)) tests.0 in
      let from : node.offset ≤ place = leb-true _ _ ends.0 in
      let to : place < node.offset + count = ltb-true _ _ ends.1 in
      let byte : ℕ = another (byte_of place (piece_of node)) in
      let over : covers place (piece_of (filled byte)) ≡ true =
      ap (λ (n : ℕ). nat_le node.offset place && nat_lt place (node.offset + n)) (length-replicate count byte) ∙ tests.0 in
      let new_byte : byte_of place (piece_of (filled byte)) ≡ byte = get_or-replicate count (place - node.offset) byte 0 (omega (arith, from, to)) in (
        filled byte,
        record { number = refl; version = refl; offset = refl; count = refl; long = λ holds_it. length-replicate count byte ∙ holds node.fill node.dsize holds_it },
        λ same.
            is_another (byte_of place (piece_of node))
            (sym new_byte
            ∙ sym (byte_is o at_o above (filled byte) refl refl place within over bare)
            ∙ ap (byte_in place) (as_objects (filled byte) same)
            ∙ byte_is o at_o above node refl refl place within tests.0 bare),
      )

  pub is_missed : IsMissed
  is_missed =
      by_test (is_newest ks placed) by_uid
      (λ old.
      let higher = any_from (λ (m : Placed). counts_above m placed) ks (not_false (list_any (λ (m : Placed). counts_above m placed) ks) old) in
      let newer = of_newer higher.0 higher.1 higher.2 in
      let tests = both_true (reached node.ino) (is_newest ks placed || shows ks (latest_size ks node.ino) placed) (all placed here) in
      let seen : shows ks (latest_size ks node.ino) placed ≡ true = sym (ap (λ (b : Bool). b || shows ks (latest_size ks node.ino) placed) old) ∙ tests.1 in
      let at = any_from (shows_at ks placed) (below (latest_size ks node.ino)) seen in
      by_byte at.0 (Contains-below_from (latest_size ks node.ino) at.0 at.1) at.2 newer.0 newer.1 newer.2)
    where
      not_false : (b : Bool) → not b ≡ false → b ≡ true
      not_false true e = refl
      not_false false e = absurd (true≢false e)
