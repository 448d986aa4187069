-- The newest entry of each name.
use Rattle.std.proofs.Common.{◌≡◌, ℕ, ◌+◌, ◌*◌, ◌<◌, ◌≤◌, Bool, true, false, cond, List, [], ◌∷◌, ◌++◌, length, take, get_or, Option, Some, None, refl, ap, sym, subst, ◌∙◌, arith, ⊎_elim, inl, inr}
use Rattle.std.specs.Prelude.{◌⊎◌, ◌&&◌, ◌||◌, ◌==◌, nat_lt, not, Contains, bytes_eq}
use Rattle.std.specs.BTreeMap.{BTreeMap, get}
use Rattle.std.specs.Cmp.{unsigned_tied}
use Rattle.std.specs.Cow.{cow_slice_items}
use Rattle.std.specs.List.{All, AllPairs, list_any}
use Rattle.std.specs.Ordering.{eq_by_cmp, is_eq, nat_cmp, ordering_then}
use Rattle.std.specs.Cmp.Lexicographic.{slice_cmp}
use Rattle.std.specs.declared.cmp.Ordering.{Ordering}
use Rattle.std.specs.declared.cmp.Ordering.TheVariants.{Less, Equal, Greater}
use Rattle.std.proofs.lemmas.Bool.{true≢false, false≢true, eqb-true, eq-eqb, ltb-true, ltb-false}
use Rattle.std.proofs.lemmas.Bool.Decides.{nat_tests}
use Rattle.std.proofs.lemmas.Cmp.{nat_cmp_total, nat_list_cmp_total, tied_itself}
use Rattle.std.proofs.lemmas.Map.Lookups.{exact_unsigned, exact_bytes}
use Rattle.std.proofs.lemmas.Slice.Eq.{bytes_eq-Decides}
use Rattle.std.proofs.lemmas.List.Elements.{Contains-append_cases, Contains-append_left, Contains-append_right, Contains-get_or}
use Rattle.std.proofs.lemmas.Option.{same_Some}
use Rattle.flashbase.proofs.MemberLemmas.{Contains-here, Contains-cases, Contains-none}
use Rattle.jname.proofs.ContentsByNameLemmas.{by_test}
use Rattle.jname.proofs.LiveLemmas.{both_true, key_at}
use Rattle.jname.specs.Live.{Key, is_at, key_of}
use Rattle.jnode.specs.declared.node.Dirent.{Dirent}
use Rattle.jnode.specs.declared.node.InodeNode.{InodeNode}
use Rattle.jnode.specs.declared.node.NodeRef.{NodeRef}
use Rattle.jnode.specs.declared.node.NodeRef.TheVariants.{Entry, Inode}
use Rattle.jmount.specs.StateOf.{version_of}
use Rattle.jcompact.specs.Matters.{Placed, counts_above, is_above, is_for_same, is_newest}
use Rattle.jcompact.specs.Taking.{NameKey, is_named, name_key_cmp, node_rank}
use Rattle.jcompact.proofs.NameLemmas.{own_key}
use Rattle.jcompact.proofs.RankLemmas.{one_rank, same_test}
use Rattle.jcompact.proofs.TopLemmas.{any_from, any_of, both, none_any, not_true}
use Rattle.jhistory.specs.NodeWords.{entry_word, is_gone, stands_for, word_beside}
use Rattle.jhistory.specs.NewestEntries.{HasNewest, IsNewestFor, IsNewestIf, IsNewestOf, is_newer_than}

-- ---- a node more

pub one_more : {X : Type 0} (xs : List X) (x m : X) → Contains (xs ++ x ∷ []) m → Contains xs m ⊎ (x ≡ m)
one_more xs x m c =
    ⊎_elim (λ before. inl before) (λ last. ⊎_elim (λ is. inr is) (λ none. absurd (Contains-none m none)) (Contains-cases x [] m last)) (Contains-append_cases xs (x ∷ []) m c)

pub last_there : {X : Type 0} (xs : List X) (x : X) → Contains (xs ++ x ∷ []) x
last_there xs x = Contains-append_right xs (x ∷ []) x (Contains-here x [])

-- ---- ranks

above_rank : (v w a b : ℕ) → a < 4294967296 → b < 4294967296 → (nat_lt w v || ((v == w) && nat_lt b a)) ≡ nat_lt (w * 4294967296 + b) (v * 4294967296 + a)
above_rank v w a b small less = by (nat_lt w v) (nat_lt v w) refl refl
  where
    by : (x y : Bool) → nat_lt w v ≡ x → nat_lt v w ≡ y → (nat_lt w v || ((v == w) && nat_lt b a)) ≡ nat_lt (w * 4294967296 + b) (v * 4294967296 + a)
    by true y e d = grind (arith, nat_tests)
    by false true e d = grind (arith, nat_tests)
    by false false e d =
        let same : v ≡ w = grind (arith, nat_tests) in
        grind (arith, nat_tests)

pub above_is : (m n : Placed) → m.0 < 4294967296 → n.0 < 4294967296 → is_above m n ≡ nat_lt (node_rank n) (node_rank m)
above_is m n small less = above_rank (version_of m.1) (version_of n.1) m.0 n.0 small less

-- ---- names

pub named_is : (key : NameKey) (entry : Dirent) (r : NodeRef) → key.0 ≡ entry.pino → cow_slice_items key.1 ≡ entry.name → is_named key r ≡ is_for_same r (Entry entry)
named_is key entry (Inode node) number name = refl
named_is key entry (Entry a) number name = λ i. (a.pino == number i) && bytes_eq a.name (name i)

one_key : (b entry : Dirent) → is_at (key_of entry) b ≡ true → key_of b ≡ key_of entry
one_key b entry k = let parts = key_at (key_of entry) b k in λ i. (parts.0 i, parts.1 i)

pub same_through : (r s : NodeRef) (entry : Dirent) → is_for_same r s ≡ true → is_for_same s (Entry entry) ≡ true → is_for_same r (Entry entry) ≡ true
same_through (Inode a) (Inode b) entry h k = absurd (false≢true k)
same_through (Inode a) (Entry b) entry h k = absurd (false≢true h)
same_through (Entry a) (Inode b) entry h k = absurd (false≢true h)
same_through (Entry a) (Entry b) entry h k = subst (λ (q : Key). is_at q a ≡ true) (one_key b entry k) h

pub same_back : (r s : NodeRef) (entry : Dirent) → is_for_same r (Entry entry) ≡ true → is_for_same s (Entry entry) ≡ true → is_for_same r s ≡ true
same_back (Inode a) s entry h k = absurd (false≢true h)
same_back (Entry a) (Inode b) entry h k = absurd (false≢true k)
same_back (Entry a) (Entry b) entry h k = subst (λ (q : Key). is_at q a ≡ true) (sym (one_key b entry k)) h

-- ---- keys of names

then_equal : (o p : Ordering) → is_eq (ordering_then o p) ≡ true → (o ≡ Equal) × (p ≡ Equal)
then_equal Less p h = absurd (cc)
then_equal Greater p h = absurd (cc)
then_equal Equal Less h = absurd (cc)
then_equal Equal Equal h = (refl, refl)
then_equal Equal Greater h = absurd (cc)

equal_then : (o p : Ordering) → o ≡ Equal → p ≡ Equal → is_eq (ordering_then o p) ≡ true
equal_then o p e d = λ i. is_eq (ordering_then (e i) (d i))

same_name : (key other : NameKey) (entry : Dirent) → key.0 ≡ entry.pino → cow_slice_items key.1 ≡ entry.name → is_eq (name_key_cmp key other) ≡ is_named other (Entry entry)
same_name key other entry number name =
    same_test (is_eq (name_key_cmp key other)) (is_named other (Entry entry))
    (λ h.
    let parts = then_equal (nat_cmp key.0 other.0) (slice_cmp nat_cmp (cow_slice_items key.1) (cow_slice_items other.1)) h in
    both (entry.pino == other.0) (bytes_eq entry.name (cow_slice_items other.1))
    (eq-eqb _ _ (sym number ∙ exact_unsigned key.0 other.0 parts.0))
    ((bytes_eq-Decides entry.name (cow_slice_items other.1)).1 (sym name ∙ exact_bytes (cow_slice_items key.1) (cow_slice_items other.1) parts.1)))
    (λ h.
    let parts = both_true (entry.pino == other.0) (bytes_eq entry.name (cow_slice_items other.1)) h in
    let numbers : key.0 ≡ other.0 = number ∙ eqb-true _ _ parts.0 in
    let names : cow_slice_items key.1 ≡ cow_slice_items other.1 = name ∙ (bytes_eq-Decides entry.name (cow_slice_items other.1)).0 parts.1 in
    equal_then (nat_cmp key.0 other.0) (slice_cmp nat_cmp (cow_slice_items key.1) (cow_slice_items other.1))
    (subst (λ (k : ℕ). nat_cmp key.0 k ≡ Equal) numbers (tied_itself nat_cmp_total key.0))
    (subst (λ (k : List ℕ). slice_cmp nat_cmp (cow_slice_items key.1) k ≡ Equal) names (tied_itself nat_list_cmp_total (cow_slice_items key.1))))

-- a key of the name of an entry names the same nodes
named_alike : (key other : NameKey) (entry : Dirent) (r : NodeRef) → key.0 ≡ entry.pino → cow_slice_items key.1 ≡ entry.name → is_named other (Entry entry) ≡ true
    → is_named other r ≡ is_named key r
named_alike key other entry r number name h =
    let parts = key_at (other.0, cow_slice_items other.1) entry h in
    named_is other entry r (sym parts.0) (sym parts.1) ∙ sym (named_is key entry r number name)

-- ---- the newest entry of a name is found

pub newest_found : (ns : List Placed) (newest : BTreeMap NameKey (ℕ × ℕ)) (key : NameKey) (entry : Dirent) (top : Option (ℕ × ℕ)) → key.0 ≡ entry.pino → cow_slice_items key.1 ≡ entry.name
    → HasNewest ns newest → get name_key_cmp newest key ≡ top → IsNewestIf ns entry top
newest_found ns newest key entry None number name has is = λ m c. sym (named_is key entry m.1 number name) ∙ has.none key is m c
newest_found ns newest key entry (Some top) number name has is =
    let it = has.some key top is in
    record {
      node = it.node;
      there = it.there;
      same = sym (named_is key entry it.node.1 number name) ∙ it.same;
      rank = it.rank;
      number = it.number;
      most = λ m c s. it.most m c (named_is key entry m.1 number name ∙ s);
    }

-- ---- what it is used for

one_number : (i j : ℕ) (r : NodeRef) → stands_for i r ≡ true → stands_for j r ≡ true → i ≡ j
one_number i j (Entry entry) h k = sym (eqb-true entry.ino i h) ∙ eqb-true entry.ino j k
one_number i j (Inode node) h k = absurd (false≢true h)

module _ (ns : List Placed) (small : (m : Placed) → Contains ns m → m.0 < 4294967296) where
  none_above : (n m : Placed) → Contains ns n → Contains ns m → is_newest ns n ≡ true → is_for_same m.1 n.1 ≡ true → node_rank m ≤ node_rank n
  none_above n m here there newest same =
      by_test (nat_lt (node_rank n) (node_rank m))
      (λ above.
      let counts : counts_above m n ≡ true = both (is_for_same m.1 n.1) (is_above m n) same (above_is m n (small m there) (small n here) ∙ above) in
      absurd (true≢false (sym (any_of (λ (x : Placed). counts_above x n) ns m there counts) ∙ not_true (list_any (λ (x : Placed). counts_above x n) ns) newest)))
      (λ not_above. ltb-false _ _ not_above)

  newest_by : (n : Placed) → Contains ns n → ((m : Placed) → Contains ns m → is_for_same m.1 n.1 ≡ true → node_rank m ≤ node_rank n) → is_newest ns n ≡ true
  newest_by n here most =
      ap not
      (none_any (λ (m : Placed). counts_above m n) ns
      (λ m there.
      by_test (is_for_same m.1 n.1)
      (λ same.
      let low : node_rank m ≤ node_rank n = most m there same in
      let less : nat_lt (node_rank n) (node_rank m) ≡ false = grind (arith, nat_tests) in
      ap (λ (b : Bool). b && is_above m n) same ∙ above_is m n (small m there) (small n here) ∙ less)
      (λ other. ap (λ (b : Bool). b && is_above m n) other)))

  module _ (entry : Dirent) (top : ℕ × ℕ) (is : IsNewestFor ns entry top) where
    top_newest : is_newest ns is.node ≡ true
    top_newest =
        newest_by is.node is.there
        (λ m c same.
        let low : node_rank m ≤ top.0 = is.most m c (same_through m.1 is.node.1 entry same is.same) in
        let rank : node_rank is.node ≡ top.0 = is.rank in
        omega (arith, low, rank))

    pub newest_told : (addr : ℕ) → Contains ns (addr, Entry entry) → (top.0 == node_rank (addr, Entry entry)) ≡ is_newest ns (addr, Entry entry)
    newest_told addr here =
        let n : Placed = (addr, Entry entry) in
        let rank : node_rank is.node ≡ top.0 = is.rank in
        same_test (top.0 == node_rank n) (is_newest ns n)
        (λ same.
        let level : top.0 ≡ node_rank n = eqb-true _ _ same in
        newest_by n here (λ m c for. let low : node_rank m ≤ top.0 = is.most m c for in omega (arith, low, level)))
        (λ newest.
        let low : node_rank is.node ≤ node_rank n = none_above n is.node here is.there newest is.same in
        let high : node_rank n ≤ top.0 = is.most n here (own_key entry) in
        eq-eqb _ _ (omega (arith, low, high, rank)))

    pub gone_told : AllPairs (λ m n. m.0 < n.0) ns → (top.1 == 0) ≡ is_gone ns entry
    gone_told ascending =
        same_test (top.1 == 0) (is_gone ns entry)
        (λ zero_is.
        let none : top.1 ≡ 0 = eqb-true _ _ zero_is in
        any_of (λ (m : Placed). is_newest ns m && (stands_for 0 m.1 && is_for_same m.1 (Entry entry))) ns is.node is.there
        (both (is_newest ns is.node) (stands_for 0 is.node.1 && is_for_same is.node.1 (Entry entry)) top_newest
        (both (stands_for 0 is.node.1) (is_for_same is.node.1 (Entry entry)) (subst (λ (i : ℕ). stands_for i is.node.1 ≡ true) none is.number) is.same)))
        (λ gone.
        let found = any_from (λ (m : Placed). is_newest ns m && (stands_for 0 m.1 && is_for_same m.1 (Entry entry))) ns gone in
        let m : Placed = found.0 in
        let parts = both_true (is_newest ns m) (stands_for 0 m.1 && is_for_same m.1 (Entry entry)) found.2 in
        let more = both_true (stands_for 0 m.1) (is_for_same m.1 (Entry entry)) parts.1 in
        let rank : node_rank is.node ≡ top.0 = is.rank in
        let low : node_rank m ≤ top.0 = is.most m found.1 more.1 in
        let high : node_rank is.node ≤ node_rank m = none_above m is.node found.1 is.there parts.0 (same_back is.node.1 m.1 entry is.same more.1) in
        let one : is.node ≡ m = one_rank ns ascending (λ k d less. small (get_or ns k d) (Contains-get_or ns k d less)) is.node m is.there found.1 (omega (arith, low, high, rank)) in
        eq-eqb _ _ (one_number top.1 0 m.1 (subst (λ (x : Placed). stands_for top.1 x.1 ≡ true) one is.number) more.0))

-- ---- the word of an entry that is not live

pub word_found : (ns : List Placed) (newest : BTreeMap NameKey (ℕ × ℕ)) (addr : ℕ) (entry : Dirent) (rank : ℕ) (top : ℕ × ℕ) → HasNewest ns newest → AllPairs (λ m n. m.0 < n.0) ns
    → IsNewestFor ns entry top → Contains ns (addr, Entry entry) → rank ≡ node_rank (addr, Entry entry) → word_beside (entry.ino == 0) (top.0 == rank) (top.1 == 0) ≡ entry_word ns addr entry
word_found ns newest addr entry rank top has ascending is here same =
    ap (λ (k : ℕ). word_beside (entry.ino == 0) (top.0 == k) (top.1 == 0)) same
    ∙ ap (λ (b : Bool). word_beside (entry.ino == 0) b (top.1 == 0)) (newest_told ns has.small entry top is addr here)
    ∙ ap (λ (b : Bool). word_beside (entry.ino == 0) (is_newest ns (addr, Entry entry)) b) (gone_told ns has.small entry top is ascending)

-- an entry that is there has a newest one of its name
pub never_none : (ns : List Placed) (addr : ℕ) (entry : Dirent) → IsNewestIf ns entry None → Contains ns (addr, Entry entry) → ⊥
never_none ns addr entry none here = true≢false (sym (own_key entry) ∙ none (addr, Entry entry) here)

-- ---- one entry more

abbrev pub PutsTop : BTreeMap NameKey (ℕ × ℕ) → BTreeMap NameKey (ℕ × ℕ) → NameKey → ℕ × ℕ → Type 0
PutsTop old new key top = (q : NameKey) → get name_key_cmp new q ≡ cond (eq_by_cmp name_key_cmp key q) (Some top) (get name_key_cmp old q)

some_cases : {X : Type 0} (b : Bool) (x y : X) (o : Option X) → cond b (Some x) o ≡ Some y → ((b ≡ true) × (x ≡ y)) ⊎ ((b ≡ false) × (o ≡ Some y))
some_cases true x y o e = inl (refl, same_Some x y e)
some_cases false x y o e = inr (refl, e)

none_cases : {X : Type 0} (b : Bool) (x : X) (o : Option X) → cond b (Some x) o ≡ None → (b ≡ false) × (o ≡ None)
none_cases true x o e = absurd (cc)
none_cases false x o e = (refl, e)

own_stands : (entry : Dirent) → stands_for entry.ino (Entry entry) ≡ true
own_stands entry = eq-eqb entry.ino entry.ino refl

module _ (ns : List Placed) (old : BTreeMap NameKey (ℕ × ℕ)) (has : HasNewest ns old) where
  small_more : (n m : Placed) → n.0 < 4294967296 → Contains (ns ++ n ∷ []) m → m.0 < 4294967296
  small_more n m less c = ⊎_elim (λ before. has.small m before) (λ is. subst (λ (x : Placed). x.0 < 4294967296) is less) (one_more ns n m c)

  pub inode_noted : (addr : ℕ) (node : InodeNode) → addr < 4294967296 → HasNewest (ns ++ (addr, Inode node) ∷ []) old
  inode_noted addr node less =
      let n : Placed = (addr, Inode node) in
      record {
        some = λ q t is.
            let it = has.some q t is in
            record {
              node = it.node;
              there = Contains-append_left ns (n ∷ []) it.node it.there;
              same = it.same;
              rank = it.rank;
              number = it.number;
              most = λ m c for.
                  ⊎_elim (λ before. it.most m before for) (λ here. absurd (false≢true (ap (λ (x : Placed). is_named q x.1) here ∙ for))) (one_more ns n m c);
            };
        none = λ q is m c. ⊎_elim (λ before. has.none q is m before) (λ here. ap (λ (x : Placed). is_named q x.1) (sym here)) (one_more ns n m c);
        small = λ m c. small_more n m less c;
      }

  module _ (addr : ℕ) (entry : Dirent) (less : addr < 4294967296) (key : NameKey) (number : key.0 ≡ entry.pino) (name : cow_slice_items key.1 ≡ entry.name) where
    abbrev n : Placed
    n = (addr, Entry entry)

    -- it is no newer than one that is known
    pub older_noted : (top : ℕ × ℕ) → get name_key_cmp old key ≡ Some top → node_rank (addr, Entry entry) ≤ top.0 → HasNewest (ns ++ (addr, Entry entry) ∷ []) old
    older_noted top known low =
        let first = has.some key top known in
        record {
          some = λ q t is.
              let it = has.some q t is in
              record {
                node = it.node;
                there = Contains-append_left ns (n ∷ []) it.node it.there;
                same = it.same;
                rank = it.rank;
                number = it.number;
                most = λ m c for.
                    ⊎_elim (λ before. it.most m before for)
                    (λ here.
                    let own : is_named q (Entry entry) ≡ true = ap (λ (x : Placed). is_named q x.1) here ∙ for in
                    let high : node_rank first.node ≤ t.0 = it.most first.node first.there (named_alike key q entry first.node.1 number name own ∙ first.same) in
                    let rank : node_rank first.node ≡ top.0 = first.rank in
                    subst (λ (x : Placed). node_rank x ≤ t.0) here (omega (arith, high, rank, low)))
                    (one_more ns n m c);
              };
          none = λ q is m c.
              ⊎_elim (λ before. has.none q is m before)
              (λ here.
              by_test (is_named q m.1)
              (λ for.
              let own : is_named q (Entry entry) ≡ true = ap (λ (x : Placed). is_named q x.1) here ∙ for in
              absurd (true≢false (sym (named_alike key q entry first.node.1 number name own ∙ first.same) ∙ has.none q is first.node first.there)))
              (λ other. other))
              (one_more ns n m c);
          small = λ m c. small_more n m less c;
        }

    -- it is the newest, or the first
    pub newer_noted : (new : BTreeMap NameKey (ℕ × ℕ)) → ((m : Placed) → Contains ns m → is_named key m.1 ≡ true → node_rank m ≤ node_rank (addr, Entry entry))
        → PutsTop old new key (node_rank (addr, Entry entry), entry.ino) → HasNewest (ns ++ (addr, Entry entry) ∷ []) new
    newer_noted new most puts = record {
      some = λ q t is.
          ⊎_elim
          (λ here.
          let own : is_named q (Entry entry) ≡ true = sym (same_name key q entry number name) ∙ here.0 in
          subst (IsNewestOf (ns ++ n ∷ []) q) here.1
          (record {
            node = n;
            there = last_there ns n;
            same = own;
            rank = refl;
            number = own_stands entry;
            most = λ m c for.
                ⊎_elim (λ before. most m before (sym (named_alike key q entry m.1 number name own) ∙ for))
                (λ is_it. subst (λ (x : Placed). node_rank x ≤ node_rank n) is_it (omega arith))
                (one_more ns n m c);
          }))
          (λ there.
          let it = has.some q t there.1 in
          record {
            node = it.node;
            there = Contains-append_left ns (n ∷ []) it.node it.there;
            same = it.same;
            rank = it.rank;
            number = it.number;
            most = λ m c for.
                ⊎_elim (λ before. it.most m before for)
                (λ here. absurd (true≢false (sym (ap (λ (x : Placed). is_named q x.1) here ∙ for) ∙ sym (same_name key q entry number name) ∙ there.0)))
                (one_more ns n m c);
          })
          (some_cases (eq_by_cmp name_key_cmp key q) (node_rank n, entry.ino) t (get name_key_cmp old q) (sym (puts q) ∙ is));
      none = λ q is m c.
          let apart = none_cases (eq_by_cmp name_key_cmp key q) (node_rank n, entry.ino) (get name_key_cmp old q) (sym (puts q) ∙ is) in
          ⊎_elim (λ before. has.none q apart.1 m before)
          (λ here. ap (λ (x : Placed). is_named q x.1) (sym here) ∙ sym (same_name key q entry number name) ∙ apart.0)
          (one_more ns n m c);
      small = λ m c. small_more n m less c;
    }

    pub known_below : (top : ℕ × ℕ) → get name_key_cmp old key ≡ Some top → top.0 < node_rank (addr, Entry entry) → (m : Placed) → Contains ns m → is_named key m.1 ≡ true
        → node_rank m ≤ node_rank (addr, Entry entry)
    known_below top known less m c for = let low : node_rank m ≤ top.0 = (has.some key top known).most m c for in omega (arith, low, less)

    pub none_known : get name_key_cmp old key ≡ None → (m : Placed) → Contains ns m → is_named key m.1 ≡ true → node_rank m ≤ node_rank (addr, Entry entry)
    none_known known m c for = absurd (true≢false (sym for ∙ has.none key known m c))

pub older_case : (ns : List Placed) (old : BTreeMap NameKey (ℕ × ℕ)) (addr : ℕ) (entry : Dirent) (key : NameKey) (rank : ℕ) → HasNewest ns old → addr < 4294967296 → key.0 ≡ entry.pino
    → cow_slice_items key.1 ≡ entry.name → rank ≡ node_rank (addr, Entry entry) → is_newer_than (get name_key_cmp old key) rank ≡ false → HasNewest (ns ++ (addr, Entry entry) ∷ []) old
older_case ns old addr entry key rank has less number name same h = by (get name_key_cmp old key) refl
  where
    by : (o : Option (ℕ × ℕ)) → get name_key_cmp old key ≡ o → HasNewest (ns ++ (addr, Entry entry) ∷ []) old
    by None is = absurd (true≢false (sym (ap (λ (o : Option (ℕ × ℕ)). is_newer_than o rank) is) ∙ h))
    by (Some top) is =
        let high : rank ≤ top.0 = ltb-false top.0 rank (sym (ap (λ (o : Option (ℕ × ℕ)). is_newer_than o rank) is) ∙ h) in
        older_noted ns old has addr entry less key number name top is (omega (arith, high, same))

pub newer_case : (ns : List Placed) (old new : BTreeMap NameKey (ℕ × ℕ)) (addr : ℕ) (entry : Dirent) (key : NameKey) (rank : ℕ) → HasNewest ns old → addr < 4294967296
    → key.0 ≡ entry.pino → cow_slice_items key.1 ≡ entry.name → rank ≡ node_rank (addr, Entry entry) → is_newer_than (get name_key_cmp old key) rank ≡ true
    → PutsTop old new key (rank, entry.ino) → HasNewest (ns ++ (addr, Entry entry) ∷ []) new
newer_case ns old new addr entry key rank has less number name same h puts = by (get name_key_cmp old key) refl
  where
    put_it : PutsTop old new key (node_rank (addr, Entry entry), entry.ino)
    put_it = subst (λ (k : ℕ). PutsTop old new key (k, entry.ino)) same puts

    by : (o : Option (ℕ × ℕ)) → get name_key_cmp old key ≡ o → HasNewest (ns ++ (addr, Entry entry) ∷ []) new
    by None is = newer_noted ns old has addr entry less key number name new (none_known ns old has addr entry less key number name is) put_it
    by (Some top) is =
        let low : top.0 < rank = ltb-true top.0 rank (sym (ap (λ (o : Option (ℕ × ℕ)). is_newer_than o rank) is) ∙ h) in
        newer_noted ns old has addr entry less key number name new (known_below ns old has addr entry less key number name top is (omega (arith, low, same))) put_it

pub nothing_noted : (new : BTreeMap NameKey (ℕ × ℕ)) → ((q : NameKey) → get name_key_cmp new q ≡ None) → HasNewest [] new
nothing_noted new none = record {
  some = λ q t is. let no : Some t ≡ None = sym is ∙ none q in absurd (cc);
  none = λ q is m c. absurd (Contains-none m c);
  small = λ m c. absurd (Contains-none m c);
}
