-- The words of nodes, while they are found.
use Rattle.std.proofs.Common.{◌≡◌, ℕ, ◌+◌, ◌<◌, ◌≤◌, Bool, true, false, cond, Decides, List, [], ◌∷◌, ◌++◌, length, take, get_or, Option, Some, None, refl, ap, sym, subst, ◌∙◌, arith, ⊎_elim, inl, inr}
use Rattle.std.specs.Prelude.{◌⊎◌, ◌↔◌, ◌&&◌, ◌||◌, ◌==◌, filter, nat_lt, not, Contains, is_some}
use Rattle.std.specs.BTreeMap.{BTreeMap, get}
use Rattle.std.specs.BTreeSet.{BTreeSet, contains}
use Rattle.std.specs.Cmp.{unsigned_tied}
use Rattle.std.specs.List.{AllPairs, list_any}
use Rattle.std.specs.Ordering.{eq_by_cmp, nat_cmp}
use Rattle.std.proofs.lemmas.Bool.{true≢false, false≢true, eqb-true, eq-eqb, ltb-true}
use Rattle.std.proofs.lemmas.Bool.Decides.{nat_tests}
use Rattle.std.proofs.lemmas.List.{get_or-take, get_or_default, length-take}
use Rattle.std.proofs.lemmas.List.Elements.{Contains-append_left}
use Rattle.std.proofs.lemmas.List.Folds.{list_any-append}
use Rattle.std.proofs.lemmas.Option.{same_Some}
use Rattle.flashbase.proofs.MemberLemmas.{Contains-filter, Contains-filter_from, Contains-none}
use Rattle.jname.proofs.ContentsByNameLemmas.{by_test}
use Rattle.jname.proofs.LiveLemmas.{both_true}
use Rattle.jnode.specs.declared.node.Dirent.{Dirent}
use Rattle.jnode.specs.declared.node.InodeNode.{InodeNode}
use Rattle.jnode.specs.declared.node.NodeRef.TheVariants.{Entry, Inode}
use Rattle.jmount.specs.Collected.{without_addresses}
use Rattle.jmount.specs.StateOf.{or_root, state_of}
use Rattle.jmount.specs.Tree.{ObjectOf, State, is_there}
use Rattle.jmount.proofs.NumbersLemmas.{object-state_of}
use Rattle.jcompact.specs.Matters.{Placed, AreWhatMatters, NamesLeadTo, SaysReached, is_newest, matters}
use Rattle.jcompact.specs.Taking.{reached_by}
use Rattle.jcompact.proofs.RankLemmas.{and_false, one_address, same_test}
use Rattle.jcompact.proofs.ReachingLemmas.{led_there}
use Rattle.jcompact.proofs.TopLemmas.{any_from, any_of, both, not_true}
use Rattle.jhistory.specs.NewestEntries.{AddsNamed}
use Rattle.jhistory.specs.NodeWords.{AreWordsBy, AreWordsOf, MarksLive, Words, has_name, is_gone, node_word, object_word, other_word, stands_for, word_beside, word_or_live}
use Rattle.jhistory.specs.declared.word.NodeWord.{NodeWord}
use Rattle.jhistory.specs.declared.word.NodeWord.TheVariants.{Live, Superseded, Deleted, Deletion, Unreached}
use Rattle.jhistory.proofs.NewestLemmas.{one_more, last_there}

-- ---- one node more of a list

pub before_it : (ns : List Placed) (i : ℕ) (d : Placed) → AllPairs (λ m n. m.0 < n.0) ns → i < length ns → (m : Placed) → Contains (take i ns) m → m.0 < (get_or ns i d).0
before_it ns i d ascending less m (j, within, at) =
    let short : length (take i ns) ≤ i = omega (arith, length-take i ns) in
    let lower : j < i = omega (arith, within, short) in
    let step : (get_or ns j m).0 < (get_or ns i m).0 = ascending j i m lower less in
    let first : (get_or ns j m).0 ≡ m.0 = ap (λ (x : Placed). x.0) (sym (get_or-take i ns j m lower) ∙ at) in
    let last : (get_or ns i m).0 ≡ (get_or ns i d).0 = ap (λ (x : Placed). x.0) (get_or_default ns i m d less) in
    omega (arith, step, first, last)

or_turned : (a b : Bool) → (a || b) ≡ (b || a)
or_turned true true = refl
or_turned true false = refl
or_turned false true = refl
or_turned false false = refl

any_more : {X : Type 0} (p : X → Bool) (xs : List X) (x : X) → list_any p (xs ++ x ∷ []) ≡ (p x || list_any p xs)
any_more p xs x = list_any-append p xs (x ∷ []) ∙ ap (λ (b : Bool). list_any p xs || b) (or_turned (p x) false) ∙ or_turned (list_any p xs) (p x)

-- ---- the numbers that names stand for

pub named_more : (ns done : List Placed) (n : Placed) (old new : BTreeSet ℕ) → AddsNamed ns n old new
    → ((i : ℕ) → contains nat_cmp old i ≡ list_any (λ m. is_newest ns m && stands_for i m.1) done)
    → (i : ℕ) → contains nat_cmp new i ≡ list_any (λ m. is_newest ns m && stands_for i m.1) (done ++ n ∷ [])
named_more ns done n old new adds are i =
    adds i ∙ ap (λ (b : Bool). (is_newest ns n && stands_for i n.1) || b) (are i)
    ∙ sym (any_more (λ (m : Placed). is_newest ns m && stands_for i m.1) done n)

pub adds_no_inode : (ns : List Placed) (addr : ℕ) (node : InodeNode) (old : BTreeSet ℕ) → AddsNamed ns (addr, Inode node) old old
adds_no_inode ns addr node old i = sym (ap (λ (b : Bool). b || contains nat_cmp old i) (and_false (is_newest ns (addr, Inode node))))

pub adds_no_old : (ns : List Placed) (n : Placed) (old : BTreeSet ℕ) → is_newest ns n ≡ false → AddsNamed ns n old old
adds_no_old ns n old h i = sym (ap (λ (b : Bool). (b && stands_for i n.1) || contains nat_cmp old i) h)

true_or : (b c : Bool) → cond b true c ≡ (b || c)
true_or true c = refl
true_or false c = refl

pub adds_newest : (ns : List Placed) (addr : ℕ) (entry : Dirent) (old new : BTreeSet ℕ) → is_newest ns (addr, Entry entry) ≡ true
    → ((q : ℕ) → contains nat_cmp new q ≡ cond (eq_by_cmp nat_cmp entry.ino q) true (contains nat_cmp old q)) → AddsNamed ns (addr, Entry entry) old new
adds_newest ns addr entry old new h adds i =
    adds i ∙ ap (λ (b : Bool). cond b true (contains nat_cmp old i)) (unsigned_tied entry.ino i) ∙ true_or (entry.ino == i) (contains nat_cmp old i)
    ∙ sym (ap (λ (b : Bool). (b && (entry.ino == i)) || contains nat_cmp old i) h)

-- ---- words

abbrev pub PutsWord : Words → Words → ℕ → NodeWord → Type 0
PutsWord old new a w = (q : ℕ) → get nat_cmp new q ≡ cond (eq_by_cmp nat_cmp a q) (Some w) (get nat_cmp old q)

some_word : (b : Bool) (x y : NodeWord) (o : Option NodeWord) → cond b (Some x) o ≡ Some y → (b ≡ true) ⊎ (o ≡ Some y)
some_word true x y o e = inl refl
some_word false x y o e = inr e

pub no_words : (word : Placed → NodeWord) (words : Words) → ((a : ℕ) → get nat_cmp words a ≡ None) → AreWordsBy [] word words
no_words word words none = record {
  each = λ n c. absurd (Contains-none n c);
  only = λ a w is. let no : Some w ≡ None = sym is ∙ none a in absurd (cc);
}

pub word_more : (word : Placed → NodeWord) (done : List Placed) (n : Placed) (old new : Words) (w : NodeWord) → w ≡ word n → PutsWord old new n.0 w
    → ((m : Placed) → Contains done m → m.0 < n.0) → AreWordsBy done word old → AreWordsBy (done ++ n ∷ []) word new
word_more word done n old new w is puts lower are = record {
  each = λ m c.
      ⊎_elim
      (λ before.
      let low : m.0 < n.0 = lower m before in
      let other : (n.0 == m.0) ≡ false = grind (arith, nat_tests) in
      puts m.0 ∙ ap (λ (b : Bool). cond b (Some w) (get nat_cmp old m.0)) (unsigned_tied n.0 m.0 ∙ other) ∙ are.each m before)
      (λ here.
      puts m.0
      ∙ ap (λ (b : Bool). cond b (Some w) (get nat_cmp old m.0)) (unsigned_tied n.0 m.0 ∙ eq-eqb n.0 m.0 (ap (λ (x : Placed). x.0) here))
      ∙ ap Some is ∙ ap (λ (x : Placed). Some (word x)) here)
      (one_more done n m c);
  only = λ a v at.
      ⊎_elim
      (λ here. (n, last_there done n, eqb-true n.0 a (sym (unsigned_tied n.0 a) ∙ here)))
      (λ before.
      let m = are.only a v before in
      (m.0, Contains-append_left done (n ∷ []) m.0 m.1, m.2))
      (some_word (eq_by_cmp nat_cmp n.0 a) w v (get nat_cmp old a) (sym (puts a) ∙ at));
}

-- ---- live ones

live_or : (here before : Bool) (o : Option NodeWord) → cond here (Some Live) (word_or_live before o) ≡ word_or_live (here || before) o
live_or true before o = refl
live_or false before o = refl

pub none_marked : (words : Words) → MarksLive [] words words
none_marked words = λ a. refl

pub mark_more : (done : List Placed) (n : Placed) (first old new : Words) → MarksLive done first old → PutsWord old new n.0 Live → MarksLive (done ++ n ∷ []) first new
mark_more done n first old new marks puts a =
    puts a ∙ ap (λ (b : Bool). cond b (Some Live) (get nat_cmp old a)) (unsigned_tied n.0 a)
    ∙ ap (λ (o : Option NodeWord). cond (n.0 == a) (Some Live) o) (marks a)
    ∙ live_or (n.0 == a) (list_any (λ (m : Placed). m.0 == a) done) (get nat_cmp first a)
    ∙ ap (λ (b : Bool). word_or_live b (get nat_cmp first a)) (sym (any_more (λ (m : Placed). m.0 == a) done n))

-- ---- which objects are reached

root_there : (o : Option (ObjectOf (List ℕ))) → is_some (or_root 1 o) ≡ true
root_there None = refl
root_there (Some x) = refl

module _ (s : State) (ns : List Placed) (made : s ≡ state_of (without_addresses ns)) (unreached : BTreeSet ℕ)
    (none : (i : ℕ) → is_there s i ≡ true → Decides (contains nat_cmp unreached i) (NamesLeadTo s i → ⊥))
    (met : (i : ℕ) → is_there s i ≡ true → contains nat_cmp unreached i ≡ false → NamesLeadTo s i) where
  root_is : is_there s 1 ≡ true
  root_is = ap (λ (t : State). is_there t 1) made ∙ ap is_some (object-state_of (without_addresses ns) 1) ∙ root_there _

  pub says : SaysReached ns (reached_by s unreached)
  says i = (
    λ h.
        let parts = both_true (is_there s i) (not (contains nat_cmp unreached i)) h in
        subst (λ (t : State). NamesLeadTo t i) made (met i parts.0 (not_true (contains nat_cmp unreached i) parts.1)),
    λ leads.
        let way : NamesLeadTo s i = subst (λ (t : State). NamesLeadTo t i) (sym made) leads in
        let there : is_there s i ≡ true = led_there s i root_is way in
        both (is_there s i) (not (contains nat_cmp unreached i)) there
        (by_test (contains nat_cmp unreached i) (λ t. absurd ((none i there).0 t way)) (λ f. ap not f)),
  )

-- one answer alone says which are reached
pub one_reached : (ns : List Placed) (r q : ℕ → Bool) → SaysReached ns r → SaysReached ns q → r ≡ q
one_reached ns r q a b = λ k i. same_test (r i) (q i) (λ h. (b i).1 ((a i).0 h)) (λ h. (a i).1 ((b i).0 h)) k

-- ---- all together

chosen : (b : Bool) (o : NodeWord) → word_or_live b (Some o) ≡ Some (cond b Live o)
chosen true o = refl
chosen false o = refl

module _ (ns kept : List Placed) (ascending : AllPairs (λ m n. m.0 < n.0) ns) (reached : ℕ → Bool) (is : kept ≡ filter (matters ns reached) ns) where
  pub kept_from : (n : Placed) → Contains kept n → Contains ns n × (matters ns reached n ≡ true)
  kept_from n c = Contains-filter_from (matters ns reached) ns n (subst (λ (xs : List Placed). Contains xs n) is c)

  pub kept_in : (n : Placed) → Contains ns n → matters ns reached n ≡ true → Contains kept n
  kept_in n c h = subst (λ (xs : List Placed). Contains xs n) (sym is) (Contains-filter (matters ns reached) ns n h c)

  at_kept : (n : Placed) → Contains ns n → list_any (λ (m : Placed). m.0 == n.0) kept ≡ matters ns reached n
  at_kept n c =
      same_test (list_any (λ (m : Placed). m.0 == n.0) kept) (matters ns reached n)
      (λ h.
      let found = any_from (λ (m : Placed). m.0 == n.0) kept h in
      let parts = kept_from found.0 found.1 in
      subst (λ (m : Placed). matters ns reached m ≡ true) (one_address ns ascending found.0 n parts.0 c (eqb-true _ _ found.2)) parts.1)
      (λ h. any_of (λ (m : Placed). m.0 == n.0) kept n (kept_in n c h) (eq-eqb n.0 n.0 refl))

  live_marked : (old new : Words) → AreWordsBy ns (other_word ns reached) old → MarksLive kept old new → AreWordsBy ns (node_word ns reached) new
  live_marked old new are marks = record {
    each = λ n c.
        marks n.0 ∙ ap (λ (o : Option NodeWord). word_or_live (list_any (λ (m : Placed). m.0 == n.0) kept) o) (are.each n c)
        ∙ chosen (list_any (λ (m : Placed). m.0 == n.0) kept) (other_word ns reached n)
        ∙ ap (λ (b : Bool). Some (cond b Live (other_word ns reached n))) (at_kept n c);
    only = λ a w at.
        by_test (list_any (λ (m : Placed). m.0 == a) kept)
        (λ h. let found = any_from (λ (m : Placed). m.0 == a) kept h in (found.0, (kept_from found.0 found.1).0, eqb-true _ _ found.2))
        (λ h. are.only a w (sym (ap (λ (b : Bool). word_or_live b (get nat_cmp old a)) h) ∙ sym (marks a) ∙ at));
  }

pub words_found : (s : State) (ns kept : List Placed) (old new : Words) (unreached : BTreeSet ℕ) → s ≡ state_of (without_addresses ns) → AllPairs (λ m n. m.0 < n.0) ns
    → ((i : ℕ) → is_there s i ≡ true → Decides (contains nat_cmp unreached i) (NamesLeadTo s i → ⊥))
    → ((i : ℕ) → is_there s i ≡ true → contains nat_cmp unreached i ≡ false → NamesLeadTo s i) → AreWhatMatters ns kept
    → AreWordsBy ns (other_word ns (reached_by s unreached)) old → MarksLive kept old new → AreWordsOf ns new
words_found s ns kept old new unreached made ascending none met (reached, says_so, is) are marks =
    let same : reached_by s unreached ≡ reached = one_reached ns (reached_by s unreached) reached (says s ns made unreached none met) says_so in
    (reached, says_so, live_marked ns kept ascending reached is old new (subst (λ (r : ℕ → Bool). AreWordsBy ns (other_word ns r) old) same are) marks)

-- ---- what is live

entry_live : (a b c : Bool) → word_beside a b c ≡ Live → ⊥
entry_live true b c h = cc
entry_live false true c h = cc
entry_live false false true h = cc
entry_live false false false h = cc

object_live : (a b : Bool) → object_word a b ≡ Live → ⊥
object_live true b h = cc
object_live false true h = cc
object_live false false h = cc

other_live : (ns : List Placed) (reached : ℕ → Bool) (n : Placed) → other_word ns reached n ≡ Live → ⊥
other_live ns reached (addr, Entry entry) h = entry_live (entry.ino == 0) (is_newest ns (addr, Entry entry)) (is_gone ns entry) h
other_live ns reached (addr, Inode node) h = object_live (reached node.ino) (has_name ns node.ino) h

not_live : (ns : List Placed) (reached : ℕ → Bool) (n : Placed) → matters ns reached n ≡ false → node_word ns reached n ≡ Live → ⊥
not_live ns reached n other is = other_live ns reached n (sym (ap (λ (b : Bool). cond b Live (other_word ns reached n)) other) ∙ is)

pub live_is_kept : (ns kept : List Placed) (words : Words) → AreWordsOf ns words → AreWhatMatters ns kept → (n : Placed) → Contains ns n
    → (get nat_cmp words n.0 ≡ Some Live) ↔ Contains kept n
live_is_kept ns kept words (r, says_r, are) (q, says_q, is) n c =
    let same : r ≡ q = one_reached ns r q says_r says_q in (
      λ live.
          by_test (matters ns r n)
          (λ h. subst (λ (xs : List Placed). Contains xs n) (sym is) (Contains-filter (matters ns q) ns n (ap (λ (p : ℕ → Bool). matters ns p n) (sym same) ∙ h) c))
          (λ h. absurd (not_live ns r n h (same_Some (node_word ns r n) Live (sym (are.each n c) ∙ live)))),
      λ there.
          let found = Contains-filter_from (matters ns q) ns n (subst (λ (xs : List Placed). Contains xs n) is there) in
          let here : matters ns r n ≡ true = ap (λ (p : ℕ → Bool). matters ns p n) same ∙ found.1 in
          are.each n c ∙ ap (λ (b : Bool). Some (cond b Live (other_word ns r n))) here,
    )
