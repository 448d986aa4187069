-- Which nodes are kept.
use Rattle.std.proofs.Common.{◌≡◌, ℕ, ◌<◌, Bool, true, false, cond, Decides, List, [], ◌∷◌, length, Option, Some, None, refl, ap, sym, subst, ◌∙◌, arith, ⊎_elim}
use Rattle.std.specs.Prelude.{◌&&◌, ◌||◌, ◌==◌, filter, not, is_some, Contains}
use Rattle.std.specs.List.{All, AllPairs, list_any}
use Rattle.std.specs.Borrow.{Bor}
use Rattle.std.specs.declared.cmp.Ordering.{Ordering}
use Rattle.std.specs.Ordering.{eq_by_cmp, is_lt, nat_cmp}
use Rattle.std.specs.Map.{lookup}
use Rattle.std.specs.BTreeMap.{BTreeMap, get, is_at}
use Rattle.std.specs.BTreeSet.{BTreeSet, contains}
use Rattle.std.proofs.lemmas.Bool.{true≢false, false≢true, eqb-true, eq-eqb}
use Rattle.flashbase.proofs.MemberLemmas.{Contains-here, Contains-there}
use Rattle.jname.proofs.ContentsByNameLemmas.{by_test}
use Rattle.jname.proofs.LiveLemmas.{both_true}
use Rattle.jmount.specs.Collected.{without_addresses}
use Rattle.jmount.specs.MountsNodes.{IsMountable, AreMountable}
use Rattle.jmount.specs.StateOf.{default_root, object_by, inodes, latest, or_root, state_of, versions_of}
use Rattle.jmount.specs.Tree.{ObjectOf, State, is_there}
use Rattle.jmount.proofs.NumbersLemmas.{object-state_of}
use Rattle.jcompact.specs.Matters.{Placed, AreWhatMatters, NamesLeadTo, SaysReached, matters}
use Rattle.jcompact.specs.Taking.{AreUntaken, HasEnds, KnowsTaken, NameKey, TakesNode, among, covers_spot, is_named, is_of, name_key_cmp, node_rank, reached_by}
use Rattle.jcompact.specs.declared.taken.Taken.{Taken}
use Rattle.jcompact.proofs.RankLemmas.{TakesOut, and_true, last_is_next, last_is_out, none_are_left, none_yet, one_address, same_test}
use Rattle.jcompact.proofs.ReachingLemmas.{led_there}
use Rattle.jcompact.proofs.TakenLemmas.{knows_node}
use Rattle.jcompact.proofs.TopLemmas.{any_from, any_of, both, not_true}

-- nodes that are taken one by one, from the one of highest rank
pub record IsSwept (ns : List Placed) (reached : ℕ → Bool) (left : BTreeMap ℕ (Bor Placed)) (taken : Taken) : Type 0 where
  pub floor : ℕ
  pub spots : BTreeSet ℕ
  pub small : All (λ n. n.0 < 4294967296) ns
  pub ends : All (λ n. HasEnds spots n.1) ns
  pub are : AreUntaken ns floor left
  pub knows : KnowsTaken ns reached spots floor taken

pub begins : (ns : List Placed) (reached : ℕ → Bool) (left : BTreeMap ℕ (Bor Placed)) (taken : Taken) (floor : ℕ) → All (λ n. n.0 < 4294967296) ns → All (λ n. node_rank n < floor) ns
    → All (λ n. HasEnds taken.bare n.1) ns → AreUntaken ns floor left → ((i : ℕ) → contains nat_cmp taken.numbers i ≡ false) → ((k : NameKey) → contains name_key_cmp taken.names k ≡ false)
    → ((a : ℕ) → contains nat_cmp taken.kept a ≡ false) → IsSwept ns reached left taken
begins ns reached left taken floor small low ends are numbers names kept = record {
  floor = floor;
  spots = taken.bare;
  small = small;
  ends = ends;
  are = are;
  knows = record {
    bare = λ c. sym (ap (λ (b : Bool). contains nat_cmp taken.bare c && not b) (none_yet ns floor (λ n. covers_spot c n.1) low) ∙ and_true (contains nat_cmp taken.bare c));
    numbers = λ i. numbers i ∙ sym (none_yet ns floor (λ n. is_of i n.1) low);
    names = λ k. names k ∙ sym (none_yet ns floor (λ n. is_named k n.1) low);
    kept = λ a. kept a ∙ sym (none_yet ns floor (λ n. (n.0 == a) && matters ns reached n) low);
  };
}

pub is_of_nodes : (ns : List Placed) (reached : ℕ → Bool) (left : BTreeMap ℕ (Bor Placed)) (taken : Taken) (k : ℕ) (x : Bor Placed) → AreMountable ns → IsSwept ns reached left taken
    → get nat_cmp left k ≡ Some x → IsMountable x.now.1
is_of_nodes ns reached left taken k x fit swept there = fit x.now (swept.are.only k x there).0

pub goes_on : (s : State) (ns : List Placed) (reached : ℕ → Bool) (left rest : BTreeMap ℕ (Bor Placed)) (old new : Taken) (k : ℕ) (x : Bor Placed) → s ≡ state_of (without_addresses ns)
    → AllPairs (λ m n. m.0 < n.0) ns → AreMountable ns → get nat_cmp left k ≡ Some x → ((q : ℕ) → is_some (get nat_cmp left q) ≡ true → is_lt (nat_cmp k q) ≡ false) → TakesOut left rest k
    → TakesNode s reached x.now old new → IsSwept ns reached left old → IsSwept ns reached rest new
goes_on s ns reached left rest old new k x made ascending fit there greatest out takes swept = record {
  floor = node_rank x.now;
  spots = swept.spots;
  small = swept.small;
  ends = swept.ends;
  are = last_is_out ns swept.floor left rest k x swept.are there greatest out;
  knows = knows_node s ns made ascending swept.small fit swept.spots swept.ends reached swept.floor old new swept.knows x.now
      (last_is_next ns swept.floor left rest k x swept.are there greatest ascending swept.small) takes;
}

pub all_swept : (ns : List Placed) (reached : ℕ → Bool) (left : BTreeMap ℕ (Bor Placed)) (taken : Taken) → ((k : ℕ) → get nat_cmp left k ≡ None) → IsSwept ns reached left taken
    → (a : ℕ) → contains nat_cmp taken.kept a ≡ list_any (λ n. (n.0 == a) && matters ns reached n) ns
all_swept ns reached left taken none swept a =
    swept.knows.kept a ∙ none_are_left ns swept.floor left (λ n. (n.0 == a) && matters ns reached n) swept.are none

-- ---- those that are kept

filter_same : {X : Type 0} (p q : X → Bool) (xs : List X) → ((x : X) → Contains xs x → p x ≡ q x) → filter p xs ≡ filter q xs
filter_same p q [] h = refl
filter_same {X} p q (x ∷ xs) h =
    ap (λ (b : Bool). cond b (x ∷ filter p xs) (filter p xs)) (h x (Contains-here x xs))
    ∙ ap (λ (ys : List X). cond (q x) (x ∷ ys) ys) (filter_same p q xs (λ y c. h y (Contains-there x xs y c)))

root_there : (versions : List Rattle.jnode.specs.declared.node.InodeNode.InodeNode) (o : Option (ObjectOf (List ℕ))) → is_some (or_root 1 o) ≡ true
root_there versions None = refl
root_there versions (Some x) = refl

module _ (s : State) (ns : List Placed) (made : s ≡ state_of (without_addresses ns)) (unreached : BTreeSet ℕ)
    (none : (i : ℕ) → is_there s i ≡ true → Decides (contains nat_cmp unreached i) (NamesLeadTo s i → ⊥))
    (met : (i : ℕ) → is_there s i ≡ true → contains nat_cmp unreached i ≡ false → NamesLeadTo s i) where
  root_is : is_there s 1 ≡ true
  root_is = ap (λ (t : State). is_there t 1) made ∙ ap is_some (object-state_of (without_addresses ns) 1) ∙ root_there [] _

  says : SaysReached ns (reached_by s unreached)
  says i = (
    λ h.
        let parts = both_true (is_there s i) (not (contains nat_cmp unreached i)) h in
        subst (λ (t : State). NamesLeadTo t i) made (met i parts.0 (not_true (contains nat_cmp unreached i) parts.1)),
    λ leads.
        let way : NamesLeadTo s i = subst (λ (t : State). NamesLeadTo t i) (sym made) leads in
        let there : is_there s i ≡ true = led_there s i root_is way in
        both (is_there s i) (not (contains nat_cmp unreached i)) there
        (by_test (contains nat_cmp unreached i) (λ t. absurd ((none i there).0 t way)) (λ f. ap not f)),
  )

  module _ (ascending : AllPairs (λ m n. m.0 < n.0) ns) (addresses : BTreeSet ℕ)
      (are : (a : ℕ) → contains nat_cmp addresses a ≡ list_any (λ n. (n.0 == a) && matters ns (reached_by s unreached) n) ns) where
    kept_is : (n : Placed) → Contains ns n → contains nat_cmp addresses n.0 ≡ matters ns (reached_by s unreached) n
    kept_is n c =
        are n.0
        ∙ same_test (list_any (λ m. (m.0 == n.0) && matters ns (reached_by s unreached) m) ns) (matters ns (reached_by s unreached) n)
        (λ h.
        let found = any_from (λ (m : Placed). (m.0 == n.0) && matters ns (reached_by s unreached) m) ns h in
        let parts = both_true (found.0.0 == n.0) (matters ns (reached_by s unreached) found.0) found.2 in
        subst (λ (m : Placed). matters ns (reached_by s unreached) m ≡ true) (one_address ns ascending found.0 n found.1 c (eqb-true _ _ parts.0)) parts.1)
        (λ h. any_of (λ (m : Placed). (m.0 == n.0) && matters ns (reached_by s unreached) m) ns n c (both (n.0 == n.0) (matters ns (reached_by s unreached) n) (eq-eqb n.0 n.0 refl) h))

    pub what_matters : (kept : List Placed) → kept ≡ filter (λ n. contains nat_cmp addresses n.0) ns → AreWhatMatters ns kept
    what_matters kept is = (
      reached_by s unreached,
      says,
      is ∙ filter_same (λ n. contains nat_cmp addresses n.0) (matters ns (reached_by s unreached)) ns kept_is,
    )

-- ---- sets and maps of nothing

pub none_in : {K : Type 0} (R : K → K → Ordering) (s : BTreeSet K) (k : K) → s.keys ≡ [] → contains R s k ≡ false
none_in {K} R s k empty = ap (λ (ks : List K). list_any (eq_by_cmp R k) ks) empty

nothing : (es : List (ℕ × Bor Placed)) → length es ≡ 0 → es ≡ []
nothing [] e = refl
nothing (x ∷ es) e = absurd (omega (arith, e))

pub none_left : (m : BTreeMap ℕ (Bor Placed)) → length m.entries ≡ 0 → (k : ℕ) → get nat_cmp m k ≡ None
none_left m e k = ap (λ (es : List (ℕ × Bor Placed)). lookup (is_at (nat_cmp k)) es) (nothing m.entries e)
