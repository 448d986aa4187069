-- The nodes that hide nothing, from the highest version down.
use Rattle.std.proofs.Common.{◌≡◌, ℕ, zero, suc, ◌+◌, ◌-◌, ◌<◌, ◌≤◌, Bool, true, false, cond, List, [], ◌∷◌, ◌++◌, length, take, get_or, refl, sym, ap, ◌∙◌, subst, arith, append_assoc, append-nil, Option, Some, None}
use Rattle.std.specs.Prelude.{All, ◌&&◌, ◌||◌, nat_lt, min, filter_map, option_to_list, IfOk, Result, Ok, Err}
use Rattle.std.specs.List.{cons_option, list_any, list_all}
use Rattle.std.specs.List.Sorted.{IsPermutation}
use Rattle.std.specs.Ordering.{eq_by_cmp, nat_cmp}
use Rattle.std.specs.Cmp.{nat_cmp_total, eq_by_cmp_equiv}
use Rattle.std.specs.BTreeSet.{BTreeSet, contains}
use Rattle.std.specs.FinMap.{nat_cmp-IsAntisymmetric}
use Rattle.std.proofs.Math.Path.{fun_ext}
use Rattle.std.proofs.lemmas.Bool.{true≢false, false≢true}
use Rattle.std.proofs.lemmas.Map.Views.{tells_apart}
use Rattle.std.proofs.lemmas.List.Elements.{All-head, All-tail, filter_map-append}
use Rattle.std.proofs.lemmas.List.{take_more}
use Rattle.std.proofs.lemmas.List.Sorted.{All-permutation, IsNonDecreasingBy-take, IsPermutation-sym, list_any-IsPermutation}
use Rattle.flashbase.specs.Lists.{below}
use Rattle.jnode.specs.declared.order.Endian.{Endian}
use Rattle.jnode.specs.declared.node.Damage.{Damage}
use Rattle.jnode.specs.declared.node.Damage.TheVariants.{NodeCrc, NameCrc, DataCrc, Length, Range}
use Rattle.jmount.specs.Mount.{Mount}
use Rattle.jmount.specs.Tree.{State}
use Rattle.jgaps.specs.Gaps.{has_place}
use Rattle.jdamage.specs.Coverage.{hides_nothing, is_not_older, is_replaced, is_replaced_below}
use Rattle.jdamage.specs.Damage.{changes_nothing, size_at}
use Rattle.jgaps.specs.Fields.{stretch_at}
use Rattle.jdamage.specs.Hidden.{AreHidden, AreVersions, HaveStarts, LostAscend, lost_if, spot_at}
use Rattle.jdamage.specs.Sweep.{AreBelow, Ascends, HaveEnds, Taken, spot}
use Rattle.jgaps.specs.declared.fields.Stretch.{Stretch}
use Rattle.jdamage.proofs.SweepLemmas.{lower}

-- ---- the last of a list

module _ {X : Type 0} (P : X → Type 0) where
  each_left : (xs ys : List X) → All P (xs ++ ys) → All P xs
  each_left [] ys each = λ k d less. absurd (omega (arith, less))
  each_left (x ∷ xs) ys each = joined xs (All-head P x (xs ++ ys) each) (each_left xs ys (All-tail P x (xs ++ ys) each))
    where
      joined : (zs : List X) → P x → All P zs → All P (x ∷ zs)
      joined zs first rest zero d less = first
      joined zs first rest (suc k) d less = rest k d (omega (arith, less))

  each_right : (xs ys : List X) → All P (xs ++ ys) → All P ys
  each_right [] ys each = each
  each_right (x ∷ xs) ys each = each_right xs ys (All-tail P x (xs ++ ys) each)

  of_last : (xs : List X) (x : X) → All P (xs ++ x ∷ []) → P x
  of_last xs x each = All-head P x [] (each_right xs (x ∷ []) each)

  pub one_first : (x : X) (xs : List X) → P x → All P xs → All P (x ∷ xs)
  one_first x xs first rest zero d less = first
  one_first x xs first rest (suc k) d less = rest k d (omega (arith, less))

at_left : (xs ys : List (ℕ × ℕ)) (k : ℕ) (d : ℕ × ℕ) → k < length xs → get_or (xs ++ ys) k d ≡ get_or xs k d
at_left [] ys k d less = absurd (omega (arith, less))
at_left (x ∷ xs) ys zero d less = refl
at_left (x ∷ xs) ys (suc k) d less = at_left xs ys k d (omega (arith, less))

at_last : (xs : List (ℕ × ℕ)) (x d : ℕ × ℕ) → get_or (xs ++ x ∷ []) (length xs) d ≡ x
at_last [] x d = refl
at_last (y ∷ xs) x d = at_last xs x d

long : (xs : List (ℕ × ℕ)) (x : ℕ × ℕ) → length (xs ++ x ∷ []) ≡ length xs + 1
long [] x = refl
long (y ∷ xs) x = omega (arith, long xs x)

none_higher : (lost after : List (ℕ × ℕ)) (n : ℕ × ℕ) → LostAscend lost → lost ≡ after ++ n ∷ [] → All (λ m. m.1 ≤ n.1) after
none_higher lost after n ascends is k d less =
    let there : LostAscend (after ++ n ∷ []) = subst LostAscend is ascends in
    let order = there k (length after) d (omega (arith, less)) (omega (arith, long after n)) in
    let first : (get_or (after ++ n ∷ []) k d).1 ≡ (get_or after k d).1 = ap (λ (m : ℕ × ℕ). m.1) (at_left after (n ∷ []) k d less) in
    let last : (get_or (after ++ n ∷ []) (length after) d).1 ≡ n.1 = ap (λ (m : ℕ × ℕ). m.1) (at_last after n d) in
    omega (arith, order, first, last)

-- ---- one node after the other

module _ (e : Endian) (m : Mount) (all : List Stretch) (spots : BTreeSet ℕ) (nodes : List (ℕ × ℕ)) where
  abbrev pub is_same : ℕ → Bool
  is_same a = changes_nothing m.state all (stretch_at e m.image a)

  -- the nodes up to the last ones are left, and of these those are hidden that change nothing
  pub record Swept (lost : List (ℕ × ℕ)) (left : List Stretch) (bare numbers hidden : BTreeSet ℕ) : Type 0 where
    pub ascends : Ascends left
    pub nodes_ascend : LostAscend lost
    pub taken : All (λ n. Taken n.1 all spots left bare numbers) lost
    pub done : List (ℕ × ℕ)
    pub split : nodes ≡ lost ++ done
    pub each : All (λ n. is_same n.0 ≡ true → contains nat_cmp hidden n.0 ≡ true) done
    pub right : (a : ℕ) → contains nat_cmp hidden a ≡ true → is_same a ≡ true

  pub swept_none : (left : List Stretch) (bare numbers hidden : BTreeSet ℕ) → left ≡ all → bare ≡ spots → ((q : ℕ) → contains nat_cmp numbers q ≡ false) → ((q : ℕ) → contains nat_cmp hidden q ≡ false)
      → Ascends all → LostAscend nodes → Swept nodes left bare numbers hidden
  swept_none left bare numbers hidden same first none empty ascends nodes_ascend = record {
    ascends = subst Ascends (sym same) ascends;
    nodes_ascend = nodes_ascend;
    taken = λ k d less. record {
      taken = [];
      split = sym same ∙ sym (append-nil left);
      high = λ j s few. absurd (omega (arith, few));
      bare_are = λ c. ap (λ (b : BTreeSet ℕ). contains nat_cmp b c) first ∙ sym (both (contains nat_cmp spots c));
      numbers_are = none;
    };
    done = [];
    split = sym (append-nil nodes);
    each = λ k d less. absurd (omega (arith, less));
    right = λ a there. absurd (true≢false (sym there ∙ empty a));
  }
    where
      both : (b : Bool) → (b && true) ≡ b
      both true = refl
      both false = refl

  abbrev pub Notes : ℕ → BTreeSet ℕ → BTreeSet ℕ → Type 0
  Notes addr old new = (a : ℕ) → contains nat_cmp new a ≡ cond (eq_by_cmp nat_cmp addr a && is_same addr) true (contains nat_cmp old a)

  noted_itself : (addr : ℕ) (old new : BTreeSet ℕ) → Notes addr old new → is_same addr ≡ true → contains nat_cmp new addr ≡ true
  noted_itself addr old new notes same =
      notes addr ∙ ap (λ (b : Bool). cond (b && is_same addr) true (contains nat_cmp old addr)) ((eq_by_cmp_equiv nat_cmp_total).refl addr)
      ∙ ap (λ (b : Bool). cond b true (contains nat_cmp old addr)) same

  noted_more : (addr : ℕ) (old new : BTreeSet ℕ) (a : ℕ) → Notes addr old new → contains nat_cmp old a ≡ true → contains nat_cmp new a ≡ true
  noted_more addr old new a notes was = notes a ∙ ap (cond (eq_by_cmp nat_cmp addr a && is_same addr) true) was ∙ either (eq_by_cmp nat_cmp addr a && is_same addr)
    where
      either : (b : Bool) → cond b true true ≡ true
      either true = refl
      either false = refl

  noted_right : (addr : ℕ) (old new : BTreeSet ℕ) (a : ℕ) → Notes addr old new → (contains nat_cmp old a ≡ true → is_same a ≡ true) → contains nat_cmp new a ≡ true → is_same a ≡ true
  noted_right addr old new a notes before there = by (eq_by_cmp nat_cmp addr a) (is_same addr) refl refl
    where
      by : (b c : Bool) → eq_by_cmp nat_cmp addr a ≡ b → is_same addr ≡ c → is_same a ≡ true
      by true true p q = ap is_same (sym (tells_apart {R = nat_cmp} nat_cmp-IsAntisymmetric addr a p)) ∙ q
      by true false p q = before (sym (notes a ∙ ap (λ (b : Bool). cond (b && is_same addr) true (contains nat_cmp old a)) p ∙ ap (λ (b : Bool). cond b true (contains nat_cmp old a)) q) ∙ there)
      by false c p q = before (sym (notes a ∙ ap (λ (b : Bool). cond (b && is_same addr) true (contains nat_cmp old a)) p) ∙ there)

  pub swept_more : AreVersions e m.image nodes → HaveEnds spots all → HaveStarts e m.image spots nodes
      → (lost after : List (ℕ × ℕ)) (n : ℕ × ℕ) (left later : List Stretch) (bare bare_now numbers numbers_now hidden hidden_now : BTreeSet ℕ) → Swept lost left bare numbers hidden
      → lost ≡ after ++ n ∷ [] → after ≡ take (length lost - 1) lost
      → ((ss : List Stretch) (cs : BTreeSet ℕ) → Taken n.1 ss cs left bare numbers → Taken n.1 ss cs later bare_now numbers_now) → AreBelow n.1 later → Ascends later
      → ((ss : List Stretch) (cs : BTreeSet ℕ) (rest : List Stretch) → Taken (stretch_at e m.image n.0).version ss cs rest bare_now numbers_now
      → AreBelow (stretch_at e m.image n.0).version rest → HaveEnds cs ss → contains nat_cmp cs (spot_at e m.image n.0) ≡ true
      → (a : ℕ) → contains nat_cmp hidden_now a ≡ cond (eq_by_cmp nat_cmp n.0 a && changes_nothing m.state ss (stretch_at e m.image n.0)) true (contains nat_cmp hidden a))
      → Swept after later bare_now numbers_now hidden_now
  swept_more versions ends starts lost after n left later bare bare_now numbers numbers_now hidden hidden_now s is front takes low ascends notes = record {
    ascends = ascends;
    nodes_ascend = subst LostAscend (sym front) (IsNonDecreasingBy-take (λ l. l.1) (length lost - 1) lost s.nodes_ascend);
    taken = λ k d less. lower n.1 (get_or after k d).1 all later spots bare_now numbers_now (none_higher lost after n s.nodes_ascend is k d less) now;
    done = n ∷ s.done;
    split = whole;
    each = one_first (λ l. is_same l.0 ≡ true → contains nat_cmp hidden_now l.0 ≡ true) n s.done (noted_itself n.0 hidden hidden_now noted)
        (λ k d less same. noted_more n.0 hidden hidden_now (get_or s.done k d).0 noted (s.each k d less same));
    right = λ a there. noted_right n.0 hidden hidden_now a noted (s.right a) there;
  }
    where
      whole : nodes ≡ after ++ n ∷ s.done
      whole = s.split ∙ ap (λ (l : List (ℕ × ℕ)). l ++ s.done) is ∙ append_assoc after (n ∷ []) s.done

      of_node : (P : ℕ × ℕ → Type 0) → All P nodes → P n
      of_node P each = All-head P n s.done (each_right P after (n ∷ s.done) (subst (All P) whole each))

      now : Taken n.1 all spots later bare_now numbers_now
      now = takes all spots (of_last (λ l. Taken l.1 all spots left bare numbers) after n (subst (All (λ l. Taken l.1 all spots left bare numbers)) is s.taken))

      version : n.1 ≡ (stretch_at e m.image n.0).version
      version = of_node (λ l. l.1 ≡ (stretch_at e m.image l.0).version) versions

      noted : (a : ℕ) → contains nat_cmp hidden_now a ≡ cond (eq_by_cmp nat_cmp n.0 a && is_same n.0) true (contains nat_cmp hidden a)
      noted = notes all spots later (subst (λ (v : ℕ). Taken v all spots later bare_now numbers_now) version now) (subst (λ (v : ℕ). AreBelow v later) version low) ends
          (of_node (λ l. contains nat_cmp spots (spot_at e m.image l.0) ≡ true) starts)

  pub swept_all : (lost : List (ℕ × ℕ)) (left : List Stretch) (bare numbers hidden : BTreeSet ℕ) → Swept lost left bare numbers hidden → lost ≡ []
      → All (λ n. is_same n.0 ≡ true → contains nat_cmp hidden n.0 ≡ true) nodes
  swept_all lost left bare numbers hidden s none =
      subst (All (λ n. is_same n.0 ≡ true → contains nat_cmp hidden n.0 ≡ true)) (sym (s.split ∙ ap (λ (l : List (ℕ × ℕ)). l ++ s.done) none)) s.each

-- ---- the same in another order

any_moved : (p : Stretch → Bool) (xs ys : List Stretch) → IsPermutation xs ys → list_any p ys ≡ list_any p xs
any_moved p xs ys moved = sym (list_any-IsPermutation p xs ys moved)

same_moved : (s : State) (xs ys : List Stretch) (lost : Stretch) → IsPermutation xs ys → changes_nothing s ys lost ≡ changes_nothing s xs lost
unfolding hides_nothing is_replaced_below is_replaced
same_moved s xs ys lost moved =
    let end = min lost.to (size_at s lost.ino) in
    let at : (q : ℕ) → list_any (λ o. is_not_older lost o && has_place q o) ys ≡ list_any (λ o. is_not_older lost o && has_place q o) xs = λ q. any_moved (λ o. is_not_older lost o && has_place q o) xs ys moved in
    ap (λ (b : Bool). b && list_all (λ q. nat_lt q lost.from || list_any (λ o. is_not_older lost o && has_place q o) ys) (below end)) (any_moved (is_not_older lost) xs ys moved)
    ∙ ap (λ (f : ℕ → Bool). list_any (is_not_older lost) xs && list_all (λ q. nat_lt q lost.from || f q) (below end)) (fun_ext at)

abbrev is_data : Damage → Bool
is_data DataCrc = true
is_data NameCrc = false
is_data NodeCrc = false
is_data Length = false
is_data Range = false

module _ (e : Endian) (m : Mount) (sound sorted : List Stretch) (hidden : BTreeSet ℕ) where
  of_damaged : (damaged : List (ℕ × Damage)) (P : ℕ → Type 0) → All (λ l. P l.0) (filter_map (lost_if e m.image) damaged) → All (λ d. d.1 ≡ DataCrc → P d.0) damaged
  of_damaged [] P each = λ k d less. absurd (omega (arith, less))
  of_damaged ((addr, DataCrc) ∷ ds) P each =
      one_first (λ d. d.1 ≡ DataCrc → P d.0) (addr, DataCrc) ds (λ is. All-head (λ l. P l.0) (addr, (stretch_at e m.image addr).version) (filter_map (lost_if e m.image) ds) each)
      (of_damaged ds P (All-tail (λ l. P l.0) (addr, (stretch_at e m.image addr).version) (filter_map (lost_if e m.image) ds) each))
  of_damaged ((addr, NameCrc) ∷ ds) P each = one_first (λ d. d.1 ≡ DataCrc → P d.0) (addr, NameCrc) ds (λ is. absurd (false≢true (ap is_data is))) (of_damaged ds P each)
  of_damaged ((addr, NodeCrc) ∷ ds) P each = one_first (λ d. d.1 ≡ DataCrc → P d.0) (addr, NodeCrc) ds (λ is. absurd (false≢true (ap is_data is))) (of_damaged ds P each)
  of_damaged ((addr, Length) ∷ ds) P each = one_first (λ d. d.1 ≡ DataCrc → P d.0) (addr, Length) ds (λ is. absurd (false≢true (ap is_data is))) (of_damaged ds P each)
  of_damaged ((addr, Range) ∷ ds) P each = one_first (λ d. d.1 ≡ DataCrc → P d.0) (addr, Range) ds (λ is. absurd (false≢true (ap is_data is))) (of_damaged ds P each)

  pub all_hidden : (damaged : List (ℕ × Damage)) (found nodes : List (ℕ × ℕ)) → IsPermutation sound sorted → found ≡ filter_map (lost_if e m.image) damaged → IsPermutation found nodes
      → ((a : ℕ) → contains nat_cmp hidden a ≡ true → changes_nothing m.state sorted (stretch_at e m.image a) ≡ true)
      → All (λ l. changes_nothing m.state sorted (stretch_at e m.image l.0) ≡ true → contains nat_cmp hidden l.0 ≡ true) nodes → AreHidden e m sound hidden damaged
  all_hidden damaged found nodes moved are turned right each k d less is =
      by (contains nat_cmp hidden (get_or damaged k d).0) (changes_nothing m.state sorted (stretch_at e m.image (get_or damaged k d).0)) refl refl
      ∙ same_moved m.state sound sorted (stretch_at e m.image (get_or damaged k d).0) moved
    where
      a : ℕ
      a = (get_or damaged k d).0

      there : changes_nothing m.state sorted (stretch_at e m.image a) ≡ true → contains nat_cmp hidden a ≡ true
      there =
          of_damaged damaged (λ n. changes_nothing m.state sorted (stretch_at e m.image n) ≡ true → contains nat_cmp hidden n ≡ true)
          (subst (All (λ l. changes_nothing m.state sorted (stretch_at e m.image l.0) ≡ true → contains nat_cmp hidden l.0 ≡ true)) are
          (All-permutation (λ l. changes_nothing m.state sorted (stretch_at e m.image l.0) ≡ true → contains nat_cmp hidden l.0 ≡ true) nodes found (IsPermutation-sym found nodes turned) each))
          k d less is

      by : (b c : Bool) → contains nat_cmp hidden a ≡ b → changes_nothing m.state sorted (stretch_at e m.image a) ≡ c → contains nat_cmp hidden a ≡ changes_nothing m.state sorted (stretch_at e m.image a)
      by true c p q = p ∙ sym (right a p)
      by false true p q = absurd (false≢true (sym p ∙ there q))
      by false false p q = p ∙ sym q

-- ---- calls

pub lost_more : (f : ℕ × Damage → Option (ℕ × ℕ)) (xs : List (ℕ × Damage)) (i : ℕ) (d x : ℕ × Damage) (old new : List (ℕ × ℕ)) → i < length xs → x ≡ get_or xs i d → old ≡ filter_map f (take i xs)
    → new ≡ old ++ option_to_list (f x) → new ≡ filter_map f (take (i + 1) xs)
lost_more f xs i d x old new less is so_far more =
    more ∙ ap (λ (l : List (ℕ × ℕ)). l ++ option_to_list (f x)) so_far
    ∙ ap (λ (y : ℕ × Damage). filter_map f (take i xs) ++ option_to_list (f y)) is
    ∙ ap (λ (l : List (ℕ × ℕ)). filter_map f (take i xs) ++ l) (one (f (get_or xs i d)))
    ∙ sym (filter_map-append f (take i xs) (get_or xs i d ∷ [])) ∙ ap (filter_map f) (sym (take_more xs i d less))
  where
    one : (o : Option (ℕ × ℕ)) → option_to_list o ≡ cons_option o []
    one None = refl
    one (Some y) = refl

pub judged : (s : State) (node lost : Stretch) (size : ℕ) (all left : List Stretch) (spots bare numbers : BTreeSet ℕ) (result : Bool) → node ≡ lost → size ≡ size_at s node.ino
    → (Taken node.version all spots left bare numbers → AreBelow node.version left → HaveEnds spots all → contains nat_cmp spots (spot node.ino node.from) ≡ true → result ≡ hides_nothing all size node)
    → Taken lost.version all spots left bare numbers → AreBelow lost.version left → HaveEnds spots all → contains nat_cmp spots (spot lost.ino lost.from) ≡ true → result ≡ changes_nothing s all lost
judged s node lost size all left spots bare numbers result same large tells t low ends there =
    tells (subst (λ (n : Stretch). Taken n.version all spots left bare numbers) (sym same) t) (subst (λ (n : Stretch). AreBelow n.version left) (sym same) low) ends
    (subst (λ (n : Stretch). contains nat_cmp spots (spot n.ino n.from) ≡ true) (sym same) there)
    ∙ ap (λ (k : ℕ). hides_nothing all k node) large ∙ ap (changes_nothing s all) same

pub noted_yes : (old new : BTreeSet ℕ) (addr : ℕ) (b : Bool) → b ≡ true → ((q : ℕ) → contains nat_cmp new q ≡ cond (eq_by_cmp nat_cmp addr q) true (contains nat_cmp old q))
    → (a : ℕ) → contains nat_cmp new a ≡ cond (eq_by_cmp nat_cmp addr a && b) true (contains nat_cmp old a)
noted_yes old new addr b is adds a = adds a ∙ ap (λ (t : Bool). cond t true (contains nat_cmp old a)) (both (eq_by_cmp nat_cmp addr a) b is)
  where
    both : (x y : Bool) → y ≡ true → x ≡ (x && y)
    both true y is = sym is
    both false y is = refl

pub noted_no : (old : BTreeSet ℕ) (addr : ℕ) (b : Bool) → b ≡ false → (a : ℕ) → contains nat_cmp old a ≡ cond (eq_by_cmp nat_cmp addr a && b) true (contains nat_cmp old a)
noted_no old addr b is a = ap (λ (t : Bool). cond t true (contains nat_cmp old a)) (neither (eq_by_cmp nat_cmp addr a) b is)
  where
    neither : (x y : Bool) → y ≡ false → false ≡ (x && y)
    neither true y is = sym is
    neither false y is = refl

pub versions_of : (e : Endian) (image : List ℕ) (damaged : List (ℕ × Damage)) → AreVersions e image (filter_map (lost_if e image) damaged)
versions_of e image [] = λ k d less. absurd (omega (arith, less))
versions_of e image ((addr, DataCrc) ∷ ds) =
    one_first (λ l. l.1 ≡ (stretch_at e image l.0).version) (addr, (stretch_at e image addr).version) (filter_map (lost_if e image) ds) refl (versions_of e image ds)
versions_of e image ((addr, NameCrc) ∷ ds) = versions_of e image ds
versions_of e image ((addr, NodeCrc) ∷ ds) = versions_of e image ds
versions_of e image ((addr, Length) ∷ ds) = versions_of e image ds
versions_of e image ((addr, Range) ∷ ds) = versions_of e image ds

pub versions_sorted : (e : Endian) (image : List ℕ) (damaged : List (ℕ × Damage)) (found nodes : List (ℕ × ℕ)) → found ≡ filter_map (lost_if e image) damaged → IsPermutation found nodes → AreVersions e image nodes
versions_sorted e image damaged found nodes are turned =
    All-permutation (λ l. l.1 ≡ (stretch_at e image l.0).version) found nodes turned (subst (AreVersions e image) (sym are) (versions_of e image damaged))

pub ends_kept : (old new : BTreeSet ℕ) (ss sound : List Stretch) → ss ≡ sound → ((c : ℕ) → contains nat_cmp old c ≡ true → contains nat_cmp new c ≡ true) → HaveEnds old ss → HaveEnds new sound
ends_kept old new ss sound same keeps ends k d less = keeps _ ((subst (HaveEnds old) same ends) k d less)

pub starts_of : (e : Endian) (image other : List ℕ) (spots : BTreeSet ℕ) (ns nodes : List (ℕ × ℕ)) → image ≡ other → ns ≡ nodes → HaveStarts e image spots ns → HaveStarts e other spots nodes
starts_of e image other spots ns nodes same those starts = subst (HaveStarts e other spots) those (subst (λ (im : List ℕ). HaveStarts e im spots ns) same starts)

pub if_both : {X Y : Type 0} (r : Result X Y) (P Q R : X → Type 0) → ((x : X) → P x → Q x → R x) → IfOk r P → IfOk r Q → IfOk r R
if_both (Ok x) P Q R f a b = f x a b
if_both (Err y) P Q R f a b = a
