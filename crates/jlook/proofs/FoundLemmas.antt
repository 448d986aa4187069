-- The symlinks of a file system, while its objects are gone through.
use Rattle.std.proofs.Common.{◌≡◌, ℕ, ◌==◌, ◌&&◌, Bool, true, false, cond, List, [], ◌∷◌, Option, Some, None, refl, ap, sym, ◌∙◌, subst, inl, inr, ◌⊎◌, ⊎_elim}
use Rattle.std.specs.Prelude.{Contains}
use Rattle.std.specs.List.{list_any}
use Rattle.std.specs.Ordering.{eq_by_cmp, nat_cmp}
use Rattle.std.specs.Cmp.{nat_cmp_total, eq_by_cmp_equiv}
use Rattle.std.specs.BTreeSet.{BTreeSet, contains}
use Rattle.std.specs.FinMap.{entries, entries_sorted, get-entries, nat_cmp-IsAntisymmetric}
use Rattle.std.proofs.lemmas.Bool.{true≢false, false≢true}
use Rattle.std.proofs.lemmas.Map.Views.{tells_apart}
use Rattle.flashbase.proofs.MemberLemmas.{Contains-none, Contains-here, Contains-there, Contains-cases, Contains-map, Contains-map_from}
use Rattle.jname.proofs.ContentsByNameLemmas.{by_test}
use Rattle.jname.proofs.SortedLemmas.{Contains-from_find, find-from_Contains}
use Rattle.jmount.specs.Shown.{shown, objects_in}
use Rattle.jmount.specs.Tree.{ObjectOf, State, object, type_bits, has_bits, symlink_bits}
use Rattle.jmount.specs.declared.object.Object.{Object}
use Rattle.jlook.specs.Chosen.{symlinks_in}

-- ---- an object

link_by : (s : State) (e : ℕ × Object) → Contains (objects_in s) e → symlinks_in s e.0 ≡ (type_bits e.1.mode == symlink_bits)
link_by s e c =
    let found = Contains-map_from (λ (x : ℕ × ObjectOf (List ℕ)). (x.0, shown x.1)) (entries s.objects) e c in
    let is : object s found.0.0 ≡ Some found.0.1 = get-entries s.objects found.0.0 ∙ find-from_Contains nat_cmp nat_cmp_total (entries s.objects) found.0.0 found.0.1 (entries_sorted s.objects) found.1 in
    subst (λ (x : ℕ × Object). symlinks_in s x.0 ≡ (type_bits x.1.mode == symlink_bits)) found.2 (ap (has_bits symlink_bits) is)

some_link : (o : Option (ObjectOf (List ℕ))) → has_bits symlink_bits o ≡ true → (x : ObjectOf (List ℕ)) × (o ≡ Some x)
some_link None h = absurd (false≢true h)
some_link (Some x) h = (x, refl)

link_listed : (s : State) (i : ℕ) → symlinks_in s i ≡ true → (o : Object) × Contains (objects_in s) (i, o)
link_listed s i h =
    let some = some_link (object s i) h in (
      shown some.0,
      Contains-map (λ (x : ℕ × ObjectOf (List ℕ)). (x.0, shown x.1)) (entries s.objects) (i, some.0)
          (Contains-from_find nat_cmp nat_cmp-IsAntisymmetric (entries s.objects) i some.0 (sym (get-entries s.objects i) ∙ some.1)),
    )

-- ---- so far

-- these are the symlinks among the objects so far
pub record AreFound (s : State) (rest : List (ℕ × Object)) (numbers : BTreeSet ℕ) : Type 0 where
  pub there : (i : ℕ) → contains nat_cmp numbers i ≡ true → symlinks_in s i ≡ true
  pub among : (e : ℕ × Object) → Contains rest e → Contains (objects_in s) e
  pub each : (e : ℕ × Object) → Contains (objects_in s) e → symlinks_in s e.0 ≡ true → (contains nat_cmp numbers e.0 ≡ true) ⊎ Contains rest e

pub none_is : (numbers : BTreeSet ℕ) (i : ℕ) → numbers.keys ≡ [] → contains nat_cmp numbers i ≡ false
none_is numbers i empty = ap (λ (ks : List ℕ). list_any (eq_by_cmp nat_cmp i) ks) empty

pub none_found : (s : State) (rest : List (ℕ × Object)) (numbers : BTreeSet ℕ) → rest ≡ objects_in s → numbers.keys ≡ [] → AreFound s rest numbers
none_found s rest numbers is empty = record {
  there = λ i h. absurd (true≢false (sym h ∙ none_is numbers i empty));
  among = λ e c. subst (λ (es : List (ℕ × Object)). Contains es e) is c;
  each = λ e c link. inr (subst (λ (es : List (ℕ × Object)). Contains es e) (sym is) c);
}

either_true : (b c : Bool) → c ≡ true → cond b true c ≡ true
either_true true c h = refl
either_true false c h = h

pub one_found : (s : State) (all rest : List (ℕ × Object)) (x : ℕ × Object) (old new : BTreeSet ℕ) → all ≡ x ∷ rest
    → ((q : ℕ) → contains nat_cmp new q ≡ cond (eq_by_cmp nat_cmp x.0 q) true (contains nat_cmp old q))
    → (type_bits x.1.mode == symlink_bits) ≡ true → AreFound s all old → AreFound s rest new
one_found s all rest x old new is u link so_far = record {
  there = λ i h.
      by_test (eq_by_cmp nat_cmp x.0 i)
      (λ t. ap (symlinks_in s) (sym (tells_apart nat_cmp-IsAntisymmetric x.0 i t)) ∙ link_by s x (so_far.among x (subst (λ (es : List (ℕ × Object)). Contains es x) (sym is) (Contains-here x rest))) ∙ link)
      (λ f. so_far.there i (sym (ap (λ (b : Bool). cond b true (contains nat_cmp old i)) f) ∙ sym (u i) ∙ h));
  among = λ e c. so_far.among e (subst (λ (es : List (ℕ × Object)). Contains es e) (sym is) (Contains-there x rest e c));
  each = λ e c is_link.
      ⊎_elim
      (λ (h : contains nat_cmp old e.0 ≡ true). inl (u e.0 ∙ either_true (eq_by_cmp nat_cmp x.0 e.0) (contains nat_cmp old e.0) h))
      (λ coming.
      ⊎_elim
      (λ (same : x ≡ e). inl (u e.0 ∙ ap (λ (b : Bool). cond b true (contains nat_cmp old e.0)) (ap (λ (y : ℕ × Object). eq_by_cmp nat_cmp x.0 y.0) (sym same) ∙ (eq_by_cmp_equiv nat_cmp_total).refl x.0)))
      (λ later. inr later)
      (Contains-cases x rest e (subst (λ (es : List (ℕ × Object)). Contains es e) is coming)))
      (so_far.each e c is_link);
}

pub one_passed : (s : State) (all rest : List (ℕ × Object)) (x : ℕ × Object) (old : BTreeSet ℕ) → all ≡ x ∷ rest
    → (type_bits x.1.mode == symlink_bits) ≡ false → AreFound s all old → AreFound s rest old
one_passed s all rest x old is link so_far = record {
  there = so_far.there;
  among = λ e c. so_far.among e (subst (λ (es : List (ℕ × Object)). Contains es e) (sym is) (Contains-there x rest e c));
  each = λ e c is_link.
      ⊎_elim
      (λ (h : contains nat_cmp old e.0 ≡ true). inl h)
      (λ coming.
      ⊎_elim
      (λ (same : x ≡ e). absurd (true≢false (sym is_link ∙ link_by s e c ∙ ap (λ (y : ℕ × Object). type_bits y.1.mode == symlink_bits) (sym same) ∙ link)))
      (λ later. inr later)
      (Contains-cases x rest e (subst (λ (es : List (ℕ × Object)). Contains es e) is coming)))
      (so_far.each e c is_link);
}

-- ---- a number that is added, if it is that of a symlink

pub added_none : (ino : ℕ) (numbers : BTreeSet ℕ) (link : Bool) → link ≡ false → (i : ℕ)
    → contains nat_cmp numbers i ≡ cond (eq_by_cmp nat_cmp ino i && link) true (contains nat_cmp numbers i)
added_none ino numbers link isnt i = by (eq_by_cmp nat_cmp ino i) ∙ sym (ap (λ (l : Bool). cond (eq_by_cmp nat_cmp ino i && l) true (contains nat_cmp numbers i)) isnt)
  where
    by : (b : Bool) → contains nat_cmp numbers i ≡ cond (b && false) true (contains nat_cmp numbers i)
    by true = refl
    by false = refl

pub added_one : (ino : ℕ) (old new : BTreeSet ℕ) (link : Bool) → link ≡ true
    → ((q : ℕ) → contains nat_cmp new q ≡ cond (eq_by_cmp nat_cmp ino q) true (contains nat_cmp old q)) → (i : ℕ)
    → contains nat_cmp new i ≡ cond (eq_by_cmp nat_cmp ino i && link) true (contains nat_cmp old i)
added_one ino old new link is gains i =
    gains i ∙ by (eq_by_cmp nat_cmp ino i) ∙ sym (ap (λ (l : Bool). cond (eq_by_cmp nat_cmp ino i && l) true (contains nat_cmp old i)) is)
  where
    by : (b : Bool) → cond b true (contains nat_cmp old i) ≡ cond (b && true) true (contains nat_cmp old i)
    by true = refl
    by false = refl

pub next_found : (s : State) (all rest : List (ℕ × Object)) (x : ℕ × Object) (old new : BTreeSet ℕ) → all ≡ x ∷ rest
    → ((i : ℕ) → contains nat_cmp new i ≡ cond (eq_by_cmp nat_cmp x.0 i && (type_bits x.1.mode == symlink_bits)) true (contains nat_cmp old i))
    → AreFound s all old → AreFound s rest new
next_found s all rest x old new is adds so_far =
    by_test (type_bits x.1.mode == symlink_bits)
    (λ t.
    one_found s all rest x old new is
    (λ i. adds i ∙ ap (λ (l : Bool). cond (eq_by_cmp nat_cmp x.0 i && l) true (contains nat_cmp old i)) t ∙ sym (with_true (eq_by_cmp nat_cmp x.0 i) (contains nat_cmp old i))) t so_far)
    (λ f.
    same_found s rest old new
    (λ i. adds i ∙ ap (λ (l : Bool). cond (eq_by_cmp nat_cmp x.0 i && l) true (contains nat_cmp old i)) f ∙ sym (with_false (eq_by_cmp nat_cmp x.0 i) (contains nat_cmp old i)))
    (one_passed s all rest x old is f so_far))
  where
    with_true : (b c : Bool) → cond b true c ≡ cond (b && true) true c
    with_true true c = refl
    with_true false c = refl

    with_false : (b c : Bool) → c ≡ cond (b && false) true c
    with_false true c = refl
    with_false false c = refl

    same_found : (s : State) (rest : List (ℕ × Object)) (old new : BTreeSet ℕ) → ((i : ℕ) → contains nat_cmp new i ≡ contains nat_cmp old i) → AreFound s rest old → AreFound s rest new
    same_found s rest old new same so_far = record {
      there = λ i h. so_far.there i (sym (same i) ∙ h);
      among = so_far.among;
      each = λ e c link.
          ⊎_elim
          (λ (h : contains nat_cmp old e.0 ≡ true). inl (same e.0 ∙ h))
          (λ coming. inr coming)
          (so_far.each e c link);
    }

both_or_none : (a b : Bool) → (a ≡ true → b ≡ true) → (b ≡ true → a ≡ true) → a ≡ b
both_or_none true b h k = sym (h refl)
both_or_none false true h k = k refl
both_or_none false false h k = refl

pub all_found : (s : State) (rest : List (ℕ × Object)) (numbers : BTreeSet ℕ) → rest ≡ [] → AreFound s rest numbers → (i : ℕ) → contains nat_cmp numbers i ≡ symlinks_in s i
all_found s rest numbers none so_far i =
    both_or_none (contains nat_cmp numbers i) (symlinks_in s i) (so_far.there i)
    (λ link.
    let at = link_listed s i link in
    ⊎_elim
    (λ (h : contains nat_cmp numbers i ≡ true). h)
    (λ coming. absurd (Contains-none (i, at.0) (subst (λ (es : List (ℕ × Object)). Contains es (i, at.0)) none coming)))
    (so_far.each (i, at.0) at.1 link))
