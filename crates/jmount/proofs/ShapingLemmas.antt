-- The names of directories that were read, and the directories that are taken out.
use Rattle.std.proofs.Common.{◌≡◌, ◌≢◌, ℕ, Bool, true, false, cond, not, Decides, List, [], ◌∷◌, ◌++◌, map, length, Option, Some, None, refl, ap, sym, ◌∙◌, subst, inl, inr, ◌⊎◌, ⊎_elim, arith}
use Rattle.std.specs.Prelude.{Contains, T, filter, ◌==◌, ◌&&◌, ◌||◌}
use Rattle.std.specs.declared.cmp.Ordering.TheVariants.{Less, Equal}
use Rattle.std.specs.List.{list_any}
use Rattle.std.specs.Ordering.{eq_by_cmp, nat_cmp, is_lt}
use Rattle.std.specs.Cmp.{nat_cmp_total, eq_by_cmp_equiv, tied_itself}
use Rattle.std.specs.BTreeSet.{BTreeSet, contains}
use Rattle.std.specs.FinMap.{entries, entries_sorted, get-entries, nat_cmp-IsAntisymmetric}
use Rattle.std.specs.FinMap.Entries.{below_all, is_sorted}
use Rattle.std.proofs.lemmas.Bool.{eqb-true, eq-eqb, ne_eqb, true≢false, false≢true}
use Rattle.std.proofs.lemmas.List.{append_assoc, append-nil}
use Rattle.std.proofs.lemmas.List.Elements.{Contains-append_left, Contains-append_right, Contains-append_cases}
use Rattle.std.proofs.lemmas.Map.Views.{tells_apart, Contains-from_any, list_any-from_Contains}
use Rattle.std.proofs.lemmas.Option.{same_Some}
use Rattle.jname.specs.Live.{Key, key_cmp}
use Rattle.jname.proofs.ContentsByNameLemmas.{by_test}
use Rattle.flashbase.proofs.MemberLemmas.{Contains-none, Contains-here, Contains-there, Contains-cases, Contains-map, Contains-map_from, Contains-filter, Contains-filter_from}
use Rattle.jname.proofs.NamingLemmas.{key_cmp_total}
use Rattle.jname.proofs.SortedLemmas.{T_first, T_second, below_all-at, Contains-from_find}
use Rattle.jmount.specs.Tree.{ObjectOf, State, object, named, is_directory, has_bits, directory_bits, entries_in, all_entries}
use Rattle.jmount.specs.Shown.{shown, objects_in}
use Rattle.jmount.specs.declared.object.Object.{Object}
use Rattle.jmount.specs.Shape.{IsSingle, HasShape}
use Rattle.jmount.specs.ShapeForm.{IsOnLoop, Holds}
use Rattle.jmount.specs.Shaping.{IsBelow, IsHeld, IsPeeled, AreGone, NamesOf, IsPeeledUpTo, others, is_root_held}
use Rattle.jmount.proofs.ShapeFormLemmas.{held_on_loop, held_is_loop, loops_are_of_directories, no_loop_is_shape, shape_has_no_loop}
use Rattle.jmount.proofs.ShapeOfLemmas.{listed, named_by, any_from, any_to}

-- ---- sets

pub in_keys : (set : BTreeSet ℕ) (i : ℕ) → contains nat_cmp set i ≡ true → Contains set.keys i
in_keys set i h = Contains-from_any {eq = eq_by_cmp nat_cmp} (tells_apart {R = nat_cmp} nat_cmp-IsAntisymmetric) i set.keys h

pub from_keys : (set : BTreeSet ℕ) (i : ℕ) → Contains set.keys i → contains nat_cmp set i ≡ true
from_keys set i h = list_any-from_Contains {eq = eq_by_cmp nat_cmp} (eq_by_cmp_equiv nat_cmp_total) i set.keys h

same_number : (i j : ℕ) → eq_by_cmp nat_cmp i j ≡ true → i ≡ j
same_number i j h = tells_apart {R = nat_cmp} nat_cmp-IsAntisymmetric i j h

itself : (i : ℕ) → eq_by_cmp nat_cmp i i ≡ true
itself i = (eq_by_cmp_equiv nat_cmp_total).refl i

pub not_false : (b : Bool) → not b ≡ false → b ≡ true
not_false true h = refl
not_false false h = absurd (true≢false h)

pub not_true : (b : Bool) → not b ≡ true → b ≡ false
not_true true h = absurd (false≢true h)
not_true false h = refl

-- a set with one number more, and with one less
abbrev pub Gains : BTreeSet ℕ → BTreeSet ℕ → ℕ → Type 0
Gains old new k = (q : ℕ) → contains nat_cmp new q ≡ cond (eq_by_cmp nat_cmp k q) true (contains nat_cmp old q)

abbrev pub Loses : BTreeSet ℕ → BTreeSet ℕ → ℕ → Type 0
Loses old new k = (q : ℕ) → contains nat_cmp new q ≡ cond (eq_by_cmp nat_cmp k q) false (contains nat_cmp old q)

pub gained : (old new : BTreeSet ℕ) (k q : ℕ) → Gains old new k → contains nat_cmp new q ≡ true → (k ≡ q) ⊎ (contains nat_cmp old q ≡ true)
gained old new k q u h = by_test (eq_by_cmp nat_cmp k q) (λ t. inl (same_number k q t)) (λ f. inr (sym (u q ∙ ap (λ (b : Bool). cond b true (contains nat_cmp old q)) f) ∙ h))

pub gains_it : (old new : BTreeSet ℕ) (k : ℕ) → Gains old new k → contains nat_cmp new k ≡ true
gains_it old new k u = u k ∙ ap (λ (b : Bool). cond b true (contains nat_cmp old k)) (itself k)

either_true : (b c : Bool) → c ≡ true → cond b true c ≡ true
either_true true c h = refl
either_true false c h = h

pub gains_more : (old new : BTreeSet ℕ) (k q : ℕ) → Gains old new k → contains nat_cmp old q ≡ true → contains nat_cmp new q ≡ true
gains_more old new k q u h = u q ∙ either_true (eq_by_cmp nat_cmp k q) (contains nat_cmp old q) h

loses_it : (old new : BTreeSet ℕ) (k : ℕ) → Loses old new k → contains nat_cmp new k ≡ false
loses_it old new k u = u k ∙ ap (λ (b : Bool). cond b false (contains nat_cmp old k)) (itself k)

kept_before : (b c : Bool) → cond b false c ≡ true → (b ≡ false) × (c ≡ true)
kept_before true c h = absurd (false≢true h)
kept_before false c h = (refl, h)

was_left : (old new : BTreeSet ℕ) (k q : ℕ) → Loses old new k → contains nat_cmp new q ≡ true → (k ≢ q) × (contains nat_cmp old q ≡ true)
was_left old new k q u h =
    let parts = kept_before (eq_by_cmp nat_cmp k q) (contains nat_cmp old q) (sym (u q) ∙ h) in
    (λ is. true≢false (sym (itself k) ∙ ap (eq_by_cmp nat_cmp k) is ∙ parts.0), parts.1)

is_or_stays : (old new : BTreeSet ℕ) (k q : ℕ) → Loses old new k → contains nat_cmp old q ≡ true → (k ≡ q) ⊎ (contains nat_cmp new q ≡ true)
is_or_stays old new k q u h = by_test (eq_by_cmp nat_cmp k q) (λ t. inl (same_number k q t)) (λ f. inr (u q ∙ ap (λ (b : Bool). cond b false (contains nat_cmp old q)) f ∙ h))

either_false : (b c : Bool) → c ≡ false → cond b false c ≡ false
either_false true c h = refl
either_false false c h = h

loses_none : (old new : BTreeSet ℕ) (k q : ℕ) → Loses old new k → contains nat_cmp old q ≡ false → contains nat_cmp new q ≡ false
loses_none old new k q u h = u q ∙ either_false (eq_by_cmp nat_cmp k q) (contains nat_cmp old q) h

-- ---- all names

abbrev pub Name : Type 0
Name = ℕ × List ℕ × ℕ

abbrev flat : Key × ℕ → Name
flat e = (e.0.0, e.0.1, e.1)

pub in_all : (s : State) (d : ℕ) (n : List ℕ) (i : ℕ) → named s d n ≡ Some i → Contains (all_entries s) (d, n, i)
in_all s d n i e = Contains-map flat (entries s.names) ((d, n), i) (listed s d n i e)

pub of_all : (s : State) (e : Name) → Contains (all_entries s) e → named s e.0 e.1 ≡ Some e.2
of_all s e there =
    let found = Contains-map_from flat (entries s.names) e there in
    subst (λ (e : Name). named s e.0 e.1 ≡ Some e.2) found.2 (named_by s found.0.0 found.0.1 found.1)

-- no name comes twice
pub not_again : (es : List (Key × ℕ)) → T (is_sorted key_cmp es) → (done rest : List Name) (e x : Name) → map flat es ≡ done ++ x ∷ rest → Contains done e → e.0 ≡ x.0 → e.1 ≡ x.1 → ⊥
not_again es sorted [] rest e x is there same_dir same_name = Contains-none e there
not_again [] sorted (d ∷ done) rest e x is there same_dir same_name = nothing (done ++ x ∷ rest) is
  where
    nothing : (xs : List Name) → ◌≡◌ {A = List Name} [] (d ∷ xs) → ⊥
    nothing xs h = cc
not_again (f ∷ es) sorted (d ∷ done) rest e x is there same_dir same_name =
    let first : flat f ≡ d = cc in
    let later : map flat es ≡ done ++ x ∷ rest = cc in
    ⊎_elim
    (λ (here : d ≡ e).
    let found = Contains-map_from flat es x (subst (λ (xs : List Name). Contains xs x) (sym later) (Contains-append_right done (x ∷ rest) x (Contains-here x rest))) in
    let g = found.0 in
    let key : f.0 ≡ g.0 =
    (let one : flat f ≡ e = first ∙ here in
    let a : f.0.0 ≡ g.0.0 = ap (λ (n : Name). n.0) one ∙ same_dir ∙ sym (ap (λ (n : Name). n.0) found.2) in
    let b : f.0.1 ≡ g.0.1 = ap (λ (n : Name). n.1) one ∙ same_name ∙ sym (ap (λ (n : Name). n.1) found.2) in
    λ j. (a j, b j)) in
    let less : key_cmp f.0 g.0 ≡ Less = below_all-at key_cmp f.0 es g (T_first (below_all key_cmp f.0 es) (is_sorted key_cmp es) sorted) found.1 in
    let equal : Less ≡ Equal = sym less ∙ ap (key_cmp f.0) (sym key) ∙ tied_itself key_cmp_total f.0 in
    absurd (false≢true (sym (ap is_lt equal))))
    (λ before. not_again es (T_second (below_all key_cmp f.0 es) (is_sorted key_cmp es) sorted) done rest e x later before same_dir same_name)
    (Contains-cases d done e there)

-- ---- second names

-- of the names that were read, each that a directory other than the root has, once
pub record AreNoted (s : State) (done rest : List Name) (noted : BTreeSet ℕ) : Type 0 where
  pub all : all_entries s ≡ done ++ rest
  pub seen : (i : ℕ) → contains nat_cmp noted i ≡ true → (e : Name) × Contains done e × (e.2 ≡ i)
  pub each : (e : Name) → Contains done e → IsBelow s e.2 → contains nat_cmp noted e.2 ≡ true
  pub single : (e f : Name) → Contains done e → Contains done f → e.2 ≡ f.2 → IsBelow s e.2 → (e.0 ≡ f.0) × (e.1 ≡ f.1)

pub none_is : (set : BTreeSet ℕ) (i : ℕ) → set.keys ≡ [] → contains nat_cmp set i ≡ true → ⊥
none_is set i empty h = Contains-none i (subst (λ (ks : List ℕ). Contains ks i) empty (in_keys set i h))

pub none_noted : (s : State) (rest : List Name) (noted : BTreeSet ℕ) → rest ≡ all_entries s → noted.keys ≡ [] → AreNoted s [] rest noted
none_noted s rest noted is empty = record {
  all = sym is;
  seen = λ i h. absurd (none_is noted i empty h);
  each = λ e there below. absurd (Contains-none e there);
  single = λ e f there. absurd (Contains-none e there);
}

pub one_of : (done : List Name) (x e : Name) → Contains (done ++ x ∷ []) e → Contains done e ⊎ (x ≡ e)
one_of done x e there = ⊎_elim (λ before. inl before) (λ last. ⊎_elim (λ is. inr is) (λ none. absurd (Contains-none e none)) (Contains-cases x [] e last)) (Contains-append_cases done (x ∷ []) e there)

moved : (s : State) (done rest : List Name) (x : Name) → all_entries s ≡ done ++ x ∷ rest → all_entries s ≡ (done ++ x ∷ []) ++ rest
moved s done rest x is = is ∙ sym (append_assoc done (x ∷ []) rest)

-- a name of something else
pub passed_over : (s : State) (done all rest : List Name) (x : Name) (noted : BTreeSet ℕ) → all ≡ x ∷ rest → (IsBelow s x.2 → ⊥) → AreNoted s done all noted → AreNoted s (done ++ x ∷ []) rest noted
passed_over s done all rest x noted is other so_far = record {
  all = moved s done rest x (so_far.all ∙ ap (λ (xs : List Name). done ++ xs) is);
  seen = λ i h. let found = so_far.seen i h in (found.0, Contains-append_left done (x ∷ []) found.0 found.1, found.2);
  each = λ e there below. ⊎_elim (λ before. so_far.each e before below) (λ (same : x ≡ e). absurd (other (subst (λ (e : Name). IsBelow s e.2) (sym same) below))) (one_of done x e there);
  single = λ e f in_e in_f number below.
      ⊎_elim
      (λ before.
      ⊎_elim (λ also. so_far.single e f before also number below)
      (λ (same : x ≡ f). absurd (other (subst (IsBelow s) (number ∙ sym (ap (λ (e : Name). e.2) same)) below)))
      (one_of done x f in_f))
      (λ (same : x ≡ e). absurd (other (subst (λ (e : Name). IsBelow s e.2) (sym same) below)))
      (one_of done x e in_e);
}

-- the first of a directory
pub noted_once : (s : State) (done all rest : List Name) (x : Name) (old new : BTreeSet ℕ) → all ≡ x ∷ rest → contains nat_cmp old x.2 ≡ false → Gains old new x.2 → AreNoted s done all old → AreNoted s (done ++ x ∷ []) rest new
noted_once s done all rest x old new is fresh u so_far = record {
  all = moved s done rest x (so_far.all ∙ ap (λ (xs : List Name). done ++ xs) is);
  seen = λ i h.
      ⊎_elim
      (λ (here : x.2 ≡ i). (x, Contains-append_right done (x ∷ []) x (Contains-here x []), here))
      (λ before. let found = so_far.seen i before in (found.0, Contains-append_left done (x ∷ []) found.0 found.1, found.2))
      (gained old new x.2 i u h);
  each = λ e there below.
      ⊎_elim
      (λ before. gains_more old new x.2 e.2 u (so_far.each e before below))
      (λ (same : x ≡ e). subst (λ (e : Name). contains nat_cmp new e.2 ≡ true) same (gains_it old new x.2 u))
      (one_of done x e there);
  single = λ e f in_e in_f number below.
      ⊎_elim
      (λ before.
      ⊎_elim (λ also. so_far.single e f before also number below)
      (λ (same : x ≡ f). absurd (false≢true (sym fresh ∙ ap (contains nat_cmp old) (ap (λ (e : Name). e.2) same ∙ sym number) ∙ so_far.each e before below)))
      (one_of done x f in_f))
      (λ (same : x ≡ e).
      ⊎_elim
      (λ before. absurd (false≢true (sym fresh ∙ ap (contains nat_cmp old) (ap (λ (e : Name). e.2) same ∙ number) ∙ so_far.each f before (subst (IsBelow s) number below))))
      (λ (also : x ≡ f). (ap (λ (e : Name). e.0) (sym same ∙ also), ap (λ (e : Name). e.1) (sym same ∙ also)))
      (one_of done x f in_f))
      (one_of done x e in_e);
}

-- the second of one
pub noted_twice : (s : State) (done all rest : List Name) (x : Name) (noted : BTreeSet ℕ) → all ≡ x ∷ rest → contains nat_cmp noted x.2 ≡ true → IsBelow s x.2 → AreNoted s done all noted → IsSingle s → ⊥
noted_twice s done all rest x noted is again below so_far single =
    let found = so_far.seen x.2 again in
    let e = found.0 in
    let split : all_entries s ≡ done ++ x ∷ rest = so_far.all ∙ ap (λ (xs : List Name). done ++ xs) is in
    let in_e = subst (λ (xs : List Name). Contains xs e) (sym split) (Contains-append_left done (x ∷ rest) e found.1) in
    let in_x = subst (λ (xs : List Name). Contains xs x) (sym split) (Contains-append_right done (x ∷ rest) x (Contains-here x rest)) in
    let one = single e.0 x.0 e.1 x.1 x.2 (of_all s e in_e ∙ ap Some found.2) (of_all s x in_x) below.1 below.0 in
    not_again (entries s.names) (entries_sorted s.names) done rest e x split found.1 one.0 one.1

pub all_noted : (s : State) (done : List Name) (noted : BTreeSet ℕ) → AreNoted s done [] noted → IsSingle s
all_noted s done noted so_far a b m n i e f there other =
    let whole : all_entries s ≡ done = so_far.all ∙ append-nil done in
    so_far.single (a, m, i) (b, n, i) (subst (λ (xs : List Name). Contains xs (a, m, i)) whole (in_all s a m i e)) (subst (λ (xs : List Name). Contains xs (b, n, i)) whole (in_all s b n i f)) refl
    (other, there)

-- ---- held directories

pub record AreHeld (s : State) (done rest : List Name) (set : BTreeSet ℕ) : Type 0 where
  pub all : all_entries s ≡ done ++ rest
  pub held : (i : ℕ) → contains nat_cmp set i ≡ true → IsHeld s i
  pub each : (e : Name) → Contains done e → IsBelow s e.2 → is_directory s e.0 ≡ true → contains nat_cmp set e.2 ≡ true

pub none_held : (s : State) (rest : List Name) (held : BTreeSet ℕ) → rest ≡ all_entries s → held.keys ≡ [] → AreHeld s [] rest held
none_held s rest held is empty = record { all = sym is; held = λ i h. absurd (none_is held i empty h); each = λ e there. absurd (Contains-none e there) }

pub not_held : (s : State) (done all rest : List Name) (x : Name) (held : BTreeSet ℕ) → all ≡ x ∷ rest → (IsBelow s x.2 → is_directory s x.0 ≡ true → ⊥) → AreHeld s done all held → AreHeld s (done ++ x ∷ []) rest held
not_held s done all rest x held is other so_far = record {
  all = moved s done rest x (so_far.all ∙ ap (λ (xs : List Name). done ++ xs) is);
  held = so_far.held;
  each = λ e there below dir.
      ⊎_elim (λ before. so_far.each e before below dir)
      (λ (same : x ≡ e). absurd (other (subst (λ (e : Name). IsBelow s e.2) (sym same) below) (subst (λ (e : Name). is_directory s e.0 ≡ true) (sym same) dir)))
      (one_of done x e there);
}

pub one_held : (s : State) (done all rest : List Name) (x : Name) (old new : BTreeSet ℕ) → all ≡ x ∷ rest → IsBelow s x.2 → is_directory s x.0 ≡ true → Gains old new x.2 → AreHeld s done all old → AreHeld s (done ++ x ∷ []) rest new
one_held s done all rest x old new is below dir u so_far =
    let split : all_entries s ≡ done ++ x ∷ rest = so_far.all ∙ ap (λ (xs : List Name). done ++ xs) is in
    let in_x = subst (λ (xs : List Name). Contains xs x) (sym split) (Contains-append_right done (x ∷ rest) x (Contains-here x rest)) in
    record {
      all = moved s done rest x split;
      held = λ i h.
          ⊎_elim
          (λ (here : x.2 ≡ i). subst (IsHeld s) here (below, (x.0, (x.1, dir, of_all s x in_x))))
          (λ before. so_far.held i before)
          (gained old new x.2 i u h);
      each = λ e there below_e dir_e.
          ⊎_elim
          (λ before. gains_more old new x.2 e.2 u (so_far.each e before below_e dir_e))
          (λ (same : x ≡ e). subst (λ (e : Name). contains nat_cmp new e.2 ≡ true) same (gains_it old new x.2 u))
          (one_of done x e there);
    }

pub all_held : (s : State) (done : List Name) (held : BTreeSet ℕ) → AreHeld s done [] held → (i : ℕ) → Decides (contains nat_cmp held i) (IsHeld s i)
all_held s done held so_far i = (
  λ h. so_far.held i h,
  λ is.
      let whole : all_entries s ≡ done = so_far.all ∙ append-nil done in
      let dir = is.1.0 in
      let holds = is.1.1 in
      so_far.each (dir, holds.0, i) (subst (λ (xs : List Name). Contains xs (dir, holds.0, i)) whole (in_all s dir holds.0 i holds.2)) is.0 holds.1,
)

-- ---- directories are taken out

-- the names of the one that is read, from one of them on, and those of others
abbrev pub NamesFrom : ℕ → List (List ℕ × ℕ) → List ℕ → ℕ → List ℕ → Type 0
NamesFrom reading rest above dir name = Contains above dir ⊎ ((dir ≡ reading) × Contains (map (λ e. e.0) rest) name)

-- within a directory
pub record IsReading (s : State) (apart : ℕ → Bool) (dir : ℕ) (rest : List (List ℕ × ℕ)) (above : List ℕ) (left : BTreeSet ℕ) : Type 0 where
  pub peeled : IsPeeled s apart (NamesFrom dir rest above) left
  pub gone : AreGone apart left (dir ∷ above)
  pub names : (e : List ℕ × ℕ) → Contains rest e → named s dir e.0 ≡ Some e.1

-- what is still to come may be said in another way, of names of what is left
other_words : (s : State) (apart : ℕ → Bool) (A B : ℕ → List ℕ → Type 0) (left : BTreeSet ℕ)
    → ((d : ℕ) (n : List ℕ) (i : ℕ) → contains nat_cmp left i ≡ true → named s d n ≡ Some i → A d n → B d n) → IsPeeled s apart A left → IsPeeled s apart B left
other_words s apart A B left so is = record {
  single = is.single;
  loops = is.loops;
  below = is.below;
  held = λ i h.
      let by = is.held i h in (
        by.0,
        by.1,
        by.2,
        by.3,
        ⊎_elim
            (λ (kept : apart by.0 ≡ true). inl kept)
            (λ (rest : (contains nat_cmp left by.0 ≡ true) ⊎ A by.0 by.1). ⊎_elim (λ also. inr (inl also)) (λ coming. inr (inr (so by.0 by.1 i h by.3 coming))) rest)
            by.4,
      );
}

in_entries : (s : State) (d : ℕ) (n : List ℕ) (i : ℕ) → named s d n ≡ Some i → Contains (entries_in s d) (n, i)
in_entries s d n i e =
    Contains-map (λ (e : Key × ℕ). (e.0.1, e.1)) (filter (λ (e : Key × ℕ). e.0.0 == d) (entries s.names)) ((d, n), i)
    (Contains-filter (λ (e : Key × ℕ). e.0.0 == d) (entries s.names) ((d, n), i) (eq-eqb d d refl) (listed s d n i e))

of_entries : (s : State) (d : ℕ) (e : List ℕ × ℕ) → Contains (entries_in s d) e → named s d e.0 ≡ Some e.1
of_entries s d e there =
    let found = Contains-map_from (λ (e : Key × ℕ). (e.0.1, e.1)) (filter (λ (e : Key × ℕ). e.0.0 == d) (entries s.names)) e there in
    let entry = Contains-filter_from (λ (e : Key × ℕ). e.0.0 == d) (entries s.names) found.0 found.1 in
    let dir : found.0.0.0 ≡ d = eqb-true found.0.0.0 d entry.1 in
    subst (λ (e : List ℕ × ℕ). named s d e.0 ≡ Some e.1) found.2 (subst (λ (d : ℕ). named s d found.0.0.1 ≡ Some found.0.1) dir (named_by s found.0.0 found.0.1 entry.0))

-- the next directory is read
pub begins_to_read : (s : State) (apart : ℕ → Bool) (dir : ℕ) (all above : List ℕ) (names : List (List ℕ × ℕ)) (left : BTreeSet ℕ) → all ≡ above ++ dir ∷ [] → names ≡ entries_in s dir
    → IsPeeledUpTo s apart all left → IsReading s apart dir names above left
begins_to_read s apart dir all above names left is all_names up_to = record {
  peeled = other_words s apart (NamesOf all) (NamesFrom dir names above) left
      (λ d n i h e coming.
      ⊎_elim (λ before. inl before)
      (λ last.
      ⊎_elim
      (λ (same : dir ≡ d).
      inr (
        sym same,
        subst (λ (es : List (List ℕ × ℕ)). Contains (map (λ (e : List ℕ × ℕ). e.0) es) n) (sym all_names)
            (Contains-map (λ (e : List ℕ × ℕ). e.0) (entries_in s dir) (n, i) (in_entries s dir n i (subst (λ (d : ℕ). named s d n ≡ Some i) (sym same) e))),
      ))
      (λ none. absurd (Contains-none d none))
      (Contains-cases dir [] d last))
      (Contains-append_cases above (dir ∷ []) d (subst (λ (xs : List ℕ). Contains xs d) is coming)))
      up_to.0;
  gone = λ i there.
      up_to.1 i
      (subst (λ (xs : List ℕ). Contains xs i) (sym is)
      (⊎_elim (λ (here : dir ≡ i). Contains-append_right above (dir ∷ []) i (subst (λ (i : ℕ). Contains (dir ∷ []) i) here (Contains-here dir [])))
      (λ later. Contains-append_left above (dir ∷ []) i later) (Contains-cases dir above i there)));
  names = λ e there. of_entries s dir e (subst (λ (es : List (List ℕ × ℕ)). Contains es e) all_names there);
}

-- and was read
pub was_read : (s : State) (apart : ℕ → Bool) (dir : ℕ) (above : List ℕ) (names : List (List ℕ × ℕ)) (left : BTreeSet ℕ) → names ≡ [] → IsReading s apart dir names above left → IsPeeledUpTo s apart above left
was_read s apart dir above names left none reading = (
  other_words s apart (NamesFrom dir names above) (NamesOf above) left
      (λ d n i h e coming.
      ⊎_elim (λ before. before)
      (λ (here : (d ≡ dir) × Contains (map (λ (e : List ℕ × ℕ). e.0) names) n).
      absurd (Contains-none n (subst (λ (es : List (List ℕ × ℕ)). Contains (map (λ (e : List ℕ × ℕ). e.0) es) n) none here.1)))
      coming)
      reading.peeled,
  λ i there. reading.gone i (Contains-there dir above i there),
)

-- a name of the directory that is read stands for its number alone
is_the_number : (s : State) (dir d : ℕ) (n m : List ℕ) (c i : ℕ) → named s dir n ≡ Some c → d ≡ dir → n ≡ m → named s d m ≡ Some i → c ≡ i
is_the_number s dir d n m c i e same_dir same_name f = same_Some c i (sym e ∙ ap (λ (d : ℕ). named s d n) (sym same_dir) ∙ ap (λ (n : List ℕ). named s d n) same_name ∙ f)

-- a name of what is not left
pub reads_past : (s : State) (apart : ℕ → Bool) (dir : ℕ) (above : List ℕ) (all rest : List (List ℕ × ℕ)) (n : List ℕ) (c : ℕ) (left : BTreeSet ℕ) → all ≡ (n, c) ∷ rest → contains nat_cmp left c ≡ false
    → IsReading s apart dir all above left → IsReading s apart dir rest above left
reads_past s apart dir above all rest n c left is none reading =
    let name : named s dir n ≡ Some c = reading.names (n, c) (subst (λ (es : List (List ℕ × ℕ)). Contains es (n, c)) (sym is) (Contains-here (n, c) rest)) in
    record {
      peeled = other_words s apart (NamesFrom dir all above) (NamesFrom dir rest above) left
          (λ d m i h e coming.
          ⊎_elim (λ before. inl before)
          (λ (here : (d ≡ dir) × Contains (map (λ (e : List ℕ × ℕ). e.0) all) m).
          ⊎_elim
          (λ (same : n ≡ m). absurd (false≢true (sym none ∙ ap (contains nat_cmp left) (is_the_number s dir d n m c i name here.0 same e) ∙ h)))
          (λ later. inr (here.0, later))
          (Contains-cases n (map (λ (e : List ℕ × ℕ). e.0) rest) m (subst (λ (es : List (List ℕ × ℕ)). Contains (map (λ (e : List ℕ × ℕ). e.0) es) m) is here.1)))
          coming)
          reading.peeled;
      gone = reading.gone;
      names = λ e there. reading.names e (subst (λ (es : List (List ℕ × ℕ)). Contains es e) (sym is) (Contains-there (n, c) rest e there));
    }

-- a name of what is left: it is taken out, and its names are to come
pub takes_out : (s : State) (apart : ℕ → Bool) (dir : ℕ) (above more : List ℕ) (all rest : List (List ℕ × ℕ)) (n : List ℕ) (c : ℕ) (left new : BTreeSet ℕ) → all ≡ (n, c) ∷ rest → contains nat_cmp left c ≡ true → Loses left new c
    → more ≡ above ++ c ∷ [] → IsReading s apart dir all above left → IsReading s apart dir rest more new
takes_out s apart dir above more all rest n c left new is there u pushed reading =
    let name : named s dir n ≡ Some c = reading.names (n, c) (subst (λ (es : List (List ℕ × ℕ)). Contains es (n, c)) (sym is) (Contains-here (n, c) rest)) in
    let below = reading.peeled.below c there in
    let dir_gone = reading.gone dir (Contains-here dir above) in
    let on_no_loop : IsOnLoop s c → ⊥ =
    λ loop.
    let by = held_on_loop s c loop in
    let same = (reading.peeled.single dir by.0 n by.2.0 c name by.2.2 below.0.1 below.0.0).0 in
    ⊎_elim
    (λ (kept : apart by.0 ≡ true). true≢false (sym kept ∙ ap apart (sym same) ∙ dir_gone.0))
    (λ (also : contains nat_cmp left by.0 ≡ true). true≢false (sym also ∙ ap (contains nat_cmp left) (sym same) ∙ dir_gone.1))
    (reading.peeled.loops by.0 by.1) in
    let last : Contains more c = subst (λ (xs : List ℕ). Contains xs c) (sym pushed) (Contains-append_right above (c ∷ []) c (Contains-here c [])) in
    record {
      peeled = record {
        single = reading.peeled.single;
        loops = λ i loop.
            ⊎_elim
            (λ (kept : apart i ≡ true). inl kept)
            (λ also. ⊎_elim (λ (same : c ≡ i). absurd (on_no_loop (subst (IsOnLoop s) (sym same) loop))) (λ stays. inr stays) (is_or_stays left new c i u also))
            (reading.peeled.loops i loop);
        below = λ i h. reading.peeled.below i (was_left left new c i u h).1;
        held = λ i h.
            let old = was_left left new c i u h in
            let by = reading.peeled.held i old.1 in (
              by.0,
              by.1,
              by.2,
              by.3,
              ⊎_elim
                  (λ (kept : apart by.0 ≡ true). inl kept)
                  (λ (others : (contains nat_cmp left by.0 ≡ true) ⊎ NamesFrom dir all above by.0 by.1).
                  ⊎_elim
                  (λ also. ⊎_elim (λ (same : c ≡ by.0). inr (inr (inl (subst (λ (d : ℕ). Contains more d) same last)))) (λ stays. inr (inl stays)) (is_or_stays left new c by.0 u also))
                  (λ coming.
                  ⊎_elim
                  (λ before. inr (inr (inl (subst (λ (xs : List ℕ). Contains xs by.0) (sym pushed) (Contains-append_left above (c ∷ []) by.0 before)))))
                  (λ (here : (by.0 ≡ dir) × Contains (map (λ (e : List ℕ × ℕ). e.0) all) by.1).
                  ⊎_elim
                  (λ (same : n ≡ by.1). absurd (old.0 (is_the_number s dir by.0 n by.1 c i name here.0 same by.3)))
                  (λ later. inr (inr (inr (here.0, later))))
                  (Contains-cases n (map (λ (e : List ℕ × ℕ). e.0) rest) by.1 (subst (λ (es : List (List ℕ × ℕ)). Contains (map (λ (e : List ℕ × ℕ). e.0) es) by.1) is here.1)))
                  coming)
                  others)
                  by.4,
            );
      };
      gone = λ i in_all_of.
          ⊎_elim
          (λ (here : dir ≡ i). let g = reading.gone i (subst (λ (i : ℕ). Contains (dir ∷ above) i) here (Contains-here dir above)) in (g.0, loses_none left new c i u g.1))
          (λ later.
          ⊎_elim
          (λ before. let g = reading.gone i (Contains-there dir above i before) in (g.0, loses_none left new c i u g.1))
          (λ end.
          ⊎_elim
          (λ (same : c ≡ i). subst (λ (i : ℕ). (apart i ≡ false) × (contains nat_cmp new i ≡ false)) same (below.1, loses_it left new c u))
          (λ none. absurd (Contains-none i none))
          (Contains-cases c [] i end))
          (Contains-append_cases above (c ∷ []) i (subst (λ (xs : List ℕ). Contains xs i) pushed later)))
          (Contains-cases dir more i in_all_of);
      names = λ e in_rest. reading.names e (subst (λ (es : List (List ℕ × ℕ)). Contains es e) (sym is) (Contains-there (n, c) rest e in_rest));
    }

-- nor does it matter how a set is kept
pub same_set : (s : State) (apart : ℕ → Bool) (dir : ℕ) (above : List ℕ) (rest : List (List ℕ × ℕ)) (left new : BTreeSet ℕ) → new.keys ≡ left.keys → IsReading s apart dir rest above left → IsReading s apart dir rest above new
same_set s apart dir above rest left new same reading =
    let has : (i : ℕ) → contains nat_cmp new i ≡ contains nat_cmp left i = λ i. ap (λ (ks : List ℕ). list_any (eq_by_cmp nat_cmp i) ks) same in
    record {
      peeled = record {
        single = reading.peeled.single;
        loops = λ i loop. ⊎_elim (λ (kept : apart i ≡ true). inl kept) (λ also. inr (has i ∙ also)) (reading.peeled.loops i loop);
        below = λ i h. reading.peeled.below i (sym (has i) ∙ h);
        held = λ i h.
            let by = reading.peeled.held i (sym (has i) ∙ h) in (
              by.0,
              by.1,
              by.2,
              by.3,
              ⊎_elim
                  (λ (kept : apart by.0 ≡ true). inl kept)
                  (λ (others : (contains nat_cmp left by.0 ≡ true) ⊎ NamesFrom dir rest above by.0 by.1). ⊎_elim (λ also. inr (inl (has by.0 ∙ also))) (λ coming. inr (inr coming)) others)
                  by.4,
            );
      };
      gone = λ i there. let g = reading.gone i there in (g.0, has i ∙ g.1);
      names = reading.names;
    }

-- ---- from the beginning to the end

-- the root, which is kept apart at first
abbrev pub the_root : ℕ → Bool
the_root i = i == 1

abbrev pub nothing_else : ℕ → Bool
nothing_else i = false

three : (a b c : Bool) → (a && b && c) ≡ true → (a ≡ true) × (b ≡ true) × (c ≡ true)
three true true true h = (refl, refl, refl)
three true true false h = absurd (false≢true h)
three true false c h = absurd (false≢true h)
three false b c h = absurd (false≢true h)

all_three : (a b c : Bool) → a ≡ true → b ≡ true → c ≡ true → (a && b && c) ≡ true
all_three true true true x y z = refl
all_three true true false x y z = absurd (false≢true z)
all_three true false c x y z = absurd (false≢true y)
all_three false b c x y z = absurd (false≢true x)

not_of_false : (b : Bool) → b ≡ false → not b ≡ true
not_of_false true h = absurd (true≢false h)
not_of_false false h = refl

number_is_not : (i : ℕ) → (i == 1) ≡ false → i ≢ 1
number_is_not i f is = true≢false (sym (eq-eqb i 1 is) ∙ f)

number_listed : (s : State) (i : ℕ) → is_directory s i ≡ true → Contains (map (λ (e : ℕ × Object). e.0) (objects_in s)) i
number_listed s i there = by_object (object s i) refl there
  where
    by_object : (o : Option (ObjectOf (List ℕ))) → object s i ≡ o → has_bits directory_bits o ≡ true → Contains (map (λ (e : ℕ × Object). e.0) (objects_in s)) i
    by_object None e h = absurd (false≢true h)
    by_object (Some o) e h =
        Contains-map (λ (e : ℕ × Object). e.0) (objects_in s) (i, shown o)
        (Contains-map (λ (e : ℕ × ObjectOf (List ℕ)). (e.0, shown e.1)) (entries s.objects) (i, o)
        (Contains-from_find nat_cmp nat_cmp-IsAntisymmetric (entries s.objects) i o (sym (get-entries s.objects i) ∙ e)))

pub none_taken_out : (s : State) (left : BTreeSet ℕ) → IsSingle s → ((i : ℕ) → Decides (contains nat_cmp left i) (IsHeld s i)) → IsPeeledUpTo s the_root (others s left) left
none_taken_out s left single held = (
  record {
    single = single;
    loops = λ i loop.
        by_test (i == 1) (λ t. inl t)
        (λ f.
        let by = held_on_loop s i loop in
        inr ((held i).1 ((number_is_not i f, loops_are_of_directories s i loop), (by.0, by.2))));
    below = λ i h. let is = (held i).0 h in (is.0, ne_eqb i 1 is.0.0);
    held = λ i h.
        let is = (held i).0 h in
        let dir = is.1.0 in
        let holds = is.1.1 in (
          dir,
          holds.0,
          holds.1,
          holds.2,
          by_test (dir == 1) (λ t. inl t)
              (λ f.
              by_test (contains nat_cmp left dir) (λ t. inr (inl t))
              (λ g.
              inr
              (inr
              (Contains-filter (λ i. not (i == 1) && is_directory s i && not (contains nat_cmp left i)) (map (λ (e : ℕ × Object). e.0) (objects_in s)) dir
              (all_three (not (dir == 1)) (is_directory s dir) (not (contains nat_cmp left dir)) (not_of_false (dir == 1) f) holds.1 (not_of_false (contains nat_cmp left dir) g))
              (number_listed s dir holds.1))))),
        );
  },
  λ i there.
      let entry = Contains-filter_from (λ i. not (i == 1) && is_directory s i && not (contains nat_cmp left i)) (map (λ (e : ℕ × Object). e.0) (objects_in s)) i there in
      let parts = three (not (i == 1)) (is_directory s i) (not (contains nat_cmp left i)) entry.1 in
      (not_true (i == 1) parts.0, not_true (contains nat_cmp left i) parts.2),
)

-- what holds one that is left, where nothing is to come
left_held : (s : State) (apart : ℕ → Bool) (left : BTreeSet ℕ) (i : ℕ) → IsPeeledUpTo s apart [] left → contains nat_cmp left i ≡ true → (dir : ℕ) × Holds s dir i × ((apart dir ≡ true) ⊎ (contains nat_cmp left dir ≡ true))
left_held s apart left i up_to h =
    let by = up_to.0.held i h in (
      by.0,
      (by.1, by.2, by.3),
      ⊎_elim
          (λ (kept : apart by.0 ≡ true). inl kept)
          (λ (others : (contains nat_cmp left by.0 ≡ true) ⊎ Contains [] by.0). ⊎_elim (λ also. inr also) (λ none. absurd (Contains-none by.0 none)) others)
          by.4,
    )

holds_root : State → BTreeSet ℕ → Name → Bool
holds_root s left e = (e.2 == 1) && is_directory s e.0 && ((e.0 == 1) || contains nat_cmp left e.0)

one_of_two : (a b : Bool) → (a || b) ≡ true → (a ≡ true) ⊎ (b ≡ true)
one_of_two true b h = inl refl
one_of_two false b h = inr h

first_of_two : (a b : Bool) → a ≡ true → (a || b) ≡ true
first_of_two true b h = refl
first_of_two false b h = absurd (false≢true h)

second_of_two : (a b : Bool) → b ≡ true → (a || b) ≡ true
second_of_two true b h = refl
second_of_two false b h = h

-- where the root is held by what is left, or by itself, all of these hold each other
pub held_root_is_loop : (s : State) (left : BTreeSet ℕ) → IsPeeledUpTo s the_root [] left → is_root_held s left ≡ true → HasShape s → ⊥
unfolding holds_root
held_root_is_loop s left up_to held has =
    let found = any_to (holds_root s left) (all_entries s) held in
    let e = found.0 in
    let parts = three (e.2 == 1) (is_directory s e.0) ((e.0 == 1) || contains nat_cmp left e.0) found.2 in
    let among : (dir : ℕ) → (the_root dir ≡ true) ⊎ (contains nat_cmp left dir ≡ true) → Contains (1 ∷ left.keys) dir =
    λ dir which.
    ⊎_elim
    (λ (is : the_root dir ≡ true). subst (λ (d : ℕ). Contains (1 ∷ left.keys) d) (sym (eqb-true dir 1 is)) (Contains-here 1 left.keys))
    (λ also. Contains-there 1 left.keys dir (in_keys left dir also))
    which in
    let name : named s e.0 e.1 ≡ Some 1 = of_all s e found.1 ∙ ap Some (eqb-true e.2 1 parts.0) in
    held_is_loop s (1 ∷ left.keys) 1 (Contains-here 1 left.keys)
    (λ i there.
    ⊎_elim
    (λ (here : 1 ≡ i). (e.0, among e.0 (one_of_two (e.0 == 1) (contains nat_cmp left e.0) parts.2), (e.1, parts.1, name ∙ ap Some here)))
    (λ later. let by = left_held s the_root left i up_to (from_keys left i later) in (by.0, among by.0 by.2, by.1))
    (Contains-cases 1 left.keys i there))
    (shape_has_no_loop s has)

-- and else the root is next
pub root_is_next : (s : State) (left : BTreeSet ℕ) → IsPeeledUpTo s the_root [] left → is_root_held s left ≡ false → IsPeeledUpTo s nothing_else (1 ∷ []) left
unfolding holds_root
root_is_next s left up_to free = (
  record {
    single = up_to.0.single;
    loops = λ i loop.
        ⊎_elim
        (λ (is : the_root i ≡ true).
        let by = held_on_loop s 1 (subst (IsOnLoop s) (eqb-true i 1 is) loop) in
        let which : ((by.0 == 1) || contains nat_cmp left by.0) ≡ true =
        ⊎_elim (first_of_two (by.0 == 1) (contains nat_cmp left by.0)) (second_of_two (by.0 == 1) (contains nat_cmp left by.0)) (up_to.0.loops by.0 by.1) in
        let held : is_root_held s left ≡ true =
        any_from (holds_root s left) (all_entries s) (by.0, by.2.0, 1) (in_all s by.0 by.2.0 1 by.2.2)
        (all_three (1 == 1) (is_directory s by.0) ((by.0 == 1) || contains nat_cmp left by.0) refl by.2.1 which) in
        absurd (true≢false (sym held ∙ free)))
        (λ also. inr also)
        (up_to.0.loops i loop);
    below = λ i h. ((up_to.0.below i h).0, refl);
    held = λ i h.
        let by = left_held s the_root left i up_to h in (
          by.0,
          by.1.0,
          by.1.1,
          by.1.2,
          ⊎_elim
              (λ (is : the_root by.0 ≡ true). inr (inr (subst (λ (d : ℕ). Contains (1 ∷ []) d) (sym (eqb-true by.0 1 is)) (Contains-here 1 []))))
              (λ also. inr (inl also))
              by.2,
        );
  },
  λ i there.
      ⊎_elim
      (λ (is : 1 ≡ i).
      (refl, subst (λ (i : ℕ). contains nat_cmp left i ≡ false) is (by_test (contains nat_cmp left 1) (λ t. absurd ((up_to.0.below 1 t).0.0 refl)) (λ f. f))))
      (λ none. absurd (Contains-none i none))
      (Contains-cases 1 [] i there),
)

no_keys : (ks : List ℕ) → length ks ≡ 0 → ks ≡ []
no_keys [] h = refl
no_keys (k ∷ ks) h = absurd (omega arith)

pub nothing_left : (s : State) (left : BTreeSet ℕ) → IsPeeledUpTo s nothing_else [] left → length left.keys ≡ 0 → HasShape s
nothing_left s left up_to empty =
    no_loop_is_shape s up_to.0.single (λ i loop. ⊎_elim (λ (kept : false ≡ true). false≢true kept) (λ also. none_is left i (no_keys left.keys empty) also) (up_to.0.loops i loop))

pub shape_leaves_nothing : (s : State) (left : BTreeSet ℕ) → IsPeeledUpTo s nothing_else [] left → HasShape s → length left.keys ≡ 0
shape_leaves_nothing s left up_to has = by_keys left.keys refl
  where
    by_keys : (ks : List ℕ) → left.keys ≡ ks → length left.keys ≡ 0
    by_keys [] is = ap length is
    by_keys (k ∷ ks) is =
        absurd
        (held_is_loop s left.keys k (subst (λ (xs : List ℕ). Contains xs k) (sym is) (Contains-here k ks))
        (λ i there.
        let by = left_held s nothing_else left i up_to (from_keys left i there) in
        ⊎_elim (λ (kept : false ≡ true). absurd (false≢true kept)) (λ also. (by.0, in_keys left by.0 also, by.1)) by.2)
        (shape_has_no_loop s has))
