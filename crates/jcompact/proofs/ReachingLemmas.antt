-- The objects that no names lead to, while they are looked for.
use Rattle.std.proofs.Common.{◌≡◌, ◌≢◌, ℕ, Bool, true, false, cond, Decides, List, [], ◌∷◌, ◌++◌, map, Option, Some, None, Ok, Err, refl, ap, sym, ◌∙◌, subst, inl, inr, ◌⊎◌, ⊎_elim}
use Rattle.std.specs.Prelude.{Result, Contains, filter, is_some, ◌==◌}
use Rattle.std.specs.List.{list_any}
use Rattle.std.specs.Ordering.{eq_by_cmp, nat_cmp}
use Rattle.std.specs.Cmp.{nat_cmp_total, eq_by_cmp_equiv}
use Rattle.std.specs.BTreeSet.{BTreeSet, contains}
use Rattle.std.specs.FinMap.{entries, entries_sorted, get-entries, nat_cmp-IsAntisymmetric}
use Rattle.std.proofs.lemmas.Bool.{eqb-true, eq-eqb, true≢false, false≢true}
use Rattle.std.proofs.lemmas.List.Elements.{Contains-append_left, Contains-append_right, Contains-append_cases}
use Rattle.std.proofs.lemmas.Map.Views.{tells_apart}
use Rattle.std.proofs.lemmas.Option.{same_Some}
use Rattle.flashbase.proofs.MemberLemmas.{Contains-none, Contains-here, Contains-there, Contains-cases, Contains-map, Contains-map_from, Contains-filter, Contains-filter_from}
use Rattle.jname.specs.Live.{Key}
use Rattle.jname.proofs.ContentsByNameLemmas.{by_test}
use Rattle.jname.proofs.LiveLemmas.{some_of}
use Rattle.jname.proofs.SortedLemmas.{Contains-from_find, find-from_Contains}
use Rattle.jmount.specs.Find.{step, step_to, walk}
use Rattle.jmount.specs.Shown.{shown, objects_in}
use Rattle.jmount.specs.Tree.{ObjectOf, State, object, named, is_there, is_directory, has_bits, directory_bits, entries_in}
use Rattle.jmount.specs.declared.fault.FindFault.{FindFault}
use Rattle.jmount.specs.declared.fault.FindFault.TheVariants as fault
use Rattle.jmount.specs.declared.object.Object.{Object}
use Rattle.jmount.proofs.ShapeOfLemmas.{listed, named_by}
use Rattle.jcompact.specs.Matters.{NamesLeadTo}
use Rattle.jcompact.specs.Reaching.{HasUnmet, WasMet, IsMetUpTo}
use Rattle.jcompact.proofs.PathLemmas.{reached_more}

-- ---- sets

abbrev pub Loses : BTreeSet ℕ → BTreeSet ℕ → ℕ → Type 0
Loses old new k = (q : ℕ) → contains nat_cmp new q ≡ cond (eq_by_cmp nat_cmp k q) false (contains nat_cmp old q)

abbrev pub Gains : BTreeSet ℕ → BTreeSet ℕ → ℕ → Type 0
Gains old new k = (q : ℕ) → contains nat_cmp new q ≡ cond (eq_by_cmp nat_cmp k q) true (contains nat_cmp old q)

itself : (k : ℕ) → eq_by_cmp nat_cmp k k ≡ true
itself k = (eq_by_cmp_equiv nat_cmp_total).refl k

same_number : (k q : ℕ) → eq_by_cmp nat_cmp k q ≡ true → k ≡ q
same_number k q e = tells_apart nat_cmp-IsAntisymmetric k q e

kept_before : (b c : Bool) → cond b false c ≡ true → (b ≡ false) × (c ≡ true)
kept_before true c h = absurd (false≢true h)
kept_before false c h = (refl, h)

either_false : (b c : Bool) → c ≡ false → cond b false c ≡ false
either_false true c h = refl
either_false false c h = h

either_true : (b c : Bool) → c ≡ true → cond b true c ≡ true
either_true true c h = refl
either_true false c h = h

loses_it : (old new : BTreeSet ℕ) (k : ℕ) → Loses old new k → contains nat_cmp new k ≡ false
loses_it old new k u = u k ∙ ap (λ (b : Bool). cond b false (contains nat_cmp old k)) (itself k)

loses_none : (old new : BTreeSet ℕ) (k q : ℕ) → Loses old new k → contains nat_cmp old q ≡ false → contains nat_cmp new q ≡ false
loses_none old new k q u h = u q ∙ either_false (eq_by_cmp nat_cmp k q) (contains nat_cmp old q) h

was_left : (old new : BTreeSet ℕ) (k q : ℕ) → Loses old new k → contains nat_cmp new q ≡ true → (k ≢ q) × (contains nat_cmp old q ≡ true)
was_left old new k q u h =
    let parts = kept_before (eq_by_cmp nat_cmp k q) (contains nat_cmp old q) (sym (u q) ∙ h) in
    (λ is. true≢false (sym (itself k) ∙ ap (eq_by_cmp nat_cmp k) is ∙ parts.0), parts.1)

-- what is gone was gone before, or is what was taken out
was_gone : (old new : BTreeSet ℕ) (k q : ℕ) → Loses old new k → contains nat_cmp new q ≡ false → (k ≡ q) ⊎ (contains nat_cmp old q ≡ false)
was_gone old new k q u h =
    by_test (eq_by_cmp nat_cmp k q) (λ t. inl (same_number k q t))
    (λ f. inr (sym (ap (λ (b : Bool). cond b false (contains nat_cmp old q)) f) ∙ sym (u q) ∙ h))

-- ---- all objects

object_by : (s : State) (e : ℕ × Object) → Contains (objects_in s) e → is_there s e.0 ≡ true
object_by s e c =
    let found = Contains-map_from (λ (x : ℕ × ObjectOf (List ℕ)). (x.0, shown x.1)) (entries s.objects) e c in
    let is : object s found.0.0 ≡ Some found.0.1 = get-entries s.objects found.0.0 ∙ find-from_Contains nat_cmp nat_cmp_total (entries s.objects) found.0.0 found.0.1 (entries_sorted s.objects) found.1 in
    ap (λ (x : ℕ × Object). is_there s x.0) (sym found.2) ∙ ap is_some is

object_listed : (s : State) (i : ℕ) → is_there s i ≡ true → (o : Object) × Contains (objects_in s) (i, o)
object_listed s i h =
    let some = some_of (object s i) h in (
      shown some.0,
      Contains-map (λ (x : ℕ × ObjectOf (List ℕ)). (x.0, shown x.1)) (entries s.objects) (i, some.0)
          (Contains-from_find nat_cmp nat_cmp-IsAntisymmetric (entries s.objects) i some.0 (sym (get-entries s.objects i) ∙ some.1)),
    )

-- of these objects the first were added to the numbers
pub record AreAdded (s : State) (rest : List (ℕ × Object)) (numbers : BTreeSet ℕ) : Type 0 where
  pub there : (i : ℕ) → contains nat_cmp numbers i ≡ true → is_there s i ≡ true
  pub among : (e : ℕ × Object) → Contains rest e → Contains (objects_in s) e
  pub each : (e : ℕ × Object) → Contains (objects_in s) e → (contains nat_cmp numbers e.0 ≡ true) ⊎ Contains rest e

none_is : (numbers : BTreeSet ℕ) (i : ℕ) → numbers.keys ≡ [] → contains nat_cmp numbers i ≡ false
none_is numbers i empty = ap (λ (ks : List ℕ). list_any (eq_by_cmp nat_cmp i) ks) empty

pub none_added : (s : State) (rest : List (ℕ × Object)) (numbers : BTreeSet ℕ) → rest ≡ objects_in s → numbers.keys ≡ [] → AreAdded s rest numbers
none_added s rest numbers is empty = record {
  there = λ i h. absurd (true≢false (sym h ∙ none_is numbers i empty));
  among = λ e c. subst (λ (es : List (ℕ × Object)). Contains es e) is c;
  each = λ e c. inr (subst (λ (es : List (ℕ × Object)). Contains es e) (sym is) c);
}

pub one_added : (s : State) (all rest : List (ℕ × Object)) (x : ℕ × Object) (old new : BTreeSet ℕ) → all ≡ x ∷ rest → Gains old new x.0 → AreAdded s all old → AreAdded s rest new
one_added s all rest x old new is u so_far = record {
  there = λ i h.
      by_test (eq_by_cmp nat_cmp x.0 i)
      (λ t. ap (is_there s) (sym (same_number x.0 i t)) ∙ object_by s x (so_far.among x (subst (λ (es : List (ℕ × Object)). Contains es x) (sym is) (Contains-here x rest))))
      (λ f. so_far.there i (sym (ap (λ (b : Bool). cond b true (contains nat_cmp old i)) f) ∙ sym (u i) ∙ h));
  among = λ e c. so_far.among e (subst (λ (es : List (ℕ × Object)). Contains es e) (sym is) (Contains-there x rest e c));
  each = λ e c.
      ⊎_elim
      (λ (h : contains nat_cmp old e.0 ≡ true). inl (u e.0 ∙ either_true (eq_by_cmp nat_cmp x.0 e.0) (contains nat_cmp old e.0) h))
      (λ coming.
      ⊎_elim
      (λ (same : x ≡ e). inl (u e.0 ∙ ap (λ (b : Bool). cond b true (contains nat_cmp old e.0)) (ap (λ (y : ℕ × Object). eq_by_cmp nat_cmp x.0 y.0) (sym same) ∙ itself x.0)))
      (λ later. inr later)
      (Contains-cases x rest e (subst (λ (es : List (ℕ × Object)). Contains es e) is coming)))
      (so_far.each e c);
}

pub all_added : (s : State) (rest : List (ℕ × Object)) (numbers : BTreeSet ℕ) → rest ≡ [] → AreAdded s rest numbers → (i : ℕ) → is_there s i ≡ true → contains nat_cmp numbers i ≡ true
all_added s rest numbers none so_far i h =
    let at = object_listed s i h in
    ⊎_elim
    (λ (h : contains nat_cmp numbers i ≡ true). h)
    (λ coming. absurd (Contains-none (i, at.0) (subst (λ (es : List (ℕ × Object)). Contains es (i, at.0)) none coming)))
    (so_far.each (i, at.0) at.1)

-- ---- a directory is read

abbrev NamesFrom : ℕ → List (List ℕ × ℕ) → List ℕ → ℕ → List ℕ → Type 0
NamesFrom reading rest above dir name = Contains above dir ⊎ ((dir ≡ reading) × Contains (map (λ (e : List ℕ × ℕ). e.0) rest) name)

pub record IsReadOn (s : State) (dir : ℕ) (rest : List (List ℕ × ℕ)) (above : List ℕ) (unmet : BTreeSet ℕ) : Type 0 where
  pub met : HasUnmet s (NamesFrom dir rest above) unmet
  pub gone : (i : ℕ) → Contains (dir ∷ above) i → WasMet s unmet i
  pub names : (e : List ℕ × ℕ) → Contains rest e → named s dir e.0 ≡ Some e.1

other_words : (s : State) (A B : ℕ → List ℕ → Type 0) (unmet : BTreeSet ℕ)
    → ((d : ℕ) (n : List ℕ) (i : ℕ) → is_directory s d ≡ true → contains nat_cmp unmet i ≡ true → named s d n ≡ Some i → A d n → B d n) → HasUnmet s A unmet → HasUnmet s B unmet
other_words s A B unmet so is = record {
  there = is.there;
  root = is.root;
  met = is.met;
  closed = λ d i n dir gone e h. so d n i dir h e (is.closed d i n dir gone e h);
}

in_entries : (s : State) (d : ℕ) (n : List ℕ) (i : ℕ) → named s d n ≡ Some i → Contains (entries_in s d) (n, i)
in_entries s d n i e =
    Contains-map (λ (e : Key × ℕ). (e.0.1, e.1)) (filter (λ (e : Key × ℕ). e.0.0 == d) (entries s.names)) ((d, n), i)
    (Contains-filter (λ (e : Key × ℕ). e.0.0 == d) (entries s.names) ((d, n), i) (eq-eqb d d refl) (listed s d n i e))

of_entries : (s : State) (d : ℕ) (e : List ℕ × ℕ) → Contains (entries_in s d) e → named s d e.0 ≡ Some e.1
of_entries s d e there =
    let found = Contains-map_from (λ (e : Key × ℕ). (e.0.1, e.1)) (filter (λ (e : Key × ℕ). e.0.0 == d) (entries s.names)) e there in
    let entry = Contains-filter_from (λ (e : Key × ℕ). e.0.0 == d) (entries s.names) found.0 found.1 in
    let dir : found.0.0.0 ≡ d = eqb-true found.0.0.0 d entry.1 in
    subst (λ (e : List ℕ × ℕ). named s d e.0 ≡ Some e.1) found.2 (subst (λ (d : ℕ). named s d found.0.0.1 ≡ Some found.0.1) dir (named_by s found.0.0 found.0.1 entry.0))

pub begins : (s : State) (dir : ℕ) (all above : List ℕ) (names : List (List ℕ × ℕ)) (unmet : BTreeSet ℕ) → all ≡ above ++ dir ∷ [] → names ≡ entries_in s dir
    → IsMetUpTo s all unmet → IsReadOn s dir names above unmet
begins s dir all above names unmet is all_names up_to = record {
  met = other_words s (λ d n. Contains all d) (NamesFrom dir names above) unmet
      (λ d n i folder h e coming.
      ⊎_elim (λ before. inl before)
      (λ last.
      ⊎_elim
      (λ (same : dir ≡ d).
      inr (
        sym same,
        subst (λ (es : List (List ℕ × ℕ)). Contains (map (λ (e : List ℕ × ℕ). e.0) es) n) (sym all_names)
            (Contains-map (λ (e : List ℕ × ℕ). e.0) (entries_in s dir) (n, i) (in_entries s dir n i (subst (λ (d : ℕ). named s d n ≡ Some i) (sym same) e))),
      ))
      (λ none. absurd (Contains-none d none))
      (Contains-cases dir [] d last))
      (Contains-append_cases above (dir ∷ []) d (subst (λ (xs : List ℕ). Contains xs d) is coming)))
      up_to.0;
  gone = λ i there.
      up_to.1 i
      (subst (λ (xs : List ℕ). Contains xs i) (sym is)
      (⊎_elim (λ (here : dir ≡ i). Contains-append_right above (dir ∷ []) i (subst (λ (i : ℕ). Contains (dir ∷ []) i) here (Contains-here dir [])))
      (λ later. Contains-append_left above (dir ∷ []) i later) (Contains-cases dir above i there)));
  names = λ e there. of_entries s dir e (subst (λ (es : List (List ℕ × ℕ)). Contains es e) all_names there);
}

pub was_read : (s : State) (dir : ℕ) (above : List ℕ) (names : List (List ℕ × ℕ)) (unmet : BTreeSet ℕ) → names ≡ [] → IsReadOn s dir names above unmet → IsMetUpTo s above unmet
was_read s dir above names unmet none reading = (
  other_words s (NamesFrom dir names above) (λ d n. Contains above d) unmet
      (λ d n i folder h e coming.
      ⊎_elim (λ before. before)
      (λ (here : (d ≡ dir) × Contains (map (λ (e : List ℕ × ℕ). e.0) names) n).
      absurd (Contains-none n (subst (λ (es : List (List ℕ × ℕ)). Contains (map (λ (e : List ℕ × ℕ). e.0) es) n) none here.1)))
      coming)
      reading.met,
  λ i there. reading.gone i (Contains-there dir above i there),
)

is_the_number : (s : State) (dir d : ℕ) (n m : List ℕ) (c i : ℕ) → named s dir n ≡ Some c → d ≡ dir → n ≡ m → named s d m ≡ Some i → c ≡ i
is_the_number s dir d n m c i e same_dir same_name f = same_Some c i (sym e ∙ ap (λ (d : ℕ). named s d n) (sym same_dir) ∙ ap (λ (n : List ℕ). named s d n) same_name ∙ f)

-- a name of what was met, or of no directory
pub reads_past : (s : State) (dir : ℕ) (above : List ℕ) (all rest : List (List ℕ × ℕ)) (n : List ℕ) (c : ℕ) (unmet : BTreeSet ℕ) → all ≡ (n, c) ∷ rest
    → (is_directory s dir ≡ true → contains nat_cmp unmet c ≡ false) → IsReadOn s dir all above unmet → IsReadOn s dir rest above unmet
reads_past s dir above all rest n c unmet is none reading =
    let name : named s dir n ≡ Some c = reading.names (n, c) (subst (λ (es : List (List ℕ × ℕ)). Contains es (n, c)) (sym is) (Contains-here (n, c) rest)) in
    record {
      met = other_words s (NamesFrom dir all above) (NamesFrom dir rest above) unmet
          (λ d m i folder h e coming.
          ⊎_elim (λ before. inl before)
          (λ (here : (d ≡ dir) × Contains (map (λ (e : List ℕ × ℕ). e.0) all) m).
          ⊎_elim
          (λ (same : n ≡ m).
          absurd (false≢true (sym (none (ap (is_directory s) (sym here.0) ∙ folder)) ∙ ap (contains nat_cmp unmet) (is_the_number s dir d n m c i name here.0 same e) ∙ h)))
          (λ later. inr (here.0, later))
          (Contains-cases n (map (λ (e : List ℕ × ℕ). e.0) rest) m (subst (λ (es : List (List ℕ × ℕ)). Contains (map (λ (e : List ℕ × ℕ). e.0) es) m) is here.1)))
          coming)
          reading.met;
      gone = reading.gone;
      names = λ e there. reading.names e (subst (λ (es : List (List ℕ × ℕ)). Contains es e) (sym is) (Contains-there (n, c) rest e there));
    }

-- a name of what was not: its own names are to come
pub takes_out : (s : State) (dir : ℕ) (above more : List ℕ) (all rest : List (List ℕ × ℕ)) (n : List ℕ) (c : ℕ) (unmet new : BTreeSet ℕ) → all ≡ (n, c) ∷ rest
    → is_directory s dir ≡ true → contains nat_cmp unmet c ≡ true → Loses unmet new c → more ≡ above ++ c ∷ [] → IsReadOn s dir all above unmet → IsReadOn s dir rest more new
takes_out s dir above more all rest n c unmet new is folder there u pushed reading =
    let name : named s dir n ≡ Some c = reading.names (n, c) (subst (λ (es : List (List ℕ × ℕ)). Contains es (n, c)) (sym is) (Contains-here (n, c) rest)) in
    let reached : NamesLeadTo s c =
    reached_more s dir c n (reading.gone dir (Contains-here dir above)).1
    (ap (λ (b : Bool). cond b (step_to s (named s dir n)) (Err fault.NotDirectory)) folder
    ∙ ap (step_to s) name
    ∙ ap (λ (b : Bool). cond b (Ok c) (Err fault.NotFound)) (reading.met.there c there)) in
    let last : Contains more c = subst (λ (xs : List ℕ). Contains xs c) (sym pushed) (Contains-append_right above (c ∷ []) c (Contains-here c [])) in
    record {
      met = record {
        there = λ i h. reading.met.there i (was_left unmet new c i u h).1;
        root = loses_none unmet new c 1 u reading.met.root;
        met = λ i is_i h.
            ⊎_elim (λ (same : c ≡ i). subst (λ (j : ℕ). NamesLeadTo s j) same reached) (λ before. reading.met.met i is_i before) (was_gone unmet new c i u h);
        closed = λ d i m folder_d gone_d e h.
            let old = was_left unmet new c i u h in
            ⊎_elim
            (λ (same : c ≡ d). inl (subst (λ (j : ℕ). Contains more j) same last))
            (λ before.
            ⊎_elim
            (λ earlier. inl (subst (λ (xs : List ℕ). Contains xs d) (sym pushed) (Contains-append_left above (c ∷ []) d earlier)))
            (λ (here : (d ≡ dir) × Contains (map (λ (e : List ℕ × ℕ). e.0) all) m).
            ⊎_elim
            (λ (same : n ≡ m). absurd (old.0 (is_the_number s dir d n m c i name here.0 same e)))
            (λ later. inr (here.0, later))
            (Contains-cases n (map (λ (e : List ℕ × ℕ). e.0) rest) m (subst (λ (es : List (List ℕ × ℕ)). Contains (map (λ (e : List ℕ × ℕ). e.0) es) m) is here.1)))
            (reading.met.closed d i m folder_d before e old.1))
            (was_gone unmet new c d u gone_d);
      };
      gone = λ i in_all_of.
          ⊎_elim
          (λ (here : dir ≡ i). let g = reading.gone i (subst (λ (i : ℕ). Contains (dir ∷ above) i) here (Contains-here dir above)) in (loses_none unmet new c i u g.0, g.1))
          (λ later.
          ⊎_elim
          (λ before. let g = reading.gone i (Contains-there dir above i before) in (loses_none unmet new c i u g.0, g.1))
          (λ end.
          ⊎_elim
          (λ (same : c ≡ i). subst (λ (j : ℕ). WasMet s new j) same (loses_it unmet new c u, reached))
          (λ none. absurd (Contains-none i none))
          (Contains-cases c [] i end))
          (Contains-append_cases above (c ∷ []) i (subst (λ (xs : List ℕ). Contains xs i) pushed later)))
          (Contains-cases dir more i in_all_of);
      names = λ e in_rest. reading.names e (subst (λ (es : List (List ℕ × ℕ)). Contains es e) (sym is) (Contains-there (n, c) rest e in_rest));
    }

pub same_set : (s : State) (dir : ℕ) (above : List ℕ) (rest : List (List ℕ × ℕ)) (unmet new : BTreeSet ℕ) → new.keys ≡ unmet.keys → IsReadOn s dir rest above unmet → IsReadOn s dir rest above new
same_set s dir above rest unmet new same reading =
    let has : (i : ℕ) → contains nat_cmp new i ≡ contains nat_cmp unmet i = λ i. ap (λ (ks : List ℕ). list_any (eq_by_cmp nat_cmp i) ks) same in
    record {
      met = record {
        there = λ i h. reading.met.there i (sym (has i) ∙ h);
        root = has 1 ∙ reading.met.root;
        met = λ i there h. reading.met.met i there (sym (has i) ∙ h);
        closed = λ d i n folder gone e h. reading.met.closed d i n folder (sym (has d) ∙ gone) e (sym (has i) ∙ h);
      };
      gone = λ i there. let g = reading.gone i there in (has i ∙ g.0, g.1);
      names = reading.names;
    }

-- ---- at first the root alone was met

folder_there : (o : Option (ObjectOf (List ℕ))) → has_bits directory_bits o ≡ true → is_some o ≡ true
folder_there None h = absurd (false≢true h)
folder_there (Some o) h = refl

pub root_is_met : (s : State) (numbers unmet : BTreeSet ℕ) (above : List ℕ) → ((i : ℕ) → contains nat_cmp numbers i ≡ true → is_there s i ≡ true)
    → ((i : ℕ) → is_there s i ≡ true → contains nat_cmp numbers i ≡ true) → Loses numbers unmet 1 → above ≡ 1 ∷ [] → IsMetUpTo s above unmet
root_is_met s numbers unmet above there each u is =
    let alone : (i : ℕ) → is_there s i ≡ true → contains nat_cmp unmet i ≡ false → 1 ≡ i = λ i h gone.
    ⊎_elim (λ (same : 1 ≡ i). same) (λ before. absurd (true≢false (sym (each i h) ∙ before))) (was_gone numbers unmet 1 i u gone) in
    let root : Contains above 1 = subst (λ (xs : List ℕ). Contains xs 1) (sym is) (Contains-here 1 []) in (
      record {
        there = λ i h. there i (was_left numbers unmet 1 i u h).1;
        root = loses_it numbers unmet 1 u;
        met = λ i h gone. ([], ap (λ (n : ℕ). Ok n) (alone i h gone));
        closed = λ d i n folder gone e h. subst (λ (j : ℕ). Contains above j) (alone d (folder_there (object s d) folder) gone) root;
      },
      λ i c.
          ⊎_elim
          (λ (same : 1 ≡ i). subst (λ (j : ℕ). WasMet s unmet j) same (loses_it numbers unmet 1 u, ([], refl)))
          (λ none. absurd (Contains-none i none))
          (Contains-cases 1 [] i (subst (λ (xs : List ℕ). Contains xs i) is c)),
    )

-- ---- at last all that names lead to

abbrev number_or : Result ℕ FindFault → ℕ
number_or (Ok n) = n
number_or (Err f) = 0

abbrev is_number : Result ℕ FindFault → Bool
is_number (Ok n) = true
is_number (Err f) = false

record GoesTo (s : State) (here : ℕ) (name : List ℕ) (i : ℕ) : Type 0 where
  pub folder : is_directory s here ≡ true
  pub stands : named s here name ≡ Some i

goes_to : (s : State) (here : ℕ) (name : List ℕ) (i : ℕ) → step s here name ≡ Ok i → GoesTo s here name i
goes_to s here name i h = by (is_directory s here) refl
  where
    there : (b : Bool) (k : ℕ) → cond b (Ok k) (Err fault.NotFound) ≡ Ok i → k ≡ i
    there true k e = ap number_or e
    there false k e = absurd (false≢true (ap is_number e))

    to : (o : Option ℕ) → step_to s o ≡ Ok i → o ≡ Some i
    to None e = absurd (false≢true (ap is_number e))
    to (Some k) e = ap Some (there (is_there s k) k e)

    by : (b : Bool) → is_directory s here ≡ b → GoesTo s here name i
    by true e = record { folder = e; stands = to (named s here name) (sym (ap (λ (b : Bool). cond b (step_to s (named s here name)) (Err fault.NotDirectory)) e) ∙ h) }
    by false e = absurd (false≢true (ap is_number (sym (ap (λ (b : Bool). cond b (step_to s (named s here name)) (Err fault.NotDirectory)) e) ∙ h)))

stays_met : (s : State) (unmet : BTreeSet ℕ) → IsMetUpTo s [] unmet → (names : List (List ℕ)) (r : Result ℕ FindFault) (i : ℕ)
    → ((h : ℕ) → r ≡ Ok h → contains nat_cmp unmet h ≡ false) → walk s names r ≡ Ok i → contains nat_cmp unmet i ≡ false
stays_met s unmet all [] r i met e = met i e
stays_met s unmet all (name ∷ names) (Err f) i met e = absurd (false≢true (ap is_number e))
stays_met s unmet all (name ∷ names) (Ok here) i met e =
    stays_met s unmet all names (step s here name) i
    (λ h q.
    let to = goes_to s here name h q in
    by_test (contains nat_cmp unmet h)
    (λ t. absurd (Contains-none here (all.0.closed here h name to.folder (met here refl) to.stands t)))
    (λ f. f))
    e

pub all_met : (s : State) (unmet : BTreeSet ℕ) → IsMetUpTo s [] unmet → (i : ℕ) → is_there s i ≡ true → Decides (contains nat_cmp unmet i) (NamesLeadTo s i → ⊥)
all_met s unmet all i there = (
  λ h way. true≢false (sym h ∙ stays_met s unmet all way.0 (Ok 1) i (λ n e. ap (contains nat_cmp unmet) (sym (ap number_or e)) ∙ all.0.root) way.1),
  λ no. by_test (contains nat_cmp unmet i) (λ t. t) (λ f. absurd (no (all.0.met i there f))),
)

-- what names lead to is there
to_there : (s : State) (o : Option ℕ) (i : ℕ) → step_to s o ≡ Ok i → is_there s i ≡ true
to_there s None i e = absurd (false≢true (ap is_number e))
to_there s (Some k) i e = by (is_there s k) refl e
  where
    by : (b : Bool) → is_there s k ≡ b → cond b (Ok k) (Err fault.NotFound) ≡ Ok i → is_there s i ≡ true
    by true there is = ap (is_there s) (sym (ap number_or is)) ∙ there
    by false there is = absurd (false≢true (ap is_number is))

walk_there : (s : State) (names : List (List ℕ)) (r : Result ℕ FindFault) (i : ℕ) → ((h : ℕ) → r ≡ Ok h → is_there s h ≡ true) → walk s names r ≡ Ok i → is_there s i ≡ true
walk_there s [] r i there e = there i e
walk_there s (name ∷ names) (Err f) i there e = absurd (false≢true (ap is_number e))
walk_there s (name ∷ names) (Ok here) i there e =
    walk_there s names (step s here name) i
    (λ h q. by (is_directory s here) h q)
    e
  where
    by : (b : Bool) (h : ℕ) → cond b (step_to s (named s here name)) (Err fault.NotDirectory) ≡ Ok h → is_there s h ≡ true
    by true h q = to_there s (named s here name) h q
    by false h q = absurd (false≢true (ap is_number q))

pub led_there : (s : State) (i : ℕ) → is_there s 1 ≡ true → NamesLeadTo s i → is_there s i ≡ true
led_there s i root way = walk_there s way.0 (Ok 1) i (λ h q. ap (is_there s) (sym (ap number_or q)) ∙ root) way.1

pub met_leads : (s : State) (unmet : BTreeSet ℕ) → IsMetUpTo s [] unmet → (i : ℕ) → is_there s i ≡ true → contains nat_cmp unmet i ≡ false → NamesLeadTo s i
met_leads s unmet all i there gone = all.0.met i there gone
