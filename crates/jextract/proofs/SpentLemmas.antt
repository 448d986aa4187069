-- An object with one name is gone through once, so where it was made need not be remembered.
use Rattle.std.proofs.Common.{◌≡◌, ℕ, ◌==◌, Bool, true, List, [], ◌∷◌, ◌++◌, append_assoc, refl, sym, ap, ◌∙◌, subst, inl, inr, ◌⊎◌, ⊎_elim, Option, Some, None, Ok, if◌then◌else◌, Contains}
use Rattle.std.specs.Prelude.{filter, is_some}
use Rattle.std.specs.Option.{option_or}
use Rattle.std.specs.FinMap.{entries}
use Rattle.std.proofs.lemmas.Bool.{eqb-true, eq-eqb, false≢true}
use Rattle.std.proofs.lemmas.List.Elements.{Contains-append_right}
use Rattle.flashbase.proofs.MemberLemmas.{Contains-none, Contains-here, Contains-there, Contains-cases, Contains-map_from, Contains-filter_from}
use Rattle.jname.specs.Live.{Key}
use Rattle.jname.proofs.ContentsByNameLemmas.{by_test}
use Rattle.jmount.specs.Tree.{State, named, entries_in}
use Rattle.jmount.specs.Shape.{HasOneName}
use Rattle.jmount.proofs.DirectoryNameLemmas.{Others}
use Rattle.jmount.proofs.ShapeOfLemmas.{named_by}
use Rattle.jextract.specs.Outcomes.{FirstPaths, firsts_with, root_alone}
use Rattle.jextract.specs.Walking.{Open, AreLastNames, IsSpent, Knows}
use Rattle.jextract.proofs.OnceLemmas.{Differ, names_differ}

-- ---- the names that are left of a directory

abbrev Entry : Type 0
Entry = List ℕ × ℕ

of_entries : (s : State) (d : ℕ) (e : Entry) → Contains (entries_in s d) e → named s d e.0 ≡ Some e.1
of_entries s d e there =
    let found = Contains-map_from (λ (e : Key × ℕ). (e.0.1, e.1)) (filter (λ (e : Key × ℕ). e.0.0 == d) (entries s.names)) e there in
    let entry = Contains-filter_from (λ (e : Key × ℕ). e.0.0 == d) (entries s.names) found.0 found.1 in
    let dir : found.0.0.0 ≡ d = eqb-true found.0.0.0 d entry.1 in
    subst (λ (e : Entry). named s d e.0 ≡ Some e.1) found.2 (subst (λ (d : ℕ). named s d found.0.0.1 ≡ Some found.0.1) dir (named_by s found.0.0 found.0.1 entry.0))

left_named : (s : State) (d : Open) (e : Entry) → AreLastNames s d → Contains d.1 e → named s d.0 e.0 ≡ Some e.1
left_named s d e left there = of_entries s d.0 e (subst (λ (es : List Entry). Contains es e) (sym left.1) (Contains-append_right left.0 d.1 e there))

-- one name less is left
pub next_left : (s : State) (d : ℕ) (x : Entry) (rest : List Entry) → AreLastNames s (d, x ∷ rest) → AreLastNames s (d, rest)
next_left s d x rest left = (left.0 ++ x ∷ [], left.1 ∙ sym (append_assoc left.0 (x ∷ []) rest))

other_names : (name : List ℕ) (es : List Entry) (e : Entry) → Others name es → Contains es e → name ≡ e.0 → ⊥
other_names name [] e others there same = Contains-none e there
other_names name (f ∷ es) e others there same =
    ⊎_elim (λ (here : f ≡ e). others.0 (same ∙ ap (λ (x : Entry). x.0) (sym here))) (λ later. other_names name es e others.1 later same) (Contains-cases f es e there)

not_twice : (read rest : List Entry) (x e : Entry) → Differ (read ++ x ∷ rest) → Contains rest e → x.0 ≡ e.0 → ⊥
not_twice [] rest x e differ there same = other_names x.0 rest e differ.0 there same
not_twice (r ∷ read) rest x e differ there same = not_twice read rest x e differ.1 there same

-- a name that was read comes no more
pub read_is_gone : (s : State) (d : ℕ) (x e : Entry) (rest : List Entry) → AreLastNames s (d, x ∷ rest) → Contains rest e → x.0 ≡ e.0 → ⊥
read_is_gone s d x e rest left there same = not_twice left.0 rest x e (subst Differ left.1 (names_differ s d)) there same

-- ---- the object of the next name

-- the walk is in these directories, and the next name of the first is that of an object
abbrev pub Reading : ℕ → Entry → List Entry → List Open → List Open
Reading d x rest above = (d, x ∷ rest) ∷ above

-- where it was made is known
pub next_known : (s : State) (made known : FirstPaths) (d : ℕ) (x : Entry) (rest : List Entry) (above : List Open) → Knows s made known (Reading d x rest above) → known x.1 ≡ made x.1
next_known s made known d x rest above knows =
    ⊎_elim (λ same. same)
    (λ (spent : IsSpent s made (Reading d x rest above) x.1). absurd (spent.gone (d, x ∷ rest) x.0 (Contains-here (d, x ∷ rest) above) (Contains-here x rest)))
    (knows.each x.1)

-- ---- the name was gone through

named_next : (s : State) (made known : FirstPaths) (d : ℕ) (x : Entry) (rest : List Entry) (above : List Open) → Knows s made known (Reading d x rest above) → named s d x.0 ≡ Some x.1
named_next s made known d x rest above knows = left_named s (d, x ∷ rest) x (knows.left (d, x ∷ rest) (Contains-here (d, x ∷ rest) above)) (Contains-here x rest)

module _ (s : State) (made known : FirstPaths) (d : ℕ) (x : Entry) (rest : List Entry) (above : List Open) (knows : Knows s made known (Reading d x rest above)) where
  abbrev whole : Open
  whole = (d, x ∷ rest)

  abbrev dirs : List Open
  dirs = Reading d x rest above

  abbrev now : List Open
  now = (d, rest) ∷ above

  in_dirs : (e : Open) → Contains above e → Contains dirs e
  in_dirs e there = Contains-there whole above e there

  left_now : (e : Open) → Contains now e → AreLastNames s e
  left_now e there =
      ⊎_elim
      (λ (here : (d, rest) ≡ e). subst (AreLastNames s) here (next_left s d x rest (knows.left whole (Contains-here whole above))))
      (λ later. knows.left e (Contains-there whole above e later))
      (Contains-cases (d, rest) above e there)

  -- a name that is left now was left before
  was_left : (e : Open) (y : Entry) → Contains now e → Contains e.1 y → (f : Open) × Contains dirs f × Contains f.1 y
  was_left e y there in_e =
      ⊎_elim
      (λ (here : (d, rest) ≡ e). (whole, Contains-here whole above, Contains-there x rest y (subst (λ (e : Open). Contains e.1 y) (sym here) in_e)))
      (λ later. (e, Contains-there whole above e later, in_e))
      (Contains-cases (d, rest) above e there)

  -- the object of the name comes no more, if it has one
  gone_now : HasOneName s x.1 → (e : Open) (n : List ℕ) → Contains now e → Contains e.1 (n, x.1) → ⊥
  gone_now one e n there in_e =
      let named_e : named s e.0 n ≡ Some x.1 = left_named s e (n, x.1) (left_now e there) in_e in
      let same = one d e.0 x.0 n (named_next s made known d x rest above knows) named_e in
      ⊎_elim
      (λ (here : (d, rest) ≡ e).
      read_is_gone s d x (n, x.1) rest (knows.left whole (Contains-here whole above)) (subst (λ (e : Open). Contains e.1 (n, x.1)) (sym here) in_e) same.1)
      (λ later. knows.apart.0 e later same.0)
      (Contains-cases (d, rest) above e there)

  there_now : (made_then : FirstPaths) → ((i : ℕ) → is_some (made i) ≡ true → is_some (made_then i) ≡ true) → (e : Open) → Contains now e → is_some (made_then e.0) ≡ true
  there_now made_then more e there =
      more e.0
      (⊎_elim
      (λ (here : (d, rest) ≡ e). subst (λ (e : Open). is_some (made e.0) ≡ true) here (knows.there whole (Contains-here whole above)))
      (λ later. knows.there e (Contains-there whole above e later))
      (Contains-cases (d, rest) above e there))

  -- what was spent stays so
  still_spent : (made_then : FirstPaths) → ((i : ℕ) → is_some (made i) ≡ true → is_some (made_then i) ≡ true) → (i : ℕ) → IsSpent s made dirs i → IsSpent s made_then now i
  still_spent made_then more i spent = record {
    one = spent.one;
    below = λ e n is. more e (spent.below e n is);
    gone = λ e n there in_e. let before = was_left e (n, i) there in_e in spent.gone before.0 n before.1 before.2;
  }

  -- it leads to nothing that is made
  pub passed : Knows s made known now
  passed = record {
    there = there_now made (λ i h. h);
    apart = (knows.apart.0, knows.apart.1);
    left = left_now;
    each = λ i. ⊎_elim (λ same. inl same) (λ (spent : IsSpent s made dirs i). inr (still_spent made (λ i h. h) i spent)) (knows.each i);
  }

  either_made : (o p : Option (List ℕ)) → is_some o ≡ true → is_some (option_or o p) ≡ true
  either_made (Some text) p h = refl
  either_made None p h = absurd (false≢true h)

  made_more : (text : List ℕ) (i : ℕ) → is_some (made i) ≡ true → is_some (firsts_with made (Ok text) x.1 i) ≡ true
  made_more text i h = either_made (made i) (if x.1 == i then Some text else None) h

  -- ---- its object was made

  abbrev made_at : List ℕ → FirstPaths
  made_at text = firsts_with made (Ok text) x.1

  abbrev SpentThen : ℕ → Type 0
  SpentThen i = IsSpent s made dirs i ⊎ ((x.1 ≡ i) × HasOneName s x.1)

  -- what is known then
  abbrev pub KnowsThen : FirstPaths → List ℕ → Type 0
  KnowsThen known_then text = (i : ℕ) → (known_then i ≡ made_at text i) ⊎ SpentThen i

  pub remembered : (text : List ℕ) → KnowsThen (firsts_with known (Ok text) x.1) text
  remembered text i =
      ⊎_elim (λ (same : known i ≡ made i). inl (ap (λ (o : Option (List ℕ)). option_or o (if x.1 == i then Some text else None)) same)) (λ spent. inr (inl spent)) (knows.each i)

  or_none : (o : Option (List ℕ)) → option_or o None ≡ o
  or_none None = refl
  or_none (Some text) = refl

  -- an object with one name need not be
  pub forgotten : (text : List ℕ) → HasOneName s x.1 → KnowsThen known text
  forgotten text one i =
      by_test (x.1 == i) (λ t. inr (inr (eqb-true x.1 i t, one)))
      (λ f.
      ⊎_elim (λ (same : known i ≡ made i). inl (same ∙ sym (or_none (made i)) ∙ ap (λ (b : Bool). option_or (made i) (if b then Some text else None)) (sym f)))
      (λ spent. inr (inl spent))
      (knows.each i))

  of_one_name : HasOneName s x.1 → (e : ℕ) (n : List ℕ) → named s e n ≡ Some x.1 → d ≡ e
  of_one_name one e n is = (one d e x.0 n (named_next s made known d x rest above knows) is).0

  spent_now : (text : List ℕ) (i : ℕ) → SpentThen i → IsSpent s (made_at text) now i
  spent_now text i spent =
      ⊎_elim (λ before. still_spent (made_at text) (made_more text) i before)
      (λ (here : (x.1 ≡ i) × HasOneName s x.1).
      subst (IsSpent s (made_at text) now) here.0
      (record {
        one = here.1;
        below = λ e n is. made_more text e (subst (λ (e : ℕ). is_some (made e) ≡ true) (of_one_name here.1 e n is) (knows.there whole (Contains-here whole above)));
        gone = gone_now here.1;
      }))
      spent

  pub knows_now : (known_then : FirstPaths) (text : List ℕ) → KnowsThen known_then text → Knows s (made_at text) known_then now
  knows_now known_then text each = record {
    there = there_now (made_at text) (made_more text);
    apart = (knows.apart.0, knows.apart.1);
    left = left_now;
    each = λ i. ⊎_elim (λ same. inl same) (λ (spent : SpentThen i). inr (spent_now text i spent)) (each i);
  }

  -- ---- it is a directory, and entered

  abbrev inside : Open
  inside = (x.1, entries_in s x.1)

  not_there : (i : ℕ) → made i ≡ None → is_some (made i) ≡ true → ⊥
  not_there i none there = false≢true (sym (ap is_some none) ∙ there)

  -- what was spent has no name in it
  none_inside : made x.1 ≡ None → (i : ℕ) (n : List ℕ) → SpentThen i → named s x.1 n ≡ Some i → ⊥
  none_inside fresh i n spent is =
      ⊎_elim (λ (before : IsSpent s made dirs i). not_there x.1 fresh (before.below x.1 n is))
      (λ (here : (x.1 ≡ i) × HasOneName s x.1).
      let same = of_one_name here.1 x.1 n (is ∙ ap Some (sym here.0)) in
      not_there x.1 fresh (subst (λ (e : ℕ). is_some (made e) ≡ true) same (knows.there whole (Contains-here whole above))))
      spent

  made_now : (o : Option (List ℕ)) (text : List ℕ) → is_some (option_or o (Some text)) ≡ true
  made_now (Some other) text = refl
  made_now None text = refl

  pub knows_inside : (known_then : FirstPaths) (text : List ℕ) → made x.1 ≡ None → KnowsThen known_then text → Knows s (made_at text) known_then (inside ∷ now)
  knows_inside known_then text fresh each =
      let after = knows_now known_then text each in
      record {
        there = λ e in_e.
            ⊎_elim
            (λ (here : inside ≡ e).
            subst (λ (e : Open). is_some (made_at text e.0) ≡ true) here
            (ap (λ (b : Bool). is_some (option_or (made x.1) (if b then Some text else None))) (eq-eqb x.1 x.1 refl) ∙ made_now (made x.1) text))
            (λ later. after.there e later)
            (Contains-cases inside now e in_e);
        apart = (λ e in_e same. not_there x.1 fresh (subst (λ (i : ℕ). is_some (made i) ≡ true) (sym same) (there_now made (λ i h. h) e in_e)), after.apart);
        left = λ e in_e. ⊎_elim (λ (here : inside ≡ e). subst (AreLastNames s) here ([], refl)) (λ later. after.left e later) (Contains-cases inside now e in_e);
        each = λ i.
            ⊎_elim (λ same. inl same)
            (λ (spent : SpentThen i).
            let so = spent_now text i spent in
            inr
            (record {
              one = so.one;
              below = so.below;
              gone = λ e n in_e in_names.
                  ⊎_elim (λ (here : inside ≡ e). none_inside fresh i n spent (of_entries s x.1 (n, i) (subst (λ (e : Open). Contains e.1 (n, i)) (sym here) in_names)))
                  (λ later. so.gone e n later in_names)
                  (Contains-cases inside now e in_e);
            }))
            (each i);
      }

-- ---- the walk goes back to the directory above

pub gone_up : (s : State) (made known : FirstPaths) (d : Open) (above : List Open) → Knows s made known (d ∷ above) → Knows s made known above
gone_up s made known d above knows = record {
  there = λ e in_e. knows.there e (Contains-there d above e in_e);
  apart = knows.apart.1;
  left = λ e in_e. knows.left e (Contains-there d above e in_e);
  each = λ i.
      ⊎_elim (λ same. inl same)
      (λ (spent : IsSpent s made (d ∷ above) i).
      inr (record { one = spent.one; below = spent.below; gone = λ e n in_e in_names. spent.gone e n (Contains-there d above e in_e) in_names }))
      (knows.each i);
}

-- ---- the walk begins

-- the root alone was made, and is known
pub knows_first : (s : State) → Knows s root_alone root_alone ((1, entries_in s 1) ∷ [])
knows_first s = record {
  there = λ e in_e. ⊎_elim (λ (here : (1, entries_in s 1) ≡ e). subst (λ (e : Open). is_some (root_alone e.0) ≡ true) here refl) (λ none. absurd (Contains-none e none)) (Contains-cases (1, entries_in s 1) [] e in_e);
  apart = (λ e none. absurd (Contains-none e none), tt);
  left = λ e in_e. ⊎_elim (λ (here : (1, entries_in s 1) ≡ e). subst (AreLastNames s) here ([], refl)) (λ none. absurd (Contains-none e none)) (Contains-cases (1, entries_in s 1) [] e in_e);
  each = λ i. inl refl;
}
