-- Where a tree has the shape, no directory is listed again: what is still to print lies apart, and above nothing that was met.
use Rattle.std.proofs.Common.{◌≡◌, ◌≢◌, ℕ, ◌&&◌, ◌||◌, ◌==◌, not, cond, Bool, true, false, List, [], ◌∷◌, ◌++◌, map, refl, sym, ap, ◌∙◌, subst, Some, Ok, Err, inl, inr, ◌⊎◌, ⊎_elim}
use Rattle.std.specs.Prelude.{⊤, T, Contains, filter, option_map}
use Rattle.std.specs.FinMap.{get, entries, entries_sorted, get-entries}
use Rattle.std.specs.FinMap.Entries.{below_all, is_sorted}
use Rattle.std.proofs.lemmas.Bool.{eqb-true, false≢true}
use Rattle.jname.specs.Live.{Key, key_cmp}
use Rattle.flashbase.proofs.MemberLemmas.{Contains-none, Contains-here, Contains-there, Contains-cases}
use Rattle.jname.proofs.NamingLemmas.{key_cmp_total}
use Rattle.jname.proofs.SortedLemmas.{T_first, T_second, find-from_Contains}
use Rattle.jmount.specs.Tree.{State, object, named, is_there, is_directory, entries_in}
use Rattle.jmount.specs.Find.{step_to, step, walk}
use Rattle.jmount.specs.declared.fault.FindFault.TheVariants as find
use Rattle.jmount.specs.Shown.{shown}
use Rattle.jmount.proofs.ShapeLemmas.{Leads, IsShaped, leads_nowhere, leads_none, leads_more, leads_on, last_step, walk_begins, shaped}
use Rattle.jreport.specs.ListedOnce.{IsNotAgain, ShapeIsListedOnce}
use Rattle.jreport.specs.TreeText.{Item, Met, none_met, items_of, line_if, met_after, todo_after, is_entered, AreLinesOf}
use Rattle.jmount.proofs.DirectoryNameLemmas.{Others, names_among, others}

-- ---- the names of a directory differ

abbrev AreNames : State → ℕ → List (List ℕ × ℕ) → Type 0
AreNames s dir [] = ⊤
AreNames s dir (e ∷ es) = (named s dir e.0 ≡ Some e.1) × Others e.0 es × AreNames s dir es

are_names : (s : State) (dir : ℕ) (es : List (Key × ℕ)) → T (is_sorted key_cmp es) → ((e : Key × ℕ) → Contains es e → get s.names e.0 ≡ Some e.1) → AreNames s dir (names_among dir es)
are_names s dir [] sorted each = tt
are_names s dir (e ∷ es) sorted each =
    by (e.0.0 == dir) refl
    (are_names s dir es (T_second (below_all key_cmp e.0 es) (is_sorted key_cmp es) sorted) (λ x there. each x (Contains-there e es x there)))
  where
    by : (b : Bool) → (e.0.0 == dir) ≡ b → AreNames s dir (names_among dir es) → AreNames s dir (map (λ e. (e.0.1, e.1)) (cond b (e ∷ filter (λ e. e.0.0 == dir) es) (filter (λ e. e.0.0 == dir) es)))
    by true is rest =
        let at : e.0.0 ≡ dir = eqb-true e.0.0 dir is in (
          ap (λ (d : ℕ). get s.names (d, e.0.1)) (sym at) ∙ each e (Contains-here e es),
          others dir e.0 es at (T_first (below_all key_cmp e.0 es) (is_sorted key_cmp es) sorted),
          rest,
        )
    by false is rest = rest

names_of_directory : (s : State) (dir : ℕ) → AreNames s dir (entries_in s dir)
names_of_directory s dir =
    are_names s dir (entries s.names) (entries_sorted s.names)
    (λ e there. get-entries s.names e.0 ∙ find-from_Contains key_cmp key_cmp_total (entries s.names) e.0 e.1 (entries_sorted s.names) there)

-- ---- what lies below

abbrev pub Below : State → ℕ → ℕ → Type 0
Below s a b = (names : List (List ℕ)) × Leads s a names b

below_name : (s : State) (dir i : ℕ) (name : List ℕ) → is_directory s dir ≡ true → named s dir name ≡ Some i → Leads s dir (name ∷ []) i
below_name s dir i name d e = leads_more s dir dir i name [] (leads_none s dir) d e

below_on : (s : State) (dir i to : ℕ) (name : List ℕ) → is_directory s dir ≡ true → named s dir name ≡ Some i → Below s i to → Below s dir to
below_on s dir i to name d e below = (below.0 ++ name ∷ [], leads_on s dir i to (name ∷ []) below.0 (below_name s dir i name d e) below.1)

no_loop : (s : State) (i : ℕ) (names : List (List ℕ)) (name : List ℕ) → IsShaped s → Leads s i (names ++ name ∷ []) i → ⊥
no_loop s i [] name shape h = shape.no_loop i name [] h
no_loop s i (n ∷ names) name shape h = shape.no_loop i n (names ++ name ∷ []) h

-- a directory does not lie below what it names
no_way_back : (s : State) (dir i : ℕ) (name : List ℕ) → IsShaped s → is_directory s dir ≡ true → named s dir name ≡ Some i → Below s i dir → ⊥
no_way_back s dir i name shape d e below =
    no_loop s dir below.0 name shape (leads_on s dir i dir (name ∷ []) below.0 (below_name s dir i name d e) below.1)

-- what a directory below the root names is not the root
not_root : (s : State) (dir i : ℕ) (name : List ℕ) → IsShaped s → is_directory s dir ≡ true → named s dir name ≡ Some i → Below s 1 dir → i ≢ 1
not_root s dir i name shape d e root is = no_way_back s dir i name shape d e (subst (λ (k : ℕ). Below s k dir) (sym is) root)

-- the way to what a directory names leads by that directory
by_directory : (s : State) (dir i from : ℕ) (name : List ℕ) (names : List (List ℕ)) → IsShaped s → named s dir name ≡ Some i → is_directory s i ≡ true → i ≢ 1
    → Leads s from names i → (from ≡ i) ⊎ Below s from dir
by_directory s dir i from name [] shape e there other h = inl (leads_nowhere s from i h)
by_directory s dir i from name (n ∷ names) shape e there other h =
    let last = last_step s from i n names h in
    let one = shape.single last.0 dir n name i last.2 e there other in
    inr (names, subst (Leads s from names) one.0 last.3)

-- ---- what is still to print

-- neither of two directories lies below the other
abbrev pub Apart : State → ℕ → ℕ → Type 0
Apart s a b = is_directory s a ≡ true → is_directory s b ≡ true → (Below s a b → ⊥) × (Below s b a → ⊥)

abbrev pub IsAway : State → ℕ → List Item → Type 0
IsAway s i [] = ⊤
IsAway s i (item ∷ todo) = Apart s i item.1 × IsAway s i todo

-- a directory that lies below the root, and above nothing that was met
abbrev pub IsFresh : State → Met → ℕ → Type 0
IsFresh s met i = is_directory s i ≡ true → Below s 1 i × ((k : ℕ) → met k ≡ true → Below s i k → ⊥)

abbrev pub AreFresh : State → Met → List Item → Type 0
AreFresh s met [] = ⊤
AreFresh s met (item ∷ todo) = IsFresh s met item.1 × IsAway s item.1 todo × AreFresh s met todo

-- a directory that is entered, in a tree that has the shape
record IsEntered (s : State) (met : Met) (dir : ℕ) : Type 0 where
  shape : IsShaped s
  there : is_directory s dir ≡ true
  root : Below s 1 dir
  fresh : (k : ℕ) → met k ≡ true → Below s dir k → ⊥

met_cases : (s : State) (met : Met) (dir k : ℕ) → met_after s met dir k ≡ true → (met k ≡ true) ⊎ ((is_directory s dir ≡ true) × (dir ≡ k))
met_cases s met dir k is = by (met k) (is_directory s dir) (dir == k) refl is
  where
    by : (m d e : Bool) → (dir == k) ≡ e → m || (d && e) ≡ true → (m ≡ true) ⊎ ((d ≡ true) × (dir ≡ k))
    by true d e at h = inl refl
    by false true true at h = inr (refl, eqb-true dir k at)
    by false true false at h = absurd (false≢true h)
    by false false e at h = absurd (false≢true h)

still_fresh : (s : State) (met : Met) (dir : ℕ) (todo : List Item) → IsAway s dir todo → AreFresh s met todo → AreFresh s (met_after s met dir) todo
still_fresh s met dir [] away fresh = tt
still_fresh s met dir (item ∷ todo) away fresh = (
  λ d.
      let before = fresh.0 d in (
        before.0,
        λ k is below.
            ⊎_elim (λ (old : met k ≡ true). before.1 k old below)
            (λ (new : (is_directory s dir ≡ true) × (dir ≡ k)). (away.0 new.0 d).1 (subst (Below s item.1) (sym new.1) below))
            (met_cases s met dir k is),
      ),
  fresh.1,
  still_fresh s met dir todo away.1 fresh.2,
)

-- ---- the names of a directory that is entered

named_fresh : (s : State) (met : Met) (dir i : ℕ) (name : List ℕ) → IsEntered s met dir → named s dir name ≡ Some i → IsFresh s (met_after s met dir) i
named_fresh s met dir i name is e there = (
  (name ∷ is.root.0, leads_more s 1 dir i name is.root.0 is.root.1 is.there e),
  λ k m below.
      ⊎_elim (λ (old : met k ≡ true). is.fresh k old (below_on s dir i k name is.there e below))
      (λ (new : (is_directory s dir ≡ true) × (dir ≡ k)). no_way_back s dir i name is.shape is.there e (subst (Below s i) (sym new.1) below))
      (met_cases s met dir k m),
)

not_below_other : (s : State) (met : Met) (dir a b : ℕ) (m n : List ℕ) → IsEntered s met dir → named s dir m ≡ Some a → named s dir n ≡ Some b → (m ≡ n → ⊥)
    → is_directory s b ≡ true → Below s a b → ⊥
not_below_other s met dir a b m n is e f differ d below =
    let other : b ≢ 1 = not_root s dir b n is.shape is.there f is.root in
    ⊎_elim
    (λ (same : a ≡ b). differ (is.shape.single dir dir m n b (e ∙ ap Some same) f d other).1)
    (λ (up : Below s a dir). no_way_back s dir a m is.shape is.there e up)
    (by_directory s dir b a n below.0 is.shape f d other below.1)

named_apart : (s : State) (met : Met) (dir a b : ℕ) (m n : List ℕ) → IsEntered s met dir → named s dir m ≡ Some a → named s dir n ≡ Some b → (m ≡ n → ⊥) → Apart s a b
named_apart s met dir a b m n is e f differ da db = (
  not_below_other s met dir a b m n is e f differ db,
  not_below_other s met dir b a n m is f e (λ same. differ (sym same)) da,
)

away_from_rest : (s : State) (met : Met) (dir i : ℕ) (name : List ℕ) (todo : List Item) → IsEntered s met dir → named s dir name ≡ Some i → IsAway s dir todo → IsAway s i todo
away_from_rest s met dir i name [] is e away = tt
away_from_rest s met dir i name (item ∷ todo) is e away = (
  λ d there.
      let apart = away.0 is.there there in (
        λ below. apart.0 (below_on s dir i item.1 name is.there e below),
        λ below.
            ⊎_elim
            (λ (same : item.1 ≡ i). apart.0 (subst (Below s dir) (sym same) (name ∷ [], below_name s dir i name is.there e)))
            (λ (up : Below s item.1 dir). apart.1 up)
            (by_directory s dir i item.1 name below.0 is.shape e d (not_root s dir i name is.shape is.there e is.root) below.1),
      ),
  away_from_rest s met dir i name todo is e away.1,
)

away_from_names : (s : State) (met : Met) (dir i : ℕ) (name : List ℕ) (path : List (List ℕ)) (names : List (List ℕ × ℕ)) (todo : List Item) → IsEntered s met dir → named s dir name ≡ Some i
    → Others name names → AreNames s dir names → IsAway s dir todo → IsAway s i (items_of s path names ++ todo)
away_from_names s met dir i name path [] todo is e differ are away = away_from_rest s met dir i name todo is e away
away_from_names s met dir i name path (n ∷ names) todo is e differ are away =
    by (is_there s n.1) (away_from_names s met dir i name path names todo is e differ.1 are.2 away)
  where
    by : (b : Bool) → IsAway s i (items_of s path names ++ todo)
        → IsAway s i (map (λ e. (path ++ e.0 ∷ [], e.1)) (cond b (n ∷ filter (λ e. is_there s e.1) names) (filter (λ e. is_there s e.1) names)) ++ todo)
    by true rest = (named_apart s met dir i n.1 name n.0 is e are.0 differ.0, rest)
    by false rest = rest

names_fresh : (s : State) (met : Met) (dir : ℕ) (path : List (List ℕ)) (names : List (List ℕ × ℕ)) (todo : List Item) → IsEntered s met dir → AreNames s dir names
    → IsAway s dir todo → AreFresh s (met_after s met dir) todo → AreFresh s (met_after s met dir) (items_of s path names ++ todo)
names_fresh s met dir path [] todo is are away fresh = fresh
names_fresh s met dir path (n ∷ names) todo is are away fresh =
    by (is_there s n.1) (names_fresh s met dir path names todo is are.2 away fresh)
  where
    by : (b : Bool) → AreFresh s (met_after s met dir) (items_of s path names ++ todo)
        → AreFresh s (met_after s met dir) (map (λ e. (path ++ e.0 ∷ [], e.1)) (cond b (n ∷ filter (λ e. is_there s e.1) names) (filter (λ e. is_there s e.1) names)) ++ todo)
    by true rest = (named_fresh s met dir n.1 n.0 is are.0, away_from_names s met dir n.1 n.0 path names todo is are.0 are.1 are.2 away, rest)
    by false rest = rest

-- ---- what paths lead to

abbrev AreReached : State → List Item → Type 0
AreReached s [] = ⊤
AreReached s (item ∷ todo) = (walk s item.0 (Ok 1) ≡ Ok item.1) × AreReached s todo

walk_append : (s : State) (xs ys : List (List ℕ)) (a b : ℕ) → walk s xs (Ok a) ≡ Ok b → walk s (xs ++ ys) (Ok a) ≡ walk s ys (Ok b)
walk_append s [] ys a b e = ap (walk s ys) e
walk_append s (x ∷ xs) ys a b e =
    let begins = walk_begins s xs (step s a x) b e in
    ap (walk s (xs ++ ys)) begins.1 ∙ walk_append s xs ys begins.0 b begins.2

step_there : (s : State) (dir i : ℕ) (name : List ℕ) → is_directory s dir ≡ true → named s dir name ≡ Some i → is_there s i ≡ true → step s dir name ≡ Ok i
step_there s dir i name d e there =
    ap (λ (x : Bool). cond x (step_to s (named s dir name)) (Err find.NotDirectory)) d
    ∙ ap (step_to s) e
    ∙ ap (λ (x : Bool). cond x (Ok i) (Err find.NotFound)) there

names_reached : (s : State) (dir : ℕ) (path : List (List ℕ)) (names : List (List ℕ × ℕ)) (todo : List Item) → is_directory s dir ≡ true → walk s path (Ok 1) ≡ Ok dir
    → AreNames s dir names → AreReached s todo → AreReached s (items_of s path names ++ todo)
names_reached s dir path [] todo d at are reached = reached
names_reached s dir path (n ∷ names) todo d at are reached = by (is_there s n.1) refl (names_reached s dir path names todo d at are.2 reached)
  where
    by : (b : Bool) → is_there s n.1 ≡ b → AreReached s (items_of s path names ++ todo)
        → AreReached s (map (λ e. (path ++ e.0 ∷ [], e.1)) (cond b (n ∷ filter (λ e. is_there s e.1) names) (filter (λ e. is_there s e.1) names)) ++ todo)
    by true there rest = (walk_append s path (n.0 ∷ []) 1 dir at ∙ step_there s dir n.1 n.0 d are.0 there, rest)
    by false gone rest = rest

pub entered_there : (s : State) (met : Met) (dir : ℕ) → is_entered s met dir ≡ true → is_directory s dir ≡ true
entered_there s met dir entered = first (is_directory s dir) (not (met dir)) entered
  where
    first : (a b : Bool) → (a && b) ≡ true → a ≡ true
    first true b h = refl
    first false b h = absurd (false≢true h)

reached_after : (s : State) (met : Met) (item : Item) (todo : List Item) → AreReached s (item ∷ todo) → AreReached s (todo_after s met item todo)
reached_after s met item todo reached = by (is_entered s met item.1) refl
  where
    by : (b : Bool) → is_entered s met item.1 ≡ b → AreReached s (cond b (items_of s item.0 (entries_in s item.1) ++ todo) todo)
    by true entered =
        names_reached s item.1 item.0 (entries_in s item.1) todo (entered_there s met item.1 entered) reached.0 (names_of_directory s item.1) reached.1
    by false entered = reached.1

-- ---- the walk

pub fresh_after : (s : State) (met : Met) (item : Item) (todo : List Item) → IsShaped s → AreFresh s met (item ∷ todo) → AreFresh s (met_after s met item.1) (todo_after s met item todo)
fresh_after s met item todo shape fresh = by (is_entered s met item.1) refl
  where
    rest : AreFresh s (met_after s met item.1) todo
    rest = still_fresh s met item.1 todo fresh.1 fresh.2

    by : (b : Bool) → is_entered s met item.1 ≡ b → AreFresh s (met_after s met item.1) (cond b (items_of s item.0 (entries_in s item.1) ++ todo) todo)
    by true entered =
        let d : is_directory s item.1 ≡ true = entered_there s met item.1 entered in
        names_fresh s met item.1 item.0 (entries_in s item.1) todo (record { shape = shape; there = d; root = (fresh.0 d).0; fresh = (fresh.0 d).1 })
        (names_of_directory s item.1) fresh.1 rest
    by false entered = rest

pub no_mark : (s : State) (met : Met) (i : ℕ) → IsFresh s met i → (is_directory s i && met i) ≡ false
no_mark s met i fresh = by (is_directory s i) (met i) (λ d m. (fresh d).1 i m ([], leads_none s i))
  where
    by : (d m : Bool) → (d ≡ true → m ≡ true → ⊥) → (d && m) ≡ false
    by true true h = absurd (h refl refl)
    by true false h = refl
    by false m h = refl

lines_are_not_again : (s : State) (met : Met) (todo : List Item) (lines : List (List ℕ)) → IsShaped s → AreFresh s met todo → AreReached s todo → AreLinesOf s met todo lines
    → (line : List ℕ) → Contains lines line → IsNotAgain s line
lines_are_not_again s met [] lines shape fresh reached are line there = absurd (Contains-none line (subst (λ (ls : List (List ℕ)). Contains ls line) are there))
lines_are_not_again s met (item ∷ todo) [] shape fresh reached are line there = absurd are
lines_are_not_again s met (item ∷ todo) (first ∷ lines) shape fresh reached are line there =
    ⊎_elim
    (λ (is : first ≡ line). (
      item.0,
      item.1,
      reached.0,
      sym is ∙ are.0 ∙ ap (λ (b : Bool). line_if s item.0 item.1 (option_map shown (object s item.1)) b) (no_mark s met item.1 fresh.0),
    ))
    (λ (later : Contains lines line).
    lines_are_not_again s (met_after s met item.1) (todo_after s met item todo) lines shape (fresh_after s met item todo shape fresh) (reached_after s met item todo reached) are.1 line later)
    (Contains-cases first lines line there)

pub shape_is_listed_once : ShapeIsListedOnce
shape_is_listed_once s lines has are =
    lines_are_not_again s none_met (([], 1) ∷ []) lines (shaped s has)
    (λ d. (([], leads_none s 1), λ k m below. false≢true m), tt, tt) (refl, tt) are
