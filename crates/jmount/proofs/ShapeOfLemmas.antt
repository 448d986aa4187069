-- The function that computes the shape decides it.
use Rattle.std.proofs.Common.{◌≡◌, ◌≢◌, ℕ, suc, zero, ◌<◌, ◌≤◌, Bool, true, false, List, [], ◌∷◌, length, filter, Some, refl, ap, sym, ◌∙◌, inl, inr, ◌⊎◌, ⊎_elim, arith}
use Rattle.std.specs.Prelude.{Contains, not, ◌==◌, ◌&&◌, ◌||◌}
use Rattle.std.specs.List.{list_any, list_all}
use Rattle.std.specs.Ordering.{eq_by_cmp, nat_cmp}
use Rattle.std.specs.Cmp.{eq_by_cmp_equiv}
use Rattle.std.specs.FinMap.{keys, entries, entries_sorted, get-entries, contains_key-keys, nat_cmp-IsAntisymmetric}
use Rattle.std.proofs.lemmas.Bool.{and_from, eqb-true, eq-eqb, ne_eqb, true≢false, false≢true}
use Rattle.std.proofs.lemmas.Map.Views.{Contains-from_any, tells_apart}
use Rattle.jname.specs.Live.{Key, key_cmp}
use Rattle.flashbase.proofs.MemberLemmas.{Contains-none, Contains-here, Contains-there, Contains-cases, Contains-filter, Contains-filter_from}
use Rattle.jname.proofs.NamingLemmas.{key_cmp_total, key_cmp-IsAntisymmetric}
use Rattle.jname.proofs.SortedLemmas.{Contains-from_find, find-from_Contains}
use Rattle.jmount.specs.Tree.{Tree, Outline, named, is_directory}
use Rattle.jmount.specs.Shape.{HasShape}
use Rattle.jmount.specs.Laws as law
use Rattle.jmount.specs.ShapeForm.{IsOnLoop, is_no_second, is_single, is_held, left_after, directories}
use Rattle.jmount.proofs.ShapeLemmas.{there_of_directory}
use Rattle.jmount.proofs.ShapeFormLemmas.{shape_has_no_loop, filter_less, held_on_loop, held_is_loop, loops_are_of_directories, no_loop_is_shape}

-- ---- lists

pub any_from : {X : Type 0} (p : X → Bool) (xs : List X) (x : X) → Contains xs x → p x ≡ true → list_any p xs ≡ true
any_from p [] x there h = absurd (Contains-none x there)
any_from p (y ∷ xs) x there h =
    ⊎_elim (λ (is : y ≡ x). here (p y) (list_any p xs) (ap p is ∙ h)) (λ later. further (p y) (list_any p xs) (any_from p xs x later h)) (Contains-cases y xs x there)
  where
    here : (a b : Bool) → a ≡ true → (a || b) ≡ true
    here true b e = refl
    here false b e = absurd (false≢true e)

    further : (a b : Bool) → b ≡ true → (a || b) ≡ true
    further true b e = refl
    further false b e = e

pub any_to : {X : Type 0} (p : X → Bool) (xs : List X) → list_any p xs ≡ true → (x : X) × Contains xs x × (p x ≡ true)
any_to p [] h = absurd (false≢true h)
any_to p (y ∷ xs) h =
    ⊎_elim
    (λ (yes : p y ≡ true). (y, Contains-here y xs, yes))
    (λ (later : list_any p xs ≡ true). let found = any_to p xs later in (found.0, Contains-there y xs found.0 found.1, found.2))
    (either (p y) (list_any p xs) h)
  where
    either : (a b : Bool) → (a || b) ≡ true → (a ≡ true) ⊎ (b ≡ true)
    either true b e = inl refl
    either false b e = inr e

pub both : (a b : Bool) → (a && b) ≡ true → (a ≡ true) × (b ≡ true)
both true b h = (refl, h)
both false b h = absurd (false≢true h)

all_at : {X : Type 0} (p : X → Bool) (xs : List X) (x : X) → list_all p xs ≡ true → Contains xs x → p x ≡ true
all_at p [] x h there = absurd (Contains-none x there)
all_at p (y ∷ xs) x h there =
    let parts = both (p y) (list_all p xs) h in
    ⊎_elim (λ (is : y ≡ x). ap p (sym is) ∙ parts.0) (λ later. all_at p xs x parts.1 later) (Contains-cases y xs x there)

all_from : {X : Type 0} (p : X → Bool) (xs : List X) → ((x : X) → Contains xs x → p x ≡ true) → list_all p xs ≡ true
all_from p [] h = refl
all_from p (y ∷ xs) h = and_from (p y) (list_all p xs) (h y (Contains-here y xs)) (all_from p xs (λ x later. h x (Contains-there y xs x later)))

AllOrOne : {X : Type 0} → (X → Bool) → List X → Type 0
AllOrOne {X} p xs = ((x : X) → Contains xs x → p x ≡ true) ⊎ ((x : X) × Contains xs x × (p x ≡ false))

one_more : {X : Type 0} (p : X → Bool) (y : X) (xs : List X) → AllOrOne p xs → (b : Bool) → p y ≡ b → AllOrOne p (y ∷ xs)
unfolding AllOrOne
one_more {X} p y xs rest true e =
    ⊎_elim
    (λ (all : (x : X) → Contains xs x → p x ≡ true). inl (λ x there. ⊎_elim (λ (is : y ≡ x). ap p (sym is) ∙ e) (λ later. all x later) (Contains-cases y xs x there)))
    (λ (one : (x : X) × Contains xs x × (p x ≡ false)). inr (one.0, Contains-there y xs one.0 one.1, one.2))
    rest
one_more p y xs rest false e = inr (y, Contains-here y xs, e)

all_or_one : {X : Type 0} (p : X → Bool) (xs : List X) → AllOrOne p xs
unfolding AllOrOne
all_or_one p [] = inl (λ x there. absurd (Contains-none x there))
all_or_one p (y ∷ xs) = one_more p y xs (all_or_one p xs) (p y) refl

-- ---- entries

pub listed : {B : Type 0} (t : Tree B) (d : ℕ) (n : List ℕ) (i : ℕ) → named t d n ≡ Some i → Contains (entries t.names) ((d, n), i)
listed t d n i e = Contains-from_find key_cmp key_cmp-IsAntisymmetric (entries t.names) (d, n) i (sym (get-entries t.names (d, n)) ∙ e)

pub named_by : {B : Type 0} (t : Tree B) (k : Key) (i : ℕ) → Contains (entries t.names) (k, i) → named t k.0 k.1 ≡ Some i
named_by t k i there = get-entries t.names k ∙ find-from_Contains key_cmp key_cmp_total (entries t.names) k i (entries_sorted t.names) there

-- ---- one name

decode : (a b c d : Bool) → (not a || (b || (not c || d))) ≡ true → a ≡ true → b ≡ false → c ≡ true → d ≡ true
decode false b c d h x y z = absurd (false≢true x)
decode true true c d h x y z = absurd (true≢false y)
decode true false false d h x y z = absurd (false≢true z)
decode true false true d h x y z = h

encode : (a b c d : Bool) → (a ≡ true → b ≡ false → c ≡ true → d ≡ true) → (not a || (b || (not c || d))) ≡ true
encode false b c d h = refl
encode true true c d h = refl
encode true false false d h = refl
encode true false true d h = h refl refl refl

single_of : (t : Outline) → is_single t ≡ true → (a b : ℕ) (m n : List ℕ) (i : ℕ) → named t a m ≡ Some i → named t b n ≡ Some i → is_directory t i ≡ true → i ≢ 1 → (a ≡ b) × (m ≡ n)
single_of t h a b m n i e f there other =
    let es = entries t.names in
    let first = all_at (λ e. list_all (is_no_second t e) es) es ((a, m), i) h (listed t a m i e) in
    let second = all_at (is_no_second t ((a, m), i)) es ((b, n), i) first (listed t b n i f) in
    let key = tells_apart {R = key_cmp} key_cmp-IsAntisymmetric (a, m) (b, n) (decode (i == i) (i == 1) (is_directory t i) (eq_by_cmp key_cmp (a, m) (b, n)) second (eq-eqb i i refl) (ne_eqb i 1 other) there) in
    (ap (λ (k : Key). k.0) key, ap (λ (k : Key). k.1) key)

of_single : (t : Outline) → HasShape t → is_single t ≡ true
of_single t has =
    let es = entries t.names in
    all_from (λ e. list_all (is_no_second t e) es) es
    (λ e in_e.
    all_from (is_no_second t e) es
    (λ f in_f.
    encode (e.1 == f.1) (e.1 == 1) (is_directory t e.1) (eq_by_cmp key_cmp e.0 f.0)
    (λ same other there.
    let number = eqb-true e.1 f.1 same in
    let not_root : e.1 ≢ 1 = λ is. true≢false (sym (eq-eqb e.1 1 is) ∙ other) in
    let one = has.single e.0.0 f.0.0 e.0.1 f.0.1 e.1 (named_by t e.0 e.1 in_e) (named_by t f.0 f.1 in_f ∙ ap Some (sym number)) there not_root in
    ap (λ (d : ℕ). eq_by_cmp key_cmp (d, e.0.1) f.0) one.0
    ∙ ap (λ (n : List ℕ). eq_by_cmp key_cmp (f.0.0, n) f.0) one.1
    ∙ (eq_by_cmp_equiv key_cmp_total).refl f.0)))

-- ---- rounds

held_from : (t : Outline) (dirs : List ℕ) (i d : ℕ) (n : List ℕ) → Contains dirs d → named t d n ≡ Some i → is_held t dirs i ≡ true
held_from t dirs i d n there e =
    any_from (λ e. (e.1 == i) && list_any (λ d. d == e.0.0) dirs) (entries t.names) ((d, n), i) (listed t d n i e)
    (and_from (i == i) (list_any (λ x. x == d) dirs) (eq-eqb i i refl) (any_from (λ x. x == d) dirs d there (eq-eqb d d refl)))

held_to : (t : Outline) (dirs : List ℕ) (i : ℕ) → is_held t dirs i ≡ true → (d : ℕ) × Contains dirs d × ((n : List ℕ) × (named t d n ≡ Some i))
held_to t dirs i h =
    let entry = any_to (λ (e : Key × ℕ). (e.1 == i) && list_any (λ d. d == e.0.0) dirs) (entries t.names) h in
    let parts = both (entry.0.1 == i) (list_any (λ d. d == entry.0.0.0) dirs) entry.2 in
    let dir = any_to (λ d. d == entry.0.0.0) dirs parts.1 in
    let same = eqb-true dir.0 entry.0.0.0 dir.2 in (
      dir.0,
      dir.1,
      (
        entry.0.0.1,
        ap (λ (d : ℕ). named t d entry.0.0.1) same ∙ named_by t entry.0.0 entry.0.1 entry.1 ∙ ap Some (eqb-true entry.0.1 i parts.0),
      ),
    )

loops_are_left_after : (t : Outline) (n : ℕ) (dirs : List ℕ) → ((i : ℕ) → IsOnLoop t i → Contains dirs i) → (i : ℕ) → IsOnLoop t i → Contains (left_after t n dirs) i
loops_are_left_after t zero dirs all i loop = all i loop
loops_are_left_after t (suc n) dirs all i loop =
    loops_are_left_after t n (filter (is_held t dirs) dirs)
    (λ j round.
    let held = held_on_loop t j round in
    Contains-filter (is_held t dirs) dirs j (held_from t dirs j held.0 held.2.0 (all held.0 held.1) held.2.2) (all j round))
    i loop

none_is_left : (t : Outline) → HasShape t → (n : ℕ) (dirs : List ℕ) → length dirs ≤ n → ((i : ℕ) → Contains dirs i → is_directory t i ≡ true) → length (left_after t n dirs) ≡ 0
unfolding AllOrOne
none_is_left t has zero dirs short all = omega arith
none_is_left t has (suc n) [] short all = none_is_left t has n [] (omega arith) (λ i there. absurd (Contains-none i there))
none_is_left t has (suc n) (x ∷ xs) short all =
    let dirs = x ∷ xs in
    ⊎_elim
    (λ (held : (i : ℕ) → Contains dirs i → is_held t dirs i ≡ true).
    absurd
    (held_is_loop t dirs x (Contains-here x xs)
    (λ i there. let by = held_to t dirs i (held i there) in (by.0, by.1, (by.2.0, all by.0 by.1, by.2.1)))
    (shape_has_no_loop t has)))
    (λ (one : (i : ℕ) × Contains dirs i × (is_held t dirs i ≡ false)).
    let less : length (filter (is_held t dirs) dirs) < length dirs = filter_less (is_held t dirs) dirs one.0 one.1 one.2 in
    none_is_left t has n (filter (is_held t dirs) dirs) (omega arith) (λ i there. all i (Contains-filter_from (is_held t dirs) dirs i there).0))
    (all_or_one (is_held t dirs) dirs)

directory_listed : (t : Outline) (i : ℕ) → is_directory t i ≡ true → Contains (keys t.objects) i
directory_listed t i there =
    Contains-from_any {eq = eq_by_cmp nat_cmp} (tells_apart {R = nat_cmp} nat_cmp-IsAntisymmetric) i (keys t.objects) (sym (contains_key-keys t.objects i) ∙ there_of_directory t i there)

nothing_in : (xs : List ℕ) (i : ℕ) → length xs ≡ 0 → Contains xs i → ⊥
nothing_in [] i none there = Contains-none i there
nothing_in (x ∷ xs) i none there = omega arith

pub shape_is_decided : law.ShapeIsDecided
shape_is_decided t =
    let dirs = directories t in
    let left = left_after t (length dirs) dirs in (
      λ h.
          let parts = both (is_single t) (length left == 0) h in
          no_loop_is_shape t (single_of t parts.0)
          (λ i loop.
          nothing_in left i (eqb-true (length left) 0 parts.1)
          (loops_are_left_after t (length dirs) dirs (λ j round. let there = loops_are_of_directories t j round in Contains-filter (is_directory t) (keys t.objects) j there (directory_listed t j there)) i loop)),
      λ has.
          and_from (is_single t) (length left == 0) (of_single t has)
          (eq-eqb (length left) 0 (none_is_left t has (length dirs) dirs (omega arith) (λ i there. (Contains-filter_from (is_directory t) (keys t.objects) i there).1))),
    )
