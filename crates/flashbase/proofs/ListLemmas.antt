-- What the words on lists answer.
use Rattle.std.proofs.Common.{◌≡◌, ℕ, zero, suc, ◌+◌, ◌<◌, ◌≤◌, Bool, true, false, cond, List, [], ◌∷◌, ◌++◌, map, length, get_or, Option, Some, None, refl, ap, sym, ◌∙◌, subst, inl, inr, ◌⊎◌, ⊎_elim, ◌||◌, Ordering, ltb, arith}
use Rattle.std.proofs.lemmas.Bool.Decides.{nat_tests}
use Rattle.std.proofs.lemmas.Grind.{common_steps, flat_map-append}
use Rattle.std.proofs.lemmas.Bool.{cases_lt, cases_cond, cond-true, lt-ltb, true≢false, false≢true}
use Rattle.std.proofs.lemmas.Option.{same_Some, slice_get-get_or}
use Rattle.std.proofs.lemmas.List.Elements.{filter-append}
use Rattle.std.proofs.lemmas.Grind.{fold-append}
use Rattle.std.proofs.lemmas.List.{append-nil, get_or_append_left, get_or-map}
use Rattle.std.proofs.lemmas.List.Sums.{sum_by-cons}
use Rattle.std.proofs.lemmas.Map.Views.{tells_apart}
use Rattle.std.proofs.Math.Seq.{get_or-append_seam}
use Rattle.std.specs.Prelude.{option_map, filter_map, filter, fold, max, ◌==◌, Contains, is_some, slice_get, flat_map, count_by}
use Rattle.std.specs.List.{list_any, cons_option}
use Rattle.std.specs.Ordering.{eq_by_cmp, nat_cmp}
use Rattle.std.specs.Cmp.{IsTotalOrder, nat_cmp_total, unsigned_tied}
use Rattle.std.specs.FinMap.{get, find, get-from_entries, IsAntisymmetric, nat_cmp-IsAntisymmetric}
use Rattle.flashbase.specs.Laws.{BelowIsBelow, GreatestIsGreatest}
use Rattle.flashbase.specs.Lists.{below, each_below, newest, higher_of, IsNewest, entry_at, tabled, greatest}

-- ---- the one of highest version

-- x after what was there
abbrev pub after_last : {X : Type 0} → (X → ℕ) → Option X → X → X
after_last version None x = x
after_last version (Some y) x = higher_of version y (Some x)

higher_assoc : {X : Type 0} (version : X → ℕ) (a y x : X) → higher_of version a (Some (higher_of version y (Some x))) ≡ higher_of version (higher_of version a (Some y)) (Some x)
higher_assoc version a y x = grind (arith, nat_tests)

after_last-higher : {X : Type 0} (version : X → ℕ) (a x : X) (there : Option X) → higher_of version a (Some (after_last version there x)) ≡ after_last version (Some (higher_of version a there)) x
after_last-higher version a x None = refl
after_last-higher version a x (Some y) = higher_assoc version a y x

pub newest-push : {X : Type 0} (version : X → ℕ) (xs : List X) (x : X) → newest version (xs ++ x ∷ []) ≡ Some (after_last version (newest version xs) x)
newest-push version [] x = refl
newest-push version (a ∷ xs) x = ap (λ there. Some (higher_of version a there)) (newest-push version xs x) ∙ ap Some (after_last-higher version a x (newest version xs))

pub newest_of_one_more : {X : Type 0} (xs : List X) (version : X → ℕ) (x y : X) → newest version xs ≡ Some y
    → newest version (xs ++ x ∷ []) ≡ Some (higher_of version y (Some x))
newest_of_one_more xs version x y e = newest-push version xs x ∙ ap (λ there. Some (after_last version there x)) e

-- ---- the numbers below a bound

pub length-below : (n : ℕ) → length (below n) ≡ n
length-below zero = refl
length-below (suc n) = let e : length (below n) ≡ n = length-below n in grind (arith, common_steps)

pub length-each_below : {X : Type 0} (n : ℕ) (f : ℕ → X) → length (each_below n f) ≡ n
length-each_below n f = let e : length (below n) ≡ n = length-below n in grind (arith, common_steps)

pub get_or-below : (n i : ℕ) → i < n → get_or (below n) i 0 ≡ i
get_or-below zero i h = absurd (omega arith)
get_or-below (suc n) i h =
    let e : length (below n) ≡ n = length-below n in
    ⊎_elim
    (λ lt. get_or_append_left (below n) (n ∷ []) 0 i (omega arith) ∙ get_or-below n i lt)
    (λ ge. let same : i ≡ length (below n) = omega arith in ap (λ j. get_or (below n ++ n ∷ []) j 0) same ∙ get_or-append_seam (below n) n [] 0 ∙ omega arith)
    (cases_lt i n)

pub get_or-each_below : {X : Type 0} (n i : ℕ) (f : ℕ → X) (d : X) → i < n → get_or (each_below n f) i d ≡ f i
get_or-each_below n i f d h =
    let e : length (below n) ≡ n = length-below n in
    get_or-map f (below n) i 0 d (omega arith) ∙ ap f (get_or-below n i h)

-- what gives nothing from n on adds nothing
pub flat_map-below : {A : Type 0} (g : ℕ → List A) (n d : ℕ) → ((k : ℕ) → n ≤ k → g k ≡ []) → flat_map g (below (d + n)) ≡ flat_map g (below n)
flat_map-below g n zero h = let same : 0 + n ≡ n = omega arith in ap (λ (m : ℕ). flat_map g (below m)) same
flat_map-below g n (suc d) h =
    let step : suc d + n ≡ suc (d + n) = omega arith in
    ap (λ (m : ℕ). flat_map g (below m)) step
    ∙ (flat_map-append g (below (d + n)) ((d + n) ∷ [])
    ∙ (ap (λ ys. flat_map g (below (d + n)) ++ (ys ++ [])) (h (d + n) (omega arith))
    ∙ (append-nil (flat_map g (below (d + n))) ∙ flat_map-below g n d h)))

pub below_is_below : BelowIsBelow
below_is_below n = (
  length-below n,
  λ i h. let within : i < length (below n) = omega (arith, length-below n) in
      slice_get-get_or (below n) i 0 within ∙ ap Some (get_or-below n i h),
)

pub each_below_is_each : {X : Type 0} (n : ℕ) (f : ℕ → X) → (length (each_below n f) ≡ n) × ((i : ℕ) → i < n → slice_get (each_below n f) i ≡ Some (f i))
each_below_is_each n f = (
  length-each_below n f,
  λ i h. let within : i < length (each_below n f) = omega (arith, length-each_below n f) in
      slice_get-get_or (each_below n f) i (f 0) within ∙ ap Some (get_or-each_below n i f (f 0) h),
)

-- ---- a map of keys by a function

or_else : {X : Type 0} → Option X → Option X → Option X
or_else None there = there
or_else (Some x) there = Some x

cond_same : {X : Type 0} (b : Bool) (x : X) → x ≡ cond b x x
cond_same true x = refl
cond_same false x = refl

find-entry : {K X : Type 0} (R : K → K → Ordering) (k q : K) (rest : List (K × X)) (here : Option X)
    → find R q (cons_option (option_map (λ x. (k, x)) here) rest) ≡ cond (eq_by_cmp R q k) (or_else here (find R q rest)) (find R q rest)
unfolding or_else
find-entry R k q rest None = cond_same (eq_by_cmp R q k) (find R q rest)
find-entry R k q rest (Some x) = refl

or_else_cond : {X : Type 0} (c : Bool) (there : Option X) → or_else there (cond c there None) ≡ there
unfolding or_else
or_else_cond true None = refl
or_else_cond false None = refl
or_else_cond c (Some x) = refl

one_key : {X : Type 0} (b c : Bool) (fk fq : Option X) → (b ≡ true → fk ≡ fq)
    → cond b (or_else fk (cond c fq None)) (cond c fq None) ≡ cond (b || c) fq None
one_key true c fk fq h = ap (λ o. or_else o (cond c fq None)) (h refl) ∙ or_else_cond c fq
one_key false c fk fq h = refl

find-tabled : {K X : Type 0} (R : K → K → Ordering) → IsAntisymmetric R → (f : K → Option X) (keys : List K) (q : K)
    → find R q (filter_map (entry_at f) keys) ≡ cond (list_any (eq_by_cmp R q) keys) (f q) None
find-tabled R same f [] q = refl
find-tabled R same f (k ∷ keys) q =
    find-entry R k q (filter_map (entry_at f) keys) (f k)
    ∙ ap (λ there. cond (eq_by_cmp R q k) (or_else (f k) there) there) (find-tabled R same f keys q)
    ∙ one_key (eq_by_cmp R q k) (list_any (eq_by_cmp R q) keys) (f k) (f q) (λ e. ap f (sym (tells_apart same q k e)))

-- what the map has at a key: what the function gives there, if the key is one of the keys
pub get-tabled : {K X : Type 0} (R : K → K → Ordering) → IsTotalOrder R → IsAntisymmetric R → (keys : List K) (f : K → Option X) (q : K)
    → get (tabled R keys f) q ≡ cond (list_any (eq_by_cmp R q) keys) (f q) None
get-tabled R o same keys f q = get-from_entries o (filter_map (entry_at f) keys) q ∙ find-tabled R same f keys q

none_elsewhere : {X : Type 0} (b : Bool) (x : Option X) → (b ≡ false → x ≡ None) → cond b x None ≡ x
none_elsewhere true x h = refl
none_elsewhere false x h = sym (h refl)

-- and where the function gives nothing at other keys, just what the function gives
pub get-tabled_all : {K X : Type 0} (R : K → K → Ordering) → IsTotalOrder R → IsAntisymmetric R → (keys : List K) (f : K → Option X) (q : K)
    → (list_any (eq_by_cmp R q) keys ≡ false → f q ≡ None)
    → get (tabled R keys f) q ≡ f q
get-tabled_all R o same keys f q none = get-tabled R o same keys f q ∙ none_elsewhere (list_any (eq_by_cmp R q) keys) (f q) none

-- ---- one more at the end, among those that pass a test

pushed : {X : Type 0} (b : Bool) (ys : List X) (y : X) → ys ++ cond b (y ∷ []) [] ≡ cond b (ys ++ y ∷ []) ys
pushed true ys y = refl
pushed false ys y = append-nil ys

pub filter-push : {X : Type 0} (p : X → Bool) (xs : List X) (x : X) → filter p (xs ++ x ∷ []) ≡ cond (p x) (filter p xs ++ x ∷ []) (filter p xs)
filter-push p xs x = filter-append p xs (x ∷ []) ∙ pushed (p x) (filter p xs) x

newest_pushed : {X : Type 0} (version : X → ℕ) (b : Bool) (ys : List X) (y : X)
    → newest version (cond b (ys ++ y ∷ []) ys) ≡ cond b (Some (after_last version (newest version ys) y)) (newest version ys)
newest_pushed version true ys y = newest-push version ys y
newest_pushed version false ys y = refl

pub newest-filter-push : {X : Type 0} (version : X → ℕ) (p : X → Bool) (xs : List X) (x : X)
    → newest version (filter p (xs ++ x ∷ [])) ≡ cond (p x) (Some (after_last version (newest version (filter p xs)) x)) (newest version (filter p xs))
newest-filter-push version p xs x = ap (newest version) (filter-push p xs x) ∙ newest_pushed version (p x) (filter p xs) x

-- ---- greatest versions

pub fold_max : (a b : ℕ) (xs : List ℕ) → fold max (max a b) xs ≡ max a (fold max b xs)
fold_max a b [] = refl
fold_max a b (x ∷ xs) = let same : max (max a b) x ≡ max a (max b x) = omega arith in ap (λ m. fold max m xs) same ∙ fold_max a (max b x) xs

pub greatest-cons : (x : ℕ) (xs : List ℕ) → greatest (x ∷ xs) ≡ max x (greatest xs)
greatest-cons x xs = let same : max 0 x ≡ max x 0 = omega arith in ap (λ m. fold max m xs) same ∙ fold_max x 0 xs

pub greatest-push : (xs : List ℕ) (x : ℕ) → greatest (xs ++ x ∷ []) ≡ max (greatest xs) x
greatest-push xs x = fold-append max 0 xs (x ∷ [])

-- no version is higher than that of the newest
abbrev pub version_there : {X : Type 0} → (X → ℕ) → Option X → ℕ
version_there version None = 0
version_there version (Some x) = version x

higher_is_max : {X : Type 0} (version : X → ℕ) (x : X) (there : Option X) → version (higher_of version x there) ≡ max (version x) (version_there version there)
higher_is_max version x None = omega arith
higher_is_max version x (Some y) = grind (arith, nat_tests)

pub version-newest : {X : Type 0} (version : X → ℕ) (xs : List X) → version_there version (newest version xs) ≡ greatest (map version xs)
version-newest version [] = refl
version-newest version (x ∷ xs) =
    higher_is_max version x (newest version xs) ∙ ap (max (version x)) (version-newest version xs) ∙ sym (greatest-cons (version x) (map version xs))

-- one of a higher version than the newest before is the newest
pub after_last-new : {X : Type 0} (version : X → ℕ) (there : Option X) (x : X) → version_there version there < version x → after_last version there x ≡ x
after_last-new version None x h = refl
after_last-new version (Some y) x h = cond-true (ltb (version y) (version x)) x y (lt-ltb (version y) (version x) h)

-- ---- at numbers

pub list_any_same : {X : Type 0} (p q : X → Bool) → ((x : X) → p x ≡ q x) → (xs : List X) → list_any p xs ≡ list_any q xs
list_any_same p q same [] = refl
list_any_same p q same (x ∷ xs) = λ i. same x i || list_any_same p q same xs i

pub any_number : (q : ℕ) (keys : List ℕ) → list_any (eq_by_cmp nat_cmp q) keys ≡ list_any (λ k. q == k) keys
any_number q keys = list_any_same (eq_by_cmp nat_cmp q) (λ k. q == k) (λ k. unsigned_tied q k) keys

pub get_of_tabled : {X : Type 0} (keys : List ℕ) (f : ℕ → Option X) (q : ℕ)
    → get (tabled nat_cmp keys f) q ≡ cond (list_any (λ k. q == k) keys) (f q) None
get_of_tabled keys f q = get-tabled nat_cmp nat_cmp_total nat_cmp-IsAntisymmetric keys f q ∙ ap (λ b. cond b (f q) None) (any_number q keys)

-- ---- tests on the keys of a list

pub list_any-map : {X Y : Type 0} (p : Y → Bool) (f : X → Y) (xs : List X) → list_any p (map f xs) ≡ list_any (λ x. p (f x)) xs
list_any-map p f [] = refl
list_any-map p f (x ∷ xs) = ap (λ b. p (f x) || b) (list_any-map p f xs)

none_present : {X : Type 0} (b c : Bool) (x : X) (xs : List X) → (b || c) ≡ false → (c ≡ false → xs ≡ []) → cond b (x ∷ xs) xs ≡ []
none_present true c x xs h k = absurd (true≢false h)
none_present false c x xs h k = k h

pub filter-none : {X : Type 0} (p : X → Bool) (xs : List X) → list_any p xs ≡ false → filter p xs ≡ []
filter-none p [] h = refl
filter-none p (x ∷ xs) h = none_present (p x) (list_any p xs) x (filter p xs) h (filter-none p xs)

-- where no key ties with q, no element passes a test that says that its key does
pub filter-no_key : {K X : Type 0} (R : K → K → Ordering) (key : X → K) (p : X → Bool) (q : K) → ((x : X) → eq_by_cmp R q (key x) ≡ p x)
    → (xs : List X) → list_any (eq_by_cmp R q) (map key xs) ≡ false → filter p xs ≡ []
filter-no_key R key p q same xs none =
    filter-none p xs (sym (list_any_same (λ x. eq_by_cmp R q (key x)) p same xs) ∙ sym (list_any-map (eq_by_cmp R q) key xs) ∙ none)

-- ---- what `newest` finds is in the list, and none in it is higher

newest_of : {X : Type 0} (version : X → ℕ) (a : X) (xs : List X) (there : Option X) (x : X) → ((y : X) → there ≡ Some y → Contains xs y)
    → higher_of version a there ≡ x → Contains (a ∷ xs) x
newest_of version a xs None x has e = (zero, omega arith, e)
newest_of version a xs (Some y) x has e =
    ⊎_elim
    (λ later. let at = has y refl in (suc at.0, (let h : at.0 < length xs = at.1 in omega arith), subst (λ z. get_or xs at.0 z ≡ z) (sym later) at.2))
    (λ here. (zero, omega arith, sym here))
    (cases_cond (ltb (version a) (version y)) y a x (sym e))

pub newest-contained : {X : Type 0} (version : X → ℕ) (xs : List X) (x : X) → newest version xs ≡ Some x → Contains xs x
newest-contained version [] x e = absurd (false≢true (ap is_some e))
newest-contained version (a ∷ xs) x e =
    newest_of version a xs (newest version xs) x (newest-contained version xs) (same_Some (higher_of version a (newest version xs)) x e)

pub contained_below : {X : Type 0} (version : X → ℕ) (xs : List X) (k : ℕ) (y : X) → k < length xs → get_or xs k y ≡ y → version y ≤ greatest (map version xs)
contained_below version [] k y h e = absurd (omega arith)
contained_below version (x ∷ xs) zero y h e =
    let all : greatest (map version (x ∷ xs)) ≡ max (version x) (greatest (map version xs)) = greatest-cons (version x) (map version xs) in
    let same : version x ≡ version y = ap version e in
    omega arith
contained_below version (x ∷ xs) (suc k) y h e =
    let all : greatest (map version (x ∷ xs)) ≡ max (version x) (greatest (map version xs)) = greatest-cons (version x) (map version xs) in
    let hyp : version y ≤ greatest (map version xs) = contained_below version xs k y (omega arith) e in
    omega arith

pub newest_is_newest : {X : Type 0} (xs : List X) (version : X → ℕ) (x : X) → newest version xs ≡ Some x → IsNewest version xs x
newest_is_newest xs version x e = (
  newest-contained version xs x e,
  λ y at.
      let top : version_there version (newest version xs) ≡ greatest (map version xs) = version-newest version xs in
      let same : version_there version (newest version xs) ≡ version x = ap (version_there version) e in
      let below : version y ≤ greatest (map version xs) = contained_below version xs at.0 y at.1 at.2 in
      omega arith,
)

-- it finds one where there is one
pub newest_of_none : {X : Type 0} (xs : List X) (version : X → ℕ) → newest version xs ≡ None → xs ≡ []
newest_of_none [] version e = refl
newest_of_none (x ∷ xs) version e = absurd (true≢false (ap is_some e))

-- ---- the greatest of some numbers

greatest-le : (ns : List ℕ) (k n : ℕ) → k < length ns → get_or ns k n ≡ n → n ≤ greatest ns
greatest-le [] k n h e = absurd (omega arith)
greatest-le (m ∷ ns) zero n h e = let all = greatest-cons m ns in let same : m ≡ n = e in omega arith
greatest-le (m ∷ ns) (suc k) n h e =
    let all = greatest-cons m ns in
    let hyp : n ≤ greatest ns = greatest-le ns k n (omega arith) e in
    omega arith

-- the greatest of a number and of others is that number, or the greatest of the others
either : (m : ℕ) (ns : List ℕ) → (greatest (m ∷ ns) ≡ m) ⊎ (greatest (m ∷ ns) ≡ greatest ns)
either m ns =
    let all = greatest-cons m ns in
    ⊎_elim (λ lt. inr (omega arith)) (λ ge. inl (omega arith)) (cases_lt m (greatest ns))

greatest-contained : (ns : List ℕ) → 0 < length ns → Contains ns (greatest ns)
greatest-contained [] h = absurd (omega arith)
greatest-contained (m ∷ []) h = (zero, omega arith, let e = greatest-cons m [] in omega arith)
greatest-contained (m ∷ n ∷ ns) h =
    ⊎_elim
    (λ here. (zero, omega arith, sym here))
    (λ there.
    let at = greatest-contained (n ∷ ns) (omega arith) in
    (suc at.0, (let lt : at.0 < length (n ∷ ns) = at.1 in omega arith), subst (λ z. get_or (n ∷ ns) at.0 z ≡ z) (sym there) at.2))
    (either m (n ∷ ns))

pub greatest_is_greatest : GreatestIsGreatest
greatest_is_greatest ns = (λ n at. greatest-le ns at.0 n at.1 at.2, greatest-contained ns)

-- ---- how many pass a test

-- each element passes as many of the one test as of the two others together
pub count_apart : {X : Type 0} (p q r : X → Bool) → ((x : X) → cond (p x) 1 0 + cond (q x) 1 0 ≡ cond (r x) 1 0)
    → (xs : List X) → count_by p xs + count_by q xs ≡ count_by r xs
count_apart p q r apart [] = refl
count_apart p q r apart (x ∷ xs) = omega (
  arith,
  apart x,
  count_apart p q r apart xs,
  sum_by-cons (λ y. cond (p y) 1 0) x xs,
  sum_by-cons (λ y. cond (q y) 1 0) x xs,
  sum_by-cons (λ y. cond (r y) 1 0) x xs,
)

pub count_fewer : {X : Type 0} (p r : X → Bool) → ((x : X) → cond (p x) 1 0 ≤ cond (r x) 1 0) → (xs : List X) → count_by p xs ≤ count_by r xs
count_fewer p r fewer [] = omega arith
count_fewer p r fewer (x ∷ xs) =
    omega (arith, fewer x, count_fewer p r fewer xs, sum_by-cons (λ y. cond (p y) 1 0) x xs, sum_by-cons (λ y. cond (r y) 1 0) x xs)
