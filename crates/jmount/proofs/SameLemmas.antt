-- Lists with the same elements, in any order and number.
use Rattle.std.proofs.Common.{◌≡◌, ◌≢◌, ℕ, ◌≤◌, Bool, true, false, cond, List, [], ◌∷◌, map, get_or, Option, Some, None, refl, ap, sym, ◌∙◌, subst, ⊎_elim, arith}
use Rattle.std.specs.Prelude.{Contains, filter, filter_map, ◌==◌}
use Rattle.std.specs.List.{All, Any, list_any, flat_map}
use Rattle.std.specs.Ordering.{eq_by_cmp, nat_cmp}
use Rattle.std.specs.Cmp.{nat_cmp_total, eq_by_cmp_equiv}
use Rattle.std.specs.FinMap.{same_map, nat_cmp-IsAntisymmetric}
use Rattle.std.proofs.lemmas.Bool.{eq-eqb, eqb-true}
use Rattle.std.proofs.lemmas.List.Elements.{All-contains, Contains-get_or}
use Rattle.std.proofs.lemmas.Map.Views.{tells_apart, list_any-from_Contains, Contains-from_any}
use Rattle.flashbase.specs.Lists.{newest, tabled, greatest, each_below}
use Rattle.flashbase.proofs.ListLemmas.{newest_is_newest, newest_of_none, greatest_is_greatest, get-tabled}
use Rattle.jname.proofs.ContentsByNameLemmas.{by_test}
use Rattle.flashbase.proofs.MemberLemmas.{Contains-none, Contains-here, Contains-there, Contains-cases, Contains-map, Contains-map_from, Contains-flat_map, Contains-flat_map_from, Contains-filter, Contains-filter_from, Contains-filter_map, Contains-filter_map_from}
use Rattle.jfrag.specs.declared.piece.Piece.{Piece}
use Rattle.jfrag.specs.Pieces.{covers}
use Rattle.jfrag.specs.Overlays.{Visible, IsHighestAt, GivesAt, visible, byte_at, content}
use Rattle.jfrag.specs.Laws as overlay
use Rattle.jfrag.proofs.OverlaysLemmas.{visible_is_highest, only_one_is_highest}
use Rattle.jmount.specs.Laws.{SameElements}

-- ---- numbers that cannot be told apart are the same

pub number_stable : (n m : ℕ) → ((n ≡ m → ⊥) → ⊥) → n ≡ m
number_stable n m h = by_test (n == m) (eqb-true n m) (λ no. absurd (h (λ e. let yes : (n == m) ≡ true = eq-eqb n m e in cc)))

same_bool : (a b : Bool) → (a ≡ true → b ≡ true) → (b ≡ true → a ≡ true) → a ≡ b
same_bool true b h k = sym (h refl)
same_bool false true h k = k refl
same_bool false false h k = refl

-- ---- lists that are made from such lists

-- every element of the first is one of the second
abbrev pub IsWithin : {X : Type 0} → List X → List X → Type 0
IsWithin {X} a b = (x : X) → Contains a x → Contains b x

pub same-from : {X : Type 0} (a b : List X) → IsWithin a b → IsWithin b a → SameElements a b
same-from a b h k x = (h x, k x)

pub same_within : {X : Type 0} (a b : List X) → SameElements a b → IsWithin a b
same_within a b same x = (same x).0

pub same_sym : {X : Type 0} (a b : List X) → SameElements a b → SameElements b a
same_sym a b same x = ((same x).1, (same x).0)

cons_within : {X : Type 0} (y : X) (a b : List X) → IsWithin a b → IsWithin (y ∷ a) (y ∷ b)
cons_within y a b h x c =
    ⊎_elim
    (λ (here : y ≡ x). subst (λ z. Contains (y ∷ b) z) here (Contains-here y b))
    (λ later. Contains-there y b x (h x later))
    (Contains-cases y a x c)

pub same_cons : {X : Type 0} (y : X) (a b : List X) → SameElements a b → SameElements (y ∷ a) (y ∷ b)
same_cons y a b same = same-from (y ∷ a) (y ∷ b) (cons_within y a b (same_within a b same)) (cons_within y b a (same_within b a (same_sym a b same)))

filter_within : {X : Type 0} (p : X → Bool) (a b : List X) → IsWithin a b → IsWithin (filter p a) (filter p b)
filter_within p a b h x c = let found = Contains-filter_from p a x c in Contains-filter p b x found.1 (h x found.0)

pub same_filter : {X : Type 0} (p : X → Bool) (a b : List X) → SameElements a b → SameElements (filter p a) (filter p b)
same_filter p a b same = same-from (filter p a) (filter p b) (filter_within p a b (same_within a b same)) (filter_within p b a (same_within b a (same_sym a b same)))

map_within : {X Y : Type 0} (f : X → Y) (a b : List X) → IsWithin a b → IsWithin (map f a) (map f b)
map_within f a b h y c =
    let found = Contains-map_from f a y c in
    subst (λ z. Contains (map f b) z) found.2 (Contains-map f b found.0 (h found.0 found.1))

pub same_mapped : {X Y : Type 0} (f : X → Y) (a b : List X) → SameElements a b → SameElements (map f a) (map f b)
same_mapped f a b same = same-from (map f a) (map f b) (map_within f a b (same_within a b same)) (map_within f b a (same_within b a (same_sym a b same)))

filter_map_within : {X Y : Type 0} (f : X → Option Y) (a b : List X) → IsWithin a b → IsWithin (filter_map f a) (filter_map f b)
filter_map_within f a b h y c = let found = Contains-filter_map_from f a y c in Contains-filter_map f b found.0 y (h found.0 found.1) found.2

pub same_filter_mapped : {X Y : Type 0} (f : X → Option Y) (a b : List X) → SameElements a b → SameElements (filter_map f a) (filter_map f b)
same_filter_mapped f a b same =
    same-from (filter_map f a) (filter_map f b) (filter_map_within f a b (same_within a b same)) (filter_map_within f b a (same_within b a (same_sym a b same)))

flat_map_within : {X Y : Type 0} (f : X → List Y) (a b : List X) → IsWithin a b → IsWithin (flat_map f a) (flat_map f b)
flat_map_within f a b h y c = let found = Contains-flat_map_from f a y c in Contains-flat_map f b found.0 y (h found.0 found.1) found.2

pub same_flat_mapped : {X Y : Type 0} (f : X → List Y) (a b : List X) → SameElements a b → SameElements (flat_map f a) (flat_map f b)
same_flat_mapped f a b same =
    same-from (flat_map f a) (flat_map f b) (flat_map_within f a b (same_within a b same)) (flat_map_within f b a (same_within b a (same_sym a b same)))

-- ---- the greatest number

greatest_within : (a b : List ℕ) → IsWithin a b → greatest a ≤ greatest b
greatest_within [] b h = omega arith
greatest_within (n ∷ ns) b h =
    (greatest_is_greatest b).0 (greatest (n ∷ ns)) (h (greatest (n ∷ ns)) ((greatest_is_greatest (n ∷ ns)).1 (omega arith)))

pub greatest-same : (a b : List ℕ) → SameElements a b → greatest a ≡ greatest b
greatest-same a b same =
    let low : greatest a ≤ greatest b = greatest_within a b (same_within a b same) in
    let high : greatest b ≤ greatest a = greatest_within b a (same_within b a (same_sym a b same)) in
    omega arith

-- ---- a map of keys by a function

any_within : (q : ℕ) (a b : List ℕ) → IsWithin a b → list_any (eq_by_cmp nat_cmp q) a ≡ true → list_any (eq_by_cmp nat_cmp q) b ≡ true
any_within q a b h e =
    list_any-from_Contains (eq_by_cmp_equiv nat_cmp_total) q b (h q (Contains-from_any (tells_apart nat_cmp-IsAntisymmetric) q a e))

any-same : (q : ℕ) (a b : List ℕ) → SameElements a b → list_any (eq_by_cmp nat_cmp q) a ≡ list_any (eq_by_cmp nat_cmp q) b
any-same q a b same =
    same_bool (list_any (eq_by_cmp nat_cmp q) a) (list_any (eq_by_cmp nat_cmp q) b)
    (any_within q a b (same_within a b same)) (any_within q b a (same_within b a (same_sym a b same)))

pub tabled-same : {X : Type 0} (a b : List ℕ) (f g : ℕ → Option X) → SameElements a b → ((q : ℕ) → f q ≡ g q) → tabled nat_cmp a f ≡ tabled nat_cmp b g
tabled-same a b f g same values =
    same_map nat_cmp_total nat_cmp-IsAntisymmetric (tabled nat_cmp a f) (tabled nat_cmp b g)
    (λ q.
    get-tabled nat_cmp nat_cmp_total nat_cmp-IsAntisymmetric a f q
    ∙ ap (λ (c : Bool). cond c (f q) None) (any-same q a b same)
    ∙ ap (λ o. cond (list_any (eq_by_cmp nat_cmp q) b) o None) (values q)
    ∙ sym (get-tabled nat_cmp nat_cmp_total nat_cmp-IsAntisymmetric b g q))

-- ---- the one of highest version

-- where one list has no newest, neither has the other
pub none_newest : {X : Type 0} (version : X → ℕ) (a b : List X) → SameElements a b → newest version a ≡ None → (z : X) → newest version b ≡ Some z → ⊥
none_newest version a b same none z e =
    let empty : a ≡ [] = newest_of_none a version none in
    let is = newest_is_newest b version z e in
    Contains-none z (subst (λ xs. Contains xs z) empty ((same z).1 is.0))

-- the newest of both are of one version
pub newest_version : {X : Type 0} (version : X → ℕ) (a b : List X) → SameElements a b → (y z : X) → newest version a ≡ Some y → newest version b ≡ Some z → version y ≡ version z
newest_version version a b same y z e f =
    let ya = newest_is_newest a version y e in
    let zb = newest_is_newest b version z f in
    let low : version y ≤ version z = zb.1 y ((same y).0 ya.0) in
    let high : version z ≤ version y = ya.1 z ((same z).1 zb.0) in
    omega arith

-- ---- what is at a place

all_within : {X : Type 0} (P : X → Type 0) (a b : List X) → IsWithin a b → All P b → All P a
all_within P a b h all k d l = All-contains P b (get_or a k d) all (h (get_or a k d) (Contains-get_or a k d l))

any_elsewhere : {X : Type 0} (P : X → Type 0) (a b : List X) → IsWithin a b → Any P a → Any P b
any_elsewhere P a b h (k, x, k_in, at_k, here) = let there = h x (k, k_in, at_k) in (there.0, x, there.1, there.2, here)

highest-same : (ps qs : List Piece) (place : ℕ) (s : Visible) → SameElements ps qs → IsHighestAt ps place s → IsHighestAt qs place s
highest-same ps qs place None same h = all_within (λ p. covers place p ≢ true) qs ps (same_within qs ps (same_sym ps qs same)) h
highest-same ps qs place (Some there) same h = (
  any_elsewhere (GivesAt place there) ps qs (same_within ps qs same) h.0,
  all_within (λ p. covers place p ≡ true → p.version ≤ there.0) qs ps (same_within qs ps (same_sym ps qs same)) h.1,
)

pub visible-same : (ps qs : List Piece) (place : ℕ) → SameElements ps qs → overlay.AgreeAt qs place → visible ps place ≡ visible qs place
visible-same ps qs place same agree = only_one_is_highest qs place (visible ps place) agree (highest-same ps qs place (visible ps place) same (visible_is_highest ps place))

pub content-same : (ps qs : List Piece) (size : ℕ) → SameElements ps qs → ((place : ℕ) → overlay.AgreeAt qs place) → content ps size ≡ content qs size
content-same ps qs size same agree = λ i. each_below size (λ place. byte_at (visible-same ps qs place same (agree place) i))
