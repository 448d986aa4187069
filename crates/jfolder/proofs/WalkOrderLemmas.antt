-- The order in which a walk visits paths.
use Rattle.std.proofs.Common.{◌≡◌, ℕ, zero, suc, ◌+◌, ◌<◌, ◌⊎◌, ◌∷◌, ◌++◌, Bool, false, true, List, [], drop, length, get_or, map, reverse, refl, sym, ap, ◌∙◌, subst, inl, inr, arith, append-nil, Result, Ok, Err}
use Rattle.std.specs.Prelude.{Contains, IfOk, IsTrue, String}
use Rattle.std.specs.Cmp.Lexicographic.{slice_cmp}
use Rattle.std.specs.List.{All, AllPairs}
use Rattle.std.specs.List.Sorted.{IsSorted}
use Rattle.std.specs.Ordering.{is_lt, nat_cmp}
use Rattle.std.specs.String.{string_bytes, string_cmp, string_cmp_total}
use Rattle.std.specs.declared.alloc.Global.{Global}
use Rattle.std.proofs.Math.Logic.{⊎_elim}
use Rattle.std.proofs.lemmas.Grind.{flat_map-append}
use Rattle.std.proofs.lemmas.List.{drop_more, get_or-drop, get_or_default, length-drop, map-append, reverse-append}
use Rattle.std.proofs.lemmas.List.Elements.{All-append, All-cons, All-contains, All-head, All-map, All-nil, All-push, All-tail, All-weaker, Contains-append_left, Contains-push}
use Rattle.std.proofs.lemmas.List.Quantifiers.{all_pairs_push}
use Rattle.std.proofs.lemmas.List.Sorted.{ranks_by, sorted_far}
use Rattle.jmount.specs.Find.{is_name, path_text}
use Rattle.jfolder.specs.Complete.{child, item_paths}
use Rattle.jfolder.specs.Order.{is_before}
use Rattle.jfolder.specs.Trees.{HasDirectory, Rise}
use Rattle.jfolder.specs.WalkOrder.{Ascend, InOrder, IsAdded, IsInTurn}
use Rattle.jfolder.specs.Walking.{IsChild, IsPending, IsShortName, comes_next}
use Rattle.jfolder.specs.declared.tree.Item.{Item}
use Rattle.jfolder.proofs.CompleteLemmas.{texts}
use Rattle.jfolder.proofs.PathOrderLemmas.{HasNoSlash, before-append, before_child, child_before, name_has_no_slash, names_by_bytes, not_back, same_place}
use Rattle.jfolder.proofs.TreeLemmas.{All-reverse, comes_after_all, path_of}

abbrev Paths : Type 0
Paths = List (List ℕ)

-- ---- pairs of a list

AllPairs-cons : {X : Type 0} (R : X → X → Type 0) (x : X) (xs : List X) → All (R x) xs → AllPairs R xs → AllPairs R (x ∷ xs)
AllPairs-cons R x xs here there zero zero d less within = absurd (omega (arith, less))
AllPairs-cons R x xs here there zero (suc j) d less within = here j d (omega (arith, within))
AllPairs-cons R x xs here there (suc i) zero d less within = absurd (omega (arith, less))
AllPairs-cons R x xs here there (suc i) (suc j) d less within = there i j d (omega (arith, less)) (omega (arith, within))

AllPairs-head : {X : Type 0} (R : X → X → Type 0) (x : X) (xs : List X) → AllPairs R (x ∷ xs) → All (R x) xs
AllPairs-head R x xs all = λ k d within. all 0 (suc k) d (omega arith) (omega (arith, within))

AllPairs-tail : {X : Type 0} (R : X → X → Type 0) (x : X) (xs : List X) → AllPairs R (x ∷ xs) → AllPairs R xs
AllPairs-tail R x xs all = λ i j d less within. all (suc i) (suc j) d (omega (arith, less)) (omega (arith, within))

pub AllPairs-nil : {X : Type 0} (R : X → X → Type 0) → AllPairs R []
AllPairs-nil R = λ i j d less within. absurd (omega (arith, within))

AllPairs-append : {X : Type 0} (R : X → X → Type 0) (xs ys : List X) → AllPairs R xs → AllPairs R ys → All (λ x. All (R x) ys) xs → AllPairs R (xs ++ ys)
AllPairs-append R [] ys first then across = then
AllPairs-append R (x ∷ xs) ys first then across =
    AllPairs-cons R x (xs ++ ys)
    (All-append (R x) xs ys (AllPairs-head R x xs first) (All-head (λ z. All (R z) ys) x xs across))
    (AllPairs-append R xs ys (AllPairs-tail R x xs first) then (All-tail (λ z. All (R z) ys) x xs across))

All-front : {X : Type 0} (P : X → Type 0) (xs ys : List X) → All P (xs ++ ys) → All P xs
All-front P [] ys all = All-nil P
All-front P (x ∷ xs) ys all = All-cons P x xs (All-head P x (xs ++ ys) all) (All-front P xs ys (All-tail P x (xs ++ ys) all))

AllPairs-front : {X : Type 0} (R : X → X → Type 0) (xs ys : List X) → AllPairs R (xs ++ ys) → AllPairs R xs
AllPairs-front R [] ys all = AllPairs-nil R
AllPairs-front R (x ∷ xs) ys all =
    AllPairs-cons R x xs (All-front (R x) xs ys (AllPairs-head R x (xs ++ ys) all)) (AllPairs-front R xs ys (AllPairs-tail R x (xs ++ ys) all))

-- each of the first with the last
AllPairs-last : {X : Type 0} (R : X → X → Type 0) (xs : List X) (y : X) → AllPairs R (xs ++ y ∷ []) → All (λ x. R x y) xs
AllPairs-last R [] y all = All-nil (λ x. R x y)
AllPairs-last R (x ∷ xs) y all =
    All-cons (λ z. R z y) x xs (All-contains (R x) (xs ++ y ∷ []) y (AllPairs-head R x (xs ++ y ∷ []) all) (Contains-push xs y))
    (AllPairs-last R xs y (AllPairs-tail R x (xs ++ y ∷ []) all))

AllPairs-weaker : {X : Type 0} (R S : X → X → Type 0) → ((x y : X) → R x y → S x y) → (xs : List X) → AllPairs R xs → AllPairs S xs
AllPairs-weaker R S more xs all = λ i j d less within. more (get_or xs i d) (get_or xs j d) (all i j d less within)

AllPairs-reverse : {X : Type 0} (R : X → X → Type 0) (xs : List X) → AllPairs R xs → AllPairs (λ y x. R x y) (reverse xs)
AllPairs-reverse R [] all = AllPairs-nil (λ y x. R x y)
AllPairs-reverse {X} R (x ∷ xs) all =
    let S : X → X → Type 0 = λ y z. R z y in
    subst (AllPairs S) (sym (reverse-append (x ∷ []) xs))
    (all_pairs_push S (reverse xs) x (AllPairs-reverse R xs (AllPairs-tail R x xs all)) (All-reverse (R x) xs (AllPairs-head R x xs all)))

-- ---- the paths of names in order

-- a path is not before those of names that are still to come
abbrev pub IsBehind : List ℕ → List (String Global) → List ℕ → Type 0
IsBehind directory names path = All (λ name. IsShortName (string_bytes name) → is_before (child directory (string_bytes name)) path ≡ false) names

child_order : (directory first then : List ℕ) → IsShortName first → IsShortName then → is_lt (slice_cmp nat_cmp then first) ≡ false
    → is_before (child directory then) (child directory first) ≡ false
child_order directory first then a b sorted =
    before-append directory (47 ∷ then) (47 ∷ first) ∙ names_by_bytes then first (name_has_no_slash then b.0) (name_has_no_slash first a.0) ∙ sorted

pub none_added : {E : Type 0} (r : Result (Unit {0}) E) (directory name : List ℕ) (paths : Paths) → IfOk r (λ _. IsAdded directory name paths paths)
none_added (Ok x) directory name paths = inl refl
none_added (Err e) directory name paths = tt

-- the paths of names up to here, and what comes behind them
abbrev pub InOrderUpTo : List ℕ → List (String Global) → Paths → Type 0
InOrderUpTo directory rest paths = Ascend paths × All (IsBehind directory rest) paths

pub no_paths : (directory : List ℕ) (names : List (String Global)) (paths : List (String Global)) → paths ≡ [] → InOrderUpTo directory names (texts paths)
no_paths directory names paths none =
    subst (λ (l : List (String Global)). InOrderUpTo directory names (texts l)) (sym none) (AllPairs-nil (λ path later. is_before later path ≡ false), All-nil (IsBehind directory names))

pub order_more : (directory : List ℕ) (names : List (String Global)) (i : ℕ) (n : String Global) (text : List ℕ) (old new : Paths) → IsSorted string_cmp names → i < length names
    → n ≡ get_or names i n → text ≡ string_bytes n → InOrderUpTo directory (drop i names) old → IsAdded directory text old new → InOrderUpTo directory (drop (i + 1) names) new
order_more directory names i n text old new sorted within is same order added =
    let rest = drop (i + 1) names in
    let Later : String Global → List ℕ → Type 0 = λ name path. IsShortName (string_bytes name) → is_before (child directory (string_bytes name)) path ≡ false in
    let split : drop i names ≡ n ∷ rest = drop_more names i n within ∙ ap (λ (m : String Global). m ∷ rest) (sym is) in
    let behind : All (IsBehind directory (n ∷ rest)) old = subst (λ (l : List (String Global)). All (IsBehind directory l) old) split order.1 in
    let still : All (IsBehind directory rest) old =
    All-weaker (IsBehind directory (n ∷ rest)) (IsBehind directory rest) (λ p h. All-tail (λ name. Later name p) n rest h) old behind in
    let this = child directory (string_bytes n) in
    let add : IsAdded directory (string_bytes n) old new = subst (λ (t : List ℕ). IsAdded directory t old new) same added in
    ⊎_elim
    (λ none. subst (InOrderUpTo directory rest) (sym none) (order.0, still))
    (λ more.
    let after : All (λ p. is_before this p ≡ false) old =
    All-weaker (IsBehind directory (n ∷ rest)) (λ p. is_before this p ≡ false) (λ p h. All-head (λ name. Later name p) n rest h more.0) old behind in
    let ahead : IsBehind directory rest this = λ k d l.
    let at : k + (i + 1) < length names = omega (arith, l, length-drop (i + 1) names) in
    let m = get_or names (i + 1 + k) d in
    let far : is_lt (string_cmp m (get_or names i d)) ≡ false =
    sorted_far (λ x y. is_lt (string_cmp x y)) (ranks_by string_cmp_total (λ x. x)) names sorted i (i + 1 + k) d (omega arith) (omega (arith, at)) in
    let here : get_or names i d ≡ n = get_or_default names i d n within ∙ sym is in
    subst (λ name. Later name this) (sym (get_or-drop (i + 1) names k d))
    (λ short. child_order directory (string_bytes n) (string_bytes m) more.0 short (subst (λ (x : String Global). is_lt (string_cmp m x) ≡ false) here far)) in
    subst (InOrderUpTo directory rest) (sym more.1)
    (all_pairs_push (λ path later. is_before later path ≡ false) old this order.0 after, All-push (IsBehind directory rest) old this still ahead))
    add

-- ---- what is still to visit

abbrev Follows : List Item → List ℕ → List ℕ → Type 0
Follows items later path = (is_before later path ≡ false) ⊎ Contains (item_paths items) later

map_reverse : {X Y : Type 0} (f : X → Y) (xs : List X) → map f (reverse xs) ≡ reverse (map f xs)
map_reverse f [] = refl
map_reverse f (x ∷ xs) =
    ap (map f) (reverse-append (x ∷ []) xs) ∙ map-append f (reverse xs) (x ∷ []) ∙ ap (λ l. l ++ f x ∷ []) (map_reverse f xs)
    ∙ sym (reverse-append (f x ∷ []) (map f xs))

pub texts_put_off : (paths old new : List (String Global)) → new ≡ old ++ reverse paths → texts new ≡ texts old ++ reverse (texts paths)
texts_put_off paths old new is =
    ap texts is ∙ map-append (λ (p : String Global). string_bytes p) old (reverse paths) ∙ ap (λ (l : Paths). texts old ++ l) (map_reverse (λ (p : String Global). string_bytes p) paths)

turned : (items : List Item) (paths : Paths) → Ascend paths → AllPairs (Follows items) (reverse paths)
turned items paths up =
    AllPairs-weaker (λ later path. is_before later path ≡ false) (Follows items) (λ later path h. inl h) (reverse paths)
    (AllPairs-reverse (λ path later. is_before later path ≡ false) paths up)

pub order_starts : (items : List Item) (paths pending : List (String Global)) → items ≡ [] → pending ≡ reverse paths → Ascend (texts paths) → InOrder items (texts pending)
order_starts items paths pending none is up =
    subst (λ (l : List Item). InOrder l (texts pending)) (sym none) (subst (InOrder []) (sym (texts_put_off paths [] pending is)) (record {
      in_turn = λ k d within. inl refl;
      ascend = turned [] (texts paths) up;
    }))

pub next_in_turn : (items : List Item) (pending : Paths) (path : List ℕ) → InOrder items (pending ++ path ∷ []) → IsInTurn items path
next_in_turn items pending path order = All-contains (IsInTurn items) (pending ++ path ∷ []) path order.in_turn (Contains-push pending path)

pub order_goes_on : (items : List Item) (pending : Paths) (path : List ℕ) → InOrder items (pending ++ path ∷ []) → InOrder items pending
order_goes_on items pending path order = record {
  in_turn = All-front (IsInTurn items) pending (path ∷ []) order.in_turn;
  ascend = AllPairs-front (Follows items) pending (path ∷ []) order.ascend;
}

pub order_left : {E : Type 0} (r : Result (Unit {0}) E) (items : List Item) (pending : Paths) (path : List ℕ) → InOrder items (pending ++ path ∷ []) → IfOk r (λ _. InOrder items pending)
order_left (Ok x) items pending path order = order_goes_on items pending path order
order_left (Err e) items pending path order = tt

pub order_popped : (items : List Item) (old rest : List (String Global)) (path : String Global) → old ≡ rest ++ path ∷ [] → InOrder items (texts old)
    → InOrder items (texts rest ++ string_bytes path ∷ [])
order_popped items old rest path is order = subst (InOrder items) (ap texts is ∙ map-append (λ (p : String Global). string_bytes p) rest (path ∷ [])) order

-- ---- where a path lies

-- it is a name in a directory that is before this path
record LiesBefore (path text : List ℕ) : Type 0 where
  directory : List ℕ
  name : List ℕ
  free : HasNoSlash name
  before : is_before directory path ≡ true
  is : text ≡ child directory name

some_text : (way : List (List ℕ)) (name : List ℕ) → is_before [] (path_text (way ++ name ∷ [])) ≡ true
some_text [] name = refl
some_text (n ∷ way) name = refl

not_empty : (items : List Item) (text : List ℕ) → IsPending items text → is_before [] text ≡ true
not_empty items text at = ap (is_before []) at.path.0 ∙ some_text at.way at.name

lies_in : (items : List Item) (path text : List ℕ) (way : List (List ℕ)) (name : List ℕ) → All (λ i. is_before (path_of i) path ≡ true) items → is_before [] path ≡ true
    → HasNoSlash name → text ≡ path_text (way ++ name ∷ []) → HasDirectory items way → LiesBefore path text
lies_in items path text [] name before some free is has =
    record { directory = []; name = name; free = free; before = some; is = is ∙ ap (λ (l : List ℕ). 47 ∷ l) (append-nil name) }
lies_in items path text (n ∷ way) name before some free is (inl none) = cc
lies_in items path text (n ∷ way) name before some free is (inr there) = record {
  directory = path_text (n ∷ way);
  name = name;
  free = free;
  before = subst (λ (l : List ℕ). is_before l path ≡ true) there.2 (All-contains (λ i. is_before (path_of i) path ≡ true) items there.0 before there.1);
  is = is ∙ flat_map-append (λ (m : List ℕ). 47 ∷ m) (n ∷ way) (name ∷ []) ∙ ap (λ (l : List ℕ). path_text (n ∷ way) ++ 47 ∷ l) (append-nil name);
}

lies_before : (items : List Item) (path text : List ℕ) → Rise items → comes_next items path ≡ true → is_before [] path ≡ true → IsPending items text → LiesBefore path text
lies_before items path text rise next some at =
    lies_in items path text at.way at.name (comes_after_all items path rise next) some
    (name_has_no_slash at.name (All-contains (λ (m : List ℕ). IsTrue (is_name m)) (at.way ++ at.name ∷ []) at.name at.path.1 (Contains-push at.way at.name)))
    at.path.0 at.directory

-- so what lies in this path is before it, if it is after this path
inner_first : (path text name : List ℕ) → LiesBefore path text → is_before path text ≡ true → is_before (child path name) text ≡ true
inner_first path text name lies after =
    subst (λ (l : List ℕ). is_before (child path name) l ≡ true) (sym lies.is)
    (child_before lies.directory path name lies.name lies.free lies.before (subst (λ (l : List ℕ). is_before path l ≡ true) lies.is after))

-- ---- an item more

next_more : (items : List Item) (i : Item) (text : List ℕ) → comes_next (items ++ i ∷ []) text ≡ is_before (path_of i) text
next_more [] i text = refl
next_more (j ∷ []) i text = refl
next_more (j ∷ k ∷ items) i text = next_more (k ∷ items) i text

paths_more : (items : List Item) (i : Item) → item_paths (items ++ i ∷ []) ≡ item_paths items ++ path_of i ∷ []
paths_more items i = map-append (λ (j : Item). string_bytes j.path) items (i ∷ [])

among_more : (items : List Item) (i : Item) (text : List ℕ) → Contains (item_paths items) text → Contains (item_paths (items ++ i ∷ [])) text
among_more items i text among =
    subst (λ (l : Paths). Contains l text) (sym (paths_more items i)) (Contains-append_left (item_paths items) (path_of i ∷ []) text among)

-- a path that is visited after this item is an item's by now, or after it
abbrev IsBeyond : List Item → Item → List ℕ → Type 0
IsBeyond items i text = Contains (item_paths (items ++ i ∷ [])) text ⊎ (is_before (path_of i) text ≡ true)

beyond : (items : List Item) (i : Item) (text : List ℕ) → Follows items text (path_of i) → IsBeyond items i text
beyond items i text (inr among) = inl (among_more items i text among)
beyond items i text (inl later) = by (is_before (path_of i) text) refl
  where
    by : (b : Bool) → is_before (path_of i) text ≡ b → IsBeyond items i text
    by true after = inr after
    by false not = inl (subst (Contains (item_paths (items ++ i ∷ []))) (same_place (path_of i) text not later)
        (subst (λ (l : Paths). Contains l (path_of i)) (sym (paths_more items i)) (Contains-push (item_paths items) (path_of i))))

in_turn_after : (items : List Item) (i : Item) (text : List ℕ) → IsBeyond items i text → IsInTurn (items ++ i ∷ []) text
in_turn_after items i text (inl among) = inr among
in_turn_after items i text (inr after) = inl (next_more items i text ∙ after)

child_in_turn : (items : List Item) (i : Item) (text : List ℕ) → IsChild (path_of i) text → IsInTurn (items ++ i ∷ []) text
child_in_turn items i text is = inl (next_more items i text ∙ ap (is_before (path_of i)) is.text ∙ before_child (path_of i) is.name)

follows_child : (items : List Item) (i : Item) (text inner : List ℕ) → LiesBefore (path_of i) text → IsBeyond items i text → IsChild (path_of i) inner → Follows (items ++ i ∷ []) text inner
follows_child items i text inner lies (inl among) is = inr among
follows_child items i text inner lies (inr after) is =
    inl (not_back inner text (subst (λ (l : List ℕ). is_before l text ≡ true) (sym is.text) (inner_first (path_of i) text is.name lies after)))

abbrev IsRest : List Item → Item → List ℕ → Type 0
IsRest items i text = LiesBefore (path_of i) text × IsBeyond items i text

order_after : (items : List Item) (i : Item) (old paths : Paths) → Rise items → comes_next items (path_of i) ≡ true → IsPending items (path_of i) → All (IsPending items) old
    → All (IsChild (path_of i)) paths → Ascend paths → InOrder items (old ++ path_of i ∷ []) → InOrder (items ++ i ∷ []) (old ++ reverse paths)
order_after items i old paths rise next at all children up order =
    let new = items ++ i ∷ [] in
    let path = path_of i in
    let lie : All (LiesBefore path) old = All-weaker (IsPending items) (LiesBefore path) (λ p h. lies_before items path p rise next (not_empty items path at) h) old all in
    let far : All (IsBeyond items i) old =
    All-weaker (λ p. Follows items p path) (IsBeyond items i) (λ p h. beyond items i p h) old (AllPairs-last (Follows items) old path order.ascend) in
    let rest : All (IsRest items i) old = λ k d within. (lie k d within, far k d within) in
    let inner : All (IsChild path) (reverse paths) = All-reverse (IsChild path) paths children in
    record {
      in_turn = All-append (IsInTurn new) old (reverse paths) (All-weaker (IsBeyond items i) (IsInTurn new) (λ p h. in_turn_after items i p h) old far)
          (All-weaker (IsChild path) (IsInTurn new) (λ p h. child_in_turn items i p h) (reverse paths) inner);
      ascend = AllPairs-append (Follows new) old (reverse paths)
          (AllPairs-weaker (Follows items) (Follows new) (λ later p h. ⊎_elim (λ l. inl l) (λ among. inr (among_more items i later among)) h) old
          (AllPairs-front (Follows items) old (path ∷ []) order.ascend))
          (turned new paths up)
          (All-weaker (IsRest items i) (λ p. All (Follows new p) (reverse paths))
          (λ p h. All-weaker (IsChild path) (Follows new p) (λ c is. follows_child items i p c h.0 h.1 is) (reverse paths) inner) old rest);
    }

pub order_added : (items new : List Item) (i : Item) (old later paths : List (String Global)) → new ≡ items ++ i ∷ [] → later ≡ old ++ reverse paths → Rise items
    → comes_next items (path_of i) ≡ true → IsPending items (path_of i) → All (λ (p : String Global). IsPending items (string_bytes p)) old
    → All (λ (p : String Global). IsChild (path_of i) (string_bytes p)) paths → Ascend (texts paths) → InOrder items (texts old ++ path_of i ∷ []) → InOrder new (texts later)
order_added items new i old later paths more is rise next at all children up order =
    subst (λ (l : List Item). InOrder l (texts later)) (sym more) (subst (InOrder (items ++ i ∷ [])) (sym (texts_put_off paths old later is))
    (order_after items i (texts old) (texts paths) rise next at (All-map (IsPending items) (λ (p : String Global). string_bytes p) old all)
    (All-map (IsChild (path_of i)) (λ (p : String Global). string_bytes p) paths children) up order))
