-- There are no lines exactly where two trees have the same entries.
use Rattle.std.proofs.Common.{◌≡◌, ℕ, cond, Bool, true, false, List, [], ◌∷◌, ◌++◌, refl, sym, ap, ◌∙◌, subst, Option, Some, None}
use Rattle.std.specs.Prelude.{◌==◌, ◌&&◌, IsTrue, filter_map}
use Rattle.std.proofs.lemmas.Bool.{and_parts, and_from, eqb-true, eq-eqb, false≢true}
use Rattle.std.specs.List.{AllByRecursion, cons_option}
use Rattle.std.specs.declared.cmp.Ordering.TheVariants.{Less}
use Rattle.jmount.specs.Tree.{State}
use Rattle.jreport.specs.TreeText.{Item, Met, none_met, met_after, todo_after}
use Rattle.jdiff.specs.Entries.{Entry, AreFound, entries_found, AreEntries}
use Rattle.jdiff.specs.Changes.{is_same_object, first_difference, is_symlink, both_lines, bytes_differ_line, bytes_changes, object_changes, number_of_device, is_same_number, number_differs_line, number_changes, changes}
use Rattle.jdiff.specs.Pairing.{Place, path_cmp, AreInOrder, IsAtPath, lines_on}
use Rattle.jdiff.specs.Laws.{IsSameEntry, AreSameEntries, SameTreesHaveNoLines}
use Rattle.jdiff.specs.declared.comparing.Comparing.{Comparing}
use Rattle.jdiff.proofs.ByteLemmas.{same_bytes, no_difference}
use Rattle.jdiff.proofs.OrderLemmas.{not_before}

-- ---- a tree has one list of entries

found_is_one : (s : State) (met : Met) (todo : List Item) (a b : List (Option Entry)) → AreFound s met todo a → AreFound s met todo b → a ≡ b
found_is_one s met [] a b first other = first ∙ sym other
found_is_one s met (item ∷ todo) [] b first other = absurd first
found_is_one s met (item ∷ todo) (x ∷ a) [] first other = absurd other
found_is_one s met (item ∷ todo) (x ∷ a) (y ∷ b) first other =
    let same : x ≡ y = first.0 ∙ sym other.0 in
    let rest = found_is_one s (met_after s met item.1) (todo_after s met item todo) a b first.1 other.1 in
    λ i. same i ∷ rest i

pub entries_are_one : (s : State) (a b : List Entry) → AreEntries s a → AreEntries s b → a ≡ b
entries_are_one s a b first other =
    first.2 ∙ ap entries_found (found_is_one s none_met (([], 1) ∷ []) first.0 other.0 first.1 other.1) ∙ sym other.2

-- ---- no lines

no_first : (a b : List (List ℕ)) → a ++ b ≡ [] → (a ≡ []) × (b ≡ [])
no_first [] b none = (refl, none)
no_first (x ∷ a) b none = cc

no_bytes : (times : Bool) (x y : Entry) (o : Option ℕ) → bytes_changes times x y o ≡ [] → o ≡ None
no_bytes times x y None none = refl
no_bytes times x y (Some k) none = by (is_symlink x.object.kind) none
  where
    by : (b : Bool) → cond b (both_lines times x y) (bytes_differ_line x.path k ∷ []) ≡ [] → Some k ≡ None
    by true is = cc
    by false is = cc

no_object_changes : (times : Bool) (x y : Entry) → object_changes times x y ≡ [] → IsTrue (is_same_object times x.object y.object) × (x.bytes ≡ y.bytes)
no_object_changes times x y none = by (is_same_object times x.object y.object) refl none
  where
    by : (b : Bool) → is_same_object times x.object y.object ≡ b → cond b (bytes_changes times x y (first_difference x.bytes y.bytes)) (both_lines times x y) ≡ []
        → IsTrue (is_same_object times x.object y.object) × (x.bytes ≡ y.bytes)
    by true same is = (same, same_bytes x.bytes y.bytes (no_bytes times x y (first_difference x.bytes y.bytes) is))
    by false same is = cc

numbers_same : (m n : Option (ℕ × ℕ)) → is_same_number m n ≡ true → m ≡ n
numbers_same None None same = refl
numbers_same (Some m) None same = absurd (false≢true same)
numbers_same None (Some n) same = absurd (false≢true same)
numbers_same (Some m) (Some n) same =
    let both = and_parts (m.0 == n.0) (m.1 == n.1) same in
    let major : m.0 ≡ n.0 = eqb-true m.0 n.0 both.0 in
    let minor : m.1 ≡ n.1 = eqb-true m.1 n.1 both.1 in
    λ i. Some (major i, minor i)

is_itself : (m : Option (ℕ × ℕ)) → is_same_number m m ≡ true
is_itself None = refl
is_itself (Some m) = and_from (m.0 == m.0) (m.1 == m.1) (eq-eqb m.0 m.0 refl) (eq-eqb m.1 m.1 refl)

no_number_changes : (path : List (List ℕ)) (m n : Option (ℕ × ℕ)) → number_changes path m n ≡ [] → m ≡ n
no_number_changes path m n none = by (is_same_number m n) refl none
  where
    by : (b : Bool) → is_same_number m n ≡ b → cond b [] (number_differs_line path m n ∷ []) ≡ [] → m ≡ n
    by true same is = numbers_same m n same
    by false same is = cc

no_changes : (how : Comparing) (x y : Entry) → changes how (Some x) (Some y) ≡ []
    → IsTrue (is_same_object how.times x.object y.object) × (number_of_device how.order x.object ≡ number_of_device how.order y.object) × (x.bytes ≡ y.bytes)
no_changes how x y none =
    let m = number_of_device how.order x.object in
    let n = number_of_device how.order y.object in
    let split = no_first (object_changes how.times x y) (number_changes x.path m n) none in
    let objects = no_object_changes how.times x y split.0 in
    (objects.0, no_number_changes x.path m n split.1, objects.1)

same_of_none : (how : Comparing) (places : List Place) → AllByRecursion (λ (place : Place). IsAtPath place.path place.left × IsAtPath place.path place.right) places
    → lines_on how places ≡ [] → AreSameEntries how (filter_map (λ place. place.left) places) (filter_map (λ place. place.right) places)
same_of_none how [] paths none = tt
same_of_none how (place ∷ places) paths none =
    let split = no_first (changes how place.left place.right) (lines_on how places) none in
    by place.left place.right paths.0.0 paths.0.1 split.0 (same_of_none how places paths.1 split.1)
  where
    by : (x y : Option Entry) → IsAtPath place.path x → IsAtPath place.path y → changes how x y ≡ []
        → AreSameEntries how (filter_map (λ place. place.left) places) (filter_map (λ place. place.right) places)
        → AreSameEntries how (cons_option x (filter_map (λ place. place.left) places)) (cons_option y (filter_map (λ place. place.right) places))
    by None None at other is rest = rest
    by None (Some y) at other is rest = cc
    by (Some x) None at other is rest = cc
    by (Some x) (Some y) at other is rest = let same = no_changes how x y is in ((at ∙ sym other, same.0, same.1, same.2), rest)

-- ---- the same entries

-- an entry of later places has a later path
pub later_left : (p : List (List ℕ)) (places : List Place) (x : Entry) (xs : List Entry) → AllByRecursion (λ (later : Place). path_cmp p later.path ≡ Less) places
    → AllByRecursion (λ (place : Place). IsAtPath place.path place.left × IsAtPath place.path place.right) places
    → filter_map (λ place. place.left) places ≡ x ∷ xs → path_cmp p x.path ≡ Less
later_left p [] x xs later paths is = cc
later_left p (place ∷ places) x xs later paths is = by place.left paths.0.0 (λ e. later_left p places x xs later.1 paths.1 e) is
  where
    by : (o : Option Entry) → IsAtPath place.path o → (filter_map (λ place. place.left) places ≡ x ∷ xs → path_cmp p x.path ≡ Less) → cons_option o (filter_map (λ place. place.left) places) ≡ x ∷ xs → path_cmp p x.path ≡ Less
    by None at more e = more e
    by (Some z) at more e =
        let one : z ≡ x = cc in
        subst (λ (path : List (List ℕ)). path_cmp p path ≡ Less) (sym at ∙ ap (λ (y : Entry). y.path) one) later.0

pub later_right : (p : List (List ℕ)) (places : List Place) (x : Entry) (xs : List Entry) → AllByRecursion (λ (later : Place). path_cmp p later.path ≡ Less) places
    → AllByRecursion (λ (place : Place). IsAtPath place.path place.left × IsAtPath place.path place.right) places
    → filter_map (λ place. place.right) places ≡ x ∷ xs → path_cmp p x.path ≡ Less
later_right p [] x xs later paths is = cc
later_right p (place ∷ places) x xs later paths is = by place.right paths.0.1 (λ e. later_right p places x xs later.1 paths.1 e) is
  where
    by : (o : Option Entry) → IsAtPath place.path o → (filter_map (λ place. place.right) places ≡ x ∷ xs → path_cmp p x.path ≡ Less) → cons_option o (filter_map (λ place. place.right) places) ≡ x ∷ xs → path_cmp p x.path ≡ Less
    by None at more e = more e
    by (Some z) at more e =
        let one : z ≡ x = cc in
        subst (λ (path : List (List ℕ)). path_cmp p path ≡ Less) (sym at ∙ ap (λ (y : Entry). y.path) one) later.0

same_numbers : (path : List (List ℕ)) (m n : Option (ℕ × ℕ)) → m ≡ n → number_changes path m n ≡ []
same_numbers path m n same =
    ap (number_changes path m) (sym same) ∙ ap (λ (b : Bool). cond b [] (number_differs_line path m m ∷ [])) (is_itself m)

same_objects : (times : Bool) (x y : Entry) → IsTrue (is_same_object times x.object y.object) → x.bytes ≡ y.bytes → object_changes times x y ≡ []
same_objects times x y same bytes =
    ap (λ (b : Bool). cond b (bytes_changes times x y (first_difference x.bytes y.bytes)) (both_lines times x y)) same
    ∙ ap (bytes_changes times x y) (ap (λ (l : List ℕ). first_difference x.bytes l) (sym bytes) ∙ no_difference x.bytes)

same_changes : (how : Comparing) (x y : Entry) → IsSameEntry how x y → changes how (Some x) (Some y) ≡ []
same_changes how x y same =
    let m = number_of_device how.order x.object in
    let n = number_of_device how.order y.object in
    ap (λ (l : List (List ℕ)). l ++ number_changes x.path m n) (same_objects how.times x y same.1 same.3) ∙ same_numbers x.path m n same.2

-- the left one alone has an entry there
alone_left : (how : Comparing) (p : List (List ℕ)) (x : Entry) (xs ys : List Entry) → x.path ≡ p → AreSameEntries how (x ∷ xs) ys
    → ((y : Entry) (rest : List Entry) → ys ≡ y ∷ rest → path_cmp p y.path ≡ Less) → ⊥
alone_left how p x xs [] at same later = same
alone_left how p x xs (y ∷ ys) at same later =
    not_before p (subst (λ (path : List (List ℕ)). path_cmp p path ≡ Less) (sym same.0.0 ∙ at) (later y ys refl))

alone_right : (how : Comparing) (p : List (List ℕ)) (y : Entry) (xs ys : List Entry) → y.path ≡ p → AreSameEntries how xs (y ∷ ys)
    → ((x : Entry) (rest : List Entry) → xs ≡ x ∷ rest → path_cmp p x.path ≡ Less) → ⊥
alone_right how p y [] ys at same later = same
alone_right how p y (x ∷ xs) ys at same later =
    not_before p (subst (λ (path : List (List ℕ)). path_cmp p path ≡ Less) (same.0.0 ∙ at) (later x xs refl))

none_of_same : (how : Comparing) (places : List Place) → AllByRecursion (λ (place : Place). IsAtPath place.path place.left × IsAtPath place.path place.right) places
    → AreInOrder places → AreSameEntries how (filter_map (λ place. place.left) places) (filter_map (λ place. place.right) places) → lines_on how places ≡ []
none_of_same how [] paths order same = refl
none_of_same how (place ∷ places) paths order same =
    by place.left place.right paths.0.0 paths.0.1 same (λ more. none_of_same how places paths.1 order.1 more)
  where
    by : (x y : Option Entry) → IsAtPath place.path x → IsAtPath place.path y
        → AreSameEntries how (cons_option x (filter_map (λ place. place.left) places)) (cons_option y (filter_map (λ place. place.right) places))
        → (AreSameEntries how (filter_map (λ place. place.left) places) (filter_map (λ place. place.right) places) → lines_on how places ≡ [])
        → changes how x y ++ lines_on how places ≡ []
    by None None at other are rest = rest are
    by (Some x) None at other are rest =
        absurd (alone_left how place.path x (filter_map (λ place. place.left) places) (filter_map (λ place. place.right) places) at are
        (λ y more e. later_right place.path places y more order.0 paths.1 e))
    by None (Some y) at other are rest =
        absurd (alone_right how place.path y (filter_map (λ place. place.left) places) (filter_map (λ place. place.right) places) other are
        (λ x more e. later_left place.path places x more order.0 paths.1 e))
    by (Some x) (Some y) at other are rest =
        ap (λ (l : List (List ℕ)). l ++ lines_on how places) (same_changes how x y are.0) ∙ rest are.1

pub same_trees : SameTreesHaveNoLines
same_trees how s t left right lines lefts rights are =
    let ours : filter_map (λ place. place.left) are.places ≡ left = are.paired.lefts ∙ entries_are_one s are.left left are.of_left lefts in
    let theirs : filter_map (λ place. place.right) are.places ≡ right = are.paired.rights ∙ entries_are_one t are.right right are.of_right rights in (
      λ none.
          subst (λ (l : List Entry). AreSameEntries how l right) ours
          (subst (AreSameEntries how (filter_map (λ place. place.left) are.places)) theirs
          (same_of_none how are.places are.paired.paths (sym are.said ∙ none))),
      λ same.
          are.said
          ∙ none_of_same how are.places are.paired.paths are.paired.order
          (subst (λ (l : List Entry). AreSameEntries how l (filter_map (λ place. place.right) are.places)) (sym ours)
          (subst (AreSameEntries how left) (sym theirs) same)),
    )
