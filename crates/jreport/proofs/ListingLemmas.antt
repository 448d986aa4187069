-- The lines of a tree: that there is a text of them, and how a walk comes to it.
use Rattle.std.proofs.Common.{◌≡◌, ℕ, zero, suc, ◌+◌, ◌≤◌, ◌&&◌, ◌||◌, ◌==◌, not, cond, Bool, true, false, List, [], ◌∷◌, ◌++◌, length, refl, sym, ap, ◌∙◌, arith, Option}
use Rattle.std.specs.Prelude.{filter, option_map}
use Rattle.std.specs.FinMap.{entries}
use Rattle.std.specs.List.{flat_map}
use Rattle.std.proofs.lemmas.Grind.{common_steps}
use Rattle.std.proofs.lemmas.Bool.Decides.{nat_tests}
use Rattle.std.proofs.lemmas.List.Sums.{length-filter, count_by-le-length}
use Rattle.std.proofs.lemmas.List.{length-map, length-append}
use Rattle.jmount.specs.Tree.{ObjectOf, State, object, is_there, is_directory, entries_in}
use Rattle.jreport.specs.TreeText.{Item, Met, none_met, items_of, object_line, line_if, line_of, met_after, todo_after, is_entered, AreLinesOf}
use Rattle.jmount.specs.Shown.{shown}
use Rattle.jreport.specs.TreeLaws.{EachTreeHasOneText, RootComesFirst}
use Rattle.jreport.specs.Walking.{IsTextOf, unmet}
use Rattle.flashbase.proofs.ListLemmas.{count_apart, count_fewer}
use Rattle.jmount.proofs.DirectoryNameLemmas.{length_entries}

-- ---- the names whose directory was not met

-- a directory that is entered takes its names along
pub unmet_entered : (s : State) (met : Met) (d : ℕ) → is_entered s met d ≡ true → unmet s (met_after s met d) + length (entries_in s d) ≡ unmet s met
unmet_entered s met d entered =
    ap (λ n. unmet s (met_after s met d) + n) (length_entries s d)
    ∙ count_apart (λ e. not (met_after s met d e.0.0)) (λ e. e.0.0 == d) (λ e. not (met e.0.0)) (λ e. one (is_directory s d) (met d) (met e.0.0) (d == e.0.0) (e.0.0 == d) entered (flip d e.0.0) (same d e.0.0)) (entries s.names)
  where
    flip : (a b : ℕ) → (a == b) ≡ (b == a)
    flip a b = grind (arith, nat_tests)

    same : (a b : ℕ) → (b == a) ≡ true → met b ≡ met a
    same a b is = ap met (grind (arith, nat_tests))

    one : (dir here there at from : Bool) → dir && not here ≡ true → at ≡ from → (from ≡ true → there ≡ here)
        → cond (not (there || (dir && at))) 1 0 + cond from 1 0 ≡ cond (not there) 1 0
    one dir here there at from is flipped equal = grind (arith, common_steps)

pub unmet_after : (s : State) (met : Met) (d : ℕ) → unmet s (met_after s met d) ≤ unmet s met
unmet_after s met d =
    count_fewer (λ e. not (met_after s met d e.0.0)) (λ e. not (met e.0.0)) (λ e. one (met e.0.0) (is_directory s d && (d == e.0.0))) (entries s.names)
  where
    one : (there more : Bool) → cond (not (there || more)) 1 0 ≤ cond (not there) 1 0
    one there more = grind (arith, common_steps)

-- ---- each walk has a text

length_items : (s : State) (path : List (List ℕ)) (names : List (List ℕ × ℕ)) → length (items_of s path names) ≤ length names
length_items s path names =
    let shown : List ℕ × ℕ → Item = λ e. (path ++ e.0 ∷ [], e.1) in
    omega (
      arith,
      length-map (filter (λ e. is_there s e.1) names) shown,
      length-filter (λ e. is_there s e.1) names,
      count_by-le-length (λ e. is_there s e.1) names,
    )

pub weight_falls : (s : State) (met : Met) (item : Item) (todo : List Item) → unmet s (met_after s met item.1) + length (todo_after s met item todo) ≤ unmet s met + length todo
weight_falls s met item todo = by (is_entered s met item.1) refl
  where
    by : (entered : Bool) → is_entered s met item.1 ≡ entered
        → unmet s (met_after s met item.1) + length (cond entered (items_of s item.0 (entries_in s item.1) ++ todo) todo) ≤ unmet s met + length todo
    by true is = omega (
      arith,
      unmet_entered s met item.1 is,
      length_items s item.0 (entries_in s item.1),
      length-append (items_of s item.0 (entries_in s item.1)) todo,
    )
    by false is = omega (arith, unmet_after s met item.1)

has_lines : (n : ℕ) (s : State) (met : Met) (todo : List Item) → unmet s met + length todo ≤ n → (lines : List (List ℕ)) × AreLinesOf s met todo lines
has_lines n s met [] small = ([], refl)
has_lines zero s met (item ∷ todo) small = absurd (omega (arith, small))
has_lines (suc n) s met (item ∷ todo) small =
    let rest = has_lines n s (met_after s met item.1) (todo_after s met item todo) (omega (arith, small, weight_falls s met item todo)) in
    (line_of s met item ∷ rest.0, (refl, rest.1))

pub has_text : (s : State) (met : Met) (todo : List Item) → (text : List ℕ) × IsTextOf s met todo text
has_text s met todo =
    let found = has_lines (unmet s met + length todo) s met todo (omega arith) in
    (flat_map (λ line. line) found.0, (found.0, found.1, refl))

-- ---- and only one

lines_are_one : (s : State) (met : Met) (todo : List Item) (a b : List (List ℕ)) → AreLinesOf s met todo a → AreLinesOf s met todo b → a ≡ b
lines_are_one s met [] a b first other = first ∙ sym other
lines_are_one s met (item ∷ todo) [] b first other = absurd first
lines_are_one s met (item ∷ todo) (x ∷ a) [] first other = absurd other
lines_are_one s met (item ∷ todo) (x ∷ a) (y ∷ b) first other =
    let same : x ≡ y = first.0 ∙ sym other.0 in
    let rest = lines_are_one s (met_after s met item.1) (todo_after s met item todo) a b first.1 other.1 in
    λ i. same i ∷ rest i

pub text_is_one : (s : State) (met : Met) (todo : List Item) (a b : List ℕ) → IsTextOf s met todo a → IsTextOf s met todo b → a ≡ b
text_is_one s met todo a b first other =
    first.2 ∙ ap (flat_map (λ line. line)) (lines_are_one s met todo first.0 other.0 first.1 other.1) ∙ sym other.2

-- ---- the next item

pub next_line : (s : State) (met : Met) (item : Item) (todo : List Item) (rest : List ℕ)
    → IsTextOf s (met_after s met item.1) (todo_after s met item todo) rest → IsTextOf s met (item ∷ todo) (line_of s met item ++ rest)
next_line s met item todo rest is = (line_of s met item ∷ is.0, (refl, is.1), ap (λ l. line_of s met item ++ l) is.2)

-- ---- the laws

pub one_text : EachTreeHasOneText
one_text s =
    let found = has_text s none_met (([], 1) ∷ []) in
    (found.0, found.1, λ other is. text_is_one s none_met (([], 1) ∷ []) other found.0 is found.1)

-- a list of lines that begins with the line of the first item
first_line : (s : State) (met : Met) (item : Item) (todo : List Item) (lines : List (List ℕ)) → AreLinesOf s met (item ∷ todo) lines
    → (rest : List ℕ) × (flat_map (λ line. line) lines ≡ line_of s met item ++ rest)
first_line s met item todo [] are = absurd are
first_line s met item todo (line ∷ lines) are = (flat_map (λ l. l) lines, ap (λ l. l ++ flat_map (λ x. x) lines) are.0)

no_mark : (b : Bool) → b && false ≡ false
no_mark true = refl
no_mark false = refl

pub root_first : RootComesFirst
root_first s root text there is =
    let first = first_line s none_met ([], 1) [] is.0 is.1 in
    let line : line_of s none_met ([], 1) ≡ object_line s [] 1 (shown root) false =
    ap (λ (b : Bool). line_if s [] 1 (option_map shown (object s 1)) b) (no_mark (is_directory s 1))
    ∙ ap (λ (o : Option (ObjectOf (List ℕ))). line_if s [] 1 (option_map shown o) false) there in
    (first.0, is.2 ∙ first.1 ∙ ap (λ (l : List ℕ). l ++ first.0) line)
