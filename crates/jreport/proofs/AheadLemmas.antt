-- The names of the directories that a walk has still to enter. In a tree that has its shape they are the same whatever was met.
use Rattle.std.proofs.Common.{◌≡◌, ℕ, zero, suc, ◌+◌, ◌≤◌, cond, Bool, List, [], ◌∷◌, ◌++◌, length, refl, sym, ap, ◌∙◌, subst, arith}
use Rattle.jmount.specs.Tree.{State, is_directory, entries_in}
use Rattle.jmount.proofs.ShapeLemmas.{IsShaped}
use Rattle.jreport.specs.TreeText.{Item, Met, items_of, met_after, todo_after}
use Rattle.jreport.specs.Walking.{names_entered, unmet}
use Rattle.jreport.proofs.ListedOnceLemmas.{AreFresh, fresh_after, no_mark}
use Rattle.jreport.proofs.ListingLemmas.{weight_falls}
use Rattle.jreport.proofs.PartLemmas.{same_entered}

-- of so many items at most
abbrev pub ahead : ℕ → State → Met → List Item → ℕ
ahead zero s met todo = 0
ahead (suc n) s met [] = 0
ahead (suc n) s met (item ∷ todo) = names_entered s met item.1 + ahead n s (met_after s met item.1) (todo_after s met item todo)

abbrev pub names_ahead : State → Met → List Item → ℕ
names_ahead s met todo = ahead (unmet s met + length todo) s met todo

none_ahead : (n : ℕ) (s : State) (met : Met) → ahead n s met [] ≡ 0
none_ahead zero s met = refl
none_ahead (suc n) s met = refl

-- more than enough items make no difference
enough : (n m : ℕ) (s : State) (met : Met) (todo : List Item) → unmet s met + length todo ≤ n → unmet s met + length todo ≤ m → ahead n s met todo ≡ ahead m s met todo
enough n m s met [] a b = none_ahead n s met ∙ sym (none_ahead m s met)
enough zero m s met (item ∷ todo) a b = absurd (omega (arith, a))
enough (suc n) zero s met (item ∷ todo) a b = absurd (omega (arith, b))
enough (suc n) (suc m) s met (item ∷ todo) a b =
    ap (λ (k : ℕ). names_entered s met item.1 + k)
    (enough n m s (met_after s met item.1) (todo_after s met item todo) (omega (arith, a, weight_falls s met item todo)) (omega (arith, b, weight_falls s met item todo)))

pub next_ahead : (s : State) (met : Met) (item : Item) (todo : List Item)
    → names_ahead s met (item ∷ todo) ≡ names_entered s met item.1 + names_ahead s (met_after s met item.1) (todo_after s met item todo)
next_ahead s met item todo =
    let n = unmet s met + length todo in
    let one : unmet s met + length (item ∷ todo) ≡ suc n = omega arith in
    ap (λ (k : ℕ). ahead k s met (item ∷ todo)) one
    ∙ ap (λ (k : ℕ). names_entered s met item.1 + k)
    (enough n (unmet s (met_after s met item.1) + length (todo_after s met item todo)) s (met_after s met item.1) (todo_after s met item todo) (weight_falls s met item todo) (omega arith))

same_so_far : (n : ℕ) (s : State) (met other : Met) (todo : List Item) → IsShaped s → AreFresh s met todo → AreFresh s other todo → ahead n s met todo ≡ ahead n s other todo
same_so_far zero s met other todo shape fresh too = refl
same_so_far (suc n) s met other [] shape fresh too = refl
same_so_far (suc n) s met other (item ∷ todo) shape fresh too =
    let entered = same_entered (is_directory s item.1) (met item.1) (other item.1) (no_mark s met item.1 fresh.0) (no_mark s other item.1 too.0) in
    let e : todo_after s met item todo ≡ todo_after s other item todo =
    ap (λ (b : Bool). cond b (items_of s item.0 (entries_in s item.1) ++ todo) todo) entered in
    ap (λ (b : Bool). cond b (length (entries_in s item.1)) 0 + ahead n s (met_after s met item.1) (todo_after s met item todo)) entered
    ∙ ap (λ (k : ℕ). names_entered s other item.1 + k)
    (ap (ahead n s (met_after s met item.1)) e
    ∙ same_so_far n s (met_after s met item.1) (met_after s other item.1) (todo_after s other item todo) shape
    (subst (λ (t : List Item). AreFresh s (met_after s met item.1) t) e (fresh_after s met item todo shape fresh)) (fresh_after s other item todo shape too))

pub same_ahead : (s : State) (met other : Met) (todo : List Item) → IsShaped s → AreFresh s met todo → AreFresh s other todo → names_ahead s met todo ≡ names_ahead s other todo
same_ahead s met other todo shape fresh too =
    let n = unmet s met + unmet s other + length todo in
    enough (unmet s met + length todo) n s met todo (omega arith) (omega arith)
    ∙ same_so_far n s met other todo shape fresh too
    ∙ enough n (unmet s other + length todo) s other todo (omega arith) (omega arith)
