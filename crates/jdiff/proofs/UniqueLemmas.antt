-- Any two trees have lines, and no others.
use Rattle.std.proofs.Common.{◌≡◌, ℕ, zero, suc, ◌+◌, ◌≤◌, Bool, List, [], ◌∷◌, ◌++◌, length, refl, sym, ap, ◌∙◌, subst, arith, Option, Some, None}
use Rattle.std.specs.Prelude.{filter_map}
use Rattle.std.specs.List.{AllByRecursion, cons_option}
use Rattle.std.specs.declared.cmp.Ordering.TheVariants.{Less}
use Rattle.std.specs.Cmp.{IsTotalOrder}
use Rattle.std.proofs.lemmas.Cmp.{nat_list_cmp_total, lists_total}
use Rattle.jreport.specs.TreeText.{none_met}
use Rattle.jdiff.specs.Entries.{Entry}
use Rattle.jdiff.specs.Changes.{changes}
use Rattle.jdiff.specs.Pairing.{Place, path_cmp, AreInOrder, IsAtPath, lines_on}
use Rattle.jdiff.specs.Laws.{TreesHaveLines}
use Rattle.jdiff.specs.Walking.{root_spot}
use Rattle.jdiff.specs.declared.comparing.Comparing.{Comparing}
use Rattle.jdiff.proofs.LawLemmas.{later_left, later_right, entries_are_one}
use Rattle.jdiff.proofs.OrderLemmas.{not_before}
use Rattle.jdiff.proofs.PairedLemmas.{differences_of}
use Rattle.jdiff.proofs.PlaceLemmas.{has_places}

abbrev Path : Type 0
Path = List (List ℕ)

abbrev lefts : List Place → List Entry
lefts places = filter_map (λ place. place.left) places

abbrev rights : List Place → List Entry
rights places = filter_map (λ place. place.right) places

abbrev AreAtPaths : List Place → Type 0
AreAtPaths places = AllByRecursion (λ (place : Place). IsAtPath place.path place.left × IsAtPath place.path place.right) places

abbrev ComeAfter : Path → List Place → Type 0
ComeAfter path places = AllByRecursion (λ (later : Place). path_cmp path later.path ≡ Less) places

-- an entry at a path that is one of later places too
left_twice : (places : List Place) (path : Path) (x : Entry) (xs : List Entry) → ComeAfter path places → AreAtPaths places → lefts places ≡ x ∷ xs → x.path ≡ path → ⊥
left_twice places path x xs later paths is at = not_before path (subst (λ (p : Path). path_cmp path p ≡ Less) at (later_left path places x xs later paths is))

right_twice : (places : List Place) (path : Path) (x : Entry) (xs : List Entry) → ComeAfter path places → AreAtPaths places → rights places ≡ x ∷ xs → x.path ≡ path → ⊥
right_twice places path x xs later paths is at = not_before path (subst (λ (p : Path). path_cmp path p ≡ Less) at (later_right path places x xs later paths is))

path_total : IsTotalOrder path_cmp
path_total = lists_total nat_list_cmp_total

both_before : (p q : Path) → path_cmp p q ≡ Less → path_cmp q p ≡ Less → ⊥
both_before p q less other = not_before p (path_total.trans p q p less other)

-- what is known of two lists of places, from a place of each on
record TwoFirst (how : Comparing) (p q : Place) (ps qs : List Place) (a b c d : Option Entry) : Type 0 where
  left_at : IsAtPath p.path a
  right_at : IsAtPath p.path b
  left_there : IsAtPath q.path c
  right_there : IsAtPath q.path d
  later : ComeAfter p.path ps
  later_there : ComeAfter q.path qs
  paths : AreAtPaths ps
  paths_there : AreAtPaths qs
  past_first : lefts ps ≡ cons_option c (lefts qs) → rights ps ≡ cons_option d (rights qs) → lines_on how ps ≡ changes how c d ++ lines_on how qs
  past_second : cons_option a (lefts ps) ≡ lefts qs → cons_option b (rights ps) ≡ rights qs → changes how a b ++ lines_on how ps ≡ lines_on how qs
  past_both : lefts ps ≡ lefts qs → rights ps ≡ rights qs → lines_on how ps ≡ lines_on how qs

first_entry : (x y : Entry) (xs ys : List Entry) → x ∷ xs ≡ y ∷ ys → x ≡ y
first_entry x y xs ys e = cc

other_entries : (x y : Entry) (xs ys : List Entry) → x ∷ xs ≡ y ∷ ys → xs ≡ ys
other_entries x y xs ys e = cc

same_path : (x y : Entry) → x ≡ y → x.path ≡ y.path
same_path x y is = ap (λ (e : Entry). e.path) is

same_first : (how : Comparing) (p q : Place) (ps qs : List Place) (a b c d : Option Entry) → TwoFirst how p q ps qs a b c d
    → cons_option a (lefts ps) ≡ cons_option c (lefts qs) → cons_option b (rights ps) ≡ cons_option d (rights qs)
    → changes how a b ++ lines_on how ps ≡ changes how c d ++ lines_on how qs
same_first how p q ps qs None None c d k e f = k.past_first e f
same_first how p q ps qs (Some x) None None None k e f = k.past_second e f
same_first how p q ps qs None (Some y) None None k e f = k.past_second e f
same_first how p q ps qs (Some x) (Some y) None None k e f = k.past_second e f
same_first how p q ps qs (Some x) (Some y) (Some z) (Some w) k e f =
    ap (λ (o : Entry). changes how (Some o) (Some y) ++ lines_on how ps) (first_entry x z (lefts ps) (lefts qs) e)
    ∙ ap (λ (o : Entry). changes how (Some z) (Some o) ++ lines_on how ps) (first_entry y w (rights ps) (rights qs) f)
    ∙ ap (λ l. changes how (Some z) (Some w) ++ l) (k.past_both (other_entries x z (lefts ps) (lefts qs) e) (other_entries y w (rights ps) (rights qs) f))
same_first how p q ps qs (Some x) None (Some z) None k e f =
    ap (λ (o : Entry). changes how (Some o) None ++ lines_on how ps) (first_entry x z (lefts ps) (lefts qs) e)
    ∙ ap (λ l. changes how (Some z) None ++ l) (k.past_both (other_entries x z (lefts ps) (lefts qs) e) f)
same_first how p q ps qs None (Some y) None (Some w) k e f =
    ap (λ (o : Entry). changes how None (Some o) ++ lines_on how ps) (first_entry y w (rights ps) (rights qs) f)
    ∙ ap (λ l. changes how None (Some w) ++ l) (k.past_both e (other_entries y w (rights ps) (rights qs) f))
same_first how p q ps qs (Some x) (Some y) (Some z) None k e f =
    absurd (right_twice qs q.path y (rights ps) k.later_there k.paths_there (sym f)
    (k.right_at ∙ sym k.left_at ∙ same_path x z (first_entry x z (lefts ps) (lefts qs) e) ∙ k.left_there))
same_first how p q ps qs (Some x) (Some y) None (Some w) k e f =
    absurd (left_twice qs q.path x (lefts ps) k.later_there k.paths_there (sym e)
    (k.left_at ∙ sym k.right_at ∙ same_path y w (first_entry y w (rights ps) (rights qs) f) ∙ k.right_there))
same_first how p q ps qs (Some x) None (Some z) (Some w) k e f =
    absurd (right_twice ps p.path w (rights qs) k.later k.paths f
    (k.right_there ∙ sym k.left_there ∙ sym (same_path x z (first_entry x z (lefts ps) (lefts qs) e)) ∙ k.left_at))
same_first how p q ps qs None (Some y) (Some z) (Some w) k e f =
    absurd (left_twice ps p.path z (lefts qs) k.later k.paths e
    (k.left_there ∙ sym k.right_there ∙ sym (same_path y w (first_entry y w (rights ps) (rights qs) f)) ∙ k.right_at))
same_first how p q ps qs (Some x) None None (Some w) k e f =
    absurd (both_before p.path q.path
    (subst (λ (o : Path). path_cmp p.path o ≡ Less) k.right_there (later_right p.path ps w (rights qs) k.later k.paths f))
    (subst (λ (o : Path). path_cmp q.path o ≡ Less) k.left_at (later_left q.path qs x (lefts ps) k.later_there k.paths_there (sym e))))
same_first how p q ps qs None (Some y) (Some z) None k e f =
    absurd (both_before p.path q.path
    (subst (λ (o : Path). path_cmp p.path o ≡ Less) k.left_there (later_left p.path ps z (lefts qs) k.later k.paths e))
    (subst (λ (o : Path). path_cmp q.path o ≡ Less) k.right_at (later_right q.path qs y (rights ps) k.later_there k.paths_there (sym f))))

-- ---- no places on one side

no_lines : (how : Comparing) (ps : List Place) → lefts ps ≡ [] → rights ps ≡ [] → lines_on how ps ≡ []
no_lines how [] e f = refl
no_lines how (p ∷ ps) e f = by p.left p.right e f (λ g h. no_lines how ps g h)
  where
    by : (a b : Option Entry) → cons_option a (lefts ps) ≡ [] → cons_option b (rights ps) ≡ [] → (lefts ps ≡ [] → rights ps ≡ [] → lines_on how ps ≡ [])
        → changes how a b ++ lines_on how ps ≡ []
    by None None g h rest = rest g h
    by (Some x) b g h rest = cc
    by None (Some y) g h rest = cc

same_lines : (n : ℕ) (how : Comparing) (ps qs : List Place) → length ps + length qs ≤ n → AreAtPaths ps → AreAtPaths qs → AreInOrder ps → AreInOrder qs
    → lefts ps ≡ lefts qs → rights ps ≡ rights qs → lines_on how ps ≡ lines_on how qs
same_lines n how [] qs small at there order other e f = sym (no_lines how qs (sym e) (sym f))
same_lines n how (p ∷ ps) [] small at there order other e f = no_lines how (p ∷ ps) e f
same_lines zero how (p ∷ ps) (q ∷ qs) small at there order other e f = absurd (omega (arith, small))
same_lines (suc n) how (p ∷ ps) (q ∷ qs) small at there order other e f =
    same_first how p q ps qs p.left p.right q.left q.right
    (record {
      left_at = at.0.0;
      right_at = at.0.1;
      left_there = there.0.0;
      right_there = there.0.1;
      later = order.0;
      later_there = other.0;
      paths = at.1;
      paths_there = there.1;
      past_first = λ g h. same_lines n how ps (q ∷ qs) (omega (arith, small)) at.1 there order.1 other g h;
      past_second = λ g h. same_lines n how (p ∷ ps) qs (omega (arith, small)) at there.1 order other.1 g h;
      past_both = λ g h. same_lines n how ps qs (omega (arith, small)) at.1 there.1 order.1 other.1 g h;
    }) e f

pub trees_have_lines : TreesHaveLines
trees_have_lines how s t =
    let found = has_places s t none_met none_met (root_spot ∷ []) in
    let own = differences_of how s t found.0 found.1 in (
      lines_on how found.0,
      own,
      λ lines are.
          are.said
          ∙ same_lines (length are.places + length own.places) how are.places own.places (omega arith) are.paired.paths own.paired.paths are.paired.order own.paired.order
          (are.paired.lefts ∙ entries_are_one s are.left own.left are.of_left own.of_left ∙ sym own.paired.lefts)
          (are.paired.rights ∙ entries_are_one t are.right own.right are.of_right own.of_right ∙ sym own.paired.rights)
          ∙ sym own.said,
    )
