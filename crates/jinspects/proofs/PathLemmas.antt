-- The paths of the names that were gone through, and those of the names that are left.
use Rattle.std.proofs.Common.{◌≡◌, ℕ, List, [], ◌∷◌, Option, Some, None, refl, sym, ap, ◌∙◌}
use Rattle.jmount.specs.Tree.{State, all_entries}
use Rattle.jdamage.specs.Ways.{HeldName, NameOf, name_held}
use Rattle.jmap.specs.Places.{Paths, path_in}
use Rattle.jinspects.specs.ShownPaths.{AreShownPaths, first_path_text, or_path, root_text, shown_path, shown_text_if}

no_later : (o : Option (List ℕ)) → or_path o None ≡ o
no_later None = refl
no_later (Some path) = refl

three : (a b c : Option (List ℕ)) → or_path (or_path a b) c ≡ or_path a (or_path b c)
three None b c = refl
three (Some path) b c = refl

-- with those that are left they are the ones that are shown
abbrev pub PathsSoFar : State → Paths → List NameOf → Type 0
PathsSoFar s paths left = (i : ℕ) → or_path (path_in paths i) (first_path_text s i left) ≡ shown_path s i

pub paths_begin : (s : State) (paths : Paths) (left : List NameOf) → ((i : ℕ) → path_in paths i ≡ root_text i) → left ≡ all_entries s → PathsSoFar s paths left
paths_begin s paths left root all i =
    ap (λ (o : Option (List ℕ)). or_path o (first_path_text s i left)) (root i) ∙ ap (λ (l : List NameOf). or_path (root_text i) (first_path_text s i l)) all

pub paths_more : (s : State) (old new : Paths) (n : HeldName) (left rest : List NameOf) → left ≡ name_held n ∷ rest
    → ((i : ℕ) → path_in new i ≡ or_path (path_in old i) (shown_text_if s i (name_held n))) → PathsSoFar s old left → PathsSoFar s new rest
unfolding first_path_text
paths_more s old new n left rest is noted so_far i =
    ap (λ (o : Option (List ℕ)). or_path o (first_path_text s i rest)) (noted i)
    ∙ three (path_in old i) (shown_text_if s i (name_held n)) (first_path_text s i rest)
    ∙ ap (λ (l : List NameOf). or_path (path_in old i) (first_path_text s i l)) (sym is) ∙ so_far i

pub paths_all : (s : State) (paths : Paths) (left : List NameOf) → left ≡ [] → PathsSoFar s paths left → AreShownPaths s paths
unfolding first_path_text
paths_all s paths left none so_far i =
    sym (no_later (path_in paths i)) ∙ ap (λ (l : List NameOf). or_path (path_in paths i) (first_path_text s i l)) (sym none) ∙ so_far i
