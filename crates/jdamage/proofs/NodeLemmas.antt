-- The nodes that matter, one by one.
use Rattle.std.proofs.Common.{◌≡◌, ℕ, Bool, List, [], ◌∷◌, ◌++◌, sym, ap, ◌∙◌, append_assoc, append-nil, Option}
use Rattle.std.specs.Prelude.{filter, filter_map, option_to_list}
use Rattle.std.proofs.lemmas.List.Elements.{filter-append}
use Rattle.jgaps.proofs.NodeLemmas.{head_first}

-- those that pass a test
pub one_more_kept : {X Y : Type 0} (p : Y → Bool) (h : X → Option Y) (whole found after : List Y) (left : List X) (x : X) (rest : List X) → found ++ filter p (filter_map h left) ≡ whole → left ≡ x ∷ rest
    → after ≡ found ++ filter p (option_to_list (h x)) → after ++ filter p (filter_map h rest) ≡ whole
one_more_kept {X} {Y} p h whole found after left x rest so_far is added =
    ap (λ (l : List Y). l ++ filter p (filter_map h rest)) added ∙ append_assoc found (filter p (option_to_list (h x))) (filter p (filter_map h rest))
    ∙ ap (λ (l : List Y). found ++ l) (sym (filter-append p (option_to_list (h x)) (filter_map h rest)))
    ∙ ap (λ (l : List Y). found ++ filter p l) (sym (head_first h x rest)) ∙ ap (λ (l : List X). found ++ filter p (filter_map h l)) (sym is) ∙ so_far

pub none_left_kept : {X Y : Type 0} (p : Y → Bool) (h : X → Option Y) (whole found : List Y) (left : List X) → found ++ filter p (filter_map h left) ≡ whole → left ≡ [] → found ≡ whole
none_left_kept {X} p h whole found left so_far is = sym (append-nil found) ∙ ap (λ (l : List X). found ++ filter p (filter_map h l)) (sym is) ∙ so_far
