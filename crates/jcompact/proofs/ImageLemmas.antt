-- The nodes of an image, in order.
use Rattle.std.proofs.Common.{◌≡◌, ℕ, ◌<◌, List, [], ◌∷◌, ◌++◌, append_assoc, append-nil, Option, Some, None, refl, ap, sym, ◌∙◌}
use Rattle.std.specs.Prelude.{filter_map, option_to_list}
use Rattle.std.specs.List.{AllPairs, cons_option}
use Rattle.jnode.specs.declared.order.Endian.{Endian}
use Rattle.jscan.specs.Image.{nodes}
use Rattle.jscan.proofs.AddressLaws.{nodes_ascend}
use Rattle.jmount.proofs.FaultLemmas.{ascends_from_splits}

head_first : {X Y : Type 0} (h : X → Option Y) (x : X) (rest : List X) → filter_map h (x ∷ rest) ≡ option_to_list (h x) ++ filter_map h rest
head_first {X} {Y} h x rest = by (h x)
  where
    by : (o : Option Y) → cons_option o (filter_map h rest) ≡ option_to_list o ++ filter_map h rest
    by None = refl
    by (Some y) = refl

pub one_more : {X Y : Type 0} (h : X → Option Y) (whole found after : List Y) (left : List X) (x : X) (rest : List X) → found ++ filter_map h left ≡ whole → left ≡ x ∷ rest
    → after ≡ found ++ option_to_list (h x) → after ++ filter_map h rest ≡ whole
one_more {X} {Y} h whole found after left x rest so_far is added =
    ap (λ (l : List Y). l ++ filter_map h rest) added ∙ append_assoc found (option_to_list (h x)) (filter_map h rest)
    ∙ ap (λ (l : List Y). found ++ l) (sym (head_first h x rest)) ∙ ap (λ (l : List X). found ++ filter_map h l) (sym is) ∙ so_far

pub none_left : {X Y : Type 0} (h : X → Option Y) (whole found : List Y) (left : List X) → found ++ filter_map h left ≡ whole → left ≡ [] → found ≡ whole
none_left {X} h whole found left so_far is = sym (append-nil found) ∙ ap (λ (l : List X). found ++ filter_map h l) (sym is) ∙ so_far

pub nodes_in_order : (e : Endian) (size : ℕ) (image : List ℕ) → AllPairs (λ m n. m.0 < n.0) (nodes e size image)
nodes_in_order e size image = ascends_from_splits (nodes e size image) (nodes_ascend e size image)
