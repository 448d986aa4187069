-- The nodes that matter, one by one.
use Rattle.std.proofs.Common.{◌≡◌, ℕ, List, [], ◌∷◌, ◌++◌, length, take, drop, ◌-◌, refl, sym, ap, ◌∙◌, arith, append_assoc, append-nil, Option, Some, None, length-append, length-take}
use Rattle.std.specs.Prelude.{filter_map, min, option_to_list}
use Rattle.std.specs.List.{cons_option}
use Rattle.std.proofs.lemmas.List.{take_rest, drop_min}
use Rattle.flashbase.specs.Bytes.{erased}

pub head_first : {X Y : Type 0} (h : X → Option Y) (x : X) (xs : List X) → filter_map h (x ∷ xs) ≡ option_to_list (h x) ++ filter_map h xs
head_first {X} {Y} h x xs = by (h x)
  where
    by : (o : Option Y) → cons_option o (filter_map h xs) ≡ option_to_list o ++ filter_map h xs
    by None = refl
    by (Some y) = refl

-- one node more is seen
pub one_more : {X Y : Type 0} (h : X → Option Y) (whole found after : List Y) (left : List X) (x : X) (rest : List X) → found ++ filter_map h left ≡ whole → left ≡ x ∷ rest
    → after ≡ found ++ option_to_list (h x) → after ++ filter_map h rest ≡ whole
one_more {X} {Y} h whole found after left x rest so_far is added =
    ap (λ (l : List Y). l ++ filter_map h rest) added ∙ append_assoc found (option_to_list (h x)) (filter_map h rest)
    ∙ ap (λ (l : List Y). found ++ l) (sym (head_first h x rest)) ∙ ap (λ (l : List X). found ++ filter_map h l) (sym is) ∙ so_far

pub none_left : {X Y : Type 0} (h : X → Option Y) (whole found : List Y) (left : List X) → found ++ filter_map h left ≡ whole → left ≡ [] → found ≡ whole
none_left {X} h whole found left so_far is = sym (append-nil found) ∙ ap (λ (l : List X). found ++ filter_map h l) (sym is) ∙ so_far

-- a front is long enough
pub front_is_long : (bytes : List ℕ) → length (take 68 (drop 0 (bytes ++ erased 68))) ≡ 68
front_is_long bytes = length-take 68 (bytes ++ erased 68) ∙ omega (arith, length-append bytes (erased 68), sixty_eight)
  where
    sixty_eight : length (erased 68) ≡ 68
    sixty_eight = refl

-- and what is in it
pub front_is : (image : List ℕ) (addr from : ℕ) → from ≡ min addr (length image)
    → take 68 (take (length image - from) (drop from image) ++ erased 68) ≡ take 68 (drop addr image ++ erased 68)
front_is image addr from is =
    ap (λ (l : List ℕ). take 68 (l ++ erased 68)) (take_rest image from ∙ ap (λ (n : ℕ). drop n image) is ∙ drop_min addr image)
