-- Where gaps begin and end.
use Rattle.std.proofs.Common.{◌≡◌, ℕ, zero, suc, ◌+◌, ◌-◌, ◌<◌, ◌≤◌, Bool, true, false, cond, not, List, [], ◌∷◌, ◌++◌, map, refl, sym, ap, ◌∙◌, arith, ◌⊎◌, inl, inr}
use Rattle.std.specs.Prelude.{filter, ◌&&◌}
use Rattle.std.proofs.lemmas.List.Elements.{filter-append}
use Rattle.jgaps.specs.Gaps.{begins_gap, gap_end, gaps_from, is_first, places_from}

filter_yes : {X : Type 0} (p : X → Bool) (x : X) (xs : List X) → p x ≡ true → filter p (x ∷ xs) ≡ x ∷ filter p xs
filter_yes p x xs is = ap (λ (b : Bool). cond b (x ∷ filter p xs) (filter p xs)) is

filter_no : {X : Type 0} (p : X → Bool) (x : X) (xs : List X) → p x ≡ false → filter p (x ∷ xs) ≡ filter p xs
filter_no p x xs is = ap (λ (b : Bool). cond b (x ∷ filter p xs) (filter p xs)) is

both_false : (a b : Bool) → b ≡ false → (a && b) ≡ false
both_false true b is = is
both_false false b is = refl

places_split : (from k n : ℕ) → places_from from (k + n) ≡ places_from from k ++ places_from (from + k) n
places_split from zero n =
    let a : 0 + n ≡ n = omega arith in
    let b : from ≡ from + 0 = omega arith in
    ap (λ (m : ℕ). places_from from m) a ∙ ap (λ (f : ℕ). places_from f n) b
places_split from (suc k) n =
    let a : suc k + n ≡ suc (k + n) = omega arith in
    let b : suc from + k ≡ from + suc k = omega arith in
    ap (λ (m : ℕ). places_from from m) a
    ∙ ap (λ (l : List ℕ). from ∷ l) (places_split (suc from) k n)
    ∙ ap (λ (f : ℕ). from ∷ (places_from (suc from) k ++ places_from f n)) b

-- no place from one on and before another is covered, or each is
abbrev pub AllAre : Bool → (ℕ → Bool) → ℕ → ℕ → Type 0
AllAre is covered from to = (p : ℕ) → from ≤ p → p < to → covered p ≡ is

module _ (covered : ℕ → Bool) where
  none_begin : (from k : ℕ) → AllAre true covered from (from + k) → filter (begins_gap covered) (places_from from k) ≡ []
  none_begin from zero are = refl
  none_begin from (suc k) are =
      filter_no (begins_gap covered) from (places_from (suc from) k) (ap (λ (b : Bool). not b && is_first covered from) (are from (omega arith) (omega arith)))
      ∙ none_begin (suc from) k (λ p a b. are p (omega (arith, a)) (omega (arith, b)))

  quiet : (from k : ℕ) → AllAre false covered from (from + k) → is_first covered from ≡ false → filter (begins_gap covered) (places_from from k) ≡ []
  quiet from zero are later = refl
  quiet from (suc k) are later =
      filter_no (begins_gap covered) from (places_from (suc from) k) (both_false (not (covered from)) (is_first covered from) later)
      ∙ quiet (suc from) k (λ p a b. are p (omega (arith, a)) (omega (arith, b))) (are from (omega arith) (omega arith))

  one_begins : (from k : ℕ) → is_first covered from ≡ true → AllAre false covered from (from + suc k) → filter (begins_gap covered) (places_from from (suc k)) ≡ from ∷ []
  one_begins from k first are =
      let here : covered from ≡ false = are from (omega arith) (omega arith) in
      filter_yes (begins_gap covered) from (places_from (suc from) k) (ap (λ (b : Bool). not b && is_first covered from) here ∙ first)
      ∙ ap (λ (l : List ℕ). from ∷ l) (quiet (suc from) k (λ p a b. are p (omega (arith, a)) (omega (arith, b))) here)

  ends : (from k n : ℕ) → AllAre false covered from (from + k) → gap_end covered from (k + n) ≡ gap_end covered (from + k) n
  ends from zero n are =
      let a : 0 + n ≡ n = omega arith in
      let b : from ≡ from + 0 = omega arith in
      ap (λ (m : ℕ). gap_end covered from m) a ∙ ap (λ (f : ℕ). gap_end covered f n) b
  ends from (suc k) n are =
      let a : suc k + n ≡ suc (k + n) = omega arith in
      let b : suc from + k ≡ from + suc k = omega arith in
      ap (λ (m : ℕ). gap_end covered from m) a
      ∙ ap (λ (c : Bool). cond c from (gap_end covered (suc from) (k + n))) (are from (omega arith) (omega arith))
      ∙ ends (suc from) k n (λ p x y. are p (omega (arith, x)) (omega (arith, y)))
      ∙ ap (λ (f : ℕ). gap_end covered f n) b

  ends_here : (at n : ℕ) → (n ≡ 0) ⊎ (covered at ≡ true) → gap_end covered at n ≡ at
  ends_here at zero why = refl
  ends_here at (suc n) (inl zeroed) = absurd (omega (arith, zeroed))
  ends_here at (suc n) (inr is) = ap (λ (c : Bool). cond c at (gap_end covered (suc at) n)) is

  module _ (size : ℕ) where
    -- the places from one on are those before another and those from there on
    split_at : (from to : ℕ) → from ≤ to → to ≤ size
        → filter (begins_gap covered) (places_from from (size - from))
        ≡ filter (begins_gap covered) (places_from from (to - from)) ++ filter (begins_gap covered) (places_from to (size - to))
    split_at from to a b =
        let count : size - from ≡ (to - from) + (size - to) = omega (arith, a, b) in
        let start : from + (to - from) ≡ to = omega (arith, a) in
        ap (λ (m : ℕ). filter (begins_gap covered) (places_from from m)) count
        ∙ ap (λ (l : List ℕ). filter (begins_gap covered) l) (places_split from (to - from) (size - to))
        ∙ filter-append (begins_gap covered) (places_from from (to - from)) (places_from (from + (to - from)) (size - to))
        ∙ ap (λ (f : ℕ). filter (begins_gap covered) (places_from from (to - from)) ++ filter (begins_gap covered) (places_from f (size - to))) start

    -- covered places have no gap
    pub gaps_skip : (from to : ℕ) → from ≤ to → to ≤ size → AllAre true covered from to → gaps_from covered size from ≡ gaps_from covered size to
    unfolding gaps_from
    gaps_skip from to a b are =
        let start : from + (to - from) ≡ to = omega (arith, a) in
        ap (λ (l : List ℕ). map (λ (begin : ℕ). (begin, gap_end covered begin (size - begin))) l)
        (split_at from to a b
        ∙ ap (λ (l : List ℕ). l ++ filter (begins_gap covered) (places_from to (size - to)))
        (none_begin from (to - from) (λ p x y. are p x (omega (arith, y, start)))))

    -- places that are not have one
    pub gaps_found : (from to : ℕ) → from < to → to ≤ size → is_first covered from ≡ true → AllAre false covered from to → (to ≡ size) ⊎ (covered to ≡ true)
        → gaps_from covered size from ≡ (from, to) ∷ gaps_from covered size to
    unfolding gaps_from
    gaps_found from to a b first are why =
        let f : ℕ → ℕ × ℕ = λ begin. (begin, gap_end covered begin (size - begin)) in
        let k : suc (to - from - 1) ≡ to - from = omega (arith, a) in
        let start : from + suc (to - from - 1) ≡ to = omega (arith, a) in
        let behind : from + (to - from) ≡ to = omega (arith, a) in
        let count : size - from ≡ (to - from) + (size - to) = omega (arith, a, b) in
        let one : filter (begins_gap covered) (places_from from (to - from)) ≡ from ∷ [] =
        ap (λ (m : ℕ). filter (begins_gap covered) (places_from from m)) (sym k)
        ∙ one_begins from (to - from - 1) first (λ p x y. are p x (omega (arith, y, start))) in
        let end : gap_end covered from (size - from) ≡ to =
        ap (λ (m : ℕ). gap_end covered from m) count
        ∙ ends from (to - from) (size - to) (λ p x y. are p x (omega (arith, y, behind)))
        ∙ ap (λ (p : ℕ). gap_end covered p (size - to)) behind
        ∙ ends_here to (size - to) (at why) in
        ap (λ (l : List ℕ). map f l)
        (split_at from to (omega (arith, a)) b ∙ ap (λ (l : List ℕ). l ++ filter (begins_gap covered) (places_from to (size - to))) one)
        ∙ ap (λ (e : ℕ). (from, e) ∷ map f (filter (begins_gap covered) (places_from to (size - to)))) end
      where
        at : (to ≡ size) ⊎ (covered to ≡ true) → (size - to ≡ 0) ⊎ (covered to ≡ true)
        at (inl same) = inl (omega (arith, same))
        at (inr is) = inr is

    pub gaps_past : (from : ℕ) → size ≤ from → gaps_from covered size from ≡ []
    unfolding gaps_from
    gaps_past from far =
        let none : size - from ≡ 0 = omega (arith, far) in
        ap (λ (m : ℕ). map (λ (begin : ℕ). (begin, gap_end covered begin (size - begin))) (filter (begins_gap covered) (places_from from m))) none

    pub gaps_over : gaps_from covered size size ≡ []
    gaps_over = gaps_past size (omega arith)
