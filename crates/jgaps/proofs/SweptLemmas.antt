-- What is found over the range of one more node.
use Rattle.std.proofs.Common.{◌≡◌, ℕ, zero, suc, ◌+◌, ◌-◌, ◌<◌, ◌≤◌, Bool, true, false, List, [], ◌∷◌, ◌++◌, map, refl, sym, ap, ◌∙◌, subst, arith, inl, inr, append_assoc, append-nil, length, drop, get_or, length-drop, drop-cons}
use Rattle.std.specs.Prelude.{◌&&◌, ◌||◌, nat_lt, nat_le, min, max}
use Rattle.std.specs.List.{list_any}
use Rattle.std.proofs.lemmas.Bool.Decides.{nat_tests}
use Rattle.std.proofs.lemmas.List.Elements.{All-from_get_or, All-head, All-tail}
use Rattle.std.proofs.lemmas.List.{get_or-drop}
use Rattle.jgaps.specs.Gaps.{gap_of, gaps_below, gaps_from, has_place, is_first}
use Rattle.jgaps.specs.Sweeping.{Begin, BeginFrom, Cover, Swept, begin_of}
use Rattle.jgaps.specs.declared.fields.Stretch.{Stretch}
use Rattle.jgaps.specs.declared.gap.Gap.{Gap}
use Rattle.jgaps.proofs.GapLemmas.{AllAre, gaps_found, gaps_over, gaps_skip}

or_later : (a b : Bool) → b ≡ true → (a || b) ≡ true
or_later true b is = refl
or_later false b is = is

or_first : (a b : Bool) → a ≡ true → (a || b) ≡ true
or_first a b is = ap (λ (x : Bool). x || b) is

in_range : (f t p : ℕ) → f ≤ p → p < t → (nat_le f p && nat_lt p t) ≡ true
in_range f t p a b = grind (arith, nat_tests)

behind_range : (f t size p : ℕ) → min t size ≤ p → p < size → (nat_le f p && nat_lt p t) ≡ false
behind_range f t size p a b = grind (arith, nat_tests)

before_range : (f t p : ℕ) → p < f → (nat_le f p && nat_lt p t) ≡ false
before_range f t p a = grind (arith, nat_tests)

no_range : (f t size p : ℕ) → min t size ≤ f → p < size → (nat_le f p && nat_lt p t) ≡ false
no_range f t size p a b = grind (arith, nat_tests)

none_before : (first : Stretch) (p : ℕ) (left : List Stretch) → p < first.from → p < 4294967295 → BeginFrom first left → list_any (has_place p) left ≡ false
none_before first p [] less small begin = refl
none_before first p (s ∷ left) less small begin =
    let from : min first.from 4294967295 ≤ s.from = All-head (λ (x : Stretch). begin_of first ≤ x.from) s left begin in
    ap (λ (b : Bool). b || list_any (has_place p) left) (before_range s.from s.to p (omega (arith, less, small, from)))
    ∙ none_before first p left less small (All-tail (λ (x : Stretch). begin_of first ≤ x.from) s left begin)

-- ---- the next range

pub left_next : (ranges : List Stretch) (i : ℕ) (d : Stretch) → i < length ranges → drop i ranges ≡ get_or ranges i d ∷ drop (i + 1) ranges
left_next ranges i d less =
    let same : suc i ≡ i + 1 = omega arith in
    drop-cons ranges i d less ∙ ap (λ (n : ℕ). get_or ranges i d ∷ drop n ranges) same

pub begin_next : (ranges : List Stretch) (i : ℕ) (d : Stretch) → i < length ranges → Begin ranges → BeginFrom (get_or ranges i d) (drop (i + 1) ranges)
begin_next ranges i d less begin =
    All-from_get_or (λ (s : Stretch). begin_of (get_or ranges i d) ≤ s.from) (drop (i + 1) ranges) d
    (λ k within.
    let long : length (drop (i + 1) ranges) ≡ length ranges - (i + 1) = length-drop (i + 1) ranges in
    let up : begin_of (get_or ranges i d) ≤ begin_of (get_or ranges (i + 1 + k) d) = begin i (i + 1 + k) d (omega arith) (omega (arith, within, long)) in
    subst (λ (s : Stretch). begin_of (get_or ranges i d) ≤ s.from) (sym (get_or-drop (i + 1) ranges k d)) (omega (arith, up)))

-- ---- what is found

first_behind : (covered : ℕ → Bool) (at : ℕ) → 0 < at → covered (at - 1) ≡ true → is_first covered at ≡ true
first_behind covered zero some is = absurd (omega (arith, some))
first_behind covered (suc before) some is =
    let same : suc before - 1 ≡ before = omega arith in
    subst (λ (p : ℕ). covered p ≡ true) same is

pub swept_start : (ino size : ℕ) (covered : ℕ → Bool) (left : List Stretch) (old : List Gap) → Cover covered size left
    → Swept ino size covered (old ++ map (gap_of ino) (gaps_below covered size)) left old 0
swept_start ino size covered left old cover = record {
  within = omega arith;
  first = refl;
  covers = λ p less has. cover p less ∙ has;
  rest = λ p from less. cover p less;
  so_far = refl;
}

module _ (ino size : ℕ) (covered : ℕ → Bool) (all : List Gap) where
  pub swept_empty : (s : Stretch) (left : List Stretch) (found : List Gap) (reach : ℕ) → min s.to size ≤ s.from
      → Swept ino size covered all (s ∷ left) found reach → Swept ino size covered all left found reach
  swept_empty s left found reach none w = record {
    within = w.within;
    first = w.first;
    covers = λ p less has. w.covers p less (or_later (has_place p s) (list_any (has_place p) left) has);
    rest = λ p from less. w.rest p from less ∙ ap (λ (b : Bool). b || list_any (has_place p) left) (no_range s.from s.to size p none less);
    so_far = w.so_far;
  }

  module _ (s : Stretch) (left : List Stretch) (found : List Gap) (reach to : ℕ) (is : to ≡ min s.to size) (some : s.from < to) (w : Swept ino size covered all (s ∷ left) found reach) where
    had : AllAre true covered s.from to
    had p a b = w.covers p (omega (arith, b, is)) (or_first (has_place p s) (list_any (has_place p) left) (in_range s.from s.to p a (omega (arith, b, is))))

    behind : (next : ℕ) → to ≤ next → reach ≤ next → (p : ℕ) → next ≤ p → p < size → covered p ≡ list_any (has_place p) left
    behind next a b p from less =
        w.rest p (omega (arith, b, from)) less
        ∙ ap (λ (x : Bool). x || list_any (has_place p) left) (behind_range s.from s.to size p (omega (arith, a, from, is)) less)

    last : is_first covered to ≡ true
    last = first_behind covered to (omega (arith, some)) (had (to - 1) (omega (arith, some)) (omega (arith, some)))

    pub swept_on : (next : ℕ) (after : List Gap) → next ≡ max reach to → s.from ≤ reach → after ≡ found → Swept ino size covered all left after next
    swept_on next after far from is_after = record {
      within = let within = w.within in omega (arith, within, is, far);
      first = by_order (nat_lt reach to) refl;
      covers = λ p less has. w.covers p less (or_later (has_place p s) (list_any (has_place p) left) has);
      rest = behind next (omega (arith, far)) (omega (arith, far));
      so_far = w.so_far ∙ ap (λ (l : List (ℕ × ℕ)). found ++ map (gap_of ino) l)
          (gaps_skip covered size reach next (omega (arith, far)) (let within = w.within in omega (arith, within, is, far)) (λ p a b. had p (omega (arith, a, from)) (omega (arith, a, b, far))))
          ∙ ap (λ (l : List Gap). l ++ map (gap_of ino) (gaps_from covered size next)) (sym is_after);
    }
      where
        by_order : (b : Bool) → nat_lt reach to ≡ b → is_first covered next ≡ true
        by_order true e =
            let same : to ≡ next = grind (arith, nat_tests) in
            subst (λ (p : ℕ). is_first covered p ≡ true) same last
        by_order false e =
            let same : reach ≡ next = grind (arith, nat_tests) in
            subst (λ (p : ℕ). is_first covered p ≡ true) same w.first

    bare : size ≤ 4294967295 → BeginFrom s left → AllAre false covered reach s.from
    bare small begin p a b =
        w.rest p a (omega (arith, b, some, is))
        ∙ ap (λ (x : Bool). x || list_any (has_place p) left) (before_range s.from s.to p b)
        ∙ none_before s p left b (omega (arith, small, b, some, is)) begin

    pub swept_gap : (next : ℕ) (after : List Gap) → next ≡ max reach to → reach < s.from → size ≤ 4294967295 → BeginFrom s left
        → after ≡ found ++ gap_of ino (reach, s.from) ∷ [] → Swept ino size covered all left after next
    swept_gap next after far from small begin is_after =
        let same : to ≡ next = omega (arith, far, from, some) in
        let at_from : covered s.from ≡ true = had s.from (omega arith) some in
        let one : gaps_from covered size reach ≡ (reach, s.from) ∷ gaps_from covered size s.from =
        gaps_found covered size reach s.from from (omega (arith, some, is)) w.first (bare small begin) (inr at_from) in
        let on : gaps_from covered size s.from ≡ gaps_from covered size next =
        gaps_skip covered size s.from to (omega (arith, some)) (omega (arith, is)) had ∙ ap (λ (p : ℕ). gaps_from covered size p) same in
        record {
          within = omega (arith, is, same);
          first = subst (λ (p : ℕ). is_first covered p ≡ true) same last;
          covers = λ p less has. w.covers p less (or_later (has_place p s) (list_any (has_place p) left) has);
          rest = behind next (omega (arith, same)) (omega (arith, far));
          so_far = w.so_far
              ∙ ap (λ (l : List (ℕ × ℕ)). found ++ map (gap_of ino) l) (one ∙ ap (λ (l : List (ℕ × ℕ)). (reach, s.from) ∷ l) on)
              ∙ sym (append_assoc found (gap_of ino (reach, s.from) ∷ []) (map (gap_of ino) (gaps_from covered size next)))
              ∙ ap (λ (l : List Gap). l ++ map (gap_of ino) (gaps_from covered size next)) (sym is_after);
        }

  pub swept_done : (found : List Gap) (reach : ℕ) → size ≤ reach → Swept ino size covered all [] found reach → all ≡ found
  swept_done found reach far w =
      let within = w.within in
      let same : reach ≡ size = omega (arith, far, within) in
      w.so_far ∙ ap (λ (p : ℕ). found ++ map (gap_of ino) (gaps_from covered size p)) same
      ∙ ap (λ (l : List (ℕ × ℕ)). found ++ map (gap_of ino) l) (gaps_over covered size) ∙ append-nil found

  pub swept_last : (found : List Gap) (reach : ℕ) → reach < size → Swept ino size covered all [] found reach → all ≡ found ++ gap_of ino (reach, size) ∷ []
  swept_last found reach less w =
      w.so_far
      ∙ ap (λ (l : List (ℕ × ℕ)). found ++ map (gap_of ino) l)
      (gaps_found covered size reach size less (omega arith) w.first (λ p a b. w.rest p a b) (inl refl)
      ∙ ap (λ (l : List (ℕ × ℕ)). (reach, size) ∷ l) (gaps_over covered size))
