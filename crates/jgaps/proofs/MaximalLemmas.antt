-- Gaps are maximal, and there is none where all places are covered.
use Rattle.std.proofs.Common.{◌≡◌, ℕ, zero, suc, ◌+◌, ◌-◌, ◌<◌, ◌≤◌, Bool, true, false, cond, List, [], ◌∷◌, map, refl, sym, ap, ◌∙◌, subst, arith, ◌⊎◌, inl, inr, ⊎_elim, Contains}
use Rattle.std.specs.Prelude.{All, AllPairs}
use Rattle.std.proofs.lemmas.Bool.{true≢false}
use Rattle.std.proofs.lemmas.List.Elements.{All-cons, All-nil}
use Rattle.std.proofs.lemmas.List.Kept.{AllPairs-cons}
use Rattle.flashbase.proofs.MemberLemmas.{Contains-cases, Contains-here, Contains-none, Contains-there}
use Rattle.jgaps.specs.Gaps.{gap_end, gap_of, gaps_below, gaps_from, gaps_of_size, is_covered, is_first}
use Rattle.jgaps.specs.Laws.{GapsAreMaximal, IsInGap, NoGapWhereCovered}
use Rattle.jgaps.proofs.GapLemmas.{AllAre, gaps_found, gaps_over, gaps_past, gaps_skip}

module _ (covered : ℕ → Bool) where
  -- where a gap ends
  record EndsGap (from count end : ℕ) : Type 0 where
    later : from ≤ end
    within : end ≤ from + count
    bare : AllAre false covered from end
    stops : (end ≡ from + count) ⊎ (covered end ≡ true)

  ends_gap : (from count : ℕ) → EndsGap from count (gap_end covered from count)
  ends_gap from zero = record { later = omega arith; within = omega arith; bare = λ p a b. absurd (omega (arith, a, b)); stops = inl (omega arith) }
  ends_gap from (suc count) = by (covered from) refl (ends_gap (suc from) count)
    where
      order : (p : ℕ) → from ≤ p → (p ≡ from) ⊎ (suc from ≤ p)
      order p a = grind arith

      at : (p end : ℕ) → covered from ≡ false → AllAre false covered (suc from) end → from ≤ p → p < end → covered p ≡ false
      at p end here bare a b =
          ⊎_elim (λ (same : p ≡ from). subst (λ (q : ℕ). covered q ≡ false) (sym same) here) (λ (more : suc from ≤ p). bare p more b) (order p a)

      stop : (end : ℕ) → (end ≡ suc from + count) ⊎ (covered end ≡ true) → (end ≡ from + suc count) ⊎ (covered end ≡ true)
      stop end (inl same) = inl (omega (arith, same))
      stop end (inr is) = inr is

      by : (b : Bool) → covered from ≡ b → EndsGap (suc from) count (gap_end covered (suc from) count) → EndsGap from (suc count) (cond (covered from) from (gap_end covered (suc from) count))
      by true is e = subst (λ (b : Bool). EndsGap from (suc count) (cond b from (gap_end covered (suc from) count))) (sym is)
          (record { later = omega arith; within = omega arith; bare = λ p a b. absurd (omega (arith, a, b)); stops = inr is })
      by false is e =
          let a : suc from ≤ gap_end covered (suc from) count = e.later in
          let b : gap_end covered (suc from) count ≤ suc from + count = e.within in
          subst (λ (b : Bool). EndsGap from (suc count) (cond b from (gap_end covered (suc from) count))) (sym is)
          (record {
            later = omega (arith, a);
            within = omega (arith, b);
            bare = λ p x y. at p (gap_end covered (suc from) count) is e.bare x y;
            stops = stop (gap_end covered (suc from) count) e.stops;
          })

  module _ (size : ℕ) where
    -- of the gaps that begin from a place on
    record From (from : ℕ) (gaps : List (ℕ × ℕ)) : Type 0 where
      inside : (p : ℕ) → from ≤ p → p < size → covered p ≡ false → IsInGap gaps p
      only : (p : ℕ) → IsInGap gaps p → (p < size) × (covered p ≡ false)
      behind : All (λ g. from ≤ g.0) gaps
      apart : AllPairs (λ a b. a.1 < b.0) gaps

    none : (from : ℕ) → size ≤ from → From from []
    none from far = record {
      inside = λ p a b is. absurd (omega (arith, far, a, b));
      only = λ p in_gap. absurd (Contains-none in_gap.0 in_gap.1);
      behind = All-nil (λ (g : ℕ × ℕ). from ≤ g.0);
      apart = λ i j d a b. absurd (omega (arith, b));
    }

    -- a covered place more in front
    before : (from : ℕ) (gaps : List (ℕ × ℕ)) → covered from ≡ true → From (suc from) gaps → From from gaps
    before from gaps is f = record {
      inside = λ p a b no_node. ⊎_elim (λ (same : p ≡ from). absurd (true≢false (sym is ∙ ap covered (sym same) ∙ no_node))) (λ (more : suc from ≤ p). f.inside p more b no_node) (order p a);
      only = f.only;
      behind = λ k d less. let at : suc from ≤ _ = f.behind k d less in omega (arith, at);
      apart = f.apart;
    }
      where
        order : (p : ℕ) → from ≤ p → (p ≡ from) ⊎ (suc from ≤ p)
        order p a = grind arith

    -- a gap more in front, and a covered place behind it, or the end
    with_gap : (from to : ℕ) (gaps : List (ℕ × ℕ)) → from < to → to ≤ size → AllAre false covered from to → From to gaps → All (λ g. to < g.0) gaps → From from ((from, to) ∷ gaps)
    with_gap from to gaps some within bare f far = record {
      inside = λ p a b is. ⊎_elim (λ (less : p < to). ((from, to), Contains-here (from, to) gaps, a, less))
          (λ (more : to ≤ p). let it = f.inside p more b is in (it.0, Contains-there (from, to) gaps it.0 it.1, it.2, it.3)) (order p);
      only = λ p it. ⊎_elim (λ (same : (from, to) ≡ it.0). here p it.0 same it.2 it.3) (λ (there : Contains gaps it.0). f.only p (it.0, there, it.2, it.3)) (Contains-cases (from, to) gaps it.0 it.1);
      behind = All-cons (λ (g : ℕ × ℕ). from ≤ g.0) (from, to) gaps (omega arith) (λ k d less. let at : to ≤ _ = f.behind k d less in omega (arith, at, some));
      apart = AllPairs-cons (λ (a b : ℕ × ℕ). a.1 < b.0) (from, to) gaps far f.apart;
    }
      where
        order : (p : ℕ) → (p < to) ⊎ (to ≤ p)
        order p = grind arith

        here : (p : ℕ) (g : ℕ × ℕ) → (from, to) ≡ g → g.0 ≤ p → p < g.1 → (p < size) × (covered p ≡ false)
        here p g same a b =
            let x : from ≤ p = subst (λ (q : ℕ). q ≤ p) (sym (ap (λ (h : ℕ × ℕ). h.0) same)) a in
            let y : p < to = subst (λ (q : ℕ). p < q) (sym (ap (λ (h : ℕ × ℕ). h.1) same)) b in
            (omega (arith, y, within), bare p x y)

    -- a gap, and what comes behind it
    gap_then : (from to : ℕ) → from < size → is_first covered from ≡ true → covered from ≡ false → from ≤ to → to ≤ size → AllAre false covered from to → (to ≡ size) ⊎ (covered to ≡ true)
        → (is_first covered (suc to) ≡ true → From (suc to) (gaps_from covered size (suc to))) → From from (gaps_from covered size from)
    gap_then from to less first is later within bare stops next = by stops (order to)
      where
        order : (p : ℕ) → (p < size) ⊎ (size ≤ p)
        order p = grind arith

        move : (to ≡ size) ⊎ (covered to ≡ true) → from < to
        move (inl same) = omega (arith, same, less)
        move (inr there) = ⊎_elim (λ (same : from ≡ to). absurd (true≢false (sym there ∙ ap covered (sym same) ∙ is))) (λ (more : from < to). more) (apart_or from to later)
          where
            apart_or : (a b : ℕ) → a ≤ b → (a ≡ b) ⊎ (a < b)
            apart_or a b c = grind arith

        at_end : size ≤ to → From from (gaps_from covered size from)
        at_end far =
            let same : to ≡ size = omega (arith, far, within) in
            subst (From from)
            (sym (gaps_found covered size from to (move stops) within first bare stops ∙ ap (λ (l : List (ℕ × ℕ)). (from, to) ∷ l) (gaps_past covered size to far)))
            (with_gap from to [] (move stops) within bare (none to far) (All-nil (λ (g : ℕ × ℕ). to < g.0)))

        by : (to ≡ size) ⊎ (covered to ≡ true) → (to < size) ⊎ (size ≤ to) → From from (gaps_from covered size from)
        by s (inr far) = at_end far
        by (inl same) (inl on) = absurd (omega (arith, same, on))
        by (inr there) (inl on) =
            let f = next there in
            subst (From from)
            (sym (gaps_found covered size from to (move stops) within first bare stops
            ∙ ap (λ (l : List (ℕ × ℕ)). (from, to) ∷ l) (gaps_skip covered size to (suc to) (omega arith) (omega (arith, on)) (λ p a b. let at : p ≡ to = omega (arith, a, b) in ap covered at ∙ there))))
            (with_gap from to (gaps_from covered size (suc to)) (move stops) within bare (before to (gaps_from covered size (suc to)) there f) f.behind)

    gaps_are_from : (fuel from : ℕ) → size ≤ from + fuel → is_first covered from ≡ true → From from (gaps_from covered size from)
    gaps_are_from zero from far first =
        subst (From from) (sym (gaps_past covered size from (omega (arith, far)))) (none from (omega (arith, far)))
    gaps_are_from (suc fuel) from far first = by (order from) (covered from) refl (gaps_are_from fuel (suc from) (omega (arith, far)))
        (gaps_are_from fuel (suc (gap_end covered from (size - from))) (let later = (ends_gap from (size - from)).later in omega (arith, far, later)))
      where
        order : (p : ℕ) → (p < size) ⊎ (size ≤ p)
        order p = grind arith

        ends : from < size → (to : ℕ) → (to ≡ from + (size - from)) ⊎ (covered to ≡ true) → (to ≡ size) ⊎ (covered to ≡ true)
        ends less to (inl same) = inl (omega (arith, same, less))
        ends less to (inr there) = inr there

        by : (from < size) ⊎ (size ≤ from) → (b : Bool) → covered from ≡ b → (is_first covered (suc from) ≡ true → From (suc from) (gaps_from covered size (suc from)))
            → (is_first covered (suc (gap_end covered from (size - from))) ≡ true → From (suc (gap_end covered from (size - from))) (gaps_from covered size (suc (gap_end covered from (size - from)))))
            → From from (gaps_from covered size from)
        by (inr past) b is one far_on = subst (From from) (sym (gaps_past covered size from past)) (none from past)
        by (inl less) true is one far_on =
            subst (From from) (sym (gaps_skip covered size from (suc from) (omega arith) (omega (arith, less)) (λ p a b. let at : p ≡ from = omega (arith, a, b) in ap covered at ∙ is)))
            (before from (gaps_from covered size (suc from)) is (one is))
        by (inl less) false is one far_on =
            let e = ends_gap from (size - from) in
            let within : gap_end covered from (size - from) ≤ from + (size - from) = e.within in
            gap_then from (gap_end covered from (size - from)) less first is e.later (omega (arith, within, less)) e.bare (ends less (gap_end covered from (size - from)) e.stops) far_on

    gaps_are : From 0 (gaps_below covered size)
    gaps_are = gaps_are_from size 0 (omega arith) refl

pub gaps_are_maximal : GapsAreMaximal
gaps_are_maximal covered size =
    let f = gaps_are covered size in
    record {
      each = λ p. (f.only p, λ it. f.inside p (omega arith) it.0 it.1);
      apart = f.apart;
    }

pub no_gap_where_covered : NoGapWhereCovered
no_gap_where_covered sound ino size = (each, none_is)
  where
    unmapped : (gaps : List (ℕ × ℕ)) → map (gap_of ino) gaps ≡ [] → gaps ≡ []
    unmapped [] is = refl
    unmapped (g ∷ gaps) is = cc

    each : gaps_of_size sound ino size ≡ [] → (place : ℕ) → place < size → is_covered sound ino place ≡ true
    each is place less = by (is_covered sound ino place) refl
      where
        by : (b : Bool) → is_covered sound ino place ≡ b → is_covered sound ino place ≡ true
        by true e = e
        by false e =
            let it = (gaps_are (is_covered sound ino) size).inside place (omega arith) less e in
            absurd (Contains-none it.0 (subst (λ (l : List (ℕ × ℕ)). Contains l it.0) (unmapped (gaps_below (is_covered sound ino) size) is) it.1))

    none_is : ((place : ℕ) → place < size → is_covered sound ino place ≡ true) → gaps_of_size sound ino size ≡ []
    none_is all =
        ap (map (gap_of ino)) (gaps_skip (is_covered sound ino) size 0 size (omega arith) (omega arith) (λ p a b. all p b) ∙ gaps_over (is_covered sound ino) size)
