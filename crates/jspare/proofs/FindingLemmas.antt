-- The best layout of those looked at.
use Rattle.std.proofs.Common.{◌≡◌, ⊎_elim, ◌<◌, ◌≤◌, ℕ, List, [], ◌∷◌, ◌++◌, Contains, Option, Some, None, subst, arith}
use Rattle.std.proofs.lemmas.List.Elements.{Contains-append_left, Contains-push, Contains-push_cases}
use Rattle.jspare.specs.Finding.{IsSpareOf, sound_nodes}
use Rattle.jspare.specs.Spare.{without_spare}
use Rattle.jspare.specs.declared.layout.PageLayout.{PageLayout}

-- no layout of these gives more nodes
abbrev pub AtMost : List PageLayout → List ℕ → ℕ → Type 0
AtMost layouts dump most = (l : PageLayout) → Contains layouts l → sound_nodes (without_spare l dump) ≤ most

abbrev pub IsFoundIn : List PageLayout → List ℕ → Option PageLayout → ℕ → Type 0
IsFoundIn layouts dump None most = (most ≡ sound_nodes dump) × AtMost layouts dump most
IsFoundIn layouts dump (Some best) most = Contains layouts best
    × (most ≡ sound_nodes (without_spare best dump)) × (sound_nodes dump < most) × AtMost layouts dump most

-- one more layout
pub one_more : (layouts : List PageLayout) (dump : List ℕ) (most : ℕ) (l : PageLayout)
    → AtMost layouts dump most → sound_nodes (without_spare l dump) ≤ most → AtMost (layouts ++ l ∷ []) dump most
one_more layouts dump most l all less o there =
    ⊎_elim (λ before. all o before)
    (λ last. subst (λ k. sound_nodes (without_spare k dump) ≤ most) last less)
    (Contains-push_cases layouts l o there)

-- one that gives no more nodes is passed over
pub passed_over : (layouts : List PageLayout) (dump : List ℕ) (best : Option PageLayout) (most : ℕ) (l : PageLayout)
    → IsFoundIn layouts dump best most → sound_nodes (without_spare l dump) ≤ most
    → IsFoundIn (layouts ++ l ∷ []) dump best most
passed_over layouts dump None most l (count, all) less = (count, one_more layouts dump most l all less)
passed_over layouts dump (Some best) most l (listed, count, more, all) less =
    (Contains-append_left layouts (l ∷ []) best listed, count, more, one_more layouts dump most l all less)

-- one that gives more is the best so far
at_most_more : (layouts : List PageLayout) (dump : List ℕ) (most count : ℕ) → AtMost layouts dump most
    → most < count → AtMost layouts dump count
at_most_more layouts dump most count all more o there = let less = all o there in omega (arith, less, more)

least_so_far : (layouts : List PageLayout) (dump : List ℕ) (best : Option PageLayout) (most : ℕ)
    → IsFoundIn layouts dump best most → (sound_nodes dump ≤ most) × AtMost layouts dump most
least_so_far layouts dump None most (count, all) = (omega (arith, count), all)
least_so_far layouts dump (Some best) most (listed, count, more, all) = (omega (arith, more), all)

pub taken : (layouts : List PageLayout) (dump : List ℕ) (best : Option PageLayout) (most : ℕ) (l : PageLayout)
    (count : ℕ) → IsFoundIn layouts dump best most → count ≡ sound_nodes (without_spare l dump) → most < count
    → IsFoundIn (layouts ++ l ∷ []) dump (Some l) count
taken layouts dump best most l count found is more =
    let so_far = least_so_far layouts dump best most found in
    let all = at_most_more layouts dump most count so_far.1 more in (
      Contains-push layouts l,
      is,
      omega (arith, so_far.0, more),
      one_more layouts dump count l all (omega (arith, is)),
    )

-- what was found in all of them
pub found : (layouts : List PageLayout) (dump : List ℕ) (best : Option PageLayout) (most : ℕ)
    → IsFoundIn layouts dump best most → IsSpareOf layouts dump best
found layouts dump None most (count, all) = λ l there. subst (λ k. sound_nodes (without_spare l dump) ≤ k) count (all l there)
found layouts dump (Some best) most (listed, count, more, all) = record {
  listed = listed;
  more = subst (λ k. sound_nodes dump < k) count more;
  most = λ l there. subst (λ k. sound_nodes (without_spare l dump) ≤ k) count (all l there);
}
