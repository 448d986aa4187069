-- The openings of an image.
use Rattle.std.proofs.Common.{◌≡◌, ℕ, zero, suc, ◌+◌, List, [], ◌∷◌, ◌++◌, filter_map, refl, sym, ap, subst, ◌∙◌, arith, inl, inr, Option, None, Some}
use Rattle.std.specs.List.{AllByRecursion, cons_option}
use Rattle.std.proofs.lemmas.Bool.{cases_Bool}
use Rattle.std.proofs.lemmas.List.Elements.{filter_map-append}
use Rattle.flashbase.specs.Lists.{below}
use Rattle.jnode.specs.declared.order.Endian.{Endian}
use Rattle.jscan.specs.Blank.{is_blank}
use Rattle.jscan.specs.Image.{block_of}
use Rattle.jrests.specs.Begun.{rest_of}
use Rattle.jrests.specs.BegunLaws.{OpeningsAreOpenings}
use Rattle.jrests.specs.Openings.{opening_in, opening_at, openings, rests, AreUpwards, IsOpeningOf, AreOpeningsOf}
use Rattle.jrests.specs.declared.opening.Opening.{Opening}
use Rattle.jrests.proofs.RunLemmas.{run, below_run}

-- ---- one block more

pub next_block : (f : ℕ → Option ℕ) (n : ℕ)
    → filter_map (λ b. opening_at b (f b)) (below (n + 1)) ≡ filter_map (λ b. opening_at b (f b)) (below n) ++ cons_option (opening_at n (f n)) []
next_block f n =
    let next : n + 1 ≡ suc n = omega arith in
    ap (λ (m : ℕ). filter_map (λ b. opening_at b (f b)) (below m)) next
    ∙ filter_map-append (λ b. opening_at b (f b)) (below n) (n ∷ [])

-- ---- all of them

lower : (lo hi : ℕ) (row : List Opening) → AreUpwards (suc lo) hi row → AreUpwards lo hi row
lower lo hi [] up = tt
lower lo hi (o ∷ row) up = (omega (arith, up.0), up.1, up.2)

-- the blocks from one on that have one
up_of : (f : ℕ → Option ℕ) (lo n hi : ℕ) → lo + n ≡ hi
    → AreUpwards lo hi (filter_map (λ b. opening_at b (f b)) (run lo n)) × AllByRecursion (λ (o : Opening). f o.block ≡ Some o.place) (filter_map (λ b. opening_at b (f b)) (run lo n))
up_of f lo zero hi sum = (tt, tt)
up_of f lo (suc n) hi sum = by (f lo) refl (up_of f (suc lo) n hi (omega (arith, sum)))
  where
    by : (o : Option ℕ) → f lo ≡ o
        → AreUpwards (suc lo) hi (filter_map (λ b. opening_at b (f b)) (run (suc lo) n)) × AllByRecursion (λ (o : Opening). f o.block ≡ Some o.place) (filter_map (λ b. opening_at b (f b)) (run (suc lo) n))
        → AreUpwards lo hi (cons_option (opening_at lo o) (filter_map (λ b. opening_at b (f b)) (run (suc lo) n)))
        × AllByRecursion (λ (o : Opening). f o.block ≡ Some o.place) (cons_option (opening_at lo o) (filter_map (λ b. opening_at b (f b)) (run (suc lo) n)))
    by None is later = (lower lo hi (filter_map (λ b. opening_at b (f b)) (run (suc lo) n)) later.0, later.1)
    by (Some p) is later =
        let next : suc lo ≡ lo + 1 = omega arith in
        ((omega arith, omega (arith, sum), subst (λ (m : ℕ). AreUpwards m hi (filter_map (λ b. opening_at b (f b)) (run (suc lo) n))) next later.0), (is, later.1))

rest_opens : (e : Endian) (size : ℕ) (block : List ℕ) (place : ℕ) → rest_of e size block ≡ Some place → opening_in e size block ≡ Some place
rest_opens e size block place is = elim (cases_Bool (is_blank e size block)) [
  | inl blank ↦ let none : None ≡ Some place = rw blank at is in absurd (cc)
  | inr begun ↦ rw begun (let there = is in rw begun at there)
]

rests_open : (e : Endian) (size : ℕ) (image : List ℕ) (row : List Opening) → AllByRecursion (λ (o : Opening). rest_of e size (block_of size image o.block) ≡ Some o.place) row
    → AllByRecursion (IsOpeningOf e size image) row
rests_open e size image [] are = tt
rests_open e size image (o ∷ row) are = (rest_opens e size (block_of size image o.block) o.place are.0, rests_open e size image row are.1)

pub openings_are_openings : OpeningsAreOpenings
openings_are_openings e size blocks image =
    let all = up_of (λ b. opening_in e size (block_of size image b)) 0 blocks blocks (omega arith) in
    let some = up_of (λ b. rest_of e size (block_of size image b)) 0 blocks blocks (omega arith) in
    let is : openings e size blocks image ≡ filter_map (λ b. opening_at b (opening_in e size (block_of size image b))) (run 0 blocks) =
    ap (filter_map (λ b. opening_at b (opening_in e size (block_of size image b)))) (below_run blocks) in
    let are : rests e size blocks image ≡ filter_map (λ b. opening_at b (rest_of e size (block_of size image b))) (run 0 blocks) =
    ap (filter_map (λ b. opening_at b (rest_of e size (block_of size image b)))) (below_run blocks) in (
      subst (AreOpeningsOf e size blocks image) (sym is) (record { upwards = all.0; each = all.1 }),
      subst (AreOpeningsOf e size blocks image) (sym are) (record { upwards = some.0; each = rests_open e size image _ some.1 }),
    )
