-- The openings that are taken are openings of the image.
use Rattle.std.proofs.Common.{◌≡◌, ℕ, zero, suc, ◌+◌, Bool, true, false, List, [], ◌∷◌, filter, refl, sym, ap, subst, arith, if◌then◌else◌, Some}
use Rattle.std.specs.List.{AllByRecursion}
use Rattle.jnode.specs.declared.order.Endian.{Endian}
use Rattle.jscan.specs.Blank.{is_blank}
use Rattle.jscan.specs.Image.{block_of}
use Rattle.jrests.specs.Begun.{rest_of}
use Rattle.jrests.specs.Openings.{AreOpeningsOf, AreUpwards, IsOpeningOf}
use Rattle.jrests.specs.declared.opening.Opening.{Opening}
use Rattle.jrests.proofs.OpeningLemmas.{openings_are_openings}
use Rattle.jrests.proofs.RunLemmas.{run, below_run}
use Rattle.jrow.specs.Row.{blank_blocks}
use Rattle.jopenings.specs.After.{fronts}
use Rattle.jdevice.specs.Taken.{openings_taken}

lower : (lo hi : ℕ) (row : List Opening) → AreUpwards (suc lo) hi row → AreUpwards lo hi row
lower lo hi [] up = tt
lower lo hi (o ∷ row) up = (omega (arith, up.0), up.1, up.2)

-- the front of a block of which this is so
abbrev pub IsFrontWhere : (ℕ → Bool) → Opening → Type 0
IsFrontWhere P o = (P o.block ≡ true) × (o.place ≡ 0)

-- fronts of blocks from one on go upwards
fronts_up : (P : ℕ → Bool) (lo n hi : ℕ) → lo + n ≡ hi → AreUpwards lo hi (fronts (filter P (run lo n))) × AllByRecursion (IsFrontWhere P) (fronts (filter P (run lo n)))
fronts_up P lo zero hi sum = (tt, tt)
fronts_up P lo (suc n) hi sum = by (P lo) refl (fronts_up P (suc lo) n hi (omega (arith, sum)))
  where
    by : (b : Bool) → P lo ≡ b → AreUpwards (suc lo) hi (fronts (filter P (run (suc lo) n))) × AllByRecursion (IsFrontWhere P) (fronts (filter P (run (suc lo) n)))
        → AreUpwards lo hi (fronts (if b then lo ∷ filter P (run (suc lo) n) else filter P (run (suc lo) n)))
        × AllByRecursion (IsFrontWhere P) (fronts (if b then lo ∷ filter P (run (suc lo) n) else filter P (run (suc lo) n)))
    by false is later = (lower lo hi (fronts (filter P (run (suc lo) n))) later.0, later.1)
    by true is later =
        let next : suc lo ≡ lo + 1 = omega arith in
        ((omega arith, omega (arith, sum), subst (λ (m : ℕ). AreUpwards m hi (fronts (filter P (run (suc lo) n)))) next later.0), ((is, refl), later.1))

front_opens : (e : Endian) (size : ℕ) (image : List ℕ) (o : Opening) → IsFrontWhere (λ b. is_blank e size (block_of size image b)) o → IsOpeningOf e size image o
front_opens e size image o is =
    subst (λ (b : Bool). (if b then Some 0 else rest_of e size (block_of size image o.block)) ≡ Some o.place) (sym is.0) (ap Some (sym is.1))

fronts_open : (e : Endian) (size : ℕ) (image : List ℕ) (row : List Opening) → AllByRecursion (IsFrontWhere (λ b. is_blank e size (block_of size image b))) row → AllByRecursion (IsOpeningOf e size image) row
fronts_open e size image [] are = tt
fronts_open e size image (o ∷ row) are = (front_opens e size image o are.0, fronts_open e size image row are.1)

pub blanks_are_openings : (e : Endian) (size blocks : ℕ) (image : List ℕ) → AreOpeningsOf e size blocks image (fronts (blank_blocks e size blocks image))
blanks_are_openings e size blocks image =
    let blank : ℕ → Bool = λ b. is_blank e size (block_of size image b) in
    let all = fronts_up blank 0 blocks blocks (omega arith) in
    let is : fronts (blank_blocks e size blocks image) ≡ fronts (filter blank (run 0 blocks)) = ap (λ (l : List ℕ). fronts (filter blank l)) (below_run blocks) in
    subst (AreOpeningsOf e size blocks image) (sym is) (record { upwards = all.0; each = fronts_open e size image _ all.1 })

pub taken_are_openings : (tail : Bool) (e : Endian) (size blocks : ℕ) (image : List ℕ) → AreOpeningsOf e size blocks image (openings_taken tail e size blocks image)
taken_are_openings false e size blocks image = blanks_are_openings e size blocks image
taken_are_openings true e size blocks image = (openings_are_openings e size blocks image).0
