-- Some of an image's openings: those that begin with their blocks.
use Rattle.std.proofs.Common.{◌≡◌, ℕ, ◌+◌, ◌≤◌, ◌==◌, Bool, true, false, cond, List, [], ◌∷◌, filter, sym, subst, ◌∙◌, ap, arith}
use Rattle.std.specs.List.{AllByRecursion}
use Rattle.jnode.specs.declared.order.Endian.{Endian}
use Rattle.jrests.specs.Openings.{openings, rests, AreUpwards, IsOpeningOf, AreOpeningsOf}
use Rattle.jrests.specs.declared.opening.Opening.{Opening}
use Rattle.jrests.proofs.OpeningLemmas.{openings_are_openings}

lower : (lo mid hi : ℕ) (row : List Opening) → lo ≤ mid → AreUpwards mid hi row → AreUpwards lo hi row
lower lo mid hi [] le up = tt
lower lo mid hi (o ∷ row) le up = (omega (arith, le, up.0), up.1, up.2)

up_filtered : (p : Opening → Bool) (lo hi : ℕ) (row : List Opening) → AreUpwards lo hi row → AreUpwards lo hi (filter p row)
up_filtered p lo hi [] up = tt
up_filtered p lo hi (o ∷ row) up = by (p o) (up_filtered p (o.block + 1) hi row up.2)
  where
    by : (b : Bool) → AreUpwards (o.block + 1) hi (filter p row) → AreUpwards lo hi (cond b (o ∷ filter p row) (filter p row))
    by true later = (up.0, up.1, later)
    by false later = lower lo (o.block + 1) hi (filter p row) (omega (arith, up.0)) later

each_filtered : (P : Opening → Type 0) (p : Opening → Bool) (row : List Opening) → AllByRecursion P row → AllByRecursion P (filter p row)
each_filtered P p [] all = tt
each_filtered P p (o ∷ row) all = by (p o) (each_filtered P p row all.1)
  where
    by : (b : Bool) → AllByRecursion P (filter p row) → AllByRecursion P (cond b (o ∷ filter p row) (filter p row))
    by true later = (all.0, later)
    by false later = later

pub all_open : (e : Endian) (size blocks : ℕ) (image : List ℕ) (row : List Opening) → row ≡ openings e size blocks image → AreOpeningsOf e size blocks image row
all_open e size blocks image row is = subst (AreOpeningsOf e size blocks image) (sym is) (openings_are_openings e size blocks image).0

pub rests_open : (e : Endian) (size blocks : ℕ) (image : List ℕ) (row : List Opening) → row ≡ rests e size blocks image → AreOpeningsOf e size blocks image row
rests_open e size blocks image row is = subst (AreOpeningsOf e size blocks image) (sym is) (openings_are_openings e size blocks image).1

pub fronts_open : (e : Endian) (size blocks : ℕ) (image : List ℕ) (all row : List Opening) → all ≡ openings e size blocks image → row ≡ filter (λ (o : Opening). o.place == 0) all
    → AreOpeningsOf e size blocks image row
fronts_open e size blocks image all row is some =
    let open_all = all_open e size blocks image all is in
    subst (AreOpeningsOf e size blocks image) (sym some) (record {
      upwards = up_filtered (λ (o : Opening). o.place == 0) 0 blocks all open_all.upwards;
      each = each_filtered (IsOpeningOf e size image) (λ (o : Opening). o.place == 0) all open_all.each;
    })
