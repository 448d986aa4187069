-- From where on forms stand in a row of openings, one form after another.
use Rattle.std.proofs.Common.{◌≡◌, ℕ, suc, ◌+◌, ◌*◌, ◌%◌, ◌<◌, ◌≤◌, List, [], ◌∷◌, ◌++◌, length, refl, sym, ap, ap₂, subst, ◌∙◌, arith, inl, inr}
use Rattle.std.specs.Prelude.{IsTrue, nat_le}
use Rattle.std.specs.List.{AllByRecursion}
use Rattle.std.proofs.lemmas.Bool.{and_parts, cases_Bool}
use Rattle.flashbase.proofs.BytesLemmas.{le_pad4}
use Rattle.jnode.specs.declared.order.Endian.{Endian}
use Rattle.jlog.specs.Laws.{FitsBlock}
use Rattle.jlog.specs.Places.{place_after, end_after}
use Rattle.jlog.proofs.PlaceLemmas.{place_is_least}
use Rattle.jcuts.specs.Standing.{standing_at}
use Rattle.jcuts.specs.declared.standing.Standing.{Standing}
use Rattle.jrow.proofs.RowCodeLemmas.{block_within}
use Rattle.jrests.specs.Openings.{AreUpwards}
use Rattle.jrests.specs.Shares.{shares, fit_in}
use Rattle.jrests.specs.declared.opening.Opening.{Opening}
use Rattle.jopenings.specs.After.{takes, moved_opening, row_after, row_after_all}
use Rattle.jopenings.proofs.AfterLemmas.{room_step, shares_missed, shares_taken}
use Rattle.jupdate.specs.Rows.{IsOpen, reached}
use Rattle.jupdate.proofs.RowLemmas.{fit_reached, goes_to, reached_here, reached_next, row_stays_open}
use Rattle.jhalts.specs.InShares.{row_address, standing_on, standings_in_shares}

-- ---- one form

pub no_standings : (e : Endian) (size : ℕ) (row : List Opening) → standings_in_shares e size (shares size row []) ≡ []
no_standings e size [] = refl
no_standings e size (o ∷ row) = no_standings e size row

-- where the first form stands
abbrev pub first_standing : Endian → ℕ → Opening → List ℕ → Standing
first_standing e size o x = standing_on (o.block * size) (standing_at e (place_after size o.place (length x)) x)

pub standings_next : (e : Endian) (size : ℕ) (row : List Opening) (x : List ℕ) (xs : List (List ℕ)) (o : Opening) (rest : List Opening) → reached size row (length x) ≡ o ∷ rest
    → standings_in_shares e size (shares size row (x ∷ xs)) ≡ first_standing e size o x ∷ standings_in_shares e size (shares size (moved_opening size o x ∷ rest) xs)
standings_next e size [] x xs o rest is = cc
standings_next e size (q ∷ row) x xs o rest is = elim (cases_Bool (takes size q x)) [
  | inl inside ↦
      let at : q ∷ row ≡ o ∷ rest = sym (reached_here size (length x) q row inside) ∙ is in
      let first : q ≡ o = cc in
      let others : row ≡ rest = cc in
      ap (standings_in_shares e size) (shares_taken size q row x xs inside)
      ∙ ap₂ (λ (p : Opening) (r : List Opening). first_standing e size p x ∷ standings_in_shares e size (shares size (moved_opening size p x ∷ r) xs)) first others
  | inr outside ↦
      ap (standings_in_shares e size) (shares_missed size q row x xs outside)
      ∙ standings_next e size row x xs o rest (sym (reached_next size (length x) q row outside) ∙ is)
]

-- the opening that takes the first of forms that fit, and the others fit what is then left
pub record FirstForm (size : ℕ) (row : List Opening) (x : List ℕ) (xs : List (List ℕ)) : Type 0 where
  pub opening : Opening
  pub rest : List Opening
  pub is : reached size row (length x) ≡ opening ∷ rest
  pub after : row_after size row x ≡ moved_opening size opening x ∷ rest
  pub later : IsTrue (fit_in size (moved_opening size opening x ∷ rest) xs)

pub first_form : (e : Endian) (size : ℕ) (row : List Opening) (x : List ℕ) (xs : List (List ℕ)) → IsTrue (fit_in size row (x ∷ xs)) → FirstForm size row x xs
first_form e size row x xs fits =
    let both = and_parts (fit_in size row (x ∷ [])) (fit_in size (row_after size row x) xs) (sym (room_step size row x xs) ∙ fits) in
    let at = fit_reached size row x both.0 in
    let goes = goes_to e size row x at.opening at.rest at.is in
    record {
      opening = at.opening;
      rest = at.rest;
      is = at.is;
      after = goes.after;
      later = subst (λ (r : List Opening). IsTrue (fit_in size r xs)) goes.after both.1;
    }

-- ---- several

pub standings_many : (e : Endian) (size : ℕ) (row : List Opening) (forms : List (List ℕ)) → IsTrue (fit_in size row forms) → length (standings_in_shares e size (shares size row forms)) ≡ length forms
standings_many e size row [] fits = ap length (no_standings e size row)
standings_many e size row (x ∷ xs) fits =
    let it = first_form e size row x xs fits in
    ap length (standings_next e size row x xs it.opening it.rest it.is) ∙ ap suc (standings_many e size (moved_opening size it.opening x ∷ it.rest) xs it.later)

pub standings_go_on : (e : Endian) (size : ℕ) (row : List Opening) (forms more : List (List ℕ)) → IsTrue (fit_in size row forms)
    → standings_in_shares e size (shares size row (forms ++ more)) ≡ standings_in_shares e size (shares size row forms) ++ standings_in_shares e size (shares size (row_after_all size row forms) more)
standings_go_on e size row [] more fits = sym (ap (λ (l : List Standing). l ++ standings_in_shares e size (shares size row more)) (no_standings e size row))
standings_go_on e size row (x ∷ xs) more fits =
    let it = first_form e size row x xs fits in
    let next : List Opening = moved_opening size it.opening x ∷ it.rest in
    let one : Standing = first_standing e size it.opening x in
    standings_next e size row x (xs ++ more) it.opening it.rest it.is
    ∙ (ap (λ (l : List Standing). one ∷ l) (standings_go_on e size next xs more it.later)
    ∙ ap₂ (λ (l : List Standing) (r : List Opening). l ++ standings_in_shares e size (shares size (row_after_all size r xs) more))
    (sym (standings_next e size row x xs it.opening it.rest it.is)) (sym it.after))

-- ---- rows go upwards

pub reached_upwards : (size lo blocks len : ℕ) (row : List Opening) (o : Opening) (rest : List Opening) → AreUpwards lo blocks row → reached size row len ≡ o ∷ rest → AreUpwards lo blocks (o ∷ rest)
reached_upwards size lo blocks len [] o rest up is = cc
reached_upwards size lo blocks len (q ∷ row) o rest up is = elim (cases_Bool (nat_le (place_after size q.place len + len) size)) [
  | inl inside ↦ subst (AreUpwards lo blocks) (sym (reached_here size len q row inside) ∙ is) up
  | inr outside ↦
      let later = reached_upwards size (q.block + 1) blocks len row o rest up.2 (sym (reached_next size len q row outside) ∙ is) in
      (omega (arith, up.0, later.0), later.1, later.2)
]

-- the first opening is not above one that is reached
pub address_up : (size lo blocks len : ℕ) (row : List Opening) (o : Opening) (rest : List Opening) → AreUpwards lo blocks row → AllByRecursion (IsOpen size blocks) row → reached size row len ≡ o ∷ rest
    → row_address size row ≤ o.block * size + o.place
address_up size lo blocks len [] o rest up each is = cc
address_up size lo blocks len (q ∷ row) o rest up each is = elim (cases_Bool (nat_le (place_after size q.place len + len) size)) [
  | inl inside ↦
      let at : q ∷ row ≡ o ∷ rest = sym (reached_here size len q row inside) ∙ is in
      let first : q ≡ o = cc in
      let same : q.block * size + q.place ≡ o.block * size + o.place = ap (λ (p : Opening). p.block * size + p.place) first in
      omega (arith, same)
  | inr outside ↦
      let later = reached_upwards size (q.block + 1) blocks len row o rest up.2 (sym (reached_next size len q row outside) ∙ is) in
      let below : q.block * size + size ≤ o.block * size = block_within size o.block q.block (o.block * size) (omega (arith, later.0)) (omega arith) in
      omega (arith, below, each.0.inside)
]

-- each form takes a byte at least
pub row_grows : (e : Endian) (size blocks : ℕ) (row : List Opening) (forms : List (List ℕ)) → size % 4 ≡ 0 → AreUpwards 0 blocks row → AllByRecursion (IsOpen size blocks) row → AllByRecursion (FitsBlock size) forms
    → IsTrue (fit_in size row forms) → row_address size row + length forms ≤ row_address size (row_after_all size row forms)
row_grows e size blocks row [] words up each room fits = omega arith
row_grows e size blocks row (x ∷ xs) words up each room fits =
    let it = first_form e size row x xs fits in
    let o : Opening = it.opening in
    let next : List Opening = moved_opening size o x ∷ it.rest in
    let at : ℕ = place_after size o.place (length x) in
    let first = address_up size 0 blocks (length x) row o it.rest up each it.is in
    let high : o.place ≤ at = (place_is_least size o.place (length x) words room.0.some room.0.within).place.upwards in
    let some : 0 < length x = room.0.some in
    let later : row_address size next + length xs ≤ row_address size (row_after_all size next xs) =
    row_grows e size blocks next xs words (reached_upwards size 0 blocks (length x) row o it.rest up it.is)
    (subst (AllByRecursion (IsOpen size blocks)) it.after (row_stays_open size blocks row x words room.0 each)) room.1 it.later in
    let same : row_address size (row_after_all size (row_after size row x) xs) ≡ row_address size (row_after_all size next xs) = ap (λ (r : List Opening). row_address size (row_after_all size r xs)) it.after in
    omega (arith, first, high, some, le_pad4 (length x), later, same)

-- where a row goes on is on the flash
pub row_within : (size blocks : ℕ) (row : List Opening) → AllByRecursion (IsOpen size blocks) row → row_address size row ≤ blocks * size
row_within size blocks [] each = omega arith
row_within size blocks (o ∷ row) each =
    let below : o.block * size + size ≤ blocks * size = block_within size blocks o.block (blocks * size) each.0.within (omega arith) in
    omega (arith, below, each.0.inside)

pub row_by : (size size' blocks : ℕ) (row : List Opening) → size' ≡ size → AllByRecursion (IsOpen size' blocks) row → row_address size row ≤ blocks * size'
row_by size size' blocks row same each = subst (λ (n : ℕ). row_address n row ≤ blocks * size') same (row_within size' blocks row each)
