-- A row of openings that all begin with their blocks, as a row of blank blocks.
use Rattle.std.proofs.Common.{◌≡◌, ℕ, suc, ◌+◌, ◌*◌, ◌/◌, ◌%◌, ◌<◌, ◌≤◌, Bool, true, false, List, [], ◌∷◌, length, map, get_or, refl, sym, ap, ap₂, ◌∙◌, arith, inl, inr}
use Rattle.std.specs.Prelude.{IsTrue, nat_le, ◌==◌, ◌&&◌}
use Rattle.std.specs.List.{AllByRecursion, list_all}
use Rattle.std.proofs.lemmas.Bool.{cases_Bool, cases_lt, and_parts, leb-true, leb-false, le-leb, lt-leb, true≢false}
use Rattle.std.proofs.lemmas.Nat.{div-mul-add}
use Rattle.flashbase.specs.Bytes.{pad4_of}
use Rattle.jnode.specs.declared.order.Endian.TheVariants.{Little}
use Rattle.jlog.specs.Places.{IsPlace, place_after, end_after, places, fit}
use Rattle.jlog.specs.Laws.{FitsBlock}
use Rattle.jlog.proofs.PlaceLemmas.{div_at, in_block, place_front, place_here, place_is_least, place_over}
use Rattle.jlog.proofs.RoomLemmas.{end_is_within}
use Rattle.jrow.specs.Row.{address_in}
use Rattle.jrow.proofs.MovedLemmas.{log_is_moved}
use Rattle.jrow.proofs.SideLemmas.{div_parts, mod_small}
use Rattle.jrests.specs.Shares.{shares, fit_in, places_in}
use Rattle.jrests.specs.declared.opening.Opening.{Opening}
use Rattle.jopenings.specs.After.{takes, fronts}
use Rattle.jopenings.specs.FrontLaws.{FrontsHoldSame, FrontsPlaceSame}
use Rattle.jopenings.proofs.AfterLemmas.{none_fit, no_places, some_stay, left_taken, left_missed, shares_taken, shares_missed}

-- ---- a form that its block does not take goes to the next

-- it lies behind a marker, and would cross the block's end where it is
pub missed_there : (size p len : ℕ) → size % 4 ≡ 0 → p % 4 ≡ 0 → p ≤ size → 0 < len → 12 + len ≤ size → size < place_after size p len + len
    → (12 ≤ p) × (size < p + len)
missed_there size p len words aligned within some room missed = elim (cases_lt p 12) [
  | inl low ↦
      let place : IsPlace size p len 12 = in_block size p len 12 0 refl (omega (arith, low)) (omega arith) (omega (arith, room)) some in
      let least : place_after size p len ≤ 12 = (place_is_least size p len words some room).least 12 place in
      absurd (omega (arith, least, missed, room))
  | inr high ↦ elim (cases_lt size (p + len)) [
    | inl over ↦ (high, over)
    | inr inside ↦
        let here : place_after size p len ≡ p = place_here size p 0 len aligned (omega (arith, high)) (omega (arith, inside)) some in
        absurd (omega (arith, here, missed, inside))
  ]
]

-- where it then lies, as a log places it
missed_over : (size p len : ℕ) → size % 4 ≡ 0 → p % 4 ≡ 0 → p ≤ size → 0 < len → 12 + len ≤ size → size < place_after size p len + len
    → place_after size p len ≡ 1 * size + 12
missed_over size p len words aligned within some room missed =
    let there = missed_there size p len words aligned within some room missed in
    place_over size p 0 len words aligned (omega (arith, there.0)) (omega (arith, within)) (omega (arith, there.1)) room some

same_over : (size p len : ℕ) → size % 4 ≡ 0 → p % 4 ≡ 0 → p ≤ size → 0 < len → 12 + len ≤ size → size < place_after size p len + len
    → place_after size p len ≡ place_after size (1 * size + 0) len
same_over size p len words aligned within some room missed =
    missed_over size p len words aligned within some room missed ∙ sym (place_front size (1 * size + 0) 1 len words (omega arith) room some)

-- ---- room

abbrev pub at_place : ℕ → ℕ → Opening
at_place b p = record { block = b; place = p }

abbrev pub AllFit : ℕ → List (List ℕ) → Type 0
AllFit size forms = AllByRecursion (FitsBlock size) forms

-- where writing goes on behind a form that the block takes
pub record GoesOnIn (size p len : ℕ) : Type 0 where
  pub ends : place_after size p len + len ≤ size
  pub within : end_after size p len ≤ size
  pub aligned : end_after size p len % 4 ≡ 0

pub goes_on_in : (size p : ℕ) (x : List ℕ) → size % 4 ≡ 0 → p % 4 ≡ 0 → p ≤ size → FitsBlock size x → nat_le (place_after size p (length x) + length x) size ≡ true
    → GoesOnIn size p (length x)
goes_on_in size p x words aligned within ok inside =
    let ends : place_after size p (length x) + length x ≤ size = leb-true _ _ inside in
    let here : nat_le (place_after size p (length x) + length x) (1 * size) ≡ true = le-leb _ _ (omega (arith, ends)) in
    let room : IsTrue (fit size 1 p (x ∷ [])) = ap (λ (b : Bool). b && true) here in
    let there = end_is_within size 1 p (x ∷ []) words (ok, tt) aligned (omega (arith, within)) room in
    record { ends = ends; within = omega (arith, there.0); aligned = there.1 }

-- where the block does not take it, it fits the others just where it fits a flash of all of them
moved_fit : (size p n : ℕ) (x : List ℕ) (xs : List (List ℕ)) → 0 < size → size % 4 ≡ 0 → place_after size p (length x) ≡ place_after size (1 * size + 0) (length x)
    → fit size (suc n) p (x ∷ xs) ≡ fit size n 0 (x ∷ xs)
moved_fit size p n x xs some words same =
    let next : suc n ≡ 1 + n = omega arith in
    ap (λ (at : ℕ). list_all {X = ℕ × ℕ} (λ place. nat_le (place.0 + place.1) (suc n * size)) ((let q : ℕ × ℕ = (at, length x) in q) ∷ places size (at + pad4_of (length x)) xs)) same
    ∙ (ap (λ (m : ℕ). fit size m (1 * size + 0) (x ∷ xs)) next ∙ (log_is_moved Little size 0 1 (x ∷ xs) some words).fits n)

row_fits : (size b p : ℕ) (bs : List ℕ) (forms : List (List ℕ)) → 0 < size → size % 4 ≡ 0
    → ((fs : List (List ℕ)) → AllFit size fs → fit_in size (fronts bs) fs ≡ fit size (length bs) 0 fs)
    → p % 4 ≡ 0 → p ≤ size → AllFit size forms → fit_in size (at_place b p ∷ fronts bs) forms ≡ fit size (suc (length bs)) p forms
row_fits size b p bs [] some words later aligned within oks = none_fit size (at_place b p ∷ fronts bs)
row_fits size b p bs (x ∷ xs) some words later aligned within oks = elim (cases_Bool (takes size (at_place b p) x)) [
  | inl inside ↦
      let on = goes_on_in size p x words aligned within oks.0 inside in
      let end : ℕ = end_after size p (length x) in
      let here : nat_le (place_after size p (length x) + length x) (suc (length bs) * size) ≡ true = le-leb _ _ (omega (arith, on.ends)) in
      ap (λ (forms : List (List ℕ)). length forms == 0) (left_taken size (at_place b p) (fronts bs) x xs inside)
      ∙ (row_fits size b end bs xs some words later on.aligned on.within oks.1
      ∙ sym (ap (λ (t : Bool). t && fit size (suc (length bs)) end xs) here))
  | inr outside ↦
      let same = same_over size p (length x) words aligned within oks.0.some oks.0.within (leb-false _ _ outside) in
      ap (λ (forms : List (List ℕ)). length forms == 0) (left_missed size (at_place b p) (fronts bs) x xs outside)
      ∙ (later (x ∷ xs) oks ∙ sym (moved_fit size p (length bs) x xs some words same))
]

none_has_room : (size : ℕ) (x : List ℕ) (xs : List (List ℕ)) → FitsBlock size x → fit size 0 0 (x ∷ xs) ≡ false
none_has_room size x xs ok =
    let none : nat_le (place_after size 0 (length x) + length x) (0 * size) ≡ false = lt-leb _ _ (omega (arith, ok.some)) in
    ap (λ (b : Bool). b && fit size 0 (end_after size 0 (length x)) xs) none

pub fronts_hold_same : FrontsHoldSame
fronts_hold_same size [] [] some words oks = refl
fronts_hold_same size [] (x ∷ xs) some words oks = some_stay x xs ∙ sym (none_has_room size x xs oks.0)
fronts_hold_same size (b ∷ bs) forms some words oks =
    row_fits size b 0 bs forms some words (λ fs ok. fronts_hold_same size bs fs some words ok) refl (omega arith) oks

-- ---- addresses

address_here : (size b at : ℕ) (bs : List ℕ) → 0 < size → at < size → address_in size (b ∷ bs) at ≡ b * size + at
address_here size b at bs some small =
    let first : at / size ≡ 0 = div_at at 0 size (omega arith) (omega (arith, small)) in
    let none : at / size * size ≡ 0 = ap (λ (q : ℕ). q * size) first ∙ omega arith in
    let rest : at % size ≡ at = omega (arith, div_parts at size some, none) in
    ap₂ (λ (q r : ℕ). get_or (b ∷ bs) q 0 * size + r) first rest

address_next : (size b at : ℕ) (bs : List ℕ) → 0 < size → address_in size (b ∷ bs) (1 * size + at) ≡ address_in size bs at
address_next size b at bs some =
    let q : ℕ = at / size in
    let r : ℕ = at % size in
    let split : 1 * size + at ≡ suc q * size + r = omega (arith, div_parts at size some) in
    let next : (1 * size + at) / size ≡ suc q = ap (λ (n : ℕ). n / size) split ∙ div-mul-add (suc q) size r (mod_small at size some) in
    let before : (1 * size + at) / size * size ≡ suc q * size = ap (λ (n : ℕ). n * size) next in
    let rest : (1 * size + at) % size ≡ r = omega (arith, div_parts (1 * size + at) size some, before, split) in
    ap₂ (λ (n m : ℕ). get_or (b ∷ bs) n 0 * size + m) next rest

-- a place of a log, as one of the row
abbrev put_at : ℕ → List ℕ → ℕ × ℕ → ℕ × ℕ
put_at size bs place = (address_in size bs place.0, place.1)

put_next : (size b : ℕ) (bs : List ℕ) (ps : List (ℕ × ℕ)) → 0 < size
    → map (put_at size bs) ps ≡ map (put_at size (b ∷ bs)) (map (λ place. (1 * size + place.0, place.1)) ps)
put_next size b bs [] some = refl
put_next size b bs (p ∷ ps) some =
    ap₂ (λ (a : ℕ) (l : List (ℕ × ℕ)). (let q : ℕ × ℕ = (a, p.1) in q) ∷ l) (sym (address_next size b p.0 bs some)) (put_next size b bs ps some)

row_places : (size b p : ℕ) (bs : List ℕ) (forms : List (List ℕ)) → 0 < size → size % 4 ≡ 0
    → ((fs : List (List ℕ)) → AllFit size fs → IsTrue (fit size (length bs) 0 fs) → places_in size (shares size (fronts bs) fs) ≡ map (put_at size bs) (places size 0 fs))
    → p % 4 ≡ 0 → p ≤ size → AllFit size forms → IsTrue (fit size (suc (length bs)) p forms)
    → places_in size (shares size (at_place b p ∷ fronts bs) forms) ≡ map (put_at size (b ∷ bs)) (places size p forms)
row_places size b p bs [] some words later aligned within oks room = no_places size (at_place b p ∷ fronts bs)
row_places size b p bs (x ∷ xs) some words later aligned within oks room = elim (cases_Bool (takes size (at_place b p) x)) [
  | inl inside ↦
      let on = goes_on_in size p x words aligned within oks.0 inside in
      let at : ℕ = place_after size p (length x) in
      let end : ℕ = end_after size p (length x) in
      let both = and_parts (nat_le (at + length x) (suc (length bs) * size)) (fit size (suc (length bs)) end xs) room in
      let small : at < size = omega (arith, on.ends, oks.0.some) in
      ap (places_in size) (shares_taken size (at_place b p) (fronts bs) x xs inside)
      ∙ ap₂ (λ (a : ℕ) (l : List (ℕ × ℕ)). (let q : ℕ × ℕ = (a, length x) in q) ∷ l) (sym (address_here size b at bs some small))
      (row_places size b end bs xs some words later on.aligned on.within oks.1 both.1)
  | inr outside ↦
      let same = same_over size p (length x) words aligned within oks.0.some oks.0.within (leb-false _ _ outside) in
      let over : places size p (x ∷ xs) ≡ places size (1 * size + 0) (x ∷ xs) =
      ap (λ (at : ℕ). (let q : ℕ × ℕ = (at, length x) in q) ∷ places size (at + pad4_of (length x)) xs) same in
      ap (places_in size) (shares_missed size (at_place b p) (fronts bs) x xs outside)
      ∙ (later (x ∷ xs) oks (sym (moved_fit size p (length bs) x xs some words same) ∙ room)
      ∙ (put_next size b bs (places size 0 (x ∷ xs)) some
      ∙ sym (ap (map (put_at size (b ∷ bs))) (over ∙ (log_is_moved Little size 0 1 (x ∷ xs) some words).placed_at))))
]

pub fronts_place_same : FrontsPlaceSame
fronts_place_same size [] [] some words oks room = refl
fronts_place_same size [] (x ∷ xs) some words oks room = absurd (true≢false (sym room ∙ none_has_room size x xs oks.0))
fronts_place_same size (b ∷ bs) forms some words oks room =
    row_places size b 0 bs forms some words (λ fs ok has. fronts_place_same size bs fs some words ok has) refl (omega arith) oks room
