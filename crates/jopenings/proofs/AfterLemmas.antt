-- What is left of a row of openings, and what goes on there.
use Rattle.std.proofs.Common.{◌≡◌, ℕ, suc, ◌+◌, ◌-◌, ◌*◌, ◌%◌, ◌≤◌, Bool, true, false, List, [], ◌∷◌, ◌++◌, length, take, drop, refl, sym, ap, ap₂, subst, ◌∙◌, arith, inl, inr, length-append, append_assoc, append-nil}
use Rattle.std.specs.Prelude.{IsTrue, ◌==◌, ◌&&◌, bytes_eq}
use Rattle.std.specs.List.{AllByRecursion}
use Rattle.std.proofs.lemmas.Bool.{cases_Bool, and_parts, cond-true, cond-false, true≢false}
use Rattle.std.proofs.lemmas.Slice.Eq.{bytes_eq-Decides}
use Rattle.flashbase.proofs.BytesLemmas.{le_pad4}
use Rattle.jnode.specs.Weak.{torn}
use Rattle.jnode.specs.Writing.{filled}
use Rattle.jnode.specs.declared.order.Endian.{Endian}
use Rattle.jlog.specs.Places.{place_after, end_after, places}
use Rattle.jlog.specs.Output.{gap, output}
use Rattle.jlog.specs.Left.{count_whole, intact}
use Rattle.jlog.specs.Laws.{FitsBlock}
use Rattle.jlog.proofs.HereLemmas.{torn_all}
use Rattle.jlog.proofs.IntactLemmas.{first_out, intact_is_counted}
use Rattle.jlog.proofs.PlaceLemmas.{place_is_least}
use Rattle.jrow.proofs.WithRowLemmas.{not_same}
use Rattle.jrests.specs.Left.{whole_in_shares, all_bytes}
use Rattle.jrests.specs.Shares.{taken_from, Share, shares, left_out, fit_in, places_in, output_to}
use Rattle.jrests.specs.declared.opening.Opening.{Opening}
use Rattle.jrests.proofs.ShareLemmas.{all_first}
use Rattle.jopenings.specs.After.{takes, moved_opening, row_after, row_after_all, output_to_all}
use Rattle.jopenings.specs.AfterLaws.{AllRowsGoOn, BytesAreCounted, EarlierAreWhole}

-- ---- no forms

none_out : (size : ℕ) (row : List Opening) → left_out size row [] ≡ []
none_out size [] = refl
none_out size (o ∷ row) = none_out size row

pub none_fit : (size : ℕ) (row : List Opening) → fit_in size row [] ≡ true
none_fit size row = ap (λ (forms : List (List ℕ)). length forms == 0) (none_out size row)

pub no_places : (size : ℕ) (row : List Opening) → places_in size (shares size row []) ≡ []
no_places size [] = refl
no_places size (o ∷ row) = no_places size row

no_output : (e : Endian) (size : ℕ) (row : List Opening) → output_to_all e size (shares size row []) ≡ []
no_output e size [] = refl
no_output e size (o ∷ row) = no_output e size row

no_bytes : (e : Endian) (size : ℕ) (row : List Opening) → all_bytes e size (shares size row []) ≡ 0
no_bytes e size [] = refl
no_bytes e size (o ∷ row) = omega (arith, no_bytes e size row)

-- ---- one form, and the first opening takes it or not

pub taken_one : (size : ℕ) (o : Opening) (x : List ℕ) (xs : List (List ℕ)) → takes size o x ≡ true
    → taken_from size o.place (x ∷ xs) ≡ suc (taken_from size (end_after size o.place (length x)) xs)
taken_one size o x xs inside = cond-true (takes size o x) (suc (taken_from size (end_after size o.place (length x)) xs)) 0 inside

pub taken_no : (size : ℕ) (o : Opening) (x : List ℕ) (xs : List (List ℕ)) → takes size o x ≡ false → taken_from size o.place (x ∷ xs) ≡ 0
taken_no size o x xs outside = cond-false (takes size o x) (suc (taken_from size (end_after size o.place (length x)) xs)) 0 outside

pub after_taken : (size : ℕ) (o : Opening) (row : List Opening) (x : List ℕ) → takes size o x ≡ true → row_after size (o ∷ row) x ≡ moved_opening size o x ∷ row
after_taken size o row x inside = cond-true (takes size o x) (moved_opening size o x ∷ row) (row_after size row x) inside

pub after_missed : (size : ℕ) (o : Opening) (row : List Opening) (x : List ℕ) → takes size o x ≡ false → row_after size (o ∷ row) x ≡ row_after size row x
after_missed size o row x outside = cond-false (takes size o x) (moved_opening size o x ∷ row) (row_after size row x) outside

pub left_taken : (size : ℕ) (o : Opening) (row : List Opening) (x : List ℕ) (xs : List (List ℕ)) → takes size o x ≡ true
    → left_out size (o ∷ row) (x ∷ xs) ≡ left_out size (moved_opening size o x ∷ row) xs
left_taken size o row x xs inside = ap (λ (n : ℕ). left_out size row (drop n (x ∷ xs))) (taken_one size o x xs inside)

pub left_missed : (size : ℕ) (o : Opening) (row : List Opening) (x : List ℕ) (xs : List (List ℕ)) → takes size o x ≡ false
    → left_out size (o ∷ row) (x ∷ xs) ≡ left_out size row (x ∷ xs)
left_missed size o row x xs outside = ap (λ (n : ℕ). left_out size row (drop n (x ∷ xs))) (taken_no size o x xs outside)

-- what the first opening takes after the form, and what goes to the others
abbrev pub more_of : ℕ → Opening → List ℕ → List (List ℕ) → ℕ
more_of size o x xs = taken_from size (end_after size o.place (length x)) xs

pub shares_taken : (size : ℕ) (o : Opening) (row : List Opening) (x : List ℕ) (xs : List (List ℕ)) → takes size o x ≡ true
    → shares size (o ∷ row) (x ∷ xs) ≡ (o, x ∷ take (more_of size o x xs) xs) ∷ shares size row (drop (more_of size o x xs) xs)
shares_taken size o row x xs inside =
    ap (λ (n : ℕ). (let share : Share = (o, take n (x ∷ xs)) in share) ∷ shares size row (drop n (x ∷ xs))) (taken_one size o x xs inside)

shares_behind : (size : ℕ) (o : Opening) (row : List Opening) (x : List ℕ) (xs : List (List ℕ))
    → shares size (moved_opening size o x ∷ row) xs ≡ (moved_opening size o x, take (more_of size o x xs) xs) ∷ shares size row (drop (more_of size o x xs) xs)
shares_behind size o row x xs = refl

pub shares_missed : (size : ℕ) (o : Opening) (row : List Opening) (x : List ℕ) (xs : List (List ℕ)) → takes size o x ≡ false
    → shares size (o ∷ row) (x ∷ xs) ≡ (o, []) ∷ shares size row (x ∷ xs)
shares_missed size o row x xs outside =
    ap (λ (n : ℕ). (let share : Share = (o, take n (x ∷ xs)) in share) ∷ shares size row (drop n (x ∷ xs))) (taken_no size o x xs outside)

pub shares_one : (size : ℕ) (o : Opening) (row : List Opening) (x : List ℕ) → takes size o x ≡ true → shares size (o ∷ row) (x ∷ []) ≡ (o, x ∷ []) ∷ shares size row []
shares_one size o row x inside = shares_taken size o row x [] inside

-- ---- room

pub some_stay : (x : List ℕ) (xs : List (List ℕ)) → (length (x ∷ xs) == 0) ≡ false
some_stay x xs = not_same (length (x ∷ xs)) 0 (λ same. omega (arith, same))

pub room_step : (size : ℕ) (row : List Opening) (x : List ℕ) (xs : List (List ℕ))
    → fit_in size row (x ∷ xs) ≡ (fit_in size row (x ∷ []) && fit_in size (row_after size row x) xs)
room_step size [] x xs = some_stay x xs ∙ sym (ap (λ (b : Bool). b && fit_in size [] xs) (some_stay x []))
room_step size (o ∷ row) x xs = elim (cases_Bool (takes size o x)) [
  | inl inside ↦
      let one : fit_in size (o ∷ row) (x ∷ []) ≡ true =
      ap (λ (forms : List (List ℕ)). length forms == 0) (left_taken size o row x [] inside ∙ none_out size (moved_opening size o x ∷ row)) in
      ap (λ (forms : List (List ℕ)). length forms == 0) (left_taken size o row x xs inside)
      ∙ sym (ap₂ (λ (b : Bool) (r : List Opening). b && fit_in size r xs) one (after_taken size o row x inside))
  | inr outside ↦
      ap (λ (forms : List (List ℕ)). length forms == 0) (left_missed size o row x xs outside)
      ∙ (room_step size row x xs
      ∙ sym (ap₂ (λ (forms : List (List ℕ)) (r : List Opening). (length forms == 0) && fit_in size r xs) (left_missed size o row x [] outside) (after_missed size o row x outside)))
]

and_assoc : (a b c : Bool) → (a && (b && c)) ≡ ((a && b) && c)
and_assoc true b c = refl
and_assoc false b c = refl

pub room_goes_on : (size : ℕ) (row : List Opening) (forms more : List (List ℕ))
    → fit_in size row (forms ++ more) ≡ (fit_in size row forms && fit_in size (row_after_all size row forms) more)
room_goes_on size row [] more = sym (ap (λ (b : Bool). b && fit_in size row more) (none_fit size row))
room_goes_on size row (x ∷ xs) more =
    let next : List Opening = row_after size row x in
    room_step size row x (xs ++ more)
    ∙ (ap (λ (b : Bool). fit_in size row (x ∷ []) && b) (room_goes_on size next xs more)
    ∙ (and_assoc (fit_in size row (x ∷ [])) (fit_in size next xs) (fit_in size (row_after_all size next xs) more)
    ∙ sym (ap (λ (b : Bool). b && fit_in size (row_after_all size next xs) more) (room_step size row x xs))))

-- ---- places

pub places_step : (size : ℕ) (row : List Opening) (x : List ℕ) (xs : List (List ℕ))
    → places_in size (shares size row (x ∷ xs)) ≡ places_in size (shares size row (x ∷ [])) ++ places_in size (shares size (row_after size row x) xs)
places_step size [] x xs = refl
places_step size (o ∷ row) x xs = elim (cases_Bool (takes size o x)) [
  | inl inside ↦
      let place : ℕ × ℕ = (o.block * size + place_after size o.place (length x), length x) in
      let one : places_in size (shares size (o ∷ row) (x ∷ [])) ≡ place ∷ [] =
      ap (places_in size) (shares_one size o row x inside) ∙ ap (λ (l : List (ℕ × ℕ)). place ∷ l) (no_places size row) in
      let rest : places_in size (shares size (row_after size (o ∷ row) x) xs) ≡ places_in size ((moved_opening size o x, take (more_of size o x xs) xs) ∷ shares size row (drop (more_of size o x xs) xs)) =
      ap (λ (r : List Opening). places_in size (shares size r xs)) (after_taken size o row x inside) ∙ ap (places_in size) (shares_behind size o row x xs) in
      ap (places_in size) (shares_taken size o row x xs inside) ∙ sym (ap₂ (λ (a b : List (ℕ × ℕ)). a ++ b) one rest)
  | inr outside ↦
      ap (places_in size) (shares_missed size o row x xs outside)
      ∙ (places_step size row x xs
      ∙ sym (ap₂ (λ (a b : List (ℕ × ℕ)). a ++ b) (ap (places_in size) (shares_missed size o row x [] outside))
      (ap (λ (r : List Opening). places_in size (shares size r xs)) (after_missed size o row x outside))))
]

pub places_go_on : (size : ℕ) (row : List Opening) (forms more : List (List ℕ))
    → places_in size (shares size row (forms ++ more)) ≡ places_in size (shares size row forms) ++ places_in size (shares size (row_after_all size row forms) more)
places_go_on size row [] more = sym (ap (λ (l : List (ℕ × ℕ)). l ++ places_in size (shares size row more)) (no_places size row))
places_go_on size row (x ∷ xs) more =
    let next : List Opening = row_after size row x in
    let one : List (ℕ × ℕ) = places_in size (shares size row (x ∷ [])) in
    let later : List (ℕ × ℕ) = places_in size (shares size (row_after_all size next xs) more) in
    places_step size row x (xs ++ more)
    ∙ (ap (λ (l : List (ℕ × ℕ)). one ++ l) (places_go_on size next xs more)
    ∙ (sym (append_assoc one (places_in size (shares size next xs)) later)
    ∙ sym (ap (λ (l : List (ℕ × ℕ)). l ++ later) (places_step size row x xs))))

-- ---- bytes

joined : (front rest later : List ℕ) → (front ++ rest) ++ later ≡ ((front ++ []) ++ []) ++ (rest ++ later)
joined front rest later =
    append_assoc front rest later ∙ ap (λ (l : List ℕ). l ++ (rest ++ later)) (sym (append-nil (front ++ []) ∙ append-nil front))

pub output_step : (e : Endian) (size : ℕ) (row : List Opening) (x : List ℕ) (xs : List (List ℕ))
    → output_to_all e size (shares size row (x ∷ xs)) ≡ output_to_all e size (shares size row (x ∷ [])) ++ output_to_all e size (shares size (row_after size row x) xs)
output_step e size [] x xs = refl
output_step e size (o ∷ row) x xs = elim (cases_Bool (takes size o x)) [
  | inl inside ↦
      let n : ℕ = more_of size o x xs in
      let front : List ℕ = gap e size o.place (place_after size o.place (length x)) ++ filled x in
      let ends : List ℕ = output e size (end_after size o.place (length x)) (take n xs) in
      let others : List ℕ = output_to_all e size (shares size row (drop n xs)) in
      let one : output_to_all e size (shares size (o ∷ row) (x ∷ [])) ≡ (front ++ []) ++ [] =
      ap (output_to_all e size) (shares_one size o row x inside) ∙ ap (λ (l : List ℕ). (front ++ []) ++ l) (no_output e size row) in
      let rest : output_to_all e size (shares size (row_after size (o ∷ row) x) xs) ≡ ends ++ others =
      ap (λ (r : List Opening). output_to_all e size (shares size r xs)) (after_taken size o row x inside) ∙ ap (output_to_all e size) (shares_behind size o row x xs) in
      ap (output_to_all e size) (shares_taken size o row x xs inside) ∙ (joined front ends others ∙ sym (ap₂ (λ (a b : List ℕ). a ++ b) one rest))
  | inr outside ↦
      ap (output_to_all e size) (shares_missed size o row x xs outside)
      ∙ (output_step e size row x xs
      ∙ sym (ap₂ (λ (a b : List ℕ). a ++ b) (ap (output_to_all e size) (shares_missed size o row x [] outside))
      (ap (λ (r : List Opening). output_to_all e size (shares size r xs)) (after_missed size o row x outside))))
]

pub output_goes_on : (e : Endian) (size : ℕ) (row : List Opening) (forms more : List (List ℕ))
    → output_to_all e size (shares size row (forms ++ more)) ≡ output_to_all e size (shares size row forms) ++ output_to_all e size (shares size (row_after_all size row forms) more)
output_goes_on e size row [] more = sym (ap (λ (l : List ℕ). l ++ output_to_all e size (shares size row more)) (no_output e size row))
output_goes_on e size row (x ∷ xs) more =
    let next : List Opening = row_after size row x in
    let one : List ℕ = output_to_all e size (shares size row (x ∷ [])) in
    let later : List ℕ = output_to_all e size (shares size (row_after_all size next xs) more) in
    output_step e size row x (xs ++ more)
    ∙ (ap (λ (l : List ℕ). one ++ l) (output_goes_on e size next xs more)
    ∙ (sym (append_assoc one (output_to_all e size (shares size next xs)) later)
    ∙ sym (ap (λ (l : List ℕ). l ++ later) (output_step e size row x xs))))

pub all_rows_go_on : AllRowsGoOn
all_rows_go_on e size row forms more = record {
  room = room_goes_on size row forms more;
  places = places_go_on size row forms more;
  output = output_goes_on e size row forms more;
}

-- ---- how many bytes

long_shares : (e : Endian) (size : ℕ) (ss : List Share) → all_bytes e size ss ≡ length (output_to_all e size ss)
long_shares e size [] = refl
long_shares e size (s ∷ ss) =
    ap (λ (n : ℕ). length (output_to e size s) + n) (long_shares e size ss) ∙ sym (length-append (output_to e size s) (output_to_all e size ss))

pub bytes_are_counted : BytesAreCounted
bytes_are_counted e size row forms = long_shares e size (shares size row forms)

bytes_step : (e : Endian) (size : ℕ) (row : List Opening) (x : List ℕ) (xs : List (List ℕ))
    → all_bytes e size (shares size row (x ∷ xs)) ≡ all_bytes e size (shares size row (x ∷ [])) + all_bytes e size (shares size (row_after size row x) xs)
bytes_step e size row x xs =
    long_shares e size (shares size row (x ∷ xs))
    ∙ (ap length (output_step e size row x xs)
    ∙ (length-append (output_to_all e size (shares size row (x ∷ []))) (output_to_all e size (shares size (row_after size row x) xs))
    ∙ sym (ap₂ (λ (a b : ℕ). a + b) (long_shares e size (shares size row (x ∷ []))) (long_shares e size (shares size (row_after size row x) xs)))))

-- ---- those that stand whole

-- a form whose bytes went out stands whole, and those behind it as if they were alone
first_is_whole : (e : Endian) (size from k : ℕ) (x : List ℕ) (xs : List (List ℕ)) → size % 4 ≡ 0 → FitsBlock size x
    → intact size from (length (output e size from (x ∷ [])) + k) (x ∷ xs) ≡ suc (intact size (end_after size from (length x)) k xs)
first_is_whole e size from k x xs words ok =
    let at : ℕ = place_after size from (length x) in
    let end : ℕ = end_after size from (length x) in
    let front : List ℕ = gap e size from at ++ filled x in
    let long : length (output e size from (x ∷ [])) ≡ length front = ap length (append-nil front) in
    let sum : from + length front ≡ end = first_out e size from x words ok in
    let up : from ≤ at = (place_is_least size from (length x) words ok.some ok.within).place.upwards in
    let all : ℕ = length (output e size from (x ∷ [])) + k in
    let whole : bytes_eq (torn x (all - (at - from))) x ≡ true =
    (bytes_eq-Decides _ _).1 (torn_all x (all - (at - from)) (omega (arith, long, sum, le_pad4 (length x)))) in
    let left : all - (end - from) ≡ k = omega (arith, long, sum) in
    cond-true (bytes_eq (torn x (all - (at - from))) x) (suc (intact size end (all - (end - from)) xs)) 0 whole
    ∙ ap (λ (n : ℕ). suc (intact size end n xs)) left

-- an opening that gets none
whole_skips : (e : Endian) (size k : ℕ) (o : Opening) (ss ones : List Share)
    → whole_in_shares e size ((o, []) ∷ ss) (all_bytes e size ((o, []) ∷ ones) + k) ≡ whole_in_shares e size ss (all_bytes e size ones + k)
whole_skips e size k o ss ones =
    let at : ℕ = all_bytes e size ones + k in
    let few : 0 + all_bytes e size ones + k - 0 ≡ at = omega arith in
    let none : 0 + whole_in_shares e size ss at ≡ whole_in_shares e size ss at = omega arith in
    ap (λ (m : ℕ). 0 + whole_in_shares e size ss m) few ∙ none

pub whole_step : (e : Endian) (size k : ℕ) (row : List Opening) (x : List ℕ) (xs : List (List ℕ)) → size % 4 ≡ 0 → FitsBlock size x → AllByRecursion (FitsBlock size) xs
    → IsTrue (fit_in size row (x ∷ []))
    → whole_in_shares e size (shares size row (x ∷ xs)) (all_bytes e size (shares size row (x ∷ [])) + k)
    ≡ suc (whole_in_shares e size (shares size (row_after size row x) xs) k)
whole_step e size k [] x xs words ok oks room = absurd (true≢false (sym room ∙ some_stay x []))
whole_step e size k (o ∷ row) x xs words ok oks room = elim (cases_Bool (takes size o x)) [
  | inl inside ↦
      let n : ℕ = more_of size o x xs in
      let ts : List (List ℕ) = take n xs in
      let end : ℕ = end_after size o.place (length x) in
      let fits : AllByRecursion (FitsBlock size) ts = all_first (FitsBlock size) n xs oks in
      let one : ℕ = length (output e size o.place (x ∷ [])) in
      let alone_is : one + all_bytes e size (shares size row []) ≡ one = omega (arith, no_bytes e size row) in
      let first : all_bytes e size (shares size (o ∷ row) (x ∷ [])) ≡ one = ap (all_bytes e size) (shares_one size o row x inside) ∙ alone_is in
      let out : List ℕ = output e size o.place (x ∷ ts) in
      let ends : List ℕ = output e size end ts in
      let front : List ℕ = gap e size o.place (place_after size o.place (length x)) ++ filled x in
      let alone : one ≡ length front = ap length (append-nil front) in
      let long : length out ≡ one + length ends = length-append front ends ∙ ap (λ (m : ℕ). m + length ends) (sym alone) in
      let passed : (one + k) - length out ≡ k - length ends = omega (arith, long) in
      let here : count_whole o.place out (one + k) (places size o.place (x ∷ ts)) ≡ suc (count_whole end ends k (places size end ts)) =
      intact_is_counted e size o.place (one + k) (x ∷ ts) words (ok, fits)
      ∙ (first_is_whole e size o.place k x ts words ok ∙ ap suc (sym (intact_is_counted e size end k ts words fits))) in
      let others : List Share = shares size row (drop n xs) in
      let rest : whole_in_shares e size (shares size (row_after size (o ∷ row) x) xs) k ≡ count_whole end ends k (places size end ts) + whole_in_shares e size others (k - length ends) =
      ap (λ (r : List Opening). whole_in_shares e size (shares size r xs) k) (after_taken size o row x inside)
      ∙ ap (λ (ss : List Share). whole_in_shares e size ss k) (shares_behind size o row x xs) in
      let c : ℕ = count_whole end ends k (places size end ts) in
      let w : ℕ = whole_in_shares e size others (k - length ends) in
      let next : suc c + w ≡ suc (c + w) = omega arith in
      ap₂ (λ (ss : List Share) (m : ℕ). whole_in_shares e size ss (m + k)) (shares_taken size o row x xs inside) first
      ∙ (ap₂ (λ (n m : ℕ). n + whole_in_shares e size others m) here passed ∙ (next ∙ ap suc (sym rest)))
  | inr outside ↦
      let later : IsTrue (fit_in size row (x ∷ [])) = subst (λ (forms : List (List ℕ)). (length forms == 0) ≡ true) (left_missed size o row x [] outside) room in
      ap₂ (λ (ss ones : List Share). whole_in_shares e size ss (all_bytes e size ones + k)) (shares_missed size o row x xs outside) (shares_missed size o row x [] outside)
      ∙ (whole_skips e size k o (shares size row (x ∷ xs)) (shares size row (x ∷ []))
      ∙ (whole_step e size k row x xs words ok oks later
      ∙ ap (λ (r : List Opening). suc (whole_in_shares e size (shares size r xs) k)) (sym (after_missed size o row x outside))))
]

pub earlier_are_whole : EarlierAreWhole
earlier_are_whole e size k row [] more words oks room =
    let all : all_bytes e size (shares size row []) + k ≡ k = omega (arith, no_bytes e size row) in
    let none : whole_in_shares e size (shares size row more) k ≡ 0 + whole_in_shares e size (shares size row more) k = omega arith in
    ap (whole_in_shares e size (shares size row more)) all ∙ none
earlier_are_whole e size k row (x ∷ xs) more words oks room =
    let next : List Opening = row_after size row x in
    let both = and_parts (fit_in size row (x ∷ [])) (fit_in size next xs) (sym (room_step size row x xs) ∙ room) in
    let one : ℕ = all_bytes e size (shares size row (x ∷ [])) in
    let rest : ℕ = all_bytes e size (shares size next xs) in
    let later : ℕ = whole_in_shares e size (shares size (row_after_all size next xs) more) k in
    let next_sum : suc (length xs + later) ≡ suc (length xs) + later = omega arith in
    let sum : all_bytes e size (shares size row (x ∷ xs)) + k ≡ one + (rest + k) = omega (arith, bytes_step e size row x xs) in
    ap (whole_in_shares e size (shares size row (x ∷ (xs ++ more)))) sum
    ∙ (whole_step e size (rest + k) row x (xs ++ more) words oks.0 oks.1 both.0
    ∙ (ap suc (earlier_are_whole e size k next xs more words oks.1 both.1) ∙ next_sum))
