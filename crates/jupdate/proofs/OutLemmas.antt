-- Which places are told after so many bytes of forms that go out to a row of openings.
use Rattle.std.proofs.Common.{◌≡◌, ℕ, suc, ◌+◌, ◌-◌, ◌*◌, ◌%◌, ◌<◌, ◌≤◌, leb, cond, Bool, true, false, List, [], ◌∷◌, ◌++◌, length, map, take, drop, refl, sym, ap, ap₂, subst, ◌∙◌, arith, inl, inr, append-nil, append_assoc, length-append}
use Rattle.std.specs.Prelude.{filter, nat_le}
use Rattle.std.specs.List.{AllByRecursion}
use Rattle.std.proofs.lemmas.Bool.{cases_Bool, cases_lt, cond-true, cond-false, le-leb, lt-leb}
use Rattle.flashbase.specs.Bytes.{pad4_of}
use Rattle.flashbase.proofs.BytesLemmas.{le_pad4}
use Rattle.jnode.specs.Writing.{filled}
use Rattle.jnode.specs.declared.order.Endian.{Endian}
use Rattle.jlog.specs.Laws.{FitsBlock}
use Rattle.jlog.specs.Places.{place_after, end_after, places}
use Rattle.jlog.specs.Output.{gap, output}
use Rattle.jlog.proofs.IntactLemmas.{first_out}
use Rattle.jlog.proofs.PlaceLemmas.{place_is_least}
use Rattle.jrests.specs.Shares.{taken_from, Share, shares, share_places, places_in, output_to}
use Rattle.jrests.specs.declared.opening.Opening.{Opening}
use Rattle.jrests.proofs.ShareLemmas.{all_first, all_behind}
use Rattle.jopenings.specs.After.{takes, moved_opening, row_after, row_after_all, output_to_all}
use Rattle.jopenings.proofs.AfterLemmas.{more_of, no_places, shares_missed, shares_taken, places_step, output_step}
use Rattle.jupdate.specs.Writing.{share_places_out, places_out}
use Rattle.jupdate.proofs.RowLemmas.{after_missed, goes_here, no_output, none_told}

-- ---- places of a block on the flash

abbrev pub on_flash : ℕ → ℕ × ℕ → ℕ × ℕ
on_flash b place = (b + place.0, place.1)

abbrev pub within_by : ℕ → ℕ × ℕ → Bool
within_by limit place = nat_le (place.0 + place.1) limit

-- none ends at or before where they begin
none_within : (b size from limit : ℕ) (nodes : List (List ℕ)) → size % 4 ≡ 0 → AllByRecursion (FitsBlock size) nodes → limit ≤ b + from
    → filter (within_by limit) (map (on_flash b) (places size from nodes)) ≡ []
none_within b size from limit [] words ok up = refl
none_within b size from limit (node ∷ nodes) words ok up =
    let len : ℕ = length node in
    let at : ℕ = place_after size from len in
    let some : 0 < len = ok.0.some in
    let high : from ≤ at = (place_is_least size from len words ok.0.some ok.0.within).place.upwards in
    let rest : List (ℕ × ℕ) = filter (within_by limit) (map (on_flash b) (places size (end_after size from len) nodes)) in
    cond-false (leb (b + at + len) limit) ((b + at, len) ∷ rest) rest (lt-leb (b + at + len) limit (omega arith))
    ∙ none_within b size (end_after size from len) limit nodes words ok.1 (omega arith)

-- after no byte none is told
none_first : (e : Endian) (size : ℕ) (row : List Opening) (forms : List (List ℕ)) (t : ℕ) → size % 4 ≡ 0 → AllByRecursion (FitsBlock size) forms → t ≡ 0 → places_out e size (shares size row forms) t ≡ []
none_first e size [] forms t words ok none = refl
none_first e size (o ∷ row) forms t words ok none =
    let n : ℕ = taken_from size o.place forms in
    let left : ℕ = t - length (output_to e size (o, take n forms)) in
    ap₂ (λ (a b : List (ℕ × ℕ)). a ++ b)
    (none_within (o.block * size) size o.place (o.block * size + o.place + t) (take n forms) words (all_first (FitsBlock size) n forms ok) (omega (arith, none)))
    (none_first e size row (drop n forms) left words (all_behind (FitsBlock size) n forms ok) (omega (arith, none)))

-- ---- the first form

abbrev pub long_of : Endian → ℕ → List Opening → List ℕ → ℕ
long_of e size row x = length (output_to_all e size (shares size row (x ∷ [])))

missed_long : (e : Endian) (size : ℕ) (o : Opening) (row : List Opening) (x : List ℕ) → takes size o x ≡ false → long_of e size (o ∷ row) x ≡ long_of e size row x
missed_long e size o row x outside = ap (λ (ss : List Share). length (output_to_all e size ss)) (shares_missed size o row x [] outside)

-- all of its bytes went out, and so many of those behind it
pub out_far : (e : Endian) (size : ℕ) (row : List Opening) (x : List ℕ) (xs : List (List ℕ)) (t : ℕ) → size % 4 ≡ 0 → FitsBlock size x
    → places_out e size (shares size row (x ∷ xs)) (long_of e size row x + t) ≡ places_in size (shares size row (x ∷ [])) ++ places_out e size (shares size (row_after size row x) xs) t
out_far e size [] x xs t words ok = refl
out_far e size (o ∷ row) x xs t words ok = elim (cases_Bool (takes size o x)) [
  | inl inside ↦
      let b : ℕ = o.block * size in
      let len : ℕ = length x in
      let at : ℕ = place_after size o.place len in
      let end : ℕ = end_after size o.place len in
      let n : ℕ = more_of size o x xs in
      let ts : List (List ℕ) = take n xs in
      let others : List Share = shares size row (drop n xs) in
      let goes = goes_here e size o row x inside in
      let front : List ℕ = gap e size o.place at ++ filled x in
      let ends : List ℕ = output e size end ts in
      let l : ℕ = long_of e size (o ∷ row) x in
      let long : l ≡ length front = ap length goes.output ∙ ap length (append-nil front) in
      let sum : o.place + length front ≡ end = first_out e size o.place x words ok in
      let place : ℕ × ℕ = (b + at, len) in
      let ps : List (ℕ × ℕ) = map (on_flash b) (places size end ts) in
      let limit : ℕ = b + o.place + (l + t) in
      let same : limit ≡ b + end + t = omega (arith, long, sum) in
      let low : b + at + len ≤ limit = omega (arith, long, sum, le_pad4 len) in
      let here : filter (within_by limit) (place ∷ ps) ≡ place ∷ filter (within_by (b + end + t)) ps =
      cond-true (leb (b + at + len) limit) (place ∷ filter (within_by limit) ps) (filter (within_by limit) ps) (le-leb (b + at + len) limit low)
      ∙ ap (λ (m : ℕ). place ∷ filter (within_by m) ps) same in
      let later : l + t - length (output e size o.place (x ∷ ts)) ≡ t - length ends = omega (arith, long, length-append front ends) in
      let rest : places_out e size (shares size (row_after size (o ∷ row) x) xs) t ≡ filter (within_by (b + end + t)) ps ++ places_out e size others (t - length ends) =
      ap (λ (r : List Opening). places_out e size (shares size r xs) t) goes.after in
      ap (λ (ss : List Share). places_out e size ss (l + t)) (shares_taken size o row x xs inside)
      ∙ (ap₂ (λ (ls : List (ℕ × ℕ)) (m : ℕ). ls ++ places_out e size others m) here later
      ∙ sym (ap₂ (λ (ls ms : List (ℕ × ℕ)). ls ++ ms) goes.places rest))
  | inr outside ↦
      let l : ℕ = long_of e size (o ∷ row) x in
      let same : l + t - 0 ≡ long_of e size row x + t = omega (arith, missed_long e size o row x outside) in
      ap (λ (ss : List Share). places_out e size ss (l + t)) (shares_missed size o row x xs outside)
      ∙ (ap (places_out e size (shares size row (x ∷ xs))) same
      ∙ (out_far e size row x xs t words ok
      ∙ sym (ap₂ (λ (ls ms : List (ℕ × ℕ)). ls ++ ms) (ap (places_in size) (shares_missed size o row x [] outside))
      (ap (λ (r : List Opening). places_out e size (shares size r xs) t) (after_missed size o row x outside)))))
]

-- or no more than its own
pub out_near : (e : Endian) (size : ℕ) (row : List Opening) (x : List ℕ) (xs : List (List ℕ)) (t : ℕ) → size % 4 ≡ 0 → FitsBlock size x → AllByRecursion (FitsBlock size) xs
    → t ≤ long_of e size row x → places_out e size (shares size row (x ∷ xs)) t ≡ places_out e size (shares size row (x ∷ [])) t
out_near e size [] x xs t words ok oks few = refl
out_near e size (o ∷ row) x xs t words ok oks few = elim (cases_Bool (takes size o x)) [
  | inl inside ↦
      let b : ℕ = o.block * size in
      let len : ℕ = length x in
      let at : ℕ = place_after size o.place len in
      let end : ℕ = end_after size o.place len in
      let n : ℕ = more_of size o x xs in
      let ts : List (List ℕ) = take n xs in
      let others : List Share = shares size row (drop n xs) in
      let goes = goes_here e size o row x inside in
      let front : List ℕ = gap e size o.place at ++ filled x in
      let ends : List ℕ = output e size end ts in
      let long : long_of e size (o ∷ row) x ≡ length front = ap length goes.output ∙ ap length (append-nil front) in
      let sum : o.place + length front ≡ end = first_out e size o.place x words ok in
      let place : ℕ × ℕ = (b + at, len) in
      let limit : ℕ = b + o.place + t in
      let none : filter (within_by limit) (map (on_flash b) (places size end ts)) ≡ [] =
      none_within b size end limit ts words (all_first (FitsBlock size) n xs oks) (omega (arith, long, sum, few)) in
      let left : t - length (output e size o.place (x ∷ ts)) ≡ 0 = omega (arith, long, length-append front ends, few) in
      let behind : places_out e size others (t - length (output e size o.place (x ∷ ts))) ≡ [] =
      none_first e size row (drop n xs) (t - length (output e size o.place (x ∷ ts))) words (all_behind (FitsBlock size) n xs oks) left in
      let one : List (ℕ × ℕ) = share_places_out size (o, x ∷ []) t in
      let here : filter (within_by limit) (place ∷ map (on_flash b) (places size end ts)) ≡ one =
      ap (λ (ls : List (ℕ × ℕ)). cond (leb (b + at + len) limit) (place ∷ ls) ls) none in
      ap (λ (ss : List Share). places_out e size ss t) (shares_taken size o row x xs inside)
      ∙ (ap₂ (λ (ls ms : List (ℕ × ℕ)). ls ++ ms) here behind ∙ (append-nil one ∙ sym (goes.told t)))
  | inr outside ↦
      let same : t - 0 ≡ t = omega arith in
      let ones : List Share = shares size row (x ∷ []) in
      ap (λ (ss : List Share). places_out e size ss t) (shares_missed size o row x xs outside)
      ∙ (ap (places_out e size (shares size row (x ∷ xs))) same
      ∙ (out_near e size row x xs t words ok oks (omega (arith, missed_long e size o row x outside, few))
      ∙ sym (ap (λ (ss : List Share). places_out e size ss t) (shares_missed size o row x [] outside) ∙ ap (places_out e size ones) same)))
]

-- ---- several forms

abbrev pub all_long : Endian → ℕ → List Opening → List (List ℕ) → ℕ
all_long e size row xs = length (output_to_all e size (shares size row xs))

long_step : (e : Endian) (size : ℕ) (row : List Opening) (x : List ℕ) (xs : List (List ℕ)) → all_long e size row (x ∷ xs) ≡ long_of e size row x + all_long e size (row_after size row x) xs
long_step e size row x xs =
    ap length (output_step e size row x xs) ∙ length-append (output_to_all e size (shares size row (x ∷ []))) (output_to_all e size (shares size (row_after size row x) xs))

pub none_long : (e : Endian) (size : ℕ) (row : List Opening) → all_long e size row [] ≡ 0
none_long e size row = ap length (no_output e size row)

pub all_far : (e : Endian) (size : ℕ) (row : List Opening) (xs ys : List (List ℕ)) (t : ℕ) → size % 4 ≡ 0 → AllByRecursion (FitsBlock size) xs
    → places_out e size (shares size row (xs ++ ys)) (all_long e size row xs + t) ≡ places_in size (shares size row xs) ++ places_out e size (shares size (row_after_all size row xs) ys) t
all_far e size row [] ys t words ok =
    let same : all_long e size row [] + t ≡ t = omega (arith, none_long e size row) in
    ap (places_out e size (shares size row ys)) same ∙ sym (ap (λ (ls : List (ℕ × ℕ)). ls ++ places_out e size (shares size row ys) t) (no_places size row))
all_far e size row (x ∷ xs) ys t words ok =
    let next : List Opening = row_after size row x in
    let rest : ℕ = all_long e size next xs in
    let same : all_long e size row (x ∷ xs) + t ≡ long_of e size row x + (rest + t) = omega (arith, long_step e size row x xs) in
    let one : List (ℕ × ℕ) = places_in size (shares size row (x ∷ [])) in
    let more : List (ℕ × ℕ) = places_out e size (shares size (row_after_all size next xs) ys) t in
    ap (places_out e size (shares size row (x ∷ (xs ++ ys)))) same
    ∙ (out_far e size row x (xs ++ ys) (rest + t) words ok.0
    ∙ (ap (λ (ls : List (ℕ × ℕ)). one ++ ls) (all_far e size next xs ys t words ok.1)
    ∙ (sym (append_assoc one (places_in size (shares size next xs)) more)
    ∙ sym (ap (λ (ls : List (ℕ × ℕ)). ls ++ more) (places_step size row x xs)))))

pub all_near : (e : Endian) (size : ℕ) (row : List Opening) (xs ys : List (List ℕ)) (t : ℕ) → size % 4 ≡ 0 → AllByRecursion (FitsBlock size) xs → AllByRecursion (FitsBlock size) ys
    → t ≤ all_long e size row xs → places_out e size (shares size row (xs ++ ys)) t ≡ places_out e size (shares size row xs) t
all_near e size row [] ys t words ok oks few =
    none_first e size row ys t words oks (omega (arith, none_long e size row, few)) ∙ sym (none_told e size row t)
all_near e size row (x ∷ xs) ys t words ok oks few = elim (cases_lt (long_of e size row x) t) [
  | inl far ↦
      let next : List Opening = row_after size row x in
      let k : ℕ = t - long_of e size row x in
      let same : t ≡ long_of e size row x + k = omega arith in
      let one : List (ℕ × ℕ) = places_in size (shares size row (x ∷ [])) in
      ap (places_out e size (shares size row (x ∷ (xs ++ ys)))) same
      ∙ (out_far e size row x (xs ++ ys) k words ok.0
      ∙ (ap (λ (ls : List (ℕ × ℕ)). one ++ ls) (all_near e size next xs ys k words ok.1 oks (omega (arith, long_step e size row x xs, few)))
      ∙ (sym (out_far e size row x xs k words ok.0) ∙ sym (ap (places_out e size (shares size row (x ∷ xs))) same))))
  | inr near ↦
      let low : t ≤ long_of e size row x = omega arith in
      out_near e size row x (xs ++ ys) t words ok.0 (all_both (FitsBlock size) xs ys ok.1 oks) low
      ∙ sym (out_near e size row x xs t words ok.0 ok.1 low)
]
  where
    all_both : {X : Type 0} (P : X → Type 0) (ks ls : List X) → AllByRecursion P ks → AllByRecursion P ls → AllByRecursion P (ks ++ ls)
    all_both P [] ls p q = q
    all_both P (k ∷ ks) ls p q = (p.0, all_both P ks ls p.1 q)

-- all bytes went out, and all places are told
pub all_told : (e : Endian) (size : ℕ) (row : List Opening) (xs : List (List ℕ)) → size % 4 ≡ 0 → AllByRecursion (FitsBlock size) xs
    → places_out e size (shares size row xs) (all_long e size row xs) ≡ places_in size (shares size row xs)
all_told e size row xs words ok =
    let same : all_long e size row xs ≡ all_long e size row xs + 0 = omega arith in
    let none : places_out e size (shares size (row_after_all size row xs) []) 0 ≡ [] = none_told e size (row_after_all size row xs) 0 in
    ap₂ (λ (fs : List (List ℕ)) (m : ℕ). places_out e size (shares size row fs) m) (sym (append-nil xs)) same
    ∙ (all_far e size row xs [] 0 words ok
    ∙ (ap (λ (ls : List (ℕ × ℕ)). places_in size (shares size row xs) ++ ls) none ∙ append-nil (places_in size (shares size row xs))))
