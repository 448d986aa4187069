-- What went out to each opening of a row, and what one form adds to it.
use Rattle.std.proofs.Common.{◌≡◌, ℕ, zero, suc, ◌+◌, ◌-◌, ◌*◌, ◌%◌, ◌<◌, ◌≤◌, cond, Bool, true, false, List, [], ◌∷◌, ◌++◌, length, map, take, drop, get_or, set, refl, sym, ap, ap₂, subst, ◌∙◌, arith, inl, inr, Option, Some, None, append-nil}
use Rattle.std.specs.Prelude.{◌==◌, nat_le, slice_get}
use Rattle.std.specs.List.{AllByRecursion}
use Rattle.std.proofs.Math.Seq.{take-suc}
use Rattle.std.proofs.lemmas.Bool.{cases_Bool, cond-true, cond-false, eqb-true, eq-eqb, true≢false}
use Rattle.std.proofs.lemmas.List.{length-map}
use Rattle.jnode.specs.Writing.{filled}
use Rattle.jnode.specs.declared.order.Endian.{Endian}
use Rattle.jlog.specs.Laws.{FitsBlock}
use Rattle.jlog.specs.Output.{gap}
use Rattle.jlog.specs.Places.{place_after, end_after}
use Rattle.jlog.proofs.IntactLemmas.{first_out}
use Rattle.jrow.proofs.WithRowLemmas.{not_same}
use Rattle.jrests.specs.Openings.{AreUpwards}
use Rattle.jrests.specs.Shares.{taken_from, shares, output_to}
use Rattle.jrests.specs.declared.opening.Opening.{Opening}
use Rattle.jopenings.specs.After.{takes, moved_opening, row_after, row_after_all}
use Rattle.jopenings.specs.Stretches.{AreStretches, len_in, longer, longer_by, stretches_of}
use Rattle.jopenings.specs.declared.placing.Stretch.{Stretch}
use Rattle.jopenings.proofs.AfterLemmas.{shares_missed, shares_taken}
use Rattle.jopenings.proofs.LongerLemmas.{stretches_go_on}
use Rattle.jupdate.specs.Rows.{IsOpen, begins_of, ended, ends_of, gone_on, opened, reached, unwritten}
use Rattle.jupdate.proofs.RowLemmas.{after_missed, after_taken, gone, reached_here, reached_next}

-- ---- where an opening goes on

pub begin_some : (ss : List Stretch) (i : ℕ) (s : Stretch) → slice_get ss i ≡ Some s → gone_on (drop i (ends_of ss)) (s.place + s.len) ≡ drop i (ends_of ss)
begin_some [] i s is = cc
begin_some (x ∷ ss) zero s is =
    let same : s ≡ x = cc in
    ap (λ (y : Stretch). gone (ended x) (y.place + y.len) ∷ ends_of ss) same
begin_some (x ∷ ss) (suc i) s is = begin_some ss i s is

pub begin_none : (ss : List Stretch) (i : ℕ) → slice_get ss i ≡ None → gone_on (drop i (ends_of ss)) 0 ≡ drop i (ends_of ss)
begin_none [] zero is = refl
begin_none [] (suc i) is = refl
begin_none (x ∷ ss) zero is = cc
begin_none (x ∷ ss) (suc i) is = begin_none ss i is

pub within_block : (size lo blocks : ℕ) (ss : List Stretch) (i : ℕ) (s : Stretch) → AreStretches size lo blocks ss → slice_get ss i ≡ Some s → s.place + s.len ≤ size
within_block size lo blocks [] i s are is = cc
within_block size lo blocks (x ∷ ss) zero s are is = let same : x ≡ s = cc in subst (λ (y : Stretch). y.place + y.len ≤ size) same are.2
within_block size lo blocks (x ∷ ss) (suc i) s are is = within_block size (x.block + 1) blocks ss i s are.3 is

pub many_ends : (ss : List Stretch) → length (ends_of ss) ≡ length ss
many_ends ss = length-map ss ended

-- ---- one stretch that is longer

pub head_at : (ss : List Stretch) (p : ℕ) (d : Stretch) → p < length ss → drop p (ends_of ss) ≡ ended (get_or ss p d) ∷ drop (suc p) (ends_of ss)
head_at [] p d below = absurd (omega arith)
head_at (x ∷ ss) zero d below = refl
head_at (x ∷ ss) (suc p) d below = head_at ss p d (omega (arith, below))

pub none_at : (ss : List Stretch) (p : ℕ) → length ss ≤ p → drop p (ends_of ss) ≡ []
none_at [] zero past = refl
none_at [] (suc p) past = refl
none_at (x ∷ ss) zero past = absurd (omega (arith, past))
none_at (x ∷ ss) (suc p) past = none_at ss p (omega (arith, past))

pub head_set : (ss : List Stretch) (p : ℕ) (s : Stretch) → p < length ss → drop p (ends_of (set ss p s)) ≡ ended s ∷ drop (suc p) (ends_of ss)
head_set [] p s below = absurd (omega arith)
head_set (x ∷ ss) zero s below = refl
head_set (x ∷ ss) (suc p) s below = head_set ss p s (omega (arith, below))

pub begins_set : (ss : List Stretch) (p : ℕ) (d s : Stretch) → p < length ss → opened s ≡ opened (get_or ss p d) → begins_of (set ss p s) ≡ begins_of ss
begins_set [] p d s below same = absurd (omega arith)
begins_set (x ∷ ss) zero d s below same = ap (λ (o : Opening). o ∷ begins_of ss) same
begins_set (x ∷ ss) (suc p) d s below same = ap (λ (l : List Opening). opened x ∷ l) (begins_set ss p d s (omega (arith, below)) same)

pub within_set : (size lo blocks : ℕ) (ss : List Stretch) (p : ℕ) (d s : Stretch) → AreStretches size lo blocks ss → p < length ss → s.block ≡ (get_or ss p d).block → s.place + s.len ≤ size
    → AreStretches size lo blocks (set ss p s)
within_set size lo blocks [] p d s are below same short = absurd (omega arith)
within_set size lo blocks (x ∷ ss) zero d s are below same short =
    (omega (arith, are.0, same), omega (arith, are.1, same), short, subst (λ (b : ℕ). AreStretches size (b + 1) blocks ss) (sym same) are.3)
within_set size lo blocks (x ∷ ss) (suc p) d s are below same short =
    (are.0, are.1, are.2, within_set size (x.block + 1) blocks ss p d s are.3 (omega (arith, below)) same short)

-- ---- the blocks of stretches are those of the row, and of what is left of it

pub begins_upwards : (size lo blocks : ℕ) (ss : List Stretch) → AreStretches size lo blocks ss → AreUpwards lo blocks (begins_of ss)
begins_upwards size lo blocks [] are = tt
begins_upwards size lo blocks (s ∷ ss) are = (are.0, are.1, begins_upwards size (s.block + 1) blocks ss are.3)

ends_upwards : (size lo blocks : ℕ) (ss : List Stretch) → AreStretches size lo blocks ss → AreUpwards lo blocks (ends_of ss)
ends_upwards size lo blocks [] are = tt
ends_upwards size lo blocks (s ∷ ss) are = (are.0, are.1, ends_upwards size (s.block + 1) blocks ss are.3)

lower : (lo high blocks : ℕ) (row : List Opening) → lo ≤ high → AreUpwards high blocks row → AreUpwards lo blocks row
lower lo high blocks [] less up = tt
lower lo high blocks (o ∷ row) less up = (omega (arith, less, up.0), up.1, up.2)

drop_upwards : (lo blocks p : ℕ) (row : List Opening) → AreUpwards lo blocks row → AreUpwards lo blocks (drop p row)
drop_upwards lo blocks zero row up = up
drop_upwards lo blocks (suc p) [] up = tt
drop_upwards lo blocks (suc p) (o ∷ row) up = lower lo (o.block + 1) blocks (drop p row) (omega (arith, up.0)) (drop_upwards (o.block + 1) blocks p row up.2)

pub left_is_upwards : (size blocks p : ℕ) (ss : List Stretch) → AreStretches size 0 blocks ss → AreUpwards 0 blocks (drop p (ends_of ss))
left_is_upwards size blocks p ss are = drop_upwards 0 blocks p (ends_of ss) (ends_upwards size 0 blocks ss are)

-- ---- openings to which nothing went out

pub ends_unwritten : (row : List Opening) → ends_of (map unwritten row) ≡ row
ends_unwritten [] = refl
ends_unwritten (o ∷ row) =
    let same : o.place + 0 ≡ o.place = omega arith in
    ap₂ (λ (p : ℕ) (l : List Opening). gone o p ∷ l) same (ends_unwritten row)

pub unwritten_are : (size lo blocks : ℕ) (row : List Opening) → AreUpwards lo blocks row → AllByRecursion (IsOpen size blocks) row → AreStretches size lo blocks (map unwritten row)
unwritten_are size lo blocks [] up opens = tt
unwritten_are size lo blocks (o ∷ row) up opens = (up.0, up.1, omega (arith, opens.0.inside), unwritten_are size (o.block + 1) blocks row up.2 opens.1)

-- ---- what one form adds

abbrev pub added : Endian → ℕ → List Opening → List (List ℕ) → List Stretch
added e size row forms = stretches_of e size (shares size row forms)

no_bytes_in : (e : Endian) (size b : ℕ) (row : List Opening) → len_in (added e size row []) b ≡ 0
no_bytes_in e size b [] = refl
no_bytes_in e size b (o ∷ row) = elim (cases_Bool (o.block == b)) [
  | inl same ↦ cond-true (o.block == b) 0 (len_in (added e size row []) b) same
  | inr other ↦ cond-false (o.block == b) 0 (len_in (added e size row []) b) other ∙ no_bytes_in e size b row
]

-- it goes to a block of the row
reached_block : (size len lo blocks : ℕ) (row : List Opening) (o : Opening) (rest : List Opening) → AreUpwards lo blocks row → reached size row len ≡ o ∷ rest → lo ≤ o.block
reached_block size len lo blocks [] o rest up is = cc
reached_block size len lo blocks (p ∷ row) o rest up is = elim (cases_Bool (nat_le (place_after size p.place len + len) size)) [
  | inl inside ↦
      let at : p ∷ row ≡ o ∷ rest = sym (reached_here size len p row inside) ∙ is in
      let first : p ≡ o = cc in
      subst (λ (q : Opening). lo ≤ q.block) first up.0
  | inr outside ↦
      let later = reached_block size len (p.block + 1) blocks row o rest up.2 (sym (reached_next size len p row outside) ∙ is) in
      omega (arith, later, up.0)
]

pub one_in : (e : Endian) (size lo blocks b : ℕ) (row : List Opening) (x : List ℕ) (o : Opening) (rest : List Opening) → AreUpwards lo blocks row → reached size row (length x) ≡ o ∷ rest
    → len_in (added e size row (x ∷ [])) b ≡ cond (o.block == b) (length (output_to e size (o, x ∷ []))) 0
one_in e size lo blocks b [] x o rest up is = cc
one_in e size lo blocks b (p ∷ row) x o rest up is = elim (cases_Bool (takes size p x)) [
  | inl inside ↦
      let at : p ∷ row ≡ o ∷ rest = sym (reached_here size (length x) p row inside) ∙ is in
      let first : p ≡ o = cc in
      let one : ℕ = length (output_to e size (p, x ∷ [])) in
      let here : len_in (added e size (p ∷ row) (x ∷ [])) b ≡ cond (p.block == b) one (len_in (added e size row []) b) =
      ap (λ ss. len_in (stretches_of e size ss) b) (shares_taken size p row x [] inside) in
      subst (λ (q : Opening). len_in (added e size (p ∷ row) (x ∷ [])) b ≡ cond (q.block == b) (length (output_to e size (q, x ∷ []))) 0) first
      (here ∙ ap (cond (p.block == b) one) (no_bytes_in e size b row))
  | inr outside ↦
      let far : reached size row (length x) ≡ o ∷ rest = sym (reached_next size (length x) p row outside) ∙ is in
      let here : len_in (added e size (p ∷ row) (x ∷ [])) b ≡ cond (p.block == b) 0 (len_in (added e size row (x ∷ [])) b) =
      ap (λ ss. len_in (stretches_of e size ss) b) (shares_missed size p row x [] outside) in
      let high : p.block + 1 ≤ o.block = reached_block size (length x) (p.block + 1) blocks row o rest up.2 far in
      elim (cases_Bool (p.block == b)) [
        | inl same ↦
            let differ : (o.block == b) ≡ false = not_same o.block b (λ is. omega (arith, is, high, eqb-true p.block b same)) in
            here ∙ (cond-true (p.block == b) 0 (len_in (added e size row (x ∷ [])) b) same ∙ sym (cond-false (o.block == b) (length (output_to e size (o, x ∷ []))) 0 differ))
        | inr other ↦
            here ∙ (cond-false (p.block == b) 0 (len_in (added e size row (x ∷ [])) b) other ∙ one_in e size (p.block + 1) blocks b row x o rest up.2 far)
      ]
]

-- so one stretch is longer, and the others are as they were
abbrev grown : ℕ → ℕ → Stretch → Stretch
grown b n s = record s { len = s.len + cond (b == s.block) n 0 }

others_stay : (size lo blocks b n : ℕ) (ss : List Stretch) → AreStretches size lo blocks ss → b < lo → map (grown b n) ss ≡ ss
others_stay size lo blocks b n [] are less = refl
others_stay size lo blocks b n (s ∷ ss) are less =
    let differ : (b == s.block) ≡ false = not_same b s.block (λ is. omega (arith, is, are.0, less)) in
    let none : s.len + cond (b == s.block) n 0 ≡ s.len = omega (arith, cond-false (b == s.block) n 0 differ) in
    ap₂ (λ (k : ℕ) (l : List Stretch). (let t : Stretch = record { block = s.block; place = s.place; len = k } in t) ∷ l) none (others_stay size (s.block + 1) blocks b n ss are.3 (omega (arith, are.0, less)))

pub grown_set : (size lo blocks b n : ℕ) (ss : List Stretch) (p : ℕ) (d s : Stretch) → AreStretches size lo blocks ss → p < length ss → b ≡ (get_or ss p d).block
    → s ≡ record (get_or ss p d) { len = (get_or ss p d).len + n } → set ss p s ≡ map (grown b n) ss
grown_set size lo blocks b n [] p d s are below at is = absurd (omega arith)
grown_set size lo blocks b n (x ∷ ss) zero d s are below at is =
    let here : x.len + cond (b == x.block) n 0 ≡ x.len + n = omega (arith, cond-true (b == x.block) n 0 (eq-eqb b x.block at)) in
    ap₂ (λ (t : Stretch) (l : List Stretch). t ∷ l)
    (is ∙ ap (λ (k : ℕ). (let t : Stretch = record { block = x.block; place = x.place; len = k } in t)) (sym here))
    (sym (others_stay size (x.block + 1) blocks b n ss are.3 (omega (arith, at))))
grown_set size lo blocks b n (x ∷ ss) (suc p) d s are below at is =
    let high : x.block + 1 ≤ b = subst (λ (c : ℕ). x.block + 1 ≤ c) (sym at) (block_at size (x.block + 1) blocks ss p d are.3 (omega (arith, below))) in
    let differ : (b == x.block) ≡ false = not_same b x.block (λ same. omega (arith, same, high)) in
    let none : x.len ≡ x.len + cond (b == x.block) n 0 = omega (arith, cond-false (b == x.block) n 0 differ) in
    ap₂ (λ (k : ℕ) (l : List Stretch). (let t : Stretch = record { block = x.block; place = x.place; len = k } in t) ∷ l) none (grown_set size (x.block + 1) blocks b n ss p d s are.3 (omega (arith, below)) at is)
  where
    block_at : (size lo blocks : ℕ) (ss : List Stretch) (p : ℕ) (d : Stretch) → AreStretches size lo blocks ss → p < length ss → lo ≤ (get_or ss p d).block
    block_at size lo blocks [] p d are below = absurd (omega arith)
    block_at size lo blocks (y ∷ ss) zero d are below = are.0
    block_at size lo blocks (y ∷ ss) (suc p) d are below = let up = block_at size (y.block + 1) blocks ss p d are.3 (omega (arith, below)) in omega (arith, up, are.0)

longer_map : (more : List Stretch) (b n : ℕ) (ss : List Stretch) → ((c : ℕ) → len_in more c ≡ cond (b == c) n 0) → longer more ss ≡ map (grown b n) ss
longer_map more b n [] same = refl
longer_map more b n (s ∷ ss) same =
    ap₂ (λ (k : ℕ) (l : List Stretch). (let t : Stretch = record { block = s.block; place = s.place; len = s.len + k } in t) ∷ l) (same s.block) (longer_map more b n ss same)

pub one_longer : (e : Endian) (size blocks : ℕ) (row : List Opening) (x : List ℕ) (o : Opening) (rest : List Opening) (ss : List Stretch) (p : ℕ) (d s : Stretch) → AreUpwards 0 blocks row → AreStretches size 0 blocks ss
    → reached size row (length x) ≡ o ∷ rest → p < length ss → o.block ≡ (get_or ss p d).block → s ≡ record (get_or ss p d) { len = (get_or ss p d).len + length (output_to e size (o, x ∷ [])) }
    → set ss p s ≡ longer (added e size row (x ∷ [])) ss
one_longer e size blocks row x o rest ss p d s up are is below at s_is =
    let n : ℕ = length (output_to e size (o, x ∷ [])) in
    grown_set size 0 blocks o.block n ss p d s are below at s_is
    ∙ sym (longer_map (added e size row (x ∷ [])) o.block n ss (λ c. one_in e size 0 blocks c row x o rest up is))

-- how many bytes it has
pub one_long : (e : Endian) (size : ℕ) (o : Opening) (x : List ℕ) → size % 4 ≡ 0 → FitsBlock size x → o.place + length (output_to e size (o, x ∷ [])) ≡ end_after size o.place (length x)
one_long e size o x words ok =
    let front : List ℕ = gap e size o.place (place_after size o.place (length x)) ++ filled x in
    omega (arith, ap length (append-nil front), first_out e size o.place x words ok)

-- ---- several forms

pub none_longer : (e : Endian) (size : ℕ) (row : List Opening) (ss : List Stretch) → longer (added e size row []) ss ≡ ss
none_longer e size row [] = refl
none_longer e size row (s ∷ ss) =
    let none : s.len + len_in (added e size row []) s.block ≡ s.len = omega (arith, no_bytes_in e size s.block row) in
    ap₂ (λ (k : ℕ) (l : List Stretch). (let t : Stretch = record { block = s.block; place = s.place; len = k } in t) ∷ l) none (none_longer e size row ss)

-- the blocks of a row
has_block : List Opening → ℕ → Bool
has_block [] b = false
has_block (o ∷ row) b = cond (o.block == b) true (has_block row b)

-- to the others nothing goes out, and no opening of them is left
none_beside : (e : Endian) (size b : ℕ) (row : List Opening) (forms : List (List ℕ)) → has_block row b ≡ false → len_in (added e size row forms) b ≡ 0
unfolding has_block
none_beside e size b [] forms none = refl
none_beside e size b (o ∷ row) forms none = elim (cases_Bool (o.block == b)) [
  | inl same ↦ absurd (true≢false (sym (cond-true (o.block == b) true (has_block row b) same) ∙ none))
  | inr other ↦
      let n : ℕ = taken_from size o.place forms in
      cond-false (o.block == b) (length (output_to e size (o, take n forms))) (len_in (added e size row (drop n forms)) b) other
      ∙ none_beside e size b row (drop n forms) (sym (cond-false (o.block == b) true (has_block row b) other) ∙ none)
]

none_after : (size b : ℕ) (row : List Opening) (x : List ℕ) → has_block row b ≡ false → has_block (row_after size row x) b ≡ false
unfolding has_block
none_after size b [] x none = refl
none_after size b (o ∷ row) x none = elim (cases_Bool (o.block == b)) [
  | inl same ↦ absurd (true≢false (sym (cond-true (o.block == b) true (has_block row b) same) ∙ none))
  | inr other ↦
      let later : has_block row b ≡ false = sym (cond-false (o.block == b) true (has_block row b) other) ∙ none in
      elim (cases_Bool (takes size o x)) [
        | inl inside ↦ ap (λ (r : List Opening). has_block r b) (after_taken size o row x inside) ∙ none
        | inr outside ↦ ap (λ (r : List Opening). has_block r b) (after_missed size o row x outside) ∙ none_after size b row x later
      ]
]

none_after_all : (size b : ℕ) (row : List Opening) (xs : List (List ℕ)) → has_block row b ≡ false → has_block (row_after_all size row xs) b ≡ false
none_after_all size b row [] none = none
none_after_all size b row (x ∷ xs) none = none_after_all size b (row_after size row x) xs (none_after size b row x none)

-- a stretch of the row is longer by what goes out to its block
len_longer : (e : Endian) (size b : ℕ) (row : List Opening) (forms : List (List ℕ)) (more : List Stretch) → has_block row b ≡ true → len_in (longer more (added e size row forms)) b ≡ len_in (added e size row forms) b + len_in more b
unfolding has_block
len_longer e size b [] forms more some = absurd (true≢false (sym some))
len_longer e size b (o ∷ row) forms more some = elim (cases_Bool (o.block == b)) [
  | inl same ↦
      let n : ℕ = taken_from size o.place forms in
      let l : ℕ = length (output_to e size (o, take n forms)) in
      let rest : ℕ = len_in (added e size row (drop n forms)) b in
      let here = cond-true (o.block == b) (l + len_in more o.block) (len_in (longer more (added e size row (drop n forms))) b) same in
      here ∙ (ap (λ (c : ℕ). l + len_in more c) (eqb-true o.block b same) ∙ ap (λ (k : ℕ). k + len_in more b) (sym (cond-true (o.block == b) l rest same)))
  | inr other ↦
      let n : ℕ = taken_from size o.place forms in
      let l : ℕ = length (output_to e size (o, take n forms)) in
      let rest : ℕ = len_in (added e size row (drop n forms)) b in
      cond-false (o.block == b) (l + len_in more o.block) (len_in (longer more (added e size row (drop n forms))) b) other
      ∙ (len_longer e size b row (drop n forms) more (sym (cond-false (o.block == b) true (has_block row b) other) ∙ some)
      ∙ ap (λ (k : ℕ). k + len_in more b) (sym (cond-false (o.block == b) l rest other)))
]

bytes_go_on : (e : Endian) (size blocks b : ℕ) (row : List Opening) (forms more : List (List ℕ)) → AreUpwards 0 blocks row
    → len_in (added e size row (forms ++ more)) b ≡ len_in (added e size row forms) b + len_in (added e size (row_after_all size row forms) more) b
bytes_go_on e size blocks b row forms more up = elim (cases_Bool (has_block row b)) [
  | inl some ↦
      ap (λ (ss : List Stretch). len_in ss b) (stretches_go_on e size blocks row forms more up)
      ∙ len_longer e size b row forms (added e size (row_after_all size row forms) more) some
  | inr none ↦
      let left : List Opening = row_after_all size row forms in
      omega (arith, none_beside e size b row (forms ++ more) none, none_beside e size b row forms none, none_beside e size b left more (none_after_all size b row forms none))
]

pub longer_on : (e : Endian) (size blocks : ℕ) (row : List Opening) (forms more : List (List ℕ)) (ss : List Stretch) → AreUpwards 0 blocks row
    → longer (added e size row (forms ++ more)) ss ≡ longer (added e size (row_after_all size row forms) more) (longer (added e size row forms) ss)
longer_on e size blocks row forms more [] up = refl
longer_on e size blocks row forms more (s ∷ ss) up =
    let both : s.len + len_in (added e size row (forms ++ more)) s.block ≡ s.len + len_in (added e size row forms) s.block + len_in (added e size (row_after_all size row forms) more) s.block =
    omega (arith, bytes_go_on e size blocks s.block row forms more up) in
    ap₂ (λ (k : ℕ) (l : List Stretch). (let t : Stretch = record { block = s.block; place = s.place; len = k } in t) ∷ l) both (longer_on e size blocks row forms more ss up)

-- more of them after the first ones
pub longer_more : (e : Endian) (size blocks : ℕ) (row : List Opening) (forms more : List (List ℕ)) (now : List Opening) (ss mid new : List Stretch) → AreUpwards 0 blocks row
    → now ≡ row_after_all size row forms → mid ≡ longer (added e size row forms) ss → new ≡ longer (added e size now more) mid → new ≡ longer (added e size row (forms ++ more)) ss
longer_more e size blocks row forms more now ss mid new up now_is mid_is new_is =
    new_is
    ∙ (ap₂ (λ (r : List Opening) (l : List Stretch). longer (added e size r more) l) now_is mid_is ∙ sym (longer_on e size blocks row forms more ss up))

-- the first so many, and the next one
pub longer_next : (e : Endian) (size blocks : ℕ) (row : List Opening) (forms : List (List ℕ)) (i : ℕ) (v f : List ℕ) (now : List Opening) (ss mid new : List Stretch) → AreUpwards 0 blocks row → i < length forms → f ≡ get_or forms i v
    → now ≡ row_after_all size row (take i forms) → mid ≡ longer (added e size row (take i forms)) ss → new ≡ longer (added e size now (f ∷ [])) mid → new ≡ longer (added e size row (take (suc i) forms)) ss
longer_next e size blocks row forms i v f now ss mid new up below has now_is mid_is new_is =
    let also : take i forms ++ f ∷ [] ≡ take (suc i) forms = ap (λ (t : List ℕ). take i forms ++ t ∷ []) has ∙ sym (take-suc forms i v below) in
    longer_more e size blocks row (take i forms) (f ∷ []) now ss mid new up now_is mid_is new_is ∙ ap (λ (fs : List (List ℕ)). longer (added e size row fs) ss) also
