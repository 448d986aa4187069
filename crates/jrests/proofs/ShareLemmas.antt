-- What goes to each opening, and which forms are whole.
use Rattle.std.proofs.Common.{◌≡◌, ℕ, zero, suc, ◌+◌, ◌-◌, ◌*◌, ◌%◌, ◌≤◌, Bool, true, false, List, [], ◌∷◌, ◌++◌, length, take, drop, get_or, refl, sym, ap, ap₂, ◌∙◌, arith, inl, inr, append_assoc, append-nil, take-append-drop}
use Rattle.std.specs.Prelude.{IsTrue, flat_map, nat_le, ◌==◌, ◌&&◌, bytes_eq}
use Rattle.std.specs.List.{AllByRecursion}
use Rattle.std.proofs.Math.Seq.{take-append-add}
use Rattle.std.proofs.lemmas.Bool.{cases_Bool, cases_lt, eqb-true}
use Rattle.std.proofs.lemmas.List.{take_all, take-append-le, get_or-replicate}
use Rattle.std.proofs.lemmas.Slice.Eq.{bytes_eq-Decides}
use Rattle.flashbase.specs.Bytes.{erased, pad4_of}
use Rattle.jnode.specs.Weak.{torn}
use Rattle.jnode.specs.declared.order.Endian.{Endian}
use Rattle.jlog.specs.Places.{place_after, end_after, fit}
use Rattle.jlog.specs.Left.{intact}
use Rattle.jlog.specs.Laws.{FitsBlock}
use Rattle.jlog.specs.Forms.{IsStorableForm}
use Rattle.jlog.proofs.IntactLemmas.{intact_is_counted, all_is_intact}
use Rattle.jlog.proofs.LeftLemmas.{forms_have_room}
use Rattle.jrests.specs.Left.{kept_in_shares, whole_in_shares}
use Rattle.jrests.specs.LeftLaws.{SharesHoldAll, SharesFit}
use Rattle.jrests.specs.Shares.{taken_from, Share, shares, left_out, output_to}
use Rattle.jrests.specs.declared.opening.Opening.{Opening}

-- ---- each share fits its block

pub taken_fits : (size place : ℕ) (forms : List (List ℕ)) → IsTrue (fit size 1 place (take (taken_from size place forms) forms))
taken_fits size place [] = refl
taken_fits size place (x ∷ xs) = elim (cases_Bool (nat_le (place_after size place (length x) + length x) size)) [
  | inl inside ↦
      let one : size ≡ 1 * size = omega arith in
      let here : nat_le (place_after size place (length x) + length x) (1 * size) ≡ true = ap (nat_le (place_after size place (length x) + length x)) (sym one) ∙ inside in
      rw inside (ap₂ (λ (a b : Bool). a && b) here (taken_fits size (end_after size place (length x)) xs))
  | inr outside ↦ rw outside refl
]

pub shares_fit : SharesFit
shares_fit size [] forms = tt
shares_fit size (o ∷ row) forms = (taken_fits size o.place forms, shares_fit size row (drop (taken_from size o.place forms) forms))

-- ---- they hold all forms

split_forms : (n : ℕ) (forms : List (List ℕ)) → take n forms ++ drop n forms ≡ forms
split_forms n forms = take-append-drop n forms

shares_split : (size : ℕ) (row : List Opening) (forms : List (List ℕ)) → flat_map (λ share. share.1) (shares size row forms) ++ left_out size row forms ≡ forms
shares_split size [] forms = refl
shares_split size (o ∷ row) forms =
    let n : ℕ = taken_from size o.place forms in
    let rest : List (List ℕ) = drop n forms in
    append_assoc (take n forms) (flat_map (λ share. share.1) (shares size row rest)) (left_out size row rest)
    ∙ (ap (λ (l : List (List ℕ)). take n forms ++ l) (shares_split size row rest) ∙ split_forms n forms)

none_left : (forms : List (List ℕ)) → (length forms == 0) ≡ true → forms ≡ []
none_left [] is = refl
none_left (x ∷ xs) is = absurd (omega (arith, eqb-true (length (x ∷ xs)) 0 is))

pub shares_hold_all : SharesHoldAll
shares_hold_all size row forms room =
    sym (append-nil (flat_map (λ share. share.1) (shares size row forms)))
    ∙ (ap (λ (l : List (List ℕ)). flat_map (λ share. share.1) (shares size row forms) ++ l) (sym (none_left (left_out size row forms) room))
    ∙ shares_split size row forms)

-- ---- those that are whole

pub few_intact : (size from k : ℕ) (forms : List (List ℕ)) → intact size from k forms ≤ length forms
few_intact size from k [] = omega arith
few_intact size from k (x ∷ xs) =
    let at : ℕ = place_after size from (length x) in
    let end : ℕ = at + pad4_of (length x) in
    elim (cases_Bool (bytes_eq (torn x (k - (at - from))) x)) [
      | inl whole ↦ rw whole (let later = few_intact size end (k - (end - from)) xs in omega (arith, later))
      | inr cut ↦ rw cut (omega arith)
    ]

torn_none : (size : ℕ) (x : List ℕ) → FitsBlock size x → bytes_eq (torn x 0) x ≡ false
torn_none size x fits = elim (cases_Bool (bytes_eq (torn x 0) x)) [
  | inl same ↦
      let is : erased (length x - 0) ≡ x = (bytes_eq-Decides _ _).0 same in
      let all : length x - 0 ≡ length x = omega arith in
      let first : get_or x 0 0 ≡ 0xFF =
      ap (λ (l : List ℕ). get_or l 0 0) (sym is) ∙ (ap (λ (n : ℕ). get_or (erased n) 0 0) all ∙ get_or-replicate (length x) 0 0xFF 0 fits.some) in
      absurd (fits.written first)
  | inr other ↦ other
]

none_intact : (size from : ℕ) (forms : List (List ℕ)) → AllByRecursion (FitsBlock size) forms → intact size from 0 forms ≡ 0
none_intact size from [] fits = refl
none_intact size from (x ∷ xs) fits =
    let at : ℕ = place_after size from (length x) in
    let none : 0 - (at - from) ≡ 0 = omega arith in
    let cut : bytes_eq (torn x (0 - (at - from))) x ≡ false = ap (λ (n : ℕ). bytes_eq (torn x n) x) none ∙ torn_none size x fits.0 in
    rw cut refl

-- forms of shares, each of which its block holds
abbrev pub AllRoomy : ℕ → List Share → Type 0
AllRoomy size shares = AllByRecursion (λ (share : Share). AllByRecursion (FitsBlock size) share.1) shares

none_whole : (e : Endian) (size : ℕ) (shares : List Share) → size % 4 ≡ 0 → AllRoomy size shares → (kept_in_shares e size shares 0 ≡ []) × (whole_in_shares e size shares 0 ≡ 0)
none_whole e size [] words roomy = (refl, refl)
none_whole e size (s ∷ more) words roomy =
    let out : List ℕ = output_to e size s in
    let none : 0 - length out ≡ 0 = omega arith in
    let here : intact size s.0.place 0 s.1 ≡ 0 = none_intact size s.0.place s.1 roomy.0 in
    let count = intact_is_counted e size s.0.place 0 s.1 words roomy.0 in
    let later = none_whole e size more words roomy.1 in
    let none_more : 0 + whole_in_shares e size more 0 ≡ 0 = omega (arith, later.1) in (
      ap₂ (λ (n m : ℕ). take n s.1 ++ kept_in_shares e size more m) here none ∙ later.0,
      ap₂ (λ (n m : ℕ). n + whole_in_shares e size more m) (count ∙ here) none ∙ none_more,
    )

-- they are the first ones
pub kept_are_first : (e : Endian) (size k : ℕ) (shares : List Share) → size % 4 ≡ 0 → AllRoomy size shares
    → kept_in_shares e size shares k ≡ take (whole_in_shares e size shares k) (flat_map (λ share. share.1) shares)
kept_are_first e size k [] words roomy = refl
kept_are_first e size k (s ∷ more) words roomy =
    let out : List ℕ = output_to e size s in
    let i : ℕ = intact size s.0.place k s.1 in
    let rest : List (List ℕ) = flat_map (λ share. share.1) more in
    let w : ℕ = whole_in_shares e size more (k - length out) in
    let count = intact_is_counted e size s.0.place k s.1 words roomy.0 in
    let sum : whole_in_shares e size (s ∷ more) k ≡ i + w = ap (λ (n : ℕ). n + w) count in
    elim (cases_lt k (length out)) [
      | inl cut ↦
          let none : k - length out ≡ 0 = omega (arith, cut) in
          let later = none_whole e size more words roomy.1 in
          let w_none : w ≡ 0 = ap (whole_in_shares e size more) none ∙ later.1 in
          let kept_none : kept_in_shares e size more (k - length out) ≡ [] = ap (kept_in_shares e size more) none ∙ later.0 in
          let few : i ≤ length s.1 = few_intact size s.0.place k s.1 in
          let is : whole_in_shares e size (s ∷ more) k ≡ i = omega (arith, sum, w_none) in
          ap (λ (l : List (List ℕ)). take i s.1 ++ l) kept_none
          ∙ (append-nil (take i s.1)
          ∙ (sym (take-append-le i s.1 rest few) ∙ ap (λ (n : ℕ). take n (s.1 ++ rest)) (sym is)))
      | inr all ↦
          let whole : i ≡ length s.1 = all_is_intact e size s.0.place k s.1 words roomy.0 (omega (arith, all)) in
          let is : whole_in_shares e size (s ∷ more) k ≡ length s.1 + w = omega (arith, sum, whole) in
          ap₂ (λ (xs ys : List (List ℕ)). xs ++ ys) (take_all i s.1 (omega (arith, whole))) (kept_are_first e size (k - length out) more words roomy.1)
          ∙ (sym (take-append-add s.1 rest w) ∙ ap (λ (n : ℕ). take n (s.1 ++ rest)) (sym is))
    ]

-- ---- forms of a row

pub all_first : {A : Type 0} (P : A → Type 0) (n : ℕ) (xs : List A) → AllByRecursion P xs → AllByRecursion P (take n xs)
all_first P zero xs all = tt
all_first P (suc n) [] all = tt
all_first P (suc n) (x ∷ xs) all = (all.0, all_first P n xs all.1)

pub all_behind : {A : Type 0} (P : A → Type 0) (n : ℕ) (xs : List A) → AllByRecursion P xs → AllByRecursion P (drop n xs)
all_behind P zero xs all = all
all_behind P (suc n) [] all = tt
all_behind P (suc n) (x ∷ xs) all = all_behind P n xs all.1

pub shares_roomy : (e : Endian) (size : ℕ) (row : List Opening) (forms : List (List ℕ)) → AllByRecursion (IsStorableForm e size) forms → AllRoomy size (shares size row forms)
shares_roomy e size [] forms ok = tt
shares_roomy e size (o ∷ row) forms ok =
    let n : ℕ = taken_from size o.place forms in (
      forms_have_room e size (take n forms) (all_first (IsStorableForm e size) n forms ok),
      shares_roomy e size row (drop n forms) (all_behind (IsStorableForm e size) n forms ok),
    )
