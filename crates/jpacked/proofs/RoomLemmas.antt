-- Room for forms, one after another.
use Rattle.std.proofs.Common.{◌≡◌, ℕ, suc, ◌+◌, ◌*◌, ◌%◌, ◌<◌, ◌≤◌, cond, Bool, true, false, List, [], ◌∷◌, ◌++◌, length, take, drop, get_or, refl, sym, ap, ◌∙◌, subst, arith, take-append-drop, Some, None}
use Rattle.std.specs.Prelude.{IsTrue, ◌&&◌, nat_le}
use Rattle.std.specs.List.{AllByRecursion}
use Rattle.std.proofs.Math.Seq.{take-suc}
use Rattle.std.proofs.lemmas.Bool.{and_from, and_parts, leb-true}
use Rattle.std.proofs.lemmas.List.Sums.{sum_by_push}
use Rattle.flashbase.specs.Bytes.{pad4_of}
use Rattle.jnode.specs.declared.order.Endian.TheVariants.{Little}
use Rattle.jsteps.specs.declared.step.Step.{Step}
use Rattle.jlog.specs.Laws.{FitsBlock}
use Rattle.jlog.specs.Places.{place_after, end_after, end_of_all, fit, needed, place_within}
use Rattle.jlog.proofs.OutputLemmas.{output_goes_on}
use Rattle.jlog.proofs.DoneLemmas.{all_first}
use Rattle.jlog.proofs.RoomLemmas.{end_is_within, room_goes_on}
use Rattle.jpacked.specs.Forms.{form_len}

pub stream_short : (s : Step) (t : List ℕ) (n : ℕ) → form_len s t ≤ n → length t ≤ n
stream_short s [] n small = omega arith
stream_short s (b ∷ t) n small = omega (arith, small)

within_some : (size blocks from len at : ℕ) → place_within size blocks from len ≡ Some at → (at ≡ place_after size from len) × IsTrue (nat_le (place_after size from len + len) (blocks * size))
within_some size blocks from len at is = by (nat_le (place_after size from len + len) (blocks * size)) refl
  where
    by : (b : Bool) → nat_le (place_after size from len + len) (blocks * size) ≡ b → (at ≡ place_after size from len) × IsTrue (nat_le (place_after size from len + len) (blocks * size))
    by true e =
        let some : Some (place_after size from len) ≡ Some at = sym (ap (λ (b : Bool). cond b (Some (place_after size from len)) None) e) ∙ is in
        (cc, e)
    by false e = let none : None ≡ Some at = sym (ap (λ (b : Bool). cond b (Some (place_after size from len)) None) e) ∙ is in cc

within_none : (size blocks from len : ℕ) → place_within size blocks from len ≡ None → nat_le (place_after size from len + len) (blocks * size) ≡ false
within_none size blocks from len is = by (nat_le (place_after size from len + len) (blocks * size)) refl
  where
    by : (b : Bool) → nat_le (place_after size from len + len) (blocks * size) ≡ b → nat_le (place_after size from len + len) (blocks * size) ≡ false
    by true e = let none : Some (place_after size from len) ≡ None = sym (ap (λ (b : Bool). cond b (Some (place_after size from len)) None) e) ∙ is in cc
    by false e = e

and_one : (b : Bool) → (b && true) ≡ b
and_one true = refl
and_one false = refl

-- there is room for the next one
pub record Room (size blocks from : ℕ) (forms : List (List ℕ)) (i at len : ℕ) : Type 0 where
  pub end : at + pad4_of len ≡ end_of_all size from (take (suc i) forms)
  pub fits : IsTrue (fit size blocks from (take (suc i) forms))
  pub within : at + len ≤ blocks * size

pub more_room : (size blocks from : ℕ) (forms : List (List ℕ)) (i : ℕ) (v : List ℕ) (mid at len : ℕ) → i < length forms → mid ≡ end_of_all size from (take i forms) → IsTrue (fit size blocks from (take i forms))
    → len ≡ length (get_or forms i v) → place_within size blocks mid len ≡ Some at → Room size blocks from forms i at len
more_room size blocks from forms i v mid at len below mid_is fits long is =
    let f : List ℕ = get_or forms i v in
    let c : ℕ = end_of_all size from (take i forms) in
    let next : take (suc i) forms ≡ take i forms ++ f ∷ [] = take-suc forms i v below in
    let found = within_some size blocks mid len at is in
    let here : IsTrue (nat_le (place_after size c (length f) + length f) (blocks * size)) =
    subst (λ (n : ℕ). IsTrue (nat_le (place_after size c n + n) (blocks * size))) long (subst (λ (m : ℕ). IsTrue (nat_le (place_after size m len + len) (blocks * size))) mid_is found.1) in
    let one : IsTrue (fit size blocks c (f ∷ [])) = subst IsTrue (sym (and_one (nat_le (place_after size c (length f) + length f) (blocks * size)))) here in
    let ends : place_after size mid len + len ≤ blocks * size = leb-true _ _ found.1 in
    record {
      end = ap (λ (n : ℕ). n + pad4_of len) found.0
          ∙ (ap (λ (m : ℕ). end_after size m len) mid_is
          ∙ (ap (end_after size c) long
          ∙ (sym (output_goes_on Little size from (take i forms) (f ∷ [])).end
          ∙ ap (end_of_all size from) (sym next))));
      fits = subst (λ (l : List (List ℕ)). IsTrue (fit size blocks from l)) (sym next) (subst IsTrue (sym (room_goes_on size blocks from (take i forms) (f ∷ []))) (and_from _ _ fits one));
      within = omega (arith, found.0, ends);
    }

-- or there is none, and so none for all
pub no_room : (size blocks from : ℕ) (forms : List (List ℕ)) (i : ℕ) (v : List ℕ) (mid len : ℕ) → i < length forms → mid ≡ end_of_all size from (take i forms) → len ≡ length (get_or forms i v)
    → place_within size blocks mid len ≡ None → false ≡ fit size blocks from forms
no_room size blocks from forms i v mid len below mid_is long is = by (fit size blocks from forms) refl
  where
    by : (b : Bool) → fit size blocks from forms ≡ b → false ≡ fit size blocks from forms
    by false all = sym all
    by true all =
        let f : List ℕ = get_or forms i v in
        let c : ℕ = end_of_all size from (take i forms) in
        let whole : take (suc i) forms ++ drop (suc i) forms ≡ forms = take-append-drop (suc i) forms in
        let first : IsTrue (fit size blocks from (take (suc i) forms)) =
        (and_parts (fit size blocks from (take (suc i) forms)) (fit size blocks (end_of_all size from (take (suc i) forms)) (drop (suc i) forms))
        (subst IsTrue (room_goes_on size blocks from (take (suc i) forms) (drop (suc i) forms)) (subst (λ (l : List (List ℕ)). IsTrue (fit size blocks from l)) (sym whole) all))).0 in
        let near : IsTrue (fit size blocks from (take i forms ++ f ∷ [])) = subst (λ (l : List (List ℕ)). IsTrue (fit size blocks from l)) (take-suc forms i v below) first in
        let one : IsTrue (fit size blocks c (f ∷ [])) =
        (and_parts (fit size blocks from (take i forms)) (fit size blocks c (f ∷ [])) (subst IsTrue (room_goes_on size blocks from (take i forms) (f ∷ [])) near)).1 in
        let last : IsTrue (nat_le (place_after size c (length f) + length f) (blocks * size)) = subst IsTrue (and_one (nat_le (place_after size c (length f) + length f) (blocks * size))) one in
        let same : nat_le (place_after size mid len + len) (blocks * size) ≡ true =
        subst (λ (m : ℕ). nat_le (place_after size m len + len) (blocks * size) ≡ true) (sym mid_is) (subst (λ (n : ℕ). nat_le (place_after size c n + n) (blocks * size) ≡ true) (sym long) last) in
        let not : false ≡ true = sym (within_none size blocks mid len is) ∙ same in
        cc

pub needed_more : (forms : List (List ℕ)) (i : ℕ) (v : List ℕ) (sum len : ℕ) → i < length forms → sum ≡ needed (take i forms) → len ≡ length (get_or forms i v) → sum + pad4_of len ≡ needed (take (suc i) forms)
needed_more forms i v sum len below is long =
    ap (λ (n : ℕ). n + pad4_of len) is
    ∙ (ap (λ (n : ℕ). needed (take i forms) + pad4_of n) long
    ∙ (sym (sum_by_push (λ (form : List ℕ). pad4_of (length form)) (take i forms) (get_or forms i v)) ∙ ap needed (sym (take-suc forms i v below))))

-- where the first so many end
pub first_within : (size blocks from : ℕ) (forms : List (List ℕ)) (i : ℕ) → size % 4 ≡ 0 → AllByRecursion (FitsBlock size) forms → from ≤ blocks * size → from % 4 ≡ 0
    → IsTrue (fit size blocks from (take i forms)) → (end_of_all size from (take i forms) ≤ blocks * size) × (end_of_all size from (take i forms) % 4 ≡ 0)
first_within size blocks from forms i words ok within aligned fits = end_is_within size blocks from (take i forms) words (all_first (FitsBlock size) i forms ok) aligned within fits
