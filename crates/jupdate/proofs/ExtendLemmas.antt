-- The stretch of an opening after a form went out to it.
use Rattle.std.proofs.Common.{◌≡◌, ℕ, suc, ◌+◌, ◌-◌, ◌%◌, ◌<◌, ◌≤◌, List, [], ◌∷◌, length, drop, get_or, set, sym, ap, ap₂, subst, ◌∙◌, arith, inl, inr}
use Rattle.std.specs.List.{AllByRecursion}
use Rattle.std.proofs.lemmas.Bool.{cases_lt}
use Rattle.flashbase.specs.Bytes.{pad4_of}
use Rattle.jnode.specs.declared.order.Endian.{Endian}
use Rattle.jlog.specs.Laws.{FitsBlock}
use Rattle.jlog.specs.Places.{end_after}
use Rattle.jrests.specs.Shares.{output_to}
use Rattle.jrests.specs.declared.opening.Opening.{Opening}
use Rattle.jopenings.specs.After.{row_after}
use Rattle.jopenings.specs.Stretches.{AreStretches, longer}
use Rattle.jopenings.specs.declared.placing.Stretch.{Stretch}
use Rattle.jupdate.specs.Rows.{IsOpen, IsSpot, begins_of, ended, ends_of, left_at, reached}
use Rattle.jupdate.specs.declared.row.Cursor.{Cursor}
use Rattle.jupdate.specs.declared.row.Spot.{Spot}
use Rattle.jupdate.proofs.RowLemmas.{GoesTo, goes_on_at, goes_to, reached_open, stays_open}
use Rattle.jupdate.proofs.StretchLemmas.{added, begins_set, head_at, head_set, left_is_upwards, none_at, one_long, one_longer, within_set}

-- a stretch to which went what lies from one place of its block up to another
abbrev pub extended_to : Stretch → ℕ → ℕ → Stretch
extended_to s from place = record { block = s.block; place = s.place; len = s.len + (place - from) }

pub record Extends (e : Endian) (size blocks : ℕ) (ss : List Stretch) (passed : ℕ) (x : List ℕ) (s : Stretch) (from next place : ℕ) : Type 0 where
  pub below : next < length ss
  pub up : from ≤ place
  pub short : s.len + (place - from) ≤ size
  pub within : AreStretches size 0 blocks (set ss next (extended_to s from place))
  pub begins : begins_of (set ss next (extended_to s from place)) ≡ begins_of ss
  pub longer : set ss next (extended_to s from place) ≡ longer (added e size (drop passed (ends_of ss)) (x ∷ [])) ss
  pub left : drop next (ends_of (set ss next (extended_to s from place))) ≡ row_after size (drop passed (ends_of ss)) x

-- where the opening lies among the stretches
record Lies (ss : List Stretch) (p : ℕ) (s : Stretch) (o : Opening) (rest : List Opening) : Type 0 where
  below : p < length ss
  opening : ended s ≡ o
  others : drop (suc p) (ends_of ss) ≡ rest

lies : (ss : List Stretch) (p : ℕ) (s : Stretch) (o : Opening) (rest : List Opening) → s ≡ get_or ss p s → drop p (ends_of ss) ≡ o ∷ rest → Lies ss p s o rest
lies ss p s o rest is at = elim (cases_lt p (length ss)) [
  | inl less ↦
      let both : ended (get_or ss p s) ∷ drop (suc p) (ends_of ss) ≡ o ∷ rest = sym (head_at ss p s less) ∙ at in
      let first : ended (get_or ss p s) ≡ o = cc in
      let later : drop (suc p) (ends_of ss) ≡ rest = cc in
      record { below = less; opening = ap ended is ∙ first; others = later }
  | inr not ↦ let none : [] ≡ o ∷ rest = sym (none_at ss p (omega (arith, not))) ∙ at in cc
]

pub extends : (e : Endian) (size blocks : ℕ) (ss : List Stretch) (passed : ℕ) (from : Cursor) (len : ℕ) (spot : Spot) (x : List ℕ) (s : Stretch) (next place : ℕ) → size % 4 ≡ 0 → FitsBlock size x
    → AreStretches size 0 blocks ss → AllByRecursion (IsOpen size blocks) (drop passed (ends_of ss)) → left_at (ends_of ss) from ≡ drop passed (ends_of ss) → from.passed ≡ passed
    → IsSpot size (ends_of ss) from len spot → len ≡ length x → s ≡ get_or ss next s → next ≡ spot.cursor.passed → place ≡ spot.at + pad4_of len
    → Extends e size blocks ss passed x s spot.cursor.place next place
extends e size blocks ss passed from len spot x s next place words ok are opens left passed_is at long s_is next_is place_is =
    let row : List Opening = drop passed (ends_of ss) in
    let o : Opening = at.opening in
    let begins : left_at (ends_of ss) from ≡ drop from.passed (ends_of ss) = left ∙ ap (λ (n : ℕ). drop n (ends_of ss)) (sym passed_is) in
    let there : drop next (ends_of ss) ≡ o ∷ at.rest = ap (λ (n : ℕ). drop n (ends_of ss)) next_is ∙ (sym (at.begins begins) ∙ at.left) in
    let it : Lies ss next s o at.rest = lies ss next s o at.rest s_is there in
    let first : reached size row (length x) ≡ o ∷ at.rest =
    subst (λ (r : List Opening). reached size r (length x) ≡ o ∷ at.rest) left (subst (λ (n : ℕ). reached size (left_at (ends_of ss) from) n ≡ o ∷ at.rest) long at.first) in
    let goes : GoesTo e size row x o at.rest = goes_to e size row x o at.rest first in
    let stays : IsOpen size blocks o = reached_open size blocks (length x) row o at.rest opens first in
    let moved = stays_open size blocks o x words ok stays goes.takes in
    let from_is : spot.cursor.place ≡ o.place = goes_on_at (drop spot.cursor.passed (ends_of ss)) spot.cursor.place o at.rest at.left in
    let ends : place ≡ end_after size o.place (length x) = place_is ∙ (ap (λ (a : ℕ). a + pad4_of len) at.at ∙ ap (end_after size o.place) long) in
    let out : ℕ = length (output_to e size (o, x ∷ [])) in
    let far : o.place + out ≡ end_after size o.place (length x) = one_long e size o x words ok in
    let place_of : s.place + s.len ≡ o.place = ap (λ (p : Opening). p.place) it.opening in
    let block_of : s.block ≡ o.block = ap (λ (p : Opening). p.block) it.opening in
    let block_at : s.block ≡ (get_or ss next s).block = ap (λ (t : Stretch). t.block) s_is in
    let up : spot.cursor.place ≤ place = omega (arith, from_is, ends, far) in
    let gain : place - spot.cursor.place ≡ out = omega (arith, from_is, ends, far) in
    let short : end_after size o.place (length x) ≤ size = moved.inside in
    let t : Stretch = extended_to s spot.cursor.place place in
    let longest : t.place + t.len ≤ size = omega (arith, gain, place_of, far, short) in
    let grown : t ≡ record (get_or ss next s) { len = (get_or ss next s).len + out } =
    ap₂ (λ (u : Stretch) (n : ℕ). (let v : Stretch = record { block = u.block; place = u.place; len = u.len + n } in v)) s_is gain in
    let end_at : s.place + (s.len + (place - spot.cursor.place)) ≡ end_after size o.place (length x) = omega (arith, gain, place_of, far) in
    record {
      below = it.below;
      up = up;
      short = omega (arith, longest);
      within = within_set size 0 blocks ss next s t are it.below block_at longest;
      begins = begins_set ss next s t it.below (ap (λ (u : Stretch). (let v : Opening = record { block = u.block; place = u.place } in v)) s_is);
      longer = one_longer e size blocks row x o at.rest ss next s t (left_is_upwards size blocks passed ss are) are first it.below (sym block_of ∙ block_at) grown;
      left = head_set ss next t it.below
          ∙ (ap₂ (λ (b p : ℕ). (let v : Opening = record { block = b; place = p } in v) ∷ drop (suc next) (ends_of ss)) block_of end_at
          ∙ (ap (λ (r : List Opening). (let v : Opening = record { block = o.block; place = end_after size o.place (length x) } in v) ∷ r) it.others ∙ sym goes.after));
    }

-- it goes on behind where it went on before
pub goes_up : (e : Endian) (size : ℕ) (row : List Opening) (from : Cursor) (len : ℕ) (spot : Spot) (x : List ℕ) (place : ℕ) → size % 4 ≡ 0 → FitsBlock size x → IsSpot size row from len spot → len ≡ length x
    → place ≡ spot.at + pad4_of len → spot.cursor.place ≤ place
goes_up e size row from len spot x place words ok at long place_is =
    let o : Opening = at.opening in
    let from_is : spot.cursor.place ≡ o.place = goes_on_at (drop spot.cursor.passed row) spot.cursor.place o at.rest at.left in
    let ends : place ≡ end_after size o.place (length x) = place_is ∙ (ap (λ (a : ℕ). a + pad4_of len) at.at ∙ ap (end_after size o.place) long) in
    omega (arith, from_is, ends, one_long e size o x words ok)
