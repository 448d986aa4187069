-- Rows, given one after another into memory that may have no room for all.
use Rattle.std.proofs.Common.{◌≡◌, ◌<◌, ◌≤◌, ℕ, ◌+◌, List, [], ◌∷◌, ◌++◌, length, get_or, take, drop, set, refl, sym, ap, ◌∙◌, subst, arith, append_assoc, append-nil, length-append, slice_set, Option, Some, None}
use Rattle.std.specs.List.{filter_map, cons_option}
use Rattle.std.proofs.lemmas.List.{take_all, drop_all, drop_more, set_at, take-append-le}
use Rattle.jcalls.specs.Filling.{rows_given, GivesRows}

-- some rows were met, and are given as far as there was room for them; these are left
pub record FilledSoFar {R : Type 0} (all left old now : List R) (count : ℕ) : Type 0 where
  pub done : List R
  pub are : done ++ left ≡ all
  pub counted : count ≡ length done
  pub given : now ≡ take (length old) done ++ drop count old

pub filling_begins : {R : Type 0} (all left old : List R) → left ≡ all → FilledSoFar all left old old 0
filling_begins all left old same = record { done = []; are = same; counted = refl; given = append_nothing old }
  where
    append_nothing : {R : Type 0} (old : List R) → old ≡ take (length old) [] ++ drop 0 old
    append_nothing [] = refl
    append_nothing (x ∷ xs) = refl

pub filling_passes : {R S : Type 0} (row_of : S → Option R) (s : S) (ss : List S) (all old now : List R) (count : ℕ)
    → row_of s ≡ None → FilledSoFar all (filter_map row_of (s ∷ ss)) old now count → FilledSoFar all (filter_map row_of ss) old now count
filling_passes row_of s ss all old now count none before =
    subst (λ l. FilledSoFar all l old now count) (ap (λ o. cons_option o (filter_map row_of ss)) none) before

-- one row more, where there is room and where there is none
next_done : {R : Type 0} (done left : List R) (row : R) → done ++ row ∷ left ≡ (done ++ row ∷ []) ++ left
next_done done left row = sym (append_assoc done (row ∷ []) left)

pub filling_gives : {R S : Type 0} (row_of : S → Option R) (s : S) (ss : List S) (all old now : List R) (count : ℕ) (row : R)
    → row_of s ≡ Some row → count < length now → length now ≡ length old → FilledSoFar all (filter_map row_of (s ∷ ss)) old now count
    → FilledSoFar all (filter_map row_of ss) old (slice_set now count row) (count + 1)
filling_gives row_of s ss all old now count row some room long before =
    let left = filter_map row_of ss in
    let is : filter_map row_of (s ∷ ss) ≡ row ∷ left = ap (λ o. cons_option o left) some in
    let few : take (length old) before.done ≡ before.done = take_all (length old) before.done (omega (arith, before.counted, room, long)) in
    let few_then : take (length old) (before.done ++ row ∷ []) ≡ before.done ++ row ∷ [] =
    take_all (length old) (before.done ++ row ∷ []) (omega (arith, before.counted, room, long, length-append before.done (row ∷ []))) in
    let stand : now ≡ before.done ++ get_or old count row ∷ drop (count + 1) old =
    before.given ∙ ap (λ l. l ++ drop count old) few ∙ ap (λ l. before.done ++ l) (drop_more old count row (omega (arith, room, long))) in
    record {
      done = before.done ++ row ∷ [];
      are = append_assoc before.done (row ∷ []) left ∙ sym (ap (λ l. before.done ++ l) is) ∙ before.are;
      counted = omega (arith, before.counted, length-append before.done (row ∷ []));
      given =
          ap (λ l. set l count row) stand
          ∙ set_at before.done (get_or old count row) (drop (count + 1) old) row count (sym before.counted)
          ∙ sym (append_assoc before.done (row ∷ []) (drop (count + 1) old))
          ∙ ap (λ l. l ++ drop (count + 1) old) (sym few_then);
    }

pub filling_counts : {R S : Type 0} (row_of : S → Option R) (s : S) (ss : List S) (all old now : List R) (count : ℕ) (row : R)
    → row_of s ≡ Some row → length now ≤ count → length now ≡ length old → FilledSoFar all (filter_map row_of (s ∷ ss)) old now count
    → FilledSoFar all (filter_map row_of ss) old now (count + 1)
filling_counts row_of s ss all old now count row some full long before =
    let left = filter_map row_of ss in
    let is : filter_map row_of (s ∷ ss) ≡ row ∷ left = ap (λ o. cons_option o left) some in
    let same : take (length old) (before.done ++ row ∷ []) ≡ take (length old) before.done =
    take-append-le (length old) before.done (row ∷ []) (omega (arith, before.counted, full, long)) in
    record {
      done = before.done ++ row ∷ [];
      are = append_assoc before.done (row ∷ []) left ∙ sym (ap (λ l. before.done ++ l) is) ∙ before.are;
      counted = omega (arith, before.counted, length-append before.done (row ∷ []));
      given =
          before.given
          ∙ ap (λ l. take (length old) before.done ++ l) (drop_all count old (omega (arith, full, long)) ∙ sym (drop_all (count + 1) old (omega (arith, full, long))))
          ∙ ap (λ l. l ++ drop (count + 1) old) (sym same);
    }

pub filling_ends : {R : Type 0} (all left old now : List R) (count : ℕ) → left ≡ [] → FilledSoFar all left old now count
    → (count ≡ length all) × (now ≡ rows_given all old)
filling_ends {R} all left old now count none done =
    let whole : done.done ≡ all = sym (append-nil done.done) ∙ ap (λ l. done.done ++ l) (sym none) ∙ done.are in
    let counted : count ≡ length all = done.counted ∙ ap length whole in (
      counted,
      done.given ∙ ap (λ l. take (length old) l ++ drop count old) whole ∙ ap (λ n. take (length old) all ++ drop n old) counted,
    )

-- what was counted is not more than there are
length_rows : {R S : Type 0} (row_of : S → Option R) (ss : List S) → length (filter_map row_of ss) ≤ length ss
length_rows {R} {S} row_of [] = omega arith
length_rows {R} {S} row_of (s ∷ ss) = by (row_of s) (length_rows row_of ss)
  where
    by : (o : Option R) → length (filter_map row_of ss) ≤ length ss → length (cons_option o (filter_map row_of ss)) ≤ length (s ∷ ss)
    by None few = omega (arith, few)
    by (Some r) few = omega (arith, few)

pub few_rows : {R S : Type 0} (row_of : S → Option R) (ss : List S) (left old now : List R) (count : ℕ)
    → FilledSoFar (filter_map row_of ss) left old now count → count ≤ length ss
few_rows row_of ss left old now count so_far =
    omega (arith, length_rows row_of ss, length-append so_far.done left, ap length so_far.are, so_far.counted)

-- where there is room for all of them, all are given
pub gives_filled : {R : Type 0} (all old new : List R) (needed : ℕ) → needed ≡ length all → new ≡ rows_given all old → length all ≤ length old → GivesRows all old new needed
gives_filled all old new needed counted given room =
    (counted, given ∙ ap (λ l. l ++ drop (length all) old) (take_all (length old) all room))
