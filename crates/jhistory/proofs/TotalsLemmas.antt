-- How many nodes have each word.
use Rattle.std.proofs.Common.{◌≡◌, ℕ, ◌+◌, ◌≤◌, Bool, cond, List, [], ◌∷◌, ◌++◌, length, Option, Some, None, refl, ap, sym, ◌∙◌, arith, count_by}
use Rattle.std.specs.Prelude.{filter_map}
use Rattle.std.proofs.lemmas.List.Sums.{sum_by-cons}
use Rattle.jhistory.specs.HistoryText.{is_live_word, is_superseded_word, is_deleted_word, is_deletion_word, is_unreached_word, is_obsolete_word, word_totals}
use Rattle.jhistory.specs.declared.word.NodeWord.{NodeWord}
use Rattle.jhistory.specs.declared.word.NodeWord.TheVariants.{Live, Superseded, Deleted, Deletion, Unreached, Obsolete}

-- every node has one word
pub totals_sum : (ws : List NodeWord)
    → let t = word_totals ws in t.live + t.superseded + t.deleted + t.deletion + t.unreached + t.obsolete ≡ length ws
totals_sum [] = refl
totals_sum (w ∷ ws) =
    let more = totals_sum ws in
    omega (
      arith,
      more,
      one w,
      sum_by-cons (λ k. cond (is_live_word k) 1 0) w ws,
      sum_by-cons (λ k. cond (is_superseded_word k) 1 0) w ws,
      sum_by-cons (λ k. cond (is_deleted_word k) 1 0) w ws,
      sum_by-cons (λ k. cond (is_deletion_word k) 1 0) w ws,
      sum_by-cons (λ k. cond (is_unreached_word k) 1 0) w ws,
      sum_by-cons (λ k. cond (is_obsolete_word k) 1 0) w ws,
    )
  where
    one : (k : NodeWord)
        → cond (is_live_word k) 1 0 + cond (is_superseded_word k) 1 0 + cond (is_deleted_word k) 1 0 + cond (is_deletion_word k) 1 0 + cond (is_unreached_word k) 1 0
        + cond (is_obsolete_word k) 1 0 ≡ 1
    one Live = refl
    one Superseded = refl
    one Deleted = refl
    one Deletion = refl
    one Unreached = refl
    one Obsolete = refl
