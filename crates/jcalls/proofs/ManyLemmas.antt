-- Many reads, one after another.
use Rattle.std.proofs.Common.{◌≡◌, ◌<◌, ◌≤◌, ℕ, ◌+◌, List, [], ◌∷◌, ◌++◌, length, get_or, take, drop, set, refl, sym, ap, ◌∙◌, arith, append_assoc, length-append, slice_index_or, slice_set}
use Rattle.std.proofs.lemmas.List.{take_more, drop_more, drop-drop, flat_map_more, set_at, take_at, drop_at, get_or_at, length-take, length-drop}
use Rattle.std.proofs.lemmas.List.Sums.{sum_by_more, sum_by-cons, sum_by_more_le}
use Rattle.jmount.specs.Shown.{readable}
use Rattle.jmount.specs.Tree.{State}
use Rattle.jcalls.specs.Many.{answered, answered_from, bytes_asked, bytes_of_all, count_asked, count_of_all}
use Rattle.jcalls.specs.declared.rows.Request.{Request}

-- the first i of these are answered
pub record AnsweredSoFar (s : State) (rows : List Request) (out : List ℕ) (i : ℕ) (rows_now : List Request) (out_now : List ℕ) (at : ℕ) : Type 0 where
  pub rows_are : rows_now ≡ answered_from s 0 (take i rows) ++ drop i rows
  pub bytes_are : out_now ≡ bytes_of_all s (take i rows) ++ drop at out
  pub at_is : at ≡ count_of_all s (take i rows)

abbrev pub no_request : Request
no_request = record { number = 0; spare = 0; offset = 0; length = 0; at = 0; got = 0 }

length_answered : (s : State) (at : ℕ) (rs : List Request) → length (answered_from s at rs) ≡ length rs
length_answered s at [] = refl
length_answered s at (r ∷ rs) = omega (arith, length_answered s (at + count_asked s r) rs)

answered_push : (s : State) (at : ℕ) (rs : List Request) (r : Request)
    → answered_from s at (rs ++ r ∷ []) ≡ answered_from s at rs ++ answered s (at + count_of_all s rs) r ∷ []
answered_push s at [] r = ap (λ n. answered s n r ∷ []) (omega arith)
answered_push s at (x ∷ rs) r =
    let place : at + count_asked s x + count_of_all s rs ≡ at + count_of_all s (x ∷ rs) = omega (arith, sum_by-cons (count_asked s) x rs) in
    ap (λ l. answered s at x ∷ l)
    (answered_push s (at + count_asked s x) rs r
    ∙ ap (λ n. answered_from s (at + count_asked s x) rs ++ answered s n r ∷ []) place)

length_bytes : (s : State) (r : Request) → length (bytes_asked s r) ≡ count_asked s r
length_bytes s r =
    omega (arith, length-take (count_asked s r) (drop r.offset (readable s r.number)), length-drop r.offset (readable s r.number))

length_all : (s : State) (rs : List Request) → length (bytes_of_all s rs) ≡ count_of_all s rs
length_all s [] = refl
length_all s (r ∷ rs) =
    omega (arith, length-append (bytes_asked s r) (bytes_of_all s rs), length_bytes s r, length_all s rs, sum_by-cons (count_asked s) r rs)

length_front : (s : State) (rows : List Request) (i : ℕ) → i < length rows → length (answered_from s 0 (take i rows)) ≡ i
length_front s rows i within = omega (arith, length_answered s 0 (take i rows), length-take i rows)

-- the next one stands as it stood, and there is room for it
pub next_is : (s : State) (rows : List Request) (out : List ℕ) (i : ℕ) (rows_now : List Request) (out_now : List ℕ) (at : ℕ)
    → AnsweredSoFar s rows out i rows_now out_now at → i < length rows → slice_index_or rows_now i no_request ≡ get_or rows i no_request
next_is s rows out i rows_now out_now at before within =
    let done : List Request = answered_from s 0 (take i rows) in
    let is : rows_now ≡ done ++ get_or rows i no_request ∷ drop (i + 1) rows =
    before.rows_are ∙ ap (λ l. done ++ l) (drop_more rows i no_request within) in
    ap (λ l. get_or l i no_request) is
    ∙ get_or_at done (get_or rows i no_request) (drop (i + 1) rows) no_request i (length_front s rows i within)

pub room_for_next : (s : State) (rows : List Request) (out : List ℕ) (i : ℕ) (rows_now : List Request) (out_now : List ℕ) (at : ℕ) (r : Request)
    → AnsweredSoFar s rows out i rows_now out_now at → i < length rows → count_of_all s rows ≤ length out → length out_now ≡ length out
    → r ≡ slice_index_or rows_now i no_request → at + count_asked s r ≤ length out_now
room_for_next s rows out i rows_now out_now at r before within room same is =
    let next : count_asked s r ≡ count_asked s (get_or rows i no_request) = ap (count_asked s) (is ∙ next_is s rows out i rows_now out_now at before within) in
    omega (arith, next, sum_by_more_le (count_asked s) rows i no_request within, before.at_is, room, same)

pub answered_next : (s : State) (rows : List Request) (out : List ℕ) (i : ℕ) (rows_now : List Request) (out_now out_then : List ℕ) (at : ℕ) (r row : Request)
    → AnsweredSoFar s rows out i rows_now out_now at → i < length rows → r ≡ slice_index_or rows_now i no_request
    → row ≡ answered s at r → out_then ≡ take at out_now ++ bytes_asked s r ++ drop (at + count_asked s r) out_now
    → AnsweredSoFar s rows out (i + 1) (slice_set rows_now i row) out_then (at + row.got)
answered_next s rows out i rows_now out_now out_then at r row before within is row_is out_is =
    let next : r ≡ get_or rows i no_request = is ∙ next_is s rows out i rows_now out_now at before within in
    let front : take (i + 1) rows ≡ take i rows ++ r ∷ [] = take_more rows i no_request within ∙ ap (λ x. take i rows ++ x ∷ []) (sym next) in
    let done : List Request = answered_from s 0 (take i rows) in
    let stand : rows_now ≡ done ++ r ∷ drop (i + 1) rows =
    before.rows_are ∙ ap (λ l. done ++ l) (drop_more rows i no_request within ∙ ap (λ x. x ∷ drop (i + 1) rows) (sym next)) in
    let row_at : row ≡ answered s (0 + count_of_all s (take i rows)) r = row_is ∙ ap (λ n. answered s n r) (omega (arith, before.at_is)) in
    let given : List ℕ = bytes_of_all s (take i rows) in
    let long : length given ≡ at = omega (arith, length_all s (take i rows), before.at_is) in
    let behind : drop (at + count_asked s r) out_now ≡ drop (at + count_asked s r) out =
    sym (drop-drop (count_asked s r) at out_now)
    ∙ ap (λ l. drop (count_asked s r) l) (ap (λ l. drop at l) before.bytes_are ∙ drop_at given (drop at out) at long)
    ∙ drop-drop (count_asked s r) at out in
    let got : row.got ≡ count_asked s r = ap (λ (x : Request). x.got) row_is in
    let sum : count_of_all s (take (i + 1) rows) ≡ count_of_all s (take i rows) + count_asked s r =
    sum_by_more (count_asked s) rows i no_request within ∙ ap (λ x. count_of_all s (take i rows) + count_asked s x) (sym next) in
    record {
      rows_are =
          ap (λ l. set l i row) stand
          ∙ set_at done r (drop (i + 1) rows) row i (length_front s rows i within)
          ∙ ap (λ x. done ++ x ∷ drop (i + 1) rows) row_at
          ∙ sym (append_assoc done (answered s (0 + count_of_all s (take i rows)) r ∷ []) (drop (i + 1) rows))
          ∙ ap (λ l. l ++ drop (i + 1) rows) (sym (answered_push s 0 (take i rows) r) ∙ ap (answered_from s 0) (sym front));
      bytes_are =
          out_is
          ∙ ap (λ l. l ++ bytes_asked s r ++ drop (at + count_asked s r) out_now) (ap (λ l. take at l) before.bytes_are ∙ take_at given (drop at out) at long)
          ∙ ap (λ l. given ++ bytes_asked s r ++ l) behind
          ∙ ap (λ l. l ++ drop (at + count_asked s r) out) (flat_map_more (bytes_asked s) [] (take i rows) r ∙ ap (bytes_of_all s) (sym front))
          ∙ ap (λ n. bytes_of_all s (take (i + 1) rows) ++ drop (at + n) out) (sym got);
      at_is = omega (arith, before.at_is, got, sum);
    }
