-- A write at the end of a file puts its bytes there.
use Rattle.std.proofs.Common.{◌≡◌, ℕ, zero, suc, ◌+◌, ◌-◌, ◌*◌, ◌/◌, ◌<◌, ◌≤◌, cond, ⊎_elim, List, [], ◌∷◌, ◌++◌, length, take, drop, Some, refl, ap, sym, ◌∙◌, subst, length-append, length-take, append_assoc, arith}
use Rattle.std.specs.Prelude.{max, min, slice_range, flat_map, ◌==◌}
use Rattle.std.proofs.Math.Nat.{div-mul-le_self, mul-le-mul_left}
use Rattle.std.proofs.lemmas.Bool.{cases_lt, cond_both, eqb-true}
use Rattle.std.proofs.lemmas.Grind.{flat_map-append}
use Rattle.std.proofs.lemmas.List.{append-nil, take_all, take-append-drop}
use Rattle.flashbase.specs.Lists.{below}
use Rattle.flashbase.proofs.ListLemmas.{length-below}
use Rattle.jmount.specs.Tree.{ObjectOf, State, object}
use Rattle.jsteps.specs.Steps.{bytes, do_step, after, with_body}
use Rattle.jscan.specs.Pages.{IsPage}
use Rattle.jsteps.specs.Planning.{plain_page, spelling_len, piece_puts, page_puts, puts, zeros_to, write_steps}
use Rattle.jsteps.specs.declared.step.Step.{Step}
use Rattle.jsteps.specs.declared.step.Step.TheVariants as step
use Rattle.jtree.proofs.CountLemmas.{not_above}
use Rattle.jtree.proofs.RewriteLemmas.{Rewrites, rewrites_none, rewrites_then, put_rewrites}
use Rattle.jsteps.proofs.FewLemmas.{flat_few, piece_few}

pub after-append : (s : State) (xs ys : List Step) → after bytes s (xs ++ ys) ≡ after bytes (after bytes s xs) ys
after-append s [] ys = refl
after-append s (x ∷ xs) ys = after-append (do_step bytes s x) xs ys

-- ---- one piece

piece_appends : (s : State) (time ino start : ℕ) (piece : List ℕ) (o : ObjectOf (List ℕ)) (old : List ℕ) → object s ino ≡ Some (with_body o time old)
    → start ≡ length old
    → Rewrites s (after bytes s (piece_puts time ino start piece)) ino (with_body o time old) (with_body o time (old ++ piece))
piece_appends s time ino start piece o old e at =
    let first = step.Put time ino start (take plain_page piece) in
    let second = step.Put time ino (start + plain_page) (drop plain_page piece) in
    cond_both (length piece == spelling_len) (first ∷ second ∷ []) (step.Put time ino start piece ∷ [])
    (λ steps. Rewrites s (after bytes s steps) ino (with_body o time old) (with_body o time (old ++ piece)))
    (λ yes.
    let is : length piece ≡ 6465 = eqb-true (length piece) spelling_len yes in
    let one = put_rewrites s time ino start (take plain_page piece) (with_body o time old) e at in
    let front : length (old ++ take plain_page piece) ≡ start + plain_page = length-append old (take plain_page piece) ∙ omega
    (arith, length-take plain_page piece) in
    let two = put_rewrites (do_step bytes s first) time ino (start + plain_page) (drop plain_page piece) (with_body o time (old ++ take plain_page piece))
    one.now (sym front) in
    let all : (old ++ take plain_page piece) ++ drop plain_page piece ≡ old ++ piece = append_assoc old (take plain_page piece) (drop plain_page piece) ∙
    ap (λ (xs : List ℕ). old ++ xs) (take-append-drop plain_page piece) in
    subst (λ body. Rewrites s (after bytes s (first ∷ second ∷ [])) ino (with_body o time old) (with_body o time body)) all
    (rewrites_then s (do_step bytes s first) (do_step bytes (do_step bytes s first) second) ino _ _ _ one two))
    (λ no. put_rewrites s time ino start piece (with_body o time old) e at)

-- ---- the pieces of all pages

pub take_then : (u v : ℕ) (xs : List ℕ) → u ≤ v → take u xs ++ take (v - u) (drop u xs) ≡ take v xs
take_then zero v xs le = let same : v - zero ≡ v = omega arith in ap (λ n. take n xs) same
take_then (suc u) zero xs le = absurd (omega arith)
take_then (suc u) (suc v) [] le = nothing (suc v - suc u)
  where
    nothing : (n : ℕ) → ◌≡◌ {A = List ℕ} (take n []) []
    nothing zero = refl
    nothing (suc n) = refl
take_then (suc u) (suc v) (x ∷ xs) le =
    let same : suc v - suc u ≡ v - u = omega arith in
    ap (λ n. x ∷ (take u xs ++ take n (drop u xs))) same ∙ ap (λ ys. x ∷ ys) (take_then u v xs (omega arith))

next_page : (n page : ℕ) → (n + 1) * page ≡ n * page + page
next_page n page = omega arith

pages_append : (page : ℕ) (s : State) (time ino offset first : ℕ) (new : List ℕ) (o : ObjectOf (List ℕ)) (old : List ℕ) (k : ℕ)
    → object s ino ≡ Some (with_body o time old) → offset ≡ length old
    → first * page ≤ offset → ((n : ℕ) → n < k → (first + n) * page ≤ offset + length new)
    → Rewrites s (after bytes s (flat_map (λ n. page_puts page time ino offset new (first + n)) (below k))) ino (with_body o time old)
    (with_body o time (old ++ take (min (offset + length new) ((first + k) * page) - offset) new))
pages_append page s time ino offset first new o old zero e at before pages =
    let same : (first + 0) * page ≡ first * page = omega arith in
    let none : min (offset + length new) ((first + 0) * page) - offset ≡ 0 = omega arith in
    subst (λ body. Rewrites s s ino (with_body o time old) (with_body o time body)) (sym (ap (λ n. old ++ take n new) none ∙ append-nil old))
    (rewrites_none s ino (with_body o time old) e)
pages_append page s time ino offset first new o old (suc k) e at before pages =
    let f : ℕ → List Step = λ n. page_puts page time ino offset new (first + n) in
    let some = flat_map f (below k) in
    let hyp = pages_append page s time ino offset first new o old k e at before (λ n less. pages n (omega arith)) in
    let q = (first + k) * page in
    let end = offset + length new in
    let within : q ≤ end = pages k (omega arith) in
    let wide : (first + k + 1) * page ≡ q + page = next_page (first + k) page in
    let same : (first + suc k) * page ≡ (first + k + 1) * page = ap (λ n. n * page) (omega arith) in
    let u = min end q - offset in
    let start = max offset q in
    let stop = min end ((first + k + 1) * page) in
    let long : start ≡ length (old ++ take u new) = sym (length-append old (take u new) ∙ omega (arith, length-take u new)) in
    let from : start - offset ≡ u = omega arith in
    let to : min end ((first + suc k) * page) - offset ≡ stop - offset = omega arith in
    let piece = slice_range new (start - offset) (stop - offset) in
    let t = after bytes s some in
    let here = piece_appends t time ino start piece o (old ++ take u new) hyp.now long in
    let list : flat_map f (below k ++ k ∷ []) ≡ some ++ f k = flat_map-append f (below k) (k ∷ []) ∙ ap (λ ys. some ++ ys) (append-nil (f k)) in
    let body : (old ++ take u new) ++ piece ≡ old ++ take (min end ((first + suc k) * page) - offset) new =
    append_assoc old (take u new) piece
    ∙ ap (λ n. old ++ (take u new ++ take (stop - offset - n) (drop n new))) from
    ∙ ap (λ xs. old ++ xs) (take_then u (stop - offset) new (omega arith))
    ∙ ap (λ n. old ++ take n new) (sym to) in
    subst (λ body. Rewrites s (after bytes s (flat_map f (below (suc k)))) ino (with_body o time old) (with_body o time body)) body
    (subst (λ u. Rewrites s u ino (with_body o time old) (with_body o time ((old ++ take (min end q - offset) new) ++ piece)))
    (sym (ap (after bytes s) list ∙ after-append s some (f k)))
    (rewrites_then s t (after bytes t (f k)) ino _ _ _ hyp here))

page_begins : (end page n : ℕ) → 0 < page → n + 1 ≤ (end + page - 1) / page → n * page ≤ end
page_begins end page n some h =
    let count = (end + page - 1) / page in
    let all : count * page ≤ end + page - 1 = div-mul-le_self (end + page - 1) page in
    let less : page * (n + 1) ≤ page * count = mul-le-mul_left page h in
    omega arith

last_page : (end page : ℕ) → 0 < page → end ≤ ((end + page - 1) / page) * page
last_page end page some = omega arith

puts_append : (page : ℕ) (s : State) (time ino offset : ℕ) (new : List ℕ) (o : ObjectOf (List ℕ)) (old : List ℕ) → IsPage page
    → object s ino ≡ Some (with_body o time old) → offset ≡ length old
    → Rewrites s (after bytes s (puts page time ino offset new)) ino (with_body o time old) (with_body o time (old ++ new))
puts_append page s time ino offset new o old is_page e at =
    let least : 4096 ≤ page = is_page.least in
    let some : 0 < page = omega arith in
    let first = offset / page in
    let end = offset + length new in
    let last = (end + page - 1) / page in
    let count = last - first in
    let reaches : end ≤ last * page = last_page end page some in
    let more : page * last ≤ page * (first + count) = mul-le-mul_left page (omega arith) in
    let all : min end ((first + count) * page) - offset ≡ length new = omega arith in
    subst (λ body. Rewrites s (after bytes s (puts page time ino offset new)) ino (with_body o time old) (with_body o time body))
    (ap (λ n. old ++ take n new) all ∙ ap (λ xs. old ++ xs) (take_all (length new) new (omega arith)))
    (pages_append page s time ino offset first new o old count e at (div-mul-le_self offset page)
    (λ n less. page_begins end page (first + n) some (omega arith)))

no_zeros : (time ino size : ℕ) → zeros_to time ino size size ≡ []
no_zeros time ino size = ap (λ b. cond b (step.Zero time ino (size - size) ∷ []) []) (not_above size size (omega arith))

pub write_appends : (page : ℕ) (s : State) (time ino offset : ℕ) (new : List ℕ) (o : ObjectOf (List ℕ)) (old : List ℕ) → IsPage page
    → object s ino ≡ Some (with_body o time old) → offset ≡ length old
    → Rewrites s (after bytes s (write_steps page time ino offset offset new)) ino (with_body o time old) (with_body o time (old ++ new))
write_appends page s time ino offset [] o old is_page e at =
    subst (λ body. Rewrites s s ino (with_body o time old) (with_body o time body)) (sym (append-nil old)) (rewrites_none s ino (with_body o time old) e)
write_appends page s time ino offset (b ∷ new) o old is_page e at =
    subst (λ steps. Rewrites s (after bytes s steps) ino (with_body o time old) (with_body o time (old ++ b ∷ new)))
    (sym (ap (λ zs. zs ++ puts page time ino offset (b ∷ new)) (no_zeros time ino offset)))
    (puts_append page s time ino offset (b ∷ new) o old is_page e at)

-- ---- how many steps these are

-- bytes meet two pages at most besides one for each 4,096 of them
pages_few : (page offset len : ℕ) → 4096 ≤ page → (offset + len + page - 1) / page - offset / page ≤ 2 + len / 4096
pages_few page offset len least =
    let last = (offset + len + page - 1) / page in
    let first = offset / page in
    let k = len / 4096 + 1 in
    let all : last * page ≤ offset + len + page - 1 = div-mul-le_self (offset + len + page - 1) page in
    let past : offset < (first + 1) * page = begun offset page (omega arith) in
    ⊎_elim
    (λ (many : 2 + len / 4096 < last - first).
    let more : page * (first + 1 + 1 + k) ≤ page * last = mul-le-mul_left page (omega arith) in
    let split : page * (first + 1 + 1 + k) ≡ (first + 1) * page + page + page * k = omega arith in
    let wide : k * 4096 ≤ k * page = mul-le-mul_left k least in
    let long : len < k * 4096 = omega arith in
    absurd (omega arith))
    (λ few. few)
    (cases_lt (2 + len / 4096) (last - first))
  where
    begun : (offset page : ℕ) → 0 < page → offset < (offset / page + 1) * page
    begun offset page some = omega arith

pub write_few : (page time ino offset : ℕ) (new : List ℕ) → IsPage page → length (write_steps page time ino offset offset new) ≤ 4 + 2 * (length new / 4096)
write_few page time ino offset [] is_page = omega arith
write_few page time ino offset (b ∷ new) is_page =
    let first = offset / page in
    let count = (offset + length (b ∷ new) + page - 1) / page - first in
    let most = 4 + 2 * (length (b ∷ new) / 4096) in
    let pages : count ≤ 2 + length (b ∷ new) / 4096 = pages_few page offset (length (b ∷ new)) is_page.least in
    let all : length (puts page time ino offset (b ∷ new)) ≤ 2 * length (below count) =
    flat_few (λ n. page_puts page time ino offset (b ∷ new) (first + n)) (λ n. piece_few time ino _ _) (below count) in
    let few : length (puts page time ino offset (b ∷ new)) ≤ most = omega (arith, length-below count) in
    subst (λ zs. length (zs ++ puts page time ino offset (b ∷ new)) ≤ most) (sym (no_zeros time ino offset)) few
