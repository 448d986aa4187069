-- The pages of a dump, one after another.
use Rattle.std.proofs.Common.{◌≡◌, ◌+◌, ◌-◌, ◌*◌, ◌<◌, ◌≤◌, ◌/◌, ◌%◌, ⊎_elim, ℕ, zero, suc, refl, List, ◌++◌, length, get_or, take, drop, min, sym, subst, ap, ◌∙◌, arith}
use Rattle.std.proofs.lemmas.Bool.{cases_lt}
use Rattle.std.proofs.Math.Nat.{mul-le-mul_right, div-mul-le_self}
use Rattle.std.proofs.lemmas.Nat.{div-mul-add, mod-mul-add}
use Rattle.std.proofs.lemmas.List.{length-append, length-take, length-drop, take_at, drop_at, drop-drop, take_min, get_or_append_left, get_or-append_right, get_or-take, get_or-drop}
use Rattle.jspare.specs.Spare.{first_pages, page_at}
use Rattle.jspare.specs.declared.layout.PageLayout.{PageLayout}

-- a list in which the bytes from `from` on were copied to `at`, as `copy_within` leaves it
abbrev pub copied : List ℕ → ℕ → ℕ → ℕ → List ℕ
copied xs from count at =
    (take at xs ++ take (from + count - from) (drop from xs)) ++ drop (at + (from + count - from)) xs

-- one page more
pub more_pages : (l : PageLayout) (d : List ℕ) (n : ℕ)
    → first_pages l d (n + 1) ≡ first_pages l d n ++ page_at l d n
unfolding first_pages
more_pages l d n =
    let next : n + 1 ≡ suc n = omega arith in
    ap (first_pages l d) next

-- the first pages are no longer than what they came from
pub pages_within : (l : PageLayout) (d : List ℕ) (n : ℕ) → length (first_pages l d n) ≤ n * l.page
unfolding first_pages
pages_within l d zero = omega arith
pages_within l d (suc n) =
    let before = pages_within l d n in
    let page = drop (n * (l.page + l.spare)) d in
    let joined = length-append (first_pages l d n) (page_at l d n) in
    let short = length-take l.page page in
    grind (arith, before, joined, short)

pub pages_before : (l : PageLayout) (d : List ℕ) (n : ℕ)
    → length (first_pages l d n) ≤ n * (l.page + l.spare)
pages_before l d n = grind (arith, pages_within l d n)

-- each page begins within the dump, or at its end
pub page_begins : (l : PageLayout) (d : List ℕ) (i : ℕ) → i < length d / (l.page + l.spare) + 1
    → i * (l.page + l.spare) ≤ length d
page_begins l d i below =
    let s : ℕ = l.page + l.spare in
    let most : i * s ≤ length d / s * s = mul-le-mul_right s (omega (arith, below)) in
    omega (arith, most, div-mul-le_self (length d) s)

-- a list of which the front was replaced by no more bytes
pub behind : (w d : List ℕ) (n : ℕ) → length w ≤ n → drop n (w ++ drop (length w) d) ≡ drop n d
behind w d n fits =
    let rest : length w + (n - length w) ≡ n = omega (arith, fits) in
    let from_there = drop-drop (n - length w) (length w) (w ++ drop (length w) d) in
    let of_dump = drop-drop (n - length w) (length w) d in
    let front = ap (drop (n - length w)) (drop_at w (drop (length w) d) (length w) refl) in
    subst (λ k. drop k (w ++ drop (length w) d) ≡ drop k d) rest (sym from_there ∙ front ∙ of_dump)

-- a page that is copied behind those before it
pub one_page : (w d : List ℕ) (page from count : ℕ) → length w ≤ from
    → count ≡ min page (length d - from)
    → copied (w ++ drop (length w) d) from count (length w)
    ≡ (w ++ take page (drop from d)) ++ drop (length w + count) d
one_page w d page from count fits is_count =
    let xs = w ++ drop (length w) d in
    let as_many : from + count - from ≡ count = omega arith in
    let left : length (drop from d) ≡ length d - from = length-drop from d in
    let whole : take count (drop from d) ≡ take page (drop from d) =
    ap (λ k. take k (drop from d)) (is_count ∙ ap (min page) (sym left)) ∙ take_min page (drop from d) in
    let first : take (length w) xs ≡ w = take_at w (drop (length w) d) (length w) refl in
    let second : take (from + count - from) (drop from xs) ≡ take page (drop from d) =
    ap (λ k. take k (drop from xs)) as_many ∙ ap (take count) (behind w d from fits) ∙ whole in
    let third : drop (length w + (from + count - from)) xs ≡ drop (length w + count) d =
    ap (λ k. drop (length w + k) xs) as_many ∙ behind w d (length w + count) (omega arith) in
    ap (λ a. (a ++ take (from + count - from) (drop from xs)) ++ drop (length w + (from + count - from)) xs) first
    ∙ ap (λ b. (w ++ b) ++ drop (length w + (from + count - from)) xs) second
    ∙ ap (λ c. (w ++ take page (drop from d)) ++ c) third

-- such a list is as long as it was
pub same_length : (w d : List ℕ) → length w ≤ length d → length (w ++ drop (length w) d) ≡ length d
same_length w d fits =
    let rest = length-drop (length w) d in
    let joined = length-append w (drop (length w) d) in
    omega (arith, fits, rest, joined)

-- how long it is with one page more
pub page_length : (w d : List ℕ) (page from count : ℕ) → count ≡ min page (length d - from)
    → length w + count ≡ length (w ++ take page (drop from d))
page_length w d page from count is_count =
    let left = length-drop from d in
    let short = length-take page (drop from d) in
    let joined = length-append w (take page (drop from d)) in
    let as_many : count ≡ length (take page (drop from d)) =
    is_count ∙ ap (min page) (sym left) ∙ sym short in
    omega (arith, as_many, joined)

-- all pages but the last one are whole
pub full_pages : (l : PageLayout) (d : List ℕ) (n : ℕ) → n ≤ length d / (l.page + l.spare)
    → length (first_pages l d n) ≡ n * l.page
unfolding first_pages
full_pages l d zero few = omega arith
full_pages l d (suc n) few =
    let s : ℕ = l.page + l.spare in
    let before = full_pages l d n (omega (arith, few)) in
    let most : suc n * s ≤ length d / s * s = mul-le-mul_right s few in
    let within : n * s + s ≤ length d = grind (arith, most, div-mul-le_self (length d) s) in
    let left = length-drop (n * s) d in
    let short = length-take l.page (drop (n * s) d) in
    let joined = length-append (first_pages l d n) (page_at l d n) in
    let one : length (page_at l d n) ≡ l.page = omega (arith, within, left, short) in
    grind (arith, before, joined, one)

-- where a byte of the first pages is in the dump
pub record IsByteOf (l : PageLayout) (d : List ℕ) (xs : List ℕ) (i : ℕ) : Type 0 where
  pub there : i / l.page * (l.page + l.spare) + i % l.page < length d
  pub same : get_or xs i 0 ≡ get_or d (i / l.page * (l.page + l.spare) + i % l.page) 0

-- a byte of the page behind whole ones
pub byte_of_next : (l : PageLayout) (d w : List ℕ) (n j : ℕ) → length w ≡ n * l.page
    → j < length (page_at l d n) → IsByteOf l d (w ++ page_at l d n) (n * l.page + j)
byte_of_next l d w n j whole below =
    let s : ℕ = l.page + l.spare in
    let left = length-drop (n * s) d in
    let short = length-take l.page (drop (n * s) d) in
    let in_page : j < l.page = omega (arith, below, short) in
    let row = div-mul-add n l.page j in_page in
    let column = mod-mul-add n l.page j in_page in
    let place : (n * l.page + j) / l.page * s + (n * l.page + j) % l.page ≡ n * s + j =
    ap (λ k. k * s + (n * l.page + j) % l.page) row ∙ ap (λ k. n * s + k) column in
    let back : n * l.page + j - n * l.page ≡ j = omega arith in
    let taken : get_or (w ++ page_at l d n) (n * l.page + j) 0 ≡ get_or d (n * s + j) 0 =
    get_or-append_right w (page_at l d n) (n * l.page) (n * l.page + j) 0 whole (omega arith)
    ∙ ap (λ k. get_or (page_at l d n) k 0) back
    ∙ get_or-take l.page (drop (n * s) d) j 0 in_page ∙ get_or-drop (n * s) d j 0 in
    record {
      there = subst (λ k. k < length d) (sym place) (omega (arith, below, short, left));
      same = taken ∙ ap (λ k. get_or d k 0) (sym place);
    }

pub byte_of_pages : (l : PageLayout) (d : List ℕ) (n i : ℕ) → n ≤ length d / (l.page + l.spare) + 1
    → i < length (first_pages l d n) → IsByteOf l d (first_pages l d n) i
unfolding first_pages
byte_of_pages l d zero i few below = absurd (omega (arith, below))
byte_of_pages l d (suc n) i few below =
    let w = first_pages l d n in
    let whole = full_pages l d n (omega (arith, few)) in
    let joined = length-append w (page_at l d n) in
    let before : i < length w → IsByteOf l d (w ++ page_at l d n) i = λ inside.
    let at = byte_of_pages l d n i (omega (arith, few)) inside in
    record { there = at.there; same = get_or_append_left w (page_at l d n) 0 i inside ∙ at.same } in
    let behind_them : length w ≤ i → IsByteOf l d (w ++ page_at l d n) i = λ past.
    let j : ℕ = i - n * l.page in
    let sum : n * l.page + j ≡ i = omega (arith, past, whole) in
    subst (IsByteOf l d (w ++ page_at l d n)) sum
    (byte_of_next l d w n j whole (omega (arith, below, joined, past, whole))) in
    ⊎_elim before behind_them (cases_lt i (length w))
