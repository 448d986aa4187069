-- The pages of a dump that is read page by page.
use Rattle.std.proofs.Common.{◌≡◌, ◌+◌, ◌-◌, ◌*◌, ◌<◌, ◌≤◌, ◌/◌, ◌%◌, ⊎_elim, ℕ, zero, suc, refl, List, [], ◌++◌, length, take, drop, sym, ap, ◌∙◌, Option, Some, None, append_assoc, append-nil, arith}
use Rattle.std.specs.Prelude.{option_map}
use Rattle.std.specs.Io.KnownBytes.{Consumes, IsAtEnd, Keeps}
use Rattle.std.proofs.Math.Nat.{mod-lt}
use Rattle.std.proofs.lemmas.Bool.{cases_lt}
use Rattle.std.proofs.lemmas.Nat.{div-mul-add, div-add-mod'}
use Rattle.std.proofs.Math.Seq.{take-nil, drop-nil, take-append-add, drop-append-add}
use Rattle.std.proofs.lemmas.List.{length-take, length-drop, drop-drop, drop_all, take-append-le}
use Rattle.jspare.specs.Paging.{pages_by, pages_left, left_by}
use Rattle.jspare.specs.Spare.{first_pages, page_at, without_spare}
use Rattle.jspare.specs.declared.layout.PageLayout.{PageLayout}

-- no bytes have no pages, and pages of no bytes give none
no_bytes : (l : PageLayout) (n : ℕ) → first_pages l [] n ≡ []
unfolding first_pages
no_bytes l zero = refl
no_bytes l (suc n) =
    ap (λ (w : List ℕ). w ++ page_at l [] n) (no_bytes l n)
    ∙ ap (take l.page) (drop-nil (n * (l.page + l.spare))) ∙ take-nil l.page

no_page : (l : PageLayout) (d : List ℕ) (n : ℕ) → l.page ≡ 0 → first_pages l d n ≡ []
unfolding first_pages
no_page l d zero none = refl
no_page l d (suc n) none =
    ap (λ (w : List ℕ). w ++ page_at l d n) (no_page l d n none)
    ∙ ap (λ (k : ℕ). take k (drop (n * (l.page + l.spare)) d)) none

-- the pages behind the first one
pages_behind : (l : PageLayout) (d : List ℕ) (n : ℕ)
    → first_pages l d (suc n) ≡ take l.page d ++ first_pages l (drop (l.page + l.spare) d) n
unfolding first_pages
pages_behind l d zero =
    let here : 0 * (l.page + l.spare) ≡ 0 = grind arith in
    ap (λ (k : ℕ). take l.page (drop k d)) here ∙ sym (append-nil (take l.page d))
pages_behind l d (suc n) =
    let s : ℕ = l.page + l.spare in
    let there : s + n * s ≡ suc n * s = grind arith in
    let next : page_at l d (suc n) ≡ page_at l (drop s d) n =
    ap (take l.page) (ap (λ (k : ℕ). drop k d) (sym there) ∙ sym (drop-drop (n * s) s d)) in
    ap (λ (w : List ℕ). w ++ page_at l d (suc n)) (pages_behind l d n)
    ∙ ap (λ (p : List ℕ). (take l.page d ++ first_pages l (drop s d) n) ++ p) next
    ∙ append_assoc (take l.page d) (first_pages l (drop s d) n) (page_at l (drop s d) n)

-- how many pages there are behind the first one
one_less : (n s : ℕ) → 0 < s → s ≤ n → n / s ≡ suc ((n - s) / s)
one_less n s some fits =
    let q : ℕ = (n - s) / s in
    let r : ℕ = (n - s) % s in
    let whole : q * s + r ≡ n - s = div-add-mod' (n - s) s in
    let more : suc q * s ≡ q * s + s = grind arith in
    let all : n ≡ suc q * s + r = omega (arith, whole, more, fits) in
    ap (λ (k : ℕ). k / s) all ∙ div-mul-add (suc q) s r (mod-lt (n - s) some)

-- the image begins with the first page, and goes on with that of what is behind its spare bytes
pub page_first : (l : PageLayout) (d : List ℕ)
    → without_spare l d ≡ take l.page d ++ without_spare l (drop (l.page + l.spare) d)
page_first l d =
    let s : ℕ = l.page + l.spare in
    let first = pages_behind l d (length d / s) in
    let short : length d < s → without_spare l d ≡ take l.page d ++ without_spare l (drop s d) = λ below.
    let alone : 0 * s + length d ≡ length d = omega arith in
    let none : length d / s ≡ 0 = sym (ap (λ (k : ℕ). k / s) alone) ∙ div-mul-add 0 s (length d) below in
    let ended : drop s d ≡ [] = drop_all s d (omega (arith, below)) in
    first ∙ ap (λ (w : List ℕ). take l.page d ++ w)
    (ap (λ (xs : List ℕ). first_pages l xs (length d / s)) ended ∙ no_bytes l (length d / s)
    ∙ sym (ap (without_spare l) ended ∙ no_bytes l (suc (length {A = ℕ} [] / s)))) in
    let long : s ≤ length d → without_spare l d ≡ take l.page d ++ without_spare l (drop s d) = λ fits.
    ⊎_elim
    (λ (zero_stride : s < 1).
    let empty : l.page ≡ 0 = omega (arith, zero_stride) in
    no_page l d (suc (length d / s)) empty
    ∙ sym (ap (λ (k : ℕ). take k d ++ without_spare l (drop s d)) empty
    ∙ no_page l (drop s d) (suc (length (drop s d) / s)) empty))
    (λ (some : 1 ≤ s).
    let count : length d / s ≡ suc (length (drop s d) / s) =
    one_less (length d) s some fits ∙ ap (λ (k : ℕ). suc (k / s)) (sym (length-drop s d)) in
    first ∙ ap (λ (n : ℕ). take l.page d ++ first_pages l (drop s d) n) count)
    (cases_lt s 1) in
    ⊎_elim short long (cases_lt (length d) s)

-- ---- what is left at each place of a page and its spare bytes

-- before a page
pub left_at_page : (l : PageLayout) (d : List ℕ) → pages_left l (l.page + l.spare) d ≡ without_spare l d
unfolding pages_left
left_at_page l d =
    let back : l.page + l.spare - l.spare ≡ l.page = omega arith in
    ap (λ (k : ℕ). take k d ++ without_spare l (drop (l.page + l.spare) d)) back ∙ sym (page_first l d)

-- behind the spare bytes
pub left_behind : (l : PageLayout) (d : List ℕ) → pages_left l 0 d ≡ pages_left l (l.page + l.spare) d
unfolding pages_left
left_behind l d =
    let none : 0 - l.spare ≡ 0 = omega arith in
    ap (λ (k : ℕ). take k d ++ without_spare l d) none ∙ sym (left_at_page l d)

-- within the page
pub left_in_page : (l : PageLayout) (left : ℕ) (bs ys : List ℕ) → length bs ≤ left - l.spare
    → pages_left l left (bs ++ ys) ≡ bs ++ pages_left l (left - length bs) ys
unfolding pages_left
left_in_page l left bs ys fits =
    let n : ℕ = length bs in
    let here : left - l.spare ≡ n + (left - n - l.spare) = omega (arith, fits) in
    let all : left ≡ n + (left - n) = omega (arith, fits) in
    ap (λ (k : ℕ). take k (bs ++ ys) ++ without_spare l (drop left (bs ++ ys))) here
    ∙ ap (λ (w : List ℕ). w ++ without_spare l (drop left (bs ++ ys))) (take-append-add bs ys (left - n - l.spare))
    ∙ ap (λ (k : ℕ). (bs ++ take (left - n - l.spare) ys) ++ without_spare l (drop k (bs ++ ys))) all
    ∙ ap (λ (xs : List ℕ). (bs ++ take (left - n - l.spare) ys) ++ without_spare l xs) (drop-append-add bs ys (left - n))
    ∙ append_assoc bs (take (left - n - l.spare) ys) (without_spare l (drop (left - n) ys))

-- within the spare bytes
pub left_in_spare : (l : PageLayout) (left : ℕ) (bs ys : List ℕ) → length bs ≤ left → left ≤ l.spare
    → pages_left l left (bs ++ ys) ≡ pages_left l (left - length bs) ys
unfolding pages_left
left_in_spare l left bs ys fits spare =
    let n : ℕ = length bs in
    let none : left - l.spare ≡ 0 = omega (arith, spare) in
    let still_none : left - n - l.spare ≡ 0 = omega (arith, spare) in
    let all : left ≡ n + (left - n) = omega (arith, fits) in
    ap (λ (k : ℕ). take k (bs ++ ys) ++ without_spare l (drop left (bs ++ ys))) none
    ∙ ap (λ (k : ℕ). without_spare l (drop k (bs ++ ys))) all
    ∙ ap (without_spare l) (drop-append-add bs ys (left - n))
    ∙ sym (ap (λ (k : ℕ). take k ys ++ without_spare l (drop (left - n) ys)) still_none)

-- at the end
pub left_at_end : (l : PageLayout) (left : ℕ) → pages_left l left [] ≡ []
unfolding pages_left
left_at_end l left =
    ap (λ (w : List ℕ). w ++ without_spare l (drop left [])) (take-nil (left - l.spare))
    ∙ ap (without_spare l) (drop-nil left) ∙ no_bytes l (suc (length {A = ℕ} [] / (l.page + l.spare)))

-- where pages have no bytes
pub left_of_none : (l : PageLayout) (left : ℕ) (d : List ℕ) → l.page ≡ 0 → left ≤ l.spare → pages_left l left d ≡ []
unfolding pages_left
left_of_none l left d empty spare =
    let none : left - l.spare ≡ 0 = omega (arith, spare) in
    ap (λ (k : ℕ). take k d ++ without_spare l (drop left d)) none
    ∙ no_page l (drop left d) (suc (length (drop left d) / (l.page + l.spare))) empty

-- ---- the same where the bytes may be known

taken_length : (n : ℕ) (read : List ℕ) → n ≤ length read → length (take n read) ≡ n
taken_length n read fits = rw (length-take n read) (omega arith)

-- spare bytes were skipped
pub skipped : (l : PageLayout) (left n : ℕ) (old new : Option (List ℕ)) (read : List ℕ) → n ≤ length read → n ≤ left → left ≤ l.spare
    → Consumes old new (take n read) → Keeps (option_map (pages_left l left) old) (option_map (pages_left l (left - n)) new)
skipped l left n None new read is fits spare consumed = tt
skipped l left n (Some xs) None read is fits spare consumed = absurd consumed
skipped l left n (Some xs) (Some ys) read is fits spare consumed =
    let long = taken_length n read is in
    sym (ap (pages_left l left) consumed ∙ left_in_spare l left (take n read) ys (omega (arith, long, fits)) spare
    ∙ ap (λ (k : ℕ). pages_left l (left - k) ys) long)

-- all of them
pub next_page : (l : PageLayout) (left whole : ℕ) (old : Option (List ℕ)) → left ≡ 0 → whole ≡ l.page + l.spare
    → Keeps (option_map (pages_left l left) old) (option_map (pages_left l whole) old)
next_page l left whole None none all = tt
next_page l left whole (Some xs) none all =
    ap (λ (k : ℕ). pages_left l k xs) all ∙ sym (ap (λ (k : ℕ). pages_left l k xs) none ∙ left_behind l xs)

-- bytes of the page were read
pub given : (l : PageLayout) (left n : ℕ) (old new : Option (List ℕ)) (read behind : List ℕ) → n ≤ length read → n ≤ left - l.spare
    → Consumes old new (take n read)
    → Consumes (option_map (pages_left l left) old) (option_map (pages_left l (left - n)) new) (take n (read ++ behind))
given l left n None new read behind is fits consumed = tt
given l left n (Some xs) None read behind is fits consumed = absurd consumed
given l left n (Some xs) (Some ys) read behind is fits consumed =
    let long = taken_length n read is in
    ap (pages_left l left) consumed ∙ left_in_page l left (take n read) ys (omega (arith, long, fits))
    ∙ ap (λ (k : ℕ). take n read ++ pages_left l (left - k) ys) long
    ∙ ap (λ (front : List ℕ). front ++ pages_left l (left - n) ys) (sym (take-append-le n read behind is))

-- what is read of bytes that stayed is read of them
pub kept_only : (a b : Option (List ℕ)) → Keeps a b → Consumes a b []
kept_only None b kept = tt
kept_only (Some x) None kept = absurd kept
kept_only (Some x) (Some y) kept = sym kept

pub kept_consumed : (a b c : Option (List ℕ)) (bs : List ℕ) → Keeps a b → Consumes b c bs → Consumes a c bs
kept_consumed None b c bs kept consumed = tt
kept_consumed (Some x) None c bs kept consumed = absurd kept
kept_consumed (Some x) (Some y) None bs kept consumed = absurd consumed
kept_consumed (Some x) (Some y) (Some z) bs kept consumed = sym kept ∙ consumed

-- the source ended
pub ended : (l : PageLayout) (left : ℕ) (rest : Option (List ℕ)) → IsAtEnd rest → IsAtEnd (option_map (pages_left l left) rest)
ended l left None end = tt
ended l left (Some xs) end = ap (pages_left l left) end ∙ left_at_end l left

-- there are no pages
pub without_pages : (l : PageLayout) (left : ℕ) (rest : Option (List ℕ)) → l.page ≡ 0 → left ≤ l.spare
    → IsAtEnd (option_map (pages_left l left) rest)
without_pages l left None empty spare = tt
without_pages l left (Some xs) empty spare = left_of_none l left xs empty spare

-- all is left at first
pub all_at_first : (l : PageLayout) (left : ℕ) (rest : Option (List ℕ)) → left ≡ l.page + l.spare
    → option_map (left_by (Some l) left) rest ≡ option_map (pages_by (Some l)) rest
all_at_first l left None all = refl
all_at_first l left (Some xs) all = ap Some (ap (λ (k : ℕ). pages_left l k xs) all ∙ left_at_page l xs)

pub all_of_bytes : (left : ℕ) (rest : Option (List ℕ)) → option_map (left_by None left) rest ≡ option_map (pages_by None) rest
all_of_bytes left None = refl
all_of_bytes left (Some xs) = refl
