-- A bar, as far as it shows the kinds of the first bytes of a block.
use Rattle.std.proofs.Common.{◌≡◌, ℕ, zero, suc, ◌+◌, ◌-◌, ◌*◌, ◌/◌, ◌<◌, ◌≤◌, List, [], ◌∷◌, ◌++◌, length, replicate, refl, sym, ap, arith, ◌∙◌, append-nil, append_assoc, length-append}
use Rattle.std.proofs.Math.Nat.{le-div_iff_mul-le, div-lt_iff_lt-mul, div-le_of_le-mul, mul-le-mul_right}
use Rattle.std.proofs.lemmas.Grind.{replicate_next}
use Rattle.std.proofs.lemmas.List.{map-append, length-replicate, get_or_append_left, get_or-append_right, get_or-replicate, length-map}
use Rattle.flashbase.specs.Lists.{below, each_below}
use Rattle.flashbase.proofs.ListLemmas.{length-below}
use Rattle.jmap.specs.MapText.{kind_mark, fiftieth_end, bar_mark, bar_of}
use Rattle.jmap.specs.declared.kind.ByteKind.{ByteKind}
use Rattle.jmap.specs.declared.kind.ByteKind.TheVariants.{Free}

-- ---- lists of values

each_next : (f : ℕ → ℕ) (n : ℕ) → each_below (suc n) f ≡ each_below n f ++ f n ∷ []
each_next f n = map-append f (below n) (n ∷ [])

each_same : (f g : ℕ → ℕ) (n : ℕ) → ((i : ℕ) → i < n → f i ≡ g i) → each_below n f ≡ each_below n g
each_same f g zero same = refl
each_same f g (suc n) same =
    each_next f n
    ∙ ap (λ (l : List ℕ). l ++ f n ∷ []) (each_same f g n (λ i less. same i (omega arith)))
    ∙ ap (λ (y : ℕ). each_below n g ++ y ∷ []) (same n (omega arith))
    ∙ sym (each_next g n)

each_more : (f : ℕ → ℕ) (n m x : ℕ) → ((i : ℕ) → n ≤ i → i < n + m → f i ≡ x) → each_below (n + m) f ≡ each_below n f ++ replicate m x
each_more f n zero x one = ap (λ (k : ℕ). each_below k f) {x = n + 0} {y = n} (omega arith) ∙ sym (append-nil (each_below n f))
each_more f n (suc m) x one =
    let next : replicate (suc m) x ≡ replicate m x ++ x ∷ [] = ap (λ (k : ℕ). replicate k x) {x = suc m} {y = m + 1} (omega arith) ∙ replicate_next m x in
    ap (λ (k : ℕ). each_below k f) {x = n + suc m} {y = suc (n + m)} (omega arith)
    ∙ each_next f (n + m)
    ∙ ap (λ (l : List ℕ). l ++ f (n + m) ∷ []) (each_more f n m x (λ i least less. one i least (omega arith)))
    ∙ ap (λ (y : ℕ). (each_below n f ++ replicate m x) ++ y ∷ []) (one (n + m) (omega arith) (omega arith))
    ∙ append_assoc (each_below n f) (replicate m x) (x ∷ [])
    ∙ ap (λ (l : List ℕ). each_below n f ++ l) (sym next)

-- ---- which characters so many bytes decide

abbrev pub decided : ℕ → ℕ → ℕ
decided size n = 50 * n / size

pub decided_most : (size n : ℕ) → 0 < size → n ≤ size → decided size n ≤ 50
decided_most size n some within = div-le_of_le-mul size {m = 50 * n} {n = 50} (omega (arith, within))

decided_rises : (size n m : ℕ) → 0 < size → decided size n ≤ decided size (n + m)
decided_rises size n m some =
    let up = (le-div_iff_mul-le {k = size} {x = decided size n} {y = 50 * n} some).0 (omega arith) in
    (le-div_iff_mul-le {k = size} {x = decided size n} {y = 50 * (n + m)} some).1 (omega (arith, up))

shown_before : (size n i : ℕ) → 0 < size → i < decided size n → fiftieth_end size i < n
shown_before size n i some less =
    let up = (le-div_iff_mul-le {k = size} {x = i + 1} {y = 50 * n} some).0 (omega (arith, less)) in
    let positive = mul-le-mul_right {m = 1} {n = i + 1} size (omega arith) in
    (div-lt_iff_lt-mul {k = 50} {x = (i + 1) * size - 1} {y = n} (omega arith)).1 (omega (arith, up, positive, some))

shown_behind : (size n i : ℕ) → 0 < size → decided size n ≤ i → n ≤ fiftieth_end size i
shown_behind size n i some least =
    let past = (div-lt_iff_lt-mul {k = size} {x = 50 * n} {y = i + 1} some).0 (omega (arith, least)) in
    (le-div_iff_mul-le {k = 50} {x = n} {y = (i + 1) * size - 1} (omega arith)).1 (omega (arith, past))

-- ---- bars

abbrev pub bar_upto : ℕ → List ByteKind → List ℕ
bar_upto size kinds = each_below (decided size (length kinds)) (bar_mark size kinds)

pub bar_long : (size : ℕ) (kinds : List ByteKind) → length (bar_upto size kinds) ≡ decided size (length kinds)
bar_long size kinds =
    length-map (below (decided size (length kinds))) (bar_mark size kinds) ∙ length-below (decided size (length kinds))

-- the bar of a whole block
pub bar_whole : (size : ℕ) (kinds : List ByteKind) → 0 < size → length kinds ≡ size → bar_upto size kinds ≡ bar_of size kinds
unfolding bar_of
bar_whole size kinds some long =
    let most = decided_most size size some (omega arith) in
    let least = (le-div_iff_mul-le {k = size} {x = 50} {y = 50 * size} some).1 (omega arith) in
    ap (λ (n : ℕ). each_below (decided size n) (bar_mark size kinds)) long
    ∙ ap (λ (n : ℕ). each_below n (bar_mark size kinds)) {x = decided size size} {y = 50} (omega (arith, most, least))

-- and after some more bytes of one kind
pub bar_more : (size n : ℕ) (kinds : List ByteKind) (kind : ByteKind) → 0 < size
    → bar_upto size (kinds ++ replicate n kind) ≡ bar_upto size kinds ++ replicate (decided size (length kinds + n) - length (bar_upto size kinds)) (kind_mark kind)
bar_more size n kinds kind some =
    let long : length (kinds ++ replicate n kind) ≡ length kinds + n =
    length-append kinds (replicate n kind) ∙ ap (λ (m : ℕ). length kinds + m) (length-replicate n kind) in
    let now : ℕ = decided size (length kinds) in
    let next : ℕ = decided size (length kinds + n) in
    let more : ℕ = next - now in
    let sum : next ≡ now + more = omega (arith, decided_rises size (length kinds) n some) in
    ap (λ (m : ℕ). each_below (decided size m) (bar_mark size (kinds ++ replicate n kind))) long
    ∙ ap (λ (m : ℕ). each_below m (bar_mark size (kinds ++ replicate n kind))) sum
    ∙ each_more (bar_mark size (kinds ++ replicate n kind)) now more (kind_mark kind) (λ i least less.
    let behind = shown_behind size (length kinds) i some least in
    let before = shown_before size (length kinds + n) i some (omega (arith, less, sum)) in
    ap kind_mark (get_or-append_right kinds (replicate n kind) (length kinds) (fiftieth_end size i) Free refl behind
    ∙ get_or-replicate n (fiftieth_end size i - length kinds) kind Free (omega (arith, behind, before))))
    ∙ ap (λ (l : List ℕ). l ++ replicate more (kind_mark kind)) (each_same (bar_mark size (kinds ++ replicate n kind)) (bar_mark size kinds) now (λ i less.
    ap kind_mark (get_or_append_left kinds (replicate n kind) Free (fiftieth_end size i) (shown_before size (length kinds) i some less))))
    ∙ ap (λ (m : ℕ). bar_upto size kinds ++ replicate (next - m) (kind_mark kind)) (sym (bar_long size kinds))

-- what a call fills it up to
pub bar_next : (size done n : ℕ) (kinds more : List ByteKind) (kind k : ByteKind) (bar new : List ℕ) → 0 < size → done ≡ length kinds → bar ≡ bar_upto size kinds → kind ≡ k
    → more ≡ kinds ++ replicate n k → new ≡ bar ++ replicate (decided size (done + n) - length bar) (kind_mark kind) → new ≡ bar_upto size more
bar_next size done n kinds more kind k bar new some far is same next fills =
    fills
    ∙ ap (λ (b : List ℕ). b ++ replicate (decided size (done + n) - length b) (kind_mark kind)) is
    ∙ ap (λ (m : ℕ). bar_upto size kinds ++ replicate (decided size (m + n) - length (bar_upto size kinds)) (kind_mark kind)) far
    ∙ ap (λ (j : ByteKind). bar_upto size kinds ++ replicate (decided size (length kinds + n) - length (bar_upto size kinds)) (kind_mark j)) same
    ∙ sym (bar_more size n kinds k some)
    ∙ ap (bar_upto size) (sym next)

pub bar_short : (size : ℕ) (kinds : List ByteKind) (bar : List ℕ) → 0 < size → length kinds ≤ size → bar ≡ bar_upto size kinds → length bar ≤ 50
bar_short size kinds bar some within is = omega (arith, decided_most size (length kinds) some within, ap length is ∙ bar_long size kinds)
