-- The rest of a block of an image, from an address on.
use Rattle.std.proofs.Common.{◌≡◌, ℕ, ◌+◌, ◌-◌, ◌*◌, ◌<◌, ◌≤◌, List, [], ◌++◌, length, take, drop, get_or, refl, sym, ap, ◌∙◌, arith, inl, inr, length-append}
use Rattle.std.proofs.lemmas.Bool.{cases_lt}
use Rattle.std.proofs.lemmas.List.{get_or-take, get_or-drop, get_or-append_right, get_or_append_left, drop-drop, drop_at, take_all, length-take, length-replicate, ext_get_or}
use Rattle.std.proofs.Common.{length-drop}
use Rattle.flashbase.specs.Bytes.{erased}
use Rattle.jscan.specs.Image.{block_of}
use Rattle.jlog.proofs.ByteLemmas.{erased_end, erased_is}

-- so many bytes from the front of these, erased where they end before
abbrev pub front_of : ℕ → List ℕ → List ℕ
front_of n out = take n (out ++ erased n)

pub front_long : (n : ℕ) (out : List ℕ) → length (front_of n out) ≡ n
front_long n out = omega (arith, length-take n (out ++ erased n), length-append out (erased n), length-replicate {A = ℕ} n 0xFF)

front_byte : (n : ℕ) (out : List ℕ) (i : ℕ) → i < n → get_or (front_of n out) i 0xFF ≡ get_or out i 0xFF
front_byte n out i inside = get_or-take n (out ++ erased n) i 0xFF inside ∙ erased_end out n i

pub front_none : (n : ℕ) → front_of n [] ≡ erased n
front_none n = take_all n (erased n) (omega (arith, length-replicate {A = ℕ} n 0xFF))

-- bytes that are there stand at the front
pub front_goes_on : (n : ℕ) (xs ys : List ℕ) → length xs ≤ n → front_of n (xs ++ ys) ≡ xs ++ front_of (n - length xs) ys
front_goes_on n xs ys within =
    let m : ℕ = n - length xs in
    let long : length (front_of n (xs ++ ys)) ≡ length (xs ++ front_of m ys) =
    front_long n (xs ++ ys) ∙ (let sum : n ≡ length xs + m = omega arith in sum) ∙ (ap (λ (k : ℕ). length xs + k) (sym (front_long m ys)) ∙ sym (length-append xs (front_of m ys))) in
    ext_get_or 0xFF (front_of n (xs ++ ys)) (xs ++ front_of m ys) long (λ i inside.
    let less : i < n = omega (arith, inside, front_long n (xs ++ ys)) in
    front_byte n (xs ++ ys) i less
    ∙ elim (cases_lt i (length xs)) [
      | inl here ↦ get_or_append_left xs ys 0xFF i here ∙ sym (get_or_append_left xs (front_of m ys) 0xFF i here)
      | inr past ↦
          get_or-append_right xs ys (length xs) i 0xFF refl past
          ∙ (sym (front_byte m ys (i - length xs) (omega arith)) ∙ sym (get_or-append_right xs (front_of m ys) (length xs) i 0xFF refl past))
    ])

-- and behind some of them there are fewer
pub front_behind : (n p : ℕ) (out : List ℕ) → p ≤ n → drop p (front_of n out) ≡ front_of (n - p) (drop p out)
front_behind n p out within =
    let long : length (drop p (front_of n out)) ≡ n - p = length-drop p (front_of n out) ∙ ap (λ (k : ℕ). k - p) (front_long n out) in
    ext_get_or 0xFF (drop p (front_of n out)) (front_of (n - p) (drop p out)) (long ∙ sym (front_long (n - p) (drop p out))) (λ i inside.
    let less : i < n - p = omega (arith, inside, long) in
    get_or-drop p (front_of n out) i 0xFF
    ∙ (front_byte n out (p + i) (omega arith) ∙ (sym (get_or-drop p out i 0xFF) ∙ sym (front_byte (n - p) (drop p out) i less))))

-- the rest of a block is what the image has from its address on
pub rest_of_block : (size d p c : ℕ) (image : List ℕ) → p ≤ size → c ≡ d * size + p → drop p (block_of size image d) ≡ front_of (size - p) (drop c image)
rest_of_block size d p c image within at =
    front_behind size p (drop (d * size) image) within
    ∙ ap (front_of (size - p)) (drop-drop p (d * size) image ∙ ap (λ (k : ℕ). drop k image) (sym at))

-- what an image has behind bytes that it has
pub image_behind : (c c' : ℕ) (image xs ys : List ℕ) → drop c image ≡ xs ++ ys → c' ≡ c + length xs → drop c' image ≡ ys
image_behind c c' image xs ys is at =
    ap (λ (k : ℕ). drop k image) at ∙ (sym (drop-drop (length xs) c image) ∙ (ap (drop (length xs)) is ∙ drop_at xs ys (length xs) refl))

none_behind : (c m : ℕ) (image : List ℕ) → drop c image ≡ [] → drop (c + m) image ≡ []
none_behind c m image is =
    sym (drop-drop m c image) ∙ (ap (drop m) is ∙ nothing m)
  where
    nothing : (k : ℕ) → drop {A = ℕ} k [] ≡ []
    nothing k = ext_get_or 0xFF (drop k []) [] (omega (arith, length-drop {A = ℕ} k [])) (λ i inside. absurd (omega (arith, inside, length-drop {A = ℕ} k [])))

-- and where it has none left the blocks are erased
pub erased_block : (size b c : ℕ) (image : List ℕ) → drop c image ≡ [] → c ≤ b * size → block_of size image b ≡ erased size
erased_block size b c image is below =
    let at : b * size ≡ c + (b * size - c) = omega arith in
    ap (front_of size) (ap (λ (k : ℕ). drop k image) at ∙ none_behind c (b * size - c) image is) ∙ front_none size
