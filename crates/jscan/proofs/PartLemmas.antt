-- Parts of a block, and of what it has left.
use Rattle.std.proofs.Common.{◌≡◌, ℕ, zero, suc, ◌+◌, ◌-◌, ◌*◌, ◌≤◌, Bool, List, [], ◌∷◌, ◌++◌, length, take, drop, min, refl, sym, ap, ◌∙◌, arith, ⊎_elim, length-append, length-take}
use Rattle.std.specs.Prelude.{◌==◌, ◌&&◌}
use Rattle.std.specs.List.{list_all}
use Rattle.std.proofs.Math.Seq.{take-append-add}
use Rattle.std.proofs.lemmas.Bool.{cases_lt}
use Rattle.std.proofs.lemmas.List.{take-append-le, take-replicate, take_all, append-nil, length-replicate}
use Rattle.flashbase.specs.Bytes.{erased}
use Rattle.jnode.specs.declared.order.Endian.{Endian}
use Rattle.jnode.specs.declared.order.Endian.TheVariants.{Little, Big}
use Rattle.jnode.specs.Order.{number_in}
use Rattle.jnode.specs.Header.{magic_of}
use Rattle.jscan.specs.Image.{block_of}

-- as many bytes as there are up to `size`, filled up to it
filled_up : (size len : ℕ) (rest : List ℕ) → len ≡ min size (length rest) → take len rest ++ erased (size - len) ≡ take size (rest ++ erased size)
filled_up size len rest is =
    ⊎_elim
    (λ part.
    let all : len ≡ length rest = omega (arith, is) in
    ap (λ (n : ℕ). take n rest ++ erased (size - n)) all
    ∙ (ap (λ (l : List ℕ). l ++ erased (size - length rest)) (take_all (length rest) rest (omega arith))
    ∙ sym (
    ap (λ (n : ℕ). take n (rest ++ erased size)) {y = length rest + (size - length rest)} (omega arith)
    ∙ take-append-add rest (erased size) (size - length rest)
    ∙ ap (λ (l : List ℕ). rest ++ l) (take-replicate (size - length rest) size 0xFF (omega arith))
    )))
    (λ whole.
    let full : len ≡ size = omega (arith, is) in
    let none : size - len ≡ 0 = omega arith in
    ap (λ (n : ℕ). take len rest ++ erased n) none ∙ append-nil (take len rest) ∙ ap (λ (n : ℕ). take n rest) full
    ∙ sym (take-append-le size rest (erased size) (omega (arith, is))))
    (cases_lt (length rest) size)

-- a block of the image, by where it begins
pub block_at : (size start len k : ℕ) (image present block : List ℕ) → k * size ≡ start → len ≡ min size (length (drop start image))
    → present ≡ take ((start + len) - start) (drop start image) → block ≡ present ++ erased (size - len) → block ≡ block_of size image k
block_at size start len k image present block here is takes fills =
    let count : (start + len) - start ≡ len = omega arith in
    fills ∙ ap (λ (l : List ℕ). l ++ erased (size - len)) (takes ∙ ap (λ (n : ℕ). take n (drop start image)) count) ∙ filled_up size len (drop start image) is
    ∙ ap (λ (n : ℕ). take size (drop n image ++ erased size)) (sym here)

pub block_length : (size : ℕ) (image : List ℕ) (k : ℕ) → length (block_of size image k) ≡ size
block_length size image k =
    length-take size (drop (k * size) image ++ erased size)
    ∙ omega (arith, length-append (drop (k * size) image) (erased size), length-replicate {A = ℕ} size 0xFF)

-- what is missing is erased, so the bytes are if those present are
pub erased_all : (present : List ℕ) (n : ℕ) → list_all (λ b. b == 0xFF) (present ++ erased n) ≡ list_all (λ b. b == 0xFF) present
erased_all [] zero = refl
erased_all [] (suc n) = erased_all [] n
erased_all (b ∷ present) n = ap (λ (t : Bool). (b == 0xFF) && t) (erased_all present n)

-- the magic number is in the first two bytes
pub magic_present : (e : Endian) (present more : List ℕ) → 2 ≤ length present → magic_of e (present ++ more) ≡ magic_of e present
unfolding number_in
magic_present Little (a ∷ b ∷ present) more h = refl
magic_present Big (a ∷ b ∷ present) more h = refl
magic_present e [] more h = absurd (omega arith)
magic_present e (a ∷ []) more h = absurd (omega arith)

pub magic_front : (e : Endian) (bytes : List ℕ) → 2 ≤ length bytes → magic_of e (take 2 bytes) ≡ magic_of e bytes
unfolding number_in
magic_front Little (a ∷ b ∷ bytes) h = refl
magic_front Big (a ∷ b ∷ bytes) h = refl
magic_front e [] h = absurd (omega arith)
magic_front e (a ∷ []) h = absurd (omega arith)
