-- Bytes of which those past the end count as 0xFF.
use Rattle.std.proofs.Common.{◌≡◌, ℕ, ◌+◌, ◌-◌, ◌*◌, ◌<◌, ◌≤◌, List, ◌++◌, length, take, drop, get_or, refl, sym, ◌∙◌, arith, inl, inr}
use Rattle.std.proofs.lemmas.Bool.{cases_lt}
use Rattle.std.proofs.lemmas.List.{get_or-take, get_or-drop, get_or-append-add, get_or-append_right, get_or_append_left, get_or_past, get_or-replicate, length-take, length-append, length-replicate, ext_get_or}
use Rattle.flashbase.specs.Bytes.{pad4_of, erased}
use Rattle.jnode.specs.Weak.{torn}
use Rattle.jnode.specs.Writing.{filled}
use Rattle.jnode.proofs.WritingLemmas.{length-filled}
use Rattle.jscan.specs.Image.{block_of}

erased_byte : (n i : ℕ) → get_or (erased n) i 0xFF ≡ 0xFF
erased_byte n i = elim (cases_lt i n) [
  | inl inside ↦ get_or-replicate n i 0xFF 0xFF inside
  | inr past ↦ get_or_past (erased n) i 0xFF (omega (arith, length-replicate {A = ℕ} n 0xFF))
]

-- erased bytes at the end do not show
pub erased_end : (xs : List ℕ) (n i : ℕ) → get_or (xs ++ erased n) i 0xFF ≡ get_or xs i 0xFF
erased_end xs n i = elim (cases_lt i (length xs)) [
  | inl inside ↦ get_or_append_left xs (erased n) 0xFF i inside
  | inr past ↦ get_or-append_right xs (erased n) (length xs) i 0xFF refl past ∙ erased_byte n (i - length xs) ∙ sym (get_or_past xs i 0xFF past)
]

-- bytes that all are 0xFF are erased
pub erased_is : (xs : List ℕ) (n : ℕ) → length xs ≡ n → ((i : ℕ) → i < n → get_or xs i 0xFF ≡ 0xFF) → xs ≡ erased n
erased_is xs n long bytes =
    ext_get_or 0xFF xs (erased n) (long ∙ sym (length-replicate n 0xFF)) (λ i inside. bytes i (omega (arith, inside, long)) ∙ sym (erased_byte n i))

-- ---- of what goes out, the first k bytes

pub past_cut : (out : List ℕ) (k i : ℕ) → k ≤ i → get_or (take k out) i 0xFF ≡ 0xFF
past_cut out k i past = get_or_past (take k out) i 0xFF (omega (arith, length-take k out))

-- after a front they are the first of those that follow it
pub cut_behind : (front out : List ℕ) (k i : ℕ) → get_or (take k (front ++ out)) (length front + i) 0xFF ≡ get_or (take (k - length front) out) i 0xFF
cut_behind front out k i = elim (cases_lt (length front + i) k) [
  | inl inside ↦
      get_or-take k (front ++ out) (length front + i) 0xFF inside ∙ get_or-append-add front out i 0xFF
      ∙ sym (get_or-take (k - length front) out i 0xFF (omega arith))
  | inr past ↦ past_cut (front ++ out) k (length front + i) past ∙ sym (past_cut out (k - length front) i (omega arith))
]

-- and within it they are its own
pub cut_within : (front out : List ℕ) (k i : ℕ) → i < length front → get_or (take k (front ++ out)) i 0xFF ≡ get_or (take k front) i 0xFF
cut_within front out k i inside = elim (cases_lt i k) [
  | inl less ↦ get_or-take k (front ++ out) i 0xFF less ∙ get_or_append_left front out 0xFF i inside ∙ sym (get_or-take k front i 0xFF less)
  | inr past ↦ past_cut (front ++ out) k i past ∙ sym (past_cut front k i past)
]

-- erased bytes after them do not show
pub cut_erased : (xs : List ℕ) (n k i : ℕ) → get_or (take k (xs ++ erased n)) i 0xFF ≡ get_or (take k xs) i 0xFF
cut_erased xs n k i = elim (cases_lt i k) [
  | inl less ↦ get_or-take k (xs ++ erased n) i 0xFF less ∙ erased_end xs n i ∙ sym (get_or-take k xs i 0xFF less)
  | inr past ↦ past_cut (xs ++ erased n) k i past ∙ sym (past_cut xs k i past)
]

-- where there is a node they are what a cut leaves of it
pub cut_node : (node out : List ℕ) (k i : ℕ) → i < pad4_of (length node) → get_or (take k (filled node ++ out)) i 0xFF ≡ get_or (torn node k) i 0xFF
cut_node node out k i inside =
    cut_within (filled node) out k i (omega (arith, inside, length-filled node))
    ∙ cut_erased node (pad4_of (length node) - length node) k i
    ∙ sym (erased_end (take k node) (length node - k) i)

-- ---- blocks

pub block_long : (size : ℕ) (image : List ℕ) (d : ℕ) → length (block_of size image d) ≡ size
block_long size image d = omega (arith, length-take size (drop (d * size) image ++ erased size), length-append (drop (d * size) image) (erased size), length-replicate {A = ℕ} size 0xFF)

pub block_byte : (size : ℕ) (image : List ℕ) (d i : ℕ) → i < size → get_or (block_of size image d) i 0xFF ≡ get_or image (d * size + i) 0xFF
block_byte size image d i inside =
    get_or-take size (drop (d * size) image ++ erased size) i 0xFF inside ∙ erased_end (drop (d * size) image) size i ∙ get_or-drop (d * size) image i 0xFF
