-- An image that is left by a stop.
use Rattle.std.proofs.Common.{◌≡◌, ℕ, ◌+◌, ◌-◌, ◌*◌, ◌%◌, ◌<◌, ◌≤◌, false, List, [], ◌∷◌, ◌++◌, length, map, take, drop, get_or, refl, sym, ap, subst, ◌∙◌, arith, inl, inr, Some, Contains, length-append, length-take}
use Rattle.std.specs.Prelude.{◌==◌}
use Rattle.std.specs.List.{AllByRecursion}
use Rattle.std.proofs.Math.Nat.{mul-le-mul_right}
use Rattle.std.proofs.lemmas.Bool.{cases_Bool, cases_lt, cond-true, cond-false, eq-eqb}
use Rattle.std.proofs.lemmas.List.{ext_get_or, get_or-take, get_or_append_left, get_or-append_right, get_or_past, length-replicate}
use Rattle.std.proofs.lemmas.Option.{same_Some}
use Rattle.flashbase.specs.Bytes.{erased}
use Rattle.flashbase.specs.Lists.{below}
use Rattle.flashbase.proofs.ListLemmas.{length-below, get_or-below}
use Rattle.flashbase.proofs.MemberLemmas.{Contains-here, Contains-there}
use Rattle.jnode.specs.declared.order.Endian.{Endian}
use Rattle.jscan.specs.Blank.{is_blank}
use Rattle.jscan.specs.Image.{block_of}
use Rattle.jscan.proofs.PartLemmas.{block_length}
use Rattle.jscan.specs.Tiling.{bytes_of}
use Rattle.jlog.specs.Left.{IsLeft, front_of}
use Rattle.jlog.proofs.ByteLemmas.{block_byte, erased_end}
use Rattle.jrow.proofs.SideLemmas.{made_byte, made_long}
use Rattle.jrow.proofs.WithRowLemmas.{not_same}
use Rattle.jrests.specs.Begun.{rest_of}
use Rattle.jrests.specs.Left.{SharesAreLeft}
use Rattle.jrests.specs.Openings.{AreUpwards, IsOpeningOf, opening_in}
use Rattle.jrests.specs.Shares.{taken_from, Share, shares, output_to}
use Rattle.jrests.specs.declared.opening.Opening.{Opening}
use Rattle.jrests.proofs.KeepLemmas.{whole_words}
use Rattle.jrests.proofs.RestLemmas.{rest_is_found}
use Rattle.jopenings.specs.Exist.{block_after, block_left, flash_left, SomeAreLeftInOpenings}

-- ---- an opening lies within its block

pub opening_within : (e : Endian) (size place : ℕ) (block : List ℕ) → length block ≡ size → opening_in e size block ≡ Some place → place ≤ size
opening_within e size place block long opens = elim (cases_Bool (is_blank e size block)) [
  | inl blank ↦
      let none : 0 ≡ place = same_Some _ _ (sym (cond-true (is_blank e size block) (Some 0) (rest_of e size block) blank) ∙ opens) in
      omega (arith, none)
  | inr begun ↦
      let found : rest_of e size block ≡ Some place = sym (cond-false (is_blank e size block) (Some 0) (rest_of e size block) begun) ∙ opens in
      let within = (rest_is_found e size block place found).within in
      omega (arith, within, long)
]

-- at a word
pub opening_aligned : (e : Endian) (size place : ℕ) (block : List ℕ) → size % 4 ≡ 0 → length block ≡ size → opening_in e size block ≡ Some place → place % 4 ≡ 0
opening_aligned e size place block words long opens = elim (cases_Bool (is_blank e size block)) [
  | inl blank ↦
      let none : 0 ≡ place = same_Some _ _ (sym (cond-true (is_blank e size block) (Some 0) (rest_of e size block) blank) ∙ opens) in
      ap (λ (n : ℕ). n % 4) (sym none)
  | inr begun ↦
      let found : rest_of e size block ≡ Some place = sym (cond-false (is_blank e size block) (Some 0) (rest_of e size block) begun) ∙ opens in
      let rest = rest_is_found e size block place found in
      let whole : length (bytes_of rest.before) % 4 ≡ 0 = (whole_words e 0 block rest.before rest.after (ap (λ (n : ℕ). n % 4) long ∙ words) rest.tiles rest.whole).0 in
      ap (λ (n : ℕ). n % 4) (sym rest.begins) ∙ whole
]

-- ---- one block

front_long : (base : List ℕ) (from : ℕ) → length (front_of base from) ≡ from
front_long base from = omega (arith, length-take from (base ++ erased from), length-append base (erased from), length-replicate {A = ℕ} from 0xFF)

pub front_byte : (base more : List ℕ) (from at : ℕ) → at < from → get_or (front_of base from ++ more) at 0xFF ≡ get_or base at 0xFF
front_byte base more from at inside =
    get_or_append_left (front_of base from) more 0xFF at (omega (arith, inside, front_long base from))
    ∙ (get_or-take from (base ++ erased from) at 0xFF inside ∙ erased_end base from at)

pub behind_byte : (base more : List ℕ) (from at : ℕ) → from ≤ at → get_or (front_of base from ++ more) at 0xFF ≡ get_or more (at - from) 0xFF
behind_byte base more from at past = get_or-append_right (front_of base from) more from at 0xFF (front_long base from) past

after_is_left : (e : Endian) (size place k : ℕ) (base out block : List ℕ) → place ≤ size → block ≡ block_of size (front_of base place ++ take k out) 0
    → IsLeft e size 1 base place out k block
after_is_left e size place k base out block within is =
    let first : ℕ = 0 in
    let byte : (i : ℕ) → i < size → get_or block i 0xFF ≡ get_or (front_of base place ++ take k out) i 0xFF =
    λ i small.
    let here : first * size + i ≡ i = omega arith in
    ap (λ (l : List ℕ). get_or l i 0xFF) is ∙ (block_byte size (front_of base place ++ take k out) 0 i small ∙ ap (λ (n : ℕ). get_or (front_of base place ++ take k out) n 0xFF) here) in
    let long : length block ≡ size = ap length is ∙ block_length size (front_of base place ++ take k out) 0 in
    record {
      no_longer = omega (arith, long);
      stays = λ at less. byte at (omega (arith, less, within)) ∙ front_byte base (take k out) place at less;
      each = λ b inside. inl (λ i small high.
          let none : b ≡ 0 = omega (arith, inside) in
          let nothing : b * size ≡ 0 = ap (λ (n : ℕ). n * size) none ∙ omega arith in
          let here : b * size + i ≡ i = omega (arith, nothing) in
          let past : place ≤ i = omega (arith, high, here) in
          ap (λ (n : ℕ). get_or block n 0xFF) here
          ∙ (byte i small
          ∙ (behind_byte base (take k out) place i past
          ∙ ap (λ (n : ℕ). get_or (take k out) (n - place) 0xFF) (sym here))));
    }

-- ---- each block of the flash

left_long : (e : Endian) (size k b : ℕ) (base : List ℕ) (ss : List Share) → length (block_left e size base ss k b) ≡ size
left_long e size k b base [] = block_length size base b
left_long e size k b base (s ∷ ss) = elim (cases_Bool (s.0.block == b)) [
  | inl same ↦
      ap length (cond-true (s.0.block == b) (block_after e size base s k) (block_left e size base ss (k - length (output_to e size s)) b) same)
      ∙ block_length size (front_of (block_of size base s.0.block) s.0.place ++ take k (output_to e size s)) 0
  | inr other ↦
      ap length (cond-false (s.0.block == b) (block_after e size base s k) (block_left e size base ss (k - length (output_to e size s)) b) other)
      ∙ left_long e size (k - length (output_to e size s)) b base ss
]

flash_long : (e : Endian) (size blocks k : ℕ) (base : List ℕ) (ss : List Share) → length (flash_left e size blocks base ss k) ≡ blocks * size
flash_long e size blocks k base ss =
    made_long size (block_left e size base ss k) (λ b. left_long e size k b base ss) (below blocks) ∙ ap (λ (n : ℕ). n * size) (length-below blocks)

flash_block : (e : Endian) (size blocks k b : ℕ) (base : List ℕ) (ss : List Share) → b < blocks → block_of size (flash_left e size blocks base ss k) b ≡ block_left e size base ss k b
flash_block e size blocks k b base ss inside =
    let flash : List ℕ = flash_left e size blocks base ss k in
    let long : length (block_of size flash b) ≡ size = block_length size flash b in
    ext_get_or 0xFF (block_of size flash b) (block_left e size base ss k b) (long ∙ sym (left_long e size k b base ss)) (λ i within.
    let small : i < size = omega (arith, within, long) in
    block_byte size flash b i small
    ∙ (made_byte size (block_left e size base ss k) (λ c. left_long e size k c base ss) (below blocks) b i (omega (arith, inside, length-below blocks)) small
    ∙ ap (λ (c : ℕ). get_or (block_left e size base ss k c) i 0xFF) (get_or-below blocks b inside)))

past_block : (e : Endian) (size blocks k b : ℕ) (base : List ℕ) (ss : List Share) → blocks ≤ b → length base ≤ blocks * size
    → block_of size (flash_left e size blocks base ss k) b ≡ block_of size base b
past_block e size blocks k b base ss past within =
    let flash : List ℕ = flash_left e size blocks base ss k in
    let far : blocks * size ≤ b * size = mul-le-mul_right size past in
    let long : length (block_of size flash b) ≡ size = block_length size flash b in
    ext_get_or 0xFF (block_of size flash b) (block_of size base b) (long ∙ sym (block_length size base b)) (λ i here.
    let small : i < size = omega (arith, here, long) in
    block_byte size flash b i small
    ∙ (get_or_past flash (b * size + i) 0xFF (omega (arith, far, flash_long e size blocks k base ss))
    ∙ (sym (get_or_past base (b * size + i) 0xFF (omega (arith, far, within))) ∙ sym (block_byte size base b i small))))

other_block : (e : Endian) (size k b : ℕ) (base : List ℕ) (ss : List Share) → (Contains (map (λ share. share.0.block) ss) b → ⊥) → block_left e size base ss k b ≡ block_of size base b
other_block e size k b base [] out = refl
other_block e size k b base (s ∷ ss) out =
    let others : List ℕ = map (λ share. share.0.block) ss in
    let differ : (s.0.block == b) ≡ false = not_same s.0.block b (λ same. out (subst (λ (c : ℕ). Contains (s.0.block ∷ others) c) same (Contains-here s.0.block others))) in
    cond-false (s.0.block == b) (block_after e size base s k) (block_left e size base ss (k - length (output_to e size s)) b) differ
    ∙ other_block e size (k - length (output_to e size s)) b base ss (λ has. out (Contains-there s.0.block others b has))

-- ---- the shares

shares_left : (e : Endian) (size lo hi k : ℕ) (base image : List ℕ) (row : List Opening) (forms : List (List ℕ)) → AreUpwards lo hi row → AllByRecursion (IsOpeningOf e size base) row
    → ((b : ℕ) → lo ≤ b → b < hi → block_of size image b ≡ block_left e size base (shares size row forms) k b) → SharesAreLeft e size base (shares size row forms) k image
shares_left e size lo hi k base image [] forms up opens are = tt
shares_left e size lo hi k base image (o ∷ row) forms up opens are =
    let n : ℕ = taken_from size o.place forms in
    let share : Share = (o, take n forms) in
    let out : List ℕ = output_to e size share in
    let others : List Share = shares size row (drop n forms) in
    let within : o.place ≤ size = opening_within e size o.place (block_of size base o.block) (block_length size base o.block) opens.0 in
    let here : block_of size image o.block ≡ block_after e size base share k =
    are o.block up.0 up.1
    ∙ cond-true (o.block == o.block) (block_after e size base share k) (block_left e size base others (k - length out) o.block) (eq-eqb o.block o.block refl) in (
      after_is_left e size o.place k (block_of size base o.block) out (block_of size image o.block) within here,
      shares_left e size (o.block + 1) hi (k - length out) base image row (drop n forms) up.2 opens.1 (λ b low high.
          let differ : (o.block == b) ≡ false = not_same o.block b (λ same. omega (arith, low, same)) in
          are b (omega (arith, low, up.0)) high ∙ cond-false (o.block == b) (block_after e size base share k) (block_left e size base others (k - length out) b) differ),
    )

pub some_are_left : SomeAreLeftInOpenings
some_are_left e size blocks k base row forms size_is within opens =
    let ss : List Share = shares size row forms in
    let flash : List ℕ = flash_left e size blocks base ss k in
    record {
      no_longer = omega (arith, flash_long e size blocks k base ss);
      stays = λ b out. elim (cases_lt b blocks) [
        | inl inside ↦ flash_block e size blocks k b base ss inside ∙ other_block e size k b base ss out
        | inr past ↦ past_block e size blocks k b base ss past within
      ];
      written = shares_left e size 0 blocks k base flash row forms opens.upwards opens.each (λ b low high. flash_block e size blocks k b base ss high);
    }
