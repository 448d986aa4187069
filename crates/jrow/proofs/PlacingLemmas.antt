-- An image with bytes in its row, block by block.
use Rattle.std.proofs.Common.{◌≡◌, ℕ, zero, suc, ◌+◌, ◌-◌, ◌*◌, ◌<◌, ◌≤◌, List, [], ◌∷◌, ◌++◌, length, take, min, sym, ap, ap₂, subst, ◌∙◌, arith, inl, inr, Option, append-nil, append_assoc}
use Rattle.std.specs.Prelude.{flat_map, Result, IsErr}
use Rattle.std.specs.Io.KnownBytes.{Appends}
use Rattle.std.proofs.KnownBytes.{Appends-trans}
use Rattle.std.proofs.Math.Seq.{take-append-add}
use Rattle.std.proofs.lemmas.Bool.{cases_lt}
use Rattle.std.proofs.lemmas.Grind.{flat_map-append}
use Rattle.std.proofs.lemmas.List.{take-append-le, take-replicate, take_all, take_min}
use Rattle.flashbase.specs.Bytes.{erased}
use Rattle.flashbase.specs.Device.{PutsPart, Puts, next_count}
use Rattle.flashbase.specs.Lists.{below}
use Rattle.flashbase.proofs.DeviceLemmas.{first_failed, part_behind}
use Rattle.flashbase.proofs.ListLemmas.{length-below}
use Rattle.jrow.proofs.SideLemmas.{made_long}

-- ---- beginnings

take_parts : (n : ℕ) (xs ys : List ℕ) → take n (xs ++ ys) ≡ take n xs ++ take (n - length xs) ys
take_parts n xs ys = elim (cases_lt (length xs) n) [
  | inl past ↦
      let sum : n ≡ length xs + (n - length xs) = omega arith in
      ap (λ (m : ℕ). take m (xs ++ ys)) sum
      ∙ (take-append-add xs ys (n - length xs) ∙ ap (λ (l : List ℕ). l ++ take (n - length xs) ys) (sym (take_all n xs (omega arith))))
  | inr within ↦
      let none : n - length xs ≡ 0 = omega arith in
      take-append-le n xs ys within
      ∙ (sym (append-nil (take n xs)) ∙ ap (λ (m : ℕ). take n xs ++ take m ys) (sym none))
]

-- of a part: what is present of them, and then erased bytes
pub part_parts : (len held : ℕ) (part present : List ℕ) → len ≤ length part → part ≡ present ++ erased (length part - length present)
    → held ≡ min len (length present) → take held present ++ erased (len - held) ≡ take len part
part_parts len held part present within is least =
    let n : ℕ = length present in
    let m : ℕ = length part - n in
    let rest : len - held ≡ len - n = omega (arith, least) in
    ap₂ (λ (xs ys : List ℕ). xs ++ ys) (ap (λ (k : ℕ). take k present) least ∙ take_min len present)
    (ap erased rest ∙ sym (take-replicate (len - n) m 0xFF (omega (arith, within))))
    ∙ (sym (take_parts len present (erased m)) ∙ ap (take len) (sym is))

-- ---- one block more

pub begin_more : (size len b left held : ℕ) (f : ℕ → List ℕ) → ((c : ℕ) → length (f c) ≡ size) → left ≡ len - b * size → held ≡ min left size
    → take len (flat_map f (below (b + 1))) ≡ take len (flat_map f (below b)) ++ take held (f b)
begin_more size len b left held f long is least =
    let xs : List ℕ = flat_map f (below b) in
    let next : b + 1 ≡ suc b = omega arith in
    let front : length xs ≡ b * size = made_long size f long (below b) ∙ ap (λ (n : ℕ). n * size) (length-below b) in
    let rest : len - length xs ≡ left = omega (arith, front, is) in
    let same : held ≡ min left (length (f b)) = omega (arith, least, long b) in
    ap (λ (n : ℕ). take len (flat_map f (below n))) next
    ∙ (ap (take len) (flat_map-append f (below b) (b ∷ []) ∙ ap (λ (l : List ℕ). xs ++ l) (append-nil (f b)))
    ∙ (take_parts len xs (f b)
    ∙ ap (λ (l : List ℕ). take len xs ++ l) (ap (λ (n : ℕ). take n (f b)) rest ∙ (sym (take_min left (f b)) ∙ ap (λ (n : ℕ). take n (f b)) (sym same)))))

below_begins : (n d : ℕ) → (zs : List ℕ) × (below (n + d) ≡ below n ++ zs)
below_begins n zero = let same : n + 0 ≡ n = omega arith in ([], ap below same ∙ sym (append-nil (below n)))
below_begins n (suc d) =
    let it = below_begins n d in
    let next : n + suc d ≡ suc (n + d) = omega arith in
    (it.0 ++ (n + d) ∷ [], ap below next ∙ (ap (λ (l : List ℕ). l ++ (n + d) ∷ []) it.1 ∙ append_assoc (below n) it.0 ((n + d) ∷ [])))

begin_within : (len b blocks : ℕ) (f : ℕ → List ℕ) → b ≤ blocks → (zs : List ℕ) × (take len (flat_map f (below b)) ++ zs ≡ take len (flat_map f (below blocks)))
begin_within len b blocks f within =
    let it = below_begins b (blocks - b) in
    let sum : b + (blocks - b) ≡ blocks = omega arith in
    let xs : List ℕ = flat_map f (below b) in
    let whole : flat_map f (below blocks) ≡ xs ++ flat_map f it.0 =
    ap (λ (n : ℕ). flat_map f (below n)) (sym sum) ∙ (ap (flat_map f) it.1 ∙ flat_map-append f (below b) it.0) in
    (take (len - length xs) (flat_map f it.0), sym (take_parts len xs (flat_map f it.0)) ∙ sym (ap (take len) whole))

-- what lies within a beginning of them is as of all of them
pub begin_rest : (size len b blocks : ℕ) (f : ℕ → List ℕ) → ((c : ℕ) → length (f c) ≡ size) → b ≤ blocks → len ≤ b * size
    → take len (flat_map f (below b)) ≡ take len (flat_map f (below blocks))
begin_rest size len b blocks f long within inside =
    let it = below_begins b (blocks - b) in
    let sum : b + (blocks - b) ≡ blocks = omega arith in
    let xs : List ℕ = flat_map f (below b) in
    let front : length xs ≡ b * size = made_long size f long (below b) ∙ ap (λ (n : ℕ). n * size) (length-below b) in
    let whole : flat_map f (below blocks) ≡ xs ++ flat_map f it.0 =
    ap (λ (n : ℕ). flat_map f (below n)) (sym sum) ∙ (ap (flat_map f) it.1 ∙ flat_map-append f (below b) it.0) in
    sym (ap (take len) whole ∙ take-append-le len xs (flat_map f it.0) (omega (arith, inside, front)))

-- ---- up to a fault

pub begun_more : (a b c : Option (List ℕ)) (size len k left held : ℕ) (f : ℕ → List ℕ) → ((d : ℕ) → length (f d) ≡ size) → left ≡ len - k * size → held ≡ min left size
    → Appends a b (take len (flat_map f (below k))) → Appends b c (take held (f k)) → Appends a c (take len (flat_map f (below (k + 1))))
begun_more a b c size len k left held f long is least put next =
    subst (Appends a c) (sym (begin_more size len k left held f long is least)) (Appends-trans a b c (take len (flat_map f (below k))) (take held (f k)) put next)

pub begun_failed : {T E : Type 0} (a b c : Option (List ℕ)) (before mid now size len k blocks left held : ℕ) (f : ℕ → List ℕ) (r : Result T E) → IsErr r
    → ((d : ℕ) → length (f d) ≡ size) → k < blocks → left ≡ len - k * size → held ≡ min left size
    → Appends a b (take len (flat_map f (below k))) → mid ≡ before → PutsPart b c (take held (f k)) → now ≡ next_count mid
    → Puts a c before now (take len (flat_map f (below blocks))) r
begun_failed a b c before mid now size len k blocks left held f r err long within is least put same part failed =
    let it = begin_within len (k + 1) blocks f (omega arith) in
    subst (λ (l : List ℕ). Puts a c before now l r) it.1
    (first_failed a c before now (take len (flat_map f (below (k + 1)))) it.0 r err
    (subst (PutsPart a c) (sym (begin_more size len k left held f long is least)) (part_behind a b c (take len (flat_map f (below k))) (take held (f k)) put part))
    (failed ∙ ap next_count same))
