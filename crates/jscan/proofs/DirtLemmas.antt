-- Words that are dirt by their magic numbers alone.
use Rattle.std.proofs.Common.{◌≡◌, ℕ, ◌+◌, ◌-◌, ◌<◌, ◌≤◌, true, false, List, [], ◌∷◌, ◌++◌, length, drop, take, arith, refl, ap, sym, ◌∙◌, subst, ⊎_elim, length-append, length-drop}
use Rattle.std.specs.Prelude.{◌==◌, ◌&&◌, nat_eq}
use Rattle.std.specs.List.{list_all}
use Rattle.std.proofs.lemmas.Bool.{and_parts, cases_Bool, cond-false, eqb-true}
use Rattle.std.proofs.lemmas.List.{drop-append-le}
use Rattle.jnode.specs.declared.order.Endian.{Endian}
use Rattle.jnode.specs.declared.order.Endian.TheVariants.{Little, Big}
use Rattle.jnode.specs.Order.{number_in}
use Rattle.jnode.specs.Header.{IsGood, magic_of}
use Rattle.jscan.specs.Extents.{class_of, other_magic}
use Rattle.jscan.specs.Runs.{BeginsRun, IsDirtMagic}
use Rattle.jscan.specs.declared.extent.ExtentKind.{ExtentKind}
use Rattle.jscan.specs.declared.extent.ExtentKind.TheVariants.{Erased, OtherOrder, Dirt}
use Rattle.jscan.specs.declared.tiles.TileKind.TheVariants.{Word}
use Rattle.jscan.proofs.ExtentLemmas.{begins_front}
use Rattle.jscan.proofs.FrontLemmas.{word_front}
use Rattle.jscan.proofs.PartLemmas.{magic_present}

erased_magic : (e : Endian) (xs : List ℕ) → magic_of e (255 ∷ 255 ∷ xs) ≡ 0xFFFF
unfolding number_in
erased_magic Little xs = refl
erased_magic Big xs = refl

not_erased : (e : Endian) (a b : ℕ) (xs : List ℕ) → IsDirtMagic (magic_of e (a ∷ b ∷ xs)) → list_all (λ x. x == 0xFF) (a ∷ b ∷ xs) ≡ true → ⊥
not_erased e a b xs plain all =
    let first = and_parts (a == 0xFF) (list_all (λ x. x == 0xFF) (b ∷ xs)) all in
    let next = and_parts (b == 0xFF) (list_all (λ x. x == 0xFF) xs) first.1 in
    let one : a ≡ 255 = eqb-true a 255 first.0 in
    let two : b ≡ 255 = eqb-true b 255 next.0 in
    let same : a ∷ b ∷ xs ≡ 255 ∷ 255 ∷ xs = cc in
    plain.2 (ap (magic_of e) same ∙ erased_magic e xs)

class_dirt : (e : Endian) (a b : ℕ) (xs : List ℕ) → IsDirtMagic (magic_of e (a ∷ b ∷ xs)) → class_of e (a ∷ b ∷ xs) ≡ Dirt
unfolding class_of
class_dirt e a b xs plain =
    ⊎_elim
    (λ all. absurd (not_erased e a b xs plain all))
    (λ some. cond-false (list_all (λ x. x == 0xFF) (a ∷ b ∷ xs)) _ _ some ∙
    ⊎_elim
    (λ other. absurd (plain.1 (eqb-true _ _ other)))
    (λ apart. cond-false (magic_of e (a ∷ b ∷ xs) == other_magic) _ _ apart)
    (cases_Bool (magic_of e (a ∷ b ∷ xs) == other_magic)))
    (cases_Bool (list_all (λ x. x == 0xFF) (a ∷ b ∷ xs)))

-- such a word begins a run of dirt
dirt_begins : (e : Endian) (rest : List ℕ) → 12 ≤ length rest → IsDirtMagic (magic_of e rest) → BeginsRun e rest 4 Dirt
dirt_begins e (a ∷ b ∷ c ∷ d ∷ xs) long plain =
    let rest : List ℕ = a ∷ b ∷ c ∷ d ∷ xs in
    let bad : ¬ IsGood e rest = λ good. plain.0 good.right_magic in
    let front : IsDirtMagic (magic_of e (a ∷ b ∷ c ∷ d ∷ [])) = subst IsDirtMagic (magic_present e (a ∷ b ∷ c ∷ d ∷ []) xs (omega arith)) plain in
    subst (λ (kind : ExtentKind). BeginsRun e rest 4 kind) (class_dirt e a b (c ∷ d ∷ []) front) (begins_front e rest Word 4 (word_front e rest bad long) (omega arith) (omega arith))
dirt_begins e [] long plain = absurd (omega arith)
dirt_begins e (a ∷ []) long plain = absurd (omega arith)
dirt_begins e (a ∷ b ∷ []) long plain = absurd (omega arith)
dirt_begins e (a ∷ b ∷ c ∷ []) long plain = absurd (omega arith)

-- the same of a word of what is present
pub word_is_dirt : (e : Endian) (rest present more : List ℕ) (at magic : ℕ) → rest ≡ present ++ more → at + 2 ≤ length present → at + 12 ≤ length rest
    → magic ≡ magic_of e (drop at present) → IsDirtMagic magic → BeginsRun e (drop at rest) 4 Dirt
word_is_dirt e rest present more at magic is here long read plain =
    let left : drop at rest ≡ drop at present ++ more = ap (drop at) is ∙ drop-append-le at present more (omega arith) in
    let same : magic ≡ magic_of e (drop at rest) = read ∙ sym (ap (magic_of e) left ∙ magic_present e (drop at present) more (omega (arith, length-drop at present))) in
    dirt_begins e (drop at rest) (omega (arith, length-drop at rest)) (subst IsDirtMagic same plain)
