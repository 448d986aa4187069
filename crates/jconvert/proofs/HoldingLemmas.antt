-- What is held of the bytes that data stand for, while tiles are judged and while they are written.
use Rattle.std.proofs.Common.{◌≡◌, ℕ, ◌+◌, ◌<◌, ◌≤◌, suc, Bool, true, false, cond, List, [], ◌∷◌, ◌++◌, length, drop, refl, sym, ap, subst, ◌∙◌, arith, nat_le, ⊎_elim, append_assoc, IsTrue}
use Rattle.std.proofs.lemmas.Bool.{leb-true, leb-false, cases_Bool, cond-true, cond-false}
use Rattle.std.proofs.lemmas.List.{append-nil}
use Rattle.jnode.specs.declared.node.Seen.{Seen}
use Rattle.jnode.specs.declared.order.Endian.{Endian}
use Rattle.jscan.specs.Image.{sightings}
use Rattle.jexpand.specs.Expanded.{tile_content, contents_of_tiles, unpacked_bytes}
use Rattle.jconvert.specs.Holding.{BeginsAs, held_after}

-- ---- while tiles are judged

-- what is held so far, and the tiles that are left
pub record Holding (e : Endian) (size : ℕ) (image : List ℕ) (left : List (ℕ × Seen)) (bytes : List ℕ) (is_whole : Bool) : Type 0 where
  pub more : List ℕ
  pub whole : unpacked_bytes e size image ≡ bytes ++ more
  pub ready : IsTrue is_whole → more ≡ contents_of_tiles e size image left

pub holding_start : (e : Endian) (size : ℕ) (image : List ℕ) (left : List (ℕ × Seen)) (bytes : List ℕ) → left ≡ sightings e size image → bytes ≡ []
    → Holding e size image left bytes true
holding_start e size image left bytes all none = record {
  more = unpacked_bytes e size image;
  whole = ap (λ (xs : List ℕ). xs ++ unpacked_bytes e size image) (sym none);
  ready = λ so. ap (contents_of_tiles e size image) (sym all);
}

pub holding_next : (e : Endian) (size : ℕ) (image : List ℕ) (left rest : List (ℕ × Seen)) (addr : ℕ) (seen : Seen) (bytes now content : List ℕ) (was is : Bool)
    → Holding e size image left bytes was → left ≡ (addr, seen) ∷ rest → content ≡ tile_content e size image (addr, seen)
    → now ≡ bytes ++ cond is content [] → (IsTrue is → IsTrue was) → Holding e size image rest now is
holding_next e size image left rest addr seen bytes now content was true before at here grown kept =
    let others : List ℕ = contents_of_tiles e size image rest in
    let same : before.more ≡ content ++ others =
    before.ready (kept refl) ∙ (ap (contents_of_tiles e size image) at ∙ ap (λ (xs : List ℕ). xs ++ others) (sym here)) in
    record {
      more = others;
      whole = before.whole ∙ (ap (λ (xs : List ℕ). bytes ++ xs) same ∙ (sym (append_assoc bytes content others) ∙ ap (λ (xs : List ℕ). xs ++ others) (sym grown)));
      ready = λ so. refl;
    }
holding_next e size image left rest addr seen bytes now content was false before at here grown kept =
    record {
      more = before.more;
      whole = before.whole ∙ ap (λ (xs : List ℕ). xs ++ before.more) (sym (grown ∙ append-nil bytes));
      ready = λ no. absurd (cc);
    }

-- ---- while they are written

-- what is held goes on as the contents of these tiles do
abbrev pub GoesOn : Endian → ℕ → List ℕ → List (ℕ × Seen) → List ℕ → Type 0
GoesOn e size image left held = (more : List ℕ) × (contents_of_tiles e size image left ≡ held ++ more)

-- two ways to split a list, the first behind the second
split_before : (a b h more : List ℕ) → a ++ b ≡ h ++ more → length a ≤ length h → (h ≡ a ++ drop (length a) h) × (b ≡ drop (length a) h ++ more)
split_before [] b h more is short = (refl, is)
split_before (x ∷ a) b [] more is short = absurd (omega arith)
split_before (x ∷ a) b (y ∷ h) more is short =
    let head : x ≡ y = cc in
    let tail : a ++ b ≡ h ++ more = cc in
    let fewer : length a ≤ length h = omega arith in
    let rest = split_before a b h more tail fewer in
    (ap (λ (xs : List ℕ). y ∷ xs) rest.0 ∙ ap (λ (z : ℕ). z ∷ (a ++ drop (length a) h)) (sym head), rest.1)

-- what is held begins with the content of the next tile
pub held_begins : (e : Endian) (size : ℕ) (image : List ℕ) (left rest : List (ℕ × Seen)) (addr : ℕ) (seen : Seen) (held : List ℕ)
    → GoesOn e size image left held → left ≡ (addr, seen) ∷ rest → BeginsAs (tile_content e size image (addr, seen)) held
held_begins e size image left rest addr seen held on at = λ long.
    (split_before (tile_content e size image (addr, seen)) (contents_of_tiles e size image rest) held on.0
    (sym (ap (contents_of_tiles e size image) at) ∙ on.1) long).0

-- and goes on behind it
pub held_next : (e : Endian) (size : ℕ) (image : List ℕ) (left rest : List (ℕ × Seen)) (addr : ℕ) (seen : Seen) (held now : List ℕ)
    → GoesOn e size image left held → left ≡ (addr, seen) ∷ rest → now ≡ held_after (tile_content e size image (addr, seen)) held
    → GoesOn e size image rest now
held_next e size image left rest addr seen held now on at is =
    let content : List ℕ = tile_content e size image (addr, seen) in
    let others : List ℕ = contents_of_tiles e size image rest in
    ⊎_elim
    (λ long.
    let parts = split_before content others held on.0 (sym (ap (contents_of_tiles e size image) at) ∙ on.1) (leb-true _ _ long) in
    let same : now ≡ drop (length content) held = is ∙ cond-true (nat_le (length content) (length held)) (drop (length content) held) [] long in
    (on.0, parts.1 ∙ ap (λ (xs : List ℕ). xs ++ on.0) (sym same)))
    (λ short.
    let none : now ≡ [] = is ∙ cond-false (nat_le (length content) (length held)) (drop (length content) held) [] short in
    (others, ap (λ (xs : List ℕ). xs ++ others) (sym none)))
    (cases_Bool (nat_le (length content) (length held)))
