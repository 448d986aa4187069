-- A part of a file that is read piece by piece.
use Rattle.std.proofs.Common.{◌≡◌, ◌+◌, ◌-◌, ◌≤◌, ℕ, refl, List, [], ◌++◌, length, take, drop, min, sym, subst, ap, ◌∙◌, Option, Some, None, arith}
use Rattle.std.specs.Prelude.{IfSome, option_map, unwrap_or}
use Rattle.std.specs.Io.KnownBytes.{Consumes, IsAtEnd, Keeps}
use Rattle.std.proofs.KnownBytes.{Consumes-trans}
use Rattle.std.proofs.Math.Seq.{take-nil, drop-nil, take-append-add, drop-append-add}
use Rattle.std.proofs.lemmas.List.{length-append, length-take, take-append-le}
use Rattle.jspare.specs.Regions.{cut_out}
use Rattle.jspare.specs.Parts.{KeepsMissing, Skips, region_left}
use Rattle.jspare.specs.declared.part.Place.{Place}

-- a piece more was skipped
pub skips_more : (old mid new : Option (List ℕ)) (first before n : ℕ) (read : List ℕ) → n ≤ length read → n ≤ before
    → Skips old mid first before → Consumes mid new (take n read) → Skips old new first (before - n)
skips_more old mid new first before n read is fits (bs, consumed, count) more =
    let long = length-take n read in
    let joined = length-append bs (take n read) in (
      bs ++ take n read,
      Consumes-trans old mid new bs (take n read) consumed more,
      omega (arith, is, fits, count, long, joined),
    )

-- what is cut out behind bytes that were skipped
cut_behind : (before n : ℕ) (told : Option ℕ) (bs ys : List ℕ) → before ≡ length bs + n
    → cut_out n told ys ≡ cut_out before told (bs ++ ys)
cut_behind before n None bs ys count =
    sym (ap (λ (k : ℕ). drop k (bs ++ ys)) count ∙ drop-append-add bs ys n)
cut_behind before n (Some many) bs ys count =
    ap (take many) (sym (ap (λ (k : ℕ). drop k (bs ++ ys)) count ∙ drop-append-add bs ys n))

pub skipped_keeps : (old new : Option (List ℕ)) (before n : ℕ) (told : Option ℕ) → Skips old new before n
    → Keeps (option_map (cut_out before told) old) (option_map (cut_out n told) new)
skipped_keeps None new before n told (bs, consumed, count) = tt
skipped_keeps (Some xs) None before n told (bs, consumed, count) = absurd consumed
skipped_keeps (Some xs) (Some ys) before n told (bs, consumed, count) =
    cut_behind before n told bs ys count ∙ ap (cut_out before told) (sym consumed)

pub skipped_lacks : (old new : Option (List ℕ)) (before n more : ℕ) → Skips old new before n
    → KeepsMissing old (before + more) new (n + more)
skipped_lacks None new before n more (bs, consumed, count) = tt
skipped_lacks (Some xs) None before n more (bs, consumed, count) = tt
skipped_lacks (Some xs) (Some ys) before n more (bs, consumed, count) =
    let joined = ap length consumed ∙ length-append bs ys in
    omega (arith, joined, count)

-- what is cut out of the end of a file
cut_of_none : (before : ℕ) (told : Option ℕ) → cut_out before told [] ≡ []
cut_of_none before None = drop-nil before
cut_of_none before (Some many) = ap (take many) (drop-nil before) ∙ take-nil many

pub ended_part : (p : Place) (rest : Option (List ℕ)) → IsAtEnd rest → IsAtEnd (option_map (region_left p) rest)
ended_part p None end = tt
ended_part p (Some xs) end = ap (region_left p) end ∙ cut_of_none p.before p.left

-- bytes of the image were read
cut_read : (told : Option ℕ) (bs ys : List ℕ) → IfSome told (λ left. length bs ≤ left)
    → cut_out 0 told (bs ++ ys) ≡ bs ++ cut_out 0 (option_map (λ left. left - length bs) told) ys
cut_read None bs ys fits = refl
cut_read (Some many) bs ys fits =
    let all : many ≡ length bs + (many - length bs) = omega (arith, fits) in
    ap (λ (k : ℕ). take k (bs ++ ys)) all ∙ take-append-add bs ys (many - length bs)

-- a place behind n bytes of the image
pub record IsBehind (p q : Place) (n : ℕ) : Type 0 where
  pub reached : p.before ≡ 0
  pub before : q.before ≡ p.before
  pub left : q.left ≡ option_map (λ (left : ℕ). left - n) p.left
  pub fits : IfSome p.left (λ left. n ≤ left)

read_here : (p q : Place) (bs ys : List ℕ) → IsBehind p q (length bs) → region_left p (bs ++ ys) ≡ bs ++ region_left q ys
read_here p q bs ys at =
    ap (λ (k : ℕ). cut_out k p.left (bs ++ ys)) at.reached ∙ cut_read p.left bs ys at.fits
    ∙ ap (λ (told : Option ℕ). bs ++ cut_out 0 told ys) (sym at.left)
    ∙ ap (λ (k : ℕ). bs ++ cut_out k q.left ys) (sym (at.before ∙ at.reached))

-- no more is asked for than is left of the image
pub asked_fits : (told : Option ℕ) (n room : ℕ) → n ≤ min (unwrap_or told room) room → IfSome told (λ left. n ≤ left)
asked_fits None n room few = tt
asked_fits (Some left) n room few = omega (arith, few)

pub read_part : (p q : Place) (n : ℕ) (old new : Option (List ℕ)) (read behind : List ℕ) → n ≤ length read → IsBehind p q n
    → Consumes old new (take n read)
    → Consumes (option_map (region_left p) old) (option_map (region_left q) new) (take n (read ++ behind))
read_part p q n None new read behind is at consumed = tt
read_part p q n (Some xs) None read behind is at consumed = absurd consumed
read_part p q n (Some xs) (Some ys) read behind is at consumed =
    let short = length-take n read in
    let long : n ≡ length (take n read) = omega (arith, is, short) in
    ap (region_left p) consumed ∙ read_here p q (take n read) ys (subst (IsBehind p q) long at)
    ∙ ap (λ (front : List ℕ). front ++ region_left q ys) (sym (take-append-le n read behind is))
