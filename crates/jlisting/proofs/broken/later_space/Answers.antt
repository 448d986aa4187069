use Rattle.std.proofs.Common.{◌≡◌, ◌==◌, ◌+◌, ◌<◌, ◌∷◌, ℕ, List, length, Option, Bor, sym, ap, ◌∙◌, arith}
use Rattle.std.specs.List.{slice_split}
use Rattle.std.proofs.lemmas.Bool.Decides.{nat_tests}
use Rattle.std.proofs.lemmas.List.Splits.{length-slice_split}
use Rattle.jlisting.specs.Broken.{later_space}
use Rattle.jlisting.proofs.BrokenLemmas.{left_len, left_words, left_is_shorter, space_at_end, space_between, space_later}
use Rattle.jlisting.proofs.broken.later_space.Goals as goal

pub returns-in-None : goal.returns-in-None
returns-in-None c =
    let word : List ℕ = c.next_word.result.0.now in
    let empty : length word ≡ 0 = grind (arith, nat_tests) in
    let here = ap left_words c.in-Some.is ∙ c.next_word.ensures.words in
    sym (sym c.loop-left.invariant ∙ ap later_space here
    ∙ ap (λ (o : Option (Bor (List ℕ))). later_space (word ∷ left_words o)) c.in-None.is ∙ space_at_end word empty)

pub returns-in-Some-rest : goal.returns-in-Some-rest
returns-in-Some-rest c =
    let word : List ℕ = c.next_word.result.0.now in
    let rest : List (List ℕ) = slice_split (λ b. b == 32) c.in-Some-rest.field-0.now in
    let empty : length word ≡ 0 = grind (arith, nat_tests) in
    let some : 0 < length rest = omega (arith, length-slice_split (λ b. b == 32) c.in-Some-rest.field-0.now) in
    let here = ap left_words c.in-Some.is ∙ c.next_word.ensures.words in
    sym (sym c.loop-left.invariant ∙ ap later_space here
    ∙ ap (λ (o : Option (Bor (List ℕ))). later_space (word ∷ left_words o)) c.in-Some-rest.is ∙ space_between word rest empty some)

pub loop-left-smaller : goal.loop-left-smaller
loop-left-smaller c =
    let before : left_len c.loop-left.left ≡ length c.in-Some.text.now + 1 = ap left_len c.in-Some.is in
    omega (arith, before, left_is_shorter c.next_word.result.1 (length c.in-Some.text.now) c.next_word.ensures.shorter)

pub loop-left-preserved : goal.loop-left-preserved
loop-left-preserved c =
    let word : List ℕ = c.next_word.result.0.now in
    let some : 0 < length word = grind (arith, nat_tests) in
    let here = ap left_words c.in-Some.is ∙ c.next_word.ensures.words in
    sym (space_later word (left_words c.next_word.result.1) some) ∙ sym (ap later_space here) ∙ c.loop-left.invariant
