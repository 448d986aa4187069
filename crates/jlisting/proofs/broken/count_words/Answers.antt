use Rattle.std.proofs.Common.{◌≡◌, ◌==◌, length, Option, Bor, List, ℕ, ap, arith}
use Rattle.std.specs.List.{slice_split}
use Rattle.std.proofs.lemmas.List.Splits.{length-slice_split}
use Rattle.jlisting.proofs.BrokenLemmas.{left_words}
use Rattle.jlisting.proofs.broken.count_words.Goals as goal

pub returns-in-Some : goal.returns-in-Some
returns-in-Some c =
    let words : length (left_words c.args.words) ≡ length (slice_split (λ b. b == 32) c.in-Some.text.now) =
    ap (λ (o : Option (Bor (List ℕ))). length (left_words o)) c.in-Some.is in
    omega (arith, words, length-slice_split (λ b. b == 32) c.in-Some.text.now, c.count_spaces.ensures.count)
