use Rattle.std.proofs.Common.{◌==◌, ◌<◌, ◌∷◌, ℕ, List, length, arith, ap, ◌∙◌}
use Rattle.std.specs.List.{slice_split}
use Rattle.std.proofs.lemmas.List.Splits.{length-slice_split}
use Rattle.jlisting.specs.Listing.{statement_of_words}
use Rattle.jlisting.proofs.ListingLemmas.{statement_of_words_many}
use Rattle.jlisting.proofs.reading.read_many.Goals as goal

pub returns-in-Some-split_once-2 : goal.returns-in-Some-split_once-2
returns-in-Some-split_once-2 c =
    let a = c.args in
    let more = slice_split (λ b. b == 32) c.in-Some-split_once-2.field-0.1.now in
    let some : 0 < length more = omega (arith, length-slice_split (λ b. b == 32) c.in-Some-split_once-2.field-0.1.now) in
    let words = c.in-Some.ensures.some ∙ ap (λ (l : List (List ℕ)). c.in-Some.d.now ∷ l) (c.in-Some-split_once.ensures.some
    ∙ ap (λ (l : List (List ℕ)). c.in-Some-split_once.e.now ∷ l) c.in-Some-split_once-2.ensures.some) in
    ap (λ (l : List (List ℕ)). statement_of_words a.settings (a.name.now ∷ a.a.now ∷ a.b.now ∷ a.c.now ∷ l)) words
    ∙ statement_of_words_many a.settings a.name.now a.a.now a.b.now a.c.now c.in-Some.d.now c.in-Some-split_once.e.now c.in-Some-split_once-2.field-0.0.now more some
