-- Bytes that are escaped, and read again.
use Rattle.std.proofs.Common.{ℕ, ◌<◌, List, [], ◌∷◌, ap, ◌∙◌, option_map, refl}
use Rattle.std.proofs.lemmas.List.Elements.{All-head, All-tail}
use Rattle.jline.specs.Words.{escaped}
use Rattle.jline.proofs.EscapeLemmas.{byte_read_back}
use Rattle.jreport.specs.Paths.{EscapedIsReadBack}

pub escaped_read_back : EscapedIsReadBack
escaped_read_back [] all = refl
escaped_read_back (b ∷ bytes) all =
    byte_read_back b (escaped bytes) (All-head (λ b. b < 256) b bytes all)
    ∙ ap (option_map (λ (more : List ℕ). b ∷ more)) (escaped_read_back bytes (All-tail (λ b. b < 256) b bytes all))
