use Rattle.std.proofs.Common.{◌≡◌, ℕ, ◌<◌, List, [], ◌∷◌, ap, refl, ◌∙◌, Option, Some, option_map}
use Rattle.std.specs.Prelude.{unwrap_or}
use Rattle.std.specs.List.{All}
use Rattle.std.proofs.lemmas.List.Elements.{All-head, All-tail}
use Rattle.jline.specs.Read.{unescaped}
use Rattle.jline.specs.Words.{escaped}
use Rattle.jline.proofs.EscapeLemmas.{byte_read_back}
use Rattle.jjson.proofs.laws.names_are_meant.Goals as goal

escaped_is_read : (name : List ℕ) → All (λ b. b < 256) name → unescaped (escaped name) ≡ Some name
escaped_is_read [] all = refl
escaped_is_read (b ∷ name) all =
    byte_read_back b (escaped name) (All-head (λ b. b < 256) b name all)
    ∙ ap (option_map (λ (more : List ℕ). b ∷ more)) (escaped_is_read name (All-tail (λ b. b < 256) b name all))

pub returns : goal.returns
returns c name all = ap (λ (o : Option (List ℕ)). unwrap_or o (escaped name)) (escaped_is_read name all)
