use Rattle.std.proofs.Common.{◌≡◌, ◌++◌, ap, ◌∙◌, List, ℕ, rules}
use Rattle.jline.specs.Words.{hex}
use Rattle.jjson.proofs.JsonLemmas.{hex_pair_of}
use Rattle.jjson.proofs.strings.push_hex_pair.Goals as goal

pub returns-clause-text : goal.returns-clause-text
returns-clause-text c =
    let same : c.from.result ≡ c.args.byte = search rules in
    c.push_hex.ensures.text ∙ ap (λ (n : ℕ). c.args.line.now ++ hex 2 n) same ∙ ap (λ (l : List ℕ). c.args.line.now ++ l) (hex_pair_of c.args.byte c.ranges.byte.fits)
