use Rattle.std.proofs.Common.{ℕ, List, ◌++◌, ap, sym, ◌∙◌, option_map}
use Rattle.jline.specs.Read.{unescaped}
use Rattle.jjson.proofs.WordLemmas.{onto_nothing}
use Rattle.jjson.proofs.words.unescape_into.Goals as goal

pub returns-clause-read : goal.returns-clause-read
returns-clause-read c = λ read.
    let word = unescaped c.args.word.now in
    sym (ap (λ (items : List ℕ). option_map (λ (more : List ℕ). items ++ more) word) c.clear.ensures.items ∙ onto_nothing word)
    ∙ c.push_unescaped.ensures.read read
