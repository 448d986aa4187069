use Rattle.std.proofs.Common.{◌≡◌, ℕ, List, [], ◌∷◌, ◌++◌, ap, sym, ◌∙◌, rules}
use Rattle.std.specs.Str.{bytes_eq}
use Rattle.jjson.proofs.WordLemmas.{same_between}
use Rattle.jjson.proofs.part.is_flag.Goals as goal

pub returns-in-Some : goal.returns-in-Some
returns-in-Some c =
    let name = c.args.name.now in
    let test : c.eq.result ≡ bytes_eq c.in-Some.middle.now name = search rules in
    test ∙ sym (ap (λ (w : List ℕ). bytes_eq w (40 ∷ (name ++ 41 ∷ []))) c.in-Some.ensures.some ∙ same_between c.in-Some.middle.now name)
