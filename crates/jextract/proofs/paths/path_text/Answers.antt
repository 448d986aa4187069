use Rattle.std.proofs.Common.{◌∙◌, ◌++◌, ◌∷◌, map, sym, ap}
use Rattle.std.specs.List.{flat_map}
use Rattle.jextract.specs.Paths.{relative_path}
use Rattle.jextract.proofs.PathLemmas.{text_of_names}
use Rattle.jextract.proofs.paths.path_text.Goals as goal

pub returns : goal.returns
returns c =
    let first = c.in-Some.first.now in
    let rest = c.in-Some.rest.now in
    c.in_ok-push_names.ensures
    ∙ ap (λ l. l ++ flat_map (λ name. 47 ∷ name.now) rest) (c.in_ok-extend_from_slice.ensures.items ∙ ap (λ l. l ++ first.now) c.new-text.ensures.items)
    ∙ text_of_names first rest
    ∙ ap (λ l. relative_path (map (λ name. name.now) l)) (sym c.in-Some.ensures.cases.0)
