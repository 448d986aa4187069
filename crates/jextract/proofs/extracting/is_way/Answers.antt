use Rattle.std.proofs.Common.{rules, tests, ◌≡◌, ℕ, List, [], ◌∷◌, Bor, refl, ap, ◌∙◌}
use Rattle.std.specs.Prelude.{◌==◌, ◌&&◌, ◌||◌, bytes_eq}
use Rattle.std.specs.List.{list_any}
use Rattle.std.proofs.lemmas.Iterator.Search.{any_from_yields_List}
use Rattle.std.proofs.lemmas.Iterator.{YieldsList-from_slice}
use Rattle.jextract.specs.Parts.{is_way, keys_of}
use Rattle.jextract.proofs.extracting.is_way.Goals as goal

any_keyed : (dir : ℕ) (name : List ℕ) (way : List (ℕ × Bor (List ℕ))) → list_any (λ (key : ℕ × Bor (List ℕ)). key.0 == dir && bytes_eq key.1.now name) way ≡ is_way (keys_of way) dir name
any_keyed dir name [] = refl
any_keyed dir name (key ∷ way) = ap (λ b. (key.0 == dir && bytes_eq key.1.now name) || b) (any_keyed dir name way)

pub returns : goal.returns
returns c =
    any_from_yields_List (λ (key : ℕ × Bor (List ℕ)). key.0 == c.args.dir && bytes_eq key.1.now c.args.name.now) _ _ _ c.any.ensures.ran (YieldsList-from_slice _ c.iter.ensures.rest)
    (λ x b q k. search (rules, tests))
    ∙ any_keyed c.args.dir c.args.name.now c.args.way.now
