use Rattle.std.proofs.Common.{rules, tests, ◌≡◌, ℕ, List, [], ◌∷◌, Bor, refl, ap, ◌∙◌}
use Rattle.std.specs.Prelude.{◌==◌, ◌||◌}
use Rattle.std.specs.List.{list_any}
use Rattle.std.proofs.lemmas.Iterator.Search.{any_from_yields_List}
use Rattle.std.proofs.lemmas.Iterator.{YieldsList-from_slice}
use Rattle.jextract.specs.Parts.{is_on_way, keys_of}
use Rattle.jextract.proofs.extracting.is_on_way.Goals as goal

any_keyed : (dir : ℕ) (way : List (ℕ × Bor (List ℕ))) → list_any (λ (key : ℕ × Bor (List ℕ)). key.0 == dir) way ≡ is_on_way (keys_of way) dir
any_keyed dir [] = refl
any_keyed dir (key ∷ way) = ap (λ b. (key.0 == dir) || b) (any_keyed dir way)

pub returns : goal.returns
returns c =
    any_from_yields_List (λ (key : ℕ × Bor (List ℕ)). key.0 == c.args.dir) _ _ _ c.any.ensures.ran (YieldsList-from_slice _ c.iter.ensures.rest) (λ x b q k. search (rules, tests))
    ∙ any_keyed c.args.dir c.args.way.now
