use Rattle.std.proofs.Common.{◌≡◌, ℕ, List, Bor, Some, Option, map, option_map, sym, ap, ◌∙◌}
use Rattle.std.specs.Prelude.{◌==◌, Vec}
use Rattle.std.specs.List.{list_any}
use Rattle.std.specs.declared.alloc.Global.{Global}
use Rattle.jmount.specs.Find.{path_names}
use Rattle.jsteps.specs.Where.{met}
use Rattle.jsteps.proofs.SiteLemmas.{front_is}
use Rattle.jsteps.proofs.site.meets_above.Goals as goal

pub returns : goal.returns
returns c =
    let names = c.deref.result.now in
    let is : path_names c.args.path.now ≡ Some (map (λ n. n.now) names) =
    sym c.in_ok-names.ensures
    ∙ ap (λ (o : Option (Vec (Bor (List ℕ)) Global)). option_map (λ names. map (λ n. n.now) names.items) o) c.in-Some.is
    ∙ ap (λ (xs : List (Bor (List ℕ))). Some (map (λ n. n.now) xs)) (sym c.deref.ensures.value) in
    c.meets.ensures
    ∙ ap (λ (front : List (List ℕ)). list_any (λ i. i == c.args.ino) (met c.args.index.now.tree front (Some 1)))
    (front_is c.args.path.now names c.in-Some-split_last.front.now c.in-Some-split_last.field-0-0.now is c.in-Some-split_last.ensures.cases.0)
