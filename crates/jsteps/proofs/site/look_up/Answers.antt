use Rattle.std.proofs.Common.{◌≡◌, ℕ, List, Bor, Some, Option, map, option_map, sym, ap, ◌∙◌}
use Rattle.std.specs.Prelude.{Vec}
use Rattle.std.specs.declared.alloc.Global.{Global}
use Rattle.jmount.specs.Find.{path_names}
use Rattle.jsteps.proofs.SiteLemmas.{site_answer}
use Rattle.jsteps.proofs.site.look_up.Goals as goal

pub returns : goal.returns
returns c =
    let names = c.deref.result.now in
    let is : path_names c.args.path.now ≡ Some (map (λ n. n.now) names) =
    sym c.in_ok-names.ensures
    ∙ ap (λ (o : Option (Vec (Bor (List ℕ)) Global)). option_map (λ names. map (λ n. n.now) names.items) o) c.in-Some.is
    ∙ ap (λ (xs : List (Bor (List ℕ))). Some (map (λ n. n.now) xs)) (sym c.deref.ensures.value) in
    site_answer c.args.index.now.tree c.args.path.now names c.site_of.result is c.site_of.ensures
