use Rattle.std.proofs.Common.{◌≡◌, ◌++◌, ◌∷◌, [], ℕ, List, Bor, arith, sym, ap, ◌∙◌}
use Rattle.std.specs.Prelude.{map, reverse, vec_capacity}
use Rattle.jdamage.specs.Ways.{names_held, path_below, path_length}
use Rattle.jdamage.proofs.RoomLemmas.{name_fits, pushed}
use Rattle.jdamage.proofs.ways_up.WaysUp.put_name.Goals as goal

pub climb-requires : goal.climb-requires
climb-requires c =
    let s = c.args.self.now.mounted.now.state in
    let items : c.push.new.self.items ≡ c.args.name ∷ [] =
    pushed c.push.result _ _ _ (sym c.is_err.ensures.value ∙ c.if-is_err.false) c.push.ensures.items ∙ ap (λ (l : List (Bor (List ℕ))). l ++ c.args.name ∷ []) c.clear.ensures.items in
    let names : reverse (names_held c.push.new.self) ≡ c.args.name.now ∷ [] = ap (λ (l : List (Bor (List ℕ))). reverse (map (λ n. n.now) l)) items in
    let fits = name_fits s c.args.dir (vec_capacity c.args.path.now) c.args.name.now c.requires in
    omega (arith, ap (λ (l : List (List ℕ)). path_length (path_below s c.args.dir l)) names, fits, c.clear.ensures.capacity, c.push.ensures.capacity)
