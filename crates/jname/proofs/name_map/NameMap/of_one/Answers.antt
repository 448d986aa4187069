use Rattle.std.proofs.Common.{rules, ◌≡◌, ◌++◌, [], ◌∷◌}
use Rattle.jname.proofs.FewLemmas.{sorted_one}
use Rattle.jname.proofs.name_map.NameMap.of_one.Goals as goal

pub invariant_of-result : goal.invariant_of-result
invariant_of-result c =
    let is : c.push_reserved.new.self.items ++ c.new.result.entries ≡ (c.args.name, c.args.versions) ∷ [] = search rules in
    record { ordered = sorted_one (c.push_reserved.new.self.items ++ c.new.result.entries) (c.args.name, c.args.versions) is }
