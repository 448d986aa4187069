use Rattle.std.proofs.Common.{rules, ◌≡◌}
use Rattle.std.specs.Prelude.{max}
use Rattle.std.specs.Cow.{cow_slice_items}
use Rattle.jname.specs.NameMaps.{names_in}
use Rattle.jname.proofs.ContentsByNameLemmas.{bound_of_one_more, reached_by_one_more, bound_the_same, reached_the_same}
use Rattle.jname.proofs.directory.Directory.add.Goals as goal

pub invariant_of-self : goal.invariant_of-self
invariant_of-self c = record {
  bounds = bound_the_same (names_in c.args.self.now.names) (names_in c.add.new.self) c.args.self.now.highest c.in_err-add.ensures.err c.args.self.now.bounds;
  reached = reached_the_same (names_in c.args.self.now.names) (names_in c.add.new.self) c.args.self.now.highest c.in_err-add.ensures.err c.args.self.now.reached;
}

pub invariant_of-self-2-clause-bounds : goal.invariant_of-self-2-clause-bounds
invariant_of-self-2-clause-bounds c =
    let is : c.max-self.result ≡ max c.args.self.now.highest c.args.version = search rules in
    bound_of_one_more (names_in c.args.self.now.names) (names_in c.add.new.self) (cow_slice_items c.args.name) c.args.version c.args.content c.args.self.now.highest c.max-self.result c.in_ok-add.ensures.ok is c.args.self.now.bounds

pub invariant_of-self-2-clause-reached : goal.invariant_of-self-2-clause-reached
invariant_of-self-2-clause-reached c =
    let is : c.max-self.result ≡ max c.args.self.now.highest c.args.version = search rules in
    reached_by_one_more (names_in c.args.self.now.names) (names_in c.add.new.self) (cow_slice_items c.args.name) c.args.version c.args.content c.args.self.now.highest c.max-self.result c.in_ok-add.ensures.ok is c.args.self.now.reached
