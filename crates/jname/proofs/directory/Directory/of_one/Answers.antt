use Rattle.std.proofs.Common.{[]}
use Rattle.std.specs.Cow.{cow_slice_items}
use Rattle.jname.specs.NameMaps.{names_in}
use Rattle.jname.proofs.ContentsByNameLemmas.{reached_there}
use Rattle.jname.proofs.NameMapLemmas.{first_more, bound_of_first}
use Rattle.jname.proofs.directory.Directory.of_one.Goals as goal

pub invariant_of-result-clause-bounds : goal.invariant_of-result-clause-bounds
invariant_of-result-clause-bounds c =
    bound_of_first (names_in c.in_ok-names.names) (cow_slice_items c.args.name) c.args.version c.args.content
    (first_more c.in_ok-names.names c.args.name c.of_one.result c.args.version c.args.content c.in_ok-names.ensures c.of_one.ensures)

pub invariant_of-result-clause-reached : goal.invariant_of-result-clause-reached
invariant_of-result-clause-reached c =
    reached_there [] (names_in c.in_ok-names.names) (cow_slice_items c.args.name) c.args.version c.args.content
    (first_more c.in_ok-names.names c.args.name c.of_one.result c.args.version c.args.content c.in_ok-names.ensures c.of_one.ensures)

pub returns : goal.returns
returns c = first_more c.in_ok-names.names c.args.name c.of_one.result c.args.version c.args.content c.in_ok-names.ensures c.of_one.ensures
