use Rattle.std.proofs.Common.{rules}
use Rattle.jscan.specs.Pages.{page_size}
use Rattle.jsteps.proofs.FewLemmas.{few_of, sizes_are_pages}
use Rattle.jsteps.proofs.planning.plan_paged.Goals as goal

pub returns-clause-few : goal.returns-clause-few
returns-clause-few c = few_of (page_size c.args.page) c.args.index.now c.args.op.now _ (sizes_are_pages c.args.page) (search rules)
