use Rattle.std.proofs.Common.{◌∙◌, arith}
use Rattle.jnode.proofs.HeaderLemmas.{header_at-short, header_at-front, header_found, header_fields}
use Rattle.jnode.proofs.header.header_at.Goals as goal

pub returns-then-rest-lt-LEN-clause-exact : goal.returns-then-rest-lt-LEN-clause-exact
returns-then-rest-lt-LEN-clause-exact g c = header_at-short g.E.Order.order c.args.rest.now (omega arith)

pub returns-else-rest-lt-LEN-clause-exact : goal.returns-else-rest-lt-LEN-clause-exact
returns-else-rest-lt-LEN-clause-exact g c =
    c.header_by_front.ensures ∙ header_at-front g.E.Order.order c.args.rest.now (omega arith)

pub returns-else-rest-lt-LEN-clause-good : goal.returns-else-rest-lt-LEN-clause-good
returns-else-rest-lt-LEN-clause-good g c = header_found g.E.Order.order c.args.rest.now c.header_by_front.result (returns-else-rest-lt-LEN-clause-exact g c)

pub returns-else-rest-lt-LEN-clause-fields : goal.returns-else-rest-lt-LEN-clause-fields
returns-else-rest-lt-LEN-clause-fields g c = header_fields g.E.Order.order c.args.rest.now c.header_by_front.result (returns-else-rest-lt-LEN-clause-exact g c)
