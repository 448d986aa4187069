use Rattle.std.proofs.Common.{ap, ◌∙◌, arith}
use Rattle.jnode.specs.Header.{header_by_front}
use Rattle.jnode.proofs.HeaderLemmas.{header_at-short, header_in-front, header_found, header_fields}
use Rattle.jnode.proofs.header.header_in.Goals as goal

pub returns-then-len-lt-LEN-clause-exact : goal.returns-then-len-lt-LEN-clause-exact
returns-then-len-lt-LEN-clause-exact g c = header_at-short g.E.Order.order c.args.rest.now (omega arith)

pub returns-else-len-lt-LEN-clause-exact : goal.returns-else-len-lt-LEN-clause-exact
returns-else-len-lt-LEN-clause-exact g c =
    c.header_by_front.ensures
    ∙ ap (header_by_front g.E.Order.order c.front_of.result) c.len-else-len-lt-LEN.ensures
    ∙ header_in-front g.E.Order.order c.args.rest.now c.front_of.result (omega arith) c.front_of.ensures

pub returns-else-len-lt-LEN-clause-good : goal.returns-else-len-lt-LEN-clause-good
returns-else-len-lt-LEN-clause-good g c = header_found g.E.Order.order c.args.rest.now c.header_by_front.result (returns-else-len-lt-LEN-clause-exact g c)

pub returns-else-len-lt-LEN-clause-fields : goal.returns-else-len-lt-LEN-clause-fields
returns-else-len-lt-LEN-clause-fields g c = header_fields g.E.Order.order c.args.rest.now c.header_by_front.result (returns-else-len-lt-LEN-clause-exact g c)
