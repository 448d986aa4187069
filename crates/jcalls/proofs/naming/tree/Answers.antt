use Rattle.jcalls.proofs.TreeLemmas.{gives_by, needs_by}
use Rattle.jcalls.proofs.naming.tree.Goals as goal

pub returns-in-Ok-clause-done : goal.returns-in-Ok-clause-done
returns-in-Ok-clause-done c done =
    let has = c.in-Ok.ensures.ok in
    let give = c.give.ensures in
    (has.0, has.1, gives_by has.0 c.in-Ok.tree.rows.items c.in-Ok.tree.bytes.items _ _ _ _ c.give.new.needed has.2 has.3 (give.rows done) (give.names done) give.row_count give.byte_count)

pub returns-in-Ok-clause-small : goal.returns-in-Ok-clause-small
returns-in-Ok-clause-small c small =
    let has = c.in-Ok.ensures.ok in
    let give = c.give.ensures in
    (has.0, has.1, needs_by has.0 c.in-Ok.tree.rows.items c.in-Ok.tree.bytes.items c.args.rows.now c.args.names.now c.give.new.needed has.2 has.3 give.row_count give.byte_count (give.short small))
