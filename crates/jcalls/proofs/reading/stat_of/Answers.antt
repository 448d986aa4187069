use Rattle.jcalls.proofs.ShownLemmas.{shown_root, stats_by, stat_refused_by}
use Rattle.jcalls.proofs.reading.stat_of.Goals as goal

pub row_at-requires : goal.row_at-requires
row_at-requires c =
    record { root = shown_root c.args.how c.args.image.now c.in-Ok.mounted.state c.in-Ok.ensures.ok }

pub returns-in-Ok-clause-ok : goal.returns-in-Ok-clause-ok
returns-in-Ok-clause-ok c =
    stats_by c.args.how c.args.image.now c.args.path.now c.in-Ok.mounted.state c.row_at.result c.in-Ok.ensures.ok c.row_at.ensures.ok

pub returns-in-Ok-clause-err : goal.returns-in-Ok-clause-err
returns-in-Ok-clause-err c =
    stat_refused_by c.args.how c.args.image.now c.args.path.now c.in-Ok.mounted.state c.row_at.result c.in-Ok.ensures.ok c.row_at.ensures.err
