use Rattle.std.proofs.Common.{◌+◌, ◌∙◌, sym, map, drop, Some}
use Rattle.jsteps.proofs.WhereLemmas.{meets_here, meets_further, meets_no_more}
use Rattle.jsteps.proofs.site.meets.Goals as goal

pub loop-name-preserved : goal.loop-name-preserved
loop-name-preserved c =
    c.loop-name.invariant
    ∙ meets_further c.args.index.now.tree c.args.names.now c.loop-name.name-index c.loop-name.here c.args.ino _ (Some c.in-Some.next) c.loop-name-test.true c.if-here-ino.false (sym c.in-Some.is ∙ c.named.ensures)

pub returns-then-here-ino : goal.returns-then-here-ino
returns-then-here-ino c =
    sym (c.loop-name.invariant
    ∙ meets_here c.args.index.now.tree c.args.names.now c.loop-name.name-index c.loop-name.here c.args.ino c.loop-name-test.true c.if-here-ino.true)

pub returns-in_default : goal.returns-in_default
returns-in_default c =
    sym (c.loop-name.invariant
    ∙ meets_further c.args.index.now.tree c.args.names.now c.loop-name.name-index c.loop-name.here c.args.ino _ c.named.result c.loop-name-test.true c.if-here-ino.false c.named.ensures
    ∙ meets_no_more c.args.index.now.tree (drop (c.loop-name.name-index + 1) (map (λ n. n.now) c.args.names.now)) c.args.ino c.named.result c.in_default.is)
