use Rattle.std.proofs.Common.{◌≡◌, ◌∙◌, ℕ, ap, sym, subst, arith, rules}
use Rattle.jfrag.specs.IntervalMap.{interval_at, overwritten, is_under, IsSettled}
use Rattle.jfrag.proofs.IntervalMapChanges.{put_back}
use Rattle.jfrag.proofs.Edges.{AddsEdges, adds_edges, joined_moved, keeps_settled, keeps_tight, tight_unchanged}
use Rattle.jfrag.proofs.interval_map.overlay_piece.Goals as goal

pub returns-then-is_err-clause-err : goal.returns-then-is_err-clause-err
returns-then-is_err-clause-err c =
    let stays : c.split-2.new.intervals.entries ≡ c.split.new.intervals.entries = search rules in
    put_back c.args.intervals.now c.split.new.intervals c.split-2.new.intervals c.unsplit.new.intervals c.args.piece.now.offset c.in_ok-fresh.fresh c.interval_at.ensures.ordered c.in_ok-fresh.ensures.others c.in_ok-fresh.ensures.fresh c.in_ok-fresh.ensures.unchanged stays c.unsplit.ensures.fresh c.unsplit.ensures.unchanged

pub returns-then-is_err-clause-settled : goal.returns-then-is_err-clause-settled
returns-then-is_err-clause-settled c =
    let same : c.unsplit.new.intervals.entries ≡ c.args.intervals.now.entries = returns-then-is_err-clause-err c in
    subst IsSettled (sym same) c.requires.settled

pub returns-then-is_err-clause-tight : goal.returns-then-is_err-clause-tight
returns-then-is_err-clause-tight c = tight_unchanged c.args.intervals.now c.unsplit.new.intervals (returns-then-is_err-clause-err c) c.requires.tight

pub returns-clause-settled : goal.returns-clause-settled
returns-clause-settled c =
    keeps_settled c.args.piece.now c.args.intervals.now.entries c.overwrite.new.intervals.entries c.requires.settled
    (λ i. c.overwrite.ensures.overwritten i ∙ ap (overwritten c.args.piece.now i) (c.split-2.ensures.same i ∙ c.in_ok-fresh.ensures.same i))

pub returns-clause-tight : goal.returns-clause-tight
returns-clause-tight c =
    let same : (i : ℕ) → interval_at c.split-2.new.intervals.entries i ≡ interval_at c.args.intervals.now.entries i = λ i. c.split-2.ensures.same i ∙ c.in_ok-fresh.ensures.same i in
    let edges : AddsEdges c.args.piece.now c.args.intervals.now c.overwrite.new.intervals =
    adds_edges c.args.piece.now c.args.intervals.now c.split.new.intervals c.split-2.new.intervals c.overwrite.new.intervals c.end-end.result c.is_under-wins_first.result c.is_under-wins_last.result c.end-end.ensures (omega arith)
    (c.is_under-wins_first.ensures ∙ ap (is_under c.args.piece.now.version) c.interval_at.ensures.interval)
    (c.is_under-wins_last.ensures ∙ ap (is_under c.args.piece.now.version) c.interval_at-2.ensures.interval)
    c.in_ok-fresh.ensures.no_other c.split-2.ensures.no_other c.overwrite.ensures.no_new in
    keeps_tight c.args.piece.now c.args.intervals.now c.overwrite.new.intervals c.interval_at.ensures.ordered c.overwrite.ensures.ordered c.requires.settled c.requires.tight
    (λ i. c.overwrite.ensures.overwritten i ∙ ap (overwritten c.args.piece.now i) (same i))
    (joined_moved c.args.piece.now c.args.intervals.now.entries c.split-2.new.intervals.entries c.overwrite.new.intervals same c.overwrite.ensures.joined)
    edges
