use Rattle.std.proofs.Common.{◌≡◌, ◌∙◌, ap, sym, subst, true, Some}
use Rattle.std.specs.Ordering.{nat_cmp}
use Rattle.std.specs.BTreeMap.{Updates}
use Rattle.jfrag.specs.declared.piece.Piece.{Piece}
use Rattle.jfrag.specs.IntervalMap.{is_under, interval_at}
use Rattle.jfrag.proofs.IntervalMapChanges.{end_is_key, step_by_put, step_by_remove}
use Rattle.jfrag.proofs.interval_map.overwrite_step.Goals as goal

pub returns-then-joined-clause-overwritten : goal.returns-then-joined-clause-overwritten
returns-then-joined-clause-overwritten c =
    let under : is_under c.args.piece.now.version (interval_at c.args.intervals.now.entries c.args.at) ≡ true = ap (is_under c.args.piece.now.version) (sym c.interval_at.ensures.interval) ∙ sym c.is_under-won.ensures ∙ c.if-won.true in
    let joined = c.requires.joined c.if-joined.true in
    step_by_remove c.args.intervals.now c.remove.new.self c.next_key-next.ensures.ordered c.remove.ensures.ordered c.args.at c.next_key-next.result (Some c.args.piece.now) c.is_under-won.result c.if-won.true c.remove.ensures.updates joined.0 joined.1
    (end_is_key c.args.intervals.now c.next_key-next.ensures.ordered c.args.piece.now.version c.args.at c.next_key-next.result c.args.end c.next_key-next.ensures.after c.next_key-next.ensures.within c.next_key-next.ensures.none_between under c.requires.stop c.next_key-next.ensures.key)
    c.next_key-next.ensures.after c.next_key-next.ensures.none_between

pub returns-else-joined-clause-overwritten : goal.returns-else-joined-clause-overwritten
returns-else-joined-clause-overwritten c =
    let under : is_under c.args.piece.now.version (interval_at c.args.intervals.now.entries c.args.at) ≡ true = ap (is_under c.args.piece.now.version) (sym c.interval_at.ensures.interval) ∙ sym c.is_under-won.ensures ∙ c.if-won.true in
    step_by_put c.args.intervals.now c.put.new.intervals c.next_key-next.ensures.ordered c.put.ensures.ordered c.args.at c.next_key-next.result (Some c.args.piece.now) c.is_under-won.result c.if-won.true
    (subst (λ (p : Piece). Updates nat_cmp c.args.intervals.now c.put.new.intervals c.args.at (Some (Some p))) c.copied.ensures c.put.ensures.updates)
    (end_is_key c.args.intervals.now c.next_key-next.ensures.ordered c.args.piece.now.version c.args.at c.next_key-next.result c.args.end c.next_key-next.ensures.after c.next_key-next.ensures.within c.next_key-next.ensures.none_between under c.requires.stop c.next_key-next.ensures.key)
    c.next_key-next.ensures.after c.next_key-next.ensures.none_between
