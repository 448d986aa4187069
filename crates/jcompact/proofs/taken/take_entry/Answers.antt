use Rattle.std.proofs.Common.{◌≡◌, Bool, refl, ap, ◌∙◌}
use Rattle.std.specs.Prelude.{◌&&◌}
use Rattle.jcompact.specs.Taking.{reached_by, stands}
use Rattle.jcompact.proofs.TakenLemmas.{takes_entry}
use Rattle.jcompact.proofs.taken.take_entry.Goals as goal

pub returns : goal.returns
returns c =
    let s = c.args.tree.mounted.now.state in
    let reached = reached_by s c.args.tree.unreached.now in
    let entry = c.args.entry.now in
    takes_entry s reached c.args.addr entry c.args.taken.now _ (entry.pino, c.in_ok-name.name) c.counts_entry-also.result refl c.in_ok-name.ensures refl refl c.in_ok-newest.ensures.updates.0
    c.in_ok-keep_if.ensures (c.counts_entry-also.ensures ∙ ap (λ (b : Bool). b && stands s reached entry) c.in_ok-newest.ensures.added)
