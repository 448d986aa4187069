use Rattle.std.proofs.Common.{[], if◌then◌else◌}
use Rattle.jfolder.specs.Text.{is_link, owner_words, time_words}
use Rattle.jfolder.proofs.PutLemmas.{lines_first_failed, lines_then_put}
use Rattle.jfolder.proofs.text.put_settings.Goals as goal

pub returns-in_err-put_time : goal.returns-in_err-put_time
returns-in_err-put_time g c =
    let put = c.in_err-put_time.ensures in
    lines_first_failed _ _ _ _ (time_words c.args.before.time c.args.item.now.attributes.time)
    (if is_link c.args.item.now.what then [] else owner_words c.args.before c.args.item.now.attributes) _ c.from_residual.ensures.0 put.0 put.1

pub returns : goal.returns
returns g c =
    let put = c.in_ok-put_time.ensures in
    lines_then_put _ (g.T.Sink.taken c.put_time.new.sink) _ _ _ _ (time_words c.args.before.time c.args.item.now.attributes.time)
    (if is_link c.args.item.now.what then [] else owner_words c.args.before c.args.item.now.attributes) _ put.0 put.1 c.put_own_owner.ensures
