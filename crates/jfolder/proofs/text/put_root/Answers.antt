use Rattle.jfolder.specs.Text.{attr_words, time_words}
use Rattle.jfolder.proofs.PutLemmas.{lines_first_failed, lines_then_put}
use Rattle.jfolder.proofs.text.put_root.Goals as goal

pub returns-in_err-put_time : goal.returns-in_err-put_time
returns-in_err-put_time g c =
    let put = c.in_err-put_time.ensures in
    lines_first_failed _ _ _ _ (time_words 0 c.args.root.now.time)
    (attr_words c.args.root.now) _ c.from_residual.ensures.0 put.0 put.1

pub returns : goal.returns
returns g c =
    let put = c.in_ok-put_time.ensures in
    lines_then_put _ (g.T.Sink.taken c.put_time.new.sink) _ _ _ _ (time_words 0 c.args.root.now.time)
    (attr_words c.args.root.now) _ put.0 put.1 c.put_attr.ensures
