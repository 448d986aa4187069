use Rattle.std.specs.String.{string_bytes}
use Rattle.jfolder.specs.Text.{object_words, setting_words}
use Rattle.jfolder.proofs.PutLemmas.{lines_first_failed, lines_then_put}
use Rattle.jfolder.proofs.text.put_item.Goals as goal

pub returns-in_err-put_settings : goal.returns-in_err-put_settings
returns-in_err-put_settings g c =
    let put = c.in_err-put_settings.ensures in
    lines_first_failed _ _ _ _ (setting_words c.args.before c.args.item.now)
    (object_words (string_bytes c.args.item.now.path) c.args.item.now.attributes c.args.item.now.what) _ c.from_residual.ensures.0 put.0 put.1

pub returns : goal.returns
returns g c =
    let put = c.in_ok-put_settings.ensures in
    lines_then_put _ (g.T.Sink.taken c.put_settings.new.sink) _ _ _ _ (setting_words c.args.before c.args.item.now)
    (object_words (string_bytes c.args.item.now.path) c.args.item.now.attributes c.args.item.now.what) _ put.0 put.1 c.put_object.ensures
