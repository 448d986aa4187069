use Rattle.std.proofs.Common.{◌++◌, map}
use Rattle.flashbase.proofs.DeviceLemmas.{first_failed, then_puts}
use Rattle.jline.specs.Paths.{path_shown}
use Rattle.jdamage.proofs.lines.put_path_between.Goals as goal

pub returns-in_err-put_text : goal.returns-in_err-put_text
returns-in_err-put_text g c =
    let put = c.in_err-put_text.ensures.puts in
    first_failed _ _ _ _ c.args.start.now (path_shown (map (λ name. name.now) c.args.path.now) ++ c.args.end.now) _ c.from_residual.ensures.0 put.0 put.1

pub returns-in_err-put_path : goal.returns-in_err-put_path
returns-in_err-put_path g c =
    let text = c.in_ok-put_text.ensures.puts in
    let put = c.in_err-put_path.ensures in
    then_puts _ (g.T.Sink.taken c.put_text.new.sink) _ _ _ _ c.args.start.now (path_shown (map (λ name. name.now) c.args.path.now) ++ c.args.end.now) _ text.0 text.1
    (first_failed _ _ _ _ (path_shown (map (λ name. name.now) c.args.path.now)) c.args.end.now _ c.from_residual-in_err-put_path.ensures.0 put.0 put.1)

pub returns : goal.returns
returns g c =
    let text = c.in_ok-put_text.ensures.puts in
    let put = c.in_ok-put_path.ensures in
    then_puts _ (g.T.Sink.taken c.put_text.new.sink) _ _ _ _ c.args.start.now (path_shown (map (λ name. name.now) c.args.path.now) ++ c.args.end.now) _ text.0 text.1
    (then_puts _ (g.T.Sink.taken c.put_path.new.sink) _ _ _ _ (path_shown (map (λ name. name.now) c.args.path.now)) c.args.end.now _ put.0 put.1 c.put_text-2.ensures.puts)
