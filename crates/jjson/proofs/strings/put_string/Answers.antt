use Rattle.std.proofs.Common.{[], ◌∷◌, ◌++◌}
use Rattle.flashbase.proofs.DeviceLemmas.{first_failed, then_puts}
use Rattle.jjson.specs.Json.{string_spelled}
use Rattle.jjson.proofs.strings.put_string.Goals as goal

pub returns-in_err-put_text : goal.returns-in_err-put_text
returns-in_err-put_text g c =
    let put = c.in_err-put_text.ensures.puts in
    first_failed _ _ _ _ (34 ∷ []) (string_spelled c.args.way c.args.bytes.now ++ 34 ∷ []) _ c.from_residual.ensures.0 put.0 put.1

pub returns-in_err-put_spelled : goal.returns-in_err-put_spelled
returns-in_err-put_spelled g c =
    let text = c.in_ok-put_text.ensures.puts in
    let put = c.in_err-put_spelled.ensures in
    then_puts _ (g.T.Sink.taken c.put_text.new.sink) _ _ _ _ (34 ∷ []) (string_spelled c.args.way c.args.bytes.now ++ 34 ∷ []) _ text.0 text.1
    (first_failed _ _ _ _ (string_spelled c.args.way c.args.bytes.now) (34 ∷ []) _ c.from_residual-in_err-put_spelled.ensures.0 put.0 put.1)

pub returns : goal.returns
returns g c =
    let text = c.in_ok-put_text.ensures.puts in
    let put = c.in_ok-put_spelled.ensures in
    then_puts _ (g.T.Sink.taken c.put_text.new.sink) _ _ _ _ (34 ∷ []) (string_spelled c.args.way c.args.bytes.now ++ 34 ∷ []) _ text.0 text.1
    (then_puts _ (g.T.Sink.taken c.put_spelled.new.sink) _ _ _ _ (string_spelled c.args.way c.args.bytes.now) (34 ∷ []) _ put.0 put.1 c.put_text-2.ensures.puts)
