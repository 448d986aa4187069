use Rattle.std.proofs.Common.{List, ℕ, ◌++◌, codes}
use Rattle.flashbase.proofs.DeviceLemmas.{first_failed, then_puts}
use Rattle.jjson.specs.Json.{text_member}
use Rattle.jjson.proofs.line.put_unshaped.Goals as goal

abbrev start : List ℕ
start = codes "{\"line\":\"text\""

abbrev end : List ℕ
end = codes "}\n"

pub returns-in_err-put_text : goal.returns-in_err-put_text
returns-in_err-put_text g c =
    let put = c.in_err-put_text.ensures.puts in
    first_failed _ _ _ _ start (text_member (codes "text") c.args.line.now ++ end) _ c.from_residual.ensures.0 put.0 put.1

pub returns-in_err-put_text_member : goal.returns-in_err-put_text_member
returns-in_err-put_text_member g c =
    let text = c.in_ok-put_text.ensures.puts in
    let put = c.in_err-put_text_member.ensures in
    then_puts _ (g.T.Sink.taken c.put_text.new.sink) _ _ _ _ start (text_member (codes "text") c.args.line.now ++ end) _ text.0 text.1
    (first_failed _ _ _ _ (text_member (codes "text") c.args.line.now) end _ c.from_residual-in_err-put_text_member.ensures.0 put.0 put.1)

pub returns : goal.returns
returns g c =
    let text = c.in_ok-put_text.ensures.puts in
    let put = c.in_ok-put_text_member.ensures in
    then_puts _ (g.T.Sink.taken c.put_text.new.sink) _ _ _ _ start (text_member (codes "text") c.args.line.now ++ end) _ text.0 text.1
    (then_puts _ (g.T.Sink.taken c.put_text_member.new.sink) _ _ _ _ (text_member (codes "text") c.args.line.now) end _ put.0 put.1 c.put_text-2.ensures.puts)
