use Rattle.std.proofs.Common.{ℕ, List, subst}
use Rattle.flashbase.specs.Device.{PutsPart}
use Rattle.jjson.specs.Texts.{json_line}
use Rattle.jjson.proofs.PutLemmas.{on_err}
use Rattle.jjson.proofs.sink.end_line.Goals as goal

pub returns-in_err-put_line-clause-part : goal.returns-in_err-put_line-clause-part
returns-in_err-put_line-clause-part g c =
    let part = c.in_err-put_line.ensures.puts in
    on_err _ _ (subst (λ (l : List ℕ). PutsPart (g.S.Sink.taken c.args.below.now) (g.S.Sink.taken c.put_line.new.sink) (json_line c.args.lines l)) c.as_slice.ensures.value part.0)
