use Rattle.std.proofs.Common.{ℕ, List, [], ◌∷◌, ◌++◌, subst}
use Rattle.flashbase.specs.Device.{Puts}
use Rattle.flashbase.proofs.DeviceLemmas.{first_failed, then_puts}
use Rattle.jjson.specs.Json.{string_of}
use Rattle.jjson.proofs.PutLemmas.{three_texts}
use Rattle.jjson.proofs.members.put_string_member.Goals as goal

pub returns-in_err-put_texts : goal.returns-in_err-put_texts
returns-in_err-put_texts g c =
    let name = c.args.name.now in
    let end = c.args.end.now in
    let string = string_of c.args.way c.args.bytes.now in
    let put = c.in_err-put_texts.ensures in
    subst (λ (l : List ℕ). Puts (g.T.Sink.taken c.args.sink.now) (g.T.Sink.taken c.put_texts.new.sink) (g.T.Sink.failures c.args.sink.now)
    (g.T.Sink.failures c.put_texts.new.sink) l c.from_residual.result) (three_texts (44 ∷ 34 ∷ []) name end string)
    (first_failed _ _ _ _ (44 ∷ 34 ∷ (name ++ (end ++ []))) string _ c.from_residual.ensures.0 put.0 put.1)

pub returns : goal.returns
returns g c =
    let name = c.args.name.now in
    let end = c.args.end.now in
    let string = string_of c.args.way c.args.bytes.now in
    let put = c.in_ok-put_texts.ensures in
    subst (λ (l : List ℕ). Puts (g.T.Sink.taken c.args.sink.now) (g.T.Sink.taken c.put_string.new.sink) (g.T.Sink.failures c.args.sink.now)
    (g.T.Sink.failures c.put_string.new.sink) l c.put_string.result) (three_texts (44 ∷ 34 ∷ []) name end string)
    (then_puts _ (g.T.Sink.taken c.put_texts.new.sink) _ _ _ _ (44 ∷ 34 ∷ (name ++ (end ++ []))) string _ put.0 put.1 c.put_string.ensures)
