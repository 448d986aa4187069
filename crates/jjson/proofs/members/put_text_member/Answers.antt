use Rattle.std.proofs.Common.{ℕ, List, subst}
use Rattle.flashbase.specs.Device.{Puts}
use Rattle.jjson.proofs.JsonLemmas.{member_of_text, member_of_bytes}
use Rattle.jjson.proofs.members.put_text_member.Goals as goal

pub returns-in-Ok : goal.returns-in-Ok
returns-in-Ok g c =
    subst (λ (l : List ℕ). Puts (g.T.Sink.taken c.args.sink.now) (g.T.Sink.taken c.put_string_member.new.sink) (g.T.Sink.failures c.args.sink.now)
    (g.T.Sink.failures c.put_string_member.new.sink) l c.put_string_member.result) (member_of_text c.args.name.now c.args.bytes.now c.in-Ok.ensures.cases.1)
    c.put_string_member.ensures

pub returns-in-Err : goal.returns-in-Err
returns-in-Err g c =
    subst (λ (l : List ℕ). Puts (g.T.Sink.taken c.args.sink.now) (g.T.Sink.taken c.put_string_member-in-Err.new.sink) (g.T.Sink.failures c.args.sink.now)
    (g.T.Sink.failures c.put_string_member-in-Err.new.sink) l c.put_string_member-in-Err.result) (member_of_bytes c.args.name.now c.args.bytes.now c.in-Err.ensures.cases.0)
    c.put_string_member-in-Err.ensures
