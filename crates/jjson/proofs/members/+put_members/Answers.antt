use Rattle.std.proofs.Common.{ℕ, List, ap₂, sym, subst}
use Rattle.flashbase.specs.Device.{Puts}
use Rattle.flashbase.proofs.DeviceLemmas.{first_failed, then_puts}
use Rattle.jjson.specs.Shapes.{part_gives, members}
use Rattle.jjson.specs.Words.{words_of}
use Rattle.jjson.proofs.members.+put_members.Goals as goal

pub returns-in_err-put_given-clause-puts : goal.returns-in_err-put_given-clause-puts
returns-in_err-put_given-clause-puts g t c =
    let part = c.in-Some.part.now in
    let word = c.in-Some-next_word.word.now in
    let rest = members (words_of c.in-Some.parts.now) (words_of c.in-Some-next_word.line.now) in
    let put = c.in_err-put_given.ensures.puts in
    subst (λ (l : List ℕ). Puts (g.T.Sink.taken c.args.sink.now) (g.T.Sink.taken c.put_given.new.sink) (g.T.Sink.failures c.args.sink.now)
    (g.T.Sink.failures c.put_given.new.sink) l c.from_residual.result) (sym (ap₂ members c.in-Some.ensures.some c.in-Some-next_word.ensures.some))
    (first_failed _ _ _ _ (part_gives part word) rest _ c.from_residual.ensures.0 put.0 put.1)

pub returns-clause-puts : goal.returns-clause-puts
returns-clause-puts g t c =
    let part = c.in-Some.part.now in
    let word = c.in-Some-next_word.word.now in
    let rest = members (words_of c.in-Some.parts.now) (words_of c.in-Some-next_word.line.now) in
    let put = c.in_ok-put_given.ensures.puts in
    subst (λ (l : List ℕ). Puts (g.T.Sink.taken c.args.sink.now) (g.T.Sink.taken c.put_members.new.sink) (g.T.Sink.failures c.args.sink.now)
    (g.T.Sink.failures c.put_members.new.sink) l c.put_members.result) (sym (ap₂ members c.in-Some.ensures.some c.in-Some-next_word.ensures.some))
    (then_puts _ (g.T.Sink.taken c.put_given.new.sink) _ _ _ _ (part_gives part word) rest _ put.0 put.1 c.put_members.ensures.puts)
