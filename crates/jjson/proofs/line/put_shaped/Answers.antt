use Rattle.std.proofs.Common.{◌≡◌, ◌<◌, ℕ, List, [], ◌∷◌, ◌++◌, ◌∙◌, length, subst, codes, arith}
use Rattle.std.proofs.lemmas.Grind.{common_steps}
use Rattle.flashbase.specs.Device.{Puts}
use Rattle.flashbase.proofs.DeviceLemmas.{first_failed, then_puts}
use Rattle.jjson.specs.Shapes.{members, shaped_line}
use Rattle.jjson.specs.Words.{words_of}
use Rattle.jjson.proofs.PutLemmas.{three_texts}
use Rattle.jjson.proofs.ShapeLemmas.{shaped_with_name}
use Rattle.jjson.proofs.line.put_shaped.Goals as goal

abbrev start : List ℕ
start = codes "{\"line\":\""

abbrev quote : List ℕ
quote = 34 ∷ []

abbrev end : List ℕ
end = codes "}\n"

-- the texts of the line, as they go out
line_is : (kind parts line : List ℕ) → 0 < length kind → (start ++ (kind ++ (quote ++ []))) ++ (members (words_of parts) (words_of line) ++ end) ≡ shaped_line (kind, parts) line
line_is kind parts line some =
    three_texts start kind quote (members (words_of parts) (words_of line) ++ end) ∙ shaped_with_name kind parts line some

pub returns-in_err-put_texts-clause-puts : goal.returns-in_err-put_texts-clause-puts
returns-in_err-put_texts-clause-puts g c =
    let kind = c.args.shape.0.now in
    let parts = c.args.shape.1.now in
    let line = c.args.line.now in
    let some : 0 < length kind = grind (arith, common_steps, c.is_empty.ensures, c.if-is_empty.false) in
    let put = c.in_err-put_texts.ensures in
    subst (λ (l : List ℕ). Puts (g.T.Sink.taken c.args.sink.now) (g.T.Sink.taken c.put_texts.new.sink) (g.T.Sink.failures c.args.sink.now)
    (g.T.Sink.failures c.put_texts.new.sink) l c.from_residual.result) (line_is kind parts line some)
    (first_failed _ _ _ _ (start ++ (kind ++ (quote ++ []))) (members (words_of parts) (words_of line) ++ end) _ c.from_residual.ensures.0 put.0 put.1)

pub returns-in_err-put_members-clause-puts : goal.returns-in_err-put_members-clause-puts
returns-in_err-put_members-clause-puts g c =
    let kind = c.args.shape.0.now in
    let parts = c.args.shape.1.now in
    let line = c.args.line.now in
    let some : 0 < length kind = grind (arith, common_steps, c.is_empty.ensures, c.if-is_empty.false) in
    let text = c.in_ok-put_texts.ensures in
    let put = c.in_err-put_members.ensures.puts in
    subst (λ (l : List ℕ). Puts (g.T.Sink.taken c.args.sink.now) (g.T.Sink.taken c.put_members.new.sink) (g.T.Sink.failures c.args.sink.now)
    (g.T.Sink.failures c.put_members.new.sink) l c.from_residual-in_err-put_members.result) (line_is kind parts line some)
    (then_puts _ (g.T.Sink.taken c.put_texts.new.sink) _ _ _ _ (start ++ (kind ++ (quote ++ []))) (members (words_of parts) (words_of line) ++ end) _ text.0 text.1
    (first_failed _ _ _ _ (members (words_of parts) (words_of line)) end _ c.from_residual-in_err-put_members.ensures.0 put.0 put.1))

pub returns-clause-puts : goal.returns-clause-puts
returns-clause-puts g c =
    let kind = c.args.shape.0.now in
    let parts = c.args.shape.1.now in
    let line = c.args.line.now in
    let some : 0 < length kind = grind (arith, common_steps, c.is_empty.ensures, c.if-is_empty.false) in
    let text = c.in_ok-put_texts.ensures in
    let put = c.in_ok-put_members.ensures.puts in
    subst (λ (l : List ℕ). Puts (g.T.Sink.taken c.args.sink.now) (g.T.Sink.taken c.put_text.new.sink) (g.T.Sink.failures c.args.sink.now)
    (g.T.Sink.failures c.put_text.new.sink) l c.put_text.result) (line_is kind parts line some)
    (then_puts _ (g.T.Sink.taken c.put_texts.new.sink) _ _ _ _ (start ++ (kind ++ (quote ++ []))) (members (words_of parts) (words_of line) ++ end) _ text.0 text.1
    (then_puts _ (g.T.Sink.taken c.put_members.new.sink) _ _ _ _ (members (words_of parts) (words_of line)) end _ put.0 put.1 c.put_text.ensures.puts))
