use Rattle.std.proofs.Common.{[], ◌∷◌, ◌++◌, map}
use Rattle.std.specs.Prelude.{codes}
use Rattle.flashbase.proofs.DeviceLemmas.{part_before}
use Rattle.jextract.specs.Outcomes.{line_of_left_out, left_out_reason}
use Rattle.jline.specs.Paths.{path_shown}
use Rattle.flashbase.proofs.DeviceLemmas.{first_failed, then_failed, then_puts}
use Rattle.jextract.proofs.notes.tell.Goals as goal

pub returns-in_err-put_text : goal.returns-in_err-put_text
unfolding line_of_left_out
returns-in_err-put_text g c =
    let put = c.in_err-put_text.ensures.puts in
    let path = path_shown (map (λ name. name.now) c.args.path.now) in
    first_failed _ _ _ _ (codes "left out ") (path ++ (codes ": " ++ (left_out_reason c.args.reason ++ 10 ∷ []))) _ c.from_residual.ensures.0 put.0 put.1

pub returns-in_err-put_path : goal.returns-in_err-put_path
unfolding line_of_left_out
returns-in_err-put_path g c =
    let put = c.in_ok-put_text.ensures.puts in
    let next = c.in_err-put_path.ensures in
    let path = path_shown (map (λ name. name.now) c.args.path.now) in
    then_failed _ (g.T.Sink.taken c.put_text.new.sink) _ _ _ _ (codes "left out ") (path ++ (codes ": " ++ (left_out_reason c.args.reason ++ 10 ∷ []))) _
    c.from_residual-in_err-put_path.ensures.0 put.0 put.1 (part_before _ _ path (codes ": " ++ (left_out_reason c.args.reason ++ 10 ∷ [])) next.0) next.1

pub returns : goal.returns
unfolding line_of_left_out
returns g c =
    let put = c.in_ok-put_text.ensures.puts in
    let next = c.in_ok-put_path.ensures in
    let path = path_shown (map (λ name. name.now) c.args.path.now) in
    then_puts _ (g.T.Sink.taken c.put_text.new.sink) _ _ _ _ (codes "left out ") (path ++ (codes ": " ++ (left_out_reason c.args.reason ++ 10 ∷ []))) _ put.0 put.1
    (then_puts _ (g.T.Sink.taken c.put_path.new.sink) _ _ _ _ path (codes ": " ++ (left_out_reason c.args.reason ++ 10 ∷ [])) _ next.0 next.1 c.put_reason.ensures)
