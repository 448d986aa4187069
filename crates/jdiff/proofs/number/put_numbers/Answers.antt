use Rattle.std.proofs.Common.{ℕ, List, ◌++◌, ◌∙◌, map, subst, codes}
use Rattle.flashbase.specs.Device.{Puts}
use Rattle.flashbase.proofs.DeviceLemmas.{part_before, first_failed, then_puts, then_failed}
use Rattle.jline.specs.Paths.{path_shown}
use Rattle.jdiff.specs.Changes.{numbers_shown}
use Rattle.jdiff.proofs.number.put_numbers.Goals as goal

pub returns-in_err-put_text : goal.returns-in_err-put_text
returns-in_err-put_text g c =
    let path = path_shown (map (λ name. name.now) c.args.path.now) in
    let put = c.in_err-put_text.ensures.puts in
    first_failed _ _ _ _ (codes "* ") (path ++ numbers_shown c.args.left c.args.right) _ c.from_residual.ensures.0 put.0 put.1

pub returns-in_err-put_path : goal.returns-in_err-put_path
returns-in_err-put_path g c =
    let path = path_shown (map (λ name. name.now) c.args.path.now) in
    let put = c.in_ok-put_text.ensures.puts in
    let next = c.in_err-put_path.ensures in
    then_failed _ (g.T.Sink.taken c.put_text.new.sink) _ _ _ _ (codes "* ") (path ++ numbers_shown c.args.left c.args.right) _ c.from_residual-in_err-put_path.ensures.0 put.0 put.1
    (part_before _ _ path (numbers_shown c.args.left c.args.right) next.0) next.1

pub returns : goal.returns
returns g c =
    let path = path_shown (map (λ name. name.now) c.args.path.now) in
    let line = c.as_slice.ensures ∙ c.write_numbers.ensures in
    let put = c.in_ok-put_text.ensures.puts in
    let next = c.in_ok-put_path.ensures in
    then_puts _ (g.T.Sink.taken c.put_text.new.sink) _ _ _ _ (codes "* ") (path ++ numbers_shown c.args.left c.args.right) _ put.0 put.1
    (then_puts _ (g.T.Sink.taken c.put_path.new.sink) _ _ _ _ path (numbers_shown c.args.left c.args.right) _ next.0 next.1
    (subst (λ (l : List ℕ). Puts (g.T.Sink.taken c.put_path.new.sink) (g.T.Sink.taken c.put_text-2.new.sink) (g.T.Sink.failures c.put_path.new.sink) (g.T.Sink.failures c.put_text-2.new.sink) l c.put_text-2.result)
    line c.put_text-2.ensures.puts))
