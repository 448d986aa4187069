use Rattle.std.proofs.Common.{◌++◌}
use Rattle.std.specs.Prelude.{codes}
use Rattle.flashbase.proofs.DeviceLemmas.{part_before, first_failed, then_puts, then_failed}
use Rattle.jline.specs.Words.{in_line}
use Rattle.jreport.proofs.advice.put_note.Goals as goal

pub returns-in_err-put_text : goal.returns-in_err-put_text
returns-in_err-put_text g c =
    let put = c.in_err-put_text.ensures.puts in
    first_failed _ _ _ _ (codes "jffs2_image: note: ") (in_line c.args.name.now ++ c.args.rest.now) _ c.from_residual.ensures.0 put.0 put.1

pub returns-in_err-put_in_line : goal.returns-in_err-put_in_line
returns-in_err-put_in_line g c =
    let text = in_line c.args.name.now in
    let rest = c.args.rest.now in
    let put = c.in_ok-put_text.ensures.puts in
    let next = c.in_err-put_in_line.ensures in
    then_failed _ (g.T.Sink.taken c.put_text.new.sink) _ _ _ _ (codes "jffs2_image: note: ") (text ++ rest) _ c.from_residual-in_err-put_in_line.ensures.0 put.0 put.1
    (part_before _ _ text rest next.0) next.1

pub returns : goal.returns
returns g c =
    let text = in_line c.args.name.now in
    let rest = c.args.rest.now in
    let put = c.in_ok-put_text.ensures.puts in
    let next = c.in_ok-put_in_line.ensures in
    then_puts _ (g.T.Sink.taken c.put_text.new.sink) _ _ _ _ (codes "jffs2_image: note: ") (text ++ rest) _ put.0 put.1
    (then_puts _ (g.T.Sink.taken c.put_in_line.new.sink) _ _ _ _ text rest _ next.0 next.1 c.put_text-2.ensures.puts)
