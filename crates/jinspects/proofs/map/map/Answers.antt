use Rattle.std.proofs.Common.{sym}
use Rattle.jnode.specs.declared.order.Endian.{Endian}
use Rattle.jedge.proofs.Steps.{answered, does_at, then_err, then_ok}
use Rattle.jinspects.specs.Inspecting.{draws, maps}
use Rattle.jinspects.proofs.map.map.Goals as goal

pub returns-in-Err : goal.returns-in-Err
returns-in-Err g c = then_err c.in-Err.ensures

pub returns-in-Ok-survey_of : goal.returns-in-Ok-survey_of
returns-in-Ok-survey_of g c =
    let size = c.args.options.geometry.block in
    does_at (λ (e : Endian). maps e size c.args.svg c.args.image.now) (sym c.requires)
    (then_ok c.in-Ok.ensures
    (does_at (draws g.E.Order.order size c.args.svg) c.as_slice-bytes.ensures.value
    (then_ok (answered c.others_if_none-others.ensures)
    (then_ok (answered c.in-Ok-survey_of.ensures.survey) c.print_survey.ensures))))

pub returns : goal.returns
returns g c =
    let size = c.args.options.geometry.block in
    does_at (λ (e : Endian). maps e size c.args.svg c.args.image.now) (sym c.requires)
    (then_ok c.in-Ok.ensures
    (does_at (draws g.E.Order.order size c.args.svg) c.as_slice-bytes.ensures.value
    (then_ok (answered c.others_if_none-others.ensures)
    (then_err (answered c.in-Err-survey_of.ensures.survey)))))
