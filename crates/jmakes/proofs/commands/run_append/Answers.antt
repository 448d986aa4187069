use Rattle.jcommand.specs.Parsed.{target_view}
use Rattle.jedge.proofs.Steps.{does_at, then_reported}
use Rattle.jmakes.specs.Commands.{append_act}
use Rattle.jmakes.specs.Keeping.{AskedBase}
use Rattle.jmakes.specs.Writing.{image_asked}
use Rattle.jmakes.proofs.commands.run_append.Goals as goal

pub returns : goal.returns
returns g c =
    let asked = c.args.asked in
    then_reported
    (does_at (λ (base : AskedBase). append_act (image_asked g.E.Order.order (target_view asked.target)) base asked.listing.now)
    c.base_of.ensures c.append-answer.ensures)
    c.report_written.ensures
