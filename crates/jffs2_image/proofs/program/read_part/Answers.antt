use Rattle.std.proofs.Common.{None, Option, refl, sym}
use Rattle.clap.specs.Words.{Text}
use Rattle.jcommand.specs.Parsed.{command_view}
use Rattle.jcommand.specs.Requests.{request_view}
use Rattle.jspare.specs.declared.region.Region.{Region}
use Rattle.jedge.proofs.Steps.{answered, does_at}
use Rattle.jffs2_image.specs.Running.{image_left, region_act}
use Rattle.jffs2_image.proofs.program.read_part.Goals as goal

pub returns-in-Some : goal.returns-in-Some
returns-in-Some g c =
    let asked = command_view c.args.request.now.command in
    let looked = image_left (request_view c.args.request.now) in
    does_at (λ (region : Option Region). region_act region looked asked) (sym c.in-Some.is) c.read_given.ensures

pub returns-in-Some-image_left : goal.returns-in-Some-image_left
returns-in-Some-image_left g c =
    let asked = command_view c.args.request.now.command in
    let looked = image_left (request_view c.args.request.now) in
    does_at (λ (region : Option Region). region_act region looked asked) (sym c.in-None.is)
    (does_at (λ (image : Option Text). region_act None image asked) c.in-Some-image_left.ensures c.leave_found.ensures)

pub returns-in-None-image_left : goal.returns-in-None-image_left
returns-in-None-image_left g c =
    let asked = command_view c.args.request.now.command in
    let looked = image_left (request_view c.args.request.now) in
    does_at (λ (region : Option Region). region_act region looked asked) (sym c.in-None.is)
    (does_at (λ (image : Option Text). region_act None image asked) c.in-None-image_left.ensures (answered refl))
