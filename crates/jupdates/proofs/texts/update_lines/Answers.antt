use Rattle.jedge.specs.Told.{Told}
use Rattle.jedge.proofs.Steps.{answered, does_at, then_err, then_ok}
use Rattle.jmakes.specs.Seen.{numbered_seen}
use Rattle.jupdates.specs.Asked.{device_to_write}
use Rattle.jupdates.specs.Updating.{updates_mounted}
use Rattle.jupdates.proofs.texts.update_lines.Goals as goal

pub returns-in-Err : goal.returns-in-Err
returns-in-Err g c = then_err (answered c.in-Err.ensures)

pub update_mounted-requires : goal.update_mounted-requires
update_mounted-requires g c = c.in-Ok-mounted_as.ensures.1

pub returns-in-Ok-mounted_as : goal.returns-in-Ok-mounted_as
returns-in-Ok-mounted_as g c =
    let m = c.in-Ok-mounted_as.mounted in
    let of = numbered_seen c.in-Ok.of in
    then_ok (answered c.in-Ok.ensures) (then_ok (answered c.others_if_none-others.ensures) (then_ok (answered c.in-Ok-mounted_as.ensures)
    c.update_mounted.ensures))

pub returns : goal.returns
returns g c =
    then_ok (answered c.in-Ok.ensures) (then_ok (answered c.others_if_none-others.ensures) (then_err (answered c.in-Err-mounted_as.ensures)))
