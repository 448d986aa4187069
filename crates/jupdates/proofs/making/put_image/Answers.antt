use Rattle.std.proofs.Common.{◌∙◌, ap, refl, take}
use Rattle.flashbase.specs.Device.{next_count}
use Rattle.jdevice.specs.Run.{device_done, device_image}
use Rattle.jupdates.proofs.making.put_image.Goals as goal

pub returns-in-Ok : goal.returns-in-Ok
returns-in-Ok g c = (
  device_image c.args.on c.args.image.now (device_done c.args.run.now),
  c.in-Ok.ensures.0,
  (refl, c.in-Ok.ensures.1 ∙ c.requires.sound),
)

pub returns-in-Err : goal.returns-in-Err
returns-in-Err g c = (
  take c.in-Err.ensures.0.0 (device_image c.args.on c.args.image.now (device_done c.args.run.now)),
  c.in-Err.ensures.0.1,
  ((c.in-Err.ensures.0.0, refl), c.in-Err.ensures.1 ∙ ap next_count c.requires.sound),
)
