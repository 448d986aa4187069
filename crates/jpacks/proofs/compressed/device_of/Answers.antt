use Rattle.std.proofs.Common.{◌≡◌, ◌∙◌, ap}
use Rattle.jnode.specs.declared.order.Endian.TheVariants.{Little}
use Rattle.jmakes.specs.Writing.{ImageWanted}
use Rattle.jupdates.specs.Asked.{device_packed}
use Rattle.jpacks.proofs.compressed.device_of.Goals as goal

pub returns : goal.returns
returns c = c.device_packed.ensures ∙ ap (λ (wanted : ImageWanted). device_packed wanted.flash wanted.file) (c.image_of-image.ensures Little)
